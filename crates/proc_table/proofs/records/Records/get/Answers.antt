use Rattle.std.proofs.Common.{◌∙◌, List, sym, ap, length, arith}
use Rattle.dos_world.specs.Numbered.{numbered}
use Rattle.proc_table.specs.declared.record.Record.{Record}
use Rattle.proc_table.proofs.Lengths.{index_of}
use Rattle.proc_table.proofs.Moved.{given_in, kept_given, number_read}
use Rattle.proc_table.proofs.records.Records.get.Goals as goal

pub index-requires : goal.index-requires
index-requires c = index_of c.self.inside.records
    (kept_given c.self.view_is c.args.number c.requires)

pub returns : goal.returns
returns c =
    let given = given_in c.args.self.now c.args.number c.requires in
    ap (λ (rs : List Record). numbered rs c.args.number) (sym c.self.view_is)
    ∙ number_read c.self.inside.records.items c.args.number c.index.result.now given.0
    (omega (arith, given.1, ap (λ (rs : List Record). length rs) c.self.view_is))
    c.index.ensures
