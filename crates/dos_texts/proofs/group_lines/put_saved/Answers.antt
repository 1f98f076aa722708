use Rattle.std.proofs.Common.{rules, List, ℕ, ◌≡◌, subst}
use Rattle.std.specs.Prelude.{OnOk}
use Rattle.dos_io.specs.Outside.{grown}
use Rattle.dos_texts.specs.Saved.{saved_line}
use Rattle.dos_texts.proofs.group_lines.put_saved.Goals as goal

pub returns-clause-told : goal.returns-clause-told
returns-clause-told g c =
    let is : c.push_str-3.new.self.bytes ≡ saved_line c.args.round = search rules in
    subst (λ (t : List ℕ). OnOk c.put_line.result
    (g.E.Sink.told c.put_line.new.sink ≡ grown (g.E.Sink.told c.args.err.now) t)) is
    c.put_line.ensures.told
