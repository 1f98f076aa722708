use Rattle.std.proofs.Common.{rules, vec_len, ◌≡◌, ◌∙◌, length, arith}
use Rattle.space_map.proofs.PutRun.{run_entries, length-run, long-enough, turned}
use Rattle.space_map.proofs.space.insert_run.Goals as goal

pub rotate_right-requires : goal.rotate_right-requires
rotate_right-requires c = long-enough c.args.entries.now.items
    (run_entries c.args.page c.args.count c.args.entry) c.deref_mut.result.now c.args.place
    c.args.count (c.deref_mut.ensures.value ∙ c.push_run.ensures.items) c.requires.place
    (length-run c.args.page c.args.count c.args.entry)

pub returns-clause-items : goal.returns-clause-items
returns-clause-items c =
    let count : vec_len c.push_run.new.entries ≡ length c.push_run.new.entries.items =
    search rules in
    turned c.args.entries.now.items
    (run_entries c.args.page c.args.count c.args.entry) c.deref_mut.result.now c.args.place
    c.args.count (c.deref_mut.ensures.value ∙ c.push_run.ensures.items) c.requires.place
    (length-run c.args.page c.args.count c.args.entry) c.rotate_right.new.self
    c.push_run.new.entries.items c.push_run.new.entries.len c.rotate_right.ensures.after
    (omega (arith, c.deref_mut.ensures.len, count))
