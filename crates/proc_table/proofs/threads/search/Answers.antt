use Rattle.std.proofs.Common.{rules}
use Rattle.std.proofs.lemmas.List.Sorted.{answers_always}
use Rattle.proc_table.proofs.Spread.{searched}
use Rattle.proc_table.proofs.threads.search.Goals as goal

-- the closure gives a thread's number
pub returns : goal.returns
returns c =
    let facts = c.binary_search_by_key.ensures in
    let by_key = facts.position (λ e. e.0)
    (answers_always _ _ _ (λ f a r g called. search rules)) in
    searched _ c.requires c.args.tid _ facts.bound by_key
