use Rattle.std.proofs.Common.{rules}
use Rattle.std.proofs.lemmas.List.Sorted.{answers_always}
use Rattle.space_map.proofs.Places.{searched}
use Rattle.space_map.proofs.space.Space.search.Goals as goal

-- the closure gives an entry's page, and the slice is the space's entries
pub returns : goal.returns
returns c =
    let facts = c.binary_search_by_key.ensures in
    let by_key = facts.position (λ e. e.0)
    (answers_always _ _ _ (λ f a r g called. search rules)) in
    rw (← c.self.view_is, ← c.deref.ensures.value)
    (searched _ (rw c.deref.ensures.value c.self.invariant.rising) c.args.page _ facts.bound
    by_key)
