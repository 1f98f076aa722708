use Rattle.std.proofs.Common.{◌≡◌, ℕ, Bool, List, None, ap, sym, subst, ◌∙◌}
use Rattle.std.proofs.Common.{w32}
use Rattle.std.proofs.Math.Facts.{Fits-of_lt}
use Rattle.std.specs.Prelude.{position}
use Rattle.hierarchical_bitmap.specs.Levels.{is_set, itself, IsLowest}
use Rattle.hierarchical_bitmap.proofs.Summaries.{few-lowest, first-none, first-word, lengths-few}
use Rattle.hierarchical_bitmap.proofs.Summaries.{lowest-none, lowest-place, next-word}
use Rattle.hierarchical_bitmap.proofs.bitmap.Bitmap.lowest.Goals as goal

pub lowest_in-group-requires : goal.lowest_in-group-requires
lowest_in-group-requires c = first-word c.in-Some.index c.deref.ensures.value
    c.deref-in-Some.ensures.value (lengths-few c.self.invariant).2 (sym c.in-Some.ensures)

pub lowest_in-word-requires : goal.lowest_in-word-requires
lowest_in-word-requires c = next-word c.lowest_in-group.result c.deref-in-Some.ensures.value
    c.deref-in-Some-2.ensures.value c.self.invariant.of_words (lengths-few c.self.invariant).1
    c.lowest_in-group.ensures

pub lowest_in-requires : goal.lowest_in-requires
lowest_in-requires c = next-word c.lowest_in-word.result c.deref-in-Some-2.ensures.value
    c.deref-in-Some-3.ensures.value c.self.invariant.of_places (lengths-few c.self.invariant).0
    c.lowest_in-word.ensures

pub overflow_cast-result : goal.overflow_cast-result
overflow_cast-result c =
    let low = subst (λ (xs : List ℕ). IsLowest xs c.lowest_in.result)
    c.deref-in-Some-3.ensures.value c.lowest_in.ensures in
    Fits-of_lt {w = w32} (few-lowest c.self.invariant low)

pub returns-in-None : goal.returns-in-None
returns-in-None c =
    let found : position is_set c.self.inside.groups.items ≡ None =
    ap (λ (xs : List ℕ). position is_set xs) (sym c.deref.ensures.value) ∙ sym c.in-None.ensures in
    sym (ap (λ (bs : List Bool). position itself bs) (sym c.self.view_is)
    ∙ lowest-none c.self.invariant
    (first-none c.self.inside.groups.items found))

pub returns-in-Some : goal.returns-in-Some
returns-in-Some c =
    let low = subst (λ (xs : List ℕ). IsLowest xs c.lowest_in.result)
    c.deref-in-Some-3.ensures.value c.lowest_in.ensures in
    sym (ap (λ (bs : List Bool). position itself bs) (sym c.self.view_is)
    ∙ (lowest-place c.self.invariant low).1)
