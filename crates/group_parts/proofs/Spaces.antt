-- Pages that are put in rising order, one after another.
use Rattle.std.proofs.Common.{◌≡◌, ℕ, zero, suc, ◌+◌, ◌<◌, List, [], ◌∷◌, ◌++◌, length, map, take}
use Rattle.std.proofs.Common.{get_or, slice_get, Some, None, refl, sym, ap, ◌∙◌, arith}
use Rattle.std.specs.Prelude.{All}
use Rattle.std.proofs.lemmas.Bool.{le-ltb, ne_eqb}
use Rattle.std.proofs.lemmas.List.{get_or-take, length-map, length-take}
use Rattle.std.proofs.lemmas.List.Elements.{All-head, All-tail}
use Rattle.std.proofs.lemmas.List.Kept.{AllPairs-from_increasing}
use Rattle.std.proofs.lemmas.Option.{get_or_from_slice_get, slice_get-get_or}
use Rattle.std.proofs.lemmas.Option.{slice_get_within}
use Rattle.dos_world.specs.World.{look}
use Rattle.dos_world.specs.Kernel.{put}
use Rattle.dos_world.specs.declared.Entry.{Entry}
use Rattle.space_map.specs.Mapping.{IsRising, Mapping}
use Rattle.group_parts.proofs.Taken.{taken_more}

page_at : (pages : List (ℕ × Entry)) (k n : ℕ) (d : ℕ × Entry) → k < length pages
    → get_or (map (λ e. e.0) pages) k n ≡ (get_or pages k d).0
page_at [] k n d lt = absurd (omega arith)
page_at (e ∷ pages) zero n d lt = refl
page_at (e ∷ pages) (suc k) n d lt = page_at pages k n d (omega arith)

-- those before a page of a space that rises are below it
pub below : (pages : List (ℕ × Entry)) (i : ℕ) (e : ℕ × Entry) → IsRising pages
    → slice_get pages i ≡ Some e → All (λ x. x.0 < e.0) (take i pages)
below pages i e rising is k d lt =
    let within : i < length pages = slice_get_within pages i e is in
    let before : k < i = omega (arith, lt, length-take i pages) in
    let pair = AllPairs-from_increasing (map (λ (x : ℕ × Entry). x.0) pages) rising k i 0 before
    (omega (arith, within, length-map pages (λ (x : ℕ × Entry). x.0))) in
    omega (
      arith,
      pair,
      page_at pages k 0 d (omega arith),
      page_at pages i 0 e within,
      ap (λ (x : ℕ × Entry). x.0) (get_or_from_slice_get pages i e e is),
      ap (λ (x : ℕ × Entry). x.0) (get_or-take i pages k d before),
    )

pub put_last : (page : ℕ) (entry : Entry) (es : List (ℕ × Entry)) → All (λ x. x.0 < page) es
    → put page entry es ≡ es ++ (page, entry) ∷ []
put_last page entry [] all = refl
put_last page entry (e ∷ es) all =
    let here : e.0 < page = All-head (λ (x : ℕ × Entry). x.0 < page) e es all in
    rw (le-ltb page e.0 (omega arith))
    (ap (λ xs. e ∷ xs)
    (put_last page entry es (All-tail (λ (x : ℕ × Entry). x.0 < page) e es all)))

pub unmapped_above : (page : ℕ) (es : List (ℕ × Entry)) → All (λ x. x.0 < page) es
    → look es page ≡ None
unmapped_above page [] all = refl
unmapped_above page (e ∷ es) all =
    let here : e.0 < page = All-head (λ (x : ℕ × Entry). x.0 < page) e es all in
    rw (ne_eqb e.0 page (λ same. omega arith))
    (unmapped_above page es (All-tail (λ (x : ℕ × Entry). x.0 < page) e es all))

module _ (pages : List (ℕ × Entry)) (i room : ℕ) (d : ℕ × Entry) (rising : IsRising pages)
    (lt : i < length pages) {space : Mapping}
    (is : space ≡ record { entries = take i pages; room = room }) where
  abbrev next : ℕ × Entry
  next = get_or pages i d

  below_next : All (λ x. x.0 < next.0) (take i pages)
  below_next = below pages i next rising (slice_get-get_or pages i d lt)

  pub next_unmapped : look space.entries next.0 ≡ None
  next_unmapped = ap (λ (s : Mapping). look s.entries next.0) is
      ∙ unmapped_above next.0 (take i pages) below_next

  pub next_put : {new : Mapping} → new ≡ record space { entries = put next.0 next.1 space.entries }
      → new ≡ record { entries = take (i + 1) pages; room = room }
  next_put e = e
      ∙ ap (λ (s : Mapping). record s { entries = put next.0 next.1 s.entries }) is
      ∙ ap (λ es. let s : Mapping = record { entries = es; room = room } in s)
      (put_last next.0 next.1 (take i pages) below_next
      ∙ sym (taken_more pages i next (slice_get-get_or pages i d lt)))
