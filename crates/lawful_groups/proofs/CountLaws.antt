-- What is counted is how many entries have a frame.
use Rattle.std.proofs.Common.{◌≡◌, ℕ, ◌+◌, ◌<◌, ◌≤◌, Bool, true, false, cond}
use Rattle.std.proofs.Common.{List, [], ◌∷◌, length, map, refl, sym, ap, ◌∙◌, arith, min}
use Rattle.std.proofs.Common.{Option, Some, None}
use Rattle.std.specs.Prelude.{All, ◌==◌, slice_index, count_by, sum_by}
use Rattle.std.proofs.lemmas.Bool.{eqb-true, eqb-false}
use Rattle.std.proofs.lemmas.List.{get_or-set_same, get_or-set_other, length-set}
use Rattle.std.proofs.lemmas.List.Sums.{sum_by-cons}
use Rattle.std.proofs.lemmas.List.Elements.{All-head, All-tail}
use Rattle.dos_world.specs.World.{Holdings, all_holdings}
use Rattle.dos_world.specs.declared.Entry.{Entry}
use Rattle.group_text.specs.declared.records.ProcessRecord.{ProcessRecord}
use Rattle.group_text.specs.Records.{process_of_record as process_of, recorded_holdings as held_of}
use Rattle.lawful_groups.specs.Counts.{most, HasFrameBelow as HasFrame, HaveFrames, with_use}
use Rattle.lawful_groups.specs.Counts.{counted_space}
use Rattle.lawful_groups.specs.Counts.{counted_all}

-- ---- what a count stops at

abbrev pub capped : ℕ → ℕ
capped n = min n most

pub capped_more : (n k : ℕ) → min (min n most + k) most ≡ min (n + k) most
capped_more n k = omega arith

-- ---- counts

has_frame : ℕ → ℕ × Entry → Bool
has_frame frame e = e.1.frame == frame

abbrev pub entries_of : List (ℕ × Entry) → ℕ → ℕ
entries_of space frame = count_by (λ e. e.1.frame == frame) space

count-cons : (frame : ℕ) (e : ℕ × Entry) (space : List (ℕ × Entry))
    → entries_of (e ∷ space) frame ≡ cond (e.1.frame == frame) 1 0 + entries_of space frame
count-cons frame e space = sum_by-cons (λ (x : ℕ
    × Entry). cond {A = ℕ} (x.1.frame == frame) 1 0) e space

pub use_length : (uses : List ℕ) (frame : ℕ) → length (with_use uses frame) ≡ length uses
use_length uses frame = length-set uses frame _

use_at : (uses : List ℕ) (g f : ℕ) → g < length uses → slice_index uses f ≤ most
    → slice_index (with_use uses g) f ≡ min (slice_index uses f + cond (g == f) 1 0) most
use_at uses g f lt le = go (g == f) refl
  where
    go : (b : Bool) → (g == f) ≡ b
        → slice_index (with_use uses g) f ≡ min (slice_index uses f + cond b 1 0) most
    go true e = rw (sym (eqb-true g f e)) (get_or-set_same uses g _ 0 lt)
    go false e = get_or-set_other uses g f _ 0 (λ same. eqb-false g f e (sym same))
        ∙ omega (arith, le)

pub space_length : (uses : List ℕ) (space : List (ℕ × Entry))
    → length (counted_space uses space) ≡ length uses
space_length uses [] = refl
space_length uses (e ∷ space) =
    space_length (with_use uses e.1.frame) space ∙ use_length uses e.1.frame

pub space_at : (uses : List ℕ) (space : List (ℕ × Entry)) (f : ℕ) → slice_index uses f ≤ most
    → All (HasFrame (length uses)) space
    → slice_index (counted_space uses space) f
    ≡ min (slice_index uses f + entries_of space f) most
space_at uses [] f le all = omega arith
space_at uses (e ∷ space) f le all =
    let more = use_at uses e.1.frame f (All-head (HasFrame (length uses)) e space all) le in
    let one : ℕ = cond (e.1.frame == f) 1 0 in
    space_at (with_use uses e.1.frame) space f (omega (arith, more))
    (rw (use_length uses e.1.frame) (All-tail (HasFrame (length uses)) e space all))
    ∙ ap (λ n. min (n + entries_of space f) most) more
    ∙ capped_more (slice_index uses f + one) (entries_of space f)
    ∙ ap (λ n. min n most) (omega (arith, count-cons f e space))

abbrev pub all_uses : List ProcessRecord → ℕ → ℕ
all_uses rs f = sum_by (λ h. entries_of h.space f) (all_holdings (map process_of rs))

pub all_length : (uses : List ℕ) (rs : List ProcessRecord)
    → length (counted_all uses rs) ≡ length uses
all_length uses [] = refl
all_length uses (r ∷ rs) =
    elim r.status as (λ s. length (counted_all (elim s [
      | None ↦ counted_space uses r.pages.items
      | Some x ↦ uses
    ]) rs) ≡ length uses) [
      | None ↦ all_length (counted_space uses r.pages.items) rs ∙ space_length uses r.pages.items
      | Some x ↦ all_length uses rs
    ]

pub all_at : (uses : List ℕ) (rs : List ProcessRecord) (f : ℕ) → slice_index uses f ≤ most
    → All (HaveFrames (length uses)) rs
    → slice_index (counted_all uses rs) f ≡ min (slice_index uses f + all_uses rs f) most
all_at uses [] f le all = omega arith
all_at uses (r ∷ rs) f le all =
    go (λ u len low. all_at u rs f low (rw len (All-tail (HaveFrames (length uses)) r rs all)))
    r.status refl
  where
    go : ((u : List ℕ) → length u ≡ length uses → slice_index u f ≤ most
        → slice_index (counted_all u rs) f ≡ min (slice_index u f + all_uses rs f) most)
        → (s : Option ℕ) → r.status ≡ s
        → slice_index (counted_all uses (r ∷ rs)) f
        ≡ min (slice_index uses f + all_uses (r ∷ rs) f) most
    go step None e =
        let u : List ℕ = counted_space uses r.pages.items in
        let here = space_at uses r.pages.items f le (All-head (HaveFrames (length uses)) r rs all e)
        in
        let there = step u (space_length uses r.pages.items) (omega (arith, here)) in
        let sums = sum_by-cons (λ (h : Holdings). entries_of h.space f) (held_of r)
        (all_holdings (map process_of rs)) in
        rw e (there ∙ ap (λ n. min (n + all_uses rs f) most) here
        ∙ capped_more (slice_index uses f + entries_of r.pages.items f) (all_uses rs f)
        ∙ ap (λ n. min n most) (omega (arith, sums)))
    go step (Some x) e = rw e (step uses refl le)
