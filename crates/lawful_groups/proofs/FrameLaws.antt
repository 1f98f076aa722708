-- Frames and private pages, by counts.
use Rattle.std.proofs.Common.{◌≡◌, ℕ, zero, suc, ◌+◌, ◌<◌, Bool, true, false}
use Rattle.std.proofs.Common.{cond}
use Rattle.std.proofs.Common.{not, ◌||◌, List, [], ◌∷◌, length, map, refl, sym, ap, subst}
use Rattle.std.proofs.Common.{◌∙◌}
use Rattle.std.proofs.Common.{arith, min, Option, Some, None}
use Rattle.std.specs.Prelude.{All, ◌↔◌, ◌==◌, nat_lt, slice_index, slice_index_or, count_by, sum_by}
use Rattle.std.specs.Prelude.{IsFalse, is_some}
use Rattle.std.specs.List.{list_all, list_any}
use Rattle.std.proofs.lemmas.Bool.{eqb-true, and_parts, true≢false}
use Rattle.std.proofs.lemmas.Bool.Decides.{nat_tests}
use Rattle.std.proofs.lemmas.List.Sums.{sum_by-cons}
use Rattle.std.proofs.lemmas.List.Elements.{All-nil, All-cons, All-head, All-tail}
use Rattle.dos_world.specs.World.{World, Holdings, all_holdings, owner_of, is_free}
use Rattle.dos_world.specs.Counts.{is_mapped, maps_frame, uses_of}
use Rattle.dos_world.specs.Lawful.{IsAlone}
use Rattle.dos_world.specs.IsLawful.{same_truth}
use Rattle.dos_world.specs.declared.Entry.{Entry}
use Rattle.dos_world.specs.declared.Owner.{Owner}
use Rattle.dos_world.specs.declared.Owner.TheVariants.{Free, Shared, Of}
use Rattle.group_text.specs.declared.records.ProcessRecord.{ProcessRecord}
use Rattle.group_text.specs.Records.{process_of_record as process_of, recorded_holdings as held_of}
use Rattle.lawful_groups.specs.Counts.{most, HasFrameBelow as HasFrame, HaveFrames}
use Rattle.lawful_groups.specs.Agreeing.{frees_match, is_alone_by, are_alone}

-- ---- an entry that has a frame counts

pub count-cons : {B : Type 0} (test : B → Bool) (x : B) (xs : List B)
    → count_by test (x ∷ xs) ≡ cond (test x) 1 0 + count_by test xs
count-cons test x xs = sum_by-cons (λ y. cond {A = ℕ} (test y) 1 0) x xs

-- whether any passes is whether the count isn't 0
pub any_counted : {B : Type 0} (test : B → Bool) (xs : List B)
    → list_any test xs ≡ nat_lt 0 (count_by test xs)
any_counted test [] = refl
any_counted test (x ∷ xs) = go (any_counted test xs) (test x) refl
  where
    counts : (b : Bool) → test x ≡ b
        → count_by test (x ∷ xs) ≡ cond {A = ℕ} b 1 0 + count_by test xs
    counts b e = count-cons test x xs ∙ ap (λ b. cond {A = ℕ} b 1 0 + count_by test xs) e

    positive : (a n : ℕ) → a ≡ 1 + n → true ≡ nat_lt 0 a
    positive a n e = grind (arith, nat_tests, e)

    same : (a n : ℕ) → a ≡ 0 + n → nat_lt 0 n ≡ nat_lt 0 a
    same a n e = ap (nat_lt 0) (omega (arith, e))

    go : list_any test xs ≡ nat_lt 0 (count_by test xs) → (b : Bool) → test x ≡ b
        → (test x || list_any test xs) ≡ nat_lt 0 (count_by test (x ∷ xs))
    go rest true e = ap (λ b. b || list_any test xs) e
        ∙ positive (count_by test (x ∷ xs)) (count_by test xs) (counts true e)
    go rest false e = ap (λ b. b || list_any test xs) e
        ∙ rest ∙ same (count_by test (x ∷ xs)) (count_by test xs) (counts false e)

pub any_summed : {A : Type 0} (test : A → Bool) (f : A → ℕ)
    → ((x : A) → test x ≡ nat_lt 0 (f x)) → (xs : List A)
    → list_any test xs ≡ nat_lt 0 (sum_by f xs)
any_summed test f each [] = refl
any_summed test f each (x ∷ xs) =
    rw (each x, any_summed test f each xs, sum_by-cons f x xs) (either (f x) (sum_by f xs))
  where
    either : (m n : ℕ) → (nat_lt 0 m || nat_lt 0 n) ≡ nat_lt 0 (m + n)
    either zero n = grind (arith, nat_tests)
    either (suc m) n = grind (arith, nat_tests)

pub mapped_counted : (w : World) (frame : ℕ) → is_mapped w frame ≡ nat_lt 0 (uses_of w frame)
mapped_counted w frame = any_summed (maps_frame frame)
    (λ h. count_by (λ e. e.1.frame == frame) h.space)
    (λ h. any_counted (λ e. e.1.frame == frame) h.space) (all_holdings w.processes)

-- ---- what counts that stop tell

capped_0 : (n : ℕ) → (min n most == 0) ≡ not (nat_lt 0 n)
capped_0 zero = refl
capped_0 (suc n) = grind (arith, nat_tests)

capped_1 : (n : ℕ) → (min n most == 1) ≡ (n == 1)
capped_1 n = grind (arith, nat_tests)

-- ---- Free frames

owner_free : (o : Owner) → is_free o ≡ true → o ≡ Free
owner_free Free e = refl
owner_free Shared e = absurd (true≢false (sym e))
owner_free (Of t) e = absurd (true≢false (sym e))

-- whether each frame matches
match_at : (owners : List Owner) (uses : List ℕ) → length owners ≡ length uses
    → frees_match owners uses ≡ true → (f : ℕ) → f < length owners
    → is_free (slice_index_or owners f Free) ≡ (slice_index uses f == 0)
match_at [] uses same h f lt = absurd (omega arith)
match_at (o ∷ owners) [] same h f lt = absurd (omega arith)
match_at (o ∷ owners) (u ∷ uses) same h zero lt =
    same_truth_is (is_free o) (u == 0) (and_parts (same_truth (is_free o) (u == 0)) (frees_match
    owners uses) h).0
  where
    same_truth_is : (a b : Bool) → same_truth a b ≡ true → a ≡ b
    same_truth_is true b e = sym e
    same_truth_is false true e = absurd (true≢false (sym e))
    same_truth_is false false e = refl
match_at (o ∷ owners) (u ∷ uses) same h (suc f) lt =
    match_at owners uses (omega (arith, same))
    (and_parts (same_truth (is_free o) (u == 0)) (frees_match owners uses) h).1 f (omega arith)

match_all : (owners : List Owner) (uses : List ℕ) → length owners ≡ length uses
    → ((f : ℕ) → f < length owners
    → is_free (slice_index_or owners f Free) ≡ (slice_index uses f == 0))
    → frees_match owners uses ≡ true
match_all [] uses same each = refl
match_all (o ∷ owners) [] same each = refl
match_all (o ∷ owners) (u ∷ uses) same each =
    let here : same_truth (is_free o) (u == 0) ≡ true =
    truth_same (is_free o) (u == 0) (each 0 (omega arith)) in
    rw (here, match_all owners uses (omega (arith, same)) (λ f lt. each (suc f) (omega arith))) refl
  where
    truth_same : (a b : Bool) → a ≡ b → same_truth a b ≡ true
    truth_same true b e = sym e
    truth_same false true e = absurd (true≢false (sym e))
    truth_same false false e = refl

-- The counts of a world's uses, which stop.
abbrev pub AreUses : World → List ℕ → Type 0
AreUses w uses = (f : ℕ) → f < length w.owners → slice_index uses f ≡ min (uses_of w f) most

module _ (w : World) (uses : List ℕ) (same : length w.owners ≡ length uses)
    (are : AreUses w uses) where
  unused : (f : ℕ) → f < length w.owners → (slice_index uses f == 0) ≡ not (is_mapped w f)
  unused f lt = ap (λ n. n == 0) (are f lt) ∙ capped_0 (uses_of w f)
      ∙ ap not (sym (mapped_counted w f))

  pub free_yes : frees_match w.owners uses ≡ true → (f : ℕ) → f < length w.owners
      → (owner_of w f ≡ Free) ↔ IsFalse (is_mapped w f)
  free_yes h f lt =
      let e : is_free (owner_of w f) ≡ not (is_mapped w f) =
      match_at w.owners uses same h f lt ∙ unused f lt in (
        λ free. not_true (is_mapped w f) (sym e ∙ ap is_free free),
        λ none. owner_free (owner_of w f) (e ∙ ap not none),
      )
    where
      not_true : (b : Bool) → not b ≡ true → b ≡ false
      not_true true x = absurd (true≢false (sym x))
      not_true false x = refl

  pub free_no : ((f : ℕ) → f < length w.owners → (owner_of w f ≡ Free) ↔ IsFalse (is_mapped w f))
      → frees_match w.owners uses ≡ true
  free_no each = match_all w.owners uses same
      (λ f lt. go (owner_of w f) (is_mapped w f) refl refl (each f lt) ∙ sym (unused f lt))
    where
      go : (o : Owner) (b : Bool) {p : Owner} {c : Bool} → o ≡ p → b ≡ c
          → ((o ≡ Free) ↔ IsFalse b) → is_free o ≡ not b
      go Free true x y both = absurd (true≢false (both.0 refl))
      go Free false x y both = refl
      go Shared true x y both = refl
      go Shared false x y both = let z : Shared ≡ Free = both.1 refl in absurd (grind (arith, z))
      go (Of t) true x y both = refl
      go (Of t) false x y both = let z : Of t ≡ Free = both.1 refl in absurd (grind (arith, z))

-- ---- private entries

module _ (w : World) (uses : List ℕ) (are : AreUses w uses) where
  alone_is : (e : ℕ × Entry) → e.1.frame < length w.owners
      → (slice_index uses e.1.frame == 1) ≡ (uses_of w e.1.frame == 1)
  alone_is e lt = ap (λ n. n == 1) (are e.1.frame lt) ∙ capped_1 (uses_of w e.1.frame)

  alone_yes : (e : ℕ × Entry) → e.1.frame < length w.owners → is_alone_by uses e ≡ true
      → IsAlone w e
  alone_yes e lt h private =
      eqb-true (uses_of w e.1.frame) 1
      (sym (alone_is e lt) ∙ or_false e.1.shared (slice_index uses e.1.frame == 1) private h)
    where
      or_false : (a b : Bool) → a ≡ false → (a || b) ≡ true → b ≡ true
      or_false true b x y = absurd (true≢false x)
      or_false false b x y = y

  alone_no : (e : ℕ × Entry) → e.1.frame < length w.owners → IsAlone w e
      → is_alone_by uses e ≡ true
  alone_no e lt alone = go e.1.shared refl
    where
      go : (b : Bool) → e.1.shared ≡ b → (b || (slice_index uses e.1.frame == 1)) ≡ true
      go true x = refl
      go false x = alone_is e lt ∙ grind (arith, nat_tests, alone x)

  space_alone_yes : (space : List (ℕ × Entry)) → All (HasFrame (length w.owners)) space
      → list_all (is_alone_by uses) space ≡ true → All (IsAlone w) space
  space_alone_yes [] all h = All-nil (IsAlone w)
  space_alone_yes (e ∷ space) all h =
      let a = and_parts (is_alone_by uses e) (list_all (is_alone_by uses) space) h in
      All-cons (IsAlone w) e space
      (alone_yes e (All-head (HasFrame (length w.owners)) e space all) a.0)
      (space_alone_yes space (All-tail (HasFrame (length w.owners)) e space all) a.1)

  space_alone_no : (space : List (ℕ × Entry)) → All (HasFrame (length w.owners)) space
      → All (IsAlone w) space → list_all (is_alone_by uses) space ≡ true
  space_alone_no [] all h = refl
  space_alone_no (e ∷ space) all h =
      let H : ℕ × Entry → Type 0 = HasFrame (length w.owners) in
      rw (
        alone_no e (All-head H e space all) (All-head (IsAlone w) e space h),
        space_alone_no space (All-tail H e space all) (All-tail (IsAlone w) e space h),
      ) refl

  abbrev pub SpaceAlone : Holdings → Type 0
  SpaceAlone h = All (IsAlone w) h.space

  pub private_yes : (rs : List ProcessRecord) → All (HaveFrames (length w.owners)) rs
      → list_all (are_alone uses) rs ≡ true → All SpaceAlone (all_holdings (map process_of rs))
  private_yes [] all h = All-nil SpaceAlone
  private_yes (r ∷ rs) all h =
      go (private_yes rs (All-tail (HaveFrames (length w.owners)) r rs all) parts.1) r.status refl
    where
      parts : (are_alone uses r ≡ true) × (list_all (are_alone uses) rs ≡ true)
      parts = and_parts (are_alone uses r) (list_all (are_alone uses) rs) h

      go : All SpaceAlone (all_holdings (map process_of rs)) → (s : Option ℕ) → r.status ≡ s
          → All SpaceAlone (all_holdings (map process_of (r ∷ rs)))
      go rest None e =
          let t : list_all (is_alone_by uses) r.pages.items ≡ true =
          subst (λ s. (is_some s || list_all (is_alone_by uses) r.pages.items) ≡ true) e parts.0 in
          rw e (All-cons SpaceAlone (held_of r) (all_holdings (map process_of rs))
          (space_alone_yes r.pages.items (All-head (HaveFrames (length w.owners)) r rs all e) t)
          rest)
      go rest (Some x) e = rw e rest

  pub private_no : (rs : List ProcessRecord) → All (HaveFrames (length w.owners)) rs
      → All SpaceAlone (all_holdings (map process_of rs)) → list_all (are_alone uses) rs ≡ true
  private_no [] all h = refl
  private_no (r ∷ rs) all h =
      go (private_no rs (All-tail (HaveFrames (length w.owners)) r rs all)) r.status refl
    where
      Held : Option ℕ → List Holdings
      Held s = elim s as (λ _. List Holdings) [
        | None ↦ held_of r ∷ all_holdings (map process_of rs)
        | Some status ↦ all_holdings (map process_of rs)
      ]

      held : (s : Option ℕ) → r.status ≡ s → all_holdings (map process_of (r ∷ rs)) ≡ Held s
      held None e = rw e refl
      held (Some x) e = rw e refl

      go : (All SpaceAlone (all_holdings (map process_of rs)) → list_all (are_alone uses) rs ≡ true)
          → (s : Option ℕ) → r.status ≡ s → list_all (are_alone uses) (r ∷ rs) ≡ true
      go rest None e =
          let t : All SpaceAlone (held_of r ∷ all_holdings (map process_of rs)) =
          subst (All SpaceAlone) (held None e) h in
          let hs : List Holdings = all_holdings (map process_of rs) in
          rw (
            e,
            space_alone_no r.pages.items (All-head (HaveFrames (length w.owners)) r rs all e)
                (All-head SpaceAlone (held_of r) hs t),
            rest (All-tail SpaceAlone (held_of r) hs t),
          ) refl
      go rest (Some x) e =
          let t : All SpaceAlone (all_holdings (map process_of rs)) =
          subst (All SpaceAlone) (held (Some x) e) h in
          rw (e, rest t) refl
