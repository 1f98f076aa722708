-- What a wait for children comes to, by the records of the processes; and a child that is
-- collected.
use Rattle.std.proofs.Common.{◌≡◌, ℕ, zero, suc, ◌-◌, ◌<◌, ◌≤◌, Bool, true, false, List}
use Rattle.std.proofs.Common.{length, get_or, slice_get, Option, Some, None, option_map, IsSome}
use Rattle.std.proofs.Common.{refl, sym, ap, ◌∙◌, arith}
use Rattle.std.specs.Prelude.{not, ◌&&◌, ◌==◌, is_none}
use Rattle.std.proofs.lemmas.Bool.{and_parts}
use Rattle.std.proofs.lemmas.Option.{slice_get-get_or}
use Rattle.dos_world.specs.Numbered.{numbered, changed}
use Rattle.dos_world.specs.World.{Process, first_of, status_of}
use Rattle.dos_world.specs.ProcessCalls.{any_process, collected_by}
use Rattle.space_map.specs.Mapping.{Mapping}
use Rattle.proc_table.specs.Children.{children_in, outcome, outcome_by, status_of_ended}
use Rattle.proc_table.specs.declared.collected.Collected.TheVariants.{Got, Wait, NoChild}
use Rattle.proc_table.specs.Places.{ArePlaced, Group, first_child, group_shown, has_come}
use Rattle.proc_table.specs.Places.{holdings_in}
use Rattle.proc_table.specs.Places.{is_child_record, is_collected, kept_as, place_kept}
use Rattle.proc_table.specs.Places.{place_of_record}
use Rattle.proc_table.specs.Places.{process_by, status_or_0}
use Rattle.proc_table.specs.Links.{passes, passes_at}
use Rattle.proc_table.specs.declared.record.Belongings.{Belongings}
use Rattle.proc_table.specs.declared.record.Kept.{Kept}
use Rattle.proc_table.specs.declared.record.Kept.TheVariants.{Live, Ended}
use Rattle.proc_table.specs.declared.record.Record.{Record}
use Rattle.proc_table.proofs.Children.{Passes, children_shown, first_passes, names, test_of}
use Rattle.proc_table.proofs.Moved.{there}
use Rattle.proc_table.proofs.Places.{numbered_shown}
use Rattle.proc_table.proofs.Standing.{Stands, collected_standing, processes_same}

module _ {R : List Record} {holders : List (Option ℕ)} {S : List Mapping} {D : List Belongings}
    {count room : ℕ} {now : Group} (shows : group_shown S D R room ≡ now)
    (placed : ArePlaced R holders S D count room) (parent which : ℕ) where
  first_is : (asked : Bool)
      → first_of (children_in (test_of asked) now.processes parent which)
      ≡ first_child asked R parent which
  first_is asked = ap (λ qs. first_of (children_in (test_of asked) qs parent which))
      (sym (processes_same shows placed)) ∙ children_shown asked S D R parent which

  outcome_is : (any come : Option ℕ) → first_child false R parent which ≡ any
      → first_child true R parent which ≡ come
      → outcome_by any come now.processes ≡ outcome now.processes parent which
  outcome_is any come a b =
      ap (λ o. outcome_by o come now.processes) (sym (first_is false ∙ a))
      ∙ ap (λ o.
      outcome_by (first_of (children_in any_process now.processes parent which)) o now.processes)
      (sym (first_is true ∙ b))

  pub outcome_none : (o : Option ℕ) → first_child false R parent which ≡ o → is_none o ≡ true
      → NoChild ≡ outcome now.processes parent which
  outcome_none None e none = outcome_is None (first_child true R parent which) e refl
  outcome_none (Some a) e none = cc

  pub outcome_wait : (o : Option ℕ) → first_child false R parent which ≡ o → is_none o ≡ false
      → first_child true R parent which ≡ None → Wait ≡ outcome now.processes parent which
  outcome_wait None e some none = cc
  outcome_wait (Some a) e some none = outcome_is (Some a) None e none

  -- who is found has a record, and has ended
  module _ {p : ℕ} (found : first_child true R parent which ≡ Some p) where
    found_passes : Passes (is_child_record true parent) p 1 R
    found_passes = first_passes (is_child_record true parent) (names which) 1 p R found

    found_child : passes_at (is_child_record true parent) R p ≡ true
    found_child = at p found_passes
      where
        element : (i : ℕ) (x : Record) → slice_get R i ≡ Some x
            → ((y : Record) → slice_get R i ≡ Some y → is_child_record true parent y ≡ true)
            → passes_at (is_child_record true parent) R (suc i) ≡ true
        element i x is each = ap (passes (is_child_record true parent)) is ∙ each x is

        at : (p : ℕ) → Passes (is_child_record true parent) p 1 R
            → passes_at (is_child_record true parent) R p ≡ true
        at zero h = absurd (omega (arith, h.0))
        at (suc i) h =
            let same : suc i - 1 ≡ i = omega arith in
            let d : Record = record { parent = 0; kept = Live 0 } in
            element i (get_or R i d) (slice_get-get_or R i d (omega (arith, h.1)))
            (λ y is. h.2 y (ap (slice_get R) same ∙ is))

    found_from : 1 ≤ p
    found_from = found_passes.0

    found_within : p - 1 < length R
    found_within = found_passes.1

    pub found_given : IsSome (numbered R p)
    found_given = there R p found_from (omega (arith, found_from, found_within))

    record_at : (x : Record) → x ≡ get_or R (p - 1) x → slice_get R (p - 1) ≡ Some x
    record_at x read = slice_get-get_or R (p - 1) x found_within ∙ ap (λ r. Some r) (sym read)

    found_ended : (x : Record) → x ≡ get_or R (p - 1) x → place_of_record x ≡ None
    found_ended x read = by x.kept
        (and_parts ((x.parent == parent) && not (is_collected x.kept)) (has_come true x.kept)
        (found_passes.2 x (record_at x read))).1
      where
        by : (k : Kept) → has_come true k ≡ true → place_kept k ≡ None
        by (Live place) e = cc
        by (Ended status collected) e = refl

    found_status : (x : Record) → x ≡ get_or R (p - 1) x
        → status_of_ended now.processes p ≡ status_or_0 x.kept
    found_status x read =
        ap (λ qs. status_of_ended qs p) (sym (processes_same shows placed))
        ∙ ap status_by (numbered_shown S D R p)
        ∙ ap (λ o. status_by (option_map (process_by (holdings_in S D)) o))
        (given p found_from ∙ record_at x read) ∙ kept x.kept
      where
        status_by : Option Process → ℕ
        status_by o = elim o [ None ↦ 0 | Some process ↦ status_of process ]

        given : (p : ℕ) → 1 ≤ p → numbered R p ≡ slice_get R (p - 1)
        given zero h = absurd (omega arith)
        given (suc i) h = ap (slice_get R) (omega arith)

        kept : (k : Kept)
            → status_by (Some (process_by (holdings_in S D) (record x { kept = k })))
            ≡ status_or_0 k
        kept (Live place) = refl
        kept (Ended status collected) = refl

    pub outcome_got : (o : Option ℕ) → first_child false R parent which ≡ o → is_none o ≡ false
        → (x : Record) → x ≡ get_or R (p - 1) x
        → Got p (status_or_0 x.kept) ≡ outcome now.processes parent which
    outcome_got None e some x read = cc
    outcome_got (Some a) e some x read = ap (λ n. Got p n) (sym (found_status x read))
        ∙ outcome_is (Some a) (Some p) e found

  got_found : {p status : ℕ} → Got p status ≡ outcome now.processes parent which
      → (first_child true R parent which ≡ Some p) × (status ≡ status_of_ended now.processes p)
  got_found {p} {status} e = by (first_child false R parent which)
      (first_child true R parent which) refl
      (e ∙ sym (outcome_is (first_child false R parent which)
      (first_child true R parent which) refl refl))
    where
      by : (any come : Option ℕ) → first_child true R parent which ≡ come
          → Got p status ≡ outcome_by any come now.processes
          → (first_child true R parent which ≡ Some p) × (status ≡ status_of_ended now.processes p)
      by None come is e = cc
      by (Some a) None is e = cc
      by (Some a) (Some q) is e =
          let same : p ≡ q = cc in
          let value : status ≡ status_of_ended now.processes q = cc in
          (is ∙ ap (λ n. Some n) (sym same), value ∙ ap (status_of_ended now.processes) (sym same))

  -- the child that a wait has got
  module _ {p status : ℕ} (got : Got p status ≡ outcome now.processes parent which) where
    pub got_child : passes_at (is_child_record true parent) R p ≡ true
    got_child = found_child (got_found got).0

    pub got_collected : {new : List Record} → new ≡ changed (kept_as (Ended status true)) R p
        → Stands new holders S D count room
        (record now { processes = changed collected_by now.processes p })
    got_collected is =
        let found = got_found got in
        collected_standing shows placed p (found_from found.0) (found_within found.0) status
        (λ x read. (found_ended found.0 x read, found.1 ∙ found_status found.0 x read)) is
