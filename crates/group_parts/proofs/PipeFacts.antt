-- The ends of pipes that are counted are those that the processes of a world have.
use Rattle.std.proofs.Common.{◌≡◌, ℕ, zero, suc, ◌+◌, ◌≤◌, Bool, true, false, cond, List, []}
use Rattle.std.proofs.Common.{◌∷◌, length, map, Option, Some, None, refl, sym, ap}
use Rattle.std.proofs.Common.{◌∙◌, arith, inl, inr}
use Rattle.std.specs.Prelude.{All, count_by, sum_by, slice_index}
use Rattle.std.proofs.lemmas.Bool.{cases_order, ne_eqb}
use Rattle.std.proofs.lemmas.List.Sums.{sum_by-cons}
use Rattle.std.proofs.lemmas.List.Elements.{All-head, All-tail}
use Rattle.dos_world.specs.World.{Holdings, all_holdings}
use Rattle.dos_world.specs.Counts.{reads_pipe, writes_pipe}
use Rattle.dos_world.specs.Lawful.{IsEnd}
use Rattle.dos_world.specs.declared.End.{End}
use Rattle.dos_world.specs.declared.End.TheVariants.{Input, Output, Error, PipeRead, PipeWrite}
use Rattle.group_text.specs.Records.{process_of_record as process_of, recorded_holdings as held_of}
use Rattle.group_text.specs.declared.records.ProcessRecord.{ProcessRecord}
use Rattle.lawful_groups.proofs.FrameLaws.{count-cons}
use Rattle.group_parts.specs.PipeEnds.{HaveEnds, all_ends, end_test}
use Rattle.group_parts.proofs.Facts.{Holds}

nothing_more : (n : ℕ) → 0 + n ≡ n
nothing_more n = omega arith

-- those of the live processes of a world
pub ends_are : (test : Option End → Bool) (rs : List ProcessRecord)
    → all_ends test rs
    ≡ sum_by (λ h. count_by test h.descriptors) (all_holdings (map process_of rs))
ends_are test [] = refl
ends_are test (r ∷ rs) = by (ends_are test rs) r.status refl
  where
    by : all_ends test rs
        ≡ sum_by (λ h. count_by test h.descriptors) (all_holdings (map process_of rs))
        → (s : Option ℕ) → r.status ≡ s → all_ends test (r ∷ rs)
        ≡ sum_by (λ h. count_by test h.descriptors) (all_holdings (map process_of (r ∷ rs)))
    by rest None e = rw e (ap (λ n. count_by test r.ends.items + n) rest
        ∙ sym (sum_by-cons (λ (h : Holdings). count_by test h.descriptors) (held_of r)
        (all_holdings (map process_of rs))))
    by rest (Some status) e = rw e (nothing_more (all_ends test rs) ∙ rest)

-- a pipe past the last has no end
not_named : (writer : Bool) (pipe : ℕ) (end : Option End) → 64 ≤ pipe → IsEnd end
    → end_test writer pipe end ≡ false
not_named true pipe (Some (PipeWrite p)) past is = ne_eqb p pipe (λ e. omega arith)
not_named true pipe (Some (PipeRead p)) past is = refl
not_named true pipe (Some Input) past is = refl
not_named true pipe (Some Output) past is = refl
not_named true pipe (Some Error) past is = refl
not_named true pipe None past is = refl
not_named false pipe (Some (PipeRead p)) past is = ne_eqb p pipe (λ e. omega arith)
not_named false pipe (Some (PipeWrite p)) past is = refl
not_named false pipe (Some Input) past is = refl
not_named false pipe (Some Output) past is = refl
not_named false pipe (Some Error) past is = refl
not_named false pipe None past is = refl

none_named : (writer : Bool) (pipe : ℕ) (ends : List (Option End)) → 64 ≤ pipe → All IsEnd ends
    → count_by (end_test writer pipe) ends ≡ 0
none_named writer pipe [] past all = refl
none_named writer pipe (e ∷ ends) past all =
    count-cons (end_test writer pipe) e ends
    ∙ ap (λ b. cond {A = ℕ} b 1 0 + count_by (end_test writer pipe) ends)
    (not_named writer pipe e past (All-head IsEnd e ends all))
    ∙ omega (arith, none_named writer pipe ends past (All-tail IsEnd e ends all))

none_past : (frames : ℕ) (writer : Bool) (pipe : ℕ) (rs : List ProcessRecord) → 64 ≤ pipe
    → All (Holds frames) rs → all_ends (end_test writer pipe) rs ≡ 0
none_past frames writer pipe [] past all = refl
none_past frames writer pipe (r ∷ rs) past all =
    by (none_past frames writer pipe rs past (All-tail (Holds frames) r rs all)) r.status refl
  where
    by : all_ends (end_test writer pipe) rs ≡ 0 → (s : Option ℕ) → r.status ≡ s
        → all_ends (end_test writer pipe) (r ∷ rs) ≡ 0
    by rest None e = rw e (omega (
      arith,
      rest,
      none_named writer pipe r.ends.items past
          (All-head (Holds frames) r rs all e).descriptors.1,
    ))
    by rest (Some status) e =
        rw e (nothing_more (all_ends (end_test writer pipe) rs) ∙ rest)

nothing_past : (xs : List ℕ) (i : ℕ) → length xs ≤ i → slice_index xs i ≡ 0
nothing_past [] i past = refl
nothing_past (x ∷ xs) zero past = absurd (omega arith)
nothing_past (x ∷ xs) (suc i) past = nothing_past xs i (omega arith)

module _ (frames : ℕ) (rs : List ProcessRecord) (holds : All (Holds frames) rs)
    {readers writers : List ℕ} (ends : HaveEnds rs readers writers) where
  -- the count of readers of any pipe, there or not
  pub reads_are : (pipe : ℕ) → slice_index readers pipe
      ≡ sum_by (λ h. count_by (reads_pipe pipe) h.descriptors) (all_holdings (map process_of rs))
  reads_are pipe = elim (cases_order pipe 64) [
    | inl e ↦ past (omega arith)
    | inr (inl below) ↦ ends.reads pipe below ∙ ends_are (reads_pipe pipe) rs
    | inr (inr above) ↦ past (omega arith)
  ]
    where
      past : 64 ≤ pipe → slice_index readers pipe
          ≡ sum_by (λ h. count_by (reads_pipe pipe) h.descriptors)
          (all_holdings (map process_of rs))
      past h = nothing_past readers pipe (omega (arith, ends.reader_count, h))
          ∙ sym (none_past frames false pipe rs h holds) ∙ ends_are (reads_pipe pipe) rs

  pub writes_are : (pipe : ℕ) → slice_index writers pipe
      ≡ sum_by (λ h. count_by (writes_pipe pipe) h.descriptors) (all_holdings (map process_of rs))
  writes_are pipe = elim (cases_order pipe 64) [
    | inl e ↦ past (omega arith)
    | inr (inl below) ↦ ends.writes pipe below ∙ ends_are (writes_pipe pipe) rs
    | inr (inr above) ↦ past (omega arith)
  ]
    where
      past : 64 ≤ pipe → slice_index writers pipe
          ≡ sum_by (λ h. count_by (writes_pipe pipe) h.descriptors)
          (all_holdings (map process_of rs))
      past h = nothing_past writers pipe (omega (arith, ends.writer_count, h))
          ∙ sym (none_past frames true pipe rs h holds) ∙ ends_are (writes_pipe pipe) rs
