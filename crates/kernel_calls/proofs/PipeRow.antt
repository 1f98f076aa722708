-- What pipe answers, and which state it leaves.
use Rattle.std.proofs.Common.{◌≡◌, ℕ, ◌+◌, ◌<◌, ◌≤◌, Bool, true, false, cond, List, [], ◌∷◌, length}
use Rattle.std.proofs.Common.{get_or, Option, Some, None, IfSome, refl, sym, ap, subst, ◌∙◌, arith}
use Rattle.std.specs.Prelude.{◌==◌, ◌&&◌, not, count_by, position, is_none, filter, find, slice_set}
use Rattle.std.proofs.lemmas.Bool.{eqb-true}
use Rattle.std.proofs.lemmas.Iterator.Adapters.{position_from-zero}
use Rattle.std.proofs.lemmas.Option.{slice_get_past}
use Rattle.dos_world.specs.Numbered.{run_of}
use Rattle.dos_world.specs.World.{Holdings, first_of, registers_by}
use Rattle.dos_world.specs.Kernel.{answered_two, minus}
use Rattle.dos_world.specs.Counts.{is_open}
use Rattle.dos_world.specs.Play.{done}
use Rattle.dos_world.specs.Calls.{Call, went, refuses}
use Rattle.dos_world.specs.DescriptorCalls.{pipe, pipe_by, free_descriptors, second_of, lowest_pipe}
use Rattle.dos_world.specs.DescriptorCalls.{with_end}
use Rattle.dos_world.specs.declared.End.{End}
use Rattle.dos_world.specs.declared.End.TheVariants.{PipeRead, PipeWrite}
use Rattle.dos_laws.proofs.Holders.{has_changed}
use Rattle.dos_laws.proofs.StandsMasks.{found_in}
use Rattle.proc_table.specs.Tables.{Tables, IsProcess, held_in, held_by, thread_by}
use Rattle.kernel_objects.specs.Pipework.{Pipework, is_open_at, lowest_closed, with_opened}
use Rattle.kernel_calls.specs.Ends.{with_end_more}
use Rattle.kernel_calls.specs.StateWorld.{IsCounted, IsSound, sent, world_of}
use Rattle.kernel_calls.specs.CallResults.{AreAsked, ActsQuietly, call_in}
use Rattle.kernel_calls.specs.declared.state.State.{State}
use Rattle.kernel_calls.specs.declared.state.Asked.{Asked}
use Rattle.kernel_calls.specs.declared.state.Served.TheVariants.{Went}
use Rattle.kernel_calls.proofs.Callers.{has as known, process_lives}
use Rattle.kernel_calls.proofs.Counted.{counted-thread_by}
use Rattle.kernel_calls.proofs.DescriptorCounts.{IsFreeAt, count_set, end_at, free_count}
use Rattle.kernel_calls.proofs.DescriptorCounts.{lowest_is_free, second_free}
use Rattle.kernel_calls.proofs.DescriptorRows.{asker_has, counted_set, lowest_free, of_held}
use Rattle.kernel_calls.proofs.DescriptorRows.{with_set}
use Rattle.kernel_calls.proofs.EndCounts.{counted_more}
use Rattle.kernel_calls.proofs.ProcessEnds.{open-counted, still_live}
use Rattle.kernel_calls.proofs.Sending.{answering}

-- the state after two answers
abbrev pub answering_two : State → ℕ → ℕ → ℕ → State
answering_two s t first second =
    record s { table = thread_by (registers_by (answered_two first second)) s.table t }

-- ---- the lowest pipe that isn't open

find_same : (f g : ℕ → Bool) → ((k : ℕ) → f k ≡ g k) → (xs : List ℕ) → find f xs ≡ find g xs
find_same f g same [] = refl
find_same f g same (x ∷ xs) =
    ap (λ b. cond b (Some x) (find f xs)) (same x)
    ∙ ap (λ rest. cond (g x) (Some x) rest) (find_same f g same xs)

found_passes : (test : ℕ → Bool) (xs : List ℕ) (k : ℕ) → find test xs ≡ Some k → test k ≡ true
found_passes test [] k e = cc
found_passes test (x ∷ xs) k e = by (test x) refl (found_passes test xs k) e
  where
    by : (b : Bool) → test x ≡ b → (find test xs ≡ Some k → test k ≡ true)
        → cond b (Some x) (find test xs) ≡ Some k → test k ≡ true
    by true passes rest found = let same : x ≡ k = cc in ap test (sym same) ∙ passes
    by false fails rest found = rest found

both_none : (a b : ℕ) → not (not ((a == 0) && (b == 0))) ≡ true → (a ≡ 0) × (b ≡ 0)
both_none a b closed = by (a == 0) (b == 0) refl refl closed
  where
    by : (x y : Bool) → (a == 0) ≡ x → (b == 0) ≡ y → not (not (x && y)) ≡ true
        → (a ≡ 0) × (b ≡ 0)
    by true true p q closed = (eqb-true a 0 p, eqb-true b 0 q)
    by true false p q closed = cc
    by false y p q closed = cc

-- It has no end, so once it is open it has one more of each kind.
opened_is : (s : Pipework) (n : ℕ) → Some n ≡ lowest_closed s
    → with_opened s n ≡ with_end_more (PipeWrite n) (with_end_more (PipeRead n) s)
opened_is s n lowest =
    let none = both_none (get_or s.readers n 0) (get_or s.writers n 0)
    (found_passes (λ k. not (is_open_at s k)) (run_of 0 (length s.readers)) n (sym lowest)) in
    ap (λ k. at k 1) (sym (ap (λ k. k + 1) none.0))
    ∙ ap (λ k. at (get_or s.readers n 0 + 1) k) (sym (ap (λ k. k + 1) none.1))
  where
    at : ℕ → ℕ → Pipework
    at readers writers = record s {
      readers = slice_set s.readers n readers;
      writers = slice_set s.writers n writers;
    }

-- ---- refusals

module _ (c : Call) where
  pub no_second : (x y z : Option ℕ) → y ≡ None → pipe_by x y z c ≡ refuses 24 c
  no_second None y z e = refl
  no_second (Some x) None z e = refl
  no_second (Some x) (Some y) z e = cc

  pub no_pipe : (x y z : Option ℕ) → z ≡ None → pipe_by x y z c ≡ refuses 24 c
  no_pipe None y z e = refl
  no_pipe (Some x) None z e = refl
  no_pipe (Some x) (Some y) None e = refl
  no_pipe (Some x) (Some y) (Some z) e = cc

-- ---- the row

module _ (s : State) (sound : IsSound s) (a : Asked) (are : AreAsked s a) where
  abbrev held : Option Holdings
  held = held_in s.table.processes a.process

  has : (h : Holdings) × (held ≡ Some h)
  has = asker_has s sound a are

  pub lives_still : (k : ℕ) (end : Option End) (table : Tables)
      → table ≡ held_by (with_end k end) s.table a.process → IsProcess table.processes a.process
  lives_still k end table is =
      subst (λ (T : Tables). IsProcess T.processes a.process) (sym is)
      (still_live (with_end k end) s.table.processes a.process
      (process_lives s a sound are))

  pub have_32 : IfSome held (λ h. length h.descriptors ≡ 32)
  have_32 =
      let k = known s a.process sound (process_lives s a sound are) in
      subst (λ (o : Option Holdings). IfSome o (λ h. length h.descriptors ≡ 32)) (sym k.is)
      k.are.descriptors.0

  abbrev ends : List (Option End)
  ends = has.0.descriptors

  abbrev call : ℕ → List ℕ → List ℕ → Call
  call q o e = call_in (sent o e (world_of q s)) a

  abbrev ends_shown : Option Holdings → List (Option End)
  ends_shown x = elim x as (λ _. List (Option End)) [ None ↦ [] | Some h ↦ h.descriptors ]

  abbrev free_of : List (Option End) → List ℕ
  free_of xs = filter (λ number. is_none (end_at xs number)) (run_of 0 (length xs))

  shown : (q : ℕ) (o e : List ℕ) → free_descriptors (call q o e) ≡ free_of ends
  shown q o e = ap (λ (x : Option Holdings). free_of (ends_shown x)) has.1

  from_zero : (i : ℕ) → is_none (end_at ends (0 + i)) ≡ is_none (end_at ends i)
  from_zero i = ap (λ k. is_none (end_at ends k)) (omega arith)

  second_lowest : (end : End) (k : ℕ) (q : ℕ) (o e : List ℕ) → Some k ≡ position is_none ends
      → second_of (free_descriptors (call q o e)) ≡ position is_none (slice_set ends k (Some end))
  second_lowest end k q o e lowest =
      let same : k ≡ 0 + k = omega arith in
      ap second_of (shown q o e)
      ∙ second_free (λ number. is_none (end_at ends number)) end ends 0 k from_zero
      (sym (lowest ∙ position_from-zero is_none ends) ∙ ap Some same)
      ∙ sym (position_from-zero is_none (slice_set ends k (Some end)))

  pipe_is : (q : ℕ) (o e : List ℕ) → lowest_pipe (sent o e (world_of q s)) ≡ lowest_closed s.pipes
  pipe_is q o e =
      find_same (λ n. not (is_open (sent o e (world_of q s)) n)) (λ n. not (is_open_at s.pipes n))
      (λ n. ap not (sym (open-counted s.table.processes s.pipes sound.counted.ends
      (sent o e (world_of q s)) refl n))) (run_of 0 64)
      ∙ ap (λ count. find (λ n. not (is_open_at s.pipes n)) (run_of 0 count))
      (sym sound.counted.ends.reader_counts)

  -- fewer than two are free
  pub pipe_few : (new : State) (n : ℕ) → IfSome held (λ h. n ≡ count_by is_none h.descriptors)
      → n < 2 → new ≡ answering s a.thread (minus 24) → ActsQuietly pipe s a Went new
  pipe_few new n count few answers q o e =
      let c : Call = call q o e in
      let counts : n ≡ count_by is_none ends =
      of_held s a has.0 has.1 (λ h. n ≡ count_by is_none h.descriptors) count in
      no_second c (first_of (free_descriptors c)) (second_of (free_descriptors c))
      (lowest_pipe c.world)
      (ap second_of (shown q o e)
      ∙ slice_get_past (free_of ends) 1
      (omega (
        arith,
        few,
        counts,
        free_count (λ number. is_none (end_at ends number)) ends 0 from_zero,
      )))
      ∙ ap (λ x. done (went (sent o e (world_of q x)))) (sym answers)

  -- all are open
  pub pipe_full : (new : State) → None ≡ lowest_closed s.pipes
      → new ≡ answering s a.thread (minus 24) → ActsQuietly pipe s a Went new
  pipe_full new full answers q o e =
      let c : Call = call q o e in
      no_pipe c (first_of (free_descriptors c)) (second_of (free_descriptors c))
      (lowest_pipe c.world) (pipe_is q o e ∙ sym full)
      ∙ ap (λ x. done (went (sent o e (world_of q x)))) (sym answers)

  -- once one is set, one is free
  pub one_free : (n k : ℕ) (end : End) (table : Tables)
      → IfSome held (λ h. n ≡ count_by is_none h.descriptors) → 2 ≤ n
      → IfSome held (λ h. Some k ≡ position is_none h.descriptors)
      → table ≡ held_by (with_end k (Some end)) s.table a.process
      → IfSome (held_in table.processes a.process) (λ h. 0 < count_by is_none h.descriptors)
  one_free n k end table count two lowest opens =
      let counts : n ≡ count_by is_none ends =
      of_held s a has.0 has.1 (λ h. n ≡ count_by is_none h.descriptors) count in
      let free : IsFreeAt ends k =
      lowest_is_free ends k
      (of_held s a has.0 has.1 (λ h. Some k ≡ position is_none h.descriptors) lowest) in
      let was : cond {A = ℕ} (is_none (end_at ends k)) 1 0 ≡ 1 =
      ap (λ x. cond {A = ℕ} (is_none x) 1 0) free.closed in
      subst (λ (o : Option Holdings). IfSome o (λ h. 0 < count_by is_none h.descriptors))
      (sym (ap (λ (T : Tables). held_in T.processes a.process) opens
      ∙ has_changed (with_end k (Some end)) s.table.processes a.process has.0 has.1))
      (omega (arith, counts, two, was, count_set is_none ends k (Some end) free.within))

  module _ (n reading writing : ℕ) (lowest : Some n ≡ lowest_closed s.pipes)
      (first : Some reading ≡ position is_none ends)
      (second : Some writing ≡ position is_none (slice_set ends reading (Some (PipeRead n))))
    where
      abbrev reader : End
      reader = PipeRead n

      abbrev writer : End
      writer = PipeWrite n

      abbrev between : State
      between = with_set s a.process reading (Some reader) (with_end_more reader s.pipes)

      abbrev after : State
      after = with_set between a.process writing (Some writer)
          (with_end_more writer (with_end_more reader s.pipes))

      goes : (q : ℕ) (o e : List ℕ)
          → pipe (call q o e)
          ≡ done (went (sent o e (world_of q (answering_two after a.thread reading writing))))
      goes q o e =
          let c : Call = call q o e in
          ap (λ x. pipe_by x (second_of (free_descriptors c)) (lowest_pipe c.world) c)
          (lowest_free s a has.0 has.1 q o e ∙ sym first)
          ∙ ap (λ x. pipe_by (Some reading) x (lowest_pipe c.world) c)
          (second_lowest reader reading q o e first ∙ sym second)
          ∙ ap (λ x. pipe_by (Some reading) (Some writing) x c) (pipe_is q o e ∙ sym lowest)

      low : n < 64
      low = let within =
          found_in (λ k. not (is_open_at s.pipes k)) 0 (length s.pipes.readers) n (sym lowest) in
          omega (arith, within.1, sound.counted.ends.reader_counts)

      counted_between : IsCounted between
      counted_between =
          counted_set s a.process has.0 reading (Some reader) (with_end_more reader s.pipes) has.1
          sound.counted
          (counted_more s.table.processes a.process has.0 reading has.1
          (lowest_is_free ends reading first) s.pipes sound.counted.ends reader low)

      abbrev now : Holdings
      now = with_end reading (Some reader) has.0

      now_is : held_in between.table.processes a.process ≡ Some now
      now_is =
          has_changed (with_end reading (Some reader)) s.table.processes a.process has.0 has.1

      counted_after : IsCounted after
      counted_after =
          counted_set between a.process now writing (Some writer)
          (with_end_more writer (with_end_more reader s.pipes)) now_is counted_between
          (counted_more between.table.processes a.process now writing now_is
          (lowest_is_free now.descriptors writing second) (with_end_more reader s.pipes)
          counted_between.ends writer low)

  pub pipe_row : (n reading writing : ℕ) (begun done_both : Tables) (pipes : Pipework) (new : State)
      → Some n ≡ lowest_closed s.pipes → pipes ≡ with_opened s.pipes n
      → IfSome held (λ h. Some reading ≡ position is_none h.descriptors)
      → begun ≡ held_by (with_end reading (Some (PipeRead n))) s.table a.process
      → IfSome (held_in begun.processes a.process)
      (λ h. Some writing ≡ position is_none h.descriptors)
      → done_both ≡ held_by (with_end writing (Some (PipeWrite n))) begun a.process
      → new ≡ answering_two (record s { table = done_both; pipes = pipes }) a.thread reading writing
      → ActsQuietly pipe s a Went new × IsCounted new
  pipe_row n reading writing begun done_both pipes new lowest opened first one second two answers =
      let front : Some reading ≡ position is_none ends =
      of_held s a has.0 has.1 (λ h. Some reading ≡ position is_none h.descriptors) first in
      let back : Some writing ≡ position is_none (slice_set ends reading (Some (PipeRead n))) =
      subst (λ (o : Option Holdings). IfSome o
      (λ h. Some writing ≡ position is_none h.descriptors))
      (ap (λ (T : Tables). held_in T.processes a.process) one
      ∙ has_changed (with_end reading (Some (PipeRead n))) s.table.processes a.process has.0 has.1)
      second in
      let left : new ≡ answering_two (after_both n reading writing) a.thread reading writing =
      answers
      ∙ ap (λ (T : Tables). answering_two (record s { table = T; pipes = pipes }) a.thread reading
      writing)
      (two ∙ ap (λ (T : Tables). held_by (with_end writing (Some (PipeWrite n))) T a.process) one)
      ∙ ap (λ (P : Pipework). answering_two (record s {
        table = held_by (with_end writing (Some (PipeWrite n)))
            (held_by (with_end reading (Some (PipeRead n))) s.table a.process) a.process;
        pipes = P;
      }) a.thread reading writing) (opened ∙ opened_is s.pipes n lowest) in (
        λ q o e. goes n reading writing lowest front back q o e
            ∙ ap (λ x. done (went (sent o e (world_of q x)))) (sym left),
        subst IsCounted (sym left)
            (counted-thread_by (after_both n reading writing) a.thread
            (registers_by (answered_two reading writing))
            (counted_after n reading writing lowest front back)),
      )
    where
      after_both : ℕ → ℕ → ℕ → State
      after_both n reading writing = record s {
        table = held_by (with_end writing (Some (PipeWrite n)))
            (held_by (with_end reading (Some (PipeRead n))) s.table a.process) a.process;
        pipes = with_end_more (PipeWrite n) (with_end_more (PipeRead n) s.pipes);
      }
