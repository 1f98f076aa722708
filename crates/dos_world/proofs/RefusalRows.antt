-- Each service tests the conditions of its row in order, and what it gives where none holds is no
-- refusal.
use Rattle.std.proofs.Common.{ℕ, ◌+◌, ◌<◌, ◌≤◌, ◌≡◌, ◌⊎◌, inl, inr, refl, sym, ap, ◌∙◌, subst, Bool}
use Rattle.std.proofs.Common.{cond, true, false, not, List, [], ◌∷◌, length, take, drop, min, ◌-◌}
use Rattle.std.proofs.Common.{Option, Some, None, Ok, Err, arith}
use Rattle.std.specs.Prelude.{find, is_none, ◌==◌, ◌&&◌, ◌||◌, nat_lt, slice_index, IsTrue}
use Rattle.std.proofs.lemmas.Bool.{le-ltb, cases_lt, eqb-true}
use Rattle.std.proofs.lemmas.List.{get_or_past}
use Rattle.dos_world.specs.Numbered.{run_of}
use Rattle.dos_world.specs.World.{World, Thread, Holdings, Entry, Registers, first_of, entry_at}
use Rattle.dos_world.specs.World.{live_process, thread_at, with_holdings, with_thread, action_of}
use Rattle.dos_world.specs.World.{has_ended}
use Rattle.dos_world.specs.Kernel.{answered, answered_two, has_reader, has_writer, free_frames}
use Rattle.dos_world.specs.Kernel.{all_reach, opened, copied_out, posted, tidied}
use Rattle.dos_world.specs.Play.{Play, done}
use Rattle.dos_world.specs.Calls.{Served, Service, went, waits, yields, Call, returns, returns_in}
use Rattle.dos_world.specs.Calls.{returns_two, refuses, refuses_in, replies, retries, mask_of}
use Rattle.dos_world.specs.ThreadCalls.{thread_exit, thread_new, get_tid, yield, next_thread}
use Rattle.dos_world.specs.ThreadCalls.{with_new_thread, new_registers, ready_thread}
use Rattle.dos_world.specs.ProcessCalls.{process_exit, get_pid, fork, forked_by, with_child}
use Rattle.dos_world.specs.ProcessCalls.{child_thread, copied_space, are_processes_full}
use Rattle.dos_world.specs.ProcessCalls.{private_entries, next_process, wait, wait_by}
use Rattle.dos_world.specs.ProcessCalls.{children_where, any_process, collected, status_at}
use Rattle.dos_world.specs.DescriptorCalls.{pipe, pipe_by, close, dup, dup_by, read, read_by}
use Rattle.dos_world.specs.DescriptorCalls.{read_input, read_pipe, write, write_by, write_output}
use Rattle.dos_world.specs.DescriptorCalls.{write_error, write_some, count_of, descriptor}
use Rattle.dos_world.specs.DescriptorCalls.{descriptors_of, free_descriptors, second_of}
use Rattle.dos_world.specs.DescriptorCalls.{lowest_pipe, pipe_bytes, with_pipe, with_descriptor}
use Rattle.dos_world.specs.FutexCalls.{futex_wait, futex_wait_at, futex_wake, futex_wake_at}
use Rattle.dos_world.specs.FutexCalls.{by_entry, futex_word, is_off_word, asleep_at, all_woken}
use Rattle.dos_world.specs.FutexCalls.{sleepers_at, sleeps_at}
use Rattle.dos_world.specs.MemoryCalls.{map_pages, mapped_fresh, unmap, share, pages_of}
use Rattle.dos_world.specs.MemoryCalls.{without_pages, with_shared}
use Rattle.dos_world.specs.SignalCalls.{sig_handler, sig_mask, sig_return, sig_return_by, saved_of}
use Rattle.dos_world.specs.SignalCalls.{kill, with_action, masked, restored}
use Rattle.dos_world.specs.Services.{services, clock, round_number}
use Rattle.dos_world.specs.Refusals.{Condition, refusals, conditions_by, first_that_holds, refused}
use Rattle.dos_world.specs.Refusals.{is_unreadable, is_unwritable, is_unread, lacks_byte}
use Rattle.dos_world.specs.Lawful.{IsAction}
use Rattle.dos_world.specs.declared.Access.TheVariants.{Load, Store}
use Rattle.dos_world.specs.declared.End.{End}
use Rattle.dos_world.specs.declared.End.TheVariants.{Input, Output, Error, PipeRead, PipeWrite}
use Rattle.dos_world.proofs.Caller.{lives, lives-changed, lives-more, lives-posted}
use Rattle.dos_world.proofs.Caller.{threads-copied_in, threads-copied_out, threads-copied_space}
use Rattle.dos_world.proofs.Caller.{threads-mapped_fresh, a0-set}
use Rattle.dos_world.proofs.Unrefused.{NotRefused, IsNoError, gone-not, waits-not, yields-not}
use Rattle.dos_world.proofs.Unrefused.{ask-not, answer-not, a0-two, small-no_error, mask-no_error}
use Rattle.dos_world.proofs.Unrefused.{AreBelow, below-run, below-places, below-filter, below-first}
use Rattle.dos_world.proofs.Unrefused.{wake-not, return-not}
use Rattle.dos_world.proofs.UsualCalls.{IsUsual}

-- ---- conditions in order

-- what is done by the first condition that holds, and where none does
abbrev pub checked : {A : Type 0} → List Condition → Call → (ℕ → A) → A → A
checked [] c refuse go = go
checked (row ∷ rows) c refuse go = let later = checked rows c refuse go in
    cond (row.1 c) (refuse row.0) later

pub checked-some : {A : Type 0} (rows : List Condition) (c : Call) (refuse : ℕ → A) (go : A)
    (number : ℕ) → first_that_holds rows c ≡ Some number
    → checked rows c refuse go ≡ refuse number
checked-some [] c refuse go number h = absurd cc
checked-some (row ∷ rows) c refuse go number h =
    by_first (row.1 c) h (checked-some rows c refuse go number)
  where
    by_first : (b : Bool) → cond b (Some row.0) (first_that_holds rows c) ≡ Some number
        → (first_that_holds rows c ≡ Some number → checked rows c refuse go ≡ refuse number)
        → cond b (refuse row.0) (checked rows c refuse go) ≡ refuse number
    by_first true h rest = let same : row.0 ≡ number = cc in ap refuse same
    by_first false h rest = rest h

pub checked-none : {A : Type 0} (rows : List Condition) (c : Call) (refuse : ℕ → A) (go : A)
    → first_that_holds rows c ≡ None → checked rows c refuse go ≡ go
checked-none [] c refuse go h = refl
checked-none (row ∷ rows) c refuse go h = by_first (row.1 c) h (checked-none rows c refuse go)
  where
    by_first : (b : Bool) → cond b (Some row.0) (first_that_holds rows c) ≡ None
        → (first_that_holds rows c ≡ None → checked rows c refuse go ≡ go)
        → cond b (refuse row.0) (checked rows c refuse go) ≡ go
    by_first true h rest = absurd cc
    by_first false h rest = rest h

-- a service that replies with a world or a refusal
replies-checked : (rows : List Condition) (w : World) (value : ℕ) (c : Call)
    → replies (checked rows c Err (Ok w)) value c ≡ checked rows c (λ number. refuses number c)
    (returns_in w value c)
replies-checked [] w value c = refl
replies-checked (row ∷ rows) w value c = by_first (row.1 c) (replies-checked rows w value c)
  where
    by_first : (b : Bool)
        → replies (checked rows c Err (Ok w)) value c ≡ checked rows c (λ number. refuses number c)
        (returns_in w value c)
        → replies (cond b (Err row.0) (checked rows c Err (Ok w))) value c
        ≡ cond b (refuses row.0 c)
        (checked rows c (λ number. refuses number c) (returns_in w value c))
    by_first true rest = refl
    by_first false rest = rest

-- ---- a row

-- a refusal of a service
abbrev pub refusal_play : ℕ → Call → ℕ → Play Served
refusal_play service c number = done (went (refused service number c))

-- A service is its conditions in order, and something that is no refusal.
abbrev pub IsRow : (ℕ × Service) → Type 0
IsRow row = (c : Call) (thread : Thread) → thread_at c.world c.thread ≡ Some thread
    → (go : Play Served) ×
    (row.1 c ≡ checked (conditions_by (find (λ r. r.0 == row.0) refusals)) c
    (refusal_play row.0 c) go) × (IsUsual c → NotRefused row.0 c go)

-- a value in a0, in a world with the caller's thread
value-not : (service : ℕ) (c : Call) (w : World) (value : ℕ) → IsNoError value
    → IsTrue (lives w.threads c.thread) → IsUsual c → NotRefused service c (returns_in w value c)
value-not service c w value no_error there u =
    answer-not service c w (answered value) value (a0-set value) no_error there u.alive

-- the same where the threads are the call's
same-not : (service : ℕ) (c : Call) (w : World) (value : ℕ) → value < 0xF0000000
    → w.threads ≡ c.world.threads → IsUsual c → NotRefused service c (returns_in w value c)
same-not service c w value small same u =
    value-not service c w value (small-no_error value small)
    (subst (λ ts. IsTrue (lives ts c.thread)) (sym same) u.alive) u

two-not : (service : ℕ) (c : Call) (w : World) (first second : ℕ) → first < 0xF0000000
    → w.threads ≡ c.world.threads → IsUsual c → NotRefused service c (returns_two w first second c)
two-not service c w first second small same u =
    answer-not service c w (answered_two first second) first (a0-two first second)
    (small-no_error first small)
    (subst (λ ts. IsTrue (lives ts c.thread)) (sym same) u.alive) u.alive

retries-not : (service : ℕ) (c : Call) → NotRefused service c (retries c)
retries-not service c number above below e = waits-not service c _ number above below e

-- ---- threads

row-1 : IsRow (1, thread_exit)
unfolding refusals
row-1 c thread is = (thread_exit c, refl, λ u. gone-not 1 c _)

row-2 : IsRow (2, process_exit)
unfolding refusals
row-2 c thread is = (process_exit c, refl, λ u. gone-not 2 c _)

row-3 : IsRow (3, thread_new)
unfolding refusals
row-3 c thread is =
    let begun : Thread = ready_thread c.process (new_registers c.a0 c.a1 c.a2) (mask_of c) [] in (
      returns_in (with_new_thread c.world begun) (next_thread c.world) c,
      refl,
      λ u. value-not 3 c (with_new_thread c.world begun) (next_thread c.world)
          (small-no_error (next_thread c.world) (omega (arith, u.threads)))
          (lives-more c.world.threads (Some begun ∷ []) c.thread u.alive) u,
    )

row-20 : IsRow (20, get_pid)
unfolding refusals
row-20 c thread is = (
  get_pid c,
  refl,
  λ u.
      same-not 20 c c.world c.process (omega (arith, u.process)) refl u,
)

row-21 : IsRow (21, get_tid)
unfolding refusals
row-21 c thread is = (
  get_tid c,
  refl,
  λ u.
      same-not 21 c c.world c.thread (omega (arith, u.thread)) refl u,
)

row-22 : IsRow (22, clock)
unfolding refusals
row-22 c thread is = (clock c, refl, λ u. ask-not 22 c _ _ _ _)

row-23 : IsRow (23, yield)
unfolding refusals
row-23 c thread is = (yield c, refl, λ u. yields-not 23 c _)

row-24 : IsRow (24, round_number)
unfolding refusals
row-24 c thread is = (
  round_number c,
  refl,
  λ u. same-not 24 c c.world (c.world.rounds + 1)
      (omega (arith, u.rounds)) refl u,
)

-- ---- fork and wait

cond-same : {A : Type 0} (b : Bool) (x : A) → x ≡ cond b x x
cond-same true x = refl
cond-same false x = refl

-- what fork is, by what the caller has and by its thread
fork-row : (c : Call) (o : Option Holdings) (t : Option Thread) → live_process c.world c.process ≡ o
    → (thread : Thread) → t ≡ Some thread
    → (go : Play Served) × (replies (forked_by c o t) (next_process c.world) c
    ≡ cond (are_processes_full c.world.processes c.world.threads) (refuses 11 c)
    (cond (nat_lt (free_frames c.world)
    (private_entries
    (elim o as (λ _. List (ℕ × Entry)) [ None ↦ [] | Some h ↦ h.space ])))
    (refuses 12 c) go))
    × (IsUsual c → NotRefused 4 c go)
fork-row c o None e thread is = absurd cc
fork-row c None (Some t) e thread is = (
  refuses 11 c,
  full_or_not ∙ ap (λ b. cond (are_processes_full c.world.processes c.world.threads) (refuses 11 c)
      (cond b (refuses 12 c) (refuses 11 c)))
      (sym (le-ltb (free_frames c.world) 0 (omega arith))),
  λ u. let none : ◌≡◌ {A = Option Holdings} None (Some u.holdings) = sym e ∙ u.live in absurd cc,
)
  where
    full_or_not : refuses 11 c ≡ cond (are_processes_full c.world.processes c.world.threads)
        (refuses 11 c) (refuses 11 c)
    full_or_not = cond-same (are_processes_full c.world.processes c.world.threads) (refuses 11 c)
fork-row c (Some h) (Some t) e thread is =
    let there : World = with_child c h t in (
      returns_in there (next_process c.world) c,
      replies-checked ((11, λ c. are_processes_full c.world.processes c.world.threads)
          ∷ (12, λ c. nat_lt (free_frames c.world) (private_entries h.space)) ∷ []) there
          (next_process c.world) c,
      λ u. value-not 4 c there (next_process c.world)
          (small-no_error (next_process c.world) (omega (arith, u.processes)))
          (alive u.alive) u,
    )
  where
    alive : IsTrue (lives c.world.threads c.thread)
        → IsTrue (lives (with_child c h t).threads c.thread)
    alive here = lives-more (copied_space c.world (next_thread c.world) h.space).0.threads
        (Some (child_thread c.world t) ∷ []) c.thread
        (subst (λ ts. IsTrue (lives ts c.thread))
        (sym (threads-copied_space c.world (next_thread c.world) h.space)) here)

row-4 : IsRow (4, fork)
unfolding refusals
row-4 c thread is = fork-row c (live_process c.world c.process)
    (thread_at c.world c.thread) refl thread is

-- what wait is by the first child and the first that has ended
wait-row : (c : Call) (child over : Option ℕ) → first_of (children_where has_ended c) ≡ over
    → (go : Play Served) × (wait_by child over c ≡ cond (is_none child) (refuses 10 c) go)
    × (IsUsual c → NotRefused 5 c go)
wait-row c None over e = (done (yields c.world), refl, λ u. yields-not 5 c c.world)
wait-row c (Some any) None e = (retries c, refl, λ u. retries-not 5 c)
wait-row c (Some any) (Some p) e = (
  wait_by (Some any) (Some p) c,
  refl,
  λ u. two-not 5 c (collected c.world p) p
      (status_at c.world p) (small u) refl u,
)
  where
    small : IsUsual c → p < 0xF0000000
    small u = below-first 0xF0000000 (children_where has_ended c) p
        (below-filter 0xF0000000 _ _
        (below-places 0xF0000000 _ 1 c.world.processes (omega (arith, u.processes)))) e

row-5 : IsRow (5, wait)
unfolding refusals
row-5 c thread is = wait-row c (first_of (children_where any_process c))
    (first_of (children_where has_ended c)) refl

-- ---- descriptors

free_is_small : (c : Call) → IsUsual c → AreBelow 0xF0000000 (free_descriptors c)
free_is_small c u = below-filter 0xF0000000 _ (run_of 0 (length (descriptors_of c)))
    (below-run 0xF0000000 0 (length (descriptors_of c)) (omega (arith, count)))
  where
    count : length (descriptors_of c) ≡ 32
    count = ap (λ o. length
        (elim o as (λ _. List (Option End)) [ None ↦ [] | Some h ↦ h.descriptors ])) u.live
        ∙ u.descriptors

pipe-row : (c : Call) (free : List ℕ) (lowest : Option ℕ) → free_descriptors c ≡ free
    → (go : Play Served) ×
    (pipe_by (first_of free) (second_of free) lowest c
    ≡ cond (is_none (second_of free) || is_none lowest) (refuses 24 c) go)
    × (IsUsual c → NotRefused 6 c go)
pipe-row c [] lowest e = (done (yields c.world), refl, λ u. yields-not 6 c c.world)
pipe-row c (x ∷ []) lowest e = (done (yields c.world), refl, λ u. yields-not 6 c c.world)
pipe-row c (x ∷ y ∷ free) None e = (done (yields c.world), refl, λ u. yields-not 6 c c.world)
pipe-row c (x ∷ y ∷ free) (Some pipe) e = (
  pipe_by (Some x) (Some y) (Some pipe) c,
  refl,
  λ u.
      two-not 6 c _ x y (subst (AreBelow 0xF0000000) e (free_is_small c u)).0 refl u,
)

row-6 : IsRow (6, pipe)
unfolding refusals
row-6 c thread is = pipe-row c (free_descriptors c) (lowest_pipe c.world) refl

close-row : (c : Call) (o : Option End)
    → (go : Play Served) ×
    (elim o as (λ _. Play Served) [
      | None ↦ refuses 9 c
      | Some end ↦ returns_in (tidied (with_descriptor c c.world c.a0 None)) 0 c
    ]
    ≡ cond (is_none o) (refuses 9 c) go)
    × (IsUsual c → NotRefused 9 c go)
close-row c None = (done (yields c.world), refl, λ u. yields-not 9 c c.world)
close-row c (Some end) = (
  returns_in (tidied (with_descriptor c c.world c.a0 None)) 0 c,
  refl,
  λ u.
      same-not 9 c (tidied (with_descriptor c c.world c.a0 None)) 0 (omega arith) refl u,
)

row-9 : IsRow (9, close)
unfolding refusals
row-9 c thread is = close-row c (descriptor c)

dup-row : (c : Call) (o : Option End) (free : List ℕ) → free_descriptors c ≡ free
    → (go : Play Served) ×
    (dup_by o (first_of free) c
    ≡ cond (is_none o) (refuses 9 c) (cond (is_none (first_of free)) (refuses 24 c) go))
    × (IsUsual c → NotRefused 10 c go)
dup-row c None free e = (done (yields c.world), refl, λ u. yields-not 10 c c.world)
dup-row c (Some end) [] e = (done (yields c.world), refl, λ u. yields-not 10 c c.world)
dup-row c (Some end) (x ∷ free) e = (
  dup_by (Some end) (Some x) c,
  refl,
  λ u.
      same-not 10 c (with_descriptor c c.world x (Some end)) x
      (subst (AreBelow 0xF0000000) e (free_is_small c u)).0 refl u,
)

row-10 : IsRow (10, dup)
unfolding refusals
row-10 c thread is = dup-row c (descriptor c) (free_descriptors c) refl

-- ---- read and write

-- what moves bytes, by whether none is asked for, whether all are mapped, and whether it is then
-- refused with 32
transfers-row : (service : ℕ) (c : Call) (moved : Play Served)
    → (IsUsual c → NotRefused service c moved) → (none reached unread : Bool)
    → (go : Play Served) ×
    (cond none (returns 0 c) (cond reached (cond unread (refuses 32 c) moved) (refuses 14 c))
    ≡ cond (not none && not reached) (refuses 14 c) (cond (not none && unread) (refuses 32 c) go))
    × (IsUsual c → NotRefused service c go)
transfers-row service c moved h true reached unread =
    (returns 0 c, refl, λ u. same-not service c c.world 0 (omega arith) refl u)
transfers-row service c moved h false true unread = (moved, refl, h)
transfers-row service c moved h false false unread =
    (done (yields c.world), refl, λ u. yields-not service c c.world)

-- the same for read, which has no such refusal
reads-row : (c : Call) (moved : Play Served) → (IsUsual c → NotRefused 7 c moved)
    → (none reached : Bool)
    → (go : Play Served) ×
    (cond none (returns 0 c) (cond reached moved (refuses 14 c))
    ≡ cond (not none && not reached) (refuses 14 c) go) × (IsUsual c → NotRefused 7 c go)
reads-row c moved h true reached =
    (returns 0 c, refl, λ u. same-not 7 c c.world 0 (omega arith) refl u)
reads-row c moved h false true = (moved, refl, h)
reads-row c moved h false false = (done (yields c.world), refl, λ u. yields-not 7 c c.world)

read_pipe-not : (c : Call) (pipe : ℕ) → IsUsual c → NotRefused 7 c (read_pipe pipe c)
read_pipe-not c pipe u = by_case (k == 0) (has_writer c.world pipe)
  where
    k : ℕ
    k = min (count_of c) (length (pipe_bytes c.world pipe))

    left : World
    left = with_pipe (copied_out c.world c.thread c.a1 (take k (pipe_bytes c.world pipe))) pipe
        (drop k (pipe_bytes c.world pipe))

    by_case : (b d : Bool)
        → NotRefused 7 c (cond b (cond d (retries c) (returns 0 c)) (returns_in left k c))
    by_case true true = retries-not 7 c
    by_case true false = same-not 7 c c.world 0 (omega arith) refl u
    by_case false d = same-not 7 c left k (omega arith)
        (threads-copied_out c.world c.thread c.a1 (take k (pipe_bytes c.world pipe))) u

read-row : (c : Call) (o : Option End)
    → (go : Play Served) ×
    (read_by o c ≡ cond (is_unreadable o) (refuses 9 c)
    (cond (lacks_byte Store c) (refuses 14 c) go)) × (IsUsual c → NotRefused 7 c go)
read-row c None = (done (yields c.world), refl, λ u. yields-not 7 c c.world)
read-row c (Some Input) =
    reads-row c (read_input c) (λ u. ask-not 7 c _ _ _ _) (count_of c == 0)
    (all_reach c.world c.thread c.a1 (count_of c) Store)
read-row c (Some Output) = (done (yields c.world), refl, λ u. yields-not 7 c c.world)
read-row c (Some Error) = (done (yields c.world), refl, λ u. yields-not 7 c c.world)
read-row c (Some (PipeRead n)) =
    reads-row c (read_pipe n c) (read_pipe-not c n) (count_of c == 0)
    (all_reach c.world c.thread c.a1 (count_of c) Store)
read-row c (Some (PipeWrite n)) = (done (yields c.world), refl, λ u. yields-not 7 c c.world)

row-7 : IsRow (7, read)
unfolding refusals
row-7 c thread is = read-row c (descriptor c)

write_pipe-not : (c : Call) (pipe : ℕ) → IsUsual c
    → NotRefused 8 c (cond (min (count_of c) (4096 - length (pipe_bytes c.world pipe)) == 0)
    (retries c) (write_some pipe (pipe_bytes c.world pipe)
    (min (count_of c) (4096 - length (pipe_bytes c.world pipe))) c))
write_pipe-not c pipe u = by_case (k == 0)
  where
    k : ℕ
    k = min (count_of c) (4096 - length (pipe_bytes c.world pipe))

    by_case : (b : Bool) → NotRefused 8 c
        (cond b (retries c) (write_some pipe (pipe_bytes c.world pipe) k c))
    by_case true = retries-not 8 c
    by_case false = same-not 8 c _ k (omega arith) (threads-copied_in c.world c.thread c.a1 k) u

write-row : (c : Call) (o : Option End)
    → (go : Play Served) ×
    (write_by o c ≡ cond (is_unwritable o) (refuses 9 c)
    (cond (lacks_byte Load c) (refuses 14 c)
    (cond (not (count_of c == 0) && is_unread c.world o) (refuses 32 c) go)))
    × (IsUsual c → NotRefused 8 c go)
write-row c None = (done (yields c.world), refl, λ u. yields-not 8 c c.world)
write-row c (Some Input) = (done (yields c.world), refl, λ u. yields-not 8 c c.world)
write-row c (Some Output) =
    transfers-row 8 c (write_output c)
    (λ u. same-not 8 c _ (count_of c) (omega arith)
    (threads-copied_in c.world c.thread c.a1 (count_of c)) u) (count_of c == 0)
    (all_reach c.world c.thread c.a1 (count_of c) Load) false
write-row c (Some Error) =
    transfers-row 8 c (write_error c)
    (λ u. same-not 8 c _ (count_of c) (omega arith)
    (threads-copied_in c.world c.thread c.a1 (count_of c)) u) (count_of c == 0)
    (all_reach c.world c.thread c.a1 (count_of c) Load) false
write-row c (Some (PipeRead n)) = (done (yields c.world), refl, λ u. yields-not 8 c c.world)
write-row c (Some (PipeWrite n)) =
    transfers-row 8 c _ (write_pipe-not c n) (count_of c == 0)
    (all_reach c.world c.thread c.a1 (count_of c) Load) (not (has_reader c.world n))

row-8 : IsRow (8, write)
unfolding refusals
row-8 c thread is = write-row c (descriptor c)

-- ---- futexes

wait-word : (c : Call) (e : Entry) (same : Bool)
    → cond same (done (waits (asleep_at (opened c.world c.thread c.a0 Load) e c)))
    (refuses_in (opened c.world c.thread c.a0 Load) 11 c)
    ≡ cond (not same) (refusal_play 11 c 11)
    (done (waits (asleep_at (opened c.world c.thread c.a0 Load) e c)))
wait-word c e true = refl
wait-word c e false = refl

sleep-row : (c : Call) (o : Option Entry)
    → (go : Play Served) × (cond (is_off_word c) (refuses 22 c) (by_entry futex_wait_at o c)
    ≡ cond (is_off_word c) (refuses 22 c)
    (cond (is_none o) (refuses 14 c)
    (cond (elim o as (λ _. Bool) [
      | None ↦ false
      | Some e ↦ not (futex_word e c == c.a1)
    ]) (refusal_play 11 c 11) go)))
    × (IsUsual c → NotRefused 11 c go)
sleep-row c None = (done (yields c.world), refl, λ u. yields-not 11 c c.world)
sleep-row c (Some e) = (
  done (waits (asleep_at (opened c.world c.thread c.a0 Load) e c)),
  ap (cond (is_off_word c) (refuses 22 c)) (wait-word c e (futex_word e c == c.a1)),
  λ u.
      waits-not 11 c _,
)

row-11 : IsRow (11, futex_wait)
unfolding refusals
row-11 c thread is = sleep-row c (entry_at c.world c.thread c.a0)

wake-list : (c : Call) (e : Entry) (ts : List ℕ) → sleepers_at e c ≡ ts → IsUsual c
    → NotRefused 12 c (returns_in (all_woken c.world ts) (length ts) c)
wake-list c e [] is u = same-not 12 c c.world 0 (omega arith) refl u
wake-list c e (t ∷ ts) is u =
    wake-not 12 c (sleeps_at e c.a0) c.a1 (answered (length (t ∷ ts))) t ts is

wake-row : (c : Call) (o : Option Entry)
    → (go : Play Served) ×
    (cond (is_off_word c) (refuses 22 c) (by_entry futex_wake_at o c)
    ≡ cond (is_off_word c) (refuses 22 c) (cond (is_none o) (refuses 14 c) go))
    × (IsUsual c → NotRefused 12 c go)
wake-row c None = (done (yields c.world), refl, λ u. yields-not 12 c c.world)
wake-row c (Some e) = (futex_wake_at e c, refl, wake-list c e (sleepers_at e c) refl)

row-12 : IsRow (12, futex_wake)
unfolding refusals
row-12 c thread is = wake-row c (entry_at c.world c.thread c.a0)

-- ---- memory

row-13 : IsRow (13, map_pages)
unfolding refusals
row-13 c thread is =
    let there : World = mapped_fresh c c.world (pages_of c) in (
      returns_in there 0 c,
      replies-checked (conditions_by (find (λ r. r.0 == 13) refusals)) there 0 c,
      λ u.
          same-not 13 c there 0 (omega arith) (threads-mapped_fresh c c.world (pages_of c)) u,
    )

row-14 : IsRow (14, unmap)
unfolding refusals
row-14 c thread is =
    let there : World = tidied (with_holdings c.world c.process (without_pages c)) in (
      returns_in there 0 c,
      replies-checked (conditions_by (find (λ r. r.0 == 14) refusals)) there 0 c,
      λ u.
          same-not 14 c there 0 (omega arith) refl u,
    )

row-15 : IsRow (15, share)
unfolding refusals
row-15 c thread is =
    let there : World = with_holdings c.world c.process (with_shared c) in (
      returns_in there 0 c,
      replies-checked (conditions_by (find (λ r. r.0 == 15) refusals)) there 0 c,
      λ u.
          same-not 15 c there 0 (omega arith) refl u,
    )

-- ---- signals

action-small : (c : Call) → IsUsual c → (signal : ℕ)
    → action_of c.world c.process signal < 0xF0000000
action-small c u signal =
    subst (λ o. elim o as (λ _. ℕ) [ None ↦ 0 | Some h ↦ slice_index h.actions (signal - 1) ] <
    0xF0000000) (sym u.live)
    (by_case (cases_lt (signal - 1) (length u.holdings.actions)))
  where
    by_case : ((signal - 1) < length u.holdings.actions)
        ⊎ (length u.holdings.actions ≤ (signal - 1))
        → slice_index u.holdings.actions (signal - 1) < 0xF0000000
    by_case (inl within) = of_action (u.actions (signal - 1) 0 within)
      where
        of_action : IsAction (slice_index u.holdings.actions (signal - 1))
            → slice_index u.holdings.actions (signal - 1) < 0xF0000000
        of_action (inl one) = omega (arith, one)
        of_action (inr place) = place.1
    by_case (inr past) = let zero_there : slice_index u.holdings.actions (signal - 1) ≡ 0 =
        get_or_past u.holdings.actions (signal - 1) 0 past in omega (arith, zero_there)

row-16 : IsRow (16, sig_handler)
unfolding refusals
row-16 c thread is =
    let there : World = with_holdings c.world c.process (with_action c.a0 c.a1) in (
      returns_in there (action_of c.world c.process c.a0) c,
      refl,
      λ u.
          same-not 16 c there (action_of c.world c.process c.a0)
          (action-small c u c.a0) refl u,
    )

row-17 : IsRow (17, sig_mask)
unfolding refusals
row-17 c thread is = (
  sig_mask c,
  refl,
  λ u. value-not 17 c (with_thread c.world c.thread (masked c.a0)) (mask_of c)
      (mask-no_error (mask_of c) u.mask)
      (lives-changed (masked c.a0) (λ x. refl) c.world.threads c.thread c.thread ∙ u.alive) u,
)

return-row : (c : Call) (thread : Thread) → thread_at c.world c.thread ≡ Some thread
    → (saved : List (Registers × ℕ)) → thread.saved ≡ saved
    → (go : Play Served) ×
    (sig_return_by saved c ≡ cond (is_none (first_of saved)) (refusal_play 18 c 22) go)
    × (IsUsual c → NotRefused 18 c go)
return-row c thread is [] e = (done (yields c.world), refl, λ u. yields-not 18 c c.world)
return-row c thread is (last ∷ others) e = (
  done (went (with_thread c.world c.thread (restored last others))),
  refl,
  λ u.
      return-not 18 c thread is last others e,
)

row-18 : IsRow (18, sig_return)
unfolding refusals
row-18 c thread is = return-row c thread is (saved_of c)
    (ap (λ o. elim o as (λ _. List (Registers × ℕ)) [ None ↦ [] | Some x ↦ x.saved ]) (sym is))

row-19 : IsRow (19, kill)
unfolding refusals
row-19 c thread is = (
  returns_in (cond (c.a1 == 0) c.world (posted c.world c.a0 c.a1)) 0 c,
  refl,
  λ u. value-not 19 c _ 0 (small-no_error 0 (omega arith)) (alive (c.a1 == 0) u.alive) u,
)
  where
    alive : (b : Bool) → IsTrue (lives c.world.threads c.thread)
        → IsTrue (lives (cond b c.world (posted c.world c.a0 c.a1)).threads c.thread)
    alive true h = h
    alive false h = lives-posted c.world c.a0 c.a1 c.thread ∙ h

-- ---- the table

-- what holds of each row of a table
abbrev pub AreRows : List (ℕ × Service) → Type 0
AreRows [] = Unit
AreRows (row ∷ rows) = IsRow row × AreRows rows

pub all-rows : AreRows services
unfolding services
all-rows = (
  row-1,
  (
    row-2,
    (
      row-3,
      (
        row-4,
        (
          row-5,
          (
            row-6,
            (
              row-7,
              (
                row-8,
                (
                  row-9,
                  (
                    row-10,
                    (
                      row-11,
                      (
                        row-12,
                        (
                          row-13,
                          (
                            row-14,
                            (
                              row-15,
                              (
                                row-16,
                                (
                                  row-17,
                                  (
                                    row-18,
                                    (
                                      row-19,
                                      (
                                        row-20,
                                        (row-21, (row-22, (row-23, (row-24, tt)))),
                                      ),
                                    ),
                                  ),
                                ),
                              ),
                            ),
                          ),
                        ),
                      ),
                    ),
                  ),
                ),
              ),
            ),
          ),
        ),
      ),
    ),
  ),
)

-- the row that is found
pub found-row : (rows : List (ℕ × Service)) → AreRows rows → (service : ℕ) (row : ℕ × Service)
    → find (λ r. r.0 == service) rows ≡ Some row → (row.0 ≡ service) × IsRow row
found-row [] all service row h = absurd cc
found-row (first ∷ rows) all service row h =
    by_first (first.0 == service) refl h (λ rest. found-row rows all.1 service row rest)
  where
    by_first : (b : Bool) → (first.0 == service) ≡ b
        → cond b (Some first) (find (λ r. r.0 == service) rows) ≡ Some row
        → (find (λ r. r.0 == service) rows ≡ Some row → (row.0 ≡ service) × IsRow row)
        → (row.0 ≡ service) × IsRow row
    by_first true e h rest = let same : first ≡ row = cc in
        subst (λ r. (r.0 ≡ service) × IsRow r) same (eqb-true first.0 service e, all.0)
    by_first false e h rest = rest h
