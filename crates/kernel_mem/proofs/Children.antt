-- A child added to a table, and the flat world's fork.
use Rattle.std.proofs.Common.{◌≡◌, ◌≢◌, ℕ, zero, suc, ◌+◌, ◌<◌, ◌≤◌, true, false, cond, List, []}
use Rattle.std.proofs.Common.{◌∷◌, ◌++◌, length, Option, Some, None, Ok, Err, IsSome, IfSome}
use Rattle.std.proofs.Common.{option_and_then, refl, sym, ap, subst, ◌∙◌, arith}
use Rattle.std.specs.Prelude.{nat_lt, slice_get}
use Rattle.std.proofs.lemmas.Bool.Decides.{nat_tests}
use Rattle.std.proofs.lemmas.List.Sums.{length-filter}
use Rattle.dos_world.specs.declared.Entry.{Entry}
use Rattle.dos_world.specs.Numbered.{changed, changed_at}
use Rattle.dos_world.specs.World.{World, Process, Holdings, Thread, Registers, holdings_of}
use Rattle.dos_world.specs.World.{is_free, on_holdings, released}
use Rattle.dos_world.specs.Kernel.{answered, free_frames}
use Rattle.dos_world.specs.Calls.{Call}
use Rattle.dos_world.specs.ThreadCalls.{ready_thread, with_new_thread}
use Rattle.dos_world.specs.ProcessCalls.{are_processes_full, child_process, child_thread}
use Rattle.dos_world.specs.ProcessCalls.{copied_space, forked, forked_by, private_entries}
use Rattle.dos_world.specs.ProcessCalls.{with_child}
use Rattle.page_store.specs.Store.{Store, free_count}
use Rattle.proc_table.specs.Tables.{Tables, IsProcess, IsLiveThread, held_as, held_in, thread_in}
use Rattle.proc_table.specs.Tables.{held_by, new_process, process_added}
use Rattle.kernel_mem.specs.MemoryWorld.{in_world, space_in, IsCaller}
use Rattle.kernel_mem.specs.Forking.{child_begun, child_without, fork_call, with_space}
use Rattle.kernel_mem.proofs.Loops.{space-is}

-- ---- the last of a list of processes

held_before : (ps : List Process) (x : Process) (p : ℕ) → IsSome (held_in ps p)
    → held_in (ps ++ x ∷ []) p ≡ held_in ps p
held_before ps x zero h = refl
held_before ps x (suc i) h = ap (option_and_then holdings_of) (at ps i h)
  where
    at : (ps : List Process) (i : ℕ) → IsSome (held_in ps (suc i))
        → slice_get (ps ++ x ∷ []) i ≡ slice_get ps i
    at [] i h = cc
    at (y ∷ ps) zero h = refl
    at (y ∷ ps) (suc i) h = at ps i h

pub held_last : (ps : List Process) (x : Process) (p : ℕ) → p ≡ length ps + 1
    → held_in (ps ++ x ∷ []) p ≡ holdings_of x
held_last ps x zero e = absurd (omega arith)
held_last ps x (suc i) e = ap (option_and_then holdings_of) (at ps i (omega arith))
  where
    at : (ps : List Process) (i : ℕ) → i ≡ length ps → slice_get (ps ++ x ∷ []) i ≡ Some x
    at [] zero e = refl
    at [] (suc i) e = absurd (omega arith)
    at (y ∷ ps) zero e = absurd (omega arith)
    at (y ∷ ps) (suc i) e = at ps i (omega arith)

changed_last : (f : Process → Process) (ps : List Process) (x : Process) (p : ℕ) → p ≡ length ps + 1
    → changed f (ps ++ x ∷ []) p ≡ ps ++ f x ∷ []
changed_last f ps x zero e = absurd (omega arith)
changed_last f ps x (suc i) e = at ps i (omega arith)
  where
    at : (ps : List Process) (i : ℕ) → i ≡ length ps
        → changed_at f (ps ++ x ∷ []) i ≡ ps ++ f x ∷ []
    at [] zero e = refl
    at [] (suc i) e = absurd (omega arith)
    at (y ∷ ps) zero e = absurd (omega arith)
    at (y ∷ ps) (suc i) e = ap (λ ys. y ∷ ys) (at ps i (omega arith))

-- a process that lives has a number that was given
given_lives : (ps : List Process) (p : ℕ) → IsSome (held_in ps p) → p ≤ length ps
given_lives ps zero h = omega arith
given_lives ps (suc i) h = omega (arith, at ps i h)
  where
    at : (ps : List Process) (i : ℕ) → IsSome (held_in ps (suc i)) → i < length ps
    at [] i h = absurd (cc)
    at (y ∷ ps) zero h = omega arith
    at (y ∷ ps) (suc i) h = omega (arith, at ps i h)

some_is : {A : Type 0} (o : Option A) → IsSome o → (x : A) × (o ≡ Some x)
some_is None h = cc
some_is (Some x) h = (x, refl)

-- ---- the child that is added

pub child-added : (old_table table last_table : Tables) (pid child : ℕ) (begun : Thread)
    → table ≡ process_added old_table (new_process pid) begun
    → child ≡ length old_table.processes + 1 → IsProcess old_table.processes pid
    → IfSome (held_in table.processes pid) (λ h. last_table ≡ held_by (held_as h) table child)
    → IfSome (held_in old_table.processes pid)
    (λ h. last_table ≡ process_added old_table (child_without pid h) begun)
child-added old_table table last_table pid child begun is number alive copied =
    let same : held_in table.processes pid ≡ held_in old_table.processes pid =
    ap (λ (T : Tables). held_in T.processes pid) is
    ∙ held_before old_table.processes (new_process pid) pid alive in
    by (held_in old_table.processes pid)
    (subst (λ (o : Option Holdings). IfSome o
    (λ h. last_table ≡ held_by (held_as h) table child)) same copied)
  where
    by : (o : Option Holdings) → IfSome o (λ h. last_table ≡ held_by (held_as h) table child)
        → IfSome o (λ h. last_table ≡ process_added old_table (child_without pid h) begun)
    by None c = tt
    by (Some h) c = c ∙ ap (λ (T : Tables). held_by (held_as h) T child) is
        ∙ ap (λ ps. with_processes ps)
        (changed_last (on_holdings (held_as h)) old_table.processes
        (new_process pid) child number)
      where
        with_processes : List Process → Tables
        with_processes ps =
            record (process_added old_table (new_process pid) begun) { processes = ps }

-- its thread begins with what the caller has
pub child-begins : (old_table last_table : Tables) (tid pid child : ℕ) (was regs : Registers)
    (mask : ℕ) (saved : List (Registers × ℕ)) → child ≡ length old_table.processes + 1
    → IfSome (thread_in old_table.threads tid) (λ thread. was ≡ thread.registers)
    → regs ≡ released (answered 0 was)
    → IfSome (thread_in old_table.threads tid) (λ thread. mask ≡ thread.mask)
    → IfSome (thread_in old_table.threads tid) (λ thread. saved ≡ thread.saved)
    → IfSome (held_in old_table.processes pid)
    (λ h. last_table ≡ process_added old_table (child_without pid h)
    (ready_thread child regs mask saved))
    → IfSome (held_in old_table.processes pid)
    (λ h. IfSome (thread_in old_table.threads tid)
    (λ thread. last_table ≡ process_added old_table (child_without pid h)
    (child_begun (length old_table.processes + 1) thread)))
child-begins old_table last_table tid pid child was regs mask saved number registers is masked saves
    added = by (held_in old_table.processes pid) added
  where
    begun : (o : Option Thread) → IfSome o (λ thread. was ≡ thread.registers)
        → IfSome o (λ thread. mask ≡ thread.mask) → IfSome o (λ thread. saved ≡ thread.saved)
        → IfSome o (λ thread. ready_thread child regs mask saved
        ≡ child_begun (length old_table.processes + 1) thread)
    begun None r m s = tt
    begun (Some thread) r m s =
        ap (λ n. ready_thread n regs mask saved) number
        ∙ ap (λ x. ready_thread (length old_table.processes + 1) x mask saved)
        (is ∙ ap (λ x. released (answered 0 x)) r)
        ∙ ap (λ x. ready_thread (length old_table.processes + 1)
        (released (answered 0 thread.registers)) x saved) m
        ∙ ap (λ x. ready_thread (length old_table.processes + 1)
        (released (answered 0 thread.registers)) thread.mask x) s

    inner : (h : Holdings) (o : Option Thread)
        → last_table ≡ process_added old_table (child_without pid h)
        (ready_thread child regs mask saved)
        → IfSome o (λ thread. ready_thread child regs mask saved
        ≡ child_begun (length old_table.processes + 1) thread)
        → IfSome o (λ thread. last_table ≡ process_added old_table (child_without pid h)
        (child_begun (length old_table.processes + 1) thread))
    inner h None e b = tt
    inner h (Some thread) e b = e ∙ ap (process_added old_table (child_without pid h)) b

    by : (o : Option Holdings)
        → IfSome o (λ h. last_table ≡ process_added old_table (child_without pid h)
        (ready_thread child regs mask saved))
        → IfSome o (λ h. IfSome (thread_in old_table.threads tid)
        (λ thread. last_table ≡ process_added old_table (child_without pid h)
        (child_begun (length old_table.processes + 1) thread)))
    by None e = tt
    by (Some h) e = inner h (thread_in old_table.threads tid) e
        (begun (thread_in old_table.threads tid) registers masked saves)

-- ---- a table with a child

pub record HasChild (old_table : Tables) (tid pid : ℕ) (table : Tables) : Type 0 where
  pub held : Holdings
  pub thread : Thread
  pub holds : held_in old_table.processes pid ≡ Some held
  pub runs : thread_in old_table.threads tid ≡ Some thread
  pub added : table ≡ process_added old_table (child_without pid held)
      (child_begun (length old_table.processes + 1) thread)

pub has-child : (old_table table : Tables) (tid pid : ℕ) → IsProcess old_table.processes pid
    → IsLiveThread old_table.threads tid
    → IfSome (held_in old_table.processes pid)
    (λ h. IfSome (thread_in old_table.threads tid)
    (λ thread. table ≡ process_added old_table (child_without pid h)
    (child_begun (length old_table.processes + 1) thread)))
    → HasChild old_table tid pid table
has-child old_table table tid pid alive runs added =
    let h = some_is (held_in old_table.processes pid) alive in
    let t = some_is (thread_in old_table.threads tid) runs in
    let one : IfSome (thread_in old_table.threads tid)
    (λ thread. table ≡ process_added old_table (child_without pid h.0)
    (child_begun (length old_table.processes + 1) thread)) =
    subst (λ (o : Option Holdings). IfSome o
    (λ k. IfSome (thread_in old_table.threads tid)
    (λ thread. table ≡ process_added old_table (child_without pid k)
    (child_begun (length old_table.processes + 1) thread)))) h.1 added in
    record {
      held = h.0;
      thread = t.0;
      holds = h.1;
      runs = t.1;
      added =
          subst (λ (o : Option Thread). IfSome o
          (λ thread. table ≡ process_added old_table (child_without pid h.0)
          (child_begun (length old_table.processes + 1) thread))) t.1 one;
    }

module _ {old_table : Tables} {tid pid : ℕ} {table : Tables}
    (has : HasChild old_table tid pid table) {child : ℕ}
    (number : child ≡ length old_table.processes + 1) where
  lives : IsProcess old_table.processes pid
  lives = subst (λ (o : Option Holdings). IsSome o) (sym has.holds) refl

  still : held_in table.processes pid ≡ held_in old_table.processes pid
  still = ap (λ (T : Tables). held_in T.processes pid) has.added
      ∙ held_before old_table.processes (child_without pid has.held) pid lives

  begins : held_in table.processes child ≡ Some (record has.held { space = [] })
  begins = ap (λ (T : Tables). held_in T.processes child) has.added
      ∙ held_last old_table.processes (child_without pid has.held) child number

  pub parent-lives : IsProcess table.processes pid
  parent-lives = subst (λ (o : Option Holdings). IsSome o) (sym still) lives

  pub child-lives : IsProcess table.processes child
  child-lives = subst (λ (o : Option Holdings). IsSome o) (sym begins) refl

  pub apart : pid ≢ child
  apart e = omega (arith, given_lives old_table.processes pid lives)

  pub parent-space : space_in table pid ≡ space_in old_table pid
  parent-space = ap (λ (o : Option Holdings). elim o [ None ↦ [] | Some h ↦ h.space ]) still

  pub child-space : space_in table child ≡ []
  child-space = ap (λ (o : Option Holdings). elim o [ None ↦ [] | Some h ↦ h.space ]) begins

  -- with its space the flat world has forked
  pub forked-ok : (w : World) (s0 s : Store) {T : Tables} {child_tid : ℕ}
      (cs : List (ℕ × Entry))
      → child_tid ≡ length old_table.threads + 1
      → are_processes_full old_table.processes old_table.threads ≡ false
      → nat_lt (free_frames (in_world w s0 old_table)) (private_entries (space_in old_table pid))
      ≡ false
      → copied_space (in_world w s0 old_table) child_tid (space_in table pid)
      ≡ (in_world w s old_table, cs) → T ≡ held_by (with_space cs) table child
      → forked (fork_call (in_world w s0 old_table) tid pid) ≡ Ok (in_world w s T)
  forked-ok w s0 s {T} {child_tid} cs tid_is room enough copies is =
      ap (λ o. forked_by c o (thread_in old_table.threads tid)) has.holds
      ∙ ap (forked_by c (Some has.held)) has.runs
      ∙ ap (λ b. cond b (Err 11)
      (cond (nat_lt (free_frames w0) (private_entries has.held.space)) (Err 12)
      (Ok (with_child c has.held has.thread)))) room
      ∙ ap (λ b. cond b (Err 12) (Ok (with_child c has.held has.thread)))
      (ap (λ es. nat_lt (free_frames w0) (private_entries es)) (sym of_parent) ∙ enough)
      ∙ ap Ok (ap with_copy
      (ap (copied_space w0 (length old_table.threads + 1)) (sym (parent-space ∙ of_parent))
      ∙ ap (λ n. copied_space w0 n (space_in table pid)) (sym tid_is) ∙ copies)
      ∙ sym (ap (in_world w s)
      (is ∙ ap (λ (x : Tables). held_by (with_space cs) x child) has.added)
      ∙ ap (λ ps. with_processes ps)
      (changed_last (on_holdings (with_space cs)) old_table.processes
      (child_without pid has.held) child number)))
    where
      w0 : World
      w0 = in_world w s0 old_table

      c : Call
      c = fork_call w0 tid pid

      of_parent : space_in old_table pid ≡ has.held.space
      of_parent = ap (λ (o : Option Holdings). elim o [ None ↦ [] | Some h ↦ h.space ]) has.holds

      with_copy : World × List (ℕ × Entry) → World
      with_copy r = record (with_new_thread r.0 (child_thread w0 has.thread)) {
        processes =
            r.0.processes ++ child_process c has.held r.1 ∷ [];
      }

      with_processes : List Process → World
      with_processes ps =
          record (in_world w s
          (process_added old_table (child_without pid has.held)
          (child_begun (length old_table.processes + 1) has.thread))) { processes = ps }

-- ---- the refusals

pub forked-few : (w : World) (s0 : Store) (old_table : Tables) (tid pid : ℕ)
    → IsProcess old_table.processes pid → IsLiveThread old_table.threads tid
    → are_processes_full old_table.processes old_table.threads ≡ false
    → nat_lt (free_frames (in_world w s0 old_table)) (private_entries (space_in old_table pid))
    ≡ true
    → forked (fork_call (in_world w s0 old_table) tid pid) ≡ Err 12
forked-few w s0 old_table tid pid alive runs room few =
    let h = some_is (held_in old_table.processes pid) alive in
    let t = some_is (thread_in old_table.threads tid) runs in
    let of_parent : space_in old_table pid ≡ h.0.space =
    ap (λ (o : Option Holdings). elim o [ None ↦ [] | Some k ↦ k.space ]) h.1 in
    let c : Call = fork_call (in_world w s0 old_table) tid pid in
    ap (λ o. forked_by c o (thread_in old_table.threads tid)) h.1 ∙ ap (forked_by c (Some h.0)) t.1
    ∙ ap (λ b. cond b (Err 11)
    (cond (nat_lt (free_frames (in_world w s0 old_table)) (private_entries h.0.space))
    (Err 12) (Ok (with_child c h.0 t.0)))) room
    ∙ ap (λ b. cond b (Err 12) (Ok (with_child c h.0 t.0)))
    (ap (λ es. nat_lt (free_frames (in_world w s0 old_table)) (private_entries es))
    (sym of_parent) ∙ few)

-- ---- the caller's process

pub of-process : (P : ℕ → Type 0) (o : Option Thread) (p : ℕ) → IsSome o
    → IfSome o (λ thread. p ≡ thread.process) → IfSome o (λ thread. P thread.process) → P p
of-process P None p runs own h = cc
of-process P (Some thread) p runs own h = subst P (sym own) h

pub to-process : (P : ℕ → Type 0) (o : Option Thread) (p : ℕ)
    → IfSome o (λ thread. p ≡ thread.process) → P p → IfSome o (λ thread. P thread.process)
to-process P None p own h = tt
to-process P (Some thread) p own h = subst P own h

-- the caller's process lives, and its space as it is lent is that of the table
pub caller_lives : {T : Tables} {tid : ℕ} → IsCaller T tid → (pid : ℕ)
    → IfSome (thread_in T.threads tid) (λ thread. pid ≡ thread.process) → IsProcess T.processes pid
caller_lives {T} {tid} caller pid own =
    of-process (λ p. IsProcess T.processes p) (thread_in T.threads tid) pid caller.thread own
    caller.process

pub caller_space : {T : Tables} {tid : ℕ} → IsCaller T tid → (pid : ℕ)
    → IfSome (thread_in T.threads tid) (λ thread. pid ≡ thread.process)
    → (es : List (ℕ × Entry)) → IfSome (held_in T.processes pid) (λ h. es ≡ h.space)
    → es ≡ space_in T pid
caller_space {T} caller pid own es is = space-is T pid es (caller_lives caller pid own) is

-- ---- how many frames are free

pub free_is : (w : World) (s : Store) (T : Tables) → free_frames (in_world w s T) ≡ free_count s
free_is w s T = length-filter is_free s.owners

pub too_few : (w : World) (s : Store) (T : Tables) (n : ℕ) → free_count s < n
    → nat_lt (free_frames (in_world w s T)) n ≡ true
too_few w s T n few = grind (arith, nat_tests, free_is w s T)

pub enough : (w : World) (s : Store) (T : Tables) (n : ℕ) → n ≤ free_count s
    → nat_lt (free_frames (in_world w s T)) n ≡ false
enough w s T n h = grind (arith, nat_tests, free_is w s T)
