-- The end of the only process that lives leaves nobody.
use Rattle.std.proofs.Common.{ℕ, zero, suc, ◌+◌, ◌%◌, ◌≡◌, refl, sym, ap, ◌∙◌, subst, List, []}
use Rattle.std.proofs.Common.{◌∷◌, length, Option, Some, None, option_and_then, Result, Ok, Err}
use Rattle.std.proofs.Common.{arith}
use Rattle.std.specs.Prelude.{IfSome, IsSome, slice_get}
use Rattle.dos_world.specs.Numbered.{numbered, changed, changed_at}
use Rattle.dos_world.specs.World.{World, Holdings, Process, Registers, Thread, all_holdings}
use Rattle.dos_world.specs.World.{entry_at}
use Rattle.dos_world.specs.World.{first_thread, flat, get, holdings_of, live_process, thread_at}
use Rattle.dos_world.specs.World.{with_thread}
use Rattle.dos_world.specs.Kernel.{ended_by, pending_with, posted, process_ended, tidied}
use Rattle.dos_world.specs.Play.{Play, done, ◌>>=◌}
use Rattle.dos_world.specs.Services.{Service as FlatService}
use Rattle.dos_world.specs.Services.{call_of, charged, process_exit, service_for, service_of}
use Rattle.dos_world.specs.Services.{services}
use Rattle.dos_world.specs.declared.Access.{Access}
use Rattle.dos_world.specs.declared.Entry.{Entry}
use Rattle.dos_world.specs.declared.Reason.{Reason}
use Rattle.dos_world.specs.declared.Reason.TheVariants.{Page, Fault, Service}
use Rattle.dos_laws.specs.Ends.{ended_processes, without_process}
use Rattle.dos_laws.proofs.EndedProcesses.{before, orphans_have}
use Rattle.flat_machine.specs.Rest.{Turn, over_with, settled, page_granted, granted_by, turn}
use Rattle.flat_machine.specs.Rest.{after_step, process_of, service_done}
use Rattle.flat_machine.specs.Step.{step}
use Rattle.round_core.specs.Laws.{MapsWithin}
use Rattle.group_moves.specs.Moments.{moment_at}
use Rattle.group_moves.specs.Moves.{kind_by, rest_turn}
use Rattle.group_moves.specs.Places.{before_rests, within_rest}
use Rattle.kernel_calls.specs.StateWorld.{IsSound, sent, world_of}
use Rattle.kernel_calls.specs.declared.state.State.{State}
use Rattle.proc_table.specs.Tables.{IsLiveThread, held_in, thread_in}
use Rattle.group_rounds.proofs.ThreadRunLaws.{Seen, registers_is, seen}
use Rattle.group_walk.specs.Exits.{IsDeserted, LeavesNobody}
use Rattle.group_walk.specs.Needs.{reason_of, all_granted}
use Rattle.group_walk.proofs.Granted.{settled-reason}
use Rattle.group_walk.proofs.SameGroup.{same-settled}
use Rattle.group_walk.proofs.Stopping.{all_within}
use Rattle.group_walk.proofs.Turned.{stopped_so}

-- ---- who lives

no_length : {A : Type 0} (xs : List A) → length xs ≡ 0 → xs ≡ []
no_length [] none = refl
no_length (x ∷ xs) none = absurd (omega (arith, none))

-- Where nobody has anything, nobody lives.
none_have : (ps : List Process) → all_holdings ps ≡ [] → (q : ℕ)
    → option_and_then holdings_of (numbered ps q) ≡ None
none_have ps none zero = refl
none_have ps none (suc i) = at ps i none
  where
    first : (o : Option Holdings) (rest : List Holdings) → before o rest ≡ [] → o ≡ None
    first None rest none = refl
    first (Some h) rest none = cc

    others : (o : Option Holdings) (rest : List Holdings) → before o rest ≡ [] → rest ≡ []
    others None rest none = none
    others (Some h) rest none = cc

    at : (ps : List Process) (i : ℕ) → all_holdings ps ≡ []
        → option_and_then holdings_of (slice_get ps i) ≡ None
    at [] i none = refl
    at (x ∷ ps) zero none = first (holdings_of x) (all_holdings ps) none
    at (x ∷ ps) (suc i) none = at ps i (others (holdings_of x) (all_holdings ps) none)

-- Where one lives alone, nobody has anything behind its end.
one_had : (status : ℕ) (ps : List Process) (p : ℕ) → length (all_holdings ps) ≡ 1
    → IsSome (option_and_then holdings_of (numbered ps p))
    → all_holdings (changed (ended_by status) ps p) ≡ []
one_had status ps zero one lives = cc
one_had status ps (suc i) one lives = at ps i one lives
  where
    alone : (o : Option Holdings) (rest : List Holdings) → length (before o rest) ≡ 1 → IsSome o
        → rest ≡ []
    alone None rest one lives = cc
    alone (Some h) rest one lives = no_length rest (omega (arith, one))

    behind : (o : Option Holdings) (ps : List Process) (i : ℕ) (left : List Holdings)
        → (length (all_holdings ps) ≡ 1 → left ≡ []) → length (before o (all_holdings ps)) ≡ 1
        → IsSome (option_and_then holdings_of (slice_get ps i)) → before o left ≡ []
    behind None ps i left rest one lives = rest one
    behind (Some h) ps i left rest one lives =
        never (option_and_then holdings_of (slice_get ps i))
        (none_have ps (no_length (all_holdings ps) (omega (arith, one))) (suc i)) lives
      where
        never : (o : Option Holdings) → o ≡ None → IsSome o → h ∷ left ≡ []
        never None none some = cc
        never (Some x) none some = cc

    at : (ps : List Process) (i : ℕ) → length (all_holdings ps) ≡ 1
        → IsSome (option_and_then holdings_of (slice_get ps i))
        → all_holdings (changed_at (ended_by status) ps i) ≡ []
    at [] i one lives = cc
    at (x ∷ ps) zero one lives = alone (holdings_of x) (all_holdings ps) one lives
    at (x ∷ ps) (suc i) one lives =
        behind (holdings_of x) ps i (all_holdings (changed_at (ended_by status) ps i))
        (λ one. at ps i one lives) one lives

-- ---- the end of a process

posted-processes : (v : World) (p signal : ℕ) → (posted v p signal).processes ≡ v.processes
posted-processes v p signal = go (first_thread v p)
  where
    go : (o : Option ℕ) → (elim o as (λ _. World) [
      | None ↦ v
      | Some t ↦ with_thread v t (pending_with signal)
    ]).processes ≡ v.processes
    go None = refl
    go (Some t) = refl

ended_alone : (w : World) (p status : ℕ) → length (all_holdings w.processes) ≡ 1
    → IsSome (live_process w p) → IsDeserted (process_ended w p status)
ended_alone w p status one lives q =
    ap (λ (ps : List Process). option_and_then holdings_of (numbered ps q))
    (posted-processes (tidied (without_process w p status)) _ 17)
    ∙ none_have (ended_processes w.processes p status)
    (orphans_have p (changed (ended_by status) w.processes p)
    ∙ one_had status w.processes p one lives) q

-- ---- grants

-- the same processes and threads
abbrev HasSame : (v w : World) → Type 0
HasSame v w = (v.processes ≡ w.processes) × (v.threads ≡ w.threads)

-- They change neither.
settled-same : (n : ℕ) (w : World) (t : ℕ) → HasSame (settled n w t).0 w
settled-same zero w t = (refl, refl)
settled-same (suc n) w t = go (λ v. settled-same n v t) (step w t)
  where
    granted : (access : Access) (o : Option Entry) → HasSame (granted_by w t access o) w
    granted access None = (refl, refl)
    granted access (Some e) = (refl, refl)

    go : ((v : World) → HasSame (settled n v t).0 v) → (r : Result World Reason)
        → HasSame ((elim r as (λ _. World × Result World Reason) [
          | Ok next ↦ (w, Ok next)
          | Err reason ↦ elim reason as (λ _. World × Result World Reason) [
            | Page address access ↦ settled n (page_granted w t address access) t
            | Fault number ↦ (w, Err (Fault number))
            | Service ↦ (w, Err Service)
          ]
        ]).0) w
    go again (Ok next) = (refl, refl)
    go again (Err (Page address access)) =
        let k = again (page_granted w t address access) in
        let g = granted access (entry_at w t address) in
        (k.0 ∙ g.0, k.1 ∙ g.1)
    go again (Err (Fault number)) = (refl, refl)
    go again (Err Service) = (refl, refl)

-- ---- a turn that ends the only process that lives

row_2 : service_of 2 ≡ process_exit
unfolding services
row_2 = refl

module _ (w : World) (t : ℕ) (thread : Thread) (is : thread_at w t ≡ Some thread)
    (within : MapsWithin w t) (one : length (all_holdings w.processes) ≡ 1)
    (lives : IsSome (live_process w thread.process)) where
  -- the world behind the grants
  abbrev v : World
  v = (settled 3 w t).0

  same : HasSame v w
  same = settled-same 3 w t

  thread_there : thread_at v t ≡ Some thread
  thread_there = ap (λ (xs : List (Option Thread)). flat (numbered xs t)) same.1 ∙ is

  ended_there : (x : World) (p status : ℕ) → x.processes ≡ w.processes → p ≡ thread.process
      → IsDeserted (process_ended x p status)
  ended_there x p status there own =
      ended_alone x p status (ap (λ (ps : List Process). length (all_holdings ps)) there ∙ one)
      (subst (λ (ps : List Process). IsSome (option_and_then holdings_of (numbered ps p)))
      (sym there) (subst (λ n. IsSome (live_process w n)) (sym own) lives))

  leaves : (last : World) (limit begun made : ℕ) (starters ts : List ℕ)
      → turn w t ≡ done (over_with last) → IsDeserted last
      → LeavesNobody limit (moment_at begun made (w, within_rest starters t ts))
  leaves last limit begun made starters ts taken deserted = record {
    kind = kind_by t (settled 3 w t).1;
    next = refl;
    scene = (last, before_rests starters ts);
    move = ap (λ (play : Play Turn). play >>= λ turned. done (rest_turn starters t ts turned))
        taken;
    deserted = λ q.
        ap (λ (ps : List Process). option_and_then holdings_of (numbered ps q))
        (same-settled last (before_rests starters ts)).processes ∙ deserted q;
  }

  stops_there : (reason : Reason) → reason_of (step (all_granted t w) t) ≡ Some reason
      → (settled 3 w t).1 ≡ Err reason
  stops_there reason why =
      stopped_so (settled 3 w t).1 reason (settled-reason w t within ∙ why)

  -- by a fault
  pub ends_by_fault : (number : ℕ) → reason_of (step (all_granted t w) t) ≡ Some (Fault number)
      → (limit begun made : ℕ) (starters ts : List ℕ)
      → LeavesNobody limit (moment_at begun made (w, within_rest starters t ts))
  ends_by_fault number why limit begun made starters ts =
      leaves (process_ended v (process_of v t) (128 + number)) limit begun made starters ts
      (ap (after_step t v) (stops_there (Fault number) why))
      (ended_there v (process_of v t) (128 + number) same.0
      (ap (λ (o : Option Thread). elim o [ None ↦ 0 | Some x ↦ x.process ]) thread_there))

  -- by its exit
  pub ends_by_exit : get thread.registers 17 ≡ 2
      → reason_of (step (all_granted t w) t) ≡ Some Service
      → (limit begun made : ℕ) (starters ts : List ℕ)
      → LeavesNobody limit (moment_at begun made (w, within_rest starters t ts))
  ends_by_exit exits why limit begun made starters ts =
      leaves (process_ended (with_thread v t charged) thread.process
      (get thread.registers 10 % 256)) limit begun made starters ts
      (ap (after_step t v) (stops_there Service why)
      ∙ ap (λ (o : Option Thread). service_for v t o >>= service_done) thread_there
      ∙ ap (λ n. service_of n (call_of v t thread) >>= service_done) exits
      ∙ ap (λ (s : FlatService). s (call_of v t thread) >>= service_done) row_2)
      (ended_there (with_thread v t charged) thread.process (get thread.registers 10 % 256) same.0
      refl)

-- ---- of a state

module _ (s : State) (t : ℕ) (sound : IsSound s) (live : IsLiveThread s.table.threads t)
    (one : length (all_holdings s.table.processes) ≡ 1) where
  abbrev here : Seen s t
  here = seen s t sound live

  lives_here : IsSome (held_in s.table.processes here.thread.process)
  lives_here = subst (λ (o : Option Holdings). IsSome o) (sym here.has) refl

  pub leaves_by_fault : (number : ℕ)
      → ((q : ℕ) (o e : List ℕ)
      → reason_of (step (all_granted t (sent o e (world_of q s))) t) ≡ Some (Fault number))
      → (q limit begun made : ℕ) (o e starters ts : List ℕ) → LeavesNobody limit
      (moment_at begun made (sent o e (world_of q s), within_rest starters t ts))
  leaves_by_fault number why q limit begun made o e starters ts =
      ends_by_fault (sent o e (world_of q s)) t here.thread here.is (all_within s t sound q o e) one
      lives_here number (why q o e) limit begun made starters ts

  pub leaves_by_exit : (r : Registers)
      → IfSome (thread_in s.table.threads t) (λ thread. r ≡ thread.registers) → get r 17 ≡ 2
      → ((q : ℕ) (o e : List ℕ)
      → reason_of (step (all_granted t (sent o e (world_of q s))) t) ≡ Some Service)
      → (q limit begun made : ℕ) (o e starters ts : List ℕ) → LeavesNobody limit
      (moment_at begun made (sent o e (world_of q s), within_rest starters t ts))
  leaves_by_exit r r-is exits why q limit begun made o e starters ts =
      ends_by_exit (sent o e (world_of q s)) t here.thread here.is (all_within s t sound q o e) one
      lives_here
      (ap (λ (x : Registers). get x 17) (sym (registers_is s t sound live r r-is)) ∙ exits)
      (why q o e) limit begun made starters ts
