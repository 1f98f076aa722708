-- A call of a thread that has its part in a world that stands, and the answers that leave it so;
-- and which answers of the protocol fit.
use Rattle.std.proofs.Common.{ℕ, zero, suc, ◌^◌, ◌<◌, ◌≤◌, ◌≡◌, ◌⊎◌, inl, inr, refl, sym, ap, ◌∙◌}
use Rattle.std.proofs.Common.{subst, Bool, true, false, cond, List, ◌∷◌, length, Some, None, Result}
use Rattle.std.proofs.Common.{Ok, Err, option_map, arith}
use Rattle.std.specs.Prelude.{IfSome, IsTrue, is_some, option_and_then}
use Rattle.std.proofs.lemmas.Bool.{cases_lt, true≢false}
use Rattle.std.proofs.lemmas.Option.{slice_get_past}
use Rattle.dos_world.specs.Numbered.{numbered}
use Rattle.dos_world.specs.World.{World, Process, Thread, Registers, Holdings, thread_at}
use Rattle.dos_world.specs.World.{live_process, holdings_of, with_registers, registers_by}
use Rattle.dos_world.specs.Kernel.{minus, answered, answered_two}
use Rattle.dos_world.specs.Play.{Play}
use Rattle.dos_world.specs.Calls.{Call, Served, charged, call_of, mask_of, returns_in, returns}
use Rattle.dos_world.specs.Calls.{returns_two, refuses, refuses_in, replies, retries}
use Rattle.dos_world.specs.Lawful.{Lawful, IsThread, IsMask, AreRegisters, AreHoldings}
use Rattle.dos_world.specs.Lawful.{turns_asleep}
use Rattle.dos_world.specs.declared.ThreadState.TheVariants.{Ready}
use Rattle.dos_world.proofs.UsualCalls.{held_all}
use Rattle.round_core.specs.Protocol.{Allows}
use Rattle.round_core.specs.Invariants.{LeavesServed}
use Rattle.dos_laws.specs.Standing.{LawfulWith, fit_protocol}
use Rattle.dos_laws.proofs.Numbers.{changed_there}
use Rattle.dos_laws.proofs.Mapped.{of_thread, some_is}
use Rattle.dos_laws.proofs.Frames.{thread_given}
use Rattle.dos_laws.proofs.RegisterRanges.{get_range, set_ranges, answered_ranges, with_held_ranges}
use Rattle.dos_laws.proofs.Stands.{with_run, Changes, stands-with_thread, stands-retry}

-- ---- a thread's registers

-- a change of registers that leaves them in range
pub registers_change : (w : World) (t : ℕ) (f : Registers → Registers)
    → ((r : Registers) → AreRegisters r → AreRegisters (f r)) → Changes w t (registers_by f)
registers_change w t f ranges = record {
  process = λ thread. refl;
  state = λ thread. refl;
  ranges =
      λ thread at is. with_run w.processes thread _ _ _ (ranges thread.registers is.registers) is;
}

pub stands-registers : (ts : List ℕ) (w : World) (t : ℕ) (f : Registers → Registers)
    → ((r : Registers) → AreRegisters r → AreRegisters (f r)) → LawfulWith ts w
    → LawfulWith ts (with_registers w t f)
stands-registers ts w t f ranges k =
    stands-with_thread ts w t (registers_by f) (registers_change w t f ranges) k

charged_change : (w : World) (t : ℕ) → Changes w t charged
charged_change w t = record {
  process = λ thread. refl;
  state = λ thread. refl;
  ranges =
      λ thread at is. with_run w.processes thread _ _ _
      (with_held_ranges thread.registers None tt is.registers) is;
}

-- ---- a call

-- a call, paid for, of a thread that has its part, and these have theirs after it
pub record StandsCall (ts : List ℕ) (c : Call) : Type 0 where
  pub stands : LawfulWith (c.thread ∷ ts) c.world
  pub caller : Thread
  pub is : thread_at c.world c.thread ≡ Some caller
  pub own : caller.process ≡ c.process
  pub first : c.a0 < 2 ^ 32
  pub second : c.a1 < 2 ^ 32
  pub third : c.a2 < 2 ^ 32

pub call_stands : (ts : List ℕ) (w : World) (t : ℕ) (thread : Thread) → thread_at w t ≡ Some thread
    → LawfulWith (t ∷ ts) w → StandsCall ts (call_of w t thread)
call_stands ts w t thread is k =
    let ranges =
    (of_thread (IsThread w.processes) w t thread k.lawful.threads.ranges is).registers in
    record {
      stands = stands-with_thread (t ∷ ts) w t charged (charged_change w t) k;
      caller = charged thread;
      is = changed_there charged w.threads t ∙ ap (option_map charged) is;
      own = refl;
      first = get_range thread.registers 10 ranges;
      second = get_range thread.registers 11 ranges;
      third = get_range thread.registers 12 ranges;
    }

-- a part that is over
pub stands-passed : (ts : List ℕ) (w : World) (t : ℕ) → LawfulWith (t ∷ ts) w → LawfulWith ts w
stands-passed ts w t k = record { lawful = k.lawful; awake = k.awake.1; apart = k.apart.1 }

-- a number that a live process has
number_within : (ps : List Process) (p : ℕ)
    → IsTrue (is_some (option_and_then holdings_of (numbered ps p))) → p ≤ length ps
number_within ps zero lives = omega arith
number_within ps (suc i) lives = by_place (cases_lt i (length ps))
  where
    by_place : (i < length ps) ⊎ (length ps ≤ i) → suc i ≤ length ps
    by_place (inl lt) = omega arith
    by_place (inr past) =
        absurd
        (true≢false
        (sym lives ∙ ap (λ o. is_some (option_and_then holdings_of o)) (slice_get_past ps i past)))

module _ (ts : List ℕ) (c : Call) (call : StandsCall ts c) where
  abbrev pub Leaves : Play Served → Type 0
  Leaves play = Allows fit_protocol (LeavesServed LawfulWith c.thread ts) play

  pub law : Lawful c.world
  law = call.stands.lawful

  pub caller_is : IsThread c.world.processes call.caller
  caller_is =
      of_thread (IsThread c.world.processes) c.world c.thread call.caller law.threads.ranges call.is

  -- the caller is ready
  pub caller_ready : call.caller.state ≡ Ready
  caller_ready = subst (λ o. IfSome o (λ thread. thread.state ≡ Ready)) call.is call.stands.awake.0

  pub caller_awake : turns_asleep (Some call.caller) ≡ 0
  caller_awake = ap (λ s. turns_asleep (Some (record call.caller { state = s }))) caller_ready

  pub process_alive : IsTrue (is_some (live_process c.world c.process))
  process_alive = subst (λ p. IsTrue (is_some (live_process c.world p))) call.own caller_is.process

  -- what the caller's process has
  pub held : (h : Holdings) × (live_process c.world c.process ≡ Some h)
  held = some_is (live_process c.world c.process) process_alive

  pub held_is : AreHoldings (length c.world.owners) held.0
  held_is =
      held_all (AreHoldings (length c.world.owners)) c.world.processes c.process held.0
      law.processes.holdings held.1

  pub process_within : (c.process ≤ length c.world.processes) × (c.process ≤ 65535)
  process_within =
      let n = number_within c.world.processes c.process process_alive in
      (n, omega (arith, n, law.processes.given.1, law.limits.threads.1))

  pub thread_within : (1 ≤ c.thread) × (c.thread ≤ length c.world.threads) × (c.thread ≤ 65535)
  thread_within =
      let n = thread_given c.world c.thread call.caller call.is in
      (n.0, n.1, omega (arith, n.1, law.limits.threads.1))

  pub mask_is : IsMask (mask_of c)
  mask_is =
      subst IsMask
      (sym (ap (λ o. elim o as (λ _. ℕ) [ None ↦ 0 | Some thread ↦ thread.mask ]) call.is))
      caller_is.mask

  -- ---- answers

  pub returns_in_stands : (w : World) (value : ℕ) → value < 2 ^ 32 → LawfulWith (c.thread ∷ ts) w
      → Leaves (returns_in w value c)
  returns_in_stands w value h k =
      stands-registers (c.thread ∷ ts) w c.thread (answered value)
      (λ r a. answered_ranges value r h a) k

  pub returns_stands : (value : ℕ) → value < 2 ^ 32 → Leaves (returns value c)
  returns_stands value h = returns_in_stands c.world value h call.stands

  pub returns_two_stands : (w : World) (one two : ℕ) → one < 2 ^ 32 → two < 2 ^ 32
      → LawfulWith (c.thread ∷ ts) w → Leaves (returns_two w one two c)
  returns_two_stands w one two h g k =
      stands-registers (c.thread ∷ ts) w c.thread (answered_two one two)
      (λ r a. set_ranges (answered one r) 11 two g (answered_ranges one r h a)) k

  pub refuses_stands : (number : ℕ) → 0 < number → Leaves (refuses number c)
  refuses_stands number h = returns_stands (minus number) (omega arith)

  pub refuses_in_stands : (w : World) (number : ℕ) → 0 < number → LawfulWith (c.thread ∷ ts) w
      → Leaves (refuses_in w number c)
  refuses_in_stands w number h k = returns_in_stands w (minus number) (omega arith) k

  -- a world, or a refusal that has a number
  pub replies_stands : (r : Result World ℕ) (value : ℕ) → value < 2 ^ 32
      → ((w : World) → r ≡ Ok w → LawfulWith (c.thread ∷ ts) w)
      → ((number : ℕ) → r ≡ Err number → 0 < number) → Leaves (replies r value c)
  replies_stands (Ok w) value h k low = returns_in_stands w value h (k w refl)
  replies_stands (Err number) value h k low = refuses_stands number (low number refl)

  -- it waits
  pub retries_stands : Leaves (retries c)
  retries_stands =
      stands-retry ts c.world c.thread (ap turns_asleep call.is ∙ caller_awake) call.stands

  pub leaves_if : (b : Bool) (one two : Play Served) → (b ≡ true → Leaves one)
      → (b ≡ false → Leaves two) → Leaves (cond b one two)
  leaves_if true one two h k = h refl
  leaves_if false one two h k = k refl
