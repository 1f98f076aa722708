-- The service of a thread, from its registers to what it answers.
use Rattle.std.proofs.Common.{◌≡◌, ℕ, List, [], Option, Some, None, IsSome, IfSome, sym, ap, ◌∙◌}
use Rattle.dos_world.specs.World.{World, Thread, Registers, get, with_thread}
use Rattle.dos_world.specs.Play.{over, gives}
use Rattle.dos_world.specs.Services.{Call, charged, went, service, service_for, service_of}
use Rattle.dos_world.specs.Services.{call_of}
use Rattle.dos_io.specs.Borders.{BorderState}
use Rattle.proc_table.specs.Tables.{Tables, IsLiveThread, thread_in}
use Rattle.kernel_calls.specs.StateWorld.{sent, world_of}
use Rattle.kernel_calls.specs.Built.{definition_by, named}
use Rattle.kernel_calls.specs.CallResults.{call_in, paid_state}
use Rattle.kernel_calls.specs.Plays.{StopsBy, Stopper, by_shim, by_sink, with_more}
use Rattle.kernel_calls.specs.declared.state.State.{State}
use Rattle.kernel_calls.specs.declared.state.Asked.{Asked}
use Rattle.kernel_calls.specs.declared.naming.Service.{Service}
use Rattle.kernel_calls.proofs.Named.{named_is}

-- a call with these arguments
abbrev pub asked : ℕ → ℕ → ℕ → ℕ → ℕ → Asked
asked t p x y z = record { thread = t; process = p; a0 = x; a1 = y; a2 = z }

-- what a live thread calls is the service that its registers name, once it is paid for
pub called : (s : State) (t p x y z n : ℕ) (r : Registers) → IsLiveThread s.table.threads t
    → IfSome (thread_in s.table.threads t) (λ thread. r ≡ thread.registers)
    → IfSome (thread_in s.table.threads t) (λ thread. p ≡ thread.process)
    → x ≡ get r 10 → y ≡ get r 11 → z ≡ get r 12 → n ≡ get r 17
    → (q : ℕ) (o e : List ℕ)
    → service (sent o e (world_of q s)) t
    ≡ definition_by (named n) (call_in (sent o e (world_of q (paid_state s t))) (asked t p x y z))
called s t p x y z n r live registers process first second third number q o e =
    by (thread_in s.table.threads t) live registers process
    ∙ ap (λ f. f (call_in (sent o e (world_of q (paid_state s t))) (asked t p x y z))) (named_is n)
  where
    w : World
    w = sent o e (world_of q s)

    call : ℕ → ℕ → ℕ → ℕ → Call
    call p x y z = record {
      world = with_thread (sent o e (world_of q s)) t charged;
      thread = t;
      process = p;
      a0 = x;
      a1 = y;
      a2 = z;
    }

    by : (found : Option Thread) → IsSome found → IfSome found (λ thread. r ≡ thread.registers)
        → IfSome found (λ thread. p ≡ thread.process)
        → service_for (sent o e (world_of q s)) t found
        ≡ service_of n (call p x y z)
    by None live registers process = cc
    by (Some thread) live registers process =
        let one : get thread.registers 10 ≡ x = ap (λ k. get k 10) (sym registers) ∙ sym first in
        let two : get thread.registers 11 ≡ y = ap (λ k. get k 11) (sym registers) ∙ sym second in
        let three : get thread.registers 12 ≡ z = ap (λ k. get k 12) (sym registers) ∙ sym third in
        ap (λ k. service_of k (call_of (sent o e (world_of q s)) t thread))
        (ap (λ k. get k 17) (sym registers) ∙ sym number)
        ∙ ap (λ k. service_of n
        (call k (get thread.registers 10) (get thread.registers 11)
        (get thread.registers 12))) (sym process)
        ∙ ap (λ k. service_of n
        (call p k (get thread.registers 11) (get thread.registers 12))) one
        ∙ ap (λ k. service_of n (call p x k (get thread.registers 12))) two
        ∙ ap (λ k. service_of n (call p x y k)) three

-- ---- the service of the thread, once it is paid for

module _ (s mid : State) (t : ℕ) (found : Option Service) (a : Asked)
    (charges : mid ≡ paid_state s t)
    (calls : (q : ℕ) (o e : List ℕ) → service (sent o e (world_of q s)) t
    ≡ definition_by found (call_in (sent o e (world_of q (paid_state s t))) a)) where
  pub calls_paid : (q : ℕ) (o e : List ℕ) → service (sent o e (world_of q s)) t
      ≡ definition_by found (call_in (sent o e (world_of q mid)) a)
  calls_paid q o e = calls q o e
      ∙ ap (λ (m : State). definition_by found (call_in (sent o e (world_of q m)) a)) (sym charges)

  -- A sink's fault leaves the new state, in which the thread has its registers and budget again.
  module _ (after new : State) (restored : Tables)
      (restores : new ≡ record after { table = restored }) (before b : BorderState) where
    pub stops_restored : (by : Stopper)
        → StopsBy by (λ w. definition_by found (call_in w a)) mid before after b
        → StopsBy by (λ w. service w t) s before new b
    stops_restored (by_shim stop) h = record {
      question = h.question;
      running = h.running;
      asks = λ q o e. ap (over []) (calls_paid q o e) ∙ h.asks q o e;
      stopped = h.stopped;
    }
    stops_restored (by_sink stream) h = record {
      bytes = h.bytes;
      breaks = h.breaks;
      table = h.table;
      goes = λ q o e.
          ap (over []) (calls_paid q o e) ∙ h.goes q o e
          ∙ sym (ap (λ (x : State).
          gives (went (with_more stream h.bytes (sent o e (world_of q (record x {
            table = h.table;
          })))))
          []) restores);
    }
