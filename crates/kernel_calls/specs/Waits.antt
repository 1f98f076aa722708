-- Whether a call would wait. This project's own rules.
use Rattle.std.specs.Prelude.{◌≡◌, ℕ, Bool, List, IfSome}
use Rattle.dos_world.specs.Services.{Service as FlatService}
use Rattle.dos_world.specs.Signals.{play_waits}
use Rattle.proc_table.specs.Tables.{IsLiveThread, thread_in}
use Rattle.kernel_calls.specs.StateWorld.{sent, world_of}
use Rattle.kernel_calls.specs.CallResults.{call_in, paid_state}
use Rattle.kernel_calls.specs.declared.state.State.{State}
use Rattle.kernel_calls.specs.declared.state.Asked.{Asked}

-- the thread that asks lives, whether it is ready or waits, and its process is the one that is said
pub record IsCalling (s : State) (a : Asked) : Type 0 where
  pub live : IsLiveThread s.table.threads a.thread
  pub process : IfSome (thread_in s.table.threads a.thread) (λ thread. a.process ≡ thread.process)

-- Its call of the service, once it is paid for, waits, or doesn't.
abbrev pub TellsWait : FlatService → State → Asked → Bool → Type 0
TellsWait service s a is_waiting = (q : ℕ) (o e : List ℕ)
    → is_waiting
    ≡ play_waits (service (call_in (sent o e (world_of q (paid_state s a.thread))) a))
