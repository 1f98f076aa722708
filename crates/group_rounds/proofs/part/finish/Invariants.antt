use Rattle.std.proofs.Common.{◌≡◌, ◌∷◌, ℕ, List}
use Rattle.flat_machine.specs.Rest.{rest_of}
use Rattle.proc_table.specs.Tables.{IsLiveThread}
use Rattle.kernel_calls.specs.StateWorld.{HaveParts, IsReady, IsSound}
use Rattle.dos_io.specs.Shims.{HasNoEnd}
use Rattle.kernel_calls.specs.Plays.{PlaysOn}
use Rattle.kernel_calls.specs.StateWorld.{StaysInRound}
use Rattle.group_rounds.specs.Parts.{KeepsCount, turns_left, part_measure}
use Rattle.group_rounds.proofs.part.finish.Given as goal

abbrev pub invariant-loop-reason : goal.invariant-loop-reason
invariant-loop-reason g l = record {
  sound : IsSound l.state;
  live : IsLiveThread l.state.table.threads l.fn.tid;
  round : StaysInRound l.fn.state l.state;
  count : KeepsCount l.fn.state l.state;
  goes : (q : ℕ) → PlaysOn q (λ w. rest_of w l.fn.tid) l.fn.state
      (g.B.Border.state l.fn.border) (turns_left l.fn.tid) l.state (g.B.Border.state l.border);
  ready : IsReady l.state.table.threads l.fn.tid;
  parts : (ts : List ℕ) → HaveParts (l.fn.tid ∷ ts) l.fn.state
      → HaveParts (l.fn.tid ∷ ts) l.state;
  told : HasNoEnd (g.B.Border.state l.border).shim.told;
  follows : g.B.Border.follows l.fn.border l.border;
}

abbrev pub decreases-loop-reason : goal.decreases-loop-reason
decreases-loop-reason g l = part_measure l.state l.fn.tid
