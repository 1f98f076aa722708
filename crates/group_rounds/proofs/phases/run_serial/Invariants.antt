use Rattle.std.proofs.Common.{◌≡◌, ℕ, drop}
use Rattle.flat_machine.specs.Rest.{serial_of}
use Rattle.kernel_calls.specs.StateWorld.{HaveParts, IsSound}
use Rattle.dos_io.specs.Shims.{HasNoEnd}
use Rattle.kernel_calls.specs.Plays.{PlaysOn}
use Rattle.kernel_calls.specs.StateWorld.{StaysInRound}
use Rattle.group_rounds.specs.Parts.{KeepsCount}
use Rattle.group_rounds.proofs.phases.run_serial.Given as goal

abbrev pub invariant-loop-tid : goal.invariant-loop-tid
invariant-loop-tid g l = record {
  goes : (q : ℕ) → PlaysOn q (λ w. serial_of w l.fn.starters) l.fn.state
      (g.B.Border.state l.fn.border) (λ w. serial_of w (drop l.tid-index l.fn.starters)) l.state
      (g.B.Border.state l.border);
  sound : IsSound l.state;
  round : StaysInRound l.fn.state l.state;
  count : KeepsCount l.fn.state l.state;
  parts : HaveParts (drop l.tid-index l.fn.starters) l.state;
  told : HasNoEnd (g.B.Border.state l.border).shim.told;
  follows : g.B.Border.follows l.fn.border l.border;
}
