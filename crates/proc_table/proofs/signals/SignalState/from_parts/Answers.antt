use Rattle.std.proofs.Common.{ap, List, ℕ}
use Rattle.dos_world.specs.World.{Registers}
use Rattle.proc_table.specs.Tables.{Signals}
use Rattle.proc_table.proofs.Slots.{four_kept}
use Rattle.proc_table.proofs.signals.SignalState.from_parts.Goals as goal

pub returns : goal.returns
returns c = rw (c.slot.ensures, c.slot-2.ensures, c.slot-3.ensures, c.slot-4.ensures)
    (ap (λ (saved : List (Registers × ℕ)). let s : Signals =
    record { pending = c.args.pending; mask = c.args.mask; saved = saved } in s)
    (four_kept c.args.saved.now c.requires))
