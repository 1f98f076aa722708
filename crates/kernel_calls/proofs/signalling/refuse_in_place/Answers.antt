use Rattle.std.proofs.Common.{◌+◌, ◌-◌, ◌∙◌, ap}
use Rattle.std.specs.Prelude.{◌%◌, ◌^◌}
use Rattle.dos_world.specs.World.{set}
use Rattle.dos_world.specs.SignalCalls.{refused_in_place}
use Rattle.kernel_calls.proofs.Changed.{registers_set}
use Rattle.kernel_calls.proofs.signalling.refuse_in_place.Goals as goal

pub returns : goal.returns
returns c = c.set_regs.ensures
    ∙ registers_set c.args.table.now c.args.tid refused_in_place c.regs.result.now c.set.new.self
    c.regs.ensures
    (c.set.ensures
    ∙ ap (λ n. set c.regs.result.now 10 ((0 + (2 ^ 32 - n)) % 2 ^ 32)) c.from.ensures)
