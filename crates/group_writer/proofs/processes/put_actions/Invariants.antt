use Rattle.std.proofs.Common.{◌≡◌, ◌++◌, drop}
use Rattle.text_fields.specs.Formats.{many, u32_in}
use Rattle.dos_world.specs.SignalCalls.{is_action}
use Rattle.group_writer.proofs.processes.put_actions.Given as goal

abbrev pub invariant-loop-i : goal.invariant-loop-i
invariant-loop-i l =
    l.out.items ++ (many 31 (u32_in is_action)).text (drop l.i l.actions)
    ≡ l.fn.out.items ++ (many 31 (u32_in is_action)).text l.actions
