use Rattle.std.proofs.Common.{◌-◌}
use Rattle.dos_world.specs.Numbered.{run_of}
use Rattle.group_open.specs.Filling.{OpensStack}
use Rattle.group_open.proofs.filling.open_stack.Given as goal

-- the pages so far
abbrev pub invariant-loop-page : goal.invariant-loop-page
invariant-loop-page l = OpensStack l.fn.frames l.frames l.fn.table l.table l.opened.pid l.opened.tid
    (run_of 0xEFFF0 (l.page - 0xEFFF0))
