use Rattle.std.proofs.Common.{All, take}
use Rattle.group_open.specs.Laws.{HasBytes}
use Rattle.group_open.proofs.pages.have_bytes.Given as goal

-- the parts so far
abbrev pub invariant-loop-part : goal.invariant-loop-part
invariant-loop-part l = All HasBytes (take l.part-index l.parts)
