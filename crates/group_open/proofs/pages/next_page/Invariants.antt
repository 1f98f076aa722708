use Rattle.std.proofs.Common.{◌≡◌, take}
use Rattle.std.specs.Prelude.{flat_map}
use Rattle.flat_machine.specs.Opening.{pages_touched}
use Rattle.group_open.specs.Pages.{least_from}
use Rattle.group_open.proofs.pages.next_page.Given as goal

-- the least page of the parts so far
abbrev pub invariant-loop-part : goal.invariant-loop-part
invariant-loop-part l = l.next
    ≡ least_from l.from (flat_map pages_touched (take l.part-index l.part-items))
