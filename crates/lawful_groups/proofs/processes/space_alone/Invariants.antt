use Rattle.std.proofs.Common.{◌≡◌, ◌&&◌, drop}
use Rattle.lawful_groups.specs.Agreeing.{is_alone_by}
use Rattle.std.specs.List.{list_all}
use Rattle.lawful_groups.proofs.processes.space_alone.Given as goal

abbrev pub invariant-loop-i : goal.invariant-loop-i
invariant-loop-i l =
    (l.all && list_all (is_alone_by l.uses) (drop l.i l.pages))
    ≡ list_all (is_alone_by l.uses) l.pages
