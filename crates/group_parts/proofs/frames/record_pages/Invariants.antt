use Rattle.std.proofs.Common.{◌≡◌, ◌++◌, drop, length, map}
use Rattle.std.specs.Prelude.{All, IsSome}
use Rattle.group_text.specs.Records.{frame_of_record}
use Rattle.group_parts.specs.FrameLists.{framed}
use Rattle.group_parts.proofs.frames.record_pages.Given as goal

abbrev pub invariant-loop-frame : goal.invariant-loop-frame
invariant-loop-frame l = record {
  so_far : map frame_of_record l.records.items
      ++ framed (drop l.frame l.pages.items) (drop l.frame l.owners)
      ≡ framed l.fn.pages.items l.owners;
  home : All IsSome (drop l.frame l.pages.items);
  each : length l.pages.items ≡ length l.owners;
}
