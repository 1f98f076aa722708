use Rattle.std.proofs.Common.{◌≡◌, ◌≤◌, ◌++◌, ℕ, List, map, take}
use Rattle.dos_io.specs.FileCalls.{getting}
use Rattle.debug_connection.specs.Keeping.{texts_of}
use Rattle.dos_cmd.proofs.RunFiles.{Keeps, Reads}
use Rattle.dos_cmd.proofs.images.load_all.Given as goal

abbrev pub invariant-loop-index : goal.invariant-loop-index
invariant-loop-index g l = record {
  reads : Reads (g.F.Files.content l.fn.files) l.names l.index l.images.items l.digests;
  kept : Keeps (g.F.Files.content l.fn.files) l.names l.index (texts_of l.contents.items);
  stays : (n : List ℕ) → g.F.Files.content l.files n ≡ g.F.Files.content l.fn.files n;
  tells : g.F.Files.tells l.files ≡ g.F.Files.tells l.fn.files;
  asked : g.F.Files.asked l.files
      ≡ g.F.Files.asked l.fn.files ++ map getting (take l.index l.names);
  later : g.F.Files.faults l.fn.files ≤ g.F.Files.faults l.files;
}
