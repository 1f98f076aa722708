use Rattle.std.proofs.Common.{◌≡◌, length, drop}
use Rattle.debug_client.specs.Births.{images_with}
use Rattle.debug_client.proofs.births.note_images.Given as goal

abbrev pub invariant-loop-place : goal.invariant-loop-place
invariant-loop-place l = record {
  many : length l.numbers.items ≡ l.place;
  all : images_with l.images l.numbers.items (drop l.place l.table.processes)
      ≡ images_with l.images l.fn.numbers.items
      (drop (length l.fn.numbers.items) l.table.processes);
}
