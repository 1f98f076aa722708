use Rattle.std.proofs.Common.{◌≡◌, take}
use Rattle.std.specs.Prelude.{filter}
use Rattle.std.specs.List.{list_any}
use Rattle.flat_machine.specs.Opening.{touches}
use Rattle.group_open.proofs.pages.entry_of.Given as goal

-- the rights of the parts so far
abbrev pub invariant-loop-part : goal.invariant-loop-part
invariant-loop-part l = record {
  write : l.rights.write ≡ list_any (λ part. part.write)
      (filter (touches l.page) (take l.part-index l.part-items));
  exec : l.rights.exec ≡ list_any (λ part. part.exec)
      (filter (touches l.page) (take l.part-index l.part-items));
}
