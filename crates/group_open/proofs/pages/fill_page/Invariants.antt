use Rattle.std.proofs.Common.{◌≡◌, ℕ, ◌+◌, ◌*◌, ◌<◌, take, get_or}
use Rattle.std.specs.Prelude.{find}
use Rattle.page_store.specs.Store.{whole}
use Rattle.flat_machine.specs.Opening.{covers, part_byte}
use Rattle.group_open.proofs.pages.fill_page.Given as goal

-- the bytes of the parts so far
abbrev pub invariant-loop-part : goal.invariant-loop-part
invariant-loop-part l = (k : ℕ) → k < 4096
    → get_or (whole l.target) k 0
    ≡ part_byte (4096 * l.page + k)
    (find (covers (4096 * l.page + k)) (take l.part-index l.part-items))
