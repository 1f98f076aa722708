use Rattle.std.proofs.Common.{◌≡◌, ℕ, get_or, take, length-take, arith}
use Rattle.std.specs.Prelude.{not}
use Rattle.std.proofs.lemmas.Option.{get_or_from_slice_get}
use Rattle.std.proofs.lemmas.List.Sums.{count_by-le-length}
use Rattle.dos_world.specs.declared.Entry.{Entry}
use Rattle.kernel_mem.proofs.Dropping.{no_entry}
use Rattle.kernel_mem.proofs.Copies.{private-more, taken-one}
use Rattle.kernel_mem.proofs.forking.private_entries.Goals as goal

pub overflow_add-count : goal.overflow_add-count
overflow_add-count c =
    omega (
      arith,
      taken-one c.at.result.1,
      count_by-le-length (λ (e : ℕ × Entry). not e.1.shared)
          (take c.loop-index.index c.args.space.now.entries),
      length-take c.loop-index.index c.args.space.now.entries,
    )

pub loop-index-preserved : goal.loop-index-preserved
loop-index-preserved c =
    let here : get_or c.args.space.now.entries c.loop-index.index no_entry ≡ c.at.result =
    get_or_from_slice_get c.args.space.now.entries c.loop-index.index c.at.result no_entry
    c.at.ensures in
    omega (
      arith,
      private-more c.args.space.now.entries c.loop-index.index c.at.result
          (omega arith) here,
    )
