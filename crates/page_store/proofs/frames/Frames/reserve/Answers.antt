use Rattle.std.proofs.Common.{◌≡◌, ◌∙◌, ap, length, List, Some, Option, ℕ, arith}
use Rattle.std.proofs.lemmas.List.{length-replicate}
use Rattle.dos_world.specs.Kernel.{zero_page}
use Rattle.page_store.proofs.Counts.{kept-unused, free-all}
use Rattle.page_store.proofs.frames.Frames.reserve.Goals as goal

pub invariant_of-result : goal.invariant_of-result
invariant_of-result c =
    let count : length c.in_ok-zero_pages.field-0.items ≡ c.args.count =
    ap (λ (ps : List (Option (List ℕ))). length ps) c.in_ok-zero_pages.ensures
    ∙ length-replicate c.args.count (Some zero_page) in (
      kept-unused _ _ _ _ c.args.count count c.in_ok-free_owners.ensures c.in_ok-no_uses.ensures
          c.in_ok-full.ensures
          (omega (arith, c.ranges.count)),
      free-all _ c.args.count c.in_ok-free_owners.ensures,
      omega arith,
      tt,
      λ same. absurd (cc),
    )
