use Rattle.std.proofs.Common.{◌∙◌, ◌∷◌, ◌+◌, ◌++◌, [], ap, rules, arith, None}
use Rattle.code_pages.proofs.Lists.{replicate-more}
use Rattle.code_pages.proofs.known.no_pages.Goals as goal

pub loop-preserved : goal.loop-preserved
loop-preserved c = record {
  count = search rules;
  items = c.push_reserved.ensures.items ∙ ap (λ xs. xs ++ None ∷ []) c.loop.invariant.items
      ∙ replicate-more c.loop.counter (c.loop.counter + 1) None (omega arith);
  room = search rules;
}
