use Rattle.std.proofs.Common.{◌≡◌, ◌∙◌, ap, sym, rules, Some, arith}
use Rattle.std.specs.Prelude.{slice_get}
use Rattle.std.proofs.lemmas.Option.{slice_get-get_or}
use Rattle.code_pages.proofs.LineLaws.{codes-all, codes-set, counted-none, counted-set, counted-all}
use Rattle.code_pages.proofs.LineLaws.{below-set}
use Rattle.code_pages.proofs.learning.count_runs.Goals as goal

pub loop-at-init : goal.loop-at-init
loop-at-init c = record {
  count = search rules;
  entry = search rules;
  below = λ at h. search rules;
  codes = codes-all c.args.lines.now.items;
  counted = counted-none c.args.first c.args.lines.now.items;
  capacity = search rules;
}

pub loop-at-preserved : goal.loop-at-preserved
loop-at-preserved c =
    let lines = c.loop-at.lines.items in
    let was = c.index.result.now in
    let is : slice_get lines c.loop-at.at ≡ Some was =
    slice_get-get_or lines c.loop-at.at was (search rules) ∙ ap Some (sym c.index.ensures) in
    record {
      count = search rules;
      entry = search rules;
      below = below-set c.args.first c.loop-at.at _ lines c.with_run.result (search rules)
          c.loop-at.invariant.below;
      codes = codes-set c.args.lines.now.items lines c.loop-at.at was c.with_run.result
          c.loop-at.invariant.codes is c.with_run.ensures.offset c.with_run.ensures.kind
          c.with_run.ensures.size c.with_run.ensures.form;
      counted =
          λ at line g from below. counted-set c.args.first c.loop-at.at lines c.with_run.result
          (search rules) (search rules) c.loop-at.invariant.counted at line g from
          (omega (arith, below));
      capacity = search rules;
    }

pub returns-clause-counted : goal.returns-clause-counted
returns-clause-counted c =
    counted-all c.args.first c.loop-at.at c.loop-at.lines.items (search rules)
    c.loop-at.invariant.counted
