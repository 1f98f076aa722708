use Rattle.std.proofs.Common.{◌≡◌, ◌∙◌, ap, sym, rules, Some}
use Rattle.std.specs.Prelude.{slice_get}
use Rattle.std.proofs.lemmas.Option.{slice_get-get_or}
use Rattle.code_pages.proofs.LineLaws.{kept-stale, stale-at}
use Rattle.code_pages.proofs.learning.make_stale.Goals as goal

pub returns-clause-kept : goal.returns-clause-kept
returns-clause-kept c =
    let lines = c.args.lines.now.items in
    let was = c.index.result.now in
    let is : slice_get lines c.args.at ≡ Some was =
    slice_get-get_or lines c.args.at was (search rules) ∙ ap Some (sym c.index.ensures) in
    kept-stale lines c.args.at was c.stale.result is c.stale.ensures.kind c.stale.ensures.size
    c.stale.ensures.offset c.stale.ensures.run c.requires.later

pub returns-clause-stale : goal.returns-clause-stale
returns-clause-stale c =
    let lines = c.args.lines.now.items in
    let was = c.index.result.now in
    let is : slice_get lines c.args.at ≡ Some was =
    slice_get-get_or lines c.args.at was (search rules) ∙ ap Some (sym c.index.ensures) in
    stale-at lines c.args.at was c.stale.result is c.stale.ensures.kind c.stale.ensures.size
    c.stale.ensures.offset c.stale.ensures.run
