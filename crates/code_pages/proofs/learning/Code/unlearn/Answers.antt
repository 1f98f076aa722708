use Rattle.std.proofs.Common.{◌<◌, ◌∙◌, rules, ap, sym, subst, List, ℕ, length, arith, suc}
use Rattle.std.specs.Prelude.{slice_index}
use Rattle.code_pages.specs.Lines.{CodePage, IsStaleAt}
use Rattle.code_pages.proofs.Lists.{index-of-got}
use Rattle.code_pages.proofs.LineLaws.{start-some, kept-all}
use Rattle.code_pages.proofs.learning.Code.unlearn.Goals as goal

pub make_stale-requires : goal.make_stale-requires
make_stale-requires c =
    let starts = c.deref.ensures ∙ ap (λ (p : CodePage). p.starts) c.self.view_is in
    let within : slice_index c.deref.result.now c.args.half < length c.args.lines.now.items =
    subst (λ (xs : List ℕ). slice_index xs c.args.half < length c.args.lines.now.items)
    (sym starts) (start-some c.args.lines.now.items c.args.self.now c.args.half c.requires.known
    (λ e. c.if-at-ne0.true (ap (λ (xs : List ℕ). slice_index xs c.args.half) starts ∙ e))) in
    record { within = search rules; later = omega (arith, c.if-at-ne0.true) }

pub returns-then-at-ne0-clause-stale : goal.returns-then-at-ne0-clause-stale
returns-then-at-ne0-clause-stale c = λ at got.
    let starts = c.deref.ensures ∙ ap (λ (p : CodePage). p.starts) c.self.view_is in
    subst (λ n. IsStaleAt c.make_stale.new.lines.items n)
    (ap (λ (xs : List ℕ). slice_index xs c.args.half) starts
    ∙ index-of-got c.args.self.now.starts c.args.half (suc at) got) c.make_stale.ensures.stale

pub returns-else-at-ne0-clause-kept : goal.returns-else-at-ne0-clause-kept
returns-else-at-ne0-clause-kept c = kept-all c.args.lines.now.items

pub returns-else-at-ne0-clause-stale : goal.returns-else-at-ne0-clause-stale
returns-else-at-ne0-clause-stale c = λ at got.
    let starts = c.deref.ensures ∙ ap (λ (p : CodePage). p.starts) c.self.view_is in
    let e = ap (λ (xs : List ℕ). slice_index xs c.args.half) starts
    ∙ index-of-got c.args.self.now.starts c.args.half (suc at) got in
    absurd (omega (arith, e, c.if-at-ne0.false))
