use Rattle.std.proofs.Common.{ℕ, suc, ◌≡◌, ◌+◌, ◌/◌, ◌∙◌, ◌<◌, ap, sym, subst, rules, arith, Some}
use Rattle.std.proofs.Common.{length}
use Rattle.std.specs.Prelude.{slice_get}
use Rattle.std.proofs.lemmas.Option.{slice_get-get_or}
use Rattle.rv_form.specs.Forms.{IsFormOf}
use Rattle.code_pages.proofs.Lists.{got-within, got-set-other}
use Rattle.code_pages.proofs.LineLaws.{start-some, known-renewed, runs-renewed, counts-renewed}
use Rattle.code_pages.proofs.LineLaws.{live-renewed}
use Rattle.code_pages.proofs.learning.Code.renew.Goals as goal

pub index-requires : goal.index-requires
index-requires c =
    let lines = c.args.lines.now.items in
    let page = c.args.self.now in
    let within : c.args.at < length lines =
    subst (λ (n : ℕ). n < length lines) c.requires.begins
    (start-some lines page (c.args.offset / 2) c.requires.known
    (λ e. omega (arith, e, c.requires.begins, c.requires.later))) in
    search rules

pub index_mut-requires : goal.index_mut-requires
index_mut-requires c =
    let lines = c.args.lines.now.items in
    let page = c.args.self.now in
    let within : c.args.at < length lines =
    subst (λ (n : ℕ). n < length lines) c.requires.begins
    (start-some lines page (c.args.offset / 2) c.requires.known
    (λ e. omega (arith, e, c.requires.begins, c.requires.later))) in
    search rules

pub follows-requires : goal.follows-requires
follows-requires c =
    let lines = c.args.lines.now.items in
    let page = c.args.self.now in
    let within : c.args.at < length lines =
    subst (λ (n : ℕ). n < length lines) c.requires.begins
    (start-some lines page (c.args.offset / 2) c.requires.known
    (λ e. omega (arith, e, c.requires.begins, c.requires.later))) in
    let old = c.index.result.now in
    let is : slice_get lines c.args.at ≡ Some old =
    slice_get-get_or lines c.args.at old within ∙ ap Some (sym c.index.ensures) in
    record {
      within = λ h.
          let n = c.requires.counted c.args.at old is
          (subst (λ (n : ℕ). 0 < n) c.with_run-line.ensures.run h) in
          let more : suc c.args.at < length lines = got-within lines n.next (suc c.args.at) n.is in
          search rules;
    }

pub returns-then-follows-clause-known : goal.returns-then-follows-clause-known
returns-then-follows-clause-known c =
    let lines = c.args.lines.now.items in
    let page = c.args.self.now in
    let within : c.args.at < length lines =
    subst (λ (n : ℕ). n < length lines) c.requires.begins
    (start-some lines page (c.args.offset / 2) c.requires.known
    (λ e. omega (arith, e, c.requires.begins, c.requires.later))) in
    let old = c.index.result.now in
    let is : slice_get lines c.args.at ≡ Some old =
    slice_get-get_or lines c.args.at old within ∙ ap Some (sym c.index.ensures) in
    let line = c.with_run-line.result in
    let form : IsFormOf c.args.code line.form =
    subst (IsFormOf c.args.code) (sym c.with_run-line.ensures.form) c.of.ensures.form in
    let offset : line.offset ≡ c.args.offset / 2 + c.args.offset / 2 =
    omega (arith, c.with_run-line.ensures.offset, c.of.ensures.offset, c.requires.even) in
    let run : line.run ≡ old.run =
    c.with_run-line.ensures.run in
    known-renewed lines page (c.args.offset / 2) c.args.at c.args.code old line c.requires.known
    c.requires.begins c.requires.later is c.requires.code form
    (c.with_run-line.ensures.size ∙ c.of.ensures.size) offset run
    (λ g. let b = c.follows.ensures c.if-follows.true g in
    (subst (λ (n : ℕ). 0 < n) run b.0, b.1))

pub returns-then-follows-clause-runs : goal.returns-then-follows-clause-runs
returns-then-follows-clause-runs c =
    let lines = c.args.lines.now.items in
    let page = c.args.self.now in
    let within : c.args.at < length lines =
    subst (λ (n : ℕ). n < length lines) c.requires.begins
    (start-some lines page (c.args.offset / 2) c.requires.known
    (λ e. omega (arith, e, c.requires.begins, c.requires.later))) in
    let old = c.index.result.now in
    let is : slice_get lines c.args.at ≡ Some old =
    slice_get-get_or lines c.args.at old within ∙ ap Some (sym c.index.ensures) in
    let line = c.with_run-line.result in
    let form : IsFormOf c.args.code line.form =
    subst (IsFormOf c.args.code) (sym c.with_run-line.ensures.form) c.of.ensures.form in
    let offset : line.offset ≡ c.args.offset / 2 + c.args.offset / 2 =
    omega (arith, c.with_run-line.ensures.offset, c.of.ensures.offset, c.requires.even) in
    let run : line.run ≡ old.run =
    c.with_run-line.ensures.run in
    runs-renewed lines page (c.args.offset / 2) c.args.at c.args.code old line c.requires.known
    c.requires.begins c.requires.later is c.requires.code form
    (c.with_run-line.ensures.size ∙ c.of.ensures.size) offset run
    (λ g. let b = c.follows.ensures c.if-follows.true g in
    (subst (λ (n : ℕ). 0 < n) run b.0, b.1))
    c.requires.runs c.requires.counted

pub returns-then-follows-clause-counts : goal.returns-then-follows-clause-counts
returns-then-follows-clause-counts c =
    let lines = c.args.lines.now.items in
    let page = c.args.self.now in
    let within : c.args.at < length lines =
    subst (λ (n : ℕ). n < length lines) c.requires.begins
    (start-some lines page (c.args.offset / 2) c.requires.known
    (λ e. omega (arith, e, c.requires.begins, c.requires.later))) in
    let old = c.index.result.now in
    let is : slice_get lines c.args.at ≡ Some old =
    slice_get-get_or lines c.args.at old within ∙ ap Some (sym c.index.ensures) in
    let line = c.with_run-line.result in
    let form : IsFormOf c.args.code line.form =
    subst (IsFormOf c.args.code) (sym c.with_run-line.ensures.form) c.of.ensures.form in
    let offset : line.offset ≡ c.args.offset / 2 + c.args.offset / 2 =
    omega (arith, c.with_run-line.ensures.offset, c.of.ensures.offset, c.requires.even) in
    let run : line.run ≡ old.run =
    c.with_run-line.ensures.run in
    counts-renewed lines page (c.args.offset / 2) c.args.at c.args.code old line c.requires.known
    c.requires.begins c.requires.later is c.requires.code form
    (c.with_run-line.ensures.size ∙ c.of.ensures.size) offset run
    (λ g. let b = c.follows.ensures c.if-follows.true g in
    (subst (λ (n : ℕ). 0 < n) run b.0, b.1))

pub returns-then-follows-clause-live : goal.returns-then-follows-clause-live
returns-then-follows-clause-live c = λ yes.
    let lines = c.args.lines.now.items in
    let page = c.args.self.now in
    let within : c.args.at < length lines =
    subst (λ (n : ℕ). n < length lines) c.requires.begins
    (start-some lines page (c.args.offset / 2) c.requires.known
    (λ e. omega (arith, e, c.requires.begins, c.requires.later))) in
    let old = c.index.result.now in
    let is : slice_get lines c.args.at ≡ Some old =
    slice_get-get_or lines c.args.at old within ∙ ap Some (sym c.index.ensures) in
    let line = c.with_run-line.result in
    let form : IsFormOf c.args.code line.form =
    subst (IsFormOf c.args.code) (sym c.with_run-line.ensures.form) c.of.ensures.form in
    let offset : line.offset ≡ c.args.offset / 2 + c.args.offset / 2 =
    omega (arith, c.with_run-line.ensures.offset, c.of.ensures.offset, c.requires.even) in
    let run : line.run ≡ old.run =
    c.with_run-line.ensures.run in
    live-renewed lines page (c.args.offset / 2) c.args.at c.args.code old line c.requires.known
    c.requires.begins c.requires.later is c.requires.code form
    (c.with_run-line.ensures.size ∙ c.of.ensures.size) offset run
    (λ g. let b = c.follows.ensures c.if-follows.true g in
    (subst (λ (n : ℕ). 0 < n) run b.0, b.1))

pub returns-then-follows-clause-others : goal.returns-then-follows-clause-others
returns-then-follows-clause-others c = λ at differs.
    got-set-other c.args.lines.now.items c.args.at at c.with_run-line.result differs
