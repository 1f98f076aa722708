use Rattle.std.proofs.Common.{◌≡◌, ◌≤◌, ◌<◌, ◌∙◌, ◌+◌, ◌-◌, ℕ, List, Ok, Some, length, sym, ap}
use Rattle.std.proofs.Common.{[], ap₂, subst, arith}
use Rattle.log_text.specs.declared.version.LogVersion.{LogVersion}
use Rattle.log_text.specs.declared.progress.Progress.{Progress}
use Rattle.dos_io.specs.declared.exchange.Exchange.{Exchange}
use Rattle.dos_io.specs.declared.exchange.Exchange.TheVariants.{Signals}
use Rattle.log_text.specs.Items.{Item, quiet, kept}
use Rattle.log_text.specs.Ranges.{NotEnd}
use Rattle.log_text.specs.Reading.{item_at, nothing_read}
use Rattle.log_text.specs.Views.{exchange_of, item_of}
use Rattle.log_text.proofs.ItemReading.{item_read, item_refused}
use Rattle.log_text.proofs.PlaceLaws.{IsRead, NextAt, first_is, never_refused, rest_place}
use Rattle.log_text.proofs.PlaceLaws.{next_kept, next_more, next_last, in_stretch, in_range}
use Rattle.log_text.proofs.log_walk.entry_at.Goals.{After-read_item}
use Rattle.log_text.proofs.log_walk.entry_at.Goals as goal

here : (c : After-read_item) → IsRead c.args.log.now c.args.place
    c.text-text.result.now c.behind-left.result.now
here c = record { text_is = c.text-text.ensures.text; left_is = c.behind-left.ensures }

-- it is read with nothing in front of it
alone : (c : After-read_item) → item_at c.args.log.now.version nothing_read
    (length c.text-text.result.now) c.behind-left.result.now
    ≡ item_at c.version.result c.new.result (length c.text-text.result.now)
    c.behind-left.result.now
alone c = ap₂ (λ (v : LogVersion) (p : Progress). item_at v p (length c.text-text.result.now)
    c.behind-left.result.now) (sym c.version.ensures) (sym c.new.ensures)

pub unreachable-requires : goal.unreachable-requires
unreachable-requires c =
    let a = (goal.at.unreachable-requires c).After-read_item in
    never_refused c.args.log.now c.args.passed c.args.place
    c.args.within c.text-text.result.now c.behind-left.result.now
    (first_is _ _ _ _ c.requires.here a.requires.more) (here a) _
    (alone a ∙ item_refused _ _ _ _ _ c.in-Err.ensures)

pub overflow_sub-result : goal.overflow_sub-result
overflow_sub-result c =
    let a = (goal.at.overflow_sub-result c).After-read_item in
    (rest_place c.args.log.now c.args.passed c.args.place
    c.args.within c.text-text.result.now c.behind-left.result.now
    (first_is _ _ _ _ c.requires.here a.requires.more) (here a) _ _
    (alone a ∙ item_read _ _ _ _ _ c.in-Ok.ensures)).0

pub overflow_sub-result-in-Quiet : goal.overflow_sub-result-in-Quiet
overflow_sub-result-in-Quiet c =
    let a = (goal.at.overflow_sub-result-in-Quiet c).After-read_item in
    (rest_place c.args.log.now c.args.passed c.args.place
    c.args.within c.text-text.result.now c.behind-left.result.now
    (first_is _ _ _ _ c.requires.here a.requires.more) (here a) _ _
    (alone a ∙ item_read _ _ _ _ _ c.in-Ok.ensures)).0

-- ---- an exchange of its own

kept_next : (a : After-read_item) (item : Item) (rest : List ℕ) (e : Exchange)
    → item_at a.version.result a.new.result (length a.text-text.result.now)
    a.behind-left.result.now ≡ Ok (item, rest) → item ≡ kept e
    → NextAt a.args.log.now a.args.passed e (length a.text-text.result.now - length rest) 0
kept_next a item rest e read is =
    (next_kept a.args.log.now a.args.passed a.args.place a.args.within a.text-text.result.now
    a.behind-left.result.now rest e a.requires.more a.requires.here (here a)
    (alone a ∙ read ∙ ap (λ (i : Item). Ok (i, rest)) is))

pub returns-in-Kept-clause-entry : goal.returns-in-Kept-clause-entry
returns-in-Kept-clause-entry c =
    (kept_next (goal.at.returns-in-Kept-clause-entry c).After-read_item _ c.in-Ok.rest.now
    (exchange_of c.in-Kept.entry) (item_read _ _ _ _ _ c.in-Ok.ensures)
    (ap item_of c.in-Kept.is)).entry

pub returns-in-Kept-clause-fits : goal.returns-in-Kept-clause-fits
returns-in-Kept-clause-fits c =
    (kept_next (goal.at.returns-in-Kept-clause-fits c).After-read_item _ c.in-Ok.rest.now
    (exchange_of c.in-Kept.entry) (item_read _ _ _ _ _ c.in-Ok.ensures)
    (ap item_of c.in-Kept.is)).fits

pub returns-in-Kept-clause-behind : goal.returns-in-Kept-clause-behind
returns-in-Kept-clause-behind c =
    (kept_next (goal.at.returns-in-Kept-clause-behind c).After-read_item _ c.in-Ok.rest.now
    (exchange_of c.in-Kept.entry) (item_read _ _ _ _ _ c.in-Ok.ensures)
    (ap item_of c.in-Kept.is)).behind

-- ---- in a stretch

quiet_read : (a : After-read_item) (item : Item) (rest : List ℕ) (round count : ℕ)
    → item_at a.version.result a.new.result (length a.text-text.result.now)
    a.behind-left.result.now ≡ Ok (item, rest) → item ≡ quiet round count
    → item_at a.args.log.now.version nothing_read (length a.text-text.result.now)
    a.behind-left.result.now ≡ Ok (quiet round count, rest)
quiet_read a item rest round count read is =
    alone a ∙ read ∙ ap (λ (i : Item). Ok (i, rest)) is

pub overflow_add-round : goal.overflow_add-round
overflow_add-round c =
    let a = (goal.at.overflow_add-round c).After-read_item in
    let read = quiet_read a _ c.in-Ok.rest.now c.in-Quiet.round c.in-Quiet.count
    (item_read _ _ _ _ _ c.in-Ok.ensures)
    (ap item_of c.in-Quiet.is) in
    omega (
      arith,
      in_stretch a.args.log.now a.args.passed c.args.place c.args.within c.text-text.result.now
          c.behind-left.result.now c.in-Ok.rest.now c.in-Quiet.round c.in-Quiet.count
          a.requires.more c.requires.here (here a) read,
      in_range a.args.log.now a.args.passed c.args.place c.args.within c.text-text.result.now
          c.behind-left.result.now c.in-Ok.rest.now c.in-Quiet.round c.in-Quiet.count
          a.requires.more c.requires.here (here a) read,
    )

more_next : (a : After-read_item) (item : Item) (rest : List ℕ) (round count : ℕ)
    → item_at a.version.result a.new.result (length a.text-text.result.now)
    a.behind-left.result.now ≡ Ok (item, rest) → item ≡ quiet round count
    → a.args.within + 1 < count
    → NextAt a.args.log.now a.args.passed (Signals (round + a.args.within) []) a.args.place
    (a.args.within + 1)
more_next a item rest round count read is more =
    (next_more a.args.log.now a.args.passed a.args.place a.args.within a.text-text.result.now
    a.behind-left.result.now rest round count a.requires.more a.requires.here (here a)
    (quiet_read a item rest round count read is) more)

last_next : (a : After-read_item) (item : Item) (rest : List ℕ) (round count : ℕ)
    → item_at a.version.result a.new.result (length a.text-text.result.now)
    a.behind-left.result.now ≡ Ok (item, rest) → item ≡ quiet round count
    → count ≤ a.args.within + 1
    → NextAt a.args.log.now a.args.passed (Signals (round + a.args.within) [])
    (length a.text-text.result.now - length rest) 0
last_next a item rest round count read is last =
    (next_last a.args.log.now a.args.passed a.args.place a.args.within a.text-text.result.now
    a.behind-left.result.now rest round count a.requires.more a.requires.here (here a)
    (quiet_read a item rest round count read is) last)

pub returns-then-within-count-clause-entry : goal.returns-then-within-count-clause-entry
returns-then-within-count-clause-entry c =
    (more_next (goal.at.returns-then-within-count-clause-entry c).After-read_item _
    c.in-Ok.rest.now c.in-Quiet.round c.in-Quiet.count (item_read _ _ _ _ _ c.in-Ok.ensures)
    (ap item_of c.in-Quiet.is)
    c.if-within-count.true).entry
    ∙ ap (λ (e : Exchange). Some e) (sym c.quiet_entry-entry.ensures)

pub returns-then-within-count-clause-behind : goal.returns-then-within-count-clause-behind
returns-then-within-count-clause-behind c =
    (more_next (goal.at.returns-then-within-count-clause-behind c).After-read_item _
    c.in-Ok.rest.now c.in-Quiet.round c.in-Quiet.count (item_read _ _ _ _ _ c.in-Ok.ensures)
    (ap item_of c.in-Quiet.is)
    c.if-within-count.true).behind

pub returns-else-within-count-clause-entry : goal.returns-else-within-count-clause-entry
returns-else-within-count-clause-entry c =
    (last_next (goal.at.returns-else-within-count-clause-entry c).After-read_item _
    c.in-Ok.rest.now c.in-Quiet.round c.in-Quiet.count (item_read _ _ _ _ _ c.in-Ok.ensures)
    (ap item_of c.in-Quiet.is)
    c.if-within-count.false).entry
    ∙ ap (λ (e : Exchange). Some e) (sym c.quiet_entry-entry.ensures)

pub returns-else-within-count-clause-behind : goal.returns-else-within-count-clause-behind
returns-else-within-count-clause-behind c =
    (last_next (goal.at.returns-else-within-count-clause-behind c).After-read_item _
    c.in-Ok.rest.now c.in-Quiet.round c.in-Quiet.count (item_read _ _ _ _ _ c.in-Ok.ensures)
    (ap item_of c.in-Quiet.is)
    c.if-within-count.false).behind

-- ---- none is the end

pub returns-in-Kept-clause-no_end : goal.returns-in-Kept-clause-no_end
returns-in-Kept-clause-no_end c =
    (kept_next (goal.at.returns-in-Kept-clause-no_end c).After-read_item _ c.in-Ok.rest.now
    (exchange_of c.in-Kept.entry) (item_read _ _ _ _ _ c.in-Ok.ensures)
    (ap item_of c.in-Kept.is)).no_end

pub returns-then-within-count-clause-no_end : goal.returns-then-within-count-clause-no_end
returns-then-within-count-clause-no_end c = subst NotEnd (sym c.quiet_entry-entry.ensures) tt

pub returns-else-within-count-clause-no_end : goal.returns-else-within-count-clause-no_end
returns-else-within-count-clause-no_end c = subst NotEnd (sym c.quiet_entry-entry.ensures) tt
