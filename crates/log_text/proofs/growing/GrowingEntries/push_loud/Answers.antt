use Rattle.std.proofs.Common.{ℕ, ◌<◌, ◌++◌, ◌∷◌, ◌∙◌, [], List, None, length, arith, ap}
use Rattle.dos_io.specs.declared.exchange.Exchange.TheVariants.{Signals}
use Rattle.log_text.specs.EntriesText.{GrowingState}
use Rattle.log_text.specs.LogText.{entry_text}
use Rattle.log_text.specs.Ranges.{InRange}
use Rattle.log_text.proofs.GrowingLaws.{Grew, grows_kept, is_loud}
use Rattle.log_text.proofs.growing.GrowingEntries.push_loud.Goals.{After-put_signals}
use Rattle.log_text.proofs.growing.GrowingEntries.push_loud.Goals as goal

-- The text is that of one exchange more.
grew : (c : After-put_signals) → Grew c.self.inside.text.items c.self.inside.stretch
    c.self.inside.count (Signals c.args.round c.args.list.now) c.put_signals.new.out.items None
grew c =
    let few : c.self.inside.count < 16777216 =
    omega (
      arith,
      c.requires.few,
      ap (λ (s : GrowingState). length s.list) c.self.view_is,
      c.self.invariant.0.count_is,
    ) in
    let fits : InRange (Signals c.args.round c.args.list.now) =
    record {
      round_fits = omega arith;
      count = omega (arith, c.len-len.ensures.few, c.len-len.ensures.value);
      posts = c.len-len.ensures.posts;
    } in
    grows_kept c.self.inside.text.items c.self.inside.stretch c.self.inside.count (Signals
    c.args.round c.args.list.now)
    c.put_signals.new.out.items c.self.invariant.0 fits tt (is_loud c.args.round c.args.list.now
    c.requires.loud) few
    (c.put_signals.ensures.items ∙ ap (λ (t : List ℕ). t ++ entry_text (Signals c.args.round
    c.args.list.now)) c.put_stretch.ensures.items)

pub invariant_of-self : goal.invariant_of-self
invariant_of-self c = (
  (grew (goal.at.invariant_of-self c).After-put_signals).kept,
  omega (
    arith,
    c.put_signals.ensures.len,
    c.put_signals.ensures.room,
    c.put_stretch.ensures.len,
    c.put_stretch.ensures.room,
    c.requires.room,
    c.self.invariant.1,
    ap (λ (s : GrowingState). s.room) c.self.view_is,
  ),
)

pub returns : goal.returns
returns c =
    (grew (goal.at.returns c).After-put_signals).shows
    ∙ ap (λ (s : GrowingState). s.list ++ (Signals c.args.round c.args.list.now) ∷ [])
    c.self.view_is
