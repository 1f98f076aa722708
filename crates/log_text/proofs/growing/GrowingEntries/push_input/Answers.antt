use Rattle.std.proofs.Common.{ℕ, ◌<◌, ◌++◌, ◌∷◌, ◌∙◌, [], List, None, length, arith, ap}
use Rattle.dos_io.specs.declared.exchange.Exchange.TheVariants.{Input}
use Rattle.log_text.specs.EntriesText.{GrowingState}
use Rattle.log_text.specs.LogText.{entry_text}
use Rattle.log_text.specs.Ranges.{InRange}
use Rattle.log_text.proofs.GrowingLaws.{Grew, grows_kept}
use Rattle.log_text.proofs.growing.GrowingEntries.push_input.Goals.{After-put_input}
use Rattle.log_text.proofs.growing.GrowingEntries.push_input.Goals as goal

-- The text is that of one exchange more.
grew : (c : After-put_input) → Grew c.self.inside.text.items c.self.inside.stretch
    c.self.inside.count (Input c.args.round c.args.tid c.args.max c.args.bytes.now)
    c.put_input.new.out.items None
grew c =
    let few : c.self.inside.count < 16777216 =
    omega (
      arith,
      c.requires.few,
      ap (λ (s : GrowingState). length s.list) c.self.view_is,
      c.self.invariant.0.count_is,
    ) in
    let fits : InRange (Input c.args.round c.args.tid c.args.max c.args.bytes.now) =
    record {
      round_fits = omega arith;
      tid_fits = omega arith;
      max_fits = (c.requires.low, c.requires.high);
      short = c.requires.short;
      bytes_fit = λ i. omega (arith, c.type_inv.bytes i);
    } in
    grows_kept c.self.inside.text.items c.self.inside.stretch c.self.inside.count (Input
    c.args.round c.args.tid c.args.max c.args.bytes.now)
    c.put_input.new.out.items c.self.invariant.0 fits tt tt few
    (c.put_input.ensures.items ∙ ap (λ (t : List ℕ). t ++ entry_text (Input c.args.round c.args.tid
    c.args.max c.args.bytes.now)) c.put_stretch.ensures.items)

pub invariant_of-self : goal.invariant_of-self
invariant_of-self c = (
  (grew (goal.at.invariant_of-self c).After-put_input).kept,
  omega (
    arith,
    c.put_input.ensures.len,
    c.put_input.ensures.room,
    c.put_stretch.ensures.len,
    c.put_stretch.ensures.room,
    c.requires.room,
    c.self.invariant.1,
    ap (λ (s : GrowingState). s.room) c.self.view_is,
  ),
)

pub returns : goal.returns
returns c =
    (grew (goal.at.returns c).After-put_input).shows
    ∙ ap (λ (s : GrowingState). s.list ++ (Input c.args.round c.args.tid c.args.max
    c.args.bytes.now) ∷ []) c.self.view_is
