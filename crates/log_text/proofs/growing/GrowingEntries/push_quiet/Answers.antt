use Rattle.std.proofs.Common.{◌++◌, ◌∷◌, ◌∙◌, [], List, length}
use Rattle.std.proofs.Common.{sym, arith, ap, subst}
use Rattle.dos_io.specs.declared.exchange.Exchange.{Exchange}
use Rattle.dos_io.specs.declared.exchange.Exchange.TheVariants.{Signals}
use Rattle.log_text.specs.EntriesText.{GrowingState}
use Rattle.log_text.specs.EntriesText.{GrowsBy}
use Rattle.log_text.proofs.GrowingLaws.{grows_on, grows_quiet, quiet_grows, stretch_few}
use Rattle.log_text.proofs.GrowingLaws.{grown_fits, stretch_fits}
use Rattle.log_text.proofs.growing.GrowingEntries.push_quiet.Goals as goal

pub counted_up-requires : goal.counted_up-requires
counted_up-requires c = stretch_few _ _ _ c.self.invariant.0

pub put_stretch-requires : goal.put_stretch-requires
put_stretch-requires c = c.self.invariant.1

pub invariant_of-self : goal.invariant_of-self
invariant_of-self c = (
  (grows_on c.self.inside.text.items c.self.inside.stretch c.self.inside.count c.args.round
      c.in-Some.more c.self.invariant.0 (sym c.counted_up.ensures ∙ c.in-Some.is) (omega arith)
      (omega (
        arith,
        c.requires.few,
        ap (λ (s : GrowingState). length s.list) c.self.view_is,
        c.self.invariant.0.count_is,
      ))).kept,
  stretch_fits _ _ _ _ _ (sym c.counted_up.ensures ∙ c.in-Some.is) c.self.invariant.1,
)

pub returns-in-Some : goal.returns-in-Some
returns-in-Some c =
    (grows_on c.self.inside.text.items c.self.inside.stretch c.self.inside.count c.args.round
    c.in-Some.more c.self.invariant.0 (sym c.counted_up.ensures ∙ c.in-Some.is) (omega arith)
    (omega (
      arith,
      c.requires.few,
      ap (λ (s : GrowingState). length s.list) c.self.view_is,
      c.self.invariant.0.count_is,
    ))).shows
    ∙ ap (λ (s : GrowingState). s.list ++ Signals c.args.round [] ∷ []) c.self.view_is

pub invariant_of-self-in-None : goal.invariant_of-self-in-None
invariant_of-self-in-None c =
    let grows : GrowsBy c.args.self.now.list (Signals c.args.round []) 9 =
    subst (λ (es : List Exchange). GrowsBy es (Signals c.args.round []) 9)
    (ap (λ (s : GrowingState). s.list) c.self.view_is)
    (quiet_grows _ _ _ c.args.round c.self.invariant.0
    (sym c.counted_up.ensures ∙ c.in-None.is)) in (
      (grows_quiet c.self.inside.text.items c.self.inside.stretch c.self.inside.count
          c.args.round c.put_stretch.new.text.items c.self.invariant.0
          (sym c.counted_up.ensures ∙ c.in-None.is) (omega arith) (omega (
            arith,
            c.requires.few,
            ap (λ (s : GrowingState). length s.list) c.self.view_is,
            c.self.invariant.0.count_is,
          )) c.put_stretch.ensures.items).kept,
      omega (
        arith,
        grown_fits _ _ _ _ grows c.requires.room,
        c.put_stretch.ensures.len,
        c.put_stretch.ensures.room,
        c.self.invariant.1,
        ap (λ (s : GrowingState). s.room) c.self.view_is,
      ),
    )

pub returns-in-None : goal.returns-in-None
returns-in-None c =
    (grows_quiet c.self.inside.text.items c.self.inside.stretch c.self.inside.count c.args.round
    c.put_stretch.new.text.items c.self.invariant.0 (sym c.counted_up.ensures ∙ c.in-None.is)
    (omega arith) (omega (
      arith,
      c.requires.few,
      ap (λ (s : GrowingState). length s.list) c.self.view_is,
      c.self.invariant.0.count_is,
    )) c.put_stretch.ensures.items).shows
    ∙ ap (λ (s : GrowingState). s.list ++ Signals c.args.round [] ∷ []) c.self.view_is
