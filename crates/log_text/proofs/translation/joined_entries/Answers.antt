use Rattle.std.proofs.Common.{◌∙◌, ◌++◌, ◌∷◌, [], List, length, sym, ap, arith}
use Rattle.std.proofs.lemmas.List.{take_all, length-take}
use Rattle.dos_io.specs.declared.exchange.Exchange.{Exchange}
use Rattle.log_text.specs.Views.{exchange_of}
use Rattle.log_text.proofs.PlaceLaws.{stands_first, passed_more}
use Rattle.log_text.proofs.translation.joined_entries.Goals as goal

pub loop-i-init : goal.loop-i-init
loop-i-init c = (c.new-entries.ensures, stands_first c.args.log.now c.len-len.ensures.fits)

pub entry_at-after-requires-clause-more : goal.entry_at-after-requires-clause-more
entry_at-after-requires-clause-more c = omega (arith, c.loop-i-test.true, c.count-i-end.ensures)

pub entry_at-after-requires-clause-here : goal.entry_at-after-requires-clause-here
entry_at-after-requires-clause-here c = c.loop-i.invariant.1

pub add-requires-clause-few : goal.add-requires-clause-few
add-requires-clause-few c =
    omega (
      arith,
      c.loop-i-test.true,
      c.count-i-end.ensures,
      c.len-len.ensures.fits.few,
      ap length c.loop-i.invariant.0,
      length-take c.loop-i.i c.args.log.now.entries,
    )

pub loop-i-preserved : goal.loop-i-preserved
loop-i-preserved c = (
  c.in_ok-add.ensures
      ∙ ap (λ (es : List Exchange). es ++ exchange_of c.entry_at-after.result.0 ∷ [])
      c.loop-i.invariant.0
      ∙ sym (passed_more c.args.log.now.entries c.loop-i.i (exchange_of c.entry_at-after.result.0)
      c.entry_at-after.ensures.entry),
  c.entry_at-after.ensures.behind,
)

pub returns-clause-list : goal.returns-clause-list
returns-clause-list c =
    c.close.ensures.list ∙ c.loop-i.invariant.0
    ∙ take_all c.loop-i.i c.args.log.now.entries
    (omega (arith, c.loop-i-test.false, c.count-i-end.ensures))
