use Rattle.std.proofs.Common.{◌∙◌, ◌++◌, ℕ, List, sym, ap, arith}
use Rattle.std.specs.List.{flat_map}
use Rattle.std.proofs.lemmas.List.{append-nil, take_all}
use Rattle.dos_io.specs.declared.exchange.Exchange.{Exchange}
use Rattle.log_text.specs.LogText.{entry_text}
use Rattle.log_text.specs.Views.{exchange_of}
use Rattle.log_text.proofs.PlaceLaws.{stands_first}
use Rattle.log_text.proofs.TranslationLaws.{each_text, text_more}
use Rattle.log_text.proofs.translation.put_each.Goals as goal

pub loop-i-init : goal.loop-i-init
loop-i-init c = (
  sym (append-nil c.args.out.now.items),
  stands_first c.args.log.now c.len-len.ensures.fits,
)

pub entry_at-after-requires-clause-more : goal.entry_at-after-requires-clause-more
entry_at-after-requires-clause-more c = omega (arith, c.loop-i-test.true, c.count-i-end.ensures)

pub entry_at-after-requires-clause-here : goal.entry_at-after-requires-clause-here
entry_at-after-requires-clause-here c = c.loop-i.invariant.1

pub loop-i-preserved : goal.loop-i-preserved
loop-i-preserved c = (
  c.in_ok-put_entry.ensures
      ∙ ap (λ (t : List ℕ). t ++ entry_text (exchange_of c.entry_at-after.result.0))
      c.loop-i.invariant.0
      ∙ text_more c.args.out.now.items c.args.log.now.entries c.loop-i.i
      (exchange_of c.entry_at-after.result.0) c.entry_at-after.ensures.entry,
  c.entry_at-after.ensures.behind,
)

pub returns : goal.returns
returns c =
    c.loop-i.invariant.0
    ∙ ap (λ (es : List Exchange). c.args.out.now.items ++ flat_map entry_text es)
    (take_all c.loop-i.i c.args.log.now.entries
    (omega (arith, c.loop-i-test.false, c.count-i-end.ensures)))
    ∙ ap (λ (t : List ℕ). c.args.out.now.items ++ t) (sym (each_text c.args.log.now.entries))
