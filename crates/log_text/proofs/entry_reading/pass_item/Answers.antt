use Rattle.std.proofs.Common.{◌∙◌, Ok, Err, sym, ap, arith}
use Rattle.log_text.specs.Items.{Item}
use Rattle.log_text.specs.Views.{item_of}
use Rattle.log_text.specs.declared.refusal.LogError.{LogError}
use Rattle.log_text.proofs.ItemReading.{SpellsItem, item_takes, item_held, comes_fits, ends_as}
use Rattle.log_text.proofs.ItemReading.{item_read, item_refused}
use Rattle.log_text.proofs.entry_reading.pass_item.Goals.{After-end}
use Rattle.log_text.proofs.entry_reading.pass_item.Goals as goal

-- what was read
spells : (c : After-end) → SpellsItem c.args.version c.args.progress c.args.bytes.now
    (item_of c.in-Ok.item, c.in-Ok.rest.now)
spells c = item_takes c.args.version c.args.progress c.args.end c.args.bytes.now
    (item_of c.in-Ok.item, c.in-Ok.rest.now) (λ i. omega (arith, c.type_inv.bytes i)) c.requires
    (item_read _ _ _ _ _ c.in-Ok.ensures)

pub after-requires : goal.after-requires
after-requires c =
    item_held c.args.version c.args.progress (item_of c.in-Ok.item)
    (comes_fits c.args.version c.args.progress (item_of c.in-Ok.item)
    (spells (goal.at.after-requires c).After-end).comes (sym c.end.ensures ∙ c.in-None.is))

pub returns-in-None-clause-passed : goal.returns-in-None-clause-passed
returns-in-None-clause-passed c =
    let s = spells (goal.at.returns-in-None-clause-passed c).After-end in
    record {
      item = item_of c.in-Ok.item;
      read = item_read _ _ _ _ _ c.in-Ok.ensures;
      fits = comes_fits c.args.version c.args.progress (item_of c.in-Ok.item) s.comes
          (sym c.end.ensures ∙ c.in-None.is);
      parts = s.takes.parts;
      progress = c.after.ensures;
    }

pub returns-in-Some-clause-passed : goal.returns-in-Some-clause-passed
returns-in-Some-clause-passed c =
    item_read _ _ _ _ _ c.in-Ok.ensures
    ∙ ap (λ (i : Item). Ok (i, c.in-Ok.rest.now))
    (ends_as (item_of c.in-Ok.item) c.in-Some.last (sym c.end.ensures ∙ c.in-Some.is))

pub returns-in-Err-clause-refused : goal.returns-in-Err-clause-refused
returns-in-Err-clause-refused c =
    item_refused _ _ _ _ _ c.in-Err.ensures
    ∙ ap (λ (e : LogError). Err e) (sym c.entry_error.ensures)
