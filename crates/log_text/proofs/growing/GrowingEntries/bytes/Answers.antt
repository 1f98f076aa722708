use Rattle.std.proofs.Common.{◌∙◌, length, ap, arith}
use Rattle.std.proofs.lemmas.List.{length-append}
use Rattle.log_text.specs.declared.version.LogVersion.TheVariants.{Two}
use Rattle.log_text.specs.EntriesText.{GrowingState, stretch_items}
use Rattle.log_text.specs.LogText.{items_text, entries_text}
use Rattle.log_text.proofs.GrowingLaws.{grown_text}
use Rattle.log_text.proofs.growing.GrowingEntries.bytes.Goals as goal

pub returns : goal.returns
returns c =
    omega (
      arith,
      c.len.ensures,
      c.stretch_bytes.ensures.value,
      ap length (grown_text _ _ _ c.self.invariant.0),
      length-append c.self.inside.text.items
          (items_text (stretch_items c.self.inside.stretch)),
    )
    ∙ ap (λ (s : GrowingState). length (entries_text Two s.list)) c.self.view_is
