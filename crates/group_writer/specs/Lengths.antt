-- Lengths that a text of a saved group tells. This project's own rules.
use Rattle.std.specs.Prelude.{◌≡◌, ◌<◌, ◌^◌, length, reverse, None, All}
use Rattle.dos_world.specs.World.{Registers}
use Rattle.group_text.specs.declared.records.ProcessRecord.{ProcessRecord}
use Rattle.group_text.specs.declared.records.ThreadRecord.{ThreadRecord}

-- where it lives: the number of its pages is one of four bytes
abbrev pub HasFewPages : ProcessRecord → Type 0
HasFewPages r = r.status ≡ None → length r.pages.items < 2 ^ 32

abbrev pub HasAllNumbers : Registers → Type 0
HasAllNumbers r = length r.numbers ≡ 32

-- The number of what handlers have saved is one byte; its registers and those saved have x0 to x31.
pub record IsWholeThread (r : ThreadRecord) : Type 0 where
  pub few : length r.saved.items < 256
  pub registers : HasAllNumbers r.regs
  pub saved : All (λ s. HasAllNumbers s.0) (reverse r.saved.items)
