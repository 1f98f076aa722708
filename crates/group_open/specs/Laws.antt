-- Laws of the definitions; the functions of the module laws promise them.
use Rattle.std.specs.Prelude.{List, length, ◌≤◌, All}
use Rattle.dos_world.specs.Lawful.{Lawful, IsConfig, IsByte}
use Rattle.dos_world.specs.declared.Config.{Config}
use Rattle.elf_image.specs.declared.part.Part.{Part}
use Rattle.elf_image.specs.Image.{Image, IsSoundImage}
use Rattle.flat_machine.specs.Opening.{opening, needed}

-- what a part has of its file are bytes
abbrev pub HasBytes : Part → Type 0
HasBytes part = All IsByte part.bytes

-- a sound image whose parts hold bytes, as those of files that no refusal holds of
pub record IsAccepted (image : Image) : Type 0 where
  pub sound : IsSoundImage image
  pub bytes : All HasBytes image.parts

-- The opening of 1 to 8 accepted images that fit the frames is lawful.
abbrev pub OpeningsAreLawful : Type 0
OpeningsAreLawful = (images : List Image) (config : Config) → 1 ≤ length images → length images ≤ 8
    → All IsAccepted images → IsConfig config → needed images ≤ config.frames
    → Lawful (opening images config)
