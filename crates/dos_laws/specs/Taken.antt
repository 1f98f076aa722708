-- A frame that somebody has, a word that was written in one, and a part that may be put in. This
-- project's own rules.
use Rattle.std.specs.Prelude.{ℕ, ◌≡◌, ◌≢◌, ◌<◌, List, length, false, All, slice_index_or}
use Rattle.dos_world.specs.World.{World, is_free, owner_of}
use Rattle.dos_world.specs.Lawful.{AreRegisters}
use Rattle.dos_world.specs.declared.Owner.{Owner}
use Rattle.dos_world.specs.declared.Owner.TheVariants.{Free}
use Rattle.written_words.specs.declared.Written.{Written}
use Rattle.written_words.specs.Index.{IsAlignedWord}
use Rattle.flat_machine.specs.Buffered.{Part}

-- a frame that is there, and isn't Free
pub record IsTaken (w : World) (frame : ℕ) : Type 0 where
  pub within : frame < length w.owners
  pub owner : owner_of w frame ≢ Free

-- where frames have these owners, an aligned word of one that isn't Free
pub record IsWordOf (owners : List Owner) (x : Written) : Type 0 where
  pub word : IsAlignedWord x
  pub owned : is_free (slice_index_or owners x.frame Free) ≡ false

-- where frames have these owners, a part in the buffered scheme with registers in range and such
-- words
pub record IsPartIn (owners : List Owner) (p : Part) : Type 0 where
  pub registers : AreRegisters p.registers
  pub words : All (IsWordOf owners) p.words
