-- Which worlds a saved group can be taken of, and that it says them whole. This project's own
-- rules.
use Rattle.std.specs.Prelude.{ℕ, ◌≡◌, ◌<◌, ◌≤◌, ◌^◌, List, [], length, IfSome}
use Rattle.dos_world.specs.World.{World, thread_at}
use Rattle.dos_world.specs.Lawful.{Lawful, IsConfig, IsWord}
use Rattle.dos_world.specs.declared.Config.{Config}
use Rattle.dos_world.specs.declared.Scheme.TheVariants.{Ownership}
use Rattle.text_fields.specs.Formats.{AreBytes}
use Rattle.group_text.specs.Groups.{group_of, world_in}
use Rattle.group_text.specs.GroupText.{group_row}

-- A lawful world of a run that was given this, and what is saved beside it: a digest of 32 bytes,
-- and how many entries of the log were used.
pub record IsRecordable (digest : List ℕ) (used : ℕ) (config : Config) (w : World) : Type 0 where
  pub digest_count : length digest ≡ 32
  pub digest_bytes : AreBytes digest
  pub few_used : used < 2 ^ 32
  pub config_range : IsConfig config
  -- no group names its scheme
  pub scheme : config.scheme ≡ Ownership
  pub lawful : Lawful w
  -- as many frames as the run was given, and no more rounds than it may have
  pub frames : length w.owners ≡ config.frames
  pub rounds : w.rounds ≤ config.rounds
  -- budgets are numbers of 32 bits, and few sleep
  pub budgets : (t : ℕ) → IfSome (thread_at w t) (λ thread. IsWord thread.budget)
  pub sleepers : length w.sleepers < 256

-- What is saved of such a world has a text.
abbrev pub RecordsFit : Type 0
RecordsFit = (digest : List ℕ) (used : ℕ) (config : Config) (w : World)
    → IsRecordable digest used config w → group_row.Fits (group_of digest used config w)

-- A lawful world of which nothing was sent is what its saved group stands for.
abbrev pub WorldsComeBack : Type 0
WorldsComeBack = (digest : List ℕ) (used : ℕ) (config : Config) (w : World) → Lawful w
    → w.quantum ≡ config.quantum → w.output ≡ [] → w.error ≡ []
    → world_in (group_of digest used config w) ≡ w
