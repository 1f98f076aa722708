-- What a saved group says, and the flat world that it stands for. This project's own rules.
use Rattle.std.specs.Prelude.{ℕ, List, [], map, length, replicate, flat_map}
use Rattle.dos_world.specs.Numbered.{map_from}
use Rattle.dos_world.specs.World.{World, Process, Thread, Sleeper, page_of}
use Rattle.dos_world.specs.declared.Config.{Config}
use Rattle.dos_world.specs.declared.Owner.{Owner}
use Rattle.dos_world.specs.declared.Owner.TheVariants.{Free, Shared, Of}
use Rattle.proc_table.specs.Spread.{living_from, spread}

-- The digest of the log's file, and how many of its entries were used; what the run was given; how
-- many rounds were run, and how many numbers of threads were given; each process, by number; the
-- live threads with their numbers, in rising number; the pipes; who sleeps, in order; and each
-- frame's owner and page, which of a Free frame is left out.
pub record SavedGroup : Type 0 where
  pub digest : List ℕ
  pub used : ℕ
  pub config : Config
  pub rounds : ℕ
  pub given : ℕ
  pub processes : List Process
  pub threads : List (ℕ × Thread)
  pub pipes : List (List ℕ)
  pub sleepers : List Sleeper
  pub frames : List (Owner × List ℕ)

-- ---- from a world

-- the page of a frame, left out where it is Free
abbrev pub page_if_used : Owner → List ℕ → List ℕ
page_if_used Free page = []
page_if_used Shared page = page
page_if_used (Of t) page = page

abbrev pub frame_in : List ℕ → ℕ → Owner → Owner × List ℕ
frame_in bytes frame owner = (owner, page_if_used owner (page_of bytes frame))

-- what is saved of a world of a run that was given this, by a log of which so many entries were
-- used
abbrev pub group_of : (digest : List ℕ) → (used : ℕ) → Config → World → SavedGroup
group_of digest used config w = record {
  digest = digest;
  used = used;
  config = config;
  rounds = w.rounds;
  given = length w.threads;
  processes = w.processes;
  threads = living_from 1 w.threads;
  pipes = w.pipes;
  sleepers = w.sleepers;
  frames = map_from 0 (frame_in w.bytes) w.owners;
}

-- ---- to a world

-- the bytes of a frame: zeros where it is Free
abbrev pub page_in : Owner × List ℕ → List ℕ
page_in f = elim f.0 [ Free ↦ replicate 4096 0 | Shared ↦ f.1 | Of t ↦ f.1 ]

-- the world of a saved group, with nothing sent
abbrev pub world_in : SavedGroup → World
world_in g = record {
  bytes = flat_map page_in g.frames;
  owners = map (λ f. f.0) g.frames;
  processes = g.processes;
  threads = spread g.threads g.given;
  pipes = g.pipes;
  sleepers = g.sleepers;
  rounds = g.rounds;
  quantum = g.config.quantum;
  output = [];
  error = [];
}
