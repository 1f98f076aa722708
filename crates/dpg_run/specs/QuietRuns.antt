-- Runs of a group that nothing reaches from outside: no signal comes, no byte of input, and the
-- clock stands at 0. This project's own rule.
use Rattle.std.specs.Prelude.{◌≡◌, List, map}
use Rattle.dos_world.specs.declared.Config.{Config}
use Rattle.dos_io.specs.declared.exchange.Exchange.{Exchange}
use Rattle.dos_io.specs.Exchanges.{answer_of}
use Rattle.dos_io.specs.Quiet.{AreQuiet}
use Rattle.elf_image.specs.Image.{Image}
use Rattle.dpg_run.specs.Fits.{Fits}
use Rattle.flat_machine.specs.Machine.{Seen, ends, machine}

-- Each question of the whole run has its quiet answer, and this is seen of it.
pub record RunsQuietly (images : List Image) (config : Config) (seen : Seen) : Type 0 where
  pub exchanges : List Exchange
  pub quiet : AreQuiet exchanges
  pub fits : Fits images config exchanges
  pub is : machine images config (map answer_of exchanges) ≡ ends seen

-- The images and the configuration determine it.
abbrev pub QuietRunsAreOne : Type 0
QuietRunsAreOne = (images : List Image) (config : Config) (a b : Seen)
    → RunsQuietly images config a → RunsQuietly images config b → a ≡ b
