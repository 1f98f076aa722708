-- A kernel in which no round has been run. This project's own rule.
use Rattle.std.specs.Prelude.{◌≡◌, List}
use Rattle.dos_world.specs.declared.Config.{Config}
use Rattle.elf_image.specs.Image.{Image}
use Rattle.flat_machine.specs.Opening.{opening}
use Rattle.group_rounds.specs.Kernels.{Held, kernel_world}

-- It was opened with these images and this configuration.
pub record IsOpenedWith (k : Held) (images : List Image) (config : Config) : Type 0 where
  pub world : kernel_world k ≡ opening images config
  pub config_is : k.config ≡ config
