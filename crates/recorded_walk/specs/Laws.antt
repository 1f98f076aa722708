-- Laws of recorded histories; the functions of `laws` promise them. This project's own.
use Rattle.std.specs.Prelude.{List}
use Rattle.dos_world.specs.declared.Config.{Config}
use Rattle.debug_session.specs.Positions.{Position}
use Rattle.debug_session.specs.Recordings.{LogEntry}
use Rattle.elf_image.specs.Image.{Image}
use Rattle.recorded_walk.specs.Playbacks.{IsStart}

-- A history ends, whatever its images and its entries are: it has a start.
abbrev pub HistoriesStart : Type 0
HistoriesStart = (images : List Image) (config : Config) (entries : List LogEntry)
    → (start : Position) × IsStart images config entries start
