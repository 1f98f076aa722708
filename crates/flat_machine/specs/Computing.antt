-- What a worked example unfolds, so that the checker computes it: named here once. A lemma with the
-- line 'unfolding computing' unfolds it all.
use Rattle.dos_world.specs.Kernel.{zero_page}
use Rattle.dos_world.specs.Services.{services}
use Rattle.rv_isa.specs.Meaning.{meaning, found, rows, base_rows}
use Rattle.rv_isa.specs.Compressed as compressed
use Rattle.rv_isa.specs.Compressed.{expansion}
use Rattle.flat_machine.specs.Effect.{effect}

unfoldable pub computing : Unit {0}
unfolding meaning found rows base_rows expansion compressed.rows effect services zero_page
computing = tt
