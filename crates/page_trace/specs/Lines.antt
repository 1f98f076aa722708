-- The lines of a trace. This project's own texts.
use Rattle.std.specs.Prelude.{ℕ, List, ◌++◌, codes, decimal, flat_map}
use Rattle.dos_world.specs.declared.Owner.{Owner}
use Rattle.dos_world.specs.declared.Owner.TheVariants.{Free, Shared, Of}
use Rattle.dos_texts.specs.Report.{line_feed}
use Rattle.page_trace.specs.Trace.{Change}

abbrev pub owner_text : Owner → List ℕ
owner_text Free = codes "free"
owner_text Shared = codes "shared"
owner_text (Of thread) = codes "thread " ++ decimal thread

abbrev pub change_line : Change → List ℕ
change_line c = codes "round " ++ decimal c.round ++ codes " frame " ++ decimal c.frame
    ++ codes " " ++ owner_text c.before ++ codes " to " ++ owner_text c.after ++ line_feed

abbrev pub change_lines : List Change → List ℕ
change_lines = flat_map change_line
