-- Frames by their pages and owners, and the pages of a saved group's frames. This project's own
-- rules.
use Rattle.std.specs.Prelude.{ℕ, List, [], ◌∷◌, Option, Some}
use Rattle.dos_world.specs.Kernel.{zero_page}
use Rattle.dos_world.specs.declared.Owner.{Owner}
use Rattle.dos_world.specs.declared.Owner.TheVariants.{Free, Shared, Of}
use Rattle.page_store.specs.Store.{shown}
use Rattle.group_text.specs.Groups.{page_if_used}
use Rattle.group_text.specs.declared.records.FrameRecord.{FrameRecord}

-- each frame's owner, and what its page shows where it isn't Free
abbrev pub framed : List (Option (List ℕ)) → List Owner → List (Owner × List ℕ)
framed [] owners = []
framed (page ∷ pages) [] = []
framed (page ∷ pages) (owner ∷ owners) =
    (owner, page_if_used owner (shown page)) ∷ framed pages owners

-- the page of a frame, zero where it is Free
abbrev pub kept_by : Owner → List ℕ → List ℕ
kept_by Free page = zero_page
kept_by Shared page = page
kept_by (Of t) page = page

abbrev pub kept_page : FrameRecord → List ℕ
kept_page r = kept_by r.owner r.page

-- the same, at home
abbrev pub page_of_record : FrameRecord → Option (List ℕ)
page_of_record r = Some (kept_page r)
