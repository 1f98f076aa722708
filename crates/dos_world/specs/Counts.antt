-- What isn't kept but counted from the lists of a world: frames in use, ends of pipes. This
-- project's own rules.
use Rattle.std.specs.Prelude.{ℕ, suc, Bool, false, ◌||◌, List, [], ◌∷◌, ◌++◌, take, drop, length}
use Rattle.std.specs.Prelude.{filter, position, Option, Some, unwrap_or, ◌==◌, if◌then◌else◌}
use Rattle.std.specs.Prelude.{count_by, sum_by}
use Rattle.std.specs.List.{list_any}
use Rattle.dos_world.specs.Numbered.{map_from}
use Rattle.dos_world.specs.World.{World, Holdings, all_holdings, is_free, page_size}
use Rattle.dos_world.specs.Bytes.{zero_page}
use Rattle.dos_world.specs.declared.Owner.{Owner}
use Rattle.dos_world.specs.declared.Owner.TheVariants.{Free}
use Rattle.dos_world.specs.declared.End.{End}
use Rattle.dos_world.specs.declared.End.TheVariants.{PipeRead, PipeWrite}

-- ---- frames

-- whether a process maps a frame
abbrev pub maps_frame : ℕ → Holdings → Bool
maps_frame frame h = list_any (λ e. e.1.frame == frame) h.space

-- whether some process maps a frame
abbrev pub is_mapped : World → ℕ → Bool
is_mapped w frame = list_any (maps_frame frame) (all_holdings w.processes)

-- how many entries of all spaces have a frame
abbrev pub uses_of : World → ℕ → ℕ
uses_of w frame =
    sum_by (λ h. count_by (λ e. e.1.frame == frame) h.space) (all_holdings w.processes)

-- how many frames are free
abbrev pub free_frames : World → ℕ
free_frames w = length (filter is_free w.owners)

-- the lowest free frame
abbrev pub lowest_free_frame : World → ℕ
lowest_free_frame w = unwrap_or (position is_free w.owners) 0

-- ---- pipes

-- whether a descriptor is the reading end of a pipe
abbrev pub reads_pipe : ℕ → Option End → Bool
reads_pipe pipe (Some (PipeRead p)) = p == pipe
reads_pipe pipe _ = false

-- whether a descriptor is the writing end of a pipe
abbrev pub writes_pipe : ℕ → Option End → Bool
writes_pipe pipe (Some (PipeWrite p)) = p == pipe
writes_pipe pipe _ = false

-- whether some process has the reading end of a pipe
abbrev pub has_reader : World → ℕ → Bool
has_reader w pipe =
    list_any (λ h. list_any (reads_pipe pipe) h.descriptors) (all_holdings w.processes)

-- whether some process has the writing end of a pipe
abbrev pub has_writer : World → ℕ → Bool
has_writer w pipe =
    list_any (λ h. list_any (writes_pipe pipe) h.descriptors) (all_holdings w.processes)

-- A pipe is open as long as it has an end.
abbrev pub is_open : World → ℕ → Bool
is_open w pipe = has_reader w pipe || has_writer w pipe

-- ---- what nobody has

-- the owner of a frame, Free where nothing maps it
abbrev pub owner_if_mapped : World → ℕ → Owner → Owner
owner_if_mapped w frame owner = if is_mapped w frame then owner else Free

-- the bytes of a pipe, none where it isn't open
abbrev pub bytes_if_open : World → ℕ → List ℕ → List ℕ
bytes_if_open w pipe bytes = if is_open w pipe then bytes else []

-- the bytes of the frames from this one on, which have these owners: zeros where one isn't mapped
abbrev pub bytes_if_mapped : (ℕ → Bool) → ℕ → List Owner → List ℕ → List ℕ
bytes_if_mapped mapped frame [] bytes = bytes
bytes_if_mapped mapped frame (owner ∷ owners) bytes =
    (if mapped frame then take page_size bytes else zero_page)
    ++ bytes_if_mapped mapped (suc frame) owners (drop page_size bytes)

-- A frame that nothing maps is Free and zero, and a pipe without ends is empty.
abbrev pub tidied : World → World
tidied w = record w {
  bytes = bytes_if_mapped (is_mapped w) 0 w.owners w.bytes;
  owners = map_from 0 (owner_if_mapped w) w.owners;
  pipes = map_from 0 (bytes_if_open w) w.pipes;
}
