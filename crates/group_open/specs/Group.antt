-- How far a group is opened, image by image. This project's own rule.
use Rattle.std.specs.Prelude.{◌≡◌, ◌<◌, ◌≤◌, ℕ, ◌+◌, List, [], length, flat_map}
use Rattle.dos_world.specs.Numbered.{map_from}
use Rattle.dos_world.specs.World.{Holdings}
use Rattle.dos_world.specs.ThreadCalls.{ready_thread}
use Rattle.elf_image.specs.Image.{Image}
use Rattle.kernel_objects.specs.Pipework.{none_open}
use Rattle.kernel_calls.specs.declared.state.State.{State}
use Rattle.page_store.specs.Store.{Store}
use Rattle.proc_table.specs.Tables.{Tables, held_by, new_process, process_added}
use Rattle.flat_machine.specs.Opening.{image_bytes, needed, opening_descriptors, opening_registers}
use Rattle.flat_machine.specs.Opening.{opening_thread, owners_from, page_count, processes_from}
use Rattle.group_open.specs.Filling.{IsFilled}

-- what a process has, with input, output and error as its first three descriptors and no other
abbrev pub with_first_ends : Holdings → Holdings
with_first_ends h = record h { descriptors = opening_descriptors }

-- with a process more that has no page yet, and its first thread
abbrev pub with_process_opened : Tables → Image → Tables
with_process_opened t image =
    held_by with_first_ends
    (process_added t (new_process 0)
    (ready_thread (length t.processes + 1) (opening_registers image) 0 []))
    (length t.processes + 1)

-- These images are opened, in so many frames: what is left of the frames is Free and zero.
pub record IsOpened (count : ℕ) (s : Store) (t : Tables) (images : List Image) : Type 0 where
  pub count_is : length s.pages ≡ count
  pub room : t.room ≡ count
  pub filled : IsFilled s (flat_map image_bytes images) (owners_from 1 images)
  pub processes : t.processes ≡ processes_from 0 images
  pub threads : t.threads ≡ map_from 1 opening_thread images

-- fewer than eight images are opened, and another fits
pub record FitsMore (s : Store) (t : Tables) (image : Image) : Type 0 where
  pub count : ℕ
  pub images : List Image
  pub opened : IsOpened count s t images
  pub few : length images < 8
  pub fits : needed images + page_count image ≤ count

-- The state of these images in so many frames, before its first round.
pub record IsStateOf (count : ℕ) (images : List Image) (state : State) : Type 0 where
  pub opened : IsOpened count state.frames state.table images
  pub pipes : state.pipes ≡ none_open
  pub futexes : state.futexes ≡ []
  pub round : state.round ≡ 1
