-- The world that a group opens with. This project's own rules; what a part of an image is comes
-- from the System V ABI, "Program Loading".
use Rattle.std.specs.Prelude.{ℕ, suc, ◌+◌, ◌-◌, ◌*◌, ◌/◌, Bool, true, false, List, [], ◌∷◌, ◌++◌}
use Rattle.std.specs.Prelude.{length, map, filter, find, flat_map, replicate, Option, Some, None}
use Rattle.std.specs.Prelude.{◌==◌, ◌&&◌, nat_lt, nat_le, if◌then◌else◌, slice_index, sum_by}
use Rattle.std.specs.List.{list_any}
use Rattle.dos_world.specs.Numbered.{run_of, map_from}
use Rattle.dos_world.specs.World.{World, Process, live, Thread, Registers, set, blank}
use Rattle.dos_world.specs.declared.Entry.{Entry}
use Rattle.dos_world.specs.declared.Owner.{Owner}
use Rattle.dos_world.specs.declared.Owner.TheVariants.{Free, Of}
use Rattle.dos_world.specs.declared.End.{End}
use Rattle.dos_world.specs.declared.End.TheVariants.{Input, Output, Error}
use Rattle.dos_world.specs.declared.ThreadState.TheVariants.{Ready}
use Rattle.dos_world.specs.declared.Config.{Config}
use Rattle.elf_image.specs.declared.part.Part.{Part}
use Rattle.elf_image.specs.Image.{Image, size_of}

-- ---- the pages of an image

-- the pages that a part touches, in rising order; a part has at least one byte
abbrev pub pages_touched : Part → List ℕ
pages_touched part =
    let first : ℕ = part.address / 4096 in
    run_of first ((part.address + size_of part - 1) / 4096 + 1 - first)

-- a number put into a rising list, once
abbrev pub with_number : ℕ → List ℕ → List ℕ
with_number n [] = n ∷ []
with_number n (x ∷ xs) = if nat_lt n x then n ∷ x
    ∷ xs else (if n == x then x ∷ xs else x ∷ with_number n xs)

-- the numbers of a list in rising order, each once
abbrev pub rising : List ℕ → List ℕ
rising [] = []
rising (n ∷ ns) = with_number n (rising ns)

-- the pages that the parts touch, in rising order
abbrev pub part_pages : Image → List ℕ
part_pages image = rising (flat_map pages_touched image.parts)

-- the pages of the stack: 16 from 0xEFFF0000 on, above every part
abbrev pub stack_pages : List ℕ
stack_pages = run_of 0xEFFF0 16

-- how many pages an image needs
abbrev pub page_count : Image → ℕ
page_count image = length (part_pages image) + 16

-- how many frames a group needs
abbrev pub needed : List Image → ℕ
needed images = sum_by page_count images

-- ---- their bytes

-- a part's byte at an address: the file's, and 0 behind them
abbrev pub part_byte : ℕ → Option Part → ℕ
part_byte address None = 0
part_byte address (Some part) = slice_index part.bytes (address - part.address)

-- whether an address is one of a part's
abbrev pub covers : ℕ → Part → Bool
covers address part = nat_le part.address address && nat_lt address (part.address + size_of part)

-- the byte at an address: of the part that covers it, else 0
abbrev pub byte_at : Image → ℕ → ℕ
byte_at image address = part_byte address (find (covers address) image.parts)

-- the bytes of a page
abbrev pub page_bytes : Image → ℕ → List ℕ
page_bytes image page = map (byte_at image) (run_of (4096 * page) 4096)

-- the bytes of an image's pages in rising order, the stack's zeros last
abbrev pub image_bytes : Image → List ℕ
image_bytes image = flat_map (page_bytes image) (part_pages image) ++ replicate (4096 * 16) 0

-- ---- their entries, all private

-- whether a part touches a page
abbrev pub touches : ℕ → Part → Bool
touches page part = list_any (λ p. p == page) (pages_touched part)

-- the parts that touch a page
abbrev pub parts_at : Image → ℕ → List Part
parts_at image page = filter (touches page) image.parts

-- A page has the rights of all the parts that touch it.
abbrev pub part_entry : Image → ℕ → ℕ → ℕ × Entry
part_entry image frame page = (
  page,
  record {
    frame = frame;
    write = list_any (λ part. part.write) (parts_at image page);
    exec = list_any (λ part. part.exec) (parts_at image page);
    shared = false;
  },
)

-- The stack is written and not executed.
abbrev pub stack_entry : ℕ → ℕ → ℕ × Entry
stack_entry frame page = (
  page,
  record { frame = frame; write = true; exec = false; shared = false },
)

-- an image's space, in frames from this one on
abbrev pub space_from : Image → ℕ → List (ℕ × Entry)
space_from image frame = map_from frame (part_entry image) (part_pages image)
    ++ map_from (frame + length (part_pages image)) stack_entry stack_pages

-- ---- processes and threads: image i, counted from 1, gives process i and thread i

-- descriptors 0 is input, 1 output and 2 error
abbrev pub opening_descriptors : List (Option End)
opening_descriptors = Some Input ∷ Some Output ∷ Some Error ∷ replicate 29 None

-- a process without a parent, whose actions are all default
abbrev pub opening_process : Image → ℕ → Process
opening_process image frame = record {
  parent = 0;
  life = live (record {
    actions = replicate 31 0;
    descriptors = opening_descriptors;
    space =
        space_from image frame;
  });
}

-- All registers are 0 but pc, the image's entry, and the stack pointer x2. ABI: RISC-V ELF psABI,
-- "Integer register convention".
abbrev pub opening_registers : Image → Registers
opening_registers image = set (blank image.entry) 2 0xEFFFFFF0

-- a ready thread of the process of the same number, with nothing pending, masked or saved
abbrev pub opening_thread : ℕ → Image → Option Thread
opening_thread number image = Some (record {
  process = number;
  registers = opening_registers image;
  budget = 0;
  state = Ready;
  pending = 0;
  mask = 0;
  saved = [];
})

-- ---- the world: frames are numbered over the images in order, in rising page

-- the processes of these images, in frames from this one on
abbrev pub processes_from : ℕ → List Image → List Process
processes_from frame [] = []
processes_from frame (image ∷ images) =
    opening_process image frame ∷ processes_from (frame + page_count image) images

-- Each frame of an image is its thread's; the threads are counted from this number on.
abbrev pub owners_from : ℕ → List Image → List Owner
owners_from number [] = []
owners_from number (image ∷ images) = replicate (page_count image) (Of number)
    ++ owners_from (suc number) images

-- The opening, where the images fit the frames. What is left of the frames is Free, and 0.
abbrev pub opening : List Image → Config → World
opening images config = record {
  bytes = flat_map image_bytes images ++ replicate (4096 * (config.frames - needed images)) 0;
  owners = owners_from 1 images ++ replicate (config.frames - needed images) Free;
  processes = processes_from 0 images;
  threads = map_from 1 opening_thread images;
  pipes = replicate 64 [];
  sleepers = [];
  rounds = 0;
  quantum = config.quantum;
  output = [];
  error = [];
}
