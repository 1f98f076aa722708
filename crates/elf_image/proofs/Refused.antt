-- Each refusal on a small file, and beside it what is just accepted. The headings have the
-- refusals' own numbers.
use Rattle.std.specs.Prelude.{ℕ, List, [], ◌∷◌, ◌++◌, take, replicate, slice_set, true, false, Ok}
use Rattle.std.specs.Prelude.{Err, ◌≡◌, refl}
use Rattle.elf_image.specs.declared.error.ImageError.TheVariants.{Short, NotElf, Class, ByteOrder}
use Rattle.elf_image.specs.declared.error.ImageError.TheVariants.{Version, Kind, Machine, Flags}
use Rattle.elf_image.specs.declared.error.ImageError.TheVariants.{HeaderTable, Dynamic, Segment}
use Rattle.elf_image.specs.declared.error.ImageError.TheVariants.{Overlap, NoLoad, Entry}
use Rattle.elf_image.specs.declared.part.Part.{Part}
use Rattle.elf_image.specs.Image.{Image, image, image_of, refusal, format_refusal, machine_refusal}
use Rattle.elf_image.specs.Image.{table_refusal, segment_refusal, overlap_refusal, entry_refusal}
use Rattle.elf_image.specs.Fields.{headers, headers_from, header_at, half, word}
use Rattle.elf_image.proofs.Files.{file_header, program_header, code, with_header, with_two}
use Rattle.elf_image.proofs.Files.{smallest, changed}

-- ---- the smallest file, byte by byte

spelled : smallest ≡
    0x7F ∷ 0x45 ∷ 0x4C ∷ 0x46 ∷ 1 ∷ 1 ∷ 1 ∷ 0 ∷ 0 ∷ 0 ∷ 0 ∷ 0 ∷ 0 ∷ 0 ∷ 0 ∷ 0 ∷
    2 ∷ 0 ∷ 0xF3 ∷ 0 ∷ 1 ∷ 0 ∷ 0 ∷ 0 ∷ 0 ∷ 0 ∷ 1 ∷ 0 ∷ 0x34 ∷ 0 ∷ 0 ∷ 0 ∷
    0 ∷ 0 ∷ 0 ∷ 0 ∷ 0 ∷ 0 ∷ 0 ∷ 0 ∷ 0x34 ∷ 0 ∷ 0x20 ∷ 0 ∷ 1 ∷ 0 ∷ 0 ∷ 0 ∷ 0 ∷ 0 ∷ 0 ∷ 0 ∷
    1 ∷ 0 ∷ 0 ∷ 0 ∷ 0x54 ∷ 0 ∷ 0 ∷ 0 ∷ 0 ∷ 0 ∷ 1 ∷ 0 ∷ 0 ∷ 0 ∷ 0 ∷ 0 ∷ 12 ∷ 0 ∷ 0 ∷ 0 ∷ 12 ∷ 0 ∷ 0
    ∷ 0 ∷ 7 ∷ 0 ∷ 0 ∷ 0 ∷ 0 ∷ 0x10 ∷ 0 ∷ 0 ∷
    0x93 ∷ 0x08 ∷ 0x20 ∷ 0 ∷ 0x13 ∷ 0x05 ∷ 0x70 ∷ 0 ∷ 0x73 ∷ 0 ∷ 0 ∷ 0 ∷ []
spelled = refl

abbrev the_part : (address zeros : ℕ) → Part
the_part address zeros = record {
  address = address;
  bytes = code;
  zeros = zeros;
  write = true;
  exec = true;
  index = 0;
}

abbrev the_image : Image
the_image = record { entry = 0x10000; parts = the_part 0x10000 0 ∷ [] }

accepted : image smallest ≡ Ok the_image
unfolding image image_of refusal format_refusal machine_refusal table_refusal segment_refusal
    overlap_refusal entry_refusal headers headers_from header_at half word
accepted = refl

-- p_paddr, p_align, EI_OSABI and e_ehsize aren't looked at
other_fields : image (slice_set (slice_set (slice_set (changed 64 1) 80 3) 7 9) 40 0) ≡ Ok the_image
unfolding image image_of refusal format_refusal machine_refusal table_refusal segment_refusal
    overlap_refusal entry_refusal headers headers_from header_at half word
other_fields = refl

-- ---- 1: fewer than 52 bytes

short : image (take 51 smallest) ≡ Err Short
unfolding image image_of refusal format_refusal machine_refusal table_refusal segment_refusal
    overlap_refusal entry_refusal headers headers_from header_at half word
short = refl

nothing : image [] ≡ Err Short
unfolding image image_of refusal format_refusal machine_refusal table_refusal segment_refusal
    overlap_refusal entry_refusal headers headers_from header_at half word
nothing = refl

-- 52 bytes are read, and there is nothing to load
long_enough : image (take 52 (changed 44 0)) ≡ Err NoLoad
unfolding image image_of refusal format_refusal machine_refusal table_refusal segment_refusal
    overlap_refusal entry_refusal headers headers_from header_at half word
long_enough = refl

-- ---- 2 to 5: a little-endian ELF32 file of version 1

not_elf : image (changed 0 0x7E) ≡ Err NotElf
unfolding image image_of refusal format_refusal machine_refusal table_refusal segment_refusal
    overlap_refusal entry_refusal headers headers_from header_at half word
not_elf = refl

not_elf_at_last : image (changed 3 0x47) ≡ Err NotElf
unfolding image image_of refusal format_refusal machine_refusal table_refusal segment_refusal
    overlap_refusal entry_refusal headers headers_from header_at half word
not_elf_at_last = refl

class_64 : image (changed 4 2) ≡ Err Class
unfolding image image_of refusal format_refusal machine_refusal table_refusal segment_refusal
    overlap_refusal entry_refusal headers headers_from header_at half word
class_64 = refl

big_endian : image (changed 5 2) ≡ Err ByteOrder
unfolding image image_of refusal format_refusal machine_refusal table_refusal segment_refusal
    overlap_refusal entry_refusal headers headers_from header_at half word
big_endian = refl

version_0 : image (changed 6 0) ≡ Err Version
unfolding image image_of refusal format_refusal machine_refusal table_refusal segment_refusal
    overlap_refusal entry_refusal headers headers_from header_at half word
version_0 = refl

file_version_2 : image (changed 20 2) ≡ Err Version
unfolding image image_of refusal format_refusal machine_refusal table_refusal segment_refusal
    overlap_refusal entry_refusal headers headers_from header_at half word
file_version_2 = refl

-- ---- 6 to 8: an executable for RISC-V, of the right kind

shared_object : image (changed 16 3) ≡ Err Kind
unfolding image image_of refusal format_refusal machine_refusal table_refusal segment_refusal
    overlap_refusal entry_refusal headers headers_from header_at half word
shared_object = refl

other_machine : image (changed 18 62) ≡ Err Machine
unfolding image image_of refusal format_refusal machine_refusal table_refusal segment_refusal
    overlap_refusal entry_refusal headers headers_from header_at half word
other_machine = refl

-- the field has two bytes
high_machine : image (changed 19 1) ≡ Err Machine
unfolding image image_of refusal format_refusal machine_refusal table_refusal segment_refusal
    overlap_refusal entry_refusal headers headers_from header_at half word
high_machine = refl

compressed : image (changed 36 1) ≡ Ok the_image
unfolding image image_of refusal format_refusal machine_refusal table_refusal segment_refusal
    overlap_refusal entry_refusal headers headers_from header_at half word
compressed = refl

compressed_and_floating : image (changed 36 3) ≡ Err Flags
unfolding image image_of refusal format_refusal machine_refusal table_refusal segment_refusal
    overlap_refusal entry_refusal headers headers_from header_at half word
compressed_and_floating = refl

reduced : image (changed 36 8) ≡ Err Flags
unfolding image image_of refusal format_refusal machine_refusal table_refusal segment_refusal
    overlap_refusal entry_refusal headers headers_from header_at half word
reduced = refl

other_flags : image (changed 36 0x10) ≡ Ok the_image
unfolding image image_of refusal format_refusal machine_refusal table_refusal segment_refusal
    overlap_refusal entry_refusal headers headers_from header_at half word
other_flags = refl

-- ---- 9: the table

-- headers of no kind
abbrev table_of : ℕ → List ℕ
table_of count = file_header 0x10000 count ++ replicate 2080 0

many_headers : image (table_of 65) ≡ Err HeaderTable
unfolding image image_of refusal format_refusal machine_refusal table_refusal segment_refusal
    overlap_refusal entry_refusal headers headers_from header_at half word
many_headers = refl

most_headers : image (table_of 64) ≡ Err NoLoad
unfolding image image_of refusal format_refusal machine_refusal table_refusal segment_refusal
    overlap_refusal entry_refusal headers headers_from header_at half word
most_headers = refl

entry_size : image (changed 42 31) ≡ Err HeaderTable
unfolding image image_of refusal format_refusal machine_refusal table_refusal segment_refusal
    overlap_refusal entry_refusal headers headers_from header_at half word
entry_size = refl

-- the table ends at 84
table_cut : image (take 83 smallest) ≡ Err HeaderTable
unfolding image image_of refusal format_refusal machine_refusal table_refusal segment_refusal
    overlap_refusal entry_refusal headers headers_from header_at half word
table_cut = refl

table_whole : image (take 84 smallest) ≡ Err (Segment 0)
unfolding image image_of refusal format_refusal machine_refusal table_refusal segment_refusal
    overlap_refusal entry_refusal headers headers_from header_at half word
table_whole = refl

-- a table that would end at 2^32 isn't taken for one that ends at 0
table_at_the_top : image (slice_set
    (slice_set (slice_set (changed 28 0xE0) 29 0xFF) 30 0xFF) 31 0xFF) ≡ Err HeaderTable
unfolding image image_of refusal format_refusal machine_refusal table_refusal segment_refusal
    overlap_refusal entry_refusal headers headers_from header_at half word
table_at_the_top = refl

-- of no headers neither place nor size matters
no_table : image (slice_set (slice_set (changed 44 0) 42 0) 31 0xFF) ≡ Err NoLoad
unfolding image image_of refusal format_refusal machine_refusal table_refusal segment_refusal
    overlap_refusal entry_refusal headers headers_from header_at half word
no_table = refl

-- ---- 10: dynamic linking

dynamic : image (changed 52 2) ≡ Err Dynamic
unfolding image image_of refusal format_refusal machine_refusal table_refusal segment_refusal
    overlap_refusal entry_refusal headers headers_from header_at half word
dynamic = refl

interpreter : image (changed 52 3) ≡ Err Dynamic
unfolding image image_of refusal format_refusal machine_refusal table_refusal segment_refusal
    overlap_refusal entry_refusal headers headers_from header_at half word
interpreter = refl

-- it is tested before all segments
dynamic_first : image (with_two (program_header 1 116 0 12 12 7) (program_header 2 0 0 0 0 0))
    ≡ Err Dynamic
unfolding image image_of refusal format_refusal machine_refusal table_refusal segment_refusal
    overlap_refusal entry_refusal headers headers_from header_at half word
dynamic_first = refl

-- ---- 11: a segment

more_in_the_file : image (with_header (program_header 1 84 0x10000 12 11 7)) ≡ Err (Segment 0)
unfolding image image_of refusal format_refusal machine_refusal table_refusal segment_refusal
    overlap_refusal entry_refusal headers headers_from header_at half word
more_in_the_file = refl

-- the file's last byte is the twelfth of the segment
past_the_end : image (with_header (program_header 1 84 0x10000 13 13 7)) ≡ Err (Segment 0)
unfolding image image_of refusal format_refusal machine_refusal table_refusal segment_refusal
    overlap_refusal entry_refusal headers headers_from header_at half word
past_the_end = refl

-- a segment that would end at 2^32 + 8 isn't taken for one that ends at 8
file_at_the_top : image (with_header (program_header 1 0xFFFFFFFC 0x10000 12 12 7))
    ≡ Err (Segment 0)
unfolding image image_of refusal format_refusal machine_refusal table_refusal segment_refusal
    overlap_refusal entry_refusal headers headers_from header_at half word
file_at_the_top = refl

-- with no bytes of the file its place doesn't matter
no_file_bytes : image (with_header (program_header 1 0xFFFFFFFC 0x10000 0 12 7))
    ≡ Ok (record { entry = 0x10000; parts = record (the_part 0x10000 12) { bytes = [] } ∷ [] })
unfolding image image_of refusal format_refusal machine_refusal table_refusal segment_refusal
    overlap_refusal entry_refusal headers headers_from header_at half word
no_file_bytes = refl

first_page : image (with_header (program_header 1 84 0xFFF 12 12 7)) ≡ Err (Segment 0)
unfolding image image_of refusal format_refusal machine_refusal table_refusal segment_refusal
    overlap_refusal entry_refusal headers headers_from header_at half word
first_page = refl

second_page : image (slice_set (with_header (program_header 1 84 0x1000 12 12 7)) 26 0) ≡ Err Entry
unfolding image image_of refusal format_refusal machine_refusal table_refusal segment_refusal
    overlap_refusal entry_refusal headers headers_from header_at half word
second_page = refl

into_the_stack : image (with_header (program_header 1 84 0xEFFEFFF8 12 12 7)) ≡ Err (Segment 0)
unfolding image image_of refusal format_refusal machine_refusal table_refusal segment_refusal
    overlap_refusal entry_refusal headers headers_from header_at half word
into_the_stack = refl

-- up to the stack, from the entry on
below_the_stack : image (with_header (program_header 1 84 0x10000 12 0xEFFE0000 7))
    ≡ Ok (record { entry = 0x10000; parts = the_part 0x10000 0xEFFDFFF4 ∷ [] })
unfolding image image_of refusal format_refusal machine_refusal table_refusal segment_refusal
    overlap_refusal entry_refusal headers headers_from header_at half word
below_the_stack = refl

-- addresses don't go round at 2^32
memory_at_the_top : image (with_header (program_header 1 84 0xFFFFFFF0 12 0x20000 7))
    ≡ Err (Segment 0)
unfolding image image_of refusal format_refusal machine_refusal table_refusal segment_refusal
    overlap_refusal entry_refusal headers headers_from header_at half word
memory_at_the_top = refl

-- the index is that of the table, and the first one is told
second_segment : image (with_two (program_header 4 0 0 0 0 4)
    (program_header 1 116 0x10000 13 13 7)) ≡ Err (Segment 1)
unfolding image image_of refusal format_refusal machine_refusal table_refusal segment_refusal
    overlap_refusal entry_refusal headers headers_from header_at half word
second_segment = refl

-- a segment without memory is no part, wherever it lies
no_memory : image (with_header (program_header 1 84 0 0 0 7)) ≡ Err NoLoad
unfolding image image_of refusal format_refusal machine_refusal table_refusal segment_refusal
    overlap_refusal entry_refusal headers headers_from header_at half word
no_memory = refl

-- ---- 12: two parts

overlap : image (with_two (program_header 1 116 0x10000 12 12 5)
    (program_header 1 116 0x1000B 12 12 6)) ≡ Err (Overlap 0 1)
unfolding image image_of refusal format_refusal machine_refusal table_refusal segment_refusal
    overlap_refusal entry_refusal headers headers_from header_at half word
overlap = refl

-- also where the second one lies below the first
overlap_below : image (with_two (program_header 1 116 0x10000 12 12 5)
    (program_header 1 116 0xFFF5 12 12 6)) ≡ Err (Overlap 0 1)
unfolding image image_of refusal format_refusal machine_refusal table_refusal segment_refusal
    overlap_refusal entry_refusal headers headers_from header_at half word
overlap_below = refl

side_by_side : image (with_two (program_header 1 116 0x10000 12 12 5)
    (program_header 1 116 0x1000C 12 12 6))
    ≡ Ok (record {
      entry = 0x10000;
      parts = record (the_part 0x10000 0) { write = false }
          ∷ record (the_part 0x1000C 0) { exec = false; index = 1 } ∷ [];
    })
unfolding image image_of refusal format_refusal machine_refusal table_refusal segment_refusal
    overlap_refusal entry_refusal headers headers_from header_at half word
side_by_side = refl

-- the first pair is told: the second part meets the third and the fourth
first_pair : image (file_header 0x10000 4 ++ program_header 1 0 0x10000 12 12 5
    ++ program_header 1 0 0x20000 12 12 6 ++ program_header 1 0 0x2000B 12 12 6
    ++ program_header 1 0 0x20008 12 12 6) ≡ Err (Overlap 1 2)
unfolding image image_of refusal format_refusal machine_refusal table_refusal segment_refusal
    overlap_refusal entry_refusal headers headers_from header_at half word
first_pair = refl

-- ---- 13: nothing to load

note_alone : image (changed 52 4) ≡ Err NoLoad
unfolding image image_of refusal format_refusal machine_refusal table_refusal segment_refusal
    overlap_refusal entry_refusal headers headers_from header_at half word
note_alone = refl

-- ---- 14: the entry

odd_entry : image (changed 24 1) ≡ Err Entry
unfolding image image_of refusal format_refusal machine_refusal table_refusal segment_refusal
    overlap_refusal entry_refusal headers headers_from header_at half word
odd_entry = refl

entry_at_a_halfword : image (changed 24 2) ≡ Ok (record the_image { entry = 0x10002 })
unfolding image image_of refusal format_refusal machine_refusal table_refusal segment_refusal
    overlap_refusal entry_refusal headers headers_from header_at half word
entry_at_a_halfword = refl

last_entry : image (changed 24 8) ≡ Ok (record the_image { entry = 0x10008 })
unfolding image image_of refusal format_refusal machine_refusal table_refusal segment_refusal
    overlap_refusal entry_refusal headers headers_from header_at half word
last_entry = refl

entry_behind : image (changed 24 12) ≡ Err Entry
unfolding image image_of refusal format_refusal machine_refusal table_refusal segment_refusal
    overlap_refusal entry_refusal headers headers_from header_at half word
entry_behind = refl

-- without the right to execute
not_executed : image (changed 76 6) ≡ Err Entry
unfolding image image_of refusal format_refusal machine_refusal table_refusal segment_refusal
    overlap_refusal entry_refusal headers headers_from header_at half word
not_executed = refl
