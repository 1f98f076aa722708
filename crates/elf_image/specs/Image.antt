-- The image that a file is, or the first refusal that holds of it.
-- What a field means is the System V ABI's (ELF32). Which files are accepted is this project's own
-- profile.
use Rattle.std.specs.Prelude.{◌≡◌, ℕ, ◌<◌, ◌≤◌, ◌⊎◌, IsTrue, All, AllPairs, Any, ◌+◌, ◌-◌, ◌*◌, ◌%◌}
use Rattle.std.specs.Prelude.{Bool, not, ◌&&◌, ◌||◌, bit_and, List, [], ◌∷◌, length, map, filter}
use Rattle.std.specs.Prelude.{find, take, drop, Option, Some, None, option_map, Result, Ok, Err}
use Rattle.std.specs.Prelude.{◌==◌, nat_eq, nat_lt, nat_le, if◌then◌else◌, true, false}
use Rattle.std.specs.List.{list_any, starts_with}
use Rattle.std.specs.Option.{option_or}
use Rattle.elf_image.specs.declared.error.ImageError.{ImageError}
use Rattle.elf_image.specs.declared.error.ImageError.TheVariants as error
use Rattle.elf_image.specs.declared.header.Header.{Header}
use Rattle.elf_image.specs.declared.part.Part.{Part}
use Rattle.elf_image.specs.Fields.{e_ident, e_type, e_machine, e_version, e_entry, e_phoff, e_flags}
use Rattle.elf_image.specs.Fields.{e_phentsize, e_phnum, headers}

-- an entry address, and the parts in the table's order
pub record Image : Type 0 where
  pub entry : ℕ
  pub parts : List Part

-- ---- what the profile leaves open to a later change

-- e_flags with one of these bits set is refused. The RISC-V psABI's: floats in registers, 2 and 4;
-- the reduced registers, 8. The bit of compressed instructions, 1, may be set or not.
abbrev pub refused_flags : ℕ
refused_flags = 0xE

-- what the address of an instruction, and so an entry, is a multiple of
abbrev pub code_unit : ℕ
code_unit = 2

-- ---- program headers

-- p_type: PT_LOAD, PT_DYNAMIC and PT_INTERP
abbrev pub is_load : Header → Bool
is_load h = h.kind == 1

abbrev pub is_dynamic : Header → Bool
is_dynamic h = (h.kind == 2) || (h.kind == 3)

-- p_flags: PF_X and PF_W
abbrev pub is_executable : Header → Bool
is_executable h = not (bit_and h.flags 1 == 0)

abbrev pub is_writable : Header → Bool
is_writable h = not (bit_and h.flags 2 == 0)

-- its addresses end before this one
abbrev pub end_of : Header → ℕ
end_of h = h.address + h.memory_size

-- a part is a PT_LOAD that takes memory
abbrev pub is_part : Header → Bool
is_part h = is_load h && nat_lt 0 h.memory_size

-- the bytes in the file are past its end
abbrev pub leaves_file : ℕ → Header → Bool
leaves_file file_len h = nat_lt 0 h.file_size && nat_lt file_len (h.offset + h.file_size)

-- the addresses are below the first page or reach into the stack and what is above it
abbrev pub leaves_space : Header → Bool
leaves_space h = nat_lt 0 h.memory_size && (nat_lt h.address 0x1000 || nat_lt 0xEFFF0000 (end_of h))

abbrev pub is_segment_bad : ℕ → Header → Bool
is_segment_bad file_len h =
    is_load h && (nat_lt h.memory_size h.file_size || leaves_file file_len h || leaves_space h)

-- a part that can be loaded from a file of this length
pub record IsLoadable (file_len : ℕ) (h : Header) : Type 0 where
  pub part : is_part h ≡ true
  pub sound : is_segment_bad file_len h ≡ false

-- the addresses of two parts meet
abbrev pub do_meet : Header → Header → Bool
do_meet a b = nat_lt a.address (end_of b) && nat_lt b.address (end_of a)

-- the entry is in it, and it may be executed
abbrev pub holds_entry : ℕ → Header → Bool
holds_entry entry h = is_executable h && nat_le h.address entry && nat_lt entry (end_of h)

-- ---- refusals, each a condition on the file

-- the error, where the test holds
infix 8 ◌when◌
abbrev pub ◌when◌ : ImageError → Bool → Option ImageError
refusal when test = if test then Some refusal else None

-- the first refusal, else the second
infixr 6 ◌otherwise◌
abbrev pub ◌otherwise◌ : Option ImageError → Option ImageError → Option ImageError
first otherwise second = option_or first second

-- 0x7F, `E`, `L`, `F`
abbrev pub magic : List ℕ
magic = 0x7F ∷ 0x45 ∷ 0x4C ∷ 0x46 ∷ []

-- 1 to 5: the file is a little-endian ELF32 file of version 1
unfoldable pub format_refusal : List ℕ → Option ImageError
format_refusal bytes =
    error.Short when nat_lt (length bytes) 52 otherwise
    error.NotElf when not (starts_with nat_eq bytes magic) otherwise
    error.Class when not (e_ident bytes 4 == 1) otherwise
    error.ByteOrder when not (e_ident bytes 5 == 1) otherwise
    error.Version when (not (e_ident bytes 6 == 1) || not (e_version bytes == 1))

-- 6 to 8: it is an executable (ET_EXEC) for RISC-V (EM_RISCV), without extensions
unfoldable pub machine_refusal : List ℕ → Option ImageError
machine_refusal bytes =
    error.Kind when not (e_type bytes == 2) otherwise
    error.Machine when not (e_machine bytes == 243) otherwise
    error.Flags when not (bit_and (e_flags bytes) refused_flags == 0)

-- the headers have another size than 32 bytes, or leave the file
abbrev pub is_table_bad : List ℕ → Bool
is_table_bad bytes =
    not (e_phentsize bytes == 32) || nat_lt (length bytes) (e_phoff bytes + 32 * e_phnum bytes)

-- 9: there are at most 64 program headers, and if there are some their table is in the file
unfoldable pub table_refusal : List ℕ → Option ImageError
table_refusal bytes =
    error.HeaderTable
    when (nat_lt 64 (e_phnum bytes) || (nat_lt 0 (e_phnum bytes) && is_table_bad bytes))

abbrev pub segment_error : Header → ImageError
segment_error h = error.Segment h.index

-- 10 and 11: the file is static, and what is to be loaded can be
unfoldable pub segment_refusal : ℕ → List Header → Option ImageError
segment_refusal file_len hs =
    error.Dynamic when list_any is_dynamic hs otherwise
    option_map segment_error (find (is_segment_bad file_len) hs)

abbrev pub overlap_error : Header → Header → ImageError
overlap_error first second = error.Overlap first.index second.index

-- 12: the pair of parts that meet with the least first, and for that the least second
unfoldable pub overlap_refusal : List Header → Option ImageError
overlap_refusal [] = None
overlap_refusal (first ∷ others) =
    option_map (overlap_error first) (find (do_meet first) others) otherwise
    overlap_refusal others

-- 13 and 14: there are parts, and the entry is in one
unfoldable pub entry_refusal : ℕ → List Header → Option ImageError
entry_refusal entry parts =
    error.NoLoad when (length parts == 0) otherwise
    error.Entry when (not (entry % code_unit == 0) || not (list_any (holds_entry entry) parts))

-- the headers of parts
abbrev pub part_headers : List ℕ → List Header
part_headers bytes = filter is_part (headers bytes)

-- the first of the fourteen that holds
unfoldable pub refusal : List ℕ → Option ImageError
refusal bytes =
    format_refusal bytes otherwise
    machine_refusal bytes otherwise
    table_refusal bytes otherwise
    segment_refusal (length bytes) (headers bytes) otherwise
    overlap_refusal (part_headers bytes) otherwise
    entry_refusal (e_entry bytes) (part_headers bytes)

-- ---- the image

-- its bytes in the file, then zeros
abbrev pub part_of : List ℕ → Header → Part
part_of bytes h = record {
  address = h.address;
  bytes = take h.file_size (drop h.offset bytes);
  zeros = h.memory_size - h.file_size;
  write = is_writable h;
  exec = is_executable h;
  index = h.index;
}

unfoldable pub image_of : List ℕ → Image
image_of bytes = record { entry = e_entry bytes; parts = map (part_of bytes) (part_headers bytes) }

-- the value, unless a refusal holds
abbrev pub accepted : {A : Type 0} → Option ImageError → A → Result A ImageError
accepted (Some refusal) value = Err refusal
accepted None value = Ok value

unfoldable pub image : List ℕ → Result Image ImageError
image bytes = accepted (refusal bytes) (image_of bytes)

-- what a test of a group of refusals answers
abbrev pub checked : Option ImageError → Result (Unit {0}) ImageError
checked refusal = accepted refusal tt

-- ---- what is known of every image

abbrev pub size_of : Part → ℕ
size_of part = length part.bytes + part.zeros

-- a part takes memory, between the first page and the stack
pub record IsPlaced (part : Part) : Type 0 where
  pub sized : 1 ≤ size_of part
  pub above : 0x1000 ≤ part.address
  pub below : part.address + size_of part ≤ 0xEFFF0000

-- one of two parts ends before the other begins
abbrev pub IsApart : Part → Part → Type 0
IsApart first second =
    (first.address + size_of first ≤ second.address)
    ⊎ (second.address + size_of second ≤ first.address)

-- the address is in the part, and may be executed there
pub record HoldsEntry (entry : ℕ) (part : Part) : Type 0 where
  pub executable : IsTrue part.exec
  pub above : part.address ≤ entry
  pub below : entry < part.address + size_of part

-- what the refusals 9 and 11 to 14 leave
pub record IsSoundImage (image : Image) : Type 0 where
  pub few : length image.parts ≤ 64
  pub placed : All IsPlaced image.parts
  pub apart : AllPairs IsApart image.parts
  pub some : 1 ≤ length image.parts
  pub aligned : image.entry % code_unit ≡ 0
  pub held : Any (HoldsEntry image.entry) image.parts

-- ---- the numbers of the refusals, by which messages name them; want of memory is no refusal

abbrev pub refusal_number : ImageError → ℕ
refusal_number error.Short = 1
refusal_number error.NotElf = 2
refusal_number error.Class = 3
refusal_number error.ByteOrder = 4
refusal_number error.Version = 5
refusal_number error.Kind = 6
refusal_number error.Machine = 7
refusal_number error.Flags = 8
refusal_number error.HeaderTable = 9
refusal_number error.Dynamic = 10
refusal_number (error.Segment i) = 11
refusal_number (error.Overlap i j) = 12
refusal_number error.NoLoad = 13
refusal_number error.Entry = 14
refusal_number error.Memory = 0
