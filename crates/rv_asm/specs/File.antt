-- The file of a builder, an ELF32 executable for RISC-V, field by field (System V ABI, "ELF Header"
-- and "Program Header").
use Rattle.std.specs.Prelude.{ℕ, ◌+◌, ◌*◌, Bool, true, false, not, ◌&&◌, ◌||◌, ◌==◌, nat_lt, nat_le}
use Rattle.std.specs.Prelude.{List, [], ◌∷◌, ◌++◌, length, flat_map, Result, Ok, Err, if◌then◌else◌}
use Rattle.elf_image.specs.Image.{Image}
use Rattle.elf_image.specs.declared.part.Part.{Part}
use Rattle.rv_asm.specs.declared.error.AsmError.{AsmError}
use Rattle.rv_asm.specs.declared.error.AsmError.TheVariants as error
use Rattle.rv_asm.specs.Source.{Source, Data, halfwords_of, data_size, has_data, is_half}
use Rattle.rv_asm.specs.Words.{assembled, bytes_of_half, bytes_of_word}
use Rattle.std.specs.List.{list_any}

-- words one after another
abbrev pub code_of : List ℕ → List ℕ
code_of words = flat_map bytes_of_word words

-- ---- the file header, of 52 bytes

-- 0x7F, `E`, `L`, `F`; ELFCLASS32, ELFDATA2LSB, EV_CURRENT, and padding
abbrev pub identification : List ℕ
identification = 0x7F ∷ 0x45 ∷ 0x4C ∷ 0x46 ∷ 1 ∷ 1 ∷ 1 ∷ 0 ∷ 0 ∷ 0 ∷ 0 ∷ 0 ∷ 0 ∷ 0 ∷ 0 ∷ 0 ∷ []

-- e_flags: 1 where there are compressed instructions (the RISC-V psABI)
abbrev pub flags_by : Bool → ℕ
flags_by short = if short then 1 else 0

abbrev pub file_header : (e_flags e_entry e_phnum : ℕ) → List ℕ
file_header e_flags e_entry e_phnum =
    let e_type = bytes_of_half 2 in  -- ET_EXEC
    let e_machine = bytes_of_half 243 in  -- EM_RISCV
    let e_version = bytes_of_word 1 in
    let e_phoff = bytes_of_word 52 in  -- the program headers follow
    let e_shoff = bytes_of_word 0 in
    let e_ehsize = bytes_of_half 52 in
    let e_phentsize = bytes_of_half 32 in
    -- e_shentsize, e_shnum, e_shstrndx
    let no_sections = bytes_of_half 0 ++ bytes_of_half 0 ++ bytes_of_half 0 in
    identification ++ e_type ++ e_machine ++ e_version
    ++ bytes_of_word e_entry ++ e_phoff ++ e_shoff
    ++ bytes_of_word e_flags ++ e_ehsize ++ e_phentsize ++ bytes_of_half e_phnum ++ no_sections

-- ---- a program header, of 32 bytes, of a part that is loaded

abbrev pub program_header : (p_offset address p_filesz p_memsz p_flags : ℕ) → List ℕ
program_header p_offset address p_filesz p_memsz p_flags =
    let p_type = bytes_of_word 1 in  -- PT_LOAD
    let p_vaddr = bytes_of_word address in
    let p_paddr = bytes_of_word address in
    let p_align = bytes_of_word 0x1000 in
    p_type ++ bytes_of_word p_offset ++ p_vaddr ++ p_paddr ++ bytes_of_word p_filesz
    ++ bytes_of_word p_memsz ++ bytes_of_word p_flags
    ++ p_align

-- PF_R + PF_X, and PF_W where asked
abbrev pub code_flags : Bool → ℕ
code_flags write = if write then 7 else 5

-- PF_R + PF_W
abbrev pub data_flags : ℕ
data_flags = 6

-- of so many halfwords from a place in the file on
abbrev pub code_header : Source → (p_offset count : ℕ) → List ℕ
code_header source p_offset count =
    program_header p_offset source.base (2 * count) (2 * count) (code_flags source.write)

abbrev pub data_header : Data → (p_offset : ℕ) → List ℕ
data_header d p_offset = program_header p_offset d.address (length d.bytes) (data_size d) data_flags

-- whether a halfword was given by itself
abbrev pub is_short : Source → Bool
is_short source = list_any is_half source.items

-- all headers, with a data part or without; then comes the code of so many halfwords, then the data
abbrev pub headers_by : Bool → Source → ℕ → List ℕ
headers_by false source count =
    file_header (flags_by (is_short source)) source.base 1 ++ code_header source 84 count
headers_by true source count =
    file_header (flags_by (is_short source)) source.base 2 ++ code_header source 116 count
    ++ data_header source.data_part (116 + 2 * count)

unfoldable pub file_of : Source → List ℕ → List ℕ
file_of source code = headers_by (has_data source) source (halfwords_of source.items) ++ code
    ++ source.data_part.bytes

-- ---- where parts may be: from 0x1000 on, below the stack at 0xEFFF0000, and apart

abbrev pub is_within_parts : (address size : ℕ) → Bool
is_within_parts address size = nat_le 0x1000 address && nat_le (address + size) 0xEFFF0000

abbrev pub do_overlap : (address size other other_size : ℕ) → Bool
do_overlap address size other other_size = nat_lt address (other + other_size)
    && nat_lt other (address + size)

abbrev pub is_code_placed : Source → Bool
is_code_placed source = not (halfwords_of source.items == 0)
    && is_within_parts source.base (2 * halfwords_of source.items)

abbrev pub is_data_placed : Source → Bool
is_data_placed source =
    let d = source.data_part in
    is_within_parts d.address (data_size d)
    && not (do_overlap source.base (2 * halfwords_of source.items) d.address (data_size d))

-- there is code, and what there is can be where it is to be
abbrev pub is_in_range : Source → Bool
is_in_range source = is_code_placed source && (not (has_data source) || is_data_placed source)

-- ---- the answer

abbrev pub file_by : Source → Result (List ℕ) AsmError → Result (List ℕ) AsmError
file_by source (Ok code) = Ok (file_of source code)
file_by source (Err e) = Err e

unfoldable pub finished : Source → Result (List ℕ) AsmError
finished source = if is_in_range source then file_by source (assembled source) else Err error.Range

-- ---- what an image of the file has

abbrev pub code_part : Source → List ℕ → Part
code_part source code = record {
  address = source.base;
  bytes = code;
  zeros = 0;
  write =
      source.write;
  exec = true;
  index = 0;
}

abbrev pub data_parts : Bool → Data → List Part
data_parts false d = []
data_parts true d = record {
  address = d.address;
  bytes = d.bytes;
  zeros = d.zeros;
  write = true;
  exec = false;
  index = 1;
} ∷ []

-- it is entered at the base, which is the first halfword
abbrev pub image_of_source : Source → List ℕ → Image
image_of_source source code = record {
  entry = source.base;
  parts =
      code_part source code ∷ data_parts (has_data source) source.data_part;
}
