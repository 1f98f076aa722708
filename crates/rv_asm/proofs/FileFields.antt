-- What is read where a file's headers have their fields.
use Rattle.std.proofs.Common.{◌≡◌, ℕ, ◌+◌, ◌*◌, ◌^◌, ◌<◌, ◌≤◌, true, List, [], ◌∷◌, ◌++◌, length}
use Rattle.std.proofs.Common.{drop, refl, ap, ◌∙◌, arith, length-append, lit<, Bool, false, bit_and}
use Rattle.std.specs.Prelude.{nat_eq, slice_index}
use Rattle.std.specs.List.{starts_with}
use Rattle.std.proofs.lemmas.Nat.{from_le_bytes-to_le_bytes_4}
use Rattle.elf_image.specs.declared.header.Header.{Header}
use Rattle.elf_image.specs.Fields as fields
use Rattle.elf_image.specs.Image.{magic}
use Rattle.rv_asm.specs.File.{file_header, flags_by, program_header}

-- the headers of a file with a code part alone, and with a data part
abbrev pub one : Bool → (base flags size : ℕ) → List ℕ
one short base flags size =
    file_header (flags_by short) base 1 ++ program_header 84 base size size flags

abbrev pub two : Bool → (base flags size offset address file_size memory_size : ℕ) → List ℕ
two short base flags size offset address file_size memory_size =
    file_header (flags_by short) base 2 ++ program_header 116 base size size flags
    ++ program_header offset address file_size memory_size 6

-- the file header is one of so many program headers
pub record HasHeader (file : List ℕ) (entry count : ℕ) : Type 0 where
  pub long : 52 + 32 * count ≤ length file
  pub magic_is : starts_with nat_eq file magic ≡ true
  pub class : slice_index file 4 ≡ 1
  pub order : slice_index file 5 ≡ 1
  pub ident_version : slice_index file 6 ≡ 1
  pub type : fields.half file 16 ≡ 2
  pub machine : fields.half file 18 ≡ 243
  pub version : fields.word file 20 ≡ 1
  pub entry_is : fields.word file 24 ≡ entry
  pub table : fields.word file 28 ≡ 52
  pub flags : bit_and (fields.word file 36) 0xE ≡ 0
  pub header_size : fields.half file 42 ≡ 32
  pub count_is : fields.half file 44 ≡ count

-- compressed instructions are no reason to refuse a file
flags_fit : (short : Bool) → flags_by short < 2 ^ 32
flags_fit true = lit< tt
flags_fit false = lit< tt

flags_pass : (short : Bool) → bit_and (flags_by short) 0xE ≡ 0
flags_pass true = refl
flags_pass false = refl

pub one-header : (short : Bool) (base flags size : ℕ) (rest : List ℕ) → base < 2 ^ 32
    → HasHeader (one short base flags size ++ rest) base 1
unfolding fields.half fields.word
one-header short base flags size rest fits = record {
  long = omega (arith, length-append (one short base flags size) rest);
  magic_is = refl;
  class = refl;
  order = refl;
  ident_version = refl;
  type = refl;
  machine = refl;
  version = refl;
  entry_is = from_le_bytes-to_le_bytes_4 base fits;
  table = refl;
  flags = ap (λ n. bit_and n 0xE)
      (from_le_bytes-to_le_bytes_4 (flags_by short) (flags_fit short)) ∙ flags_pass short;
  header_size = refl;
  count_is = refl;
}

pub two-header : (short : Bool) (base flags size offset address file_size memory_size : ℕ)
    (rest : List ℕ) → base < 2 ^ 32
    → HasHeader (two short base flags size offset address file_size memory_size ++ rest)
    base 2
unfolding fields.half fields.word
two-header short base flags size offset address file_size memory_size rest fits = record {
  long = omega (
    arith,
    length-append
        (two short base flags size offset address file_size memory_size) rest,
  );
  magic_is = refl;
  class = refl;
  order = refl;
  ident_version = refl;
  type = refl;
  machine = refl;
  version = refl;
  entry_is = from_le_bytes-to_le_bytes_4 base fits;
  table = refl;
  flags = ap (λ n. bit_and n 0xE)
      (from_le_bytes-to_le_bytes_4 (flags_by short) (flags_fit short)) ∙ flags_pass short;
  header_size = refl;
  count_is = refl;
}

-- ---- the program headers

abbrev pub loads : (index offset address file_size memory_size flags : ℕ) → Header
loads index offset address file_size memory_size flags =
    record {
      index = index;
      kind = 1;
      offset = offset;
      address = address;
      file_size = file_size;
      memory_size = memory_size;
      flags = flags;
    }

loads-at : (index o o' a a' f f' m m' l l' : ℕ) → o ≡ o' → a ≡ a' → f ≡ f' → m ≡ m' → l ≡ l'
    → loads index o a f m l ≡ loads index o' a' f' m' l'
loads-at index o o' a a' f f' m m' l l' eo ea ef em el = rw (eo, ea, ef, em, el) refl

pub one-headers : (short : Bool) (base flags size : ℕ) (rest : List ℕ) → base < 2 ^ 32
    → flags < 2 ^ 32 → size < 2 ^ 32
    → fields.headers (one short base flags size ++ rest) ≡ loads 0 84 base size size flags
    ∷ []
unfolding fields.half fields.word fields.header_at fields.headers_from fields.headers
one-headers short base flags size rest fits_base fits_flags fits_size =
    ap (λ (h : Header). h ∷ [])
    (loads-at 0 84 84 _ base _ size _ size _ flags refl
    (from_le_bytes-to_le_bytes_4 base fits_base)
    (from_le_bytes-to_le_bytes_4 size fits_size)
    (from_le_bytes-to_le_bytes_4 size fits_size)
    (from_le_bytes-to_le_bytes_4 flags fits_flags))

pair-at : (a a' b b' : Header) → a ≡ a' → b ≡ b' → (a ∷ b ∷ []) ≡ (a' ∷ b' ∷ [])
pair-at a a' b b' ea eb = rw (ea, eb) refl

pub two-headers : (short : Bool) (base flags size offset address file_size memory_size : ℕ)
    (rest : List ℕ)
    → base < 2 ^ 32 → flags < 2 ^ 32 → size < 2 ^ 32 → offset < 2 ^ 32 → address < 2 ^ 32
    → file_size < 2 ^ 32 → memory_size < 2 ^ 32
    → fields.headers (two short base flags size offset address file_size memory_size ++ rest)
    ≡ loads 0 116 base size size flags ∷ loads 1 offset address file_size memory_size 6 ∷ []
unfolding fields.half fields.word fields.header_at fields.headers_from fields.headers
two-headers short base flags size offset address file_size memory_size rest fits_base fits_flags
    fits_size fits_offset fits_address fits_file fits_memory =
    pair-at _ _ _ _
    (loads-at 0 116 116 _ base _ size _ size _ flags refl
    (from_le_bytes-to_le_bytes_4 base fits_base)
    (from_le_bytes-to_le_bytes_4 size fits_size)
    (from_le_bytes-to_le_bytes_4 size fits_size)
    (from_le_bytes-to_le_bytes_4 flags fits_flags))
    (loads-at 1 _ offset _ address _ file_size _ memory_size 6 6
    (from_le_bytes-to_le_bytes_4 offset fits_offset)
    (from_le_bytes-to_le_bytes_4 address fits_address)
    (from_le_bytes-to_le_bytes_4 file_size fits_file)
    (from_le_bytes-to_le_bytes_4 memory_size fits_memory) refl)

-- ---- what stands behind them

pub one-rest : (short : Bool) (base flags size : ℕ) (rest : List ℕ)
    → drop 84 (one short base flags size ++ rest) ≡ rest
one-rest short base flags size rest = refl

pub two-rest : (short : Bool) (base flags size offset address file_size memory_size : ℕ)
    (rest : List ℕ)
    → drop 116 (two short base flags size offset address file_size memory_size ++ rest) ≡ rest
two-rest short base flags size offset address file_size memory_size rest = refl
