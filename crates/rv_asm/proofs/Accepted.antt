-- A file with such headers is not refused.
use Rattle.std.proofs.Common.{◌≡◌, ℕ, ◌+◌, ◌*◌, ◌%◌, ◌≤◌, Bool, true, false, ◌&&◌, List, [], ◌∷◌}
use Rattle.std.proofs.Common.{length, None, Ok, refl, ap, ◌∙◌, arith}
use Rattle.std.specs.Prelude.{map, filter, find, nat_lt, ◌==◌}
use Rattle.std.specs.List.{list_any}
use Rattle.std.proofs.lemmas.Bool.{lt-ltb, le-ltb, le-leb, and_from, and_right, or_from, ne_eqb}
use Rattle.elf_image.specs.declared.header.Header.{Header}
use Rattle.elf_image.specs.Fields.{e_entry, headers}
use Rattle.elf_image.specs.Image.{image, image_of, part_of, part_headers, do_meet, holds_entry}
use Rattle.elf_image.specs.Image.{is_dynamic, is_executable, is_load, is_part, is_segment_bad}
use Rattle.elf_image.specs.Image.{leaves_file, leaves_space, end_of, format_refusal}
use Rattle.elf_image.specs.Image.{machine_refusal, table_refusal, segment_refusal, overlap_refusal}
use Rattle.elf_image.specs.Image.{entry_refusal, refusal}
use Rattle.rv_asm.proofs.FileFields.{HasHeader}

-- ---- the file header

format_none : (file : List ℕ) (entry count : ℕ) → HasHeader file entry count
    → format_refusal file ≡ None
unfolding format_refusal
format_none file entry count h =
    let long : nat_lt (length file) 52 ≡ false = le-ltb (length file) 52 (omega (arith, h.long)) in
    rw (long, h.magic_is, h.class, h.order, h.ident_version, h.version) refl

machine_none : (file : List ℕ) (entry count : ℕ) → HasHeader file entry count
    → machine_refusal file ≡ None
unfolding machine_refusal
machine_none file entry count h = rw (h.type, h.machine, h.flags) refl

table_none : (file : List ℕ) (entry count : ℕ) → HasHeader file entry count → count ≤ 64
    → table_refusal file ≡ None
unfolding table_refusal
table_none file entry count h few =
    let no_more : nat_lt 64 count ≡ false = le-ltb 64 count few in
    let inside : nat_lt (length file) (52 + 32 * count) ≡ false =
    le-ltb (length file) (52 + 32 * count) h.long in
    let sound : (nat_lt 0 count && false) ≡ false = and_right (nat_lt 0 count) false refl in
    rw (h.count_is, h.header_size, h.table, no_more, inside, sound) refl

-- ---- the parts

-- a part that is loaded, in the file and where parts may be
pub record IsGood (file_len : ℕ) (h : Header) : Type 0 where
  pub loaded : h.kind ≡ 1
  pub sized : 1 ≤ h.memory_size
  pub within : h.file_size ≤ h.memory_size
  pub in_file : h.offset + h.file_size ≤ file_len
  pub above : 0x1000 ≤ h.address
  pub below : h.address + h.memory_size ≤ 0xEFFF0000

not_dynamic : (file_len : ℕ) (h : Header) → IsGood file_len h → is_dynamic h ≡ false
not_dynamic file_len h good = rw (good.loaded) refl

part : (file_len : ℕ) (h : Header) → IsGood file_len h → is_part h ≡ true
part file_len h good =
    let sized : nat_lt 0 h.memory_size ≡ true =
    lt-ltb 0 h.memory_size (omega (arith, good.sized)) in
    rw (good.loaded, sized) refl

not_bad : (file_len : ℕ) (h : Header) → IsGood file_len h → is_segment_bad file_len h ≡ false
not_bad file_len h good =
    let file : leaves_file file_len h ≡ false =
    and_right (nat_lt 0 h.file_size) _
    (le-ltb file_len (h.offset + h.file_size) good.in_file) in
    let space : leaves_space h ≡ false =
    and_right (nat_lt 0 h.memory_size) _
    (or_from _ _ (le-ltb h.address 0x1000 good.above)
    (le-ltb 0xEFFF0000 (end_of h) good.below)) in
    and_right (is_load h) _
    (or_from _ _ (or_from _ _ (le-ltb h.memory_size h.file_size good.within) file) space)

-- ---- one header, or two

any_one : (p : Header → Bool) (a : Header) → p a ≡ false → list_any p (a ∷ []) ≡ false
any_one p a ea = rw ea refl

any_two : (p : Header → Bool) (a b : Header) → p a ≡ false → p b ≡ false
    → list_any p (a ∷ b ∷ []) ≡ false
any_two p a b ea eb = rw (ea, eb) refl

find_one : (p : Header → Bool) (a : Header) → p a ≡ false → find p (a ∷ []) ≡ None
find_one p a ea = rw ea refl

find_two : (p : Header → Bool) (a b : Header) → p a ≡ false → p b ≡ false
    → find p (a ∷ b ∷ []) ≡ None
find_two p a b ea eb = rw (ea, eb) refl

pub filter_one : (p : Header → Bool) (a : Header) → p a ≡ true → filter p (a ∷ []) ≡ a ∷ []
filter_one p a ea = rw ea refl

pub filter_two : (p : Header → Bool) (a b : Header) → p a ≡ true → p b ≡ true
    → filter p (a ∷ b ∷ []) ≡ a ∷ b ∷ []
filter_two p a b ea eb = rw (ea, eb) refl

segment_by : (file_len : ℕ) (hs : List Header) → list_any is_dynamic hs ≡ false
    → find (is_segment_bad file_len) hs ≡ None → segment_refusal file_len hs ≡ None
unfolding segment_refusal
segment_by file_len hs dynamic bad = rw (dynamic, bad) refl

overlap_one : (a : Header) → overlap_refusal (a ∷ []) ≡ None
unfolding overlap_refusal
overlap_one a = refl

overlap_by : (a b : Header) → find (do_meet a) (b ∷ []) ≡ None → overlap_refusal (a ∷ b ∷ []) ≡ None
unfolding overlap_refusal
overlap_by a b e = rw e refl

-- the entry is the first byte of the first part
pub record IsEntered (entry : ℕ) (h : Header) : Type 0 where
  pub aligned : entry % 2 ≡ 0
  pub first : h.address ≡ entry
  pub executable : is_executable h ≡ true
  pub sized : 1 ≤ h.memory_size

held : (entry : ℕ) (h : Header) → IsEntered entry h → holds_entry entry h ≡ true
held entry h e = and_from _ _
    (and_from _ _ e.executable (le-leb h.address entry (omega (arith, e.first))))
    (lt-ltb entry (end_of h) (omega (arith, e.first, e.sized)))

entry_none : (entry : ℕ) (h : Header) (hs : List Header) → IsEntered entry h
    → entry_refusal entry (h ∷ hs) ≡ None
unfolding entry_refusal
entry_none entry h hs e =
    let some : (length (h ∷ hs) == 0) ≡ false =
    ne_eqb (length (h ∷ hs)) 0 (λ (none : length (h ∷ hs) ≡ 0). omega arith) in
    rw (some, e.aligned, held entry h e) refl

-- ---- the whole

refusal_by : (file : List ℕ) (entry count : ℕ) (hs parts : List Header) → HasHeader file entry count
    → count ≤ 64 → headers file ≡ hs → filter is_part hs ≡ parts
    → segment_refusal (length file) hs ≡ None → overlap_refusal parts ≡ None
    → entry_refusal entry parts ≡ None → refusal file ≡ None
unfolding refusal
refusal_by file entry count hs parts h few eh ep segments overlaps enters =
    rw (
      format_none file entry count h,
      machine_none file entry count h,
      table_none file entry count h few,
      eh,
      ep,
      h.entry_is,
      segments,
      overlaps,
      enters,
    ) refl

pub refusal-one : (file : List ℕ) (entry : ℕ) (a : Header) → HasHeader file entry 1
    → headers file ≡ a ∷ [] → IsGood (length file) a → IsEntered entry a → refusal file ≡ None
refusal-one file entry a h eh good e =
    refusal_by file entry 1 (a ∷ []) (a ∷ []) h (omega arith) eh
    (filter_one is_part a (part (length file) a good))
    (segment_by (length file) (a ∷ []) (any_one is_dynamic a (not_dynamic (length file) a good))
    (find_one (is_segment_bad (length file)) a (not_bad (length file) a good)))
    (overlap_one a)
    (entry_none entry a [] e)

pub refusal-two : (file : List ℕ) (entry : ℕ) (a b : Header) → HasHeader file entry 2
    → headers file ≡ a ∷ b ∷ [] → IsGood (length file) a → IsGood (length file) b
    → do_meet a b ≡ false → IsEntered entry a → refusal file ≡ None
refusal-two file entry a b h eh good_a good_b apart e =
    refusal_by file entry 2 (a ∷ b ∷ []) (a ∷ b ∷ []) h (omega arith) eh
    (filter_two is_part a b (part (length file) a good_a) (part (length file) b good_b))
    (segment_by (length file) (a ∷ b ∷ [])
    (any_two is_dynamic a b (not_dynamic (length file) a good_a)
    (not_dynamic (length file) b good_b))
    (find_two (is_segment_bad (length file)) a b (not_bad (length file) a good_a)
    (not_bad (length file) b good_b)))
    (overlap_by a b (find_one (do_meet a) b apart))
    (entry_none entry a (b ∷ []) e)

-- and its image has the parts of these headers
made_by : (file : List ℕ) (entry : ℕ) (hs : List Header) → refusal file ≡ None
    → e_entry file ≡ entry → part_headers file ≡ hs
    → image file ≡ Ok (record { entry = entry; parts = map (part_of file) hs })
unfolding image image_of
made_by file entry hs none e p = rw (none, e, p) refl

pub image-one : (file : List ℕ) (entry : ℕ) (a : Header) → HasHeader file entry 1
    → headers file ≡ a ∷ [] → IsGood (length file) a → IsEntered entry a
    → image file ≡ Ok (record { entry = entry; parts = part_of file a ∷ [] })
image-one file entry a h eh good e =
    made_by file entry (a ∷ []) (refusal-one file entry a h eh good e) h.entry_is
    (ap (filter is_part) eh ∙ filter_one is_part a (part (length file) a good))

pub image-two : (file : List ℕ) (entry : ℕ) (a b : Header) → HasHeader file entry 2
    → headers file ≡ a ∷ b ∷ [] → IsGood (length file) a → IsGood (length file) b
    → do_meet a b ≡ false → IsEntered entry a
    → image file ≡ Ok (record { entry = entry; parts = part_of file a ∷ part_of file b ∷ [] })
image-two file entry a b h eh good_a good_b apart e =
    made_by file entry (a ∷ b ∷ [])
    (refusal-two file entry a b h eh good_a good_b apart e) h.entry_is
    (ap (filter is_part) eh
    ∙ filter_two is_part a b (part (length file) a good_a) (part (length file) b good_b))
