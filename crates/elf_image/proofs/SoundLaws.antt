-- Of a file that isn't refused, each part can be loaded, and the image is sound.
use Rattle.std.proofs.Common.{◌≡◌, ℕ, ◌+◌, ◌%◌, ◌≤◌, Bool, true, false, cond, not, ◌&&◌, ◌||◌, ◌⊎◌}
use Rattle.std.proofs.Common.{inl, inr, List, [], ◌∷◌, length, take, drop, get_or, Option, Some}
use Rattle.std.proofs.Common.{None, refl, sym, ap, subst, ◌∙◌, arith, length-drop}
use Rattle.std.specs.Prelude.{map, filter, find, All, AllPairs, Any, option_map, nat_lt, nat_le}
use Rattle.std.specs.Prelude.{◌==◌}
use Rattle.std.specs.List.{list_any}
use Rattle.std.proofs.lemmas.Bool.{ltb-true, ltb-false, leb-true, eqb-true, eqb-false, not-false}
use Rattle.std.proofs.lemmas.Bool.{and_parts, and_cases, or_parts}
use Rattle.std.proofs.lemmas.List.{length-take, length-map, get_or-map}
use Rattle.std.proofs.lemmas.List.Elements.{All-nil, All-cons, All-head, All-tail, All-map}
use Rattle.std.proofs.lemmas.List.Elements.{All-filter, filter_passes}
use Rattle.std.proofs.lemmas.List.Kept.{AllPairs-cons}
use Rattle.std.proofs.lemmas.List.Sums.{length-filter, count_by-le-length}
use Rattle.std.proofs.lemmas.List.Folds.{Any-from_list_any}
use Rattle.elf_image.specs.declared.error.ImageError.{ImageError}
use Rattle.elf_image.specs.declared.error.ImageError.TheVariants as error
use Rattle.elf_image.specs.declared.header.Header.{Header}
use Rattle.elf_image.specs.declared.part.Part.{Part}
use Rattle.elf_image.specs.Fields.{e_entry, e_phnum, headers}
use Rattle.elf_image.specs.Image.{code_unit, is_load, is_part, is_executable, leaves_file}
use Rattle.elf_image.specs.Image.{leaves_space, is_segment_bad, do_meet, holds_entry, end_of}
use Rattle.elf_image.specs.Image.{IsLoadable, ◌when◌, ◌otherwise◌, format_refusal, machine_refusal}
use Rattle.elf_image.specs.Image.{table_refusal, segment_error, segment_refusal, overlap_error}
use Rattle.elf_image.specs.Image.{overlap_refusal, entry_refusal, part_headers, refusal, part_of}
use Rattle.elf_image.specs.Image.{image_of, size_of, IsPlaced, IsApart, HoldsEntry, IsSoundImage}
use Rattle.elf_image.proofs.TableLaws.{length-headers}

-- ---- what no refusal means

otherwise_none : (a b : Option ImageError) → (a otherwise b) ≡ None → (a ≡ None) × (b ≡ None)
otherwise_none (Some e) b h = absurd cc
otherwise_none None b h = (refl, h)

when_none : (e : ImageError) (t : Bool) → (e when t) ≡ None → t ≡ false
when_none e true h = absurd cc
when_none e false h = refl

option_map_none : {A B : Type 0} (f : A → B) (o : Option A) → option_map f o ≡ None → o ≡ None
option_map_none f (Some x) h = absurd cc
option_map_none f None h = refl

cond_none : {X : Type 0} (t : Bool) (x : X) (rest : Option X) → cond t (Some x) rest ≡ None
    → (t ≡ false) × (rest ≡ None)
cond_none true x rest h = absurd cc
cond_none false x rest h = (refl, h)

find_none : {X : Type 0} (p : X → Bool) (xs : List X) → find p xs ≡ None → All (λ x. p x ≡ false) xs
find_none p [] h = All-nil (λ x. p x ≡ false)
find_none p (x ∷ xs) h =
    let both = cond_none (p x) x (find p xs) h in
    All-cons (λ y. p y ≡ false) x xs both.0 (find_none p xs both.1)

-- each group of refusals by itself
record NoRefusal (bytes : List ℕ) : Type 0 where
  table : table_refusal bytes ≡ None
  segments : segment_refusal (length bytes) (headers bytes) ≡ None
  overlaps : overlap_refusal (part_headers bytes) ≡ None
  entry : entry_refusal (e_entry bytes) (part_headers bytes) ≡ None

no_refusal : (bytes : List ℕ) → refusal bytes ≡ None → NoRefusal bytes
unfolding refusal
no_refusal bytes h =
    let a = otherwise_none (format_refusal bytes) _ h in
    let b = otherwise_none (machine_refusal bytes) _ a.1 in
    let c = otherwise_none (table_refusal bytes) _ b.1 in
    let d = otherwise_none (segment_refusal (length bytes) (headers bytes)) _ c.1 in
    let e = otherwise_none (overlap_refusal (part_headers bytes)) _ d.1 in
    record { table = c.0; segments = d.0; overlaps = e.0; entry = e.1 }

few_headers : (bytes : List ℕ) → table_refusal bytes ≡ None → e_phnum bytes ≤ 64
unfolding table_refusal
few_headers bytes h =
    let bad = when_none error.HeaderTable _ h in
    let both = or_parts (nat_lt 64 (e_phnum bytes)) _ bad in
    ltb-false _ _ both.0

sound_segments : (file_len : ℕ) (hs : List Header) → segment_refusal file_len hs ≡ None
    → All (λ h. is_segment_bad file_len h ≡ false) hs
unfolding segment_refusal
sound_segments file_len hs h =
    let both = otherwise_none _ _ h in
    find_none (is_segment_bad file_len) hs (option_map_none segment_error _ both.1)

loadable_parts : (file_len : ℕ) (hs : List Header) → segment_refusal file_len hs ≡ None
    → All (IsLoadable file_len) (filter is_part hs)
loadable_parts file_len hs h =
    let sound = All-filter is_part (λ x. is_segment_bad file_len x ≡ false) hs
    (sound_segments file_len hs h) in
    let part = filter_passes is_part hs in
    λ k d lt. record { part = part k d lt; sound = sound k d lt }

pub loadable : (bytes : List ℕ) → refusal bytes ≡ None
    → All (IsLoadable (length bytes)) (part_headers bytes)
loadable bytes h = loadable_parts (length bytes) (headers bytes) (no_refusal bytes h).segments

-- ---- one part

record Placed (file_len : ℕ) (h : Header) : Type 0 where
  sized : 1 ≤ h.memory_size
  within : h.file_size ≤ h.memory_size
  in_file : (h.file_size ≡ 0) ⊎ (h.offset + h.file_size ≤ file_len)
  above : 0x1000 ≤ h.address
  below : h.address + h.memory_size ≤ 0xEFFF0000

in_file_of : (file_len : ℕ) (h : Header) → leaves_file file_len h ≡ false
    → (h.file_size ≡ 0) ⊎ (h.offset + h.file_size ≤ file_len)
in_file_of file_len h e =
    elim (and_cases (nat_lt 0 h.file_size) _ e) [
      | inl none ↦
          inl (omega (arith, ltb-false 0 h.file_size none))
      | inr inside ↦ inr (ltb-false _ _ inside)
    ]

in_space_of : (h : Header) → 1 ≤ h.memory_size → leaves_space h ≡ false
    → (0x1000 ≤ h.address) × (h.address + h.memory_size ≤ 0xEFFF0000)
in_space_of h lt e = elim (and_cases (nat_lt 0 h.memory_size) _ e) [
  | inl none ↦ absurd (omega (arith, ltb-false 0 h.memory_size none))
  | inr inside ↦ let both = or_parts (nat_lt h.address 0x1000) _ inside in
      (ltb-false _ _ both.0, ltb-false _ _ both.1)
]

placed_of : (file_len : ℕ) (h : Header) → IsLoadable file_len h → Placed file_len h
placed_of file_len h l =
    let part = and_parts (is_load h) (nat_lt 0 h.memory_size) l.part in
    let sized : 1 ≤ h.memory_size = omega (arith, ltb-true 0 h.memory_size part.1) in
    elim (and_cases (is_load h) _ l.sound) [
      | inl other ↦ absurd (let no : true ≡ false = sym part.0 ∙ other in cc)
      | inr good ↦
          let one = or_parts (nat_lt h.memory_size h.file_size || leaves_file file_len h)
          (leaves_space h) good in
          let two = or_parts (nat_lt h.memory_size h.file_size) (leaves_file file_len h) one.0 in
          let space = in_space_of h sized one.1 in
          record {
            sized = sized;
            within = ltb-false _ _ two.0;
            in_file =
                in_file_of file_len h two.1;
            above = space.0;
            below = space.1;
          }
    ]

-- its bytes and zeros are as many as the header says
size_is : (bytes : List ℕ) (h : Header) → Placed (length bytes) h
    → size_of (part_of bytes h) ≡ h.memory_size
size_is bytes h p =
    let len : length (take h.file_size (drop h.offset bytes)) ≡ h.file_size = elim p.in_file [
      | inl none ↦ omega (
        arith,
        length-take h.file_size (drop h.offset bytes),
        length-drop h.offset bytes,
      )
      | inr inside ↦ omega
          (arith, length-take h.file_size (drop h.offset bytes), length-drop h.offset bytes)
    ] in
    let within = p.within in
    omega arith

placed : (bytes : List ℕ) (h : Header) → IsLoadable (length bytes) h → IsPlaced (part_of bytes h)
placed bytes h l =
    let p = placed_of (length bytes) h l in
    let size = size_is bytes h p in
    record {
      sized = omega (arith, size, p.sized);
      above = p.above;
      below =
          omega (arith, size, p.below);
    }

apart : (bytes : List ℕ) (a b : Header) → IsLoadable (length bytes) a → IsLoadable (length bytes) b
    → do_meet a b ≡ false → IsApart (part_of bytes a) (part_of bytes b)
apart bytes a b la lb e =
    let size_a = size_is bytes a (placed_of (length bytes) a la) in
    let size_b = size_is bytes b (placed_of (length bytes) b lb) in
    elim (and_cases (nat_lt a.address (end_of b)) _ e) [
      | inl above ↦ inr (omega (arith, size_b, ltb-false a.address (end_of b) above))
      | inr below ↦ inl (omega (arith, size_a, ltb-false b.address (end_of a) below))
    ]

held : (bytes : List ℕ) (entry : ℕ) (h : Header) → IsLoadable (length bytes) h
    → holds_entry entry h ≡ true → HoldsEntry entry (part_of bytes h)
held bytes entry h l e =
    let size = size_is bytes h (placed_of (length bytes) h l) in
    let two = and_parts (is_executable h && nat_le h.address entry) _ e in
    let one = and_parts (is_executable h) _ two.0 in
    record {
      executable = one.0;
      above = leb-true _ _ one.1;
      below =
          omega (arith, size, ltb-true _ _ two.1);
    }

-- ---- all of them

apart_from : (bytes : List ℕ) (hs : List Header) → All (IsLoadable (length bytes)) hs
    → overlap_refusal hs ≡ None → AllPairs IsApart (map (part_of bytes) hs)
unfolding overlap_refusal
apart_from bytes [] l h = λ i j d lt in_list. absurd (omega arith)
apart_from bytes (first ∷ others) l h =
    let both = otherwise_none _ _ h in
    let clear = find_none (do_meet first) others (option_map_none (overlap_error first) _ both.0) in
    let rest = All-tail (IsLoadable (length bytes)) first others l in
    let from_first : All (λ h. IsApart (part_of bytes first) (part_of bytes h)) others =
    λ k d lt. apart bytes first (get_or others k d)
    (All-head (IsLoadable (length bytes)) first others l) (rest k d lt) (clear k d lt) in
    AllPairs-cons IsApart (part_of bytes first) (map (part_of bytes) others)
    (All-map (IsApart (part_of bytes first)) (part_of bytes) others from_first)
    (apart_from bytes others rest both.1)

held_by : (bytes : List ℕ) (entry : ℕ) (hs : List Header) → All (IsLoadable (length bytes)) hs
    → list_any (holds_entry entry) hs ≡ true → Any (HoldsEntry entry) (map (part_of bytes) hs)
held_by bytes entry hs l e =
    let any = Any-from_list_any (holds_entry entry) hs e in
    let part : Header → Part = part_of bytes in
    let its : IsLoadable (length bytes) any.1 =
    subst (λ (h : Header). IsLoadable (length bytes) h) any.3 (l any.0 any.1 any.2) in (
      any.0,
      part any.1,
      omega (arith, length-map hs part, any.2),
      get_or-map part hs any.0 any.1 (part any.1) any.2
          ∙ ap part any.3,
      held bytes entry any.1 its any.4,
    )

record EntryIsGood (entry : ℕ) (hs : List Header) : Type 0 where
  some : 1 ≤ length hs
  aligned : entry % code_unit ≡ 0
  held : list_any (holds_entry entry) hs ≡ true

good_entry : (entry : ℕ) (hs : List Header) → entry_refusal entry hs ≡ None → EntryIsGood entry hs
unfolding entry_refusal
good_entry entry hs h =
    let both = otherwise_none _ _ h in
    let some : ¬ (length hs ≡ 0) = eqb-false (length hs) 0 (when_none error.NoLoad _ both.0) in
    let good = or_parts (not (entry % code_unit == 0)) _ (when_none error.Entry _ both.1) in
    record {
      some = omega (arith, some);
      aligned = eqb-true _ _ (not-false _ good.0);
      held =
          not-false _ good.1;
    }

pub sound : (bytes : List ℕ) → refusal bytes ≡ None → IsSoundImage (image_of bytes)
unfolding image_of
sound bytes h =
    let none = no_refusal bytes h in
    let all = loadable bytes h in
    let good = good_entry (e_entry bytes) (part_headers bytes) none.entry in
    record {
      few = omega (
        arith,
        length-map (part_headers bytes) (part_of bytes),
        length-filter is_part (headers bytes),
        count_by-le-length is_part (headers bytes),
        length-headers bytes,
        few_headers bytes none.table,
      );
      placed = All-map IsPlaced (part_of bytes) (part_headers bytes)
          (λ k d lt. placed bytes (get_or (part_headers bytes) k d) (all k d lt));
      apart = apart_from bytes (part_headers bytes) all none.overlaps;
      some = omega (arith, length-map (part_headers bytes) (part_of bytes), good.some);
      aligned = good.aligned;
      held = held_by bytes (e_entry bytes) (part_headers bytes) all good.held;
    }
