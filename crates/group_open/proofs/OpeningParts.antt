-- The opening of one accepted image: its pages, its space, its process, its thread and its bytes.
use Rattle.std.proofs.Common.{ℕ, ◌+◌, ◌*◌, ◌-◌, ◌/◌, ◌^◌, ◌<◌, ◌≤◌, ◌≡◌, ◌⊎◌, inl, inr, refl, sym}
use Rattle.std.proofs.Common.{ap, ◌∙◌, subst, Bool, true, List, [], ◌∷◌, ◌++◌, length, map, Some}
use Rattle.std.proofs.Common.{None, arith}
use Rattle.std.specs.Prelude.{All, IsTrue, IfSome, is_some, option_and_then, flat_map, find}
use Rattle.std.specs.Prelude.{count_by, ◌==◌, nat_lt, slice_index, slice_index_or, replicate}
use Rattle.std.specs.List.{list_any}
use Rattle.std.proofs.lemmas.Bool.{ltb-true, cases_lt, cond_both}
use Rattle.std.proofs.lemmas.List.{get_or-map, get_or_past, length-append, length-map, map-append}
use Rattle.std.proofs.lemmas.List.Elements.{All-nil, All-cons, All-head, All-tail, All-append}
use Rattle.std.proofs.lemmas.List.Elements.{All-replicate, All-map, All-weaker}
use Rattle.std.proofs.lemmas.List.Sums.{AllPass-from_list_all}
use Rattle.dos_world.specs.Numbered.{map_from, run_of, numbered}
use Rattle.dos_world.specs.World.{Process, Holdings, holdings_of}
use Rattle.dos_world.specs.Counts.{maps_frame}
use Rattle.dos_world.specs.Lawful.{AreHoldings, AreRegisters, IsThread, IsWord, IsByte, IsAction}
use Rattle.dos_world.specs.Lawful.{IsEnd}
use Rattle.dos_world.specs.declared.Entry.{Entry}
use Rattle.dos_world.specs.declared.End.TheVariants.{Input, Output, Error}
use Rattle.elf_image.specs.declared.part.Part.{Part}
use Rattle.elf_image.specs.Image.{Image, IsSoundImage, IsPlaced, HoldsEntry, size_of}
use Rattle.flat_machine.specs.Opening.{pages_touched, part_pages, stack_pages, page_count}
use Rattle.flat_machine.specs.Opening.{part_entry}
use Rattle.flat_machine.specs.Opening.{stack_entry, space_from, opening_descriptors}
use Rattle.flat_machine.specs.Opening.{opening_registers, opening_thread, part_byte, byte_at}
use Rattle.flat_machine.specs.Opening.{page_bytes, image_bytes}
use Rattle.group_open.specs.Laws.{IsAccepted, HasBytes}
use Rattle.group_open.proofs.Runs.{All-flat_map, length_with_zeros, any_of_map, count_of_map}
use Rattle.group_open.proofs.Runs.{length_run, append_runs, at_run, within_run, places_kept}
use Rattle.group_open.proofs.Runs.{elements_kept, RisesWithin, rises_on, run_rises, rising_rises}
use Rattle.group_open.proofs.Runs.{within_rise, increases}

-- ---- lists

-- what holds of the values holds of what they are made of
All-unmap : {A B : Type 0} (P : B → Type 0) (f : A → B) (xs : List A) → All P (map f xs)
    → All (λ x. P (f x)) xs
All-unmap P f xs h k d lt =
    subst P (get_or-map f xs k d (f d) lt)
    (h k (f d) (subst (λ n. k < n) (sym (length-map xs f)) lt))

-- ---- pages

-- from the first page to the last below the stack
abbrev IsPartPage : ℕ → Type 0
IsPartPage n = (1 ≤ n) × (n < 0xEFFF0)

touched_in : (part : Part) → IsPlaced part → All IsPartPage (pages_touched part)
touched_in part h =
    within_run IsPartPage (part.address / 4096)
    ((part.address + size_of part - 1) / 4096 + 1 - part.address / 4096)
    (λ k le lt. (omega arith, omega arith))

pub pages_rise : (image : Image) → IsSoundImage image → RisesWithin 1 0xEFFF0 (part_pages image)
pages_rise image h =
    rising_rises 1 0xEFFF0 (flat_map pages_touched image.parts) (omega arith)
    (All-flat_map IsPartPage pages_touched image.parts
    (All-weaker IsPlaced
    (λ part. All IsPartPage (pages_touched part)) touched_in image.parts h.placed))

-- ---- the space

abbrev pub frame_of : ℕ × Entry → ℕ
frame_of e = e.1.frame

abbrev page_of : ℕ × Entry → ℕ
page_of e = e.0

frames_of_two : (f g : ℕ → ℕ → ℕ × Entry) → ((n p : ℕ) → frame_of (f n p) ≡ n)
    → ((n p : ℕ) → frame_of (g n p) ≡ n) → (n : ℕ) (xs ys : List ℕ)
    → map frame_of (map_from n f xs ++ map_from (n + length xs) g ys)
    ≡ run_of n (length xs + length ys)
frames_of_two f g of_f of_g n xs ys =
    map-append frame_of (map_from n f xs) (map_from (n + length xs) g ys)
    ∙ ap (λ zs. zs ++ map frame_of (map_from (n + length xs) g ys))
    (places_kept frame_of f of_f n xs)
    ∙ ap (λ zs. run_of n (length xs) ++ zs) (places_kept frame_of g of_g (n + length xs) ys)
    ∙ append_runs n (length xs) (length ys)

-- An image's frames run on from the first.
pub space_frames : (image : Image) (f : ℕ)
    → map frame_of (space_from image f) ≡ run_of f (page_count image)
space_frames image f = frames_of_two (part_entry image) stack_entry (λ n p. refl) (λ n p. refl) f
    (part_pages image) stack_pages

pages_of_two : (f g : ℕ → ℕ → ℕ × Entry) → ((n p : ℕ) → page_of (f n p) ≡ p)
    → ((n p : ℕ) → page_of (g n p) ≡ p) → (n m : ℕ) (xs ys : List ℕ)
    → map page_of (map_from n f xs ++ map_from m g ys) ≡ xs ++ ys
pages_of_two f g of_f of_g n m xs ys =
    map-append page_of (map_from n f xs) (map_from m g ys)
    ∙ ap (λ zs. zs ++ map page_of (map_from m g ys)) (elements_kept page_of f of_f n xs)
    ∙ ap (λ zs. xs ++ zs) (elements_kept page_of g of_g m ys)

space_pages : (image : Image) (f : ℕ)
    → map page_of (space_from image f) ≡ part_pages image ++ stack_pages
space_pages image f = pages_of_two (part_entry image) stack_entry (λ n p. refl) (λ n p. refl) f
    (f + length (part_pages image)) (part_pages image) stack_pages

space_rises : (image : Image) (f : ℕ) → IsAccepted image
    → RisesWithin 1 0xF0000 (map page_of (space_from image f))
space_rises image f h = subst (RisesWithin 1 0xF0000) (sym (space_pages image f))
    (rises_on 1 0xEFFF0 0xF0000 (part_pages image) stack_pages (pages_rise image h.sound)
    (run_rises 0xEFFF0 16))

pub space_length : (image : Image) (f : ℕ) → length (space_from image f) ≡ page_count image
space_length image f = sym (length-map (space_from image f) frame_of)
    ∙ ap length (space_frames image f) ∙ length_run f (page_count image)

pub frames_within : (image : Image) (f : ℕ)
    → All (λ e. (f ≤ frame_of e) × (frame_of e < f + page_count image)) (space_from image f)
frames_within image f =
    All-unmap (λ n. (f ≤ n) × (n < f + page_count image)) frame_of (space_from image f)
    (subst (All (λ n. (f ≤ n) × (n < f + page_count image))) (sym (space_frames image f))
    (within_run (λ n. (f ≤ n) × (n < f + page_count image)) f (page_count image)
    (λ k le lt. (le, lt))))

pages_within : (image : Image) (f : ℕ) → IsAccepted image
    → All (λ e. (1 ≤ page_of e) × (page_of e < 0xF0000)) (space_from image f)
pages_within image f h = All-unmap (λ n. (1 ≤ n) × (n < 0xF0000)) page_of (space_from image f)
    (within_rise 1 0xF0000 (map page_of (space_from image f)) (space_rises image f h))

frame_at : (image : Image) (f i : ℕ) (d : ℕ × Entry) → i < length (space_from image f)
    → frame_of (slice_index_or (space_from image f) i d) ≡ f + i
frame_at image f i d lt =
    sym (get_or-map frame_of (space_from image f) i d 0 lt)
    ∙ ap (λ xs. slice_index xs i) (space_frames image f)
    ∙ at_run f (page_count image) i (subst (λ n. i < n) (space_length image f) lt)

-- ---- what its process has

abbrev pub opening_holdings : Image → ℕ → Holdings
opening_holdings image f =
    record {
      actions = replicate 31 0;
      descriptors = opening_descriptors;
      space =
          space_from image f;
    }

ends_in : All IsEnd opening_descriptors
ends_in =
    All-cons IsEnd (Some Input) (Some Output ∷ Some Error ∷ replicate 29 None) tt
    (All-cons IsEnd (Some Output) (Some Error ∷ replicate 29 None) tt
    (All-cons IsEnd (Some Error) (replicate 29 None) tt
    (All-replicate IsEnd 29 None tt)))

pub holdings_in : (frames : ℕ) (image : Image) (f : ℕ) → IsAccepted image
    → f + page_count image ≤ frames → AreHoldings frames (opening_holdings image f)
holdings_in frames image f h fits = record {
  actions = (refl, All-replicate IsAction 31 0 (inr (refl, omega arith)));
  descriptors = (refl, ends_in);
  rising = increases 1 0xF0000 (map page_of (space_from image f)) (space_rises image f h);
  pages = λ k d lt. let page = pages_within image f h k d lt in let frame =
      frames_within image f k d lt in (page.0, omega (arith, page.1), omega (arith, frame.1, fits));
  apart = λ i j d before lt same. let one = frame_at image f i d (omega (arith, before, lt)) in
      let other = frame_at image f j d lt in absurd (omega (arith, one, other, same, before));
}

pub maps_run : (x : ℕ) (image : Image) (f : ℕ)
    → maps_frame x (opening_holdings image f) ≡ list_any (λ k. k == x) (run_of f (page_count image))
maps_run x image f = any_of_map (λ k. k == x) frame_of (space_from image f)
    ∙ ap (list_any (λ k. k == x)) (space_frames image f)

pub counts_run : (x : ℕ) (image : Image) (f : ℕ)
    → count_by (λ e. e.1.frame == x) (space_from image f)
    ≡ count_by (λ k. k == x) (run_of f (page_count image))
counts_run x image f = count_of_map (λ k. k == x) frame_of (space_from image f)
    ∙ ap (count_by (λ k. k == x)) (space_frames image f)

-- ---- its thread

entry_in : (image : Image) → IsSoundImage image → IsWord image.entry
entry_in image h =
    let placed : IsPlaced h.held.1 =
    subst IsPlaced h.held.3 (h.placed h.held.0 h.held.1 h.held.2) in
    let holds : HoldsEntry image.entry h.held.1 = h.held.4 in
    omega (arith, placed.below, holds.below)

words_in : (image : Image) → All IsWord (opening_registers image).numbers
words_in image = All-weaker (λ n. nat_lt n (2 ^ 32) ≡ true) IsWord (λ n e. ltb-true n (2 ^ 32) e)
    (opening_registers image).numbers
    (AllPass-from_list_all (λ n. nat_lt n (2 ^ 32)) (opening_registers image).numbers refl)

registers_in : (image : Image) → IsSoundImage image → AreRegisters (opening_registers image)
registers_in image h = record {
  pc = entry_in image h;
  count = refl;
  words = words_in image;
  first =
      refl;
  held = tt;
}

pub thread_in : (processes : List Process) (number : ℕ) (image : Image) → IsAccepted image
    → IsTrue (is_some (option_and_then holdings_of (numbered processes number)))
    → IfSome (opening_thread number image) (IsThread processes)
thread_in processes number image h lives = record {
  process = lives;
  registers = registers_in image h.sound;
  pending = (omega arith, refl);
  mask = (omega arith, refl, refl);
  saved = (omega arith, All-nil _);
}

-- ---- its bytes

index_is_byte : (bytes : List ℕ) (i : ℕ) → All IsByte bytes → IsByte (slice_index bytes i)
index_is_byte bytes i h = go (cases_lt i (length bytes))
  where
    go : (i < length bytes) ⊎ (length bytes ≤ i) → IsByte (slice_index bytes i)
    go (inl lt) = h i 0 lt
    go (inr past) = subst IsByte (sym (get_or_past bytes i 0 past)) (omega arith)

found_is_byte : (address : ℕ) (test : Part → Bool) (parts : List Part) → All HasBytes parts
    → IsByte (part_byte address (find test parts))
found_is_byte address test [] h = omega arith
found_is_byte address test (part ∷ parts) h =
    cond_both (test part) (Some part) (find test parts) (λ o. IsByte (part_byte address o))
    (λ e. index_is_byte part.bytes (address - part.address) (All-head HasBytes part parts h))
    (λ e. found_is_byte address test parts (All-tail HasBytes part parts h))

page_in : (image : Image) (page : ℕ) → IsAccepted image → All IsByte (page_bytes image page)
page_in image page h = All-map IsByte (byte_at image) (run_of (4096 * page) 4096)
    (λ k d lt. found_is_byte _ _ image.parts h.bytes)

pub bytes_in : (image : Image) → IsAccepted image → All IsByte (image_bytes image)
bytes_in image h =
    All-append IsByte (flat_map (page_bytes image) (part_pages image)) (replicate (4096 * 16) 0)
    (All-flat_map IsByte (page_bytes image) (part_pages image)
    (λ k d lt. page_in image (slice_index_or (part_pages image) k d) h))
    (All-replicate IsByte (4096 * 16) 0 (omega arith))

-- pieces of the same length
length_of_pieces : {A : Type 0} (f : A → List ℕ) → ((x : A) → length (f x) ≡ 4096) → (xs : List A)
    → length (flat_map f xs) ≡ 4096 * length xs
length_of_pieces f each [] = refl
length_of_pieces f each (x ∷ xs) =
    omega (arith, length-append (f x) (flat_map f xs), each x, length_of_pieces f each xs)

pub bytes_length : (image : Image) → length (image_bytes image) ≡ 4096 * page_count image
bytes_length image =
    length_with_zeros (flat_map (page_bytes image) (part_pages image))
    (4096 * length (part_pages image)) (4096 * 16)
    (length_of_pieces (page_bytes image)
    (λ page. length-map (run_of (4096 * page) 4096) (byte_at image)
    ∙ length_run (4096 * page) 4096) (part_pages image))
    ∙ omega arith
