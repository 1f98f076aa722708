-- A Free frame is zero, and stays so: where bytes are written in a frame that isn't Free, where a
-- page is copied into one that is taken, and where frames that nothing maps are tidied.
use Rattle.std.proofs.Common.{ℕ, zero, suc, ◌+◌, ◌-◌, ◌*◌, ◌<◌, ◌≤◌, ◌≡◌, ◌≢◌, ◌⊎◌, inl, inr, refl}
use Rattle.std.proofs.Common.{sym, ap, ◌∙◌, Bool, true, false, cond, List, [], ◌∷◌, ◌++◌, length}
use Rattle.std.proofs.Common.{take, drop, arith, length-append}
use Rattle.std.specs.Prelude.{All, slice_set, slice_index_or}
use Rattle.std.proofs.lemmas.Bool.{cases_lt}
use Rattle.std.proofs.lemmas.List.{get_or-set_same, get_or-set_other, get_or-take, get_or-drop}
use Rattle.std.proofs.lemmas.List.{get_or_append_left, get_or-append_right, get_or-replicate}
use Rattle.std.proofs.lemmas.List.{length-take, length-drop, ext_get_or}
use Rattle.std.proofs.lemmas.List.Elements.{All-append, All-take, All-drop}
use Rattle.dos_world.specs.World.{World, owner_of, page_of}
use Rattle.dos_world.specs.Bytes.{written, with_page}
use Rattle.dos_world.specs.Counts.{bytes_if_mapped}
use Rattle.dos_world.specs.Kernel.{zero_page}
use Rattle.dos_world.specs.Lawful.{Lawful, IsByte}
use Rattle.dos_world.specs.declared.Owner.{Owner}
use Rattle.dos_world.specs.declared.Owner.TheVariants.{Free, Of}
use Rattle.flat_machine.proofs.Keeps.{Own}
use Rattle.dos_laws.proofs.StandsFrames.{zero_page_is, page_is}

-- each Free frame is zero
abbrev pub AreZero : List Owner → List ℕ → Type 0
AreZero owners bytes = (frame offset : ℕ) → slice_index_or owners frame Free ≡ Free → offset < 4096
    → slice_index_or bytes (4096 * frame + offset) 0 ≡ 0

-- ---- bytes that are written

written_other : (bytes : List ℕ) (place : ℕ) (new : List ℕ) (k : ℕ)
    → (k < place) ⊎ (place + length new ≤ k)
    → slice_index_or (written bytes place new) k 0 ≡ slice_index_or bytes k 0
written_other bytes place [] k other = refl
written_other bytes place (b ∷ new) k (inl below) =
    written_other (slice_set bytes place b) (suc place) new k (inl (omega arith))
    ∙ get_or-set_other bytes place k b 0 (λ e. omega arith)
written_other bytes place (b ∷ new) k (inr above) =
    written_other (slice_set bytes place b) (suc place) new k (inr (omega arith))
    ∙ get_or-set_other bytes place k b 0 (λ e. omega arith)

-- Bytes are written in a frame that is t's.
pub zeros_written : (w : World) (t place : ℕ) (new : List ℕ) → Own w t place (length new)
    → AreZero w.owners w.bytes → AreZero w.owners (written w.bytes place new)
zeros_written w t place new own zeros frame offset free within =
    written_other w.bytes place new (4096 * frame + offset) (by_order (cases_lt frame own.frame))
    ∙ zeros frame offset free within
  where
    other : frame ≢ own.frame
    other same = let both : Of t ≡ Free = sym own.owner ∙ ap (owner_of w) (sym same) ∙ free in cc

    by_order : (frame < own.frame) ⊎ (own.frame ≤ frame)
        → (4096 * frame + offset < place) ⊎ (place + length new ≤ 4096 * frame + offset)
    by_order (inl below) = inl (omega (arith, own.low, below, within))
    by_order (inr above) = inr (omega (arith, own.high, above, other))

-- ---- a page that is replaced

page_other : (bytes : List ℕ) (frame : ℕ) (page : List ℕ) → length page ≡ 4096
    → 4096 * frame + 4096 ≤ length bytes → (k : ℕ)
    → (k < 4096 * frame) ⊎ (4096 * frame + 4096 ≤ k)
    → slice_index_or (with_page bytes frame page) k 0 ≡ slice_index_or bytes k 0
page_other bytes frame page size fits k (inl below) =
    let front : length (take (4096 * frame) bytes) ≡ 4096 * frame =
    omega (arith, length-take (4096 * frame) bytes, fits) in
    get_or_append_left (take (4096 * frame) bytes ++ page) (drop (4096 * frame + 4096) bytes) 0 k
    (omega (arith, length-append (take (4096 * frame) bytes) page, front, below))
    ∙ get_or_append_left (take (4096 * frame) bytes) page 0 k (omega (arith, front, below))
    ∙ get_or-take (4096 * frame) bytes k 0 below
page_other bytes frame page size fits k (inr above) =
    let front : length (take (4096 * frame) bytes ++ page) ≡ 4096 * frame + 4096 =
    omega (
      arith,
      length-append (take (4096 * frame) bytes) page,
      length-take (4096 * frame) bytes,
      size,
      fits,
    ) in
    get_or-append_right (take (4096 * frame) bytes ++ page) (drop (4096 * frame + 4096) bytes)
    (4096 * frame + 4096) k 0 front above
    ∙ get_or-drop (4096 * frame + 4096) bytes (k - (4096 * frame + 4096)) 0
    ∙ ap (λ n. slice_index_or bytes n 0) (omega (arith, above))

-- ---- a frame that is taken

other_frame : (owners : List Owner) (frame t g : ℕ) → frame < length owners
    → slice_index_or (slice_set owners frame (Of t)) g Free ≡ Free → g ≢ frame
other_frame owners frame t g there free same =
    let both : Of t ≡ Free = sym (get_or-set_same owners frame (Of t) Free there)
    ∙ ap (λ n. slice_index_or (slice_set owners frame (Of t)) n Free) (sym same) ∙ free in
    cc

was_free : (owners : List Owner) (frame t g : ℕ) → g ≢ frame
    → slice_index_or (slice_set owners frame (Of t)) g Free ≡ Free
    → slice_index_or owners g Free ≡ Free
was_free owners frame t g other free =
    sym (get_or-set_other owners frame g (Of t) Free other) ∙ free

-- its bytes stay
pub zeros_taken : (owners : List Owner) (bytes : List ℕ) (frame t : ℕ) → frame < length owners
    → AreZero owners bytes → AreZero (slice_set owners frame (Of t)) bytes
zeros_taken owners bytes frame t there zeros g offset free within =
    zeros g offset (was_free owners frame t g (other_frame owners frame t g there free) free) within

-- its page is replaced
pub zeros_page : (owners : List Owner) (bytes : List ℕ) (frame t : ℕ) (page : List ℕ)
    → frame < length owners → length page ≡ 4096 → 4096 * frame + 4096 ≤ length bytes
    → AreZero owners bytes → AreZero (slice_set owners frame (Of t)) (with_page bytes frame page)
zeros_page owners bytes frame t page there size fits zeros g offset free within =
    let other = other_frame owners frame t g there free in
    page_other bytes frame page size fits (4096 * g + offset) (by_order other (cases_lt g frame))
    ∙ zeros g offset (was_free owners frame t g other free) within
  where
    by_order : g ≢ frame → (g < frame) ⊎ (frame ≤ g)
        → (4096 * g + offset < 4096 * frame) ⊎ (4096 * frame + 4096 ≤ 4096 * g + offset)
    by_order other (inl below) = inl (omega (arith, below, within))
    by_order other (inr above) = inr (omega (arith, above, other))

-- ---- frames that are tidied

zero_at : (offset : ℕ) → offset < 4096 → slice_index_or zero_page offset 0 ≡ 0
unfolding zero_page
zero_at offset within = get_or-replicate {A = ℕ} 4096 offset 0 0 within

-- so the page of a Free frame is a page of zeros
pub free_page : (w : World) (frame : ℕ) → Lawful w → frame < length w.owners
    → owner_of w frame ≡ Free → page_of w.bytes frame ≡ zero_page
free_page w frame l there free =
    let fits : 4096 * frame + 4096 ≤ length w.bytes = omega (arith, l.frames.bytes.0, there) in
    let page = page_is w.bytes frame fits l.frames.bytes.1 in
    ext_get_or 0 (page_of w.bytes frame) zero_page (page.0 ∙ sym zero_page_is.0)
    (λ i lt. let within : i < 4096 = omega (arith, lt, page.0) in
    get_or-take 4096 (drop (4096 * frame) w.bytes) i 0 within
    ∙ get_or-drop (4096 * frame) w.bytes i 0
    ∙ l.frames.zeros frame i free within ∙ sym (zero_at i within))

module _ (mapped : ℕ → Bool) where
  -- what stands for the first of the frames
  abbrev front : ℕ → List ℕ → List ℕ
  front n bytes = cond (mapped n) (take 4096 bytes) zero_page

  front_is : (n : ℕ) (bytes : List ℕ) → 4096 ≤ length bytes → length (front n bytes) ≡ 4096
  front_is n bytes fits = by_mapped (mapped n)
    where
      by_mapped : (b : Bool) → length (cond b (take 4096 bytes) zero_page) ≡ 4096
      by_mapped true = omega (arith, length-take 4096 bytes, fits)
      by_mapped false = zero_page_is.0

  pub length-tidied : (n : ℕ) (owners : List Owner) (bytes : List ℕ)
      → length bytes ≡ 4096 * length owners
      → length (bytes_if_mapped mapped n owners bytes) ≡ length bytes
  length-tidied n [] bytes count = refl
  length-tidied n (owner ∷ owners) bytes count =
      let rest : length (drop 4096 bytes) ≡ 4096 * length owners =
      omega (arith, length-drop 4096 bytes, count) in
      omega (
        arith,
        length-append (front n bytes) (bytes_if_mapped mapped (suc n) owners (drop 4096 bytes)),
        front_is n bytes (omega (arith, count)),
        length-tidied (suc n) owners (drop 4096 bytes) rest,
        length-drop 4096 bytes,
        count,
      )

  pub tidied_bytes : (n : ℕ) (owners : List Owner) (bytes : List ℕ) → All IsByte bytes
      → All IsByte (bytes_if_mapped mapped n owners bytes)
  tidied_bytes n [] bytes all = all
  tidied_bytes n (owner ∷ owners) bytes all =
      All-append IsByte (front n bytes) (bytes_if_mapped mapped (suc n) owners (drop 4096 bytes))
      (by_mapped (mapped n))
      (tidied_bytes (suc n) owners (drop 4096 bytes) (All-drop IsByte 4096 bytes all))
    where
      by_mapped : (b : Bool) → All IsByte (cond b (take 4096 bytes) zero_page)
      by_mapped true = All-take IsByte 4096 bytes all
      by_mapped false = zero_page_is.1

  -- a byte of a frame that is mapped stays, and one of another is 0
  pub tidied_at : (n : ℕ) (owners : List Owner) (bytes : List ℕ)
      → length bytes ≡ 4096 * length owners → (frame offset : ℕ) → frame < length owners
      → offset < 4096
      → slice_index_or (bytes_if_mapped mapped n owners bytes) (4096 * frame + offset) 0
      ≡ cond (mapped (n + frame)) (slice_index_or bytes (4096 * frame + offset) 0) 0
  tidied_at n [] bytes count frame offset there within = absurd (omega arith)
  tidied_at n (owner ∷ owners) bytes count zero offset there within =
      let fits : 4096 ≤ length bytes = omega (arith, count) in
      let here : 4096 * 0 + offset ≡ offset = omega arith in
      let first : n ≡ n + 0 = omega arith in
      ap (λ k. slice_index_or (bytes_if_mapped mapped n (owner ∷ owners) bytes) k 0) here
      ∙ get_or_append_left (front n bytes)
      (bytes_if_mapped mapped (suc n) owners (drop 4096 bytes)) 0 offset
      (omega (arith, front_is n bytes fits, within))
      ∙ by_mapped (mapped n)
      ∙ ap (λ k. cond (mapped n) (slice_index_or bytes k 0) 0) (sym here)
      ∙ ap (λ m. cond (mapped m) (slice_index_or bytes (4096 * 0 + offset) 0) 0) first
    where
      by_mapped : (b : Bool) → slice_index_or (cond b (take 4096 bytes) zero_page) offset 0
          ≡ cond b (slice_index_or bytes offset 0) 0
      by_mapped true = get_or-take 4096 bytes offset 0 within
      by_mapped false = zero_at offset within
  tidied_at n (owner ∷ owners) bytes count (suc frame) offset there within =
      let fits : 4096 ≤ length bytes = omega (arith, count) in
      let next : 4096 * suc frame + offset - 4096 ≡ 4096 * frame + offset = omega arith in
      let number : suc n + frame ≡ n + suc frame = omega arith in
      let back : 4096 + (4096 * frame + offset) ≡ 4096 * suc frame + offset = omega arith in
      get_or-append_right (front n bytes)
      (bytes_if_mapped mapped (suc n) owners (drop 4096 bytes)) 4096
      (4096 * suc frame + offset) 0 (front_is n bytes fits) (omega arith)
      ∙ ap (λ k. slice_index_or (bytes_if_mapped mapped (suc n) owners (drop 4096 bytes)) k 0) next
      ∙ tidied_at (suc n) owners (drop 4096 bytes) (omega (arith, length-drop 4096 bytes, count))
      frame offset (omega (arith, there)) within
      ∙ ap (λ m. cond (mapped m)
      (slice_index_or (drop 4096 bytes) (4096 * frame + offset) 0) 0) number
      ∙ ap (λ b. cond (mapped (n + suc frame)) b 0)
      (get_or-drop 4096 bytes (4096 * frame + offset) 0
      ∙ ap (λ k. slice_index_or bytes k 0) back)
