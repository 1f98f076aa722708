-- The pages joined into one list of bytes, by place. No lemma asks how long a page is.
use Rattle.std.proofs.Common.{◌≡◌, ℕ, zero, suc, ◌+◌, ◌-◌, ◌*◌, ◌<◌, ◌≤◌, List, [], ◌∷◌, ◌++◌}
use Rattle.std.proofs.Common.{length, get_or, set, take, drop, replicate, slice_get, Option, Some}
use Rattle.std.proofs.Common.{None, IsSome, All, refl, sym, ap, ◌∙◌, arith, length-append}
use Rattle.std.proofs.Common.{append_assoc, cond}
use Rattle.std.specs.Prelude.{Bool, true, false, slice_index_or}
use Rattle.std.proofs.lemmas.List.{get_or_append_left, drop_all, append-nil, get_or-append_right}
use Rattle.std.proofs.lemmas.List.{set-append_left, set-append_right, take-append-le}
use Rattle.std.proofs.lemmas.List.{drop-append-le, take_all, length-drop, length-set}
use Rattle.std.proofs.lemmas.List.{replicate-append-replicate, ext_get_or}
use Rattle.std.proofs.lemmas.Option.{slice_get-get_or}
use Rattle.std.proofs.lemmas.List.Elements.{All-head, All-tail}
use Rattle.std.proofs.Math.Seq.{drop-append_seam, drop-append-add, take-append-add}
use Rattle.std.proofs.Math.Seq.{take-append_seam}
use Rattle.dos_world.specs.Reach.{with_page, written, number_of}
use Rattle.dos_world.specs.World.{page_of}
use Rattle.dos_world.specs.Counts.{bytes_if_mapped}
use Rattle.dos_world.specs.declared.Owner.{Owner}
use Rattle.dos_world.specs.Kernel.{zero_page}
use Rattle.page_store.specs.Store.{whole, shown, joined, zeroed}
use Rattle.page_store.proofs.Pages.{length-whole, length-zero_page, written-splice}
use Rattle.page_store.proofs.Pages.{whole-zero_page, whole-none}

pub length-shown : (p : Option (List ℕ)) → length (shown p) ≡ 4096
length-shown None = length-whole []
length-shown (Some page) = length-whole page

pub length-joined : (ps : List (Option (List ℕ))) → length (joined ps) ≡ 4096 * length ps
unfolding joined
length-joined [] = refl
length-joined (p ∷ ps) = length-append (shown p) (joined ps)
    ∙ omega (arith, length-shown p, length-joined ps)

-- a byte of the one list is a byte of its page
pub joined_at : (ps : List (Option (List ℕ))) (f i k : ℕ) (p : Option (List ℕ))
    → slice_get ps f ≡ Some p → i < 4096 → k ≡ 4096 * f + i
    → get_or (joined ps) k 0 ≡ get_or (shown p) i 0
unfolding joined
joined_at [] f i k p e h q = cc
joined_at (o ∷ ps) zero i k p e h q =
    let is : o ≡ p = cc in
    let l : length (shown o) ≡ 4096 = length-shown o in
    let same : k ≡ i = omega arith in
    ap (λ n. get_or (shown o ++ joined ps) n 0) same
    ∙ get_or_append_left (shown o) (joined ps) 0 i (omega arith)
    ∙ ap (λ x. get_or (shown x) i 0) is
joined_at (o ∷ ps) (suc f) i k p e h q =
    get_or-append_right (shown o) (joined ps) 4096 k 0 (length-shown o) (omega arith)
    ∙ joined_at ps f i (k - 4096) p e h (omega arith)

-- a page set is that stretch replaced
joined-set_at : (ps : List (Option (List ℕ))) (f k m : ℕ) (p : Option (List ℕ)) → f < length ps
    → k ≡ 4096 * f → m ≡ 4096 * f + 4096
    → joined (set ps f p) ≡ (take k (joined ps) ++ shown p) ++ drop m (joined ps)
unfolding joined
joined-set_at [] f k m p h e q = absurd (omega arith)
joined-set_at (o ∷ ps) zero k m p h e q =
    let none : 0 ≡ k = omega arith in
    let one : length (shown o) ≡ m = omega (arith, length-shown o) in
    ap (λ xs. shown p ++ xs) (sym (drop-append_seam (shown o) (joined ps)))
    ∙ ap (λ n. shown p ++ drop n (shown o ++ joined ps)) one
    ∙ ap (λ n. (take n (shown o ++ joined ps) ++ shown p) ++ drop m (shown o ++ joined ps)) none
joined-set_at (o ∷ ps) (suc f) k m p h e q =
    let first : length (shown o) + 4096 * f ≡ k = omega (arith, length-shown o) in
    let last : length (shown o) + (4096 * f + 4096) ≡ m = omega (arith, length-shown o) in
    ap (λ xs. shown o ++ xs)
    (joined-set_at ps f (4096 * f) (4096 * f + 4096) p (omega arith) refl refl)
    ∙ regroup (shown o) (take (4096 * f) (joined ps)) (shown p) (drop (4096 * f + 4096) (joined ps))
    ∙ ap (λ xs. (xs ++ shown p) ++ drop (4096 * f + 4096) (joined ps))
    (sym (take-append-add (shown o) (joined ps) (4096 * f)))
    ∙ ap (λ n. (take n (shown o ++ joined ps) ++ shown p) ++ drop (4096 * f + 4096) (joined ps))
    first
    ∙ ap (λ xs. (take k (shown o ++ joined ps) ++ shown p) ++ xs)
    (sym (drop-append-add (shown o) (joined ps) (4096 * f + 4096)))
    ∙ ap (λ n. (take k (shown o ++ joined ps) ++ shown p) ++ drop n (shown o ++ joined ps)) last
  where
    regroup : (a b c d : List ℕ) → a ++ ((b ++ c) ++ d) ≡ ((a ++ b) ++ c) ++ d
    regroup a b c d = simp append_assoc

pub joined-set : (ps : List (Option (List ℕ))) (f : ℕ) (p : Option (List ℕ)) → f < length ps
    → joined (set ps f p) ≡ with_page (joined ps) f (shown p)
joined-set ps f p h = joined-set_at ps f (4096 * f) (4096 * f + 4096) p h refl refl

-- a page set with the same bytes changes nothing
pub joined-set_same : (ps : List (Option (List ℕ))) (f : ℕ) (p q : Option (List ℕ))
    → slice_get ps f ≡ Some p → shown q ≡ shown p → joined (set ps f q) ≡ joined ps
unfolding joined
joined-set_same [] f p q e h = cc
joined-set_same (o ∷ ps) zero p q e h =
    let is : p ≡ o = cc in
    ap (λ x. x ++ joined ps) (h ∙ ap shown is)
joined-set_same (o ∷ ps) (suc f) p q e h = ap (λ xs. shown o ++ xs) (joined-set_same ps f p q e h)

-- a page that was cleared shows zeros
pub shown-cleared : (page : Option (List ℕ)) → shown (zeroed page) ≡ zero_page
shown-cleared None = whole-none
shown-cleared (Some page) = whole-zero_page

-- the pages of frames that aren't mapped, cleared
pub joined-tidied : (mapped : ℕ → Bool) (n : ℕ) (owners : List Owner)
    (old new : List (Option (List ℕ))) → length new ≡ length old → length owners ≡ length old
    → ((i : ℕ) → i < length old → shown (slice_index_or new i None)
    ≡ cond (mapped (n + i)) (shown (slice_index_or old i None)) zero_page)
    → bytes_if_mapped mapped n owners (joined old) ≡ joined new
unfolding joined
joined-tidied mapped n [] [] [] count each pages = refl
joined-tidied mapped n [] [] (q ∷ new) count each pages = absurd (omega arith)
joined-tidied mapped n [] (p ∷ old) new count each pages = absurd (omega arith)
joined-tidied mapped n (owner ∷ owners) [] new count each pages = absurd (omega arith)
joined-tidied mapped n (owner ∷ owners) (p ∷ old) [] count each pages = absurd (omega arith)
joined-tidied mapped n (owner ∷ owners) (p ∷ old) (q ∷ new) count each pages =
    let size : length (shown p) ≡ 4096 = length-shown p in
    let none : n + 0 ≡ n = omega arith in
    let first : shown q ≡ cond (mapped n) (shown p) zero_page =
    pages 0 (omega arith) ∙ ap (λ m. cond (mapped m) (shown p) zero_page) none in
    ap (λ xs. cond (mapped n) xs zero_page
    ++ bytes_if_mapped mapped (suc n) owners (drop 4096 (shown p ++ joined old)))
    (ap (λ k. take k (shown p ++ joined old)) (sym size) ∙ take-append_seam (shown p) (joined old))
    ∙ ap (λ xs. cond (mapped n) (shown p) zero_page ++ bytes_if_mapped mapped (suc n) owners xs)
    (ap (λ k. drop k (shown p ++ joined old)) (sym size) ∙ drop-append_seam (shown p) (joined old))
    ∙ ap (λ xs. xs ++ bytes_if_mapped mapped (suc n) owners (joined old)) (sym first)
    ∙ ap (λ xs. shown q ++ xs)
    (joined-tidied mapped (suc n) owners old new (omega arith) (omega arith)
    (λ i lt. let next : n + suc i ≡ suc n + i = omega arith in
    pages (suc i) (omega arith)
    ∙ ap (λ m. cond (mapped m) (shown (slice_index_or old i None)) zero_page) next))

zero_at : (offset : ℕ) → get_or zero_page offset 0 ≡ 0
unfolding zero_page
zero_at offset = same 4096 offset
  where
    same : (n i : ℕ) → get_or {A = ℕ} (replicate n 0) i 0 ≡ 0
    same zero i = refl
    same (suc n) zero = refl
    same (suc n) (suc i) = same n i

-- a page whose bytes in the one list are 0 shows zeros
pub zeros-shown : (ps : List (Option (List ℕ))) (f : ℕ) → f < length ps
    → ((offset : ℕ) → offset < 4096 → get_or (joined ps) (4096 * f + offset) 0 ≡ 0)
    → shown (get_or ps f None) ≡ zero_page
zeros-shown ps f there zeros =
    ext_get_or 0 (shown (get_or ps f None)) zero_page
    (length-shown (get_or ps f None) ∙ sym length-zero_page)
    (λ i lt. let within : i < 4096 = omega (arith, lt, length-shown (get_or ps f None)) in
    sym (joined_at ps f i (4096 * f + i) (get_or ps f None) (slice_get-get_or ps f None there)
    within refl)
    ∙ zeros i within ∙ sym (zero_at i))

-- ---- stretches

-- bytes within a page are the same stretch of the one list
pub joined-stretch : (ps : List (Option (List ℕ))) (f o n k : ℕ) (p : Option (List ℕ))
    → slice_get ps f ≡ Some p → o + n ≤ 4096 → k ≡ 4096 * f + o
    → take n (drop k (joined ps)) ≡ take n (drop o (shown p))
unfolding joined
joined-stretch [] f o n k p e h q = cc
joined-stretch (x ∷ ps) zero o n k p e h q =
    let is : x ≡ p = cc in
    let same : k ≡ o = omega arith in
    let within : o ≤ length (shown x) = omega (arith, length-shown x) in
    let left : n ≤ length (drop o (shown x)) =
    omega (arith, length-shown x, length-drop o (shown x)) in
    ap (λ m. take n (drop m (shown x ++ joined ps))) same
    ∙ ap (take n) (drop-append-le o (shown x) (joined ps) within)
    ∙ take-append-le n (drop o (shown x)) (joined ps) left
    ∙ ap (λ y. take n (drop o (shown y))) is
joined-stretch (x ∷ ps) (suc f) o n k p e h q =
    let after : k ≡ length (shown x) + (k - 4096) = omega (arith, length-shown x) in
    ap (λ m. take n (drop m (shown x ++ joined ps))) after
    ∙ ap (take n) (drop-append-add (shown x) (joined ps) (k - 4096))
    ∙ joined-stretch ps f o n (k - 4096) p e h (omega arith)

-- a number loaded from a page is the one loaded from the one list
pub joined-number : (ps : List (Option (List ℕ))) (f o n k : ℕ) (p : Option (List ℕ))
    → slice_get ps f ≡ Some p → o + n ≤ 4096 → k ≡ 4096 * f + o
    → number_of (take n (drop k (joined ps))) ≡ number_of (take n (drop o (shown p)))
joined-number ps f o n k p e h q = ap number_of (joined-stretch ps f o n k p e h q)

-- the page of a frame in the one list is the page that it shows
pub page_of-joined : (ps : List (Option (List ℕ))) (f : ℕ) (p : Option (List ℕ))
    → slice_get ps f ≡ Some p → page_of (joined ps) f ≡ shown p
page_of-joined ps f p e = joined-stretch ps f 0 4096 (4096 * f) p e (omega arith) (omega arith)
    ∙ take_all 4096 (shown p) (omega (arith, length-shown p))

-- ---- writing

written-append_left : (xs ys : List ℕ) (o : ℕ) (new : List ℕ) → o + length new ≤ length xs
    → written (xs ++ ys) o new ≡ written xs o new ++ ys
written-append_left xs ys o [] h = refl
written-append_left xs ys o (b ∷ new) h =
    ap (λ zs. written zs (suc o) new) (set-append_left xs ys o b (omega arith))
    ∙ written-append_left (set xs o b) ys (suc o) new (omega (arith, length-set xs o b))

written-append_right : (xs ys : List ℕ) (n k : ℕ) (new : List ℕ) → length xs ≡ n → n ≤ k
    → written (xs ++ ys) k new ≡ xs ++ written ys (k - n) new
written-append_right xs ys n k [] e h = refl
written-append_right xs ys n k (b ∷ new) e h =
    let next : suc k - n ≡ suc (k - n) = omega arith in
    ap (λ zs. written zs (suc k) new) (set-append_right xs ys n k b e h)
    ∙ written-append_right xs (set ys (k - n) b) n (suc k) new e (omega arith)
    ∙ ap (λ m. xs ++ written (set ys (k - n) b) m new) next

-- what is written in a page is written in the one list
pub joined-written : (ps : List (Option (List ℕ))) (f o k : ℕ) (old new bytes : List ℕ)
    → slice_get ps f ≡ Some (Some old) → whole new ≡ written (whole old) o bytes
    → o + length bytes ≤ 4096 → k ≡ 4096 * f + o
    → joined (set ps f (Some new)) ≡ written (joined ps) k bytes
unfolding joined
joined-written [] f o k old new bytes e w h q = cc
joined-written (x ∷ ps) zero o k old new bytes e w h q =
    let is : x ≡ Some old = cc in
    let same : o ≡ k = omega arith in
    ap (λ y. y ++ joined ps) w ∙ ap (λ m. written (whole old) m bytes ++ joined ps) same
    ∙ ap (λ y. written (shown y) k bytes ++ joined ps) (sym is)
    ∙ sym (written-append_left (shown x) (joined ps) k bytes (omega (arith, length-shown x)))
joined-written (x ∷ ps) (suc f) o k old new bytes e w h q =
    ap (λ xs. shown x ++ xs) (joined-written ps f o (k - 4096) old new bytes e w h (omega arith))
    ∙ sym (written-append_right (shown x) (joined ps) 4096 k bytes (length-shown x)
    (omega arith))

-- as many bytes as there are replace all
pub written-whole : (xs new : List ℕ) → length new ≡ length xs → written xs 0 new ≡ new
written-whole xs new e =
    written-splice xs 0 new (omega arith)
    ∙ ap (λ ys. new ++ ys) (drop_all (0 + length new) xs (omega arith)) ∙ append-nil new

-- ---- all frames

-- frames that nothing was written in make zeros
pub joined-unused : (count : ℕ)
    → joined (replicate count (Some zero_page)) ≡ replicate (4096 * count) 0
unfolding joined zero_page
joined-unused zero = refl
joined-unused (suc n) =
    let more : 4096 + 4096 * n ≡ 4096 * suc n = omega arith in
    ap (λ xs. xs ++ joined (replicate n (Some zero_page))) whole-zero_page
    ∙ ap (λ xs. zero_page ++ xs) (joined-unused n)
    ∙ replicate-append-replicate 4096 (4096 * n) 0 ∙ ap (λ m. replicate m 0) more

-- where all are home, each is
pub home-at : (ps : List (Option (List ℕ))) (f : ℕ) → All IsSome ps → f < length ps
    → (page : List ℕ) × (slice_get ps f ≡ Some (Some page))
home-at [] f h l = absurd (omega arith)
home-at (None ∷ ps) zero h l = let never : false ≡ true = All-head IsSome None ps h in absurd (cc)
home-at (Some page ∷ ps) zero h l = (page, refl)
home-at (x ∷ ps) (suc f) h l = home-at ps f (All-tail IsSome x ps h) (omega arith)
