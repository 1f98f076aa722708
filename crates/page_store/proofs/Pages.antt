-- Pages by their bytes.
use Rattle.std.proofs.Common.{◌≡◌, ℕ, suc, ◌+◌, ◌*◌, ◌^◌, ◌<◌, ◌≤◌, List, [], ◌∷◌, ◌++◌, length}
use Rattle.std.proofs.Common.{get_or, set, take, drop, replicate, refl, sym, ap, ◌∙◌, arith}
use Rattle.std.proofs.Common.{length-append, append_assoc, length-set}
use Rattle.std.proofs.lemmas.List.{length-replicate, length-take, take-append-drop, take_more_set}
use Rattle.std.proofs.lemmas.List.{take_all}
use Rattle.std.proofs.lemmas.List.{drop-set-lt, drop-drop, drop_more}
use borrow.Rule.Slice.PartMut.{put_mid}
use Rattle.std.proofs.Math.Seq.{take-append_seam}
use Rattle.dos_world.specs.Kernel.{zero_page}
use Rattle.dos_world.specs.Reach.{written, number_of}
use Rattle.page_store.specs.Store.{whole}

pub whole-same : (page : List ℕ) → length page ≡ 4096 → whole page ≡ page
unfolding whole
whole-same page e = ap (λ n. take n (page ++ replicate 4096 0)) (sym e)
    ∙ take-append_seam page (replicate 4096 0)

pub zero_page-is : (page : List ℕ) → page ≡ replicate 4096 0 → page ≡ zero_page
unfolding zero_page
zero_page-is page e = e

pub length-zero_page : length zero_page ≡ 4096
unfolding zero_page
length-zero_page = length-replicate {A = ℕ} 4096 0

pub whole-zero_page : whole zero_page ≡ zero_page
whole-zero_page = whole-same zero_page length-zero_page

-- no page shows zeros
pub whole-none : whole [] ≡ zero_page
unfolding whole zero_page
whole-none = take_all 4096 (replicate 4096 0) (omega (arith, length-replicate {A = ℕ} 4096 0))

pub length-whole : (page : List ℕ) → length (whole page) ≡ 4096
unfolding whole
length-whole page = length-take {A = ℕ} 4096 (page ++ replicate 4096 0)
    ∙ omega (arith, length-append page (replicate 4096 0), length-replicate {A = ℕ} 4096 0)

pub length-written : (xs : List ℕ) (o : ℕ) (new : List ℕ) → length (written xs o new) ≡ length xs
length-written xs o [] = refl
length-written xs o (b ∷ new) = length-written (set xs o b) (suc o) new ∙ length-set xs o b

-- what is written takes the place of as many bytes
pub written-splice : (xs : List ℕ) (o : ℕ) (new : List ℕ) → o + length new ≤ length xs
    → written xs o new ≡ take o xs ++ (new ++ drop (o + length new) xs)
written-splice xs o [] h = let here : o ≡ o + 0 = omega arith in
    sym (take-append-drop o xs) ∙ ap (λ n. take o xs ++ drop n xs) here
written-splice xs o (b ∷ new) h =
    let within : suc o + length new ≤ length (set xs o b) = omega (arith, length-set xs o b) in
    let next : suc o ≡ o + 1 = omega arith in
    let last : suc o + length new ≡ o + suc (length new) = omega arith in
    let front : take (suc o) (set xs o b) ≡ take o xs ++ b ∷ [] = ap (λ n. take n (set xs o b)) next
    ∙ take_more_set xs o b (omega arith) in
    let back : drop (suc o + length new) (set xs o b) ≡ drop (o + suc (length new)) xs =
    drop-set-lt (suc o + length new) xs o b (omega arith) ∙ ap (λ n. drop n xs) last in
    written-splice (set xs o b) (suc o) new within
    ∙ ap (λ ys. ys ++ (new ++ drop (suc o + length new) (set xs o b))) front
    ∙ ap (λ ys. (take o xs ++ b ∷ []) ++ (new ++ ys)) back
    ∙ append_assoc (take o xs) (b ∷ []) (new ++ drop (o + suc (length new)) xs)

-- a copy into a stretch of a page writes it
pub written-put_mid : (page xs mid new : List ℕ) (o k : ℕ) → length page ≡ 4096 → xs ≡ page
    → mid ≡ new → k ≡ length new → o + length new ≤ 4096
    → whole (put_mid o k xs mid) ≡ written (whole page) o new
written-put_mid page xs mid new o k l e m c h =
    let cut : o + k ≡ o + length new = omega arith in
    let same : put_mid o k xs mid ≡ written page o new =
    ap (λ ys. put_mid o k ys mid) e ∙ ap (λ ys. put_mid o k page ys) m
    ∙ ap (λ ys. take o page ++ (new ++ ys)) (drop-drop k o page)
    ∙ ap (λ n. take o page ++ (new ++ drop n page)) cut
    ∙ sym (written-splice page o new (omega arith)) in
    whole-same (put_mid o k xs mid) (ap length same ∙ length-written page o new ∙ l) ∙ same
    ∙ ap (λ ys. written ys o new) (sym (whole-same page l))

-- the low byte first, and then the others
pub number_more : (xs : List ℕ) (o n k : ℕ) → o < length xs → n ≡ o + 1
    → number_of (take (suc k) (drop o xs)) ≡ get_or xs o 0 + 256 * number_of (take k (drop n xs))
number_more xs o n k h e =
    ap (λ ys. number_of (take (suc k) ys)) (drop_more xs o 0 h)
    ∙ ap (λ m. get_or xs o 0 + 256 * number_of (take k (drop m xs))) (sym e)

-- what a read of one, two or four bytes gives
pub byte-at : (page : List ℕ) (o v : ℕ) → length page ≡ 4096 → o + 1 ≤ 4096 → v ≡ get_or page o 0
    → v ≡ number_of (take 1 (drop o (whole page)))
byte-at page o v l h e = e ∙ ap (λ ys. get_or ys o 0) (sym (whole-same page l))
    ∙ omega (arith, number_more (whole page) o (o + 1) 0 (omega (arith, length-whole page)) refl)

pub half-at : (page : List ℕ) (o v : ℕ) → length page ≡ 4096 → o + 2 ≤ 4096
    → v ≡ get_or page o 0 + get_or page (o + 1) 0 * 256
    → v ≡ number_of (take 2 (drop o (whole page)))
half-at page o v l h e = e
    ∙ ap (λ ys. get_or ys o 0 + get_or ys (o + 1) 0 * 256) (sym (whole-same page l))
    ∙ omega (
      arith,
      number_more (whole page) o (o + 1) 1 (omega (arith, length-whole page)) refl,
      number_more (whole page) (o + 1) (o + 2) 0 (omega (arith, length-whole page)) (omega arith),
    )

pub word-at : (page : List ℕ) (o v : ℕ) → length page ≡ 4096 → o + 4 ≤ 4096
    → v ≡ get_or page o 0 + get_or page (o + 1) 0 * 2 ^ 8 + get_or page
    (o + 2) 0 * 2 ^ 16 + get_or page (o + 3) 0 * 2 ^ 24
    → v ≡ number_of (take 4 (drop o (whole page)))
word-at page o v l h e = e
    ∙ ap (λ ys. get_or ys o 0 + get_or ys (o + 1) 0 * 2 ^ 8 + get_or ys
    (o + 2) 0 * 2 ^ 16 + get_or ys (o + 3) 0 * 2 ^ 24) (sym (whole-same page l))
    ∙ omega (
      arith,
      number_more (whole page) o (o + 1) 3 (omega (arith, length-whole page)) refl,
      number_more (whole page) (o + 1) (o + 2) 2 (omega (arith, length-whole page)) (omega arith),
      number_more (whole page) (o + 2) (o + 3) 1 (omega (arith, length-whole page)) (omega arith),
      number_more (whole page) (o + 3) (o + 4) 0 (omega (arith, length-whole page)) (omega arith),
    )
