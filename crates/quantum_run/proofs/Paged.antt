-- Pages that show given bytes, each the old one where it shows them; and numbers in a page or in
-- four bytes of it.
use Rattle.std.proofs.Common.{ℕ, zero, suc, ◌+◌, ◌-◌, ◌*◌, ◌/◌, ◌%◌, ◌<◌, ◌≤◌, ◌≡◌, ◌⊎◌, inl, inr}
use Rattle.std.proofs.Common.{refl, sym, ap, ◌∙◌, subst, cond, Bool, true, false, List, [], ◌∷◌}
use Rattle.std.proofs.Common.{◌++◌}
use Rattle.std.proofs.Common.{length, length-set, set, take, drop, Option, Some, None, arith}
use Rattle.std.specs.Prelude.{All, IsSome, is_some, slice_get, slice_index, slice_set}
use Rattle.std.specs.Str.{bytes_eq}
use Rattle.std.proofs.lemmas.Bool.{cases_lt}
use Rattle.std.proofs.lemmas.List.{drop-drop, length-take, length-drop}
use Rattle.std.proofs.lemmas.List.{get_or-drop, get_or-set_other, get_or-set_same, get_or-take}
use Rattle.std.proofs.lemmas.List.{get_or_past}
use Rattle.std.proofs.lemmas.Slice.Eq.{bytes_eq-Decides}
use borrow.Rule.Slice.PartMut.{put_mid}
use Rattle.dos_world.specs.Bytes.{written}
use Rattle.dos_world.specs.Reach.{number_of, width}
use Rattle.dos_world.specs.World.{page_of}
use Rattle.dos_world.specs.declared.Size.{Size}
use Rattle.code_pages.specs.Lines.{AreSameIn}
use Rattle.page_store.specs.Store.{joined, number_at, shown, whole}
use Rattle.page_store.proofs.Joined.{home-at, joined-stretch, page_of-joined}
use Rattle.page_store.proofs.Pages.{length-written, whole-same, written-splice}
use Rattle.written_words.specs.declared.Written.{Written}
use Rattle.written_words.specs.Words.{words_put}
use Rattle.written_words.proofs.Storing.{fits-word}
use Rattle.quantum_run.specs.Buffering.{page_with, pages_read, pages_with}
use Rattle.quantum_run.specs.Reading.{count-read, length-taken, read-joined}
use Rattle.quantum_run.specs.Pages.{Writes, is_here}
use Rattle.quantum_run.proofs.Overlay.{here-within}

Some-same : {A : Type 0} {x y : A} → ◌≡◌ {A = Option A} (Some x) (Some y) → x ≡ y
Some-same h = cc

-- ---- what is written, in a stretch and beside it

take-set : (n j b : ℕ) (bytes : List ℕ) → take n (set bytes j b) ≡ set (take n bytes) j b
take-set zero j b bytes = refl
take-set (suc n) j b [] = refl
take-set (suc n) zero b (x ∷ bytes) = refl
take-set (suc n) (suc j) b (x ∷ bytes) = ap (λ ys. x ∷ ys) (take-set n j b bytes)

take-written : (n o : ℕ) (bytes new : List ℕ)
    → take n (written bytes o new) ≡ written (take n bytes) o new
take-written n o bytes [] = refl
take-written n o bytes (b ∷ new) =
    take-written n (suc o) (set bytes o b) new
    ∙ ap (λ (ys : List ℕ). written ys (suc o) new) (take-set n o b bytes)

set-past : (j b : ℕ) (bytes : List ℕ) → length bytes ≤ j → set bytes j b ≡ bytes
set-past j b [] h = refl
set-past zero b (x ∷ bytes) h = absurd (omega (arith, h))
set-past (suc j) b (x ∷ bytes) h = ap (λ ys. x ∷ ys) (set-past j b bytes (omega (arith, h)))

written-past : (o : ℕ) (bytes new : List ℕ) → length bytes ≤ o → written bytes o new ≡ bytes
written-past o bytes [] h = refl
written-past o bytes (b ∷ new) h =
    ap (λ (ys : List ℕ). written ys (suc o) new) (set-past o b bytes h)
    ∙ written-past (suc o) bytes new (omega (arith, h))

drop-set : (n j b : ℕ) (bytes : List ℕ) → drop n (set bytes (n + j) b) ≡ set (drop n bytes) j b
drop-set zero j b bytes = let none : 0 + j ≡ j = omega arith in ap (λ k. set bytes k b) none
drop-set (suc n) j b [] = refl
drop-set (suc n) j b (x ∷ bytes) =
    let more : suc n + j ≡ suc (n + j) = omega arith in
    ap (λ k. drop (suc n) (set (x ∷ bytes) k b)) more ∙ drop-set n j b bytes

drop-written : (n j : ℕ) (bytes new : List ℕ)
    → drop n (written bytes (n + j) new) ≡ written (drop n bytes) j new
drop-written n j bytes [] = refl
drop-written n j bytes (b ∷ new) =
    let next : suc (n + j) ≡ n + suc j = omega arith in
    ap (λ k. drop n (written (set bytes (n + j) b) k new)) next
    ∙ drop-written n (suc j) (set bytes (n + j) b) new
    ∙ ap (λ (ys : List ℕ). written ys (suc j) new) (drop-set n j b bytes)

drop-set-below : (n j b : ℕ) (bytes : List ℕ) → j < n → drop n (set bytes j b) ≡ drop n bytes
drop-set-below zero j b bytes h = absurd (omega (arith, h))
drop-set-below (suc n) j b [] h = refl
drop-set-below (suc n) zero b (x ∷ bytes) h = refl
drop-set-below (suc n) (suc j) b (x ∷ bytes) h = drop-set-below n j b bytes (omega (arith, h))

drop-written-below : (n o : ℕ) (bytes new : List ℕ) → o + length new ≤ n
    → drop n (written bytes o new) ≡ drop n bytes
drop-written-below n o bytes [] h = refl
drop-written-below n o bytes (b ∷ new) h =
    drop-written-below n (suc o) (set bytes o b) new (omega (arith, h))
    ∙ drop-set-below n o b bytes (omega (arith, h))

-- a copy into a stretch writes it
pub put-is-written : (xs mid new : List ℕ) (o k : ℕ) → mid ≡ new → k ≡ length new
    → o + length new ≤ length xs → put_mid o k xs mid ≡ written xs o new
put-is-written xs mid new o k is count fits =
    let cut : o + k ≡ o + length new = omega (arith, count) in
    ap (λ ys. put_mid o k xs ys) is
    ∙ ap (λ ys. take o xs ++ (new ++ ys)) (drop-drop k o xs)
    ∙ ap (λ n. take o xs ++ (new ++ drop n xs)) cut
    ∙ sym (written-splice xs o new fits)

-- a byte beside those that are written
byte-beside : (xs : List ℕ) (p : ℕ) (new : List ℕ) (i : ℕ) → (i < p) ⊎ (p + length new ≤ i)
    → slice_index (written xs p new) i ≡ slice_index xs i
byte-beside xs p [] i out = refl
byte-beside xs p (b ∷ new) i (inl h) =
    byte-beside (set xs p b) (suc p) new i (inl (omega (arith, h)))
    ∙ get_or-set_other xs p i b 0 (λ e. omega (arith, h, e))
byte-beside xs p (b ∷ new) i (inr h) =
    byte-beside (set xs p b) (suc p) new i (inr (omega (arith, h)))
    ∙ get_or-set_other xs p i b 0 (λ e. omega (arith, h, e))

-- and one of them
byte-written : (xs : List ℕ) (p : ℕ) (new : List ℕ) (i j : ℕ) → i ≡ p + j → j < length new
    → i < length xs → slice_index (written xs p new) i ≡ slice_index new j
byte-written xs p [] i j is h within = absurd (omega (arith, h))
byte-written xs p (b ∷ new) i zero is h within =
    byte-beside (set xs p b) (suc p) new i (inl (omega (arith, is)))
    ∙ ap (λ (k : ℕ). slice_index (set xs p b) k) first
    ∙ get_or-set_same xs p b 0 (omega (arith, first, within))
  where
    first : i ≡ p
    first = omega (arith, is)
byte-written xs p (b ∷ new) i (suc j) is h within =
    byte-written (set xs p b) (suc p) new i j (omega (arith, is)) (omega (arith, h))
    (omega (arith, within, length-set xs p b))

-- ---- one page

-- the page that shows these bytes
record IsPageWith (page bytes : List ℕ) : Type 0 where
  own : List ℕ
  is : page_with (Some page) bytes ≡ Some own
  shows : whole own ≡ bytes

page-with : (page bytes : List ℕ) → length bytes ≡ 4096 → IsPageWith page bytes
page-with page bytes count = by_test (bytes_eq (whole page) bytes) refl
  where
    by_test : (b : Bool) → bytes_eq (whole page) bytes ≡ b → IsPageWith page bytes
    by_test true q = record {
      own = page;
      is = ap (λ (c : Bool). cond c (Some page) (Some bytes)) q;
      shows = (bytes_eq-Decides (whole page) bytes).0 q;
    }
    by_test false q = record {
      own = bytes;
      is = ap (λ (c : Bool). cond c (Some page) (Some bytes)) q;
      shows = whole-same bytes count;
    }

same-with : (page : Option (List ℕ)) (bytes : List ℕ) → bytes ≡ shown page
    → page_with page bytes ≡ page
same-with page bytes is =
    ap (λ (c : Bool). cond c page (Some bytes)) ((bytes_eq-Decides (shown page) bytes).1 (sym is))

-- ---- all pages

pub length-with : (pages : List (Option (List ℕ))) (bytes : List ℕ)
    → length (pages_with pages bytes) ≡ length pages
unfolding pages_with
length-with [] bytes = refl
length-with (page ∷ pages) bytes = ap suc (length-with pages (drop 4096 bytes))

later-page : (bytes : List ℕ) (f : ℕ) → page_of (drop 4096 bytes) f ≡ page_of bytes (suc f)
later-page bytes f =
    let place : 4096 + 4096 * f ≡ 4096 * suc f = omega arith in
    ap (take 4096) (drop-drop (4096 * f) 4096 bytes ∙ ap (λ k. drop k bytes) place)

pub with-at : (pages : List (Option (List ℕ))) (bytes : List ℕ) (f : ℕ) (page : Option (List ℕ))
    → slice_get pages f ≡ Some page
    → slice_get (pages_with pages bytes) f ≡ Some (page_with page (page_of bytes f))
unfolding pages_with
with-at [] bytes f page h = cc
with-at (x ∷ pages) bytes zero page h =
    let same : x ≡ page = cc in
    ap (λ y. Some (page_with y (take 4096 bytes))) same
with-at (x ∷ pages) bytes (suc f) page h =
    with-at pages (drop 4096 bytes) f page h
    ∙ ap (λ ys. Some (page_with page ys)) (later-page bytes f)

pub with-written : (pages : List (Option (List ℕ))) (bytes : List ℕ) (f o k : ℕ) (new : List ℕ)
    (page : Option (List ℕ)) → slice_get pages f ≡ Some page → o + length new ≤ 4096
    → k ≡ 4096 * f + o → pages_with pages (written bytes k new)
    ≡ slice_set (pages_with pages bytes) f (page_with page (written (page_of bytes f) o new))
unfolding pages_with
with-written [] bytes f o k new page h fits at = cc
with-written (x ∷ pages) bytes zero o k new page h fits at =
    let same : x ≡ page = cc in
    let front : k ≡ o = omega (arith, at) in
    ap (λ n. page_with x (take 4096 (written bytes n new))
    ∷ pages_with pages (drop 4096 (written bytes n new))) front
    ∙ ap (λ ys. page_with x ys ∷ pages_with pages (drop 4096 (written bytes o new)))
    (take-written 4096 o bytes new)
    ∙ ap (λ ys. page_with x (written (take 4096 bytes) o new) ∷ pages_with pages ys)
    (drop-written-below 4096 o bytes new fits)
    ∙ ap (λ y. page_with y (written (take 4096 bytes) o new)
    ∷ pages_with pages (drop 4096 bytes)) same
with-written (x ∷ pages) bytes (suc f) o k new page h fits at =
    let beside : length (take 4096 bytes) ≤ k = omega (arith, at, length-take 4096 bytes) in
    let later : k ≡ 4096 + (4096 * f + o) = omega (arith, at) in
    ap (λ ys. page_with x ys ∷ pages_with pages (drop 4096 (written bytes k new)))
    (take-written 4096 k bytes new ∙ written-past k (take 4096 bytes) new beside)
    ∙ ap (λ ys. page_with x (take 4096 bytes) ∷ pages_with pages ys)
    (ap (λ n. drop 4096 (written bytes n new)) later
    ∙ drop-written 4096 (4096 * f + o) bytes new)
    ∙ ap (λ ys. page_with x (take 4096 bytes) ∷ ys)
    (with-written pages (drop 4096 bytes) f o (4096 * f + o) new page h fits refl
    ∙ ap (λ ys. slice_set (pages_with pages (drop 4096 bytes)) f
    (page_with page (written ys o new))) (later-page bytes f))

-- a page that is home with some of its bytes written
pub writes-with : (pages : List (Option (List ℕ))) (bytes after : List ℕ) (f o : ℕ)
    (new page : List ℕ) → slice_get pages f ≡ Some (Some page) → o + length new ≤ 4096
    → f < length pages → length bytes ≡ 4096 * length pages
    → after ≡ written bytes (4096 * f + o) new
    → Writes (pages_with pages bytes) (pages_with pages after) f o new
writes-with pages bytes after f o new page home fits inside count is =
    let own = page_of bytes f in
    let size : length own ≡ 4096 =
    length-taken 4096 (drop (4096 * f) bytes)
    (omega (arith, inside, count, length-drop (4096 * f) bytes)) in
    let old = page-with page own size in
    let later = page-with page (written own o new) (length-written own o new ∙ size) in
    record {
      before = old.own;
      after = later.own;
      was = with-at pages bytes f (Some page) home ∙ ap Some old.is;
      is = later.shows ∙ ap (λ (ys : List ℕ). written ys o new) (sym old.shows);
      pages =
          ap (pages_with pages) is
          ∙ with-written pages bytes f o (4096 * f + o) new (Some page) home fits refl
          ∙ ap (λ y. slice_set (pages_with pages bytes) f y) later.is;
    }

-- ---- with words put in

-- as many pages
pub read-within : (pages : List (Option (List ℕ))) (words : List Written) (f : ℕ)
    → is_here (pages_read pages words) f ≡ true → f < length pages
read-within pages words f here =
    subst (λ (n : ℕ). f < n) (length-with pages (words_put (joined pages) words))
    (here-within (pages_read pages words) f here)

-- a page without words
pub read-same : (pages : List (Option (List ℕ))) (words : List Written) (f : ℕ) (page : List ℕ)
    → slice_get pages f ≡ Some (Some page)
    → page_of (words_put (joined pages) words) f ≡ page_of (joined pages) f
    → slice_get (pages_read pages words) f ≡ Some (Some page)
read-same pages words f page home same =
    with-at pages (words_put (joined pages) words) f (Some page) home
    ∙ ap Some (same-with (Some page) (page_of (words_put (joined pages) words) f)
    (same ∙ page_of-joined pages f (Some page) home))

-- the bytes of a frame's page that is read
pub read-page : (pages : List (Option (List ℕ))) (words : List Written) (f : ℕ) (page : List ℕ)
    → slice_get (pages_read pages words) f ≡ Some (Some page) → All IsSome pages
    → whole page ≡ page_of (words_put (joined pages) words) f
read-page pages words f page there all =
    let bytes = words_put (joined pages) words in
    let inside = read-within pages words f (ap (λ (p : Option (Option (List ℕ))).
    elim p [ None ↦ false | Some q ↦ is_some q ]) there) in
    let home = home-at pages f all inside in
    let size : length (page_of bytes f) ≡ 4096 =
    length-taken 4096 (drop (4096 * f) bytes)
    (omega (arith, inside, count-read pages words, length-drop (4096 * f) bytes)) in
    let own = page-with home.0 (page_of bytes f) size in
    let same : own.own ≡ page = Some-same (Some-same (ap Some (sym own.is)
    ∙ sym (with-at pages bytes f (Some home.0) home.1) ∙ there)) in
    ap whole (sym same) ∙ own.shows

-- A page has the bytes of a frame as they are read, from a word on up to another.
pub record IsReadUpTo (page flat : List ℕ) (f first number : ℕ) : Type 0 where
  pub count : length page ≡ 4096
  pub bytes : (i : ℕ) → 4 * first ≤ i → i < 4 * number
      → slice_index page i ≡ slice_index flat (4096 * f + i)

-- one word more
pub read-more : (page new bytes word : List ℕ) (f first number : ℕ)
    → number < 1024 → 4096 * f + 4 * number + 4 ≤ length bytes
    → word ≡ take 4 (drop (4096 * f + 4 * number) bytes) → new ≡ written page (4 * number) word
    → IsReadUpTo page bytes f first number → IsReadUpTo new bytes f first (number + 1)
read-more page new bytes word f first number small room is put so_far = record {
  count = ap length put ∙ length-written page (4 * number) word ∙ so_far.count;
  bytes = λ i low high. ap (λ (xs : List ℕ). slice_index xs i) put
      ∙ by_place i low high (cases_lt i (4 * number));
}
  where
    start : ℕ
    start = 4096 * f + 4 * number

    count : length word ≡ 4
    count = ap length is ∙ length-taken 4 (drop start bytes)
        (omega (arith, room, length-drop start bytes))

    by_place : (i : ℕ) → 4 * first ≤ i → i < 4 * (number + 1)
        → (i < 4 * number) ⊎ (4 * number ≤ i)
        → slice_index (written page (4 * number) word) i ≡ slice_index bytes (4096 * f + i)
    by_place i low high (inl h) =
        byte-beside page (4 * number) word i (inl h) ∙ so_far.bytes i low h
    by_place i low high (inr h) =
        let j : ℕ = i - 4 * number in
        let at : i ≡ 4 * number + j = omega (arith, h) in
        let place : start + j ≡ 4096 * f + i = omega (arith, at) in
        byte-written page (4 * number) word i j at (omega (arith, at, high, count))
        (omega (arith, so_far.count, high, small))
        ∙ ap (λ (xs : List ℕ). slice_index xs j) is
        ∙ get_or-take 4 (drop start bytes) j 0 (omega (arith, at, high))
        ∙ get_or-drop start bytes j 0
        ∙ ap (λ (k : ℕ). slice_index bytes k) place

-- a block of it, and the halfword behind that
pub read-block : (page other bytes : List ℕ) (f block number : ℕ) → other ≡ page_of bytes f
    → length other ≡ 4096 → (64 * block + 65 ≤ number) ⊎ (1024 ≤ number)
    → IsReadUpTo page bytes f (64 * block) number
    → AreSameIn (256 * block) (256 * block + 258) page other
read-block page other bytes f block number is count reach read i low high =
    by_place (cases_lt i 4096)
  where
    by_reach : (64 * block + 65 ≤ number) ⊎ (1024 ≤ number) → i < 4096 → i < 4 * number
    by_reach (inl h) within = omega (arith, h, high)
    by_reach (inr h) within = omega (arith, h, within)

    by_place : (i < 4096) ⊎ (4096 ≤ i) → slice_index page i ≡ slice_index other i
    by_place (inl h) =
        read.bytes i (omega (arith, low)) (by_reach reach h)
        ∙ sym (ap (λ (xs : List ℕ). slice_index xs i) is
        ∙ get_or-take 4096 (drop (4096 * f) bytes) i 0 h
        ∙ get_or-drop (4096 * f) bytes i 0)
    by_place (inr h) = get_or_past page i 0 (omega (arith, read.count, h))
        ∙ sym (get_or_past other i 0 (omega (arith, count, h)))

-- ---- numbers

inside-of : (n first count : ℕ) (xs : List ℕ) → first + count ≤ n
    → take count (drop first (take n xs)) ≡ take count (drop first xs)
inside-of zero zero zero xs h = refl
inside-of zero zero (suc count) xs h = absurd (omega (arith, h))
inside-of zero (suc first) count xs h = absurd (omega (arith, h))
inside-of (suc n) zero zero xs h = refl
inside-of (suc n) zero (suc count) [] h = refl
inside-of (suc n) zero (suc count) (x ∷ xs) h =
    ap (λ ys. x ∷ ys) (inside-of n zero count xs (omega (arith, h)))
inside-of (suc n) (suc first) count [] h = refl
inside-of (suc n) (suc first) count (x ∷ xs) h =
    inside-of n first count xs (omega (arith, h))

-- a number in four bytes is the one at its place among the bytes that are read
pub read-window : (pages : List (Option (List ℕ))) (words : List Written) (word : List ℕ)
    (f o : ℕ) (size : Size) → o % width size ≡ 0
    → word ≡ take 4 (drop (4096 * f + o / 4 * 4) (words_put (joined pages) words))
    → number_at word (o % 4) size
    ≡ number_at (joined (pages_read pages words)) (4096 * f + o) size
read-window pages words word f o size aligned is =
    let bytes = words_put (joined pages) words in
    let first : ℕ = o % 4 in
    let start : ℕ = 4096 * f + o / 4 * 4 in
    let fits = fits-word o size aligned in
    let place : start + first ≡ 4096 * f + o = omega arith in
    ap (λ (xs : List ℕ). number_of (take (width size) (drop first xs))) is
    ∙ ap number_of (inside-of 4 first (width size) (drop start bytes) (omega (arith, fits))
    ∙ ap (take (width size)) (drop-drop first start bytes))
    ∙ ap (λ k. number_of (take (width size) (drop k bytes))) place
    ∙ ap (λ (xs : List ℕ). number_at xs (4096 * f + o) size) (sym (read-joined pages words))

-- four bytes of a page that is home
take-more : (xs : List ℕ) (o n : ℕ) → o < length xs
    → take (suc n) (drop o xs) ≡ slice_index xs o ∷ take n (drop (suc o) xs)
take-more [] o n h = absurd (omega (arith, h))
take-more (x ∷ xs) zero n h = refl
take-more (x ∷ xs) (suc o) n h = take-more xs o n (omega (arith, h))

four-at : (xs : List ℕ) (o : ℕ) → o + 4 ≤ length xs
    → take 4 (drop o xs)
    ≡ slice_index xs o ∷ slice_index xs (o + 1) ∷ slice_index xs (o + 2) ∷ slice_index xs (o + 3)
    ∷ []
four-at xs o h =
    let first : suc o ≡ o + 1 = omega arith in
    let second : suc (o + 1) ≡ o + 2 = omega arith in
    let third : suc (o + 2) ≡ o + 3 = omega arith in
    take-more xs o 3 (omega (arith, h))
    ∙ ap (λ k. slice_index xs o ∷ take 3 (drop k xs)) first
    ∙ ap (λ ys. slice_index xs o ∷ ys)
    (take-more xs (o + 1) 2 (omega (arith, h))
    ∙ ap (λ k. slice_index xs (o + 1) ∷ take 2 (drop k xs)) second
    ∙ ap (λ ys. slice_index xs (o + 1) ∷ ys)
    (take-more xs (o + 2) 1 (omega (arith, h))
    ∙ ap (λ k. slice_index xs (o + 2) ∷ take 1 (drop k xs)) third
    ∙ ap (λ ys. slice_index xs (o + 2) ∷ ys) (take-more xs (o + 3) 0 (omega (arith, h)))))

pub window-is : (pages : List (Option (List ℕ))) (f o : ℕ) (page bytes : List ℕ)
    → slice_get pages f ≡ Some (Some page) → bytes ≡ whole page → length bytes ≡ 4096
    → o + 4 ≤ 4096
    → slice_index bytes o ∷ slice_index bytes (o + 1) ∷ slice_index bytes (o + 2)
    ∷ slice_index bytes (o + 3) ∷ []
    ≡ take 4 (drop (4096 * f + o) (joined pages))
window-is pages f o page bytes home is count fits =
    sym (four-at bytes o (omega (arith, count, fits)))
    ∙ ap (λ (xs : List ℕ). take 4 (drop o xs)) is
    ∙ sym (joined-stretch pages f o 4 (4096 * f + o) (Some page) home fits refl)
