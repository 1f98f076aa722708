-- Words put in memory: what stands in a window of four bytes then.
use Rattle.std.proofs.Common.{ℕ, zero, suc, ◌+◌, ◌*◌, ◌/◌, ◌%◌, ◌≡◌, ◌≢◌, ◌<◌, ◌≤◌, ◌⊎◌, inl, inr}
use Rattle.std.proofs.Common.{refl, sym, ap, ◌∙◌, subst, cond, Bool, true, false, eqb, List, []}
use Rattle.std.proofs.Common.{◌∷◌}
use Rattle.std.proofs.Common.{length, length-set, set, take, drop, Option, Some, arith}
use Rattle.std.specs.Prelude.{slice_get}
use Rattle.std.specs.Prelude.{All}
use Rattle.std.specs.List.{list_any}
use Rattle.std.proofs.lemmas.Bool.{cases_lt}
use Rattle.std.proofs.lemmas.Bool.Decides.{eqb_tells}
use Rattle.std.proofs.lemmas.List.{length-drop, length-take-le}
use Rattle.std.proofs.lemmas.List.Elements.{All-head, All-tail}
use Rattle.std.proofs.lemmas.Option.{get_or_from_slice_get, slice_get_within}
use Rattle.dos_world.specs.Bytes.{bytes_of, number_of}
use Rattle.written_words.specs.declared.Written.{Written}
use Rattle.dos_world.specs.World.{page_of}
use Rattle.written_words.specs.Index.{HasNoneOf, IsIndexed, IsAlignedWord}
use Rattle.written_words.specs.Words.{is_at, word_put, words_put, written_by}
use Rattle.written_words.proofs.Indexing.{none-at}

-- ---- one byte, in a window and beside it

set-window : (n p j b : ℕ) (bytes : List ℕ)
    → take n (drop p (set bytes (p + j) b)) ≡ set (take n (drop p bytes)) j b
set-window n zero j b bytes =
    let none : 0 + j ≡ j = omega arith in
    ap (λ k. take n (set bytes k b)) none ∙ at_front n j bytes
  where
    at_front : (n j : ℕ) (bytes : List ℕ) → take n (set bytes j b) ≡ set (take n bytes) j b
    at_front zero j bytes = refl
    at_front (suc n) j [] = refl
    at_front (suc n) zero (x ∷ bytes) = refl
    at_front (suc n) (suc j) (x ∷ bytes) = ap (λ ys. x ∷ ys) (at_front n j bytes)
set-window n (suc p) j b [] = none n
  where
    none : (n : ℕ) → take n [] ≡ set (take n []) j b
    none zero = refl
    none (suc n) = refl
set-window n (suc p) j b (x ∷ bytes) =
    let more : suc p + j ≡ suc (p + j) = omega arith in
    ap (λ k. take n (drop (suc p) (set (x ∷ bytes) k b))) more ∙ set-window n p j b bytes

set-beside : (n p i b : ℕ) (bytes : List ℕ) → (i < p) ⊎ (p + n ≤ i)
    → take n (drop p (set bytes i b)) ≡ take n (drop p bytes)
set-beside n p i b [] out = refl
set-beside zero zero i b (x ∷ bytes) out = refl
set-beside (suc n) zero zero b (x ∷ bytes) (inl h) = absurd (omega (arith, h))
set-beside (suc n) zero zero b (x ∷ bytes) (inr h) = absurd (omega (arith, h))
set-beside (suc n) zero (suc i) b (x ∷ bytes) (inl h) = absurd (omega (arith, h))
set-beside (suc n) zero (suc i) b (x ∷ bytes) (inr h) =
    ap (λ ys. x ∷ ys) (set-beside n zero i b bytes (inr (omega (arith, h))))
set-beside n (suc p) zero b (x ∷ bytes) out = refl
set-beside n (suc p) (suc i) b (x ∷ bytes) (inl h) =
    set-beside n p i b bytes (inl (omega (arith, h)))
set-beside n (suc p) (suc i) b (x ∷ bytes) (inr h) =
    set-beside n p i b bytes (inr (omega (arith, h)))

-- ---- the bytes that a mask names

by-window : (n p j mask : ℕ) (bytes new : List ℕ)
    → take n (drop p (written_by mask bytes (p + j) new))
    ≡ written_by mask (take n (drop p bytes)) j new
by-window n p j mask bytes [] = refl
by-window n p j mask bytes (b ∷ new) =
    let next : suc (p + j) ≡ p + suc j = omega arith in
    ap (λ k. take n (drop p (written_by (mask / 2)
    (cond (eqb (mask % 2) 1) (set bytes (p + j) b) bytes) k new))) next
    ∙ by-window n p (suc j) (mask / 2) (cond (eqb (mask % 2) 1) (set bytes (p + j) b) bytes) new
    ∙ ap (λ (ys : List ℕ). written_by (mask / 2) ys (suc j) new) (by_bit (eqb (mask % 2) 1))
  where
    by_bit : (c : Bool) → take n (drop p (cond c (set bytes (p + j) b) bytes))
        ≡ cond c (set (take n (drop p bytes)) j b) (take n (drop p bytes))
    by_bit true = set-window n p j b bytes
    by_bit false = refl

by-beside : (n p i mask : ℕ) (bytes new : List ℕ) → (i + length new ≤ p) ⊎ (p + n ≤ i)
    → take n (drop p (written_by mask bytes i new)) ≡ take n (drop p bytes)
by-beside n p i mask bytes [] out = refl
by-beside n p i mask bytes (b ∷ new) out =
    by-beside n p (suc i) (mask / 2) (cond (eqb (mask % 2) 1) (set bytes i b) bytes) new
    (later out) ∙ by_bit (eqb (mask % 2) 1)
  where
    later : (i + suc (length new) ≤ p) ⊎ (p + n ≤ i) → (suc i + length new ≤ p) ⊎ (p + n ≤ suc i)
    later (inl h) = inl (omega (arith, h))
    later (inr h) = inr (omega (arith, h))

    here : (i + suc (length new) ≤ p) ⊎ (p + n ≤ i) → (i < p) ⊎ (p + n ≤ i)
    here (inl h) = inl (omega (arith, h))
    here (inr h) = inr h

    by_bit : (c : Bool) → take n (drop p (cond c (set bytes i b) bytes)) ≡ take n (drop p bytes)
    by_bit true = set-beside n p i b bytes (here out)
    by_bit false = refl

-- ---- words

abbrev pub place_of : Written → ℕ
place_of x = 4096 * x.frame + x.offset

length-by : (mask : ℕ) (bytes : List ℕ) (place : ℕ) (new : List ℕ)
    → length (written_by mask bytes place new) ≡ length bytes
length-by mask bytes place [] = refl
length-by mask bytes place (b ∷ new) =
    length-by (mask / 2) (cond (eqb (mask % 2) 1) (set bytes place b) bytes) (suc place) new
    ∙ by_bit (eqb (mask % 2) 1)
  where
    by_bit : (c : Bool) → length (cond c (set bytes place b) bytes) ≡ length bytes
    by_bit true = length-set bytes place b
    by_bit false = refl

-- there are as many bytes as before
pub length-put : (bytes : List ℕ) (words : List Written)
    → length (words_put bytes words) ≡ length bytes
length-put bytes [] = refl
length-put bytes (x ∷ words) =
    length-put (word_put bytes x) words ∙ length-by x.mask bytes (place_of x) (bytes_of 4 x.value)

-- words that are elsewhere leave a stretch as it is
pub stretch-beside : (n p : ℕ) (words : List Written) (bytes : List ℕ)
    → ((i : ℕ) (x : Written) → slice_get words i ≡ Some x
    → (place_of x + 4 ≤ p) ⊎ (p + n ≤ place_of x))
    → take n (drop p (words_put bytes words)) ≡ take n (drop p bytes)
stretch-beside n p [] bytes out = refl
stretch-beside n p (x ∷ words) bytes out =
    stretch-beside n p words (word_put bytes x) (λ i y h. out (suc i) y h)
    ∙ by-beside n p (place_of x) x.mask bytes (bytes_of 4 x.value) (out zero x refl)

-- and a window
pub words-beside : (p : ℕ) (words : List Written) (bytes : List ℕ)
    → ((i : ℕ) (x : Written) → slice_get words i ≡ Some x
    → (place_of x + 4 ≤ p) ⊎ (p + 4 ≤ place_of x))
    → take 4 (drop p (words_put bytes words)) ≡ take 4 (drop p bytes)
words-beside = stretch-beside 4

Some-word : {x y : Written} → ◌≡◌ {A = Option Written} (Some x) (Some y) → x ≡ y
Some-word h = cc

-- and the one word that is there puts its bytes into it
pub words-window : (p : ℕ) (words : List Written) (bytes : List ℕ) (k : ℕ) (x : Written)
    → slice_get words k ≡ Some x → place_of x ≡ p
    → ((i : ℕ) (y : Written) → slice_get words i ≡ Some y → i ≢ k
    → (place_of y + 4 ≤ p) ⊎ (p + 4 ≤ place_of y))
    → take 4 (drop p (words_put bytes words))
    ≡ written_by x.mask (take 4 (drop p bytes)) 0 (bytes_of 4 x.value)
words-window p [] bytes k x h at out = cc
words-window p (y ∷ words) bytes zero x h at out =
    let same : y ≡ x = Some-word h in
    let place : place_of y ≡ p + 0 = ap (λ (z : Written). place_of z) same ∙ omega (arith, at) in
    words-beside p words (word_put bytes y)
    (λ i z g. out (suc i) z g (λ e. absurd (omega (arith, e))))
    ∙ ap (λ q. take 4 (drop p (written_by y.mask bytes q (bytes_of 4 y.value)))) place
    ∙ by-window 4 p 0 y.mask bytes (bytes_of 4 y.value)
    ∙ ap (λ (z : Written). written_by z.mask (take 4 (drop p bytes)) 0 (bytes_of 4 z.value)) same
words-window p (y ∷ words) bytes (suc k) x h at out =
    words-window p words (word_put bytes y) k x h at
    (λ i z g other. out (suc i) z g (λ e. other (omega (arith, e))))
    ∙ ap (λ (ys : List ℕ). written_by x.mask ys 0 (bytes_of 4 x.value))
    (by-beside 4 p (place_of y) y.mask bytes (bytes_of 4 y.value)
    (out zero y refl (λ e. absurd (omega (arith, e)))))

-- ---- which words are elsewhere

apart-places : (f o g p : ℕ) → o % 4 ≡ 0 → p % 4 ≡ 0 → o < 4096 → p < 4096
    → (f ≢ g) ⊎ (o ≢ p)
    → (4096 * f + o + 4 ≤ 4096 * g + p) ⊎ (4096 * g + p + 4 ≤ 4096 * f + o)
apart-places f o g p a b small fits other = by_frame (cases_lt f g) (cases_lt g f)
  where
    by_offset : f ≡ g → (o < p) ⊎ (p ≤ o) → (f ≢ g) ⊎ (o ≢ p)
        → (4096 * f + o + 4 ≤ 4096 * g + p) ⊎ (4096 * g + p + 4 ≤ 4096 * f + o)
    by_offset same (inl h) out = inl (omega (arith, same, h, a, b))
    by_offset same (inr h) (inl out) = absurd (out same)
    by_offset same (inr h) (inr out) = inr (omega (arith, same, h, out, a, b))

    by_frame : (f < g) ⊎ (g ≤ f) → (g < f) ⊎ (f ≤ g)
        → (4096 * f + o + 4 ≤ 4096 * g + p) ⊎ (4096 * g + p + 4 ≤ 4096 * f + o)
    by_frame (inl h) k = inl (omega (arith, h, a, small))
    by_frame (inr h) (inl k) = inr (omega (arith, k, b, fits))
    by_frame (inr h) (inr k) = by_offset (omega (arith, h, k)) (cases_lt o p) other

-- ---- four bytes and their number

pub bytes-step : (k x rest : ℕ) → x < 256
    → bytes_of (suc k) (x + 256 * rest) ≡ x ∷ bytes_of k rest
bytes-step k x rest small =
    let first : (x + 256 * rest) % 256 ≡ x = omega (arith, small) in
    let others : (x + 256 * rest) / 256 ≡ rest = omega (arith, small) in
    ap (λ n. n ∷ bytes_of k ((x + 256 * rest) / 256)) first ∙ ap (λ n. x ∷ bytes_of k n) others

pub bytes-back : (xs : List ℕ) → All (λ b. b < 256) xs → bytes_of (length xs) (number_of xs) ≡ xs
bytes-back [] small = refl
bytes-back (x ∷ xs) small =
    bytes-step (length xs) x (number_of xs) (All-head (λ b. b < 256) x xs small)
    ∙ ap (λ ys. x ∷ ys) (bytes-back xs (All-tail (λ b. b < 256) x xs small))

-- ---- a word read over

module _ (words : List Written) (before last : List ℕ) (h : IsIndexed words before last)
    (f o : ℕ) (aligned : o % 4 ≡ 0) (fits : o < 4096) where
  pub word-at : (i : ℕ) (x : Written) → slice_get words i ≡ Some x → IsAlignedWord x
  word-at i x g =
      subst IsAlignedWord (get_or_from_slice_get words i x x g)
      (h.each i x (slice_get_within words i x g))

  pub elsewhere : (i : ℕ) (x : Written) → slice_get words i ≡ Some x
      → (x.frame ≡ f → x.offset ≡ o → ⊥)
      → (place_of x + 4 ≤ 4096 * f + o) ⊎ (4096 * f + o + 4 ≤ place_of x)
  elsewhere i x g other =
      let is = word-at i x g in
      apart-places x.frame x.offset f o is.aligned aligned is.within fits
      (by_frame (eqb_tells x.frame f))
    where
      by_frame : ((eqb x.frame f ≡ true) × (x.frame ≡ f))
          ⊎ ((eqb x.frame f ≡ false) × (x.frame ≢ f)) → (x.frame ≢ f) ⊎ (x.offset ≢ o)
      by_frame (inl p) = inr (other p.1)
      by_frame (inr p) = inl p.1

  pub over-none : list_any (is_at f o) words ≡ false → (bytes : List ℕ)
      → take 4 (drop (4096 * f + o) (words_put bytes words)) ≡ take 4 (drop (4096 * f + o) bytes)
  over-none none bytes =
      words-beside (4096 * f + o) words bytes
      (λ i x g. elsewhere i x g (none-at words f o i x none g))

  pub over-found : (place : ℕ) (x : Written) → slice_get words place ≡ Some x → x.frame ≡ f
      → x.offset ≡ o → (bytes old : List ℕ) → old ≡ take 4 (drop (4096 * f + o) bytes)
      → written_by x.mask old 0 (bytes_of 4 x.value)
      ≡ take 4 (drop (4096 * f + o) (words_put bytes words))
  over-found place x at frame offset bytes old is =
      ap (λ (ys : List ℕ). written_by x.mask ys 0 (bytes_of 4 x.value)) is
      ∙ sym (words-window (4096 * f + o) words bytes place x at
      (ap (λ a. 4096 * a + x.offset) frame ∙ ap (λ b. 4096 * f + b) offset)
      (λ i y g other. elsewhere i y g (λ a b. other (h.apart i place y x g at
      (a ∙ sym frame) (b ∙ sym offset)))))

-- a word of which all bytes are written is what stands there, whatever did before
pub all-written : (old new : List ℕ) → length old ≡ 4 → length new ≡ 4
    → written_by 15 old 0 new ≡ new
all-written (a ∷ b ∷ c ∷ d ∷ []) (e ∷ f ∷ g ∷ h ∷ []) p q = refl
all-written old new p q = cc

pub window-length : (n p : ℕ) (bytes : List ℕ) → p + n ≤ length bytes
    → length (take n (drop p bytes)) ≡ n
window-length n p bytes fits =
    length-take-le n (drop p bytes) (omega (arith, fits, length-drop p bytes))

-- ---- a page without words

-- where no word is of a frame, its page is as memory has it
pub page-beside : (words : List Written) (before last : List ℕ) → IsIndexed words before last
    → (frame : ℕ) → HasNoneOf words frame → (bytes : List ℕ)
    → page_of (words_put bytes words) frame ≡ page_of bytes frame
page-beside words before last h frame none bytes =
    stretch-beside 4096 (4096 * frame) words bytes
    (λ i x g. beside x (word-at words before last h 0 0 refl (omega arith) i x g) (none i x g))
  where
    beside : (x : Written) → IsAlignedWord x → x.frame ≢ frame
        → (place_of x + 4 ≤ 4096 * frame) ⊎ (4096 * frame + 4096 ≤ place_of x)
    beside x is other = by_order (cases_lt x.frame frame)
      where
        by_order : (x.frame < frame) ⊎ (frame ≤ x.frame)
            → (place_of x + 4 ≤ 4096 * frame) ⊎ (4096 * frame + 4096 ≤ place_of x)
        by_order (inl low) = inl (omega (arith, low, is.aligned, is.within))
        by_order (inr high) = inr (omega (arith, high, other))
