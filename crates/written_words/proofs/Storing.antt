-- A store into the list of words is a store into what memory is with them put in.
use Rattle.std.proofs.Common.{ℕ, zero, suc, ◌+◌, ◌-◌, ◌*◌, ◌/◌, ◌%◌, ◌^◌, ◌≡◌, ◌≢◌, ◌<◌, ◌≤◌, ◌⊎◌}
use Rattle.std.proofs.Common.{inl, inr, refl, sym, ap, ◌∙◌, cond, Bool, true, false, eqb}
use Rattle.std.proofs.Common.{List, [], ◌∷◌, ◌++◌, length, set, length-set, Option, Some}
use Rattle.std.proofs.Common.{None}
use Rattle.std.proofs.Common.{arith}
use Rattle.std.specs.Prelude.{All, slice_get, bit_or, ◌||◌}
use Rattle.std.specs.List.{list_any}
use Rattle.std.specs.Int.Bits.{or_zero_r}
use Rattle.std.proofs.lemmas.Nat.{or_block}
use Rattle.std.proofs.lemmas.List.Elements.{All-cons, All-head, All-nil, All-set, All-tail}
use Rattle.dos_world.specs.Bytes.{bytes_of, number_of, written}
use Rattle.dos_world.specs.Reach.{width}
use Rattle.dos_world.specs.declared.Size.{Size}
use Rattle.dos_world.specs.declared.Size.TheVariants.{Byte, Half, Word}
use Rattle.written_words.specs.declared.Written.{Written}
use Rattle.written_words.specs.Index.{IsIndexed}
use Rattle.written_words.specs.Words.{is_at, unwritten, with_bytes_from, with_stored}
use Rattle.written_words.specs.Words.{with_word_changed, word_put, words_put, written_by}
use Rattle.written_words.proofs.Indexing.{Some-word, changed-one, is_at-key, is_at-true}
use Rattle.written_words.proofs.Indexing.{length-bytes}
use Rattle.written_words.proofs.Putting.{bytes-back, elsewhere, place_of}

-- ---- two bytes at different places, and one place twice

set-comm : (xs : List ℕ) (i j a b : ℕ) → i ≢ j → set (set xs i a) j b ≡ set (set xs j b) i a
set-comm [] i j a b other = refl
set-comm (x ∷ xs) zero zero a b other = absurd (other refl)
set-comm (x ∷ xs) zero (suc j) a b other = refl
set-comm (x ∷ xs) (suc i) zero a b other = refl
set-comm (x ∷ xs) (suc i) (suc j) a b other =
    ap (λ ys. x ∷ ys) (set-comm xs i j a b (λ e. other (ap suc e)))

set-twice : (xs : List ℕ) (i a b : ℕ) → set (set xs i a) i b ≡ set xs i b
set-twice [] i a b = refl
set-twice (x ∷ xs) zero a b = refl
set-twice (x ∷ xs) (suc i) a b = ap (λ ys. x ∷ ys) (set-twice xs i a b)

-- ---- what is written by a mask, and bytes elsewhere

by-set : (mask : ℕ) (bytes : List ℕ) (p i a : ℕ) (new : List ℕ)
    → (i < p) ⊎ (p + length new ≤ i)
    → written_by mask (set bytes i a) p new ≡ set (written_by mask bytes p new) i a
by-set mask bytes p i a [] out = refl
by-set mask bytes p i a (b ∷ new) out =
    ap (λ (ys : List ℕ). written_by (mask / 2) ys (suc p) new) (by_bit (eqb (mask % 2) 1))
    ∙ by-set (mask / 2) (cond (eqb (mask % 2) 1) (set bytes p b) bytes) (suc p) i a new (later out)
  where
    later : (i < p) ⊎ (p + suc (length new) ≤ i) → (i < suc p) ⊎ (suc p + length new ≤ i)
    later (inl h) = inl (omega (arith, h))
    later (inr h) = inr (omega (arith, h))

    other : (i < p) ⊎ (p + suc (length new) ≤ i) → i ≢ p
    other (inl h) e = omega (arith, h, e)
    other (inr h) e = omega (arith, h, e)

    by_bit : (c : Bool) → cond c (set (set bytes i a) p b) (set bytes i a)
        ≡ set (cond c (set bytes p b) bytes) i a
    by_bit true = set-comm bytes i p a b (other out)
    by_bit false = refl

by-written : (mask : ℕ) (bytes : List ℕ) (p q : ℕ) (vs new : List ℕ)
    → (q + length new ≤ p) ⊎ (p + length vs ≤ q)
    → written_by mask (written bytes q new) p vs ≡ written (written_by mask bytes p vs) q new
by-written mask bytes p q vs [] out = refl
by-written mask bytes p q vs (n ∷ new) out =
    by-written mask (set bytes q n) p (suc q) vs new (later out)
    ∙ ap (λ (ys : List ℕ). written ys (suc q) new) (by-set mask bytes p q n vs (first out))
  where
    later : (q + suc (length new) ≤ p) ⊎ (p + length vs ≤ q)
        → (suc q + length new ≤ p) ⊎ (p + length vs ≤ suc q)
    later (inl h) = inl (omega (arith, h))
    later (inr h) = inr (omega (arith, h))

    first : (q + suc (length new) ≤ p) ⊎ (p + length vs ≤ q) → (q < p) ⊎ (p + length vs ≤ q)
    first (inl h) = inl (omega (arith, h))
    first (inr h) = inr h

-- words that are elsewhere
words-written : (words : List Written) (bytes : List ℕ) (q : ℕ) (new : List ℕ)
    → ((i : ℕ) (y : Written) → slice_get words i ≡ Some y
    → (q + length new ≤ place_of y) ⊎ (place_of y + 4 ≤ q))
    → words_put (written bytes q new) words ≡ written (words_put bytes words) q new
words-written [] bytes q new out = refl
words-written (y ∷ words) bytes q new out =
    ap (λ (ys : List ℕ). words_put ys words)
    (by-written y.mask bytes (place_of y) q (bytes_of 4 y.value) new (out zero y refl))
    ∙ words-written words (word_put bytes y) q new (λ i z g. out (suc i) z g)

-- ---- masks

-- the lowest so many bits
ones : ℕ → ℕ
ones zero = 0
ones (suc n) = 1 + 2 * ones n

ones-is : (n : ℕ) → n ≤ 4 → 2 ^ n - 1 ≡ ones n
unfolding ones
ones-is zero h = refl
ones-is (suc zero) h = refl
ones-is (suc (suc zero)) h = refl
ones-is (suc (suc (suc zero))) h = refl
ones-is (suc (suc (suc (suc zero)))) h = refl
ones-is (suc (suc (suc (suc (suc n))))) h = absurd (omega (arith, h))

-- so many places up
up : ℕ → ℕ → ℕ
up zero x = x
up (suc k) x = 2 * up k x

up-is : (k x : ℕ) → k ≤ 4 → x * 2 ^ k ≡ up k x
unfolding up
up-is zero x h = omega arith
up-is (suc zero) x h = omega arith
up-is (suc (suc zero)) x h = omega arith
up-is (suc (suc (suc zero))) x h = omega arith
up-is (suc (suc (suc (suc zero)))) x h = omega arith
up-is (suc (suc (suc (suc (suc k))))) x h = absurd (omega (arith, h))

or-split : (m k : ℕ) → bit_or m k ≡ bit_or (m / 2) (k / 2) * 2 + bit_or (m % 2) (k % 2)
or-split m k =
    let a : m ≡ m / 2 * 2 ^ 1 + m % 2 = omega arith in
    let b : k ≡ k / 2 * 2 ^ 1 + k % 2 = omega arith in
    ap (λ x. bit_or x k) a ∙ ap (λ x. bit_or (m / 2 * 2 ^ 1 + m % 2) x) b
    ∙ or_block 1 (m / 2) (k / 2) (m % 2) (k % 2) (omega arith) (omega arith)

or-bit : (r : ℕ) → r < 2 → bit_or r 1 ≡ 1
or-bit zero h = refl
or-bit (suc zero) h = refl
or-bit (suc (suc r)) h = absurd (omega (arith, h))

or-step : (m k : ℕ) → bit_or (m / 2) k ≡ k → bit_or m (2 * k + 1) ≡ 2 * k + 1
or-step m k h =
    let half : (2 * k + 1) / 2 ≡ k = omega arith in
    let odd : (2 * k + 1) % 2 ≡ 1 = omega arith in
    or-split m (2 * k + 1)
    ∙ ap (λ q. bit_or (m / 2) q * 2 + bit_or (m % 2) ((2 * k + 1) % 2)) half
    ∙ ap (λ q. q * 2 + bit_or (m % 2) ((2 * k + 1) % 2)) h
    ∙ ap (λ q. k * 2 + bit_or (m % 2) q) odd
    ∙ ap (λ q. k * 2 + q) (or-bit (m % 2) (omega arith)) ∙ omega arith

-- a mask with that of a whole word is that of a whole word
pub or-whole : (mask : ℕ) → mask < 16 → bit_or mask 15 ≡ 15
or-whole mask h =
    let none : mask / 2 / 2 / 2 / 2 ≡ 0 = omega (arith, h) in
    or-step mask 7 (or-step (mask / 2) 3 (or-step (mask / 2 / 2) 1 (or-step (mask / 2 / 2 / 2) 0
    (ap (λ q. bit_or q 0) none))))

low-or : (r s : ℕ) → r < 2 → s < 2
    → (bit_or r s < 2) × (eqb (bit_or r s) 1 ≡ (eqb s 1 || eqb r 1))
low-or zero zero a b = (omega arith, refl)
low-or zero (suc zero) a b = (omega arith, refl)
low-or (suc zero) zero a b = (omega arith, refl)
low-or (suc zero) (suc zero) a b = (omega arith, refl)
low-or (suc (suc r)) s a b = absurd (omega (arith, a))
low-or r (suc (suc s)) a b = absurd (omega (arith, b))

or-half : (m k : ℕ) → bit_or m k / 2 ≡ bit_or (m / 2) (k / 2)
or-half m k =
    let low = (low-or (m % 2) (k % 2) (omega arith) (omega arith)).0 in
    let split = or-split m k in
    omega (arith, split, low)

or-low : (m k : ℕ) → eqb (bit_or m k % 2) 1 ≡ (eqb (k % 2) 1 || eqb (m % 2) 1)
or-low m k =
    let both = low-or (m % 2) (k % 2) (omega arith) (omega arith) in
    let low = both.0 in
    let split = or-split m k in
    let same : bit_or m k % 2 ≡ bit_or (m % 2) (k % 2) = omega (arith, split, low) in
    ap (λ x. eqb x 1) same ∙ both.1

-- ---- bytes put into a word

-- what is written behind the first element
written-behind : (vs new : List ℕ) (v k : ℕ) → written (v ∷ vs) (suc k) new ≡ v ∷ written vs k new
written-behind vs [] v k = refl
written-behind vs (b ∷ new) v k = written-behind (set vs k b) new v (suc k)

written-later : (vs new : List ℕ) (a : ℕ) → written (a ∷ vs) (suc zero) new ≡ a ∷ written vs 0 new
written-later vs new a = written-behind vs new a 0

-- from its first byte on
at-first : (n m : ℕ) (bytes : List ℕ) (p : ℕ) (vs new : List ℕ) → length new ≡ n
    → n ≤ length vs
    → written_by (bit_or m (ones n)) bytes p (written vs 0 new)
    ≡ written (written_by m bytes p vs) p new
unfolding ones
at-first zero m bytes p vs [] long fits = ap (λ x. written_by x bytes p vs) (or_zero_r m)
at-first zero m bytes p vs (a ∷ new) long fits = absurd (omega (arith, long))
at-first (suc n) m bytes p vs [] long fits = absurd (omega (arith, long))
at-first (suc n) m bytes p [] (a ∷ new) long fits = absurd (omega (arith, fits))
at-first (suc n) m bytes p (v ∷ vs) (a ∷ new) long fits =
    let odd : (1 + 2 * ones n) % 2 ≡ 1 = omega arith in
    let half : (1 + 2 * ones n) / 2 ≡ ones n = omega arith in
    let more : List ℕ = written vs 0 new in
    let was : List ℕ = cond (eqb (m % 2) 1) (set bytes p v) bytes in
    let bit : eqb (bit_or m (1 + 2 * ones n) % 2) 1 ≡ true =
    or-low m (1 + 2 * ones n) ∙ ap (λ c. eqb c 1 || eqb (m % 2) 1) odd in
    ap (λ (ws : List ℕ). written_by (bit_or m (1 + 2 * ones n)) bytes p ws)
    (written-later vs new a)
    ∙ ap (λ k. written_by k (cond (eqb (bit_or m (1 + 2 * ones n) % 2) 1) (set bytes p a) bytes)
    (suc p) more) (or-half m (1 + 2 * ones n) ∙ ap (bit_or (m / 2)) half)
    ∙ ap (λ c. written_by (bit_or (m / 2) (ones n)) (cond c (set bytes p a) bytes) (suc p) more) bit
    ∙ at-first n (m / 2) (set bytes p a) (suc p) vs new (omega (arith, long)) (omega (arith, fits))
    ∙ ap (λ (ys : List ℕ). written (written_by (m / 2) ys (suc p) vs) (suc p) new)
    (sym (by_bit (eqb (m % 2) 1)))
    ∙ ap (λ (ys : List ℕ). written ys (suc p) new)
    (by-set (m / 2) was (suc p) p a vs (inl (omega arith)))
  where
    by_bit : (c : Bool) → set (cond c (set bytes p v) bytes) p a ≡ set bytes p a
    by_bit true = set-twice bytes p v a
    by_bit false = refl

-- and from any byte on
at-byte : (first n m : ℕ) (bytes : List ℕ) (p q : ℕ) (vs new : List ℕ) → length new ≡ n
    → first + n ≤ length vs → q ≡ p + first
    → written_by (bit_or m (up first (ones n))) bytes p (written vs first new)
    ≡ written (written_by m bytes p vs) q new
unfolding up
at-byte zero n m bytes p q vs new long fits at =
    let here : p ≡ q = omega (arith, at) in
    at-first n m bytes p vs new long (omega (arith, fits))
    ∙ ap (λ k. written (written_by m bytes p vs) k new) here
at-byte (suc first) n m bytes p q [] new long fits at = absurd (omega (arith, fits))
at-byte (suc first) n m bytes p q (v ∷ vs) new long fits at =
    let k : ℕ = 2 * up first (ones n) in
    let even : k % 2 ≡ 0 = omega arith in
    let half : k / 2 ≡ up first (ones n) = omega arith in
    let was : List ℕ = cond (eqb (m % 2) 1) (set bytes p v) bytes in
    let bit : eqb (bit_or m k % 2) 1 ≡ eqb (m % 2) 1 =
    or-low m k ∙ ap (λ c. eqb c 1 || eqb (m % 2) 1) even in
    ap (λ (ws : List ℕ). written_by (bit_or m k) bytes p ws) (written-behind vs new v first)
    ∙ ap (λ x. written_by x (cond (eqb (bit_or m k % 2) 1) (set bytes p v) bytes) (suc p)
    (written vs first new)) (or-half m k ∙ ap (bit_or (m / 2)) half)
    ∙ ap (λ c. written_by (bit_or (m / 2) (up first (ones n))) (cond c (set bytes p v) bytes) (suc
    p)
    (written vs first new)) bit
    ∙ at-byte first n (m / 2) was (suc p) q vs new long (omega (arith, fits)) (omega (arith, at))

pub bytes-small : (k n : ℕ) → All (λ b. b < 256) (bytes_of k n)
bytes-small zero n = All-nil (λ b. b < 256)
bytes-small (suc k) n =
    All-cons (λ b. b < 256) (n % 256) (bytes_of k (n / 256)) (omega arith)
    (bytes-small k (n / 256))

-- an aligned access lies in one word
pub fits-word : (o : ℕ) (size : Size) → o % width size ≡ 0 → o % 4 + width size ≤ 4
fits-word o Byte h = omega arith
fits-word o Half h = omega (arith, h)
fits-word o Word h = omega (arith, h)

-- a word with bytes stored, put in memory
word-stored : (x : Written) (first n : ℕ) (new bytes : List ℕ) (q : ℕ) → length new ≡ n
    → first + n ≤ 4 → All (λ b. b < 256) new → q ≡ place_of x + first
    → word_put bytes (with_bytes_from first new x) ≡ written (word_put bytes x) q new
word-stored x first n new bytes q long fits small at =
    let vs : List ℕ = bytes_of 4 x.value in
    let four : length vs ≡ 4 = length-bytes 4 x.value in
    let count : length (written vs first new) ≡ 4 = written-length vs first new ∙ four in
    let back : bytes_of 4 (number_of (written vs first new)) ≡ written vs first new =
    ap (λ k. bytes_of k (number_of (written vs first new))) (sym count)
    ∙ bytes-back (written vs first new) (All-written vs first new (bytes-small 4 x.value) small) in
    let mask : (2 ^ length new - 1) * 2 ^ first ≡ up first (ones n) =
    ap (λ k. (2 ^ k - 1) * 2 ^ first) long
    ∙ ap (λ k. k * 2 ^ first) (ones-is n (omega (arith, fits)))
    ∙ up-is first (ones n) (omega (arith, fits)) in
    ap (λ k. written_by (bit_or x.mask k) bytes (place_of x)
    (bytes_of 4 (number_of (written vs first new)))) mask
    ∙ ap (λ (ys : List ℕ). written_by (bit_or x.mask (up first (ones n))) bytes (place_of x) ys)
    back
    ∙ at-byte first n x.mask bytes (place_of x) q vs new long (omega (arith, fits, four)) at
  where
    written-length : (bytes : List ℕ) (place : ℕ) (new : List ℕ)
        → length (written bytes place new) ≡ length bytes
    written-length bytes place [] = refl
    written-length bytes place (b ∷ new) =
        written-length (set bytes place b) (suc place) new ∙ length-set bytes place b

    All-written : (bytes : List ℕ) (place : ℕ) (new : List ℕ) → All (λ b. b < 256) bytes
        → All (λ b. b < 256) new → All (λ b. b < 256) (written bytes place new)
    All-written bytes place [] a b = a
    All-written bytes place (c ∷ new) a b =
        All-written (set bytes place c) (suc place) new
        (All-set (λ b. b < 256) bytes place c (All-head (λ b. b < 256) c new b) a)
        (All-tail (λ b. b < 256) c new b)

-- one of the words stored into, the others elsewhere
put-set : (words : List Written) (place : ℕ) (x : Written) (first n : ℕ) (new bytes : List ℕ)
    (q : ℕ) → length new ≡ n → first + n ≤ 4 → All (λ b. b < 256) new → q ≡ place_of x + first
    → slice_get words place ≡ Some x
    → ((i : ℕ) (y : Written) → slice_get words i ≡ Some y → i ≢ place
    → (q + length new ≤ place_of y) ⊎ (place_of y + 4 ≤ q))
    → words_put bytes (set words place (with_bytes_from first new x))
    ≡ written (words_put bytes words) q new
put-set [] place x first n new bytes q long fits small at h out = cc
put-set (y ∷ words) zero x first n new bytes q long fits small at h out =
    let same : y ≡ x = Some-word h in
    ap (λ (ys : List ℕ). words_put ys words)
    (word-stored x first n new bytes q long fits small at
    ∙ ap (λ (z : Written). written (word_put bytes z) q new) (sym same))
    ∙ words-written words (word_put bytes y) q new
    (λ i z g. out (suc i) z g (λ e. absurd (omega (arith, e))))
put-set (y ∷ words) (suc place) x first n new bytes q long fits small at h out =
    put-set words place x first n new (word_put bytes y) q long fits small at h
    (λ i z g other. out (suc i) z g (λ e. other (omega (arith, e))))

put-append : (words : List Written) (x : Written) (bytes : List ℕ)
    → words_put bytes (words ++ x ∷ []) ≡ word_put (words_put bytes words) x
put-append [] x bytes = refl
put-append (y ∷ words) x bytes = put-append words x (word_put bytes y)

found-in : (words : List Written) (f o : ℕ) → list_any (is_at f o) words ≡ true
    → (place : ℕ) × (x : Written) × (slice_get words place ≡ Some x) × (is_at f o x ≡ true)
found-in [] f o h = cc
found-in (y ∷ words) f o h = by_test (is_at f o y) refl h (found-in words f o)
  where
    by_test : (b : Bool) → is_at f o y ≡ b → (b || list_any (is_at f o) words) ≡ true
        → (list_any (is_at f o) words ≡ true
        → (place : ℕ) × (x : Written) × (slice_get words place ≡ Some x) × (is_at f o x ≡ true))
        → (place : ℕ) × (x : Written) × (slice_get (y ∷ words) place ≡ Some x)
        × (is_at f o x ≡ true)
    by_test true is q later = (zero, y, refl, is)
    by_test false is q later = let r = later q in (suc r.0, r.1, r.2, r.3)

-- ---- a store

module _ (words : List Written) (before last : List ℕ) (h : IsIndexed words before last)
    (f o n : ℕ) (new : List ℕ) (long : length new ≡ n) (small : All (λ b. b < 256) new)
    (within : o < 4096) (fits : o % 4 + n ≤ 4) (bytes : List ℕ) where
  abbrev a : ℕ
  a = o / 4 * 4

  abbrev q : ℕ
  q = 4096 * f + o

  -- a word elsewhere is beside the bytes too
  beside : (y : Written) → (place_of y + 4 ≤ 4096 * f + a) ⊎ (4096 * f + a + 4 ≤ place_of y)
      → (q + length new ≤ place_of y) ⊎ (place_of y + 4 ≤ q)
  beside y (inl k) = inr (omega (arith, k))
  beside y (inr k) = inl (omega (arith, k, long, fits))

  pub store-there : list_any (is_at f a) words ≡ true
      → words_put bytes (with_word_changed f a (with_bytes_from (o % 4) new) words)
      ≡ written (words_put bytes words) q new
  store-there some =
      let r = found-in words f a some in
      let key = is_at-key f a r.1 r.3 in
      let only : (i : ℕ) (y : Written) → slice_get words i ≡ Some y → is_at f a y ≡ true → i ≡ r.0 =
      λ i y g k. let other = is_at-key f a y k in
      h.apart i r.0 y r.1 g r.2 (other.0 ∙ sym key.0) (other.1 ∙ sym key.1) in
      let at : q ≡ place_of r.1 + o % 4 = omega (arith, key.0, key.1) in
      ap (words_put bytes)
      (changed-one f a (with_bytes_from (o % 4) new) words r.0 r.1 r.2 r.3 only)
      ∙ put-set words r.0 r.1 (o % 4) n new bytes q long fits small at r.2
      (λ i y g other. beside y (elsewhere words before last h f a (omega arith)
      (omega (arith, within)) i y g
      (λ c d. other (only i y g (is_at-true f a y c d)))))

  pub store-new : words_put bytes (words ++ with_bytes_from (o % 4) new (unwritten f a) ∷ [])
      ≡ written (words_put bytes words) q new
  store-new =
      let at : q ≡ 4096 * f + a + o % 4 = omega arith in
      put-append words (with_bytes_from (o % 4) new (unwritten f a)) bytes
      ∙ word-stored (unwritten f a) (o % 4) n new (words_put bytes words) q long fits small at

-- the words after a store
pub store-put : (words : List Written) (before last : List ℕ) → IsIndexed words before last
    → (f o n : ℕ) (new : List ℕ) → length new ≡ n → All (λ b. b < 256) new → o < 4096
    → o % 4 + n ≤ 4 → (after : List Written) → with_stored words f o new ≡ Some after
    → (bytes : List ℕ)
    → words_put bytes after ≡ written (words_put bytes words) (4096 * f + o) new
store-put words before last h f o n new long small within fits after is bytes =
    by_found (list_any (is_at f (o / 4 * 4)) words) refl is
  where
    change : Written → Written
    change = with_bytes_from (o % 4) new

    Some-words : {x y : List Written} → ◌≡◌ {A = Option (List Written)} (Some x) (Some y) → x ≡ y
    Some-words q = cc

    by_room : (b : Bool)
        → cond b None (Some (words ++ change (unwritten f (o / 4 * 4)) ∷ [])) ≡ Some after
        → words_put bytes after ≡ written (words_put bytes words) (4096 * f + o) new
    by_room true q = cc
    by_room false q =
        ap (words_put bytes) (sym (Some-words q))
        ∙ store-new words before last h f o n new long small within fits bytes

    by_found : (b : Bool) → list_any (is_at f (o / 4 * 4)) words ≡ b
        → cond b (Some (with_word_changed f (o / 4 * 4) change words))
        (cond (eqb (length words) 1024) None
        (Some (words ++ change (unwritten f (o / 4 * 4)) ∷ []))) ≡ Some after
        → words_put bytes after ≡ written (words_put bytes words) (4096 * f + o) new
    by_found true some q =
        ap (words_put bytes) (sym (Some-words q))
        ∙ store-there words before last h f o n new long small within fits bytes some
    by_found false none q = by_room (eqb (length words) 1024) q
