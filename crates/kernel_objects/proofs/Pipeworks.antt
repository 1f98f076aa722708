-- Buffers and ends of pipes, changed at one place.
use Rattle.std.proofs.Common.{◌≡◌, ◌≢◌, ℕ, zero, suc, ◌+◌, ◌-◌, ◌<◌, ◌≤◌, Bool, true, false, cond}
use Rattle.std.proofs.Common.{inl, inr, List, [], ◌∷◌, length, get_or, set, Option, Some, None}
use Rattle.std.proofs.Common.{length-set, get_or-set_same, get_or-set_other, refl, sym, ap, subst}
use Rattle.std.proofs.Common.{◌∙◌, arith}
use Rattle.std.specs.Prelude.{◌==◌, ◌&&◌, not, find, map, replicate, All}
use Rattle.std.proofs.lemmas.Bool.{cases_eq}
use Rattle.std.proofs.lemmas.Bool.Decides.{nat_tests}
use Rattle.std.proofs.lemmas.List.{map-set, length-replicate}
use Rattle.std.proofs.lemmas.List.Elements.{All-set, All-get_or, All-replicate}
use Rattle.dos_world.specs.Numbered.{run_of}
use Rattle.circular_buffer.specs.Buffer.{Buffer, buffer}
use Rattle.std.specs.Global.{Vec}
use Rattle.std.specs.List.{AllByRecursion}
use Rattle.std.proofs.lemmas.List.Elements.{All-from_recursion}
use Rattle.std.proofs.lemmas.List.{length-map}
use Rattle.kernel_objects.specs.Pipework.{AreClosedEmpty, filled, vector_bytes}
use Rattle.kernel_objects.specs.Pipework.{Pipework, AreKept, IsPipeBuffer, held_bytes, ends_at}
use Rattle.kernel_objects.specs.Pipework.{is_open_at, lowest_closed, with_bytes, with_ends}
use Rattle.kernel_objects.specs.Pipework.{with_dropped}

-- ---- the bytes of a buffer

pub held-at : (B : List (Buffer ℕ)) (i : ℕ) (b : Buffer ℕ) → i < length B → b ≡ get_or B i b
    → get_or (held_bytes B) i [] ≡ b.items
held-at [] i b h e = absurd (omega arith)
held-at (x ∷ B) zero b h e = ap (λ (y : Buffer ℕ). y.items) (sym e)
held-at (x ∷ B) (suc i) b h e = held-at B i b (omega arith) e

pub room-at : (B : List (Buffer ℕ)) (i : ℕ) (b : Buffer ℕ) → All IsPipeBuffer B → i < length B
    → b ≡ get_or B i b → b.capacity ≡ 4096
room-at B i b rooms h e = ap (λ (y : Buffer ℕ). y.capacity) e
    ∙ All-get_or IsPipeBuffer B i b h rooms

-- a buffer changed is the bytes of its pipe changed
pub written : (B : List (Buffer ℕ)) (R W : List ℕ) (s : Pipework) (i : ℕ) (b : Buffer ℕ)
    (bytes : List ℕ) → record { bytes = held_bytes B; readers = R; writers = W } ≡ s
    → b.items ≡ bytes
    → ◌≡◌ {A = Pipework} (record { bytes = held_bytes (set B i b); readers = R; writers = W })
    (with_bytes s i bytes)
written B R W s i b bytes e q =
    ap (λ (xs : List (List ℕ)). at xs R W)
    (map-set (λ (y : Buffer ℕ). y.items) B i b ∙ ap (set (held_bytes B) i) q)
    ∙ ap (λ (x : Pipework). with_bytes x i bytes) e
  where
    at : List (List ℕ) → List ℕ → List ℕ → Pipework
    at bytes readers writers = record { bytes = bytes; readers = readers; writers = writers }

-- ---- one place changed

-- bytes and ends change at one place, where a pipe without ends is empty
pub kept-at : (B : List (Buffer ℕ)) (R W R' W' : List ℕ) (i : ℕ) (b : Buffer ℕ) → AreKept B R W
    → i < 64 → b.capacity ≡ 4096
    → ((j : ℕ) → j ≢ i → get_or R' j 0 ≡ get_or R j 0)
    → ((j : ℕ) → j ≢ i → get_or W' j 0 ≡ get_or W j 0)
    → (get_or R' i 0 ≡ 0 → get_or W' i 0 ≡ 0 → b.items ≡ []) → AreKept (set B i b) R' W'
kept-at B R W R' W' i b kept within room readers writers empty = record {
  count = length-set B i b ∙ kept.count;
  rooms = All-set IsPipeBuffer B i b room kept.rooms;
  closed = λ j r w. elim (cases_eq j i) [
    | inl same ↦
        let here : i < length (held_bytes B) = omega (arith, kept.count, length-held B) in
        ap (λ k. get_or (held_bytes (set B i b)) k []) same
        ∙ ap (λ (xs : List (List ℕ)). get_or xs i [])
        (map-set (λ (y : Buffer ℕ). y.items) B i b)
        ∙ get_or-set_same (held_bytes B) i b.items [] here
        ∙ empty (ap (λ k. get_or R' k 0) (sym same) ∙ r) (ap (λ k. get_or W' k 0) (sym same) ∙ w)
    | inr other ↦ ap (λ (xs : List (List ℕ)). get_or xs j [])
        (map-set (λ (y : Buffer ℕ). y.items) B i b)
        ∙ get_or-set_other (held_bytes B) i j b.items [] other
        ∙ kept.closed j (sym (readers j other) ∙ r) (sym (writers j other) ∙ w)
  ];
}
  where
    length-held : (B : List (Buffer ℕ)) → length (held_bytes B) ≡ length B
    length-held [] = refl
    length-held (x ∷ B) = ap suc (length-held B)

-- more ends change no buffer
pub kept-ends : (B : List (Buffer ℕ)) (R W R' W' : List ℕ) → AreKept B R W
    → ((j : ℕ) → get_or R' j 0 ≡ 0 → get_or W' j 0 ≡ 0 → (get_or R j 0 ≡ 0) × (get_or W j 0 ≡ 0))
    → AreKept B R' W'
kept-ends B R W R' W' kept back =
    record {
      count = kept.count;
      rooms = kept.rooms;
      closed = λ j r w. let b = back j r w in
          kept.closed j b.0 b.1;
    }

-- a number that was set, and isn't 0, is 0 where it was
pub still-zero : (R : List ℕ) (i j n : ℕ) → i < length R → 0 < n → get_or (set R i n) j 0 ≡ 0
    → get_or R j 0 ≡ 0
still-zero R i j n h some e = elim (cases_eq j i) [
  | inl same ↦ absurd (let was : n ≡ 0 =
      sym (get_or-set_same R i n 0 h) ∙ ap (λ k. get_or (set R i n) k 0) (sym same) ∙ e in
      omega arith)
  | inr other ↦ sym (get_or-set_other R i j n 0 other) ∙ e
]

-- ---- the last end of a pipe

pub dropped-last : (s left : Pipework) (B : List (Buffer ℕ)) (i : ℕ) (b : Buffer ℕ) (writer : Bool)
    → left ≡ with_ends s i writer (ends_at s i writer - 1) → left.bytes ≡ held_bytes B
    → b.items ≡ []
    → get_or left.readers i 0 ≡ 0 → get_or left.writers i 0 ≡ 0
    → ◌≡◌ {A = Pipework} (record {
      bytes = held_bytes (set B i b);
      readers = left.readers;
      writers =
          left.writers;
    }) (with_dropped s i writer)
dropped-last s left B i b writer is held none readers writers =
    written B left.readers left.writers left i b []
    (ap (λ (xs : List (List ℕ)). at xs left.readers left.writers) (sym held)) none
    ∙ sym (ap (λ (x : Bool). cond x left (with_bytes left i [])) closed)
    ∙ ap (λ (x : Pipework). cond (is_open_at x i) x (with_bytes x i [])) is
  where
    at : List (List ℕ) → List ℕ → List ℕ → Pipework
    at bytes readers writers = record { bytes = bytes; readers = readers; writers = writers }

    closed : is_open_at left i ≡ false
    closed = ap (λ k. not ((k == 0) && (get_or left.writers i 0 == 0))) readers
        ∙ ap (λ k. not (k == 0)) writers

-- ---- the lowest that is closed

lowest-in : (s : Pipework) (n count p : ℕ) → n ≤ p → p < n + count
    → ((j : ℕ) → j < p → is_open_at s j ≡ true) → is_open_at s p ≡ false
    → find (λ pipe. not (is_open_at s pipe)) (run_of n count) ≡ Some p
lowest-in s n zero p low high below here = absurd (omega arith)
lowest-in s n (suc count) p low high below here = elim (cases_eq n p) [
  | inl same ↦ ap (λ b. cond (not b) (Some n)
      (find (λ pipe. not (is_open_at s pipe)) (run_of (suc n) count)))
      (ap (is_open_at s) same ∙ here) ∙ ap Some same
  | inr other ↦ ap (λ b. cond (not b) (Some n)
      (find (λ pipe. not (is_open_at s pipe)) (run_of (suc n) count))) (below n (omega arith))
      ∙ lowest-in s (suc n) count p (omega arith) (omega arith) below here
]

pub lowest-is : (s : Pipework) (i : ℕ) → i < length s.readers
    → ((j : ℕ) → j < i → is_open_at s j ≡ true) → is_open_at s i ≡ false → Some i ≡ lowest_closed s
lowest-is s i h below here =
    sym (lowest-in s 0 (length s.readers) i (omega arith) (omega arith) below here)

none-in : (s : Pipework) (n count : ℕ) → ((j : ℕ) → j < n + count → is_open_at s j ≡ true)
    → find (λ pipe. not (is_open_at s pipe)) (run_of n count) ≡ None
none-in s n zero below = refl
none-in s n (suc count) below =
    ap (λ b. cond (not b) (Some n) (find (λ pipe. not (is_open_at s pipe)) (run_of (suc n) count)))
    (below n (omega arith)) ∙ none-in s (suc n) count (λ j k. below j (omega arith))

pub lowest-none : (s : Pipework) → ((j : ℕ) → j < length s.readers → is_open_at s j ≡ true)
    → None ≡ lowest_closed s
lowest-none s below = sym (none-in s 0 (length s.readers) (λ j k. below j (omega arith)))

-- the lowest that is closed has no end
closed-in : (s : Pipework) (i n count : ℕ)
    → find (λ pipe. not (is_open_at s pipe)) (run_of n count) ≡ Some i → is_open_at s i ≡ false
closed-in s i n zero e = cc
closed-in s i n (suc count) e = by (closed-in s i (suc n) count) (is_open_at s n) refl
  where
    rest : Option ℕ
    rest = find (λ pipe. not (is_open_at s pipe)) (run_of (suc n) count)

    by : (rest ≡ Some i → is_open_at s i ≡ false) → (b : Bool) → is_open_at s n ≡ b
        → is_open_at s i ≡ false
    by later true q = later (sym (ap (λ b. cond (not b) (Some n) rest) q) ∙ e)
    by later false q =
        let found : ◌≡◌ {A = Option ℕ} (Some n) (Some i) =
        sym (ap (λ b. cond (not b) (Some n) rest) q) ∙ e in
        let same : n ≡ i = cc in
        ap (is_open_at s) (sym same) ∙ q

pub lowest-closed : (s : Pipework) (i : ℕ) → Some i ≡ lowest_closed s → is_open_at s i ≡ false
lowest-closed s i e = closed-in s i 0 (length s.readers) (sym e)

-- a pipe that isn't open has no end of either kind
pub no-ends : (a b : ℕ) → not ((a == 0) && (b == 0)) ≡ false → (a ≡ 0) × (b ≡ 0)
no-ends a b e = by (a == 0) (b == 0) refl refl e
  where
    by : (x y : Bool) → (a == 0) ≡ x → (b == 0) ≡ y → not (x && y) ≡ false → (a ≡ 0) × (b ≡ 0)
    by true true p q e = (grind (arith, nat_tests), grind (arith, nat_tests))
    by true false p q e = absurd (cc)
    by false y p q e = absurd (cc)

-- ---- no pipe open

nothing-held : (n j : ℕ) → get_or (held_bytes (replicate n (buffer [] 4096))) j [] ≡ []
nothing-held zero j = refl
nothing-held (suc n) zero = refl
nothing-held (suc n) (suc j) = nothing-held n j

pub kept-none : (B : List (Buffer ℕ)) (R W : List ℕ) (n : ℕ) → n ≡ 64
    → B ≡ replicate n (buffer [] 4096) → AreKept B R W
kept-none B R W n is e = record {
  count = ap length e ∙ length-replicate n empty ∙ is;
  rooms = subst (λ (xs : List (Buffer ℕ)). All IsPipeBuffer xs) (sym e)
      (All-replicate IsPipeBuffer n empty refl);
  closed = λ j r w. ap (λ (xs : List (Buffer ℕ)). get_or (held_bytes xs) j []) e ∙ nothing-held n j;
}
  where
    empty : Buffer ℕ
    empty = buffer [] 4096

-- ---- an end less

-- an open pipe has an end
pub not-closed : (a b : ℕ) → not ((a == 0) && (b == 0)) ≡ true → a ≡ 0 → b ≡ 0 → ⊥
not-closed a b e p q =
    let x : (a == 0) ≡ true = grind (arith, nat_tests) in
    let y : (b == 0) ≡ true = grind (arith, nat_tests) in
    let both : not ((a == 0) && (b == 0)) ≡ false =
    ap (λ k. not (k && (b == 0))) x ∙ ap (λ k. not (true && k)) y in
    cc

pub both-closed : (a b : ℕ) → a ≡ 0 → b ≡ 0 → not ((a == 0) && (b == 0)) ≡ false
both-closed a b p q = ap (λ k. not ((k == 0) && (b == 0))) p ∙ ap (λ k. not (k == 0)) q

-- ---- one end less, of either kind

pub record IsLess (B : List (Buffer ℕ)) (R W : List ℕ) (s : Pipework) (i : ℕ) (writer : Bool)
    (B' : List (Buffer ℕ)) (R' W' : List ℕ) : Type 0 where
  pub buffers : B' ≡ B
  pub readers : (j : ℕ) → j ≢ i → get_or R' j 0 ≡ get_or R j 0
  pub writers : (j : ℕ) → j ≢ i → get_or W' j 0 ≡ get_or W j 0
  pub left : ◌≡◌ {A = Pipework} (record { bytes = held_bytes B'; readers = R'; writers = W' })
      (with_ends s i writer (ends_at s i writer - 1))

pub less-writer : (B : List (Buffer ℕ)) (R W : List ℕ) (s : Pipework) (i : ℕ) (writer : Bool)
    → record { bytes = held_bytes B; readers = R; writers = W } ≡ s → writer ≡ true
    → IsLess B R W s i writer B R (set W i (get_or W i 0 - 1))
less-writer B R W s i false e w = cc
less-writer B R W s i true e w = record {
  buffers = refl;
  readers = λ j other. refl;
  writers = λ j other. get_or-set_other W i j (get_or W i 0 - 1) 0 other;
  left = ap (λ (x : Pipework). with_ends x i true (ends_at x i true - 1)) e;
}

pub less-reader : (B : List (Buffer ℕ)) (R W : List ℕ) (s : Pipework) (i : ℕ) (writer : Bool)
    → record { bytes = held_bytes B; readers = R; writers = W } ≡ s → writer ≡ false
    → IsLess B R W s i writer B (set R i (get_or R i 0 - 1)) W
less-reader B R W s i true e w = cc
less-reader B R W s i false e w = record {
  buffers = refl;
  readers = λ j other. get_or-set_other R i j (get_or R i 0 - 1) 0 other;
  writers = λ j other. refl;
  left = ap (λ (x : Pipework). with_ends x i false (ends_at x i false - 1)) e;
}

-- ---- pipes that hold what vectors do

pub held-filled : (vs : List (Vec ℕ)) → held_bytes (map filled vs) ≡ vector_bytes vs
held-filled [] = refl
held-filled (v ∷ vs) = ap (λ xs. v.items ∷ xs) (held-filled vs)

room-filled : (vs : List (Vec ℕ)) → AllByRecursion IsPipeBuffer (map filled vs)
room-filled [] = tt
room-filled (v ∷ vs) = (refl, room-filled vs)

pub kept-filled : {B : List (Buffer ℕ)} (vs : List (Vec ℕ)) {R W : List ℕ} → B ≡ map filled vs
    → length vs ≡ 64 → AreClosedEmpty (vector_bytes vs) R W → AreKept B R W
kept-filled {B} vs {R} {W} e n closed = record {
  count = ap length e ∙ length-map vs filled ∙ n;
  rooms = subst (λ (xs : List (Buffer ℕ)). All IsPipeBuffer xs) (sym e)
      (All-from_recursion IsPipeBuffer (map filled vs) (room-filled vs));
  closed = λ j r w. ap (λ (xs : List (List ℕ)). get_or xs j [])
      (ap held_bytes e ∙ held-filled vs) ∙ closed j r w;
}
