-- A pack with a page more, and with one less.
use Rattle.std.proofs.Common.{ℕ, zero, suc, ◌+◌, ◌^◌, ◌<◌, ◌≤◌, ◌≡◌, ◌≢◌, ◌⊎◌, inl, inr, refl, sym}
use Rattle.std.proofs.Common.{ap, ◌∙◌, subst, Bool, true, false, eqb, eqb-true, List, [], ◌∷◌, ◌++◌}
use Rattle.std.proofs.Common.{length, set, slice_get, is_some, replicate, Option, Some, None, arith}
use Rattle.std.proofs.Common.{length-set, length-append}
use Rattle.page_store.specs.Store.{whole, shown}
use Rattle.dos_world.specs.World.{Registers}
use Rattle.quantum_run.specs.Shows.{Pack}
use Rattle.written_words.specs.declared.Written.{Written}
use Rattle.quantum_run.specs.Pages.{is_here}
use Rattle.quantum_run.specs.Packs.{IsPacked, bytes_of_frame, how_many, paired}
use Rattle.quantum_run.proofs.Overlay.{here-within}
use Rattle.quantum_run.proofs.Packing.{paired-at}

-- ---- one number more in a list

pub at-last : (xs : List ℕ) (x : ℕ) → slice_get (xs ++ x ∷ []) (length xs) ≡ Some x
at-last [] x = refl
at-last (y ∷ xs) x = at-last xs x

pub at-first : (xs : List ℕ) (x i y : ℕ) → slice_get xs i ≡ Some y
    → slice_get (xs ++ x ∷ []) i ≡ Some y
at-first [] x i y h = cc
at-first (z ∷ xs) x zero y h = h
at-first (z ∷ xs) x (suc i) y h = at-first xs x i y h

pub at-either : (xs : List ℕ) (x i y : ℕ) → slice_get (xs ++ x ∷ []) i ≡ Some y
    → (slice_get xs i ≡ Some y) ⊎ ((i ≡ length xs) × (y ≡ x))
at-either [] x zero y h = inr (refl, Some-is (sym h))
  where
    Some-is : {a b : ℕ} → ◌≡◌ {A = Option ℕ} (Some a) (Some b) → a ≡ b
    Some-is q = cc
at-either [] x (suc i) y h = cc
at-either (z ∷ xs) x zero y h = inl h
at-either (z ∷ xs) x (suc i) y h = go (at-either xs x i y h)
  where
    go : (slice_get xs i ≡ Some y) ⊎ ((i ≡ length xs) × (y ≡ x))
        → (slice_get xs i ≡ Some y) ⊎ ((suc i ≡ suc (length xs)) × (y ≡ x))
    go (inl q) = inl q
    go (inr q) = inr (ap suc q.0, q.1)

pub at-within : (xs : List ℕ) (i y : ℕ) → slice_get xs i ≡ Some y → i < length xs
at-within [] i y h = cc
at-within (z ∷ xs) zero y h = omega arith
at-within (z ∷ xs) (suc i) y h = let r = at-within xs i y h in omega (arith, r)

-- ---- one page set

abbrev Table : Type 0
Table = List (Option (List ℕ))

at-other : (table : Table) (f : ℕ) (x : Option (List ℕ)) (g : ℕ) → g ≢ f
    → slice_get (set table f x) g ≡ slice_get table g
at-other [] f x g other = refl
at-other (y ∷ table) zero x zero other = absurd (other refl)
at-other (y ∷ table) zero x (suc g) other = refl
at-other (y ∷ table) (suc f) x zero other = refl
at-other (y ∷ table) (suc f) x (suc g) other = at-other table f x g (λ e. other (ap suc e))

at-there : (table : Table) (f : ℕ) (x : Option (List ℕ)) → f < length table
    → slice_get (set table f x) f ≡ Some x
at-there [] f x h = absurd (omega arith)
at-there (y ∷ table) zero x h = refl
at-there (y ∷ table) (suc f) x h = at-there table f x (omega arith)

-- whether a page is here, and its bytes, by what stands at its place
abbrev here_of : Option (Option (List ℕ)) → Bool
here_of o = elim o as (λ _. Bool) [ None ↦ false | Some page ↦ is_some page ]

abbrev bytes_of : Option (Option (List ℕ)) → List ℕ
bytes_of o = elim o as (λ _. List ℕ) [ None ↦ shown None | Some page ↦ shown page ]

here-other : (table : Table) (f : ℕ) (x : Option (List ℕ)) (g : ℕ) → g ≢ f
    → is_here (set table f x) g ≡ is_here table g
here-other table f x g other = ap here_of (at-other table f x g other)

here-there : (table : Table) (f : ℕ) (x : Option (List ℕ)) → f < length table
    → is_here (set table f x) f ≡ is_some x
here-there table f x h = ap here_of (at-there table f x h)

many-more : (table : Table) (f : ℕ) (page : List ℕ) → f < length table → is_here table f ≡ false
    → how_many (set table f (Some page)) ≡ suc (how_many table)
many-more [] f page h e = absurd (omega arith)
many-more (None ∷ table) zero page h e = refl
many-more (Some x ∷ table) zero page h e = absurd (grind arith)
many-more (None ∷ table) (suc f) page h e = many-more table f page (omega arith) e
many-more (Some x ∷ table) (suc f) page h e = ap suc (many-more table f page (omega arith) e)

many-less : (table : Table) (f : ℕ) → is_here table f ≡ true
    → how_many table ≡ suc (how_many (set table f None))
many-less [] f e = absurd (grind arith)
many-less (None ∷ table) zero e = absurd (grind arith)
many-less (Some x ∷ table) zero e = refl
many-less (None ∷ table) (suc f) e = many-less table f e
many-less (Some x ∷ table) (suc f) e = ap suc (many-less table f e)

many-most : (table : Table) → how_many table ≤ length table
many-most [] = omega arith
many-most (None ∷ table) = let r = many-most table in omega (arith, r)
many-most (Some x ∷ table) = let r = many-most table in omega (arith, r)

many-few : (table : Table) (f : ℕ) → f < length table → is_here table f ≡ false
    → how_many table < length table
many-few [] f h e = absurd (omega arith)
many-few (None ∷ table) zero h e = let r = many-most table in omega (arith, r)
many-few (Some x ∷ table) zero h e = absurd (grind arith)
many-few (None ∷ table) (suc f) h e = let r = many-few table f (omega arith) e in omega (arith, r)
many-few (Some x ∷ table) (suc f) h e = let r = many-few table f (omega arith) e in omega (arith, r)

pub paired-other : (held : List ℕ) (table : Table) (f : ℕ) (x : Option (List ℕ))
    → ((i g : ℕ) → slice_get held i ≡ Some g → g ≢ f)
    → paired held (set table f x) ≡ paired held table
paired-other [] table f x other = refl
paired-other (g ∷ held) table f x other =
    ap (λ bytes. (g, bytes) ∷ paired held (set table f x))
    (ap bytes_of (at-other table f x g (other 0 g refl)))
    ∙ ap (λ rest. (g, bytes_of_frame table g) ∷ rest)
    (paired-other held table f x (λ i k h. other (suc i) k h))

pub paired-more : (held : List ℕ) (table : Table) (f : ℕ)
    → paired (held ++ f ∷ []) table ≡ paired held table ++ (f, bytes_of_frame table f) ∷ []
paired-more [] table f = refl
paired-more (g ∷ held) table f =
    ap (λ rest. (g, bytes_of_frame table g) ∷ rest) (paired-more held table f)

-- ---- a page more, and one less

nothing-here : (n f : ℕ) → is_here (replicate n None) f ≡ true → ⊥
nothing-here zero f h = grind arith
nothing-here (suc n) zero h = grind arith
nothing-here (suc n) (suc f) h = nothing-here n f h

none-many : (n : ℕ) → how_many (replicate n None) ≡ 0
none-many zero = refl
none-many (suc n) = none-many n

abbrev nones : ℕ → Table
nones n = replicate n None

length-none : (n : ℕ) → length (nones n) ≡ n
length-none zero = refl
length-none (suc n) = ap suc (length-none n)

pub packed-empty : (n capacity : ℕ) → n ≤ capacity → n < 2 ^ 32
    → IsPacked [] (replicate n None) capacity
packed-empty n capacity fits few = record {
  here = λ i frame h. cc;
  all = λ frame h. absurd (nothing-here n frame h);
  apart = λ i j frame a b. cc;
  count = sym (none-many n);
  room_for = subst (λ (k : ℕ). k ≤ capacity) (sym (length-none n)) fits;
  few = subst (λ (k : ℕ). k < 2 ^ 32) (sym (length-none n)) few;
}

-- what isn't held isn't here
pub not-here : (held : List ℕ) (table : Table) (capacity : ℕ) (pages : List (ℕ × List ℕ)) (f : ℕ)
    → IsPacked held table capacity → paired held table ≡ pages
    → ((i : ℕ) (page : List ℕ) → slice_get pages i ≡ Some (f, page) → ⊥) → is_here table f ≡ false
not-here held table capacity pages f packed is none = by (is_here table f) refl
  where
    by : (b : Bool) → is_here table f ≡ b → is_here table f ≡ false
    by false e = e
    by true e = let a = packed.all f e in
        absurd (none a.0 (bytes_of_frame table f)
        (ap (λ ps. slice_get ps a.0) (sym is) ∙ paired-at held table a.0 f a.1))

module _ (held : List ℕ) (table : Table) (capacity : ℕ) (packed : IsPacked held table capacity)
    (f : ℕ) where
  -- room to hold one more
  pub room-left : f < length table → is_here table f ≡ false → length held + 1 ≤ capacity
  room-left h e = let a = packed.count in let b = many-few table f h e in let c = packed.room_for in
      omega (arith, a, b, c)

  pub not-held : is_here table f ≡ false → (i g : ℕ) → slice_get held i ≡ Some g → g ≢ f
  not-held e i g h q = let r = packed.here i g h in let s = ap (is_here table) q in
      grind (arith, e, r, s)

  pub packed-more : (page : List ℕ) (after : ℕ) → f < length table → is_here table f ≡ false
      → capacity ≤ after → IsPacked (held ++ f ∷ []) (set table f (Some page)) after
  packed-more page after h e grows = record {
    here = λ i frame at. here_by i frame (at-either held f i frame at);
    all = λ frame is. all_by frame (eqb frame f) refl is;
    apart = λ i j frame a b. apart_by i j frame (at-either held f i frame a)
        (at-either held f j frame b);
    count = length-append held (f ∷ []) ∙ omega (arith, packed.count, many-more table f page h e);
    room_for = subst (λ (k : ℕ). k ≤ after) (sym (length-set table f (Some page)))
        (omega (arith, packed.room_for, grows));
    few = subst (λ (k : ℕ). k < 2 ^ 32) (sym (length-set table f (Some page))) packed.few;
  }
    where
      here_by : (i frame : ℕ) → (slice_get held i ≡ Some frame) ⊎ ((i ≡ length held) × (frame ≡ f))
          → is_here (set table f (Some page)) frame ≡ true
      here_by i frame (inl at) = here-other table f (Some page) frame (not-held e i frame at)
          ∙ packed.here i frame at
      here_by i frame (inr q) = ap (is_here (set table f (Some page))) q.1
          ∙ here-there table f (Some page) h

      all_by : (frame : ℕ) (b : Bool) → eqb frame f ≡ b
          → is_here (set table f (Some page)) frame ≡ true
          → (i : ℕ) × (slice_get (held ++ f ∷ []) i ≡ Some frame)
      all_by frame true q is = (length held, at-last held f ∙ ap Some (sym (eqb-true frame f q)))
      all_by frame false q is =
          let other : frame ≢ f = λ z. grind (arith, z, q) in
          let a = packed.all frame (sym (here-other table f (Some page) frame other) ∙ is) in
          (a.0, at-first held f a.0 frame a.1)

      apart_by : (i j frame : ℕ) → (slice_get held i ≡ Some frame)
          ⊎ ((i ≡ length held) × (frame ≡ f)) → (slice_get held j ≡ Some frame)
          ⊎ ((j ≡ length held) × (frame ≡ f)) → i ≡ j
      apart_by i j frame (inl a) (inl b) = packed.apart i j frame a b
      apart_by i j frame (inl a) (inr b) = absurd (not-held e i frame a b.1)
      apart_by i j frame (inr a) (inl b) = absurd (not-held e j frame b a.1)
      apart_by i j frame (inr a) (inr b) = a.0 ∙ sym b.0

  pub paired-with : (page : List ℕ) → f < length table → is_here table f ≡ false
      → paired (held ++ f ∷ []) (set table f (Some page)) ≡ paired held table ++ (f, whole page)
      ∷ []
  paired-with page h e =
      paired-more held (set table f (Some page)) f
      ∙ ap (λ bytes. paired held (set table f (Some page)) ++ (f, bytes) ∷ [])
      (ap bytes_of (at-there table f (Some page) h))
      ∙ ap (λ rest. rest ++ (f, whole page) ∷ [])
      (paired-other held table f (Some page) (not-held e))

module _ (held : List ℕ) (table : Table) (capacity f : ℕ)
    (packed : IsPacked (held ++ f ∷ []) table capacity) where
  pub is-here : is_here table f ≡ true
  is-here = packed.here (length held) f (at-last held f)

  -- the last is none of those before it
  is-other : (i g : ℕ) → slice_get held i ≡ Some g → g ≢ f
  is-other i g h q =
      let same = packed.apart i (length held) f (at-first held f i g h ∙ ap Some q)
      (at-last held f) in
      let within = at-within held i g h in
      omega (arith, same, within)

  pub packed-less : (after : ℕ) → capacity ≤ after → IsPacked held (set table f None) after
  packed-less after grows = record {
    here = λ i frame at. here-other table f None frame (is-other i frame at)
        ∙ packed.here i frame (at-first held f i frame at);
    all = λ frame is. all_by frame (eqb frame f) refl is;
    apart = λ i j frame a b. packed.apart i j frame (at-first held f i frame a)
        (at-first held f j frame b);
    count = omega (arith, packed.count, length-append held (f ∷ []), many-less table f is-here);
    room_for = subst (λ (k : ℕ). k ≤ after) (sym (length-set table f None))
        (omega (arith, packed.room_for, grows));
    few = subst (λ (k : ℕ). k < 2 ^ 32) (sym (length-set table f None)) packed.few;
  }
    where
      all_by : (frame : ℕ) (b : Bool) → eqb frame f ≡ b → is_here (set table f None) frame ≡ true
          → (i : ℕ) × (slice_get held i ≡ Some frame)
      all_by frame true q is =
          let away : is_here (set table f None) f ≡ false =
          here-there table f None (here-within table f is-here) in
          let same = ap (is_here (set table f None)) (eqb-true frame f q) in
          absurd (grind (arith, away, same, is))
      all_by frame false q is =
          let other : frame ≢ f = λ z. grind (arith, z, q) in
          let a = packed.all frame (sym (here-other table f None frame other) ∙ is) in
          either a.0 (at-either held f a.0 frame a.1) other
        where
          either : (i : ℕ) → (slice_get held i ≡ Some frame) ⊎ ((i ≡ length held) × (frame ≡ f))
              → frame ≢ f → (k : ℕ) × (slice_get held k ≡ Some frame)
          either i (inl at) other = (i, at)
          either i (inr q) other = absurd (other q.1)

  pub paired-without : (page : List ℕ) → slice_get table f ≡ Some (Some page)
      → paired (held ++ f ∷ []) table ≡ paired held (set table f None) ++ (f, whole page) ∷ []
  paired-without page h =
      paired-more held table f
      ∙ ap (λ bytes. paired held table ++ (f, bytes) ∷ [])
      (ap bytes_of h)
      ∙ ap (λ rest. rest ++ (f, whole page) ∷ []) (sym (paired-other held table f None is-other))

-- a pack of these
abbrev pub packing : ℕ → ℕ → Registers → ℕ → Option (List Written) → List (ℕ × List ℕ) → ℕ → Pack
packing t p r b words pages room = record {
  thread = t;
  process = p;
  registers = r;
  budget = b;
  pages = pages;
  room = room;
  words = words;
}

pub packed-view : (t p : ℕ) (r : Registers) (b : ℕ) (words : Option (List Written))
    (pages after : List (ℕ × List ℕ)) (room left : ℕ) → after ≡ pages → left ≡ room
    → packing t p r b words after left ≡ packing t p r b words pages room
packed-view t p r b words pages after room left same level =
    ap (λ ps. packing t p r b words ps left) same ∙ ap (packing t p r b words pages) level
