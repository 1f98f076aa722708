-- The index of written words: nothing in it, a word more, a word changed, and a search.
use Rattle.std.proofs.Common.{ℕ, zero, suc, ◌+◌, ◌*◌, ◌/◌, ◌^◌, ◌%◌, ◌-◌, ◌≡◌, ◌≢◌, ◌<◌, ◌≤◌, ◌⊎◌}
use Rattle.std.proofs.Common.{inl, inr}
use Rattle.std.proofs.Common.{refl, sym, ap, ◌∙◌, subst, Bool, true, false, List, [], ◌∷◌, ◌++◌}
use Rattle.std.proofs.Common.{length, set, cond, Option, Some, arith, eqb, eq-eqb, eqb-true}
use Rattle.std.proofs.Common.{length-set, length-append}
use Rattle.std.specs.Prelude.{slice_get, slice_index, slice_index_or, slice_set, replicate, ◌&&◌}
use Rattle.std.specs.Prelude.{◌||◌, ◌==◌}
use Rattle.std.specs.List.{list_any}
use Rattle.std.proofs.Math.Seq.{get_or-append_seam}
use Rattle.std.proofs.lemmas.Bool.Decides.{eqb_tells}
use Rattle.std.proofs.lemmas.Grind.{get_or-set_at}
use Rattle.std.proofs.lemmas.List.{get_or-replicate, get_or-set_other, get_or_append_left}
use Rattle.std.proofs.lemmas.List.Elements.{All-append, All-cons, All-nil, All-set}
use Rattle.std.proofs.lemmas.Nat.{or_lt}
use Rattle.dos_world.specs.Bytes.{bytes_of}
use Rattle.written_words.specs.declared.Written.{Written}
use Rattle.written_words.specs.Words.{is_at, with_word_changed, with_bytes_from}
use Rattle.written_words.specs.Index.{FramesAreMarked, HasNoneOf, IsIndexed, IsLast, IsAlignedWord}
use Rattle.written_words.specs.Index.{IsFound, chain_of}

-- ---- a search

-- As far as a word of this frame and offset was searched for: it can only stand below this place,
-- counted from 1, whose word is in its chain.
pub record IsSearch (words : List Written) (frame offset place : ℕ) : Type 0 where
  pub within : place ≤ length words
  pub own : (i : ℕ) (x : Written) → suc i ≡ place → slice_get words i ≡ Some x
      → chain_of x.frame x.offset ≡ chain_of frame offset
  pub below : (i : ℕ) (x : Written) → slice_get words i ≡ Some x
      → x.frame ≡ frame → x.offset ≡ offset → i < place

-- ---- lists

pub got : {A : Type 0} (xs : List A) (y x : A) (i : ℕ) → slice_get (xs ++ y ∷ []) i ≡ Some x
    → ((i < length xs) × (slice_get xs i ≡ Some x)) ⊎ ((i ≡ length xs) × (y ≡ x))
got [] y x zero h = inr (refl, cc)
got [] y x (suc i) h = cc
got (a ∷ xs) y x zero h = inl (omega arith, h)
got (a ∷ xs) y x (suc i) h = later (got xs y x i h)
  where
    later : ((i < length xs) × (slice_get xs i ≡ Some x)) ⊎ ((i ≡ length xs) × (y ≡ x))
        → ((suc i < suc (length xs)) × (slice_get xs i ≡ Some x))
        ⊎ ((suc i ≡ suc (length xs)) × (y ≡ x))
    later (inl p) = inl (omega (arith, p.0), p.1)
    later (inr p) = inr (omega (arith, p.0), p.1)

got-within : {A : Type 0} (xs : List A) (x : A) (i : ℕ) → slice_get xs i ≡ Some x → i < length xs
got-within [] x i h = cc
got-within (a ∷ xs) x zero h = omega arith
got-within (a ∷ xs) x (suc i) h = let r = got-within xs x i h in omega (arith, r)

pub three : (n : ℕ) → n + 2 ≤ 4 → 3 * 2 ^ n % 2 ^ 32 ≡ 3 * 2 ^ n
three zero h = refl
three (suc zero) h = refl
three (suc (suc zero)) h = refl
three (suc (suc (suc n))) h = absurd (omega (arith, h))

-- ---- the test of a word

both-true : (a b : Bool) → (a && b) ≡ true → (a ≡ true) × (b ≡ true)
both-true true b h = (refl, h)
both-true false b h = cc

both-false : (a b : Bool) → (a || b) ≡ false → (a ≡ false) × (b ≡ false)
both-false false b h = (refl, h)
both-false true b h = cc

pub is_at-true : (f o : ℕ) (x : Written) → x.frame ≡ f → x.offset ≡ o → is_at f o x ≡ true
is_at-true f o x a b =
    ap (λ c. c && (x.offset == o)) (eq-eqb x.frame f a) ∙ eq-eqb x.offset o b

pub is_at-key : (f o : ℕ) (x : Written) → is_at f o x ≡ true → (x.frame ≡ f) × (x.offset ≡ o)
is_at-key f o x h =
    let both = both-true (x.frame == f) (x.offset == o) h in
    (eqb-true x.frame f both.0, eqb-true x.offset o both.1)

pub Some-word : {x y : Written} → ◌≡◌ {A = Option Written} (Some x) (Some y) → x ≡ y
Some-word h = cc

-- none of the words is this one
pub none-at : (words : List Written) (f o i : ℕ) (x : Written)
    → list_any (is_at f o) words ≡ false → slice_get words i ≡ Some x
    → x.frame ≡ f → x.offset ≡ o → ⊥
none-at [] f o i x none h a b = cc
none-at (y ∷ words) f o zero x none h a b =
    let first = (both-false (is_at f o y) (list_any (is_at f o) words) none).0 in
    let same : y ≡ x = Some-word h in
    let is = is_at-true f o y (ap (λ (z : Written). z.frame) same ∙ a)
    (ap (λ (z : Written). z.offset) same ∙ b) in
    cc
none-at (y ∷ words) f o (suc i) x none h a b =
    none-at words f o i x (both-false (is_at f o y) (list_any (is_at f o) words) none).1 h a b

pub none-found : (words : List Written) (f o : ℕ)
    → ((i : ℕ) (x : Written) → slice_get words i ≡ Some x → x.frame ≡ f → x.offset ≡ o → ⊥)
    → list_any (is_at f o) words ≡ false
none-found [] f o none = refl
none-found (y ∷ words) f o none =
    by_test (none-found words f o (λ i x h. none (suc i) x h)) (is_at f o y) refl
  where
    by_test : list_any (is_at f o) words ≡ false → (b : Bool) → is_at f o y ≡ b
        → (is_at f o y || list_any (is_at f o) words) ≡ false
    by_test rest true is = let key = is_at-key f o y is in absurd (none zero y refl key.0 key.1)
    by_test rest false is = ap (λ b. b || list_any (is_at f o) words) is ∙ rest

pub some-at : (words : List Written) (f o i : ℕ) (x : Written) → slice_get words i ≡ Some x
    → is_at f o x ≡ true → list_any (is_at f o) words ≡ true
some-at [] f o i x h is = cc
some-at (y ∷ words) f o zero x h is =
    let same : y ≡ x = Some-word h in
    ap (λ b. b || list_any (is_at f o) words) (ap (is_at f o) same ∙ is)
some-at (y ∷ words) f o (suc i) x h is = by_test (some-at words f o i x h is) (is_at f o y)
  where
    by_test : list_any (is_at f o) words ≡ true → (b : Bool)
        → (b || list_any (is_at f o) words) ≡ true
    by_test rest true = refl
    by_test rest false = rest

-- where one word alone passes the test, it alone is changed
changed-none : (f o : ℕ) (change : Written → Written) (words : List Written)
    → ((i : ℕ) (x : Written) → slice_get words i ≡ Some x → is_at f o x ≡ true → ⊥)
    → with_word_changed f o change words ≡ words
changed-none f o change [] none = refl
changed-none f o change (y ∷ words) none =
    by_test (changed-none f o change words (λ i x h. none (suc i) x h)) (is_at f o y) refl
  where
    by_test : with_word_changed f o change words ≡ words → (b : Bool) → is_at f o y ≡ b
        → with_word_changed f o change (y ∷ words) ≡ y ∷ words
    by_test rest true is = absurd (none zero y refl is)
    by_test rest false is =
        ap (λ b. cond b (change y) y ∷ with_word_changed f o change words) is
        ∙ ap (λ xs. y ∷ xs) rest

pub changed-one : (f o : ℕ) (change : Written → Written) (words : List Written) (place : ℕ)
    (x : Written) → slice_get words place ≡ Some x → is_at f o x ≡ true
    → ((i : ℕ) (y : Written) → slice_get words i ≡ Some y → is_at f o y ≡ true → i ≡ place)
    → with_word_changed f o change words ≡ set words place (change x)
changed-one f o change [] place x h is only = cc
changed-one f o change (y ∷ words) zero x h is only =
    let same : y ≡ x = Some-word h in
    ap (λ b. cond b (change y) y ∷ with_word_changed f o change words) (ap (is_at f o) same ∙ is)
    ∙ ap (λ z. change z ∷ with_word_changed f o change words) same
    ∙ ap (λ xs. change x ∷ xs) (changed-none f o change words
    (λ i z g k. let at = only (suc i) z g k in omega (arith, at)))
changed-one f o change (y ∷ words) (suc place) x h is only =
    by_test (changed-one f o change words place x h is
    (λ i z g k. let at = only (suc i) z g k in omega (arith, at))) (is_at f o y) refl
  where
    by_test : with_word_changed f o change words ≡ set words place (change x) → (b : Bool)
        → is_at f o y ≡ b
        → with_word_changed f o change (y ∷ words) ≡ y ∷ set words place (change x)
    by_test rest true q = let at = only zero y refl q in absurd (omega (arith, at))
    by_test rest false q =
        ap (λ b. cond b (change y) y ∷ with_word_changed f o change words) q
        ∙ ap (λ xs. y ∷ xs) rest

-- ---- at first sight

-- the last word of a chain, where there is one
pub last-within : (words : List Written) (before last : List ℕ) → IsIndexed words before last
    → (chain : ℕ) → chain < 1024 → slice_index last chain ≤ length words
last-within words before last h chain small = (h.heads chain small).within

-- a word of this frame and offset is the only one
pub only-one : (words : List Written) (before last : List ℕ) → IsIndexed words before last
    → (f o place : ℕ) (x : Written) → slice_get words place ≡ Some x → x.frame ≡ f
    → x.offset ≡ o → IsFound words f o place
only-one words before last h f o place x at a b = record {
  word = x;
  here = at;
  is = is_at-true f o x a b;
  only = λ i y g d e. h.apart i place y x g at (d ∙ sym a) (e ∙ sym b);
}

-- ---- nothing in it

none-last : (chain place : ℕ) → place ≡ 0 → IsLast [] 0 chain place
none-last chain place is = record {
  within = omega (arith, is);
  own = λ i x at got. cc;
  last = λ i x below got same. cc;
}

pub none_indexed : (words : List Written) (before last : List ℕ) → words ≡ [] → before ≡ []
    → last ≡ replicate 1024 0 → IsIndexed words before last
none_indexed words before last words_are before_are last_are =
    subst (λ (w : List Written). IsIndexed w before last) (sym words_are)
    (subst (λ (b : List ℕ). IsIndexed [] b last) (sym before_are)
    (subst (λ (l : List ℕ). IsIndexed [] [] l) (sym last_are) nothing))
  where
    nothing : IsIndexed [] [] (replicate 1024 0)
    nothing = record {
      few = omega arith;
      chains = refl;
      level = refl;
      each = All-nil IsAlignedWord;
      apart = λ i j x y at there frame offset. cc;
      heads = λ chain small. none-last chain _ (get_or-replicate 1024 chain 0 0 small);
      links = λ i x at. cc;
    }

-- ---- a word more

lift-last : (words : List Written) (word : Written) (n chain place : ℕ) → n ≤ length words
    → IsLast words n chain place → IsLast (words ++ word ∷ []) n chain place
lift-last words word n chain place few h = record {
  within = h.within;
  own = λ i x at g. own i x at (got words word x i g);
  last = λ i x below g same. last i x below same (got words word x i g);
}
  where
    own : (i : ℕ) (x : Written) → suc i ≡ place
        → ((i < length words) × (slice_get words i ≡ Some x)) ⊎ ((i ≡ length words) × (word ≡ x))
        → chain_of x.frame x.offset ≡ chain
    own i x at (inl p) = h.own i x at p.1
    own i x at (inr p) = let within = h.within in absurd (omega (arith, at, p.0, within, few))

    last : (i : ℕ) (x : Written) → i < n → chain_of x.frame x.offset ≡ chain
        → ((i < length words) × (slice_get words i ≡ Some x)) ⊎ ((i ≡ length words) × (word ≡ x))
        → i < place
    last i x below same (inl p) = h.last i x below p.1 same
    last i x below same (inr p) = absurd (omega (arith, below, p.0, few))

chain-small : (f o : ℕ) → chain_of f o < 1024
chain-small f o = omega arith

module _ (words : List Written) (before last : List ℕ) (word : Written)
    (few : length words < 1024) (is : IsAlignedWord word)
    (other : list_any (is_at word.frame word.offset) words ≡ false)
    (h : IsIndexed words before last) where
  abbrev chain : ℕ
  chain = chain_of word.frame word.offset

  abbrev more : List Written
  more = words ++ word ∷ []

  count : length more ≡ length words + 1
  count = length-append words (word ∷ [])

  head-same : (c : ℕ) → c ≡ chain → IsLast more (length more) c (length words + 1)
  head-same c same = record {
    within = omega (arith, count);
    own = λ i x at g. own i x at (got words word x i g);
    last = λ i x below g k. omega (arith, below, count);
  }
    where
      own : (i : ℕ) (x : Written) → suc i ≡ length words + 1
          → ((i < length words) × (slice_get words i ≡ Some x)) ⊎ ((i ≡ length words) × (word ≡ x))
          → chain_of x.frame x.offset ≡ c
      own i x at (inl p) = absurd (omega (arith, at, p.0))
      own i x at (inr p) = ap (λ (z : Written). chain_of z.frame z.offset) (sym p.1) ∙ sym same

  head-other : (c : ℕ) (place : ℕ) → c ≢ chain → IsLast words (length words) c place
      → IsLast more (length more) c place
  head-other c place differs old = record {
    within = omega (arith, count, old.within);
    own = λ i x at g. own i x at (got words word x i g);
    last = λ i x below g k. last_of i x k (got words word x i g);
  }
    where
      own : (i : ℕ) (x : Written) → suc i ≡ place
          → ((i < length words) × (slice_get words i ≡ Some x)) ⊎ ((i ≡ length words) × (word ≡ x))
          → chain_of x.frame x.offset ≡ c
      own i x at (inl p) = old.own i x at p.1
      own i x at (inr p) = let within = old.within in absurd (omega (arith, at, p.0, within))

      last_of : (i : ℕ) (x : Written) → chain_of x.frame x.offset ≡ c
          → ((i < length words) × (slice_get words i ≡ Some x)) ⊎ ((i ≡ length words) × (word ≡ x))
          → i < place
      last_of i x k (inl p) = old.last i x p.0 p.1 k
      last_of i x k (inr p) =
          absurd (differs (sym k ∙ ap (λ (z : Written). chain_of z.frame z.offset) (sym p.1)))

  heads-more : (c : ℕ) → c < 1024
      → IsLast more (length more) c (slice_index (slice_set last chain (length words + 1)) c)
  heads-more c small = by_test (eqb_tells c chain)
    where
      by_test : ((eqb c chain ≡ true) × (c ≡ chain)) ⊎ ((eqb c chain ≡ false) × (c ≢ chain))
          → IsLast more (length more) c (slice_index (slice_set last chain (length words + 1)) c)
      by_test (inl p) =
          let room : chain < length last = omega (arith, small, p.1, h.chains) in
          subst (λ n. IsLast more (length more) c n)
          (sym (get_or-set_at last chain c (length words + 1) 0 p.1 room)) (head-same c p.1)
      by_test (inr p) =
          subst (λ n. IsLast more (length more) c n)
          (sym (get_or-set_other last chain c (length words + 1) 0 p.1))
          (head-other c (slice_index last c) p.1 (h.heads c small))

  abbrev links_are : List ℕ
  links_are = before ++ slice_index last chain ∷ []

  links-more : (i : ℕ) (x : Written)
      → ((i < length words) × (slice_get words i ≡ Some x)) ⊎ ((i ≡ length words) × (word ≡ x))
      → IsLast more i (chain_of x.frame x.offset) (slice_index links_are i)
  links-more i x (inl p) =
      let within : i < length before = omega (arith, p.0, h.level) in
      subst (λ n. IsLast more i (chain_of x.frame x.offset) n)
      (sym (get_or_append_left before (slice_index last chain ∷ []) 0 i within))
      (lift-last words word i (chain_of x.frame x.offset) (slice_index before i)
      (omega (arith, p.0)) (h.links i x p.1))
  links-more i x (inr p) =
      let at : i ≡ length before = omega (arith, p.0, h.level) in
      let old = lift-last words word (length words) chain (slice_index last chain) (omega arith)
      (h.heads chain (chain-small word.frame word.offset)) in
      subst (λ c. IsLast more i c (slice_index links_are i))
      (ap (λ (z : Written). chain_of z.frame z.offset) p.1)
      (subst (λ k. IsLast more k chain (slice_index links_are k)) (sym at)
      (subst (λ n. IsLast more (length before) chain n)
      (sym (get_or-append_seam before (slice_index last chain) [] 0))
      (subst (λ k. IsLast more k chain (slice_index last chain)) (sym h.level) old)))

  pub pushed : IsIndexed more links_are (slice_set last chain (length words + 1))
  pushed = record {
    few = omega (arith, count, few);
    chains = length-set last chain (length words + 1) ∙ h.chains;
    level = omega (arith, count, h.level, length-append before (slice_index last chain ∷ []));
    each = All-append IsAlignedWord words (word ∷ []) h.each
        (All-cons IsAlignedWord word [] is (All-nil IsAlignedWord));
    apart = λ i j x y g k frame offset.
        apart i j x y frame offset (got words word x i g) (got words word y j k);
    heads = heads-more;
    links = λ i x g. links-more i x (got words word x i g);
  }
    where
      apart : (i j : ℕ) (x y : Written) → x.frame ≡ y.frame → x.offset ≡ y.offset
          → ((i < length words) × (slice_get words i ≡ Some x)) ⊎ ((i ≡ length words) × (word ≡ x))
          → ((j < length words) × (slice_get words j ≡ Some y)) ⊎ ((j ≡ length words) × (word ≡ y))
          → i ≡ j
      apart i j x y frame offset (inl p) (inl q) = h.apart i j x y p.1 q.1 frame offset
      apart i j x y frame offset (inl p) (inr q) =
          absurd (none-at words word.frame word.offset i x other p.1
          (frame ∙ ap (λ (z : Written). z.frame) (sym q.1))
          (offset ∙ ap (λ (z : Written). z.offset) (sym q.1)))
      apart i j x y frame offset (inr p) (inl q) =
          absurd (none-at words word.frame word.offset j y other q.1
          (sym frame ∙ ap (λ (z : Written). z.frame) (sym p.1))
          (sym offset ∙ ap (λ (z : Written). z.offset) (sym p.1)))
      apart i j x y frame offset (inr p) (inr q) = p.0 ∙ sym q.0

-- the same, as the code writes it
pub pushed-by : (words : List Written) (before last : List ℕ) (word : Written)
    (words' : List Written) (before' last' : List ℕ) (k link n : ℕ)
    → words' ≡ words ++ word ∷ [] → before' ≡ before ++ link ∷ []
    → last' ≡ slice_set last k n → k ≡ chain_of word.frame word.offset
    → link ≡ slice_index last k → n ≡ length words + 1
    → length words < 1024 → IsAlignedWord word
    → list_any (is_at word.frame word.offset) words ≡ false
    → IsIndexed words before last → IsIndexed words' before' last'
pushed-by words before last word words' before' last' k link n a b c d e f few is other h =
    let c' : chain_of word.frame word.offset ≡ k = sym d in
    subst (λ (x : List Written). IsIndexed x before' last') (sym a)
    (subst (λ (x : List ℕ). IsIndexed (words ++ word ∷ []) x last') (sym b)
    (subst (λ (x : List ℕ). IsIndexed (words ++ word ∷ []) (before ++ link ∷ []) x) (sym c)
    (subst (λ m. IsIndexed (words ++ word ∷ []) (before ++ link ∷ []) (slice_set last k m))
    (sym f)
    (subst (λ m. IsIndexed (words ++ word ∷ []) (before ++ m ∷ [])
    (slice_set last k (length words + 1))) (sym e)
    (subst (λ m. IsIndexed (words ++ word ∷ []) (before ++ slice_index last m ∷ [])
    (slice_set last m (length words + 1))) c'
    (pushed words before last word few is other h))))))

-- ---- a word changed

-- what stood at a place, with the same frame and offset
pub record Was (words : List Written) (i : ℕ) (z : Written) : Type 0 where
  pub word : Written
  pub here : slice_get words i ≡ Some word
  pub frame : word.frame ≡ z.frame
  pub offset : word.offset ≡ z.offset

was : (words : List Written) (place i : ℕ) (x y z : Written) → slice_get words place ≡ Some x
    → y.frame ≡ x.frame → y.offset ≡ x.offset → slice_get (set words place y) i ≡ Some z
    → Was words i z
was [] place i x y z h a b g = cc
was (w ∷ words) zero zero x y z h a b g =
    let same : w ≡ x = Some-word h in
    let new : y ≡ z = Some-word g in
    record {
      word = w;
      here = refl;
      frame = ap (λ (v : Written). v.frame) same ∙ sym a ∙ ap (λ (v : Written). v.frame) new;
      offset = ap (λ (v : Written). v.offset) same ∙ sym b ∙ ap (λ (v : Written). v.offset) new;
    }
was (w ∷ words) zero (suc i) x y z h a b g =
    record { word = z; here = g; frame = refl; offset = refl }
was (w ∷ words) (suc place) zero x y z h a b g =
    record { word = z; here = g; frame = refl; offset = refl }
was (w ∷ words) (suc place) (suc i) x y z h a b g =
    let r = was words place i x y z h a b g in
    record { word = r.word; here = r.here; frame = r.frame; offset = r.offset }

same-last : (words new : List Written) (n k place : ℕ)
    → ((i : ℕ) (z : Written) → slice_get new i ≡ Some z → Was words i z)
    → IsLast words n k place → IsLast new n k place
same-last words new n k place back h = record {
  within = h.within;
  own = λ i z at g. let r = back i z g in sym (chain-is r) ∙ h.own i r.word at r.here;
  last = λ i z below g is. let r = back i z g in h.last i r.word below r.here (chain-is r ∙ is);
}
  where
    chain-is : {i : ℕ} {z : Written} (r : Was words i z)
        → chain_of r.word.frame r.word.offset ≡ chain_of z.frame z.offset
    chain-is {i} {z} r =
        ap (λ f. chain_of f r.word.offset) r.frame ∙ ap (chain_of z.frame) r.offset

pub changed : (words : List Written) (before last : List ℕ) (place : ℕ) (x y : Written)
    → slice_get words place ≡ Some x → y.frame ≡ x.frame → y.offset ≡ x.offset → IsAlignedWord y
    → IsIndexed words before last → IsIndexed (slice_set words place y) before last
changed words before last place x y at frame offset is h = record {
  few = omega (arith, length-set words place y, h.few);
  chains = h.chains;
  level = h.level ∙ sym (length-set words place y);
  each = All-set IsAlignedWord words place y is h.each;
  apart = λ i j v w g k f o.
      let r = back i v g in
      let q = back j w k in
      h.apart i j r.word q.word r.here q.here (r.frame ∙ f ∙ sym q.frame)
      (r.offset ∙ o ∙ sym q.offset);
  heads = λ chain small.
      subst (λ n. IsLast (slice_set words place y) n chain (slice_index last chain))
      (sym (length-set words place y))
      (same-last words (slice_set words place y) (length words) chain (slice_index last chain) back
      (h.heads chain small));
  links = λ i v g.
      let r = back i v g in
      subst (λ c. IsLast (slice_set words place y) i c (slice_index before i))
      (ap (λ f. chain_of f r.word.offset) r.frame ∙ ap (chain_of v.frame) r.offset)
      (same-last words (slice_set words place y) i (chain_of r.word.frame r.word.offset)
      (slice_index before i) back (h.links i r.word r.here));
}
  where
    back : (i : ℕ) (z : Written) → slice_get (slice_set words place y) i ≡ Some z → Was words i z
    back i z g = was words place i x y z at frame offset g

-- a word stays one as bytes of it are written
pub stored-is-word : (x : Written) (first count : ℕ) (new : List ℕ) → length new ≡ count
    → first + count ≤ 4 → IsAlignedWord x → IsAlignedWord (with_bytes_from first new x)
stored-is-word x first count new long fits is = record {
  aligned = is.aligned;
  within = is.within;
  mask = or_lt 4 x.mask ((2 ^ length new - 1) * 2 ^ first) is.mask
      (subst (λ n. (2 ^ n - 1) * 2 ^ first < 16) (sym long) (small first count fits));
}
  where
    small : (first count : ℕ) → first + count ≤ 4 → (2 ^ count - 1) * 2 ^ first < 16
    small zero zero h = omega arith
    small zero (suc zero) h = omega arith
    small zero (suc (suc zero)) h = omega arith
    small zero (suc (suc (suc zero))) h = omega arith
    small zero (suc (suc (suc (suc zero)))) h = omega arith
    small zero (suc (suc (suc (suc (suc n))))) h = absurd (omega (arith, h))
    small (suc zero) zero h = omega arith
    small (suc zero) (suc zero) h = omega arith
    small (suc zero) (suc (suc zero)) h = omega arith
    small (suc zero) (suc (suc (suc zero))) h = omega arith
    small (suc zero) (suc (suc (suc (suc n)))) h = absurd (omega (arith, h))
    small (suc (suc zero)) zero h = omega arith
    small (suc (suc zero)) (suc zero) h = omega arith
    small (suc (suc zero)) (suc (suc zero)) h = omega arith
    small (suc (suc zero)) (suc (suc (suc n))) h = absurd (omega (arith, h))
    small (suc (suc (suc zero))) zero h = omega arith
    small (suc (suc (suc zero))) (suc zero) h = omega arith
    small (suc (suc (suc zero))) (suc (suc n)) h = absurd (omega (arith, h))
    small (suc (suc (suc (suc zero)))) zero h = omega arith
    small (suc (suc (suc (suc zero)))) (suc n) h = absurd (omega (arith, h))
    small (suc (suc (suc (suc (suc m))))) n h = absurd (omega (arith, h))

pub length-bytes : (k n : ℕ) → length (bytes_of k n) ≡ k
length-bytes zero n = refl
length-bytes (suc k) n = ap suc (length-bytes k (n / 256))

-- ---- marks

pub none_marked : (words : List Written) (marks : List Bool) → words ≡ []
    → marks ≡ replicate 256 false → FramesAreMarked words marks
none_marked words marks words_are marks_are =
    subst (λ (w : List Written). FramesAreMarked w marks) (sym words_are)
    (subst (λ (m : List Bool). FramesAreMarked [] m) (sym marks_are)
    (record { count = refl; each = λ i x at. cc }))

-- a word more, and the mark of its frame set
pub marked-by : (words : List Written) (marks : List Bool) (word : Written)
    (words' : List Written) (marks' : List Bool) (k : ℕ)
    → words' ≡ words ++ word ∷ [] → marks' ≡ slice_set marks k true → k ≡ word.frame % 256
    → FramesAreMarked words marks → FramesAreMarked words' marks'
marked-by words marks word words' marks' k a b c h =
    subst (λ (w : List Written). FramesAreMarked w marks') (sym a)
    (subst (λ (m : List Bool). FramesAreMarked (words ++ word ∷ []) m) (sym b) (record {
      count = length-set marks k true ∙ h.count;
      each = λ i x at. by_word x (got words word x i at);
    }))
  where
    by_test : (n : ℕ) → ((eqb n k ≡ true) × (n ≡ k)) ⊎ ((eqb n k ≡ false) × (n ≢ k))
        → (n < 256) → (n ≢ k → slice_index_or marks n false ≡ true)
        → slice_index_or (slice_set marks k true) n false ≡ true
    by_test n (inl p) small old =
        get_or-set_at marks k n true false p.1 (omega (arith, small, p.1, h.count))
    by_test n (inr p) small old = get_or-set_other marks k n true false p.1 ∙ old p.1

    by_word : {i : ℕ} (x : Written)
        → ((i < length words) × (slice_get words i ≡ Some x)) ⊎ ((i ≡ length words) × (word ≡ x))
        → slice_index_or (slice_set marks k true) (x.frame % 256) false ≡ true
    by_word {i} x (inl p) =
        by_test (x.frame % 256) (eqb_tells (x.frame % 256) k) (omega arith)
        (λ other. h.each i x p.1)
    by_word {i} x (inr p) =
        by_test (x.frame % 256) (eqb_tells (x.frame % 256) k) (omega arith)
        (λ other. absurd (other (ap (λ (z : Written). z.frame % 256) (sym p.1) ∙ sym c)))

-- a word changed
pub marked-changed : (words : List Written) (marks : List Bool) (place : ℕ) (x y : Written)
    → slice_get words place ≡ Some x → y.frame ≡ x.frame → y.offset ≡ x.offset
    → FramesAreMarked words marks → FramesAreMarked (slice_set words place y) marks
marked-changed words marks place x y at frame offset h = record {
  count = h.count;
  each = λ i z g.
      let r = was words place i x y z at frame offset g in
      ap (λ n. slice_index_or marks (n % 256) false) (sym r.frame) ∙ h.each i r.word r.here;
}

-- where the mark of a frame isn't set, no word is of it
pub none-of : (words : List Written) (marks : List Bool) (frame : ℕ) → FramesAreMarked words marks
    → slice_index_or marks (frame % 256) false ≡ false → HasNoneOf words frame
none-of words marks frame h not_set = λ i x at is.
    never (sym (ap (λ n. slice_index_or marks (n % 256) false) is) ∙ h.each i x at) not_set
  where
    never : {b : Bool} → b ≡ true → b ≡ false → ⊥
    never a b = cc
