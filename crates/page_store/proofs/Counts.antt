-- How a write changes what the frames keep.
use Rattle.std.proofs.Common.{◌≡◌, ◌≢◌, ◌⊎◌, ℕ, zero, suc, ◌+◌, ◌-◌, ◌^◌, ◌<◌, ◌≤◌, Bool, true}
use Rattle.std.proofs.Common.{false, cond, inl, inr, List, [], ◌∷◌, length, get_or, set, map, drop}
use Rattle.std.proofs.Common.{replicate, count_by, refl, sym, ap, ◌∙◌, arith}
use Rattle.std.specs.Prelude.{position, Option, Some, None, option_map, nat_lt}
use Rattle.std.specs.List.{position_or_len}
use Rattle.std.proofs.lemmas.List.Quantifiers.{position-Some}
use Rattle.std.proofs.lemmas.List.Recursion.{is_position_or_len}
use Rattle.std.proofs.lemmas.List.{length-map, length-set, length-replicate, map-set, set-get_or}
use Rattle.std.proofs.lemmas.List.{get_or-set_other}
use Rattle.std.proofs.Math.ListN.{get_or-map}
use Rattle.std.proofs.lemmas.List.Sums.{count_by-le-length, sum_by-set}
use Rattle.std.proofs.lemmas.List.Folds.{sum_by-replicate}
use Rattle.std.proofs.lemmas.Bool.{cases_eq, cases_lt}
use Rattle.std.proofs.lemmas.Bool.Decides.{nat_tests}
use Rattle.dos_world.specs.declared.Owner.{Owner}
use Rattle.dos_world.specs.declared.Owner.TheVariants.{Free, Shared}
use Rattle.dos_world.specs.World.{is_free}
use Rattle.page_store.specs.Store.{is_unused, AreFreeFrom, AreTallied}
use Rattle.hierarchical_bitmap.specs.Levels.{itself}

-- ---- the count of Free owners

abbrev counted : Bool → ℕ
counted b = cond b 1 0

pub count_by-taken : (xs : List Owner) (i : ℕ) (y : Owner) → i < length xs
    → is_free (get_or xs i Free) ≡ true → is_free y ≡ false
    → count_by is_free (set xs i y) + 1 ≡ count_by is_free xs
count_by-taken xs i y h e n =
    omega (arith, sum_by-set (λ x. cond (is_free x) 1 0) xs i y Free h, ap counted e, ap counted n)

pub count_by-freed : (xs : List Owner) (i : ℕ) → i < length xs → is_free (get_or xs i Free) ≡ false
    → count_by is_free (set xs i Free) ≡ count_by is_free xs + 1
count_by-freed xs i h e =
    omega (arith, sum_by-set (λ x. cond (is_free x) 1 0) xs i Free Free h, ap counted e)

pub count_by-granted : (xs : List Owner) (i : ℕ) (y : Owner) → i < length xs
    → is_free (get_or xs i Free) ≡ false → is_free y ≡ false
    → count_by is_free (set xs i y) ≡ count_by is_free xs
count_by-granted xs i y h e n =
    omega (arith, sum_by-set (λ x. cond (is_free x) 1 0) xs i y Free h, ap counted e, ap counted n)

-- ---- what isn't Free or has a use is a frame

pub owned-within : (xs : List Owner) (i : ℕ) → is_free (get_or xs i Free) ≡ false → i < length xs
owned-within [] i e = cc
owned-within (x ∷ xs) zero e = omega arith
owned-within (x ∷ xs) (suc i) e = omega (arith, owned-within xs i e)

pub used-within : (xs : List ℕ) (i : ℕ) → 0 < get_or xs i 0 → i < length xs
used-within [] i h = absurd (omega arith)
used-within (x ∷ xs) zero h = omega arith
used-within (x ∷ xs) (suc i) h = omega (arith, used-within xs i h)

pub used-owned : (owners : List Owner) (uses : List ℕ) (i : ℕ)
    → map is_free owners ≡ map is_unused uses → 0 < get_or uses i 0
    → is_free (get_or owners i Free) ≡ false
used-owned owners uses i e h =
    let some : is_unused (get_or uses i 0) ≡ false = grind (arith, nat_tests) in
    sym (get_or-map is_free owners i Free) ∙ ap (λ bs. get_or bs i true) e
    ∙ get_or-map is_unused uses i 0 ∙ some

-- ---- the first Free frame from one on

-- no frame below this one is Free
abbrev pub AreOwnedBelow : List Owner → ℕ → Type 0
AreOwnedBelow owners lowest = (frame : ℕ) → frame < lowest
    → is_free (get_or owners frame Free) ≡ false

shift_test : (a l : ℕ) → nat_lt (1 + a) (suc l) ≡ nat_lt a l
shift_test a l = grind (arith, nat_tests)

shifted : (a l : ℕ) → cond (nat_lt (1 + a) (suc l)) (Some (1 + a)) None
    ≡ option_map (λ i. 1 + i) (cond (nat_lt a l) (Some a) None)
shifted a l = ap (λ b. cond b (Some (1 + a)) None) (shift_test a l)
    ∙ elim (nat_lt a l) as (λ b. cond b (Some (1 + a)) None
    ≡ option_map (λ i. 1 + i) (cond b (Some a) None)) [ true ↦ refl | false ↦ refl ]

pub position_more : (x : Owner) (xs : List Owner) → is_free x ≡ false
    → position is_free (x ∷ xs) ≡ option_map (λ i. 1 + i) (position is_free xs)
position_more x xs e = rw e (shifted (position_or_len is_free xs) (length xs))

twice : (n : ℕ) (o : Option ℕ)
    → option_map (λ i. suc n + i) o ≡ option_map (λ i. 1 + i) (option_map (λ i. n + i) o)
twice n None = refl
twice n (Some i) = ap (λ m. Some m) (omega arith)

none_added : (o : Option ℕ) → option_map (λ i. 0 + i) o ≡ o
none_added None = refl
none_added (Some i) = ap (λ m. Some m) (omega arith)

-- where none below n is Free, the search may begin there
pub position-drop : (xs : List Owner) (n : ℕ) → n ≤ length xs → AreOwnedBelow xs n
    → option_map (λ i. n + i) (position is_free (drop n xs)) ≡ position is_free xs
position-drop xs zero h below = none_added (position is_free xs)
position-drop [] (suc n) h below = absurd (omega arith)
position-drop (x ∷ xs) (suc n) h below =
    let rest = position-drop xs n (omega arith) (λ k l. below (suc k) (omega arith)) in
    twice n (position is_free (drop n xs)) ∙ ap (option_map (λ i. 1 + i)) rest
    ∙ sym (position_more x xs (below 0 (omega arith)))

-- ---- the lowest Free frame

places_of : (xs : List Owner) → position_or_len itself (map is_free xs) ≡ position_or_len is_free xs
places_of xs = is_position_or_len (λ ys. position_or_len itself (map is_free ys)) is_free refl
    (λ y ys. elim (is_free y) as (λ b. position_or_len itself (b ∷ map is_free ys)
    ≡ cond b 0 (1 + position_or_len itself (map is_free ys))) [ true ↦ refl | false ↦ refl ]) xs

-- the first of the frames that are Free, where the list says of each whether it is
pub position-frames : (owners : List Owner) (frames : List Bool) → frames ≡ map is_free owners
    → position itself frames ≡ position is_free owners
position-frames owners frames are =
    ap (λ (bs : List Bool). position itself bs) are
    ∙ ap (λ n. cond (nat_lt n (length (map is_free owners))) (Some n) None) (places_of owners)
    ∙ ap (λ n. cond (nat_lt (position_or_len is_free owners) n)
    (Some (position_or_len is_free owners)) None) (length-map owners is_free)

-- the list follows a change of one owner
frames-set : (owners : List Owner) (frames : List Bool) (i : ℕ) (y : Owner) (b : Bool)
    → frames ≡ map is_free owners → is_free y ≡ b → set frames i b ≡ map is_free (set owners i y)
frames-set owners frames i y b are is = ap (λ (bs : List Bool). set bs i b) are
    ∙ ap (λ c. set (map is_free owners) i c) (sym is) ∙ sym (map-set is_free owners i y)

-- ---- what the frames keep

bits_agree : (owners : List Owner) (uses : List ℕ) (i : ℕ) (y : Owner) (v : ℕ)
    → map is_free owners ≡ map is_unused uses → is_free y ≡ is_unused v
    → map is_free (set owners i y) ≡ map is_unused (set uses i v)
bits_agree owners uses i y v e h = map-set is_free owners i y ∙ ap (λ bs. set bs i (is_free y)) e
    ∙ ap (λ b. set (map is_unused uses) i b) h ∙ sym (map-set is_unused uses i v)

-- the same owner set again
agree-owner : (owners : List Owner) (bs : List Bool) (i : ℕ) (y : Owner) → map is_free owners ≡ bs
    → is_free (get_or owners i Free) ≡ is_free y → map is_free (set owners i y) ≡ bs
agree-owner owners bs i y e h =
    map-set is_free owners i y
    ∙ ap (λ b. set (map is_free owners) i b) (sym h ∙ sym (get_or-map is_free owners i Free))
    ∙ set-get_or (map is_free owners) i true ∙ e

agree-uses : (bs : List Bool) (uses : List ℕ) (i v : ℕ) → bs ≡ map is_unused uses
    → is_unused (get_or uses i 0) ≡ is_unused v → bs ≡ map is_unused (set uses i v)
agree-uses bs uses i v e h =
    e ∙ sym (map-set is_unused uses i v
    ∙ ap (λ b. set (map is_unused uses) i b) (sym h ∙ sym (get_or-map is_unused uses i 0))
    ∙ set-get_or (map is_unused uses) i true)

pub kept-granted : {count : ℕ} {owners : List Owner} {uses : List ℕ} {free : ℕ}
    {frames : List Bool} (i : ℕ) (y : Owner)
    → AreTallied count owners uses free frames → is_free (get_or owners i Free) ≡ false
    → is_free y ≡ false
    → AreTallied count (set owners i y) uses free frames
kept-granted {count} {owners} {uses} {free} {frames} i y k e n = record {
  few = k.few;
  each = length-set owners i y ∙ k.each;
  agree = agree-owner owners (map is_unused uses) i y k.agree (e ∙ sym n);
  counted = k.counted ∙ sym (count_by-granted owners i y (owned-within owners i e) e n);
  frames_are = k.frames_are ∙ sym (agree-owner owners (map is_free owners) i y refl (e ∙ sym n));
}

kept-uses : {count : ℕ} {owners : List Owner} {uses : List ℕ} {free : ℕ}
    {frames : List Bool} (i v : ℕ)
    → AreTallied count owners uses free frames → is_unused (get_or uses i 0) ≡ is_unused v
    → AreTallied count owners (set uses i v) free frames
kept-uses {count} {owners} {uses} {free} {frames} i v k e = record {
  few = k.few;
  each = k.each;
  agree = agree-uses (map is_free owners) uses i v k.agree e;
  counted = k.counted;
  frames_are = k.frames_are;
}

-- the lowest Free frame, by the list that says of each whether it is Free
module _ {count : ℕ} {owners : List Owner} {uses : List ℕ} {free : ℕ} {frames : List Bool}
    (k : AreTallied count owners uses free frames) {i : ℕ}
    (first : Some i ≡ position itself frames) where
  pub lowest-found : position is_free owners ≡ Some i
  lowest-found = sym (position-frames owners frames k.frames_are) ∙ sym first

  pub lowest-within : i < length owners
  lowest-within = (position-Some is_free owners i Free lowest-found).0

  lowest-free : is_free (get_or owners i Free) ≡ true
  lowest-free = (position-Some is_free owners i Free lowest-found).1

  pub lowest-used : i < length uses
  lowest-used = omega (
    arith,
    lowest-within,
    length-map uses is_unused,
    ap length k.agree,
    length-map owners is_free,
  )

  -- it has no use
  pub lowest-unused : get_or uses i 0 ≡ 0
  lowest-unused =
      let none : is_unused (get_or uses i 0) ≡ true = sym (get_or-map is_unused uses i 0)
      ∙ ap (λ bs. get_or bs i true) (sym k.agree) ∙ get_or-map is_free owners i Free
      ∙ lowest-free in
      grind (arith, nat_tests)

  pub lowest-some : 1 ≤ free
  lowest-some =
      omega (arith, k.counted, count_by-taken owners i Shared lowest-within lowest-free refl)

  pub lowest-owned : (y : Owner) → is_free y ≡ false → {new : List Bool} → new ≡ set frames i false
      → AreTallied count (set owners i y) (set uses i 1) (free - 1) new
  lowest-owned y n {new} m = record {
    few = k.few;
    each = length-set owners i y ∙ k.each;
    agree = bits_agree owners uses i y 1 k.agree n;
    counted = omega (arith, k.counted, count_by-taken owners i y lowest-within lowest-free n);
    frames_are = m ∙ frames-set owners frames i y false k.frames_are n;
  }

pub kept-freed : {count : ℕ} {owners : List Owner} {uses : List ℕ} {free : ℕ}
    {frames : List Bool} (i : ℕ) {new : List Bool}
    → AreTallied count owners uses free frames → 0 < get_or uses i 0 → new ≡ set frames i true
    → AreTallied count (set owners i Free) (set uses i 0) (free + 1) new
kept-freed {count} {owners} {uses} {free} {frames} i {new} k h m =
    let owned = used-owned owners uses i k.agree h in
    record {
      few = k.few;
      each = length-set owners i Free ∙ k.each;
      agree = bits_agree owners uses i Free 0 k.agree refl;
      counted = omega (
        arith,
        k.counted,
        count_by-freed owners i (owned-within owners i owned) owned,
      );
      frames_are = m ∙ frames-set owners frames i Free true k.frames_are refl;
    }

pub kept-room : {count : ℕ} {owners : List Owner} {uses : List ℕ} {free : ℕ}
    {frames : List Bool} (i : ℕ)
    → AreTallied count owners uses free frames → 0 < get_or uses i 0 → free + 1 < 2 ^ 32
kept-room {count} {owners} {uses} {free} {frames} i k h =
    let owned = used-owned owners uses i k.agree h in
    omega (
      arith,
      k.few,
      k.each,
      k.counted,
      count_by-freed owners i (owned-within owners i owned) owned,
      count_by-le-length is_free (set owners i Free),
      length-set owners i Free,
    )

pub kept-more : {count : ℕ} {owners : List Owner} {uses : List ℕ} {free : ℕ}
    {frames : List Bool} (i v : ℕ)
    → AreTallied count owners uses free frames → is_free (get_or owners i Free) ≡ false
    → AreTallied count owners (set uses i (v + 1)) free frames
kept-more {count} {owners} {uses} {free} {frames} i v k e =
    let some : is_unused (v + 1) ≡ false = grind (arith, nat_tests) in
    kept-uses i (v + 1) k
    (sym (get_or-map is_unused uses i 0) ∙ ap (λ bs. get_or bs i true) (sym k.agree)
    ∙ get_or-map is_free owners i Free ∙ e ∙ sym some)

pub kept-fewer : {count : ℕ} {owners : List Owner} {uses : List ℕ} {free : ℕ}
    {frames : List Bool} (i : ℕ) {v : ℕ}
    → AreTallied count owners uses free frames → 0 < get_or uses i 0 → v ≡ get_or uses i 0
    → (v ≡ 1 → ⊥)
    → AreTallied count owners (set uses i (v - 1)) free frames
kept-fewer {count} {owners} {uses} {free} {frames} i {v} k h e n =
    let old : is_unused (get_or uses i 0) ≡ false = grind (arith, nat_tests) in
    let new : is_unused (v - 1) ≡ false = grind (arith, nat_tests) in
    kept-uses i (v - 1) k (old ∙ sym new)

pub kept-unused : (count : ℕ) (owners : List Owner) (uses : List ℕ) (frames : List Bool) (n : ℕ)
    → count ≡ n → owners ≡ replicate n Free → uses ≡ replicate n 0 → frames ≡ replicate n true
    → n < 2 ^ 32 → AreTallied count owners uses n frames
kept-unused count owners uses frames n e o u f h = record {
  few = omega arith;
  each = ap length o ∙ length-replicate n Free ∙ sym e;
  agree = ap (map is_free) o ∙ both n ∙ sym (ap (map is_unused) u);
  counted = sym (ap (count_by is_free) o ∙ sum_by-replicate (λ x. cond (is_free x) 1 0) n Free
      ∙ omega arith);
  frames_are = f ∙ sym (ap (map is_free) o ∙ all n);
}
  where
    both : (m : ℕ) → map is_free (replicate m Free) ≡ map is_unused (replicate m 0)
    both zero = refl
    both (suc m) = ap (λ bs. true ∷ bs) (both m)

    all : (m : ℕ) → map is_free (replicate m Free) ≡ replicate m true
    all zero = refl
    all (suc m) = ap (λ bs. true ∷ bs) (all m)

-- ---- where all are Free from some frame on

pub free-set : (owners : List Owner) (high i : ℕ) (y : Owner) → AreFreeFrom owners high → i < high
    → AreFreeFrom (set owners i y) high
free-set owners high i y h low frame above =
    ap is_free (get_or-set_other owners i frame y Free (λ e. omega (arith, low, above, e)))
    ∙ h frame above

pub free-more : (owners : List Owner) (high more : ℕ) → AreFreeFrom owners high → high ≤ more
    → AreFreeFrom owners more
free-more owners high more h le frame above = h frame (omega (arith, le, above))

-- who is owned stands below
pub owned-low : (owners : List Owner) (high i : ℕ) → AreFreeFrom owners high
    → is_free (get_or owners i Free) ≡ false → i < high
owned-low owners high i h owned = by (cases_lt i high)
  where
    by : (i < high) ⊎ (high ≤ i) → i < high
    by (inl low) = low
    by (inr above) = let free = h i above in absurd (grind (arith, owned, free))

pub free-freed : (owners : List Owner) (high i : ℕ) → AreFreeFrom owners high
    → AreFreeFrom (set owners i Free) high
free-freed owners high i h frame above = by (cases_eq frame i)
  where
    same : (xs : List Owner) (k : ℕ) → is_free (get_or (set xs k Free) k Free) ≡ true
    same [] k = refl
    same (x ∷ xs) zero = refl
    same (x ∷ xs) (suc k) = same xs k

    by : (frame ≡ i) ⊎ (frame ≢ i) → is_free (get_or (set owners i Free) frame Free) ≡ true
    by (inl e) = ap (λ k. is_free (get_or (set owners i Free) k Free)) e ∙ same owners i
    by (inr other) = ap is_free (get_or-set_other owners i frame Free Free other) ∙ h frame above

pub free-all : (owners : List Owner) (n : ℕ) → owners ≡ replicate n Free → AreFreeFrom owners 0
free-all owners n is frame above = ap (λ (xs : List Owner). is_free (get_or xs frame Free)) is
    ∙ each n frame
  where
    each : (n frame : ℕ) → is_free (get_or (replicate n Free) frame Free) ≡ true
    each zero frame = refl
    each (suc n) zero = refl
    each (suc n) (suc frame) = each n frame
