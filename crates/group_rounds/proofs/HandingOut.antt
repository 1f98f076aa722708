-- Pages that go out, frame by frame.
use Rattle.std.proofs.Common.{ℕ, zero, suc, ◌+◌, ◌<◌, ◌≤◌, ◌≡◌, ◌≢◌, ◌⊎◌, inl, inr, refl, sym, ap}
use Rattle.std.proofs.Common.{◌∙◌, subst, true, List, [], ◌∷◌, ◌++◌, length, set, Option, Some}
use Rattle.std.proofs.Common.{None, IsSome, All, arith, length-set}
use Rattle.std.specs.Prelude.{slice_get, slice_set, slice_index_or}
use Rattle.std.proofs.lemmas.Bool.{cases_eq, cases_lt}
use Rattle.dos_world.specs.declared.Owner.{Owner}
use Rattle.dos_world.specs.declared.Owner.TheVariants.{Free, Of}
use Rattle.page_store.specs.Store.{Store, whole, shown, owner_at, with_away}
use Rattle.dos_world.specs.World.{is_free}
use Rattle.page_store.proofs.Joined.{home-at}
use Rattle.quantum_run.specs.Packs.{bytes_of_frame, HoldsNo, with_own_page}
use Rattle.quantum_run.specs.Shows.{Pack}
use Rattle.group_rounds.specs.Handing.{AreOnce, AreBegun, IsFor, GoesOut, Stays, HasBelow, Handing}
use Rattle.group_rounds.proofs.HandingLaws.{beside}

-- ---- lists

pub last-of : {A : Type 0} (xs : List A) (x : A) → slice_get (xs ++ x ∷ []) (length xs) ≡ Some x
last-of [] x = refl
last-of (y ∷ xs) x = last-of xs x

pub first-of : {A : Type 0} (xs : List A) (x : A) (i : ℕ) (y : A) → slice_get xs i ≡ Some y
    → slice_get (xs ++ x ∷ []) i ≡ Some y
first-of [] x i y h = cc
first-of (z ∷ xs) x zero y h = h
first-of (z ∷ xs) x (suc i) y h = first-of xs x i y h

pub either-of : {A : Type 0} (xs : List A) (x : A) (i : ℕ) (y : A)
    → slice_get (xs ++ x ∷ []) i ≡ Some y → (slice_get xs i ≡ Some y) ⊎ ((i ≡ length xs) × (y ≡ x))
either-of {A} [] x zero y h = inr (refl, Some-is (sym h))
  where
    Some-is : {a b : A} → ◌≡◌ {A = Option A} (Some a) (Some b) → a ≡ b
    Some-is q = cc
either-of [] x (suc i) y h = cc
either-of (z ∷ xs) x zero y h = inl h
either-of (z ∷ xs) x (suc i) y h = go (either-of xs x i y h)
  where
    go : (slice_get xs i ≡ Some y) ⊎ ((i ≡ length xs) × (y ≡ x))
        → (slice_get xs i ≡ Some y) ⊎ ((suc i ≡ suc (length xs)) × (y ≡ x))
    go (inl q) = inl q
    go (inr q) = inr (ap suc q.0, q.1)

pub put-there : {A : Type 0} (xs : List A) (i : ℕ) (x y : A) → slice_get xs i ≡ Some y
    → slice_get (set xs i x) i ≡ Some x
put-there [] i x y h = cc
put-there (z ∷ xs) zero x y h = refl
put-there (z ∷ xs) (suc i) x y h = put-there xs i x y h

pub put-other : {A : Type 0} (xs : List A) (i : ℕ) (x : A) (j : ℕ) → j ≢ i
    → slice_get (set xs i x) j ≡ slice_get xs j
put-other [] i x j other = refl
put-other (y ∷ xs) zero x zero other = absurd (other refl)
put-other (y ∷ xs) zero x (suc j) other = refl
put-other (y ∷ xs) (suc i) x zero other = refl
put-other (y ∷ xs) (suc i) x (suc j) other = put-other xs i x j (λ e. other (ap suc e))

number-is : {a b : ℕ} → ◌≡◌ {A = Option ℕ} (Some a) (Some b) → a ≡ b
number-is q = cc

pack-is : {a b : Pack} → ◌≡◌ {A = Option Pack} (Some a) (Some b) → a ≡ b
pack-is q = cc

owner-is : {a b : ℕ} → Of a ≡ Of b → a ≡ b
owner-is q = cc

page-is : {f g : ℕ} {a b : List ℕ} → ◌≡◌ {A = ℕ × List ℕ} (f, a) (g, b) → (f ≡ g) × (a ≡ b)
page-is q = (ap (λ x. x.0) q, ap (λ x. x.1) q)

-- ---- a pack

-- where the next frame isn't t's
pub below-stays : (t : ℕ) (old : Store) (n : ℕ) (begun p : Pack) → owner_at old n ≢ Of t
    → HasBelow t old n begun p → HasBelow t old (n + 1) begun p
below-stays t old n begun p none h = record {
  is = h.is;
  owner = λ j frame page at. let r = h.owner j frame page at in let low = r.1 in
      (r.0, omega (arith, low), r.2);
  all = λ frame low mine. by frame low mine (cases_eq frame n);
  apart = h.apart;
}
  where
    by : (frame : ℕ) → frame < n + 1 → owner_at old frame ≡ Of t → (frame ≡ n) ⊎ (frame ≢ n)
        → (j : ℕ) × (slice_get p.pages j ≡ Some (frame, bytes_of_frame old.pages frame))
    by frame low mine (inl same) = absurd (none (ap (owner_at old) (sym same) ∙ mine))
    by frame low mine (inr other) = h.all frame (omega (arith, low, other)) mine

pub below-takes : (t : ℕ) (old : Store) (n : ℕ) (begun p : Pack) (page : List ℕ)
    → owner_at old n ≡ Of t → slice_get old.pages n ≡ Some (Some page) → HasBelow t old n begun p
    → HasBelow t old (n + 1) begun (with_own_page p n page)
below-takes t old n begun p page mine home h = record {
  is = ap (λ (x : Pack). record x { pages = p.pages ++ (n, whole page) ∷ [] }) h.is;
  owner = λ j frame bytes at.
      owner_by j frame bytes (either-of p.pages (n, whole page) j (frame, bytes) at);
  all = λ frame low own. all_by frame low own (cases_eq frame n);
  apart = λ j k frame a b at other.
      apart_by j k frame a b (either-of p.pages (n, whole page) j (frame, a) at)
      (either-of p.pages (n, whole page) k (frame, b) other);
}
  where
    bytes-are : bytes_of_frame old.pages n ≡ whole page
    bytes-are = ap (λ o. elim o as (λ _. List ℕ) [ None ↦ shown None | Some x ↦ shown x ]) home

    owner_by : (j frame : ℕ) (bytes : List ℕ) → (slice_get p.pages j ≡ Some (frame, bytes))
        ⊎ ((j ≡ length p.pages) × (◌≡◌ {A = ℕ × List ℕ} (frame, bytes) (n, whole page)))
        → (owner_at old frame ≡ Of t) × (frame < n + 1) × (bytes ≡ bytes_of_frame old.pages frame)
    owner_by j frame bytes (inl at) = let r = h.owner j frame bytes at in let low = r.1 in
        (r.0, omega (arith, low), r.2)
    owner_by j frame bytes (inr q) = let same = page-is q.1 in let eq = same.0 in (
      ap (owner_at old) eq ∙ mine,
      omega (arith, eq),
      same.1 ∙ sym bytes-are
          ∙ ap (bytes_of_frame old.pages) (sym eq),
    )

    all_by : (frame : ℕ) → frame < n + 1 → owner_at old frame ≡ Of t → (frame ≡ n) ⊎ (frame ≢ n)
        → (j : ℕ) × (slice_get (p.pages ++ (n, whole page) ∷ []) j
        ≡ Some (frame, bytes_of_frame old.pages frame))
    all_by frame low own (inl same) = (
      length p.pages,
      last-of p.pages (n, whole page) ∙ ap (λ x. Some (n, x)) (sym bytes-are)
          ∙ ap (λ f. Some (f, bytes_of_frame old.pages f)) (sym same),
    )
    all_by frame low own (inr other) = let r = h.all frame (omega (arith, low, other)) own in
        (r.0, first-of p.pages (n, whole page) r.0 (frame, bytes_of_frame old.pages frame) r.1)

    apart_by : (j k frame : ℕ) (a b : List ℕ) → (slice_get p.pages j ≡ Some (frame, a))
        ⊎ ((j ≡ length p.pages) × (◌≡◌ {A = ℕ × List ℕ} (frame, a) (n, whole page)))
        → (slice_get p.pages k ≡ Some (frame, b))
        ⊎ ((k ≡ length p.pages) × (◌≡◌ {A = ℕ × List ℕ} (frame, b) (n, whole page))) → j ≡ k
    apart_by j k frame a b (inl x) (inl y) = h.apart j k frame a b x y
    apart_by j k frame a b (inl x) (inr y) = let low = (h.owner j frame a x).1 in let same =
        (page-is y.1).0 in absurd (omega (arith, low, same))
    apart_by j k frame a b (inr x) (inl y) = let low = (h.owner k frame b y).1 in let same =
        (page-is x.1).0 in absurd (omega (arith, low, same))
    apart_by j k frame a b (inr x) (inr y) = x.0 ∙ sym y.0

-- ---- all packs

module _ (ts : List ℕ) (begun : List Pack) (old : Store) (apart : AreOnce ts)
    (homes : All IsSome old.pages)
    (fresh : AreBegun old begun) where
  -- a pack that hasn't come to this frame
  pub none-yet : (new : Store) (packs : List Pack) (n i : ℕ) (p : Pack)
      → Handing ts begun old new packs n → n < length old.pages → slice_get packs i ≡ Some p
      → (n < p.room) × HoldsNo p n
  none-yet new packs n i p h low at = by (beside ts packs i p h.level at)
    where
      by : (t : ℕ) × (slice_get ts i ≡ Some t) → (n < p.room) × HoldsNo p n
      by t =
          let has = h.each i t.0 p t.1 at in
          let room = ap (λ (x : Pack). x.room) has.2.is ∙ (fresh i has.0 has.1).1 in (
            omega (arith, low, room),
            λ j page q. let below = (has.2.owner j n page q).1 in
                omega (arith, below),
          )

  pub page-home : (new : Store) (packs : List Pack) (n : ℕ) → Handing ts begun old new packs n
      → n < length old.pages → (page : List ℕ) × (slice_get new.pages n ≡ Some (Some page))
  page-home new packs n h low = let page = home-at old.pages n homes low in
      (page.0, h.home n (inl (omega arith)) ∙ page.1)

  pub handing-begins : length begun ≡ length ts → Handing ts begun old old begun 0
  handing-begins level = record {
    owners = refl;
    uses = refl;
    marked = refl;
    count = refl;
    level = level;
    away = λ frame place t low is. absurd (omega (arith, low));
    home = λ frame h. refl;
    each = λ i t p at here. (
      p,
      here,
      record {
        is = refl;
        owner = λ j frame page q. absurd (empty p (fresh i p here).0 j (frame, page) q);
        all = λ frame low mine. absurd (omega (arith, low));
        apart = λ j k frame a b q r. absurd (empty p (fresh i p here).0 j (frame, a) q);
      },
    );
  }
    where
      empty : (p : Pack) → p.pages ≡ [] → (j : ℕ) (x : ℕ × List ℕ) → slice_get p.pages j ≡ Some x
          → ⊥
      empty p none j x q = nothing j x (ap (λ ps. slice_get ps j) (sym none) ∙ q)
        where
          nothing : (j : ℕ) (x : ℕ × List ℕ) → slice_get [] j ≡ Some x → ⊥
          nothing j x z = cc

  module _ (new : Store) (packs : List Pack) (n : ℕ) (low : n < length old.pages)
      (h : Handing ts begun old new packs n) where
    owner-same : (frame : ℕ) → owner_at new frame ≡ owner_at old frame
    owner-same frame = ap (λ (os : List Owner). slice_index_or os frame Free) h.owners

    pub handing-stays : (after : Store) (packs' : List Pack) → Stays ts new packs n after packs'
        → Handing ts begun old after packs' (n + 1)
    handing-stays after packs' s =
        let none : (place t : ℕ) → IsFor ts old n place t
        → ⊥ = λ place t is. s.none place t (is.0, owner-same n ∙ is.1) in
        subst (λ (x : Store). Handing ts begun old x packs' (n + 1)) (sym s.frames)
        (subst (λ ps. Handing ts begun old new ps (n + 1)) (sym s.packs_are) (record {
          owners = h.owners;
          uses = h.uses;
          marked = h.marked;
          count = h.count;
          level = h.level;
          away = λ frame place t below is. away_by none frame place t below is (cases_eq frame n);
          home = λ frame q. home_by none frame q (cases_eq frame n);
          each = λ i t p at here. let has = h.each i t p at here in
              (has.0, has.1, below-stays t old n has.0 p (λ e. none i t (at, e)) has.2);
        }))
      where
        away_by : ((place t : ℕ) → IsFor ts old n place t → ⊥) → (frame place t : ℕ) → frame < n + 1
            → IsFor ts old frame place t → (frame ≡ n) ⊎ (frame ≢ n)
            → slice_get new.pages frame ≡ Some None
        away_by none frame place t below is (inl same) =
            absurd (none place t (subst (λ f. IsFor ts old f place t) same is))
        away_by none frame place t below is (inr other) =
            h.away frame place t (omega (arith, below, other)) is

        home_by : ((place t : ℕ) → IsFor ts old n place t → ⊥) → (frame : ℕ)
            → (n + 1 ≤ frame) ⊎ ((place t : ℕ) → IsFor ts old frame place t → ⊥)
            → (frame ≡ n) ⊎ (frame ≢ n) → slice_get new.pages frame ≡ slice_get old.pages frame
        home_by none frame (inl above) c = h.home frame (inl (omega (arith, above)))
        home_by none frame (inr out) c = h.home frame (inr out)

    pub handing-goes : (after : Store) (packs' : List Pack) → GoesOut ts new packs n after packs'
        → Handing ts begun old after packs' (n + 1)
    handing-goes after packs' g =
        subst (λ (x : Store). Handing ts begun old x packs' (n + 1)) (sym g.frames)
        (subst (λ ps. Handing ts begun old (with_away new n) ps (n + 1)) (sym g.packs_are)
        (record {
          owners = h.owners;
          uses = h.uses;
          marked = h.marked;
          count = length-set new.pages n None ∙ h.count;
          level = length-set packs g.place (with_own_page g.pack n g.page) ∙ h.level;
          away = λ frame place t below is. away_by frame place t below is (cases_eq frame n);
          home = λ frame q. put-other new.pages n None frame (not_this frame q)
              ∙ h.home frame (home_of frame q);
          each = λ i t p at here. each_by i t p at here (cases_eq i g.place);
        }))
      where
        mine : owner_at old n ≡ Of g.thread
        mine = sym (owner-same n) ∙ g.for.1

        was : slice_get old.pages n ≡ Some (Some g.page)
        was = sym (h.home n (inl (omega arith))) ∙ g.was

        away_by : (frame place t : ℕ) → frame < n + 1 → IsFor ts old frame place t
            → (frame ≡ n) ⊎ (frame ≢ n) → slice_get (slice_set new.pages n None) frame ≡ Some None
        away_by frame place t below is (inl same) =
            subst (λ (f : ℕ). slice_get (slice_set new.pages n None) f ≡ Some None) (sym same)
            (put-there new.pages n None (Some g.page) g.was)
        away_by frame place t below is (inr other) = put-other new.pages n None frame other
            ∙ h.away frame place t (omega (arith, below, other)) is

        not_this : (frame : ℕ) → (n + 1 ≤ frame) ⊎ ((place t : ℕ) → IsFor ts old frame place t → ⊥)
            → frame ≢ n
        not_this frame (inl above) same = omega (arith, above, same)
        not_this frame (inr out) same =
            out g.place g.thread (g.for.0, ap (owner_at old) same ∙ mine)

        home_of : (frame : ℕ) → (n + 1 ≤ frame) ⊎ ((place t : ℕ) → IsFor ts old frame place t → ⊥)
            → (n ≤ frame) ⊎ ((place t : ℕ) → IsFor ts old frame place t → ⊥)
        home_of frame (inl above) = inl (omega (arith, above))
        home_of frame (inr out) = inr out

        each_by : (i t : ℕ) (p : Pack) → slice_get ts i ≡ Some t
            → slice_get (slice_set packs g.place (with_own_page g.pack n g.page)) i ≡ Some p
            → (i ≡ g.place) ⊎ (i ≢ g.place) → (b : Pack) × (slice_get begun i ≡ Some b)
            × HasBelow t old (n + 1) b p
        each_by i t p at here (inl same) =
            let is : p ≡ with_own_page g.pack n g.page =
            pack-is (sym here
            ∙ ap (slice_get (slice_set packs g.place (with_own_page g.pack n g.page))) same
            ∙ put-there packs g.place (with_own_page g.pack n g.page) g.pack g.found) in
            let thread : t ≡ g.thread = number-is (sym at ∙ ap (slice_get ts) same ∙ g.for.0) in
            let has = h.each i t g.pack at (ap (slice_get packs) same ∙ g.found) in (
              has.0,
              has.1,
              subst (λ (x : Pack). HasBelow t old (n + 1) has.0 x) (sym is)
                  (below-takes t old n has.0 g.pack g.page
                  (mine ∙ ap Of (sym thread)) was has.2),
            )
        each_by i t p at here (inr other) =
            let has = h.each i t p
            at (sym (put-other packs g.place (with_own_page g.pack n g.page) i other) ∙ here) in (
              has.0,
              has.1,
              below-stays t old n has.0 p
                  (λ e.
                  other
                  (apart i g.place t at (g.for.0 ∙ ap Some (owner-is (sym mine ∙ e)))))
                  has.2,
            )

  pub handing-more : (new : Store) (packs : List Pack) (n : ℕ) (after : Store) (packs' : List Pack)
      → n < length old.pages → Handing ts begun old new packs n
      → (Stays ts new packs n after packs') ⊎ (GoesOut ts new packs n after packs')
      → Handing ts begun old after packs' (n + 1)
  handing-more new packs n after packs' low h (inl s) =
      handing-stays new packs n low h after packs' s
  handing-more new packs n after packs' low h (inr g) =
      handing-goes new packs n low h after packs' g

-- ---- the frames from some one on, of which none is a thread's

pub none-free : (s : Store) (high : ℕ) → ((f : ℕ) → high ≤ f → is_free (owner_at s f) ≡ true)
    → (n f t : ℕ) → high ≤ f → f < n → owner_at s f ≢ Of t
none-free s high free n f t above low mine =
    let a = free f above in let b = ap is_free mine in absurd (grind (arith, a, b))

module _ (ts : List ℕ) (begun : List Pack) (old new : Store) (packs : List Pack) (high n : ℕ)
    (le : high ≤ n) (none : (f t : ℕ) → high ≤ f → f < n → owner_at old f ≢ Of t)
    (h : Handing ts begun old new packs high) where
  below-high : (f t : ℕ) → f < n → owner_at old f ≡ Of t → f < high
  below-high f t within mine = by (cases_lt f high)
    where
      by : (f < high) ⊎ (high ≤ f) → f < high
      by (inl low) = low
      by (inr above) = absurd (none f t above within mine)

  pub handing-rest : Handing ts begun old new packs n
  handing-rest = record {
    owners = h.owners;
    uses = h.uses;
    marked = h.marked;
    count = h.count;
    level = h.level;
    away = λ f place t low is. h.away f place t (below-high f t low is.1) is;
    home = λ f q. h.home f (home_of f q);
    each = λ i t p at here. let has = h.each i t p at here in (
      has.0,
      has.1,
      record {
        is = has.2.is;
        owner = λ j f page q. let r = has.2.owner j f page q in let low = r.1 in
            (r.0, omega (arith, low, le), r.2);
        all = λ f low mine. has.2.all f (below-high f t low mine) mine;
        apart = has.2.apart;
      },
    );
  }
    where
      home_of : (f : ℕ) → (n ≤ f) ⊎ ((place t : ℕ) → IsFor ts old f place t → ⊥)
          → (high ≤ f) ⊎ ((place t : ℕ) → IsFor ts old f place t → ⊥)
      home_of f (inl above) = inl (omega (arith, above, le))
      home_of f (inr out) = inr out
