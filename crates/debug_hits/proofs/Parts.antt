-- What changes of a watchpoint, by its bytes within a page.
use Rattle.std.proofs.Common.{◌≡◌, ◌⊎◌, inl, inr, ℕ, zero, suc, ◌+◌, ◌-◌, ◌*◌, ◌/◌, ◌%◌, ◌<◌, ◌≤◌}
use Rattle.std.proofs.Common.{min, Bool, true, false, not, List, [], ◌∷◌, ◌++◌, length, Option, map}
use Rattle.std.proofs.Common.{All}
use Rattle.std.proofs.Common.{Some, None, IfSome, refl, sym, ap, subst, ◌∙◌, arith, get_or}
use Rattle.std.specs.Prelude.{◌==◌, ◌||◌, ◌&&◌, slice_get, slice_range, option_map}
use Rattle.std.specs.List.{list_any}
use Rattle.std.specs.Str.{bytes_eq}
use Rattle.std.proofs.lemmas.List.Folds.{list_any-append}
use Rattle.std.proofs.lemmas.List.Elements.{All-head, All-tail}
use Rattle.std.proofs.lemmas.List.{length-map}
use Rattle.std.proofs.lemmas.Option.{slice_get-map, slice_get-get_or}
use Rattle.dos_world.specs.Numbered.{run_of}
use Rattle.dos_world.specs.World.{World, look, space_of}
use Rattle.dos_world.specs.declared.Entry.{Entry}
use Rattle.group_moves.specs.Moves.{MoveKind}
use Rattle.debug_session.specs.declared.points.Watchpoint.{Watchpoint}
use Rattle.debug_session.specs.Told.{byte_told, bytes_told}
use Rattle.debug_session.specs.Hits.{is_changed, is_other_byte}
use Rattle.debug_hits.specs.declared.watched.Mark.{Mark}
use Rattle.debug_hits.specs.Kept.{AreFramesThere, HasLooked, FitsPage, Kept, front_count}
use Rattle.debug_hits.specs.Kept.{is_other_now}
use Rattle.debug_hits.specs.Kept.{is_touched_as}
use Rattle.debug_hits.specs.Kept.{kept_in, kept_of}
use Rattle.debug_hits.proofs.PageBytes.{byte_in, byte_in_page, told_behind}

-- ---- a page is mapped whole, or not at all

-- none of the addresses of a page has a byte, or each has one
abbrev pub IsSteady : World → (p page : ℕ) → Type 0
IsSteady w p page =
    ((a : ℕ) → a / 4096 ≡ page → byte_told w p a ≡ None)
    ⊎ ((a : ℕ) → a / 4096 ≡ page → (b : ℕ) × (byte_told w p a ≡ Some b))

pub steady : (w : World) (p page : ℕ) → AreFramesThere w → IsSteady w p page
steady w p page frames = by (look (space_of w p) page) refl (frames p page)
  where
    by : (o : Option Entry) → look (space_of w p) page ≡ o
        → IfSome o (λ (e : Entry). 4096 * e.frame + 4096 ≤ length w.bytes) → IsSteady w p page
    by None is fits = inl (λ a of_page. ap (λ n. byte_in w a (look (space_of w p) n)) of_page
        ∙ ap (byte_in w a) is)
    by (Some e) is fits = inr (λ a of_page.
        let place = 4096 * e.frame + a % 4096 in (
          get_or w.bytes place 0,
          byte_in_page w p page e a place is of_page refl
              (omega (arith, fits)),
        ))

-- ---- a stretch of a page

abbrev pub is_other : (w v : World) → (p a : ℕ) → Bool
is_other w v p a = is_other_byte (byte_told w p a) (byte_told v p a)

-- what is told from a first byte on
abbrev pub told_from : World → (p count address : ℕ) → Option ℕ → List ℕ
told_from w p count address first = told_behind w p count address first

not_and : (a b : Bool) → (not a || not b) ≡ not (a && b)
not_and true b = refl
not_and false b = refl

module _ (w v : World) (p page : ℕ) where
  -- a byte more in front of a stretch
  one_more : (n a : ℕ) (x y : Option ℕ) → byte_told w p a ≡ x → byte_told v p a ≡ y
      → (is_other_byte x y || list_any (is_other w v p) (run_of (suc a) n))
      ≡ not (bytes_eq (told_behind w p n a x) (told_behind v p n a y))
      → list_any (is_other w v p) (run_of a (suc n))
      ≡ not (bytes_eq (bytes_told w p (suc n) a) (bytes_told v p (suc n) a))
  one_more n a x y x-is y-is same =
      ap (λ o. is_other_byte o (byte_told v p a) || list_any (is_other w v p) (run_of (suc a) n))
      x-is
      ∙ ap (λ o. is_other_byte x o || list_any (is_other w v p) (run_of (suc a) n)) y-is ∙ same
      ∙ ap (λ o. not (bytes_eq (told_behind w p n a o) (told_behind v p n a y))) (sym x-is)
      ∙ ap (λ o. not (bytes_eq (bytes_told w p (suc n) a) (told_behind v p n a o))) (sym y-is)

  -- so many addresses from one on are of the page
  abbrev AreOfPage : (n a : ℕ) → Type 0
  AreOfPage n a = (k : ℕ) → k < n → (a + k) / 4096 ≡ page

  first_of_page : (n a : ℕ) → AreOfPage (suc n) a → a / 4096 ≡ page
  first_of_page n a of_page =
      let none : a ≡ a + 0 = omega arith in
      ap (λ x. x / 4096) none ∙ of_page 0 (omega arith)

  others_of_page : (n a b : ℕ) → b ≡ a + 1 → AreOfPage (suc n) a → AreOfPage n b
  others_of_page n a b b-is of_page k less =
      let next : b + k ≡ a + suc k = omega (arith, b-is) in
      ap (λ x. x / 4096) next ∙ of_page (suc k) (omega (arith, less))

  -- none in both
  neither : ((a : ℕ) → a / 4096 ≡ page → byte_told w p a ≡ None)
      → ((a : ℕ) → a / 4096 ≡ page → byte_told v p a ≡ None) → (n a : ℕ) → AreOfPage n a
      → list_any (is_other w v p) (run_of a n) ≡ false
  neither before behind zero a of_page = refl
  neither before behind (suc n) a of_page =
      let at : a / 4096 ≡ page = first_of_page n a of_page in
      ap (λ o. is_other_byte o (byte_told v p a) || list_any (is_other w v p) (run_of (suc a) n))
      (before a at)
      ∙ ap (λ o. is_other_byte None o || list_any (is_other w v p) (run_of (suc a) n)) (behind a at)
      ∙ neither before behind n (suc a) (others_of_page n a (suc a) (omega arith) of_page)

  part_changed : IsSteady w p page → IsSteady v p page → (n a : ℕ) → AreOfPage n a
      → list_any (is_other w v p) (run_of a n)
      ≡ not (bytes_eq (bytes_told w p n a) (bytes_told v p n a))
  part_changed before behind zero a of_page = refl
  part_changed (inl before) (inl behind) (suc n) a of_page =
      let at : a / 4096 ≡ page = first_of_page n a of_page in
      neither before behind (suc n) a of_page
      ∙ ap (λ o. not (bytes_eq (told_behind w p n a o) [])) (sym (before a at))
      ∙ ap (λ o. not (bytes_eq (bytes_told w p (suc n) a) (told_behind v p n a o)))
      (sym (behind a at))
  part_changed (inl before) (inr behind) (suc n) a of_page =
      let at : a / 4096 ≡ page = first_of_page n a of_page in
      one_more n a None (Some (behind a at).0) (before a at) (behind a at).1 refl
  part_changed (inr before) (inl behind) (suc n) a of_page =
      let at : a / 4096 ≡ page = first_of_page n a of_page in
      one_more n a (Some (before a at).0) None (before a at).1 (behind a at) refl
  part_changed (inr before) (inr behind) (suc n) a of_page =
      let at : a / 4096 ≡ page = first_of_page n a of_page in
      let b : ℕ = (before a at).0 in
      let c : ℕ = (behind a at).0 in
      let next : suc a ≡ a + 1 = omega arith in
      one_more n a (Some b) (Some c) (before a at).1 (behind a at).1
      (ap (λ x. not (b == c) || x)
      (ap (λ k. list_any (is_other w v p) (run_of k n)) next
      ∙ part_changed (inr before) (inr behind) n (a + 1)
      (others_of_page n a (a + 1) refl of_page))
      ∙ not_and (b == c) (bytes_eq (bytes_told w p n (a + 1)) (bytes_told v p n (a + 1))))

pub within_page : (a n : ℕ) → a % 4096 + n ≤ 4096 → (k : ℕ) → k < n → (a + k) / 4096 ≡ a / 4096
within_page a n lies k less = omega arith

-- ---- a watchpoint

pub run_of-add : (a m n b : ℕ) → b ≡ a + m → run_of a (m + n) ≡ run_of a m ++ run_of b n
run_of-add a zero n b is =
    let none : zero + n ≡ n = omega arith in
    let same : a ≡ b = omega arith in
    ap (run_of a) none ∙ ap (λ k. run_of k n) same
run_of-add a (suc m) n b is =
    let more : suc m + n ≡ suc (m + n) = omega arith in
    ap (run_of a) more
    ∙ ap (λ (rest : List ℕ). a ∷ rest) (run_of-add (suc a) m n b (omega (arith, is)))

pub back_fits : (a length m n b : ℕ) → m ≡ min (4096 - a % 4096) length → n ≡ length - m
    → b ≡ a + m → length ≤ 4096 → b % 4096 + n ≤ 4096
back_fits a length m n b m-is n-is b-is short = omega arith

changed_parts : (w v : World) (p a length : ℕ) → AreFramesThere w → AreFramesThere v → length ≤ 4096
    → (m n b : ℕ) → m ≡ min (4096 - a % 4096) length → n ≡ length - m → b ≡ a + m
    → list_any (is_other w v p) (run_of a length)
    ≡ (not (bytes_eq (bytes_told w p m a) (bytes_told v p m a))
    || not (bytes_eq (bytes_told w p n b) (bytes_told v p n b)))
changed_parts w v p a length before behind short m n b m-is n-is b-is =
    let whole : length ≡ m + n = omega (arith, m-is, n-is) in
    ap (λ k. list_any (is_other w v p) (run_of a k)) whole
    ∙ ap (list_any (is_other w v p)) (run_of-add a m n b b-is)
    ∙ list_any-append (is_other w v p) (run_of a m) (run_of b n)
    ∙ ap (λ x. x || list_any (is_other w v p) (run_of b n))
    (part_changed w v p (a / 4096) (steady w p (a / 4096) before) (steady v p (a / 4096) behind)
    m a (within_page a m (omega (arith, m-is))))
    ∙ ap (λ x. not (bytes_eq (bytes_told w p m a) (bytes_told v p m a)) || x)
    (part_changed w v p (b / 4096) (steady w p (b / 4096) before) (steady v p (b / 4096) behind)
    n b (within_page b n (back_fits a length m n b m-is n-is b-is short)))

-- by what was kept
pub changed_since : (w v : World) (kind : MoveKind) (point : Watchpoint) (k : Kept)
    → AreFramesThere w → AreFramesThere v → FitsPage point → k ≡ kept_of w kind point
    → is_changed w v point ≡ is_other_now k.front k.back v point
changed_since w v kind point k before behind short is =
    let m = front_count point in
    changed_parts w v point.process point.address point.length before behind short m
    (point.length - m) (point.address + m) refl refl refl
    ∙ ap (λ (x : Kept). is_other_now x.front x.back v point) (sym is)

-- ---- by place

mapped_at : {A B K : Type 0} (f : A → K) (g : B → K) (xs : List A) (ys : List B) (i : ℕ) (x : A)
    → map f xs ≡ map g ys → slice_get xs i ≡ Some x
    → IfSome (slice_get ys i) (λ y. f x ≡ g y)
mapped_at {B = B} f g xs ys i x same is = by (slice_get ys i)
    (ap (option_map f) (sym is) ∙ sym (slice_get-map f xs i) ∙ ap (λ ks. slice_get ks i) same
    ∙ slice_get-map g ys i)
  where
    by : (o : Option B) → Some (f x) ≡ option_map g o → IfSome o (λ y. f x ≡ g y)
    by None e = tt
    by (Some y) e = cc

all_at : {A : Type 0} (P : A → Type 0) (xs : List A) (i : ℕ) (x : A) → All P xs
    → slice_get xs i ≡ Some x → P x
all_at P [] i x all is = cc
all_at P (y ∷ xs) zero x all is =
    let same : y ≡ x = cc in subst P same (All-head P y xs all)
all_at P (y ∷ xs) (suc i) x all is = all_at P xs i x (All-tail P y xs all) is

-- what holds of an element in two ways holds in a third
pub both : {A : Type 0} (P Q R : A → Type 0) (o : Option A) → IfSome o P → IfSome o Q
    → ((x : A) → P x → Q x → R x) → IfSome o R
both P Q R None p q each = tt
both P Q R (Some x) p q each = each x p q

-- The mark of a place, in what was looked at.
module _ (w v : World) (kind : MoveKind) (points : List Watchpoint) (bytes : List ℕ)
    (marks : List Mark) (i : ℕ) (mark : Mark) (self : List Kept)
    (looked : HasLooked w kind points self) (view : map (kept_in bytes) marks ≡ self)
    (there : i < length self) (is : mark ≡ get_or marks i mark) where
  mark_there : slice_get marks i ≡ Some mark
  mark_there =
      slice_get-get_or marks i mark
      (omega (arith, there, ap length view, length-map marks (kept_in bytes)))
      ∙ ap Some (sym is)

  abbrev Facts : Watchpoint → Type 0
  Facts point = (kept_in bytes mark ≡ kept_of w kind point) × FitsPage point

  facts : IfSome (slice_get points i) Facts
  facts = by (slice_get points i) refl
      (mapped_at (kept_in bytes) (kept_of w kind) marks points i mark (view ∙ looked.each)
      mark_there)
    where
      by : (o : Option Watchpoint) → slice_get points i ≡ o
          → IfSome o (λ point. kept_in bytes mark ≡ kept_of w kind point)
          → IfSome o (λ point. (kept_in bytes mark ≡ kept_of w kind point) × FitsPage point)
      by None there same = tt
      by (Some point) there same = (same, all_at FitsPage points i point looked.short there)

  pub changed_here : (changed : Bool) → AreFramesThere v
      → is_other_now (slice_range bytes mark.from mark.middle)
      (slice_range bytes mark.middle mark.to) v mark.point ≡ changed
      → IfSome (slice_get points i) (λ point. is_changed w v point ≡ changed)
  changed_here changed behind other =
      both Facts Facts (λ point. is_changed w v point ≡ changed) (slice_get points i) facts facts
      (λ point f _. changed_since w v kind point (kept_in bytes mark) looked.frames behind f.1 f.0
      ∙ ap (λ (x : Watchpoint). is_other_now (slice_range bytes mark.from mark.middle)
      (slice_range bytes mark.middle mark.to) v x) (sym (ap (λ (x : Kept). x.point) f.0))
      ∙ other)

  -- so by a fact of each watchpoint that it may be
  pub by_point : (P Q : Watchpoint → Type 0) → IfSome (slice_get points i) P
      → ((point : Watchpoint) → point ≡ mark.point
      → is_touched_as point.kind w kind point ≡ mark.is_touched → P point → Q point)
      → IfSome (slice_get points i) Q
  by_point P Q known each =
      both Facts P Q (slice_get points i) facts known
      (λ point f p. each point (sym (ap (λ (x : Kept). x.point) f.0))
      (sym (ap (λ (x : Kept). x.is_touched) f.0)) p)

  pub by_mark : (Q : Watchpoint → Type 0)
      → ((point : Watchpoint) → point ≡ mark.point
      → is_touched_as point.kind w kind point ≡ mark.is_touched → Q point)
      → IfSome (slice_get points i) Q
  by_mark Q each =
      both Facts Facts Q (slice_get points i) facts facts
      (λ point f _. each point (sym (ap (λ (x : Kept). x.point) f.0))
      (sym (ap (λ (x : Kept). x.is_touched) f.0)))
