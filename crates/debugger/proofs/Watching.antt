-- Who watches, what was seen before a move, and the halt by a watchpoint.
use Rattle.std.proofs.Common.{◌≡◌, ℕ, zero, suc, ◌+◌, ◌≤◌, Bool, true, false, cond, List, [], ◌∷◌}
use Rattle.std.proofs.Common.{length, drop, filter, Option, Some, None, refl, sym, ap, subst, ◌∙◌}
use Rattle.std.proofs.Common.{arith, ◌<◌, ◌++◌, get_or, map, take}
use Rattle.std.proofs.lemmas.List.{take_all}
use Rattle.std.specs.Prelude.{◌&&◌, ◌==◌, find, slice_get, is_some, IfSome, option_and_then}
use Rattle.std.specs.Prelude.{option_map, if◌then◌else◌}
use Rattle.std.specs.Option.{option_map_or}
use Rattle.std.proofs.lemmas.Bool.{true≢false}
use Rattle.dos_world.specs.World.{World, Thread, first_of, thread_at}
use Rattle.flat_machine.specs.Rest.{process_of}
use Rattle.group_moves.specs.Moves.{MoveKind}
use Rattle.gdb_packets.specs.declared.resumptions.Resumption.{Resumption}
use Rattle.debug_session.specs.Forwards.{halt_owing, halt_watched, pair_or}
use Rattle.debug_session.specs.Halts.{Halt, halt_at}
use Rattle.debug_session.specs.Hits.{broken_by, is_thread_broken, is_watcher, lowest_watcher}
use Rattle.debug_session.specs.Hits.{watching_mover}
use Rattle.debug_session.specs.Positions.{Position, mover_of, position_after}
use Rattle.debug_session.specs.Sessions.{Session, Pair, chosen_at, home_pair, is_acting}
use Rattle.debug_session.specs.Sessions.{is_told_of}
use Rattle.debug_session.specs.declared.points.Watchpoint.{Watchpoint}
use Rattle.debug_session.specs.declared.stops.Cause.{Cause}
use Rattle.debug_session.specs.declared.stops.Cause.TheVariants.{Watched}
use Rattle.debugger.specs.declared.halts.Halt.{Halt as Kept}
use Rattle.debugger.specs.Halting.{action_at, halt_meant, mover_told, whose_stop}

-- ---- lists by their places

first_kept : (f : ℕ → Bool) (xs : List ℕ) → first_of (filter f xs) ≡ find f xs
first_kept f [] = refl
first_kept f (x ∷ xs) = by (first_kept f xs) (f x)
  where
    by : first_of (filter f xs) ≡ find f xs → (b : Bool)
        → first_of (cond b (x ∷ filter f xs) (filter f xs)) ≡ cond b (Some x) (find f xs)
    by rest true = refl
    by rest false = rest

drop_at : {X : Type 0} (xs : List X) (i : ℕ) (x : X) → slice_get xs i ≡ Some x
    → drop i xs ≡ x ∷ drop (i + 1) xs
drop_at [] i x is = cc
drop_at (y ∷ ys) zero x is = let same : y ≡ x = cc in ap (λ z. z ∷ ys) same
drop_at (y ∷ ys) (suc i) x is =
    let next : suc (i + 1) ≡ suc i + 1 = omega arith in
    drop_at ys i x is ∙ ap (λ n. x ∷ drop n (y ∷ ys)) next

none_from : {X : Type 0} (xs : List X) (i : ℕ) → length xs ≤ i → drop i xs ≡ []
none_from [] zero long = refl
none_from [] (suc i) long = refl
none_from (x ∷ xs) zero long = absurd (omega (arith, long))
none_from (x ∷ xs) (suc i) long = none_from xs i (omega (arith, long))

module _ (f : ℕ → Bool) (xs : List ℕ) (i : ℕ) where
  pub first_here : (x : ℕ) → slice_get xs i ≡ Some x → f x ≡ true
      → first_of (filter f xs) ≡ find f (drop i xs) → Some x ≡ first_of (filter f xs)
  first_here x is holds before =
      sym (before ∙ ap (find f) (drop_at xs i x is)
      ∙ ap (λ b. cond b (Some x) (find f (drop (i + 1) xs))) holds)

  pub first_on : (x : ℕ) → slice_get xs i ≡ Some x → f x ≡ false
      → first_of (filter f xs) ≡ find f (drop i xs)
      → first_of (filter f xs) ≡ find f (drop (i + 1) xs)
  first_on x is fails before =
      before ∙ ap (find f) (drop_at xs i x is)
      ∙ ap (λ b. cond b (Some x) (find f (drop (i + 1) xs))) fails

  pub first_end : length xs ≤ i → first_of (filter f xs) ≡ find f (drop i xs)
      → None ≡ first_of (filter f xs)
  first_end long before = sym (before ∙ ap (find f) (none_from xs i long))

pub first_all : (f : ℕ → Bool) (xs : List ℕ) → first_of (filter f xs) ≡ find f (drop 0 xs)
first_all f xs = first_kept f xs

pub taken_more : {X : Type 0} (xs : List X) (i : ℕ) (x : X) → slice_get xs i ≡ Some x
    → take (i + 1) xs ≡ take i xs ++ x ∷ []
taken_more [] i x is = cc
taken_more {X} (y ∷ ys) zero x is = let same : y ≡ x = cc in ap (λ (z : X). z ∷ []) same
taken_more {X} (y ∷ ys) (suc i) x is =
    let next : suc i + 1 ≡ suc (i + 1) = omega arith in
    ap (λ (n : ℕ). take n (y ∷ ys)) next
    ∙ ap (λ (l : List X). y ∷ l) (taken_more ys i x is)

-- what f makes of the elements of a list, so far
pub mapped_more : {X Y : Type 0} (f : X → Y) (xs : List X) (i : ℕ) (x : X) (ys : List Y) (y : Y)
    → slice_get xs i ≡ Some x → ys ≡ map f (take i xs) → y ≡ f x
    → ys ++ y ∷ [] ≡ map f (take (i + 1) xs)
mapped_more {X} {Y} f xs i x ys y there before now =
    ap (λ (l : List Y). l ++ y ∷ []) before
    ∙ ap (λ (z : Y). map f (take i xs) ++ z ∷ []) now
    ∙ pushed (take i xs) x
    ∙ ap (map f) (sym (taken_more xs i x there))
  where
    pushed : (zs : List X) (z : X) → map f zs ++ f z ∷ [] ≡ map f (zs ++ z ∷ [])
    pushed [] z = refl
    pushed (a ∷ zs) z = ap (λ (l : List Y). f a ∷ l) (pushed zs z)

pub mapped_all : {X Y : Type 0} (f : X → Y) (xs : List X) (i : ℕ) (ys : List Y)
    → length xs ≤ i → ys ≡ map f (take i xs) → ys ≡ map f xs
mapped_all f xs i ys long before = before ∙ ap (map f) (take_all i xs long)

-- what f makes of one of them
pub mapped_at : {X Y : Type 0} (f : X → Y) (xs : List X) (i : ℕ) (x : X) (ys : List Y) (y : Y)
    → slice_get xs i ≡ Some x → ys ≡ map f xs → y ≡ get_or ys i y → y ≡ f x
mapped_at f [] i x ys y there each at = cc
mapped_at {X} {Y} f (z ∷ zs) zero x ys y there each at =
    let same : z ≡ x = cc in
    at ∙ ap (λ (l : List Y). get_or l 0 y) each ∙ ap f same
mapped_at {X} {Y} f (z ∷ zs) (suc i) x ys y there each at =
    mapped_at f zs i x (map f zs) y there refl
    (at ∙ ap (λ (l : List Y). get_or l (suc i) y) each)

-- ---- tests that are joined

pub second_of : (first second r : Bool) → true ≡ first → r ≡ second → r ≡ (first && second)
second_of true second r is told = told
second_of false second r is told = absurd (true≢false is)

pub first_fails : (first second : Bool) → false ≡ first → false ≡ (first && second)
first_fails true second is = absurd (true≢false (sym is))
first_fails false second is = refl

-- ---- threads

-- what is told of a thread that lives, by its process, and of one that doesn't
module _ {A : Type 0} (f : ℕ → Option A) where
  pub gone_action : (o : Option Thread) → false ≡ is_some o
      → None ≡ option_and_then (λ (thread : Thread). f thread.process) o
  gone_action None is = refl
  gone_action (Some thread) is = absurd (true≢false (sym is))

  pub live_action : (o : Option Thread) (p : ℕ) (r : Option A) → true ≡ is_some o
      → IfSome o (λ thread. p ≡ thread.process) → r ≡ f p
      → r ≡ option_and_then (λ (thread : Thread). f thread.process) o
  live_action None p r is of told = absurd (true≢false is)
  live_action (Some thread) p r is of told = told ∙ ap f of

-- whose thread one is that lives
pub process_is : (w : World) (t p : ℕ) → true ≡ is_some (thread_at w t)
    → IfSome (thread_at w t) (λ thread. p ≡ thread.process) → p ≡ process_of w t
process_is w t p is of = by (thread_at w t) is of
  where
    by : (o : Option Thread) → true ≡ is_some o → IfSome o (λ thread. p ≡ thread.process)
        → p ≡ elim o [ None ↦ 0 | Some thread ↦ thread.process ]
    by None is of = absurd (true≢false is)
    by (Some thread) is of = of

-- one that is told of lives
pub told_lives : (s : Session) (rs : List Resumption) (w : World) (t : ℕ)
    → true ≡ is_told_of s rs w t → true ≡ is_some (thread_at w t)
told_lives s rs w t told = by (thread_at w t) told
  where
    by : (o : Option Thread)
        → true ≡ elim o [ None ↦ false | Some thread ↦ is_acting s rs w t thread ]
        → true ≡ is_some o
    by None is = is
    by (Some thread) is = refl

-- ---- the mover

module _ (s : Session) (rs : List Resumption) (w : World) where
  abbrev teller : ℕ → Option ℕ
  teller t = if is_told_of s rs w t then Some t else None

  pub told_broken : (o : Option ℕ)
      → option_map_or (λ t. is_thread_broken s (thread_at w t)) (option_and_then teller o) false
      ≡ is_some (broken_by s rs w o)
  told_broken None = refl
  told_broken (Some t) = by (is_told_of s rs w t)
    where
      broken : (b : Bool) → b ≡ is_some (cond b (Some t) None)
      broken true = refl
      broken false = refl

      by : (told : Bool)
          → option_map_or (λ t. is_thread_broken s (thread_at w t)) (cond told (Some t) None) false
          ≡ is_some (cond (told && is_thread_broken s (thread_at w t)) (Some t) None)
      by false = refl
      by true = broken (is_thread_broken s (thread_at w t))

  pub broken_none : (o : Option ℕ) → option_and_then teller o ≡ None
      → broken_by s rs w o ≡ None
  broken_none None is = refl
  broken_none (Some t) is = by (is_told_of s rs w t) is
    where
      by : (told : Bool) → cond told (Some t) None ≡ None
          → cond (told && is_thread_broken s (thread_at w t)) (Some t) None ≡ None
      by false is = refl
      by true is = cc

  pub broken_some : (o : Option ℕ) (t : ℕ) → option_and_then teller o ≡ Some t
      → is_some (broken_by s rs w o) ≡ true → broken_by s rs w o ≡ Some t
  broken_some None t is broken = cc
  broken_some (Some n) t is broken =
      by (is_told_of s rs w n) (is_thread_broken s (thread_at w n)) is broken
    where
      by : (told stands : Bool) → cond told (Some n) None ≡ Some t
          → is_some (cond (told && stands) (Some n) None) ≡ true
          → cond (told && stands) (Some n) None ≡ Some t
      by false stands is broken = cc
      by true false is broken = absurd (true≢false (sym broken))
      by true true is broken = is

pub not_some : {A : Type 0} (o : Option A) → is_some o ≡ false → o ≡ None
not_some None is = refl
not_some (Some x) is = absurd (true≢false is)

-- ---- whose stop it is

pub whose_or : (s : Session) (rs : List Resumption) (at : Position) (o : Option ℕ)
    → whose_stop s rs at (option_map (home_pair s) o) ≡ pair_or s o (chosen_at s rs at)
whose_or s rs at None = refl
whose_or s rs at (Some t) = refl

-- ---- the halt by a watchpoint

-- as it is kept
abbrev pub kept_at : (moves : ℕ) → Option Pair → Cause → Kept
kept_at moves whose cause = record {
  moves = moves;
  signal = 5;
  whose = whose;
  cause = cause;
  born = None;
  is_owed = false;
}

module _ (s : Session) (rs : List Resumption) (kind : MoveKind) (w : World) (start : Position)
    (point : Watchpoint) (first other : ℕ) where
  abbrev goes_by : Option ℕ → Option ℕ → Option Halt
  goes_by mover lowest = elim mover [
    | Some t ↦ Some (halt_at (position_after first start) (home_pair s t) (Watched point))
    | None ↦ Some (halt_owing (position_after other start)
        (pair_or s lowest (chosen_at s rs (position_after other start))) point)
  ]

  pub by_mover : (halt : Kept) (t : ℕ) (pair : Pair) → Some t ≡ watching_mover s rs kind w point
      → pair ≡ home_pair s t → halt ≡ kept_at first (Some pair) (Watched point)
      → Some (halt_meant s rs start halt)
      ≡ halt_watched s rs kind w (position_after first start) (position_after other start)
      (Some point)
  by_mover halt t pair mover home is =
      ap (λ (h : Kept). Some (halt_meant s rs start h)) is
      ∙ ap (λ (p : Pair). Some (halt_at (position_after first start) p (Watched point))) home
      ∙ ap (λ (m : Option ℕ). goes_by m (lowest_watcher s rs w point)) mover

  pub by_lowest : (halt : Kept) (whose : Option Pair) (lowest : Option ℕ)
      → None ≡ watching_mover s rs kind w point
      → whose ≡ option_map (home_pair s) lowest → lowest ≡ lowest_watcher s rs w point
      → halt ≡ kept_at other whose (Watched point)
      → Some (halt_meant s rs start (record halt { is_owed = true }))
      ≡ halt_watched s rs kind w (position_after first start) (position_after other start)
      (Some point)
  by_lowest halt whose lowest mover pair lowest_is is =
      ap (λ (h : Kept). Some (halt_meant s rs start (record h { is_owed = true }))) is
      ∙ ap (λ (p : Option Pair). Some (halt_owing (position_after other start)
      (whose_stop s rs (position_after other start) p) point)) pair
      ∙ ap (λ (p : Pair). Some (halt_owing (position_after other start) p point))
      (whose_or s rs (position_after other start) lowest)
      ∙ ap (λ (o : Option ℕ). goes_by None o) lowest_is
      ∙ ap (λ (m : Option ℕ). goes_by m (lowest_watcher s rs w point)) mover
