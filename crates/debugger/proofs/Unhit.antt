-- Where watched bytes lie, and moves that change no byte there.
use Rattle.std.proofs.Common.{◌≡◌, ◌⊎◌, inl, inr, ℕ, zero, suc, ◌+◌, ◌-◌, ◌*◌, ◌/◌, ◌%◌, ◌<◌, ◌≤◌}
use Rattle.std.proofs.Common.{Bool, true, false, cond, not, List, [], ◌∷◌, ◌++◌, length, All}
use Rattle.std.proofs.Common.{Option, Some, None, IfSome, refl, sym, ap, subst, ◌∙◌, arith, take}
use Rattle.std.specs.Prelude.{◌==◌, ◌&&◌, ◌||◌, find, flat_map, slice_get, slice_index}
use Rattle.std.specs.Prelude.{option_and_then, option_map, option_to_list}
use Rattle.std.specs.List.{list_all, list_any}
use Rattle.std.proofs.lemmas.Bool.{true≢false, eqb-true, eq-eqb, and_from, and_parts, and_right}
use Rattle.std.proofs.lemmas.Bool.{or_from, or_left, or_right}
use Rattle.std.proofs.lemmas.List.{take_all}
use Rattle.std.proofs.lemmas.List.Concat.{flat_map-append}
use Rattle.std.proofs.lemmas.List.Elements.{All-cons, All-head, All-nil, All-tail}
use Rattle.std.proofs.lemmas.List.Folds.{list_any-append}
use Rattle.dos_world.specs.Numbered.{run_of}
use Rattle.dos_world.specs.World.{World, Process, look, space_of, page_size}
use Rattle.dos_world.specs.declared.Entry.{Entry}
use Rattle.group_moves.specs.Moves.{MoveKind}
use Rattle.group_walk.specs.Stretches.{KeepsFrame}
use Rattle.gdb_packets.specs.declared.resumptions.Resumption.{Resumption}
use Rattle.debug_session.specs.declared.points.WatchKind.{WatchKind}
use Rattle.debug_session.specs.declared.points.Watchpoint.{Watchpoint}
use Rattle.debug_session.specs.Hits.{hit_by, is_changed, is_hit_as, is_other_byte, is_watching}
use Rattle.debug_session.specs.Hits.{watched_addresses}
use Rattle.debug_session.specs.Sessions.{Session}
use Rattle.debug_session.specs.Told.{byte_told, place_of_address}
use Rattle.debug_hits.specs.Kept.{FitsPage}
use Rattle.debugger.specs.Quiet.{AreWatchedIn, IsForChanges, IsWatchedIn, frame_at}
use Rattle.debugger.specs.Quiet.{frames_watched, is_in_frames}
use Rattle.debugger.proofs.Watching.{taken_more}

-- ---- frames

-- a frame, where there is one, is one of these
abbrev Holds : (frames : List ℕ) → Option ℕ → Type 0
Holds frames frame =
    IfSome frame (λ (f : ℕ). list_any (λ (x : ℕ). x == f) frames ≡ true)

-- all that are in one list are in the other
abbrev Covers : (more frames : List ℕ) → Type 0
Covers more frames = (f : ℕ) → list_any (λ (x : ℕ). x == f) frames ≡ true
    → list_any (λ (x : ℕ). x == f) more ≡ true

covers_left : (xs ys : List ℕ) → Covers (xs ++ ys) xs
covers_left xs ys f is =
    list_any-append (λ (x : ℕ). x == f) xs ys
    ∙ or_left (list_any (λ (x : ℕ). x == f) xs) (list_any (λ (x : ℕ). x == f) ys) is

covers_right : (xs ys : List ℕ) → Covers (xs ++ ys) ys
covers_right xs ys f is =
    list_any-append (λ (x : ℕ). x == f) xs ys
    ∙ or_right (list_any (λ (x : ℕ). x == f) xs) (list_any (λ (x : ℕ). x == f) ys) is

holds_one : (frame : Option ℕ) → Holds (option_to_list frame) frame
holds_one None = tt
holds_one (Some f) = or_left (f == f) false (eq-eqb f f refl)

holds_more : (more frames : List ℕ) (frame : Option ℕ) → Covers more frames
    → Holds frames frame → Holds more frame
holds_more more frames None covers holds = tt
holds_more more frames (Some f) covers holds = covers f holds

-- ---- a watchpoint's bytes

module _ (w : World) (p : ℕ) (frames : List ℕ) where
  -- an address of a page whose frame is there
  at_page : (a page : ℕ) → a / 4096 ≡ page → Holds frames (frame_at w p page)
      → is_in_frames frames (place_of_address w p a) ≡ true
  at_page a page of_page holds =
      by (look (space_of w p) (a / 4096))
      (subst (λ (n : ℕ). Holds frames (frame_at w p n)) (sym of_page) holds)
    where
      by : (o : Option Entry) → Holds frames (option_map (λ (e : Entry). e.frame) o)
          → is_in_frames frames
          (option_map (λ (e : Entry). page_size * e.frame + a % page_size) o) ≡ true
      by None there = refl
      by (Some e) there =
          let page_is : (4096 * e.frame + a % 4096) / 4096 ≡ e.frame = omega arith in
          ap (λ (f : ℕ). list_any (λ (x : ℕ). x == f) frames) page_is ∙ there

  -- so many addresses from one on, of one page or another
  in_pages : (first last : ℕ) → Holds frames (frame_at w p first)
      → Holds frames (frame_at w p last) → (n a : ℕ)
      → ((k : ℕ) → k < n → ((a + k) / 4096 ≡ first) ⊎ ((a + k) / 4096 ≡ last))
      → list_all (λ x. is_in_frames frames (place_of_address w p x)) (run_of a n) ≡ true
  in_pages first last one other zero a each = refl
  in_pages first last one other (suc n) a each =
      let here : a + 0 ≡ a = omega arith in
      and_from (is_in_frames frames (place_of_address w p a))
      (list_all (λ x. is_in_frames frames (place_of_address w p x)) (run_of (suc a) n))
      (at_either a (subst (λ (b : ℕ). (b / 4096 ≡ first) ⊎ (b / 4096 ≡ last)) here
      (each 0 (omega arith))))
      (in_pages first last one other n (suc a) (λ k less.
      let next : a + suc k ≡ suc a + k = omega arith in
      subst (λ (b : ℕ). (b / 4096 ≡ first) ⊎ (b / 4096 ≡ last)) next
      (each (suc k) (omega (arith, less)))))
    where
      at_either : (b : ℕ) → (b / 4096 ≡ first) ⊎ (b / 4096 ≡ last)
          → is_in_frames frames (place_of_address w p b) ≡ true
      at_either b (inl is) = at_page b first is one
      at_either b (inr is) = at_page b last is other

-- a number between two that are next to each other, or the same
either_of : (x first last : ℕ) → first ≤ x → x ≤ last → last ≤ suc first
    → (x ≡ first) ⊎ (x ≡ last)
either_of x first last low high near = by (x - first) refl
  where
    by : (d : ℕ) → x - first ≡ d → (x ≡ first) ⊎ (x ≡ last)
    by zero is = inl (omega (arith, low, is))
    by (suc d) is = inr (omega (arith, low, high, near, is))

watched_point : (w : World) (frames : List ℕ) (point : Watchpoint) → FitsPage point
    → Covers frames (frames_watched w point) → IsWatchedIn w frames point
watched_point w frames point fits covers =
    let p = point.process in
    let address = point.address in
    let many = point.length in
    let first = address / 4096 in
    let last = (address + (many - 1)) / 4096 in
    let one = option_to_list (frame_at w p first) in
    let other = option_to_list (frame_at w p last) in
    let short : many ≤ 4096 = fits in
    in_pages w p frames first last
    (holds_more frames one (frame_at w p first) (λ f is. covers f (covers_left one other f is))
    (holds_one (frame_at w p first)))
    (holds_more frames other (frame_at w p last)
    (λ f is. covers f (covers_right one other f is)) (holds_one (frame_at w p last)))
    many address (λ k less.
    either_of ((address + k) / 4096) first last (omega arith) (omega (arith, less))
    (omega (arith, short)))

watched_each : (w : World) (frames : List ℕ) (points : List Watchpoint) → All FitsPage points
    → Covers frames (flat_map (frames_watched w) points) → AreWatchedIn w frames points
watched_each w frames [] fit covers = All-nil (IsWatchedIn w frames)
watched_each w frames (point ∷ points) fit covers =
    let front = frames_watched w point in
    let rest = flat_map (frames_watched w) points in
    All-cons (IsWatchedIn w frames) point points
    (watched_point w frames point (All-head FitsPage point points fit)
    (λ f is. covers f (covers_left front rest f is)))
    (watched_each w frames points (All-tail FitsPage point points fit)
    (λ f is. covers f (covers_right front rest f is)))

no_more : (xs : List ℕ) → xs ≡ xs ++ []
no_more [] = refl
no_more (x ∷ xs) = ap (λ (l : List ℕ). x ∷ l) (no_more xs)

-- what is kept for one more of them
pub frames_more : (f : Watchpoint → List ℕ) (points : List Watchpoint) (i : ℕ)
    (point : Watchpoint) (before now : List ℕ) → slice_get points i ≡ Some point
    → before ≡ flat_map f (take i points) → now ≡ before ++ f point
    → now ≡ flat_map f (take (i + 1) points)
frames_more f points i point before now there so_far more =
    more ∙ ap (λ (l : List ℕ). l ++ f point) so_far
    ∙ ap (λ (l : List ℕ). flat_map f (take i points) ++ l) (no_more (f point))
    ∙ sym (flat_map-append f (take i points) (point ∷ []))
    ∙ ap (flat_map f) (sym (taken_more points i point there))

-- What is kept for all of them serves.
pub watched_in : (w : World) (points : List Watchpoint) (i : ℕ) (frames : List ℕ)
    → All FitsPage points → length points ≤ i
    → frames ≡ flat_map (frames_watched w) (take i points) → AreWatchedIn w frames points
watched_in w points i frames fit long kept =
    let all : frames ≡ flat_map (frames_watched w) points =
    kept ∙ ap (flat_map (frames_watched w)) (take_all i points long) in
    watched_each w frames points fit
    (λ f is. ap (λ (l : List ℕ). list_any (λ (x : ℕ). x == f) l) all ∙ is)

-- ---- a move that leaves them

-- The bytes lie where they lay, where the processes are the same.
pub still_watched : (w next : World) (frames : List ℕ) (points : List Watchpoint)
    → next.processes ≡ w.processes → AreWatchedIn w frames points
    → AreWatchedIn next frames points
still_watched w next frames points same watched =
    subst (λ (ps : List Process). AreWatchedIn (record w { processes = ps }) frames points)
    (sym same) watched

-- a byte that is there in two lists that are as long
same_there : (xs ys : List ℕ) (i : ℕ) → length ys ≡ length xs
    → slice_index ys i ≡ slice_index xs i → slice_get ys i ≡ slice_get xs i
same_there [] [] i long same = refl
same_there [] (y ∷ ys) i long same = absurd (omega (arith, long))
same_there (x ∷ xs) [] i long same = absurd (omega (arith, long))
same_there (x ∷ xs) (y ∷ ys) zero long same = ap (λ (z : ℕ). Some z) same
same_there (x ∷ xs) (y ∷ ys) (suc i) long same = same_there xs ys i (omega (arith, long)) same

module _ (w next : World) (same : next.processes ≡ w.processes)
    (long : length next.bytes ≡ length w.bytes) where
  -- a byte in one of the frames that are kept
  kept_there : (frames : List ℕ) (place : ℕ) → All (KeepsFrame w next) frames
      → list_any (λ (frame : ℕ). frame == place / 4096) frames ≡ true
      → slice_index next.bytes place ≡ slice_index w.bytes place
  kept_there [] place kept among = absurd (true≢false (sym among))
  kept_there (f ∷ frames) place kept among =
      by (f == place / 4096) refl
      (kept_there frames place (All-tail (KeepsFrame w next) f frames kept)) among
    where
      by : (b : Bool) → (f == place / 4096) ≡ b
          → (list_any (λ (frame : ℕ). frame == place / 4096) frames ≡ true
          → slice_index next.bytes place ≡ slice_index w.bytes place)
          → (b || list_any (λ (frame : ℕ). frame == place / 4096) frames) ≡ true
          → slice_index next.bytes place ≡ slice_index w.bytes place
      by true is rest any =
          All-head (KeepsFrame w next) f frames kept place (sym (eqb-true f (place / 4096) is))
      by false is rest any = rest any

  same_place : (p a : ℕ) → place_of_address next p a ≡ place_of_address w p a
  same_place p a =
      ap (λ (ps : List Process). place_of_address (record w { processes = ps }) p a) same

  module _ (frames : List ℕ) (kept : All (KeepsFrame w next) frames) where
    byte_at : (place : Option ℕ) → is_in_frames frames place ≡ true
        → option_and_then (λ (i : ℕ). slice_get next.bytes i) place
        ≡ option_and_then (λ (i : ℕ). slice_get w.bytes i) place
    byte_at None among = refl
    byte_at (Some i) among =
        same_there w.bytes next.bytes i long (kept_there frames i kept among)

    same_byte : (p a : ℕ) → is_in_frames frames (place_of_address w p a) ≡ true
        → byte_told next p a ≡ byte_told w p a
    same_byte p a among =
        ap (option_and_then (λ (i : ℕ). slice_get next.bytes i)) (same_place p a)
        ∙ byte_at (place_of_address w p a) among

    not_other : (o : Option ℕ) → is_other_byte o o ≡ false
    not_other None = refl
    not_other (Some a) = ap not (eq-eqb a a refl)

    none_other : (p : ℕ) (addresses : List ℕ)
        → list_all (λ a. is_in_frames frames (place_of_address w p a)) addresses ≡ true
        → list_any (λ a. is_other_byte (byte_told w p a) (byte_told next p a)) addresses ≡ false
    none_other p [] among = refl
    none_other p (a ∷ addresses) among =
        let parts = and_parts (is_in_frames frames (place_of_address w p a))
        (list_all (λ x. is_in_frames frames (place_of_address w p x)) addresses) among in
        or_from (is_other_byte (byte_told w p a) (byte_told next p a))
        (list_any (λ x. is_other_byte (byte_told w p x) (byte_told next p x)) addresses)
        (ap (is_other_byte (byte_told w p a)) (same_byte p a parts.0)
        ∙ not_other (byte_told w p a))
        (none_other p addresses parts.1)

    -- no byte of a watchpoint changes
    pub unchanged : (point : Watchpoint) → IsWatchedIn w frames point
        → is_changed w next point ≡ false
    unchanged point watched =
        none_other point.process (watched_addresses point) watched

    module _ (s : Session) (rs : List Resumption) (kind : MoveKind) where
      unhit_point : (point : Watchpoint) → IsForChanges point → IsWatchedIn w frames point
          → (is_watching s rs w next point && is_hit_as point.kind w kind next point) ≡ false
      unhit_point point changes watched =
          and_right (is_watching s rs w next point) (is_hit_as point.kind w kind next point)
          (ap (λ (k : WatchKind). is_hit_as k w kind next point) changes
          ∙ unchanged point watched)

      unhit_each : (points : List Watchpoint) → All IsForChanges points
          → AreWatchedIn w frames points
          → find (λ point. is_watching s rs w next point
          && is_hit_as point.kind w kind next point) points ≡ None
      unhit_each [] changes watched = refl
      unhit_each (point ∷ points) changes watched =
          ap (λ b. cond b (Some point) (find (λ x. is_watching s rs w next x
          && is_hit_as x.kind w kind next x) points))
          (unhit_point point (All-head IsForChanges point points changes)
          (All-head (IsWatchedIn w frames) point points watched))
          ∙ unhit_each points (All-tail IsForChanges point points changes)
          (All-tail (IsWatchedIn w frames) point points watched)

-- A move that leaves the processes, and the bytes of the frames in which what is watched lies,
-- hits no watchpoint, where all are hit by changes alone.
pub unhit : (s : Session) (rs : List Resumption) (w next : World) (kind : MoveKind)
    (frames : List ℕ) → All IsForChanges s.watchpoints → AreWatchedIn w frames s.watchpoints
    → next.processes ≡ w.processes → length next.bytes ≡ length w.bytes
    → All (KeepsFrame w next) frames → hit_by s rs w kind next ≡ None
unhit s rs w next kind frames changes watched same long kept =
    unhit_each w next same long frames kept s rs kind s.watchpoints changes watched
