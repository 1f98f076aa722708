-- What a watch keeps of the moment before a move. This project's own rule.
use Rattle.std.specs.Prelude.{ℕ, ◌≡◌, ◌≤◌, ◌+◌, ◌-◌, ◌*◌, ◌%◌, min, Bool, false, not, ◌||◌, List}
use Rattle.std.specs.Prelude.{map}
use Rattle.std.specs.Prelude.{All, IfSome, length, slice_range}
use Rattle.std.specs.Str.{bytes_eq}
use Rattle.dos_world.specs.World.{World, look, space_of, page_size}
use Rattle.dos_world.specs.declared.Entry.{Entry}
use Rattle.group_moves.specs.Moves.{MoveKind}
use Rattle.debug_session.specs.declared.points.WatchKind.{WatchKind}
use Rattle.debug_session.specs.declared.points.Watchpoint.{Watchpoint}
use Rattle.debug_session.specs.declared.points.WatchKind.TheVariants.{Changes, Reads, Accesses}
use Rattle.debug_session.specs.Told.{bytes_told}
use Rattle.debug_session.specs.Accesses.{Touch}
use Rattle.debug_session.specs.Hits.{is_touched_so}
use Rattle.debug_hits.specs.declared.watched.Mark.{Mark}

-- ---- what is kept

-- A watchpoint; its bytes in the page of its first one, and those in the next page, each none where
-- the page isn't mapped; and whether the move touches what it watches so.
pub record Kept : Type 0 where
  pub point : Watchpoint
  pub front : List ℕ
  pub back : List ℕ
  pub is_touched : Bool

-- how many of its bytes lie in the page of the first one
abbrev pub front_count : Watchpoint → ℕ
front_count point = min (page_size - point.address % page_size) point.length

-- A move touches as the watchpoint is hit by; a change is none.
abbrev pub is_touched_as : WatchKind → World → MoveKind → Watchpoint → Bool
is_touched_as Changes w kind point = false
is_touched_as Reads w kind point =
    is_touched_so (λ (touch : Touch). touch.is_read) w kind point
is_touched_as Accesses w kind point =
    is_touched_so (λ (touch : Touch). touch.is_read || touch.is_written) w kind point

abbrev pub kept_of : World → MoveKind → Watchpoint → Kept
kept_of w kind point = let count : ℕ = front_count point in record {
  point = point;
  front = bytes_told w point.process count point.address;
  back = bytes_told w point.process (point.length - count) (point.address + count);
  is_touched = is_touched_as point.kind w kind point;
}

-- the bytes of a watchpoint are others than those that were kept
abbrev pub is_other_now : (front back : List ℕ) → World → Watchpoint → Bool
is_other_now front back w point = let count : ℕ = front_count point in
    not (bytes_eq front (bytes_told w point.process count point.address))
    || not (bytes_eq back (bytes_told w point.process (point.length - count)
    (point.address + count)))

-- ---- what was looked at

-- each frame that a process maps is there
abbrev pub AreFramesThere : World → Type 0
AreFramesThere w = (p page : ℕ)
    → IfSome (look (space_of w p) page)
    (λ (e : Entry). page_size * e.frame + page_size ≤ length w.bytes)

-- at most a page
abbrev pub FitsPage : Watchpoint → Type 0
FitsPage point = point.length ≤ 4096

-- Of these watchpoints in this order, before a move of this kind is made in this world, this was
-- kept.
pub record HasLooked (w : World) (kind : MoveKind) (points : List Watchpoint)
    (kept : List Kept) : Type 0 where
  pub frames : AreFramesThere w
  pub short : All FitsPage points
  pub each : kept ≡ map (kept_of w kind) points

-- ---- how it is kept

abbrev pub kept_in : List ℕ → Mark → Kept
kept_in bytes mark = record {
  point = mark.point;
  front = slice_range bytes mark.from mark.middle;
  back = slice_range bytes mark.middle mark.to;
  is_touched = mark.is_touched;
}

-- A mark's stretches are there, one behind the other.
pub record IsKeptWithin (bytes : List ℕ) (mark : Mark) : Type 0 where
  pub short : FitsPage mark.point
  pub front : mark.from ≤ mark.middle
  pub back : mark.middle ≤ mark.to
  pub end : mark.to ≤ length bytes
