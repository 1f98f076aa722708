-- Where instructions tell of nothing. This project's own words.
use Rattle.std.specs.Prelude.{ℕ, ◌≡◌, ◌==◌, ◌+◌, ◌-◌, ◌/◌, All, Bool, true, not, List, ◌++◌}
use Rattle.std.specs.Prelude.{Option, Some, None, option_map, option_to_list}
use Rattle.std.specs.List.{list_all, list_any}
use Rattle.dos_world.specs.World.{World, look, space_of, page_size}
use Rattle.dos_world.specs.declared.Entry.{Entry}
use Rattle.gdb_packets.specs.declared.resumptions.Resumption.{Resumption}
use Rattle.debug_session.specs.Actions.{is_stepping}
use Rattle.debug_session.specs.Hits.{watched_addresses}
use Rattle.debug_session.specs.Points.{is_broken_at}
use Rattle.debug_session.specs.declared.points.WatchKind.TheVariants.{Changes}
use Rattle.debug_session.specs.declared.points.Watchpoint.{Watchpoint}
use Rattle.debug_session.specs.Sessions.{Session}
use Rattle.debug_session.specs.Told.{place_of_address}

-- hit by changes alone
abbrev pub IsForChanges : Watchpoint → Type 0
IsForChanges point = point.kind ≡ Changes

-- All watchpoints are hit by changes alone, and all breakpoints are at some of these addresses.
pub record StopsAtAddresses (s : Session) (stops : List ℕ) : Type 0 where
  pub changes : All IsForChanges s.watchpoints
  pub stops_there : (p pc : ℕ) → is_broken_at s.breakpoints p pc ≡ true
      → list_any (λ (stop : ℕ). stop == pc) stops ≡ true

-- no action steps
abbrev pub is_nobody_stepping : List Resumption → Bool
is_nobody_stepping rs = not (list_any (λ (r : Resumption). is_stepping r.action) rs)

-- ---- where watched bytes are

-- the frame of a page of a process, where it is mapped
abbrev pub frame_at : World → (p page : ℕ) → Option ℕ
frame_at w p page = option_map (λ (e : Entry). e.frame) (look (space_of w p) page)

-- the frames of the pages of a watchpoint's first and last byte
abbrev pub frames_watched : World → Watchpoint → List ℕ
frames_watched w point =
    option_to_list (frame_at w point.process (point.address / page_size))
    ++ option_to_list
    (frame_at w point.process ((point.address + (point.length - 1)) / page_size))

-- a place, where there is one, lies in one of these frames
abbrev pub is_in_frames : (frames : List ℕ) → (place : Option ℕ) → Bool
is_in_frames frames None = true
is_in_frames frames (Some place) = list_any (λ frame. frame == place / page_size) frames

-- Each watched byte that is mapped lies in one of these frames.
abbrev pub IsWatchedIn : World → (frames : List ℕ) → Watchpoint → Type 0
IsWatchedIn w frames point =
    list_all (λ a. is_in_frames frames (place_of_address w point.process a))
    (watched_addresses point) ≡ true

abbrev pub AreWatchedIn : World → (frames : List ℕ) → List Watchpoint → Type 0
AreWatchedIn w frames points = All (IsWatchedIn w frames) points
