-- What a session is between two packets, and what it tells of: processes and threads. This
-- project's own rule.
use Rattle.std.specs.Prelude.{ℕ, ◌==◌, ◌&&◌, ◌||◌, Bool, false, not, List, [], ◌∷◌, ◌++◌}
use Rattle.std.specs.Prelude.{length, filter, filter_map, is_some, is_none, Option, Some, None}
use Rattle.std.specs.Prelude.{option_to_list}
use Rattle.std.specs.List.{list_any}
use Rattle.dos_world.specs.Numbered.{run_of}
use Rattle.dos_world.specs.World.{World, Thread, thread_at, live_process, live_threads, first_of}
use Rattle.flat_machine.specs.Opening.{rising}
use Rattle.gdb_packets.specs.declared.ids.ThreadId.{ThreadId}
use Rattle.gdb_packets.specs.declared.ids.ThreadId.TheVariants.{ThreadAlone}
use Rattle.gdb_packets.specs.declared.ids.Which.TheVariants.{All}
use Rattle.gdb_packets.specs.declared.resumptions.Resumption.{Resumption}
use Rattle.debug_session.specs.Positions.{Position, mover_at, all_moments}
use Rattle.debug_session.specs.Recordings.{Recording}
use Rattle.debug_session.specs.Homes.{is_some_number, birth_thread, home_of}
use Rattle.debug_session.specs.Actions.{action_of_thread, are_for}
use Rattle.debug_session.specs.Points.{Breakpoint, Watchpoint}

-- What is debugged; the position in its history; the current process and thread; what the last `Hc`
-- named; the processes that were told of, and those that were let go; whether the client is told of
-- forks; the points that are set; the thread that is meant where none is named; the thread whose
-- step is owed; the moment, as a round and a move, to go to.
pub record Session : Type 0 where
  pub recording : Recording
  pub position : Position
  pub process : ℕ
  pub thread : ℕ
  pub resumed : ThreadId
  pub told : List ℕ
  pub let_go : List ℕ
  pub is_told_forks : Bool
  pub breakpoints : List Breakpoint
  pub watchpoints : List Watchpoint
  pub meant : ℕ
  pub owed : Option ℕ
  pub goal : Option (ℕ × ℕ)

-- At first the processes of the images are told of, and the first thread is current.
abbrev pub opening_session : Recording → Position → Session
opening_session r at = record {
  recording = r;
  position = at;
  process = 1;
  thread = 1;
  resumed = ThreadAlone All;
  told = run_of 1 (length r.names);
  let_go = [];
  is_told_forks = false;
  breakpoints = [];
  watchpoints = [];
  meant = 1;
  owed = None;
  goal = None;
}

-- ---- processes

abbrev pub is_among : ℕ → List ℕ → Bool
is_among n ns = list_any (λ k. k == n) ns

-- the process lives
abbrev pub is_process_live : World → ℕ → Bool
is_process_live w p = is_some (live_process w p)

-- A process is shown that was told of. To a client that isn't told of forks, each is while it
-- lives, unless it was let go.
abbrev pub is_shown : Session → World → ℕ → Bool
is_shown s w p =
    is_among p s.told
    || (not s.is_told_forks && not (is_among p s.let_go) && is_process_live w p)

-- ---- listed threads

-- t lives and its process is shown
abbrev pub is_thread_shown : Session → World → ℕ → Bool
is_thread_shown s w t =
    elim (thread_at w t) [ None ↦ false | Some thread ↦ is_shown s w thread.process ]

-- the first threads of the processes that were told of and don't live at this moment
abbrev pub absent_threads : Session → World → List ℕ
absent_threads s w =
    filter_map (birth_thread (all_moments s.position))
    (filter (λ p. is_none (live_process w p)) s.told)

-- The live threads of the shown processes; and for a process that was told of and isn't born yet,
-- or has ended, the thread that it was born with. In rising number.
abbrev pub listed_at : Session → World → List ℕ
listed_at s w = rising (filter (is_thread_shown s w) (live_threads w) ++ absent_threads s w)

abbrev pub listed : Session → List ℕ
listed s = listed_at s s.position.moment.world

-- the process of a thread that has one
abbrev pub home_in : Session → ℕ → Option ℕ
home_in s t = home_of (all_moments s.position) t

-- ---- threads that are told of

-- a thread of a shown process with an action
abbrev pub is_acting : Session → List Resumption → World → ℕ → Thread → Bool
is_acting s rs w t thread =
    is_shown s w thread.process && is_some (action_of_thread rs thread.process t)

-- t lives, its process is shown, and it has an action
abbrev pub is_told_of : Session → List Resumption → World → ℕ → Bool
is_told_of s rs w t =
    elim (thread_at w t) [ None ↦ false | Some thread ↦ is_acting s rs w t thread ]

-- A process belongs that is shown, where an action is for it or for a thread of it.
abbrev pub is_belonging : Session → List Resumption → World → ℕ → Bool
is_belonging s rs w p = is_shown s w p && are_for (all_moments s.position) rs p

-- some process that belongs lives
abbrev pub is_anybody_there : Session → List Resumption → World → Bool
is_anybody_there s rs w =
    list_any (λ p. is_process_live w p && is_belonging s rs w p) (run_of 1 (length w.processes))

-- ---- the chosen thread

-- who comes before whom: the mover, the current thread and the lowest that is told of; then the
-- current thread, the lowest of its process and the lowest that is listed
abbrev pub candidates : Session → List Resumption → World → (mover : Option ℕ) → List ℕ
candidates s rs w mover =
    filter (is_told_of s rs w) (option_to_list mover ++ s.thread ∷ live_threads w)
    ++ filter (λ t. is_among t (listed_at s w)) (s.thread ∷ [])
    ++ filter (λ t. is_some_number s.process (home_in s t)) (listed_at s w)
    ++ listed_at s w

-- a process and a thread of it
abbrev pub Pair : Type 0
Pair = ℕ × ℕ

abbrev pub home_pair : Session → ℕ → Pair
home_pair s t = elim (home_in s t) [ None ↦ (s.process, t) | Some p ↦ (p, t) ]

abbrev pub chosen_among : Session → Option ℕ → Pair
chosen_among s None = (s.process, s.thread)
chosen_among s (Some t) = home_pair s t

-- The thread that a stop names which is nobody's in particular.
abbrev pub chosen_at : Session → List Resumption → Position → Pair
chosen_at s rs at =
    chosen_among s (first_of (candidates s rs at.moment.world (mover_at at)))
