-- Where a resumption backwards stops that comes from behind instructions which tell of nothing.
use Rattle.std.proofs.Common.{◌≡◌, ℕ, zero, suc, ◌+◌, ◌<◌, Bool, true, false, cond, List, Option}
use Rattle.std.proofs.Common.{Some, None, refl, sym, ap, subst, ◌∙◌, arith, eqb}
use Rattle.std.specs.Option.{option_eq}
use Rattle.std.specs.Prelude.{◌&&◌, All, length, not}
use Rattle.std.proofs.lemmas.Bool.{eqb-false, eqb-true, true≢false}
use Rattle.dos_world.specs.World.{World, Thread, thread_at}
use Rattle.group_moves.specs.Moments.{Moment}
use Rattle.group_moves.specs.Moves.{MoveKind, runs}
use Rattle.group_walk.specs.Stretches.{IsElsewhere, KeepsFrame}
use Rattle.group_walk.specs.Walks.{kinds_named}
use Rattle.group_walk.specs.declared.walker.MoveKind.TheVariants.{Runs}
use Rattle.gdb_packets.specs.declared.resumptions.Resumption.{Resumption}
use Rattle.recorded_walk.specs.Playbacks.{AreSilentMoves, IsSilentMove, MovesSilently}
use Rattle.debug_session.specs.Backwards.{halt_back, halt_broken_back, halt_stepped_back}
use Rattle.debug_session.specs.Backwards.{is_there, was_ever_there}
use Rattle.debug_session.specs.Forwards.{halt_broken, halt_watched, or_else}
use Rattle.debug_session.specs.Halts.{Halt, halt_at}
use Rattle.debug_session.specs.Hits.{broken_by, is_thread_broken}
use Rattle.debug_session.specs.Points.{is_broken_at}
use Rattle.debug_session.specs.Positions.{Position, first_kind, moved_on, position_after}
use Rattle.debug_session.specs.Sessions.{Session, Pair, home_pair, is_told_of}
use Rattle.debug_session.specs.declared.points.Watchpoint.{Watchpoint}
use Rattle.debug_session.specs.declared.stops.Cause.TheVariants.{Plainly}
use Rattle.debugger.specs.declared.halts.Halt.{Halt as Kept}
use Rattle.debugger.specs.Halting.{backwards_from, halt_meant}
use Rattle.debugger.specs.Quiet.{AreWatchedIn, StopsAtAddresses}
use Rattle.debugger.specs.Standing.{SessionView, here}
use Rattle.debugger.proofs.Backing.{backwards_over_move, from_behind, its_move, other_mover, was_by}
use Rattle.debugger.proofs.Backing.{was_over_move}
use Rattle.debugger.proofs.Passed.{or_second}
use Rattle.debugger.proofs.Pathway.{after_first, after_sum, on_step}
use Rattle.debugger.proofs.Unhit.{still_watched, unhit}
use Rattle.debugger.proofs.Watching.{kept_at}

-- ---- one instruction

module _ (stops frames : List ℕ) (t : ℕ) (at : Position) (silent : IsSilentMove stops frames t at)
  where
    next_on : (moved_on at).moment ≡ silent.next
    next_on = ap (λ (p : Position). p.moment) (on_step at _ silent.later silent.ahead)

    processes_on : (moved_on at).moment.world.processes ≡ at.moment.world.processes
    processes_on = ap (λ (m : Moment). m.world.processes) next_on ∙ silent.same.processes

    count_on : length (moved_on at).moment.world.bytes ≡ length at.moment.world.bytes
    count_on = ap (λ (m : Moment). length m.world.bytes) next_on ∙ silent.same.count

    keeps_on : All (KeepsFrame at.moment.world (moved_on at).moment.world) frames
    keeps_on =
        subst (λ (m : Moment). All (KeepsFrame at.moment.world m.world) frames) (sym next_on)
        silent.keeps

    -- what is watched lies where it lay
    watched_on : (points : List Watchpoint) → AreWatchedIn at.moment.world frames points
        → AreWatchedIn (moved_on at).moment.world frames points
    watched_on points watched =
        still_watched at.moment.world (moved_on at).moment.world frames points processes_on watched

-- what is ahead
pub kind_ahead : (stops frames : List ℕ) (t : ℕ) (at : Position) → IsSilentMove stops frames t at
    → first_kind at.future ≡ Some (runs t)
kind_ahead stops frames t at silent = ap first_kind silent.ahead

module _ (s : Session) (stops frames : List ℕ) (quiet : StopsAtAddresses s stops)
    (rs : List Resumption) where
  unbroken : (o : Option Thread) → IsElsewhere stops o → is_thread_broken s o ≡ false
  unbroken None elsewhere = refl
  unbroken (Some thread) elsewhere =
      by (is_broken_at s.breakpoints thread.process thread.registers.pc) refl
    where
      by : (b : Bool) → is_broken_at s.breakpoints thread.process thread.registers.pc ≡ b
          → is_broken_at s.breakpoints thread.process thread.registers.pc ≡ false
      by false is = is
      by true is =
          absurd (true≢false (sym (quiet.stops_there thread.process thread.registers.pc is)
          ∙ elsewhere))

  and_false : (b : Bool) → (b && false) ≡ false
  and_false true = refl
  and_false false = refl

  none_broken : (w : World) (t : ℕ) → IsElsewhere stops (thread_at w t)
      → broken_by s rs w (Some t) ≡ None
  none_broken w t elsewhere =
      ap (λ (b : Bool). cond (is_told_of s rs w t && b) (Some t) None)
      (unbroken (thread_at w t) elsewhere)
      ∙ ap (λ (b : Bool). cond b (Some t) None) (and_false (is_told_of s rs w t))

  -- It halts by nothing but a step.
  only_stepped : (stepped : Option ℕ) (at : Position) (t : ℕ) → IsSilentMove stops frames t at
      → AreWatchedIn at.moment.world frames s.watchpoints
      → halt_back s rs stepped (moved_on at) (runs t) at
      ≡ halt_stepped_back s at stepped (Some t)
  only_stepped stepped at t silent watched =
      let next : Position = moved_on at in
      ap (λ (hit : Option Watchpoint).
      or_else (halt_watched s rs (runs t) next.moment.world next at hit)
      (or_else (halt_broken_back s rs at (Some t))
      (halt_stepped_back s at stepped (Some t))))
      (unhit s rs at.moment.world next.moment.world (runs t) frames quiet.changes watched
      (processes_on stops frames t at silent) (count_on stops frames t at silent)
      (keeps_on stops frames t at silent))
      ∙ ap (λ (broken : Option ℕ). or_else (halt_broken s at broken)
      (halt_stepped_back s at stepped (Some t)))
      (none_broken at.moment.world t silent.elsewhere)

  module _ (stepped : Option ℕ) (t : ℕ) (at : Position) (silent : IsSilentMove stops frames t at)
    where
      pub behind_one : AreWatchedIn at.moment.world frames s.watchpoints
          → backwards_from s rs stepped (moved_on at)
          ≡ from_behind s rs stepped at (halt_stepped_back s at stepped (Some t))
          (was_by s rs stepped at)
      behind_one watched =
          backwards_over_move s rs stepped at (runs t) (kind_ahead stops frames t at silent)
          ∙ ap (λ (found : Option Halt). from_behind s rs stepped at found (was_by s rs stepped at))
          (only_stepped stepped at t silent watched)

-- ---- so many of them

-- what is watched lies where it lay
watched_behind : (stops frames : List ℕ) (points : List Watchpoint) (count t : ℕ) (at : Position)
    → AreSilentMoves stops frames count t at → AreWatchedIn at.moment.world frames points
    → AreWatchedIn (position_after count at).moment.world frames points
watched_behind stops frames points zero t at silent watched = watched
watched_behind stops frames points (suc count) t at silent watched =
    subst (λ (p : Position). AreWatchedIn p.moment.world frames points)
    (sym (after_first count at))
    (watched_behind stops frames points count t (moved_on at) silent.1
    (watched_on stops frames t at silent.0 points watched))

-- so many of them are silent, where one more is
front_silent : (stops frames : List ℕ) (count t : ℕ) (at : Position)
    → AreSilentMoves stops frames (suc count) t at → AreSilentMoves stops frames count t at
front_silent stops frames zero t at silent = tt
front_silent stops frames (suc count) t at silent =
    (silent.0, front_silent stops frames count t (moved_on at) silent.1)

-- The last of them is ahead behind the others.
pub last_silent : (stops frames : List ℕ) (count t : ℕ) (at : Position)
    → AreSilentMoves stops frames (suc count) t at
    → IsSilentMove stops frames t (position_after count at)
last_silent stops frames zero t at silent = silent.0
last_silent stops frames (suc count) t at silent =
    subst (IsSilentMove stops frames t) (sym (after_first count at))
    (last_silent stops frames count t (moved_on at) silent.1)

module _ (s : Session) (rs : List Resumption) (stepped : Option ℕ) (stops frames : List ℕ) where
  was_one : (t : ℕ) (at : Position) → IsSilentMove stops frames t at
      → was_ever_there s rs stepped at.past ≡ true
      → was_ever_there s rs stepped (moved_on at).past ≡ true
  was_one t at silent was =
      was_over_move s rs stepped at (runs t) (kind_ahead stops frames t at silent)
      ∙ or_second (is_there s rs stepped at.moment.world) (was_ever_there s rs stepped at.past) was

  -- Somebody who was there before them was so behind them.
  pub was_behind_all : (count t : ℕ) (at : Position) → AreSilentMoves stops frames count t at
      → was_ever_there s rs stepped at.past ≡ true
      → was_ever_there s rs stepped (position_after count at).past ≡ true
  was_behind_all zero t at silent was = was
  was_behind_all (suc count) t at silent was =
      ap (λ (p : Position). was_ever_there s rs stepped p.past) (after_first count at)
      ∙ was_behind_all count t (moved_on at) silent.1 (was_one t at silent.0 was)

  module _ (quiet : StopsAtAddresses s stops) (t : ℕ) where
    -- where they are no steps of the thread whose step it is
    pub behind_others : ((m : ℕ) → stepped ≡ Some m → t ≡ m → ⊥)
        → (count : ℕ) (at : Position) → AreSilentMoves stops frames count t at
        → AreWatchedIn at.moment.world frames s.watchpoints
        → was_ever_there s rs stepped at.past ≡ true
        → backwards_from s rs stepped (position_after count at) ≡ backwards_from s rs stepped at
    behind_others other zero at silent watched was = refl
    behind_others other (suc count) at silent watched was =
        ap (backwards_from s rs stepped) (after_first count at)
        ∙ behind_others other count (moved_on at) silent.1
        (watched_on stops frames t at silent.0 s.watchpoints watched) (was_one t at silent.0 was)
        ∙ behind_one s stops frames quiet rs stepped t at silent.0 watched
        ∙ ap (λ (found : Option Halt). from_behind s rs stepped at found (was_by s rs stepped at))
        (no_step_of stepped refl)
        ∙ ap (from_behind s rs stepped at None)
        (or_second (is_there s rs stepped at.moment.world) (was_ever_there s rs stepped at.past)
        was)
      where
        no_step_of : (o : Option ℕ) → stepped ≡ o
            → halt_stepped_back s at stepped (Some t) ≡ None
        no_step_of None is = ap (λ (x : Option ℕ). halt_stepped_back s at x (Some t)) is
        no_step_of (Some m) is =
            sym (other_mover s at stepped (Some t) m t is refl (other m is))

    -- where they are
    pub behind_own : (count : ℕ) (at : Position) (pair : Pair) → stepped ≡ Some t
        → pair ≡ home_pair s t → AreSilentMoves stops frames (suc count) t at
        → AreWatchedIn at.moment.world frames s.watchpoints
        → backwards_from s rs stepped (position_after (suc count) at)
        ≡ halt_at (position_after count at) pair Plainly
    behind_own count at pair is home silent watched =
        let before : Position = position_after count at in
        behind_one s stops frames quiet rs stepped t before
        (last_silent stops frames count t at silent)
        (watched_behind stops frames s.watchpoints count t at
        (front_silent stops frames count t at silent) watched)
        ∙ ap (λ (found : Option Halt). from_behind s rs stepped before found
        (was_by s rs stepped before))
        (sym (its_move s before stepped (Some t) t t pair is refl refl home))

-- ---- from where a session stands

-- The thread of the move that is next is the one that runs.
runner_is : (stops frames : List ℕ) (count thread : ℕ) (at : Position)
    → (silent : MovesSilently stops frames count at) → 0 < count
    → ((made : MoveKind) → first_kind at.future ≡ Some made
    → kinds_named (Some (Runs thread)) ≡ Some made)
    → silent.thread ≡ thread
runner_is stops frames zero thread at silent some named = absurd (omega (arith, some))
runner_is stops frames (suc count) thread at silent some named =
    let same = named (runs silent.thread) (kind_ahead stops frames silent.thread at
    silent.silent.0) in
    cc

-- behind so many moves more
pub later_is : (start : Position) (moves count next : ℕ) → next ≡ moves + count
    → position_after next start ≡ position_after count (position_after moves start)
later_is start moves count next is =
    let sum : next ≡ count + moves = omega (arith, is) in
    ap (λ (n : ℕ). position_after n start) sum ∙ after_sum count moves start

module _ (old new : SessionView) (stops frames : List ℕ) (count : ℕ)
    (went : new.playback.moves ≡ old.playback.moves + count) (start : Position)
    (silent : MovesSilently stops frames count (here old start)) (s : Session)
    (rs : List Resumption)
    (stepped : Option ℕ) where
  there : here new start ≡ position_after count (here old start)
  there = later_is start old.playback.moves count new.playback.moves went

  pub was_passed : was_ever_there s rs stepped (here old start).past ≡ true
      → was_ever_there s rs stepped (here new start).past ≡ true
  was_passed was =
      ap (λ (p : Position). was_ever_there s rs stepped p.past) there
      ∙ was_behind_all s rs stepped stops frames count silent.thread (here old start)
      silent.silent was

  module _ (quiet : StopsAtAddresses s stops)
      (watched : AreWatchedIn (here old start).moment.world frames s.watchpoints) (thread : ℕ)
      (some : 0 < count)
      (named : (made : MoveKind) → first_kind (here old start).future ≡ Some made
      → kinds_named (Some (Runs thread)) ≡ Some made) where
    runner : silent.thread ≡ thread
    runner = runner_is stops frames count thread (here old start) silent some named

    -- by where the one from before them stops
    pub passed_others : ((m : ℕ) → stepped ≡ Some m → thread ≡ m → ⊥)
        → was_ever_there s rs stepped (here old start).past ≡ true
        → (halt : Halt) → halt ≡ backwards_from s rs stepped (here old start)
        → halt ≡ backwards_from s rs stepped (here new start)
    passed_others other was halt is =
        is
        ∙ sym (ap (backwards_from s rs stepped) there
        ∙ behind_others s rs stepped stops frames quiet silent.thread
        (λ m step same. other m step (sym runner ∙ same)) count (here old start) silent.silent
        watched was)

    -- at the last of them
    pub passed_own : (halt : Kept) (moves : ℕ) (pair : Pair) → stepped ≡ Some thread
        → pair ≡ home_pair s thread → new.playback.moves ≡ moves + 1
        → halt ≡ kept_at moves (Some pair) Plainly
        → halt_meant s rs start halt ≡ backwards_from s rs stepped (here new start)
    passed_own halt moves pair step home last is =
        ap (halt_meant s rs start) is
        ∙ by count silent.silent some went there
      where
        own : stepped ≡ Some silent.thread
        own = step ∙ ap (λ (t : ℕ). Some t) (sym runner)

        pair_is : pair ≡ home_pair s silent.thread
        pair_is = home ∙ ap (home_pair s) (sym runner)

        by : (n : ℕ) → AreSilentMoves stops frames n silent.thread (here old start) → 0 < n
            → new.playback.moves ≡ old.playback.moves + n
            → here new start ≡ position_after n (here old start)
            → halt_at (position_after moves start) pair Plainly
            ≡ backwards_from s rs stepped (here new start)
        by zero runs_on more sum at = absurd (omega (arith, more))
        by (suc n) runs_on more sum at =
            let before : moves ≡ old.playback.moves + n = omega (arith, last, sum) in
            ap (λ (p : Position). halt_at p pair Plainly)
            (later_is start old.playback.moves n moves before)
            ∙ sym (ap (backwards_from s rs stepped) at
            ∙ behind_own s rs stepped stops frames quiet silent.thread n (here old start) pair own
            pair_is
            runs_on watched)

-- ---- whether it is the step of a thread

not_true : (b : Bool) → not b ≡ true → b ≡ false
not_true true is = sym is
not_true false is = refl

not_false : (b : Bool) → not b ≡ false → b ≡ true
not_false true is = refl
not_false false is = sym is

pub own_step : (stepped : Option ℕ) (thread : ℕ)
    → not (option_eq eqb stepped (Some thread)) ≡ false → stepped ≡ Some thread
own_step None thread is = absurd (true≢false is)
own_step (Some m) thread is =
    ap (λ (t : ℕ). Some t) (eqb-true m thread (not_false (eqb m thread) is))

pub other_step : (stepped : Option ℕ) (thread : ℕ)
    → not (option_eq eqb stepped (Some thread)) ≡ true → (m : ℕ) → stepped ≡ Some m
    → thread ≡ m → ⊥
other_step None thread is m step same = cc
other_step (Some k) thread is m step same =
    let its : k ≡ thread = cc in
    eqb-false k thread (not_true (eqb k thread) is) its
