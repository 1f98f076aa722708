-- Instructions by which a resumption forwards doesn't stop.
use Rattle.std.proofs.Common.{ℕ, zero, suc, ◌≡◌, ◌+◌, List, [], ◌∷◌, length}
use Rattle.std.proofs.Common.{Bool, true, false, Option, Some, None, refl, sym, ap, ◌∙◌}
use Rattle.std.proofs.Common.{subst, arith}
use Rattle.std.proofs.Math.Bool.{beq}
use Rattle.std.specs.Prelude.{◌&&◌, ◌||◌, cond, find, if◌then◌else◌, not, option_map}
use Rattle.std.specs.Prelude.{All}
use Rattle.std.specs.List.{list_all, list_any}
use Rattle.std.proofs.lemmas.Bool.{le-ltb, true≢false}
use Rattle.dos_world.specs.World.{Process, Thread, thread_at}
use Rattle.group_moves.specs.Moves.{runs}
use Rattle.group_walk.specs.Stretches.{IsElsewhere, KeepsFrame}
use Rattle.gdb_packets.specs.declared.resumptions.Action.{Action}
use Rattle.gdb_packets.specs.declared.resumptions.Action.TheVariants.{Continue, ContinueSignal}
use Rattle.gdb_packets.specs.declared.resumptions.Action.TheVariants.{Range, Step, StepSignal}
use Rattle.gdb_packets.specs.declared.resumptions.Resumption.{Resumption}
use Rattle.debug_session.specs.Actions.{action_of_thread, id_fits, is_stepping, is_stopping}
use Rattle.debug_session.specs.Actions.{range_action}
use Rattle.debug_session.specs.Forwards.{born_between, forwards_over, halt_before, halt_born}
use Rattle.debug_session.specs.Forwards.{halt_broken, halt_deserted, halt_faulted, halt_moving}
use Rattle.debug_session.specs.Forwards.{halt_stepped, halt_unstepped, halt_watched, is_step_over}
use Rattle.debug_session.specs.Forwards.{or_else, step_pair, steps_nobody}
use Rattle.debug_session.specs.Halts.{Halt, halt_at}
use Rattle.debug_session.specs.Hits.{broken_by, fault_by, hit_by, is_thread_broken}
use Rattle.debug_session.specs.Points.{is_broken_at}
use Rattle.debug_session.specs.Positions.{Position, first_kind, first_mover, moved_on}
use Rattle.debug_session.specs.Positions.{position_after, position_at}
use Rattle.debug_session.specs.Sessions.{Session, chosen_at, is_anybody_there, is_told_of}
use Rattle.debug_session.specs.declared.stops.Cause.TheVariants.{Plainly, ReachedEnd}
use Rattle.recorded_walk.specs.Playbacks.{AreSilentMoves, IsSilentMove, MovesSilently}
use Rattle.debugger.specs.declared.forwards.Way.{Way}
use Rattle.debugger.specs.Halting.{IsNoted, forwards_from}
use Rattle.debugger.specs.Quiet.{AreWatchedIn, StopsAtAddresses, is_nobody_stepping}
use Rattle.debugger.proofs.Unhit.{still_watched, unhit}
use Rattle.debugger.proofs.Onward.{last_is, last_stays, moving_unstepped, over_on, over_there}
use Rattle.debugger.proofs.Onward.{was_stays}
use Rattle.debugger.proofs.Pathway.{Step as Move, after_first, after_sum, on_step}

-- ---- actions that don't step

not_true : (b : Bool) → not b ≡ true → b ≡ false
not_true true is = cc
not_true false is = refl

ranged_calm : (rs : List Resumption) (a : Action) → is_stepping a ≡ false
    → is_stepping (range_action rs a) ≡ false
ranged_calm rs Continue calm = refl
ranged_calm rs (ContinueSignal signal) calm = refl
ranged_calm rs Step calm = cc
ranged_calm rs (StepSignal signal) calm = cc
ranged_calm rs (Range low high) calm = cc

stopping_calm : (pc : ℕ) (a : Action) → is_stepping a ≡ false → is_stopping pc a ≡ false
stopping_calm pc Continue calm = refl
stopping_calm pc (ContinueSignal signal) calm = refl
stopping_calm pc Step calm = cc
stopping_calm pc (StepSignal signal) calm = cc
stopping_calm pc (Range low high) calm = cc

-- the first that fits a thread, among some of the resumptions
found_calm : (whole rs : List Resumption) (p t : ℕ) (a : Action)
    → list_any (λ (r : Resumption). is_stepping r.action) rs ≡ false
    → option_map (λ (r : Resumption). range_action whole r.action)
    (find (λ r. id_fits r.threads p t) rs) ≡ Some a
    → is_stepping a ≡ false
found_calm whole [] p t a calm is = cc
found_calm whole (r ∷ rs) p t a calm is =
    by (found_calm whole rs p t a) (is_stepping r.action) refl calm (id_fits r.threads p t) is
  where
    by : (list_any (λ (x : Resumption). is_stepping x.action) rs ≡ false
        → option_map (λ (x : Resumption). range_action whole x.action)
        (find (λ x. id_fits x.threads p t) rs) ≡ Some a
        → is_stepping a ≡ false)
        → (steps : Bool) → is_stepping r.action ≡ steps
        → (steps || list_any (λ (x : Resumption). is_stepping x.action) rs) ≡ false
        → (fits : Bool)
        → option_map (λ (x : Resumption). range_action whole x.action)
        (cond fits (Some r) (find (λ x. id_fits x.threads p t) rs)) ≡ Some a
        → is_stepping a ≡ false
    by rest true so calm fits is = cc
    by rest false so calm false is = rest calm is
    by rest false so calm true is =
        let one : range_action whole r.action ≡ a = cc in
        ap is_stepping (sym one) ∙ ranged_calm whole r.action so

-- No thread's action ends with a move.
over_calm : (rs : List Resumption) (before behind : Option Thread) (t : ℕ)
    → list_any (λ (r : Resumption). is_stepping r.action) rs ≡ false
    → is_step_over rs before behind t ≡ false
over_calm rs None behind t calm = refl
over_calm rs (Some thread) behind t calm = by (action_of_thread rs thread.process t) refl
  where
    ended : (a : Action) → is_stepping a ≡ false → (o : Option Thread)
        → elim o [
          | None ↦ is_stepping a
          | Some later ↦ is_stopping later.registers.pc a
        ]
        ≡ false
    ended a so None = so
    ended a so (Some later) = stopping_calm later.registers.pc a so

    by : (o : Option Action) → action_of_thread rs thread.process t ≡ o
        → elim o [
          | None ↦ false
          | Some action ↦ elim behind [
            | None ↦ is_stepping action
            | Some later ↦ is_stopping later.registers.pc action
          ]
        ]
        ≡ false
    by None is = refl
    by (Some a) is = ended a (found_calm rs rs thread.process t a calm is) behind

-- ---- one such instruction

abbrev halt_if : Bool → Halt → Option Halt
halt_if b halt = if b then Some halt else None

module _ (s : Session) (rs : List Resumption) (stops frames : List ℕ)
    (quiet : StopsAtAddresses s stops)
    (nobody : is_nobody_stepping rs ≡ true) (t : ℕ) where
  calm : list_any (λ (r : Resumption). is_stepping r.action) rs ≡ false
  calm = not_true (list_any (λ (r : Resumption). is_stepping r.action) rs) nobody

  thread_unbroken : (o : Option Thread) → IsElsewhere stops o → is_thread_broken s o ≡ false
  thread_unbroken None elsewhere = refl
  thread_unbroken (Some thread) elsewhere =
      by (is_broken_at s.breakpoints thread.process thread.registers.pc) refl
    where
      by : (b : Bool) → is_broken_at s.breakpoints thread.process thread.registers.pc ≡ b
          → b ≡ false
      by true is =
          absurd (true≢false (sym (quiet.stops_there thread.process thread.registers.pc is)
          ∙ elsewhere))
      by false is = refl

  module _ (at : Position) (silent : IsSilentMove stops frames t at) where
    -- where it leads
    next_is : moved_on at
        ≡ position_at ((runs t, at.moment) ∷ at.past) silent.next silent.later
    next_is = on_step at (runs t, silent.next) silent.later silent.ahead

    processes_same : (moved_on at).moment.world.processes ≡ at.moment.world.processes
    processes_same =
        ap (λ (p : Position). p.moment.world.processes) next_is ∙ silent.same.processes

    count_same : length (moved_on at).moment.world.bytes ≡ length at.moment.world.bytes
    count_same =
        ap (λ (p : Position). length p.moment.world.bytes) next_is ∙ silent.same.count

    keeps : All (KeepsFrame at.moment.world (moved_on at).moment.world) frames
    keeps =
        subst (λ (p : Position). All (KeepsFrame at.moment.world p.moment.world) frames)
        (sym next_is) silent.keeps

    -- what is watched lies where it lay
    watched_on : AreWatchedIn at.moment.world frames s.watchpoints
        → AreWatchedIn (moved_on at).moment.world frames s.watchpoints
    watched_on watched =
        still_watched at.moment.world (moved_on at).moment.world frames s.watchpoints
        processes_same watched

    pub there_same : is_anybody_there s rs (moved_on at).moment.world
        ≡ is_anybody_there s rs at.moment.world
    there_same =
        ap (λ (ps : List Process). is_anybody_there s rs
        (record at.moment.world { processes = ps })) processes_same

    unbroken : broken_by s rs at.moment.world (Some t) ≡ None
    unbroken =
        ap (λ (b : Bool). if is_told_of s rs at.moment.world t && b then Some t else None)
        (thread_unbroken (thread_at at.moment.world t) silent.elsewhere)
        ∙ by (is_told_of s rs at.moment.world t)
      where
        by : (b : Bool) → (if b && false then Some t else None) ≡ None
        by true = refl
        by false = refl

    before_none : halt_before s rs at ≡ None
    before_none =
        ap (λ (f : List Move). or_else
        (halt_broken s at (broken_by s rs at.moment.world (first_mover f)))
        (halt_faulted s at (fault_by s rs at.moment.world (first_kind f)))) silent.ahead
        ∙ ap (λ (o : Option ℕ). or_else (halt_broken s at o) None) unbroken

    abbrev after : Position
    after = moved_on at

    unwatched : AreWatchedIn at.moment.world frames s.watchpoints
        → None ≡ halt_watched s rs (runs t) after.moment.world at after
        (hit_by s rs at.moment.world (runs t) after.moment.world)
    unwatched watched =
        sym (ap (halt_watched s rs (runs t) after.moment.world at after)
        (unhit s rs at.moment.world after.moment.world (runs t) frames quiet.changes watched
        processes_same count_same keeps))

    undeserted : (was : Bool) (last : Position) → was ≡ is_anybody_there s rs at.moment.world
        → None ≡ halt_deserted s rs was last after
    undeserted was last is =
        sym (ap (λ (b : Bool). halt_if (was && not b) gone) (there_same ∙ sym is) ∙ by was)
      where
        gone : Halt
        gone = halt_at last (chosen_at s rs last) ReachedEnd

        by : (b : Bool) → halt_if (b && not b) gone ≡ None
        by true = refl
        by false = refl

    unborn : None ≡ halt_born s rs at.moment.world (Some t) after
        (born_between at.moment.world after.moment.world)
    unborn =
        let many : length after.moment.world.processes ≡ length at.moment.world.processes =
        ap length processes_same in
        sym (ap (λ (b : Bool). halt_born s rs at.moment.world (Some t) after
        (if b then Some (length after.moment.world.processes) else None))
        (le-ltb (length at.moment.world.processes) (length after.moment.world.processes)
        (omega (arith, many))))

    unstopped : None ≡ halt_stepped s rs at.moment.world (Some t) after
    unstopped =
        sym (ap (λ (b : Bool). halt_if (is_told_of s rs at.moment.world t && b)
        (halt_at after (step_pair s rs after t) Plainly))
        (over_calm rs (thread_at at.moment.world t) (thread_at after.moment.world t) t calm)
        ∙ by (is_told_of s rs at.moment.world t))
      where
        by : (b : Bool)
            → halt_if (b && false) (halt_at after (step_pair s rs after t) Plainly) ≡ None
        by true = refl
        by false = refl

    unstepped : None ≡ halt_unstepped s rs after
    unstepped =
        sym (ap (λ (b : Bool). halt_if (b
        && list_all (λ r. not (is_stepping r.action) || steps_nobody after.moment.world r) rs)
        (halt_at after (chosen_at s rs after) Plainly)) calm)

    moving_none : (was : Bool) (last : Position)
        → AreWatchedIn at.moment.world frames s.watchpoints
        → was ≡ is_anybody_there s rs at.moment.world
        → halt_moving s rs was last at (runs t) after ≡ None
    moving_none was last watched is =
        sym (moving_unstepped s rs at was last at after (runs t) (unwatched watched)
        (undeserted was last is) unborn None unstopped unstepped)

  -- ---- so many

  abbrev coming : (was : Bool) → (last at : Position) → Halt
  coming was last at = forwards_over s rs false was last at.past at.moment at.future

  -- where somebody is there
  pub pass_there : (count : ℕ) (at : Position) → is_anybody_there s rs at.moment.world ≡ true
      → AreWatchedIn at.moment.world frames s.watchpoints → AreSilentMoves stops frames count t at
      → forwards_over s rs false true at at.past at.moment at.future
      ≡ forwards_over s rs false true (position_after count at) (position_after count at).past
      (position_after count at).moment (position_after count at).future
  pass_there zero at there watched silent = refl
  pass_there (suc count) at there watched silent =
      let one : IsSilentMove stops frames t at = silent.0 in
      let later : is_anybody_there s rs (moved_on at).moment.world ≡ true =
      there_same at one ∙ there in
      over_on s rs false true at at (runs t, one.next) one.later one.ahead
      (last_is s rs false true at at there at) refl (before_none at one)
      (moving_none at one true at watched (sym there))
      ∙ over_there s rs false true at (moved_on at) later
      ∙ pass_there count (moved_on at) later (watched_on at one watched) silent.1
      ∙ ap (λ (p : Position). coming true p p) (sym (after_first count at))

  -- where nobody is
  pub pass_nobody : (count : ℕ) (last at : Position)
      → is_anybody_there s rs at.moment.world ≡ false
      → AreWatchedIn at.moment.world frames s.watchpoints → AreSilentMoves stops frames count t at
      → forwards_over s rs false false last at.past at.moment at.future
      ≡ forwards_over s rs false false last (position_after count at).past
      (position_after count at).moment (position_after count at).future
  pass_nobody zero last at none watched silent = refl
  pass_nobody (suc count) last at none watched silent =
      let one : IsSilentMove stops frames t at = silent.0 in
      over_on s rs false false last at (runs t, one.next) one.later one.ahead
      (last_stays s rs false last at none) (was_stays s rs false last at none)
      (before_none at one) (moving_none at one false last watched (sym none))
      ∙ pass_nobody count last (moved_on at) (there_same at one ∙ none)
      (watched_on at one watched) silent.1
      ∙ ap (λ (p : Position). coming false last p) (sym (after_first count at))

-- ---- how far it has come

module _ (s : Session) (rs : List Resumption) (stops frames : List ℕ)
    (quiet : StopsAtAddresses s stops)
    (nobody : is_nobody_stepping rs ≡ true) (start : Position) (way : Way)
    (moves count later : ℕ) (is : later ≡ moves + count)
    (silent : MovesSilently stops frames count (position_after moves start))
    (watched : AreWatchedIn (position_after moves start).moment.world frames s.watchpoints)
    (first : way.is_first ≡ false) where
  abbrev from_so : (is_first was : Bool) → (last now : Position) → Halt
  from_so is_first was last now =
      forwards_over s rs is_first was last now.past now.moment now.future

  on : position_after later start ≡ position_after count (position_after moves start)
  on =
      let sum : later ≡ count + moves = omega (arith, is) in
      ap (λ n. position_after n start) sum ∙ after_sum count moves start

  -- where somebody is there
  pub passed_there : way.was_there ≡ true
      → IsNoted s rs start way (position_after moves start)
      → is_anybody_there s rs (position_after moves start).moment.world ≡ true
      → forwards_from s rs start way (position_after moves start)
      ≡ forwards_from s rs start (record way { last = later }) (position_after later start)
  passed_there was noted there =
      let here : Position = position_after moves start in
      let now : Position = position_after later start in
      let last : Position = position_after way.last start in
      let last_here : last ≡ here =
      sym noted.last ∙ last_is s rs false true here here there last in
      ap (λ (b : Bool). from_so b way.was_there last here) first
      ∙ ap (λ (b : Bool). from_so false b last here) was
      ∙ ap (λ (p : Position). from_so false true p here) last_here
      ∙ pass_there s rs stops frames quiet nobody silent.thread count here there watched
      silent.silent
      ∙ ap (λ (p : Position). from_so false true p p) (sym on)
      ∙ sym (ap (λ (b : Bool). from_so b way.was_there now now) first
      ∙ ap (λ (b : Bool). from_so false b now now) was)

  -- where nobody is
  pub passed_nobody : way.was_there ≡ false
      → is_anybody_there s rs (position_after moves start).moment.world ≡ false
      → forwards_from s rs start way (position_after moves start)
      ≡ forwards_from s rs start way (position_after later start)
  passed_nobody was none =
      let here : Position = position_after moves start in
      let now : Position = position_after later start in
      let last : Position = position_after way.last start in
      ap (λ (b : Bool). from_so b way.was_there last here) first
      ∙ ap (λ (b : Bool). from_so false b last here) was
      ∙ pass_nobody s rs stops frames quiet nobody silent.thread count last here none watched
      silent.silent
      ∙ ap (λ (p : Position). from_so false false last p) (sym on)
      ∙ sym (ap (λ (b : Bool). from_so b way.was_there last now) first
      ∙ ap (λ (b : Bool). from_so false b last now) was)

-- ---- tests

pub was_so : (was there : Bool) → there ≡ true → (was || there) ≡ was → was ≡ true
was_so true there is so = refl
was_so false true is so = sym so
was_so false false is so = cc

pub was_not : (was there : Bool) → there ≡ false → not (beq there was) ≡ false → was ≡ false
was_not false there is so = refl
was_not true true is so = cc
was_not true false is so = cc
