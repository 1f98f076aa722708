-- What a playback keeps, call by call.
use Rattle.std.proofs.Common.{ℕ, zero, suc, ◌+◌, ◌-◌, ◌≤◌, ◌≡◌, ◌⊎◌, ◌∙◌, refl, sym, ap, subst}
use Rattle.std.proofs.Common.{arith}
use Rattle.std.proofs.Common.{List, drop, length, Option, Some, None, Bool, false, inl, inr}
use Rattle.std.proofs.Common.{true, eqb, Result, Ok, Err, [], ◌∷◌, ap₂}
use Rattle.std.specs.Prelude.{IsSome, OnOk, is_err, is_some}
use Rattle.std.specs.Option.{option_eq}
use Rattle.std.proofs.lemmas.Bool.{eqb-true}
use Rattle.kernel_calls.specs.declared.state.RunStop.{RunStop}
use Rattle.std.proofs.Math.Seq.{drop-length}
use Rattle.dos_io.specs.Shims.{HasNoEnd}
use Rattle.dos_world.specs.World.{World}
use Rattle.dos_world.specs.declared.Config.{Config}
use Rattle.dos_world.specs.declared.Ending.{Ending}
use Rattle.dos_world.specs.declared.Misfit.{Misfit}
use Rattle.debug_session.specs.Positions.{Position, first_kind, position_after}
use Rattle.debug_session.specs.Recordings.{LogEntry, Recording, followed, recorded_from}
use Rattle.elf_image.specs.Image.{Image}
use Rattle.flat_machine.specs.Fits.{first_misfit}
use Rattle.flat_machine.specs.Opening.{opening}
use Rattle.group_moves.specs.Moves.{MoveKind, begins, runs, is_served, faults, move_of}
use Rattle.group_moves.specs.Moments.{Moment, ending_at, first_moment, kind_at, moment_behind}
use Rattle.group_moves.specs.Moments.{settled_scene}
use Rattle.group_moves.specs.Places.{Place, Scene, at_end, between_rounds}
use Rattle.group_walk.specs.Exits.{IsDeserted, LeavesNobody}
use Rattle.group_walk.specs.Places.{phase_at}
use Rattle.group_walk.specs.Walks.{Walk, kind_named, kinds_named, world_there}
use Rattle.group_walk.specs.declared.walker.MoveKind.{MoveKind as kind_type}
use Rattle.log_text.specs.LogText.{Log}
use Rattle.shim_log.specs.Replay.{ReplayState, entries_used, replayer_state}
use Rattle.recorded_walk.specs.Following.{entries_left, follow, follow_one, log_entries}
use Rattle.recorded_walk.specs.Playbacks.{IsEndedAs, KnowsMisfit, HasMoves, HasNoMore, Heard}
use Rattle.recorded_walk.specs.Playbacks.{IsLastExit, IsMisfitAt, IsOpenable, IsStartOf, Played}
use Rattle.recorded_walk.specs.Playbacks.{ended_in}
use Rattle.recorded_walk.specs.Tracks.{HasCome, HasStepped, IsOfSameRun, IsOnTrack, MovesNowhere}
use Rattle.recorded_walk.specs.Tracks.{HasNext, MisfitsBy, moment_sent}
use Rattle.recorded_walk.specs.declared.track.Track.{Track}
use Rattle.recorded_walk.proofs.Coming.{follow_on, has_moved_on, moved_is}
use Rattle.recorded_walk.proofs.Unasked.{AsksNothing, leads_done, leads_unasked}
use Rattle.recorded_walk.proofs.Places.{heard, is_first, is_there, kind_ahead, nothing_ahead}
use Rattle.recorded_walk.proofs.Places.{seen_of}
use Rattle.recorded_walk.proofs.Places.{stands_there}

-- ---- where nothing was done but to forget what was put

-- the same walk, replayer and number of moves
pub record IsUnmoved (old new : Track) : Type 0 where
  pub walker : new.walker ≡ old.walker
  pub shim : new.shim ≡ old.shim
  pub moves : new.moves ≡ old.moves

-- these entries lead so far to where this walk stands, with these bytes sent
abbrev ComesTo : Moment → (output error : List ℕ) → Walk → ReplayState → ℕ → Type 0
ComesTo first output error w p n = follow n w.config.rounds (log_entries p.log) first
    ≡ Some (moment_sent w output error, entries_left p)

pub come_still : (first : Moment) (old new : Track) → IsUnmoved old new → HasCome first old
    → HasCome first new
come_still first old new same come =
    record {
      output = come.output;
      error = come.error;
      is = subst (λ (w : Walk). ComesTo first come.output come.error w new.shim new.moves)
          (sym same.walker)
          (subst (λ (p : ReplayState). ComesTo first come.output come.error old.walker p new.moves)
          (sym same.shim)
          (subst (λ n. ComesTo first come.output come.error old.walker old.shim n) (sym same.moves)
          come.is));
    }

pub track_still : (old new : Track) → IsUnmoved old new → IsOnTrack old → IsOnTrack new
track_still old new same h =
    record {
      running = ap (λ (w : Walk). w.failed) same.walker ∙ h.running;
      made = subst (λ (w : Walk). w.made ≤ new.moves) (sym same.walker)
          (subst (λ n. old.walker.made ≤ n) (sym same.moves) h.made);
      told = subst (λ (p : ReplayState). HasNoEnd (replayer_state p).told) (sym same.shim) h.told;
      used = subst (λ (p : ReplayState). entries_used p ≤ length (log_entries p.log))
          (sym same.shim) h.used;
    }

-- ---- what is kept

-- of a track
abbrev pub Keeps : List Image → Config → (reached : ℕ) → Track → Type 0
Keeps images config reached t = IsOnTrack t × HasCome (first_moment (opening images config)) t
    × (t.walker.config ≡ config) × (t.moves ≤ reached)

-- of a playback
abbrev pub IsKept : List Image → Config → Track → (reached : ℕ) → (last : Option ℕ)
    → (misfit : Option Misfit) → (entries : ℕ) → (failed : Bool) → Type 0
IsKept images config t reached last misfit entries failed = IsOpenable images config
    × (t.shim.start ≡ 0)
    × HasMoves images config (log_entries t.shim.log) reached
    × HasNoMore images config (log_entries t.shim.log) last
    × KnowsMisfit images config (log_entries t.shim.log) last misfit
    × (length (log_entries t.shim.log) ≡ entries)
    × (failed ≡ false → Keeps images config reached t)

module _ (images : List Image) (config : Config) where
  abbrev first : Moment
  first = first_moment (opening images config)

  pub kept_still : (old new : Track) (reached : ℕ) (last : Option ℕ) (misfit : Option Misfit)
      (entries : ℕ) (failed : Bool) → IsUnmoved old new
      → IsKept images config old reached last misfit entries failed
      → IsKept images config new reached last misfit entries failed
  kept_still old new reached last misfit entries failed same kept = (
    kept.0,
    ap (λ (p : ReplayState). p.start) same.shim ∙ kept.1,
    subst (λ (p : ReplayState). HasMoves images config (log_entries p.log) reached) (sym same.shim)
        kept.2,
    subst (λ (p : ReplayState). HasNoMore images config (log_entries p.log) last) (sym same.shim)
        kept.3,
    subst (λ (p : ReplayState). KnowsMisfit images config (log_entries p.log) last misfit)
        (sym same.shim) kept.4,
    ap (λ (p : ReplayState). length (log_entries p.log)) same.shim ∙ kept.5,
    λ running. keeps_still (kept.6 running),
  )
    where
      keeps_still : Keeps images config reached old → Keeps images config reached new
      keeps_still h = (
        track_still old new same h.0,
        come_still first old new same h.1,
        ap (λ (w : Walk). w.config) same.walker ∙ h.2,
        subst (λ n. n ≤ reached) (sym same.moves) h.3,
      )

  -- where a track stands, by the run's own configuration
  pub there : (t : Track) → t.walker.config ≡ config → (come : HasCome first t)
      → follow t.moves config.rounds (log_entries t.shim.log) first
      ≡ Some (moment_sent t.walker come.output come.error, entries_left t.shim)
  there t same come =
      ap (λ (c : Config). follow t.moves c.rounds (log_entries t.shim.log) first) (sym same)
      ∙ come.is

  -- there are the moves that were made
  pub has_moves : (t : Track) → t.walker.config ≡ config → HasCome first t
      → HasMoves images config (log_entries t.shim.log) t.moves
  has_moves t same come = subst IsSome (sym (there t same come)) refl

  -- ---- a step

  pub same_place : (old new : Track) → HasStepped None old new → IsUnmoved old new
  same_place old new h = record { walker = h.2; shim = h.3; moves = h.0 }

  pub come_on : (kind : Option kind_type) (old new : Track) → HasStepped kind old new
      → IsOfSameRun old new → HasCome first old → HasCome first new
  come_on None old new stepped same come =
      come_still first old new (same_place old new stepped) come
  come_on (Some kind) old new stepped same come =
      has_moved_on first kind old new stepped same come

  -- further on
  pub kept_further : (old new : Track) (reached : ℕ) (last : Option ℕ) (misfit : Option Misfit)
      (entries further : ℕ) (failed : Bool) → HasCome first new → IsOfSameRun old new
      → IsOnTrack new → (further ≡ reached) ⊎ (further ≡ new.moves) → new.moves ≤ further
      → Keeps images config reached old
      → IsKept images config old reached last misfit entries failed
      → IsKept images config new further last misfit entries failed
  kept_further old new reached last misfit entries further failed come same on_track one greater
      keeps kept = (
        kept.0,
        same.start ∙ kept.1,
        one_of one,
        same_log (λ es. HasNoMore images config es last) kept.3,
        same_log (λ es. KnowsMisfit images config es last misfit) kept.4,
        same_log (λ es. length es ≡ entries) kept.5,
        λ running. (on_track, come, config_is, greater),
      )
    where
      same_log : (P : List LogEntry → Type 0) → P (log_entries old.shim.log)
          → P (log_entries new.shim.log)
      same_log P h = subst (λ (l : Log). P (log_entries l)) (sym same.log) h

      config_is : new.walker.config ≡ config
      config_is = same.config ∙ keeps.2

      one_of : (further ≡ reached) ⊎ (further ≡ new.moves)
          → HasMoves images config (log_entries new.shim.log) further
      one_of (inl is) = subst (λ n. HasMoves images config (log_entries new.shim.log) n) (sym is)
          (same_log (λ es. HasMoves images config es reached) kept.2)
      one_of (inr is) = subst (λ n. HasMoves images config (log_entries new.shim.log) n) (sym is)
          (has_moves new config_is come)

  pub kept_on : (kind : Option kind_type) (old new : Track) (reached : ℕ) (last : Option ℕ)
      (misfit : Option Misfit) (entries further : ℕ) (failed : Bool) → HasStepped kind old new
      → IsOfSameRun old new → IsOnTrack new → (further ≡ reached) ⊎ (further ≡ new.moves)
      → new.moves ≤ further → Keeps images config reached old
      → IsKept images config old reached last misfit entries failed
      → IsKept images config new further last misfit entries failed
  kept_on kind old new reached last misfit entries further failed stepped same on_track one greater
      keeps kept =
      kept_further old new reached last misfit entries further failed
      (come_on kind old new stepped same keeps.1) same on_track one greater keeps kept

  -- a move that the log doesn't answer
  pub no_more : (old new : Track) → IsOfSameRun old new → MovesNowhere old.walker old.shim
      → old.walker.config ≡ config → HasCome first old
      → HasNoMore images config (log_entries new.shim.log) (Some old.moves)
  no_more old new same nowhere config_is come =
      subst (λ (l : Log). follow (suc old.moves) config.rounds (log_entries l) first ≡ None)
      (sym same.log)
      (follow_on old.moves config.rounds (log_entries old.shim.log) (entries_left old.shim) first
      (moment_sent old.walker come.output come.error) (there old config_is come)
      ∙ ap (λ (c : Config). follow_one c.rounds (entries_left old.shim)
      (moment_sent old.walker come.output come.error)) (sym config_is)
      ∙ nowhere come.output come.error)

  -- by what it isn't answered
  pub has_misfit : (t : Track) (found : Misfit) → MisfitsBy found t.walker t.shim
      → t.walker.config ≡ config → HasCome first t
      → entries_used t.shim ≤ length (log_entries t.shim.log)
      → KnowsMisfit images config (log_entries t.shim.log) (Some t.moves) (Some found)
  has_misfit t found by same come few start r is_start entries =
      let at = stands_there images config t 0 false come same few start is_start in
      let here = is_there images config (log_entries t.shim.log) start is_start t.moves
      (moment_sent t.walker come.output come.error) (entries_left t.shim) (there t same come) in
      ap₂ (λ n (es : List LogEntry). first_misfit n (drop n es)
      (move_of (position_after t.moves start).moment.world
      (position_after t.moves start).moment.place)) (at.used r entries) entries
      ∙ ap (λ (m : Moment). first_misfit (entries_used t.shim) (entries_left t.shim)
      (move_of m.world m.place)) here.moment
      ∙ by come.output come.error

  pub kept_no_more : (old new : Track) (reached : ℕ) (last : Option ℕ) (misfit : Option Misfit)
      (found : Misfit) (entries : ℕ) (was failed : Bool) → IsOfSameRun old new
      → MovesNowhere old.walker old.shim → MisfitsBy found old.walker old.shim
      → Keeps images config reached old
      → IsKept images config old reached last misfit entries was → (failed ≡ false → ⊥)
      → IsKept images config new reached (Some old.moves) (Some found) entries failed
  kept_no_more old new reached last misfit found entries was failed same nowhere by keeps kept
      never = (
        kept.0,
        same.start ∙ kept.1,
        subst (λ (l : Log). HasMoves images config (log_entries l) reached) (sym same.log) kept.2,
        no_more old new same nowhere keeps.2 keeps.1,
        subst (λ (l : Log). KnowsMisfit images config (log_entries l) (Some old.moves) (Some found))
            (sym same.log) (has_misfit old found by keeps.2 keeps.1 keeps.0.used),
        ap (λ (l : Log). length (log_entries l)) same.log ∙ kept.5,
        λ running. absurd (never running),
      )

-- ---- what is ahead

-- where no move is next, none leads on
pub none_leads : (limit : ℕ) (entries : List LogEntry) (m : Moment) → kind_at limit m ≡ None
    → follow_one limit entries m ≡ None
none_leads limit entries m none = ap (λ (k : Option MoveKind). elim k [
  | None ↦ None
  | Some kind ↦ elim (followed entries (move_of m.world m.place)) [
    | None ↦ None
    | Some (scene, left) ↦ Some (moment_behind kind m (settled_scene scene), left)
  ]
]) none

-- the world behind a move of any kind
world_behind : (kind : MoveKind) (m : Moment) (scene : Scene)
    → (moment_behind kind m scene).world ≡ scene.0
world_behind begins m scene = refl
world_behind (runs t) m scene = refl
world_behind (is_served t) m scene = refl
world_behind (faults t number) m scene = refl

-- the first move ahead is of this kind
abbrev pub IsAhead : Played → Option kind_type → Type 0
IsAhead p kind = (start : Position) → IsStartOf p start
    → first_kind (position_after p.moves start).future ≡ kinds_named kind

-- an ending of its own
pub ended_there : (w : World) (place : Place) (ending : Ending)
    → ended_in (phase_at place) ≡ Some ending → ending_at w place ≡ ending
ended_there w (at_end other) ending is = cc
ended_there w place ending is = absurd cc

-- and else by who lives
pub ended_by_threads : (w : World) (place : Place) → ended_in (phase_at place) ≡ None
    → ending_at w place ≡ ending_at w between_rounds
ended_by_threads w (at_end other) is = absurd cc
ended_by_threads w place is = refl

-- what the log misfits by
abbrev pub Misfits : Played → Option Misfit → Type 0
Misfits p misfit = (start : Position) (r : Recording) → IsStartOf p start
    → r.entries ≡ p.entries → IsMisfitAt p.config.rounds r (position_after p.moves start) misfit

-- how the run has ended
abbrev pub Ends : Played → Option Ending → Type 0
Ends p ending = (start : Position) → IsStartOf p start
    → IsEndedAs p.config.rounds (position_after p.moves start).moment ending

-- nothing, where the move that would be next is ahead
none_misfits : (limit : ℕ) (r : Recording) (at : Position) (kind : Option MoveKind)
    → first_kind at.future ≡ kind → kind_at limit at.moment ≡ kind → IsMisfitAt limit r at None
none_misfits limit r at None ahead next none some =
    absurd (none_some (kind_at limit at.moment) next some)
  where
    none_some : (kind : Option MoveKind) → kind ≡ None → IsSome kind → ⊥
    none_some None is some = cc
    none_some (Some kind) is some = cc
none_misfits limit r at (Some kind) ahead next none some =
    absurd (some_none (sym ahead ∙ none))
  where
    some_none : ◌≡◌ {A = Option MoveKind} (Some kind) None → ⊥
    some_none is = cc

-- the first move that is recorded is the one that would be next
first_recorded : (k limit : ℕ) (entries : List LogEntry) (m : Moment) (made : MoveKind)
    → first_kind (recorded_from k limit entries m) ≡ Some made → kind_at limit m ≡ Some made
first_recorded zero limit entries m made is = absurd (none_some is)
  where
    none_some : ◌≡◌ {A = Option MoveKind} None (Some made) → ⊥
    none_some is = cc
first_recorded (suc k) limit entries m made is =
    by_kind (kind_at limit m) (followed entries (move_of m.world m.place)) is
  where
    by_kind : (kind : Option MoveKind) (given : Option (Scene × List LogEntry))
        → first_kind (elim kind [
          | None ↦ []
          | Some kind ↦ elim given [
            | None ↦ []
            | Some (scene, left) ↦
                let next : Moment = moment_behind kind m (settled_scene scene) in
                (kind, next) ∷ recorded_from k limit left next
          ]
        ]) ≡ Some made
        → kind ≡ Some made
    by_kind None given is = absurd cc
    by_kind (Some kind) None is = absurd cc
    by_kind (Some kind) (Some (scene, left)) is = is

module _ (images : List Image) (config : Config) (t : Track) (reached : ℕ) (failed : Bool)
    (come : HasCome (first_moment (opening images config)) t) (same : t.walker.config ≡ config)
  where
    abbrev first_here : Moment
    first_here = first_moment (opening images config)

    abbrev seen : Played
    seen = seen_of images config t reached failed

    abbrev moment : Moment
    moment = moment_sent t.walker come.output come.error

    -- no move is ahead
    pub none_ahead_here : follow_one config.rounds (entries_left t.shim) moment ≡ None
        → IsAhead seen None
    none_ahead_here none start is_start =
        nothing_ahead images config (log_entries t.shim.log) start is_start t.moves moment
        (entries_left t.shim)
        (is_there images config (log_entries t.shim.log) start is_start t.moves moment
        (entries_left t.shim) (there images config t same come)) none

    -- one is
    pub some_ahead_here : (kind : kind_type) → HasNext (Some kind) t.walker
        → IsSome (follow_one config.rounds (entries_left t.shim) moment) → IsAhead seen (Some kind)
    some_ahead_here kind next some start is_start =
        by_case (follow_one config.rounds (entries_left t.shim) moment) refl some
      where
        by_case : (x : Option (Moment × List LogEntry))
            → follow_one config.rounds (entries_left t.shim) moment ≡ x → IsSome x
            → first_kind (position_after t.moves start).future ≡ Some (kind_named kind)
        by_case None is some = absurd cc
        by_case (Some (reached, left)) is some =
            kind_ahead images config (log_entries t.shim.log) start is_start t.moves moment reached
            (entries_left t.shim) left (kind_named kind)
            (is_there images config (log_entries t.shim.log) start is_start t.moves moment
            (entries_left t.shim) (there images config t same come))
            (ap (λ (c : Config). kind_at c.rounds moment) (sym same)
            ∙ next come.output come.error) is

    -- the run is over
    pub over_ahead : HasNext None t.walker → IsAhead seen None
    over_ahead next =
        none_ahead_here (none_leads config.rounds (entries_left t.shim) moment
        (ap (λ (c : Config). kind_at c.rounds moment) (sym same) ∙ next come.output come.error))

    -- it asks nothing
    pub unasked_ahead : (kind : kind_type) → AsksNothing (kind_named kind)
        → HasNext (Some kind) t.walker → IsAhead seen (Some kind)
    unasked_ahead kind unasked next =
        some_ahead_here kind next
        (leads_unasked config.rounds (entries_left t.shim) moment (kind_named kind) unasked
        (ap (λ (c : Config). kind_at c.rounds moment) (sym same) ∙ next come.output come.error))

    -- the last exit
    module _ (leaves : (o e : List ℕ)
        → LeavesNobody t.walker.config.rounds (moment_sent t.walker o e)) where
      leaves_here : LeavesNobody config.rounds moment
      leaves_here = subst (λ (c : Config). LeavesNobody c.rounds moment) same
          (leaves come.output come.error)

      abbrev behind : Moment
      behind = moment_behind leaves_here.kind moment (settled_scene leaves_here.scene)

      exits : follow_one config.rounds (entries_left t.shim) moment
          ≡ Some (behind, entries_left t.shim)
      exits = leads_done config.rounds (entries_left t.shim) moment leaves_here.kind
          leaves_here.scene leaves_here.next leaves_here.move

      pub exit_ahead : (kind : kind_type) → HasNext (Some kind) t.walker → IsAhead seen (Some kind)
      exit_ahead kind next = some_ahead_here kind next (subst IsSome (sym exits) refl)

      pub exit_here : (start : Position) → IsStartOf seen start
          → IsLastExit (position_after t.moves start)
      exit_here start is_start =
          let at = is_there images config (log_entries t.shim.log) start is_start t.moves moment
          (entries_left t.shim) (there images config t same come) in
          let step = is_first config.rounds (entries_left t.shim) moment behind
          (entries_left t.shim) exits in
          let more : is_start.most + 1 ≡ suc is_start.most = omega arith in
          record {
            kind = step.kind;
            next = behind;
            later = recorded_from is_start.most config.rounds (entries_left t.shim) behind;
            ahead = at.future 1
                ∙ ap (λ k. recorded_from k config.rounds (entries_left t.shim) moment) more
                ∙ step.moves is_start.most;
            deserted = subst IsDeserted
                (sym (world_behind leaves_here.kind moment (settled_scene leaves_here.scene)))
                leaves_here.deserted;
          }

    -- a step says it
    pub stepped_ahead : (kind : Option kind_type) (new : Track) → HasStepped kind t new
        → IsAhead seen kind
    stepped_ahead None new stepped =
        none_ahead_here (ap (λ (c : Config). follow_one c.rounds (entries_left t.shim) moment)
        (sym same) ∙ stepped.1 come.output come.error)
    stepped_ahead (Some kind) new stepped =
        some_ahead_here kind stepped.1
        (subst IsSome (sym (ap (λ (c : Config). follow_one c.rounds (entries_left t.shim) moment)
        (sym same) ∙ stepped.2 come.output come.error)) refl)

    pub nowhere_ahead : MovesNowhere t.walker t.shim → IsAhead seen None
    nowhere_ahead nowhere =
        none_ahead_here (ap (λ (c : Config). follow_one c.rounds (entries_left t.shim) moment)
        (sym same) ∙ nowhere come.output come.error)

    -- there is no move more
    pub last_ahead : HasNoMore images config (log_entries t.shim.log) (Some t.moves)
        → IsAhead seen None
    last_ahead none =
        none_ahead_here (sym (follow_on t.moves config.rounds (log_entries t.shim.log)
        (entries_left t.shim) first_here moment (there images config t same come)) ∙ none)

    -- it has been further
    pub earlier_ahead : (kind : Option kind_type) → HasNext kind t.walker
        → HasMoves images config (log_entries t.shim.log) reached → t.moves + 1 ≤ reached
        → IsAhead seen kind
    earlier_ahead kind next has less = by_kind kind next more
      where
        one_less : (k : ℕ) → HasMoves images config (log_entries t.shim.log) (suc k)
            → HasMoves images config (log_entries t.shim.log) k
        one_less k h = some_before (follow k config.rounds (log_entries t.shim.log) first_here) h
          where
            some_before : (x : Option (Moment × List LogEntry))
                → IsSome (elim x [
                  | None ↦ None
                  | Some (reached, left) ↦ follow_one config.rounds left reached
                ])
                → IsSome x
            some_before None some = absurd cc
            some_before (Some pair) some = refl

        -- so many moves less are there too
        fewer : (k n more : ℕ) → k ≡ n + more → HasMoves images config (log_entries t.shim.log) k
            → HasMoves images config (log_entries t.shim.log) n
        fewer k n zero is h =
            let same : k ≡ n = omega (arith, is) in
            subst (HasMoves images config (log_entries t.shim.log)) same h
        fewer k n (suc more) is h =
            let same : k ≡ suc (n + more) = omega (arith, is) in
            fewer (n + more) n more refl
            (one_less (n + more) (subst (HasMoves images config (log_entries t.shim.log)) same h))

        more : IsSome (follow_one config.rounds (entries_left t.shim) moment)
        more =
            let sum : reached ≡ suc t.moves + (reached - suc t.moves) = omega (arith, less) in
            subst IsSome (follow_on t.moves config.rounds (log_entries t.shim.log)
            (entries_left t.shim) first_here moment (there images config t same come))
            (fewer reached (suc t.moves) (reached - suc t.moves) sum has)

        by_kind : (kind : Option kind_type) → HasNext kind t.walker
            → IsSome (follow_one config.rounds (entries_left t.shim) moment) → IsAhead seen kind
        by_kind (Some kind) next some = some_ahead_here kind next some
        by_kind None next some = over_ahead next

    -- ---- what would be next

    here_is : (start : Position) → IsStartOf seen start
        → (position_after t.moves start).moment ≡ moment
    here_is start is_start =
        let here = is_there images config (log_entries t.shim.log) start is_start t.moves moment
        (entries_left t.shim) (there images config t same come) in here.moment

    pub next_here : (kind : Option kind_type) → HasNext kind t.walker → (start : Position)
        → IsStartOf seen start
        → kind_at config.rounds (position_after t.moves start).moment ≡ kinds_named kind
    next_here kind next start is_start =
        ap (kind_at config.rounds) (here_is start is_start)
        ∙ ap (λ (c : Config). kind_at c.rounds moment) (sym same)
        ∙ next come.output come.error

    -- the move that is ahead is the one that would be next
    pub ahead_is : (kind : Option kind_type) → HasNext kind t.walker → (start : Position)
        (made : MoveKind) → IsStartOf seen start
        → first_kind (position_after t.moves start).future ≡ Some made
        → kinds_named kind ≡ Some made
    ahead_is kind next start made is_start ahead =
        let here = is_there images config (log_entries t.shim.log) start is_start t.moves moment
        (entries_left t.shim) (there images config t same come) in
        sym (next_here kind next start is_start)
        ∙ ap (kind_at config.rounds) (here_is start is_start)
        ∙ first_recorded (is_start.most + 0) config.rounds (entries_left t.shim) moment made
        (ap first_kind (sym (here.future 0)) ∙ ahead)

    -- ---- misfits

    -- it is ahead
    pub ahead_fits : (kind : Option kind_type) → HasNext kind t.walker → IsAhead seen kind
        → Misfits seen None
    ahead_fits kind next ahead start r is_start entries =
        none_misfits config.rounds r (position_after t.moves start) (kinds_named kind)
        (ahead start is_start) (next_here kind next start is_start)

    pub stepped_fits : (kind : Option kind_type) (new : Track) → HasStepped kind t new
        → Misfits seen None
    stepped_fits None new stepped = ahead_fits None stepped.6 (stepped_ahead None new stepped)
    stepped_fits (Some kind) new stepped =
        ahead_fits (Some kind) stepped.1 (stepped_ahead (Some kind) new stepped)

    -- what was kept
    pub last_misfits : (misfit : Option Misfit)
        → KnowsMisfit images config (log_entries t.shim.log) (Some t.moves) misfit
        → Misfits seen misfit
    last_misfits misfit has start r is_start entries none some = has start r is_start entries

    -- what was found
    pub found_misfits : (found : Misfit) → MisfitsBy found t.walker t.shim
        → entries_used t.shim ≤ length (log_entries t.shim.log) → Misfits seen (Some found)
    found_misfits found by few =
        last_misfits (Some found) (has_misfit images config t found by same come few)

    -- ---- endings

    pub runs_on : (kind : Option kind_type) → HasNext kind t.walker → is_some kind ≡ true
        → Ends seen None
    runs_on None next some = absurd cc
    runs_on (Some kind) next some = λ start is_start.
        subst IsSome (sym (next_here (Some kind) next start is_start)) refl

    pub ends_so : (kind : Option kind_type) (ending : Ending) → HasNext kind t.walker
        → is_some kind ≡ false
        → ((o e : List ℕ) → ending_at (world_there t.walker o e) t.walker.place ≡ ending)
        → Ends seen (Some ending)
    ends_so (Some kind) ending next none is = absurd cc
    ends_so None ending next none is = λ start is_start. (
      next_here None next start is_start,
      ap (λ (m : Moment). ending_at m.world m.place) (here_is start is_start)
          ∙ is come.output come.error,
    )

-- ---- results

pub on_ok : {T E : Type 0} (r : Result T E) (P : Type 0) → (is_err r ≡ false → P) → OnOk r P
on_ok (Ok x) P f = f refl
on_ok (Err e) P f = tt

-- the number that was kept
pub last_is : (last : Option ℕ) (n : ℕ) → option_eq eqb last (Some n) ≡ true → last ≡ Some n
last_is None n is = absurd cc
last_is (Some k) n is = ap Some (eqb-true k n is)

pub true_is : true ≡ false → ⊥
true_is is = cc

pub misfit_is : (T : Type 0) (stop other : RunStop) → stop ≡ other
    → ◌≡◌ {A = Result T RunStop} (Err stop) (Err other)
misfit_is T stop other is =
    ap (λ (s : RunStop). (let result : Result T RunStop = Err s in result)) is

-- ---- what was heard

pub stepped_heard : (images : List Image) (config : Config) (old new : Track)
    (reached : ℕ) (failed : Bool) (p : Played) (kind : Option kind_type)
    → HasCome (first_moment (opening images config)) old → old.walker.config ≡ config
    → HasStepped kind old new → IsOfSameRun old new
    → p.output ≡ new.out.bytes.items → p.error ≡ new.err.bytes.items
    → (start : Position) → IsStartOf (seen_of images config old reached failed) start
    → Heard p (position_after old.moves start).moment.world
    (position_after new.moves start).moment.world
stepped_heard images config old new reached failed p None come config_is stepped same out err start
    is_start =
    record {
      output = out ∙ stepped.4
          ∙ sym (drop-length (position_after old.moves start).moment.world.output)
          ∙ ap (λ n. drop (length (position_after old.moves start).moment.world.output)
          (position_after n start).moment.world.output) (sym stepped.0);
      error = err ∙ stepped.5
          ∙ sym (drop-length (position_after old.moves start).moment.world.error)
          ∙ ap (λ n. drop (length (position_after old.moves start).moment.world.error)
          (position_after n start).moment.world.error) (sym stepped.0);
    }
stepped_heard images config old new reached failed p (Some kind) come config_is stepped same out err
    start is_start =
    let first = first_moment (opening images config) in
    heard images config (log_entries old.shim.log) start is_start p old.moves new.moves old.walker
    new.walker (entries_left old.shim) (entries_left new.shim) come.output come.error
    new.out.bytes.items new.err.bytes.items (there images config old config_is come)
    (sym (ap (λ (l : Log). follow new.moves config.rounds (log_entries l) first) same.log)
    ∙ ap (λ (c : Config). follow new.moves c.rounds (log_entries new.shim.log) first)
    (sym (same.config ∙ config_is)) ∙ moved_is first kind old new stepped same come) out err
