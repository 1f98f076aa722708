-- How a moment to go to is reached by instructions of one round, and who lives behind them.
use Rattle.std.proofs.Common.{ℕ, zero, suc, ◌≡◌, ◌+◌, ◌-◌, ◌<◌, ◌≤◌, List, true, false, refl}
use Rattle.std.proofs.Common.{sym, ap, subst, ◌∙◌, arith}
use Rattle.std.proofs.lemmas.Bool.{lt-leb}
use Rattle.dos_world.specs.World.{Process}
use Rattle.group_moves.specs.Moments.{Moment}
use Rattle.group_walk.specs.Stretches.{IsSameGroup}
use Rattle.recorded_walk.specs.Playbacks.{AreSilentMoves, IsSilentMove, MovesSilently}
use Rattle.debug_session.specs.Goals.{is_moment_reached, is_somebody_shown}
use Rattle.debug_session.specs.Positions.{Position, moved_on, position_after}
use Rattle.debug_session.specs.Sessions.{Session}
use Rattle.debugger.specs.Halting.{AreBefore, peopled_at, reached_at}
use Rattle.debugger.specs.Standing.{SessionView, here}
use Rattle.debugger.proofs.Pathway.{after_first, on_step}
use Rattle.debugger.proofs.Reached.{is_earlier, is_within, peopled_here, peopled_on, reached_is}
use Rattle.debugger.proofs.Reached.{reached_on}
use Rattle.debugger.proofs.SilentBack.{later_is}

-- ---- how many moments are before the one to go to

module _ (round made begun done : ℕ) (m : Moment) (begun_is : m.begun_rounds ≡ begun)
    (done_is : m.made ≡ done) where
  -- all of an earlier round
  pub before_earlier : (count : ℕ) → begun < round → AreBefore round made count m
  before_earlier count less later same from to =
      sym (is_earlier round made begun later.made (omega (arith, less))
      (λ is. omega (arith, less, is))
      ∙ reached_is round made later begun later.made (same ∙ begun_is) refl)

  -- none of a later one
  pub before_none : (count : ℕ) → count ≡ 0 → AreBefore round made count m
  before_none count none later same from to = absurd (omega (arith, none, from, to))

  -- those with fewer moves of the same
  pub before_within : (count : ℕ) → round ≡ begun → count ≤ made - done
      → AreBefore round made count m
  before_within count is few later same from to =
      sym (is_within round made begun later.made (omega (arith, is)) is
      ∙ reached_is round made later begun later.made (same ∙ begun_is) refl)
      ∙ lt-leb made later.made (omega (arith, few, from, to, done_is))

-- ---- one instruction

module _ (stops frames : List ℕ) (t : ℕ) (at : Position) (silent : IsSilentMove stops frames t at)
  where
    pub on_silent : (moved_on at).moment ≡ silent.next
    on_silent = ap (λ (p : Position). p.moment) (on_step at _ silent.later silent.ahead)

    pub same_group : IsSameGroup at.moment.world (moved_on at).moment.world
    same_group =
        subst (λ (m : Moment). IsSameGroup at.moment.world m.world) (sym on_silent) silent.same

    begun_same : (moved_on at).moment.begun_rounds ≡ at.moment.begun_rounds
    begun_same = ap (λ (m : Moment). m.begun_rounds) on_silent ∙ silent.round

    made_more : (moved_on at).moment.made ≡ suc at.moment.made
    made_more = ap (λ (m : Moment). m.made) on_silent ∙ silent.made

    before_next : (round made count : ℕ) → AreBefore round made (suc count) at.moment
        → AreBefore round made count (moved_on at).moment
    before_next round made count before later same from to =
        before later (same ∙ begun_same) (omega (arith, from, made_more))
        (omega (arith, to, made_more))

    before_first : (round made count : ℕ) → AreBefore round made (suc count) at.moment
        → is_moment_reached round made at.moment ≡ false
    before_first round made count before = before at.moment refl (omega arith) (omega arith)

    shown_same : (s : Session)
        → is_somebody_shown s (moved_on at).moment.world ≡ is_somebody_shown s at.moment.world
    shown_same s =
        ap (λ (ps : List Process). is_somebody_shown s (record at.moment.world { processes = ps }))
        same_group.processes

-- ---- so many of them

-- None is behind the moment to go to.
pub reached_behind : (stops frames : List ℕ) (round made count t : ℕ) (at : Position)
    → AreSilentMoves stops frames count t at → AreBefore round made count at.moment
    → reached_at round made at ≡ reached_at round made (position_after count at)
reached_behind stops frames round made zero t at silent before = refl
reached_behind stops frames round made (suc count) t at silent before =
    reached_on round made at _ silent.0.later silent.0.ahead
    (before_first stops frames t at silent.0 round made count before)
    ∙ reached_behind stops frames round made count t (moved_on at) silent.1
    (before_next stops frames t at silent.0 round made count before)
    ∙ ap (reached_at round made) (sym (after_first count at))

module _ (stops frames : List ℕ) (s : Session) where
  shown_behind : (count t : ℕ) (at : Position) → AreSilentMoves stops frames count t at
      → is_somebody_shown s (position_after count at).moment.world
      ≡ is_somebody_shown s at.moment.world
  shown_behind zero t at silent = refl
  shown_behind (suc count) t at silent =
      ap (λ (p : Position). is_somebody_shown s p.moment.world) (after_first count at)
      ∙ shown_behind count t (moved_on at) silent.1
      ∙ shown_same stops frames t at silent.0 s

  -- Where somebody is shown, somebody is so behind them.
  pub peopled_all : (count t : ℕ) (at : Position) → AreSilentMoves stops frames count t at
      → is_somebody_shown s at.moment.world ≡ true
      → peopled_at s (position_after count at) ≡ position_after count at
  peopled_all count t at silent shown =
      peopled_here s (position_after count at) (shown_behind count t at silent ∙ shown)

  -- Where nobody is, nobody is so behind them.
  pub peopled_none : (count t : ℕ) (at : Position) → AreSilentMoves stops frames count t at
      → is_somebody_shown s at.moment.world ≡ false
      → peopled_at s (position_after count at) ≡ peopled_at s at
  peopled_none zero t at silent none = refl
  peopled_none (suc count) t at silent none =
      let next = shown_same stops frames t at silent.0 s ∙ none in
      ap (peopled_at s) (after_first count at)
      ∙ peopled_none count t (moved_on at) silent.1 next
      ∙ peopled_on s at _ silent.0.later silent.0.ahead next

-- ---- from where a session stands

before_fewer : (round made count most : ℕ) (m : Moment) → count ≤ most
    → AreBefore round made most m → AreBefore round made count m
before_fewer round made count most m few before later same from to =
    before later same from (omega (arith, to, few))

module _ (old new : SessionView) (stops frames : List ℕ) (count : ℕ)
    (went : new.playback.moves ≡ old.playback.moves + count) (start : Position)
    (silent : MovesSilently stops frames count (here old start)) where
  there : here new start ≡ position_after count (here old start)
  there = later_is start old.playback.moves count new.playback.moves went

  pub reached_passed : (round made most : ℕ) → count ≤ most
      → AreBefore round made most (here old start).moment
      → reached_at round made (here old start) ≡ reached_at round made (here new start)
  reached_passed round made most few before =
      reached_behind stops frames round made count silent.thread (here old start) silent.silent
      (before_fewer round made count most (here old start).moment few before)
      ∙ ap (reached_at round made) (sym there)

  -- the last moment at which somebody is shown
  pub shown_passed : (s : Session) → is_somebody_shown s (here old start).moment.world ≡ true
      → here new start ≡ peopled_at s (here new start)
  shown_passed s shown =
      there
      ∙ sym (ap (peopled_at s) there
      ∙ peopled_all stops frames s count silent.thread (here old start) silent.silent shown)

  pub none_passed : (s : Session) → is_somebody_shown s (here old start).moment.world ≡ false
      → (at : Position) → at ≡ peopled_at s (here old start) → at ≡ peopled_at s (here new start)
  none_passed s none at is =
      is
      ∙ sym (ap (peopled_at s) there
      ∙ peopled_none stops frames s count silent.thread (here old start) silent.silent none)
