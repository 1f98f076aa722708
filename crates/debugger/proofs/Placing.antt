-- Where a session stands, by what its walk tells. This project's own.
use Rattle.std.proofs.Common.{◌≡◌, ℕ, suc, ◌+◌, ◌∙◌, length, Option, Some, None}
use Rattle.std.proofs.Common.{sym, ap, subst, arith, false}
use Rattle.std.specs.Prelude.{IsSome}
use Rattle.dos_world.specs.declared.Ending.{Ending}
use Rattle.dos_world.specs.declared.Misfit.{Misfit}
use Rattle.group_moves.specs.Moments.{Moment, kind_at}
use Rattle.group_walk.specs.Places.{phase_at}
use Rattle.group_walk.specs.Walks.{kind_named, kinds_named}
use Rattle.group_walk.specs.declared.walker.MoveKind.{MoveKind}
use Rattle.debug_session.specs.Positions.{Position, first_kind, position_after}
use Rattle.debug_session.specs.Recordings.{Recording}
use Rattle.debug_where.specs.Places.{IsHere, IsNextHere}
use Rattle.debug_where.specs.declared.here.Here.{Here}
use Rattle.debug_where.specs.declared.here.Next.TheVariants.{Follows, HasEnded, Misfits}
use Rattle.recorded_walk.specs.Playbacks.{IsEndedAs, IsMisfitAt, IsStartOf}
use Rattle.debug_session.specs.Sessions.{Session}
use Rattle.debugger.specs.Standing.{IsAsked, IsSessionReady, SessionView, here}
use Rattle.debugger.proofs.Histories.{came_by, none_behind, start_length}

module _ (k : SessionView) (ready : IsSessionReady k) (start : Position)
    (is_start : IsStartOf k.playback start) where
  -- The move that led here is the one that is ahead behind one move less.
  pub last_is : (before : ℕ) → k.playback.moves ≡ before + 1
      → first_kind (here k start).past ≡ first_kind (position_after before start).future
  last_is before more =
      let few = (ready.births start is_start).few in
      let long = start_length k.playback start is_start in
      let next : k.playback.moves ≡ suc before = omega (arith, more) in
      ap (λ n. first_kind (position_after n start).past) next
      ∙ came_by before start (omega (arith, more, few, long, ready.behind))

  -- None did where no move is behind.
  pub none_led : k.playback.moves ≡ 0 → first_kind (here k start).past ≡ None
  none_led none =
      ap (λ n. first_kind (position_after n start).past) none
      ∙ none_behind k.playback start is_start

  -- It is there that the walk stands.
  pub is_here : (r : Recording) → r.entries ≡ k.playback.entries → (place : Here)
      → place.begun ≡ k.playback.walk.begun_rounds → place.made ≡ k.playback.walk.made
      → phase_at k.playback.walk.place ≡ place.phase
      → first_kind (here k start).past ≡ kinds_named place.last
      → IsNextHere place.next r (here k start)
      → place.used ≡ k.playback.used → length k.playback.entries ≡ place.entries
      → IsHere place r (here k start)
  is_here r same place begun made phase last next used entries =
      let there = ready.stands start is_start in
      record {
        begun = ap (λ (m : Moment). m.begun_rounds) there.moment ∙ sym begun;
        made = ap (λ (m : Moment). m.made) there.moment ∙ sym made;
        phase = ap (λ (m : Moment). phase_at m.place) there.moment ∙ phase;
        last = last;
        next = next;
        used = there.used r same ∙ sym used;
        entries = ap length same ∙ entries;
      }

-- ---- the same of what is kept while the fields are seen

module _ {v k : SessionView} (is : v ≡ k) (keeps : v.failed ≡ false → IsSessionReady v)
    (running : k.failed ≡ false) where
  ready_then : IsSessionReady v
  ready_then = keeps (ap (λ (x : SessionView). x.failed) is ∙ running)

  pub last_so : (before : ℕ) → v.playback.moves ≡ before + 1 → (start : Position)
      → IsStartOf k.playback start
      → first_kind (here k start).past ≡ first_kind (position_after before start).future
  last_so before more start is_start =
      let start_then : IsStartOf v.playback start =
      subst (λ (x : SessionView). IsStartOf x.playback start) (sym is) is_start in
      ap (λ (x : SessionView). first_kind (here x start).past) (sym is)
      ∙ last_is v ready_then start start_then before more

  pub none_so : v.playback.moves ≡ 0 → (start : Position) → IsStartOf k.playback start
      → first_kind (here k start).past ≡ None
  none_so none start is_start =
      let start_then : IsStartOf v.playback start =
      subst (λ (x : SessionView). IsStartOf x.playback start) (sym is) is_start in
      ap (λ (x : SessionView). first_kind (here x start).past) (sym is)
      ∙ none_led v ready_then start start_then none

  pub is_here_so : (place : Here) → place.begun ≡ v.playback.walk.begun_rounds
      → place.made ≡ v.playback.walk.made → phase_at v.playback.walk.place ≡ place.phase
      → place.used ≡ v.playback.used → length v.playback.entries ≡ place.entries
      → (start : Position) (r : Recording) → IsStartOf k.playback start
      → r.entries ≡ k.playback.entries
      → first_kind (here k start).past ≡ kinds_named place.last
      → IsNextHere place.next r (here k start) → IsHere place r (here k start)
  is_here_so place begun made phase used entries =
      subst (λ (x : SessionView). (start : Position) (r : Recording)
      → IsStartOf x.playback start → r.entries ≡ x.playback.entries
      → first_kind (here x start).past ≡ kinds_named place.last
      → IsNextHere place.next r (here x start) → IsHere place r (here x start)) is
      (λ start r is_start same last next.
      is_here v ready_then start is_start r same place begun made phase last next used entries)

-- ---- what comes next

module _ (limit : ℕ) (r : Recording) (at : Position) (bound : r.limit ≡ limit) where
  pub follows : (kind : MoveKind) → first_kind at.future ≡ Some (kind_named kind)
      → IsNextHere (Follows kind) r at
  follows kind is = is

  pub has_ended : (ending : Ending) → first_kind at.future ≡ None
      → IsEndedAs limit at.moment (Some ending) → IsNextHere (HasEnded ending) r at
  has_ended ending none ends = (none, ap (λ n. kind_at n at.moment) bound ∙ ends.0, ends.1)

  pub misfits : (found : Option Misfit) → first_kind at.future ≡ None
      → IsEndedAs limit at.moment None → IsMisfitAt limit r at found
      → IsNextHere (Misfits found) r at
  misfits found none more is =
      (none, subst (λ n. IsSome (kind_at n at.moment)) (sym bound) more, is none more)

-- ---- the same of a session that was asked

limit_of : (k : SessionView) (start : Position) (s : Session) → IsAsked k start s
    → s.recording.limit ≡ k.playback.config.rounds
limit_of k start s asked = ap (λ (x : Session). x.recording.limit) asked.is

pub entries_of : (k : SessionView) (start : Position) (s : Session) → IsAsked k start s
    → s.recording.entries ≡ k.playback.entries
entries_of k start s asked = ap (λ (x : Session). x.recording.entries) asked.is

module _ {v k : SessionView} (is : v ≡ k) where
  pub ended_so : (ending : Ending)
      → ((start : Position) → IsStartOf v.playback start → IsEndedAs v.playback.config.rounds
      (position_after v.playback.moves start).moment (Some ending))
      → (start : Position) (s : Session) → IsStartOf k.playback start → IsAsked k start s
      → first_kind (here k start).future ≡ None
      → IsNextHere (HasEnded ending) s.recording (here k start)
  ended_so ending ends =
      subst (λ (x : SessionView). (start : Position) (s : Session) → IsStartOf x.playback start
      → IsAsked x start s → first_kind (here x start).future ≡ None
      → IsNextHere (HasEnded ending) s.recording (here x start)) is
      (λ start s is_start asked none.
      has_ended v.playback.config.rounds s.recording (here v start) (limit_of v start s asked)
      ending none (ends start is_start))

  pub misfits_so : (found : Option Misfit)
      → ((start : Position) → IsStartOf v.playback start → IsEndedAs v.playback.config.rounds
      (position_after v.playback.moves start).moment None)
      → ((start : Position) (r : Recording) → IsStartOf k.playback start
      → r.entries ≡ k.playback.entries
      → IsMisfitAt k.playback.config.rounds r (here k start) found)
      → (start : Position) (s : Session) → IsStartOf k.playback start → IsAsked k start s
      → first_kind (here k start).future ≡ None
      → IsNextHere (Misfits found) s.recording (here k start)
  misfits_so found ends misfit start s is_start asked none =
      let more : (start : Position) → IsStartOf k.playback start
      → IsEndedAs k.playback.config.rounds (here k start).moment None =
      subst (λ (x : SessionView). (start : Position) → IsStartOf x.playback start
      → IsEndedAs x.playback.config.rounds (here x start).moment None) is ends in
      misfits k.playback.config.rounds s.recording (here k start) (limit_of k start s asked)
      found none (more start is_start)
      (misfit start s.recording is_start (entries_of k start s asked))
