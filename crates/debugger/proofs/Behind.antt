-- One move on, on the way back: what was seen before it, and what stands behind it.
use Rattle.std.proofs.Common.{◌≡◌, ℕ, ◌+◌, ◌≤◌, Bool, List, [], Option, Some, None, false, sym, ap}
use Rattle.std.proofs.Common.{arith, subst, true, ◌∙◌, refl}
use Rattle.std.specs.Global.{Vec}
use Rattle.std.specs.Prelude.{is_none, ◌||◌, IfSome}
use Rattle.std.proofs.lemmas.Bool.{true≢false}
use Rattle.group_moves.specs.Moves.{MoveKind}
use Rattle.group_walk.specs.Walks.{kind_named, kinds_named}
use Rattle.group_walk.specs.declared.walker.MoveKind.{MoveKind as kind_type}
use Rattle.gdb_packets.specs.declared.resumptions.Resumption.{Resumption}
use Rattle.debug_session.specs.Backwards.{backwards, halt_start, is_there, was_ever_there}
use Rattle.debug_session.specs.Positions.{Position, first_kind, position_after}
use Rattle.debug_session.specs.Sessions.{Session}
use Rattle.recorded_walk.specs.Playbacks.{IsStartOf, moves_made}
use Rattle.debug_hits.specs.Kept.{HasLooked}
use Rattle.debugger.specs.declared.halts.Halt.{Halt as Kept}
use Rattle.debugger.specs.declared.moving.Before.{Before}
use Rattle.debugger.specs.Halting.{WasSeen, backwards_from, halt_meant}
use Rattle.debugger.specs.Quiet.{StopsAtAddresses}
use Rattle.debugger.specs.Standing.{Advances, IsAsked, IsSame, StillKnows, SessionView, here}
use Rattle.debugger.proofs.Backing.{backwards_first, was_first}
use Rattle.debugger.proofs.Staying.{asked_stays, known_on, same_back, same_on, same_watched}
use Rattle.debugger.proofs.Staying.{start_stays}

-- ---- the loop

-- So far on the way to the last moment, by what is kept.
pub record HasComeBack (old now : SessionView) (rs : List Resumption) (stepped : Option ℕ)
    (last : ℕ) (stops : Option (Vec ℕ)) (was : Bool) (halt : Kept) : Type 0 where
  pub running : now.failed ≡ false
  pub within : now.playback.moves ≤ last
  pub same : IsSame old now
  pub known : StillKnows old now
  pub furthest : last ≤ now.furthest
  pub there : halt.moves ≤ now.playback.moves
  pub born : halt.born ≡ None
  pub halts : (start : Position) (s : Session) → IsStartOf now.playback start → IsAsked now start s
      → halt_meant s rs start halt ≡ backwards_from s rs stepped (here now start)
  pub was_there : (start : Position) (s : Session) → IsStartOf now.playback start
      → IsAsked now start s → was ≡ was_ever_there s rs stepped (here now start).past
  pub quiet : (start : Position) (s : Session) → IsAsked now start s
      → IfSome stops (λ (found : Vec ℕ). StopsAtAddresses s found.items)

-- where the breakpoints of a session are that watches nothing
pub quiet_here : (now : SessionView) (stops : Option (Vec ℕ))
    → IfSome stops (λ (found : Vec ℕ). (start : Position) (s : Session) → IsAsked now start s
    → StopsAtAddresses s found.items)
    → (start : Position) (s : Session) → IsAsked now start s
    → IfSome stops (λ (found : Vec ℕ). StopsAtAddresses s found.items)
quiet_here now None is start s asked = tt
quiet_here now (Some found) is start s asked = is start s asked

-- One move on, and behind instructions that tell of nothing.
module _ (old at now : SessionView) (rs : List Resumption) (stepped : Option ℕ) (last : ℕ)
    (stops : Option (Vec ℕ)) (was : Bool) (halt : Kept)
    (come : HasComeBack old at rs stepped last stops was halt)
    (same : IsSame at now) (known : StillKnows at now) (more : at.furthest ≤ now.furthest)
    (running : now.failed ≡ false) (within : now.playback.moves ≤ last) (later : Kept)
    (there : later.moves ≤ now.playback.moves) (born : later.born ≡ None) where
  back : IsSame now at
  back = same_back at now same

  start_at : (start : Position) → IsStartOf now.playback start → IsStartOf at.playback start
  start_at start is_start = start_stays now at back.run start is_start

  asked_at : (start : Position) (s : Session) → IsAsked now start s → IsAsked at start s
  asked_at start s asked = asked_stays now at back start s asked

  quiet_now : (start : Position) (s : Session) → IsAsked now start s
      → IfSome stops (λ (found : Vec ℕ). StopsAtAddresses s found.items)
  quiet_now start s asked = come.quiet start s (asked_at start s asked)

  reach : last ≤ now.furthest
  reach = let before = come.furthest in omega (arith, before, more)

  pub comes_on : (was_now : Bool)
      → ((start : Position) (s : Session) → IsStartOf at.playback start → IsAsked at start s
      → was_now ≡ (is_there s rs stepped (here at start).moment.world || was))
      → ((start : Position) (s : Session) → IsStartOf at.playback start → IsAsked at start s
      → halt_meant s rs start halt ≡ backwards_from s rs stepped (here at start)
      → was_now ≡ (is_there s rs stepped (here at start).moment.world
      || was_ever_there s rs stepped (here at start).past)
      → halt_meant s rs start later ≡ backwards_from s rs stepped (here now start))
      → ((start : Position) (s : Session) → IsStartOf at.playback start → IsAsked at start s
      → was_ever_there s rs stepped (here now start).past
      ≡ (is_there s rs stepped (here at start).moment.world
      || was_ever_there s rs stepped (here at start).past))
      → HasComeBack old now rs stepped last stops was_now later
  comes_on was_now by_now halts wass = record {
    running = running;
    within = within;
    same = same_on old at now come.same same;
    known = known_on old at now come.known known;
    furthest = reach;
    there = there;
    born = born;
    halts = λ start s is_start asked.
        let begun = start_at start is_start in
        let asks = asked_at start s asked in
        halts start s begun asks (come.halts start s begun asks) (now_is start s begun asks);
    was_there = λ start s is_start asked.
        let begun = start_at start is_start in
        let asks = asked_at start s asked in
        now_is start s begun asks ∙ sym (wass start s begun asks);
    quiet = quiet_now;
  }
    where
      now_is : (start : Position) (s : Session) → IsStartOf at.playback start → IsAsked at start s
          → was_now ≡ (is_there s rs stepped (here at start).moment.world
          || was_ever_there s rs stepped (here at start).past)
      now_is start s begun asks =
          by_now start s begun asks
          ∙ ap (λ (b : Bool). is_there s rs stepped (here at start).moment.world || b)
          (come.was_there start s begun asks)

  pub comes_past : was ≡ true → (found : Vec ℕ) → stops ≡ Some found → (addresses : List ℕ)
      → addresses ≡ found.items
      → ((start : Position) (s : Session) (rs : List Resumption) → IsStartOf at.playback start
      → IsAsked at start s → StopsAtAddresses s addresses
      → was_ever_there s rs stepped (here at start).past ≡ true
      → halt_meant s rs start halt ≡ backwards_from s rs stepped (here at start)
      → halt_meant s rs start later ≡ backwards_from s rs stepped (here now start))
      → ((start : Position) (s : Session) (rs : List Resumption) → IsStartOf at.playback start
      → IsAsked at start s → was_ever_there s rs stepped (here at start).past ≡ true
      → was_ever_there s rs stepped (here now start).past ≡ true)
      → HasComeBack old now rs stepped last stops was later
  comes_past somebody found some addresses same_addresses halts wass = record {
    running = running;
    within = within;
    same = same_on old at now come.same same;
    known = known_on old at now come.known known;
    furthest = reach;
    there = there;
    born = born;
    halts = λ start s is_start asked.
        let begun = start_at start is_start in
        let asks = asked_at start s asked in
        halts start s rs begun asks (quiet_at start s asks) (ever start s begun asks)
        (come.halts start s begun asks);
    was_there = λ start s is_start asked.
        let begun = start_at start is_start in
        let asks = asked_at start s asked in
        somebody ∙ sym (wass start s rs begun asks (ever start s begun asks));
    quiet = quiet_now;
  }
    where
      quiet_at : (start : Position) (s : Session) → IsAsked at start s
          → StopsAtAddresses s addresses
      quiet_at start s asks =
          subst (StopsAtAddresses s) (sym same_addresses)
          (subst (λ (o : Option (Vec ℕ)). IfSome o (λ (v : Vec ℕ). StopsAtAddresses s v.items)) some
          (come.quiet start s asks))

      ever : (start : Position) (s : Session) → IsStartOf at.playback start → IsAsked at start s
          → was_ever_there s rs stepped (here at start).past ≡ true
      ever start s begun asks = sym (come.was_there start s begun asks) ∙ somebody

-- ---- one move

module _ (old looked now : SessionView) (before : Before) (kind : kind_type)
    (made : Option kind_type) (some : is_none made ≡ false) (kind_is : before.kind ≡ kind)
    (moves_is : before.moves ≡ old.playback.moves)
    (rest : looked ≡ record old { watched = looked.watched }) (same : IsSame looked now)
    (went : now.playback.moves ≡ looked.playback.moves + moves_made made)
    (watched : now.watched ≡ looked.watched) where
  made_some : (k : kind_type) × (made ≡ Some k)
  made_some = by made some
    where
      by : (o : Option kind_type) → is_none o ≡ false → (k : kind_type) × (o ≡ Some k)
      by None is = absurd (true≢false is)
      by (Some k) is = (k, refl)

  pub next_is : now.playback.moves ≡ before.moves + 1
  next_is =
      went
      ∙ ap (λ (o : Option kind_type). looked.playback.moves + moves_made o) made_some.1
      ∙ ap (λ (a : SessionView). a.playback.moves + 1) rest
      ∙ ap (λ (n : ℕ). n + 1) (sym moves_is)

  pub same_now : IsSame old now
  same_now = same_on old looked now (same_watched old looked looked.watched rest) same

  module _ (start : Position) (is_start : IsStartOf old.playback start) where
    pub start_now : IsStartOf now.playback start
    start_now = start_stays old now same_now.run start is_start

    pub start_looked : IsStartOf looked.playback start
    start_looked =
        start_stays old looked (same_watched old looked looked.watched rest).run start is_start

    pub ahead_is : Advances looked now made start
        → ((m : MoveKind) → first_kind (here old start).future ≡ Some m
        → Some (kind_named kind) ≡ Some m)
        → first_kind (position_after before.moves start).future ≡ Some (kind_named before.kind)
    ahead_is advances named =
        let first : first_kind (here old start).future ≡ Some (kind_named made_some.0) =
        ap (λ (a : SessionView). first_kind (position_after a.playback.moves start).future)
        (sym rest)
        ∙ advances.first ∙ ap (λ (o : Option kind_type). kinds_named o) made_some.1 in
        ap (λ (n : ℕ). first_kind (position_after n start).future) moves_is
        ∙ first ∙ sym (named (kind_named made_some.0) first)
        ∙ ap (λ (k : kind_type). Some (kind_named k)) (sym kind_is)

    module _ (s : Session) (asked : IsAsked old start s) where
      pub asked_now : IsAsked now start s
      asked_now = asked_stays old now same_now start s asked

      pub seen_now : (rs : List Resumption) → WasSeen before s rs (here old start).moment.world
          → WasSeen before s rs (position_after before.moves start).moment.world
      seen_now rs seen =
          subst (λ (n : ℕ). WasSeen before s rs (position_after n start).moment.world)
          (sym moves_is) seen

      pub looked_now : HasLooked (here old start).moment.world (kind_named kind) s.watchpoints
          looked.watched
          → HasLooked (position_after before.moves start).moment.world (kind_named before.kind)
          s.watchpoints now.watched
      looked_now has =
          subst (λ (n : ℕ). HasLooked (position_after n start).moment.world
          (kind_named before.kind) s.watchpoints now.watched) (sym moves_is)
          (subst (λ (k : kind_type). HasLooked (here old start).moment.world (kind_named k)
          s.watchpoints now.watched) (sym kind_is)
          (subst (HasLooked (here old start).moment.world (kind_named kind) s.watchpoints)
          (sym watched) has))

-- ---- its ends

-- at the first moment
module _ (now : SessionView) (none : now.playback.moves ≡ 0) (start : Position)
    (is_start : IsStartOf now.playback start) where
  first_past : (here now start).past ≡ []
  first_past =
      ap (λ (n : ℕ). (position_after n start).past) none
      ∙ ap (λ (at : Position). at.past) is_start.is

  pub begins_back : (s : Session) (rs : List Resumption) (stepped : Option ℕ) (halt : Kept)
      → halt_meant s rs start halt ≡ halt_start s rs stepped (here now start)
      → halt_meant s rs start halt ≡ backwards_from s rs stepped (here now start)
  begins_back s rs stepped halt is =
      is ∙ sym (backwards_first s rs stepped (here now start) first_past)

  pub nobody_yet : (s : Session) (rs : List Resumption) (stepped : Option ℕ)
      → false ≡ was_ever_there s rs stepped (here now start).past
  nobody_yet s rs stepped = sym (was_first s rs stepped (here now start) first_past)

-- where it began
pub comes_back : (old now : SessionView) (rs : List Resumption) (stepped : Option ℕ)
    (last : ℕ) (stops : Option (Vec ℕ)) (was : Bool) (halt : Kept)
    → HasComeBack old now rs stepped last stops was halt → now.playback.moves ≡ old.playback.moves
    → (start : Position) (s : Session) → IsStartOf old.playback start → IsAsked old start s
    → s.position ≡ here old start
    → backwards s rs stepped ≡ halt_meant s rs start halt
comes_back old now rs stepped last stops was halt come all start s is_start asked at =
    ap (backwards_from s rs stepped) at
    ∙ ap (λ (n : ℕ). backwards_from s rs stepped (position_after n start)) (sym all)
    ∙ sym (come.halts start s (start_stays old now come.same.run start is_start)
    (asked_stays old now come.same start s asked))
