-- What a session that is ready keeps, call by call.
use Rattle.std.proofs.Common.{◌≡◌, ℕ, suc, ◌+◌, ◌<◌, ◌≤◌, max, List, [], ◌∷◌, ◌++◌, length, take}
use Rattle.std.proofs.Common.{Bool, true, false, ◌&&◌, ◌||◌, nat_le, Option, Some, None, refl, sym}
use Rattle.std.proofs.Common.{ap, ◌∙◌, subst, arith, Result, Ok, Err}
use Rattle.std.specs.Prelude.{OnOk, is_none, slice_get}
use Rattle.std.proofs.lemmas.Bool.{and_parts, leb-true, leb-false}
use Rattle.dos_world.specs.declared.Config.{Config}
use Rattle.elf_image.specs.Image.{Image}
use Rattle.group_moves.specs.Moves.{MoveKind}
use Rattle.group_moves.specs.Moments.{Moment}
use Rattle.group_walk.specs.Walks.{kind_named, kinds_named}
use Rattle.group_walk.specs.declared.walker.MoveKind.{MoveKind as kind_type}
use Rattle.gdb_packets.specs.declared.resumptions.Resumption.{Resumption}
use Rattle.kernel_calls.specs.StateWorld.{sent, world_of}
use Rattle.kernel_calls.specs.declared.state.State.{State}
use Rattle.debug_session.specs.Actions.{thread_named}
use Rattle.debug_session.specs.Positions.{Position, all_moments, first_kind, position_after}
use Rattle.debug_session.specs.Recordings.{LogEntry}
use Rattle.recorded_walk.specs.Laws.{HistoriesStart}
use Rattle.recorded_walk.specs.Playbacks.{IsAtPlace, IsOfSame, IsStart, IsStartOf, Played, Stands}
use Rattle.recorded_walk.specs.Playbacks.{moves_made}
use Rattle.debug_client.specs.Births.{BirthTables, Grows, HasNoted, KnowsBirths, has_named}
use Rattle.debug_client.specs.Births.{knows_id, knows_named}
use Rattle.debug_client.proofs.Laws.{home_stays, noted_there, processes_stay}
use Rattle.debugger.specs.Standing.{Advances, IsSessionReady, IsSame, IsSameRun, KnowsUpTo}
use Rattle.debugger.specs.Standing.{SessionView}
use Rattle.debugger.specs.Standing.{here}
use Rattle.debugger.proofs.Moments.{get_front, moment_behind_moves, no_more, one_more}
use Rattle.debugger.proofs.Moments.{take_one_more}

-- ---- threads that are known

named_stays : (old new : BirthTables) → Grows old new → (o : Option ℕ) → has_named old o ≡ true
    → has_named new o ≡ true
named_stays old new grows None known = refl
named_stays old new grows (Some t) known = home_stays old new grows t known

pub all_stay : (old new : BirthTables) → Grows old new → (rs : List Resumption)
    → knows_named old rs ≡ true → knows_named new rs ≡ true
all_stay old new grows [] known = refl
all_stay old new grows (r ∷ rs) known =
    let both = and_parts (knows_id old r.threads) (knows_named old rs) known in
    ap (λ b. b && knows_named new rs) (named_stays old new grows (thread_named r.threads) both.0)
    ∙ all_stay old new grows rs both.1

named_of_whole : (b : BirthTables) → b.is_whole ≡ true → (o : Option ℕ) → has_named b o ≡ true
named_of_whole b whole None = refl
named_of_whole b whole (Some t) = ap (λ w. w || nat_le t (length b.homes)) whole

pub all_of_whole : (b : BirthTables) → b.is_whole ≡ true → (rs : List Resumption)
    → knows_named b rs ≡ true
all_of_whole b whole [] = refl
all_of_whole b whole (r ∷ rs) =
    ap (λ k. k && knows_named b rs) (named_of_whole b whole (thread_named r.threads))
    ∙ all_of_whole b whole rs

-- ---- the run

pub same_start : (p q : Played) → IsOfSame p q → (start : Position) → IsStartOf q start
    → IsStartOf p start
same_start p q same start is =
    subst (λ (images : List Image). IsStart images p.config p.entries start) same.images
    (subst (λ (c : Config). IsStart q.images c p.entries start) same.config
    (subst (λ (es : List LogEntry). IsStart q.images q.config es start) same.entries is))

pub same_start_on : (p q : Played) → IsOfSame p q → (start : Position) → IsStartOf p start
    → IsStartOf q start
same_start_on p q same start is =
    same_start q p (record {
      images = sym same.images;
      config = sym same.config;
      entries = sym same.entries;
    }) start is

none_behind : (p : Played) (start : Position) → IsStartOf p start → start.past ≡ []
none_behind p start is = ap (λ (at : Position). at.past) is.is

-- what the next moment adds
pub record NotesNow (old new : BirthTables) (s : State) : Type 0 where
  pub known : (noted : List Moment) (m : Moment) (q : ℕ) (output error : List ℕ)
      → m.world ≡ sent output error (world_of q s) → KnowsBirths old noted
      → KnowsBirths new (noted ++ m ∷ [])
  pub there : HasNoted new s
  pub grows : Grows old new
  pub same : HasNoted old s → new ≡ old
  pub images : new.images ≡ old.images
  pub whole : new.is_whole ≡ old.is_whole

-- The run stands elsewhere.
module _ (starts : HistoriesStart) (k : SessionView) (ready : IsSessionReady k) (p : Played)
    (same : IsOfSame k.playback p) (running : p.failed ≡ false) (stands : Stands p) where
  -- where it was before
  pub noted_before : p.moves ≤ k.furthest → HasNoted k.births p.walk.state
  noted_before before =
      let found = starts p.images p.config p.entries in
      let start : Position = found.0 in
      let knows : KnowsUpTo k start =
      ready.births start (same_start k.playback p same start found.1) in
      let at : Position = position_after p.moves start in
      let place : IsAtPlace p at = stands start found.1 in
      let few = knows.few in
      noted_there k.births (take (k.furthest + 1) (all_moments start)) p.moves at.moment
      p.walk.state p.walk.config.quantum at.moment.world.output at.moment.world.error knows.known
      (get_front (all_moments start) (k.furthest + 1) p.moves (omega (arith, before))
      ∙ moment_behind_moves p.moves start (none_behind p start found.1)
      (omega (arith, before, few)))
      (ap (λ (m : Moment). m.world) place.moment)

  pub stays_ready : p.moves ≤ k.furthest → k.furthest ≤ p.reached
      → IsSessionReady (record k { playback = p })
  stays_ready before reach = record {
    running = running;
    stands = stands;
    behind = before;
    reach = reach;
    births = λ start is.
        let knows : KnowsUpTo k start =
        ready.births start (same_start k.playback p same start is) in
        record { known = knows.known; few = knows.few; whole = knows.whole };
    there = noted_before before;
    told = ready.told;
    images = ready.images;
    names = ready.names;
  }

  -- one move on
  module _ (b : BirthTables) (f : ℕ) (notes : NotesNow k.births b p.walk.state) where
    abbrev on : SessionView
    on = record k { playback = p; births = b; furthest = f }

    ready_by : ((start : Position) → IsStartOf p start → KnowsUpTo on start) → p.moves ≤ f
        → f ≤ p.reached → IsSessionReady on
    ready_by births behind reach = record {
      running = running;
      stands = stands;
      behind = behind;
      reach = reach;
      births = births;
      there = notes.there;
      told = processes_stay k.births b notes.grows k.client.told ready.told;
      images = notes.images ∙ ready.images;
      names = ready.names;
    }

    within : p.moves ≤ k.furthest → f ≡ k.furthest → (start : Position) → IsStartOf p start
        → KnowsUpTo on start
    within before f_is start is =
        let knows : KnowsUpTo k start =
        ready.births start (same_start k.playback p same start is) in
        let b_is : b ≡ k.births = notes.same (noted_before before) in
        let few = knows.few in
        record {
          known = subst (λ (x : BirthTables). KnowsBirths x (take (f + 1) (all_moments start)))
              (sym b_is) (subst (λ n. KnowsBirths k.births (take (n + 1) (all_moments start)))
              (sym f_is) knows.known);
          few = omega (arith, few, f_is);
          whole = λ whole.
              let all = knows.whole (sym notes.whole ∙ whole) in
              omega (arith, all, f_is);
        }

    beyond : p.moves ≡ k.furthest + 1 → f ≡ k.furthest + 1 → k.playback.moves ≡ k.furthest
        → (kind : kind_type) → ((start : Position) → IsStartOf k.playback start
        → first_kind (here k start).future ≡ Some (kind_named kind))
        → (start : Position) → IsStartOf p start → KnowsUpTo on start
    beyond moves f_is last kind ahead start is =
        let old : IsStartOf k.playback start = same_start k.playback p same start is in
        let knows : KnowsUpTo k start = ready.births start old in
        let few = knows.few in
        let more : suc k.playback.moves < length (all_moments start) =
        one_more k.playback.moves start (kind_named kind) (none_behind p start is)
        (omega (arith, last, few)) (ahead start old) in
        let at : Position = position_after p.moves start in
        let place : IsAtPlace p at = stands start is in
        let get : slice_get (all_moments start) (k.furthest + 1) ≡ Some at.moment =
        ap (λ n. slice_get (all_moments start) n) (sym moves)
        ∙ moment_behind_moves p.moves start (none_behind p start is)
        (omega (arith, moves, last, more)) in
        record {
          known = subst (λ n. KnowsBirths b (take (n + 1) (all_moments start))) (sym f_is)
              (subst (KnowsBirths b)
              (sym (take_one_more (all_moments start) (k.furthest + 1) at.moment get))
              (notes.known (take (k.furthest + 1) (all_moments start)) at.moment
              p.walk.config.quantum at.moment.world.output at.moment.world.error
              (ap (λ (m : Moment). m.world) place.moment) knows.known));
          few = omega (arith, f_is, last, more);
          whole = λ whole.
              let all = knows.whole (sym notes.whole ∙ whole) in
              absurd (omega (arith, all, last, more));
        }

    pub ready_on : (made : Option kind_type) → f ≡ max k.furthest p.moves
        → p.moves ≡ k.playback.moves + moves_made made
        → ((start : Position) → IsStartOf k.playback start
        → first_kind (here k start).future ≡ kinds_named made)
        → k.furthest ≤ p.reached → p.moves ≤ p.reached → IsSessionReady on
    ready_on made most moves ahead reach reached =
        ready_by (by_made made (nat_le p.moves k.furthest) refl moves ahead)
        (omega (arith, most)) (omega (arith, most, reach, reached))
      where
        by_made : (made : Option kind_type) (t : Bool) → nat_le p.moves k.furthest ≡ t
            → p.moves ≡ k.playback.moves + moves_made made
            → ((start : Position) → IsStartOf k.playback start
            → first_kind (here k start).future ≡ kinds_named made)
            → (start : Position) → IsStartOf p start → KnowsUpTo on start
        by_made made true is moves ahead =
            let before = leb-true p.moves k.furthest is in
            within (omega (arith, before)) (omega (arith, before, most))
        by_made None false is moves ahead =
            let after = leb-false p.moves k.furthest is in
            let behind = ready.behind in
            absurd (omega (arith, after, moves, behind))
        by_made (Some kind) false is moves ahead =
            let after = leb-false p.moves k.furthest is in
            let behind = ready.behind in
            beyond (omega (arith, after, moves, behind)) (omega (arith, after, moves, behind, most))
            (omega (arith, after, moves, behind)) kind ahead

-- It is the same whether a call is under way.
pub ready_again : (k : SessionView) (failed : Bool) → IsSessionReady k
    → IsSessionReady (record k { failed = failed })
ready_again k failed ready = record {
  running = ready.running;
  stands = ready.stands;
  behind = ready.behind;
  reach = ready.reach;
  births = λ start is.
      let knows : KnowsUpTo k start = ready.births start is in
      record { known = knows.known; few = knows.few; whole = knows.whole };
  there = ready.there;
  told = ready.told;
  images = ready.images;
  names = ready.names;
}

-- All moments were noted.
pub whole_ready : (k : SessionView) → IsSessionReady k
    → ((start : Position) → IsStartOf k.playback start → (here k start).future ≡ [])
    → IsSessionReady (record k { births = record k.births { is_whole = true } })
whole_ready k ready over = record {
  running = ready.running;
  stands = ready.stands;
  behind = ready.behind;
  reach = ready.reach;
  births = λ start is.
      let knows : KnowsUpTo k start = ready.births start is in
      let few = knows.few in
      let behind = ready.behind in
      let last = no_more k.playback.moves start (none_behind k.playback start is)
      (omega (arith, few, behind)) (over start is) in
      record {
        known = record {
          images = knows.known.images;
          first_threads = knows.known.first_threads;
          homes = knows.known.homes;
          parents = knows.known.parents;
        };
        few = knows.few;
        whole = λ whole. omega (arith, few, behind, last);
      };
  there = record {
    images = ready.there.images;
    first_threads = ready.there.first_threads;
    homes = ready.there.homes;
  };
  told = processes_stay k.births (record k.births { is_whole = true }) (record {
    images = omega arith;
    first_threads = omega arith;
    homes = omega arith;
    whole = λ whole. refl;
  }) k.client.told ready.told;
  images = ready.images;
  names = ready.names;
}

-- ---- the end of the history

pub same_on : (a b c : SessionView) → IsSame a b → IsSame b c → IsSame a c
same_on a b c h k = record {
  run = record {
    images = k.run.images ∙ h.run.images;
    config = k.run.config ∙ h.run.config;
    entries = k.run.entries ∙ h.run.entries;
    names = k.run.names ∙ h.run.names;
    files = k.run.files ∙ h.run.files;
  };
  client = k.client ∙ h.client;
}

pub run_of_same : (a b : SessionView) → IsSameRun a b → IsOfSame a.playback b.playback
run_of_same a b same =
    record { images = same.images; config = same.config; entries = same.entries }

-- Where no move was made none is ahead.
pub over_there : (old new : SessionView) (made : Option kind_type) (start : Position)
    → is_none made ≡ true → new.playback.moves ≡ old.playback.moves + moves_made made
    → Advances old new made start → (here new start).future ≡ []
over_there old new (Some kind) start none moves advances = absurd cc
over_there old new None start none moves advances =
    let still : new.playback.moves ≡ old.playback.moves = omega (arith, moves) in
    ap (λ n. (position_after n start).future) still
    ∙ nothing (here old start).future advances.first
  where
    nothing : (moves : List (MoveKind × Moment)) → first_kind moves ≡ None → moves ≡ []
    nothing [] is = refl
    nothing (move ∷ moves) is = absurd cc

-- ---- calls

-- The run stands where it was before, and nobody was born by that.
module _ (starts : HistoriesStart) (k : SessionView) (ready : IsSessionReady k) (p : Played)
    (same : IsOfSame k.playback p) (running : p.failed ≡ false) (stands : Stands p)
    (before : p.moves ≤ k.furthest) (reach : k.furthest ≤ p.reached) where
  pub ready_there : IsSessionReady (record k { playback = p; failed = false })
  ready_there = ready_again (record k { playback = p }) false
      (stays_ready starts k ready p same running stands before reach)

  module _ (b : BirthTables) (notes : NotesNow k.births b p.walk.state) where
    pub none_born : b ≡ k.births
    none_born = notes.same (noted_before starts k ready p same running stands before)

    pub ready_noted : IsSessionReady (record k { playback = p; births = b; failed = false })
    ready_noted =
        subst (λ (x : BirthTables). IsSessionReady (record k {
          playback = p;
          births = x;
          failed =
              false;
        }))
        (sym none_born) ready_there

-- these tables are the same, but whole
pub whole_by : (k : SessionView) (b : BirthTables) → b ≡ record k.births { is_whole = true }
    → IsSessionReady k → ((start : Position) → IsStartOf k.playback start
    → (here k start).future ≡ [])
    → IsSessionReady (record k { births = b })
whole_by k b is ready over =
    subst (λ (x : BirthTables). IsSessionReady (record k { births = x })) (sym is)
    (whole_ready k ready over)

pub known_by_whole : {A E : Type 0} (r : Result A E) (b : BirthTables) (rs : List Resumption)
    → OnOk r (b.is_whole ≡ true) → OnOk r (knows_named b rs ≡ true)
known_by_whole (Ok a) b rs whole = all_of_whole b whole rs
known_by_whole (Err e) b rs whole = tt
