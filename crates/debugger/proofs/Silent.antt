-- Moves by which nobody is born: who was born by then is known behind them as before.
use Rattle.std.proofs.Common.{ℕ, zero, suc, ◌≡◌, ◌+◌, ◌<◌, ◌≤◌, max, List, [], ◌∷◌, ◌++◌, map}
use Rattle.std.proofs.Common.{length, take, Bool, true, false, cond, Option, Some, None, refl}
use Rattle.std.proofs.Common.{sym, ap, ◌∙◌}
use Rattle.std.proofs.Common.{subst, arith, nat_le}
use Rattle.std.specs.Prelude.{IfSome, find, is_some, option_and_then, option_map, slice_get}
use Rattle.std.specs.Prelude.{unwrap_or}
use Rattle.std.proofs.lemmas.Bool.{leb-true, leb-false}
use Rattle.dos_world.specs.Numbered.{numbered}
use Rattle.dos_world.specs.World.{Process, Thread, World, first_thread, parent_of, process_at}
use Rattle.dos_world.specs.World.{thread_at}
use Rattle.group_moves.specs.Moves.{MoveKind, runs}
use Rattle.group_moves.specs.Moments.{Moment}
use Rattle.group_walk.specs.Stretches.{IsSameGroup, homes_in}
use Rattle.debug_session.specs.Homes.{birth_of, birth_of_thread, image_of_process}
use Rattle.debug_session.specs.Positions.{Position, all_moments, first_kind, moved_on}
use Rattle.debug_session.specs.Positions.{position_after}
use Rattle.recorded_walk.specs.Laws.{HistoriesStart}
use Rattle.recorded_walk.specs.Playbacks.{AreSilentMoves, IsAtPlace, IsOfSame, IsSilentMove}
use Rattle.recorded_walk.specs.Playbacks.{IsStartOf}
use Rattle.recorded_walk.specs.Playbacks.{Played, MovesSilently, Stands}
use Rattle.debug_client.specs.Births.{BirthTables, HasNoted, KnowsBirths, image_behind}
use Rattle.debug_client.specs.Births.{process_of_thread}
use Rattle.debug_client.proofs.Laws.{noted_there}
use Rattle.debugger.specs.Standing.{IsSessionReady, KnowsUpTo, SessionView, here}
use Rattle.debugger.proofs.Lasting.{start_past}
use Rattle.debugger.proofs.Moments.{get_front, moment_behind_moves, one_more, take_one_more}
use Rattle.debugger.proofs.Ready.{ready_again, same_start}

-- ---- who is there at a moment

-- what is made of each element leaves their numbers
there_mapped : {A B : Type 0} (f : A → B) (xs : List A) (n : ℕ)
    → is_some (numbered (map f xs) n) ≡ is_some (numbered xs n)
there_mapped f xs zero = refl
there_mapped f xs (suc i) = go f xs i
  where
    go : {A B : Type 0} (f : A → B) (xs : List A) (i : ℕ)
        → is_some (slice_get (map f xs) i) ≡ is_some (slice_get xs i)
    go f [] i = refl
    go f (x ∷ xs) zero = refl
    go f (x ∷ xs) (suc i) = go f xs i

-- in the same group the same numbers are there
module _ (before behind : World) (same : IsSameGroup before behind) where
  process_there : (p : ℕ) → is_some (process_at behind p) ≡ is_some (process_at before p)
  process_there p = ap (λ (ps : List Process). is_some (numbered ps p)) same.processes

  thread_there : (t : ℕ)
      → is_some (numbered behind.threads t) ≡ is_some (numbered before.threads t)
  thread_there t =
      let home : Option Thread → Option ℕ =
      λ thread. option_map (λ (known : Thread). known.process) thread in
      sym (there_mapped home behind.threads t)
      ∙ ap (λ (os : List (Option ℕ)). is_some (numbered os t)) same.homes
      ∙ there_mapped home before.threads t

-- ---- births

-- the first that passes, where one more doesn't
find_unfit : (f : Moment → Bool) (ms : List Moment) (next : Moment) → f next ≡ false
    → find f (ms ++ next ∷ []) ≡ find f ms
find_unfit f [] next fails = ap (λ (b : Bool). cond b (Some next) None) fails
find_unfit f (m ∷ ms) next fails =
    ap (λ (o : Option Moment). cond (f m) (Some m) o) (find_unfit f ms next fails)

-- or where one more passes just as one that is there
find_more : (f : Moment → Bool) (ms : List Moment) (i : ℕ) (m next : Moment)
    → slice_get ms i ≡ Some m → f next ≡ f m → find f (ms ++ next ∷ []) ≡ find f ms
find_more f [] i m next is same = cc
find_more f (y ∷ ms) zero m next is same = (let one : y ≡ m = cc in by (f y) refl one)
  where
    by : (b : Bool) → f y ≡ b → y ≡ m
        → cond (f y) (Some y) (find f (ms ++ next ∷ [])) ≡ cond (f y) (Some y) (find f ms)
    by true holds one =
        ap (λ (b : Bool). cond b (Some y) (find f (ms ++ next ∷ []))) holds
        ∙ sym (ap (λ (b : Bool). cond b (Some y) (find f ms)) holds)
    by false fails one =
        ap (λ (o : Option Moment). cond (f y) (Some y) o)
        (find_unfit f ms next (same ∙ ap f (sym one) ∙ fails))
find_more f (y ∷ ms) (suc i) m next is same =
    ap (λ (o : Option Moment). cond (f y) (Some y) o) (find_more f ms i m next is same)

-- the same births at more moments
record AreSameBirths (few many : List Moment) : Type 0 where
  processes : (p : ℕ) → birth_of many p ≡ birth_of few p
  threads : (t : ℕ) → birth_of_thread many t ≡ birth_of_thread few t

module _ (few many : List Moment) (same : AreSameBirths few many) where
  image_same : (most images p : ℕ)
      → image_of_process most images many p ≡ image_of_process most images few p
  image_same zero images p = refl
  image_same (suc most) images p =
      ap (λ (o : Option ℕ). cond (nat_le p images) (Some p) o)
      (ap (by_parent many) (same.processes p) ∙ by (image_same most images) (birth_of few p))
    where
      by_parent : List Moment → Option Moment → Option ℕ
      by_parent ms birth =
          option_and_then (λ m. image_of_process most images ms (parent_of m.world p)) birth

      by : ((q : ℕ) → image_of_process most images many q ≡ image_of_process most images few q)
          → (o : Option Moment) → by_parent many o ≡ by_parent few o
      by rest None = refl
      by rest (Some m) = rest (parent_of m.world p)

  known_same : (b : BirthTables) → KnowsBirths b few → KnowsBirths b many
  known_same b known = record {
    images = λ p.
        known.images p
        ∙ ap (λ n. option_map (λ (m : Moment). n) (birth_of few p))
        (ap (λ (o : Option ℕ). unwrap_or o 0) (sym (image_same p b.images p)))
        ∙ ap (option_map (λ (m : Moment). image_behind b.images many p))
        (sym (same.processes p));
    first_threads = λ p.
        known.first_threads p
        ∙ ap (option_map (λ (m : Moment). first_thread m.world p)) (sym (same.processes p));
    homes = λ t.
        known.homes t
        ∙ ap (option_map (λ (m : Moment). process_of_thread (thread_at m.world t)))
        (sym (same.threads t));
    parents = λ p.
        subst (λ (o : Option Moment). IfSome o (λ m. parent_of m.world p < p))
        (sym (same.processes p)) (known.parents p);
  }

-- One moment more, at which the same are there as at one of these.
known_more : (b : BirthTables) (ms : List Moment) (i : ℕ) (m next : Moment)
    → slice_get ms i ≡ Some m → IsSameGroup m.world next.world → KnowsBirths b ms
    → KnowsBirths b (ms ++ next ∷ [])
known_more b ms i m next is same known =
    known_same ms (ms ++ next ∷ []) (record {
      processes = λ p.
          find_more (λ x. is_some (process_at x.world p)) ms i m next is
          (process_there m.world next.world same p);
      threads = λ t.
          find_more (λ x. is_some (numbered x.world.threads t)) ms i m next is
          (thread_there m.world next.world same t);
    }) b known

-- ---- so many silent moves

-- what is known up to a moment
abbrev KnownTo : BirthTables → (start : Position) → (last : ℕ) → Type 0
KnownTo b start last =
    KnowsBirths b (take (last + 1) (all_moments start)) × (last < length (all_moments start))

module _ (b : BirthTables) (start : Position) (none : start.past ≡ []) (stops frames : List ℕ)
    (t : ℕ)
  where
    -- by one, from the furthest moment
    known_on : (n : ℕ) → KnownTo b start n → IsSilentMove stops frames t (position_after n start)
        → KnownTo b start (n + 1)
    known_on n known silent =
        let few = known.1 in
        let at : Position = position_after n start in
        let more : suc n < length (all_moments start) =
        one_more n start (runs t) none few
        (ap (λ (f : List (MoveKind × Moment)). first_kind f) silent.ahead) in
        let next_is : (position_after (suc n) start).moment ≡ silent.next =
        ap (λ (f : List (MoveKind × Moment)). (moved_on (record at { future = f })).moment)
        silent.ahead in
        let get : slice_get (all_moments start) (n + 1) ≡ Some silent.next =
        (let one : n + 1 ≡ suc n = omega arith in
        ap (λ k. slice_get (all_moments start) k) one)
        ∙ moment_behind_moves (suc n) start none more
        ∙ ap (λ (m : Moment). Some m) next_is in (
          subst (KnowsBirths b) (sym (take_one_more (all_moments start) (n + 1) silent.next get))
              (known_more b (take (n + 1) (all_moments start)) n at.moment silent.next
              (get_front (all_moments start) (n + 1) n (omega arith)
              ∙ moment_behind_moves n start none few)
              silent.same known.0),
          omega (arith, more),
        )

    -- from any moment up to there
    known_along : (count n last most : ℕ) → n ≤ last → most ≡ max last (n + count)
        → KnownTo b start last → AreSilentMoves stops frames count t (position_after n start)
        → KnownTo b start most × (n + count < length (all_moments start))
    known_along zero n last most within is known silent =
        let few = known.1 in
        let same : last ≡ most = omega (arith, within, is) in
        (subst (KnownTo b start) same known, omega (arith, within, few))
    known_along (suc count) n last most within is known silent =
        by (λ later behind so more. known_along count (suc n) later most behind so more silent.1)
        (nat_le (suc n) last) refl
      where
        Later : Type 0
        Later = (later : ℕ) → suc n ≤ later → most ≡ max later (suc n + count)
            → KnownTo b start later
            → KnownTo b start most × (suc n + count < length (all_moments start))

        done : KnownTo b start most × (suc n + count < length (all_moments start))
            → KnownTo b start most × (n + suc count < length (all_moments start))
        done both =
            let fits = both.1 in
            (both.0, omega (arith, fits))

        by : Later → (under : Bool) → nat_le (suc n) last ≡ under
            → KnownTo b start most × (n + suc count < length (all_moments start))
        by rest true before =
            let less = leb-true (suc n) last before in
            done (rest last less (omega (arith, is, less)) known)
        by rest false beyond =
            let more = leb-false (suc n) last beyond in
            let one : last ≡ n = omega (arith, within, more) in
            done (rest (n + 1) (omega arith) (omega (arith, is, one))
            (known_on n (subst (KnownTo b start) one known) silent.0))

-- ---- a session that is ready

-- The run has gone on by so many silent moves.
module _ (starts : HistoriesStart) (k : SessionView) (ready : IsSessionReady k) (p : Played)
    (same : IsOfSame k.playback p) (running : p.failed ≡ false) (stands : Stands p)
    (stops frames : List ℕ) (count furthest : ℕ) (moves : p.moves ≡ k.playback.moves + count)
    (silent : (start : Position) → IsStartOf k.playback start
    → MovesSilently stops frames count (here k start))
    (most : furthest ≡ max k.furthest p.moves) where
  abbrev on : SessionView
  on = record k { playback = p; furthest = furthest; failed = false }

  along : (start : Position) → IsStartOf p start
      → KnownTo k.births start furthest × (p.moves < length (all_moments start))
  along start is =
      let old : IsStartOf k.playback start = same_start k.playback p same start is in
      let knows : KnowsUpTo k start = ready.births start old in
      let runs_so = silent start old in
      let both = known_along k.births start (start_past p start is) stops frames runs_so.thread
      count
      k.playback.moves k.furthest furthest ready.behind
      (most ∙ ap (max k.furthest) moves) (knows.known, knows.few) runs_so.silent in
      let fits = both.1 in
      (both.0, omega (arith, moves, fits))

  known_there : (start : Position) → IsStartOf p start → KnowsUpTo on start
  known_there start is =
      let knows : KnowsUpTo k start =
      ready.births start (same_start k.playback p same start is) in
      let known = along start is in
      let few = known.0.1 in
      record {
        known = known.0.0;
        few = known.0.1;
        whole = λ whole.
            let all = knows.whole whole in
            omega (arith, all, few, most);
      }

  noted_silent : HasNoted k.births p.walk.state
  noted_silent =
      let found = starts p.images p.config p.entries in
      let start : Position = found.0 in
      let known = along start found.1 in
      let fits = known.1 in
      let at : Position = position_after p.moves start in
      let place : IsAtPlace p at = stands start found.1 in
      noted_there k.births (take (furthest + 1) (all_moments start)) p.moves at.moment
      p.walk.state p.walk.config.quantum at.moment.world.output at.moment.world.error known.0.0
      (get_front (all_moments start) (furthest + 1) p.moves (omega (arith, most))
      ∙ moment_behind_moves p.moves start (start_past p start found.1) fits)
      (ap (λ (m : Moment). m.world) place.moment)

  pub ready_silent : k.furthest ≤ p.reached → p.moves ≤ p.reached → IsSessionReady on
  ready_silent reach reached = record {
    running = running;
    stands = stands;
    behind = omega (arith, most);
    reach = omega (arith, most, reach, reached);
    births = known_there;
    there = noted_silent;
    told = ready.told;
    images = ready.images;
    names = ready.names;
  }
