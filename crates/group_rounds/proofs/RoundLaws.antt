-- A round over the kernel's state, by how far it came.
use Rattle.std.proofs.Common.{ℕ, ◌+◌, ◌-◌, ◌≤◌, ◌≡◌, ◌≢◌, refl, sym, ap, ap₂, ◌∙◌, subst, Bool}
use Rattle.std.proofs.Common.{cond, true, false, List, [], ◌∷◌, ◌++◌, length, append-nil}
use Rattle.std.proofs.Common.{append_assoc, Option}
use Rattle.std.proofs.Common.{Some, None, arith, eq-eqb}
use Rattle.std.specs.Prelude.{Result, Ok, Err, IfOk, option_map, is_some}
use Rattle.std.proofs.lemmas.Bool.{ne_eqb}
use Rattle.dos_world.specs.Numbered.{numbers_of}
use Rattle.dos_world.specs.World.{World, Thread, live_threads, ready_threads, is_state}
use Rattle.dos_world.specs.Signals.{signalled, ripen}
use Rattle.dos_world.specs.Play.{Answer, Play, done, ask, ◌>>=◌, posts_of}
use Rattle.dos_world.specs.declared.Post.{Post}
use Rattle.dos_world.specs.declared.Question.TheVariants.{Signals as signals_question}
use Rattle.dos_world.specs.declared.Scheme.{Scheme}
use Rattle.dos_world.specs.declared.ThreadState.TheVariants.{Ready}
use Rattle.dos_io.specs.declared.exchange.Exchange.{Exchange}
use Rattle.dos_io.specs.declared.exchange.Exchange.TheVariants.{Signals}
use Rattle.dos_io.specs.Borders.{BorderState, Crosses, StopsAt, exchanged, exchanges_of, told_of}
use Rattle.dos_io.specs.declared.shim.ShimStop.{ShimStop}
use Rattle.dos_io.proofs.OutsideLaws.{grown-nothing}
use Rattle.dos_laws.specs.Plays.{world_ended}
use Rattle.dos_laws.proofs.Numbers.{numbers_same}
use Rattle.flat_machine.specs.Rest.{serial_of}
use Rattle.flat_machine.specs.Round.{RoundEnd as FlatEnd, went, finished, stalled, is_none_of}
use Rattle.flat_machine.specs.Round.{begun}
use Rattle.flat_machine.specs.Round.{round_of, phases, counted, with_budgets, with_budget, budgets}
use Rattle.flat_machine.specs.Round.{phase_of}
use Rattle.kernel_calls.specs.Plays.{GoesOver, Plays, PlaysOn, Stopper, StopsIn, stopper}
use Rattle.kernel_calls.specs.StateWorld.{IsSound, sent, shim_stop, world_of}
use Rattle.kernel_calls.specs.declared.state.RunStop.{RunStop}
use Rattle.kernel_calls.proofs.ServicePlays.{stopped_by}
use Rattle.kernel_calls.proofs.Playing.{plays_after, plays_and, plays_behind, plays_still}
use Rattle.kernel_calls.proofs.Playing.{stops_before}
use Rattle.kernel_calls.specs.declared.state.State.{State}
use Rattle.group_rounds.specs.declared.round.RoundEnd.{RoundEnd}
use Rattle.group_rounds.specs.declared.round.RoundEnd.TheVariants.{Went}
use Rattle.worker_pool.specs.Ran.{GrewBy}
use Rattle.group_rounds.specs.Parts.{work_between}
use Rattle.group_rounds.specs.Phases.{ready_in}
use Rattle.group_rounds.specs.Rounds.{AreStarters, end_in, phase_work, work_by, work_in}
use Rattle.group_rounds.specs.Rounds.{rest_of_round}

-- ---- the serial phase, and the round counted behind it

module _ (starters : List ℕ) (halfway last after : State) (before told : BorderState)
    (goes : (q : ℕ) → PlaysOn q (λ w. serial_of w starters) halfway before (λ w. done w) last told)
    (first : 1 ≤ last.round) (count : after ≡ record last { round = last.round + 1 })
    (q work : ℕ) where
  -- what follows the serial phase
  abbrev ended : World → Play FlatEnd
  ended w = done (went (counted w) work)

  counted_is : (o e : List ℕ) → counted (sent o e (world_of q last)) ≡ sent o e (world_of q after)
  counted_is o e =
      let rounds : last.round - 1 + 1 ≡ last.round + 1 - 1 = omega (arith, first) in
      ap (λ n. record (sent o e (world_of q last)) { rounds = n }) rounds
      ∙ ap (λ s. sent o e (world_of q s)) (sym count)

  pub serial_ends : PlaysOn q (λ w. rest_of_round work w starters) halfway before
      (λ w. done (went w work)) after told
  serial_ends =
      plays_and q (λ w. serial_of w starters >>= ended) ended (λ w. done (went w work))
      halfway last after before told told
      (plays_behind q (λ w. serial_of w starters) (λ w. done w) ended halfway last before told
      (goes q))
      (plays_still q ended (λ w. done (went w work)) last after told
      (λ o e. ap (λ w. done (went w work)) (counted_is o e)))

-- where the run stopped in it
pub serial_halts : (starters : List ℕ) (halfway : State) (before after : BorderState) (by : Stopper)
    (q work : ℕ) → StopsIn q (λ w. w) (λ w. serial_of w starters) by halfway before after
    → StopsIn q world_ended (λ w. rest_of_round work w starters) by halfway before after
serial_halts starters halfway before after by q work k =
    stops_before q (λ w. w) world_ended (λ w. serial_of w starters)
    (λ w. done (went (counted w) work)) halfway before after (λ o e w out err. (out, err)) by k

-- ---- the phases

-- a change of budgets leaves who is ready
ready_kept : (w : World) (ts : List ℕ) → ready_threads (with_budgets w ts) ≡ ready_threads w
ready_kept w [] = refl
ready_kept w (t ∷ ts) = ready_kept _ ts ∙ numbers_same _ (is_state Ready) same w.threads t
  where
    same : (o : Option Thread)
        → is_state Ready (option_map (with_budget w.quantum) o) ≡ is_state Ready o
    same None = refl
    same (Some thread) = refl

module _ (quantum : ℕ) (start opening : State) (starters : List ℕ)
    (ready : starters ≡ ready_in start.table.threads)
    (sets : (o e : List ℕ)
    → with_budgets (sent o e (world_of quantum start)) starters
    ≡ sent o e (world_of quantum opening)) where
  -- so with their budgets set these are those that are ready
  pub ready_still : starters ≡ ready_in opening.table.threads
  ready_still = ready ∙ sym (ready_kept (world_of quantum start) starters)
      ∙ ap ready_threads (sets [] [])

module _ (scheme : Scheme) (quantum : ℕ) (start opening halfway : State) (starters : List ℕ)
    (ready : starters ≡ ready_in start.table.threads)
    (sets : (o e : List ℕ)
    → with_budgets (sent o e (world_of quantum start)) starters
    ≡ sent o e (world_of quantum opening))
    (runs : (q : ℕ) (o e : List ℕ)
    → phase_of scheme (sent o e (world_of q opening)) ≡ sent o e (world_of q halfway)) where
  abbrev work : ℕ
  work = work_between opening halfway starters

  -- what follows the serial phase
  abbrev at_last : World → Play FlatEnd
  at_last w = done (went (counted w) work)

  -- what the parallel phase ran
  pub phase_ran : (o e : List ℕ) → phase_work scheme (sent o e (world_of quantum start)) ≡ work
  phase_ran o e =
      ap (λ ts. budgets (with_budgets (sent o e (world_of quantum start)) ts) ts
      - budgets (phase_of scheme (with_budgets (sent o e (world_of quantum start)) ts)) ts)
      (sym ready)
      ∙ ap (λ w. budgets w starters - budgets (phase_of scheme w) starters) (sets o e)
      ∙ ap (λ w. budgets (sent o e (world_of quantum opening)) starters - budgets w starters)
      (runs quantum o e)

  phases_are : (o e : List ℕ)
      → phases scheme (sent o e (world_of quantum start)) starters
      ≡ (serial_of (sent o e (world_of quantum halfway)) starters >>= at_last)
  phases_are o e =
      ap (λ w. serial_of (phase_of scheme w) starters
      >>= λ last.
      done (went (counted last) (budgets w starters - budgets (phase_of scheme w) starters)))
      (sets o e)
      ∙ ap (λ w. serial_of w starters
      >>= λ last. done
      (went (counted last)
      (budgets (sent o e (world_of quantum opening)) starters - budgets w starters)))
      (runs quantum o e)

  pub phases_play : (result : Result RoundEnd RunStop) (after : State) (before told : BorderState)
      → Plays quantum world_ended (λ w. rest_of_round work w starters)
      (λ end w. done (end_in end work w)) result halfway before after told
      → Plays quantum world_ended (λ w. phases scheme w starters)
      (λ end w. done (end_in end work w)) result start before after told
  phases_play result after before told k =
      plays_after quantum world_ended (λ w. phases scheme w starters)
      (λ w. rest_of_round work w starters) (λ end w. done (end_in end work w)) result start halfway
      after before before told
      (plays_still quantum (λ w. phases scheme w starters) (λ w. rest_of_round work w starters)
      start halfway before phases_are) k

-- the tally grew so where the phases were run, and where the run stopped in them
pub grew_so : (result : Result RoundEnd RunStop) (tally tally_after amount : ℕ)
    → IfOk result (λ end. end ≡ Went) → GrewBy tally tally_after amount
    → GrewBy tally tally_after (work_by result amount)
grew_so (Ok end) tally tally_after amount is grew =
    subst (λ end. GrewBy tally tally_after (work_in end amount)) (sym is) grew
grew_so (Err stop) tally tally_after amount is grew = grew

-- ---- what follows the signal point

none_of : (ts : List ℕ) → length ts ≡ 0 → is_none_of ts ≡ true
none_of ts e = eq-eqb (length ts) 0 e

some_of : (ts : List ℕ) → length ts ≢ 0 → is_none_of ts ≡ false
some_of ts e = ne_eqb (length ts) 0 e

-- nobody lives
pub begun_done : (scheme : Scheme) (quantum : ℕ) (s : State) (b : BorderState)
    → length (numbers_of is_some s.table.threads) ≡ 0
    → PlaysOn quantum (λ w. begun scheme w) s b (λ w. done (finished w)) s b
begun_done scheme quantum s b none =
    plays_still quantum (λ w. begun scheme w) (λ w. done (finished w)) s s b
    (λ o e. let w : World = sent o e (world_of quantum s) in
    ap (λ (b : Bool). cond b (done (finished w))
    (cond (is_none_of (ready_threads w)) (done (stalled w))
    (phases scheme w (ready_threads w))))
    (none_of (live_threads w) none))

module _ (scheme : Scheme) (quantum : ℕ) (s : State)
    (live : length (numbers_of is_some s.table.threads) ≢ 0) where
  begun_is : (o e : List ℕ) (b : Bool) → is_none_of (ready_in s.table.threads) ≡ b
      → begun scheme (sent o e (world_of quantum s))
      ≡ cond b (done (stalled (sent o e (world_of quantum s))))
      (phases scheme (sent o e (world_of quantum s)) (ready_in s.table.threads))
  begun_is o e b h =
      let w : World = sent o e (world_of quantum s) in
      ap (λ (b : Bool). cond b (done (finished w))
      (cond (is_none_of (ready_threads w)) (done (stalled w))
      (phases scheme w (ready_threads w)))) (some_of (live_threads w) live)
      ∙ ap (λ (b : Bool). cond b (done (stalled w)) (phases scheme w (ready_threads w))) h

  -- nobody is ready
  pub begun_stalls : (b : BorderState) → length (ready_in s.table.threads) ≡ 0
      → PlaysOn quantum (λ w. begun scheme w) s b (λ w. done (stalled w)) s b
  begun_stalls b none =
      plays_still quantum (λ w. begun scheme w) (λ w. done (stalled w)) s s b
      (λ o e. begun_is o e true (none_of (ready_in s.table.threads) none))

  module _ (starters : List ℕ) (ready : starters ≡ ready_in s.table.threads)
      (some : length starters ≢ 0) where
    pub phases_begin : (o e : List ℕ) → begun scheme (sent o e (world_of quantum s))
        ≡ phases scheme (sent o e (world_of quantum s)) starters
    phases_begin o e =
        begun_is o e false (ap is_none_of (sym ready) ∙ some_of starters some)
        ∙ ap (phases scheme (sent o e (world_of quantum s))) (sym ready)

-- ---- the round

-- where nobody lives nothing is asked
pub round_done : (scheme : Scheme) (quantum : ℕ) (s : State) (b : BorderState)
    → length (numbers_of is_some s.table.threads) ≡ 0
    → PlaysOn quantum (λ w. round_of scheme w) s b (λ w. done (finished w)) s b
round_done scheme quantum s b none =
    plays_still quantum (λ w. round_of scheme w) (λ w. done (finished w)) s s b
    (λ o e. let w : World = sent o e (world_of quantum s) in
    ap (λ (b : Bool). cond b (done (finished w))
    (ask (signals_question (w.rounds + 1)) w.output w.error
    (λ answer. begun scheme (ripen (signalled w (posts_of answer))))))
    (none_of (live_threads w) none))

pub nobody_starts : (s : State) (told : List Exchange) (kept : List ℕ)
    → AreStarters s told told kept kept
nobody_starts s told kept =
    record { exchanges = []; told_is = sym (append-nil told); are = λ q. refl }

module _ (scheme : Scheme) (quantum : ℕ) (s : State) (sound : IsSound s)
    (live : length (numbers_of is_some s.table.threads) ≢ 0) where
  -- what follows the shim's answer
  abbrev begins_on : (o e : List ℕ) → Answer → Play FlatEnd
  begins_on o e answer =
      begun scheme (ripen (signalled (sent o e (world_of quantum s)) (posts_of answer)))

  -- what the shim is asked, and what follows
  abbrev asks_first : (o e : List ℕ) → Play FlatEnd
  asks_first o e = let w : World = sent o e (world_of quantum s) in
      ask (signals_question (w.rounds + 1)) o e (begins_on o e)

  round_asks : (o e : List ℕ) → round_of scheme (sent o e (world_of quantum s)) ≡ asks_first o e
  round_asks o e = let w : World = sent o e (world_of quantum s) in
      ap (λ (b : Bool). cond b (done (finished w)) (asks_first o e)) (some_of (live_threads w) live)

  round_is : s.round - 1 + 1 ≡ s.round
  round_is = let first = sound.counted.round in omega (arith, first)

  -- in this round
  asks_here : (o e : List ℕ) → round_of scheme (sent o e (world_of quantum s))
      ≡ ask (signals_question s.round) o e (begins_on o e)
  asks_here o e = round_asks o e ∙ ap (λ n. ask (signals_question n) o e (begins_on o e)) round_is

  -- the shim stops there
  pub round_stops : (stop : RunStop) (why : ShimStop) (before after : BorderState)
      → shim_stop stop ≡ Some why → StopsAt before (signals_question s.round) why after
      → StopsIn quantum world_ended (λ w. round_of scheme w) (stopper stop) s before after
  round_stops stop why before after is h =
      subst (λ by. StopsIn quantum world_ended (λ w. round_of scheme w) by s before after)
      (sym (stopped_by stop why is)) (record {
        crossings = [];
        tells = record {
          exchanges = h.shim.told ∙ sym (append-nil before.shim.told);
          bytes = λ stream. h.told stream ∙ grown-nothing (told_of stream before);
        };
        fails = record { stops = h.shim.stops; last = h.shim.last; faults = h.faults };
        question = signals_question s.round;
        running = tt;
        asked = h.shim.asked;
        goes = λ o e. (
          begins_on o e,
          asks_here o e
              ∙ ap₂ (λ x y. ask (signals_question s.round) x y (begins_on o e))
              (sym (append-nil o)) (sym (append-nil e)),
        );
      })

  -- or answers, and the round begins after its signal point
  module _ (list : List Post) (s' : State) (begins : (q : ℕ) (o e : List ℕ)
      → ripen (signalled (sent o e (world_of q s)) list) ≡ sent o e (world_of q s'))
      (before asked : BorderState)
      (crosses : Crosses before (exchanged (Signals s.round list)) asked) where
    pub round_begins : PlaysOn quantum (λ w. round_of scheme w) s before (λ w. begun scheme w) s'
        asked
    round_begins = record {
      crossings = exchanged (Signals s.round list) ∷ [];
      tells = crosses.tells;
      stands = crosses.stands;
      running = tt;
      goes = λ o e.
          subst (λ play. GoesOver o e (exchanged (Signals s.round list) ∷ []) play
          (begun scheme (sent (o ++ []) (e ++ []) (world_of quantum s')))) (sym (asks_here o e)) (
            refl,
            refl,
            refl,
            ap (begun scheme) (begins quantum o e)
                ∙ ap₂ (λ x y. begun scheme (sent x y (world_of quantum s'))) (sym (append-nil o))
                (sym (append-nil e)),
          );
    }

    -- which threads are kept
    pub round_began : (kept starters : List ℕ) (left : World → Play FlatEnd)
        (last : State) (after : BorderState) → starters ≡ ready_in s'.table.threads
        → PlaysOn quantum (λ w. begun scheme w) s' asked left last after
        → AreStarters s before.shim.told after.shim.told kept starters
    round_began kept starters left last after ready k = record {
      exchanges = Signals s.round list ∷ exchanges_of k.crossings;
      told_is = k.tells.exchanges ∙ ap (λ told. told ++ exchanges_of k.crossings)
          crosses.tells.exchanges
          ∙ append_assoc before.shim.told (Signals s.round list ∷ []) (exchanges_of k.crossings);
      are = λ q. ready ∙ ap ready_threads (sym (begins q [] []));
    }
