-- What the parallel phase of a round ran, by the answers that the round had.
use Rattle.std.proofs.Common.{ℕ, suc, ◌+◌, ◌-◌, ◌≡◌, refl, sym, ap, ap₂, ◌∙◌, le_refl, List, []}
use Rattle.std.proofs.Common.{◌∷◌, ◌++◌, length, append_assoc, Bool, true, false, cond}
use Rattle.std.proofs.Common.{Option, Some, None, arith, eqb-true}
use Rattle.std.specs.Prelude.{drop, map, is_some, Result, Ok, Err, IfErr, OnErr}
use Rattle.std.proofs.lemmas.List.{drop-append-le, drop_all, map-append}
use Rattle.dos_world.specs.Numbered.{places_from}
use Rattle.dos_world.specs.World.{World, Thread, is_state, live_threads, ready_threads}
use Rattle.dos_world.specs.Signals.{signalled, ripen}
use Rattle.dos_world.specs.Play.{Answer, Outcome, Play, done, ask, asks, gives, ◌>>=◌, over}
use Rattle.dos_world.specs.Play.{posts_of}
use Rattle.dos_world.specs.declared.Post.{Post}
use Rattle.dos_world.specs.declared.Question.TheVariants.{Signals as signals_question}
use Rattle.dos_world.specs.declared.Scheme.{Scheme}
use Rattle.dos_world.specs.declared.ThreadState.TheVariants.{Ready}
use Rattle.dos_io.specs.Borders.{BorderState, Crosses, exchanged, exchanges_of}
use Rattle.dos_io.specs.Exchanges.{answer_of}
use Rattle.dos_io.specs.declared.exchange.Exchange.{Exchange}
use Rattle.dos_io.specs.declared.exchange.Exchange.TheVariants.{Signals}
use Rattle.dos_laws.specs.Plays.{world_ended}
use Rattle.kernel_calls.specs.Plays.{Plays, Stopper, StopsIn, by_shim, by_sink, stopper}
use Rattle.kernel_calls.specs.StateWorld.{sent, world_of}
use Rattle.kernel_calls.specs.declared.state.RunStop.{RunStop}
use Rattle.kernel_calls.specs.declared.state.State.{State}
use Rattle.flat_machine.specs.Rest.{serial_of}
use Rattle.flat_machine.specs.Round.{RoundEnd as FlatEnd, went, finished, stalled, is_none_of}
use Rattle.flat_machine.specs.Round.{begun, budgets, counted, phase_of, phases, round_of}
use Rattle.flat_machine.specs.Round.{with_budgets}
use Rattle.group_rounds.specs.Rounds.{answers_since, begun_work, phase_work}

-- ---- the answers that are told more

pub since_more : (told after : List Exchange) (more : List Exchange) → after ≡ told ++ more
    → answers_since told after ≡ map answer_of more
since_more told after more is =
    ap (λ es. map answer_of (drop (length told) es)) is
    ∙ ap (map answer_of) (drop-append-le (length told) told more (le_refl (length told))
    ∙ ap (λ es. es ++ more) (drop_all (length told) told (le_refl (length told))))

pub since_nothing : (told after : List Exchange) → after ≡ told → answers_since told after ≡ []
since_nothing told after is =
    ap (λ es. map answer_of (drop (length told) es)) is
    ∙ ap (map answer_of) (drop_all (length told) told (le_refl (length told)))

-- what holds is so where a call stopped
pub for_err : {T E P : Type 0} (result : Result T E) → P → OnErr result P
for_err (Ok x) h = tt
for_err (Err stop) h = h

-- a play that stopped told more
pub stops_told : {A : Type 0} (q : ℕ) (world : A → World) (play : World → Play A) (by : Stopper)
    (s : State) (before after : BorderState) → StopsIn q world play by s before after
    → (more : List Exchange) × (after.shim.told ≡ before.shim.told ++ more)
stops_told q world play (by_shim why) s before after h =
    (exchanges_of h.crossings, h.tells.exchanges)
stops_told q world play (by_sink stream) s before after h =
    (exchanges_of h.crossings, h.tells.exchanges)

-- ---- a round that has come to its end

-- how many instructions its parallel phase ran
abbrev pub ended_work : FlatEnd → ℕ
ended_work (went next work) = work
ended_work (finished last) = 0
ended_work (stalled last) = 0

some_there : (t : ℕ) (ts : List ℕ) → is_none_of (t ∷ ts) ≡ true → ⊥
some_there t ts none = let is = eqb-true (length (t ∷ ts)) 0 none in omega (arith, is)

-- where nobody lives nobody is ready
none_ready : (n : ℕ) (threads : List (Option Thread))
    → is_none_of (places_from n is_some threads) ≡ true
    → is_none_of (places_from n (is_state Ready) threads) ≡ true
none_ready n [] none = refl
none_ready n (None ∷ threads) none = none_ready (suc n) threads none
none_ready n (Some thread ∷ threads) none =
    absurd (some_there n (places_from (suc n) is_some threads) none)

-- where nobody is ready nothing runs
nothing_runs : (scheme : Scheme) (w : World) (ts : List ℕ) → is_none_of ts ≡ true
    → 0 ≡ budgets (with_budgets w ts) ts - budgets (phase_of scheme (with_budgets w ts)) ts
nothing_runs scheme w [] none = refl
nothing_runs scheme w (t ∷ ts) none = absurd (some_there t ts none)

-- it is what was said before the serial phase
behind_serial : (work : ℕ) (answers rest : List Answer) (play : Play World) (end : FlatEnd)
    → over answers (play >>= λ last. done (went (counted last) work)) ≡ gives end rest
    → ended_work end ≡ work
behind_serial work answers rest (done w) end is =
    sym (ap (λ (x : Outcome FlatEnd). elim x as (λ _. ℕ) [
      | gives end rest ↦ ended_work end
      | asks question output error ↦ work
    ]) is)
behind_serial work [] rest (ask question output error next) end is = absurd cc
behind_serial work (answer ∷ answers) rest (ask question output error next) end is =
    behind_serial work answers rest (next answer) end is

ended_is : (a end : FlatEnd) (answers rest : List Answer)
    → ◌≡◌ {A = Outcome FlatEnd} (gives a answers) (gives end rest) → ended_work a ≡ ended_work end
ended_is a end answers rest is =
    ap (λ (x : Outcome FlatEnd). elim x as (λ _. ℕ) [
      | gives end rest ↦ ended_work end
      | asks question output error ↦ 0
    ]) is

-- behind the signal point
begun_ended : (scheme : Scheme) (w : World) (answers rest : List Answer) (end : FlatEnd)
    → over answers (begun scheme w) ≡ gives end rest → ended_work end ≡ phase_work scheme w
begun_ended scheme w answers rest end is =
    go (is_none_of (live_threads w)) refl (is_none_of (ready_threads w)) refl is
  where
    go : (dead : Bool) → is_none_of (live_threads w) ≡ dead → (idle : Bool)
        → is_none_of (ready_threads w) ≡ idle
        → over answers (cond dead (done (finished w))
        (cond idle (done (stalled w)) (phases scheme w (ready_threads w)))) ≡ gives end rest
        → ended_work end ≡ phase_work scheme w
    go true none idle ready h =
        sym (ended_is (finished w) end answers rest h)
        ∙ nothing_runs scheme w (ready_threads w) (none_ready 1 w.threads none)
    go false some true ready h =
        sym (ended_is (stalled w) end answers rest h)
        ∙ nothing_runs scheme w (ready_threads w) ready
    go false some false ready h =
        behind_serial (phase_work scheme w) answers rest
        (serial_of (phase_of scheme (with_budgets w (ready_threads w))) (ready_threads w)) end h

-- A round that came to its end over all of these answers ran what it had begun.
pub round_ended : (scheme : Scheme) (w : World) (answers : List Answer) (end : FlatEnd)
    → over answers (round_of scheme w) ≡ gives end []
    → ended_work end ≡ begun_work scheme w answers
round_ended scheme w answers end is = go (is_none_of (live_threads w)) answers is
  where
    go : (dead : Bool) (answers : List Answer)
        → over answers (cond dead (done (finished w))
        (ask (signals_question (w.rounds + 1)) w.output w.error
        (λ answer. begun scheme (ripen (signalled w (posts_of answer)))))) ≡ gives end []
        → ended_work end ≡ begun_work scheme w answers
    go true [] h = sym (ended_is (finished w) end [] [] h)
    go true (answer ∷ answers) h = absurd cc
    go false [] h = absurd cc
    go false (answer ∷ answers) h =
        begun_ended scheme (ripen (signalled w (posts_of answer))) answers [] end h

-- ---- a round that has stopped behind its signal point

pub round_until : {T : Type 0} (scheme : Scheme) (q : ℕ) (s s' last : State) (list : List Post)
    (begins : (q : ℕ) (o e : List ℕ)
    → ripen (signalled (sent o e (world_of q s)) list) ≡ sent o e (world_of q s'))
    (play : World → Play FlatEnd) (before asked after : BorderState)
    (crosses : Crosses before (exchanged (Signals s.round list)) asked) (result : Result T RunStop)
    (work : ℕ)
    → IfErr result (λ stop. StopsIn q world_ended play (stopper stop) s' asked after)
    → OnErr result ((o e : List ℕ) → phase_work scheme (sent o e (world_of q s')) ≡ work)
    → OnErr result ((o e : List ℕ)
    → begun_work scheme (sent o e (world_of q s))
    (answers_since before.shim.told after.shim.told) ≡ work)
round_until scheme q s s' last list begins play before asked after crosses (Ok end) work stops
    ran = tt
round_until scheme q s s' last list begins play before asked after crosses (Err stop) work stops
    ran = λ o e.
    let more = stops_told q world_ended play (stopper stop) s' asked after stops in
    ap (begun_work scheme (sent o e (world_of q s)))
    (since_more before.shim.told after.shim.told (Signals s.round list ∷ more.0)
    (more.1 ∙ ap (λ told. told ++ more.0) crosses.tells.exchanges
    ∙ append_assoc before.shim.told (Signals s.round list ∷ []) more.0))
    ∙ ap (phase_work scheme) (begins q o e) ∙ ran o e

-- ---- what a call tells more

pub plays_more : {T A : Type 0} (q : ℕ) (world : A → World) (play : World → Play A)
    (left : T → World → Play A) (result : Result T RunStop) (s s' : State)
    (before after : BorderState) → Plays q world play left result s before s' after
    → (more : List Exchange) × (after.shim.told ≡ before.shim.told ++ more)
plays_more q world play left (Ok x) s s' before after k =
    (exchanges_of k.goes.crossings, k.goes.tells.exchanges)
plays_more q world play left (Err stop) s s' before after k =
    stops_told q world play (stopper stop) s before after k.stops

-- first so, then so
pub since_then : (told between after : List Exchange) (es fs : List Exchange)
    → between ≡ told ++ es → after ≡ between ++ fs
    → answers_since told after ≡ answers_since told between ++ answers_since between after
since_then told between after es fs first then =
    since_more told after (es ++ fs)
    (then ∙ ap (λ es. es ++ fs) first ∙ append_assoc told es fs)
    ∙ map-append answer_of es fs
    ∙ ap₂ (λ x y. x ++ y) (sym (since_more told between es first))
    (sym (since_more between after fs then))
