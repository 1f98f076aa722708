-- What rounds one after another have worked, by the answers that they had.
use Rattle.std.proofs.Common.{ℕ, zero, suc, ◌+◌, ◌-◌, ◌≡◌, ◌≤◌, refl, sym, ap, ◌∙◌, subst, arith}
use Rattle.std.proofs.Common.{List, [], ◌++◌, append-nil, append_assoc, Option, None, Some}
use Rattle.std.specs.Prelude.{Bool, true, false, cond, Result, Ok, Err}
use Rattle.dos_world.specs.Signals.{signalled, ripen}
use Rattle.dos_world.specs.World.{World, live_threads}
use Rattle.dos_world.specs.Play.{Answer, Outcome, Play, done, ask, asks, gives, over, posts_of}
use Rattle.dos_world.specs.declared.Config.{Config}
use Rattle.dos_world.specs.declared.Ending.{Ending}
use Rattle.dos_world.specs.declared.Question.TheVariants.{Signals as signals_question}
use Rattle.dos_world.specs.declared.Scheme.{Scheme}
use Rattle.dos_io.specs.Borders.{BorderState, bytes_to, exchanges_of}
use Rattle.dos_io.specs.declared.border.Stream.TheVariants.{Output, Error}
use Rattle.dos_laws.specs.Plays.{world_ended}
use Rattle.flat_machine.specs.Round.{RoundEnd as FlatEnd, went, finished, stalled, is_none_of}
use Rattle.flat_machine.specs.Round.{begun, round, round_of}
use Rattle.kernel_calls.specs.Plays.{PlaysOn, Stopper, StopsIn, by_shim, by_sink}
use Rattle.kernel_calls.specs.StateWorld.{sent, world_of}
use Rattle.kernel_calls.specs.declared.state.RunStop.{RunStop}
use Rattle.kernel_calls.specs.declared.state.State.{State}
use Rattle.group_rounds.specs.Rounds.{answers_since, begun_work, end_in, next_round, work_in}
use Rattle.group_rounds.specs.declared.round.RoundEnd.{RoundEnd}
use Rattle.group_rounds.specs.declared.round.RoundEnd.TheVariants.{Went, Done, Stalled}
use Rattle.group_rounds.proofs.PlayLaws.{goes-exchanges, goes-over, goes-over_more}
use Rattle.group_rounds.proofs.WorkLaws.{round_ended, since_more}
use Rattle.dpg_run.specs.GroupRuns.{ending_by}
use Rattle.dpg_run.specs.Work.{HasWorked, rounds_work, work_from}

-- what so many rounds work whose first comes to this, and has begun so much
abbrev by_round : Scheme → (left begun : ℕ) → Outcome FlatEnd → ℕ
by_round scheme left begun x = elim x as (λ _. ℕ) [
  | gives end rest ↦ elim end as (λ _. ℕ) [
    | went next work ↦ work + rounds_work scheme left next rest
    | finished last ↦ 0
    | stalled last ↦ 0
  ]
  | asks question output error ↦ begun
]

-- without answers no phase begins
nothing_worked : (scheme : Scheme) (n : ℕ) (w : World) → rounds_work scheme n w [] ≡ 0
nothing_worked scheme zero w = refl
nothing_worked scheme (suc n) w = go (is_none_of (live_threads w))
  where
    go : (dead : Bool) → by_round scheme n 0 (over [] (cond dead (done (finished w))
        (ask (signals_question (w.rounds + 1)) w.output w.error
        (λ answer. begun scheme (ripen (signalled w (posts_of answer))))))) ≡ 0
    go true = refl
    go false = refl

-- A round that was cut off worked what it had begun, wherever it goes on to.
cut_worked : (scheme : Scheme) (n : ℕ) (w : World) (answers : List Answer) (left : Play FlatEnd)
    → over answers (round_of scheme w) ≡ over [] left
    → by_round scheme n (begun_work scheme w answers) (over answers (round_of scheme w))
    ≡ begun_work scheme w answers
cut_worked scheme n w answers (done (went next work)) is =
    ap (by_round scheme n (begun_work scheme w answers)) is
    ∙ ap (λ more. work + more) (nothing_worked scheme n next)
    ∙ (let n : work + 0 ≡ work = omega arith in n)
    ∙ round_ended scheme w answers (went next work) is
cut_worked scheme n w answers (done (finished last)) is =
    ap (by_round scheme n (begun_work scheme w answers)) is
    ∙ round_ended scheme w answers (finished last) is
cut_worked scheme n w answers (done (stalled last)) is =
    ap (by_round scheme n (begun_work scheme w answers)) is
    ∙ round_ended scheme w answers (stalled last) is
cut_worked scheme n w answers (ask question output error next) is =
    ap (by_round scheme n (begun_work scheme w answers)) is

module _ (config : Config) (s : State) (first : 1 ≤ s.round) (allowed : s.round ≤ config.rounds)
  where
    -- the world with these bytes sent
    abbrev here : (o e : List ℕ) → World
    here o e = sent o e (world_of config.quantum s)

    -- a round is left
    one_left : (o e : List ℕ) (answers : List Answer) → work_from (here o e) config answers
        ≡ by_round config.scheme (config.rounds - s.round)
        (begun_work config.scheme (here o e) answers)
        (over answers (round_of config.scheme (here o e)))
    one_left o e answers =
        ap (λ n. rounds_work config.scheme n (here o e) answers)
        (let n : config.rounds - (s.round - 1) ≡ suc (config.rounds - s.round) =
        omega (arith, first, allowed) in n)

    module _ (s' : State) (told after : BorderState) where
      -- the round came to its end
      pub round_worked : (so : RoundEnd) (ended : Option Ending) (more : ℕ) → ending_by so ≡ ended
          → s'.round ≡ next_round so s.round
          → PlaysOn config.quantum (λ w. round_of config.scheme w) s told
          (λ w. done (end_in so more w)) s' after
          → (o e : List ℕ)
          → HasWorked config (Ok ended) (answers_since told.shim.told after.shim.told) (here o e) s'
          (work_in so more)
      round_worked so ended more is round h o e =
          subst (λ x. HasWorked config (Ok x) (answers_since told.shim.told after.shim.told)
          (here o e) s' (work_in so more)) is (by_end so round h)
        where
          over_is : (k : RoundEnd) (h : PlaysOn config.quantum (λ w. round_of config.scheme w) s
              told (λ w. done (end_in k more w)) s' after) (rest : List Answer)
              → over (answers_since told.shim.told after.shim.told ++ rest)
              (round_of config.scheme (here o e))
              ≡ gives (end_in k more (sent (o ++ bytes_to Output h.crossings)
              (e ++ bytes_to Error h.crossings) (world_of config.quantum s'))) rest
          over_is k h rest =
              ap (λ answers. over (answers ++ rest) (round_of config.scheme (here o e)))
              (since_more told.shim.told after.shim.told (exchanges_of h.crossings)
              h.tells.exchanges)
              ∙ goes-over_more (exchanges_of h.crossings) rest (round_of config.scheme (here o e)) _
              (goes-exchanges o e h.crossings (round_of config.scheme (here o e)) _ (h.goes o e))

          ends : (k : RoundEnd) (h : PlaysOn config.quantum (λ w. round_of config.scheme w) s told
              (λ w. done (end_in k more w)) s' after)
              → over (answers_since told.shim.told after.shim.told)
              (round_of config.scheme (here o e))
              ≡ gives (end_in k more (sent (o ++ bytes_to Output h.crossings)
              (e ++ bytes_to Error h.crossings) (world_of config.quantum s'))) []
          ends k h =
              ap (λ answers. over answers (round_of config.scheme (here o e)))
              (sym (append-nil (answers_since told.shim.told after.shim.told))) ∙ over_is k h []

          by_end : (k : RoundEnd) → s'.round ≡ next_round k s.round
              → PlaysOn config.quantum (λ w. round_of config.scheme w) s told
              (λ w. done (end_in k more w)) s' after
              → HasWorked config (Ok (ending_by k)) (answers_since told.shim.told after.shim.told)
              (here o e) s' (work_in k more)
          by_end Went round h = (
            o ++ bytes_to Output h.crossings,
            e ++ bytes_to Error h.crossings,
            λ rest. one_left o e (answers_since told.shim.told after.shim.told ++ rest)
                ∙ ap (by_round config.scheme (config.rounds - s.round) _) (over_is Went h rest)
                ∙ ap (λ n. more + rounds_work config.scheme n
                (sent (o ++ bytes_to Output h.crossings) (e ++ bytes_to Error h.crossings)
                (world_of config.quantum s')) rest)
                (let n : config.rounds - s.round ≡ config.rounds - (s'.round - 1) =
                omega (arith, round) in n),
          )
          by_end Done round h =
              one_left o e (answers_since told.shim.told after.shim.told)
              ∙ ap (by_round config.scheme (config.rounds - s.round) _) (ends Done h)
          by_end Stalled round h =
              one_left o e (answers_since told.shim.told after.shim.told)
              ∙ ap (by_round config.scheme (config.rounds - s.round) _) (ends Stalled h)

      -- or stopped
      pub stop_worked : (by : Stopper) (work : ℕ)
          → StopsIn config.quantum world_ended (λ w. round_of config.scheme w) by s told after
          → ((o e : List ℕ)
          → begun_work config.scheme (here o e) (answers_since told.shim.told after.shim.told)
          ≡ work)
          → (o e : List ℕ)
          → work_from (here o e) config (answers_since told.shim.told after.shim.told) ≡ work
      stop_worked (by_shim why) work h ran o e =
          one_left o e (answers_since told.shim.told after.shim.told)
          ∙ ap (by_round config.scheme (config.rounds - s.round)
          (begun_work config.scheme (here o e) (answers_since told.shim.told after.shim.told)))
          (ap (λ answers. over answers (round_of config.scheme (here o e)))
          (since_more told.shim.told after.shim.told (exchanges_of h.crossings) h.tells.exchanges)
          ∙ goes-over (exchanges_of h.crossings) (round_of config.scheme (here o e)) _
          (goes-exchanges o e h.crossings (round_of config.scheme (here o e)) _ (h.goes o e).1))
          ∙ ran o e
      stop_worked (by_sink stream) work h ran o e =
          one_left o e (answers_since told.shim.told after.shim.told)
          ∙ cut_worked config.scheme (config.rounds - s.round) (here o e)
          (answers_since told.shim.told after.shim.told) (h.goes o e).0
          (ap (λ answers. over answers (round_of config.scheme (here o e)))
          (since_more told.shim.told after.shim.told (exchanges_of h.crossings) h.tells.exchanges)
          ∙ goes-over (exchanges_of h.crossings) (round_of config.scheme (here o e)) _
          (goes-exchanges o e h.crossings (round_of config.scheme (here o e)) _ (h.goes o e).1))
          ∙ ran o e

-- ---- first so, then so

pub both_worked : (config : Config) (result : Result (Option Ending) RunStop) (s' s'' : State)
    (first then : List Answer) (w : World) (work more : ℕ)
    → HasWorked config (Ok None) first w s' work
    → ((o e : List ℕ) → HasWorked config result then (sent o e (world_of config.quantum s')) s''
    more)
    → HasWorked config result (first ++ then) w s'' (work + more)
both_worked config (Ok None) s' s'' first then w work more h k =
    let next = k h.0 h.1 in (
      next.0,
      next.1,
      λ rest. ap (work_from w config) (append_assoc first then rest) ∙ h.2 (then ++ rest)
          ∙ ap (λ n. work + n) (next.2 rest)
          ∙ (let n : (a : ℕ) → work + (more + a) ≡ work + more + a = λ a. omega arith in n _),
    )
both_worked config (Ok (Some ending)) s' s'' first then w work more h k =
    h.2 then ∙ ap (λ n. work + n) (k h.0 h.1)
both_worked config (Err stop) s' s'' first then w work more h k =
    h.2 then ∙ ap (λ n. work + n) (k h.0 h.1)

-- a call that hasn't stopped ran all that its answers have
pub worked_so_far : (config : Config) (ended : Option Ending) (answers : List Answer) (w : World)
    (s' : State) (work : ℕ) → HasWorked config (Ok ended) answers w s' work
    → work_from w config answers ≡ work
worked_so_far config None answers w s' work h =
    ap (work_from w config) (sym (append-nil answers)) ∙ h.2 []
    ∙ ap (λ n. work + n) (nothing_worked config.scheme (config.rounds
    - (sent h.0 h.1 (world_of config.quantum s')).rounds)
    (sent h.0 h.1 (world_of config.quantum s')))
    ∙ (let n : work + 0 ≡ work = omega arith in n)
worked_so_far config (Some ending) answers w s' work h = h
