-- Rounds of the kernel one after another, and the end that the shim is told.
use Rattle.std.proofs.Common.{ℕ, suc, ◌+◌, ◌-◌, ◌≡◌, refl, sym, ap, ap₂, ◌∙◌, subst, List, [], ◌∷◌}
use Rattle.std.proofs.Common.{◌++◌, length, append-nil, append_assoc, ◌≤◌, ◌<◌, Option, None, Some}
use Rattle.std.proofs.Common.{arith}
use Rattle.std.specs.Prelude.{◌==◌, Bool, true, false, not, map, is_some, if◌then◌else◌, Err, Ok}
use Rattle.std.specs.Prelude.{Result}
use Rattle.std.specs.Prelude.{MatchBool, OnOk, OnSome}
use Rattle.std.proofs.lemmas.List.{map-append}
use Rattle.dos_world.specs.Numbered.{numbers_of}
use Rattle.dos_world.specs.World.{World}
use Rattle.dos_world.specs.Play.{Play, Answer, Outcome, done, ask, asks, ◌>>=◌, over, questions}
use Rattle.dos_world.specs.Play.{gives, posts}
use Rattle.dos_world.specs.declared.Config.{Config}
use Rattle.dos_world.specs.declared.Ending.{Ending}
use Rattle.dos_world.specs.declared.Ending.TheVariants.{Done as done_ending, Limit as limit_ending}
use Rattle.dos_world.specs.declared.Ending.TheVariants.{Stalled as stalled_ending}
use Rattle.dos_world.specs.declared.Question.{Question}
use Rattle.dos_world.specs.declared.Question.TheVariants.{End as end_question}
use Rattle.dos_world.specs.declared.Scheme.{Scheme}
use Rattle.dos_io.specs.declared.exchange.Exchange.TheVariants.{End}
use Rattle.dos_io.specs.Exchanges.{question_of, answer_of}
use Rattle.dos_laws.specs.Plays.{world_ended}
use Rattle.round_core.proofs.Allowed.{allows_less}
use Rattle.flat_machine.specs.Round.{RoundEnd as FlatEnd, went, finished, stalled, round_of}
use Rattle.dos_io.specs.declared.shim.ShimStop.{ShimStop}
use Rattle.kernel_calls.specs.StateWorld.{world_of, sent, shim_stop}
use Rattle.kernel_calls.specs.declared.state.RunStop.{RunStop}
use Rattle.kernel_calls.specs.declared.state.State.{State}
use Rattle.group_rounds.specs.Plays.{GoesOn}
use Rattle.group_rounds.specs.StatePlays.{Telling, told_at}
use Rattle.group_rounds.specs.Outside.{is_end_question}
use Rattle.group_rounds.specs.Kernels.{IsBetweenRounds}
use Rattle.group_rounds.specs.Rounds.{answers_since, begun_work, end_in, next_round, work_by}
use Rattle.group_rounds.specs.Rounds.{work_in}
use Rattle.group_rounds.specs.declared.round.RoundEnd.{RoundEnd}
use Rattle.group_rounds.specs.declared.round.RoundEnd.TheVariants.{Went, Done, Stalled}
use Rattle.group_rounds.proofs.PlayLaws.{goes-append, goes-exchanges, goes-then, goes-over}
use Rattle.group_rounds.proofs.PlayLaws.{goes-over_more}
use Rattle.group_rounds.proofs.PlayLaws.{goes-questions}
use Rattle.group_rounds.proofs.StatePlayLaws.{told_more, told_so}
use Rattle.kernel_calls.specs.Plays.{AreFrontsOf, GoesOver, Plays, PlaysOn, Stopper, StopsAsking}
use Rattle.kernel_calls.specs.Plays.{StopsIn, by_shim, by_sink, stopper}
use Rattle.kernel_calls.proofs.Playing.{SendsBehind, over-append, over-then}
use Rattle.kernel_calls.proofs.Playing.{bytes_behind, plays_after, plays_and, plays_before}
use Rattle.kernel_calls.proofs.Playing.{tells_then}
use Rattle.kernel_calls.specs.Plays.{sent_then}
use Rattle.kernel_calls.proofs.ServicePlays.{tells_nothing}
use Rattle.kernel_calls.proofs.Playing.{plays_from, plays_still}
use Rattle.dos_io.specs.Borders.{BorderState, Crossing, Tells, bytes_to, exchanges_of}
use Rattle.dos_io.specs.declared.border.Stream.TheVariants.{Output, Error}
use Rattle.dos_io.proofs.OutsideLaws.{front-whole}
use Rattle.group_rounds.proofs.PlayCauses.{asks_before_end, by_question, causes_err, fails_of}
use Rattle.group_rounds.proofs.WorkLaws.{plays_more, since_more, since_nothing, since_then}
use Rattle.group_rounds.proofs.FrontLaws.{HasSent, fronts_buffered, fronts_kept, fronts_over}
use Rattle.group_rounds.proofs.FrontLaws.{sending}
use Rattle.worker_pool.specs.Ran.{GrewBy}
use Rattle.worker_pool.proofs.Growing.{grew-more, grew-nothing}
use Rattle.flat_machine.specs.Machine.{Finish, rounds_of, rounds_from, told_end, run_from}
use Rattle.flat_machine.specs.Machine.{result_of}
use Rattle.dpg_run.proofs.SteadySinks.{err_stands, out_stands}
use Rattle.dpg_run.specs.Laws.{LeavesFinish, RunOwes}
use Rattle.dpg_run.proofs.RunKeeps.{rounds_keep}
use Rattle.dpg_run.specs.GroupRuns.{AreFronts, CutGroup, PlaysNext, PlaysRounds, PlaysSome}
use Rattle.dpg_run.specs.GroupRuns.{IsCountedIn, RanRounds, RanGroup, RunsGroup, StoppedGroup}
use Rattle.dpg_run.specs.GroupRuns.{end_by, ending_by, finish_in, has_failed, left_of_run}
use Rattle.dpg_run.specs.GroupRuns.{limited_by, rounds_left}
use Rattle.dpg_run.specs.Work.{HasWorked, rounds_work, work_from}
use Rattle.dpg_run.proofs.Worked.{both_worked, round_worked, stop_worked, worked_so_far}
use Rattle.dpg_run.specs.Reaching.{RunsToQuestion, HasRunOn, RanTo, RunsOn}
use Rattle.dos_io.specs.Shims.{HasNoEnd}
use Rattle.dos_io.specs.declared.exchange.Exchange.{Exchange}

-- ---- fronts

-- of what is seen of a run
seen_fronts : (o e : List ℕ) (asked : List Question) (x : Outcome Finish)
    → AreFrontsOf (λ finish. finish.world) o e x → AreFronts o e (result_of asked x)
seen_fronts o e asked (gives finish rest) h = h
seen_fronts o e asked (asks question output error) h = h

-- of what the rounds that are left send, over any answers
module _ (o e : List ℕ) where
  owes : (limit : ℕ) → RunOwes (sending o e) limit (λ n. HasSent o e)
  owes limit = record {
    round_kept = λ n. fronts_kept o e;
    buffered_kept = λ n. fronts_buffered o e;
    may_ask = λ n m w k. k;
    counted_kept = λ n w lt k. k;
  }

  fronts_rounds : (scheme : Scheme) (left work : ℕ) (w : World) (more : List Answer)
      → HasSent o e [] w
      → AreFrontsOf (λ finish. finish.world) o e (over more (rounds_of scheme left w work))
  fronts_rounds scheme left work w more h =
      fronts_over o e (λ finish. finish.world) more (rounds_of scheme left w work)
      (allows_less (sending o e) (LeavesFinish left (λ n. HasSent o e))
      (λ finish. HasSent o e [] finish.world) (rounds_of scheme left w work)
      (λ finish left. left.2)
      (rounds_keep (sending o e) left (λ n. HasSent o e) (owes left) scheme left 0 w work
      (omega arith) h))

-- ---- one round

pub with_nothing : (n : ℕ) → n + 0 ≡ n
with_nothing n = omega arith

plus_nothing : (n : ℕ) → n ≡ 0 + n
plus_nothing n = omega arith

-- what follows a round, with so many left and after so much work
abbrev after_round : Scheme → ℕ → ℕ → FlatEnd → Play Finish
after_round scheme left work (went next more) = rounds_of scheme left next (work + more)
after_round scheme left work (finished last) = done (finish_in done_ending last work)
after_round scheme left work (stalled last) = done (finish_in stalled_ending last work)

-- is what is left of the run
behind_round : (config : Config) (left work : ℕ) (so : RoundEnd) (ended : Option Ending) (more : ℕ)
    (last : World) → ending_by so ≡ ended → (so ≡ Went → config.rounds - last.rounds ≡ left)
    → after_round config.scheme left work (end_in so more last)
    ≡ left_of_run config ended (work + work_in so more) last
behind_round config left work Went ended more last is rounds =
    ap (λ n. rounds_of config.scheme n last (work + more)) (sym (rounds refl))
    ∙ ap (λ e. left_of_run config e (work + more) last) is
behind_round config left work Done ended more last is rounds =
    ap (λ n. done (finish_in done_ending last n)) (sym (with_nothing work))
    ∙ ap (λ e. left_of_run config e (work + 0) last) is
behind_round config left work Stalled ended more last is rounds =
    ap (λ n. done (finish_in stalled_ending last n)) (sym (with_nothing work))
    ∙ ap (λ e. left_of_run config e (work + 0) last) is

-- what follows a round sends its bytes behind those that were sent
after_behind : (scheme : Scheme) (left work : ℕ)
    → SendsBehind world_ended (λ (finish : Finish). finish.world) (after_round scheme left work)
after_behind scheme left work o e (went next more) out err =
    fronts_rounds o e scheme left (work + more) next [] (out, err)
after_behind scheme left work o e (finished last) out err = (out, err)
after_behind scheme left work o e (stalled last) out err = (out, err)

-- one round that is run leaves one less
one_less : (rounds round now : ℕ) (so : RoundEnd) → now ≡ next_round so round → so ≡ Went
    → rounds - (now - 1) ≡ rounds - round
one_less rounds round now Went is ran = omega (arith, is)
one_less rounds round now Done is ran = absurd cc
one_less rounds round now Stalled is ran = absurd cc

-- the end of a round by that of the run
end_is : (so : RoundEnd) (ended : Option Ending) → ending_by so ≡ ended → so ≡ end_by ended
end_is Went ended is = ap end_by is
end_is Done ended is = ap end_by is
end_is Stalled ended is = ap end_by is

pub next_ok : (config : Config) (s s' : State) (told after : BorderState) (so : RoundEnd)
    (ended : Option Ending) (more : ℕ) → ending_by so ≡ ended
    → PlaysOn config.quantum (λ w. round_of config.scheme w) s told
    (λ w. done (end_in so more w)) s' after
    → PlaysNext config (Ok ended) s told s' after
next_ok config s s' told after so ended more is h = record {
  work = more;
  plays = record {
    goes = subst (λ x. PlaysOn config.quantum (λ w. round_of config.scheme w) s told
        (λ w. done (end_in x more w)) s' after)
        (end_is so ended is) h;
    stops = tt;
  };
}

pub next_err : (config : Config) (s s' : State) (told after : BorderState) (stop : RunStop)
    (more : ℕ)
    → Plays config.quantum world_ended (λ w. round_of config.scheme w)
    (λ (end : RoundEnd) w. done (end_in end more w)) (Err stop) s told s' after
    → PlaysNext config (Err stop) s told s' after
next_err config s s' told after stop more k =
    record { work = more; plays = record { goes = tt; stops = k.stops } }

pub next_numbered : (round now : ℕ) (so : RoundEnd) (ended : Option Ending) → ending_by so ≡ ended
    → now ≡ next_round so round → now ≡ next_round (end_by ended) round
next_numbered round now so ended is counted =
    counted ∙ ap (λ end. next_round end round) (end_is so ended is)

module _ (config : Config) (s s' : State) (told after : BorderState) (tally tally_after : ℕ)
    (first : 1 ≤ s.round) (allowed : s.round ≤ config.rounds) where
  -- a round is left
  begins : (earlier : ℕ) (o e : List ℕ)
      → rounds_left config earlier (sent o e (world_of config.quantum s))
      ≡ rounds_of config.scheme (suc (config.rounds - s.round))
      (sent o e (world_of config.quantum s)) earlier
  begins earlier o e =
      ap (λ n. rounds_of config.scheme n (sent o e (world_of config.quantum s)) earlier)
      (let n : config.rounds - (s.round - 1) ≡ suc (config.rounds - s.round) =
      omega (arith, first, allowed) in n)

  -- and what the rounds play, as it is run
  left_plays : (result : Result RoundEnd RunStop) (earlier more : ℕ)
      → Plays config.quantum world_ended (λ w. round_of config.scheme w)
      (λ end w. done (end_in end more w)) result s told s' after
      → Plays config.quantum (λ finish. finish.world) (λ w. rounds_left config earlier w)
      (λ end w. after_round config.scheme (config.rounds - s.round) earlier (end_in end more w))
      result s told s' after
  left_plays result earlier more k =
      plays_from config.quantum (λ finish. finish.world) (λ w. rounds_left config earlier w)
      (λ w. rounds_of config.scheme (suc (config.rounds - s.round)) w earlier)
      (λ end w. after_round config.scheme (config.rounds - s.round) earlier (end_in end more w))
      result s s' told after (begins earlier)
      (plays_before config.quantum world_ended (λ finish. finish.world)
      (λ w. round_of config.scheme w)
      (after_round config.scheme (config.rounds - s.round) earlier)
      (λ end w. done (end_in end more w)) result s s' told after
      (after_behind config.scheme (config.rounds - s.round) earlier) k)

  pub some_ok : (so : RoundEnd) (ended : Option Ending) (more : ℕ) → ending_by so ≡ ended
      → s'.round ≡ next_round so s.round
      → PlaysOn config.quantum (λ w. round_of config.scheme w) s told
      (λ w. done (end_in so more w)) s' after
      → GrewBy tally tally_after (work_by (Ok so) more)
      → PlaysSome config (Ok ended) s told s' after tally tally_after
  some_ok so ended more is round h grew = record {
    work = work_in so more;
    plays = λ earlier. record {
      goes = plays_and config.quantum (λ w. rounds_left config earlier w)
          (λ w. after_round config.scheme (config.rounds - s.round) earlier (end_in so more w))
          (λ w. left_of_run config ended (earlier + work_in so more) w) s s' s' told after after
          (left_plays (Ok so) earlier more (record { goes = h; stops = tt })).goes
          (plays_still config.quantum
          (λ w. after_round config.scheme (config.rounds - s.round) earlier (end_in so more w))
          (λ w. left_of_run config ended (earlier + work_in so more) w) s' s' after
          (λ o e. behind_round config (config.rounds - s.round) earlier so ended more
          (sent o e (world_of config.quantum s')) is
          (one_less config.rounds s.round s'.round so round)));
      stops = tt;
    };
    worked = round_worked config s first allowed s' told after so ended more is round h;
    grew = grew;
  }

  pub some_err : (stop : RunStop) (more : ℕ)
      → Plays config.quantum world_ended (λ w. round_of config.scheme w)
      (λ (end : RoundEnd) w. done (end_in end more w)) (Err stop) s told s' after
      → ((o e : List ℕ) → begun_work config.scheme (sent o e (world_of config.quantum s))
      (answers_since told.shim.told after.shim.told) ≡ more)
      → GrewBy tally tally_after more
      → PlaysSome config (Err stop) s told s' after tally tally_after
  some_err stop more k ran grew = record {
    work = more;
    plays = λ earlier. record { goes = tt; stops = (left_plays (Err stop) earlier more k).stops };
    worked = stop_worked config s first allowed s' told after (stopper stop) more k.stops ran;
    grew = grew;
  }

-- ---- some rounds

pub some_none : (config : Config) (s : State) (b : BorderState) (tally : ℕ)
    → PlaysSome config (Ok None) s b s b tally tally
some_none config s b tally = record {
  work = 0;
  plays = λ earlier. record {
    goes = plays_still config.quantum (λ w. rounds_left config earlier w)
        (λ w. rounds_left config (earlier + 0) w) s s b
        (λ o e. ap (λ n. rounds_left config n (sent o e (world_of config.quantum s)))
        (sym (with_nothing earlier)));
    stops = tt;
  };
  worked = λ o e. (
    o,
    e,
    λ more. ap (λ answers. work_from (sent o e (world_of config.quantum s)) config
        (answers ++ more)) (since_nothing b.shim.told b.shim.told refl)
        ∙ plus_nothing (work_from (sent o e (world_of config.quantum s)) config more),
  );
  grew = grew-nothing tally;
}

-- no round is left
pub some_over : (config : Config) (s : State) (b : BorderState) (tally : ℕ) (ending : Ending)
    → config.rounds ≤ s.round - 1
    → ending ≡ (if length
    (numbers_of is_some s.table.threads) == 0 then done_ending else limit_ending)
    → PlaysSome config (Ok (Some ending)) s b s b tally tally
some_over config s b tally ending past is = record {
  work = 0;
  plays = λ earlier. record {
    goes = plays_still config.quantum (λ w. rounds_left config earlier w)
        (λ w. done (finish_in ending w (earlier + 0))) s s b
        (λ o e. ap (λ n. rounds_of config.scheme n (sent o e (world_of config.quantum s)) earlier)
        (let n : config.rounds - (s.round - 1) ≡ 0 = omega (arith, past) in n)
        ∙ ap (λ n. rounds_of config.scheme 0 (sent o e (world_of config.quantum s)) n)
        (sym (with_nothing earlier))
        ∙ ap (λ end. done (finish_in end (sent o e (world_of config.quantum s)) (earlier + 0)))
        (sym is));
    stops = tt;
  };
  worked = λ o e. ap (λ n. rounds_work config.scheme n (sent o e (world_of config.quantum s))
      (answers_since b.shim.told b.shim.told))
      (let n : config.rounds - (s.round - 1) ≡ 0 = omega (arith, past) in n);
  grew = grew-nothing tally;
}

-- first so, then so
both_some : (config : Config) (result : Result (Option Ending) RunStop) (s s' s'' : State)
    (b b' b'' : BorderState) (t t' t'' : ℕ) → PlaysSome config (Ok None) s b s' b' t t'
    → PlaysSome config result s' b' s'' b'' t' t'' → PlaysSome config result s b s'' b'' t t''
both_some config result s s' s'' b b' b'' t t' t'' h k = record {
  work = h.work + k.work;
  plays = λ earlier.
      plays_after config.quantum (λ finish. finish.world) (λ w. rounds_left config earlier w)
      (λ w. rounds_left config (earlier + h.work) w)
      (λ ended w. left_of_run config ended (earlier + (h.work + k.work)) w) result s s' s'' b b' b''
      (h.plays earlier).goes
      (subst (λ n. Plays config.quantum (λ finish. finish.world)
      (λ w. rounds_left config (earlier + h.work) w) (λ ended w. left_of_run config ended n w)
      result
      s' b' s'' b'')
      (let n : (earlier + h.work) + k.work ≡ earlier + (h.work + k.work) = omega arith in n)
      (k.plays (earlier + h.work)));
  worked = λ o e.
      let told = plays_more config.quantum (λ finish. finish.world) (λ w. rounds_left config 0 w)
      (λ ended w. left_of_run config ended (0 + h.work) w) (Ok None) s s' b b' (h.plays 0) in
      let more = plays_more config.quantum (λ finish. finish.world) (λ w. rounds_left config 0 w)
      (λ ended w. left_of_run config ended (0 + k.work) w) result s' s'' b' b'' (k.plays 0) in
      subst (λ answers. HasWorked config result answers (sent o e (world_of config.quantum s)) s''
      (h.work + k.work))
      (sym (since_then b.shim.told b'.shim.told b''.shim.told told.0 more.0 told.1 more.1))
      (both_worked config result s' s'' (answers_since b.shim.told b'.shim.told)
      (answers_since b'.shim.told b''.shim.told) (sent o e (world_of config.quantum s)) h.work
      k.work (h.worked o e) k.worked);
  grew = grew-more t t' t'' h.work k.work h.grew k.grew;
}

-- under the configuration with which the first began
pub some_then : (config here : Config) (result : Result (Option Ending) RunStop) (s s' s'' : State)
    (b b' b'' : BorderState) (t t' t'' : ℕ) → here ≡ config
    → PlaysSome config (Ok None) s b s' b' t t' → PlaysSome here result s' b' s'' b'' t' t''
    → PlaysSome config result s b s'' b'' t t''
some_then config here result s s' s'' b b' b'' t t' t'' same h k =
    both_some config result s s' s'' b b' b'' t t' t'' h
    (subst (λ (c : Config). PlaysSome c result s' b' s'' b'' t' t'') same k)

-- the same under a limit
pub limited_then : (limit : ℕ) (config here : Config) (result : Result (Option Ending) RunStop)
    (s s' s'' : State) (b b' b'' : BorderState) (t t' t'' : ℕ) → here ≡ config
    → PlaysSome (limited_by limit config) (Ok None) s b s' b' t t'
    → PlaysSome (limited_by limit here) result s' b' s'' b'' t' t''
    → PlaysSome (limited_by limit config) result s b s'' b'' t t''
limited_then limit config here result s s' s'' b b' b'' t t' t'' same h k =
    some_then (limited_by limit config) (limited_by limit here) result s s' s'' b b' b'' t t' t''
    (ap (limited_by limit) same) h k

-- so many more are counted
pub counted_more : (ended : Option Ending) (rounds start round now : ℕ) → ended ≡ None
    → round ≡ start + rounds → IsCountedIn ended 1 round now → now ≡ start + (rounds + 1)
counted_more None rounds start round now is before one = omega (arith, before, one)
counted_more (Some ending) rounds start round now is before one = absurd cc

-- a kernel's state, as it was read
pub between_here : (s read : State) (config : Config) → read ≡ s → IsBetweenRounds read config
    → IsBetweenRounds s config
between_here s read config is h = subst (λ (x : State). IsBetweenRounds x config) is h

-- what is known where a test is true, or false
pub where_true : (test : Bool) (P Q : Type 0) → test ≡ true → MatchBool test P Q → P
where_true true P Q is h = h
where_true false P Q is h = absurd cc

pub where_false : (test : Bool) (P Q : Type 0) → test ≡ false → MatchBool test P Q → Q
where_false true P Q is h = absurd cc
where_false false P Q is h = h

-- a round is counted as one
pub counted_one : (ended : Option Ending) (round now : ℕ)
    → now ≡ next_round (end_by ended) round → IsCountedIn ended 1 round now
counted_one None round now is = is
counted_one (Some done_ending) round now is = omega (arith, is)
counted_one (Some limit_ending) round now is = omega (arith, is)
counted_one (Some stalled_ending) round now is = omega (arith, is)

-- where it ended, fewer are than there were to be
pub counted_fewer : (ended : Option Ending) (ending : Ending) (i rounds start round now : ℕ)
    → ended ≡ Some ending → round ≡ start + i → i < rounds → IsCountedIn ended 1 round now
    → now < start + rounds
counted_fewer None ending i rounds start round now is before less one = absurd cc
counted_fewer (Some other) ending i rounds start round now is before less one =
    omega (arith, before, less, one)

-- the rounds have come to this
pub some_as : (config : Config) (s s' : State) (b b' : BorderState) (t t' : ℕ)
    (ended is : Option Ending) → ended ≡ is → PlaysSome config (Ok ended) s b s' b' t t'
    → PlaysSome config (Ok is) s b s' b' t t'
some_as config s s' b b' t t' ended is same h =
    subst (λ (x : Option Ending). PlaysSome config (Ok x) s b s' b' t t') same h

-- so many rounds more are counted where the run goes on
pub counted_none : (ended : Option Ending) (rounds start now : ℕ) → ended ≡ None
    → IsCountedIn ended rounds start now → now ≡ start + rounds
counted_none None rounds start now is counted = counted
counted_none (Some ending) rounds start now is counted = absurd cc

-- ---- all rounds

pub all_ok : (config : Config) (ending : Ending) (s s' : State) (b b' : BorderState) (t t' : ℕ)
    → PlaysSome config (Ok (Some ending)) s b s' b' t t'
    → PlaysRounds config (Ok ending) s b s' b' t t'
all_ok config ending s s' b b' t t' h = record {
  work = h.work;
  plays = record {
    goes = subst (λ n. PlaysOn config.quantum (λ w. rounds_from w config) s b
        (λ w. done (finish_in ending w n)) s' b')
        (let n : 0 + h.work ≡ h.work = omega arith in n) (h.plays 0).goes;
    stops = tt;
  };
  worked = h.worked [] [];
  grew = h.grew;
}

pub all_err : (config : Config) (stop : RunStop) (s s' : State) (b b' : BorderState) (t t' : ℕ)
    → PlaysSome config (Err stop) s b s' b' t t' → PlaysRounds config (Err stop) s b s' b' t t'
all_err config stop s s' b b' t t' h = record {
  work = h.work;
  plays = record { goes = tt; stops = (h.plays 0).stops };
  worked = h.worked [] [];
  grew = h.grew;
}

-- ---- a run that stops before its end

module _ (config : Config) (start : State) (before after : BorderState) where
  -- the run's play from there, behind these bytes
  run_goes : (o e : List ℕ) (cs : List Crossing) (left : Play Finish)
      → GoesOver o e cs (rounds_from (sent o e (world_of config.quantum start)) config) left
      → GoesOn (exchanges_of cs) (run_from (sent o e (world_of config.quantum start)) config)
      (left >>= told_end)
  run_goes o e cs left h =
      let w : World = sent o e (world_of config.quantum start) in
      goes-then (exchanges_of cs) (rounds_from w config) left told_end
      (goes-exchanges o e cs (rounds_from w config) left h)

  -- a question to which it comes
  to_question : (why : ShimStop)
      (h : StopsAsking config.quantum (λ w. rounds_from w config) why start before after)
      → RunsToQuestion (world_of config.quantum start) config (exchanges_of h.crossings) h.question
      (bytes_to Output h.crossings) (bytes_to Error h.crossings)
  to_question why h = record {
    asks = λ o e. goes-over (exchanges_of h.crossings)
        (run_from (sent o e (world_of config.quantum start)) config) (stands o e) (goes o e);
    asked = λ o e. goes-questions (exchanges_of h.crossings)
        (run_from (sent o e (world_of config.quantum start)) config) (stands o e) (goes o e);
  }
    where
      stands : (o e : List ℕ) → Play Finish
      stands o e = ask h.question (o ++ bytes_to Output h.crossings)
          (e ++ bytes_to Error h.crossings) (λ answer. (h.goes o e).0 answer >>= told_end)

      goes : (o e : List ℕ) → GoesOn (exchanges_of h.crossings)
          (run_from (sent o e (world_of config.quantum start)) config) (stands o e)
      goes o e = run_goes o e h.crossings (ask h.question (o ++ bytes_to Output h.crossings)
          (e ++ bytes_to Error h.crossings) (h.goes o e).0) (h.goes o e).1

  pub stopped_group : (why : ShimStop)
      → StopsAsking config.quantum (λ w. rounds_from w config) why start before after
      → StoppedGroup config start (told_at before) (told_at after) after.shim.asked
  stopped_group why h = record {
    more = told_more h.crossings before after h.tells;
    question = h.question;
    asked_is = h.asked;
    asks = (to_question why h).asks [] [];
    asked_so = (to_question why h).asked [] [];
    behind = to_question why h;
  }

  cut_by : (cs : List Crossing) (left : Play Finish) → Tells before cs after
      → GoesOver [] [] cs (rounds_from (world_of config.quantum start) config) left
      → AreFrontsOf (λ finish. finish.world) (bytes_to Output cs) (bytes_to Error cs) (over [] left)
      → CutGroup config start (told_at before) (told_at after)
  cut_by cs left tells h fronts = record {
    more = told_more cs before after tells;
    goes = (left >>= told_end, run_goes [] [] cs left h);
    fronts =
        seen_fronts (bytes_to Output cs) (bytes_to Error cs) _ _
        (subst (AreFrontsOf (λ finish. finish.world) (bytes_to Output cs) (bytes_to Error cs))
        (sym (goes-over (exchanges_of cs) (rounds_from (world_of config.quantum start) config) left
        (goes-exchanges [] [] cs (rounds_from (world_of config.quantum start) config) left h)))
        fronts);
  }

  pub cut_group : (by : Stopper)
      → StopsIn config.quantum (λ finish. finish.world) (λ w. rounds_from w config) by start before
      after
      → CutGroup config start (told_at before) (told_at after)
  cut_group (by_shim why) h =
      let there = h.goes [] [] in
      cut_by h.crossings
      (ask h.question (bytes_to Output h.crossings) (bytes_to Error h.crossings) there.0) h.tells
      there.1 (front-whole (bytes_to Output h.crossings), front-whole (bytes_to Error h.crossings))
  cut_group (by_sink stream) h =
      let there = h.goes [] [] in cut_by h.crossings there.0 h.tells there.1 there.2

-- the rounds have come to an ending
pub ran_rounds : (config : Config) (start s : State) (before told : BorderState) (ending : Ending)
    (work : ℕ)
    → PlaysOn config.quantum (λ w. rounds_from w config) start before
    (λ w. done (finish_in ending w work)) s told
    → RanRounds config start (told_at before) ending s (told_at told) work
ran_rounds config start s before told ending work h = record {
  more = told_more h.crossings before told h.tells;
  goes = λ o e. goes-exchanges o e h.crossings
      (rounds_from (sent o e (world_of config.quantum start)) config)
      (done (finish_in ending (sent (o ++ bytes_to Output h.crossings)
      (e ++ bytes_to Error h.crossings) (world_of config.quantum s)) work)) (h.goes o e);
}

-- ---- the end

module _ (config : Config) (start s : State) (before told : Telling) (ending : Ending) (work : ℕ)
    (ran : RanRounds config start before ending s told work) where
  -- the world before the rounds, with these bytes sent
  abbrev begun : (o e : List ℕ) → World
  begun o e = sent o e (world_of config.quantum start)

  -- what the rounds have come to behind them
  abbrev finish : (o e : List ℕ) → Finish
  finish o e = finish_in ending
      (sent (o ++ ran.more.output) (e ++ ran.more.error) (world_of config.quantum s)) work

  to_end : (o e : List ℕ)
      → GoesOn ran.more.exchanges (run_from (begun o e) config) (told_end (finish o e))
  to_end o e = goes-then ran.more.exchanges (rounds_from (begun o e) config)
      (done (finish o e)) told_end (ran.goes o e)

  -- the shim stops at it
  pub end_stops : (after : Telling) (asked : Option Question) → after.exchanges ≡ told.exchanges
      → after.output ≡ told.output → after.error ≡ told.error
      → asked ≡ Some (end_question ending (s.round - 1))
      → StoppedGroup config start before after asked
  end_stops after asked told_is out err is = record {
    more = told_so before told after ran.more told_is out err;
    question = end_question ending (s.round - 1);
    asked_is = is;
    asks = goes-over ran.more.exchanges (run_from (world_of config.quantum start) config)
        (told_end (finish [] [])) (to_end [] []);
    asked_so = goes-questions ran.more.exchanges
        (run_from (world_of config.quantum start) config) (told_end (finish [] [])) (to_end [] []);
    behind = record {
      asks = λ o e. goes-over ran.more.exchanges (run_from (begun o e) config)
          (told_end (finish o e)) (to_end o e);
      asked = λ o e. goes-questions ran.more.exchanges (run_from (begun o e) config)
          (told_end (finish o e)) (to_end o e);
    };
  }

  -- it is cut off there
  pub end_cut : (after : Telling) → after.exchanges ≡ told.exchanges → after.output ≡ told.output
      → after.error ≡ told.error → CutGroup config start before after
  end_cut after told_is out err = record {
    more = told_so before told after ran.more told_is out err;
    goes = (told_end (finish [] []), to_end [] []);
    fronts =
        seen_fronts ran.more.output ran.more.error _ _
        (subst (AreFrontsOf (λ finish. finish.world) ran.more.output ran.more.error)
        (sym (goes-over ran.more.exchanges (rounds_from (world_of config.quantum start) config)
        (done (finish [] [])) (ran.goes [] [])))
        (front-whole ran.more.output, front-whole ran.more.error));
  }

  -- the exchanges with the end behind them
  abbrev all : List Exchange
  all = ran.more.exchanges ++ End ending (s.round - 1) ∷ []

  all_fit : (o e : List ℕ)
      → questions (map answer_of all) (run_from (begun o e) config) ≡ map question_of all
  all_fit o e =
      goes-questions all (run_from (begun o e) config) (done (finish o e))
      (goes-append ran.more.exchanges (End ending (s.round - 1) ∷ []) (run_from (begun o e) config)
      (told_end (finish o e)) (done (finish o e)) (to_end o e) (refl, refl))
      ∙ append-nil (map question_of all)

  all_over : (o e : List ℕ) → over (map answer_of all) (rounds_from (begun o e) config)
      ≡ gives (finish o e) (posts [] ∷ [])
  all_over o e =
      ap (λ answers. over answers (rounds_from (begun o e) config))
      (map-append answer_of ran.more.exchanges (End ending (s.round - 1) ∷ []))
      ∙ goes-over_more ran.more.exchanges (posts [] ∷ []) (rounds_from (begun o e) config)
      (done (finish o e)) (ran.goes o e)

  -- the shim is told
  pub end_told : (after : Telling)
      → after.exchanges ≡ told.exchanges ++ End ending (s.round - 1) ∷ []
      → after.output ≡ told.output → after.error ≡ told.error
      → RanGroup config start before ending s after work
  end_told after told_is out err = record {
    more = record {
      exchanges = all;
      output = ran.more.output;
      error = ran.more.error;
      exchanges_are = told_is ∙ ap (λ es. es ++ End ending (s.round - 1) ∷ [])
          ran.more.exchanges_are ∙ append_assoc before.exchanges ran.more.exchanges
          (End ending (s.round - 1) ∷ []);
      output_is = out ∙ ran.more.output_is;
      error_is = err ∙ ran.more.error_is;
    };
    fits = all_fit [] [];
    ends = ap₂ result_of (all_fit [] []) (all_over [] []);
    behind = record {
      fits = all_fit;
      is = λ o e. ap₂ result_of (all_fit o e) (all_over o e);
    };
  }

-- ---- rounds that are run, whatever is left behind them

-- first so, then so
over_both : {A : Type 0} (o e : List ℕ) (cs ds : List Crossing) (p p' : Play A)
    (left : World → Play A) (w : World) → GoesOver o e cs p p'
    → GoesOver (o ++ bytes_to Output cs) (e ++ bytes_to Error cs) ds p'
    (left (sent_then ds (o ++ bytes_to Output cs) (e ++ bytes_to Error cs) w))
    → GoesOver o e (cs ++ ds) p (left (sent_then (cs ++ ds) o e w))
over_both o e cs ds p p' left w h k =
    subst (λ x. GoesOver o e (cs ++ ds) p (left (sent x (e ++ bytes_to Error (cs ++ ds)) w)))
    (sym (bytes_behind Output o cs ds))
    (subst (λ y. GoesOver o e (cs ++ ds) p
    (left (sent ((o ++ bytes_to Output cs) ++ bytes_to Output ds) y w)))
    (sym (bytes_behind Error e cs ds))
    (over-append o e cs ds p p'
    (left (sent_then ds (o ++ bytes_to Output cs) (e ++ bytes_to Error cs) w)) h k))

module _ (config : Config) where
  -- so many rounds of the scheme
  abbrev rounds_on : ℕ → World → ℕ → Play Finish
  rounds_on n w work = rounds_of config.scheme n w work

  -- what a state shows
  abbrev shown : State → World
  shown s = world_of config.quantum s

  -- none
  pub on_nothing : (s : State) (b : BorderState) → RunsOn config 0 s b s b
  on_nothing s b = record {
    crossings = [];
    tells = tells_nothing b;
    work = 0;
    goes = λ o e left earlier.
        ap (λ n. rounds_on n (sent o e (shown s)) earlier) (sym (plus_nothing left))
        ∙ ap (λ n. rounds_on left (sent o e (shown s)) n) (sym (with_nothing earlier))
        ∙ ap₂ (λ x y. rounds_on left (sent x y (shown s)) (earlier + 0)) (sym (append-nil o))
        (sym (append-nil e));
  }

  -- one round of those that are left
  one_on : (s s' : State) (b b' : BorderState) (h : PlaysNext config (Ok None) s b s' b')
      (o e : List ℕ) (left earlier : ℕ)
      → GoesOver o e h.plays.goes.crossings (rounds_on (suc left) (sent o e (shown s)) earlier)
      (rounds_on left (sent_then h.plays.goes.crossings o e (shown s')) (earlier + h.work))
  one_on s s' b b' h o e left earlier =
      over-then o e h.plays.goes.crossings (round_of config.scheme (sent o e (shown s)))
      (done (end_in Went h.work (sent_then h.plays.goes.crossings o e (shown s'))))
      (after_round config.scheme left earlier) (h.plays.goes.goes o e)

  -- and one more
  pub on_more : (n : ℕ) (s s' s'' : State) (b b' b'' : BorderState) → RunsOn config n s b s' b'
      → PlaysNext config (Ok None) s' b' s'' b'' → RunsOn config (n + 1) s b s'' b''
  on_more n s s' s'' b b' b'' h k = record {
    crossings = h.crossings ++ k.plays.goes.crossings;
    tells = tells_then b b' b'' h.crossings k.plays.goes.crossings h.tells k.plays.goes.tells;
    work = h.work + k.work;
    goes = λ o e left earlier.
        over_both o e h.crossings k.plays.goes.crossings
        (rounds_on (n + 1 + left) (sent o e (shown s)) earlier)
        (rounds_on (suc left) (sent_then h.crossings o e (shown s')) (earlier + h.work))
        (λ w. rounds_on left w (earlier + (h.work + k.work))) (shown s'')
        (subst (λ m. GoesOver o e h.crossings (rounds_on m (sent o e (shown s)) earlier)
        (rounds_on (suc left) (sent_then h.crossings o e (shown s')) (earlier + h.work)))
        (let m : n + suc left ≡ n + 1 + left = omega arith in m) (h.goes o e (suc left) earlier))
        (subst (λ m. GoesOver (o ++ bytes_to Output h.crossings) (e ++ bytes_to Error h.crossings)
        k.plays.goes.crossings
        (rounds_on (suc left) (sent_then h.crossings o e (shown s')) (earlier + h.work))
        (rounds_on left (sent_then k.plays.goes.crossings (o ++ bytes_to Output h.crossings)
        (e ++ bytes_to Error h.crossings) (shown s'')) m))
        (let m : earlier + h.work + k.work ≡ earlier + (h.work + k.work) = omega arith in m)
        (one_on s' s'' b' b'' k (o ++ bytes_to Output h.crossings)
        (e ++ bytes_to Error h.crossings) left (earlier + h.work)));
  }

  -- where a round was run behind which the run goes on
  pub on_next : (ended : Option Ending) (n : ℕ) (s s' s'' : State) (b b' b'' : BorderState)
      → ended ≡ None → RunsOn config n s b s' b' → PlaysNext config (Ok ended) s' b' s'' b''
      → RunsOn config (n + 1) s b s'' b''
  on_next None n s s' s'' b b' b'' is h k = on_more n s s' s'' b b' b'' h k
  on_next (Some ending) n s s' s'' b b' b'' is h k = absurd cc

  -- as many as were asked for
  pub on_all : (i rounds : ℕ) (s s' : State) (b b' : BorderState) → i ≤ rounds → rounds ≤ i
      → RunsOn config i s b s' b' → RunsOn config rounds s b s' b'
  on_all i rounds s s' b b' few past h =
      subst (λ n. RunsOn config n s b s' b')
      (let n : i ≡ rounds = omega (arith, few, past) in n) h

  -- by whether the run goes on
  pub on_rounds : (ended : Option Ending) (rounds : ℕ) (s s' : State) (b b' : BorderState)
      → ended ≡ None → HasRunOn ended config rounds s b s' b' → RunsOn config rounds s b s' b'
  on_rounds None rounds s s' b b' is h = h
  on_rounds (Some ending) rounds s s' b b' is h = absurd cc

-- what is told more of them
pub ran_to : (config : Config) (rounds : ℕ) (s s' : State) (b b' : BorderState) (t t' : ℕ)
    → PlaysSome config (Ok None) s b s' b' t t' → RunsOn config rounds s b s' b'
    → s'.round ≡ s.round + rounds → HasNoEnd b'.shim.told
    → RanTo config rounds s (told_at b) s' (told_at b') t t'
ran_to config rounds s s' b b' t t' some on counted running = record {
  more = told_more on.crossings b b' on.tells;
  runs = record {
    work = on.work;
    goes = λ o e left earlier. goes-exchanges o e on.crossings
        (rounds_of config.scheme (rounds + left) (sent o e (world_of config.quantum s)) earlier)
        (rounds_of config.scheme left (sent_then on.crossings o e (world_of config.quantum s'))
        (earlier + on.work)) (on.goes o e left earlier);
  };
  counted = counted;
  running = running;
  grew = subst (λ n. GrewBy t t' n)
      (sym (worked_so_far config None (answers_since b.shim.told b'.shim.told)
      (world_of config.quantum s) s' some.work (some.worked [] []))
      ∙ ap (work_from (world_of config.quantum s) config)
      (since_more b.shim.told b'.shim.told (exchanges_of on.crossings) on.tells.exchanges))
      some.grew;
}

-- ---- whether the kernel has failed

-- by a stop before the end
pub failed_before : (stop : RunStop) (asked : Option Question) (failed : Bool) → failed ≡ true
    → OnSome (shim_stop stop) (is_end_question asked ≡ false) → failed ≡ has_failed (Err stop) asked
failed_before stop asked failed is before = is ∙ go (shim_stop stop) before
  where
    go : (o : Option ShimStop) → OnSome o (is_end_question asked ≡ false)
        → true ≡ elim o as (λ _. Bool) [ None ↦ true | Some reason ↦ not (is_end_question asked) ]
    go None h = refl
    go (Some reason) h = sym (ap not h)

-- not by one at the end
pub stands_at_end : (stop : RunStop) (reason : ShimStop) (asked : Option Question) (ending : Ending)
    (rounds : ℕ) (failed : Bool) → failed ≡ false → shim_stop stop ≡ Some reason
    → asked ≡ Some (end_question ending rounds) → failed ≡ has_failed (Err stop) asked
stands_at_end stop reason asked ending rounds failed is stopped at =
    is ∙ sym (ap (λ (o : Option ShimStop). elim o as (λ _. Bool) [
      | None ↦ true
      | Some reason ↦ not (is_end_question asked)
    ]) stopped ∙ ap (λ a. not (is_end_question a)) at)

-- by the work over the answers that are told more
pub grew_by : (config : Config) (start : State) (before after : BorderState) (t t' work : ℕ)
    → work_from (world_of config.quantum start) config
    (answers_since before.shim.told after.shim.told) ≡ work
    → GrewBy t t' work
    → GrewBy t t' (work_from (world_of config.quantum start) config
    (answers_since before.shim.told after.shim.told))
grew_by config start before after t t' work is grew = subst (λ n. GrewBy t t' n) (sym is) grew

-- a run whose rounds stopped
pub runs_stopped : (config : Config) (start s : State) (before after : BorderState) (stop : RunStop)
    (failed : Bool) (t t' : ℕ) → failed ≡ true
    → PlaysRounds config (Err stop) start before s after t t'
    → RunsGroup config (Err stop) start before s after failed t t'
runs_stopped config start s before after stop failed t t' is h =
    let stops = h.plays.stops in
    let fails = fails_of config.quantum (λ finish. finish.world) (λ w. rounds_from w config)
    (stopper stop) start before after stops in
    record {
      runs = tt;
      asks = by_question config.quantum (λ finish. finish.world) (λ w. rounds_from w config) start
          _ _ _ (stopped_group config start before after) stop stops;
      cut = cut_group config start before after (stopper stop) stops;
      grew = grew_by config start before after t t' h.work h.worked h.grew;
      told_end = tt;
      failed = failed_before _ _ _ is
          (asks_before_end config.quantum (λ finish. finish.world) (λ w. rounds_from w config)
          start before after stop stops);
      causes = causes_err before after stop fails;
      out_steady = out_stands before after stop fails;
      err_steady = err_stands before after stop fails;
    }

-- where it hasn't, it stands between two rounds
pub within_limit : (result : Result Ending RunStop) (asked : Option Question) (failed : Bool)
    (s : State) (here config : Config) → failed ≡ has_failed result asked
    → (failed ≡ false → IsBetweenRounds s here) → here ≡ config
    → OnOk result (s.round - 1 ≤ config.rounds)
within_limit (Ok ending) asked failed s here config is sound same =
    subst (λ (c : Config). s.round - 1 ≤ c.rounds) same (sound is).rounds
within_limit (Err stop) asked failed s here config is sound same = tt
