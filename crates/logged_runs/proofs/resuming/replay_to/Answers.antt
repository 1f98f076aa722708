use Rattle.std.proofs.Common.{ℕ, ◌≡◌, ◌≤◌, ◌-◌, ◌<◌, ◌∙◌, ap, arith, sym, subst, Bool, Ok}
use Rattle.dos_world.specs.declared.Config.{Config}
use Rattle.dos_world.specs.declared.Ending.{Ending}
use Rattle.dos_io.specs.Borders.{BorderState}
use Rattle.dos_io.specs.Shims.{HasNoEnd}
use Rattle.dos_io.specs.declared.border.Stream.TheVariants.{Output, Error}
use Rattle.kernel_calls.specs.StateWorld.{world_of}
use Rattle.kernel_calls.specs.declared.state.State.{State}
use Rattle.shim_log.specs.Replay.{entries_used, replayer_state}
use Rattle.dpg_run.specs.Reached.{RanShort, ReachedRound, ArrivesAt}
use Rattle.dpg_run.specs.declared.reaching.Reached.{Reached}
use Rattle.dpg_run.specs.declared.reaching.Reached.TheVariants.{Round, Ended}
use Rattle.logged_runs.specs.Resuming.{ReplayedTo}
use Rattle.logged_runs.proofs.FromOpening.{is_told}
use Rattle.logged_runs.proofs.Replays.{asked_within, from_first, nothing_told, replayed_before}
use Rattle.logged_runs.proofs.Replays.{replayed_to, replayed_until, same_log}
use Rattle.logged_runs.proofs.Stops.{this_stop}
use Rattle.logged_runs.proofs.resuming.replay_to.Goals as goal

pub run_to-requires-clause-running : goal.run_to-requires-clause-running
run_to-requires-clause-running g c = λ κs alive. c.requires.running

pub run_to-requires-clause-told : goal.run_to-requires-clause-told
run_to-requires-clause-told g c = λ κs alive.
    subst HasNoEnd (sym (nothing_told _ _ c.new-shim.ensures)) tt

module _ (config : Config) (round : ℕ) (old : State) (before : BorderState) (new : State)
    (after : BorderState) (failed : Bool) (t t' : ℕ) where
  at_round : (x : Reached) → x ≡ Round
      → ArrivesAt config round (Ok x) old before new after failed t t'
      → ReachedRound config (round - (old.round - 1)) old before new after failed t t'
  at_round Round is h = h
  at_round (Ended ending) is h = absurd cc

  at_end : (x : Reached) (ending : Ending) → x ≡ Ended ending
      → ArrivesAt config round (Ok x) old before new after failed t t'
      → RanShort config round (Ok ending) old before new after failed t t'
      × (new.round - 1 < round)
  at_end Round ending is h = absurd cc
  at_end (Ended other) ending is h =
      subst (λ (e : Ending). RanShort config round (Ok e) old before new after failed t t'
      × (new.round - 1 < round)) (one_ending other ending is) h
    where
      one_ending : (x y : Ending) → Ended x ≡ Ended y → x ≡ y
      one_ending x y same = cc

pub returns-in-Ok-Round-clause-arrived : goal.returns-in-Ok-Round-clause-arrived
returns-in-Ok-Round-clause-arrived g c = λ scheme images opened.
    let log = c.args.log in
    let s = c.args.kernel.now.state in
    let k' = c.run_to.new.kernel in
    let reached = at_round _ _ _ _ _ _ _ _ _ c.in-Ok-Round.field-0 c.in-Ok-Round.field-0-is
    c.in-Ok-Round.ensures.reaches in
    let given = c.run_to.ensures.config ∙ opened.config_is in
    let limit = ap (λ (config : Config). config.rounds) given in
    let within = (c.run_to.ensures.sound reached.failed_is).rounds in
    let run = replayed_to c.args.kernel.now (replayer_state c.new-shim.result).told
    c.run_to.new.shim _ _ _ _ (nothing_told _ _ c.new-shim.ensures) log
    (same_log _ _ _ c.new-shim.ensures c.run_to.ensures.follows)
    (from_first _ _ _ c.new-shim.ensures c.run_to.ensures.follows) scheme images opened
    (c.args.round - (s.round - 1)) k'.state _ _ reached.ran (omega (arith, c.requires.fresh))
    (omega (arith, limit, within)) in (
      run.0,
      run.1,
      run.2,
      subst (λ n. ReplayedTo scheme images log n c.used.result (world_of k'.config.quantum k'.state)
          run.0 run.1 run.2)
          (let n : c.args.round - (s.round - 1) ≡ c.args.round =
          omega (arith, c.requires.fresh) in n)
          (subst (λ used. ReplayedTo scheme images log (c.args.round - (s.round - 1)) used
          (world_of k'.config.quantum k'.state) run.0 run.1 run.2) (sym c.used.ensures)
          (subst (λ (config : Config). ReplayedTo scheme images log (c.args.round - (s.round - 1))
          (entries_used c.run_to.new.shim) (world_of config.quantum k'.state) run.0 run.1 run.2)
          (sym given) run.3)),
      run.4,
    )

pub returns-in-Ok-Round-clause-out_steady : goal.returns-in-Ok-Round-clause-out_steady
returns-in-Ok-Round-clause-out_steady g c = λ _.
    (at_round _ _ _ _ _ _ _ _ _ c.in-Ok-Round.field-0 c.in-Ok-Round.field-0-is
    c.in-Ok-Round.ensures.reaches).stands.faults Output

pub returns-in-Ok-Round-clause-err_steady : goal.returns-in-Ok-Round-clause-err_steady
returns-in-Ok-Round-clause-err_steady g c = λ _.
    (at_round _ _ _ _ _ _ _ _ _ c.in-Ok-Round.field-0 c.in-Ok-Round.field-0-is
    c.in-Ok-Round.ensures.reaches).stands.faults Error

pub returns-in-Ok-Round-clause-out_later : goal.returns-in-Ok-Round-clause-out_later
returns-in-Ok-Round-clause-out_later g c =
    let same = (at_round _ _ _ _ _ _ _ _ _ c.in-Ok-Round.field-0 c.in-Ok-Round.field-0-is
    c.in-Ok-Round.ensures.reaches).stands.faults Output in
    omega (arith, same)

pub returns-in-Ok-Round-clause-err_later : goal.returns-in-Ok-Round-clause-err_later
returns-in-Ok-Round-clause-err_later g c =
    let same = (at_round _ _ _ _ _ _ _ _ _ c.in-Ok-Round.field-0 c.in-Ok-Round.field-0-is
    c.in-Ok-Round.ensures.reaches).stands.faults Error in
    omega (arith, same)

pub returns-in-Ok-Ended-clause-arrived : goal.returns-in-Ok-Ended-clause-arrived
returns-in-Ok-Ended-clause-arrived g c = λ scheme images opened.
    let e = at_end _ _ _ _ _ _ _ _ _ c.in-Ok-Ended.field-0 c.in-Ok-Ended.ending
    c.in-Ok-Ended.field-0-is c.in-Ok-Ended.ensures.reaches in
    let run = e.0.runs in
    replayed_before c.args.kernel.now (replayer_state c.new-shim.result).told
    c.run_to.new.shim _ _ _ _ (nothing_told _ _ c.new-shim.ensures) c.args.log
    (same_log _ _ _ c.new-shim.ensures c.run_to.ensures.follows)
    (from_first _ _ _ c.new-shim.ensures c.run_to.ensures.follows) scheme images opened
    c.run_to.new.kernel c.in-Ok-Ended.ending _ _ run.runs.0 run.runs.1 run.runs.2
    c.len-exchanges.ensures.fits (is_told _ _ _ run.told_end) c.args.round e.1

pub returns-clause-misfit : goal.returns-clause-misfit
returns-clause-misfit g c = λ found is scheme images opened.
    let log = same_log _ _ _ c.new-shim.ensures c.run_to.ensures.follows in
    let told = nothing_told _ _ c.new-shim.ensures in
    let first = from_first _ _ _ c.new-shim.ensures c.run_to.ensures.follows in
    let run = c.in-Err.ensures.reaches in
    let until = replayed_until c.args.kernel.now (replayer_state c.new-shim.result).told
    c.run_to.new.shim _ _ _ _ told c.args.log log first scheme images opened c.in-Err.stop found
    c.new-shim.result (this_stop _ _ _ is) run.runs.asks run.runs.causes.shim c.look.ensures _ _
    run.runs.grew in (
      until.0,
      until.1,
      until.2,
      until.3,
      until.4,
      asked_within c.args.kernel.now (replayer_state c.new-shim.result).told c.run_to.new.shim _ _ _
          _ told c.args.log log first scheme images opened c.args.round c.in-Err.stop found
          c.new-shim.result (this_stop _ _ _ is) run.limited.asks run.limited.causes.shim
          c.look.ensures,
    )
