use Rattle.std.proofs.Common.{◌≡◌, Err, Some, IsErrOf, refl, ap, sym, subst}
use Rattle.kernel_calls.specs.declared.state.RunStop.{RunStop}
use Rattle.shim_log.specs.Replay.{FollowsLog, replayer_state}
use Rattle.recorded_walk.specs.declared.puts.Puts.{Puts}
use Rattle.recorded_walk.proofs.Coming.{used_few}
use Rattle.recorded_walk.proofs.Moving.{misfits_by, moves_nowhere_by, moves_on}
use Rattle.recorded_walk.proofs.making.make_by_log.Goals as goal

pub returns-in-Ok-clause-goes : goal.returns-in-Ok-clause-goes
returns-in-Ok-clause-goes c =
    let e = c.in-Ok.ensures in
    let shim_is = c.shim-1.given.1 (sym e.follows.0) in
    let out_is = c.out-1.given.1 (sym e.follows.1) in
    let err_is = c.err-1.given.1 (sym e.follows.2) in
    moves_on c.args.walker.now c.args.shim.now _ _ _ refl (ap replayer_state (sym shim_is))
    (subst (FollowsLog c.args.shim.now) (sym shim_is) e.follows.3) c.requires.next c.make.new.self
    e.config e.plays.goes _ _ (ap Some c.clear.ensures) (ap Some c.clear-2.ensures)
    (ap (λ (x : Puts). Some x.bytes.items) (sym out_is))
    (ap (λ (x : Puts). Some x.bytes.items) (sym err_is))

stop_is : (T : Type 0) (stop other : RunStop) → IsErrOf {T = T} (Err stop) other → stop ≡ other
stop_is T stop other is = cc

pub returns-in-Err-clause-misfit : goal.returns-in-Err-clause-misfit
returns-in-Err-clause-misfit c = λ found is.
    let e = c.in-Err.ensures in
    let shim_is = c.shim-1.given.1 (sym e.follows.0) in
    moves_nowhere_by c.args.walker.now c.args.shim.now _ _ _ refl (ap replayer_state (sym shim_is))
    (subst (FollowsLog c.args.shim.now) (sym shim_is) e.follows.3) c.requires.next c.in-Err.stop
    found (stop_is _ _ _ is) c.look-in-Err.ensures e.plays.stops

pub returns-in-Err-clause-found : goal.returns-in-Err-clause-found
returns-in-Err-clause-found c = λ found is.
    let e = c.in-Err.ensures in
    let shim_is = c.shim-1.given.1 (sym e.follows.0) in
    misfits_by c.args.walker.now c.args.shim.now _ _ _ refl (ap replayer_state (sym shim_is))
    (subst (FollowsLog c.args.shim.now) (sym shim_is) e.follows.3) c.requires.next c.in-Err.stop
    found (stop_is _ _ _ is) c.look-in-Err.ensures e.plays.stops

pub returns-in-Ok-clause-used : goal.returns-in-Ok-clause-used
returns-in-Ok-clause-used c = used_few _ c.look.ensures
