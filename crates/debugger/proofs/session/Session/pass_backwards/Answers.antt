use Rattle.std.proofs.Common.{◌≡◌, ◌<◌, ◌-◌, Some, ap, sym, subst, ◌∙◌, arith}
use Rattle.group_walk.specs.Walks.{kind_named}
use Rattle.debug_session.specs.Positions.{first_kind, position_after}
use Rattle.recorded_walk.specs.Playbacks.{IsStartOf}
use Rattle.debugger.specs.Halting.{halt_meant}
use Rattle.debugger.specs.Quiet.{AreWatchedIn}
use Rattle.debugger.specs.Standing.{SessionView, here}
use Rattle.debugger.proofs.SilentBack.{other_step, own_step, passed_others, passed_own, was_passed}
use Rattle.debugger.proofs.Staying.{asked_stays, start_stays}
use Rattle.debugger.proofs.session.Session.pass_backwards.Goals as goal

pub returns-then-ne-clause-halt : goal.returns-then-ne-clause-halt
returns-then-ne-clause-halt c start s rs is_start asked quiet was is =
    let ran = c.run_on-count.ensures in
    let some : 0 < c.run_on-count.result = omega (arith, c.if-count-eq0.false) in
    passed_others c.args.self.now c.run_on-count.new.self c.args.stops.now _ c.run_on-count.result
    ran.moves start (ran.silent start is_start) s rs c.args.stepped quiet
    (subst
    (λ frames. AreWatchedIn (here c.args.self.now start).moment.world frames s.watchpoints)
    (sym c.deref.ensures.value) (c.in_ok-kept.ensures start s is_start asked))
    c.in-Some-Runs.thread some
    (λ made first. ap (λ k. Some (kind_named k)) (sym c.in-Some-Runs.field-0-is)
    ∙ c.in-Some-Runs.ensures.ahead start made
    (subst (λ (a : SessionView). IsStartOf a.playback start) (sym c.self.view_is) is_start)
    (ap (λ (a : SessionView). first_kind (position_after a.playback.moves start).future)
    c.self.view_is ∙ first))
    (other_step c.args.stepped c.in-Some-Runs.thread (sym c.ne.ensures ∙ c.if-ne.true))
    was (halt_meant s rs start c.args.halt) is

pub returns-then-ne-clause-was : goal.returns-then-ne-clause-was
returns-then-ne-clause-was c start s rs is_start asked was =
    was_passed c.args.self.now c.run_on-count.new.self c.args.stops.now _ c.run_on-count.result
    c.run_on-count.ensures.moves start (c.run_on-count.ensures.silent start is_start) s rs
    c.args.stepped was

pub returns-clause-halt : goal.returns-clause-halt
returns-clause-halt c start s rs is_start asked quiet was is =
    let ran = c.run_on-count.ensures in
    let old = c.args.self.now in
    let new = c.run_on-count.new.self in
    let some : 0 < c.run_on-count.result = omega (arith, c.if-count-eq0.false) in
    let moves : c.moves-2.result ≡ new.playback.moves = c.moves-2.ensures.moves
    ∙ ap (λ (a : SessionView). a.playback.moves) c.self-2.view_is in
    passed_own old new c.args.stops.now _ c.run_on-count.result
    ran.moves start (ran.silent start is_start) s rs c.args.stepped quiet
    (subst
    (λ frames. AreWatchedIn (here c.args.self.now start).moment.world frames s.watchpoints)
    (sym c.deref.ensures.value) (c.in_ok-kept.ensures start s is_start asked))
    c.in-Some-Runs.thread some
    (λ made first. ap (λ k. Some (kind_named k)) (sym c.in-Some-Runs.field-0-is)
    ∙ c.in-Some-Runs.ensures.ahead start made
    (subst (λ (a : SessionView). IsStartOf a.playback start) (sym c.self.view_is) is_start)
    (ap (λ (a : SessionView). first_kind (position_after a.playback.moves start).future)
    c.self.view_is ∙ first))
    c.at.result (c.moves-2.result - 1) c.home_pair.result
    (own_step c.args.stepped c.in-Some-Runs.thread (sym c.ne.ensures ∙ c.if-ne.false))
    (c.home_pair.ensures start s (start_stays old new ran.same.run start is_start)
    (asked_stays old new ran.same start s asked))
    (omega (arith, moves, ran.moves, some)) c.at.ensures

pub returns-clause-was : goal.returns-clause-was
returns-clause-was c start s rs is_start asked was =
    was_passed c.args.self.now c.run_on-count.new.self c.args.stops.now _ c.run_on-count.result
    c.run_on-count.ensures.moves start (c.run_on-count.ensures.silent start is_start) s rs
    c.args.stepped was
