use Rattle.std.proofs.Common.{◌≡◌, [], subst, sym}
use Rattle.recorded_walk.specs.Playbacks.{IsStartOf}
use Rattle.debugger.specs.Standing.{SessionView, here}
use Rattle.debugger.proofs.Ready.{run_of_same, same_start, whole_by}
use Rattle.debugger.proofs.session.Session.know_all.Goals as goal

pub invariant_of-self : goal.invariant_of-self
invariant_of-self c = λ running.
    whole_by _ c.set_whole.new.self c.set_whole.ensures (c.self-2.invariant running)
    (λ start is. subst (λ (v : SessionView). (here v start).future ≡ []) (sym c.self-2.view_is)
    (c.in_ok-go_to_end.ensures.end start
    (same_start _ _ (run_of_same _ _ c.go_to_end.ensures.same.run) start
    (subst (λ (v : SessionView). IsStartOf v.playback start) c.self-2.view_is is))))
