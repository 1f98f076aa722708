use Rattle.std.proofs.Common.{ap, sym, subst, ◌∙◌, Some, None}
use Rattle.group_walk.specs.Walks.{world_there}
use Rattle.kernel_calls.specs.declared.state.State.{State}
use Rattle.recorded_walk.specs.Playbacks.{Played, ended_in}
use Rattle.recorded_walk.proofs.Kept.{Ends, ended_by_threads, ended_there, ends_so, runs_on}
use Rattle.recorded_walk.proofs.playback.Playback.ending.Goals as goal

pub returns-then-is_some : goal.returns-then-is_some
returns-then-is_some c =
    let kept = c.self.invariant.6 (ap (λ (p : Played). p.failed) c.self.view_is ∙ c.requires) in
    subst (λ (p : Played). Ends p None) c.self.view_is
    (runs_on c.self.inside.images.items c.self.inside.config c.self.inside.track
    c.self.inside.reached c.self.inside.failed kept.1 kept.2
    c.next.result c.next.ensures (sym c.is_some.ensures ∙ c.if-is_some.true))

pub returns-in-Some : goal.returns-in-Some
returns-in-Some c =
    let kept = c.self.invariant.6 (ap (λ (p : Played). p.failed) c.self.view_is ∙ c.requires) in
    let walk = c.self.inside.track.walker in
    subst (λ (p : Played). Ends p (Some c.in-Some.ending)) c.self.view_is
    (ends_so c.self.inside.images.items c.self.inside.config c.self.inside.track
    c.self.inside.reached c.self.inside.failed kept.1 kept.2
    c.next.result c.in-Some.ending c.next.ensures (sym c.is_some.ensures ∙ c.if-is_some.false)
    (λ o e. ended_there (world_there walk o e) walk.place c.in-Some.ending
    (ap ended_in c.phase.ensures.phase ∙ sym c.ended_in.ensures ∙ c.in-Some.is)))

pub returns-in-None : goal.returns-in-None
returns-in-None c =
    let kept = c.self.invariant.6 (ap (λ (p : Played). p.failed) c.self.view_is ∙ c.requires) in
    let walk = c.self.inside.track.walker in
    subst (λ (p : Played). Ends p (Some c.ending_of.result)) c.self.view_is
    (ends_so c.self.inside.images.items c.self.inside.config c.self.inside.track
    c.self.inside.reached c.self.inside.failed kept.1 kept.2
    c.next.result c.ending_of.result c.next.ensures
    (sym c.is_some.ensures ∙ c.if-is_some.false)
    (λ o e. ended_by_threads (world_there walk o e) walk.place
    (ap ended_in c.phase.ensures.phase ∙ sym c.ended_in.ensures ∙ c.in-None.is)
    ∙ c.ending_of.ensures (world_there walk o e)
    (ap (λ (s : State). s.table.threads) (sym c.state.ensures.state))))
