use Rattle.std.proofs.Common.{ap, subst, ◌∙◌, arith, Some, None}
use Rattle.recorded_walk.specs.Playbacks.{Played, Stands}
use Rattle.recorded_walk.specs.Tracks.{HasNext}
use Rattle.recorded_walk.proofs.Places.{stands_there}
use Rattle.group_walk.specs.Walks.{kinds_named}
use Rattle.group_walk.specs.declared.walker.MoveKind.{MoveKind as kind_type}
use Rattle.group_walk.specs.declared.walker.MoveKind.TheVariants.{Faults, Runs}
use Rattle.recorded_walk.proofs.Kept.{IsAhead, Misfits, ahead_fits, earlier_ahead, exit_ahead}
use Rattle.recorded_walk.proofs.Kept.{over_ahead, unasked_ahead}
use Rattle.recorded_walk.proofs.playback.Playback.look_on.Goals as goal

pub returns-then-self-clause-kind : goal.returns-then-self-clause-kind
returns-then-self-clause-kind c =
    let kept = c.self.invariant.6 (ap (λ (p : Played). p.failed) c.self.view_is ∙ c.requires) in
    subst (λ (p : Played). IsAhead p (c.next.result)) c.self.view_is
    (earlier_ahead c.self.inside.images.items c.self.inside.config c.self.inside.track
    c.self.inside.reached c.self.inside.failed kept.1 kept.2 c.next.result c.next.ensures
    c.self.invariant.2
    (let less = c.if-self.true in omega (arith, less)))

pub returns-then-self-clause-stands : goal.returns-then-self-clause-stands
returns-then-self-clause-stands c =
    let kept = c.self.invariant.6 (ap (λ (p : Played). p.failed) c.self.view_is ∙ c.requires) in
    subst Stands c.self.view_is
    (stands_there c.self.inside.images.items c.self.inside.config c.self.inside.track
    c.self.inside.reached c.self.inside.failed kept.1 kept.2 kept.0.used)

pub returns-in-Some-Runs-clause-kind : goal.returns-in-Some-Runs-clause-kind
returns-in-Some-Runs-clause-kind c =
    let kept = c.self.invariant.6 (ap (λ (p : Played). p.failed) c.self.view_is ∙ c.requires) in
    subst (λ (p : Played). IsAhead p (Some (Runs c.in-Some-Runs.thread))) c.self.view_is
    (unasked_ahead c.self.inside.images.items c.self.inside.config c.self.inside.track
    c.self.inside.reached c.self.inside.failed kept.1 kept.2 (Runs c.in-Some-Runs.thread) tt
    (λ o e. c.next-2.ensures o e
    ∙ ap kinds_named (c.in-Some-Runs.is ∙ ap Some c.in-Some-Runs.field-0-is)))

pub returns-in-Some-Runs-clause-stands : goal.returns-in-Some-Runs-clause-stands
returns-in-Some-Runs-clause-stands c =
    let kept = c.self.invariant.6 (ap (λ (p : Played). p.failed) c.self.view_is ∙ c.requires) in
    subst Stands c.self.view_is
    (stands_there c.self.inside.images.items c.self.inside.config c.self.inside.track
    c.self.inside.reached c.self.inside.failed kept.1 kept.2 kept.0.used)

pub returns-in-Some-Faults-clause-kind : goal.returns-in-Some-Faults-clause-kind
returns-in-Some-Faults-clause-kind c =
    let kept = c.self.invariant.6 (ap (λ (p : Played). p.failed) c.self.view_is ∙ c.requires) in
    let kind = Faults c.in-Some-Faults.thread c.in-Some-Faults.number in
    subst (λ (p : Played). IsAhead p (Some kind)) c.self.view_is
    (unasked_ahead c.self.inside.images.items c.self.inside.config c.self.inside.track
    c.self.inside.reached c.self.inside.failed kept.1 kept.2 kind tt
    (λ o e. c.next-2.ensures o e
    ∙ ap kinds_named (c.in-Some-Faults.is ∙ ap Some c.in-Some-Faults.field-0-is)))

pub returns-in-Some-Faults-clause-stands : goal.returns-in-Some-Faults-clause-stands
returns-in-Some-Faults-clause-stands c =
    let kept = c.self.invariant.6 (ap (λ (p : Played). p.failed) c.self.view_is ∙ c.requires) in
    subst Stands c.self.view_is
    (stands_there c.self.inside.images.items c.self.inside.config c.self.inside.track
    c.self.inside.reached c.self.inside.failed kept.1 kept.2 kept.0.used)

pub returns-in-None-clause-kind : goal.returns-in-None-clause-kind
returns-in-None-clause-kind c =
    let kept = c.self.invariant.6 (ap (λ (p : Played). p.failed) c.self.view_is ∙ c.requires) in
    subst (λ (p : Played). IsAhead p (None)) c.self.view_is
    (over_ahead c.self.inside.images.items c.self.inside.config c.self.inside.track
    c.self.inside.reached c.self.inside.failed kept.1 kept.2
    (λ o e. c.next-2.ensures o e ∙ ap kinds_named c.in-None.is))

pub returns-in-None-clause-stands : goal.returns-in-None-clause-stands
returns-in-None-clause-stands c =
    let kept = c.self.invariant.6 (ap (λ (p : Played). p.failed) c.self.view_is ∙ c.requires) in
    subst Stands c.self.view_is
    (stands_there c.self.inside.images.items c.self.inside.config c.self.inside.track
    c.self.inside.reached c.self.inside.failed kept.1 kept.2 kept.0.used)

pub returns-then-self-clause-misfit : goal.returns-then-self-clause-misfit
returns-then-self-clause-misfit c =
    let kept = c.self.invariant.6 (ap (λ (p : Played). p.failed) c.self.view_is ∙ c.requires) in
    subst (λ (p : Played). Misfits p None) c.self.view_is
    (ahead_fits c.self.inside.images.items c.self.inside.config c.self.inside.track
    c.self.inside.reached c.self.inside.failed kept.1 kept.2
    c.next.result c.next.ensures
    (earlier_ahead c.self.inside.images.items c.self.inside.config c.self.inside.track
    c.self.inside.reached c.self.inside.failed kept.1 kept.2 c.next.result c.next.ensures
    c.self.invariant.2
    (let less = c.if-self.true in omega (arith, less))))

pub returns-in-Some-Runs-clause-misfit : goal.returns-in-Some-Runs-clause-misfit
returns-in-Some-Runs-clause-misfit c =
    let kept = c.self.invariant.6 (ap (λ (p : Played). p.failed) c.self.view_is ∙ c.requires) in
    let kind : kind_type = Runs c.in-Some-Runs.thread in
    let next : HasNext (Some kind) c.self.inside.track.walker = (λ o e. c.next-2.ensures o e
    ∙ ap kinds_named (c.in-Some-Runs.is ∙ ap Some c.in-Some-Runs.field-0-is)) in
    subst (λ (p : Played). Misfits p None) c.self.view_is
    (ahead_fits c.self.inside.images.items c.self.inside.config c.self.inside.track
    c.self.inside.reached c.self.inside.failed kept.1 kept.2
    (Some kind) next
    (unasked_ahead c.self.inside.images.items c.self.inside.config c.self.inside.track
    c.self.inside.reached c.self.inside.failed kept.1 kept.2 kind tt next))

pub returns-in-Some-Faults-clause-misfit : goal.returns-in-Some-Faults-clause-misfit
returns-in-Some-Faults-clause-misfit c =
    let kept = c.self.invariant.6 (ap (λ (p : Played). p.failed) c.self.view_is ∙ c.requires) in
    let kind : kind_type = Faults c.in-Some-Faults.thread c.in-Some-Faults.number in
    let next : HasNext (Some kind) c.self.inside.track.walker = (λ o e. c.next-2.ensures o e
    ∙ ap kinds_named (c.in-Some-Faults.is ∙ ap Some c.in-Some-Faults.field-0-is)) in
    subst (λ (p : Played). Misfits p None) c.self.view_is
    (ahead_fits c.self.inside.images.items c.self.inside.config c.self.inside.track
    c.self.inside.reached c.self.inside.failed kept.1 kept.2
    (Some kind) next
    (unasked_ahead c.self.inside.images.items c.self.inside.config c.self.inside.track
    c.self.inside.reached c.self.inside.failed kept.1 kept.2 kind tt next))

pub returns-in-None-clause-misfit : goal.returns-in-None-clause-misfit
returns-in-None-clause-misfit c =
    let kept = c.self.invariant.6 (ap (λ (p : Played). p.failed) c.self.view_is ∙ c.requires) in
    let next : HasNext None c.self.inside.track.walker = (λ o e. c.next-2.ensures o e
    ∙ ap kinds_named c.in-None.is) in
    subst (λ (p : Played). Misfits p None) c.self.view_is
    (ahead_fits c.self.inside.images.items c.self.inside.config c.self.inside.track
    c.self.inside.reached c.self.inside.failed kept.1 kept.2
    None next
    (over_ahead c.self.inside.images.items c.self.inside.config c.self.inside.track
    c.self.inside.reached c.self.inside.failed kept.1 kept.2 next))

pub returns-then-is_last_exit-clause-kind : goal.returns-then-is_last_exit-clause-kind
returns-then-is_last_exit-clause-kind c =
    let kept = c.self.invariant.6 (ap (λ (p : Played). p.failed) c.self.view_is ∙ c.requires) in
    subst (λ (p : Played). IsAhead p (Some c.in-Some.kind)) c.self.view_is
    (exit_ahead c.self.inside.images.items c.self.inside.config c.self.inside.track
    c.self.inside.reached c.self.inside.failed kept.1 kept.2
    (c.is_last_exit.ensures c.if-is_last_exit.true) c.in-Some.kind
    (λ o e. c.next-2.ensures o e ∙ ap kinds_named c.in-Some.is))

pub returns-then-is_last_exit-clause-stands : goal.returns-then-is_last_exit-clause-stands
returns-then-is_last_exit-clause-stands c =
    let kept = c.self.invariant.6 (ap (λ (p : Played). p.failed) c.self.view_is ∙ c.requires) in
    subst Stands c.self.view_is
    (stands_there c.self.inside.images.items c.self.inside.config c.self.inside.track
    c.self.inside.reached c.self.inside.failed kept.1 kept.2 kept.0.used)

pub returns-then-is_last_exit-clause-misfit : goal.returns-then-is_last_exit-clause-misfit
returns-then-is_last_exit-clause-misfit c =
    let kept = c.self.invariant.6 (ap (λ (p : Played). p.failed) c.self.view_is ∙ c.requires) in
    let next : HasNext (Some c.in-Some.kind) c.self.inside.track.walker =
    (λ o e. c.next-2.ensures o e ∙ ap kinds_named c.in-Some.is) in
    subst (λ (p : Played). Misfits p None) c.self.view_is
    (ahead_fits c.self.inside.images.items c.self.inside.config c.self.inside.track
    c.self.inside.reached c.self.inside.failed kept.1 kept.2 (Some c.in-Some.kind) next
    (exit_ahead c.self.inside.images.items c.self.inside.config c.self.inside.track
    c.self.inside.reached c.self.inside.failed kept.1 kept.2
    (c.is_last_exit.ensures c.if-is_last_exit.true) c.in-Some.kind next))
