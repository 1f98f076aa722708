use Rattle.std.proofs.Common.{ℕ, ap, subst, sym, ◌∙◌, true, refl, Option, Some, None}
use Rattle.recorded_walk.specs.Playbacks.{Played}
use Rattle.recorded_walk.proofs.Places.{seen_of, stands_there}
use Rattle.recorded_walk.proofs.Kept.{IsAhead, come_on, come_still, kept_no_more, kept_on}
use Rattle.recorded_walk.proofs.Kept.{kept_still}
use Rattle.recorded_walk.proofs.Kept.{last_ahead, last_is, misfit_is, nowhere_ahead}
use Rattle.recorded_walk.proofs.Kept.{stepped_ahead, stepped_heard, track_still, true_is}
use Rattle.recorded_walk.proofs.Kept.{Misfits, found_misfits, last_misfits, stepped_fits}
use Rattle.group_walk.specs.Walks.{Walk}
use Rattle.debug_session.specs.Positions.{Position, position_after}
use Rattle.recorded_walk.specs.Following.{log_entries}
use Rattle.recorded_walk.specs.Playbacks.{KnowsMisfit, HasNoMore, Heard, IsStartOf}
use Rattle.recorded_walk.proofs.playback.Playback.make_next.Goals as goal

pub invariant_of-self : goal.invariant_of-self
invariant_of-self c =
    kept_still c.self.inside.images.items c.self.inside.config c.self.inside.track
    c.hear_nothing.new.self c.self.inside.reached c.self.inside.last c.self.inside.misfit
    c.self.inside.entries c.self.inside.failed
    (record {
      walker = c.hear_nothing.ensures.walker;
      shim = c.hear_nothing.ensures.shim;
      moves = c.hear_nothing.ensures.moves;
    }) c.self.invariant

pub returns-then-eq-clause-kind : goal.returns-then-eq-clause-kind
returns-then-eq-clause-kind c =
    let kept = c.self.invariant.6 (ap (λ (p : Played). p.failed) c.self.view_is
    ∙ c.requires) in
    subst (λ (p : Played). IsAhead p None) c.self.view_is
    (last_ahead c.self.inside.images.items c.self.inside.config c.self.inside.track
    c.self.inside.reached c.self.inside.failed kept.1 kept.2
    (subst (HasNoMore c.self.inside.images.items c.self.inside.config
    (log_entries c.self.inside.track.shim.log))
    (last_is c.self.inside.last c.self.inside.track.moves (sym c.eq.ensures ∙ c.if-eq.true))
    c.self.invariant.3))

pub returns-then-eq-clause-stands : goal.returns-then-eq-clause-stands
returns-then-eq-clause-stands c =
    let kept = c.self.invariant.6 (ap (λ (p : Played). p.failed) c.self.view_is
    ∙ c.requires) in
    stands_there c.self.inside.images.items c.self.inside.config c.hear_nothing.new.self
    c.self.inside.reached c.self.inside.failed (come_still _ c.self.inside.track
    c.hear_nothing.new.self (record {
      walker = c.hear_nothing.ensures.walker;
      shim = c.hear_nothing.ensures.shim;
      moves = c.hear_nothing.ensures.moves;
    }) kept.1) (ap (λ (w : Walk). w.config) c.hear_nothing.ensures.walker ∙ kept.2)
    (track_still c.self.inside.track c.hear_nothing.new.self (record {
      walker = c.hear_nothing.ensures.walker;
      shim = c.hear_nothing.ensures.shim;
      moves = c.hear_nothing.ensures.moves;
    }) kept.0).used

pub invariant_of-self-in-Ok : goal.invariant_of-self-in-Ok
invariant_of-self-in-Ok c =
    let kept = c.self.invariant.6 (ap (λ (p : Played). p.failed) c.self.view_is
    ∙ c.requires) in
    kept_on c.self.inside.images.items c.self.inside.config c.in-Ok.kind c.self.inside.track
    c.step.new.self c.self.inside.reached c.self.inside.last c.self.inside.misfit
    c.self.inside.entries c.furthest-self-inside.result c.self.inside.failed
    c.in-Ok.ensures.steps c.in-Ok.ensures.same c.in-Ok.ensures.on_track
    c.furthest-self-inside.ensures.one c.furthest-self-inside.ensures.second kept c.self.invariant

pub invariant_of-self-in-Err-Misfit : goal.invariant_of-self-in-Err-Misfit
invariant_of-self-in-Err-Misfit c =
    let kept = c.self.invariant.6 (ap (λ (p : Played). p.failed) c.self.view_is
    ∙ c.requires) in
    kept_no_more c.self.inside.images.items c.self.inside.config c.self.inside.track
    c.step.new.self c.self.inside.reached c.self.inside.last c.self.inside.misfit
    c.in-Err-Misfit.found c.self.inside.entries c.self.inside.failed true
    c.in-Err-Misfit.ensures.same
    (c.in-Err-Misfit.ensures.misfit c.in-Err-Misfit.found
    (misfit_is _ _ _ c.in-Err-Misfit.field-0-is))
    (c.in-Err-Misfit.ensures.found c.in-Err-Misfit.found
    (misfit_is _ _ _ c.in-Err-Misfit.field-0-is)) kept c.self.invariant true_is

pub returns-in-Ok-clause-kind : goal.returns-in-Ok-clause-kind
returns-in-Ok-clause-kind c =
    let kept = c.self.invariant.6 (ap (λ (p : Played). p.failed) c.self.view_is
    ∙ c.requires) in
    subst (λ (p : Played). IsAhead p c.in-Ok.kind) c.self.view_is
    (stepped_ahead c.self.inside.images.items c.self.inside.config c.self.inside.track
    c.self.inside.reached c.self.inside.failed kept.1 kept.2 c.in-Ok.kind c.step.new.self
    c.in-Ok.ensures.steps)

pub returns-in-Ok-clause-stands : goal.returns-in-Ok-clause-stands
returns-in-Ok-clause-stands c =
    let kept = c.self.invariant.6 (ap (λ (p : Played). p.failed) c.self.view_is
    ∙ c.requires) in
    stands_there c.self.inside.images.items c.self.inside.config c.step.new.self
    c.furthest-self-inside.result c.self.inside.failed
    (come_on c.self.inside.images.items c.self.inside.config c.in-Ok.kind c.self.inside.track
    c.step.new.self c.in-Ok.ensures.steps c.in-Ok.ensures.same kept.1)
    (c.in-Ok.ensures.same.config ∙ kept.2) c.in-Ok.ensures.on_track.used

pub returns-in-Ok-clause-heard : goal.returns-in-Ok-clause-heard
returns-in-Ok-clause-heard c =
    let kept = c.self.invariant.6 (ap (λ (p : Played). p.failed) c.self.view_is
    ∙ c.requires) in
    subst (λ (p : Played). (start : Position) → IsStartOf p start
    → Heard (seen_of c.self.inside.images.items c.self.inside.config c.step.new.self
    c.furthest-self-inside.result c.self.inside.failed)
    (position_after p.moves start).moment.world
    (position_after c.step.new.self.moves start).moment.world) c.self.view_is
    (stepped_heard c.self.inside.images.items c.self.inside.config c.self.inside.track
    c.step.new.self c.self.inside.reached c.self.inside.failed
    (seen_of c.self.inside.images.items c.self.inside.config c.step.new.self
    c.furthest-self-inside.result c.self.inside.failed) c.in-Ok.kind kept.1 kept.2
    c.in-Ok.ensures.steps c.in-Ok.ensures.same refl refl)

pub returns-in_ok-come_back-in-Err-Misfit-clause-kind :
    goal.returns-in_ok-come_back-in-Err-Misfit-clause-kind
returns-in_ok-come_back-in-Err-Misfit-clause-kind c =
    let kept = c.self.invariant.6 (ap (λ (p : Played). p.failed) c.self.view_is
    ∙ c.requires) in
    subst (λ (p : Played). IsAhead p None) c.self.view_is
    (nowhere_ahead c.self.inside.images.items c.self.inside.config c.self.inside.track
    c.self.inside.reached c.self.inside.failed kept.1 kept.2
    (c.in-Err-Misfit.ensures.misfit c.in-Err-Misfit.found
    (misfit_is _ _ _ c.in-Err-Misfit.field-0-is)))

pub returns-then-eq-clause-misfit : goal.returns-then-eq-clause-misfit
returns-then-eq-clause-misfit c =
    let kept = c.self.invariant.6 (ap (λ (p : Played). p.failed) c.self.view_is
    ∙ c.requires) in
    subst (λ (p : Played). Misfits p c.self.inside.misfit) c.self.view_is
    (last_misfits c.self.inside.images.items c.self.inside.config c.self.inside.track
    c.self.inside.reached c.self.inside.failed kept.1 kept.2
    c.self.inside.misfit
    (subst (λ (last : Option ℕ). KnowsMisfit c.self.inside.images.items c.self.inside.config
    (log_entries c.self.inside.track.shim.log) last c.self.inside.misfit)
    (last_is c.self.inside.last c.self.inside.track.moves (sym c.eq.ensures ∙ c.if-eq.true))
    c.self.invariant.4))

pub returns-in-Ok-clause-misfit : goal.returns-in-Ok-clause-misfit
returns-in-Ok-clause-misfit c =
    let kept = c.self.invariant.6 (ap (λ (p : Played). p.failed) c.self.view_is
    ∙ c.requires) in
    subst (λ (p : Played). Misfits p None) c.self.view_is
    (stepped_fits c.self.inside.images.items c.self.inside.config c.self.inside.track
    c.self.inside.reached c.self.inside.failed kept.1 kept.2
    c.in-Ok.kind c.step.new.self c.in-Ok.ensures.steps)

pub returns-in_ok-come_back-in-Err-Misfit-clause-misfit :
    goal.returns-in_ok-come_back-in-Err-Misfit-clause-misfit
returns-in_ok-come_back-in-Err-Misfit-clause-misfit c =
    let kept = c.self.invariant.6 (ap (λ (p : Played). p.failed) c.self.view_is
    ∙ c.requires) in
    subst (λ (p : Played). Misfits p (Some c.in-Err-Misfit.found)) c.self.view_is
    (found_misfits c.self.inside.images.items c.self.inside.config c.self.inside.track
    c.self.inside.reached c.self.inside.failed kept.1 kept.2
    c.in-Err-Misfit.found (c.in-Err-Misfit.ensures.found c.in-Err-Misfit.found
    (misfit_is _ _ _ c.in-Err-Misfit.field-0-is)) kept.0.used)
