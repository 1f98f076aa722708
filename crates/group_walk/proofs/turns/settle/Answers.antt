use Rattle.std.proofs.Common.{◌-◌, ◌≡◌, suc, arith, ap, ◌∙◌, Some}
use Rattle.flat_machine.specs.Rest.{settled}
use Rattle.kernel_calls.specs.StateWorld.{sent, world_of}
use Rattle.group_walk.proofs.Turned.{settled_done, settled_fault, settled_grant, settled_out}
use Rattle.group_walk.proofs.Turned.{settled_service}
use Rattle.group_walk.proofs.turns.settle.Goals as goal

pub returns-in-Some-Fault-clause-settles : goal.returns-in-Some-Fault-clause-settles
returns-in-Some-Fault-clause-settles c = λ q o e.
    c.loop-left.invariant.settles q o e
    ∙ settled_fault (sent o e (world_of q c.loop-left.state)) c.args.tid c.loop-left.left
    c.in-Some-Fault.number
    (c.why_stops.ensures q o e ∙ c.in-Some-Fault.is ∙ ap Some c.in-Some-Fault.field-0-is)

pub returns-in-Some-Service-clause-settles : goal.returns-in-Some-Service-clause-settles
returns-in-Some-Service-clause-settles c = λ q o e.
    c.loop-left.invariant.settles q o e
    ∙ settled_service (sent o e (world_of q c.loop-left.state)) c.args.tid c.loop-left.left
    (c.why_stops.ensures q o e ∙ c.in-Some-Service.is ∙ ap Some c.in-Some-Service.field-0-is)

pub returns-in-None-clause-settles : goal.returns-in-None-clause-settles
returns-in-None-clause-settles c = λ q o e.
    c.loop-left.invariant.settles q o e
    ∙ settled_done (sent o e (world_of q c.loop-left.state)) c.args.tid c.loop-left.left
    (c.why_stops.ensures q o e ∙ c.in-None.is)

pub loop-left-preserved : goal.loop-left-preserved
loop-left-preserved c = record {
  settles = λ q o e.
      let one : c.loop-left.left ≡ suc (c.loop-left.left - 1) =
      (let some = c.loop-left-test.true in omega (arith, some)) in
      c.loop-left.invariant.settles q o e
      ∙ settled_grant (sent o e (world_of q c.loop-left.state)) c.args.tid (c.loop-left.left - 1)
      c.loop-left.left c.in-Some-Page.address c.in-Some-Page.access one
      (c.why_stops.ensures q o e ∙ c.in-Some-Page.is ∙ ap Some c.in-Some-Page.field-0-is)
      ∙ ap (λ w. settled (c.loop-left.left - 1) w c.args.tid) (c.grant.ensures.grants q o e);
  table = c.grant.ensures.table ∙ c.loop-left.invariant.table;
  sound = c.grant.ensures.sound;
  parts = λ ts parts. c.grant.ensures.parts ts (c.loop-left.invariant.parts ts parts);
  round = c.grant.ensures.round.round ∙ c.loop-left.invariant.round;
  count = c.grant.ensures.count ∙ c.loop-left.invariant.count;
}

pub returns-clause-settles : goal.returns-clause-settles
returns-clause-settles c = λ q o e.
    c.loop-left.invariant.settles q o e
    ∙ settled_out (sent o e (world_of q c.loop-left.state)) c.args.tid c.loop-left.left
    (let none = c.loop-left-test.false in omega (arith, none))
