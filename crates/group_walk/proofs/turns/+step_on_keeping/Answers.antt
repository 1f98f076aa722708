use Rattle.std.proofs.Common.{rules, [], sym, subst}
use Rattle.dos_world.specs.declared.Access.TheVariants.{Load, Store}
use Rattle.kernel_calls.specs.StateWorld.{sent, world_of}
use Rattle.group_walk.specs.Stretches.{StepsOn}
use Rattle.group_walk.proofs.Guarding.{given_back, of_is_used, sound_given, steps_leaving}
use Rattle.group_walk.proofs.Guarding.{used_there}
use Rattle.group_walk.proofs.turns.+step_on_keeping.Goals as goal

-- a frame of another
pub returns-then-not-is_owned-clause-steps : goal.returns-then-not-is_owned-clause-steps
returns-then-not-is_owned-clause-steps t c = λ q o e.
    subst (λ ks. StepsOn c.args.stops.now ks c.step_on_keeping.result
    (sent o e (world_of q c.args.state.now)) c.args.tid
    (sent o e (world_of q c.step_on_keeping.new.state))) (sym c.in-Some.ensures.cases.0)
    (steps_leaving c.args.stops.now c.in-Some.others.now c.args.tid c.in-Some.frame.now
    c.step_on_keeping.result (sent o e (world_of q c.args.state.now))
    (sent o e (world_of q c.step_on_keeping.new.state))
    (c.is_owned.ensures.other q o e c.if-not-is_owned.true)
    (c.step_on_keeping.ensures.steps q o e))

-- the frame is the thread's
pub grant-requires : goal.grant-requires
grant-requires t c =
    of_is_used c.args.tid _ (c.is_owned.ensures.owned 0 [] [] c.if-not-is_owned.false)

pub step_on_keeping-steps-requires : goal.step_on_keeping-steps-requires
step_on_keeping-steps-requires t c = (
  search rules,
  (
    sound_given c.args.state.now c.args.tid c.in-Some.frame.now Load c.requires.sound
        c.requires.live
        (of_is_used c.args.tid _ (c.is_owned.ensures.owned 0 [] [] c.if-not-is_owned.false))
        c.grant.new.self c.grant.ensures,
    c.requires.live,
  ),
)

pub grant-requires-2 : goal.grant-requires-2
grant-requires-2 t c =
    used_there c.args.state.now c.args.tid c.in-Some.frame.now
    (c.is_owned.ensures.owned 0 [] [] c.if-not-is_owned.false) c.grant.new.self c.grant.ensures
    c.step_on_keeping-steps.new.state c.args.stops.now c.in-Some.others.now
    c.step_on_keeping-steps.result c.step_on_keeping-steps.ensures.steps

pub returns-clause-steps : goal.returns-clause-steps
returns-clause-steps t c = λ q o e.
    subst (λ ks. StepsOn c.args.stops.now ks c.step_on_keeping-steps.result
    (sent o e (world_of q c.args.state.now)) c.args.tid
    (sent o e (world_of q (record c.step_on_keeping-steps.new.state {
      frames = c.grant-2.new.self;
    })))) (sym c.in-Some.ensures.cases.0)
    (given_back c.args.state.now c.args.tid c.in-Some.frame.now
    (c.is_owned.ensures.owned 0 [] [] c.if-not-is_owned.false) c.grant.new.self c.grant.ensures
    c.step_on_keeping-steps.new.state c.args.stops.now c.in-Some.others.now
    c.step_on_keeping-steps.result c.step_on_keeping-steps.ensures.steps c.grant-2.new.self
    c.grant-2.ensures q o e)

pub returns-clause-sound : goal.returns-clause-sound
returns-clause-sound t c =
    sound_given c.step_on_keeping-steps.new.state c.args.tid c.in-Some.frame.now Store
    c.step_on_keeping-steps.ensures.sound
    (c.step_on_keeping-steps.ensures.live c.args.tid c.requires.live)
    (used_there c.args.state.now c.args.tid c.in-Some.frame.now
    (c.is_owned.ensures.owned 0 [] [] c.if-not-is_owned.false) c.grant.new.self c.grant.ensures
    c.step_on_keeping-steps.new.state c.args.stops.now c.in-Some.others.now
    c.step_on_keeping-steps.result c.step_on_keeping-steps.ensures.steps) c.grant-2.new.self
    c.grant-2.ensures
