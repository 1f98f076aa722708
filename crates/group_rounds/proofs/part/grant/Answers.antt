use Rattle.std.proofs.Common.{[], sym, ap, ◌∙◌, subst}
use Rattle.dos_laws.specs.Standing.{LawfulWith}
use Rattle.page_store.specs.Store.{Store}
use Rattle.kernel_calls.specs.StateWorld.{IsSound, world_of, sent}
use Rattle.group_rounds.proofs.Sound.{parts_then, grant_keeps}
use Rattle.group_rounds.proofs.ThreadRunLaws.{space_is, granted_none, granted_one, owned_one}
use Rattle.group_rounds.proofs.ThreadRunLaws.{sound_granted}
use Rattle.group_rounds.proofs.part.grant.Goals as goal

pub grant-requires : goal.grant-requires
grant-requires c =
    owned_one c.args.state.now c.args.tid c.requires.sound c.requires.live c.args.address
    c.args.access c.space.result.now.entries
    (space_is c.args.state.now c.args.tid c.requires.sound c.requires.live c.process_of-pid.result
    c.space.result.now.entries c.process_of-pid.ensures c.space.ensures.entries)
    c.in-Some.entry (sym c.look.ensures ∙ c.in-Some.is)

pub returns-in-Some-clause-grants : goal.returns-in-Some-clause-grants
returns-in-Some-clause-grants c = λ q o e.
    granted_one c.args.state.now c.args.tid c.requires.sound c.requires.live c.args.address
    c.args.access c.space.result.now.entries
    (space_is c.args.state.now c.args.tid c.requires.sound c.requires.live c.process_of-pid.result
    c.space.result.now.entries c.process_of-pid.ensures c.space.ensures.entries)
    c.in-Some.entry (sym c.look.ensures ∙ c.in-Some.is) q o e
    ∙ ap (λ (frames : Store). sent o e (world_of q (record c.args.state.now { frames = frames })))
    (sym c.grant.ensures)

pub returns-in-Some-clause-sound : goal.returns-in-Some-clause-sound
returns-in-Some-clause-sound c =
    subst (λ (frames : Store). IsSound (record c.args.state.now { frames = frames }))
    (sym c.grant.ensures)
    (sound_granted c.args.state.now c.args.tid c.requires.sound c.requires.live c.args.address
    c.args.access c.space.result.now.entries
    (space_is c.args.state.now c.args.tid c.requires.sound c.requires.live c.process_of-pid.result
    c.space.result.now.entries c.process_of-pid.ensures c.space.ensures.entries)
    c.in-Some.entry (sym c.look.ensures ∙ c.in-Some.is))

pub returns-in_default-clause-grants : goal.returns-in_default-clause-grants
returns-in_default-clause-grants c =
    granted_none c.args.state.now c.args.tid c.requires.sound c.requires.live c.args.address
    c.args.access c.space.result.now.entries
    (space_is c.args.state.now c.args.tid c.requires.sound c.requires.live c.process_of-pid.result
    c.space.result.now.entries c.process_of-pid.ensures c.space.ensures.entries)
    (sym c.look.ensures ∙ c.in_default.is)

-- who has a part has it still
pub returns-in-Some-clause-parts : goal.returns-in-Some-clause-parts
returns-in-Some-clause-parts c = λ ts.
    parts_then c.args.state.now (record c.args.state.now { frames = c.grant.new.self }) ts ts
    c.requires.sound
    (λ k. subst (LawfulWith ts) (returns-in-Some-clause-grants c 16 [] [])
    (grant_keeps ts (world_of 16 c.args.state.now) c.args.tid c.args.address c.args.access k))
