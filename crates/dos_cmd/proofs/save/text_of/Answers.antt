use Rattle.std.proofs.Common.{◌∙◌, ap, ap₂}
use Rattle.dos_world.specs.declared.Config.{Config}
use Rattle.kernel_calls.specs.StateWorld.{world_of}
use Rattle.kernel_calls.specs.declared.state.State.{State}
use Rattle.group_text.specs.GroupText.{grouptext}
use Rattle.group_text.specs.Groups.{group_of}
use Rattle.dos_cmd.proofs.SaveEnds.{came_back}
use Rattle.dos_cmd.proofs.save.text_of.Goals as goal

pub returns-in-Ok-write_group-clause-back : goal.returns-in-Ok-write_group-clause-back
returns-in-Ok-write_group-clause-back c =
    let recorded = c.in-Ok.ensures in
    let kernel = ap₂ (λ (config : Config) (s : State). group_of c.args.digest c.args.used config
    (world_of config.quantum s)) c.config-config.ensures c.into_state.ensures.state in
    let is = recorded.is ∙ kernel in
    let world = recorded.world ∙ ap₂ (λ (config : Config) (s : State). world_of config.quantum s)
    c.config-config.ensures c.into_state.ensures.state in
    came_back _ _ _ is recorded.fits recorded.lawful world

pub returns-in-Ok-write_group-clause-text : goal.returns-in-Ok-write_group-clause-text
returns-in-Ok-write_group-clause-text c =
    c.in-Ok-write_group.ensures
    ∙ ap grouptext (c.in-Ok.ensures.is
    ∙ ap₂ (λ (config : Config) (s : State). group_of c.args.digest c.args.used config
    (world_of config.quantum s)) c.config-config.ensures c.into_state.ensures.state)
