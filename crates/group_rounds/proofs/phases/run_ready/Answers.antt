use Rattle.std.proofs.Common.{ℕ, List, ◌∙◌, sym, subst}
use Rattle.flat_machine.specs.Rest.{serial_of}
use Rattle.kernel_calls.specs.StateWorld.{HaveParts}
use Rattle.group_rounds.specs.Outcomes.{Serves}
use Rattle.group_rounds.proofs.Sound.{few_live, parts_begin}
use Rattle.group_rounds.proofs.phases.run_ready.Goals as goal

pub gather-requires-clause-few : goal.gather-requires-clause-few
gather-requires-clause-few g c = few_live c.args.state.now c.requires.sound

-- the state between two rounds is sound, and who is ready has a part
pub run_serial-requires-clause-parts : goal.run_serial-requires-clause-parts
run_serial-requires-clause-parts g c =
    subst (λ ts. HaveParts ts c.args.state.now)
    (sym (c.as_slice.ensures.value ∙ c.gather.ensures.ready))
    (parts_begin c.args.state.now c.requires.sound)

pub returns-clause-serves : goal.returns-clause-serves
returns-clause-serves g c =
    subst (λ (starters : List ℕ). Serves (λ w. serial_of w starters) c.run_serial.result
    c.args.state.now (g.B.Border.state c.args.border.now) c.run_serial.new.state
    (g.B.Border.state c.run_serial.new.border))
    (c.as_slice.ensures.value ∙ c.gather.ensures.ready) c.run_serial.ensures.serves
