use Rattle.std.proofs.Common.{List, All, ◌∙◌, ap, sym, subst}
use Rattle.quantum_run.specs.Shows.{Pack}
use Rattle.kernel_calls.specs.StateWorld.{IsSound, StaysInRound, sent, world_of}
use Rattle.kernel_calls.specs.declared.state.State.{State}
use Rattle.group_rounds.specs.Buffers.{CanBePut, parts_put}
use Rattle.group_rounds.specs.Parts.{KeepsCount}
use Rattle.group_rounds.proofs.buffers.run_and_put.Goals as goal

pub put_parts-requires-clause-sound : goal.put_parts-requires-clause-sound
put_parts-requires-clause-sound g c =
    subst IsSound (sym c.run_out.ensures.state) c.requires.sound

pub put_parts-requires-clause-parts : goal.put_parts-requires-clause-parts
put_parts-requires-clause-parts g c =
    let qs = c.run_out.new.packs.items in
    subst (λ (ps : List Pack). All (CanBePut c.run_out.new.state) ps) (sym c.as_slice.ensures.value)
    (subst (λ (x : State). All (CanBePut x) qs) (sym c.run_out.ensures.state)
    (c.requires.parts qs c.run_out.ensures.runs))

pub returns-clause-puts : goal.returns-clause-puts
returns-clause-puts g c = λ q o e.
    let ps = c.run_out.new.packs.items in
    ap (λ (x : State). parts_put (sent o e (world_of q x)) ps) (sym c.run_out.ensures.state)
    ∙ ap (parts_put (sent o e (world_of q c.run_out.new.state))) (sym c.as_slice.ensures.value)
    ∙ c.put_parts.ensures.puts q o e

pub returns-clause-round : goal.returns-clause-round
returns-clause-round g c = subst (λ (x : State). StaysInRound x c.put_parts.new.state)
    c.run_out.ensures.state c.put_parts.ensures.round

pub returns-clause-count : goal.returns-clause-count
returns-clause-count g c = subst (λ (x : State). KeepsCount x c.put_parts.new.state)
    c.run_out.ensures.state c.put_parts.ensures.count
