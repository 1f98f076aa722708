use Rattle.std.proofs.Common.{◌+◌, ◌∙◌, ap, sym, min, ltb}
use Rattle.kernel_calls.specs.StateWorld.{sent, world_of}
use Rattle.debug_hits.proofs.Overlaps.{part_none, part_some}
use Rattle.debug_hits.proofs.touches.is_part_touched.Goals as goal

pub returns-in-None : goal.returns-in-None
returns-in-None c q o e =
    let w = sent o e (world_of q c.args.state.now) in
    part_none w c.args.process c.args.address c.args.count c.args.first
    c.args.touched c.requires.within (c.in-None.ensures.place q o e)

pub returns-in-Some : goal.returns-in-Some
returns-in-Some c q o e =
    let w = sent o e (world_of q c.args.state.now) in
    part_some w c.args.process c.args.address c.args.count c.args.first
    c.args.touched c.requires.within c.in-Some.place (c.in-Some.ensures.place q o e)
    ∙ ap (λ k. ltb k (min (c.args.first + c.args.touched) (c.in-Some.place + c.args.count)))
    (sym c.max-low.ensures)
    ∙ ap (ltb c.max-low.result)
    (sym (c.min-high.ensures
    ∙ ap (λ k. min (c.args.first + k) (c.in-Some.place + c.from-in-Some.result)) c.from.ensures
    ∙ ap (λ k. min (c.args.first + c.args.touched) (c.in-Some.place + k)) c.from-in-Some.ensures))
