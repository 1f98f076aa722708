use Rattle.std.proofs.Common.{true, length, refl, sym, ap, ◌∙◌}
use Rattle.std.specs.Prelude.{◌==◌, ◌&&◌, nat_lt}
use Rattle.kernel_objects.specs.Pipework.{bytes_at, ends_at}
use Rattle.kernel_calls.proofs.Waits.{pipe_read_tells}
use Rattle.kernel_calls.proofs.waiting.awaits_writer.Goals as goal

pub returns-then-are_reached : goal.returns-then-are_reached
returns-then-are_reached c = λ q o e.
    ap (λ b. b && c.is_dry.result) (sym c.if-are_reached.true)
    ∙ pipe_read_tells c.args.state.now c.requires.sound.counted c.args.asked.now c.args.pipe q o e
    c.are_reached.result c.is_dry.result c.are_reached.ensures c.is_dry.ensures

pub returns-else-are_reached : goal.returns-else-are_reached
returns-else-are_reached c = λ q o e.
    c.if-are_reached.false
    ∙ ap (λ b. b && ((length (bytes_at c.args.state.now.pipes c.args.pipe) == 0)
    && nat_lt 0 (ends_at c.args.state.now.pipes c.args.pipe true)))
    (sym c.if-are_reached.false)
    ∙ pipe_read_tells c.args.state.now c.requires.sound.counted c.args.asked.now c.args.pipe q o e
    c.are_reached.result _ c.are_reached.ensures refl
