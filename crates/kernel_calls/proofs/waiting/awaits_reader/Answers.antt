use Rattle.std.proofs.Common.{false, length, refl, sym, ap, ◌∙◌}
use Rattle.std.specs.Prelude.{◌&&◌, nat_le, nat_lt}
use Rattle.kernel_objects.specs.Pipework.{bytes_at, ends_at}
use Rattle.kernel_calls.proofs.Waits.{pipe_write_tells}
use Rattle.kernel_calls.proofs.waiting.awaits_reader.Goals as goal

pub returns-then-are_reached : goal.returns-then-are_reached
returns-then-are_reached c = λ q o e.
    ap (λ b. b && c.is_full.result) (sym c.if-are_reached.true)
    ∙ pipe_write_tells c.args.state.now c.requires.sound.counted c.args.asked.now c.args.pipe q o e
    c.are_reached.result c.is_full.result c.are_reached.ensures c.is_full.ensures

pub returns-else-are_reached : goal.returns-else-are_reached
returns-else-are_reached c = λ q o e.
    c.if-are_reached.false
    ∙ ap (λ b. b && (nat_lt 0 (ends_at c.args.state.now.pipes c.args.pipe false)
    && nat_le 4096 (length (bytes_at c.args.state.now.pipes c.args.pipe))))
    (sym c.if-are_reached.false)
    ∙ pipe_write_tells c.args.state.now c.requires.sound.counted c.args.asked.now c.args.pipe q o e
    c.are_reached.result _ c.are_reached.ensures refl
