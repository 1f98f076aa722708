use Rattle.std.proofs.Common.{ℕ, Some, ◌∙◌, ap, sym, arith}
use Rattle.std.specs.Prelude.{option_map}
use Rattle.std.specs.Global.{Vec}
use Rattle.proc_table.proofs.Moved.{number_read}
use Rattle.debugger.proofs.Imaged.{numbered_map}
use Rattle.debugger.proofs.answers.name_numbered.Goals as goal

pub returns-in-Some : goal.returns-in-Some
returns-in-Some c =
    let at = c.in-Some.ensures.lookup in
    numbered_map (λ (v : Vec ℕ). v.items) c.args.names.now c.args.image
    ∙ ap (option_map (λ (v : Vec ℕ). v.items))
    (number_read c.args.names.now c.args.image c.in-Some.name.now
    (omega (arith, c.if-image-eq0.false)) (omega (arith, at.3.0, c.if-image-eq0.false)) at.1)
    ∙ ap Some (sym c.as_slice.ensures.value)
