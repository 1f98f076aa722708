use Rattle.std.proofs.Common.{◌∙◌, sym, ap}
use Rattle.kernel_mem.specs.MemoryWorld.{in_world, is_allowed}
use Rattle.kernel_mem.proofs.Reaching.{reach_page}
use Rattle.kernel_mem.proofs.copy.is_stretch_reached.Goals as goal

pub returns-in-Some : goal.returns-in-Some
returns-in-Some c = λ w s.
    c.has_right.ensures ∙ ap (is_allowed c.args.access) c.in-Some.ensures
    ∙ sym (reach_page (in_world w s c.args.table.now) c.args.tid c.args.address c.args.length
    c.args.access c.requires.some c.requires.within)

pub returns-in-None : goal.returns-in-None
returns-in-None c = λ w s.
    ap (is_allowed c.args.access) c.in-None.ensures
    ∙ sym (reach_page (in_world w s c.args.table.now) c.args.tid c.args.address c.args.length
    c.args.access c.requires.some c.requires.within)
