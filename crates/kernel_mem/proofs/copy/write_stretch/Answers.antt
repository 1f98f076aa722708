use Rattle.std.proofs.Common.{◌<◌, length, arith}
use Rattle.std.proofs.lemmas.Bool.Decides.{nat_tests}
use Rattle.dos_world.specs.declared.Access.TheVariants.{Store}
use Rattle.kernel_mem.proofs.Reaching.{opened-home, stretch_allowed}
use Rattle.kernel_mem.proofs.Copying.{stretch_written}
use Rattle.kernel_mem.proofs.Keeping.{written-others}
use Rattle.kernel_mem.proofs.copy.write_stretch.Goals as goal

pub open-frame-requires-clause-allowed : goal.open-frame-requires-clause-allowed
open-frame-requires-clause-allowed c =
    let some : 0 < length c.args.part.now =
    grind (arith, nat_tests, c.is_empty.ensures, c.if-is_empty.false) in
    stretch_allowed c.args.frames.now c.args.table.now c.args.tid c.args.address
    (length c.args.part.now) Store some c.requires.within c.requires.checked

pub lend_mut-requires : goal.lend_mut-requires
lend_mut-requires c =
    opened-home c.open-frame.ensures.has c.requires.home c.open-frame.ensures.opens

pub returns-clause-copies : goal.returns-clause-copies
returns-clause-copies c = λ w.
    let some : 0 < length c.args.part.now =
    grind (arith, nat_tests, c.is_empty.ensures, c.if-is_empty.false) in
    stretch_written w c.copy_from.new.self c.args.part.now c.open-frame.ensures.has
    c.open-frame.ensures.opens some c.requires.within c.lend_mut.ensures.page c.copy_from.ensures

pub returns-clause-stays : goal.returns-clause-stays
returns-clause-stays c = written-others c.args.frames.now c.open-frame.new.frames
    c.open-frame.result c.args.tid c.copy_from.new.self c.requires.home
    c.open-frame.ensures.has.owned c.open-frame.ensures.opens
