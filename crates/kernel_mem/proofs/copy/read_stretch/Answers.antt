use Rattle.std.proofs.Common.{◌≡◌, ◌+◌, ◌-◌, ◌%◌, ◌<◌, length, take, drop, ap, ◌∙◌, arith}
use Rattle.std.proofs.lemmas.Bool.Decides.{nat_tests}
use Rattle.dos_world.specs.declared.Access.TheVariants.{Load}
use Rattle.kernel_mem.proofs.Reaching.{opened-home, stretch_allowed}
use Rattle.kernel_mem.proofs.Copying.{stretch_read}
use Rattle.kernel_mem.proofs.Keeping.{open-reads}
use Rattle.kernel_mem.proofs.copy.read_stretch.Goals as goal

pub open-frame-requires-clause-allowed : goal.open-frame-requires-clause-allowed
open-frame-requires-clause-allowed c =
    let some : 0 < length c.args.part.now =
    grind (arith, nat_tests, c.is_empty.ensures, c.if-is_empty.false) in
    stretch_allowed c.args.frames.now c.args.table.now c.args.tid c.args.address
    (length c.args.part.now) Load some c.requires.within c.requires.checked

pub lend-requires : goal.lend-requires
lend-requires c =
    opened-home c.open-frame.ensures.has c.requires.home c.open-frame.ensures.opens

pub returns-clause-copies : goal.returns-clause-copies
returns-clause-copies c = λ w.
    let some : 0 < length c.args.part.now =
    grind (arith, nat_tests, c.is_empty.ensures, c.if-is_empty.false) in
    let all : (c.args.address % 4096 + length c.args.part.now) - c.args.address % 4096
    ≡ length c.args.part.now = omega arith in
    stretch_read w (length c.args.part.now) c.open-frame.ensures.has c.requires.home
    c.open-frame.ensures.opens some c.requires.within c.lend.ensures
    (c.copy_from_slice.ensures.after
    ∙ ap (λ n. take n (drop (c.args.address % 4096) c.bytes.result.now)) all
    ∙ ap (λ xs. take (length c.args.part.now) (drop (c.args.address % 4096) xs))
    c.bytes.ensures.value)

pub returns-clause-stays : goal.returns-clause-stays
returns-clause-stays c = open-reads c.args.frames.now c.open-frame.new.frames
    c.open-frame.result c.args.tid c.open-frame.ensures.has.owned c.open-frame.ensures.opens
