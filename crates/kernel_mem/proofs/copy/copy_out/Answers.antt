use Rattle.std.proofs.Common.{◌+◌, length, refl, ap, ◌∙◌, arith}
use Rattle.dos_world.specs.Kernel.{copied_out}
use Rattle.dos_world.specs.declared.Access.TheVariants.{Store}
use Rattle.kernel_mem.specs.MemoryWorld.{in_world}
use Rattle.kernel_mem.proofs.Reaching.{reach_front, reach_back, reach_stores}
use Rattle.kernel_mem.proofs.Copying.{written_split}
use Rattle.kernel_mem.proofs.Keeping.{others-then}
use Rattle.kernel_mem.proofs.copy.copy_out.Goals as goal

pub write_stretch-requires-clause-checked : goal.write_stretch-requires-clause-checked
write_stretch-requires-clause-checked c = λ w.
    reach_front (in_world w c.args.frames.now c.args.table.now) c.args.tid c.args.address
    (length c.split_at.result.0.now) _ (length c.split_at.result.1.now)
    (length c.args.bytes.now) Store refl (omega arith) (c.requires.checked w)

pub write_stretch-requires-2-clause-checked : goal.write_stretch-requires-2-clause-checked
write_stretch-requires-2-clause-checked c = λ w.
    reach_stores w c.write_stretch.new.frames c.args.frames.now c.args.table.now c.args.tid _
    (length c.split_at.result.1.now) Store ∙
    reach_back (in_world w c.args.frames.now c.args.table.now) c.args.tid c.args.address
    (length c.split_at.result.0.now) _ (length c.split_at.result.1.now)
    (length c.args.bytes.now) Store (omega arith) (omega arith) (c.requires.checked w)

pub returns-clause-copies : goal.returns-clause-copies
returns-clause-copies c = λ w.
    ap (copied_out (in_world w c.args.frames.now c.args.table.now) c.args.tid c.args.address)
    c.split_at.ensures.by_index.0
    ∙ written_split (in_world w c.args.frames.now c.args.table.now)
    (in_world w c.write_stretch.new.frames c.args.table.now) c.args.tid c.args.address
    (c.args.address + c.min-first.result) c.split_at.result.0.now c.split_at.result.1.now
    (c.write_stretch.ensures.copies w) (omega arith)
    ∙ c.write_stretch-2.ensures.copies w

pub returns-clause-stays : goal.returns-clause-stays
returns-clause-stays c = others-then c.args.tid c.args.frames.now c.write_stretch.new.frames
    c.write_stretch-2.new.frames c.write_stretch.ensures.stays c.write_stretch-2.ensures.stays
