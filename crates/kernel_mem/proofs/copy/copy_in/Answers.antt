use Rattle.std.proofs.Common.{length, refl, ap, ◌∙◌, arith}
use Rattle.dos_world.specs.declared.Access.TheVariants.{Load}
use Rattle.kernel_mem.specs.MemoryWorld.{in_world}
use Rattle.kernel_mem.proofs.Reaching.{reach_front, reach_back, reach_stores}
use Rattle.kernel_mem.proofs.Copying.{read_split, prefixed}
use Rattle.kernel_mem.proofs.copy.copy_in.Goals as goal

pub read_stretch-requires-clause-checked : goal.read_stretch-requires-clause-checked
read_stretch-requires-clause-checked c = λ w.
    reach_front (in_world w c.args.frames.now c.args.table.now) c.args.tid c.args.address
    (length c.split_at_mut-front.result.0.now) _ (length c.split_at_mut-front.result.1.now)
    (length c.args.buffer.now) Load refl (omega arith) (c.requires.checked w)

pub read_stretch-requires-2-clause-checked : goal.read_stretch-requires-2-clause-checked
read_stretch-requires-2-clause-checked c = λ w.
    reach_stores w c.read_stretch.new.frames c.args.frames.now c.args.table.now c.args.tid _
    (length c.split_at_mut-front.result.1.now) Load ∙
    reach_back (in_world w c.args.frames.now c.args.table.now) c.args.tid c.args.address
    (length c.split_at_mut-front.result.0.now) _ (length c.split_at_mut-front.result.1.now)
    (length c.args.buffer.now) Load (omega arith) (omega arith) (c.requires.checked w)

pub returns-clause-copies : goal.returns-clause-copies
returns-clause-copies c = λ w.
    read_split (in_world w c.args.frames.now c.args.table.now)
    (in_world w c.read_stretch.new.frames c.args.table.now) c.args.tid c.args.address
    (length c.split_at_mut-front.result.0.now) _ (length c.split_at_mut-front.result.1.now)
    (length c.args.buffer.now) c.read_stretch.new.part
    (c.read_stretch.ensures.copies w) (omega arith) (omega arith)
    ∙ ap (prefixed c.read_stretch.new.part) (c.read_stretch-2.ensures.copies w)
