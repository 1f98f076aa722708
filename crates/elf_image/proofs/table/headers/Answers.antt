use Rattle.std.proofs.Common.{◌-◌, ap, arith, length}
use Rattle.elf_image.specs.Fields.{headers}
use Rattle.elf_image.proofs.TableLaws.{none_read, one_more, all_read}
use Rattle.elf_image.proofs.table.headers.Goals as goal

pub loop-index-init : goal.loop-index-init
loop-index-init c = (
  none_read c.args.bytes.now c.new-table.result.items
      (c.half-count.result - 0) c.new-table.ensures (omega arith),
  ap length c.new-table.ensures,
)

pub loop-index-preserved : goal.loop-index-preserved
loop-index-preserved c = (
  one_more c.args.bytes.now
      (headers c.args.bytes.now) c.loop-index.table.items c.push.new.self.items
      c.loop-index.index c.half-count.result (omega arith)
      (rw c.header_at.ensures at c.push.ensures.items) c.loop-index.invariant.0,
  omega arith,
)

pub returns : goal.returns
returns c = all_read c.args.bytes.now
    (headers c.args.bytes.now) c.loop-index.table.items c.loop-index.index c.half-count.result
    (omega arith) c.loop-index.invariant.0
