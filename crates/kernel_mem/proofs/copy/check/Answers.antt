use Rattle.std.proofs.Common.{◌≡◌, ◌+◌, ◌-◌, ◌∙◌, sym, ap, arith}
use Rattle.dos_world.specs.Kernel.{all_reach}
use Rattle.kernel_mem.specs.MemoryWorld.{in_world}
use Rattle.kernel_mem.proofs.Reaching.{reach_more, reach_stop}
use Rattle.kernel_mem.proofs.copy.check.Goals as goal

pub pages-init : goal.pages-init
pages-init c = record {
  low = omega arith;
  high = omega arith;
  reached = λ w s. let none : c.args.address - c.args.address ≡ 0 = omega arith in
      ap (λ n. all_reach (in_world w s c.args.table.now) c.args.tid c.args.address n
      c.access_for-access.result) none;
}

pub pages-preserved : goal.pages-preserved
pages-preserved c = record {
  low = omega arith;
  high = omega arith;
  reached = λ w s.
      reach_more (in_world w s c.args.table.now) c.args.tid c.args.address
      (c.pages.next - c.args.address) c.pages.next c.min-part.result
      (c.pages.next + c.min-part.result - c.args.address) c.access_for-access.result
      (c.pages.invariant.reached w s)
      (sym (c.is_stretch_reached.ensures w s) ∙ c.if-not-is_stretch_reached.false)
      (omega arith) (omega arith);
}

pub returns-then-not-is_stretch_reached-clause-reach :
    goal.returns-then-not-is_stretch_reached-clause-reach
returns-then-not-is_stretch_reached-clause-reach c = λ w s.
    sym (reach_stop (in_world w s c.args.table.now) c.args.tid c.args.address
    (c.pages.next - c.args.address) c.pages.next c.min-part.result c.args.length
    c.access_for-access.result
    (sym (c.is_stretch_reached.ensures w s) ∙ c.if-not-is_stretch_reached.true) (omega arith)
    (omega arith))
    ∙ ap (all_reach (in_world w s c.args.table.now) c.args.tid c.args.address c.args.length)
    c.access_for-access.ensures

pub returns-clause-reach : goal.returns-clause-reach
returns-clause-reach c = λ w s.
    let all : c.pages.next - c.args.address ≡ c.args.length = omega arith in
    sym (c.pages.invariant.reached w s)
    ∙ ap (λ n. all_reach
    (in_world w s c.args.table.now) c.args.tid c.args.address n
    c.access_for-access.result) all
    ∙ ap (all_reach (in_world w s c.args.table.now) c.args.tid c.args.address c.args.length)
    c.access_for-access.ensures
