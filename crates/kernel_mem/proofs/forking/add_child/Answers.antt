use Rattle.std.proofs.Common.{◌≡◌, ◌+◌, ℕ, length, refl, ap}
use Rattle.kernel_mem.proofs.Children.{caller_lives, child-added, child-begins}
use Rattle.kernel_mem.proofs.forking.add_child.Goals as goal

pub returns-clause-begins : goal.returns-clause-begins
returns-clause-begins c =
    let number : c.in-Ok.child ≡ length c.args.table.now.processes + 1 =
    ap (λ (p : ℕ × ℕ). p.0) c.in-Ok.ensures.numbers in
    child-begins c.args.table.now c.copy_held.new.self c.args.tid c.args.pid
    (length c.args.table.now.processes + 1) c.regs.result.now c.child_regs-regs.result
    c.signals-signals.result.now.mask c.signals-signals.result.now.saved refl
    c.regs.ensures c.child_regs-regs.ensures c.signals-signals.ensures.mask
    c.signals-signals.ensures.saved
    (child-added c.args.table.now c.add_process.new.self c.copy_held.new.self c.args.pid
    c.in-Ok.child _ c.in-Ok.ensures.begins number
    (caller_lives c.requires.caller c.args.pid c.requires.process) c.copy_held.ensures)
