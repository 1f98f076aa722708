use Rattle.std.proofs.Common.{◌≡◌, ℕ, ◌+◌, ◌-◌, ◌^◌, ◌<◌, List, Ok, Err, length, sym, ap, subst}
use Rattle.std.proofs.Common.{◌∙◌, arith}
use Rattle.dos_world.specs.declared.Entry.{Entry}
use Rattle.dos_world.specs.World.{World}
use Rattle.dos_world.specs.ProcessCalls.{forked, private_entries}
use Rattle.page_store.specs.Store.{uses_at}
use Rattle.proc_table.specs.Tables.{thread_in}
use Rattle.kernel_mem.specs.MemoryWorld.{in_world, space_in}
use Rattle.kernel_mem.specs.Forking.{AreTaken, fork_call, fork_result}
use Rattle.kernel_mem.proofs.Children.{apart, caller_lives, caller_space, child-lives, child-space}
use Rattle.kernel_mem.proofs.Children.{enough, forked-few, forked-ok, has-child, of-process}
use Rattle.kernel_mem.proofs.Children.{parent-lives, parent-space, to-process, too_few}
use Rattle.kernel_mem.proofs.forking.fork.Goals as goal

pub returns-then-free_count-private_entries-clause-forks :
    goal.returns-then-free_count-private_entries-clause-forks
returns-then-free_count-private_entries-clause-forks c =
    let alive = caller_lives c.requires.caller c.process_of-pid.result c.process_of-pid.ensures in
    let space = caller_space c.requires.caller c.process_of-pid.result c.process_of-pid.ensures
    c.space.result.now.entries c.space.ensures.entries in
    to-process (λ p. (w : World)
    → forked (fork_call (in_world w c.args.frames.now c.args.table.now) c.args.tid p)
    ≡ fork_result (Err 12) (in_world w c.args.frames.now c.args.table.now))
    (thread_in c.args.table.now.threads c.args.tid) c.process_of-pid.result c.process_of-pid.ensures
    (λ w. forked-few w c.args.frames.now c.args.table.now c.args.tid c.process_of-pid.result alive
    c.requires.caller.thread (sym c.is_full.ensures ∙ c.if-is_full.false)
    (too_few w c.args.frames.now c.args.table.now
    (private_entries (space_in c.args.table.now c.process_of-pid.result))
    (omega (
      arith,
      ap private_entries space,
      c.private_entries.ensures,
      c.free_count.ensures,
      c.if-free_count-private_entries.true,
    ))))

pub copy_space-requires : goal.copy_space-requires
copy_space-requires c =
    let alive = caller_lives c.requires.caller c.process_of-pid.result c.process_of-pid.ensures in
    let has = has-child c.args.table.now c.add_child-child.new.table c.args.tid
    c.process_of-pid.result alive c.requires.caller.thread c.add_child-child.ensures.begins in
    let number = ap (λ (p : ℕ × ℕ). p.0) c.add_child-child.ensures.numbers in
    record {
      live = parent-lives has number;
      child = child-lives has number;
      apart = apart has number;
      empty = child-space has number;
      home = c.requires.home;
      taken = subst (λ (es : List (ℕ × Entry)). AreTaken es c.args.frames.now)
          (sym (parent-space has number))
          (of-process (λ p. AreTaken (space_in c.args.table.now p) c.args.frames.now)
          (thread_in c.args.table.now.threads c.args.tid) c.process_of-pid.result
          c.requires.caller.thread c.process_of-pid.ensures c.requires.taken);
      few = subst (λ (es : List (ℕ × Entry)). (frame : ℕ)
          → uses_at c.args.frames.now frame + length es < 2 ^ 32 - 1)
          (sym (parent-space has number))
          (of-process (λ p. (frame : ℕ)
          → uses_at c.args.frames.now frame + length
          (space_in c.args.table.now p) < 2 ^ 32 - 1)
          (thread_in c.args.table.now.threads c.args.tid) c.process_of-pid.result
          c.requires.caller.thread c.process_of-pid.ensures c.requires.few);
      free = omega (
        arith,
        ap private_entries (parent-space has number),
        ap private_entries (caller_space c.requires.caller c.process_of-pid.result
            c.process_of-pid.ensures c.space.result.now.entries c.space.ensures.entries),
        c.private_entries.ensures,
        c.free_count.ensures,
        c.if-free_count-private_entries.false,
      );
    }

pub returns-clause-forks : goal.returns-clause-forks
returns-clause-forks c =
    let alive = caller_lives c.requires.caller c.process_of-pid.result c.process_of-pid.ensures in
    let space = caller_space c.requires.caller c.process_of-pid.result c.process_of-pid.ensures
    c.space.result.now.entries c.space.ensures.entries in
    let has = has-child c.args.table.now c.add_child-child.new.table c.args.tid
    c.process_of-pid.result alive c.requires.caller.thread c.add_child-child.ensures.begins in
    to-process (λ p. (w : World)
    → forked (fork_call (in_world w c.args.frames.now c.args.table.now) c.args.tid p)
    ≡ fork_result (Ok c.add_child-child.result.0)
    (in_world w c.copy_space.new.frames c.copy_space.new.table))
    (thread_in c.args.table.now.threads c.args.tid) c.process_of-pid.result c.process_of-pid.ensures
    (λ w. forked-ok has (ap (λ (p : ℕ × ℕ). p.0) c.add_child-child.ensures.numbers) w
    c.args.frames.now c.copy_space.new.frames
    (space_in c.copy_space.new.table c.add_child-child.result.0)
    (ap (λ (p : ℕ × ℕ). p.1) c.add_child-child.ensures.numbers)
    (sym c.is_full.ensures ∙ c.if-is_full.false)
    (enough w c.args.frames.now c.args.table.now
    (private_entries (space_in c.args.table.now c.process_of-pid.result))
    (omega (
      arith,
      ap private_entries space,
      c.private_entries.ensures,
      c.free_count.ensures,
      c.if-free_count-private_entries.false,
    )))
    (c.copy_space.ensures.copies w c.args.table.now) c.copy_space.ensures.table)
