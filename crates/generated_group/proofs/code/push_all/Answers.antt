use Rattle.std.proofs.Common.{sym}
use Rattle.generated_group.proofs.CodeLaws.{pushed, valid_at, with_no_code}
use Rattle.generated_group.proofs.code.push_all.Goals as goal

pub push-requires : goal.push-requires
push-requires c =
    valid_at c.args.code.now c.loop-instr.instr-index _ c.requires c.loop-instr-test.true

pub loop-instr-init : goal.loop-instr-init
loop-instr-init c = sym (with_no_code c.args.builder.now)

pub loop-instr-preserved : goal.loop-instr-preserved
loop-instr-preserved c =
    pushed _ _ _ c.args.code.now c.loop-instr.instr-index _ c.loop-instr-test.true
    c.loop-instr.invariant c.in_ok-push.ensures.ok
