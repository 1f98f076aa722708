use Rattle.std.proofs.Common.{arith, ◌≡◌, ◌+◌, ℕ, [], sym, ap, ◌∙◌, None, Some}
use Rattle.dos_world.specs.Kernel.{process_ended}
use Rattle.kernel_calls.specs.StateWorld.{world_of, sent}
use Rattle.group_rounds.proofs.ThreadRunLaws.{seen, process_is}
use Rattle.group_rounds.proofs.TurnLaws.{fault_count, parts_ended}
use Rattle.group_rounds.proofs.part.end_by_fault.Goals as goal

pub returns-clause-ends : goal.returns-clause-ends
returns-clause-ends c = λ q o e.
    let here = seen c.args.state.now c.args.tid c.requires.sound c.requires.live in
    let pid : c.process_of-pid.result ≡ here.thread.process =
    process_is c.args.state.now c.args.tid c.requires.sound c.requires.live
    c.process_of-pid.result c.process_of-pid.ensures in
    ap (λ p. process_ended (sent o e (world_of q c.args.state.now)) p (128 + c.args.number))
    (ap (λ o. elim o as (λ _. ℕ) [ None ↦ 0 | Some thread ↦ thread.process ]) here.is
    ∙ sym pid)
    ∙ c.end_process.ensures.ends q o e

pub returns-clause-count : goal.returns-clause-count
returns-clause-count c = fault_count c.args.state.now c.end_process.new.state
    c.process_of-pid.result (128 + c.args.number) (c.end_process.ensures.ends 0 [] [])

pub returns-clause-parts : goal.returns-clause-parts
returns-clause-parts c = λ ts.
    let small = c.requires.small in
    parts_ended c.args.state.now c.end_process.new.state c.args.tid c.process_of-pid.result
    (128 + c.args.number) ts c.requires.sound (omega (arith, small)) c.end_process.ensures.ends
