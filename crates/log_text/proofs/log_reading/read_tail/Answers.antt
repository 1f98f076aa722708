use Rattle.std.proofs.Common.{ℕ, Option, subst}
use Rattle.std.proofs.lemmas.Result.{err_from_is_err_and}
use Rattle.dos_world.specs.declared.Ending.{Ending}
use Rattle.log_text.specs.Passing.{Passes}
use Rattle.log_text.proofs.TailLoop.{walk_few, walk_goes_on, walk_text, walk_ends}
use Rattle.log_text.proofs.TailLoop.{walk_refuses, walk_runs_out, rest_short}
use Rattle.log_text.proofs.log_reading.read_tail.Goals as goal

pub pass_item-requires : goal.pass_item-requires
pass_item-requires c = walk_few c.args.version c.args.end c.args.bytes.now c.loop.rest.now
    c.loop.progress c.loop.counter c.loop.invariant

pub returns-in_err-last-clause-value : goal.returns-in_err-last-clause-value
returns-in_err-last-clause-value c =
    let p = err_from_is_err_and c.from_residual.result c.from_residual.ensures.1 in
    rw (p.1, p.2)
    (walk_refuses c.args.version c.args.end c.args.bytes.now c.loop.rest.now c.loop.progress
    c.loop.counter c.loop.invariant c.in_err-last.field-0.0 c.loop-test.true
    c.in_err-last.ensures.refused)

pub tail_of-tail-requires : goal.tail_of-tail-requires
tail_of-tail-requires c = rest_short c.args.version c.args.end c.args.bytes.now c.loop.rest.now
    c.loop.progress c.loop.counter c.loop.invariant

pub returns-in-Some-clause-value : goal.returns-in-Some-clause-value
returns-in-Some-clause-value c =
    rw (c.tail_of-tail.ensures.ending, c.tail_of-tail.ensures.rounds)
    (walk_ends c.args.version c.args.end c.args.bytes.now c.loop.rest.now c.loop.progress
    c.loop.counter c.loop.invariant c.in_ok-last.after.now c.tail_of-tail.result.text.now
    c.in-Some.ending c.in-Some.rounds c.loop-test.true
    (subst (λ (o : Option (Ending × ℕ)). Passes c.args.version c.loop.progress c.args.end
    c.loop.rest.now o c.in_ok-last.further c.in_ok-last.after.now) c.in-Some.is
    c.in_ok-last.ensures.passed)
    c.tail_of-tail.ensures.text)

pub returns-in-Some-clause-text : goal.returns-in-Some-clause-text
returns-in-Some-clause-text c =
    rw c.tail_of-tail.ensures.count
    (walk_text c.args.version c.args.end c.args.bytes.now c.loop.rest.now c.loop.progress
    c.loop.counter c.loop.invariant c.tail_of-tail.result.text.now c.tail_of-tail.ensures.text)

pub loop-preserved : goal.loop-preserved
loop-preserved c =
    walk_goes_on c.args.version c.args.end c.args.bytes.now c.loop.rest.now c.loop.progress
    c.loop.counter c.loop.invariant c.in_ok-last.further c.in_ok-last.after.now c.loop-test.true
    (subst (λ (o : Option (Ending × ℕ)). Passes c.args.version c.loop.progress c.args.end
    c.loop.rest.now o c.in_ok-last.further c.in_ok-last.after.now) c.in-None.is
    c.in_ok-last.ensures.passed)

pub returns-clause-value : goal.returns-clause-value
returns-clause-value c =
    rw c.field_place.ensures
    (walk_runs_out c.args.version c.args.end c.args.bytes.now c.loop.rest.now c.loop.progress
    c.loop.counter c.loop.invariant c.loop-test.false)
