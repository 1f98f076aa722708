use Rattle.std.proofs.lemmas.Result.{err_from_is_err_and}
use Rattle.log_text.specs.Gives.{behind}
use Rattle.text_fields.specs.Formats.{many}
use Rattle.log_text.specs.Rows.{post_row}
use Rattle.log_text.proofs.PostTexts.{pass_goes_on, pass_ends, pass_is_done}
use Rattle.log_text.proofs.entry_reading.pass_posts.Goals as goal

pub returns-in_err-after : goal.returns-in_err-after
returns-in_err-after c =
    let p = err_from_is_err_and c.from_residual.result c.from_residual.ensures.1 in
    rw (p.1, p.2) (pass_ends c.in_err-after.field-0.0 c.args.count c.loop.counter c.args.end
    c.loop.rest.now (behind ((many c.args.count post_row).read c.args.end c.args.bytes.now))
    c.loop-test.true c.in_err-after.ensures c.loop.invariant)

pub loop-preserved : goal.loop-preserved
loop-preserved c = pass_goes_on c.args.count c.loop.counter c.args.end c.loop.rest.now
    c.in_ok-after.field-0-0 c.in_ok-after.after.now
    (behind ((many c.args.count post_row).read c.args.end c.args.bytes.now)) c.loop-test.true
    c.in_ok-after.ensures c.loop.invariant

pub returns : goal.returns
returns c = pass_is_done c.args.count c.loop.counter c.args.end c.loop.rest.now
    (behind ((many c.args.count post_row).read c.args.end c.args.bytes.now)) c.loop-test.false
    c.loop.invariant
