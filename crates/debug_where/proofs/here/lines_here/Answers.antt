use Rattle.std.proofs.Common.{ap}
use Rattle.kernel_objects.specs.Pipework.{vector_bytes}
use Rattle.debug_answers.proofs.Rows.{pushed}
use Rattle.debug_where.specs.Places.{moment_words, last_words, next_line, used_words}
use Rattle.debug_where.proofs.Said.{four_pushed}
use Rattle.debug_where.proofs.here.lines_here.Goals as goal

pub returns : goal.returns
returns c =
    let here = c.args.here.now in
    let none = c.new-lines.result.items in
    let one = c.push.new.self.items in
    let two = c.push-2.new.self.items in
    let three = c.push-3.new.self.items in
    let four = c.push-4.new.self.items in
    let first = moment_words here.begun here.made here.phase in
    let second = last_words here.last in
    let third = next_line here.next in
    let fourth = used_words here.used here.entries in
    four_pushed (vector_bytes none) (vector_bytes one) (vector_bytes two) (vector_bytes three)
    (vector_bytes four) first second third fourth (ap vector_bytes c.new-lines.ensures.items)
    (pushed none one c.in_ok-moment_line.field-0 first c.in_ok-push.ensures.items
    c.in_ok-moment_line.ensures)
    (pushed one two c.in_ok-last_line.field-0 second c.in_ok-push-2.ensures.items
    c.in_ok-last_line.ensures)
    (pushed two three c.in_ok-next_line.field-0 third c.in_ok-push-3.ensures.items
    c.in_ok-next_line.ensures)
    (pushed three four c.in_ok-log_line.field-0 fourth c.in_ok-push-4.ensures.items
    c.in_ok-log_line.ensures)
