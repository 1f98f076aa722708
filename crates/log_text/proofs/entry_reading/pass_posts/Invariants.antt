use Rattle.std.proofs.Common.{◌≡◌, ◌-◌}
use Rattle.text_fields.specs.Formats.{many}
use Rattle.log_text.specs.Gives.{behind}
use Rattle.log_text.specs.Rows.{post_row}
use Rattle.log_text.proofs.entry_reading.pass_posts.Given as goal

abbrev pub invariant-loop : goal.invariant-loop
invariant-loop l = behind ((many (l.count - l.counter) post_row).read l.end l.rest)
    ≡ behind ((many l.count post_row).read l.end l.bytes)
