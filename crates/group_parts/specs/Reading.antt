-- What is known of a thread that is read out. This project's own rule.
use Rattle.std.specs.Prelude.{◌<◌, ◌^◌}
use Rattle.group_text.specs.declared.records.ThreadRecord.{ThreadRecord}

-- its budget is a number of 32 bits
abbrev pub HasWordBudget : ThreadRecord → Type 0
HasWordBudget r = r.budget < 2 ^ 32
