-- Files in memory: what they hold, and which of their calls succeed. This project's own rules.
use Rattle.std.specs.Prelude.{ℕ, Bool, true, List, Option, option_map, is_some}
use Rattle.std.specs.BTreeMap.{get_by_text}
use Rattle.dos_io.specs.Calls.{CallState, succeeds}
use Rattle.dos_io.specs.FileCalls.{FileCall}
use Rattle.dos_io.specs.declared.memory.MemoryFiles.{MemoryFiles}

-- the content that is held under a name
abbrev pub held : MemoryFiles → List ℕ → Option (List ℕ)
held files name = option_map (λ content. content.items) (get_by_text files.contents name)

-- the calls of get and set so far
abbrev pub calls_of : MemoryFiles → CallState
calls_of files = files.calls

-- what they were asked so far
abbrev pub asked_of : MemoryFiles → List FileCall
asked_of files = files.asked.calls

-- the next call succeeds, if it gets this name: something is held under it
abbrev pub get_succeeds : MemoryFiles → List ℕ → Bool
get_succeeds files name = succeeds (calls_of files) (is_some (held files name))

-- the next call succeeds, if it is a set
abbrev pub set_succeeds : MemoryFiles → Bool
set_succeeds files = succeeds (calls_of files) true
