-- What a person asks that is answered in lines of the moment. This project's own words.
use Rattle.std.specs.Prelude.{ℕ, List, []}
use Rattle.gdb_packets.specs.declared.commands.Command.{Command}
use Rattle.gdb_packets.specs.declared.commands.Command.TheVariants as command
use Rattle.debug_session.specs.Answers.{current_world}
use Rattle.debug_session.specs.Pages.{page_lines, pages_lines, process_rows}
use Rattle.debug_session.specs.Sessions.{Session}
use Rattle.debug_session.specs.Tables.{end_lines, pipe_lines, sleeper_lines, thread_lines}

-- the lines of what only looks at the moment
abbrev pub lines_asked : Session → Command → List (List ℕ)
lines_asked s command.Threads = thread_lines (current_world s)
lines_asked s command.Processes = process_rows s
lines_asked s (command.Page address p) = page_lines s address p
lines_asked s (command.Pages p) = pages_lines s p
lines_asked s command.Pipes = pipe_lines (current_world s)
lines_asked s (command.Ends p) = end_lines s p
lines_asked s command.Sleepers = sleeper_lines (current_world s)
lines_asked s _ = []
