use Rattle.std.proofs.Common.{◌≡◌, ◌++◌, map, drop}
use Rattle.debug_session.specs.Stops.{console_text}
use Rattle.debug_connection.specs.Keeping.{texts_of}
use Rattle.debugger.specs.Halting.{puts_before}
use Rattle.debugger.proofs.session.Session.tell_puts.Given as goal

abbrev pub invariant-loop-put : goal.invariant-loop-put
invariant-loop-put l =
    texts_of l.replies.items
    ++ map console_text (puts_before l.moves (drop l.put-index l.puts))
    ≡ texts_of l.fn.replies.items ++ map console_text (puts_before l.moves l.puts)
