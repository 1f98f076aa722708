use Rattle.std.proofs.Common.{ap, ◌∙◌, ◌++◌, ◌∷◌, [], ℕ, List, map}
use Rattle.std.specs.Global.{Vec}
use Rattle.std.proofs.lemmas.List.{map-append}
use Rattle.debug_session.specs.Stops.{console_text}
use Rattle.debug_connection.specs.Keeping.{texts_of}
use Rattle.debugger.specs.declared.forwards.Put.{Put}
use Rattle.debugger.specs.Halting.{puts_before}
use Rattle.debugger.proofs.Resumed.{resumes_so}
use Rattle.debugger.proofs.session.Session.resume.Goals as goal

pub returns-clause-answers : goal.returns-clause-answers
returns-clause-answers c s shows =
    resumes_so c.args.self.now c.know_named.new.self c.halt_of.new.self c.halt.new.self
    c.args.resumptions.now c.args.direction s c.in_ok-halt.halt c.halt_of.new.puts.items
    _ _ _ c.in_ok-stop.stop.items shows c.in_ok-know_named.ensures.same
    c.in_ok-know_named.ensures.moves c.in_ok-halt.ensures.same c.in_ok-halt.ensures.halt
    (c.in_ok-tell_puts.ensures
    ∙ ap (λ (ps : List Put). texts_of c.args.replies.now.items
    ++ map console_text (puts_before c.in_ok-halt.halt.moves ps)) c.deref.ensures.value)
    c.in_ok-stop.ensures.halted c.in_ok-stop.ensures.run
    c.in_ok-stop.ensures.running
    (ap (λ vs. texts_of vs) c.in_ok-push.ensures.items
    ∙ map-append (λ (v : Vec ℕ). v.items) c.tell_puts.new.replies.items (c.in_ok-stop.stop ∷ []))
