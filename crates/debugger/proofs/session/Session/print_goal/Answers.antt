use Rattle.std.proofs.Common.{ℕ, List, ◌∷◌, [], ◌++◌, ap, sym, ◌∙◌, codes}
use Rattle.std.proofs.lemmas.Result.{on_ok_weaker}
use Rattle.gdb_packets.specs.declared.commands.Command.TheVariants as command
use Rattle.debug_client.specs.Clients.{ClientView, session_of}
use Rattle.debug_connection.specs.Keeping.{texts_of}
use Rattle.debug_session.specs.Answers.{answered_command}
use Rattle.debug_session.specs.Resuming.{Answered, Reply, console, packet}
use Rattle.debug_session.specs.Stops.{console_text}
use Rattle.debug_session.specs.Where.{goal_line}
use Rattle.debugger.specs.Standing.{SessionView}
use Rattle.debugger.proofs.Clients.{ready_alike}
use Rattle.debugger.proofs.Telling.{client_with}
use Rattle.debugger.proofs.session.Session.print_goal.Goals as goal

pub invariant_of-self : goal.invariant_of-self
invariant_of-self c running =
    ready_alike _ c.set_goal.new.self (c.self.invariant running)
    (ap (λ (x : ClientView). x.told) c.set_goal.ensures)

pub returns : goal.returns
returns c =
    let round = c.args.round in
    let made = c.args.made in
    let replies : List Reply = console (goal_line round made) ∷ packet (codes "OK") ∷ [] in
    on_ok_weaker c.print_line.result
    (λ put.
    client_with c.self.view_is c.self.inside.playback.walk.state
    (ap (λ (x : SessionView). x.playback.walk.state) c.self.view_is) c.self.invariant c.requires
    c.set_goal.new.self (texts_of c.args.replies.now.items)
    (texts_of c.print_line.new.replies.items)
    (λ s. answered_command s (command.Goto round made)) replies
    (put
    ∙ ap (λ (line : List ℕ). texts_of c.args.replies.now.items
    ++ console_text line ∷ codes "OK" ∷ [])
    (c.deref.ensures.value ∙ c.in_ok-put_goal_line.ensures
    ∙ ap (λ (t : List ℕ). t ++ goal_line round made) c.new-line.ensures.items))
    (λ r at q output error h.
    ap (λ (x : ClientView). let said : Answered = (session_of x r at, replies) in said)
    (sym c.set_goal.ensures)))
    c.print_line.ensures
