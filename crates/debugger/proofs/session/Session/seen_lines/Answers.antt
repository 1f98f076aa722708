use Rattle.std.proofs.Common.{◌≡◌, ap, sym, ◌∙◌}
use Rattle.std.proofs.lemmas.Result.{IfOk-weaker}
use Rattle.debug_client.specs.Clients.{session_of}
use Rattle.debug_connection.specs.Keeping.{texts_of}
use Rattle.debug_session.specs.Sessions.{Session}
use Rattle.debug_session.specs.Tables.{pipe_lines, sleeper_lines, thread_lines}
use Rattle.debugger.specs.Asking.{lines_asked}
use Rattle.debugger.proofs.Telling.{shown_so}
use Rattle.debugger.proofs.session.Session.seen_lines.Goals as goal

pub returns-in-Threads : goal.returns-in-Threads
returns-in-Threads c =
    IfOk-weaker c.thread_lines.result _ _
    (λ lines told.
    shown_so c.self.view_is c.state-state.result.now c.state-state.ensures.state
    c.self.invariant c.requires.running
    (λ s. texts_of lines.items ≡ lines_asked s c.args.asked)
    (λ r at q output error h.
    let s : Session = session_of c.self.inside.client r at in
    told q ∙ ap thread_lines (sym h.world) ∙ ap (lines_asked s) (sym c.in-Threads.is)))
    c.thread_lines.ensures

pub returns-in-Pipes : goal.returns-in-Pipes
returns-in-Pipes c =
    IfOk-weaker c.pipe_lines.result _ _
    (λ lines told.
    shown_so c.self.view_is c.state-state.result.now c.state-state.ensures.state
    c.self.invariant c.requires.running
    (λ s. texts_of lines.items ≡ lines_asked s c.args.asked)
    (λ r at q output error h.
    let s : Session = session_of c.self.inside.client r at in
    told q ∙ ap pipe_lines (sym h.world) ∙ ap (lines_asked s) (sym c.in-Pipes.is)))
    c.pipe_lines.ensures

pub returns-in-Sleepers : goal.returns-in-Sleepers
returns-in-Sleepers c =
    IfOk-weaker c.sleeper_lines.result _ _
    (λ lines told.
    shown_so c.self.view_is c.state-state.result.now c.state-state.ensures.state
    c.self.invariant c.requires.running
    (λ s. texts_of lines.items ≡ lines_asked s c.args.asked)
    (λ r at q output error h.
    let s : Session = session_of c.self.inside.client r at in
    told q ∙ ap sleeper_lines (sym h.world) ∙ ap (lines_asked s) (sym c.in-Sleepers.is)))
    c.sleeper_lines.ensures

pub returns-in-Processes : goal.returns-in-Processes
returns-in-Processes c =
    IfOk-weaker c.seen_processes.result _ _
    (λ lines told s shows. told s shows ∙ ap (lines_asked s) (sym c.in-Processes.is))
    c.seen_processes.ensures

pub returns-in-Page : goal.returns-in-Page
returns-in-Page c =
    IfOk-weaker c.seen_page.result _ _
    (λ lines told s shows. told s shows ∙ ap (lines_asked s) (sym c.in-Page.is))
    c.seen_page.ensures

pub returns-in-Pages : goal.returns-in-Pages
returns-in-Pages c =
    IfOk-weaker c.seen_pages.result _ _
    (λ lines told s shows. told s shows ∙ ap (lines_asked s) (sym c.in-Pages.is))
    c.seen_pages.ensures

pub returns-in-Ends : goal.returns-in-Ends
returns-in-Ends c =
    IfOk-weaker c.seen_ends.result _ _
    (λ lines told s shows. told s shows ∙ ap (lines_asked s) (sym c.in-Ends.is))
    c.seen_ends.ensures
