use Rattle.std.proofs.lemmas.Result.{on_ok_weaker}
use Rattle.debug_connection.specs.Keeping.{texts_of}
use Rattle.debug_session.specs.Answers.{answered_command, command_forms}
use Rattle.debug_session.specs.Pages.{page_form}
use Rattle.debug_session.specs.Where.{console_line, goal_form}
use Rattle.debugger.proofs.Telling.{answers_at, print_answers}
use Rattle.debugger.proofs.session.Session.answer_command.Goals as goal

pub returns-in-Where : goal.returns-in-Where
returns-in-Where c =
    on_ok_weaker c.print_where.result
    (λ answers.
    answers_at c.args.self.now c.print_where.new.self (texts_of c.args.replies.now.items)
    (texts_of c.print_where.new.replies.items)
    (λ x s. answered_command s x) c.in-Where.is
    answers)
    c.print_where.ensures

pub returns-in-Goto : goal.returns-in-Goto
returns-in-Goto c =
    on_ok_weaker c.print_goal.result
    (λ answers.
    answers_at c.args.self.now c.print_goal.new.self (texts_of c.args.replies.now.items)
    (texts_of c.print_goal.new.replies.items)
    (λ x s. answered_command s x) c.in-Goto.is
    answers)
    c.print_goal.ensures

pub returns-in-GotoForm : goal.returns-in-GotoForm
returns-in-GotoForm c =
    on_ok_weaker c.print_goal_form.result
    (λ answers.
    answers_at c.args.self.now c.args.self.now (texts_of c.args.replies.now.items)
    (texts_of c.print_goal_form.new.replies.items)
    (λ x s. answered_command s x) c.in-GotoForm.is
    (print_answers c.args.self.now _ _ goal_form answers))
    c.print_goal_form.ensures

pub returns-in-PageForm : goal.returns-in-PageForm
returns-in-PageForm c =
    on_ok_weaker c.print_page_form.result
    (λ answers.
    answers_at c.args.self.now c.args.self.now (texts_of c.args.replies.now.items)
    (texts_of c.print_page_form.new.replies.items)
    (λ x s. answered_command s x) c.in-PageForm.is
    (print_answers c.args.self.now _ _ page_form answers))
    c.print_page_form.ensures

pub returns-in-Other : goal.returns-in-Other
returns-in-Other c =
    on_ok_weaker c.print_command_forms.result
    (λ answers.
    answers_at c.args.self.now c.args.self.now (texts_of c.args.replies.now.items)
    (texts_of c.print_command_forms.new.replies.items)
    (λ x s. answered_command s x) c.in-Other.is
    (print_answers c.args.self.now _ _ (console_line command_forms) answers))
    c.print_command_forms.ensures

pub returns-in-Output : goal.returns-in-Output
returns-in-Output c =
    on_ok_weaker c.print_output.result
    (λ answers.
    answers_at c.args.self.now c.print_output.new.self (texts_of c.args.replies.now.items)
    (texts_of c.print_output.new.replies.items)
    (λ x s. answered_command s x) c.in-Output.is
    answers)
    c.print_output.ensures

pub returns-in-Threads : goal.returns-in-Threads
returns-in-Threads c =
    on_ok_weaker c.print_seen.result
    (λ answers.
    answers_at c.args.self.now c.print_seen.new.self (texts_of c.args.replies.now.items)
    (texts_of c.print_seen.new.replies.items)
    (λ x s. answered_command s x) c.in-Threads.is
    answers)
    c.print_seen.ensures

pub returns-in-Processes : goal.returns-in-Processes
returns-in-Processes c =
    on_ok_weaker c.print_seen-in-Processes.result
    (λ answers.
    answers_at c.args.self.now c.print_seen-in-Processes.new.self
    (texts_of c.args.replies.now.items)
    (texts_of c.print_seen-in-Processes.new.replies.items)
    (λ x s. answered_command s x) c.in-Processes.is
    answers)
    c.print_seen-in-Processes.ensures

pub returns-in-Page : goal.returns-in-Page
returns-in-Page c =
    on_ok_weaker c.print_seen-in-Page.result
    (λ answers.
    answers_at c.args.self.now c.print_seen-in-Page.new.self (texts_of c.args.replies.now.items)
    (texts_of c.print_seen-in-Page.new.replies.items)
    (λ x s. answered_command s x) c.in-Page.is
    answers)
    c.print_seen-in-Page.ensures

pub returns-in-Pages : goal.returns-in-Pages
returns-in-Pages c =
    on_ok_weaker c.print_seen-in-Pages.result
    (λ answers.
    answers_at c.args.self.now c.print_seen-in-Pages.new.self (texts_of c.args.replies.now.items)
    (texts_of c.print_seen-in-Pages.new.replies.items)
    (λ x s. answered_command s x) c.in-Pages.is
    answers)
    c.print_seen-in-Pages.ensures

pub returns-in-Pipes : goal.returns-in-Pipes
returns-in-Pipes c =
    on_ok_weaker c.print_seen-in-Pipes.result
    (λ answers.
    answers_at c.args.self.now c.print_seen-in-Pipes.new.self (texts_of c.args.replies.now.items)
    (texts_of c.print_seen-in-Pipes.new.replies.items)
    (λ x s. answered_command s x) c.in-Pipes.is
    answers)
    c.print_seen-in-Pipes.ensures

pub returns-in-Ends : goal.returns-in-Ends
returns-in-Ends c =
    on_ok_weaker c.print_seen-in-Ends.result
    (λ answers.
    answers_at c.args.self.now c.print_seen-in-Ends.new.self (texts_of c.args.replies.now.items)
    (texts_of c.print_seen-in-Ends.new.replies.items)
    (λ x s. answered_command s x) c.in-Ends.is
    answers)
    c.print_seen-in-Ends.ensures

pub returns-in-Sleepers : goal.returns-in-Sleepers
returns-in-Sleepers c =
    on_ok_weaker c.print_seen-in-Sleepers.result
    (λ answers.
    answers_at c.args.self.now c.print_seen-in-Sleepers.new.self (texts_of c.args.replies.now.items)
    (texts_of c.print_seen-in-Sleepers.new.replies.items)
    (λ x s. answered_command s x) c.in-Sleepers.is
    answers)
    c.print_seen-in-Sleepers.ensures
