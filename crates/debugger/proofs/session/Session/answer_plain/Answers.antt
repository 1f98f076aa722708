use Rattle.std.proofs.Common.{codes, ◌++◌}
use Rattle.std.proofs.lemmas.Result.{on_ok_weaker}
use Rattle.debug_connection.specs.Keeping.{texts_of}
use Rattle.debug_session.specs.Answers.{all_registers_told, answered_plain, current_told}
use Rattle.debug_session.specs.Lists.{threads_told}
use Rattle.debug_session.specs.Stops.{pair_text}
use Rattle.debugger.proofs.Telling.{answers_at, says_answers, text_answers}
use Rattle.debugger.proofs.session.Session.answer_plain.Goals as goal

pub returns-in-NoAcknowledgement : goal.returns-in-NoAcknowledgement
returns-in-NoAcknowledgement c =
    on_ok_weaker c.say.result
    (λ answers.
    answers_at c.args.self.now c.args.self.now (texts_of c.args.replies.now.items)
    (texts_of c.say.new.replies.items)
    (λ x s. answered_plain s x) c.in-NoAcknowledgement.is
    (text_answers c.args.self.now _ _ (codes "OK") answers))
    c.say.ensures

pub returns-in-StopReason : goal.returns-in-StopReason
returns-in-StopReason c =
    on_ok_weaker c.say_stopped.result
    (λ answers.
    answers_at c.args.self.now c.args.self.now (texts_of c.args.replies.now.items)
    (texts_of c.say_stopped.new.replies.items)
    (λ x s. answered_plain s x) c.in-StopReason.is
    (says_answers c.args.self.now _ _ (λ s. current_told s) answers))
    c.say_stopped.ensures

pub returns-in-CurrentThread : goal.returns-in-CurrentThread
returns-in-CurrentThread c =
    on_ok_weaker c.say_current.result
    (λ answers.
    answers_at c.args.self.now c.args.self.now (texts_of c.args.replies.now.items)
    (texts_of c.say_current.new.replies.items)
    (λ x s. answered_plain s x) c.in-CurrentThread.is
    (says_answers c.args.self.now _ _
    (λ s. codes "QC" ++ pair_text (s.process, s.thread)) answers))
    c.say_current.ensures

pub returns-in-FirstThreads : goal.returns-in-FirstThreads
returns-in-FirstThreads c =
    on_ok_weaker c.say_threads.result
    (λ answers.
    answers_at c.args.self.now c.args.self.now (texts_of c.args.replies.now.items)
    (texts_of c.say_threads.new.replies.items)
    (λ x s. answered_plain s x) c.in-FirstThreads.is
    (says_answers c.args.self.now _ _ (λ s. threads_told s) answers))
    c.say_threads.ensures

pub returns-in-NextThreads : goal.returns-in-NextThreads
returns-in-NextThreads c =
    on_ok_weaker c.say-in-NextThreads.result
    (λ answers.
    answers_at c.args.self.now c.args.self.now (texts_of c.args.replies.now.items)
    (texts_of c.say-in-NextThreads.new.replies.items)
    (λ x s. answered_plain s x) c.in-NextThreads.is
    (text_answers c.args.self.now _ _ (codes "l") answers))
    c.say-in-NextThreads.ensures

pub returns-in-Registers : goal.returns-in-Registers
returns-in-Registers c =
    on_ok_weaker c.say_registers.result
    (λ answers.
    answers_at c.args.self.now c.args.self.now (texts_of c.args.replies.now.items)
    (texts_of c.say_registers.new.replies.items)
    (λ x s. answered_plain s x) c.in-Registers.is
    (says_answers c.args.self.now _ _ (λ s. all_registers_told s) answers))
    c.say_registers.ensures

pub returns-in-Continue : goal.returns-in-Continue
returns-in-Continue c =
    on_ok_weaker c.continue_on.result
    (λ answers.
    answers_at c.args.self.now c.continue_on.new.self (texts_of c.args.replies.now.items)
    (texts_of c.continue_on.new.replies.items)
    (λ x s. answered_plain s x) c.in-Continue.is
    answers)
    c.continue_on.ensures

pub returns-in-Step : goal.returns-in-Step
returns-in-Step c =
    on_ok_weaker c.step_on.result
    (λ answers.
    answers_at c.args.self.now c.step_on.new.self (texts_of c.args.replies.now.items)
    (texts_of c.step_on.new.replies.items)
    (λ x s. answered_plain s x) c.in-Step.is
    answers)
    c.step_on.ensures

pub returns-in-BackContinue : goal.returns-in-BackContinue
returns-in-BackContinue c =
    on_ok_weaker c.continue_back.result
    (λ answers.
    answers_at c.args.self.now c.continue_back.new.self (texts_of c.args.replies.now.items)
    (texts_of c.continue_back.new.replies.items)
    (λ x s. answered_plain s x) c.in-BackContinue.is
    answers)
    c.continue_back.ensures

pub returns-in-BackStep : goal.returns-in-BackStep
returns-in-BackStep c =
    on_ok_weaker c.step_back.result
    (λ answers.
    answers_at c.args.self.now c.step_back.new.self (texts_of c.args.replies.now.items)
    (texts_of c.step_back.new.replies.items)
    (λ x s. answered_plain s x) c.in-BackStep.is
    answers)
    c.step_back.ensures
