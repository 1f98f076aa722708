use Rattle.std.proofs.Common.{ℕ, Option, subst, codes}
use Rattle.std.proofs.lemmas.Result.{on_ok_weaker}
use Rattle.debug_connection.specs.Keeping.{texts_of}
use Rattle.debug_session.specs.Answers.{means}
use Rattle.debugger.specs.Standing.{HasAnswered}
use Rattle.debugger.proofs.Telling.{text_answers}
use Rattle.debugger.proofs.session.Session.mean.Goals as goal

pub returns-in-None : goal.returns-in-None
returns-in-None c =
    on_ok_weaker c.say.result
    (λ put. subst
    (λ (o : Option ℕ). HasAnswered c.args.self.now c.args.self.now
    (texts_of c.args.replies.now.items) (texts_of c.say.new.replies.items) (λ s. means s o))
    c.in-None.ensures (text_answers c.args.self.now _ _ (codes "E01") put))
    c.say.ensures

pub returns-in-Some : goal.returns-in-Some
returns-in-Some c =
    on_ok_weaker c.mean_thread.result
    (λ answers. subst
    (λ (o : Option ℕ). HasAnswered c.args.self.now c.mean_thread.new.self
    (texts_of c.args.replies.now.items) (texts_of c.mean_thread.new.replies.items) (λ s. means s o))
    c.in-Some.ensures answers)
    c.mean_thread.ensures
