use Rattle.std.proofs.lemmas.Result.{on_ok_weaker}
use Rattle.debugger.proofs.Naming.{whole_home, whole_id}
use Rattle.debugger.proofs.session.Session.know_current.Goals as goal

pub returns-clause-named : goal.returns-clause-named
returns-clause-named c =
    on_ok_weaker c.know_all.result
    (λ whole. whole_id c.know_all.new.self.births whole c.args.id) c.know_all.ensures.whole

pub returns-clause-current : goal.returns-clause-current
returns-clause-current c =
    on_ok_weaker c.know_all.result
    (λ whole. whole_home c.know_all.new.self.births whole c.know_all.new.self.client.thread)
    c.know_all.ensures.whole
