use Rattle.std.proofs.lemmas.Result.{on_ok_weaker}
use Rattle.debugger.proofs.Naming.{whole_home}
use Rattle.debugger.proofs.session.Session.know_meant.Goals as goal

pub returns-clause-known : goal.returns-clause-known
returns-clause-known c =
    on_ok_weaker c.know_all.result
    (λ whole. whole_home c.know_all.new.self.births whole c.know_all.new.self.client.meant)
    c.know_all.ensures.whole
