use Rattle.debugger.proofs.Ready.{known_by_whole}
use Rattle.debugger.proofs.session.Session.know_named.Goals as goal

pub returns-clause-known : goal.returns-clause-known
returns-clause-known c =
    known_by_whole c.know_all.result c.know_all.new.self.births c.args.resumptions.now
    c.know_all.ensures.whole
