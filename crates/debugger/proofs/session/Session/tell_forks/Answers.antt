use Rattle.std.proofs.Common.{ap, sym}
use Rattle.std.proofs.lemmas.Result.{on_ok_weaker}
use Rattle.debug_client.specs.Clients.{ClientView, session_of}
use Rattle.debug_connection.specs.Keeping.{texts_of}
use Rattle.debug_session.specs.Answers.{features_text}
use Rattle.debug_session.specs.Resuming.{replies_one}
use Rattle.debugger.specs.Standing.{SessionView}
use Rattle.debugger.proofs.Clients.{ready_alike}
use Rattle.debugger.proofs.Telling.{client_so}
use Rattle.debugger.proofs.session.Session.tell_forks.Goals as goal

pub invariant_of-self : goal.invariant_of-self
invariant_of-self c running =
    ready_alike _ c.set_told_forks.new.self (c.self.invariant running)
    (ap (λ (x : ClientView). x.told) c.set_told_forks.ensures)

pub returns : goal.returns
returns c =
    on_ok_weaker c.say_features.result
    (λ put.
    client_so c.self.view_is c.self.inside.playback.walk.state
    (ap (λ (x : SessionView). x.playback.walk.state) c.self.view_is) c.self.invariant c.requires
    c.set_told_forks.new.self (texts_of c.args.replies.now.items)
    (texts_of c.say_features.new.replies.items)
    (λ s. replies_one (record s { is_told_forks = c.args.forks }) (features_text c.args.forks))
    (features_text c.args.forks) put
    (λ r at q output error h.
    ap (λ (x : ClientView). replies_one (session_of x r at) (features_text c.args.forks))
    (sym c.set_told_forks.ensures)))
    c.say_features.ensures
