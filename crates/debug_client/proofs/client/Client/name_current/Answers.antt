use Rattle.std.proofs.Common.{ap, sym, ◌∙◌}
use Rattle.debug_session.specs.Current.{named_current}
use Rattle.debug_client.specs.Clients.{session_of}
use Rattle.debug_client.proofs.client.Client.name_current.Goals as goal

pub returns-in-Both : goal.returns-in-Both
returns-in-Both c r at q output error a is =
    c.name_both.ensures r at q output error a is
    ∙ sym (ap (named_current (session_of c.args.self.now r at)) c.in-Both.is)

pub returns-in-ProcessAlone : goal.returns-in-ProcessAlone
returns-in-ProcessAlone c r at q output error a is =
    c.name_process_alone.ensures r at q output error a is
    ∙ sym (ap (named_current (session_of c.args.self.now r at)) c.in-ProcessAlone.is)

pub returns-in-ThreadAlone : goal.returns-in-ThreadAlone
returns-in-ThreadAlone c r at q output error a is =
    c.name_alone.ensures r at q output error a is
    ∙ sym (ap (named_current (session_of c.args.self.now r at)) c.in-ThreadAlone.is)
