use Rattle.std.proofs.Common.{ap, sym, ◌∙◌}
use Rattle.debug_session.specs.Current.{named_process, with_process}
use Rattle.debug_client.specs.Clients.{session_of}
use Rattle.debug_client.proofs.client.Client.name_process_alone.Goals as goal

pub returns-in-Only : goal.returns-in-Only
returns-in-Only c r at q output error a is =
    c.name_process.ensures r at q output error a is
    ∙ sym (ap (named_process (session_of c.args.self.now r at)) c.in-Only.is)

pub returns-in-All : goal.returns-in-All
returns-in-All c r at q output error a is =
    c.name_process-in-All.ensures r at q output error a is
    ∙ ap (with_process (session_of c.args.self.now r at)) c.process.ensures
    ∙ sym (ap (named_process (session_of c.args.self.now r at)) c.in-All.is)

pub returns-in-Any : goal.returns-in-Any
returns-in-Any c r at q output error a is =
    c.name_process-in-Any.ensures r at q output error a is
    ∙ ap (with_process (session_of c.args.self.now r at)) c.process-in-Any.ensures
    ∙ sym (ap (named_process (session_of c.args.self.now r at)) c.in-Any.is)
