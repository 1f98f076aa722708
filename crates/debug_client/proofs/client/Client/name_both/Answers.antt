use Rattle.std.proofs.Common.{ap, sym, ◌∙◌}
use Rattle.debug_session.specs.Current.{named_both}
use Rattle.debug_client.specs.Clients.{session_of}
use Rattle.debug_client.proofs.client.Client.name_both.Goals as goal

pub returns-in-Only : goal.returns-in-Only
returns-in-Only c r at q output error a is =
    c.name_of_process.ensures r at q output error a is
    ∙ sym (ap (λ k. named_both (session_of c.args.self.now r at) k c.args.thread) c.in-Only.is)

pub returns-in-All : goal.returns-in-All
returns-in-All c r at q output error a is =
    c.name_alone.ensures r at q output error a is
    ∙ sym (ap (λ k. named_both (session_of c.args.self.now r at) k c.args.thread) c.in-All.is)

pub returns-in-Any : goal.returns-in-Any
returns-in-Any c r at q output error a is =
    c.name_alone-in-Any.ensures r at q output error a is
    ∙ sym (ap (λ k. named_both (session_of c.args.self.now r at) k c.args.thread) c.in-Any.is)
