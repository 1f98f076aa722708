use Rattle.std.proofs.Common.{ap, sym, ◌∙◌}
use Rattle.gdb_packets.specs.declared.ids.Which.TheVariants.{Only}
use Rattle.debug_session.specs.Current.{named_both}
use Rattle.debug_client.specs.Clients.{session_of}
use Rattle.debug_client.proofs.client.Client.name_of_process.Goals as goal

pub returns-in-All : goal.returns-in-All
returns-in-All c r at q output error a is =
    c.name_process.ensures r at q output error a is
    ∙ sym (ap (named_both (session_of c.args.self.now r at) (Only c.args.process)) c.in-All.is)

pub returns-in-Any : goal.returns-in-Any
returns-in-Any c r at q output error a is =
    c.name_process-in-Any.ensures r at q output error a is
    ∙ sym (ap (named_both (session_of c.args.self.now r at) (Only c.args.process)) c.in-Any.is)
