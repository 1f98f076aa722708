use Rattle.std.proofs.Common.{ap, sym, ◌∙◌}
use Rattle.debug_session.specs.Setting.{removed_kind}
use Rattle.debug_client.specs.Clients.{session_of}
use Rattle.debug_client.proofs.client.Client.remove.Goals as goal

pub returns-in-SoftwareBreakpoint : goal.returns-in-SoftwareBreakpoint
returns-in-SoftwareBreakpoint c r at =
    c.unset_breakpoint.ensures r at
    ∙ sym (ap (λ k. removed_kind (session_of c.args.self.now r at) k c.args.point)
    c.in-SoftwareBreakpoint.is)

pub returns-in-HardwareBreakpoint : goal.returns-in-HardwareBreakpoint
returns-in-HardwareBreakpoint c r at =
    c.unset_breakpoint-in-HardwareBreakpoint.ensures r at
    ∙ sym (ap (λ k. removed_kind (session_of c.args.self.now r at) k c.args.point)
    c.in-HardwareBreakpoint.is)

pub returns-in-WriteWatchpoint : goal.returns-in-WriteWatchpoint
returns-in-WriteWatchpoint c r at =
    c.unset_watchpoint.ensures r at
    ∙ sym (ap (λ k. removed_kind (session_of c.args.self.now r at) k c.args.point)
    c.in-WriteWatchpoint.is)

pub returns-in-ReadWatchpoint : goal.returns-in-ReadWatchpoint
returns-in-ReadWatchpoint c r at =
    c.unset_watchpoint-in-ReadWatchpoint.ensures r at
    ∙ sym (ap (λ k. removed_kind (session_of c.args.self.now r at) k c.args.point)
    c.in-ReadWatchpoint.is)

pub returns-in-AccessWatchpoint : goal.returns-in-AccessWatchpoint
returns-in-AccessWatchpoint c r at =
    c.unset_watchpoint-in-AccessWatchpoint.ensures r at
    ∙ sym (ap (λ k. removed_kind (session_of c.args.self.now r at) k c.args.point)
    c.in-AccessWatchpoint.is)
