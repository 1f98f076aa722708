use Rattle.std.proofs.Common.{◌≡◌, [], List, sym, ap, subst, ◌∙◌}
use Rattle.dos_io.specs.Given.{Given}
use Rattle.dos_io.specs.declared.exchange.ClockRule.TheVariants.{FromHost}
use Rattle.dos_io.specs.declared.exchange.Exchange.{Exchange}
use Rattle.twin_shims.specs.Leader.{TellerState}
use Rattle.twin_runs.specs.Twins.{LeaderCame}
use Rattle.twin_runs.proofs.Leaders.{all_given, host_rose, led, leader_came}
use Rattle.twin_runs.proofs.leader.lead_group.Goals as goal

pub returns : goal.returns
returns g c =
    let run = c.run_group-result.ensures in
    let end = c.finish-host.ensures in
    let left = c.host-1.given.1 (sym (end.same ∙ run.follows.0 ∙ c.of-shim.ensures.host))
    ∙ c.hand_back.ensures ∙ end.value in
    let follows = led g.H.Host.told g.H.Host.faults c.of-shim.result.teller
    c.run_group-result.new.shim.teller _ _ _ _ c.of-shim.ensures.value left run.follows.1 in
    let begins = c.of-shim.ensures.teller ∙ c.requires.begins in
    let fresh : c.of-shim.result.teller.told ≡ [] =
    ap (λ (t : TellerState). t.told) begins in
    record {
      line = end.line ∙ follows.line_same
          ∙ ap (λ (t : TellerState). t.line) c.of-shim.ensures.teller;
      closed = end.closed;
      given = subst (λ (es : List Exchange). Given [] FromHost 0
          (g.H.Host.told c.args.host.now) (g.H.Host.told c.host-1.given.0) es) (sym end.told)
          (all_given c.of-shim.result.teller c.run_group-result.new.shim.teller _ _ _ _ fresh
          follows);
      led = record {
        came = λ images config opened. subst (λ (es : List Exchange).
            LeaderCame c.run_group-result.result images config es c.run_group-result.new.kernel
            (g.O.Sink.told c.args.out.now) (g.E.Sink.told c.args.err.now)
            (g.O.Sink.told c.run_group-result.new.out) (g.E.Sink.told c.run_group-result.new.err)
            (g.W.Workers.tally c.args.workers.now)
            (g.W.Workers.tally c.run_group-result.new.workers)) (sym end.told)
            (leader_came c.args.kernel.now c.run_group-result.new.kernel c.of-shim.result.teller
            c.run_group-result.new.shim.teller _ _ _ _ _ _ fresh images config opened
            c.run_group-result.result run.runs run.asks run.cut run.causes.shim c.look.ensures);
      };
      host_cause = λ is. host_rose c.of-shim.result.teller c.run_group-result.new.shim.teller
          _ _ _ _ c.run_group-result.result (ap (λ (t : TellerState). t.stops) begins) follows
          run.causes.shim is;
      sinks = run.causes.sinks;
      out_steady = run.out_steady;
      err_steady = run.err_steady;
      host_later = follows.grows;
      out_later = run.causes.out_later;
      err_later = run.causes.err_later;
      fixed = run.fixed;
    }
