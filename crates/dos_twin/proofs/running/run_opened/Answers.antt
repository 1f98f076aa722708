use Rattle.std.proofs.Common.{None, inl, le_trans, refl, ◌∙◌}
use Rattle.group_rounds.specs.Kernels.{kernel_world}
use Rattle.dos_twin.specs.TwinOutside.{TwinFaults, TwinOutside, twin_faults, twin_outside}
use Rattle.dos_twin.proofs.TwinEnds.{not_sink, put_still, runs_did, runs_leave, twin_steady}
use Rattle.dos_twin.proofs.TwinSaying.{says_nothing}
use Rattle.dos_twin.proofs.running.run_opened.Goals as goal

pub returns-then-not-can_start-clause-leaves : goal.returns-then-not-can_start-clause-leaves
returns-then-not-can_start-clause-leaves g c =
    λ names contents after failed failed_after stay opened.
    inl (says_nothing _ refl refl refl refl stay refl refl)

pub returns-in_default-clause-leaves : goal.returns-in_default-clause-leaves
returns-in_default-clause-leaves g c =
    let none = c.in_default.ensures in
    λ names contents after failed failed_after stay opened.
    inl (says_nothing _ none.out_stays none.err_stays none.second_out_stays none.second_err_stays
    stay none.host_stays none.tally_stays)

pub returns : goal.returns
returns g c =
    let run = c.in-Ok.ensures in
    let both = c.in-Ok.both in
    let end = c.conclude-ended.ensures in
    let o : TwinOutside = twin_outside (λ _. None) (λ _. None)
    (g.H.Host.told c.args.host.now) (g.H.Host.told c.run_both.new.host)
    (g.O.Sink.told c.args.out.now) (g.O.Sink.told c.run_both.new.out)
    (g.E.Sink.told c.args.err.now) (g.E.Sink.told c.conclude-ended.new.err)
    (g.P.Sink.told c.args.second_out.now) (g.P.Sink.told c.run_both.new.second_out)
    (g.Q.Sink.told c.args.second_err.now) (g.Q.Sink.told c.run_both.new.second_err)
    (g.W.Workers.tally c.args.workers.now) (g.W.Workers.tally c.run_both.new.workers) in
    let f : TwinFaults = twin_faults 0 0 (g.H.Host.faults c.args.host.now)
    (g.H.Host.faults c.run_both.new.host) (g.O.Sink.faults c.args.out.now)
    (g.O.Sink.faults c.run_both.new.out) (g.E.Sink.faults c.args.err.now)
    (g.E.Sink.faults c.conclude-ended.new.err) (g.P.Sink.faults c.args.second_out.now)
    (g.P.Sink.faults c.run_both.new.second_out) (g.Q.Sink.faults c.args.second_err.now)
    (g.Q.Sink.faults c.run_both.new.second_err) in
    record {
      did = runs_did both.leader both.follower c.args.first c.args.second both.kernel o f
          (g.E.Sink.told c.run_both.new.err) run.ran c.conclude-ended.result end.ended end.told;
      leaves = runs_leave both.leader both.follower c.args.first c.args.second both.kernel o f
          (g.E.Sink.told c.run_both.new.err) run.ran c.conclude-ended.result
          (g.E.Sink.faults c.run_both.new.err) end.fails run.host_cause run.sinks run.second_sinks
          run.err_later;
      steady = λ other.
          let sink = not_sink both.leader both.follower c.conclude-ended.result
          (kernel_world both.kernel) _ _ _ _ end.ended end.fails other in
          let still = twin_steady both.leader both.follower _ _ _ _ _ _ _ _ sink run.out_steady
          run.err_steady run.second_out_steady run.second_err_steady in (
            still.0,
            put_still both.leader both.follower c.conclude-ended.result
                (kernel_world both.kernel) _ _ _ _ end.steady end.fails other ∙ still.1,
            still.2,
            still.3,
          );
      host_later = run.host_later;
      out_later = run.out_later;
      err_later = le_trans run.err_later end.later;
      second_out_later = run.second_out_later;
      second_err_later = run.second_err_later;
      fixed = run.fixed;
    }
