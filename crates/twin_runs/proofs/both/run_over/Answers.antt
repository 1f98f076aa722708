use Rattle.std.proofs.Common.{ℕ, [], Some, ap, rules}
use Rattle.dos_io.specs.Given.{Given}
use Rattle.dos_io.specs.declared.exchange.ClockRule.TheVariants.{FromHost}
use Rattle.twin_shims.specs.Notes.{exchanges_in}
use Rattle.twin_runs.specs.Twins.{Followed, Led}
use Rattle.twin_runs.proofs.BothRuns.{ran_both}
use Rattle.twin_runs.proofs.both.run_over.Goals as goal

pub join_mut-taken-requires-after_bounds : goal.join_mut-taken-requires-after_bounds
join_mut-taken-requires-after_bounds g c κs bounds = (
  (
    c.requires.second_running,
    (c.requires.second_fresh, (ap Some c.of-2.ensures, (search rules, search rules, search rules))),
  ),
  (
    c.requires.running,
    (c.requires.fresh, (ap Some c.of.ensures, (search rules, search rules, search rules))),
  ),
)

pub returns-clause-ran : goal.returns-clause-ran
returns-clause-ran g c =
    let given : Given [] FromHost 0 (g.H.Host.told c.args.host.now)
    (g.H.Host.told c.host-1.given.0) (exchanges_in c.join_mut-taken.result.1.1.notes) =
    search rules in
    let led : Led c.args.first c.first-2-1.given.0 c.join_mut-taken.result.1.0
    c.join_mut-taken.result.1.1.notes (g.O.Sink.told c.args.out.now)
    (g.E.Sink.told c.args.err.now) (g.O.Sink.told c.out-1.given.0) (g.E.Sink.told c.err-1.given.0)
    (g.W.Workers.tally c.args.workers.now) (g.W.Workers.tally c.workers-1.given.0) =
    search rules in
    let followed : (before after : ℕ) × Followed c.args.second c.second-2-1.given.0
    c.join_mut-taken.result.0.0 c.join_mut-taken.result.0.1.notes
    (g.P.Sink.told c.args.second_out.now) (g.Q.Sink.told c.args.second_err.now)
    (g.P.Sink.told c.second_out-1.given.0) (g.Q.Sink.told c.second_err-1.given.0) before after =
    search rules in
    ran_both c.join_mut-taken.result.1.0 c.join_mut-taken.result.0.0
    c.join_mut-taken.result.1.1.notes c.join_mut-taken.result.0.1.notes _ _ c.args.first
    c.first-2-1.given.0 c.args.second c.second-2-1.given.0 _ _ _ _ _ _ _ _ _ _ c.compare.ensures
    given led.came followed
