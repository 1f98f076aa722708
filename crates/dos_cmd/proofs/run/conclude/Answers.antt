use Rattle.std.proofs.Common.{inl, refl}
use Rattle.std.proofs.lemmas.Result.{err_from_is_err_and}
use Rattle.dpg_run.specs.Report.{report_in}
use Rattle.group_rounds.specs.Kernels.{kernel_world}
use Rattle.dos_cmd.proofs.Asked.{put_then}
use Rattle.dos_cmd.proofs.RunEnds.{is_err_of, unreported, written_then}
use Rattle.dos_cmd.proofs.Steady.{report_steady}
use Rattle.dos_cmd.proofs.run.conclude.Goals as goal

pub returns-in_err-store-clause-leaves : goal.returns-in_err-store-clause-leaves
returns-in_err-store-clause-leaves g c =
    let p = err_from_is_err_and c.from_residual.result c.from_residual.ensures.1 in
    let store = c.in_err-store.ensures in
    rw (p.1, p.2) (inl (record {
      cause = store.fault;
      rose = λ e. store.cause (is_err_of _ _ e);
      err_stays = refl;
    }))

pub returns-clause-written : goal.returns-clause-written
returns-clause-written g c =
    let store = c.in_ok-store.ensures in
    written_then c.report.result c.args.log.now (g.F.Files.tells c.args.files.now)
    (g.F.Files.content c.args.files.now) (g.F.Files.content c.store.new.files) c.args.name.now
    store.content store.holds

pub returns-clause-leaves : goal.returns-clause-leaves
returns-clause-leaves g c =
    let store = c.in_ok-store.ensures in
    unreported c.report.result c.args.log.now (g.F.Files.tells c.args.files.now)
    (g.F.Files.content c.args.files.now) (g.F.Files.content c.store.new.files) c.args.name.now
    (g.F.Files.faults c.args.files.now) (g.F.Files.faults c.store.new.files)
    (g.E.Sink.faults c.args.err.now) (g.E.Sink.faults c.report.new.err)
    (g.E.Sink.told c.args.err.now) (g.E.Sink.told c.report.new.err)
    (report_in (kernel_world c.args.kernel.now) c.args.ending) store.content store.holds
    c.report.ensures.sink c.report.ensures.cause c.report.ensures.front

pub returns-clause-err_steady : goal.returns-clause-err_steady
returns-clause-err_steady g c =
    report_steady c.report.result _ _ c.report.ensures.sink c.report.ensures.steady

pub returns-in_err-store-clause-asked : goal.returns-in_err-store-clause-asked
returns-in_err-store-clause-asked g c =
    let p = err_from_is_err_and c.from_residual.result c.from_residual.ensures.1 in
    rw (p.1, p.2) c.in_err-store.ensures.asked

pub returns-clause-asked : goal.returns-clause-asked
returns-clause-asked g c = put_then c.report.result c.args.name.now _ _ c.report.ensures.sink
    c.in_ok-store.ensures.asked
