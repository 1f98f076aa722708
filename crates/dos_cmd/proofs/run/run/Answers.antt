use Rattle.std.proofs.Common.{le_refl, le_trans, refl, [], ◌∷◌}
use Rattle.std.proofs.lemmas.Result.{err_from_is_err_and}
use Rattle.logged_runs.specs.Recording.{host_seen}
use Rattle.dos_cmd.specs.Outside.{Outside, Faults, outside, faults}
use Rattle.dos_cmd.specs.Requests.{request_asked}
use Rattle.dos_cmd.proofs.Asked.{stopped_in_reads, written_then}
use Rattle.dos_cmd.proofs.RunCalls.{run_did, run_later, run_leaves}
use Rattle.dos_cmd.proofs.run.run.Goals as goal

pub returns-in_err-kernel : goal.returns-in_err-kernel
returns-in_err-kernel g c =
    let p = err_from_is_err_and c.from_residual.result c.from_residual.ensures.1 in
    rw (p.1, p.2) (record {
      did = λ n. tt;
      leaves = (λ n. c.in_err-kernel.ensures.leaves n
          (host_seen (g.H.Host.told c.args.host.now) (g.H.Host.asked c.args.host.now))
          (g.O.Sink.told c.args.out.now) (g.E.Sink.told c.args.err.now)
          (g.W.Workers.tally c.args.workers.now) (g.H.Host.faults c.args.host.now)
          (g.O.Sink.faults c.args.out.now) (g.E.Sink.faults c.args.err.now));
      asked = λ n. stopped_in_reads [] c.args.request.now.names.now
          (c.args.request.now.log.now ∷ []) _ _ _ c.in_err-kernel.ensures.asked;
      files_later = c.prepare.ensures.later;
      host_later = le_refl _;
      host_steady = λ _. refl;
      out_later = le_refl _;
      err_later = le_refl _;
      out_steady = λ _. refl;
      err_steady = λ _. refl;
      fixed = refl;
    })

pub returns : goal.returns
returns g c =
    let at = c.in_ok-kernel.ensures in
    let ready = at.ready in
    let o : Outside = outside (g.F.Files.tells c.args.files.now)
    (g.F.Files.content c.args.files.now) (g.F.Files.content c.run_opened-ended.new.files)
    (host_seen (g.H.Host.told c.args.host.now) (g.H.Host.asked c.args.host.now))
    (host_seen (g.H.Host.told c.run_opened-ended.new.host)
    (g.H.Host.asked c.run_opened-ended.new.host))
    (g.O.Sink.told c.args.out.now) (g.O.Sink.told c.run_opened-ended.new.out)
    (g.E.Sink.told c.args.err.now) (g.E.Sink.told c.run_opened-ended.new.err)
    (g.W.Workers.tally c.args.workers.now) (g.W.Workers.tally c.run_opened-ended.new.workers) in
    let f : Faults = faults (g.F.Files.faults c.prepare.new.files)
    (g.F.Files.faults c.run_opened-ended.new.files) (g.H.Host.faults c.args.host.now)
    (g.H.Host.faults c.run_opened-ended.new.host) (g.O.Sink.faults c.args.out.now)
    (g.O.Sink.faults c.run_opened-ended.new.out) (g.E.Sink.faults c.args.err.now)
    (g.E.Sink.faults c.run_opened-ended.new.err) in
    record {
      did = run_did (request_asked c.args.request.now) ready.images o (g.F.Files.tells
          c.prepare.new.files)
          (g.F.Files.content c.prepare.new.files) c.in_ok-kernel.kernel c.in_ok-kernel.ledger
          c.run_opened-ended.result at.tells at.stays c.run_opened-ended.ensures.did (ready.prepared
          o)
          ready.taken;
      leaves = run_leaves (request_asked c.args.request.now) ready.images o (g.F.Files.tells
          c.prepare.new.files)
          (g.F.Files.content c.prepare.new.files) f (g.F.Files.faults c.args.files.now)
          c.in_ok-kernel.kernel c.in_ok-kernel.ledger c.run_opened-ended.result at.tells at.stays
          at.later
          c.run_opened-ended.ensures.leaves (ready.prepared o) ready.taken;
      asked = λ n. written_then c.run_opened-ended.result [] c.args.request.now.names.now
          c.args.request.now.log.now _ _ _ at.asked (run_later (request_asked
          c.args.request.now) ready.images o (g.F.Files.tells c.prepare.new.files)
          (g.F.Files.content c.prepare.new.files) f c.in_ok-kernel.kernel c.in_ok-kernel.ledger
          c.run_opened-ended.result at.tells at.stays c.run_opened-ended.ensures.leaves
          (ready.prepared o)) c.run_opened-ended.ensures.asked;
      files_later = le_trans c.prepare.ensures.later c.run_opened-ended.ensures.files_later;
      host_later = c.run_opened-ended.ensures.host_later;
      host_steady = c.run_opened-ended.ensures.host_steady;
      out_later = c.run_opened-ended.ensures.out_later;
      err_later = c.run_opened-ended.ensures.err_later;
      out_steady = c.run_opened-ended.ensures.out_steady;
      err_steady = c.run_opened-ended.ensures.err_steady;
      fixed = c.run_opened-ended.ensures.fixed;
    }

pub prepare-requires : goal.prepare-requires
prepare-requires g c = record {
  range = c.requires.range;
  some = c.requires.some;
  few = c.requires.few;
  few_posts = c.requires.few_posts;
  planned = c.requires.planned;
}

pub run_opened-ended-requires-clause-running : goal.run_opened-ended-requires-clause-running
run_opened-ended-requires-clause-running g c = λ κs alive. c.in_ok-kernel.ensures.running

pub run_opened-ended-requires-clause-fresh : goal.run_opened-ended-requires-clause-fresh
run_opened-ended-requires-clause-fresh g c = λ κs alive. c.in_ok-kernel.ensures.fresh

pub run_opened-ended-requires-clause-begins : goal.run_opened-ended-requires-clause-begins
run_opened-ended-requires-clause-begins g c = λ κs alive. c.in_ok-kernel.ensures.begins
