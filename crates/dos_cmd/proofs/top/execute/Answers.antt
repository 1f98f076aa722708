use Rattle.std.proofs.Common.{le_refl, refl, sym, ap, ◌∙◌}
use Rattle.dos_words.specs.declared.request.Request.TheVariants.{Inspect}
use Rattle.dos_cmd.proofs.Asked.{asks_as, none_named}
use Rattle.logged_runs.specs.Recording.{host_seen}
use Rattle.dos_cmd.proofs.Calls.{are_planned, did_as, fits_gen, fits_run, fits_save, leaves_as}
use Rattle.dos_cmd.proofs.top.execute.Goals as goal

-- ---- run

pub run-requires-clause-range : goal.run-requires-clause-range
run-requires-clause-range g c = λ κs alive.
    let fits = fits_run _ _ _ _ _ _ _ _ _ _ _ c.in-Run.is c.requires in
    record {
      quantum = fits.quantum_fits;
      rounds = fits.rounds_fit;
      frames = fits.frames_fit;
    }

pub run-requires-clause-some : goal.run-requires-clause-some
run-requires-clause-some g c = λ κs alive.
    let fits = fits_run _ _ _ _ _ _ _ _ _ _ _ c.in-Run.is c.requires in
    fits.names_fit.0

pub run-requires-clause-few : goal.run-requires-clause-few
run-requires-clause-few g c = λ κs alive.
    let fits = fits_run _ _ _ _ _ _ _ _ _ _ _ c.in-Run.is c.requires in
    fits.names_fit.1

pub run-requires-clause-few_posts : goal.run-requires-clause-few_posts
run-requires-clause-few_posts g c = λ κs alive.
    let fits = fits_run _ _ _ _ _ _ _ _ _ _ _ c.in-Run.is c.requires in
    fits.few_posts

pub run-requires-clause-planned : goal.run-requires-clause-planned
run-requires-clause-planned g c = λ κs alive.
    let fits = fits_run _ _ _ _ _ _ _ _ _ _ _ c.in-Run.is c.requires in
    are_planned _ fits.posts_fit

pub returns-in-Run : goal.returns-in-Run
returns-in-Run g c =
    let workers = c.in-Run.workers in
    record {
      did = did_as _ _ _ _ (c.run.ensures.did workers) c.in-Run.is;
      leaves = leaves_as _ _ _ _ _ (c.run.ensures.leaves workers) c.in-Run.is;
      asked = asks_as c.run.result _ _ _ _ c.in-Run.is (c.run.ensures.asked workers);
      files_later = c.run.ensures.files_later;
      host_later = c.run.ensures.host_later;
      host_steady = c.run.ensures.host_steady;
      out_later = c.run.ensures.out_later;
      err_later = c.run.ensures.err_later;
      out_steady = c.run.ensures.out_steady;
      err_steady = c.run.ensures.err_steady;
      fixed = c.run.ensures.fixed;
    }

-- ---- replay

pub returns-in-Replay : goal.returns-in-Replay
returns-in-Replay g c =
    let workers = c.in-Replay.workers in
    let host = host_seen (g.H.Host.told c.args.host.now) (g.H.Host.asked c.args.host.now) in
    record {
      did = did_as _ _ _ _ (c.replay.ensures.did workers host) c.in-Replay.is;
      leaves = leaves_as _ _ _ _ _ (c.replay.ensures.leaves workers host
          (g.H.Host.faults c.args.host.now)) c.in-Replay.is;
      asked = asks_as c.replay.result _ _ _ _ c.in-Replay.is
          (c.replay.ensures.asked workers);
      files_later = c.replay.ensures.files_later;
      host_later = le_refl _;
      host_steady = λ _. refl;
      out_later = c.replay.ensures.out_later;
      err_later = c.replay.ensures.err_later;
      out_steady = c.replay.ensures.out_steady;
      err_steady = c.replay.ensures.err_steady;
      fixed = c.replay.ensures.fixed;
    }

-- ---- save and resume

pub save-requires-clause-few : goal.save-requires-clause-few
save-requires-clause-few g c = λ κs alive. (fits_save _ _ _ _ _ _ c.in-Save.is c.requires).1

pub returns-in-Save : goal.returns-in-Save
returns-in-Save g c =
    let workers = c.in-Save.workers in
    let host = host_seen (g.H.Host.told c.args.host.now) (g.H.Host.asked c.args.host.now) in
    record {
      did = did_as _ _ _ _ (c.save.ensures.did workers host) c.in-Save.is;
      leaves = leaves_as _ _ _ _ _ (c.save.ensures.leaves workers host
          (g.H.Host.faults c.args.host.now)) c.in-Save.is;
      asked = asks_as c.save.result _ _ _ _ c.in-Save.is (c.save.ensures.asked workers);
      files_later = c.save.ensures.files_later;
      host_later = le_refl _;
      host_steady = λ _. refl;
      out_later = c.save.ensures.out_later;
      err_later = c.save.ensures.err_later;
      out_steady = c.save.ensures.out_steady;
      err_steady = c.save.ensures.err_steady;
      fixed = c.save.ensures.fixed;
    }

pub returns-in-Resume : goal.returns-in-Resume
returns-in-Resume g c =
    let workers = c.in-Resume.workers in
    let host = host_seen (g.H.Host.told c.args.host.now) (g.H.Host.asked c.args.host.now) in
    record {
      did = did_as _ _ _ _ (c.resume.ensures.did workers host) c.in-Resume.is;
      leaves = leaves_as _ _ _ _ _ (c.resume.ensures.leaves workers host
          (g.H.Host.faults c.args.host.now)) c.in-Resume.is;
      asked = asks_as c.resume.result _ _ _ _ c.in-Resume.is (c.resume.ensures.asked workers);
      files_later = c.resume.ensures.files_later;
      host_later = le_refl _;
      host_steady = λ _. refl;
      out_later = c.resume.ensures.out_later;
      err_later = c.resume.ensures.err_later;
      out_steady = c.resume.ensures.out_steady;
      err_steady = c.resume.ensures.err_steady;
      fixed = c.resume.ensures.fixed;
    }

-- ---- inspect

pub returns-in-Inspect : goal.returns-in-Inspect
returns-in-Inspect g c =
    let same = c.in-Inspect.is ∙ ap Inspect (sym c.as_str.ensures) in
    let host = host_seen (g.H.Host.told c.args.host.now) (g.H.Host.asked c.args.host.now) in
    let err = g.E.Sink.told c.args.err.now in
    let tally = g.W.Workers.tally c.args.workers.now in
    record {
      did = did_as _ _ _ _ (c.inspect.ensures.did host err tally) same;
      leaves = leaves_as _ _ _ _ _ (c.inspect.ensures.leaves host err tally
          (g.H.Host.faults c.args.host.now) (g.E.Sink.faults c.args.err.now)) same;
      asked = asks_as c.inspect.result _ _ _ _ same c.inspect.ensures.asked;
      files_later = c.inspect.ensures.files_later;
      host_later = le_refl _;
      host_steady = λ _. refl;
      out_later = c.inspect.ensures.out_later;
      err_later = le_refl _;
      out_steady = c.inspect.ensures.out_steady;
      err_steady = λ _. refl;
      fixed = refl;
    }

-- ---- gen

pub generate-requires-clause-some : goal.generate-requires-clause-some
generate-requires-clause-some g c = λ κs alive.
    let fits = fits_gen _ _ _ _ c.in-Gen.is c.requires in
    fits.0

pub generate-requires-clause-few : goal.generate-requires-clause-few
generate-requires-clause-few g c = λ κs alive.
    let fits = fits_gen _ _ _ _ c.in-Gen.is c.requires in
    fits.1

pub returns-in-Gen : goal.returns-in-Gen
returns-in-Gen g c =
    let workers = c.in-Gen.workers in
    let tells = g.F.Files.tells c.args.files.now in
    let files = g.F.Files.content c.args.files.now in
    let host = host_seen (g.H.Host.told c.args.host.now) (g.H.Host.asked c.args.host.now) in
    let err = g.E.Sink.told c.args.err.now in
    record {
      did = did_as _ _ _ _ (c.generate.ensures.did workers tells files host err) c.in-Gen.is;
      leaves = leaves_as _ _ _ _ _ (c.generate.ensures.leaves workers tells files host err
          (g.F.Files.faults c.args.files.now) (g.H.Host.faults c.args.host.now)
          (g.E.Sink.faults c.args.err.now)) c.in-Gen.is;
      asked = asks_as c.generate.result _ _ _ _ c.in-Gen.is (none_named c.generate.result _);
      files_later = le_refl _;
      host_later = le_refl _;
      host_steady = λ _. refl;
      out_later = c.generate.ensures.out_later;
      err_later = le_refl _;
      out_steady = c.generate.ensures.out_steady;
      err_steady = λ _. refl;
      fixed = c.generate.ensures.fixed;
    }

-- ---- migrate

pub returns-in-Migrate : goal.returns-in-Migrate
returns-in-Migrate g c =
    let host = host_seen (g.H.Host.told c.args.host.now) (g.H.Host.asked c.args.host.now) in
    let err = g.E.Sink.told c.args.err.now in
    let tally = g.W.Workers.tally c.args.workers.now in
    record {
      did = did_as _ _ _ _ (c.migrate.ensures.did host err tally) c.in-Migrate.is;
      leaves = leaves_as _ _ _ _ _ (c.migrate.ensures.leaves host err tally
          (g.H.Host.faults c.args.host.now) (g.E.Sink.faults c.args.err.now)) c.in-Migrate.is;
      asked = asks_as c.migrate.result _ _ _ _ c.in-Migrate.is c.migrate.ensures.asked;
      files_later = c.migrate.ensures.files_later;
      host_later = le_refl _;
      host_steady = λ _. refl;
      out_later = c.migrate.ensures.out_later;
      err_later = le_refl _;
      out_steady = c.migrate.ensures.out_steady;
      err_steady = λ _. refl;
      fixed = refl;
    }

-- ---- trace

pub returns-in-Trace : goal.returns-in-Trace
returns-in-Trace g c =
    let workers = c.in-Trace.workers in
    let host = host_seen (g.H.Host.told c.args.host.now) (g.H.Host.asked c.args.host.now) in
    record {
      did = did_as _ _ _ _ (c.trace.ensures.did workers host) c.in-Trace.is;
      leaves = leaves_as _ _ _ _ _ (c.trace.ensures.leaves workers host
          (g.H.Host.faults c.args.host.now)) c.in-Trace.is;
      asked = asks_as c.trace.result _ _ _ _ c.in-Trace.is (c.trace.ensures.asked workers);
      files_later = c.trace.ensures.files_later;
      host_later = le_refl _;
      host_steady = λ _. refl;
      out_later = c.trace.ensures.out_later;
      err_later = c.trace.ensures.err_later;
      out_steady = c.trace.ensures.out_steady;
      err_steady = c.trace.ensures.err_steady;
      fixed = c.trace.ensures.fixed;
    }

-- ---- debug

pub returns-in-Debug : goal.returns-in-Debug
returns-in-Debug g c =
    let workers = c.in-Debug.workers in
    let err = g.E.Sink.told c.args.err.now in
    let tally = g.W.Workers.tally c.args.workers.now in
    record {
      did = did_as _ _ _ _ (c.debug.ensures.did workers err tally) c.in-Debug.is;
      leaves = leaves_as _ _ _ _ _ (c.debug.ensures.leaves workers err tally
          (g.E.Sink.faults c.args.err.now)) c.in-Debug.is;
      asked = asks_as c.debug.result _ _ _ _ c.in-Debug.is (c.debug.ensures.asked workers);
      files_later = c.debug.ensures.files_later;
      host_later = c.debug.ensures.host_later;
      host_steady = c.debug.ensures.host_steady;
      out_later = c.debug.ensures.out_later;
      err_later = le_refl _;
      out_steady = c.debug.ensures.out_steady;
      err_steady = λ _. refl;
      fixed = refl;
    }
