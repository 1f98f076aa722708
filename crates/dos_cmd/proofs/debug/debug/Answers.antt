use Rattle.std.proofs.Common.{inl, le_refl, refl, [], ◌∷◌}
use Rattle.std.proofs.lemmas.Result.{err_from_is_err_and}
use Rattle.debug_connection.specs.Keeping.{texts_of}
use Rattle.dos_words.specs.declared.request.Request.TheVariants as requests
use Rattle.logged_runs.specs.Recording.{host_seen}
use Rattle.dos_cmd.specs.Asking.{file_calls, files_named}
use Rattle.dos_cmd.specs.Outside.{outside, faults}
use Rattle.dos_cmd.proofs.Asked.{later_debug, none_asked, stopped_later}
use Rattle.dos_cmd.proofs.DebugEnds.{as_many_copied, debug_begun, debug_leaves, debug_stopped}
use Rattle.dos_cmd.proofs.DebugEnds.{no_put_fault, no_read_fault}
use Rattle.dos_cmd.proofs.NotBegun.{leaves_reading, says_nothing}
use Rattle.dos_cmd.proofs.RunEnds.{is_err_of}
use Rattle.dos_cmd.proofs.Steady.{no_stop}
use Rattle.dos_cmd.proofs.debug.debug.Goals as goal

pub take-requires : goal.take-requires
take-requires g c = c.requires

-- as many names as images: each was copied
pub debug_group-requires : goal.debug_group-requires
debug_group-requires g c = record {
  some = c.in_ok-log.ensures.some;
  few = c.in_ok-log.ensures.few;
  names = as_many_copied c.in-Ok.copies.items c.args.names.now _ c.in-Ok.ensures
      c.in_ok-log.ensures.count;
}

-- the names weren't copied
pub returns-in-Err : goal.returns-in-Err
returns-in-Err g c = record {
  did = λ n e t. tt;
  leaves = λ n e t m. inl (says_nothing _ refl refl (λ name. refl) refl refl);
  asked = λ n. record {
    asked = [];
    until = (file_calls (files_named (c.args.log.now ∷ []) c.args.names.now []), refl);
    after_is = none_asked _;
  };
  files_later = le_refl _;
  host_later = le_refl _;
  host_steady = λ _. refl;
  out_later = le_refl _;
  out_steady = λ _. refl;
}

-- the files weren't read
pub returns-in_err-log : goal.returns-in_err-log
returns-in_err-log g c =
    let p = err_from_is_err_and c.from_residual.result c.from_residual.ensures.1 in
    let take = c.in_err-log.ensures in
    let host = host_seen (g.H.Host.told c.args.host.now) (g.H.Host.asked c.args.host.now) in
    rw (p.1, p.2) (record {
      did = λ n e t. tt;
      leaves = λ n e t m. leaves_reading (requests.Debug n c.args.log.now c.args.names.now)
          (outside (g.F.Files.tells c.args.files.now) (g.F.Files.content c.args.files.now)
          (g.F.Files.content c.take.new.files) host host (g.O.Sink.told c.args.out.now)
          (g.O.Sink.told c.args.out.now) e e t t)
          (faults (g.F.Files.faults c.args.files.now) (g.F.Files.faults c.take.new.files)
          (g.H.Host.faults c.args.host.now) (g.H.Host.faults c.args.host.now)
          (g.O.Sink.faults c.args.out.now) (g.O.Sink.faults c.args.out.now) m m) _ take.refused
          (λ is. take.fault (is_err_of _ _ is)) (says_nothing _ refl refl take.stays refl refl);
      asked = λ n. c.in_err-log.ensures.asked;
      files_later = c.take.ensures.later;
      host_later = le_refl _;
      host_steady = λ _. refl;
      out_later = le_refl _;
      out_steady = λ _. refl;
    })

-- the input was read to its end
pub returns-in-Ok-debug_group : goal.returns-in-Ok-debug_group
returns-in-Ok-debug_group g c =
    let take = c.in_ok-log.ensures in
    let run = c.in-Ok-debug_group.ensures in
    let host = host_seen (g.H.Host.told c.args.host.now) (g.H.Host.asked c.args.host.now) in
    let after = host_seen (g.H.Host.told c.debug_group.new.host)
    (g.H.Host.asked c.debug_group.new.host) in
    record {
      did = λ n e t. debug_begun c.in_ok-log.log c.in_ok-log.images.items c.args.names.now
          (texts_of c.in-Ok.copies.items) (texts_of c.in_ok-log.contents.items)
          (outside (g.F.Files.tells c.args.files.now) (g.F.Files.content c.args.files.now)
          (g.F.Files.content c.take.new.files) host after (g.O.Sink.told c.args.out.now)
          (g.O.Sink.told c.debug_group.new.out) e e t t) c.in-Ok.ensures take.contents take.stays
          refl refl c.args.log.now n _ refl take.taken run.room run.done;
      leaves = λ n e t m. tt;
      asked = λ n. take.asked;
      files_later = c.take.ensures.later;
      host_later = run.host_later;
      host_steady = λ _. run.host_steady (no_stop _ _);
      out_later = run.out_later;
      out_steady = λ _. run.out_steady (no_stop _ _);
    }

-- it stopped before
pub returns-in-Err-debug_group : goal.returns-in-Err-debug_group
returns-in-Err-debug_group g c =
    let take = c.in_ok-log.ensures in
    let run = c.in-Err-debug_group.ensures in
    let stop = c.in-Err-debug_group.stop in
    let host = host_seen (g.H.Host.told c.args.host.now) (g.H.Host.asked c.args.host.now) in
    let after = host_seen (g.H.Host.told c.debug_group.new.host)
    (g.H.Host.asked c.debug_group.new.host) in
    record {
      did = λ n e t. tt;
      leaves = λ n e t m.
          let o = outside (g.F.Files.tells c.args.files.now) (g.F.Files.content c.args.files.now)
          (g.F.Files.content c.take.new.files) host after (g.O.Sink.told c.args.out.now)
          (g.O.Sink.told c.debug_group.new.out) e e t t in
          let f = faults (g.F.Files.faults c.args.files.now) (g.F.Files.faults c.take.new.files)
          (g.H.Host.faults c.args.host.now) (g.H.Host.faults c.debug_group.new.host)
          (g.O.Sink.faults c.args.out.now) (g.O.Sink.faults c.debug_group.new.out) m m in
          debug_leaves c.in_ok-log.log c.in_ok-log.images.items c.args.log.now c.args.names.now n o
          f _ take.taken (debug_stopped c.in_ok-log.log c.in_ok-log.images.items c.args.names.now
          (texts_of c.in-Ok.copies.items) (texts_of c.in_ok-log.contents.items) o c.in-Ok.ensures
          take.contents take.stays refl refl f stop _ c.debug_refusal.ensures run.stopped
          run.host_cause run.sink_cause);
      asked = λ n. stopped_later (c.args.log.now ∷ []) c.args.names.now _ _ _
          (later_debug stop _ c.debug_refusal.ensures) take.asked;
      files_later = c.take.ensures.later;
      host_later = run.host_later;
      host_steady = λ other. run.host_steady (no_read_fault stop _ c.debug_refusal.ensures other);
      out_later = run.out_later;
      out_steady = λ other. run.out_steady (no_put_fault stop _ c.debug_refusal.ensures other);
    }
