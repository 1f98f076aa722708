use Rattle.std.proofs.Common.{le_refl, le_trans, refl, [], ◌∷◌}
use Rattle.std.proofs.lemmas.Result.{err_from_is_err_and}
use Rattle.dos_words.specs.declared.request.Request.TheVariants as requests
use Rattle.dos_cmd.specs.Outside.{outside, faults}
use Rattle.dos_cmd.proofs.Asked.{later_if, later_migration, log_not_read, written_then}
use Rattle.dos_cmd.proofs.MigrationEnds.{migrate_did, migrate_leaves, migrate_reading}
use Rattle.dos_cmd.proofs.NotBegun.{leaves_reading, says_nothing}
use Rattle.dos_cmd.proofs.RunEnds.{is_err_of}
use Rattle.dos_cmd.proofs.migrate.migrate.Goals as goal

pub returns-in_err-old : goal.returns-in_err-old
returns-in_err-old g c =
    let p = err_from_is_err_and c.from_residual.result c.from_residual.ensures.1 in
    let read = c.in_err-old.ensures in
    rw (p.1, p.2) (record {
      did = λ h e t. tt;
      leaves = λ h e t m n. leaves_reading (requests.Migrate c.args.log.now c.args.to.now)
          (outside (g.F.Files.tells c.args.files.now) (g.F.Files.content c.args.files.now)
          (g.F.Files.content c.read.new.files) h h (g.O.Sink.told c.args.out.now)
          (g.O.Sink.told c.args.out.now) e e t t)
          (faults (g.F.Files.faults c.args.files.now) (g.F.Files.faults c.read.new.files) m m
          (g.O.Sink.faults c.args.out.now) (g.O.Sink.faults c.args.out.now) n n) _
          (migrate_reading (g.F.Files.content c.args.files.now) c.args.log.now c.args.to.now _
          read.refused)
          (λ e. read.fault (is_err_of _ _ e))
          (says_nothing _ refl refl c.read.ensures.stays refl refl);
      asked = log_not_read c.args.log.now [] (c.args.to.now ∷ []) _ _ _ read.of_file
          c.read.ensures.asked;
      files_later = c.read.ensures.later;
      out_later = le_refl _;
      out_steady = λ _. refl;
    })

pub returns : goal.returns
returns g c =
    let read = c.read.ensures in
    let ended = c.migrate_read.ensures in
    record {
      did = migrate_did c.args.log.now c.args.to.now c.in_ok-old.old
          (g.F.Files.tells c.args.files.now) (g.F.Files.tells c.read.new.files)
          (g.F.Files.content c.args.files.now) (g.F.Files.content c.read.new.files)
          (g.F.Files.content c.migrate_read.new.files) (g.O.Sink.told c.args.out.now)
          (g.O.Sink.told c.migrate_read.new.out) read.stays read.tells
          c.in_ok-old.ensures.accepted c.migrate_read.result ended.ends ended.migrated;
      leaves = λ h e t m n. migrate_leaves c.args.log.now c.args.to.now c.in_ok-old.old
          (g.F.Files.tells c.args.files.now) (g.F.Files.tells c.read.new.files)
          (g.F.Files.content c.args.files.now) (g.F.Files.content c.read.new.files)
          (g.F.Files.content c.migrate_read.new.files) (g.O.Sink.told c.args.out.now)
          (g.O.Sink.told c.migrate_read.new.out) read.stays read.tells
          c.in_ok-old.ensures.accepted c.migrate_read.result
          (g.F.Files.faults c.args.files.now) (g.F.Files.faults c.read.new.files)
          (g.F.Files.faults c.migrate_read.new.files) (g.O.Sink.faults c.args.out.now)
          (g.O.Sink.faults c.migrate_read.new.out) read.later ended.leaves h e t m n;
      asked = written_then c.migrate_read.result (c.args.log.now ∷ []) [] c.args.to.now _ _ _
          read.asked (later_if c.migrate_read.result _ (λ why h. later_migration _ _ why _ _ _ _ _
          _ _ _ _ h) ended.leaves) ended.asked;
      files_later = le_trans read.later ended.files_later;
      out_later = ended.out_later;
      out_steady = ended.out_steady;
    }
