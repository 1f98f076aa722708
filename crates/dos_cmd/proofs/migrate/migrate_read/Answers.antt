use Rattle.std.proofs.Common.{le_refl, refl, length, rules, vec_len, ap, Err, ◌≡◌, ◌∙◌}
use Rattle.std.proofs.lemmas.Result.{err_from_is_err_and}
use Rattle.dos_io.specs.Outside.{grown}
use Rattle.dos_world.specs.declared.Ending.{Ending}
use Rattle.dos_texts.specs.declared.refusal.Refusal.TheVariants.{Sink}
use Rattle.dos_cmd.proofs.Asked.{later_making, not_asked, put_then}
use Rattle.dos_cmd.proofs.MigrationEnds.{lines_are, not_made, not_stored, stored_text}
use Rattle.dos_cmd.proofs.MigrationEnds.{untold}
use Rattle.dos_cmd.proofs.RunEnds.{is_err_of}
use Rattle.dos_cmd.proofs.migrate.migrate_read.Goals as goal

pub returns-in_err-text : goal.returns-in_err-text
returns-in_err-text g c =
    let p = err_from_is_err_and c.from_residual.result c.from_residual.ensures.1 in
    rw (p.1, p.2) (record {
      ends = tt;
      migrated = tt;
      leaves = not_made c.args.log.now c.args.to.now _ _ _ _ _ _ c.in_err-text.ensures.refused;
      asked = not_asked c.args.to.now _ _ (later_making _ _ c.in_err-text.ensures.refused);
      files_later = le_refl _;
      out_later = le_refl _;
      out_steady = λ _. refl;
    })

pub returns-in_err-store : goal.returns-in_err-store
returns-in_err-store g c =
    let p = err_from_is_err_and c.from_residual-in_err-store.result
    c.from_residual-in_err-store.ensures.1 in
    let store = c.in_err-store.ensures in
    rw (p.1, p.2) (record {
      ends = tt;
      migrated = tt;
      leaves = not_stored c.args.log.now c.args.to.now _ _ _ _ _ _ _ _ c.in_ok-text.ensures.fits
          store.fault (λ e. store.cause (is_err_of _ _ e)) c.store.ensures.others;
      asked = store.asked;
      files_later = c.store.ensures.later;
      out_later = le_refl _;
      out_steady = λ _. refl;
    })

pub returns-in-Ok : goal.returns-in-Ok
returns-in-Ok g c =
    let count : vec_len c.in_ok-text.text ≡ length c.in_ok-text.text.items = search rules in
    record {
      ends = refl;
      migrated = record {
        fits = c.in_ok-text.ensures.fits;
        stored = stored_text c.args.log.now c.args.to.now c.deref.result.now _ _ _
            (c.deref.ensures.value ∙ c.in_ok-text.ensures.text) c.in_ok-store.ensures.content
            c.in_ok-store.ensures.holds c.store.ensures.others;
        out_is = c.in-Ok.ensures.told ∙ ap (grown (g.O.Sink.told c.args.out.now))
            (lines_are c.args.log.now _ _ _ c.version.ensures c.bytes.ensures
            (c.len.ensures ∙ count ∙ ap length c.in_ok-text.ensures.text));
      };
      leaves = tt;
      asked = c.in_ok-store.ensures.asked;
      files_later = c.store.ensures.later;
      out_later = c.in-Ok.ensures.cause.later;
      out_steady = λ _. c.in-Ok.ensures.steady;
    }

pub returns : goal.returns
returns g c =
    let count : vec_len c.in_ok-text.text ≡ length c.in_ok-text.text.items = search rules in
    record {
      ends = tt;
      migrated = tt;
      leaves = (
        c.in_ok-text.ensures.fits,
        record {
          rose = c.in-Err.ensures.cause.failed;
          stored = stored_text c.args.log.now c.args.to.now c.deref.result.now _ _ _
              (c.deref.ensures.value ∙ c.in_ok-text.ensures.text) c.in_ok-store.ensures.content
              c.in_ok-store.ensures.holds c.store.ensures.others;
          front = untold c.args.log.now _ _ _ _ _ c.version.ensures c.bytes.ensures
              (c.len.ensures ∙ count ∙ ap length c.in_ok-text.ensures.text) c.in-Err.ensures.front;
        },
      );
      asked = put_then {T = Ending} (Err Sink) c.args.to.now _ _ refl c.in_ok-store.ensures.asked;
      files_later = c.store.ensures.later;
      out_later = c.in-Err.ensures.cause.later;
      out_steady = λ other. absurd (other refl);
    }
