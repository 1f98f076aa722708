use Rattle.std.proofs.Common.{le_refl, refl, Err}
use Rattle.std.proofs.lemmas.Result.{err_from_is_err_and}
use Rattle.dos_world.specs.declared.Ending.{Ending}
use Rattle.dos_texts.specs.declared.refusal.Refusal.TheVariants.{Sink}
use Rattle.dos_cmd.proofs.Asked.{put_then}
use Rattle.dos_cmd.proofs.RunEnds.{is_err_of}
use Rattle.dos_cmd.proofs.SaveEnds.{no_file}
use Rattle.dos_cmd.proofs.save.save_text.Goals as goal

pub returns-in_err-store : goal.returns-in_err-store
returns-in_err-store g c =
    let p = err_from_is_err_and c.from_residual.result c.from_residual.ensures.1 in
    let store = c.in_err-store.ensures in
    rw (p.1, p.2) (record {
      saved = tt;
      leaves = no_file c.args.text.now c.args.round c.args.to.now _ _ _ _ _ _ _ _ store.fault
          (λ e. store.cause (is_err_of _ _ e)) c.store.ensures.others;
      asked = store.asked;
      files_later = c.store.ensures.later;
      err_later = le_refl _;
      err_steady = λ _. refl;
    })

pub returns-in-Ok : goal.returns-in-Ok
returns-in-Ok g c = record {
  saved = record {
    ending_is = refl;
    stored = record {
      where_told = c.in_ok-store.ensures.content;
      where_all_tell = c.in_ok-store.ensures.holds;
      others = c.store.ensures.others;
    };
    err_is = c.in-Ok.ensures.told;
  };
  leaves = tt;
  asked = c.in_ok-store.ensures.asked;
  files_later = c.store.ensures.later;
  err_later = c.in-Ok.ensures.cause.later;
  err_steady = λ _. c.in-Ok.ensures.steady;
}

pub returns-in-Err : goal.returns-in-Err
returns-in-Err g c = record {
  saved = tt;
  leaves = record {
    rose = c.in-Err.ensures.cause.failed;
    stored = record {
      where_told = c.in_ok-store.ensures.content;
      where_all_tell = c.in_ok-store.ensures.holds;
      others = c.store.ensures.others;
    };
    front = c.in-Err.ensures.front;
  };
  asked = put_then {T = Ending} (Err Sink) c.args.to.now _ _ refl c.in_ok-store.ensures.asked;
  files_later = c.store.ensures.later;
  err_later = c.in-Err.ensures.cause.later;
  err_steady = λ other. absurd (other refl);
}
