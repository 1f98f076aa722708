use Rattle.std.proofs.Common.{◌∙◌, le_refl, refl, subst, sym}
use Rattle.std.proofs.lemmas.Result.{err_from_is_err_and}
use Rattle.dos_cmd.proofs.Asked.{IsLater, not_asked}
use Rattle.dos_cmd.proofs.SaveEnds.{leaves_as, no_text, saved_as, when_ok}
use Rattle.dos_cmd.proofs.save.save_group.Goals as goal

pub returns-in_err-text : goal.returns-in_err-text
returns-in_err-text g c =
    let p = err_from_is_err_and c.from_residual.result c.from_residual.ensures.1 in
    rw (p.1, p.2) (record {
      saved = tt;
      back = tt;
      leaves = no_text _ c.args.round c.args.to.now _ _ _ _ _ _ c.in_err-text.ensures.memory;
      asked = not_asked c.args.to.now _ _ (subst IsLater (sym c.in_err-text.ensures.memory) tt);
      files_later = le_refl _;
      err_later = le_refl _;
      err_steady = λ _. refl;
    })

pub returns : goal.returns
returns g c =
    let is = c.deref.ensures.value ∙ c.in_ok-text.ensures.text in
    record {
      saved = saved_as c.save_text.result c.deref.result.now _ c.args.round c.args.to.now _ _ _ _ _
          is c.save_text.ensures.saved;
      back = when_ok c.save_text.result c.in_ok-text.ensures.back;
      leaves = leaves_as c.save_text.result c.deref.result.now _ c.args.round c.args.to.now _ _ _ _
          _ _ _ _ _ is c.save_text.ensures.leaves;
      asked = c.save_text.ensures.asked;
      files_later = c.save_text.ensures.files_later;
      err_later = c.save_text.ensures.err_later;
      err_steady = c.save_text.ensures.err_steady;
    }
