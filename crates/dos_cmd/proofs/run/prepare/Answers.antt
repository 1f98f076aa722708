use Rattle.std.proofs.Common.{inl, refl, []}
use Rattle.std.proofs.lemmas.Result.{err_from_is_err_and}
use Rattle.dos_cmd.specs.Requests.{request_asked}
use Rattle.dos_texts.specs.declared.refusal.Refusal.TheVariants.{Memory}
use Rattle.dos_cmd.proofs.Asked.{stopped_later}
use Rattle.dos_cmd.proofs.NotBegun.{says_nothing}
use Rattle.dos_cmd.proofs.RunCalls.{prepared}
use Rattle.dos_cmd.proofs.run.prepare.Goals as goal

pub returns-in_err-kernel : goal.returns-in_err-kernel
returns-in_err-kernel g c =
    let p = err_from_is_err_and c.from_residual.result c.from_residual.ensures.1 in
    let opening = c.in_err-kernel.ensures in
    rw (p.1, p.2) (record {
      ready = tt;
      running = tt;
      fresh = tt;
      begins = tt;
      leaves = opening.leaves;
      asked = opening.asked;
      later = opening.later;
      stays = opening.stays;
      tells = opening.tells;
    })

pub returns-in-Ok-clause-ready : goal.returns-in-Ok-clause-ready
returns-in-Ok-clause-ready g c =
    let opening = c.in_ok-kernel.ensures in
    let named = opening.opened in record {
      images = named.images;
      taken = named.taken;
      prepared = λ o. prepared (request_asked c.args.request.now) named.images
          (record o { files = g.F.Files.content c.args.files.now }) c.in_ok-kernel.kernel
          c.in-Ok.ledger _ _ _ _ _ named.opened c.in-Ok.ensures.empty refl refl refl
          opening.digests;
    }

pub returns-in-Err : goal.returns-in-Err
returns-in-Err g c =
    let opening = c.in_ok-kernel.ensures in
    record {
      ready = tt;
      running = tt;
      fresh = tt;
      begins = tt;
      leaves = rw c.in-Err.ensures.memory
          (λ n h out err t k l m. inl (says_nothing _ refl refl opening.stays refl refl));
      asked = rw c.in-Err.ensures.memory
          (stopped_later [] c.args.request.now.names.now Memory _ _ tt opening.asked);
      later = opening.later;
      stays = opening.stays;
      tells = opening.tells;
    }
