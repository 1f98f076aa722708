use Rattle.std.proofs.lemmas.Result.{err_from_is_err_and}
use Rattle.dos_cmd.proofs.RunEnds.{err_again, ok_no_err}
use Rattle.dos_cmd.proofs.RunFiles.{texts_more}
use Rattle.dos_cmd.proofs.images.load_next.Goals as goal

pub returns-in_err-parsed : goal.returns-in_err-parsed
returns-in_err-parsed g c =
    let p = err_from_is_err_and c.from_residual.result c.from_residual.ensures.1 in
    let load = c.in_err-parsed.ensures in
    rw (p.1, p.2) (record {
      accepted = tt;
      kept = tt;
      refused = load.refused;
      numbered = load.numbered;
      asked = load.asked;
      fault = λ is. load.fault (err_again _ _ is);
      later = load.later;
      stays = load.stays;
      tells = load.tells;
    })

pub returns : goal.returns
returns g c =
    let load = c.in_ok-parsed.ensures in
    record {
      accepted = record {
        parsed = c.in_ok-parsed.parsed;
        digest = c.in_ok-parsed.digest;
        accepted = load.accepted;
        digest_is = load.digest;
        fits = load.fits;
        image_last = c.in_ok-push.ensures.items;
        digest_last = c.push-3.ensures;
      };
      kept = record {
        bytes = c.in_ok-parsed.bytes.items;
        bytes_are = load.content;
        last = texts_more _ _ c.in_ok-parsed.bytes c.in_ok-push-2.ensures.items;
      };
      refused = tt;
      numbered = tt;
      asked = load.asked;
      fault = λ is. absurd (ok_no_err _ _ is);
      later = load.later;
      stays = load.stays;
      tells = load.tells;
    }
