use Rattle.std.proofs.Common.{◌≡◌, ◌∙◌, ◌≤◌, ℕ, ap, le_trans, length, subst, sym, Some, None}
use Rattle.std.proofs.Common.{Err, [], arith}
use Rattle.std.specs.Prelude.{IfSome, IsErrOf}
use Rattle.debug_connection.specs.Keeping.{texts_of}
use Rattle.dos_cmd.specs.Judging.{contents_of}
use Rattle.std.proofs.lemmas.Result.{err_from_is_err_and}
use Rattle.log_files.specs.Judging.{disagreement}
use Rattle.log_files.specs.declared.refusal.LogRefusal.{LogRefusal}
use Rattle.log_text.specs.declared.header.LogHeader.{LogHeader}
use Rattle.dos_texts.specs.declared.refusal.Refusal.TheVariants as refusals
use Rattle.dos_cmd.proofs.Asked.{log_not_read, log_then_all, log_then_stops, not_agreed}
use Rattle.dos_cmd.proofs.NotBegun.{of_files}
use Rattle.dos_cmd.proofs.RunEnds.{err_again, ok_no_err, then_rose}
use Rattle.dos_cmd.proofs.ReplayTaking.{images_refused, reading_refused, same_count, taken_after}
use Rattle.dos_cmd.proofs.ReplayTaking.{told_before}
use Rattle.dos_cmd.proofs.replay.take.Goals as goal

-- a log that disagrees isn't a fault of the files
not_files : {T : Type 0} (why : LogRefusal)
    → IsErrOf {T = T} (Err (refusals.Log why)) refusals.Files → ⊥
not_files why is = cc

few_as : (n m : ℕ) → n ≡ m → m ≤ 8 → n ≤ 8
few_as n m is few = subst (λ k. k ≤ 8) (sym is) few

pub load_all-requires : goal.load_all-requires
load_all-requires g c = c.requires

pub returns-in_err-log : goal.returns-in_err-log
returns-in_err-log g c =
    let p = err_from_is_err_and c.from_residual.result c.from_residual.ensures.1 in
    rw (p.1, p.2) (record {
      taken = tt;
      contents = tt;
      some = tt;
      few = tt;
      count = tt;
      refused = (reading_refused _ _ _ c.in_err-log.ensures.refused);
      fault = λ is. c.in_err-log.ensures.fault (err_again _ _ is);
      asked = log_not_read c.args.log.now c.args.names.now [] _ _ _ c.in_err-log.ensures.of_file
          c.read.ensures.asked;
      later = c.read.ensures.later;
      stays = c.read.ensures.stays;
      tells = c.read.ensures.tells;
    })

pub returns-in_err-images : goal.returns-in_err-images
returns-in_err-images g c =
    let p = err_from_is_err_and c.from_residual-in_err-images.result
    c.from_residual-in_err-images.ensures.1 in
    rw (p.1, p.2) (record {
      taken = tt;
      contents = tt;
      some = tt;
      few = tt;
      count = tt;
      refused = (of_files _ _ _
          (λ w h. images_refused (g.F.Files.content c.args.files.now)
          (g.F.Files.content c.read.new.files) c.args.log.now c.args.names.now c.in_ok-log.log w
          c.read.ensures.stays c.in_ok-log.ensures.accepted h)
          c.in_err-images.ensures.refused);
      fault = λ is. then_rose _ _ _ c.read.ensures.later
          (c.in_err-images.ensures.fault (err_again _ _ is));
      asked = log_then_stops c.args.log.now c.args.names.now _ _ _ _
          c.read.ensures.asked c.in_err-images.ensures.asked;
      later = le_trans c.read.ensures.later c.load_all.ensures.later;
      stays = λ n. c.load_all.ensures.stays n ∙ c.read.ensures.stays n;
      tells = c.load_all.ensures.tells ∙ c.read.ensures.tells;
    })

pub returns-in-Ok : goal.returns-in-Ok
returns-in-Ok g c = record {
  taken = taken_after (g.F.Files.content c.args.files.now) (g.F.Files.content c.read.new.files)
      c.args.log.now c.args.names.now c.in_ok-log.log c.in_ok-images.images.items
      c.in_ok-images.digests None c.read.ensures.stays c.in_ok-log.ensures.accepted
      c.in_ok-images.ensures.accepted c.in_ok-images.ensures.digests
      (subst (λ (h : LogHeader). disagreement c.in_ok-images.digests h.digests ≡ None)
      c.header.ensures c.in-Ok.ensures);
  contents = told_before (g.F.Files.content c.args.files.now) (g.F.Files.content c.read.new.files)
      c.args.names.now (λ told. IfSome (contents_of told)
      (λ all. texts_of c.in_ok-images.contents.items ≡ all)) c.read.ensures.stays
      c.in_ok-images.ensures.contents;
  some = let load = c.in_ok-images.ensures in
      let same = same_count c.in_ok-images.digests c.header.result.now.digests c.in-Ok.ensures in
      let logged = ap (λ (h : LogHeader). length h.digests) c.header.ensures in
      let fits = c.len-len.ensures.fits.header.count.0 in
      omega (arith, same, logged, fits, load.count, load.digest_count);
  few = few_as _ _ c.in_ok-images.ensures.count c.requires;
  count = c.in_ok-images.ensures.count;
  refused = tt;
  fault = λ is. absurd (ok_no_err _ _ is);
  asked = log_then_all c.args.log.now c.args.names.now _ _ _ c.read.ensures.asked
      c.in_ok-images.ensures.asked;
  later = le_trans c.read.ensures.later c.load_all.ensures.later;
  stays = λ n. c.load_all.ensures.stays n ∙ c.read.ensures.stays n;
  tells = c.load_all.ensures.tells ∙ c.read.ensures.tells;
}

pub returns-in-Err : goal.returns-in-Err
returns-in-Err g c = record {
  taken = tt;
  contents = tt;
  some = tt;
  few = tt;
  count = tt;
  refused = taken_after (g.F.Files.content c.args.files.now) (g.F.Files.content c.read.new.files)
      c.args.log.now c.args.names.now c.in_ok-log.log c.in_ok-images.images.items
      c.in_ok-images.digests (Some c.in-Err.why) c.read.ensures.stays c.in_ok-log.ensures.accepted
      c.in_ok-images.ensures.accepted c.in_ok-images.ensures.digests
      (subst (λ (h : LogHeader). disagreement c.in_ok-images.digests h.digests ≡ Some c.in-Err.why)
      c.header.ensures c.in-Err.ensures);
  fault = λ is. absurd (not_files _ is);
  asked = not_agreed c.args.log.now c.args.names.now c.in_ok-images.digests
      c.header.result.now.digests c.in-Err.why _ _ c.in-Err.ensures
      (log_then_all c.args.log.now c.args.names.now _ _ _ c.read.ensures.asked
      c.in_ok-images.ensures.asked);
  later = le_trans c.read.ensures.later c.load_all.ensures.later;
  stays = λ n. c.load_all.ensures.stays n ∙ c.read.ensures.stays n;
  tells = c.load_all.ensures.tells ∙ c.read.ensures.tells;
}
