use Rattle.std.proofs.Common.{◌≤◌, ◌∙◌, ◌+◌, ap, length, refl, le_refl, le_trans, subst}
use Rattle.std.proofs.lemmas.Result.{err_from_is_err_and}
use Rattle.dos_cmd.proofs.Asked.{image_not_read, images_read, none_asked, one_more}
use Rattle.dos_cmd.proofs.RunEnds.{err_again, ok_no_err, then_rose}
use Rattle.debug_connection.specs.Keeping.{texts_of}
use Rattle.dos_cmd.proofs.RunFiles.{all_counted, digests_all, none_read, reads_all, reads_first}
use Rattle.dos_cmd.proofs.RunFiles.{keeps_all, keeps_first, keeps_more, reads_more}
use Rattle.dos_cmd.proofs.images.load_all.Goals as goal

pub loop-index-init : goal.loop-index-init
loop-index-init g c = record {
  reads = reads_first (g.F.Files.content c.args.files.now) c.args.names.now
      c.new-images.result.items c.new-digests.result c.new-images.ensures.items
      c.new-digests.ensures;
  kept = keeps_first (g.F.Files.content c.args.files.now) c.args.names.now _
      (ap texts_of c.new-contents.ensures.items);
  stays = λ n. refl;
  tells = refl;
  asked = none_asked _;
  later = le_refl _;
}

pub loop-index-preserved : goal.loop-index-preserved
loop-index-preserved g c =
    let next = c.in_ok-load_next.ensures.accepted in record {
      reads = reads_more (g.F.Files.content c.args.files.now)
          (g.F.Files.content c.loop-index.files) c.args.names.now c.loop-index.index _ _ _ _
          c.at.result.now next.parsed next.digest c.at.ensures c.loop-index.invariant.stays
          next.accepted next.digest_is next.fits next.image_last next.digest_last
          c.loop-index.invariant.reads;
      kept = keeps_more (g.F.Files.content c.args.files.now)
          (g.F.Files.content c.loop-index.files) c.args.names.now c.loop-index.index _ _
          c.at.result.now c.at.ensures c.loop-index.invariant.stays c.in_ok-load_next.ensures.kept
          c.loop-index.invariant.kept;
      stays = λ n. c.in_ok-load_next.ensures.stays n ∙ c.loop-index.invariant.stays n;
      tells = c.in_ok-load_next.ensures.tells ∙ c.loop-index.invariant.tells;
      asked = one_more _ _ _ c.args.names.now c.loop-index.index c.at.result.now c.at.ensures
          c.loop-index.invariant.asked c.in_ok-load_next.ensures.asked;
      later = le_trans c.loop-index.invariant.later c.in_ok-load_next.ensures.later;
    }

pub returns-in_err-load_next : goal.returns-in_err-load_next
returns-in_err-load_next g c =
    let p = err_from_is_err_and c.from_residual.result c.from_residual.ensures.1 in
    let before = c.loop-index.invariant in
    let next = c.in_err-load_next.ensures in
    rw (p.1, p.2) (record {
      accepted = tt;
      digests = tt;
      contents = tt;
      count = tt;
      digest_count = tt;
      are_digests = tt;
      refused = none_read (g.F.Files.content c.args.files.now)
          (g.F.Files.content c.loop-index.files) c.args.names.now c.loop-index.index _ _
          c.at.result.now _ c.at.ensures before.stays next.refused before.reads;
      fault = λ is. then_rose _ _ _ before.later (next.fault (err_again _ _ is));
      asked = image_not_read _ _ c.args.names.now (c.loop-index.index + 1) _ next.numbered
          (one_more _ _ _ c.args.names.now c.loop-index.index c.at.result.now c.at.ensures
          before.asked next.asked);
      later = le_trans before.later next.later;
      stays = λ n. next.stays n ∙ before.stays n;
      tells = next.tells ∙ before.tells;
    })

pub returns : goal.returns
returns g c =
    let files = g.F.Files.content c.args.files.now in
    let all = c.loop-index.invariant in
    let le : length c.args.names.now ≤ c.loop-index.index =
    subst (λ n. n ≤ c.loop-index.index) c.len-index-end.ensures c.loop-index-test.false in
    let whole = all_counted c.args.names.now c.loop-index.index c.len-index-end.result
    c.loop-index.auto.index-end c.loop-index-test.false c.len-index-end.ensures in
    record {
      accepted = reads_all files c.args.names.now c.loop-index.index _ _ le all.reads;
      digests = digests_all files c.args.names.now c.loop-index.index _ _ le all.reads;
      contents = keeps_all files c.args.names.now c.loop-index.index _ le all.kept;
      count = all.reads.count ∙ whole;
      digest_count = all.reads.digest_count ∙ whole;
      are_digests = all.reads.are_digests;
      refused = tt;
      fault = λ is. absurd (ok_no_err _ _ is);
      asked = images_read _ _ c.args.names.now c.loop-index.index le all.asked;
      later = all.later;
      stays = all.stays;
      tells = all.tells;
    }
