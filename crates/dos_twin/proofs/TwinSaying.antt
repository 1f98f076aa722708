-- What a twin leaves after its last line: the leader's error has grown by these bytes more.
use Rattle.std.proofs.Common.{ℕ, ◌≡◌, ◌≤◌, refl, sym, ap, ◌∙◌, subst, inl, inr, arith, List, []}
use Rattle.std.proofs.Common.{◌⊎◌, append-nil, Option}
use Rattle.dos_io.specs.Outside.{grown}
use Rattle.dos_io.proofs.OutsideLaws.{grown-nothing, grown-twice}
use Rattle.elf_image.specs.Image.{Image}
use Rattle.dos_texts.specs.declared.refusal.Refusal.{Refusal}
use Rattle.dos_texts.specs.declared.refusal.Refusal.TheVariants as refusals
use Rattle.dos_words.specs.Numbers.{Text}
use Rattle.dos_twin.specs.TwinImages.{TwinBegun, TwinNotBegun}
use Rattle.dos_twin.specs.TwinLeaves.{BothGrew, CutTwin, CutTwinReport, StoppedTwin, TwinFails}
use Rattle.dos_twin.specs.TwinLeaves.{TwinLeaves}
use Rattle.dos_twin.specs.TwinOutside.{TwinFaults, TwinFilesStay, TwinOutputFailed, TwinOutside}
use Rattle.dos_twin.specs.TwinOutside.{TwinSays}

-- the leader's error tells this in the end
abbrev pub with_error : TwinOutside → Option (List ℕ) → TwinOutside
with_error o e = record o { err_after = e }

-- and has failed so often
abbrev pub with_faults : TwinFaults → ℕ → TwinFaults
with_faults f n = record f { err_after = n }

-- all stands
pub says_nothing : (o : TwinOutside) → o.out_after ≡ o.out → o.err_after ≡ o.err
    → o.second_out_after ≡ o.second_out → o.second_err_after ≡ o.second_err → TwinFilesStay o
    → o.host_after ≡ o.host → o.tally_after ≡ o.tally → TwinSays o []
says_nothing o out err second_out second_err files host tally = record {
  out_stays = out;
  err_says = err ∙ grown-nothing o.err;
  second_out_stays = second_out;
  second_err_stays = second_err;
  files_stay = files;
  host_stays = host;
  tally_stays = tally;
}

module _ (o : TwinOutside) (e : Option (List ℕ)) (last : List ℕ)
    (more : e ≡ grown o.err_after last) where
  says_more : TwinSays o [] → TwinSays (with_error o e) last
  says_more s = record {
    out_stays = s.out_stays;
    err_says = more ∙ ap (λ told. grown told last) (s.err_says ∙ sym (grown-nothing o.err));
    second_out_stays = s.second_out_stays;
    second_err_stays = s.second_err_stays;
    files_stay = s.files_stay;
    host_stays = s.host_stays;
    tally_stays = s.tally_stays;
  }

  not_begun_more : (names : List Text) (why : Refusal) → TwinNotBegun names o why []
      → TwinNotBegun names (with_error o e) why last
  not_begun_more names why h = record { is = h.is; says = says_more h.says }

  grew_more : (output error : List ℕ) → BothGrew o output error []
      → BothGrew (with_error o e) output error last
  grew_more output error g = record {
    put = record {
      out_is = g.put.out_is;
      err_is = more
          ∙ ap (λ told. grown told last) (g.put.err_is ∙ ap (grown o.err) (append-nil error))
          ∙ grown-twice o.err error last;
    };
    second = g.second;
  }

  stopped_more : (images : List Image) → StoppedTwin images [] o
      → StoppedTwin images last (with_error o e)
  stopped_more images h = record {
    told = h.told;
    question = h.question;
    output = h.output;
    error = h.error;
    ran = h.ran;
    given = h.given;
    grew = grew_more h.output h.error h.grew;
    files_stay = h.files_stay;
  }

  begun_more : (names : List Text) (P Q : List Image → Type 0)
      → ((images : List Image) → P images → Q images) → TwinBegun names o P
      → TwinBegun names (with_error o e) Q
  begun_more names P Q then h =
      record { images = h.images; is = h.is; so = then h.images h.so }

  stopped_begun : (names : List Text) → TwinBegun names o (λ images. StoppedTwin images [] o)
      → TwinBegun names (with_error o e) (λ images. StoppedTwin images last (with_error o e))
  stopped_begun names h =
      begun_more names (λ images. StoppedTwin images [] o)
      (λ images. StoppedTwin images last (with_error o e)) stopped_more h

-- where nothing more was said
same_error : (o : TwinOutside) (e : Option (List ℕ)) → e ≡ grown o.err_after [] → e ≡ o.err_after
same_error o e more = more ∙ sym (grown-nothing o.err_after)

cut_same : (o : TwinOutside) (e : Option (List ℕ)) (images : List Image) → e ≡ o.err_after
    → CutTwin images o ⊎ CutTwinReport images o
    → CutTwin images (with_error o e) ⊎ CutTwinReport images (with_error o e)
cut_same o e images same h =
    subst (λ (told : Option (List ℕ)). CutTwin images (with_error o told)
    ⊎ CutTwinReport images (with_error o told)) (sym same) h

pub output_failed : (f : TwinFaults) (n : ℕ) → f.err_after ≤ n → TwinOutputFailed f
    → TwinOutputFailed (with_faults f n)
output_failed f n later (inl rose) = inl rose
output_failed f n later (inr (inl rose)) = inr (inl (omega (arith, later, rose)))
output_failed f n later (inr (inr rose)) = inr (inr rose)

leaves_more : (names : List Text) (o : TwinOutside) (f : TwinFaults) (n : ℕ)
    (e : Option (List ℕ)) (why : Refusal) (last : List ℕ) → f.err_after ≤ n
    → (why ≡ refusals.Sink → last ≡ []) → e ≡ grown o.err_after last
    → TwinLeaves names o f why [] → TwinLeaves names (with_error o e) (with_faults f n) why last
leaves_more names o f n e (refusals.TooLong image) last later none more h =
    not_begun_more o e last more names (refusals.TooLong image) h
leaves_more names o f n e (refusals.Image image error) last later none more h =
    not_begun_more o e last more names (refusals.Image image error) h
leaves_more names o f n e (refusals.NoRoom needed frames) last later none more h =
    not_begun_more o e last more names (refusals.NoRoom needed frames) h
leaves_more names o f n e refusals.Files last later none more h =
    (h.0, says_more o e last more h.1)
leaves_more names o f n e refusals.Host last later none more h =
    (h.0, stopped_begun o e last more names h.1)
leaves_more names o f n e refusals.Sink last later none more h =
    let nothing : last ≡ [] = none refl in (
      output_failed f n later h.0,
      nothing,
      begun_more o e last more names (λ images. CutTwin images o ⊎ CutTwinReport images o)
          (λ images. CutTwin images (with_error o e) ⊎ CutTwinReport images (with_error o e))
          (λ images. cut_same o e images
          (same_error o e (more ∙ ap (grown o.err_after) nothing))) h.2,
    )
leaves_more names o f n e refusals.Memory last later none more (inl says) =
    inl (says_more o e last more says)
leaves_more names o f n e refusals.Memory last later none more (inr begun) =
    inr (stopped_begun o e last more names begun)
leaves_more names o f n e why last later none more h = absurd h

-- What a call leaves whose words aren't names, or whose images came to no report, after the last
-- bytes.
pub fails_more : (words : List Text) (o : TwinOutside) (f : TwinFaults) (n : ℕ)
    (e : Option (List ℕ)) (why : Refusal) (last : List ℕ) → f.err_after ≤ n
    → (why ≡ refusals.Sink → last ≡ []) → e ≡ grown o.err_after last
    → TwinFails words o f why [] → TwinFails words (with_error o e) (with_faults f n) why last
fails_more words o f n e why last later none more (inl h) =
    inl (h.0, h.1, says_more o e last more h.2)
fails_more words o f n e why last later none more (inr (inl h)) =
    inr (inl (h.0, says_more o e last more h.1))
fails_more words o f n e why last later none more (inr (inr h)) =
    inr (inr (h.0, h.1, leaves_more h.0 o f n e why last later none more h.2))
