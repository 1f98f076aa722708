use Rattle.std.proofs.Common.{◌≡◌, inl, le_refl, refl, ℕ, List, [], ◌∷◌, Option, Some, None, Ok}
use Rattle.std.proofs.Common.{Err}
use Rattle.std.proofs.lemmas.Result.{err_from_is_err_and}
use Rattle.std.specs.Prelude.{IfSome, option_map}
use Rattle.dos_io.proofs.OutsideLaws.{grown-nothing}
use Rattle.elf_image.specs.Image.{Image}
use Rattle.dos_words.specs.Numbers.{Text}
use Rattle.dos_words.specs.declared.request.Request.TheVariants as requests
use Rattle.dos_cmd.specs.Judging.{images_from, judgement, of_images, taken_images, verdict}
use Rattle.dos_texts.specs.declared.refusal.Refusal.{Refusal}
use Rattle.dos_cmd.specs.Outside.{outside, faults}
use Rattle.dos_cmd.proofs.Asked.{image_not_read, stopped_later}
use Rattle.dos_cmd.proofs.NotBegun.{leaves_reading, of_files, says_nothing}
use Rattle.dos_cmd.proofs.RunEnds.{is_err_of}
use Rattle.dos_cmd.proofs.inspect.inspect.Goals as goal

-- what the one file is taken for
one_image : (contents : Text → Option (List ℕ)) (name : Text) (parsed : Image)
    → IfSome (contents name) (λ file. verdict 1 file ≡ Ok parsed)
    → IfSome (judgement contents (requests.Inspect name))
    (λ j. j ≡ Ok (taken_images (parsed ∷ [])))
one_image contents name parsed h = one (contents name) h
  where
    one : (told : Option (List ℕ)) → IfSome told (λ file. verdict 1 file ≡ Ok parsed)
        → IfSome (option_map of_images (images_from 1 (told ∷ [])))
        (λ j. j ≡ Ok (taken_images (parsed ∷ [])))
    one None h = tt
    one (Some file) h = rw h refl

-- or why it is refused
one_refused : (contents : Text → Option (List ℕ)) (name : Text) (why : Refusal)
    → IfSome (contents name) (λ file. verdict 1 file ≡ Err why)
    → IfSome (judgement contents (requests.Inspect name)) (λ j. j ≡ Err why)
one_refused contents name why h = one (contents name) h
  where
    one : (told : Option (List ℕ)) → IfSome told (λ file. verdict 1 file ≡ Err why)
        → IfSome (option_map of_images (images_from 1 (told ∷ []))) (λ j. j ≡ Err why)
    one None h = tt
    one (Some file) h = rw h refl

pub returns-in_err-image : goal.returns-in_err-image
returns-in_err-image g c =
    let p = err_from_is_err_and c.from_residual.result c.from_residual.ensures.1 in
    let load = c.in_err-image.ensures in
    rw (p.1, p.2) (record {
      did = λ h e t. tt;
      leaves = λ h e t m n. leaves_reading (requests.Inspect c.args.name.now)
          (outside (g.F.Files.tells c.args.files.now) (g.F.Files.content c.args.files.now)
          (g.F.Files.content c.load.new.files) h h (g.O.Sink.told c.args.out.now)
          (g.O.Sink.told c.args.out.now) e e t t)
          (faults (g.F.Files.faults c.args.files.now) (g.F.Files.faults c.load.new.files) m m
          (g.O.Sink.faults c.args.out.now) (g.O.Sink.faults c.args.out.now) n n) _
          (of_files _ _ _ (one_refused (g.F.Files.content c.args.files.now) c.args.name.now)
          load.refused)
          (λ e. load.fault (is_err_of _ _ e)) (says_nothing _ refl refl load.stays refl refl);
      asked = image_not_read _ _ (c.args.name.now ∷ []) 1 _ load.numbered load.asked;
      files_later = load.later;
      out_later = le_refl _;
      out_steady = λ _. refl;
    })

pub returns-in-Ok-clause-did : goal.returns-in-Ok-clause-did
returns-in-Ok-clause-did g c = λ h e t. record {
  taken = _;
  is = one_image (g.F.Files.content c.args.files.now) c.args.name.now c.in_ok-image.image
      c.in_ok-image.ensures.accepted;
  so = record {
    parsed = c.in_ok-image.image;
    only = refl;
    status_is = refl;
    grew = record { out_is = c.in-Ok.ensures.told; err_is = grown-nothing e };
    files_stay = c.load.ensures.stays;
    host_stays = refl;
    tally_stays = refl;
  };
}

pub returns-in-Err-clause-leaves : goal.returns-in-Err-clause-leaves
returns-in-Err-clause-leaves g c = λ h e t m n. (
  inl c.in-Err.ensures.cause.failed,
  refl,
  record {
    taken = _;
    is = one_image (g.F.Files.content c.args.files.now) c.args.name.now c.in_ok-image.image
        c.in_ok-image.ensures.accepted;
    so = record {
      parsed = c.in_ok-image.image;
      only = refl;
      cut = record {
        out_is = c.in-Err.ensures.front;
        err_stays = refl;
        files_stay = c.load.ensures.stays;
        host_stays = refl;
      };
      tally_stays = refl;
    };
  },
)

pub returns-in-Ok-clause-out_steady : goal.returns-in-Ok-clause-out_steady
returns-in-Ok-clause-out_steady g c = λ _. c.in-Ok.ensures.steady

pub returns-in-Err-clause-out_steady : goal.returns-in-Err-clause-out_steady
returns-in-Err-clause-out_steady g c = λ other. absurd (other refl)

pub returns-in-Ok-clause-asked : goal.returns-in-Ok-clause-asked
returns-in-Ok-clause-asked g c = c.load.ensures.asked

pub returns-in-Err-clause-asked : goal.returns-in-Err-clause-asked
returns-in-Err-clause-asked g c =
    stopped_later [] (c.args.name.now ∷ []) _ _ _ tt c.load.ensures.asked
