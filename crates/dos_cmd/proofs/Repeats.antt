-- A replay of a run that was done, over what the run wrote and the same images, shows the same.
use Rattle.std.proofs.Common.{◌≡◌, ◌≤◌, refl, sym, ap, ◌∙◌, subst, ℕ, suc, Bool, true, false}
use Rattle.std.proofs.Common.{List, [], ◌∷◌, length, map, Option, Some, None, Result, Ok, Err}
use Rattle.std.proofs.Common.{arith}
use Rattle.std.specs.Prelude.{◌++◌, IfSome, IsTrue, nat_lt, option_and_then, option_map}
use Rattle.std.proofs.lemmas.Bool.{eq-eqb}
use Rattle.std.proofs.lemmas.Bool.Decides.{nat_tests}
use Rattle.std.proofs.lemmas.Slice.Eq.{bytes_eq-Decides}
use Rattle.dos_world.specs.declared.Misfit.{Misfit}
use Rattle.dos_world.specs.declared.Scheme.{Scheme}
use Rattle.dos_io.specs.Exchanges.{answer_of}
use Rattle.elf_image.specs.Image.{Image}
use Rattle.flat_machine.specs.Machine.{Ran, Seen, ends, machine}
use Rattle.flat_machine.specs.Opening.{needed}
use Rattle.dpg_run.specs.Fits.{misfit}
use Rattle.dpg_run.specs.Report.{report}
use Rattle.log_text.specs.declared.header.LogHeader.{LogHeader}
use Rattle.log_text.specs.LogText.{Log, exchanges, logtext}
use Rattle.log_text.proofs.LogLaws.{log_again}
use Rattle.log_files.specs.Judging.{disagreement, first_other, log_verdict}
use Rattle.log_files.proofs.Verdicts.{accepted_as}
use Rattle.logged_runs.specs.Replaying.{Replayed, config_of}
use Rattle.logged_runs.proofs.OneRecording.{recording_replays}
use Rattle.dos_texts.specs.Exit.{ending_status}
use Rattle.dos_texts.specs.declared.refusal.Refusal.{Refusal}
use Rattle.dos_texts.specs.declared.refusal.Refusal.TheVariants as refusals
use Rattle.dos_words.specs.Numbers.{Text}
use Rattle.dos_words.specs.Request.{request}
use Rattle.dos_words.specs.declared.request.Request.{Request}
use Rattle.dos_words.specs.declared.request.Request.TheVariants.{Replay}
use Rattle.dos_cmd.specs.Judging.{Images, Judgement, Taken, agreed, by_log, digests_of, images_from}
use Rattle.dos_cmd.specs.Judging.{taken_images, taken_log}
use Rattle.dos_cmd.specs.Judging.{judgement, of_images, of_log, replay_judgement, then_images}
use Rattle.dos_cmd.specs.Judging.{verdict, with_image, with_images, with_room}
use Rattle.dos_cmd.specs.Outside.{Outside, Grew}
use Rattle.dos_cmd.specs.ReplayLeaves.{DidReplay}
use Rattle.dos_cmd.specs.Repeating.{IsReplayOf, ShowTheSame, run_asked_with}
use Rattle.dos_cmd.specs.Results.{Begun, Did, MustDo, MustReplay, WasDone}
use Rattle.dos_cmd.specs.RunLeaves.{DidRun, RunAsked, header_of}
use Rattle.dos_cmd.proofs.Calls.{asked_once}
use Rattle.dos_cmd.proofs.NotBegun.{has_room}

-- ---- what the replay's files are taken for

-- the same digests don't differ
same_digests : (n : ℕ) (ds : List (List ℕ)) → first_other n ds ds ≡ None
same_digests n [] = refl
same_digests n (d ∷ ds) = rw ((bytes_eq-Decides d d).1 refl) (same_digests (suc n) ds)

no_difference : (ds : List (List ℕ)) → disagreement ds ds ≡ None
no_difference ds = rw (eq-eqb (length ds) (length ds) refl) (same_digests 1 ds)

-- Where the digests of files are told, so is what they are taken for.
then_told : (number : ℕ) (file : List ℕ) (others : Option Images) (all : Images)
    → others ≡ Some all
    → (found : Images) × (then_images (verdict number file) others ≡ Some found)
then_told number file others all is = by_verdict (verdict number file)
  where
    by_verdict : (v : Result Image Refusal)
        → (found : Images) × (then_images v others ≡ Some found)
    by_verdict (Err why) = (Err why, refl)
    by_verdict (Ok parsed) = (with_image parsed all, ap (option_map (with_image parsed)) is)

images_told : (number : ℕ) (files : List (Option (List ℕ))) (ds : List (List ℕ))
    → digests_of files ≡ Some ds → (found : Images) × (images_from number files ≡ Some found)
images_told number [] ds told = (Ok [], refl)
images_told number (None ∷ files) ds told = absurd cc
images_told number (Some file ∷ files) ds told =
    by_rest (digests_of files) refl told (λ others is. images_told (suc number) files others is)
  where
    by_rest : (rest : Option (List (List ℕ))) → digests_of files ≡ rest
        → digests_of (Some file ∷ files) ≡ Some ds
        → ((others : List (List ℕ)) → digests_of files ≡ Some others
        → (all : Images) × (images_from (suc number) files ≡ Some all))
        → (found : Images) × (images_from number (Some file ∷ files) ≡ Some found)
    by_rest None is told behind =
        let none : digests_of (Some file ∷ files) ≡ None = rw is refl in absurd cc
    by_rest (Some others) is told behind =
        let rest = behind others is in
        then_told number file (images_from (suc number) files) rest.0 rest.1

abbrev images_ok : List Image → Images
images_ok images = Ok images

-- what a run's images are taken for has room
run_taken : (frames : ℕ) (found : Images) (taken : Taken)
    → of_images (with_room frames found) ≡ Ok taken
    → (found ≡ Ok taken.images) × (needed taken.images ≤ frames)
run_taken frames (Err why) taken is = absurd cc
run_taken frames (Ok images) taken is =
    by_test (nat_lt frames (needed images)) refl is
  where
    by_test : (b : Bool) → nat_lt frames (needed images) ≡ b
        → of_images (with_room frames (Ok images)) ≡ Ok taken
        → (images_ok images ≡ images_ok taken.images) × (needed taken.images ≤ frames)
    by_test true over is =
        let refused : of_images (with_room frames (Ok images))
        ≡ Err (refusals.NoRoom (needed images) frames) = rw over refl in
        absurd cc
    by_test false fits is =
        let kept : of_images (with_room frames (Ok images))
        ≡ Ok (taken_images images) = rw fits refl in
        let same : images ≡ taken.images = cc in
        (ap images_ok same, subst (λ i. needed i ≤ frames) same (grind (arith, nat_tests)))

abbrev judged_as : Judgement → Option Judgement
judged_as j = Some j

abbrev images_as : Images → Option Images
images_as found = Some found

-- a log that fits its images is taken with them
taken_again : (log : Log) (images : List Image) (files : List (Option (List ℕ)))
    (ds : List (List ℕ)) (told : Option (List ℕ)) → told ≡ Some (logtext log)
    → log_verdict (logtext log) ≡ Ok log → digests_of files ≡ Some ds
    → images_from 1 files ≡ Some (Ok images) → log.header.digests ≡ ds
    → needed images ≤ log.header.frames
    → replay_judgement told files ≡ Some (Ok (taken_log log images))
taken_again log images files ds told is accepted digests found kept fits =
    ap (λ (t : Option (List ℕ)). replay_judgement t files) is
    ∙ ap (λ v. by_log v files) accepted
    ∙ ap (λ f. option_and_then (with_images log (digests_of files)) f) found
    ∙ ap (λ d. with_images log d (Ok images)) digests
    ∙ ap (λ k. judged_as (agreed log images (disagreement ds k))) kept
    ∙ ap (λ n. judged_as (agreed log images n)) (no_difference ds)
    ∙ ap (λ i. judged_as (of_log log i)) (has_room log.header.frames images fits)

-- ---- the two calls

same_seen : (run : Ran) (a b : Seen) → run ≡ ends a → run ≡ ends b → a ≡ b
same_seen run a b p q = let both : ends a ≡ ends b = sym p ∙ q in cc

module _ (o p : Outside) (asked : RunAsked) (images : List Image) (status n : ℕ)
    (did : DidRun asked images status o) where
  header_is : did.log.header ≡ header_of asked.config did.was.plan.header.digests
  header_is = did.was.recorded.header ∙ did.was.planned.header_is

  -- the log has the digests of the images' files
  kept : (ds : List (List ℕ)) → digests_of (map o.files asked.names) ≡ Some ds
      → did.log.header.digests ≡ ds
  kept ds told = ap (λ (h : LogHeader). h.digests) header_is
      ∙ subst (λ (t : Option (List (List ℕ))). IfSome t
      (λ digests. did.was.plan.header.digests ≡ digests)) told did.was.planned.digests_are

  abbrev scheme : Scheme
  scheme = asked.config.scheme

  again : Replayed scheme images did.log did.seen
      × (misfit images (config_of scheme did.log.header) (exchanges did.log) ≡ None)
  again = subst (λ (i : List Image). Replayed scheme i did.log did.seen
      × (misfit i (config_of scheme did.log.header) (exchanges did.log) ≡ None))
      did.was.planned.images_are
      (recording_replays scheme did.was.plan o.host o.host_after did.log did.seen did.was.recorded
      (did.was.planned.config_is ∙ sym (ap (config_of scheme) did.was.planned.header_is)))

  -- a replay of its log
  shown_again : MustReplay (misfit images (config_of scheme did.log.header) (exchanges did.log))
      scheme did.log (taken_log did.log images) n p → ShowTheSame status o n p
  shown_again must =
      let replay : DidReplay scheme did.log images n p = subst (λ (m : Option Misfit). MustReplay m
      scheme did.log (taken_log did.log images) n p) again.1 must in
      let same : did.seen ≡ replay.seen = same_seen
      (machine images (config_of scheme did.log.header) (map answer_of (exchanges did.log)))
      did.seen
      replay.seen again.0.is replay.replayed.is in
      record {
        status_is = replay.status_is ∙ sym (ap (λ (s : Seen). ending_status s.ending) same)
            ∙ sym did.status_is;
        output = did.seen.output;
        error = did.seen.error ++ report did.seen;
        grew = did.grew;
        grew_again = subst (λ (s : Seen). Grew p s.output (s.error ++ report s)) (sym same)
            replay.grew;
      }

  -- where the files of the replay tell what those of the run did
  files_again : (log : Text) (names : List Text) (ds : List (List ℕ)) (found : Images)
      → IsTrue o.files_tell → digests_of (map o.files asked.names) ≡ Some ds
      → images_from 1 (map o.files asked.names) ≡ Some found → found ≡ Ok images
      → needed images ≤ asked.config.frames → p.files log ≡ o.files_after asked.log
      → map p.files names ≡ map o.files asked.names → replay_judgement (p.files log)
      (map p.files names) ≡ Some (Ok (taken_log did.log images))
  files_again log names ds found tells digests are fits room same_log same_images =
      taken_again did.log images (map p.files names) ds (p.files log)
      (same_log ∙ did.written.where_all_tell tells)
      (accepted_as (logtext did.log) did.log did.was.recorded.small
      (log_again did.log did.was.recorded.ranges))
      (ap digests_of same_images ∙ digests)
      (ap (images_from 1) same_images ∙ are ∙ ap images_as fits) (kept ds digests)
      (subst (λ (k : ℕ). needed images ≤ k) (sym (ap (λ (h : LogHeader). h.frames) header_is)) room)

pub repeats : (first words : List Text) (status n : ℕ) (o p : Outside) → WasDone first status o
    → IsReplayOf first o words p
    → ((asked : Request) (taken : Taken) → request words ≡ Some asked
    → judgement p.files asked ≡ Some (Ok taken) → MustDo asked taken n p)
    → ShowTheSame status o n p
repeats first words status n o p done s must =
    let asked : Request = run_asked_with s.asked s.workers in
    let begun : Begun asked o (λ taken. Did asked taken status o) =
    subst (λ (a : Request). Begun a o (λ taken. Did a taken status o))
    (asked_once first done.asked asked done.asks s.asks_run) done.begun in
    let images : List Image = begun.taken.images in
    let found = images_told 1 (map o.files s.asked.names) s.digests s.are_there in
    let taken = run_taken s.asked.config.frames found.0 begun.taken
    (subst (λ (t : Option Images). IfSome
    (option_map (λ i. of_images (with_room s.asked.config.frames i)) t) (λ j. j ≡ Ok begun.taken))
    found.1
    begun.is) in
    shown_again o p s.asked images status n begun.so
    (must (Replay s.workers_again s.asked.config.scheme s.log s.names)
    (taken_log begun.so.log images) s.asks_replay
    (files_again o p s.asked images status n begun.so s.log s.names s.digests found.0 s.all_told
    s.are_there found.1 taken.0 taken.1 s.same_log s.same_images))
