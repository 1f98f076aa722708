-- A group that was saved, and one that goes on with it, show together what a replay shows.
use Rattle.std.proofs.Common.{◌≡◌, ◌∙◌, ℕ, ◌<◌, ◌≤◌, Bool, true, List, [], ◌∷◌, ◌++◌, length, map}
use Rattle.std.proofs.Common.{Option, Some, None, Result, Ok, refl, sym, ap, ap₂, subst, arith}
use Rattle.std.proofs.Common.{append_assoc, take}
use Rattle.std.proofs.lemmas.Bool.{lt-ltb}
use Rattle.std.proofs.lemmas.List.{length-append}
use Rattle.std.proofs.lemmas.Slice.Eq.{bytes_eq-Decides}
use Rattle.dos_world.specs.Play.{Outcome, asks, over}
use Rattle.dos_world.specs.World.{World}
use Rattle.dos_world.specs.declared.Config.{Config}
use Rattle.dos_world.specs.declared.Misfit.{Misfit}
use Rattle.dos_world.specs.declared.Question.{Question}
use Rattle.dos_world.specs.declared.Scheme.TheVariants.{Ownership}
use Rattle.dos_io.specs.Exchanges.{answer_of}
use Rattle.dos_io.specs.declared.exchange.Exchange.TheVariants.{End}
use Rattle.elf_image.specs.Image.{Image}
use Rattle.flat_machine.specs.Machine.{Finish, Ran, Seen, ends, group, machine, run_from}
use Rattle.dpg_run.specs.Fits.{misfit, misfit_from}
use Rattle.dpg_run.specs.Laws.{seen_joined}
use Rattle.dpg_run.specs.Report.{report}
use Rattle.dpg_run.proofs.MisfitLaws.{fits_have_none}
use Rattle.group_files.specs.Judging.{is_of_log}
use Rattle.group_text.specs.Groups.{SavedGroup, world_in}
use Rattle.sha2.specs.Sha256.{sha256}
use Rattle.log_text.specs.LogText.{Log, exchanges, exchanges_from, logtext}
use Rattle.logged_runs.specs.Replaying.{Replayed, ReplayedUntil, config_of}
use Rattle.logged_runs.specs.Resuming.{Resumed, ResumedUntil}
use Rattle.logged_runs.proofs.Joined.{replays_join}
use Rattle.dos_texts.specs.Exit.{ending_status, line_of, refusal_status}
use Rattle.dos_texts.specs.declared.refusal.Refusal.TheVariants as refusals
use Rattle.dos_words.specs.Numbers.{Text}
use Rattle.dos_words.specs.Request.{request}
use Rattle.dos_words.specs.declared.request.Request.{Request}
use Rattle.dos_words.specs.declared.request.Request.TheVariants.{Resume}
use Rattle.dos_cmd.specs.Joining.{HasReplayed, IsResumeOf, ShowTogether}
use Rattle.dos_cmd.specs.Judging.{Taken, belonging, by_group, judgement, resume_judgement}
use Rattle.dos_cmd.specs.Judging.{taken_group, taken_log, with_log}
use Rattle.dos_cmd.specs.Outside.{Outside, Grew}
use Rattle.dos_cmd.specs.ReplayLeaves.{DidReplay, Misfitted}
use Rattle.dos_cmd.specs.Results.{MustDo, MustReplay, MustResume}
use Rattle.dos_cmd.specs.ResumeLeaves.{DidResume, MisfittedResume}
use Rattle.dos_cmd.specs.SaveLeaves.{SavedRun, log_digest, saved_group, saved_text}

same_seen : (run : Ran) (a b : Seen) → run ≡ ends a → run ≡ ends b → a ≡ b
same_seen run a b p q = let both : ends a ≡ ends b = sym p ∙ q in cc

same_bytes : (run : Outcome Finish) (question : Question) (a b c d : List ℕ)
    → run ≡ asks question a b → run ≡ asks question c d → (a ≡ c) × (b ≡ d)
same_bytes run question a b c d p q =
    let both : asks question a b ≡ asks question c d = sym p ∙ q in (cc, cc)

module _ (words : List Text) (log : Log) (images : List Image) (round status n : ℕ) (to : Text)
    (save whole o : Outside) (saved : SavedRun log images round to save)
    (replayed : HasReplayed log images status whole) (resumes : IsResumeOf log to save words o)
  where
    abbrev g : SavedGroup
    g = saved_group log saved.used saved.reached

    abbrev config : Config
    config = config_of Ownership log.header

    abbrev work : ℕ
    work = saved.came.work

    stands : world_in g ≡ saved.reached
    stands = saved.back.stands

    -- ---- what the files are taken for

    is_left : saved.used < length (exchanges log)
    is_left = omega (
      arith,
      saved.came.replayed.few,
      length-append log.entries (End log.ending log.rounds ∷ []),
    )

    belongs : is_of_log g (sha256 (logtext log)) (length (exchanges log)) ≡ true
    belongs = rw (
      (bytes_eq-Decides (log_digest log) (log_digest log)).1 refl,
      lt-ltb saved.used (length (exchanges log)) is_left,
    ) refl

    taken : resume_judgement (o.files resumes.from) (o.files resumes.name)
        ≡ Some (Ok (taken_group g log))
    taken =
        ap (λ (f : Option (List ℕ)). resume_judgement f (o.files resumes.name))
        (resumes.same_group ∙ saved.written.where_all_tell resumes.all_told)
        ∙ ap (λ (f : Option (List ℕ)).
        resume_judgement (Some (saved_text log saved.used saved.reached)) f) resumes.same_log
        ∙ ap (λ v. by_group v (Some (logtext log))) saved.back.taken
        ∙ ap (λ v. Some (with_log g (logtext log) v)) resumes.taken
        ∙ ap (λ b. Some (belonging g log b)) belongs

    -- ---- to the end

    together : DidResume g log n o → ShowTogether round status save whole n o
    together did =
        let resumed : Resumed saved.reached config saved.used log did.seen =
        subst (λ (w : World). Resumed w config saved.used log did.seen) stands did.resumed in
        let joined = replays_join.ended Ownership images log round saved.used saved.reached
        saved.output
        saved.error saved.came.work did.seen saved.came.replayed resumed in
        let all : Seen = seen_joined (take saved.used (exchanges log))
        (exchanges_from saved.used log) saved.output saved.error joined.0 did.seen in
        let none : misfit images config (exchanges log) ≡ None =
        fits_have_none 0 (exchanges log) (group images config) joined.1.fits in
        let replay : DidReplay Ownership log images status whole =
        subst (λ (m : Option Misfit). MustReplay m Ownership log (taken_log log images) status
        whole) none
        replayed in
        let same : replay.seen ≡ all =
        same_seen (machine images config (map answer_of (exchanges log))) replay.seen all
        replay.replayed.is joined.1.is in
        record {
          status_is = did.status_is ∙ ap (λ (s : Seen). ending_status s.ending) (sym same)
              ∙ sym replay.status_is;
          output = saved.output;
          error = saved.error;
          output_then = did.seen.output;
          error_then = did.seen.error ++ report did.seen;
          first = saved.grew;
          second = did.grew;
          both = subst (λ (e : List ℕ). Grew whole (saved.output ++ did.seen.output) e)
              (append_assoc saved.error did.seen.error (report did.seen))
              (subst (λ (s : Seen). Grew whole s.output (s.error ++ report s)) same replay.grew);
        }

    -- ---- to the misfit

    to_misfit : (found : Misfit) → n ≡ refusal_status (refusals.Misfit found)
        → MisfittedResume g log found (line_of (refusals.Misfit found)) o
        → ShowTogether round status save whole n o
    to_misfit found is run =
        let resumed : ResumedUntil saved.reached config saved.used log found run.output run.error
        run.work = subst (λ (w : World). ResumedUntil w config saved.used log found run.output
        run.error run.work) stands run.resumed in
        let joined = replays_join.misfits Ownership images log round saved.used saved.reached
        saved.output
        saved.error work found run.output run.error run.work saved.came.replayed resumed in
        let replay : (status ≡ refusal_status (refusals.Misfit found))
        × Misfitted Ownership log images found (line_of (refusals.Misfit found)) whole =
        subst (λ (m : Option Misfit). MustReplay m Ownership log (taken_log log images) status
        whole)
        joined.1.is replayed in
        let same = same_bytes
        (over (map answer_of (take found.entry (exchanges log))) (group images config))
        found.asked replay.1.output replay.1.error (saved.output ++ run.output)
        (saved.error ++ run.error) replay.1.replayed.ran.asks joined.1.ran.asks in
        record {
          status_is = is ∙ sym replay.0;
          output = saved.output;
          error = saved.error;
          output_then = run.output;
          error_then = run.error ++ line_of (refusals.Misfit found);
          first = saved.grew;
          second = run.grew;
          both = subst (λ (e : List ℕ). Grew whole (saved.output ++ run.output) e)
              (append_assoc saved.error run.error (line_of (refusals.Misfit found)))
              (subst (λ (a : List ℕ). Grew whole a
              ((saved.error ++ run.error) ++ line_of (refusals.Misfit found))) same.0
              (subst (λ (b : List ℕ). Grew whole replay.1.output
              (b ++ line_of (refusals.Misfit found))) same.1 replay.1.grew));
        }

    by_misfit : (m : Option Misfit) → MustResume m g log n o
        → ShowTogether round status save whole n o
    by_misfit None did = together did
    by_misfit (Some found) run = to_misfit found run.0 run.1

    pub joins : ((asked : Request) (taken : Taken) → request words ≡ Some asked
        → judgement o.files asked ≡ Some (Ok taken) → MustDo asked taken n o)
        → ShowTogether round status save whole n o
    joins must = by_misfit
        (misfit_from g.used (exchanges_from g.used log) (run_from (world_in g) g.config))
        (must (Resume resumes.workers resumes.name resumes.from) (taken_group g log) resumes.asks
        taken)
