-- What a call leaves after its last line: error has grown by these bytes more.
use Rattle.std.proofs.Common.{ℕ, ◌≡◌, ◌≤◌, refl, sym, ap, ◌∙◌, subst, inl, inr, arith, List, []}
use Rattle.std.proofs.Common.{◌++◌, append-nil, Option, Some, None}
use Rattle.dos_io.specs.Outside.{grown}
use Rattle.dos_io.proofs.OutsideLaws.{grown-nothing, grown-twice}
use Rattle.dos_io.specs.declared.shim.ShimStop.{ShimStop}
use Rattle.dos_io.specs.declared.shim.ShimStop.TheVariants as stops
use Rattle.dos_world.specs.declared.Misfit.{Misfit}
use Rattle.log_text.specs.LogText.{Log}
use Rattle.dos_texts.specs.declared.refusal.Refusal.{Refusal}
use Rattle.dos_texts.specs.declared.refusal.Refusal.TheVariants as refusals
use Rattle.traced_logs.specs.TracedLogs.{first_log_lines}
use Rattle.dos_words.specs.Numbers.{Text}
use Rattle.dos_words.specs.declared.request.Request.{Request}
use Rattle.dos_words.specs.declared.request.Request.TheVariants.{Run, Replay, Gen, Migrate}
use Rattle.dos_words.specs.declared.request.Request.TheVariants.{Save, Resume}
use Rattle.dos_words.specs.declared.request.Request.TheVariants.{Trace, Debug}
use Rattle.debug_connection.specs.declared.stops.ServeStop.{ServeStop}
use Rattle.debug_connection.specs.declared.stops.ServeStop.TheVariants as serve
use Rattle.dos_cmd.specs.DebugLeaves.{StoppedDebug}
use Rattle.group_text.specs.Groups.{SavedGroup}
use Rattle.dos_cmd.specs.SaveLeaves.{MisfittedSave, UnwrittenGroup}
use Rattle.dos_cmd.specs.ResumeLeaves.{MisfittedResume}
use Rattle.dos_cmd.specs.Judging.{Taken}
use Rattle.dos_cmd.specs.Outside.{Outside, Faults, Grew, Says, OutputFailed}
use Rattle.dos_cmd.specs.ReplayLeaves.{Misfitted}
use Rattle.dos_cmd.specs.TraceLeaves.{MisfittedTrace}
use Rattle.dos_cmd.specs.Results.{Begun, NotTaken, WasStopped, Unwritten, HasMisfit, OfBoth, OfLog}
use Rattle.dos_cmd.specs.Results.{Cut, FullLog, Leaves, Fails}

-- error tells this in the end
abbrev pub with_error : Outside → Option (List ℕ) → Outside
with_error o e = record o { err_after = e }

-- and has failed so often
abbrev pub with_faults : Faults → ℕ → Faults
with_faults f n = record f { err_after = n }

module _ (o : Outside) (e : Option (List ℕ)) (last : List ℕ) (more : e ≡ grown o.err_after last)
  where
    grew_more : (output error : List ℕ) → Grew o output (error ++ [])
        → Grew (with_error o e) output (error ++ last)
    grew_more output error g = record {
      out_is = g.out_is;
      err_is = more ∙ ap (λ told. grown told last) (g.err_is ∙ ap (grown o.err) (append-nil error))
          ∙ grown-twice o.err error last;
    }

    says_more : Says o [] → Says (with_error o e) last
    says_more s = record {
      out_stays = s.out_stays;
      err_says = more ∙ ap (λ told. grown told last) (s.err_says ∙ sym (grown-nothing o.err));
      files_stay = s.files_stay;
      host_stays = s.host_stays;
      tally_stays = s.tally_stays;
    }

    not_taken_more : (asked : Request) (why : Refusal) → NotTaken asked o why []
        → NotTaken asked (with_error o e) why last
    not_taken_more asked why h = record { is = h.is; says = says_more h.says }

    session_more : (names : List Text) (taken : Taken) (stop : ServeStop)
        → OfLog taken.log (λ l. StoppedDebug l taken.images names stop [] o)
        → OfLog taken.log (λ l. StoppedDebug l taken.images names stop last (with_error o e))
    session_more names taken stop h = of_log taken.log h
      where
        of_log : (read : Option Log)
            → OfLog read (λ l. StoppedDebug l taken.images names stop [] o)
            → OfLog read (λ l. StoppedDebug l taken.images names stop last (with_error o e))
        of_log None h = absurd h
        of_log (Some l) h = record {
          was = record {
            files = h.was.files;
            files_are = h.was.files_are;
            debugged = h.was.debugged;
            files_stay = h.was.files_stay;
            tally_stays = h.was.tally_stays;
          };
          err_says = more
              ∙ ap (λ told. grown told last) (h.err_says ∙ sym (grown-nothing o.err));
        }

    stopped_more : (asked : Request) (taken : Taken) (stop : ShimStop)
        → WasStopped asked taken stop [] o → WasStopped asked taken stop last (with_error o e)
    stopped_more (Run q r f w s posts from step log names) taken stop h = record {
      plan = h.plan;
      planned = record {
        images_are = h.planned.images_are;
        config_is = h.planned.config_is;
        posts_are = h.planned.posts_are;
        clock_is = h.planned.clock_is;
        header_is = h.planned.header_is;
        digests_are = h.planned.digests_are;
      };
      output = h.output;
      error = h.error;
      work = h.work;
      recorded = h.recorded;
      counted = h.counted;
      grew = grew_more h.output h.error h.grew;
      files_stay = h.files_stay;
    }
    stopped_more (Gen number threads w) taken stops.Memory h = record {
      halted = record {
        exchanges = h.halted.exchanges;
        quiet = h.halted.quiet;
        question = h.halted.question;
        output = h.halted.output;
        error = h.halted.error;
        ran = h.halted.ran;
        counted = h.halted.counted;
      };
      grew = grew_more [] [] h.grew;
      stays = record { files_stay = h.stays.files_stay; host_stays = h.stays.host_stays };
    }
    stopped_more (Debug w log names) taken stops.HostFault h =
        session_more names taken serve.HostFault h
    stopped_more (Debug w log names) taken stops.Memory h =
        session_more names taken serve.Memory h
    stopped_more asked taken stop h = absurd h

    unwritten_more : (asked : Request) (taken : Taken) → Unwritten asked taken [] o
        → Unwritten asked taken last (with_error o e)
    unwritten_more (Run q r f w s posts from step log names) taken h = record {
      log = h.log;
      seen = h.seen;
      was = record {
        plan = h.was.plan;
        planned = record {
          images_are = h.was.planned.images_are;
          config_is = h.was.planned.config_is;
          posts_are = h.was.planned.posts_are;
          clock_is = h.was.planned.clock_is;
          header_is = h.was.planned.header_is;
          digests_are = h.was.planned.digests_are;
        };
        recorded = h.was.recorded;
      };
      counted = h.counted;
      grew = grew_more h.seen.output h.seen.error h.grew;
      others = h.others;
    }
    unwritten_more (Migrate log to) taken h = record {
      out_stays = h.out_stays;
      err_says = more ∙ ap (λ told. grown told last) (h.err_says ∙ sym (grown-nothing o.err));
      others = h.others;
      host_stays = h.host_stays;
      tally_stays = h.tally_stays;
    }
    unwritten_more (Save w log round to names) taken h = of_log taken.log h
      where
        of_log : (read : Option Log)
            → OfLog read (λ l. UnwrittenGroup l taken.images round to [] o)
            → OfLog read (λ l. UnwrittenGroup l taken.images round to last (with_error o e))
        of_log None h = absurd h
        of_log (Some l) h = record {
          used = h.used;
          reached = h.reached;
          output = h.output;
          error = h.error;
          came = record {
            work = h.came.work;
            replayed = h.came.replayed;
            counted = h.came.counted;
            host_stays = h.came.host_stays;
          };
          grew = grew_more h.output h.error h.grew;
          others = h.others;
        }
    unwritten_more asked taken h = absurd h

    misfit_more : (asked : Request) (taken : Taken) (found : Misfit)
        → HasMisfit asked taken found [] o → HasMisfit asked taken found last (with_error o e)
    misfit_more (Replay w s log names) taken found h = of_log taken.log h
      where
        of_log : (read : Option Log) → OfLog read (λ l. Misfitted s l taken.images found [] o)
            → OfLog read (λ l. Misfitted s l taken.images found last (with_error o e))
        of_log None h = absurd h
        of_log (Some l) h = record {
          output = h.output;
          error = h.error;
          work = h.work;
          replayed = h.replayed;
          counted = h.counted;
          grew = grew_more h.output h.error h.grew;
          stays = record { files_stay = h.stays.files_stay; host_stays = h.stays.host_stays };
        }
    misfit_more (Trace w log names) taken found h = of_log taken.log h
      where
        of_log : (read : Option Log) → OfLog read (λ l. MisfittedTrace l taken.images found [] o)
            → OfLog read (λ l. MisfittedTrace l taken.images found last (with_error o e))
        of_log None h = absurd h
        of_log (Some l) h = record {
          output = h.output;
          error = h.error;
          work = h.work;
          replayed = h.replayed;
          counted = h.counted;
          grew = grew_more (first_log_lines found.entry taken.images l) [] h.grew;
          stays = record { files_stay = h.stays.files_stay; host_stays = h.stays.host_stays };
        }
    misfit_more (Save w log round to names) taken found h = of_log taken.log h
      where
        of_log : (read : Option Log)
            → OfLog read (λ l. MisfittedSave l taken.images round found [] o)
            → OfLog read (λ l. MisfittedSave l taken.images round found last (with_error o e))
        of_log None h = absurd h
        of_log (Some l) h = record {
          run = record {
            output = h.run.output;
            error = h.run.error;
            work = h.run.work;
            replayed = h.run.replayed;
            counted = h.run.counted;
            grew = grew_more h.run.output h.run.error h.run.grew;
            stays = record {
              files_stay = h.run.stays.files_stay;
              host_stays = h.run.stays.host_stays;
            };
          };
          within = h.within;
        }
    misfit_more (Resume w log from) taken found h = of_both taken.group taken.log h
      where
        of_both : (group : Option SavedGroup) (read : Option Log)
            → OfBoth group read (λ g l. MisfittedResume g l found [] o)
            → OfBoth group read (λ g l. MisfittedResume g l found last (with_error o e))
        of_both None read h = absurd h
        of_both (Some g) None h = absurd h
        of_both (Some g) (Some l) h = record {
          output = h.output;
          error = h.error;
          work = h.work;
          resumed = h.resumed;
          counted = h.counted;
          grew = grew_more h.output h.error h.grew;
          stays = record { files_stay = h.stays.files_stay; host_stays = h.stays.host_stays };
        }
    misfit_more asked taken found h = absurd h

    begun_more : (asked : Request) (P Q : Taken → Type 0) → ((taken : Taken) → P taken → Q taken)
        → Begun asked o P → Begun asked (with_error o e) Q
    begun_more asked P Q then h =
        record { taken = h.taken; is = h.is; so = then h.taken h.so }

    full_more : (asked : Request) → FullLog asked o [] → FullLog asked (with_error o e) last
    full_more (Migrate log to) h = not_taken_more (Migrate log to) refusals.LogFull h
    full_more asked h =
        begun_more asked (λ taken. WasStopped asked taken stops.LogFull [] o)
        (λ taken. WasStopped asked taken stops.LogFull last (with_error o e))
        (λ taken. stopped_more asked taken stops.LogFull) h

-- where nothing more was said
same_error : (o : Outside) (e : Option (List ℕ)) → e ≡ grown o.err_after [] → e ≡ o.err_after
same_error o e more = more ∙ sym (grown-nothing o.err_after)

cut_same : (asked : Request) (o : Outside) (e : Option (List ℕ)) (taken : Taken) → e ≡ o.err_after
    → Cut asked taken o → Cut asked taken (with_error o e)
cut_same asked o e taken same h =
    subst (λ (told : Option (List ℕ)). Cut asked taken (with_error o told)) (sym same) h

pub output_failed : (f : Faults) (n : ℕ) → f.err_after ≤ n → OutputFailed f
    → OutputFailed (with_faults f n)
output_failed f n later (inl rose) = inl rose
output_failed f n later (inr rose) = inr (omega (arith, later, rose))

pub leaves_more : (asked : Request) (o : Outside) (f : Faults) (n : ℕ) (e : Option (List ℕ))
    (why : Refusal) (last : List ℕ) → f.err_after ≤ n → (why ≡ refusals.Sink → last ≡ [])
    → e ≡ grown o.err_after last → Leaves asked o f why []
    → Leaves asked (with_error o e) (with_faults f n) why last
leaves_more asked o f n e refusals.Words last later none more h = absurd h
leaves_more asked o f n e (refusals.TooLong image) last later none more h =
    not_taken_more o e last more asked (refusals.TooLong image) h
leaves_more asked o f n e (refusals.Image image error) last later none more h =
    not_taken_more o e last more asked (refusals.Image image error) h
leaves_more asked o f n e (refusals.NoRoom needed frames) last later none more h =
    not_taken_more o e last more asked (refusals.NoRoom needed frames) h
leaves_more asked o f n e (refusals.Log why) last later none more h =
    not_taken_more o e last more asked (refusals.Log why) h
leaves_more asked o f n e (refusals.Group why) last later none more h =
    not_taken_more o e last more asked (refusals.Group why) h
leaves_more asked o f n e (refusals.Misfit found) last later none more h =
    begun_more o e last more asked (λ taken. HasMisfit asked taken found [] o)
    (λ taken. HasMisfit asked taken found last (with_error o e))
    (λ taken. misfit_more o e last more asked taken found) h
leaves_more asked o f n e refusals.Files last later none more h = (
  h.0,
  elim h.1 [
    | inl says ↦ inl (says_more o e last more says)
    | inr begun ↦ inr (begun_more o e last more asked (λ taken. Unwritten asked taken [] o)
        (λ taken. Unwritten asked taken last (with_error o e))
        (unwritten_more o e last more asked) begun)
  ],
)
leaves_more asked o f n e refusals.Host last later none more h = (
  h.0,
  begun_more o e last more asked (λ taken. WasStopped asked taken stops.HostFault [] o)
      (λ taken. WasStopped asked taken stops.HostFault last (with_error o e))
      (λ taken. stopped_more o e last more asked taken stops.HostFault) h.1,
)
leaves_more asked o f n e refusals.Sink last later none more h =
    let nothing : last ≡ [] = none refl in (
      output_failed f n later h.0,
      nothing,
      begun_more o e last more asked (λ taken. Cut asked taken o)
          (λ taken. Cut asked taken (with_error o e))
          (λ taken. cut_same asked o e taken
          (same_error o e (more ∙ ap (grown o.err_after) nothing))) h.2,
    )
leaves_more asked o f n e refusals.LogFull last later none more h =
    full_more o e last more asked h
leaves_more asked o f n e refusals.Memory last later none more h = elim h [
  | inl says ↦ inl (says_more o e last more says)
  | inr (inl begun) ↦ inr (inl (begun_more o e last more asked
      (λ taken. WasStopped asked taken stops.Memory [] o)
      (λ taken. WasStopped asked taken stops.Memory last (with_error o e))
      (λ taken. stopped_more o e last more asked taken stops.Memory) begun))
  | inr (inr unwritten) ↦ inr (inr (
    unwritten.0,
    begun_more o e last more asked (λ taken. Unwritten asked taken [] o)
        (λ taken. Unwritten asked taken last (with_error o e))
        (unwritten_more o e last more asked) unwritten.1,
  ))
]

-- What a call leaves whose words ask for nothing, or for what came to no report, after the last
-- bytes.
pub fails_more : (words : List Text) (o : Outside) (f : Faults) (n : ℕ) (e : Option (List ℕ))
    (why : Refusal) (last : List ℕ) → f.err_after ≤ n → (why ≡ refusals.Sink → last ≡ [])
    → e ≡ grown o.err_after last → Fails words o f why []
    → Fails words (with_error o e) (with_faults f n) why last
fails_more words o f n e why last later none more (inl h) =
    inl (h.0, h.1, says_more o e last more h.2)
fails_more words o f n e why last later none more (inr (inl h)) =
    inr (inl (h.0, says_more o e last more h.1))
fails_more words o f n e why last later none more (inr (inr h)) =
    inr (inr (h.0, h.1, leaves_more h.0 o f n e why last later none more h.2))
