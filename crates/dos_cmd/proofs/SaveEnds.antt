-- What a replay leaves that is to be saved after a round, by how it ends.
use Rattle.std.proofs.Common.{◌≡◌, ◌≤◌, ◌<◌, ◌⊎◌, inl, inr, ℕ, Bool, List, [], append-nil}
use Rattle.std.proofs.Common.{Option}
use Rattle.std.proofs.Common.{Some, None, Result, Ok, Err, sym, ap, ◌∙◌, subst, refl}
use Rattle.std.specs.Prelude.{IfSome, IfOk, IfErr, OnOk, OnErr, ◌≢◌}
use Rattle.logged_runs.specs.Recording.{HostSeen, host_seen}
use Rattle.dos_io.specs.Outside.{grown, GrewByFront, HasCause, Rose}
use Rattle.dos_io.proofs.OutsideLaws.{grown_more}
use Rattle.dos_world.specs.World.{World}
use Rattle.dos_world.specs.declared.Config.{Config}
use Rattle.dos_world.specs.declared.Scheme.TheVariants.{Ownership}
use Rattle.dos_world.specs.declared.Ending.{Ending}
use Rattle.dos_world.specs.declared.Misfit.{Misfit}
use Rattle.elf_image.specs.Image.{Image}
use Rattle.flat_machine.specs.Opening.{needed}
use Rattle.dos_world.specs.Lawful.{Lawful}
use Rattle.group_files.proofs.Lengths.{written_is_taken}
use Rattle.group_text.specs.GroupText.{group_row, grouptext}
use Rattle.group_text.specs.Groups.{SavedGroup, group_of, world_in}
use Rattle.kernel_calls.specs.StateWorld.{HasSinkCause}
use Rattle.kernel_calls.specs.declared.state.RunStop.{RunStop}
use Rattle.kernel_calls.specs.declared.state.RunStop.TheVariants as stops
use Rattle.group_rounds.specs.Kernels.{Held, kernel_world}
use Rattle.flat_machine.specs.Machine.{Seen}
use Rattle.dpg_run.specs.Report.{report, report_in}
use Rattle.log_text.specs.LogText.{Log}
use Rattle.logged_runs.specs.Replaying.{Replayed, ReplayedAhead, ReplayedUntil, StopsReplay}
use Rattle.logged_runs.specs.Replaying.{config_of}
use Rattle.logged_runs.specs.Resuming.{Arrives, AsksWithin, ReplayedTo}
use Rattle.logged_runs.specs.declared.resuming.Arrived.{Arrived}
use Rattle.logged_runs.specs.Runs.{Ended, Halted}
use Rattle.dos_texts.specs.Exit.{ending_status}
use Rattle.dos_texts.specs.Saved.{saved_line}
use Rattle.dos_texts.specs.declared.refusal.Refusal.{Refusal}
use Rattle.dos_texts.specs.declared.refusal.Refusal.TheVariants as refusals
use Rattle.dos_words.specs.Numbers.{Text}
use Rattle.dos_cmd.specs.Migrating.{WasStored}
use Rattle.dos_cmd.specs.Outside.{FileHolds, Outside, Faults, outside, faults, Says}
use Rattle.dos_cmd.specs.ReplayLeaves.{CutReplay, StaysAll}
use Rattle.dos_cmd.specs.SaveLeaves.{CameToRound, ComesBack, DidSave, LeavesSave, LeavesSaving}
use Rattle.dos_cmd.specs.SaveLeaves.{WasSaved, log_digest, saved_group, saved_text}
use Rattle.dos_cmd.specs.Stops.{IsNotOpened, refusal_by}
use Rattle.dos_cmd.proofs.NotBegun.{not_opened_as}
use Rattle.dos_cmd.proofs.RunEnds.{all_stay, then_rose}

-- ---- the group's text is taken for it

pub came_back : (made g : SavedGroup) (w : World) → made ≡ g → group_row.Fits made
    → Lawful (world_in made) → world_in made ≡ w → ComesBack g w
came_back made g w is fits lawful world = subst (λ (x : SavedGroup). ComesBack x w) is
    (record { taken = written_is_taken made fits lawful; stands = world })

-- what holds anyway
pub when_ok : {P : Type 0} (r : Result Ending Refusal) → P → IfOk r (λ _. P)
when_ok (Ok ending) p = p
when_ok (Err why) p = tt

-- ---- the group isn't written

-- there was no memory for its text
pub no_text : (text : List ℕ) (round : ℕ) (to : Text) (why : Refusal) (tells : Bool)
    (files : Text → Option (List ℕ)) (err : Option (List ℕ)) (k n : ℕ) → why ≡ refusals.Memory
    → LeavesSaving text round to why tells files files err err k k n n
no_text text round to why tells files err k n is =
    subst (λ (w : Refusal). LeavesSaving text round to w tells files files err err k k n n)
    (sym is) (record { files_stay = λ name. refl; out_stays = refl })

-- nor could its file be
pub no_file : (text : List ℕ) (round : ℕ) (to : Text) (why : Refusal) (tells : Bool)
    (files after : Text → Option (List ℕ)) (err : Option (List ℕ)) (k k' n : ℕ)
    → (why ≡ refusals.Files) ⊎ ((why ≡ refusals.Memory) × (after to ≡ files to))
    → (why ≡ refusals.Files → Rose k k') → ((name : Text) → name ≢ to → after name ≡ files name)
    → LeavesSaving text round to why tells files after err err k k' n n
no_file text round to why tells files after err k k' n (inl is) rose others =
    subst (λ (w : Refusal). LeavesSaving text round to w tells files after err err k k' n n)
    (sym is) (record { rose = rose is; others = others; out_stays = refl })
no_file text round to why tells files after err k k' n (inr is) rose others =
    subst (λ (w : Refusal). LeavesSaving text round to w tells files after err err k k' n n)
    (sym is.0) (record {
      files_stay = all_stay
          (outside tells files after (host_seen None []) (host_seen None []) None None None None
          0 0) to is.1 others;
      out_stays = refl;
    })

-- the text that was made
pub saved_as : (r : Result Ending Refusal) (made text : List ℕ) (round : ℕ) (to : Text)
    (tells : Bool) (files after : Text → Option (List ℕ)) (err err' : Option (List ℕ))
    → made ≡ text → IfOk r (λ ending. WasSaved made round to ending tells files after err err')
    → IfOk r (λ ending. WasSaved text round to ending tells files after err err')
saved_as r made text round to tells files after err err' is h =
    subst (λ (t : List ℕ). IfOk r (λ ending. WasSaved t round to ending tells files after err err'))
    is h

pub leaves_as : (r : Result Ending Refusal) (made text : List ℕ) (round : ℕ) (to : Text)
    (tells : Bool) (files after : Text → Option (List ℕ)) (err err' : Option (List ℕ))
    (k k' n n' : ℕ) → made ≡ text
    → IfErr r (λ why. LeavesSaving made round to why tells files after err err' k k' n n')
    → IfErr r (λ why. LeavesSaving text round to why tells files after err err' k k' n n')
leaves_as r made text round to tells files after err err' k k' n n' is h =
    subst (λ (t : List ℕ). IfErr r
    (λ why. LeavesSaving t round to why tells files after err err' k k' n n')) is h

-- ---- it isn't opened

pub save_not_opened : (log : Log) (images : List Image) (round : ℕ) (to : Text) (o : Outside)
    (f : Faults) (why : Refusal) (config : Config) → config ≡ config_of Ownership log.header
    → IsNotOpened images config why → Says o [] → LeavesSave log images round to o f why
save_not_opened log images round to o f why config is h says =
    not_opened_as images (config_of Ownership log.header) why
    (λ (w : Refusal). LeavesSave log images round to o f w)
    (subst (λ (c : Config). IsNotOpened images c why) is h) (λ over. (refl, refl, over, says))
    (inl says)

-- ---- a run that stopped

pub save_stopped : (log : Log) (images : List Image) (round : ℕ) (to : Text) (o : Outside)
    (f : Faults) (stop : RunStop) (why : Refusal) → why ≡ refusal_by stop
    → needed images ≤ log.header.frames → StopsReplay stop
    → ((found : Misfit) → stop ≡ stops.Misfit found → (output : List ℕ) × (error : List ℕ)
    × (work : ℕ) × ReplayedUntil Ownership images log found output error work
    × Halted o.out o.err o.out_after o.err_after o.tally o.tally_after output error work
    × AsksWithin Ownership round images log found)
    → ((output : List ℕ) × (error : List ℕ) × (work : ℕ)
    × ReplayedAhead Ownership images log output error work
    × Halted o.out o.err o.out_after o.err_after o.tally o.tally_after output error work)
    → HasSinkCause stop f.out f.out_after f.err f.err_after → StaysAll o
    → LeavesSave log images round to o f why
save_stopped log images round to o f stop why is fits only until ahead sink stay =
    subst (λ (w : Refusal). LeavesSave log images round to o f w) (sym is)
    (by_stop stop only until sink)
  where
    cut : CutReplay Ownership log images o
    cut = record {
      output = ahead.0;
      error = ahead.1;
      work = ahead.2;
      replayed = ahead.3;
      counted = ahead.4.counted;
      grew = record { out_is = ahead.4.put.out_is; err_is = ahead.4.put.err_is };
      stays = stay;
    }

    by_stop : (stop : RunStop) → StopsReplay stop
        → ((found : Misfit) → stop ≡ stops.Misfit found → (output : List ℕ) × (error : List ℕ)
        × (work : ℕ) × ReplayedUntil Ownership images log found output error work
        × Halted o.out o.err o.out_after o.err_after o.tally o.tally_after output error work
        × AsksWithin Ownership round images log found)
        → HasSinkCause stop f.out f.out_after f.err f.err_after
        → LeavesSave log images round to o f (refusal_by stop)
    by_stop stops.OutFault only until sink = (fits, inl sink, inl cut)
    by_stop stops.ErrFault only until sink = (fits, inr sink, inl cut)
    by_stop (stops.Misfit found) only until sink =
        let run = until found refl in (
          fits,
          record {
            run = record {
              output = run.0;
              error = run.1;
              work = run.2;
              replayed = run.3;
              counted = run.4.counted;
              grew = record {
                out_is = run.4.put.out_is;
                err_is = run.4.put.err_is ∙ ap (grown o.err) (sym (append-nil run.1));
              };
              stays = stay;
            };
            within = run.5;
          },
        )
    by_stop stop only until sink = absurd only

-- ---- how far it came

pub arrived_so : (arrived known : Arrived) (images : List Image) (log : Log) (round : ℕ)
    (kernel : Held) (out err out1 err1 : Option (List ℕ)) (tally tally1 : ℕ) → arrived ≡ known
    → Arrives Ownership arrived images log round kernel out err out1 err1 tally tally1
    → Arrives Ownership known images log round kernel out err out1 err1 tally tally1
arrived_so arrived known images log round kernel out err out1 err1 tally tally1 is h =
    subst (λ (a : Arrived). Arrives Ownership a images log round kernel out err out1 err1 tally
    tally1) is h

-- ---- a run that came to its end before the round

module _ (log : Log) (images : List Image) (round : ℕ) (to : Text) (after : Held) (ending : Ending)
    (tells : Bool) (f' : Text → Option (List ℕ)) (out err out1 err_then err1 : Option (List ℕ))
    (tally tally1 : ℕ) (run : (seen : Seen)
    × Replayed Ownership images log seen × Ended after ending seen out err out1 err_then tally
    tally1
    × (seen.rounds < round)) where
  pub ended_did : (r : Result Ending Refusal) → IfOk r (λ ended. ended ≡ ending)
      → OnOk r (err1 ≡ grown err_then (report_in (kernel_world after) ending))
      → IfOk r (λ ended. (f : Text → Option (List ℕ)) (h : HostSeen)
      → ((n : Text) → f' n ≡ f n) → DidSave log images round to (ending_status ended)
      (outside tells f f' h h out out1 err err1 tally tally1))
  ended_did (Err why) same told = tt
  ended_did (Ok ended) same told = λ f h stay. inr (record {
    did = record {
      seen = run.0;
      replayed = run.1;
      status_is = ap ending_status (same ∙ sym run.2.shows.ending_is);
      counted = run.2.counted;
      grew = record {
        out_is = run.2.put.out_is;
        err_is = grown_more err err_then err1 run.0.error (report run.0) run.2.put.err_is
            (told ∙ ap (grown err_then) run.2.shows.report_is);
      };
      stays = record { files_stay = stay; host_stays = refl };
    };
    before = run.3;
  })

  pub ended_cut : (k' oc oc1 ec rises ec1 : ℕ) (r : Result Ending Refusal)
      → needed images ≤ log.header.frames → IfErr r (λ why. why ≡ refusals.Sink) → ec ≤ rises
      → HasCause rises ec1 r
      → OnErr r (GrewByFront err_then err1 (report_in (kernel_world after) ending))
      → IfErr r (λ why. (f : Text → Option (List ℕ)) (h : HostSeen) (k m : ℕ)
      → ((n : Text) → f' n ≡ f n) → k ≤ k' → LeavesSave log images round to
      (outside tells f f' h h out out1 err err1 tally tally1) (faults k k' m m oc oc1 ec ec1) why)
  ended_cut k' oc oc1 ec rises ec1 (Ok ended) fits sink later cause front = tt
  ended_cut k' oc oc1 ec rises ec1 (Err why) fits sink later cause front = λ f h k m stay few.
      let o : Outside = outside tells f f' h h out out1 err err1 tally tally1 in
      let counts : Faults = faults k k' m m oc oc1 ec ec1 in
      subst (λ (w : Refusal). LeavesSave log images round to o counts w) (sym sink) (
        fits,
        inr (then_rose ec rises ec1 later cause.failed),
        inr (inl (record {
          seen = run.0;
          replayed = run.1;
          counted = run.2.counted;
          grew = record {
            out_is = run.2.put.out_is;
            err_is = subst (λ (t : Option (List ℕ)). GrewByFront t err1 (report run.0))
                run.2.put.err_is (subst (λ (r : List ℕ). GrewByFront err_then err1 r)
                run.2.shows.report_is front);
          };
          stays = record { files_stay = stay; host_stays = refl };
        })),
      )

-- ---- a run that came to the round

module _ (log : Log) (images : List Image) (round used : ℕ) (to : Text) (reached : World)
    (text : List ℕ) (text_is : text ≡ saved_text log used reached) (tells : Bool)
    (f f1 f' : Text → Option (List ℕ)) (same : (n : Text) → f1 n ≡ f n)
    (out err out1 err_then err1 : Option (List ℕ)) (tally tally1 : ℕ)
    (run : (output : List ℕ) × (error : List ℕ) × (work : ℕ)
    × ReplayedTo Ownership images log round used reached output error work
    × Halted out err out1 err_then tally tally1 output error work) (h : HostSeen) where
  abbrev seen_outside : Outside
  seen_outside = outside tells f f' h h out out1 err err1 tally tally1

  came : CameToRound log images round used reached run.0 run.1 seen_outside
  came = record {
    work = run.2;
    replayed = run.3;
    counted = run.4.counted;
    host_stays = refl;
  }

  held : WasStored to text tells f1 f' → FileHolds seen_outside to (saved_text log used reached)
  held stored = record {
    where_told = subst (λ bytes. IfSome (f to) (λ _. f' to ≡ Some bytes)) text_is
        (subst (λ told. IfSome told (λ _. f' to ≡ Some text)) (same to) stored.where_told);
    where_all_tell = λ all. stored.where_all_tell all ∙ ap (λ bytes. Some bytes) text_is;
  }

  pub saved_did : (ending : Ending) → ComesBack (saved_group log used reached) reached
      → WasSaved text round to ending tells f1 f' err_then err1
      → DidSave log images round to (ending_status ending) seen_outside
  saved_did ending back saved = inl (
    ap ending_status saved.ending_is,
    record {
      used = used;
      reached = reached;
      output = run.0;
      error = run.1;
      came = came;
      grew = record {
        out_is = run.4.put.out_is;
        err_is = grown_more err err_then err1 run.1 (saved_line round) run.4.put.err_is
            saved.err_is;
      };
      written = held saved.stored;
      back = back;
      others = λ n other. saved.stored.others n other ∙ same n;
    },
  )

  pub saved_leaves : (k k1 k' m oc oc1 ec ec1 ec' : ℕ) (why : Refusal)
      → needed images ≤ log.header.frames → k ≤ k1 → ec ≤ ec1
      → LeavesSaving text round to why tells f1 f' err_then err1 k1 k' ec1 ec'
      → LeavesSave log images round to seen_outside (faults k k' m m oc oc1 ec ec') why
  saved_leaves k k1 k' m oc oc1 ec ec1 ec' refusals.Memory fits files later nothing = inr (
    fits,
    λ n. nothing.files_stay n ∙ same n,
    record {
      used = used;
      reached = reached;
      output = run.0;
      error = run.1;
      came = came;
      grew = record {
        out_is = run.4.put.out_is;
        err_is = nothing.out_stays ∙ run.4.put.err_is ∙ ap (grown err) (sym (append-nil run.1));
      };
      others = λ n other. nothing.files_stay n ∙ same n;
    },
  )
  saved_leaves k k1 k' m oc oc1 ec ec1 ec' refusals.Files fits files later stored = (
    fits,
    then_rose k k1 k' files stored.rose,
    record {
      used = used;
      reached = reached;
      output = run.0;
      error = run.1;
      came = came;
      grew = record {
        out_is = run.4.put.out_is;
        err_is = stored.out_stays ∙ run.4.put.err_is ∙ ap (grown err) (sym (append-nil run.1));
      };
      others = λ n other. stored.others n other ∙ same n;
    },
  )
  saved_leaves k k1 k' m oc oc1 ec ec1 ec' refusals.Sink fits files later said = (
    fits,
    inr (then_rose ec ec1 ec' later said.rose),
    inr (inr (record {
      used = used;
      reached = reached;
      output = run.0;
      error = run.1;
      came = came;
      grew = record {
        out_is = run.4.put.out_is;
        err_is = subst (λ (t : Option (List ℕ)). GrewByFront t err1 (saved_line round))
            run.4.put.err_is said.front;
      };
      written = held said.stored;
      others = λ n other. said.stored.others n other ∙ same n;
    })),
  )
  saved_leaves k k1 k' m oc oc1 ec ec1 ec' why fits files later h = absurd h

-- however the files came to what they tell
module _ (log : Log) (images : List Image) (round used : ℕ) (to : Text) (reached : World)
    (text : List ℕ) (text_is : text ≡ saved_text log used reached) (tells : Bool)
    (f1 f' : Text → Option (List ℕ)) (out err out1 err_then err1 : Option (List ℕ))
    (tally tally1 : ℕ)
    (run : (output : List ℕ) × (error : List ℕ) × (work : ℕ)
    × ReplayedTo Ownership images log round used reached output error work
    × Halted out err out1 err_then tally tally1 output error work) where
  pub round_did : (r : Result Ending Refusal)
      → IfOk r (λ _. ComesBack (saved_group log used reached) reached)
      → IfOk r (λ ending. WasSaved text round to ending tells f1 f' err_then err1)
      → IfOk r (λ ending. (f : Text → Option (List ℕ)) (h : HostSeen) → ((n : Text) → f1 n ≡ f n)
      → DidSave log images round to (ending_status ending)
      (outside tells f f' h h out out1 err err1 tally tally1))
  round_did (Err why) back saved = tt
  round_did (Ok ending) back saved = λ f h same. saved_did log images round used to reached text
      text_is tells f f1 f' same out err out1 err_then err1 tally tally1 run h ending back saved

  pub round_leaves : (k1 k' oc oc1 ec ec1 ec' : ℕ) (r : Result Ending Refusal)
      → needed images ≤ log.header.frames → ec ≤ ec1
      → IfErr r (λ why. LeavesSaving text round to why tells f1 f' err_then err1 k1 k' ec1 ec')
      → IfErr r (λ why. (f : Text → Option (List ℕ)) (h : HostSeen) (k m : ℕ)
      → ((n : Text) → f1 n ≡ f n) → k ≤ k1 → LeavesSave log images round to
      (outside tells f f' h h out out1 err err1 tally tally1) (faults k k' m m oc oc1 ec ec') why)
  round_leaves k1 k' oc oc1 ec ec1 ec' (Ok ending) fits later leaves = tt
  round_leaves k1 k' oc oc1 ec ec1 ec' (Err why) fits later leaves = λ f h k m same few.
      saved_leaves log images round used to reached text text_is tells f f1 f' same out err out1
      err_then err1 tally tally1 run h k k1 k' m oc oc1 ec ec1 ec' why fits few later leaves

-- the text of the group, by its log
pub text_by : (log : Log) (used : ℕ) (reached : World) (digest : List ℕ) (config : Config)
    → digest ≡ log_digest log → config ≡ config_of Ownership log.header
    → grouptext (group_of digest used config reached) ≡ saved_text log used reached
text_by log used reached digest config is same = rw (is, same) refl

-- and the group
pub back_by : (r : Result Ending Refusal) (log : Log) (used : ℕ) (reached : World)
    (digest : List ℕ) (config : Config) → digest ≡ log_digest log → config ≡ config_of Ownership
    log.header
    → IfOk r (λ _. ComesBack (group_of digest used config reached) reached)
    → IfOk r (λ _. ComesBack (saved_group log used reached) reached)
back_by r log used reached digest config is same back =
    subst (λ (d : List ℕ). IfOk r (λ _. ComesBack (group_of d used (config_of Ownership log.header)
    reached)
    reached)) is
    (subst (λ (c : Config). IfOk r (λ _. ComesBack (group_of digest used c reached) reached)) same
    back)

-- ---- where memory runs out before the run

pub save_no_memory : (log : Log) (images : List Image) (round : ℕ) (to : Text) (o : Outside)
    (f : Faults) (why : Refusal) → why ≡ refusals.Memory → Says o []
    → LeavesSave log images round to o f why
save_no_memory log images round to o f why is says =
    subst (λ (w : Refusal). LeavesSave log images round to o f w) (sym is) (inl says)
