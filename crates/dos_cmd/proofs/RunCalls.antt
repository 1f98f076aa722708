-- What a call that asks for a run leaves.
use Rattle.std.proofs.Common.{◌≡◌, ◌≤◌, inl, inr, ℕ, List, [], map, Bool, Option, Some, None}
use Rattle.std.proofs.Common.{Result, Ok, Err, sym, ap, ◌∙◌, subst, refl}
use Rattle.std.specs.Prelude.{IfSome, IfOk, IfErr, option_map}
use Rattle.dos_io.specs.Outside.{Rose}
use Rattle.dos_io.specs.declared.exchange.ClockRule.{ClockRule}
use Rattle.dos_world.specs.declared.Ending.{Ending}
use Rattle.dos_world.specs.declared.Post.{Post}
use Rattle.elf_image.specs.Image.{Image}
use Rattle.flat_machine.specs.Opening.{needed}
use Rattle.group_rounds.specs.Kernels.{Held}
use Rattle.shim_log.specs.Ledger.{LedgerState, empty_ledger}
use Rattle.log_text.specs.declared.header.LogHeader.{LogHeader}
use Rattle.logged_runs.specs.Opened.{IsOpenedWith}
use Rattle.dos_texts.specs.Exit.{ending_status}
use Rattle.dos_texts.specs.declared.refusal.Refusal.{Refusal}
use Rattle.dos_texts.specs.declared.refusal.Refusal.TheVariants as refusals
use Rattle.dos_words.specs.Numbers.{Text}
use Rattle.dos_cmd.proofs.Asked.{IsLater, later_run}
use Rattle.dos_cmd.specs.Judging.{Images, Judgement, OfFiles, Taken, digests_of, images_from}
use Rattle.dos_cmd.specs.Judging.{taken_images}
use Rattle.dos_cmd.specs.Judging.{judgement, of_images, with_room}
use Rattle.dos_cmd.specs.Outside.{Outside, Faults, Says}
use Rattle.dos_cmd.specs.Repeating.{run_asked_with}
use Rattle.dos_cmd.specs.Results.{Begun, Did, Leaves}
use Rattle.dos_cmd.specs.RunLeaves.{RunAsked, DidRun, IsPrepared, clock_rule, header_of}
use Rattle.dos_cmd.specs.Stops.{IsNotOpened, LeavesRun}
use Rattle.dos_cmd.proofs.NotBegun.{has_room, leaves_reading, no_room, not_opened_as, of_files}
use Rattle.dos_cmd.proofs.RunEnds.{then_rose}

-- ---- what its files are taken for

-- these images, and no log
abbrev pub only_images : List Image → Taken
only_images images = taken_images images

-- what all files are taken for, from what their images are
then_taken : (frames : ℕ) (told : Option Images) (images : Images) (j : Judgement)
    → of_images (with_room frames images) ≡ j → IfSome told (λ i. i ≡ images)
    → IfSome (option_map (λ i. of_images (with_room frames i)) told) (λ k. k ≡ j)
then_taken frames None images j e h = tt
then_taken frames (Some i) images j e h =
    ap (λ (x : Images). of_images (with_room frames x)) h ∙ e

pub taken_with : (a : RunAsked) (n : ℕ) (contents : Text → Option (List ℕ))
    (images : List Image)
    → needed images ≤ a.config.frames
    → IfSome (images_from 1 (map contents a.names)) (λ i. i ≡ Ok images)
    → IfSome (judgement contents (run_asked_with a n)) (λ j. j ≡ Ok (only_images images))
taken_with a n contents images fits h =
    then_taken a.config.frames (images_from 1 (map contents a.names)) (Ok images)
    (Ok (only_images images)) (ap of_images (has_room a.config.frames images fits)) h

refused_with : (a : RunAsked) (n : ℕ) (contents : Text → Option (List ℕ))
    (why : Refusal)
    → IfSome (images_from 1 (map contents a.names)) (λ i. i ≡ Err why)
    → IfSome (judgement contents (run_asked_with a n)) (λ j. j ≡ Err why)
refused_with a n contents why h =
    then_taken a.config.frames (images_from 1 (map contents a.names)) (Err why) (Err why) refl h

-- the same images under another name
pub same_images : (told : Option Images) (images others : List Image) → images ≡ others
    → IfSome told (λ i. i ≡ Ok others) → IfSome told (λ i. i ≡ Ok images)
same_images None images others e h = tt
same_images (Some i) images others e h =
    subst (λ (x : List Image). (let whole : Images = Ok x in i ≡ whole)) (sym e) h

-- ---- it isn't begun: nothing is put

pub images_refused : (a : RunAsked) (n : ℕ) (o : Outside) (f : Faults) (why : Refusal)
    → OfFiles why (λ r. IfSome (images_from 1 (map o.files a.names)) (λ i. i ≡ Err r))
    → (why ≡ refusals.Files → Rose f.files f.files_after) → Says o []
    → Leaves (run_asked_with a n) o f why []
images_refused a n o f why h rose says =
    leaves_reading (run_asked_with a n) o f why
    (of_files why _ _ (refused_with a n o.files) h) rose says

pub not_opened : (a : RunAsked) (n : ℕ) (o : Outside) (f : Faults)
    (images : List Image) (why : Refusal)
    → IfSome (images_from 1 (map o.files a.names)) (λ i. i ≡ Ok images)
    → IsNotOpened images a.config why → Says o [] → Leaves (run_asked_with a n) o f why []
not_opened a n o f images why told h says =
    not_opened_as images a.config why (λ (w : Refusal). Leaves (run_asked_with a n) o f w []) h
    (λ over. record {
      is = then_taken a.config.frames (images_from 1 (map o.files a.names)) (Ok images)
          (Err (refusals.NoRoom (needed images) a.config.frames))
          (ap of_images (no_room a.config.frames images over)) told;
      says = says;
    }) (inl says)

-- ---- it is begun

pub prepared : (a : RunAsked) (images : List Image) (o : Outside) (kernel : Held)
    (ledger : LedgerState) (digests : List (List ℕ)) (posts : List (ℕ × Post)) (clock : ClockRule)
    (header : LogHeader) (room : ℕ) → IsOpenedWith kernel images a.config
    → ledger ≡ empty_ledger posts clock header room → posts ≡ a.posts
    → clock ≡ clock_rule a.clock_from a.clock_step → header ≡ header_of a.config digests
    → IfSome (digests_of (map o.files a.names)) (λ ds. digests ≡ ds)
    → IsPrepared a images kernel ledger a.log o
prepared a images o kernel ledger digests posts clock header room opened empty posts_are clock_is
    header_is digests_are =
    let is : ledger.header ≡ header_of a.config digests =
    ap (λ (l : LedgerState). l.header) empty ∙ header_is in
    let kept : ledger.header.digests ≡ digests = ap (λ (h : LogHeader). h.digests) is in
    record {
      opened = opened;
      planned = record {
        images_are = refl;
        config_is = refl;
        posts_are = ap (λ (l : LedgerState). l.posts) empty ∙ posts_are;
        clock_is = ap (λ (l : LedgerState). l.clock) empty ∙ clock_is;
        header_is = is ∙ ap (header_of a.config) (sym kept);
        digests_are = kept_told (digests_of (map o.files a.names)) kept digests_are;
      };
      log_is = refl;
    }
  where
    kept_told : (told : Option (List (List ℕ))) → ledger.header.digests ≡ digests
        → IfSome told (λ ds. digests ≡ ds) → IfSome told (λ ds. ledger.header.digests ≡ ds)
    kept_told None kept h = tt
    kept_told (Some ds) kept h = kept ∙ h

-- from what the files told after some calls that leave them to what they told before
carried : (P : Outside → Type 0) (o : Outside) (tells : Bool) (files : Text → Option (List ℕ))
    → tells ≡ o.files_tell → ((n : Text) → files n ≡ o.files n)
    → P (record o { files_tell = tells; files = files }) → P o
carried P o tells files same stays h =
    let e : record o { files_tell = tells; files = files } ≡ o =
    λ i. record o { files_tell = same i; files = λ n. stays n i } in
    subst P e h

-- the files' count was lower before
earlier : (a : RunAsked) (images : List Image) (o : Outside) (f : Faults) (before : ℕ)
    (why : Refusal) → before ≤ f.files → LeavesRun a images o f why
    → LeavesRun a images o (record f { files = before }) why
earlier a images o f before refusals.Files le h =
    (then_rose before f.files f.files_after le h.0, h.1)
earlier a images o f before why le h = h

leaves_begun : (a : RunAsked) (n : ℕ) (o : Outside) (f : Faults) (images : List Image)
    (why : Refusal)
    → IfSome (judgement o.files (run_asked_with a n)) (λ j. j ≡ Ok (only_images images))
    → LeavesRun a images o f why → Leaves (run_asked_with a n) o f why []
leaves_begun a n o f images refusals.Files is h =
    (h.0, inr (record { taken = only_images images; is = is; so = h.1 }))
leaves_begun a n o f images refusals.Host is h =
    (h.0, record { taken = only_images images; is = is; so = h.1 })
leaves_begun a n o f images refusals.Sink is h =
    (h.0, refl, record { taken = only_images images; is = is; so = h.1 })
leaves_begun a n o f images refusals.LogFull is h =
    record { taken = only_images images; is = is; so = h }
leaves_begun a n o f images refusals.Memory is (inl h) =
    inr (inl (record { taken = only_images images; is = is; so = h }))
leaves_begun a n o f images refusals.Memory is (inr h) =
    inr (inr (h.0, record { taken = only_images images; is = is; so = h.1 }))
leaves_begun a n o f images why is h = absurd h

pub run_did : (a : RunAsked) (images : List Image) (o : Outside) (tells : Bool)
    (files : Text → Option (List ℕ)) (kernel : Held) (ledger : LedgerState)
    (r : Result Ending Refusal) → tells ≡ o.files_tell → ((n : Text) → files n ≡ o.files n)
    → IfOk r (λ ending. (asked : RunAsked) (i : List Image)
    → IsPrepared asked i kernel ledger a.log (record o { files_tell = tells; files = files })
    → DidRun asked i (ending_status ending) (record o { files_tell = tells; files = files }))
    → IsPrepared a images kernel ledger a.log o
    → ((n : ℕ) → IfSome (judgement o.files (run_asked_with a n))
    (λ j. j ≡ Ok (only_images images)))
    → (n : ℕ) → IfOk r (λ ending. Begun (run_asked_with a n) o
    (λ taken. Did (run_asked_with a n) taken (ending_status ending) o))
run_did a images o tells files kernel ledger (Err why) same stays did p is = λ n. tt
run_did a images o tells files kernel ledger (Ok ending) same stays did p is = λ n.
    let here : (asked : RunAsked) (i : List Image) → IsPrepared asked i kernel ledger a.log o
    → DidRun asked i (ending_status ending) o =
    carried (λ (x : Outside). (asked : RunAsked) (i : List Image)
    → IsPrepared asked i kernel ledger a.log x → DidRun asked i (ending_status ending) x) o tells
    files same stays did in
    record { taken = only_images images; is = is n; so = here a images p }

pub run_leaves : (a : RunAsked) (images : List Image) (o : Outside) (tells : Bool)
    (files : Text → Option (List ℕ)) (f : Faults) (before : ℕ) (kernel : Held)
    (ledger : LedgerState) (r : Result Ending Refusal) → tells ≡ o.files_tell
    → ((n : Text) → files n ≡ o.files n) → before ≤ f.files
    → IfErr r (λ why. (asked : RunAsked) (i : List Image)
    → IsPrepared asked i kernel ledger a.log (record o { files_tell = tells; files = files })
    → LeavesRun asked i (record o { files_tell = tells; files = files }) f why)
    → IsPrepared a images kernel ledger a.log o
    → ((n : ℕ) → IfSome (judgement o.files (run_asked_with a n))
    (λ j. j ≡ Ok (only_images images)))
    → (n : ℕ) → IfErr r (λ why.
    Leaves (run_asked_with a n) o (record f { files = before }) why [])
run_leaves a images o tells files f before kernel ledger (Ok ending) same stays le leaves p is =
    λ n. tt
run_leaves a images o tells files f before kernel ledger (Err why) same stays le leaves p is =
    λ n.
    let here : (asked : RunAsked) (i : List Image) → IsPrepared asked i kernel ledger a.log o
    → LeavesRun asked i o f why =
    carried (λ (x : Outside). (asked : RunAsked) (i : List Image)
    → IsPrepared asked i kernel ledger a.log x → LeavesRun asked i x f why) o tells files same
    stays leaves in
    leaves_begun a n o (record f { files = before }) images why (is n)
    (earlier a images o f before why le (here a images p))

-- All images were read before.
pub run_later : (a : RunAsked) (images : List Image) (o : Outside) (tells : Bool)
    (files : Text → Option (List ℕ)) (f : Faults) (kernel : Held) (ledger : LedgerState)
    (r : Result Ending Refusal) → tells ≡ o.files_tell → ((n : Text) → files n ≡ o.files n)
    → IfErr r (λ why. (asked : RunAsked) (i : List Image)
    → IsPrepared asked i kernel ledger a.log (record o { files_tell = tells; files = files })
    → LeavesRun asked i (record o { files_tell = tells; files = files }) f why)
    → IsPrepared a images kernel ledger a.log o → IfErr r IsLater
run_later a images o tells files f kernel ledger (Ok ending) same stays leaves p = tt
run_later a images o tells files f kernel ledger (Err why) same stays leaves p =
    let here : (asked : RunAsked) (i : List Image) → IsPrepared asked i kernel ledger a.log o
    → LeavesRun asked i o f why =
    carried (λ (x : Outside). (asked : RunAsked) (i : List Image)
    → IsPrepared asked i kernel ledger a.log x → LeavesRun asked i x f why) o tells files same
    stays leaves in
    later_run a images o f why (here a images p)
