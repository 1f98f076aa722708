-- What follows for a twin's call from how it ended.
use Rattle.std.proofs.Common.{ℕ, zero, suc, ◌≡◌, ◌≢◌, ◌≤◌, ◌⊎◌, refl, sym, ap, ◌∙◌, subst, inl, inr}
use Rattle.std.proofs.Common.{arith, List, [], take, drop, Option, Some, None, IfSome}
use Rattle.std.proofs.Common.{Result, Ok, Err}
use Rattle.std.proofs.lemmas.List.{take-append-drop}
use Rattle.std.specs.Prelude.{IfOk, IfErr, IsErrOf}
use Rattle.dos_io.specs.Outside.{grown, GrewByFront, IsFront, Rose}
use Rattle.dos_world.specs.declared.Ending.{Ending}
use Rattle.elf_image.specs.Image.{Image}
use Rattle.group_rounds.specs.Kernels.{Held}
use Rattle.dos_cmd.specs.Judging.{Images}
use Rattle.dos_texts.specs.Exit.{ending_status, refusal_status, line_of}
use Rattle.dos_texts.proofs.Statuses.{EndsAs, ending_ends}
use Rattle.dos_texts.specs.declared.refusal.Refusal.{Refusal}
use Rattle.dos_texts.specs.declared.refusal.Refusal.TheVariants as refusals
use Rattle.dos_words.specs.Canonical.{names_alone}
use Rattle.dos_words.specs.Numbers.{Text}
use Rattle.dos_twin.specs.TwinImages.{AreBothOpened, IsNotRead, TwinBegun, TwinNotBegun}
use Rattle.dos_twin.specs.TwinImages.{twin_images}
use Rattle.dos_twin.specs.TwinLeaves.{DidTwin, TwinCutShort, TwinDone, TwinFails, TwinLeaves}
use Rattle.dos_twin.specs.TwinLeaves.{TwinRefused}
use Rattle.dos_twin.specs.TwinOutside.{TwinFaults, TwinFilesStay, TwinOutputFailed, TwinOutside}
use Rattle.dos_twin.specs.TwinOutside.{TwinSays}
use Rattle.dos_twin.proofs.TwinEnds.{with_file_faults, with_files}
use Rattle.dos_twin.proofs.TwinSaying.{fails_more, output_failed, with_error, with_faults}

-- ---- statuses

pub status_ends : (n : ℕ) (ending : Ending) → n ≡ ending_status ending → EndsAs n
status_ends n ending is = subst EndsAs (sym is) (ending_ends ending)

pub ends_not : (n m : ℕ) → EndsAs n → m ≢ 0 → m ≢ 7 → m ≢ 8 → n ≢ m
ends_not n m (inl h) a b d = λ is. a (sym is ∙ h)
ends_not n m (inr (inl h)) a b d = λ is. b (sym is ∙ h)
ends_not n m (inr (inr h)) a b d = λ is. d (sym is ∙ h)

pub ends_not_six : (n : ℕ) → EndsAs n → n ≡ 6 → ⊥
ends_not_six n h six = omega arith

pub ends_or_not : (n : ℕ) → EndsAs n → n ≢ 0 → n ≢ 7 → n ≢ 8 → ⊥
ends_or_not n (inl h) a b d = a h
ends_or_not n (inr (inl h)) a b d = b h
ends_or_not n (inr (inr h)) a b d = d h

pub ends_never : (n : ℕ) → EndsAs n → (n ≢ 4) × (n ≢ 10)
ends_never n h = (λ is. omega arith, λ is. omega arith)

-- no stop's result has a value
pub no_stop : {T E : Type 0} (x : T) (e : E) → Ok x ≡ Err e → ⊥
no_stop x e is = cc

-- a refusal for another reason
pub no_sink : (T : Type 0) (why : Refusal) → (why ≡ refusals.Sink → ⊥)
    → ◌≡◌ {A = Result T Refusal} (Err why) (Err refusals.Sink) → ⊥
no_sink T why other is = let same : why ≡ refusals.Sink = cc in other same

-- ---- what was told

told_as : {A : Type 0} (told : Option A) (x : A) (P : A → Type 0) → told ≡ Some x → IfSome told P
    → P x
told_as None x P is h = absurd cc
told_as (Some y) x P is h = let same : y ≡ x = cc in subst P same h

-- two lists of names that the words are, are one
named_once : (words : List Text) (a b : List Text) → names_alone words ≡ Some a
    → names_alone words ≡ Some b → a ≡ b
named_once words a b p q = let both : Some a ≡ Some b = sym p ∙ q in cc

not_none : (words : List Text) (a : List Text) → names_alone words ≡ Some a
    → names_alone words ≡ None → ⊥
not_none words a p q = let both : Some a ≡ None = sym p ∙ q in cc

module _ (o : TwinOutside) (names : List Text) where
  begun_is : (P : List Image → Type 0) (images : List Image) (begun : TwinBegun names o P)
      → twin_images o.files names ≡ Some (Ok images) → begun.images ≡ images
  begun_is P images begun told =
      let is : ◌≡◌ {A = Images} (Ok images) (Ok begun.images) =
      told_as (twin_images o.files names) (Ok images) (λ j. j ≡ Ok begun.images) told begun.is in
      cc

  begun_not : (P : List Image → Type 0) (why : Refusal) → TwinBegun names o P
      → twin_images o.files names ≡ Some (Err why) → ⊥
  begun_not P why begun told =
      let is : ◌≡◌ {A = Images} (Err why) (Ok begun.images) =
      told_as (twin_images o.files names) (Err why) (λ j. j ≡ Ok begun.images) told begun.is in
      cc

  refused_not : (why : Refusal) (last : List ℕ) (images : List Image)
      → TwinNotBegun names o why last → twin_images o.files names ≡ Some (Ok images) → ⊥
  refused_not why last images h told =
      let is : ◌≡◌ {A = Images} (Ok images) (Err why) =
      told_as (twin_images o.files names) (Ok images) (λ j. j ≡ Err why) told h.is in cc

  refused_is : (why other : Refusal) (last : List ℕ) → TwinNotBegun names o why last
      → twin_images o.files names ≡ Some (Err other) → other ≡ why
  refused_is why other last h told =
      let is : ◌≡◌ {A = Images} (Err other) (Err why) =
      told_as (twin_images o.files names) (Err other) (λ j. j ≡ Err why) told h.is in cc

-- ---- a call that was done

pub done_as : (words : List Text) (n m : ℕ) (o : TwinOutside) → n ≡ m → TwinDone words m o
    → TwinDone words n o
done_as words n m o is h = subst (λ (k : ℕ). TwinDone words k o) (sym is) h

pub done_not_none : (words : List Text) (n : ℕ) (o : TwinOutside) → TwinDone words n o
    → names_alone words ≡ None → ⊥
done_not_none words n o h none = not_none words h.names h.names_are none

pub done_not_refused : (words : List Text) (n : ℕ) (o : TwinOutside) (names : List Text)
    (why : Refusal) → TwinDone words n o → names_alone words ≡ Some names
    → twin_images o.files names ≡ Some (Err why) → ⊥
done_not_refused words n o names why h are told =
    begun_not o h.names (λ images. DidTwin images n o) why h.begun
    (ap (twin_images o.files) (named_once words h.names names h.names_are are) ∙ told)

pub done_must : (words : List Text) (n : ℕ) (o : TwinOutside) (names : List Text)
    (images : List Image) → TwinDone words n o → names_alone words ≡ Some names
    → twin_images o.files names ≡ Some (Ok images) → DidTwin images n o
done_must words n o names images h are told =
    let is = begun_is o h.names (λ images. DidTwin images n o) images h.begun
    (ap (twin_images o.files) (named_once words h.names names h.names_are are) ∙ told) in
    subst (λ (i : List Image). DidTwin i n o) is h.begun.so

-- ---- a call that came to no report

-- Its status is a refusal's; want of memory, and a fault of the outside, say nothing of what the
-- files are taken for.
leaves_status : (names : List Text) (o : TwinOutside) (f : TwinFaults) (why other : Refusal)
    (last : List ℕ) → TwinLeaves names o f why last
    → twin_images o.files names ≡ Some (Err other) → refusal_status why ≢ 5
    → refusal_status why ≢ 6 → refusal_status why ≢ 9 → refusal_status why ≡ refusal_status other
unfolding refusal_status
leaves_status names o f (refusals.TooLong image) other last h told a b d =
    ap refusal_status (sym (refused_is o names (refusals.TooLong image) other last h told))
leaves_status names o f (refusals.Image image error) other last h told a b d =
    ap refusal_status (sym (refused_is o names (refusals.Image image error) other last h told))
leaves_status names o f (refusals.NoRoom needed frames) other last h told a b d =
    ap refusal_status (sym (refused_is o names (refusals.NoRoom needed frames) other last h told))
leaves_status names o f refusals.Files other last h told a b d = absurd (a refl)
leaves_status names o f refusals.Host other last h told a b d = absurd (a refl)
leaves_status names o f refusals.Sink other last h told a b d = absurd (b refl)
leaves_status names o f refusals.Memory other last h told a b d = absurd (d refl)
leaves_status names o f why other last h told a b d = absurd h

-- the files are taken for images, so nothing else comes
leaves_none : (names : List Text) (images : List Image) (o : TwinOutside) (f : TwinFaults)
    (why : Refusal) (n : ℕ) (last : List ℕ) → n ≡ refusal_status why
    → TwinLeaves names o f why last → twin_images o.files names ≡ Some (Ok images) → n ≢ 5 → n ≢ 6
    → n ≢ 9 → ⊥
unfolding refusal_status
leaves_none names images o f (refusals.TooLong image) n last is h told a b d =
    refused_not o names (refusals.TooLong image) last images h told
leaves_none names images o f (refusals.Image image error) n last is h told a b d =
    refused_not o names (refusals.Image image error) last images h told
leaves_none names images o f (refusals.NoRoom needed frames) n last is h told a b d =
    refused_not o names (refusals.NoRoom needed frames) last images h told
leaves_none names images o f refusals.Files n last is h told a b d = a is
leaves_none names images o f refusals.Host n last is h told a b d = a is
leaves_none names images o f refusals.Sink n last is h told a b d = b is
leaves_none names images o f refusals.Memory n last is h told a b d = d is
leaves_none names images o f why n last is h told a b d = absurd h

-- no log is read, and none is written
leaves_never : (names : List Text) (o : TwinOutside) (f : TwinFaults) (why : Refusal) (n : ℕ)
    (last : List ℕ) → n ≡ refusal_status why → TwinLeaves names o f why last
    → (n ≢ 4) × (n ≢ 10)
unfolding refusal_status
leaves_never names o f (refusals.TooLong image) n last is h =
    (λ four. omega arith, λ ten. omega arith)
leaves_never names o f (refusals.Image image error) n last is h =
    (λ four. omega arith, λ ten. omega arith)
leaves_never names o f (refusals.NoRoom needed frames) n last is h =
    (λ four. omega arith, λ ten. omega arith)
leaves_never names o f refusals.Files n last is h = (λ four. omega arith, λ ten. omega arith)
leaves_never names o f refusals.Host n last is h = (λ four. omega arith, λ ten. omega arith)
leaves_never names o f refusals.Sink n last is h = (λ four. omega arith, λ ten. omega arith)
leaves_never names o f refusals.Memory n last is h = (λ four. omega arith, λ ten. omega arith)
leaves_never names o f why n last is h = absurd h

memory_status : (n : ℕ) (why : Refusal) → n ≡ refusal_status why → why ≡ refusals.Memory → n ≡ 9
unfolding refusal_status
memory_status n why is memory = is ∙ ap refusal_status memory

words_status : (n : ℕ) (why : Refusal) → n ≡ refusal_status why → why ≡ refusals.Words → n ≡ 2
unfolding refusal_status
words_status n why is words = is ∙ ap refusal_status words

pub fails_none : (words : List Text) (o : TwinOutside) (f : TwinFaults) (why : Refusal)
    (last : List ℕ) (n : ℕ) → n ≡ refusal_status why → TwinFails words o f why last
    → names_alone words ≡ None → n ≢ 9 → n ≡ 2
fails_none words o f why last n is (inl h) none d = words_status n why is h.1
fails_none words o f why last n is (inr (inl h)) none d = absurd (d (memory_status n why is h.0))
fails_none words o f why last n is (inr (inr h)) none d = absurd (not_none words h.0 h.1 none)

pub fails_refused : (words : List Text) (o : TwinOutside) (f : TwinFaults) (why other : Refusal)
    (last : List ℕ) (n : ℕ) (names : List Text) → n ≡ refusal_status why
    → TwinFails words o f why last → names_alone words ≡ Some names
    → twin_images o.files names ≡ Some (Err other) → n ≢ 5 → n ≢ 6 → n ≢ 9
    → n ≡ refusal_status other
fails_refused words o f why other last n names is (inl h) are told a b d =
    absurd (not_none words names are h.0)
fails_refused words o f why other last n names is (inr (inl h)) are told a b d =
    absurd (d (memory_status n why is h.0))
fails_refused words o f why other last n names is (inr (inr h)) are told a b d =
    is ∙ leaves_status h.0 o f why other last h.2
    (ap (twin_images o.files) (named_once words h.0 names h.1 are) ∙ told)
    (λ e. a (is ∙ e)) (λ e. b (is ∙ e)) (λ e. d (is ∙ e))

pub fails_not : (words : List Text) (o : TwinOutside) (f : TwinFaults) (why : Refusal) (n : ℕ)
    (last : List ℕ) (names : List Text) (images : List Image) → n ≡ refusal_status why
    → TwinFails words o f why last → names_alone words ≡ Some names
    → twin_images o.files names ≡ Some (Ok images) → n ≢ 5 → n ≢ 6 → n ≢ 9 → ⊥
fails_not words o f why n last names images is (inl h) are told a b d =
    not_none words names are h.0
fails_not words o f why n last names images is (inr (inl h)) are told a b d =
    d (memory_status n why is h.0)
fails_not words o f why n last names images is (inr (inr h)) are told a b d =
    leaves_none h.0 images o f why n last is h.2
    (ap (twin_images o.files) (named_once words h.0 names h.1 are) ∙ told) a b d

pub fails_never : (words : List Text) (o : TwinOutside) (f : TwinFaults) (why : Refusal) (n : ℕ)
    (last : List ℕ) → n ≡ refusal_status why → TwinFails words o f why last
    → (n ≢ 4) × (n ≢ 10)
fails_never words o f why n last is (inl h) =
    let two = words_status n why is h.1 in (λ four. omega arith, λ ten. omega arith)
fails_never words o f why n last is (inr (inl h)) =
    let nine = memory_status n why is h.0 in (λ four. omega arith, λ ten. omega arith)
fails_never words o f why n last is (inr (inr h)) = leaves_never h.0 o f why n last is h.2

-- nor where an output failed
pub fails_never_of : (words : List Text) (o : TwinOutside) (f : TwinFaults) (why : Refusal) (n : ℕ)
    (last : List ℕ) → (n ≢ 6 → n ≡ refusal_status why) → TwinFails words o f why last
    → (n ≢ 4) × (n ≢ 10)
fails_never_of words o f why n last is h = (
  λ four. (fails_never words o f why n last (is (λ six. omega arith)) h).0 four,
  λ ten. (fails_never words o f why n last (is (λ six. omega arith)) h).1 ten,
)

-- its line was put
pub refused_as : (words : List Text) (o : TwinOutside) (f : TwinFaults) (n faults : ℕ)
    (e : Option (List ℕ)) (why : Refusal) → f.err_after ≤ faults
    → (why ≢ refusals.Sink) × (n ≡ refusal_status why) × (e ≡ grown o.err_after (line_of why))
    → TwinFails words o f why [] → TwinRefused words n (with_error o e) (with_faults f faults)
refused_as words o f n faults e why later told fails = record {
  why = why;
  status_is = told.1;
  fails = fails_more words o f faults e why (line_of why) later (λ sink. absurd (told.0 sink))
      told.2 fails;
}

-- ---- an output that failed

no_line : (why : Refusal) → why ≡ refusals.Sink → line_of why ≡ []
unfolding line_of
no_line why is = ap line_of is

take_nothing : (k : ℕ) → take {A = ℕ} k [] ≡ []
take_nothing zero = refl
take_nothing (suc k) = refl

front_nothing : (why : Refusal) (k : ℕ) → why ≡ refusals.Sink → take k (line_of why) ≡ []
front_nothing why k is = ap (take k) (no_line why is) ∙ take_nothing k

take_is_front : (k : ℕ) (xs : List ℕ) → IsFront (take k xs) xs
take_is_front k xs = (drop k xs, sym (take-append-drop k xs))

-- an output has failed where the reason is that
sink_failed : (words : List Text) (o : TwinOutside) (f : TwinFaults) (why : Refusal)
    (last : List ℕ) → why ≡ refusals.Sink → TwinFails words o f why last → TwinOutputFailed f
sink_failed words o f why last is (inl h) =
    let clash : refusals.Sink ≡ refusals.Words = sym is ∙ h.1 in absurd cc
sink_failed words o f why last is (inr (inl h)) =
    let clash : refusals.Sink ≡ refusals.Memory = sym is ∙ h.0 in absurd cc
sink_failed words o f why last is (inr (inr h)) =
    (subst (λ (w : Refusal). TwinLeaves h.0 o f w last) is h.2).0

pub cut_short : (words : List Text) (o : TwinOutside) (f : TwinFaults) (n : ℕ)
    (e : Option (List ℕ)) (why : Refusal) → f.err_after ≤ n → f.err ≤ f.err_after
    → TwinFails words o f why [] → (why ≡ refusals.Sink) ⊎ Rose f.err_after n
    → GrewByFront o.err_after e (line_of why)
    → TwinCutShort words (with_error o e) (with_faults f n)
cut_short words o f n e why later grows fails failed front = record {
  failed = elim failed [
    | inl sink ↦ output_failed f n later (sink_failed words o f why [] sink fails)
    | inr rose ↦ inr (inl (omega (arith, grows, rose)))
  ];
  why = why;
  put = take front.0 (line_of why);
  front = take_is_front front.0 (line_of why);
  fails = fails_more words o f n e why (take front.0 (line_of why)) later
      (front_nothing why front.0) front.1 fails;
}

-- ---- from what is done for names to what is done for words

-- the names weren't read
pub words_not_read : (words : List Text) (o : TwinOutside) (f : TwinFaults) (why : Refusal)
    → (IsErrOf {T = List Text} (Err why) refusals.Words → names_alone words ≡ None)
    → (why ≡ refusals.Words) ⊎ (why ≡ refusals.Memory) → TwinSays o []
    → TwinFails words o f why []
words_not_read words o f why none (inl is) says = inl (none (err_is why is), is, says)
  where
    err_is : (w : Refusal) → w ≡ refusals.Words → IsErrOf {T = List Text} (Err w) refusals.Words
    err_is w e = cc
words_not_read words o f why none (inr is) says = inr (inl (is, says))

-- the images weren't read, or the groups not opened
pub not_opened_leaves : (names : List Text) (o : TwinOutside) (f : TwinFaults) (why : Refusal)
    → IsNotRead names o.files why → (why ≡ refusals.Files → Rose f.files f.files_after)
    → TwinSays o [] → TwinLeaves names o f why []
not_opened_leaves names o f (refusals.TooLong image) h rose says =
    record { is = h; says = says }
not_opened_leaves names o f (refusals.Image image error) h rose says =
    record { is = h; says = says }
not_opened_leaves names o f (refusals.NoRoom needed frames) h rose says =
    record { is = h; says = says }
not_opened_leaves names o f refusals.Files h rose says = (rose refl, says)
not_opened_leaves names o f refusals.Memory h rose says = inl says
not_opened_leaves names o f why h rose says = absurd h

-- the tally was this before
abbrev with_tally : TwinOutside → ℕ → TwinOutside
with_tally o tally = record o { tally = tally }

same_outside : (o : TwinOutside) (tally : ℕ) → o.tally ≡ tally → with_tally o tally ≡ o
same_outside o tally kept = ap (with_tally o) (sym kept)

-- Both groups were opened, and workers were hired, which has kept the tally.
pub done_by : (r : Result Ending Refusal) (words names : List Text) (o : TwinOutside) (tally : ℕ)
    (first second : Held) → names_alone words ≡ Some names → o.tally ≡ tally → TwinFilesStay o
    → AreBothOpened names o.files first second
    → IfOk r (λ ending. (n : List Text) (contents after : Text → Option (List ℕ))
    → ((name : Text) → after name ≡ contents name) → AreBothOpened n contents first second
    → TwinBegun n (with_files o contents after)
    (λ images. DidTwin images (ending_status ending) (with_files o contents after)))
    → IfOk r (λ ending. TwinDone words (ending_status ending) (with_tally o tally))
done_by (Ok ending) words names o tally first second are kept stay opened h =
    subst (λ (x : TwinOutside). TwinDone words (ending_status ending) x)
    (sym (same_outside o tally kept))
    (record { names = names; names_are = are; begun = h names o.files o.files_after stay opened })
done_by (Err why) words names o tally first second are kept stay opened h = tt

pub fails_by : (r : Result Ending Refusal) (words names : List Text) (o : TwinOutside)
    (f : TwinFaults) (tally : ℕ) (first second : Held) → names_alone words ≡ Some names
    → o.tally ≡ tally → TwinFilesStay o → AreBothOpened names o.files first second
    → IfErr r (λ why. (n : List Text) (contents after : Text → Option (List ℕ))
    (failed failed_after : ℕ) → ((name : Text) → after name ≡ contents name)
    → AreBothOpened n contents first second
    → TwinLeaves n (with_files o contents after) (with_file_faults f failed failed_after) why [])
    → IfErr r (λ why. TwinFails words (with_tally o tally) f why [])
fails_by (Ok ending) words names o f tally first second are kept stay opened h = tt
fails_by (Err why) words names o f tally first second are kept stay opened h =
    subst (λ (x : TwinOutside). TwinFails words x f why []) (sym (same_outside o tally kept))
    (inr (inr (
      names,
      are,
      h names o.files o.files_after f.files f.files_after stay opened,
    )))
