-- What a thread's memory answers in the buffered scheme, by the frame that is found; and its part,
-- as far as a run of it went.
use Rattle.std.proofs.Common.{ℕ, zero, suc, ◌+◌, ◌*◌, ◌-◌, ◌/◌, ◌%◌, ◌<◌, ◌≤◌, ◌≡◌, refl, sym, ap}
use Rattle.std.proofs.Common.{◌∙◌, cond, not, Bool, true, false, List, Option, Some, None}
use Rattle.std.proofs.Common.{Result, Ok, Err, arith}
use Rattle.std.specs.Prelude.{◌==◌, MatchOption, slice_index_or}
use Rattle.dos_world.specs.World.{World, Registers, look, entry_at}
use Rattle.dos_world.specs.Bytes.{bytes_of, loaded}
use Rattle.dos_world.specs.Reach.{fault, foreign, at, in_frame, has_right, is_foreign, width}
use Rattle.dos_world.specs.declared.Access.{Access}
use Rattle.dos_world.specs.declared.Access.TheVariants.{Fetch, Load, Store, Claim}
use Rattle.dos_world.specs.declared.Entry.{Entry}
use Rattle.dos_world.specs.declared.Owner.{Owner}
use Rattle.dos_world.specs.declared.Owner.TheVariants.{Free}
use Rattle.dos_world.specs.declared.Reason.{Reason}
use Rattle.dos_world.specs.declared.Reason.TheVariants.{Page, Fault}
use Rattle.dos_world.specs.declared.Size.{Size}
use Rattle.dos_world.specs.declared.Size.TheVariants.{Half, Word}
use Rattle.page_store.specs.Store.{Store as Frames, joined}
use Rattle.flat_machine.specs.Step.{◌>>=◌, place_or_reason, reached}
use Rattle.flat_machine.specs.Over.{MemoryAnswers, one_in}
use Rattle.flat_machine.specs.Buffered.{Part, as_seen_by, buffer_answers, part, part_from}
use Rattle.flat_machine.specs.Buffered.{words_or_page}
use Rattle.rv_exec.specs.Runs.{GoesTo, after_in}
use Rattle.written_words.specs.declared.Written.{Written}
use Rattle.written_words.specs.Words.{with_stored}
use Rattle.quantum_run.specs.Answering.{Still, frame_found, left_or_page, run_answers}
use Rattle.quantum_run.specs.Answering.{word_or_page}
use Rattle.quantum_run.specs.Buffering.{RanOver, SeesFrames, buffer_places, still_for}
use Rattle.quantum_run.specs.Finding.{flat_place, frame_by, frame_for}
use Rattle.quantum_run.specs.Shows.{thread_space}
use Rattle.quantum_run.proofs.Spaces.{entry-space}

or-page : (address : ℕ) (o : Option (List Written))
    → words_or_page address o ≡ left_or_page address o
or-page address None = refl
or-page address (Some words) = refl

module _ (w : World) (t : ℕ) (entries : List (ℕ × Entry))
    (space : thread_space w t ≡ entries) where
  -- what stands still: each frame in use is t's own
  abbrev pub s : Still
  s = still_for t w.owners entries

  -- an access reaches its place in the frame that is found for it
  reached-seen : (words : List Written) (a : ℕ) (size : Size) (access : Access)
      → reached (as_seen_by w t words) t a size access
      ≡ (frame_found s access size a >>= λ frame. Ok (flat_place frame a))
  reached-seen words a size access = by_aligned (a % width size == 0)
    where
      by_test : (right foreign_to : Bool) (frame : ℕ)
          → place_or_reason a access
          (cond (not right) (fault 11)
          (cond foreign_to (foreign frame) (at (4096 * frame + a % 4096))))
          ≡ (cond (not right) (Err (Fault 11)) (cond foreign_to (Err (Page a access)) (Ok frame))
          >>= λ frame. Ok (flat_place frame a))
      by_test false foreign_to frame = refl
      by_test true true frame = refl
      by_test true false frame = refl

      by_entry : (o : Option Entry)
          → place_or_reason a access (in_frame (as_seen_by w t words) t a access o)
          ≡ ((elim o as (λ _. Result ℕ Reason) [
            | None ↦ Err (Fault 11)
            | Some e ↦ frame_by s.thread s.owners access a e
          ])
          >>= λ frame. Ok (flat_place frame a))
      by_entry None = refl
      by_entry (Some e) = by_test (has_right access e)
          (is_foreign t access (slice_index_or s.owners e.frame Free)) e.frame

      by_aligned : (b : Bool)
          → place_or_reason a access (cond (not b) (fault 7)
          (in_frame (as_seen_by w t words) t a access (entry_at w t a)))
          ≡ (cond (not b) (Err (Fault 7)) (frame_for s.thread s.owners s.entries access a)
          >>= λ frame. Ok (flat_place frame a))
      by_aligned false = refl
      by_aligned true =
          ap (λ x. place_or_reason a access (in_frame (as_seen_by w t words) t a access x))
          (entry-space w t a ∙ ap (λ es. look es (a / 4096)) space)
          ∙ by_entry (look entries (a / 4096))

  fetch-same : (words : List Written) (a : ℕ) → (buffer_answers w t).fetch words a
      ≡ (run_answers s (buffer_places w.bytes)).fetch words a
  fetch-same words a =
      ap (λ (o : Result ℕ Reason). o >>= λ place. Ok (loaded (as_seen_by w t words) place 2))
      (reached-seen words a Half Fetch)
      ∙ by_found (frame_found s Fetch Half a)
    where
      by_found : (o : Result ℕ Reason)
          → ((o >>= λ frame. Ok (flat_place frame a))
          >>= λ place. Ok (loaded (as_seen_by w t words) place 2))
          ≡ (o >>= λ frame. Ok (loaded (as_seen_by w t words) (flat_place frame a) 2))
      by_found (Ok frame) = refl
      by_found (Err reason) = refl

  load-same : (words : List Written) (a : ℕ) (size : Size)
      → (buffer_answers w t).load words a size
      ≡ (run_answers s (buffer_places w.bytes)).load words a size
  load-same words a size =
      ap (λ (o : Result ℕ Reason).
      o >>= λ place. Ok (loaded (as_seen_by w t words) place (width size)))
      (reached-seen words a size Load)
      ∙ by_found (frame_found s Load size a)
    where
      by_found : (o : Result ℕ Reason)
          → ((o >>= λ frame. Ok (flat_place frame a))
          >>= λ place. Ok (loaded (as_seen_by w t words) place (width size)))
          ≡ (o >>= λ frame. Ok (loaded (as_seen_by w t words) (flat_place frame a) (width size)))
      by_found (Ok frame) = refl
      by_found (Err reason) = refl

  store-same : (words : List Written) (a : ℕ) (size : Size) (value : ℕ)
      → (buffer_answers w t).store words a size value
      ≡ (run_answers s (buffer_places w.bytes)).store words a size value
  store-same words a size value =
      ap (λ (o : Result ℕ Reason). o >>= λ place. words_or_page a
      (with_stored words (place / 4096) (place % 4096) (bytes_of (width size) value)))
      (reached-seen words a size Store)
      ∙ by_found (frame_found s Store size a)
    where
      by_found : (o : Result ℕ Reason)
          → ((o >>= λ frame. Ok (flat_place frame a)) >>= λ place. words_or_page a
          (with_stored words (place / 4096) (place % 4096) (bytes_of (width size) value)))
          ≡ (o >>= λ frame. left_or_page a
          ((buffer_places w.bytes).write words (flat_place frame a)
          (bytes_of (width size) value)))
      by_found (Ok frame) = or-page a
          ((buffer_places w.bytes).write words (flat_place frame a) (bytes_of (width size) value))
      by_found (Err reason) = refl

  claim-same : (words : List Written) (a : ℕ) → (buffer_answers w t).claim words a
      ≡ (run_answers s (buffer_places w.bytes)).claim words a
  claim-same words a =
      ap (λ (o : Result ℕ Reason). o >>= refused) (reached-seen words a Word Claim)
      ∙ by_found (frame_found s Claim Word a)
    where
      refused : ℕ → Result ℕ Reason
      refused place = Err (Page a Claim)

      by_found : (o : Result ℕ Reason)
          → ((o >>= λ frame. Ok (flat_place frame a)) >>= refused)
          ≡ (o >>= λ frame. word_or_page a false
          (loaded (as_seen_by w t words) (flat_place frame a) 4))
      by_found (Ok frame) = refl
      by_found (Err reason) = refl

  -- all four answers
  pub answers-same : buffer_answers w t ≡ run_answers s (buffer_places w.bytes)
  answers-same = λ i. record {
    fetch = λ words a. fetch-same words a i;
    load = λ words a size. load-same words a size i;
    store = λ words a size value. store-same words a size value i;
    claim = λ words a. claim-same words a i;
  }

-- ---- the part

Some-pair : {M : Type 0} {a b : Registers × M} → ◌≡◌ {A = Option (Registers × M)} (Some a) (Some b)
    → a ≡ b
Some-pair h = cc

-- where some instructions led, the part goes on from there
pub part-goes : (w : World) (t n b : ℕ) (r after : Registers) (words left : List Written)
    → n ≤ b → GoesTo (buffer_answers w t) n r words after left
    → part_from w t b r words ≡ part_from w t (b - n) after left
part-goes w t zero b r after words left few h =
    let all : b ≡ b - 0 = omega arith in
    ap (λ (x : Registers × List Written). part_from w t b x.0 x.1) (Some-pair h)
    ∙ ap (λ k. part_from w t k after left) all
part-goes w t (suc n) zero r after words left few h = absurd (omega (arith, few))
part-goes w t (suc n) (suc b) r after words left few h =
    by_one (λ x q. part-goes w t n b x.0 after x.1 left (omega (arith, few)) q)
    (one_in (buffer_answers w t) r words) refl h
  where
    rest : Result (Registers × List Written) Reason → Part
    rest o = elim o as (λ _. Part) [
      | Ok next ↦ part_from w t b next.0 next.1
      | Err reason ↦ part r (suc b) words
    ]

    by_one : ((x : Registers × List Written)
        → after_in (buffer_answers w t) n x.0 x.1 ≡ Some (after, left)
        → part_from w t b x.0 x.1 ≡ part_from w t (b - n) after left)
        → (o : Result (Registers × List Written) Reason)
        → one_in (buffer_answers w t) r words ≡ o
        → (elim o as (λ _. Option (Registers × List Written)) [
          | Ok next ↦ after_in (buffer_answers w t) n next.0 next.1
          | Err reason ↦ None
        ]) ≡ Some (after, left)
        → part_from w t (suc b) r words ≡ part_from w t (suc b - suc n) after left
    by_one later (Ok x) is q =
        let less : b - n ≡ suc b - suc n = omega arith in
        ap rest is ∙ later x q
        ∙ ap (λ k. part_from w t k after left) less
    by_one later (Err reason) is q = cc

-- a thread that stops goes no further
pub part-stops : (w : World) (t b : ℕ) (r : Registers) (words : List Written) (reason : Reason)
    → one_in (buffer_answers w t) r words ≡ Err reason → part_from w t b r words ≡ part r b words
part-stops w t zero r words reason h = refl
part-stops w t (suc b) r words reason h =
    ap (λ (o : Result (Registers × List Written) Reason). elim o as (λ _. Part) [
      | Ok next ↦ part_from w t b next.0 next.1
      | Err cause ↦ part r (suc b) words
    ]) h

-- ---- over frames

module _ (s : Frames) (entries : List (ℕ × Entry)) (t : ℕ) where
  -- the answers in each world that has these frames and this space
  pub answers-are : (w : World) → SeesFrames s entries t w → buffer_answers w t
      ≡ run_answers (still_for t s.owners entries) (buffer_places (joined s.pages))
  answers-are w sees =
      answers-same w t entries sees.space
      ∙ ap (λ (os : List Owner). run_answers (still_for t os entries) (buffer_places w.bytes))
      sees.owners
      ∙ ap (λ (bytes : List ℕ). run_answers (still_for t s.owners entries) (buffer_places bytes))
      sees.bytes

  pub run-over : (n : ℕ) (r after : Registers) (words left : List Written)
      → GoesTo (run_answers (still_for t s.owners entries) (buffer_places (joined s.pages)))
      n r words after left
      → (w : World) → SeesFrames s entries t w
      → GoesTo (buffer_answers w t) n r words after left
  run-over n r after words left h w sees =
      ap (λ (a : MemoryAnswers (List Written)). after_in a n r words) (answers-are w sees) ∙ h

  pub stop-over : (r : Registers) (words : List Written) (reason : Reason)
      → one_in (run_answers (still_for t s.owners entries) (buffer_places (joined s.pages)))
      r words ≡ Err reason
      → (w : World) → SeesFrames s entries t w
      → one_in (buffer_answers w t) r words ≡ Err reason
  stop-over r words reason h w sees =
      ap (λ (a : MemoryAnswers (List Written)). one_in a r words) (answers-are w sees) ∙ h

  abbrev places_answers : MemoryAnswers (List Written)
  places_answers = run_answers (still_for t s.owners entries) (buffer_places (joined s.pages))

  -- a run that ended is the part
  pub run-part : (r after : Registers) (words now : List Written) (budget left : ℕ)
      (stop : Option Reason) → left ≤ budget
      → GoesTo places_answers (budget - left) r words after now
      → MatchOption stop (left ≡ 0) (λ reason. one_in places_answers after now ≡ Err reason)
      → (w : World) → SeesFrames s entries t w
      → part_from w t budget r words ≡ part after left now
  run-part r after words now budget left stop few ran stops w sees =
      let rest : budget - (budget - left) ≡ left = omega (arith, few) in
      part-goes w t (budget - left) budget r after words now (omega (arith, few))
      (run-over (budget - left) r after words now ran w sees)
      ∙ ap (λ n. part_from w t n after now) rest
      ∙ by_stop stop stops
    where
      by_stop : (stop : Option Reason)
          → MatchOption stop (left ≡ 0) (λ reason. one_in places_answers after now ≡ Err reason)
          → part_from w t left after now ≡ part after left now
      by_stop None none =
          ap (λ n. part_from w t n after now) none ∙ ap (λ n. part after n now) (sym none)
      by_stop (Some reason) stops =
          part-stops w t left after now reason (stop-over after now reason stops w sees)

  -- what is said of a run over pages that keep the words is said of the thread
  pub ran-over : (a : MemoryAnswers (List Written)) → a ≡ places_answers
      → (r after : Registers) (words began now end : List Written) → began ≡ words → end ≡ now
      → (budget left floor : ℕ) (stop : Option Reason) → left ≤ budget
      → GoesTo a (budget - left) r began after end
      → MatchOption stop (left ≡ floor)
      (λ reason. (0 < left) × (one_in a after end ≡ Err reason))
      → RanOver s entries t r after words now budget left floor stop
  ran-over a same r after words began now end words_are now_are budget left floor stop within ran
      stops = record {
        within = within;
        ran = run-over (budget - left) r after words now
            (ap (λ (x : MemoryAnswers (List Written)). after_in x (budget - left) r words)
            (sym same)
            ∙ ap (after_in a (budget - left) r) (sym words_are) ∙ ran ∙ ap ended now_are);
        stops = by_stop stop stops;
      }
    where
      ended : List Written → Option (Registers × List Written)
      ended x = Some (after, x)

      by_stop : (stop : Option Reason)
          → MatchOption stop (left ≡ floor)
          (λ reason. (0 < left) × (one_in a after end ≡ Err reason))
          → MatchOption stop (left ≡ floor) (λ reason. (0 < left)
          × ((w : World) → SeesFrames s entries t w
          → one_in (buffer_answers w t) after now ≡ Err reason))
      by_stop None none = none
      by_stop (Some reason) why = (
        why.0,
        stop-over after now reason
            (ap (λ (x : MemoryAnswers (List Written)). one_in x after now) (sym same)
            ∙ ap (one_in a after) (sym now_are) ∙ why.1),
      )
