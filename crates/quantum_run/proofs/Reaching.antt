-- What the memory of a thread that runs answers to an access, by the frame that is found for it.
use Rattle.std.specs.Borrow.{GName}
use Rattle.std.proofs.Common.{ℕ, ◌+◌, ◌*◌, ◌%◌, ◌^◌, ◌≡◌, refl, sym, ap, ◌∙◌, subst, Bool, true}
use Rattle.std.proofs.Common.{false}
use Rattle.std.proofs.Common.{cond, eqb, eq-eqb, ne_eqb, List, [], ◌∷◌, ◌≢◌, take, drop, Option}
use Rattle.std.proofs.Common.{Result, Ok, Err, arith}
use Rattle.dos_world.specs.Reach.{bytes_of, number_of, width}
use Rattle.dos_world.specs.declared.Access.{Access}
use Rattle.dos_world.specs.declared.Access.TheVariants.{Fetch, Store, Claim}
use Rattle.dos_world.specs.declared.Reason.{Reason}
use Rattle.dos_world.specs.declared.Reason.TheVariants.{Page}
use Rattle.dos_world.specs.declared.Size.{Size}
use Rattle.dos_world.specs.declared.Size.TheVariants.{Half, Word}
use Rattle.page_store.specs.Store.{number_at}
use Rattle.flat_machine.specs.Over.{MemoryAnswers}
use Rattle.flat_machine.specs.Step.{◌>>=◌}
use Rattle.rv_exec.specs.Follows.{word_in}
use Rattle.quantum_run.specs.Answering.{Places, Still, frame_found, left_or_page, run_answers}
use Rattle.quantum_run.specs.Answering.{word_or_page}
use Rattle.quantum_run.specs.Finding.{frame_for, flat_place}
use Rattle.quantum_run.proofs.Places.{sized}
use Rattle.page_store.specs.declared.compared.Slot.{Slot}
use Rattle.quantum_run.specs.Knowing.{AreRight, KeepsRight}
use Rattle.quantum_run.specs.Showing.{ShowsBy, ShowsKnown}

-- ---- what a memory shows

-- what holds of the memory as it is holds of what it shows
pub as-shown : {F M : Type 0} (places : F → Places M) (now : Still) (fixed : F) (state : M)
    (f : Still × F) (m : M) (C : MemoryAnswers M → M → Type 0) → ShowsBy now fixed state f m
    → C (run_answers now (places fixed)) state → C (run_answers f.0 (places f.1)) m
as-shown {F} {M} places now fixed state f m C s c =
    subst (λ (u : M). C (run_answers f.0 (places f.1)) u) s.state_is
    (subst (λ (x : F). C (run_answers f.0 (places x)) state) s.fixed_is
    (subst (λ (x : Still). C (run_answers x (places fixed)) state) s.still c))

-- a memory shows what it showed where nothing but what was found last is another
pub shows-stays : {P F M : Type 0} (fixed : P → F) (state : P → M) (p q : P)
    (name left_name : GName) (old new : Still) (f : Still × (F × GName)) (m : M) → new ≡ old
    → q ≡ p → left_name ≡ name
    → ShowsBy old (fixed p, name) (state p) f m → ShowsBy new (fixed q, left_name) (state q) f m
shows-stays fixed state p q name left_name old new f m same is named s = record {
  still = same ∙ s.still;
  fixed_is = ap (λ x. (fixed x, left_name)) is ∙ ap (λ x. (fixed p, x)) named ∙ s.fixed_is;
  state_is = ap state is ∙ s.state_is;
}

pub shows-known : {P F M : Type 0} (fixed : P → F) (state : P → M)
    (pages : P → List (Option (List ℕ))) (p q : P) (name left_name : GName) (old new : Still)
    (slots left : List Slot) (compared left_compared : List Bool)
    (f : (Still × (F × GName)) × List (Option (List ℕ))) (m : M) → new ≡ old → q ≡ p
    → left_name ≡ name → KeepsRight slots compared (pages p) left left_compared (pages q)
    → ShowsKnown old (fixed p, name) (state p) (pages p) slots compared f m
    → ShowsKnown new (fixed q, left_name) (state q) (pages q) left left_compared f m
shows-known fixed state pages p q name left_name old new slots left compared left_compared f m same
    is named right s = record {
      shows = shows-stays fixed state p q name left_name old new f.0 m same is named s.shows;
      right = right f.1 s.right;
    }

-- and a memory with pages of code of which more is known
pub shows-learnt : {P F M : Type 0} (fixed : P → F) (state : P → M)
    (pages : P → List (Option (List ℕ))) (p q : P) (name left_name : GName) (old new : Still)
    (slots left : List Slot) (compared left_compared : List Bool) (f : Still × (F × GName))
    (known more : List (Option (List ℕ))) (m : M) → new ≡ old → q ≡ p → left_name ≡ name
    → (AreRight slots compared (pages p) known → AreRight left left_compared (pages q) more)
    → ShowsKnown old (fixed p, name) (state p) (pages p) slots compared (f, known) m
    → ShowsKnown new (fixed q, left_name) (state q) (pages q) left left_compared (f, more) m
shows-learnt fixed state pages p q name left_name old new slots left compared left_compared f known
    more m same is named right s = record {
      shows = shows-stays fixed state p q name left_name old new f m same is named s.shows;
      right = right s.right;
    }

-- ---- reading

module _ {M : Type 0} (s : Still) (places : Places M) (m : M) (a : ℕ) (size : Size)
    (access : Access) where
  -- what is read by the frame that is found
  abbrev read_by : Result ℕ Reason → Result ℕ Reason
  read_by found = found >>= λ frame. Ok (number_at (places.bytes m) (flat_place frame a) size)

  -- the number that is read where an access finds this frame
  pub read-found : (bytes : List ℕ) (frame number : ℕ) → places.bytes m ≡ bytes
      → Ok frame ≡ frame_found s access size a → number ≡ number_at bytes (flat_place frame a) size
      → Ok number ≡ read_by (frame_found s access size a)
  read-found bytes frame number are found is =
      ap Ok (is ∙ ap (λ (xs : List ℕ). number_at xs (flat_place frame a) size) (sym are))
      ∙ ap read_by found

  -- why nothing is read
  pub read-refused : (reason : Reason) → Err reason ≡ frame_found s access size a
      → Err reason ≡ read_by (frame_found s access size a)
  read-refused reason found = ap read_by found

  -- an aligned access finds what any would
  pub aligned-frame : (frame : ℕ) → a % width size ≡ 0
      → frame_for s.thread s.owners s.entries access a ≡ Ok frame
      → Ok frame ≡ frame_found s access size a
  aligned-frame frame aligned found =
      sym (sized s.thread s.owners s.entries access size a aligned ∙ found)

-- ---- storing

module _ {M : Type 0} (s : Still) (places : Places M) (m : M) (a : ℕ) (size : Size)
    (value : ℕ) where
  abbrev store_by : Result ℕ Reason → Result M Reason
  store_by found = found
      >>= λ frame. left_or_page a (places.write m (flat_place frame a) (bytes_of (width size)
      value))

  -- what a store leaves where it finds this frame
  pub stored-found : (frame : ℕ) (left : Option M) → Ok frame ≡ frame_found s Store size a
      → places.write m (flat_place frame a) (bytes_of (width size) value) ≡ left
      → (run_answers s places).store m a size value ≡ left_or_page a left
  stored-found frame left found is = ap store_by (sym found) ∙ ap (left_or_page a) is

  pub stored-refused : (reason : Reason) → Err reason ≡ frame_found s Store size a
      → (run_answers s places).store m a size value ≡ Err reason
  stored-refused reason found = ap store_by (sym found)

-- ---- claiming

module _ {M : Type 0} (s : Still) (places : Places M) (m : M) (a : ℕ) where
  abbrev claim_by : Result ℕ Reason → Result ℕ Reason
  claim_by found = found
      >>= λ frame. word_or_page a places.claims (number_at (places.bytes m) (flat_place frame a)
      Word)

  -- the word that is claimed, where one can be
  pub claim-found : (bytes : List ℕ) (frame number : ℕ) → places.bytes m ≡ bytes
      → Ok frame ≡ frame_found s Claim Word a → true ≡ places.claims
      → number ≡ number_at bytes (flat_place frame a) Word
      → Ok number ≡ (run_answers s places).claim m a
  claim-found bytes frame number are found can is =
      ap Ok (is ∙ ap (λ (xs : List ℕ). number_at xs (flat_place frame a) Word) (sym are))
      ∙ ap (λ b. word_or_page a b (number_at (places.bytes m) (flat_place frame a) Word)) can
      ∙ ap claim_by found

  pub claim-stopped : (frame : ℕ) → Ok frame ≡ frame_found s Claim Word a → false ≡ places.claims
      → Err (Page a Claim) ≡ (run_answers s places).claim m a
  claim-stopped frame found can =
      ap (λ b. word_or_page a b (number_at (places.bytes m) (flat_place frame a) Word)) can
      ∙ ap claim_by found

  pub claim-refused : (reason : Reason) → Err reason ≡ frame_found s Claim Word a
      → Err reason ≡ (run_answers s places).claim m a
  claim-refused reason found = ap claim_by found

-- ---- the word at pc

module _ {M : Type 0} (answers : MemoryAnswers M) (m : M) where
  abbrev second_of : ℕ → ℕ → Result ℕ Reason
  second_of a low = answers.fetch m ((a + 2) % 2 ^ 32) >>= λ high. Ok (low + 2 ^ 16 * high)

  abbrev by_first : ℕ → ℕ → Result ℕ Reason
  by_first a low = cond (eqb (low % 4) 3) (second_of a low) (Ok low)

  pub word-both : (a low high : ℕ) → answers.fetch m a ≡ Ok low → low % 4 ≡ 3
      → answers.fetch m ((a + 2) % 2 ^ 32) ≡ Ok high
      → word_in answers m a ≡ Ok (low + 2 ^ 16 * high)
  word-both a low high first is second =
      ap (λ (x : Result ℕ Reason). x >>= by_first a) first
      ∙ ap (λ b. cond b (second_of a low) (Ok low)) (eq-eqb (low % 4) 3 is)
      ∙ ap (λ (x : Result ℕ Reason). x >>= λ up. Ok (low + 2 ^ 16 * up)) second

  pub word-alone : (a low : ℕ) → answers.fetch m a ≡ Ok low → low % 4 ≢ 3
      → word_in answers m a ≡ Ok low
  word-alone a low first other =
      ap (λ (x : Result ℕ Reason). x >>= by_first a) first
      ∙ ap (λ b. cond b (second_of a low) (Ok low)) (ne_eqb (low % 4) 3 other)

-- four bytes are two and two
pub number-four : (xs : List ℕ)
    → number_of (take 4 xs) ≡ number_of (take 2 xs) + 2 ^ 16 * number_of (take 2 (drop 2 xs))
number-four [] = refl
number-four (a ∷ []) = omega arith
number-four (a ∷ b ∷ xs) = omega arith

pub half-found : {M : Type 0} (s : Still) (places : Places M) (m : M) (bytes : List ℕ)
    (a frame number : ℕ) → places.bytes m ≡ bytes → a % 2 ≡ 0
    → frame_for s.thread s.owners s.entries Fetch a ≡ Ok frame
    → number ≡ number_at bytes (flat_place frame a) Half
    → (run_answers s places).fetch m a ≡ Ok number
half-found s places m bytes a frame number are even found is =
    sym (read-found s places m a Half Fetch bytes frame number are
    (aligned-frame s places m a Half Fetch frame even found) is)
