-- A run over the flat bytes is the thread's run in the flat world.
use Rattle.std.proofs.Common.{ℕ, zero, suc, ◌+◌, ◌-◌, ◌*◌, ◌/◌, ◌%◌, ◌^◌, ◌≤◌, ◌≡◌, refl, sym}
use Rattle.std.proofs.Common.{ap, ◌∙◌, subst, cond, not, eqb, Bool, true, false, List, [], ◌∷◌}
use Rattle.std.proofs.Common.{Option, Some, None, option_map, Result, Ok, Err, arith}
use Rattle.std.specs.Prelude.{◌==◌, slice_index_or}
use Rattle.dos_world.specs.Numbered.{changed, changed_at}
use Rattle.dos_world.specs.Reach.{at, bytes_of, fault, foreign, has_right, in_frame, is_foreign}
use Rattle.dos_world.specs.Reach.{loaded, stored, width}
use Rattle.dos_world.specs.World.{World, Thread, Registers, entry_at, look, owner_of, ran}
use Rattle.dos_world.specs.World.{thread_at}
use Rattle.dos_world.specs.World.{with_thread}
use Rattle.dos_world.specs.declared.Access.{Access}
use Rattle.dos_world.specs.declared.Access.TheVariants.{Fetch, Load, Store, Claim}
use Rattle.dos_world.specs.declared.Entry.{Entry}
use Rattle.dos_world.specs.declared.Owner.{Owner}
use Rattle.dos_world.specs.declared.Owner.TheVariants.{Free}
use Rattle.dos_world.specs.declared.Reason.{Reason}
use Rattle.dos_world.specs.declared.Reason.TheVariants.{Fault, Page}
use Rattle.dos_world.specs.declared.Size.{Size}
use Rattle.dos_world.specs.declared.Size.TheVariants.{Half, Word}
use Rattle.rv_isa.specs.declared.Instr.{Instr}
use Rattle.page_store.specs.Store.{Store as Frames, joined}
use Rattle.flat_machine.specs.Blind.{entry_at-with_thread}
use Rattle.flat_machine.specs.Effect.{Effect, goes, loads, stores, claims, stops, effect}
use Rattle.flat_machine.specs.Laws.{after_steps, kept, pays}
use Rattle.flat_machine.specs.Over.{effect_in, instruction_in, one_in, store_if, world_answers}
use Rattle.flat_machine.specs.Step.{◌>>=◌, half_at, lone_half, paid_by, place_or_reason, reached}
use Rattle.flat_machine.specs.Step.{step}
use Rattle.flat_machine.specs.Step.{store_at, whole_word}
use Rattle.flat_machine.proofs.OverWorld.{step-in}
use Rattle.flat_machine.proofs.Threads.{of_kept, ran-same, seen-changed}
use Rattle.rv_exec.specs.Runs.{GoesTo, after_in}
use Rattle.quantum_run.specs.Answering.{Still, flat_places, frame_found, left_or_page, run_answers}
use Rattle.quantum_run.specs.Answering.{still, word_or_page}
use Rattle.quantum_run.specs.Finding.{flat_place, frame_by, frame_for}
use Rattle.quantum_run.specs.Shows.{thread_space}
use Rattle.quantum_run.specs.ThreadRuns.{AreElsewhere, IsElsewhere, IsRunOf, StartsElsewhere}
use Rattle.quantum_run.specs.ThreadRuns.{is_stop_at, run_to}
use Rattle.quantum_run.proofs.RunSteps.{Some-both}
use Rattle.quantum_run.proofs.Spaces.{entry-space}

-- ---- what an access reaches

-- t has these entries in w, and what is foreign to it there is what is foreign to the thread that
-- runs
record Holds (s : Still) (t : ℕ) (w : World) : Type 0 where
  pub entry : (address : ℕ) → entry_at w t address ≡ look s.entries (address / 4096)
  pub foreign_is : (access : Access) (frame : ℕ)
      → is_foreign t access (owner_of w frame)
      ≡ is_foreign s.thread access (slice_index_or s.owners frame Free)

-- an access reaches its place in the frame that is found for it
reached-frame : (s : Still) (t : ℕ) (w : World) → Holds s t w → (a : ℕ) (size : Size)
    (access : Access) → reached w t a size access
    ≡ (frame_found s access size a >>= λ frame. Ok (flat_place frame a))
reached-frame s t w holds a size access = by_aligned (a % width size == 0)
  where
    by_test : (right foreign_to : Bool) (frame : ℕ)
        → place_or_reason a access
        (cond (not right) (fault 11)
        (cond foreign_to (foreign frame) (at (4096 * frame + a % 4096))))
        ≡ (cond (not right) (Err (Fault 11)) (cond foreign_to (Err (Page a access)) (Ok frame))
        >>= λ frame. Ok (flat_place frame a))
    by_test false foreign_to frame = refl
    by_test true true frame = refl
    by_test true false frame = refl

    by_entry : (o : Option Entry)
        → place_or_reason a access (in_frame w t a access o)
        ≡ ((elim o as (λ _. Result ℕ Reason) [
          | None ↦ Err (Fault 11)
          | Some e ↦ frame_by s.thread s.owners access a e
        ])
        >>= λ frame. Ok (flat_place frame a))
    by_entry None = refl
    by_entry (Some e) =
        ap (λ b. place_or_reason a access
        (cond (not (has_right access e)) (fault 11)
        (cond b (foreign e.frame) (at (4096 * e.frame + a % 4096)))))
        (holds.foreign_is access e.frame)
        ∙ by_test (has_right access e)
        (is_foreign s.thread access (slice_index_or s.owners e.frame Free)) e.frame

    by_aligned : (b : Bool)
        → place_or_reason a access (cond (not b) (fault 7) (in_frame w t a access (entry_at w t a)))
        ≡ (cond (not b) (Err (Fault 7)) (frame_for s.thread s.owners s.entries access a)
        >>= λ frame. Ok (flat_place frame a))
    by_aligned false = refl
    by_aligned true =
        ap (λ x. place_or_reason a access (in_frame w t a access x)) (holds.entry a)
        ∙ by_entry (look s.entries (a / 4096))

-- ---- one instruction, registers beside the world

module _ (s : Still) (t : ℕ) (w : World) (holds : Holds s t w) where
  abbrev placed : Result (List ℕ) Reason → Result World Reason
  placed o = o >>= λ bytes. Ok (record w { bytes = bytes })

  abbrev lifted : Result (Registers × List ℕ) Reason → Result (Registers × World) Reason
  lifted o = o >>= λ x. Ok (x.0, record w { bytes = x.1 })

  half-run : (a : ℕ) → half_at w t a ≡ (run_answers s flat_places).fetch w.bytes a
  half-run a =
      ap (λ (o : Result ℕ Reason). o >>= λ place. Ok (loaded w place 2))
      (reached-frame s t w holds a Half Fetch) ∙ by_found (frame_found s Fetch Half a)
    where
      by_found : (o : Result ℕ Reason)
          → ((o >>= λ frame. Ok (flat_place frame a)) >>= λ place. Ok (loaded w place 2))
          ≡ (o >>= λ frame. Ok (loaded w (flat_place frame a) 2))
      by_found (Ok frame) = refl
      by_found (Err reason) = refl

  store-run : (a : ℕ) (size : Size) (value : ℕ) → store_at w t a size value
      ≡ placed ((run_answers s flat_places).store w.bytes a size value)
  store-run a size value =
      ap (λ (o : Result ℕ Reason). o >>= λ place. Ok (stored w place (bytes_of (width size) value)))
      (reached-frame s t w holds a size Store) ∙ by_found (frame_found s Store size a)
    where
      by_found : (o : Result ℕ Reason)
          → ((o >>= λ frame. Ok (flat_place frame a))
          >>= λ place. Ok (stored w place (bytes_of (width size) value)))
          ≡ placed (o >>= λ frame. left_or_page a
          (flat_places.write w.bytes (flat_place frame a) (bytes_of (width size) value)))
      by_found (Ok frame) = refl
      by_found (Err reason) = refl

  store_if-run : (a : ℕ) (o : Option ℕ) → store_if (world_answers t) w a o
      ≡ placed (store_if (run_answers s flat_places) w.bytes a o)
  store_if-run a None = refl
  store_if-run a (Some word) = store-run a Word word

  effect-run : (e : Effect) → effect_in (world_answers t) w e
      ≡ lifted (effect_in (run_answers s flat_places) w.bytes e)
  effect-run (goes r) = refl
  effect-run (loads a size next) =
      ap (λ (o : Result ℕ Reason). (o >>= λ place. Ok (loaded w place (width size)))
      >>= λ n. Ok (next n, w)) (reached-frame s t w holds a size Load)
      ∙ by_found (frame_found s Load size a)
    where
      by_found : (o : Result ℕ Reason)
          → (((o >>= λ frame. Ok (flat_place frame a)) >>= λ place. Ok
          (loaded w place (width size)))
          >>= λ n. Ok (next n, w))
          ≡ lifted ((o >>= λ frame. Ok (loaded w (flat_place frame a) (width size)))
          >>= λ n. Ok (next n, w.bytes))
      by_found (Ok frame) = refl
      by_found (Err reason) = refl
  effect-run (stores a size value r) =
      ap (λ (o : Result World Reason). o >>= λ after. Ok (r, after)) (store-run a size value)
      ∙ by_stored ((run_answers s flat_places).store w.bytes a size value)
    where
      by_stored : (o : Result (List ℕ) Reason)
          → (placed o >>= λ after. Ok (r, after)) ≡ lifted (o >>= λ after. Ok (r, after))
      by_stored (Ok bytes) = refl
      by_stored (Err reason) = refl
  effect-run (claims a next new) =
      ap (λ (o : Result ℕ Reason). (o >>= λ place. Ok (loaded w place 4))
      >>= λ old. (store_if (world_answers t) w a (new old) >>= λ after. Ok (next old, after)))
      (reached-frame s t w holds a Word Claim) ∙ by_found (frame_found s Claim Word a)
    where
      by_stored : (old : ℕ) (o : Result (List ℕ) Reason)
          → (placed o >>= λ after. Ok (next old, after))
          ≡ lifted (o >>= λ after. Ok (next old, after))
      by_stored old (Ok bytes) = refl
      by_stored old (Err reason) = refl

      by_found : (o : Result ℕ Reason)
          → (((o >>= λ frame. Ok (flat_place frame a)) >>= λ place. Ok (loaded w place 4))
          >>= λ old. (store_if (world_answers t) w a (new old) >>= λ after. Ok (next old, after)))
          ≡ lifted ((o >>= λ frame. word_or_page a flat_places.claims
          (loaded w (flat_place frame a) 4))
          >>= λ old. (store_if (run_answers s flat_places) w.bytes a (new old)
          >>= λ after. Ok (next old, after)))
      by_found (Ok frame) =
          let old = loaded w (flat_place frame a) 4 in
          ap (λ (o : Result World Reason). o >>= λ after. Ok (next old, after))
          (store_if-run a (new old))
          ∙ by_stored old (store_if (run_answers s flat_places) w.bytes a (new old))
      by_found (Err reason) = refl
  effect-run (stops reason) = refl

  instruction-run : (pc : ℕ) → instruction_in (world_answers t) w pc
      ≡ instruction_in (run_answers s flat_places) w.bytes pc
  instruction-run pc =
      ap (λ (o : Result ℕ Reason). o >>= λ low. cond (eqb (low % 4) 3)
      (half_at w t ((pc + 2) % 2 ^ 32) >>= λ high. Ok (whole_word low high)) (Ok (lone_half low)))
      (half-run pc)
      ∙ ap (λ (o : Result ℕ Reason). (run_answers s flat_places).fetch w.bytes pc
      >>= λ low. cond (eqb (low % 4) 3) (o >>= λ high. Ok (whole_word low high))
      (Ok (lone_half low)))
      (half-run ((pc + 2) % 2 ^ 32))

  one-run : (r : Registers) → one_in (world_answers t) r w
      ≡ lifted (one_in (run_answers s flat_places) r w.bytes)
  one-run r =
      ap (λ (o : Result (Option Instr × ℕ) Reason). o >>= done) (instruction-run r.pc)
      ∙ by_found (instruction_in (run_answers s flat_places) w.bytes r.pc)
    where
      done : Option Instr × ℕ → Result (Registers × World) Reason
      done f = elim f.0 as (λ _. Result (Registers × World) Reason) [
        | None ↦ Err (Fault 4)
        | Some instr ↦ effect_in (world_answers t) w (effect instr f.1 r)
      ]

      done_over : Option Instr × ℕ → Result (Registers × List ℕ) Reason
      done_over f = elim f.0 as (λ _. Result (Registers × List ℕ) Reason) [
        | None ↦ Err (Fault 4)
        | Some instr ↦ effect_in (run_answers s flat_places) w.bytes (effect instr f.1 r)
      ]

      by_instr : (o : Option Instr) (size : ℕ) → done (o, size) ≡ lifted (done_over (o, size))
      by_instr None size = refl
      by_instr (Some instr) size = effect-run (effect instr size r)

      by_found : (o : Result (Option Instr × ℕ) Reason) → (o >>= done) ≡ lifted (o >>= done_over)
      by_found (Ok f) = by_instr f.0 f.1
      by_found (Err reason) = refl

-- ---- instructions one after another, in a world in which t lives

-- two changes of a thread are one
changed-both : (f g h : Thread → Thread) → ((x : Thread) → g (f x) ≡ h x)
    → (ts : List (Option Thread)) (t : ℕ)
    → changed (option_map g) (changed (option_map f) ts t) t ≡ changed (option_map h) ts t
changed-both f g h same ts zero = refl
changed-both f g h same ts (suc i) = go ts i
  where
    go : (ts : List (Option Thread)) (i : ℕ)
        → changed_at (option_map g) (changed_at (option_map f) ts i) i
        ≡ changed_at (option_map h) ts i
    go [] i = refl
    go (None ∷ ts) zero = refl
    go (Some x ∷ ts) zero = ap (λ y. Some y ∷ ts) (same x)
    go (x ∷ ts) (suc i) = ap (λ ys. x ∷ ys) (go ts i)

module _ (w : World) (t : ℕ) (owners : List Owner) (entries : List (ℕ × Entry)) (th : Thread)
    (lives : thread_at w t ≡ Some th) (owners_are : w.owners ≡ owners)
    (space : thread_space w t ≡ entries) where
  -- the world with these bytes, in which t has these registers and this budget
  abbrev at_bytes : List ℕ → Registers → ℕ → World
  at_bytes bytes r b = record (with_thread w t (ran r b)) { bytes = bytes }

  abbrev s : Still
  s = still t owners entries

  holds-at : (bytes : List ℕ) (r : Registers) (b : ℕ) → Holds s t (at_bytes bytes r b)
  holds-at bytes r b = record {
    entry = λ address. entry_at-with_thread w t (ran r b) (λ x. refl) address
        ∙ entry-space w t address ∙ ap (λ es. look es (address / 4096)) space;
    foreign_is = λ access frame. ap (λ (os : List Owner).
        is_foreign t access (slice_index_or os frame Free)) owners_are;
  }

  kept-at : (bytes : List ℕ) (r : Registers) (b : ℕ)
      → option_map kept (thread_at (at_bytes bytes r b) t) ≡ Some (r, b)
  kept-at bytes r b =
      seen-changed kept (ran r b) w.threads t ∙ ap (option_map (λ x. kept (ran r b x))) lives

  step-run : (bytes : List ℕ) (r : Registers) (b : ℕ) → step (at_bytes bytes r b) t
      ≡ (one_in (run_answers s flat_places) r bytes >>= λ x. Ok (at_bytes x.1 x.0 (b - 1)))
  step-run bytes r b =
      let u : World = at_bytes bytes r b in
      let k = of_kept (thread_at u t) r b (kept-at bytes r b) in
      step-in u t k.0 k.1
      ∙ ap (λ (x : Registers). one_in (world_answers t) x u >>= pays t) k.2
      ∙ ap (λ (o : Result (Registers × World) Reason). o >>= pays t)
      (one-run s t u (holds-at bytes r b) r)
      ∙ by_one (one_in (run_answers s flat_places) r bytes)
    where
      by_one : (o : Result (Registers × List ℕ) Reason)
          → ((o >>= λ x. Ok (x.0, record (at_bytes bytes r b) { bytes = x.1 })) >>= pays t)
          ≡ (o >>= λ x. Ok (at_bytes x.1 x.0 (b - 1)))
      by_one (Ok x) =
          ap (λ (ts : List (Option Thread)). Ok (record w { threads = ts; bytes = x.1 }))
          (changed-both (ran r b) (paid_by x.0) (ran x.0 (b - 1)) (λ y. refl) w.threads t)
      by_one (Err reason) = refl

  runs-flat : (n : ℕ) (bytes : List ℕ) (r : Registers) (b : ℕ) (after : Registers)
      (now : List ℕ) → n ≤ b → GoesTo (run_answers s flat_places) n r bytes after now
      → after_steps n (at_bytes bytes r b) t ≡ Some (at_bytes now after (b - n))
  runs-flat zero bytes r b after now few h =
      let none : b ≡ b - 0 = omega arith in
      ap (λ (x : Registers × List ℕ). Some (at_bytes x.1 x.0 b))
      (Some-both (run_answers s flat_places) h)
      ∙ ap (λ k. Some (at_bytes now after k)) none
  runs-flat (suc n) bytes r b after now few h =
      by_one (λ x q. runs-flat n x.1 x.0 (b - 1) after now (omega (arith, few)) q)
      (one_in (run_answers s flat_places) r bytes) refl h
    where
      rest_over : Result (Registers × List ℕ) Reason → Option (Registers × List ℕ)
      rest_over o = elim o as (λ _. Option (Registers × List ℕ)) [
        | Ok next ↦ after_in (run_answers s flat_places) n next.0 next.1
        | Err reason ↦ None
      ]

      rest : Result World Reason → Option World
      rest o = elim o as (λ _. Option World) [
        | Ok next ↦ after_steps n next t
        | Err reason ↦ None
      ]

      by_one : ((x : Registers × List ℕ)
          → after_in (run_answers s flat_places) n x.0 x.1 ≡ Some (after, now)
          → after_steps n (at_bytes x.1 x.0 (b - 1)) t ≡ Some (at_bytes now after (b - 1 - n)))
          → (o : Result (Registers × List ℕ) Reason)
          → one_in (run_answers s flat_places) r bytes ≡ o → rest_over o ≡ Some (after, now)
          → after_steps (suc n) (at_bytes bytes r b) t ≡ Some (at_bytes now after (b - suc n))
      by_one later (Ok x) is q =
          let less : b - 1 - n ≡ b - suc n = omega arith in
          ap rest (step-run bytes r b
          ∙ ap (λ (o : Result (Registers × List ℕ) Reason).
          o >>= λ x. Ok (at_bytes x.1 x.0 (b - 1))) is)
          ∙ later x q ∙ ap (λ k. Some (at_bytes now after k)) less
      by_one later (Err reason) is q = cc

  -- and where the run of the world comes to, that over the bytes does
  gone-flat : (n : ℕ) (bytes : List ℕ) (r : Registers) (b : ℕ) (u : World) → n ≤ b
      → after_steps n (at_bytes bytes r b) t ≡ Some u
      → (x : Registers × List ℕ) × GoesTo (run_answers s flat_places) n r bytes x.0 x.1
      × (at_bytes x.1 x.0 (b - n) ≡ u)
  gone-flat zero bytes r b u few h =
      let none : b - 0 ≡ b = omega arith in (
        (r, bytes),
        refl,
        ap (λ k. at_bytes bytes r k) none ∙ Some-world h,
      )
    where
      Some-world : {x y : World} → ◌≡◌ {A = Option World} (Some x) (Some y) → x ≡ y
      Some-world q = cc
  gone-flat (suc n) bytes r b u few h =
      by_one (λ x q. gone-flat n x.1 x.0 (b - 1) u (omega (arith, few)) q)
      (one_in (run_answers s flat_places) r bytes) refl
      (sym (ap rest (step-run bytes r b)) ∙ h)
    where
      rest : Result World Reason → Option World
      rest o = elim o as (λ _. Option World) [
        | Ok next ↦ after_steps n next t
        | Err reason ↦ None
      ]

      rest_over : Result (Registers × List ℕ) Reason → Option (Registers × List ℕ)
      rest_over o = elim o as (λ _. Option (Registers × List ℕ)) [
        | Ok next ↦ after_in (run_answers s flat_places) n next.0 next.1
        | Err reason ↦ None
      ]

      by_one : ((x : Registers × List ℕ)
          → after_steps n (at_bytes x.1 x.0 (b - 1)) t ≡ Some u
          → (y : Registers × List ℕ)
          × GoesTo (run_answers s flat_places) n x.0 x.1 y.0 y.1
          × (at_bytes y.1 y.0 (b - 1 - n) ≡ u))
          → (o : Result (Registers × List ℕ) Reason)
          → one_in (run_answers s flat_places) r bytes ≡ o
          → rest (o >>= λ x. Ok (at_bytes x.1 x.0 (b - 1))) ≡ Some u
          → (y : Registers × List ℕ)
          × GoesTo (run_answers s flat_places) (suc n) r bytes y.0 y.1
          × (at_bytes y.1 y.0 (b - suc n) ≡ u)
      by_one later (Ok x) is q =
          let y = later x q in
          let less : b - suc n ≡ b - 1 - n = omega arith in
          (y.0, ap rest_over is ∙ y.1, ap (λ k. at_bytes y.0.1 y.0.0 k) less ∙ y.2)
      by_one later (Err reason) is q = cc

-- ---- from a world that frames and a space are a run of

module _ (t : ℕ) (f : Frames) (entries : List (ℕ × Entry)) (left_pages : List (Option (List ℕ)))
    (r r' : Registers) (budget left : ℕ) where
  -- it is the world with the bytes of the pages, in which t is as it is
  here : (w : World) → IsRunOf w f entries t r budget → run_to w t f.pages r budget ≡ w
  here w run =
      ap (λ (v : World). record v { bytes = joined f.pages }) (ran-same w t r budget run.thread)
      ∙ ap (λ (bytes : List ℕ). record w { bytes = bytes }) (sym run.bytes)

  pub run-ends : left ≤ budget
      → GoesTo (run_answers (still t f.owners entries) flat_places) (budget - left) r
      (joined f.pages) r' (joined left_pages)
      → (w : World) → IsRunOf w f entries t r budget
      → after_steps (budget - left) w t ≡ Some (run_to w t left_pages r' left)
  run-ends within runs w run =
      let k = of_kept (thread_at w t) r budget run.thread in
      let rest : budget - (budget - left) ≡ left = omega (arith, within) in
      ap (λ (v : World). after_steps (budget - left) v t) (sym (here w run))
      ∙ runs-flat w t f.owners entries k.0 k.1 run.owners run.space (budget - left) (joined f.pages)
      r budget r' (joined left_pages) (omega arith) runs
      ∙ ap (λ n. Some (run_to w t left_pages r' n)) rest

  pub run-stops : (reason : Reason)
      → one_in (run_answers (still t f.owners entries) flat_places) r' (joined left_pages)
      ≡ Err reason
      → (w : World) → IsRunOf w f entries t r budget
      → step (run_to w t left_pages r' left) t ≡ Err reason
  run-stops reason stopped w run =
      let k = of_kept (thread_at w t) r budget run.thread in
      step-run w t f.owners entries k.0 k.1 run.owners run.space (joined left_pages) r' left
      ∙ ap (λ (o : Result (Registers × List ℕ) Reason). o >>= λ x. Ok (after_one x.1 x.0)) stopped
    where
      after_one : List ℕ → Registers → World
      after_one bytes regs = record (with_thread w t (ran regs (left - 1))) { bytes = bytes }

  -- t is where its registers are
  pub run-elsewhere : (halts : List ℕ)
      → AreElsewhere (run_answers (still t f.owners entries) flat_places) halts (budget - left) r
      (joined f.pages)
      → (w : World) → IsRunOf w f entries t r budget → StartsElsewhere halts (budget - left) w t
  run-elsewhere halts elsewhere w run made u less is =
      let k = of_kept (thread_at w t) r budget run.thread in
      let x = gone-flat w t f.owners entries k.0 k.1 run.owners run.space made (joined f.pages) r
      budget u (omega (arith, less))
      (ap (λ (v : World). after_steps made v t) (here w run) ∙ is) in
      subst (λ (v : World). IsElsewhere halts (thread_at v t)) x.2
      (at-pc (thread_at (record (with_thread w t (ran x.0.0 (budget - made))) { bytes = x.0.1 }) t)
      x.0.0 (budget - made)
      (kept-at w t f.owners entries k.0 k.1 run.owners run.space x.0.1 x.0.0 (budget - made))
      (elsewhere made x.0.0 x.0.1 less x.1))
    where
      -- who has these registers is elsewhere, where their pc is
      at-pc : (o : Option Thread) (regs : Registers) (b : ℕ) → option_map kept o ≡ Some (regs, b)
          → is_stop_at halts regs.pc ≡ false → IsElsewhere halts o
      at-pc None regs b q apart = tt
      at-pc (Some y) regs b q apart =
          ap (λ (p : Registers × ℕ). is_stop_at halts p.0.pc) (Some-kept (kept y) (regs, b) q)
          ∙ apart
        where
          Some-kept : (p q : Registers × ℕ) → ◌≡◌ {A = Option (Registers × ℕ)} (Some p) (Some q)
              → p ≡ q
          Some-kept p q same = cc

-- what is elsewhere is elsewhere by other names
pub same-elsewhere : (t t' : ℕ) (owners owners' : List Owner) (entries entries' : List (ℕ × Entry))
    (bytes bytes' : List ℕ) (halts : List ℕ) (count : ℕ) (r : Registers) → t' ≡ t
    → owners' ≡ owners → entries' ≡ entries → bytes' ≡ bytes
    → AreElsewhere (run_answers (still t' owners' entries') flat_places) halts count r bytes'
    → AreElsewhere (run_answers (still t owners entries) flat_places) halts count r bytes
same-elsewhere t t' owners owners' entries entries' bytes bytes' halts count r a b c d elsewhere =
    subst (λ (x : ℕ). AreElsewhere (run_answers (still x owners entries) flat_places) halts count r
    bytes) a
    (subst (λ (x : List Owner). AreElsewhere (run_answers (still t' x entries) flat_places) halts
    count r bytes) b
    (subst (λ (x : List (ℕ × Entry)). AreElsewhere (run_answers (still t' owners' x) flat_places)
    halts count r bytes) c
    (subst (λ (x : List ℕ). AreElsewhere (run_answers (still t' owners' entries') flat_places) halts
    count r x) d elsewhere)))
