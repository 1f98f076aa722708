-- A frame that its thread may not write: what the thread does all the same, it does also where it
-- may, and the frame's bytes stay.
use Rattle.std.proofs.Common.{ℕ, zero, suc, ◌+◌, ◌%◌, ◌^◌, ◌*◌, ◌<◌, ◌≡◌, ◌≢◌}
use Rattle.std.proofs.Common.{refl, sym, ap, ◌∙◌, subst, Bool, cond, true, false, not, eqb}
use Rattle.std.proofs.Common.{eq-eqb, List, [], ◌∷◌, length, length-set, get_or-set_same, Option}
use Rattle.std.proofs.Common.{Some, None, Result, Ok, arith}
use Rattle.std.specs.Prelude.{slice_set, slice_index_or}
use Rattle.std.proofs.lemmas.List.Elements.{All-cons}
use Rattle.dos_world.specs.World.{World, Thread, Registers, entry_at, owner_of, thread_at, is_free}
use Rattle.dos_world.specs.Reach.{has_right, is_foreign, in_frame, fault, foreign, at, width}
use Rattle.dos_world.specs.Reach.{granted, loaded, stored, bytes_of}
use Rattle.dos_world.specs.declared.Access.{Access}
use Rattle.dos_world.specs.declared.Access.TheVariants.{Fetch, Load, Store, Claim}
use Rattle.dos_world.specs.declared.Entry.{Entry}
use Rattle.dos_world.specs.declared.Owner.{Owner}
use Rattle.dos_world.specs.declared.Owner.TheVariants.{Free, Shared, Of}
use Rattle.dos_world.specs.declared.Reason.{Reason}
use Rattle.dos_world.specs.declared.Size.{Size}
use Rattle.dos_world.specs.declared.Size.TheVariants.{Half, Word}
use Rattle.dos_laws.specs.Standing.{LawfulWith}
use Rattle.dos_laws.specs.Taken.{IsTaken}
use Rattle.dos_laws.proofs.Frames.{thread_given}
use Rattle.dos_laws.proofs.StandsCopies.{stands-grant}
use Rattle.rv_isa.specs.declared.Instr.{Instr}
use Rattle.flat_machine.specs.Effect.{Effect, goes, loads, stores, claims, stops, effect}
use Rattle.flat_machine.specs.Step.{◌>>=◌, step, step_of, step_by, performed, reached, half_at}
use Rattle.flat_machine.specs.Step.{instruction_at, place_or_reason, whole_word, lone_half, paid}
use Rattle.flat_machine.specs.Step.{with_word}
use Rattle.flat_machine.specs.Laws.{LeavesOthers}
use Rattle.flat_machine.proofs.Keeps.{bind_ok, step-keeps}
use Rattle.page_store.specs.Store.{IsOwned, Store as Frames, owner_at, with_grant}
use Rattle.proc_table.specs.Tables.{IsLiveThread}
use Rattle.kernel_calls.specs.StateWorld.{IsSound, sent, world_of}
use Rattle.kernel_calls.specs.declared.state.State.{State}
use Rattle.kernel_calls.proofs.Counted.{counted_like}
use Rattle.group_rounds.proofs.Sound.{sound_then}
use Rattle.group_rounds.proofs.ThreadRunLaws.{seen}
use Rattle.group_walk.specs.Stretches.{KeepsFrame, StepsOn}

-- ---- a list of owners

-- t may do with the frames of the second list whatever it may with those of the first
abbrev pub AllowsMore : ℕ → List Owner → List Owner → Type 0
AllowsMore t less more = (access : Access) (frame : ℕ)
    → is_foreign t access (slice_index_or less frame Free) ≡ false
    → is_foreign t access (slice_index_or more frame Free) ≡ false

-- so it may where a frame of its own was Shared
pub shared_allows : (t : ℕ) (owners : List Owner) (frame : ℕ)
    → slice_index_or owners frame Free ≡ Of t
    → AllowsMore t (slice_set owners frame Shared) owners
shared_allows t [] frame own access other h = h
shared_allows t (x ∷ owners) zero own access zero h =
    ap (is_foreign t access) own ∙ ap not (eq-eqb t t refl)
shared_allows t (x ∷ owners) zero own access (suc other) h = h
shared_allows t (x ∷ owners) (suc frame) own access zero h = h
shared_allows t (x ∷ owners) (suc frame) own access (suc other) h =
    shared_allows t owners frame own access other h

-- an owner that is given back
pub set_back : (owners : List Owner) (frame : ℕ) (x y : Owner)
    → slice_index_or owners frame Free ≡ y
    → slice_set (slice_set owners frame x) frame y ≡ owners
set_back [] frame x y is = refl
set_back (o ∷ owners) zero x y is = ap (λ z. z ∷ owners) (sym is)
set_back (o ∷ owners) (suc frame) x y is = ap (λ os. o ∷ os) (set_back owners frame x y is)

-- a frame with an owner is there
pub owner_within : (owners : List Owner) (frame t : ℕ) → slice_index_or owners frame Free ≡ Of t
    → frame < length owners
owner_within [] frame t own = cc
owner_within (o ∷ owners) zero t own = omega arith
owner_within (o ∷ owners) (suc frame) t own =
    let less = owner_within owners frame t own in omega (arith, less)

-- what is of a thread isn't Free
pub of_is_used : (t : ℕ) (o : Owner) → o ≡ Of t → is_free o ≡ false
of_is_used t o is = ap is_free is

-- ---- a step where more is allowed

-- one thing and then another, where both are done
then_done : {A B : Type 0} (s : Result A Reason) (g : A → Result B Reason) (x : A) (y : B)
    → s ≡ Ok x → g x ≡ Ok y → (s >>= g) ≡ Ok y
then_done s g x y is there = ap (λ r. r >>= g) is ∙ there

module _ (w : World) (t : ℕ) (owners : List Owner) (more : AllowsMore t w.owners owners) where
  -- the same with these owners
  abbrev with_more : World → World
  with_more next = record next { owners = owners }

  reached-more : (a : ℕ) (size : Size) (access : Access) (place : ℕ)
      → reached w t a size access ≡ Ok place → reached (with_more w) t a size access ≡ Ok place
  reached-more a size access place h = by_aligned (not (eqb (a % width size) 0)) h
    where
      by_owner : (e : Entry) (there : Bool)
          → is_foreign t access (owner_of w e.frame) ≡ there
          → place_or_reason a access (cond there (foreign e.frame) (at (4096 * e.frame + a % 4096)))
          ≡ Ok place
          → place_or_reason a access
          (cond (is_foreign t access (owner_of (with_more w) e.frame)) (foreign e.frame)
          (at (4096 * e.frame + a % 4096))) ≡ Ok place
      by_owner e true is q = cc
      by_owner e false is q =
          ap (λ b. place_or_reason a access
          (cond b (foreign e.frame) (at (4096 * e.frame + a % 4096)))) (more access e.frame is) ∙ q

      by_right : (e : Entry) (refused : Bool)
          → place_or_reason a access (cond refused (fault 11)
          (cond (is_foreign t access (owner_of w e.frame)) (foreign e.frame)
          (at (4096 * e.frame + a % 4096)))) ≡ Ok place
          → place_or_reason a access (cond refused (fault 11)
          (cond (is_foreign t access (owner_of (with_more w) e.frame)) (foreign e.frame)
          (at (4096 * e.frame + a % 4096)))) ≡ Ok place
      by_right e true q = q
      by_right e false q = by_owner e (is_foreign t access (owner_of w e.frame)) refl q

      by_entry : (o : Option Entry) → place_or_reason a access (in_frame w t a access o) ≡ Ok place
          → place_or_reason a access (in_frame (with_more w) t a access o) ≡ Ok place
      by_entry None q = q
      by_entry (Some e) q = by_right e (not (has_right access e)) q

      by_aligned : (b : Bool)
          → place_or_reason a access (cond b (fault 7) (in_frame w t a access (entry_at w t a)))
          ≡ Ok place
          → place_or_reason a access
          (cond b (fault 7) (in_frame (with_more w) t a access (entry_at w t a))) ≡ Ok place
      by_aligned true q = q
      by_aligned false q = by_entry (entry_at w t a) q

  half-more : (a low : ℕ) → half_at w t a ≡ Ok low → half_at (with_more w) t a ≡ Ok low
  half-more a low h =
      let r = bind_ok (reached w t a Half Fetch) (λ place. Ok (loaded w place 2)) low h in
      then_done (reached (with_more w) t a Half Fetch) (λ place. Ok (loaded w place 2)) r.0 low
      (reached-more a Half Fetch r.0 r.1) r.2

  rest-more : (pc low : ℕ) (found : Option Instr × ℕ) (b : Bool)
      → ◌≡◌ {A = Result (Option Instr × ℕ) Reason}
      (cond b (half_at w t ((pc + 2) % 2 ^ 32) >>= λ high. Ok (whole_word low high))
      (Ok (lone_half low))) (Ok found)
      → ◌≡◌ {A = Result (Option Instr × ℕ) Reason}
      (cond b (half_at (with_more w) t ((pc + 2) % 2 ^ 32) >>= λ high. Ok (whole_word low high))
      (Ok (lone_half low))) (Ok found)
  rest-more pc low found true h =
      let r = bind_ok (half_at w t ((pc + 2) % 2 ^ 32)) (λ high. Ok (whole_word low high)) found h
      in
      then_done (half_at (with_more w) t ((pc + 2) % 2 ^ 32)) (λ high. Ok (whole_word low high)) r.0
      found (half-more ((pc + 2) % 2 ^ 32) r.0 r.1) r.2
  rest-more pc low found false h = h

  instruction-more : (pc : ℕ) (found : Option Instr × ℕ) → instruction_at w t pc ≡ Ok found
      → instruction_at (with_more w) t pc ≡ Ok found
  instruction-more pc found h =
      let r = bind_ok (half_at w t pc)
      (λ low. cond (eqb (low % 4) 3)
      (half_at w t ((pc + 2) % 2 ^ 32) >>= λ high. Ok (whole_word low high)) (Ok (lone_half low)))
      found h in
      then_done (half_at (with_more w) t pc)
      (λ low. cond (eqb (low % 4) 3)
      (half_at (with_more w) t ((pc + 2) % 2 ^ 32) >>= λ high. Ok (whole_word low high))
      (Ok (lone_half low))) r.0 found (half-more pc r.0 r.1)
      (rest-more pc r.0 found (eqb (r.0 % 4) 3) r.2)

  done_more : (u next : World) → ◌≡◌ {A = Result World Reason} (Ok u) (Ok next)
      → ◌≡◌ {A = Result World Reason} (Ok (with_more u)) (Ok (with_more next))
  done_more u next h = let same : u ≡ next = cc in
      ap (λ (x : World). Ok (with_more x)) same

  performed-more : (e : Effect) (next : World) → performed w t e ≡ Ok next
      → performed (with_more w) t e ≡ Ok (with_more next)
  performed-more (goes r) next h = done_more (paid w t r) next h
  performed-more (loads address size back) next h =
      let r = bind_ok (reached w t address size Load)
      (λ place. Ok (paid w t (back (loaded w place (width size))))) next h in
      then_done (reached (with_more w) t address size Load)
      (λ place. Ok (paid (with_more w) t (back (loaded w place (width size))))) r.0
      (with_more next) (reached-more address size Load r.0 r.1)
      (done_more (paid w t (back (loaded w r.0 (width size)))) next r.2)
  performed-more (stores address size value regs) next h =
      let r = bind_ok (reached w t address size Store)
      (λ place. Ok (paid (stored w place (bytes_of (width size) value)) t regs)) next h in
      then_done (reached (with_more w) t address size Store)
      (λ place. Ok (paid (stored (with_more w) place (bytes_of (width size) value)) t regs)) r.0
      (with_more next) (reached-more address size Store r.0 r.1)
      (done_more (paid (stored w r.0 (bytes_of (width size) value)) t regs) next r.2)
  performed-more (claims address back new) next h =
      let r = bind_ok (reached w t address Word Claim)
      (λ place. Ok (paid (with_word w place (new (loaded w place 4))) t
      (back (loaded w place 4)))) next h in
      then_done (reached (with_more w) t address Word Claim)
      (λ place. Ok (paid (with_word (with_more w) place (new (loaded w place 4))) t
      (back (loaded w place 4)))) r.0
      (with_more next) (reached-more address Word Claim r.0 r.1)
      (by_new r.0 (new (loaded w r.0 4)) r.2)
    where
      by_new : (place : ℕ) (o : Option ℕ)
          → ◌≡◌ {A = Result World Reason}
          (Ok (paid (with_word w place o) t (back (loaded w place 4)))) (Ok next)
          → ◌≡◌ {A = Result World Reason}
          (Ok (paid (with_word (with_more w) place o) t (back (loaded w place 4))))
          (Ok (with_more next))
      by_new place None q = done_more (paid w t (back (loaded w place 4))) next q
      by_new place (Some word) q =
          done_more (paid (stored w place (bytes_of 4 word)) t (back (loaded w place 4))) next q
  performed-more (stops reason) next h = cc

  -- What t does, it does where more is allowed.
  pub step-more : (next : World) → step w t ≡ Ok next → step (with_more w) t ≡ Ok (with_more next)
  step-more next h = by_thread (thread_at w t) h
    where
      by_instr : (r : Registers) (size : ℕ) (o : Option Instr) → step_by w t r (o, size) ≡ Ok next
          → step_by (with_more w) t r (o, size) ≡ Ok (with_more next)
      by_instr r size None q = cc
      by_instr r size (Some instr) q = performed-more (effect instr size r) next q

      by_thread : (o : Option Thread) → step_of w t o ≡ Ok next
          → step_of (with_more w) t o ≡ Ok (with_more next)
      by_thread None q = cc
      by_thread (Some thread) q =
          let r = bind_ok (instruction_at w t thread.registers.pc) (step_by w t thread.registers)
          next q in
          then_done (instruction_at (with_more w) t thread.registers.pc)
          (step_by (with_more w) t thread.registers) r.0 (with_more next)
          (instruction-more thread.registers.pc r.0 r.1)
          (by_instr thread.registers r.0.1 r.0.0 r.2)

-- ---- many steps

-- they change no owner
pub steps_own : (points kept : List ℕ) (count : ℕ) (w : World) (t : ℕ) (last : World)
    → StepsOn points kept count w t last → last.owners ≡ w.owners
steps_own points kept zero w t last h = ap (λ (x : World). x.owners) h
steps_own points kept (suc count) w t last h =
    let next : World = h.1.0 in
    steps_own points kept count next t last h.1.3 ∙ (step-keeps w next t h.1.1).owners

-- They do the same where t may do more, and leave a frame that isn't t's where it may do less.
pub steps_guarded : (points kept : List ℕ) (t frame : ℕ) (owners : List Owner) (count : ℕ)
    (w last : World) → AllowsMore t w.owners owners → owner_of w frame ≢ Of t
    → StepsOn points kept count w t last
    → StepsOn points (frame ∷ kept) count (record w { owners = owners }) t
    (record last { owners = owners })
steps_guarded points kept t frame owners zero w last more other h =
    ap (λ (x : World). record x { owners = owners }) h
steps_guarded points kept t frame owners (suc count) w last more other h =
    let next : World = h.1.0 in
    let keeps : LeavesOthers t w next = step-keeps w next t h.1.1 in
    let same : KeepsFrame (record w { owners = owners }) (record next { owners = owners }) frame =
    (λ i is. keeps.bytes i (subst (λ f. owner_of w f ≢ Of t) (sym is) other)) in (
      h.0,
      (
        record next { owners = owners },
        step-more w t owners more next h.1.1,
        All-cons (KeepsFrame (record w { owners = owners }) (record next { owners = owners }))
            frame kept same h.1.2,
        steps_guarded points kept t frame owners count next last
            (subst (λ os. AllowsMore t os owners) (sym keeps.owners) more)
            (subst (λ (os : List Owner). slice_index_or os frame Free ≢ Of t)
            (sym keeps.owners) other)
            h.1.3,
      ),
    )

-- A frame that isn't t's stays.
pub steps_leaving : (points kept : List ℕ) (t frame count : ℕ) (w last : World)
    → owner_of w frame ≢ Of t → StepsOn points kept count w t last
    → StepsOn points (frame ∷ kept) count w t last
steps_leaving points kept t frame count w last other h =
    subst (λ os. StepsOn points (frame ∷ kept) count w t (record last { owners = os }))
    (sym (steps_own points kept count w t last h))
    (steps_guarded points kept t frame w.owners count w last (λ access f is. is) other h)

-- ---- a frame of a state that is granted

-- a frame that isn't Free is there
used_within : (owners : List Owner) (frame : ℕ) → is_free (slice_index_or owners frame Free) ≡ false
    → frame < length owners
used_within [] frame used = cc
used_within (o ∷ owners) zero used = omega arith
used_within (o ∷ owners) (suc frame) used =
    let less = used_within owners frame used in omega (arith, less)

-- The state stays sound, whoever owned the frame.
module _ (s : State) (t frame : ℕ) (access : Access) (sound : IsSound s)
    (live : IsLiveThread s.table.threads t) (used : IsOwned s.frames frame) where
  abbrev granted_state : State
  granted_state = record s { frames = with_grant s.frames frame t access }

  taken : (q : ℕ) → IsTaken (world_of q s) frame
  taken q = record {
    within = used_within s.frames.owners frame used;
    owner = λ free. let both : true ≡ false = sym (ap is_free free) ∙ used in cc;
  }

  stands : (q : ℕ) → LawfulWith [] (world_of q s) → LawfulWith [] (world_of q granted_state)
  stands q k =
      let here = seen s t sound live in
      stands-grant [] (world_of q s) t frame access
      (thread_given (world_of q s) t here.thread here.is) (taken q) k

  sound_granted : IsSound granted_state
  sound_granted = sound_then s granted_state sound
      (counted_like s granted_state (record {
        home = record {
          home = sound.counted.home.home;
          owners = length-set s.frames.owners frame (granted t access)
              ∙ sound.counted.home.owners;
        };
        round = refl;
        room = refl;
        frames = length-set s.frames.owners frame (granted t access);
        uses = refl;
        readers = refl;
        writers = refl;
        processes = refl;
      }) sound.counted) stands

  pub sound_given : (frames : Frames) → frames ≡ with_grant s.frames frame t access
      → IsSound (record s { frames = frames })
  sound_given frames is =
      subst (λ (x : Frames). IsSound (record s { frames = x })) (sym is) sound_granted

-- ---- a frame of a thread that is taken from it, and given back behind its steps

module _ (s : State) (t frame : ℕ) (own : owner_at s.frames frame ≡ Of t) (frames : Frames)
    (taken : frames ≡ with_grant s.frames frame t Load) (ran : State) (points kept : List ℕ)
    (count : ℕ)
    (run : (q : ℕ) (o e : List ℕ) → StepsOn points kept count
    (sent o e (world_of q (record s { frames = frames }))) t (sent o e (world_of q ran))) where
  abbrev shared : State
  shared = record s { frames = with_grant s.frames frame t Load }

  owners_there : ran.frames.owners ≡ slice_set s.frames.owners frame Shared
  owners_there =
      steps_own points kept count (world_of 0 (record s { frames = frames })) t (world_of 0 ran)
      (run 0 [] [])
      ∙ ap (λ (x : Frames). x.owners) taken

  pub used_there : IsOwned ran.frames frame
  used_there =
      ap (λ os. is_free (slice_index_or os frame Free)) owners_there
      ∙ ap is_free (get_or-set_same s.frames.owners frame Shared Free
      (owner_within s.frames.owners frame t own))

  owner_shared : slice_index_or (slice_set s.frames.owners frame Shared) frame Free ≢ Of t
  owner_shared is =
      let both : Shared ≡ Of t = sym (get_or-set_same s.frames.owners frame Shared Free
      (owner_within s.frames.owners frame t own)) ∙ is in cc

  owners_back : slice_set ran.frames.owners frame (Of t) ≡ s.frames.owners
  owners_back =
      ap (λ os. slice_set os frame (Of t)) owners_there
      ∙ set_back s.frames.owners frame Shared (Of t) own

  pub given_back : (last : Frames) → last ≡ with_grant ran.frames frame t Store
      → (q : ℕ) (o e : List ℕ) → StepsOn points (frame ∷ kept) count (sent o e (world_of q s)) t
      (sent o e (world_of q (record ran { frames = last })))
  given_back last is q o e =
      subst (λ (x : Frames). StepsOn points (frame ∷ kept) count (sent o e (world_of q s)) t
      (sent o e (world_of q (record ran { frames = x })))) (sym is)
      (subst (λ os. StepsOn points (frame ∷ kept) count (sent o e (world_of q s)) t
      (record (sent o e (world_of q ran)) { owners = os })) (sym owners_back)
      (steps_guarded points kept t frame s.frames.owners count (sent o e (world_of q shared))
      (sent o e (world_of q ran)) (shared_allows t s.frames.owners frame own) owner_shared
      (subst (λ (x : Frames). StepsOn points kept count
      (sent o e (world_of q (record s { frames = x }))) t (sent o e (world_of q ran))) taken
      (run q o e))))
