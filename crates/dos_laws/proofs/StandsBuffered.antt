-- The parallel phase in the buffered scheme keeps a world standing.
use Rattle.std.proofs.Common.{ℕ, zero, suc, ◌+◌, ◌*◌, ◌/◌, ◌%◌, ◌^◌, ◌<◌, ◌≤◌, ◌≡◌, refl, sym, ap}
use Rattle.std.proofs.Common.{◌∙◌, subst, Bool, true, false, cond, not, List, [], ◌∷◌, length, map}
use Rattle.std.proofs.Common.{Option, Some, None, Result, Ok, Err, arith}
use Rattle.std.specs.Prelude.{All, IfSome, ◌==◌, slice_index_or}
use Rattle.std.proofs.Math.ListN.{get_or-map}
use Rattle.std.proofs.lemmas.Bool.{eqb-true}
use Rattle.std.proofs.lemmas.List.{length-map}
use Rattle.std.proofs.lemmas.List.Elements.{All-nil}
use Rattle.dos_world.specs.World.{World, Thread, Registers, thread_at, with_thread, entry_at}
use Rattle.dos_world.specs.World.{owner_of, is_free, ran, released, ready_threads}
use Rattle.dos_world.specs.Bytes.{loaded, bytes_of}
use Rattle.dos_world.specs.Reach.{fault, foreign, at, reach, in_frame, has_right}
use Rattle.dos_world.specs.Reach.{is_foreign, width}
use Rattle.dos_world.specs.Lawful.{Lawful, IsThread, AreRegisters}
use Rattle.dos_world.specs.declared.Access.{Access}
use Rattle.dos_world.specs.declared.Access.TheVariants.{Load, Store, Claim}
use Rattle.dos_world.specs.declared.Entry.{Entry}
use Rattle.dos_world.specs.declared.Owner.{Owner}
use Rattle.dos_world.specs.declared.Owner.TheVariants.{Free, Shared, Of}
use Rattle.dos_world.specs.declared.Reason.{Reason}
use Rattle.dos_world.specs.declared.Reason.TheVariants.{Page, Fault}
use Rattle.dos_world.specs.declared.Size.{Size}
use Rattle.dos_world.specs.declared.Size.TheVariants.{Byte, Half, Word}
use Rattle.written_words.specs.declared.Written.{Written}
use Rattle.written_words.specs.Words.{words_put, with_stored}
use Rattle.written_words.proofs.Storing.{fits-word}
use Rattle.rv_isa.specs.declared.Instr.{Instr}
use Rattle.rv_isa.specs.Valid.{IsValid}
use Rattle.flat_machine.specs.Effect.{Effect, goes, loads, stores, claims, stops, effect}
use Rattle.flat_machine.specs.Step.{reached, load_at, ◌>>=◌}
use Rattle.flat_machine.specs.Over.{effect_in, instruction_in, one_in, store_if}
use Rattle.flat_machine.specs.Buffered.{Part, all_put, as_seen_by, buffer_answers, buffered}
use Rattle.flat_machine.specs.Buffered.{owner_for, part, part_b, part_from, part_of_thread}
use Rattle.flat_machine.specs.Buffered.{with_part, words_or_page}
use Rattle.flat_machine.proofs.Keeps.{at≢fault, at≢foreign, bind_ok, length-bytes_of, reached-at}
use Rattle.flat_machine.proofs.Keeps.{reach-own, store}
use Rattle.dos_laws.specs.Standing.{LawfulWith}
use Rattle.dos_laws.specs.Taken.{IsPartIn, IsWordOf}
use Rattle.dos_laws.proofs.Mapped.{of_thread}
use Rattle.dos_laws.proofs.Numerals.{loaded_word}
use Rattle.dos_laws.proofs.Frames.{lawful-with_frames, thread_given}
use Rattle.dos_laws.proofs.Effects.{IsInRange, effect_ranges}
use Rattle.dos_laws.proofs.RegisterRanges.{blank_ranges, with_held_ranges}
use Rattle.dos_laws.proofs.Stands.{with_run, stands-with_thread}
use Rattle.dos_laws.proofs.StandsSteps.{found_valid}
use Rattle.dos_laws.proofs.PutWords.{lawful-put, put-bytes, put-length, put-zeros, words-stored}

-- ---- a part that is put in

pub stands-part : (ts : List ℕ) (w : World) (t : ℕ) (p : Part) → IsPartIn w.owners p
    → LawfulWith ts w → LawfulWith ts (with_part w t p)
stands-part ts w t p is k =
    let after = stands-with_thread ts w t (ran p.registers p.budget) (record {
      process = λ thread. refl;
      state = λ thread. refl;
      ranges =
          λ thread at was. with_run w.processes thread _ _ _ is.registers was;
    }) k in
    record {
      lawful =
          lawful-put (with_thread w t (ran p.registers p.budget)) p.words is.words after.lawful;
      awake = after.awake;
      apart = after.apart;
    }

-- ---- what a thread sees

seen-owner : (owners : List Owner) (t frame : ℕ)
    → slice_index_or (map (owner_for t) owners) frame Free
    ≡ owner_for t (slice_index_or owners frame Free)
seen-owner owners t frame = get_or-map (owner_for t) owners frame Free

of-free : (t : ℕ) (o : Owner) → owner_for t o ≡ Free → o ≡ Free
of-free t Free e = refl
of-free t Shared e = let both : Of t ≡ Free = e in cc
of-free t (Of s) e = let both : Of t ≡ Free = e in cc

of-owner : (t s : ℕ) (o : Owner) → owner_for t o ≡ Of s → (s ≡ t) × (is_free o ≡ false)
of-owner t s Free e = let both : Free ≡ Of s = e in absurd (cc)
of-owner t s Shared e = let both : Of t ≡ Of s = e in (cc, refl)
of-owner t s (Of u) e = let both : Of t ≡ Of s = e in (cc, refl)

pub lawful-seen : (w : World) (t : ℕ) (words : List Written) → (1 ≤ t) × (t ≤ length w.threads)
    → All (IsWordOf w.owners) words → Lawful w → Lawful (as_seen_by w t words)
lawful-seen w t words given all l =
    lawful-with_frames w (map (owner_for t) w.owners) (words_put w.bytes words) (record {
      places = length-map w.owners (owner_for t);
      count = put-length words w.bytes;
      range = put-bytes words w.bytes l.frames.bytes.1;
      free = λ frame lt. (
        (λ e. (l.frames.free frame lt).0 (was_free frame e)),
        (λ e. seen-owner w.owners t frame ∙ ap (owner_for t) ((l.frames.free frame lt).1 e)),
      );
      zeros = λ frame offset e within.
          put-zeros w.owners words w.bytes all l.frames.zeros frame offset (was_free frame e)
          within;
      owned = λ frame s e.
          subst (λ n. (1 ≤ n) × (n ≤ length w.threads))
          (sym (of-owner t s (slice_index_or w.owners frame Free)
          (sym (seen-owner w.owners t frame) ∙ e)).0) given;
    }) l
  where
    was_free : (frame : ℕ) → slice_index_or (map (owner_for t) w.owners) frame Free ≡ Free
        → slice_index_or w.owners frame Free ≡ Free
    was_free frame e =
        of-free t (slice_index_or w.owners frame Free) (sym (seen-owner w.owners t frame) ∙ e)

-- ---- where an access goes

-- a place in a frame, as far from its beginning as the address from its page's, and aligned
record IsAtOffset (address : ℕ) (size : Size) (place : ℕ) : Type 0 where
  pub aligned : address % width size ≡ 0
  pub frame : ℕ
  pub is : place ≡ 4096 * frame + address % 4096

reach-offset : (w : World) (t address : ℕ) (size : Size) (access : Access) (place : ℕ)
    → reach w t address size access ≡ at place → IsAtOffset address size place
reach-offset w t address size access place h =
    by_alignment (address % width size == 0) refl h
  where
    by_owner : (e : Entry) (b : Bool) → address % width size ≡ 0
        → cond b (foreign e.frame) (at (4096 * e.frame + address % 4096)) ≡ at place
        → IsAtOffset address size place
    by_owner e true aligned q = absurd (at≢foreign q)
    by_owner e false aligned q =
        record { aligned = aligned; frame = e.frame; is = cc }

    by_right : (e : Entry) (b : Bool) → address % width size ≡ 0
        → cond (not b) (fault 11)
        (cond (is_foreign t access (owner_of w e.frame)) (foreign e.frame)
        (at (4096 * e.frame + address % 4096))) ≡ at place → IsAtOffset address size place
    by_right e false aligned q = absurd (at≢fault q)
    by_right e true aligned q = by_owner e (is_foreign t access (owner_of w e.frame)) aligned q

    by_entry : (o : Option Entry) → address % width size ≡ 0
        → in_frame w t address access o ≡ at place → IsAtOffset address size place
    by_entry None aligned q = absurd (at≢fault q)
    by_entry (Some e) aligned q = by_right e (has_right access e) aligned q

    by_alignment : (b : Bool) → (address % width size == 0) ≡ b
        → cond (not b) (fault 7) (in_frame w t address access (entry_at w t address)) ≡ at place
        → IsAtOffset address size place
    by_alignment false is q = absurd (at≢fault q)
    by_alignment true is q =
        by_entry (entry_at w t address) (eqb-true (address % width size) 0 is) q

offset-aligned : (size : Size) (address frame place : ℕ) → address % width size ≡ 0
    → place ≡ 4096 * frame + address % 4096 → place % 4096 % width size ≡ 0
offset-aligned Byte address frame place aligned e = omega arith
offset-aligned Half address frame place aligned e = omega (arith, aligned, e)
offset-aligned Word address frame place aligned e = omega (arith, aligned, e)

width-some : (size : Size) → 1 ≤ width size
width-some Byte = omega arith
width-some Half = omega arith
width-some Word = omega arith

-- ---- one instruction

some-words : (address : ℕ) (o : Option (List Written)) (after : List Written)
    → words_or_page address o ≡ Ok after → o ≡ Some after
some-words address None after e = absurd (grind arith)
some-words address (Some words) after e = ap Some (same e)
  where
    same : ◌≡◌ {A = Result (List Written) Reason} (Ok words) (Ok after) → words ≡ after
    same q = cc

module _ (w : World) (t : ℕ) (given : (1 ≤ t) × (t ≤ length w.threads)) (l : Lawful w) where
  -- what registers and words that are in range may be
  abbrev IsRun : Registers × List Written → Type 0
  IsRun x = AreRegisters x.0 × All (IsWordOf w.owners) x.1

  -- the words after a store
  store_words : (words after : List Written) (address : ℕ) (size : Size) (value : ℕ)
      → All (IsWordOf w.owners) words
      → (buffer_answers w t).store words address size value ≡ Ok after
      → All (IsWordOf w.owners) after
  store_words words after address size value all h =
      let p = bind_ok (reached (as_seen_by w t words) t address size Store)
      (λ place. words_or_page address
      (with_stored words (place / 4096) (place % 4096) (bytes_of (width size) value))) after h in
      let here = reached-at (as_seen_by w t words) t address size Store p.0 p.1 in
      let own = reach-own (as_seen_by w t words) t address size Store store p.0 here in
      let spot = reach-offset (as_seen_by w t words) t address size Store p.0 here in
      let some = width-some size in
      let same : own.frame ≡ p.0 / 4096 = omega (arith, own.low, own.high, some) in
      let used = (of-owner t t (slice_index_or w.owners own.frame Free)
      (sym (seen-owner w.owners t own.frame) ∙ own.owner)).1 in
      words-stored w.owners words (p.0 / 4096) (p.0 % 4096) (width size)
      (bytes_of (width size) value) (length-bytes_of (width size) value)
      (fits-word (p.0 % 4096) size
      (offset-aligned size address spot.frame p.0 spot.aligned spot.is))
      (omega arith)
      (subst (λ f. is_free (slice_index_or w.owners f Free) ≡ false) same used) all after
      (some-words address
      (with_stored words (p.0 / 4096) (p.0 % 4096) (bytes_of (width size) value)) after p.2)

  Next_is : {x y : Registers × List Written}
      → ◌≡◌ {A = Result (Registers × List Written) Reason} (Ok x) (Ok y) → x ≡ y
  Next_is e = cc

  effect_run : (words : List Written) (e : Effect) (next : Registers × List Written)
      → effect_in (buffer_answers w t) words e ≡ Ok next → IsInRange e
      → All (IsWordOf w.owners) words → IsRun next
  effect_run words (goes r) next h range all = subst IsRun (Next_is h) (range, all)
  effect_run words (loads address size to) next h range all =
      let p = bind_ok (load_at (as_seen_by w t words) t address size) (λ n. Ok (to n, words)) next h
      in
      let q = bind_ok (reached (as_seen_by w t words) t address size Load)
      (λ place. Ok (loaded (as_seen_by w t words) place (width size))) p.0 p.1 in
      let small : p.0 < 2 ^ 32 = subst (λ n. n < 2 ^ 32) (number q.2)
      (loaded_word (as_seen_by w t words) q.0 size (lawful-seen w t words given all l)) in
      subst IsRun (Next_is p.2) (range p.0 small, all)
    where
      number : {m n : ℕ} → ◌≡◌ {A = Result ℕ Reason} (Ok m) (Ok n) → m ≡ n
      number e = cc
  effect_run words (stores address size value r) next h range all =
      let p = bind_ok ((buffer_answers w t).store words address size value)
      (λ after. Ok (r, after)) next h in
      subst IsRun (Next_is p.2) (range, store_words words p.0 address size value all p.1)
  effect_run words (claims address to new) next h range all =
      let p = bind_ok ((buffer_answers w t).claim words address)
      (λ old. store_if (buffer_answers w t) words address (new old) >>= λ after. Ok (to old, after))
      next h in
      let q = bind_ok (reached (as_seen_by w t words) t address Word Claim)
      (λ place. Err (Page address Claim)) p.0 p.1 in
      absurd (no_word q.2)
    where
      no_word : {reason : Reason} {n : ℕ} → ◌≡◌ {A = Result ℕ Reason} (Err reason) (Ok n) → ⊥
      no_word e = cc
  effect_run words (stops reason) next h range all = absurd (grind arith)

  one_run : (r : Registers) (words : List Written) (next : Registers × List Written)
      → one_in (buffer_answers w t) r words ≡ Ok next → AreRegisters r
      → All (IsWordOf w.owners) words → IsRun next
  one_run r words next h a all =
      let f = bind_ok (instruction_in (buffer_answers w t) words r.pc)
      (λ found. elim found.0 as (λ _. Result (Registers × List Written) Reason) [
        | None ↦ Err (Fault 4)
        | Some instr ↦ effect_in (buffer_answers w t) words (effect instr found.1 r)
      ]) next h in
      by_instr f.0.1 f.0.0
      (found_valid (as_seen_by w t words) t r.pc f.0 (lawful-seen w t words given all l) f.1) f.2
    where
      by_instr : (size : ℕ) (o : Option Instr) → IfSome o IsValid
          → (elim o as (λ _. Result (Registers × List Written) Reason) [
            | None ↦ Err (Fault 4)
            | Some instr ↦ effect_in (buffer_answers w t) words (effect instr size r)
          ]) ≡ Ok next → IsRun next
      by_instr size None valid q = absurd (grind arith)
      by_instr size (Some instr) valid q =
          effect_run words (effect instr size r) next q (effect_ranges instr size r valid a) all

  part_run : (n : ℕ) (r : Registers) (words : List Written) → AreRegisters r
      → All (IsWordOf w.owners) words → IsPartIn w.owners (part_from w t n r words)
  part_run zero r words a all = record { registers = a; words = all }
  part_run (suc n) r words a all =
      by_one (λ s more b each. part_run n s more b each) (one_in (buffer_answers w t) r words) refl
    where
      by_one : ((s : Registers) (more : List Written) → AreRegisters s
          → All (IsWordOf w.owners) more → IsPartIn w.owners (part_from w t n s more))
          → (x : Result (Registers × List Written) Reason)
          → one_in (buffer_answers w t) r words ≡ x
          → IsPartIn w.owners (elim x as (λ _. Part) [
            | Ok next ↦ part_from w t n next.0 next.1
            | Err reason ↦ part r (suc n) words
          ])
      by_one rest (Ok next) is =
          let k = one_run r words next is a all in rest next.0 next.1 k.0 k.1
      by_one rest (Err reason) is = record { registers = a; words = all }

-- ---- a part, and the phase

-- A part of a lawful world is in range.
pub part-in : (w : World) (t : ℕ) → Lawful w → IsPartIn w.owners (part_b w t)
part-in w t l = by_thread (thread_at w t) refl
  where
    by_thread : (o : Option Thread) → thread_at w t ≡ o → IsPartIn w.owners (part_of_thread w t o)
    by_thread None is = record {
      registers = blank_ranges 0 (omega arith);
      words = All-nil (IsWordOf w.owners);
    }
    by_thread (Some thread) is =
        part_run w t (thread_given w t thread is) l thread.budget (released thread.registers) []
        (with_held_ranges thread.registers None tt
        (of_thread (IsThread w.processes) w t thread l.threads.ranges is).registers)
        (All-nil (IsWordOf w.owners))

all_put_stand : (ts : List ℕ) (began w : World) (us : List ℕ) → Lawful began
    → w.owners ≡ began.owners → LawfulWith ts w → LawfulWith ts (all_put began w us)
all_put_stand ts began w [] l same k = k
all_put_stand ts began w (u ∷ us) l same k =
    all_put_stand ts began (with_part w u (part_b began u)) us l same
    (stands-part ts w u (part_b began u)
    (subst (λ owners. IsPartIn owners (part_b began u)) (sym same) (part-in began u l)) k)

pub stands-buffered : (ts : List ℕ) (w : World) → LawfulWith ts w → LawfulWith ts (buffered w)
stands-buffered ts w k = all_put_stand ts w w (ready_threads w) k.lawful refl k
