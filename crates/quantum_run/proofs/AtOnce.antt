-- A run that puts each word in memory as it is written is the run beside memory, of which all words
-- are put in at its end.
use Rattle.std.proofs.Common.{ℕ, zero, suc, ◌+◌, ◌-◌, ◌*◌, ◌/◌, ◌%◌, ◌<◌, ◌≤◌, ◌≡◌, refl, sym}
use Rattle.std.proofs.Common.{ap, ◌∙◌, subst, cond, not, eqb, eqb-true, Bool, true, false, List, []}
use Rattle.std.proofs.Common.{◌∷◌, ◌++◌, length, map, set, Option, Some, None, option_map, Result}
use Rattle.std.proofs.Common.{Ok, Err, arith}
use Rattle.std.specs.Prelude.{All, MatchOption, replicate, slice_get, slice_index, slice_set, ◌||◌}
use Rattle.std.specs.Prelude.{◌==◌}
use Rattle.std.specs.List.{list_any}
use Rattle.std.proofs.lemmas.Bool.{eqb-false}
use Rattle.std.proofs.lemmas.Option.{get_or_from_slice_get, slice_get_within}
use Rattle.dos_world.specs.Reach.{bytes_of, width, written}
use Rattle.dos_world.specs.World.{Registers}
use Rattle.dos_world.specs.declared.Access.TheVariants.{Claim, Store}
use Rattle.dos_world.specs.declared.Entry.{Entry}
use Rattle.dos_world.specs.declared.Owner.{Owner}
use Rattle.dos_world.specs.declared.Reason.{Reason}
use Rattle.dos_world.specs.declared.Reason.TheVariants.{Fault}
use Rattle.dos_world.specs.declared.Size.{Size}
use Rattle.dos_world.specs.declared.Size.TheVariants.{Byte, Half, Word}
use Rattle.rv_isa.specs.declared.Instr.{Instr}
use Rattle.page_store.specs.Store.{Store as Frames, joined, number_at}
use Rattle.flat_machine.specs.Buffered.{owner_for}
use Rattle.flat_machine.specs.Effect.{Effect, claims, effect, goes, loads, stops, stores}
use Rattle.flat_machine.specs.Over.{MemoryAnswers, effect_in, instruction_in, one_in, store_if}
use Rattle.flat_machine.specs.Step.{◌>>=◌}
use Rattle.rv_exec.specs.Runs.{GoesTo, after_in}
use Rattle.written_words.specs.declared.Written.{Written}
use Rattle.written_words.specs.Index.{IsAlignedWord, IsIndexed, chain_of}
use Rattle.written_words.specs.Words.{is_at, unwritten, with_bytes_from, with_stored}
use Rattle.written_words.specs.Words.{with_word_changed, words_put}
use Rattle.written_words.proofs.Indexing.{changed, changed-one, is_at-key, length-bytes}
use Rattle.written_words.proofs.Indexing.{none_indexed, pushed-by, stored-is-word}
use Rattle.written_words.proofs.Storing.{bytes-small, store-put}
use Rattle.quantum_run.specs.Answering.{Still, frame_found, left_or_page, run_answers}
use Rattle.quantum_run.specs.Answering.{still, word_or_page}
use Rattle.quantum_run.specs.Buffering.{RanOver, buffer_places, still_for, through_places}
use Rattle.quantum_run.specs.Finding.{flat_place, frame_for}
use Rattle.quantum_run.proofs.Buffers.{ran-over}

-- ---- words of which no two are the same

-- They can be indexed.
pub record AreApart (words : List Written) : Type 0 where
  pub before : List ℕ
  pub last : List ℕ
  pub indexed : IsIndexed words before last

pub none-apart : AreApart []
none-apart = record {
  before = [];
  last = replicate 1024 0;
  indexed = none_indexed [] [] (replicate 1024 0) refl refl refl;
}

found-at : (words : List Written) (f o : ℕ) → list_any (is_at f o) words ≡ true
    → (place : ℕ) × (x : Written) × (slice_get words place ≡ Some x) × (is_at f o x ≡ true)
found-at [] f o h = cc
found-at (y ∷ words) f o h = by_test (is_at f o y) refl h (found-at words f o)
  where
    by_test : (b : Bool) → is_at f o y ≡ b → (b || list_any (is_at f o) words) ≡ true
        → (list_any (is_at f o) words ≡ true
        → (place : ℕ) × (x : Written) × (slice_get words place ≡ Some x) × (is_at f o x ≡ true))
        → (place : ℕ) × (x : Written) × (slice_get (y ∷ words) place ≡ Some x)
        × (is_at f o x ≡ true)
    by_test true is q later = (zero, y, refl, is)
    by_test false is q later = let r = later q in (suc r.0, r.1, r.2, r.3)

Some-words : {a b : List Written} → ◌≡◌ {A = Option (List Written)} (Some a) (Some b) → a ≡ b
Some-words q = cc

-- a store of bytes that lie in one word
module _ (words : List Written) (h : AreApart words) (f o n : ℕ) (new : List ℕ)
    (long : length new ≡ n) (within : o < 4096) (fits : o % 4 + n ≤ 4) where
  abbrev at : ℕ
  at = o / 4 * 4

  abbrev change : Written → Written
  change = with_bytes_from (o % 4) new

  changed-apart : list_any (is_at f at) words ≡ true
      → AreApart (with_word_changed f at change words)
  changed-apart some =
      let g = found-at words f at some in
      let x : Written = g.1 in
      let key = is_at-key f at x g.3 in
      let each : IsAlignedWord x =
      subst IsAlignedWord (get_or_from_slice_get words g.0 x x g.2)
      (h.indexed.each g.0 x (slice_get_within words g.0 x g.2)) in
      let is : IsAlignedWord (change x) = stored-is-word x (o % 4) n new long fits each in
      let same : with_word_changed f at change words ≡ set words g.0 (change x) =
      changed-one f at change words g.0 x g.2 g.3
      (λ i y there k. let other = is_at-key f at y k in
      h.indexed.apart i g.0 y x there g.2 (other.0 ∙ sym key.0) (other.1 ∙ sym key.1)) in
      subst AreApart (sym same) (record {
        before = h.before;
        last = h.last;
        indexed = changed words h.before h.last g.0 x (change x) g.2 refl refl is h.indexed;
      })

  added-apart : list_any (is_at f at) words ≡ false → eqb (length words) 1024 ≡ false
      → AreApart (words ++ change (unwritten f at) ∷ [])
  added-apart none less =
      let apart = eqb-false (length words) 1024 less in
      let few : length words < 1024 = omega (arith, h.indexed.few, apart) in
      let word : Written = change (unwritten f at) in
      let aligned : IsAlignedWord (unwritten f at) =
      record { aligned = omega arith; within = omega (arith, within); mask = omega arith } in
      record {
        before = h.before ++ slice_index h.last (chain_of f at) ∷ [];
        last = slice_set h.last (chain_of f at) (length words + 1);
        indexed = pushed-by words h.before h.last word (words ++ word ∷ [])
            (h.before ++ slice_index h.last (chain_of f at) ∷ [])
            (slice_set h.last (chain_of f at) (length words + 1)) (chain_of f at)
            (slice_index h.last (chain_of f at)) (length words + 1) refl refl refl refl refl refl
            few (stored-is-word (unwritten f at) (o % 4) n new long fits aligned) none h.indexed;
      }

  stored-apart : (after : List Written) → with_stored words f o new ≡ Some after
      → AreApart after
  stored-apart after is = by_found (list_any (is_at f at) words) refl is
    where
      by_room : list_any (is_at f at) words ≡ false → (b : Bool) → eqb (length words) 1024 ≡ b
          → cond b None (Some (words ++ change (unwritten f at) ∷ [])) ≡ Some after
          → AreApart after
      by_room none true is q = cc
      by_room none false is q = subst AreApart (Some-words q) (added-apart none is)

      by_found : (b : Bool) → list_any (is_at f at) words ≡ b
          → cond b (Some (with_word_changed f at change words))
          (cond (eqb (length words) 1024) None
          (Some (words ++ change (unwritten f at) ∷ []))) ≡ Some after
          → AreApart after
      by_found true some q = subst AreApart (Some-words q) (changed-apart some)
      by_found false none q = by_room none (eqb (length words) 1024) refl q

-- ---- the answers

-- the words put in memory
abbrev pub put_in : List ℕ → List Written → List ℕ × List Written
put_in bytes words = (words_put bytes words, words)

abbrev lifted : List ℕ → Result (List Written) Reason → Result (List ℕ × List Written) Reason
lifted bytes o = o >>= λ words. Ok (put_in bytes words)

abbrev lifted_both : List ℕ → Result (Registers × List Written) Reason
    → Result (Registers × (List ℕ × List Written)) Reason
lifted_both bytes o = o >>= λ x. Ok (x.0, put_in bytes x.1)

-- The answer is the other's with its words put in memory, of which no two are the same.
record Agree (bytes : List ℕ) (through : Result (List ℕ × List Written) Reason)
    (beside : Result (List Written) Reason) : Type 0 where
  pub same : through ≡ lifted bytes beside
  pub apart : (words : List Written) → beside ≡ Ok words → AreApart words

-- the same with registers
record AgreeBoth (bytes : List ℕ) (through : Result (Registers × (List ℕ × List Written)) Reason)
    (beside : Result (Registers × List Written) Reason) : Type 0 where
  pub same : through ≡ lifted_both bytes beside
  pub apart : (x : Registers × List Written) → beside ≡ Ok x → AreApart x.1

Ok-words : {a b : List Written} → ◌≡◌ {A = Result (List Written) Reason} (Ok a) (Ok b) → a ≡ b
Ok-words q = cc

Ok-both : {a b : Registers × List Written}
    → ◌≡◌ {A = Result (Registers × List Written) Reason} (Ok a) (Ok b) → a ≡ b
Ok-both q = cc

module _ (s : Still) (bytes : List ℕ) where
  abbrev through : MemoryAnswers (List ℕ × List Written)
  through = run_answers s through_places

  abbrev beside : MemoryAnswers (List Written)
  beside = run_answers s (buffer_places bytes)

  -- a store at an aligned place
  written-agrees : (words : List Written) → AreApart words → (a place n : ℕ) (new : List ℕ)
      → length new ≡ n → All (λ b. b < 256) new → place % 4096 % 4 + n ≤ 4
      → Agree bytes (left_or_page a (through_places.write (put_in bytes words) place new))
      (left_or_page a ((buffer_places bytes).write words place new))
  written-agrees words apart a place n new long small fits =
      by_stored (with_stored words (place / 4096) (place % 4096) new) refl
    where
      put_after : List Written → List ℕ × List Written
      put_after ws = (written (words_put bytes words) place new, ws)

      by_stored : (o : Option (List Written))
          → with_stored words (place / 4096) (place % 4096) new ≡ o
          → Agree bytes (left_or_page a (option_map put_after o)) (left_or_page a o)
      by_stored None is = record { same = refl; apart = λ ws q. cc }
      by_stored (Some after) is =
          let whole : 4096 * (place / 4096) + place % 4096 ≡ place = omega arith in
          let within : place % 4096 < 4096 = omega arith in
          record {
            same = ap (λ (bs : List ℕ).
                ok_of (bs, after))
                (sym (store-put words apart.before apart.last apart.indexed (place / 4096)
                (place % 4096) n new long small within fits after is bytes
                ∙ ap (λ p. written (words_put bytes words) p new) whole));
            apart = λ ws q. subst AreApart (Ok-words q)
                (stored-apart words apart (place / 4096) (place % 4096) n new long within fits
                after is);
          }
        where
          ok_of : List ℕ × List Written → Result (List ℕ × List Written) Reason
          ok_of m = Ok m

  -- a place in a frame that is found is aligned
  store-agrees : (words : List Written) → AreApart words → (a : ℕ) (size : Size) (value : ℕ)
      → Agree bytes (through.store (put_in bytes words) a size value)
      (beside.store words a size value)
  store-agrees words apart a size value = by_aligned (a % width size == 0) refl
    where
      at_frame : ℕ → Result (List ℕ × List Written) Reason
      at_frame frame = left_or_page a
          (through_places.write (put_in bytes words) (flat_place frame a)
          (bytes_of (width size) value))

      beside_frame : ℕ → Result (List Written) Reason
      beside_frame frame = left_or_page a
          ((buffer_places bytes).write words (flat_place frame a) (bytes_of (width size) value))

      by_found : a % width size ≡ 0 → (o : Result ℕ Reason)
          → Agree bytes (o >>= at_frame) (o >>= beside_frame)
      by_found aligned (Ok frame) =
          written-agrees words apart a (flat_place frame a) (width size)
          (bytes_of (width size) value) (length-bytes (width size) value)
          (bytes-small (width size) value) (fits-in-frame frame size aligned)
        where
          fits-in-frame : (frame : ℕ) (size : Size) → a % width size ≡ 0
              → flat_place frame a % 4096 % 4 + width size ≤ 4
          fits-in-frame frame Byte h = omega arith
          fits-in-frame frame Half h = omega (arith, h)
          fits-in-frame frame Word h = omega (arith, h)
      by_found aligned (Err reason) = record { same = refl; apart = λ ws q. cc }

      by_aligned : (b : Bool) → (a % width size == 0) ≡ b
          → Agree bytes
          (cond (not b) (Err (Fault 7)) (frame_for s.thread s.owners s.entries Store a)
          >>= at_frame)
          (cond (not b) (Err (Fault 7)) (frame_for s.thread s.owners s.entries Store a)
          >>= beside_frame)
      by_aligned true is =
          by_found (eqb-true (a % width size) 0 is)
          (frame_for s.thread s.owners s.entries Store a)
      by_aligned false is = record { same = refl; apart = λ ws q. cc }

  -- ---- one instruction

  with-registers : (r : Registers) (o : Result (List ℕ × List Written) Reason)
      (o' : Result (List Written) Reason) → Agree bytes o o'
      → AgreeBoth bytes (o >>= λ after. Ok (r, after)) (o' >>= λ after. Ok (r, after))
  with-registers r o (Ok words) h = record {
    same = ap (λ (x : Result (List ℕ × List Written) Reason). x >>= λ after. Ok (r, after)) h.same;
    apart = λ x q. subst AreApart (ap (λ (y : Registers × List Written). y.1) (Ok-both q))
        (h.apart words refl);
  }
  with-registers r o (Err reason) h = record {
    same = ap (λ (x : Result (List ℕ × List Written) Reason). x >>= λ after. Ok (r, after)) h.same;
    apart = λ x q. cc;
  }

  goes-agree : (words : List Written) → AreApart words → (r : Registers)
      → AgreeBoth bytes (Ok (r, put_in bytes words)) (Ok (r, words))
  goes-agree words apart r = record {
    same = refl;
    apart = λ x q. subst AreApart (ap (λ (y : Registers × List Written). y.1) (Ok-both q)) apart;
  }

  effect-agrees : (words : List Written) → AreApart words → (e : Effect)
      → AgreeBoth bytes (effect_in through (put_in bytes words) e) (effect_in beside words e)
  effect-agrees words apart (goes r) = goes-agree words apart r
  effect-agrees words apart (loads a size next) = by_number (beside.load words a size)
    where
      by_number : (o : Result ℕ Reason)
          → AgreeBoth bytes (o >>= λ n. Ok (next n, put_in bytes words))
          (o >>= λ n. Ok (next n, words))
      by_number (Ok n) = goes-agree words apart (next n)
      by_number (Err reason) = record { same = refl; apart = λ x q. cc }
  effect-agrees words apart (stores a size value r) =
      with-registers r (through.store (put_in bytes words) a size value)
      (beside.store words a size value) (store-agrees words apart a size value)
  effect-agrees words apart (claims a next new) = by_found (frame_found s Claim Word a)
    where
      after_through : ℕ → Result (Registers × (List ℕ × List Written)) Reason
      after_through old = store_if through (put_in bytes words) a (new old)
          >>= λ after. Ok (next old, after)

      after_beside : ℕ → Result (Registers × List Written) Reason
      after_beside old = store_if beside words a (new old) >>= λ after. Ok (next old, after)

      refused : ℕ → Result ℕ Reason
      refused frame = word_or_page a false
          (number_at (words_put bytes words) (flat_place frame a) Word)

      by_found : (o : Result ℕ Reason)
          → AgreeBoth bytes (o >>= refused >>= after_through) (o >>= refused >>= after_beside)
      by_found (Ok frame) = record { same = refl; apart = λ x q. cc }
      by_found (Err reason) = record { same = refl; apart = λ x q. cc }
  effect-agrees words apart (stops reason) = record { same = refl; apart = λ x q. cc }

  one-agrees : (words : List Written) → AreApart words → (r : Registers)
      → AgreeBoth bytes (one_in through r (put_in bytes words)) (one_in beside r words)
  one-agrees words apart r = by_found (instruction_in beside words r.pc)
    where
      done : Option Instr × ℕ → Result (Registers × (List ℕ × List Written)) Reason
      done f = elim f.0 as (λ _. Result (Registers × (List ℕ × List Written)) Reason) [
        | None ↦ Err (Fault 4)
        | Some instr ↦ effect_in through (put_in bytes words) (effect instr f.1 r)
      ]

      done_beside : Option Instr × ℕ → Result (Registers × List Written) Reason
      done_beside f = elim f.0 as (λ _. Result (Registers × List Written) Reason) [
        | None ↦ Err (Fault 4)
        | Some instr ↦ effect_in beside words (effect instr f.1 r)
      ]

      by_instr : (o : Option Instr) (size : ℕ)
          → AgreeBoth bytes (done (o, size)) (done_beside (o, size))
      by_instr None size = record { same = refl; apart = λ x q. cc }
      by_instr (Some instr) size = effect-agrees words apart (effect instr size r)

      by_found : (o : Result (Option Instr × ℕ) Reason)
          → AgreeBoth bytes (o >>= done) (o >>= done_beside)
      by_found (Ok f) = by_instr f.0 f.1
      by_found (Err reason) = record { same = refl; apart = λ x q. cc }

  -- ---- instructions one after another

  -- Beside memory they go to the same registers and words, which are the ones put in memory.
  pub record GoesBeside (n : ℕ) (r : Registers) (words : List Written) (after : Registers)
      (m : List ℕ × List Written) : Type 0 where
    pub goes_to : GoesTo beside n r words after m.1
    pub puts : m ≡ put_in bytes m.1
    pub apart : AreApart m.1

  pub goes-beside : (n : ℕ) (r : Registers) (words : List Written) → AreApart words
      → (after : Registers) (m : List ℕ × List Written)
      → GoesTo through n r (put_in bytes words) after m → GoesBeside n r words after m
  goes-beside zero r words apart after m h =
      let same = Some-both h in
      let m_is : put_in bytes words ≡ m =
      ap (λ (x : Registers × (List ℕ × List Written)). x.1) same in
      let words_are : words ≡ m.1 = ap (λ (x : List ℕ × List Written). x.1) m_is in
      record {
        goes_to = ap (λ (x : Registers × (List ℕ × List Written)). some_of (x.0, x.1.1)) same;
        puts = sym m_is ∙ ap (put_in bytes) words_are;
        apart = subst AreApart words_are apart;
      }
    where
      Some-both : {a b : Registers × (List ℕ × List Written)}
          → ◌≡◌ {A = Option (Registers × (List ℕ × List Written))} (Some a) (Some b) → a ≡ b
      Some-both q = cc

      some_of : Registers × List Written → Option (Registers × List Written)
      some_of x = Some x
  goes-beside (suc n) r words apart after m h =
      by_one (λ x own q. goes-beside n x.0 x.1 own after m q) (one_in beside r words) refl h
    where
      one : AgreeBoth bytes (one_in through r (put_in bytes words)) (one_in beside r words)
      one = one-agrees words apart r

      rest : Result (Registers × (List ℕ × List Written)) Reason
          → Option (Registers × (List ℕ × List Written))
      rest o = elim o as (λ _. Option (Registers × (List ℕ × List Written))) [
        | Ok next ↦ after_in through n next.0 next.1
        | Err reason ↦ None
      ]

      rest_beside : Result (Registers × List Written) Reason → Option (Registers × List Written)
      rest_beside o = elim o as (λ _. Option (Registers × List Written)) [
        | Ok next ↦ after_in beside n next.0 next.1
        | Err reason ↦ None
      ]

      by_one : ((x : Registers × List Written) → AreApart x.1
          → GoesTo through n x.0 (put_in bytes x.1) after m → GoesBeside n x.0 x.1 after m)
          → (o : Result (Registers × List Written) Reason) → one_in beside r words ≡ o
          → rest (one_in through r (put_in bytes words)) ≡ Some (after, m)
          → GoesBeside (suc n) r words after m
      by_one later (Ok x) is q =
          let g = later x (one.apart x is)
          (sym (ap rest (one.same ∙ ap (lifted_both bytes) is)) ∙ q) in
          record { goes_to = ap rest_beside is ∙ g.goes_to; puts = g.puts; apart = g.apart }
      by_one later (Err reason) is q =
          let stopped = sym (ap rest (one.same ∙ ap (lifted_both bytes) is)) ∙ q in cc

  -- a stop is one beside memory
  pub stops-beside : (r : Registers) (words : List Written) → AreApart words → (reason : Reason)
      → one_in through r (put_in bytes words) ≡ Err reason → one_in beside r words ≡ Err reason
  stops-beside r words apart reason h =
      by_one (one_in beside r words) (sym (one-agrees words apart r).same ∙ h)
    where
      by_one : (o : Result (Registers × List Written) Reason) → lifted_both bytes o ≡ Err reason
          → o ≡ Err reason
      by_one (Ok x) q = cc
      by_one (Err other) q = cc

-- ---- the thread

-- What is said of a run that puts its words in memory, of which there were none, is said of the
-- thread.
module _ (s : Frames) (entries entries' : List (ℕ × Entry)) (t t' : ℕ) (owners : List Owner)
    (thread : t' ≡ t) (owners_are : owners ≡ map (owner_for t) s.owners)
    (space : entries' ≡ entries) (r after : Registers) (began end : List ℕ × List Written)
    (begins : began ≡ (joined s.pages, [])) (budget left : ℕ)
    (ran : GoesTo (run_answers (still t' owners entries') through_places) (budget - left) r began
    after end) where
  abbrev own : Still
  own = still_for t s.owners entries

  same-answers : run_answers (still t' owners entries') through_places
      ≡ through own (joined s.pages)
  same-answers =
      ap (λ x. run_answers (still x owners entries') through_places) thread
      ∙ ap (λ (os : List Owner). run_answers (still t os entries') through_places) owners_are
      ∙ ap (λ (es : List (ℕ × Entry)). run_answers (still t (map (owner_for t) s.owners) es)
      through_places) space

  went-beside : GoesBeside own (joined s.pages) (budget - left) r [] after end
  went-beside =
      goes-beside own (joined s.pages) (budget - left) r [] none-apart after end
      (ap (after_in (through own (joined s.pages)) (budget - left) r) (sym begins)
      ∙ ap (λ (a : MemoryAnswers (List ℕ × List Written)). after_in a (budget - left) r began)
      (sym same-answers)
      ∙ ran)

  -- the words that it left were put in memory
  pub through-puts : (bytes : List ℕ) (words : List Written) → end.0 ≡ bytes → end.1 ≡ words
      → bytes ≡ words_put (joined s.pages) words
  through-puts bytes words bytes_are words_are =
      sym bytes_are ∙ ap (λ (m : List ℕ × List Written). m.0) went-beside.puts
      ∙ ap (words_put (joined s.pages)) words_are

  pub through-over : (words : List Written) → end.1 ≡ words → (stop : Option Reason)
      → left ≤ budget
      → MatchOption stop (left ≡ 0) (λ reason. (0 < left)
      × (one_in (run_answers (still t' owners entries') through_places) after end ≡ Err reason))
      → RanOver s entries t r after [] words budget left 0 stop
  through-over words is stop within ended =
      ran-over s entries t (beside own (joined s.pages)) refl r after [] [] words end.1 refl is
      budget left 0 stop within went-beside.goes_to (by_stop stop ended)
    where
      by_stop : (stop : Option Reason)
          → MatchOption stop (left ≡ 0) (λ reason. (0 < left)
          × (one_in (run_answers (still t' owners entries') through_places) after end
          ≡ Err reason))
          → MatchOption stop (left ≡ 0) (λ reason. (0 < left)
          × (one_in (beside own (joined s.pages)) after end.1 ≡ Err reason))
      by_stop None none = none
      by_stop (Some reason) why = (
        why.0,
        stops-beside own (joined s.pages) after end.1 went-beside.apart reason
            (ap (one_in (through own (joined s.pages)) after) (sym went-beside.puts)
            ∙ ap (λ (a : MemoryAnswers (List ℕ × List Written)). one_in a after end)
            (sym same-answers)
            ∙ why.1),
      )
