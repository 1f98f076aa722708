-- A pack with words: what its run needs, and what that comes to.
use Rattle.std.proofs.Common.{ℕ, zero, suc, [], ◌∷◌, IfSome, ◌+◌, ◌-◌, ◌<◌, ◌≤◌, ◌≡◌, ◌≢◌, ◌⊎◌, inl}
use Rattle.std.proofs.Common.{inr, ◌∙◌, sym, ap, subst, refl, true, false, List, map, is_some}
use Rattle.std.proofs.Common.{length, ◌++◌, Option, Some, None, option_map, Result, Ok, Err, arith}
use Rattle.std.specs.Prelude.{All, IsSome, MatchOption, slice_index_or}
use Rattle.std.proofs.lemmas.List.Elements.{All-cons, All-head, All-nil, All-tail}
use Rattle.dos_world.specs.World.{World, Holdings, Registers, is_free, look}
use Rattle.dos_world.specs.declared.Entry.{Entry}
use Rattle.dos_world.specs.declared.Owner.{Owner}
use Rattle.dos_world.specs.declared.Owner.TheVariants.{Free, Shared, Of}
use Rattle.dos_world.specs.declared.Reason.{Reason}
use Rattle.page_store.specs.Store.{AreHome, Store, joined, whole}
use Rattle.page_store.proofs.Pages.{length-whole, whole-same}
use Rattle.proc_table.specs.Tables.{Tables, held_in}
use Rattle.flat_machine.specs.Buffered.{Part, buffer_answers, part, part_from}
use Rattle.flat_machine.specs.Over.{one_in}
use Rattle.rv_exec.specs.Runs.{GoesTo}
use Rattle.written_words.specs.declared.Written.{Written}
use Rattle.quantum_run.specs.Buffering.{HasWritten, RanOver, SeesFrames}
use Rattle.quantum_run.specs.Packs.{view_of}
use Rattle.quantum_run.specs.Shows.{Pack, View, CanRunWriting, LeadsTo, RanFor, RanForWriting}
use Rattle.quantum_run.specs.Shows.{RanOut, RanOutWriting, Sees, pack_left}
use Rattle.quantum_run.specs.Shows.{has_words, with_part_of}
use Rattle.quantum_run.specs.ThreadRuns.{AreMapped}
use Rattle.quantum_run.proofs.Buffers.{part-goes, part-stops}
use Rattle.quantum_run.proofs.Finishing.{Some-some}
use Rattle.quantum_run.proofs.Keeping.{packing}
use Rattle.quantum_run.proofs.Ready.{space-entries}

-- ---- parts

same-words : {a b : List Written} → ◌≡◌ {A = Option (List Written)} (Some a) (Some b) → a ≡ b
same-words q = cc

-- a part takes no more of the budget than there is
part-within : (w : World) (t n : ℕ) (r : Registers) (words : List Written)
    → (part_from w t n r words).budget ≤ n
part-within w t zero r words = omega arith
part-within w t (suc n) r words =
    by_one (λ x. part-within w t n x.0 x.1) (one_in (buffer_answers w t) r words)
  where
    by_one : ((x : Registers × List Written) → (part_from w t n x.0 x.1).budget ≤ n)
        → (o : Result (Registers × List Written) Reason)
        → (elim o as (λ _. Part) [
          | Ok next ↦ part_from w t n next.0 next.1
          | Err reason ↦ part r (suc n) words
        ]).budget ≤ suc n
    by_one later (Ok x) = let rest = later x in omega (arith, rest)
    by_one later (Err reason) = omega arith

-- a part of so many and some more instructions
part-more : (w : World) (t n m : ℕ) (r : Registers) (words : List Written)
    → part_from w t (n + m) r words
    ≡ (let q : Part = part_from w t n r words in
    let after : Part = part_from w t m q.registers q.words in
    part after.registers (q.budget + after.budget) after.words)
part-more w t zero m r words =
    let after : Part = part_from w t m r words in
    let front : 0 + m ≡ m = omega arith in
    let sum : after.budget ≡ 0 + after.budget = omega arith in
    ap (λ k. part_from w t k r words) front ∙ ap (λ k. part after.registers k after.words) sum
part-more w t (suc n) m r words =
    let next : suc n + m ≡ suc (n + m) = omega arith in
    ap (λ k. part_from w t k r words) next
    ∙ by_one (λ x. part-more w t n m x.0 x.1) (one_in (buffer_answers w t) r words) refl
  where
    all : ℕ → Result (Registers × List Written) Reason → Part
    all k o = elim o as (λ _. Part) [
      | Ok next ↦ part_from w t k next.0 next.1
      | Err reason ↦ part r (suc k) words
    ]

    both : Part → Part
    both q =
        let after : Part = part_from w t m q.registers q.words in
        part after.registers (q.budget + after.budget) after.words

    by_one : ((x : Registers × List Written)
        → part_from w t (n + m) x.0 x.1 ≡ both (part_from w t n x.0 x.1))
        → (o : Result (Registers × List Written) Reason)
        → one_in (buffer_answers w t) r words ≡ o
        → all (n + m) (one_in (buffer_answers w t) r words)
        ≡ both (all n (one_in (buffer_answers w t) r words))
    by_one later (Ok x) is =
        ap (all (n + m)) is ∙ later x ∙ ap (λ o. both (all n o)) (sym is)
    by_one later (Err reason) is =
        let more : suc (n + m) ≡ suc n + m = omega arith in
        ap (all (n + m)) is
        ∙ ap (λ k. part r k words) more
        ∙ ap (λ (q : Part). part q.registers (suc n + q.budget) q.words)
        (sym (part-stops w t m r words reason is))
        ∙ ap (λ o. both (all n o)) (sym is)

-- ---- slices

-- what an instruction took twice is what it took at once
pub slices-writing : (n m : ℕ) (p q r : Pack) (v : View) → RanForWriting n p v q
    → RanForWriting m q v r → RanForWriting (n + m) p v r
slices-writing n m p q r v first second = λ words is w sees.
    let one : Part = part_from w p.thread n p.registers words in
    let there : Pack = with_part_of p (n - one.budget) one in
    let at : q ≡ there = first words is w sees in
    let ran : RanForWriting m there v r = subst (λ (x : Pack). RanForWriting m x v r) at second in
    let two : Part = part_from w p.thread m one.registers one.words in
    let seen : Sees there v w =
    record { owners = sees.owners; bytes = sees.bytes; space = sees.space } in
    let rest : p.budget - (n - one.budget) - (m - two.budget)
    ≡ p.budget - (n + m - (one.budget + two.budget)) =
    omega (
      arith,
      part-within w p.thread n p.registers words,
      part-within w p.thread m one.registers one.words,
    ) in
    ran one.words refl w seen
    ∙ ap (λ k. pack_left p (part two.registers k two.words)) rest
    ∙ ap (λ (x : Part). with_part_of p (n + m - x.budget) x)
    (sym (part-more w p.thread n m p.registers words))

-- the whole budget
pub out-is-for : (p q : Pack) (v : View) → RanOutWriting p v q → RanForWriting p.budget p v q
out-is-for p q v out = λ words is w sees.
    let all : Part = part_from w p.thread p.budget p.registers words in
    let rest : all.budget ≡ p.budget - (p.budget - all.budget) =
    omega (arith, part-within w p.thread p.budget p.registers words) in
    out words is w sees ∙ ap (λ k. pack_left p (part all.registers k all.words)) rest

-- and nothing of it
pub for-nothing : (p : Pack) (v : View) → RanForWriting 0 p v p
for-nothing p v = λ words is w sees.
    let all : p.budget ≡ p.budget - 0 = omega arith in
    ap (λ ws. record p { words = ws }) is
    ∙ ap (λ k. pack_left p (part p.registers k words)) all

-- ---- what is seen

pub joined-whole : (pages : List (Option (List ℕ)))
    → joined (map (option_map whole) pages) ≡ joined pages
unfolding joined
joined-whole [] = refl
joined-whole (None ∷ pages) = ap (λ xs. whole [] ++ xs) (joined-whole pages)
joined-whole (Some page ∷ pages) =
    ap (λ xs. xs ++ joined (map (option_map whole) pages))
    (whole-same (whole page) (length-whole page))
    ∙ ap (λ xs. whole page ++ xs) (joined-whole pages)

home-from : (pages : List (Option (List ℕ))) → All IsSome (map (option_map whole) pages)
    → All IsSome pages
home-from [] all = All-nil IsSome
home-from (None ∷ pages) all =
    absurd (never (All-head IsSome None (map (option_map whole) pages) all))
  where
    never : false ≡ true → ⊥
    never q = cc
home-from (Some page ∷ pages) all =
    All-cons IsSome (Some page) pages refl
    (home-from pages (All-tail IsSome (Some (whole page)) (map (option_map whole) pages) all))

used : (o : Owner) → o ≢ Free → is_free o ≡ false
used (Of t) some = refl
used Shared some = refl
used Free some = absurd (some refl)

-- a run that stopped, or that came down to a floor of 0
part-ended : (w : World) (t : ℕ) (r : Registers) (words : List Written) (left floor : ℕ)
    (stop : Option Reason) (B : Reason → Type 0)
    → ((reason : Reason) → B reason → one_in (buffer_answers w t) r words ≡ Err reason)
    → (is_some stop ≡ true) ⊎ (floor ≡ 0)
    → MatchOption stop (left ≡ floor) (λ reason. (0 < left) × B reason)
    → part_from w t left r words ≡ part r left words
part-ended w t r words left floor None B why (inl never) stops = cc
part-ended w t r words left floor None B why (inr bottom) stops =
    let none : left ≡ 0 = stops ∙ bottom in
    ap (λ n. part_from w t n r words) none ∙ ap (λ n. part r n words) (sym none)
part-ended w t r words left floor (Some reason) B why out stops =
    part-stops w t left r words reason (why reason stops.1)

module _ (frames : Store) (tables : Tables) (entries : List (ℕ × Entry)) (p : Pack)
    (found : IfSome (held_in tables.processes p.process) (λ (h : Holdings). entries ≡ h.space))
    (can : CanRunWriting p (view_of frames tables))
    (as_many : length frames.owners ≡ length frames.pages) where
  abbrev view : View
  view = view_of frames tables

  same-space : entries ≡ can.entries
  same-space = space-entries tables.processes p.process can.entries entries can.space found

  pub ready-home : AreHome frames
  ready-home = home-from frames.pages can.home

  pub ready-mapped : AreMapped frames entries
  ready-mapped = λ page e at.
      let m = can.mapped page e (ap (λ es. look es page) (sym same-space) ∙ at) in (
        omega (arith, m.0, as_many),
        used (slice_index_or frames.owners e.frame Free) m.1,
      )

  sees-frames : (w : World) → Sees p view w → SeesFrames frames entries p.thread w
  sees-frames w sees = record {
    bytes = sees.bytes ∙ joined-whole frames.pages;
    owners = sym sees.owners;
    space = Some-some (sym sees.space ∙ can.space) ∙ sym same-space;
  }

  module _ (words : List Written) (was : p.words ≡ Some words) (r : Registers)
      (now : List Written) (left floor : ℕ) (stop : Option Reason)
      (over : RanOver frames entries p.thread p.registers r words now p.budget left floor stop)
    where
      abbrev later : Pack
      later = record p { registers = r; budget = left; words = Some now }

      has : has_words p ≡ false → ⊥
      has none = never (sym none ∙ ap is_some was)
        where
          never : false ≡ true → ⊥
          never q = cc

      -- from where the run ended the part goes on
      led : (ws : List Written) → p.words ≡ Some ws → (w : World) → Sees p view w
          → part_from w p.thread p.budget p.registers ws ≡ part_from w p.thread left r now
      led ws same w sees =
          let rest : p.budget - (p.budget - left) ≡ left = omega (arith, over.within) in
          ap (λ (xs : List Written). part_from w p.thread p.budget p.registers xs)
          (same-words (sym same ∙ was))
          ∙ part-goes w p.thread (p.budget - left) p.budget p.registers r words now
          (omega (arith, over.within)) (over.ran w (sees-frames w sees))
          ∙ ap (λ n. part_from w p.thread n r now) rest

      pub words-out : (is_some stop ≡ true) ⊎ (floor ≡ 0) → RanOut p view later
      words-out out = record {
        scheme = sym (ap is_some was);
        owning = λ none. absurd (has none);
        writing = λ ws same w sees.
            ap (pack_left p)
            (sym (led ws same w sees
            ∙ part-ended w p.thread r now left floor stop
            (λ reason. (u : World) → SeesFrames frames entries p.thread u
            → one_in (buffer_answers u p.thread) r now ≡ Err reason)
            (λ reason why. why w (sees-frames w sees)) out over.stops));
      }

      pub words-lead : LeadsTo p view later
      words-lead = record {
        scheme = sym (ap is_some was);
        leads = λ after out. record {
          scheme = out.scheme ∙ sym (ap is_some was);
          owning = λ none. absurd (has none);
          writing = λ ws same w sees.
              out.writing now refl w
              (record { owners = sees.owners; bytes = sees.bytes; space = sees.space })
              ∙ ap (pack_left p) (sym (led ws same w sees));
        };
      }

      pub words-part : (most : ℕ) → p.budget - left ≡ most → RanFor most p view later
      words-part most count = record {
        owning = λ none. absurd (has none);
        writing = λ ws same w sees.
            let none : most - most ≡ 0 = omega arith in
            let all : part_from w p.thread most p.registers ws ≡ part r 0 now =
            ap (λ (xs : List Written). part_from w p.thread most p.registers xs)
            (same-words (sym same ∙ was))
            ∙ part-goes w p.thread most most p.registers r words now (omega arith)
            (subst (λ n. GoesTo (buffer_answers w p.thread) n p.registers words r now) count
            (over.ran w (sees-frames w sees)))
            ∙ ap (λ n. part_from w p.thread n r now) none in
            let took : left ≡ p.budget - (most - 0) = omega (arith, count, over.within) in
            ap (λ k. pack_left p (part r k now)) took
            ∙ ap (λ (x : Part). with_part_of p (most - x.budget) x) (sym all);
      }

-- the same, as the code leaves the pack
module _ (t pid : ℕ) (r : Registers) (budget : ℕ) (pages : List (ℕ × List ℕ)) (room : ℕ)
    (ws : Option (List Written)) (frames : Store) (tables : Tables) (entries : List (ℕ × Entry))
    (found : IfSome (held_in tables.processes pid) (λ (h : Holdings). entries ≡ h.space))
    (p : Pack) (is : packing t pid r budget ws pages room ≡ p)
    (able : CanRunWriting p (view_of frames tables))
    (as_many : length frames.owners ≡ length frames.pages)
    (begun : Registers) (begins : begun ≡ r) (r' : Registers) (after : Option (List Written))
    (left floor : ℕ) (stop : Option Reason)
    (ran : HasWritten frames entries t begun r' ws after budget left floor stop) where
  abbrev before : Pack
  before = packing t pid r budget ws pages room

  can : CanRunWriting before (view_of frames tables)
  can = subst (λ (q : Pack). CanRunWriting q (view_of frames tables)) (sym is) able

  over : RanOver frames entries t r r' ran.before ran.later budget left floor stop
  over = subst (λ (x : Registers).
      RanOver frames entries t x r' ran.before ran.later budget left floor stop) begins ran.over

  -- what holds of the two packs
  of : (Said : Pack → Pack → Type 0)
      → Said before (packing t pid r' left (Some ran.later) pages room)
      → Said p (packing t pid r' left after pages room)
  of Said h =
      subst (λ (q : Pack). Said q (packing t pid r' left after pages room)) is
      (subst (λ (x : Option (List Written)). Said before (packing t pid r' left x pages room))
      (sym ran.is) h)

  pub written-out : (is_some stop ≡ true) ⊎ (floor ≡ 0)
      → RanOut p (view_of frames tables) (packing t pid r' left after pages room)
  written-out out = of (λ q x. RanOut q (view_of frames tables) x)
      (words-out frames tables entries before found can as_many ran.before ran.was r' ran.later
      left floor stop over out)

  pub written-lead : LeadsTo p (view_of frames tables) (packing t pid r' left after pages room)
  written-lead = of (λ q x. LeadsTo q (view_of frames tables) x)
      (words-lead frames tables entries before found can as_many ran.before ran.was r' ran.later
      left floor stop over)

  pub written-part : (most : ℕ) → budget - left ≡ most
      → RanFor most p (view_of frames tables) (packing t pid r' left after pages room)
  written-part most count = of (λ q x. RanFor most q (view_of frames tables) x)
      (words-part frames tables entries before found can as_many ran.before ran.was r' ran.later
      left floor stop over most count)
