-- Instructions at none of some addresses, by one more.
use Rattle.std.proofs.Common.{ℕ, Bool, ◌+◌, ◌-◌, ◌/◌, ◌<◌, ◌≤◌, ◌≡◌, ◌⊎◌, inl, inr, sym, ap, ◌∙◌}
use Rattle.std.proofs.Common.{arith, true, false, List, refl}
use Rattle.std.proofs.lemmas.Bool.{cases_lt, eq-eqb, eqb-true, true≢false}
use Rattle.std.proofs.lemmas.List.Folds.{Any-from_list_any, list_any-from_Any}
use Rattle.std.specs.List.{list_any}
use Rattle.std.specs.Prelude.{◌==◌, Any}
use Rattle.dos_world.specs.World.{World, Registers}
use Rattle.flat_machine.specs.Over.{MemoryAnswers}
use Rattle.rv_exec.specs.Runs.{GoesTo, after_in}
use Rattle.quantum_run.specs.Finding.{page_start}
use Rattle.quantum_run.specs.ThreadRuns.{AreElsewhere, AreOutside, Reaches, StartsElsewhere}
use Rattle.quantum_run.specs.ThreadRuns.{is_stop_at}
use Rattle.quantum_run.proofs.RunSteps.{Some-both, goes-then}

-- before the first step of a thread
pub none-yet : (stops : List ℕ) (count : ℕ) (w : World) (t : ℕ) → count ≡ 0
    → StartsElsewhere stops count w t
none-yet stops count w t none = λ made u less is. absurd (omega (arith, none, less))

module _ {M : Type 0} (answers : MemoryAnswers M) (stops : List ℕ) (r0 : Registers) (m : M) where
  -- before the first
  pub none-made : (count : ℕ) → count ≡ 0 → AreElsewhere answers stops count r0 m
  none-made count none = λ made after u less is. absurd (omega (arith, none, less))

  -- the one that these registers are in front of is elsewhere, and so are all before it
  pub one-elsewhere : (shows : M → Type 0) (r : Registers) (n all : ℕ) → all ≡ n + 1
      → is_stop_at stops r.pc ≡ false → Reaches answers shows r0 m r n
      → AreElsewhere answers stops n r0 m → AreElsewhere answers stops all r0 m
  one-elsewhere shows r n all count elsewhere reached before =
      λ made after u less is. by_place made after u less is (cases_lt made n)
    where
      by_place : (made : ℕ) (after : Registers) (u : M) → made < all
          → GoesTo answers made r0 m after u → (made < n) ⊎ (n ≤ made)
          → is_stop_at stops after.pc ≡ false
      by_place made after u less is (inl early) = before made after u early is
      by_place made after u less is (inr late) =
          let last : made ≡ n = omega (arith, less, late, count) in
          let here = Some-both answers
          (sym reached.ran ∙ ap (λ i. after_in answers i r0 m) (sym last) ∙ is) in
          ap (λ (x : Registers × M). is_stop_at stops x.0.pc) (sym here) ∙ elsewhere

  -- from where others led, the next ones
  pub then-elsewhere : (shows : M → Type 0) (r : Registers) (n k all : ℕ) → all ≡ n + k
      → (reached : Reaches answers shows r0 m r n) → AreElsewhere answers stops k r reached.now
      → AreElsewhere answers stops n r0 m → AreElsewhere answers stops all r0 m
  then-elsewhere shows r n k all count reached next before =
      λ made after u early is. by_place made after u early is (cases_lt made n)
    where
      by_place : (made : ℕ) (after : Registers) (u : M) → made < all
          → GoesTo answers made r0 m after u → (made < n) ⊎ (n ≤ made)
          → is_stop_at stops after.pc ≡ false
      by_place made after u early is (inl first) = before made after u first is
      by_place made after u early is (inr late) =
          let split : made ≡ n + (made - n) = omega (arith, late) in
          next (made - n) after u (omega (arith, early, late, count))
          (sym (goes-then answers n (made - n) r0 m r reached.now reached.ran)
          ∙ ap (λ i. after_in answers i r0 m) (sym split) ∙ is)

-- no address of a page is one of these, none of which is in it
no-stop : (stops : List ℕ) (pc a : ℕ) → page_start a ≡ page_start pc
    → list_any (λ (stop : ℕ). stop / 4096 == pc / 4096) stops ≡ false
    → is_stop_at stops a ≡ false
no-stop stops pc a same none = by_answer (is_stop_at stops a) refl
  where
    found : Any (λ (stop : ℕ). (stop == a) ≡ true) stops
        → Any (λ (stop : ℕ). (stop / 4096 == pc / 4096) ≡ true) stops
    found any = (
      any.0,
      any.1,
      any.2,
      any.3,
      eq-eqb (any.1 / 4096) (pc / 4096)
          (ap (λ k. k / 4096) (eqb-true any.1 a any.4) ∙ omega (arith, same)),
    )

    by_answer : (b : Bool) → is_stop_at stops a ≡ b → is_stop_at stops a ≡ false
    by_answer false is = is
    by_answer true is = absurd (true≢false (sym (list_any-from_Any
        (λ (stop : ℕ). stop / 4096 == pc / 4096) stops
        (found (Any-from_list_any (λ (stop : ℕ). stop == a) stops is))) ∙ none))

pub outside-page : (stops : List ℕ) (pc : ℕ)
    → list_any (λ (stop : ℕ). stop / 4096 == pc / 4096) stops ≡ false
    → AreOutside stops (page_start pc)
outside-page stops pc none = λ a same. no-stop stops pc a same none
