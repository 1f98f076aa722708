-- The moves of a round.
use Rattle.std.proofs.Common.{ℕ, zero, suc, ◌+◌, ◌-◌, ◌≡◌, refl, sym, ap, ◌∙◌, subst, Bool, true}
use Rattle.std.proofs.Common.{false, cond, List, [], ◌∷◌, Option, Some, None, if◌then◌else◌, ◌||◌}
use Rattle.std.proofs.Common.{nat_le}
use Rattle.std.proofs.Common.{option_map}
use Rattle.dos_world.specs.Numbered.{changed, changed_at, places_from, numbers_of}
use Rattle.dos_world.specs.World.{World, Thread, live_threads, ready_threads, is_state}
use Rattle.dos_world.specs.Signals.{signalled, ripen}
use Rattle.dos_world.specs.Play.{Play, Answer, done, ask, ◌>>=◌, posts_of}
use Rattle.dos_world.specs.declared.Ending.TheVariants.{Done, Stalled}
use Rattle.dos_world.specs.declared.Question.TheVariants.{Signals}
use Rattle.dos_world.specs.declared.Scheme.TheVariants.{Ownership}
use Rattle.dos_world.specs.declared.ThreadState.TheVariants.{Ready}
use Rattle.dos_world.proofs.PlayLaws.{then_assoc}
use Rattle.flat_machine.specs.Rest.{serial_of}
use Rattle.flat_machine.specs.Round.{RoundEnd, went, finished, stalled, all_alone, parallel}
use Rattle.flat_machine.specs.Round.{counted}
use Rattle.flat_machine.specs.Round.{with_budgets, with_budget, budgets, is_none_of, phases, begun}
use Rattle.flat_machine.specs.Round.{round_of}
use Rattle.group_moves.specs.Places.{Scene, between_rounds, at_end, before_parts, to_parts}
use Rattle.group_moves.specs.Places.{to_rests}
use Rattle.group_moves.specs.Moves.{MoveKind, begins, begun_scene, answered_scene}
use Rattle.group_moves.specs.Moments.{Moment, moment_at, settled_scene, kind_at}
use Rattle.group_moves.specs.Laws.{scene_of}
use Rattle.group_moves.proofs.Leading.{Led, nowhere, move_led, then_led}
use Rattle.group_moves.proofs.Parts.{parts_led}
use Rattle.group_moves.proofs.Rests.{rests_led}

-- ---- a change of budgets leaves who is ready

-- the same numbers, where a change leaves the test
places_same : {A : Type 0} (f : A → A) (test : A → Bool) → ((x : A) → test (f x) ≡ test x)
    → (xs : List A) (i n : ℕ) → places_from n test (changed_at f xs i) ≡ places_from n test xs
places_same f test same [] i n = refl
places_same f test same (x ∷ xs) zero n =
    ap (λ (b : Bool). let rest = places_from (suc n) test xs in cond b (n ∷ rest) rest) (same x)
places_same f test same (x ∷ xs) (suc i) n =
    ap (λ rest. cond (test x) (n ∷ rest) rest) (places_same f test same xs i (suc n))

numbers_same : {A : Type 0} (f : A → A) (test : A → Bool) → ((x : A) → test (f x) ≡ test x)
    → (xs : List A) (t : ℕ) → numbers_of test (changed f xs t) ≡ numbers_of test xs
numbers_same f test same xs zero = refl
numbers_same f test same xs (suc i) = places_same f test same xs i 1

ready_kept : (w : World) (ts : List ℕ) → ready_threads (with_budgets w ts) ≡ ready_threads w
ready_kept w [] = refl
ready_kept w (t ∷ ts) = ready_kept _ ts ∙ numbers_same _ (is_state Ready) same w.threads t
  where
    same : (o : Option Thread)
        → is_state Ready (option_map (with_budget w.quantum) o) ≡ is_state Ready o
    same None = refl
    same (Some thread) = refl

-- ---- the phases, and what begins them

abbrev ended : RoundEnd → Play Scene
ended end = done (scene_of end)

module _ (limit begun_now : ℕ) where
  phases_led : (w : World) (answers : List Answer) (made : ℕ)
      → Led limit answers
      (moment_at begun_now made
      (to_parts (with_budgets w (ready_threads w)) (ready_threads w) (ready_threads w)))
      begun_now (phases Ownership w (ready_threads w) >>= ended)
  phases_led w answers made =
      subst (Led limit answers start begun_now)
      (sym (then_assoc (serial_of (parallel opened) starters)
      (λ last. done (went (counted last) (work (parallel opened)))) ended))
      (subst
      (λ ts. Led limit answers start begun_now
      (serial_of (all_alone opened ts) starters >>= λ last. done (counted last, between_rounds)))
      (sym (ready_kept w starters))
      (then_led limit answers start begun_now (done (all_alone opened starters))
      (λ v. to_rests v starters starters)
      (λ v. serial_of v starters >>= λ last. done (counted last, between_rounds))
      (parts_led limit begun_now starters starters opened answers made)
      (λ v rest made given. rests_led limit begun_now starters starters v rest made)))
    where
      starters : List ℕ
      starters = ready_threads w

      opened : World
      opened = with_budgets w starters

      work : World → ℕ
      work halfway = budgets opened starters - budgets halfway starters

      start : Moment
      start = moment_at begun_now made (to_parts opened starters starters)

  begun_led : (w : World) (answers : List Answer) (made : ℕ)
      → Led limit answers (moment_at begun_now made (settled_scene (begun_scene w))) begun_now
      (begun Ownership w >>= ended)
  begun_led w answers made = by_live (is_none_of (live_threads w))
    where
      by_ready : (x : Bool)
          → Led limit answers
          (moment_at begun_now made
          (settled_scene
          (if x then (w, at_end Stalled) else
          (with_budgets w (ready_threads w), before_parts (ready_threads w) (ready_threads w)))))
          begun_now
          ((if x then done (stalled w) else phases Ownership w (ready_threads w)) >>= ended)
      by_ready true = nowhere limit answers begun_now made (w, at_end Stalled)
      by_ready false = phases_led w answers made

      by_live : (x : Bool)
          → Led limit answers
          (moment_at begun_now made
          (settled_scene
          (if x then (w, at_end Done) else
          if is_none_of (ready_threads w) then (w, at_end Stalled) else
          (with_budgets w (ready_threads w), before_parts (ready_threads w) (ready_threads w)))))
          begun_now
          ((if x then done (finished w) else
          (if is_none_of (ready_threads w) then done (stalled w) else phases Ownership w
          (ready_threads w)))
          >>= ended)
      by_live true = nowhere limit answers begun_now made (w, at_end Done)
      by_live false = by_ready (is_none_of (ready_threads w))

-- ---- a round

pub round_led : (limit begun_now made : ℕ) (w : World) (answers : List Answer)
    → kind_at limit (moment_at begun_now made (w, between_rounds)) ≡ Some begins
    → Led limit answers (moment_at begun_now made (w, between_rounds)) (begun_now + 1)
    (round_of Ownership w >>= ended)
round_led limit begun_now made w answers next = by_live (is_none_of (live_threads w)) next
  where
    here : Moment
    here = moment_at begun_now made (w, between_rounds)

    by_live : (x : Bool)
        → ◌≡◌ {A = Option MoveKind} (if x || nat_le limit begun_now then None else Some begins)
        (Some begins)
        → Led limit answers here (begun_now + 1)
        ((if x then done (finished w) else
        ask (Signals (w.rounds + 1)) w.output w.error
        (λ answer. begun Ownership (ripen (signalled w (posts_of answer))))) >>= ended)
    by_live true h = absurd (none≢some h)
      where
        none≢some : ◌≡◌ {A = Option MoveKind} None (Some begins) → ⊥
        none≢some h = cc
    by_live false h =
        then_led limit answers here (begun_now + 1)
        (ask (Signals (w.rounds + 1)) w.output w.error (λ answer. done answer))
        (λ answer. settled_scene (answered_scene w answer))
        (λ answer. begun Ownership (ripen (signalled w (posts_of answer))) >>= ended)
        (move_led limit answers here begins (begun_now + 1) 0 next (λ scene. refl))
        (λ answer rest made given.
        begun_led limit (begun_now + 1) (ripen (signalled w (posts_of answer))) rest made)
