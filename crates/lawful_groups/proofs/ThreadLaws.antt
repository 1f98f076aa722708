-- Threads by their list: what holds of each that lives, and who sleeps.
use Rattle.std.proofs.Common.{◌≡◌, ℕ, ◌+◌, ◌<◌, Bool, true, false}
use Rattle.std.proofs.Common.{◌||◌, List, [], ◌∷◌, refl, sym, ap, subst, ◌∙◌}
use Rattle.std.proofs.Common.{arith}
use Rattle.std.proofs.Common.{Option, Some, None}
use Rattle.std.specs.Prelude.{All, IfSome, ◌==◌, count_by, slice_index_or, is_some}
use Rattle.std.specs.List.{list_any}
use Rattle.std.proofs.lemmas.Bool.{eqb-true, true≢false}
use Rattle.std.proofs.lemmas.Bool.Decides.{nat_tests}
use Rattle.std.proofs.lemmas.List.{get_or_default}
use Rattle.std.proofs.lemmas.List.Elements.{All-nil, All-cons, All-head, All-tail}
use Rattle.dos_world.specs.World.{Thread, Sleeper}
use Rattle.dos_world.specs.Lawful.{turns_asleep}
use Rattle.proc_table.specs.Spread.{live_in, AreRising, IsThreadAt, no_thread_entry}
use Rattle.proc_table.specs.Spread.{thread_number_at}
use Rattle.proc_table.proofs.Spread.{in_at}
use Rattle.lawful_groups.proofs.FrameLaws.{any_counted, count-cons}

-- ---- each that lives

same_is : (n t : ℕ) → (n == t) ≡ true → n ≡ t
same_is n t e = eqb-true n t e

pub all_in_yes : (P : ℕ → Thread → Type 0) (live : List (ℕ × Thread))
    → All (λ e. P e.0 e.1) live → (t : ℕ) → IfSome (live_in live t) (P t)
all_in_yes P [] all t = tt
all_in_yes P (e ∷ live) all t =
    go (all_in_yes P live (All-tail (λ e. P e.0 e.1) e live all) t) (e.0 == t) refl
  where
    go : IfSome (live_in live t) (P t) → (b : Bool) → (e.0 == t) ≡ b
        → IfSome (live_in (e ∷ live) t) (P t)
    go rest true x =
        rw x (subst (λ n. P n e.1) (same_is e.0 t x) (All-head (λ e. P e.0 e.1) e live all))
    go rest false x = rw x rest

pub all_in_no : (P : ℕ → Thread → Type 0) (low high : ℕ) (live : List (ℕ × Thread))
    → AreRising low high live → ((t : ℕ) → IfSome (live_in live t) (P t))
    → All (λ e. P e.0 e.1) live
all_in_no P low high live rising each k d lt =
    let at : IsThreadAt live (thread_number_at live k) k = record { within = lt; is = refl } in
    let found = in_at low high live (thread_number_at live k) k rising at in
    let here : P (thread_number_at live k) (slice_index_or live k no_thread_entry).1 =
    subst (λ o. IfSome o (P (thread_number_at live k))) found (each (thread_number_at live k)) in
    subst (λ (e : ℕ × Thread). P e.0 e.1) (get_or_default live k no_thread_entry d lt) here

pub nobody : (live : List (ℕ × Thread)) (t : ℕ) → live_in live t ≡ None
    → list_any (λ e. e.0 == t) live ≡ false
nobody [] t none = refl
nobody (e ∷ live) t none = go (nobody live t) (e.0 == t) refl
  where
    go : (live_in live t ≡ None → list_any (λ e. e.0 == t) live ≡ false) → (b : Bool)
        → (e.0 == t) ≡ b → list_any (λ e. e.0 == t) (e ∷ live) ≡ false
    go later true x =
        let some : live_in (e ∷ live) t ≡ Some e.1 = rw x refl in
        let z : Some e.1 ≡ None = sym some ∙ none in absurd cc
    go later false x =
        let rest : live_in (e ∷ live) t ≡ live_in live t = rw x refl in
        rw x (later (sym rest ∙ none))

pub somebody : (live : List (ℕ × Thread)) (t : ℕ) → is_some (live_in live t) ≡ true
    → list_any (λ e. e.0 == t) live ≡ true
somebody [] t some = absurd (true≢false (sym some))
somebody (e ∷ live) t some = go (somebody live t) (e.0 == t) refl
  where
    go : (is_some (live_in live t) ≡ true → list_any (λ e. e.0 == t) live ≡ true) → (b : Bool)
        → (e.0 == t) ≡ b → list_any (λ e. e.0 == t) (e ∷ live) ≡ true
    go later true x = rw x refl
    go later false x =
        let rest : live_in (e ∷ live) t ≡ live_in live t = rw x refl in
        rw x (later (sym (ap is_some rest) ∙ some))

-- ---- who sleeps

abbrev pub SleepsOnce : List Sleeper → ℕ → Thread → Type 0
SleepsOnce sleepers t thread =
    count_by (λ s. s.thread == t) sleepers ≡ turns_asleep (Some thread)

abbrev pub IsKnown : List (ℕ × Thread) → Sleeper → Type 0
IsKnown live s = list_any (λ e. e.0 == s.thread) live ≡ true

no_turns : (live : List (ℕ × Thread)) (sleepers : List Sleeper) (t : ℕ)
    → All (IsKnown live) sleepers → list_any (λ e. e.0 == t) live ≡ false
    → count_by (λ s. s.thread == t) sleepers ≡ 0
no_turns live [] t all none = refl
no_turns live (s ∷ sleepers) t all none =
    go (no_turns live sleepers t (All-tail (IsKnown live) s sleepers all) none) (s.thread == t) refl
  where
    go : count_by (λ s. s.thread == t) sleepers ≡ 0 → (b : Bool) → (s.thread == t) ≡ b
        → count_by (λ s. s.thread == t) (s ∷ sleepers) ≡ 0
    go rest true x =
        let known : list_any (λ e. e.0 == t) live ≡ true =
        subst (λ n. list_any (λ e. e.0 == n) live ≡ true) (same_is s.thread t x)
        (All-head (IsKnown live) s sleepers all) in
        absurd (true≢false (sym known ∙ none))
    go rest false x =
        count-cons (λ (s : Sleeper). s.thread == t) s sleepers
        ∙ rw x (ap (λ n. 0 + n) rest)

pub asleep_yes : (live : List (ℕ × Thread)) (sleepers : List Sleeper)
    → All (λ e. SleepsOnce sleepers e.0 e.1) live → All (IsKnown live) sleepers → (t : ℕ)
    → count_by (λ s. s.thread == t) sleepers ≡ turns_asleep (live_in live t)
asleep_yes live sleepers once known t = go (live_in live t) refl
  where
    go : (o : Option Thread) → live_in live t ≡ o
        → count_by (λ s. s.thread == t) sleepers ≡ turns_asleep (live_in live t)
    go None x = no_turns live sleepers t known (nobody live t x) ∙ sym (ap turns_asleep x)
    go (Some thread) x =
        let one : SleepsOnce sleepers t thread =
        subst (λ o. IfSome o (SleepsOnce sleepers t)) x
        (all_in_yes (SleepsOnce sleepers) live once t) in
        one ∙ sym (ap turns_asleep x)

pub asleep_no : (low high : ℕ) (live : List (ℕ × Thread)) (sleepers : List Sleeper)
    → AreRising low high live
    → ((t : ℕ) → count_by (λ s. s.thread == t) sleepers ≡ turns_asleep (live_in live t))
    → All (λ e. SleepsOnce sleepers e.0 e.1) live × All (IsKnown live) sleepers
asleep_no low high live sleepers rising each = (
  all_in_no (SleepsOnce sleepers) low high live rising once,
  known sleepers (λ t any. known_at t any),
)
  where
    once : (t : ℕ) → IfSome (live_in live t) (SleepsOnce sleepers t)
    once t = go (live_in live t) refl
      where
        go : (o : Option Thread) → live_in live t ≡ o
            → IfSome (live_in live t) (SleepsOnce sleepers t)
        go None x = rw x tt
        go (Some thread) x = rw x (each t ∙ ap turns_asleep x)

    known_at : (t : ℕ) → list_any (λ s. s.thread == t) sleepers ≡ true
        → list_any (λ e. e.0 == t) live ≡ true
    known_at t any = somebody live t (go (live_in live t) refl)
      where
        one : 0 < count_by (λ s. s.thread == t) sleepers
        one =
            let z = sym (any_counted (λ (s : Sleeper). s.thread == t) sleepers) ∙ any in
            grind (arith, nat_tests, z)

        go : (o : Option Thread) → live_in live t ≡ o → is_some (live_in live t) ≡ true
        go None x =
            let z : count_by (λ s. s.thread == t) sleepers ≡ 0 = each t ∙ ap turns_asleep x in
            absurd (omega (arith, z, one))
        go (Some thread) x = ap is_some x

    known : (more : List Sleeper)
        → ((t : ℕ) → list_any (λ s. s.thread == t) more ≡ true
        → list_any (λ e. e.0 == t) live ≡ true)
        → All (IsKnown live) more
    known [] f = All-nil (IsKnown live)
    known (s ∷ more) f =
        All-cons (IsKnown live) s more (f s.thread (itself s.thread more))
        (known more (λ t any. f t (later (s.thread == t) t more any)))
      where
        itself : (n : ℕ) (more : List Sleeper)
            → ((n == n) || list_any (λ s. s.thread == n) more) ≡ true
        itself n more = let z : (n == n) ≡ true = grind (arith, nat_tests) in rw z refl

        later : (b : Bool) (t : ℕ) (more : List Sleeper)
            → list_any (λ s. s.thread == t) more ≡ true
            → (b || list_any (λ s. s.thread == t) more) ≡ true
        later true t more any = refl
        later false t more any = any
