-- Laws of what asks, over lists of answers.
use Rattle.std.proofs.Common.{ℕ, ◌≡◌, refl, ap, List, [], ◌∷◌, ◌++◌}
use Rattle.dos_world.specs.Play.{Play, Answer, done, ask, ◌>>=◌, Outcome, gives, asks, over}
use Rattle.dos_world.specs.Play.{questions}
use Rattle.dos_world.specs.Laws.{after, unused, over_then}
use Rattle.dos_world.specs.declared.Question.{Question}

-- more answers go on where the first ran out
pub over-append : {A : Type 0} (first more : List Answer) (p : Play A)
    → over (first ++ more) p ≡ over (unused first p ++ more) (after first p)
over-append first more (done a) = refl
over-append [] more (ask question output error next) = refl
over-append (answer ∷ first) more (ask question output error next) =
    over-append first more (next answer)

-- first one thing and then another: over all answers, or from where the first was done
pub over-then : {A B : Type 0} (answers : List Answer) (p : Play A) (f : A → Play B)
    → over answers (p >>= f) ≡ over_then (over answers p) f
over-then answers (done a) f = refl
over-then [] (ask question output error next) f = refl
over-then (answer ∷ answers) (ask question output error next) f = over-then answers (next answer) f

-- first this, then that, then the third
pub then_assoc : {A B C : Type 0} (p : Play A) (f : A → Play B) (g : B → Play C)
    → (p >>= f) >>= g ≡ p >>= (λ a. f a >>= g)
then_assoc (done a) f g = refl
then_assoc (ask question output error next) f g =
    λ i. ask question output error (λ answer. then_assoc (next answer) f g i)

-- the question that is asked where the answers run out is the last of the questions
pub asks-last : {A : Type 0} (answers : List Answer) (p : Play A) (question : Question)
    (output error : List ℕ) → over answers p ≡ asks question output error
    → (before : List Question) × (questions answers p ≡ before ++ question ∷ [])
asks-last answers (done a) question output error h = absurd (gives≢asks h)
  where
    gives≢asks : {A : Type 0} {a : A} {rest : List Answer} {q : Question} {o e : List ℕ}
        → ◌≡◌ {A = Outcome A} (gives a rest) (asks q o e) → ⊥
    gives≢asks h = cc
asks-last {A} [] (ask q o e next) question output error h = ([], ap (λ x. x ∷ []) (same h))
  where
    same : ◌≡◌ {A = Outcome A} (asks q o e) (asks question output error) → q ≡ question
    same h = cc
asks-last (answer ∷ answers) (ask q o e next) question output error h =
    let r = asks-last answers (next answer) question output error h in
    (q ∷ r.0, ap (λ xs. q ∷ xs) r.1)
