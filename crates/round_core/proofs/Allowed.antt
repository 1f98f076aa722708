-- Plays that keep to a protocol: one after another, over a list of answers, and with another
-- protocol.
use Rattle.std.proofs.Common.{ℕ, ◌≡◌, refl, subst, List, [], ◌∷◌}
use Rattle.std.specs.Prelude.{All}
use Rattle.std.proofs.lemmas.List.Elements.{All-head, All-tail}
use Rattle.dos_world.specs.Play.{Play, Answer, done, ask, ◌>>=◌, Outcome, gives, asks, over}
use Rattle.dos_world.specs.declared.Question.{Question}
use Rattle.round_core.specs.Protocol.{Protocol, Allows, IsSilent}

module _ (protocol : Protocol) where
  -- One play and then another.
  pub then_allows : {A B : Type 0} (P : A → Type 0) (R : B → Type 0) (play : Play A) (next : A
      → Play B)
      → Allows protocol P play → ((a : A) → P a → Allows protocol R (next a))
      → Allows protocol R (play >>= next)
  then_allows P R (done a) next g each = each a g
  then_allows P R (ask question output error after) next g each =
      (g.0, λ answer is. then_allows P R (after answer) next (g.1 answer is) each)

  -- Less is said of what it gives.
  pub allows_less : {A : Type 0} (P R : A → Type 0) (play : Play A)
      → ((a : A) → P a → R a) → Allows protocol P play → Allows protocol R play
  allows_less P R (done a) less g = less a g
  allows_less P R (ask question output error next) less g =
      (g.0, λ answer is. allows_less P R (next answer) less (g.1 answer is))

  -- Two things are said of it.
  pub allows_both : {A : Type 0} (P R : A → Type 0) (play : Play A)
      → Allows protocol P play → Allows protocol R play → Allows protocol (λ a. P a × R a) play
  allows_both P R (done a) g h = (g, h)
  allows_both P R (ask question output error next) g h =
      (g.0, λ answer is. allows_both P R (next answer) (g.1 answer is) (h.1 answer is))

  -- What it gives over answers that may come is so.
  pub over_allows : {A : Type 0} (P : A → Type 0) (given : List Answer) (play : Play A) (a : A)
      (rest : List Answer)
      → Allows protocol P play → All protocol.answers given → over given play ≡ gives a rest → P a
  over_allows {A} P given (done x) a rest g all e = subst P (same e) g
    where
      same : ◌≡◌ {A = Outcome A} (gives x given) (gives a rest) → x ≡ a
      same q = cc
  over_allows P [] (ask question output error next) a rest g all e = cc
  over_allows P (answer ∷ given) (ask question output error next) a rest g all e =
      over_allows P given (next answer) a rest
      (g.1 answer (All-head protocol.answers answer given all))
      (All-tail protocol.answers answer given all) e

  -- What it comes to: what it gives is so, or what it needs may be asked.
  abbrev pub Comes : {A : Type 0} → (A → Type 0) → Outcome A → Type 0
  Comes P (gives a rest) = P a
  Comes P (asks question output error) = protocol.may question output error

  pub over_comes : {A : Type 0} (P : A → Type 0) (given : List Answer) (play : Play A)
      → Allows protocol P play → All protocol.answers given → Comes P (over given play)
  over_comes P given (done x) g all = g
  over_comes P [] (ask question output error next) g all = g.0
  over_comes P (answer ∷ given) (ask question output error next) g all =
      over_comes P given (next answer)
      (g.1 answer (All-head protocol.answers answer given all))
      (All-tail protocol.answers answer given all)

  -- ---- where nothing may be asked

  pub allows_silent : {A : Type 0}
      → ((question : Question) (output error : List ℕ) → protocol.may question output error → ⊥)
      → (P : A → Type 0) (play : Play A) → Allows protocol P play → IsSilent P play
  allows_silent none P (done a) g = record { value = a; is = refl; so = g }
  allows_silent none P (ask question output error next) g = absurd (none question output error g.0)

-- Where one protocol may ask all that another may, and no more answers come, what is allowed by the
-- other is allowed by it.
pub allows_over : {A : Type 0} (few many : Protocol)
    → ((question : Question) (output error : List ℕ)
    → few.may question output error → many.may question output error)
    → ((answer : Answer) → many.answers answer → few.answers answer)
    → (P : A → Type 0) (play : Play A) → Allows few P play → Allows many P play
allows_over few many questions answers P (done a) g = g
allows_over few many questions answers P (ask question output error next) g = (
  questions question output error g.0,
  λ answer is. allows_over few many questions answers P (next answer)
      (g.1 answer (answers answer is)),
)
