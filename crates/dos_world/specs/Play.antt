-- What asks the shim as it goes on, and what it comes to over a list of the shim's answers. This
-- project's own.
use Rattle.std.specs.Prelude.{ℕ, List, [], ◌∷◌}
use Rattle.dos_world.specs.declared.Post.{Post}
use Rattle.dos_world.specs.declared.Question.{Question}

-- ---- answers

-- what the shim answers: the signals of a round, bytes of the input, a reading of the clock
pub data Answer : Type 0 where
  posts : List Post → Answer
  input : List ℕ → Answer
  reading : ℕ → Answer

-- An answer of another kind than was asked for reads as nothing. No log that fits has one.
abbrev pub posts_of : Answer → List Post
posts_of (posts list) = list
posts_of (input bytes) = []
posts_of (reading n) = []

-- the bytes of an answer
abbrev pub input_of : Answer → List ℕ
input_of (posts list) = []
input_of (input bytes) = bytes
input_of (reading n) = []

-- the reading of an answer
abbrev pub reading_of : Answer → ℕ
reading_of (posts list) = 0
reading_of (input bytes) = 0
reading_of (reading n) = n

-- ---- plays

-- It is done, or it asks, with what was sent to output and error by then, and goes on by the
-- answer.
pub data Play (A : Type 0) : Type 0 where
  done : A → Play A
  ask : Question → (output error : List ℕ) → (Answer → Play A) → Play A

-- first one thing, and then another by what it gave
infixl 10 ◌>>=◌
abbrev pub ◌>>=◌ : {A B : Type 0} → Play A → (A → Play B) → Play B
(done a) >>= f = f a
(ask question output error next) >>= f = ask question output error (λ answer. next answer >>= f)

-- ---- plays over answers

-- What a play gives, with the answers that are left; or the question at which they have run out,
-- with what was sent by then.
pub data Outcome (A : Type 0) : Type 0 where
  gives : A → (rest : List Answer) → Outcome A
  asks : Question → (output error : List ℕ) → Outcome A

-- a play over these answers
abbrev pub over : {A : Type 0} → List Answer → Play A → Outcome A
over answers (done a) = gives a answers
over [] (ask question output error next) = asks question output error
over (answer ∷ answers) (ask question output error next) = over answers (next answer)

-- the questions that a play asks over these answers, in order; the last may have no answer
abbrev pub questions : {A : Type 0} → List Answer → Play A → List Question
questions answers (done a) = []
questions [] (ask question output error next) = question ∷ []
questions (answer ∷ answers) (ask question output error next) =
    question ∷ questions answers (next answer)
