-- What a play may ask of the shim, and what it gives over the answers that may come. This project's
-- own words.
use Rattle.std.specs.Prelude.{ℕ, List, All, ⊤, ◌≡◌}
use Rattle.dos_world.specs.Play.{Play, Answer, done, ask, posts_of}
use Rattle.dos_world.specs.declared.Post.{Post}
use Rattle.dos_world.specs.declared.Question.{Question}

-- the questions that may be asked, with these bytes sent to output and to error by then; the
-- answers
-- that may come, and the posts that these bring
pub record Protocol : Type 1 where
  pub may : Question → (output error : List ℕ) → Type 0
  pub answers : Answer → Type 0
  pub posts : Post → Type 0
  pub brings : (answer : Answer) → answers answer → All posts (posts_of answer)

-- any question, and any answer
abbrev pub any_protocol : Protocol
any_protocol = record {
  may = λ question output error. ⊤;
  answers = λ answer. ⊤;
  posts = λ post. ⊤;
  brings = λ answer is k d lt. tt;
}

-- no question at all
abbrev pub silent_protocol : Protocol
silent_protocol = record {
  may = λ question output error. ⊥;
  answers = λ answer. ⊤;
  posts = λ post. ⊤;
  brings = λ answer is k d lt. tt;
}

-- Each question that the play asks may be asked, with the bytes that it has sent by then, and over
-- all answers that may come, what it gives is so.
abbrev pub Allows : {A : Type 0} → Protocol → (A → Type 0) → Play A → Type 0
Allows protocol P (done a) = P a
Allows protocol P (ask question output error next) =
    protocol.may question output error
    × ((answer : Answer) → protocol.answers answer → Allows protocol P (next answer))

-- It asks nothing, and what it gives is so.
pub record IsSilent {A : Type 0} (P : A → Type 0) (play : Play A) : Type 0 where
  pub value : A
  pub is : play ≡ done value
  pub so : P value
