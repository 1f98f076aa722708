-- An exchange is a question and its answer. This project's own rule.
use Rattle.std.specs.Prelude.{◌≡◌, List, [], ◌∷◌, ⊤}
use Rattle.dos_world.specs.Play.{Answer, posts, input, reading}
use Rattle.dos_world.specs.declared.Question.{Question}
use Rattle.dos_world.specs.declared.Question.TheVariants.{Signals as signals_question}
use Rattle.dos_world.specs.declared.Question.TheVariants.{Input as input_question}
use Rattle.dos_world.specs.declared.Question.TheVariants.{Clock as clock_question}
use Rattle.dos_world.specs.declared.Question.TheVariants.{End as end_question}
use Rattle.dos_io.specs.declared.exchange.Exchange.{Exchange}
use Rattle.dos_io.specs.declared.exchange.Exchange.TheVariants.{Signals, Input, Clock, End}

-- what was asked
abbrev pub question_of : Exchange → Question
question_of (Signals round list) = signals_question round
question_of (Input round tid max bytes) = input_question round tid max
question_of (Clock round tid n) = clock_question round tid
question_of (End ending rounds) = end_question ending rounds

-- The end has no answer of its own; no posts stand for it.
abbrev pub answer_of : Exchange → Answer
answer_of (Signals round list) = posts list
answer_of (Input round tid max bytes) = input bytes
answer_of (Clock round tid n) = reading n
answer_of (End ending rounds) = posts []

-- no signal came: each answer to a question for signals has no posts
abbrev pub HaveNoPosts : List Exchange → Type 0
HaveNoPosts [] = ⊤
HaveNoPosts (Signals round list ∷ es) = (list ≡ []) × HaveNoPosts es
HaveNoPosts (Input round tid max bytes ∷ es) = HaveNoPosts es
HaveNoPosts (Clock round tid n ∷ es) = HaveNoPosts es
HaveNoPosts (End ending rounds ∷ es) = HaveNoPosts es
