-- Whether a log has no room for what a question may bring. This project's own rule.
use Rattle.std.specs.Prelude.{ℕ, ◌+◌, ◌<◌, ◌≤◌, ◌⊎◌, List, [], ◌∷◌, ◌++◌, length, replicate, ⊤}
use Rattle.dos_world.specs.declared.Post.{Post}
use Rattle.dos_world.specs.declared.Question.{Question}
use Rattle.dos_world.specs.declared.Question.TheVariants.{Signals as signals_question}
use Rattle.dos_world.specs.declared.Question.TheVariants.{Input as input_question}
use Rattle.dos_world.specs.declared.Question.TheVariants.{Clock as clock_question}
use Rattle.dos_world.specs.declared.Question.TheVariants.{End as end_question}
use Rattle.dos_io.specs.declared.exchange.Exchange.{Exchange}
use Rattle.dos_io.specs.declared.exchange.Exchange.TheVariants.{Signals, Input, Clock, End}
use Rattle.dos_io.specs.Exchanges.{question_of}
use Rattle.dos_io.specs.Given.{posts_in}
use Rattle.log_text.specs.declared.header.LogHeader.{LogHeader}
use Rattle.log_text.specs.declared.version.LogVersion.TheVariants.{Two}
use Rattle.log_text.specs.LogText.{header_text, entries_text}
use Rattle.log_text.specs.Ranges.{most_bytes, most_exchanges}

-- the longest answer to a question: the round's posts, all the bytes that are asked for
abbrev pub longest : List (ℕ × Post) → Question → Exchange
longest posts (signals_question round) = Signals round (posts_in posts round)
longest posts (input_question round tid max) = Input round tid max (replicate max 0)
longest posts (clock_question round tid) = Clock round tid 0
longest posts (end_question ending rounds) = End ending rounds

-- With this exchange too, and the end's six bytes, the text of version 2 would be longer than a log
-- may be.
unfoldable pub IsOver : LogHeader → List Exchange → Exchange → Type 0
IsOver header es e = most_bytes
    < length (header_text Two header) + length (entries_text Two (es ++ e ∷ [])) + 6

-- A round without a signal that goes on with a quiet entry takes no byte more. The end's room is
-- kept free, so there is room for it always.
abbrev pub NoRoom : LogHeader → List (ℕ × Post) → List Exchange → Question → Type 0
NoRoom header posts es (end_question ending rounds) = ⊥
NoRoom header posts es question =
    IsOver header es (longest posts question) ⊎ (most_exchanges ≤ length es)

-- Each exchange had room, behind those seen before it.
abbrev pub HadRoom : LogHeader → List (ℕ × Post) → (seen es : List Exchange) → Type 0
HadRoom header posts seen [] = ⊤
HadRoom header posts seen (e ∷ es) =
    (NoRoom header posts seen (question_of e) → ⊥) × HadRoom header posts (seen ++ e ∷ []) es

-- ---- counted in bytes

-- With so many bytes more, and the end's six, the text would be longer than a log may be; or as
-- many exchanges are held as may be.
unfoldable pub IsLogFull : LogHeader → List Exchange → ℕ → Type 0
IsLogFull header es bytes =
    (most_bytes < length (header_text Two header) + length (entries_text Two es) + bytes + 6)
    ⊎ (most_exchanges ≤ length es)
