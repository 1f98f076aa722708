-- Laws of two runs of the same images, of which one has told a front of what the other has; the
-- functions of the module laws promise them.
use Rattle.std.specs.Prelude.{◌≡◌, ◌++◌, ◌∷◌, [], ℕ, List}
use Rattle.dos_world.specs.declared.Config.{Config}
use Rattle.dos_world.specs.declared.Question.{Question}
use Rattle.dos_io.specs.Exchanges.{question_of}
use Rattle.dos_io.specs.declared.exchange.Exchange.{Exchange}
use Rattle.elf_image.specs.Image.{Image}
use Rattle.flat_machine.specs.Machine.{Seen}
use Rattle.logged_runs.specs.Runs.{RanUntil, RanWhole}

-- Where the one came to its end and the other too, both were told the same, and the same is seen.
abbrev pub WholeRunsAreOne : Type 0
WholeRunsAreOne = (images : List Image) (config : Config) (told rest : List Exchange)
    (seen other : Seen) → RanWhole images config (told ++ rest) seen
    → RanWhole images config told other → (rest ≡ []) × (seen ≡ other)

-- Where the one came to its end and the other to a question, the exchange behind those of the other
-- is of that question.
abbrev pub AsksNextOfWhole : Type 0
AsksNextOfWhole = (images : List Image) (config : Config) (told rest : List Exchange)
    (seen : Seen) (question : Question) (output error : List ℕ)
    → RanWhole images config (told ++ rest) seen
    → RanUntil images config told question output error
    → (next : Exchange) × (behind : List Exchange) × (rest ≡ next ∷ behind)
    × (question_of next ≡ question)

-- Where the one came to a question, the other hasn't come to its end.
abbrev pub NoEndBeforeAQuestion : Type 0
NoEndBeforeAQuestion = (images : List Image) (config : Config) (told rest : List Exchange)
    (question : Question) (output error : List ℕ) (other : Seen)
    → RanUntil images config (told ++ rest) question output error
    → RanWhole images config told other → ⊥

-- Where both came to a question, either the one was told nothing more, and question and bytes are
-- the same, or the exchange behind those of the other is of the other's question.
pub data NextOrSame (question asked : Question) (output error out err : List ℕ)
    (rest : List Exchange) : Type 0 where
  same : rest ≡ [] → question ≡ asked → output ≡ out → error ≡ err
      → NextOrSame question asked output error out err rest
  next : (e : Exchange) (behind : List Exchange) → rest ≡ e ∷ behind → question_of e ≡ asked
      → NextOrSame question asked output error out err rest

abbrev pub QuestionsAreNext : Type 0
QuestionsAreNext = (images : List Image) (config : Config) (told rest : List Exchange)
    (question asked : Question) (output error out err : List ℕ)
    → RanUntil images config (told ++ rest) question output error
    → RanUntil images config told asked out err
    → NextOrSame question asked output error out err rest
