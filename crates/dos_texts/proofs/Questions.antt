-- The texts of questions, written piece by piece.
use Rattle.std.proofs.Common.{◌≡◌, ◌++◌, ◌∙◌, ℕ, List, ap, sym, append_assoc}
use Rattle.std.specs.Prelude.{codes, decimal}
use Rattle.dos_world.specs.declared.Question.{Question}
use Rattle.dos_world.specs.declared.Question.TheVariants.{Signals, Input, Clock}
use Rattle.dos_texts.specs.Lines.{question_text}
use Rattle.dos_texts.proofs.Pieces.{two_pieces, three_pieces}

pub signals_text : (line new : List ℕ) (question : Question) (round : ℕ) → question ≡ Signals round
    → new ≡ (line ++ codes "signals round ") ++ decimal round → new ≡ line ++ question_text question
signals_text line new question round is e =
    e ∙ append_assoc line (codes "signals round ") (decimal round)
    ∙ ap (λ q. line ++ question_text q) (sym is)

pub input_text : (line first second new : List ℕ) (question : Question) (round tid max : ℕ)
    → question ≡ Input round tid max
    → first ≡ (line ++ codes "input round ") ++ decimal round
    → second ≡ (first ++ codes " thread ") ++ decimal tid
    → new ≡ (second ++ codes " max ") ++ decimal max → new ≡ line ++ question_text question
input_text line first second new question round tid max is e f g =
    three_pieces line first second new (codes "input round ") (decimal round) (codes " thread ")
    (decimal tid) (codes " max ") (decimal max) e f g
    ∙ ap (λ q. line ++ question_text q) (sym is)

pub clock_text : (line first new : List ℕ) (question : Question) (round tid : ℕ)
    → question ≡ Clock round tid
    → first ≡ (line ++ codes "clock round ") ++ decimal round
    → new ≡ (first ++ codes " thread ") ++ decimal tid → new ≡ line ++ question_text question
clock_text line first new question round tid is e f =
    two_pieces line first new (codes "clock round ") (decimal round) (codes " thread ")
    (decimal tid) e f
    ∙ ap (λ q. line ++ question_text q) (sym is)
