-- How a play goes on over exchanges with the shim. This project's own words.
use Rattle.std.specs.Prelude.{◌≡◌, List, [], ◌∷◌}
use Rattle.dos_world.specs.Play.{Play, done, ask}
use Rattle.dos_io.specs.declared.exchange.Exchange.{Exchange}
use Rattle.dos_io.specs.Exchanges.{question_of, answer_of}

-- The play asks exactly the questions of these exchanges, one after another, and their answers
-- leave that other play.
abbrev pub GoesOn : {A : Type 0} → List Exchange → Play A → Play A → Type 0
GoesOn [] play left = play ≡ left
GoesOn (e ∷ es) (done a) left = ⊥
GoesOn (e ∷ es) (ask question output error next) left = (question ≡ question_of e)
    × GoesOn es (next (answer_of e)) left
