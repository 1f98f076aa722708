-- Whether a log's exchanges are those of a run, and where they first differ. This project's own
-- rule.
use Rattle.std.specs.Prelude.{ℕ, List, map, Option}
use Rattle.dos_world.specs.Play.{Play, Answer}
use Rattle.dos_world.specs.World.{World}
use Rattle.dos_world.specs.declared.Config.{Config}
use Rattle.dos_world.specs.declared.Misfit.{Misfit}
use Rattle.dos_world.specs.declared.Question.{Question}
use Rattle.dos_io.specs.declared.exchange.Exchange.{Exchange}
use Rattle.dos_io.specs.Exchanges.{question_of, answer_of}
use Rattle.elf_image.specs.Image.{Image}
use Rattle.flat_machine.specs.Fits.{AsksExactly, first_misfit}
use Rattle.flat_machine.specs.Machine.{group}
use Rattle.flat_machine.specs.Opening.{opening}

-- From this world the run asks exactly the questions of these exchanges, one after another, where
-- they answer it; the last is its end.
abbrev pub FitsFrom : World → Config → List Exchange → Type 0
FitsFrom w config es = AsksExactly w config (map question_of es) (map answer_of es)

-- the same from the opening of these images
abbrev pub Fits : List Image → Config → List Exchange → Type 0
Fits images config es = FitsFrom (opening images config) config es

-- an exchange as a question with its answer
abbrev pub asked_and_answered : Exchange → Question × Answer
asked_and_answered e = (question_of e, answer_of e)

-- where a play asks another question than these exchanges have, the first of which has this number
abbrev pub misfit_from : {A : Type 0} → ℕ → List Exchange → Play A → Option Misfit
misfit_from n es play = first_misfit n (map asked_and_answered es) play

-- the least entry at which the exchanges don't fit these images, with the kept question and the
-- asked one
abbrev pub misfit : List Image → Config → List Exchange → Option Misfit
misfit images config es = misfit_from 0 es (group images config)
