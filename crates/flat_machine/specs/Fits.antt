-- Whether questions and answers are those of a run, and where they first differ. This project's own
-- rule.
use Rattle.std.specs.Prelude.{ℕ, suc, ◌≡◌, Bool, true, false, ◌&&◌, List, [], ◌∷◌, Option, Some}
use Rattle.std.specs.Prelude.{None}
use Rattle.std.specs.Prelude.{◌==◌}
use Rattle.dos_world.specs.Play.{Play, Answer, done, ask, questions}
use Rattle.dos_world.specs.World.{World}
use Rattle.dos_world.specs.declared.Config.{Config}
use Rattle.dos_world.specs.declared.Ending.{Ending}
use Rattle.dos_world.specs.declared.Ending.TheVariants.{Done, Limit, Stalled}
use Rattle.dos_world.specs.declared.Misfit.{Misfit}
use Rattle.dos_world.specs.declared.Question.{Question}
use Rattle.dos_world.specs.declared.Question.TheVariants.{Signals, Input, Clock, End}
use Rattle.flat_machine.specs.Machine.{run_from}

-- From this world the run asks exactly these questions, one after another, where these are their
-- answers; the last is its end.
abbrev pub AsksExactly : World → Config → List Question → List Answer → Type 0
AsksExactly w config asked answers = questions answers (run_from w config) ≡ asked

-- ---- the first question at which that fails

-- whether two endings are one
abbrev pub same_ending : Ending → Ending → Bool
same_ending Done Done = true
same_ending Limit Limit = true
same_ending Stalled Stalled = true
same_ending _ _ = false

-- whether two questions are one
abbrev pub same_question : Question → Question → Bool
same_question (Signals r) (Signals s) = r == s
same_question (Input r t m) (Input s u n) = (r == s) && (t == u) && (m == n)
same_question (Clock r t) (Clock s u) = (r == s) && (t == u)
same_question (End e r) (End f s) = same_ending e f && (r == s)
same_question _ _ = false

-- where a play asks another question than these, each of which has its answer, and the first of
-- which has this number
abbrev pub first_misfit : {A : Type 0} → ℕ → List (Question × Answer) → Play A → Option Misfit
first_misfit n kept (done a) = None
first_misfit n [] (ask question output error next) = None
first_misfit n (k ∷ kept) (ask question output error next) =
    elim (same_question k.0 question) [
      | true ↦ first_misfit (suc n) kept (next k.1)
      | false ↦ Some (record { entry = n; kept = k.0; asked = question })
    ]
