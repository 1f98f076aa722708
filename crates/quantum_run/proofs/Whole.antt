-- What a run over any answers says, and what the flat world says of it.
use Rattle.std.specs.Prelude.{MatchOption}
use Rattle.std.proofs.Common.{ℕ, ◌<◌, ◌≡◌, ◌⊎◌, inl, ap, ◌∙◌, List, Option, Some, None, Err}
use Rattle.dos_world.specs.World.{World, Registers}
use Rattle.dos_world.specs.declared.Entry.{Entry}
use Rattle.dos_world.specs.declared.Reason.{Reason}
use Rattle.flat_machine.specs.Over.{MemoryAnswers, one_in}
use Rattle.flat_machine.specs.Step.{step}
use Rattle.page_store.specs.Store.{Store, joined}
use Rattle.quantum_run.specs.Answering.{flat_places, run_answers, still}
use Rattle.quantum_run.specs.ThreadRuns.{IsRunOf, StopsFor, run_to}
use Rattle.quantum_run.proofs.FlatRuns.{run-stops}

-- what the loop says of its end, of the memory that is left
pub stops-by : {M : Type 0} (answers : MemoryAnswers M) (A : Type 0) (stop : Option Reason)
    (left : ℕ) (r : Registers) (m state : M) → state ≡ m
    → MatchOption stop A (λ reason. 0 < left) → StopsFor answers r m stop
    → MatchOption stop A (λ reason. (0 < left) × (one_in answers r state ≡ Err reason))
stops-by answers A None left r m state same out at = out
stops-by answers A (Some reason) left r m state same some at =
    (some, ap (one_in answers r) same ∙ at)

-- and of the world
pub stops-flat : (A : Type 0) (t : ℕ) (f : Store) (entries : List (ℕ × Entry))
    (left_pages : List (Option (List ℕ))) (r r' : Registers) (budget left : ℕ)
    (stop : Option Reason)
    → MatchOption stop A (λ reason. (0 < left)
    × (one_in (run_answers (still t f.owners entries) flat_places) r' (joined left_pages)
    ≡ Err reason))
    → MatchOption stop A (λ reason. (0 < left)
    × ((w : World) → IsRunOf w f entries t r budget
    → step (run_to w t left_pages r' left) t ≡ Err reason))
stops-flat A t f entries left_pages r r' budget left None out = out
stops-flat A t f entries left_pages r r' budget left (Some reason) out = (
  out.0,
  run-stops t f entries left_pages r r' budget left reason out.1,
)

-- where it comes down, or somewhere else
pub out-or : (A B : Type 0) (C : Reason → Type 0) (stop : Option Reason) → MatchOption stop A C
    → MatchOption stop (A ⊎ B) C
out-or A B C None out = inl out
out-or A B C (Some reason) stops = stops
