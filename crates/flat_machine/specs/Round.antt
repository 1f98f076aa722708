-- One round. This project's own profile.
use Rattle.std.specs.Prelude.{ℕ, ◌+◌, ◌-◌, Bool, List, [], ◌∷◌, length, sum_by, ◌==◌, if◌then◌else◌}
pub use Rattle.dos_world.specs.World.{with_budget}
use Rattle.dos_world.specs.World.{World, live_threads, ready_threads, with_thread}
use Rattle.dos_world.specs.Signals.{signalled, ripen}
use Rattle.dos_world.specs.Play.{Play, Answer, Outcome, done, ask, ◌>>=◌, over, posts_of}
use Rattle.dos_world.specs.declared.Question.TheVariants.{Signals}
use Rattle.dos_world.specs.declared.Scheme.{Scheme}
use Rattle.dos_world.specs.declared.Scheme.TheVariants.{Ownership, Buffered}
use Rattle.flat_machine.specs.Alone.{alone, budget_of}
use Rattle.flat_machine.specs.Buffered.{buffered}
use Rattle.flat_machine.specs.Rest.{serial_of}

-- ---- the parallel phase

-- these threads, each by itself, one after another on the one world
abbrev pub all_alone : World → List ℕ → World
all_alone w [] = w
all_alone w (t ∷ ts) = all_alone (alone w t) ts

-- The ready threads in rising number. In the running program they go at the same time, on separate
-- pages.
abbrev pub parallel : World → World
parallel w = all_alone w (ready_threads w)

-- the parallel phase of a scheme
abbrev pub phase_of : Scheme → World → World
phase_of Ownership w = parallel w
phase_of Buffered w = buffered w

-- ---- budgets

-- the world in which these threads have the quantum as their budget
abbrev pub with_budgets : World → List ℕ → World
with_budgets w [] = w
with_budgets w (t ∷ ts) = with_budgets (with_thread w t (with_budget w.quantum)) ts

-- the budgets of these threads, added
abbrev pub budgets : World → List ℕ → ℕ
budgets w ts = sum_by (budget_of w) ts

-- ---- a round, whatever its parallel phase is

-- How a round ended: the phases were run, with this many instructions in the parallel one; or
-- nobody lived; or nobody was ready.
pub data RoundEnd : Type 0 where
  went : World → (work : ℕ) → RoundEnd
  finished stalled : World → RoundEnd

-- the world with one round more
abbrev pub counted : World → World
counted w = record w { rounds = w.rounds + 1 }

-- the phases: each starter has its budget, then this parallel phase, then the serial phase
abbrev pub phases_by : (World → World) → World → List ℕ → Play RoundEnd
phases_by phase w starters =
    let opening : World = with_budgets w starters in
    let halfway : World = phase opening in
    serial_of halfway starters >>= λ last.
    done (went (counted last) (budgets opening starters - budgets halfway starters))

-- whether nobody is one of these
abbrev pub is_none_of : List ℕ → Bool
is_none_of threads = length threads == 0

-- what follows the signal point; the starters are the threads that are ready now
abbrev pub begun_by : (World → World) → World → Play RoundEnd
begun_by phase w =
    if is_none_of (live_threads w) then done (finished w)
    else (if is_none_of (ready_threads w) then done (stalled w) else
    phases_by phase w (ready_threads w))

-- Where nobody lives nothing is asked. Else the shim is asked for the round's signals; the signal
-- point is done, and who waits no longer is ready.
abbrev pub round_by : (World → World) → World → Play RoundEnd
round_by phase w =
    if is_none_of (live_threads w) then done (finished w)
    else ask (Signals (w.rounds + 1)) w.output w.error
    (λ answer. begun_by phase (ripen (signalled w (posts_of answer))))

-- ---- the round of a scheme

-- its phases
abbrev pub phases : Scheme → World → List ℕ → Play RoundEnd
phases scheme w starters = phases_by (phase_of scheme) w starters

-- what follows its signal point
abbrev pub begun : Scheme → World → Play RoundEnd
begun scheme w = begun_by (phase_of scheme) w

-- all of it
abbrev pub round_of : Scheme → World → Play RoundEnd
round_of scheme w = round_by (phase_of scheme) w

-- the same over a list of answers of the shim
abbrev pub round : Scheme → World → List Answer → Outcome RoundEnd
round scheme w answers = over answers (round_of scheme w)
