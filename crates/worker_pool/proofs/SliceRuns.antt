-- A pack whose part is run in slices.
use Rattle.std.proofs.Common.{◌∙◌, arith}
use Rattle.quantum_run.specs.Shows.{Pack, View, CanRun, LeadsTo, begun_pack}
use Rattle.quantum_run.proofs.Slices.{begun-runs, still-can}
use Rattle.worker_pool.specs.Ran.{HasRun, HasRunBy, HasRunOut}

-- a pack whose part has begun, and runs out, has run
pub begun-run : (v : View) (p q : Pack) → HasRunOut v (begun_pack p) q → HasRun v p q
begun-run v p q run = record {
  finished = begun-runs p v q run.finished;
  thread = run.thread;
  process = run.process;
  frames = run.frames;
  budget = run.budget;
  room = run.room;
}

-- after a slice the pack can run, and where it runs out the earlier one does
pub slice-can : (v : View) (p now : Pack) → HasRunBy LeadsTo v p now → CanRun p v → CanRun now v
slice-can v p now slice =
    still-can p now v slice.finished.scheme slice.thread slice.process slice.frames slice.room

pub slice-run : (v : View) (p now q : Pack) → HasRunBy LeadsTo v p now → HasRunOut v now q
    → HasRunOut v p q
slice-run v p now q slice run = record {
  finished = slice.finished.leads q run.finished;
  thread = run.thread ∙ slice.thread;
  process = run.process ∙ slice.process;
  frames = run.frames ∙ slice.frames;
  budget = omega (arith, run.budget, slice.budget);
  room = run.room ∙ slice.room;
}
