-- Packs that have jumped on the spot can be filled again.
use Rattle.std.proofs.Common.{◌≡◌, ℕ, List, [], ◌∷◌, ap, ◌∙◌, arith}
use Rattle.std.specs.Prelude.{All, slice_index_or}
use Rattle.quantum_run.specs.Shows.{Pack, View, frames_of}
use Rattle.worker_pool.specs.Ran.{AllRan, HasRun}
use Rattle.worker_pool.proofs.RanPacks.{each-of}
use Rattle.loop_packs.specs.Loops.{IsLoop}

no-pages : (ps : List (ℕ × List ℕ)) → frames_of ps ≡ [] → ps ≡ []
no-pages [] e = λ _. []
no-pages (p ∷ ps) e = absurd (grind arith)

loop-after : (v : View) (p q : Pack) → HasRun v p q → IsLoop p → IsLoop q
loop-after v p q ran loop = (
  ran.process ∙ loop.0,
  no-pages q.pages (ran.frames ∙ ap frames_of loop.1),
  ran.room ∙ loop.2,
)

pub loops-after : (v : View) (ps qs : List Pack) → AllRan v ps qs → All IsLoop ps → All IsLoop qs
loops-after v ps qs ran loops i d low =
    let level = ran.level in
    loop-after v (slice_index_or ps i d) (slice_index_or qs i d)
    (each-of v ps qs ran i d (omega arith)) (loops i d (omega arith))
