-- A process that has ended.
use Rattle.std.proofs.Common.{◌≡◌, ℕ, List, [], ◌++◌, Option, Some, None, sym, ap, codes}
use Rattle.std.specs.Prelude.{IsSome, IfSome, decimal}
use Rattle.std.proofs.lemmas.Bool.{true≢false}
use Rattle.dos_world.specs.World.{Process, Life, live, ended}
use Rattle.proc_table.specs.Tables.{last_status}
use Rattle.debug_session.specs.Waits.{absence_text}

-- the status of a life that is over
abbrev pub status_in_life : Life → Option ℕ
status_in_life life = elim life [ live h ↦ None | ended status collected ↦ Some status ]

abbrev text_of_life : Life → List ℕ
text_of_life life = elim life [
  | live h ↦ []
  | ended status collected ↦ codes "ended, status " ++ decimal status
]

life_over : (life : Life) (n : ℕ) → Some n ≡ status_in_life life
    → codes "ended, status " ++ decimal n ≡ text_of_life life
life_over (live h) n is = cc
life_over (ended status collected) n is =
    let same : n ≡ status = cc in
    ap (λ (k : ℕ). codes "ended, status " ++ decimal k) same

pub ended_with : (o : Option Process) (n : ℕ) → IsSome o
    → IfSome o (λ process. Some n ≡ last_status process)
    → codes "ended, status " ++ decimal n ≡ absence_text o
ended_with None n some is = absurd (true≢false (sym some))
ended_with (Some process) n some is = life_over process.life n is
