-- Packs with the view that is lent to them. This project's own rules.
use Rattle.std.specs.Prelude.{◌≡◌, List, map, All}
use Rattle.quantum_run.specs.Packs.{seen_by_view}
use Rattle.quantum_run.specs.Shows.{Pack, View, CanRun}
use Rattle.worker_pool.specs.Ran.{HasRun, HasRunOut}
use Rattle.worker_pool.specs.declared.lent.Lent.{Lent}

abbrev pub packs_of : List Lent → List Pack
packs_of ls = map (λ (l : Lent). l.pack) ls

-- all are lent this view
abbrev pub See : View → List Lent → Type 0
See v ls = All (λ (l : Lent). seen_by_view l.view.now ≡ v) ls

-- the pack may run under the view that it is lent
abbrev pub MayRunPack : Lent → Type 0
MayRunPack l = CanRun l.pack (seen_by_view l.view.now)

-- the later pack is the earlier one run out under the view, which is still lent
abbrev pub IsRunOut : Lent → Lent → Type 0
IsRunOut before after = (seen_by_view after.view.now ≡ seen_by_view before.view.now)
    × HasRunOut (seen_by_view before.view.now) before.pack after.pack

-- the later pack is the earlier one's whole part under the view, which is still lent
abbrev pub IsFinished : Lent → Lent → Type 0
IsFinished before after = (seen_by_view after.view.now ≡ seen_by_view before.view.now)
    × HasRun (seen_by_view before.view.now) before.pack after.pack
