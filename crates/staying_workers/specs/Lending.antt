-- Packs with a loan of what they share. This project's own rules.
use Rattle.std.specs.Prelude.{◌≡◌, ℕ, List, map, All}
use Rattle.quantum_run.specs.Packs.{seen_in}
use Rattle.quantum_run.specs.Shows.{Pack}
use Rattle.quantum_run.specs.declared.pack.Shared.{Shared}
use Rattle.worker_pool.specs.Ran.{HasRun, HasRunOut}
use Rattle.staying_workers.specs.Ready.{MayRun}
use Rattle.staying_workers.specs.declared.held.Held.{Held}

abbrev pub packs_held : List Held → List Pack
packs_held hs = map (λ (h : Held). h.pack) hs

-- what all see is this
abbrev pub Share : Shared → List Held → Type 0
Share s hs = All (λ (h : Held). h.shared.value ≡ s) hs

-- all loans are of this term
abbrev pub AreOfTerm : ℕ → List Held → Type 0
AreOfTerm term hs = All (λ (h : Held). h.shared.term ≡ term) hs

abbrev pub MayRunHeld : Held → Type 0
MayRunHeld h = MayRun h.pack (seen_in h.shared.value)

-- the later pack is the earlier one run out, and what it shares is as it was
abbrev pub IsHeldRunOut : Held → Held → Type 0
IsHeldRunOut before after = (after.shared ≡ before.shared)
    × HasRunOut (seen_in before.shared.value) before.pack after.pack

-- the later pack is the earlier one's whole part, and what it shares is as it was
abbrev pub IsHeldFinished : Held → Held → Type 0
IsHeldFinished before after = (after.shared ≡ before.shared)
    × HasRun (seen_in before.shared.value) before.pack after.pack
