-- Laws of the serial part; the functions of the module laws promise them.
use Rattle.std.specs.Prelude.{ℕ, ◌≡◌, ◌≢◌, ◌<◌, ⊤, List, length, Some, Result, Err}
use Rattle.dos_world.specs.Lawful.{Lawful}
use Rattle.dos_world.specs.World.{World, entry_at}
use Rattle.dos_world.specs.declared.Access.{Access}
use Rattle.dos_world.specs.declared.Entry.{Entry}
use Rattle.dos_world.specs.declared.Reason.{Reason}
use Rattle.dos_world.specs.declared.Reason.TheVariants.{Page}
use Rattle.flat_machine.specs.Rest.{settled}
use Rattle.flat_machine.specs.Round.{parallel}
use Rattle.flat_machine.specs.Mixed.{mixed, IsFull}
use Rattle.dos_world.specs.Calls.{Call}
use Rattle.dos_world.specs.Services.{service_of}
use Rattle.round_core.specs.Protocol.{Allows, any_protocol, silent_protocol}
use Rattle.round_core.specs.Invariants.{Keeps, IsOf}

-- every frame that t maps is there, as in every lawful world
abbrev pub MapsWithin : World → ℕ → Type 0
MapsWithin w t =
    (address : ℕ) (e : Entry) → entry_at w t address ≡ Some e → e.frame < length w.owners

-- it isn't a stop at a page
abbrev pub IsNoPage : {A : Type 0} → Result A Reason → Type 0
IsNoPage r = (address : ℕ) (access : Access) → r ≡ Err (Page address access) → ⊥

-- After three grants no instruction stops at a page: it lies in at most two pages, and has at most
-- one for its data.
abbrev pub ThreeGrantsAreEnough : Type 0
ThreeGrantsAreEnough = (w : World) (t : ℕ) → MapsWithin w t → IsNoPage ((settled 3 w t).1)

-- In whatever full order the instructions of the ready threads come, they lead to the world of the
-- parallel phase.
abbrev pub QuantaCommute : Type 0
QuantaCommute = (w : World) (s : List ℕ) → Lawful w → IsFull w s → mixed w s ≡ parallel w

-- The quantum and the count of rounds of a run are kept, whatever the world and the answers.
abbrev pub RunsStaySame : Type 0
RunsStaySame = (quantum rounds : ℕ) → Keeps any_protocol (λ ts w. IsOf quantum rounds w)

-- No service but read, number 7, and clock, number 22, asks anything, whatever number is called.
abbrev pub OnlyReadAndClockAsk : Type 0
OnlyReadAndClockAsk = (number : ℕ) → number ≢ 7 → number ≢ 22 → (c : Call)
    → Allows silent_protocol (λ served. ⊤) (service_of number c)
