-- What a leader keeps beside its host, and what it makes of it. This project's own rule.
use Rattle.std.specs.Prelude.{◌≡◌, ◌≤◌, ◌++◌, ◌⊎◌, ℕ, Bool, List, [], ◌∷◌, Option, Some, None, ⊤}
use Rattle.std.specs.Prelude.{IfSome}
use Rattle.atomic_table.specs.Seated.{TableId}
use Rattle.dos_world.specs.declared.Question.{Question}
use Rattle.dos_io.specs.declared.exchange.Exchange.{Exchange}
use Rattle.dos_io.specs.declared.exchange.ClockRule.TheVariants.{FromHost}
use Rattle.dos_io.specs.declared.shim.ShimStop.{ShimStop}
use Rattle.dos_io.specs.declared.shim.ShimStop.TheVariants.{LogFull, HostFault, Memory, Misfit}
use Rattle.dos_io.specs.Hosts.{Told}
use Rattle.dos_io.specs.Given.{Given}
use Rattle.dos_io.specs.Outside.{counted_to_limit, Rose}
use Rattle.dos_io.specs.Shims.{ShimState}
use Rattle.twin_shims.specs.declared.note.Note.{Note}
use Rattle.twin_shims.specs.Notes.{exchanges_in, as_notes, IsLine}

-- which line it pushes into, the exchanges that it was told and pushed, and the stops
pub record TellerState : Type 0 where
  pub line : TableId
  pub told : List Exchange
  pub stops : ℕ
  pub last : Option ShimStop
  pub asked : Option Question

-- as of every shim
abbrev pub leader_state : TellerState → ShimState
leader_state t = record { told = t.told; stops = t.stops; last = t.last; asked = t.asked }

-- before the first question
abbrev pub new_teller : TableId → TellerState
new_teller line = record { line = line; told = []; stops = 0; last = None; asked = None }

-- after an answer
abbrev pub teller_told : TellerState → Exchange → TellerState
teller_told t e = record t { told = t.told ++ e ∷ []; asked = None }

-- after a stop
abbrev pub teller_stopped : TellerState → Question → ShimStop → TellerState
teller_stopped t q stop =
    record t { stops = counted_to_limit t.stops; last = Some stop; asked = Some q }

-- A leader's host may fail, and memory for a note may be wanting; there is no log, so none is full
-- and none has a misfit.
abbrev pub IsLeaderStop : ShimStop → Type 0
IsLeaderStop HostFault = ⊤
IsLeaderStop Memory = ⊤
IsLeaderStop LogFull = ⊥
IsLeaderStop (Misfit misfit) = ⊥

-- what a leader keeps in its type: it has pushed a note for each exchange and nothing else
pub record IsTeller (closed : Bool) (pushed : List Note) (last : Option ShimStop) : Type 0 where
  pub told_only : pushed ≡ as_notes (exchanges_in pushed)
  pub line : IsLine closed pushed
  pub never : IfSome last IsLeaderStop

-- From s to t: what a leader did, where its host told a and had the count m before, and tells b and
-- has n now.
pub record FollowsLeader (s t : TellerState) (a b : Option Told) (m n : ℕ) : Type 0 where
  pub line_same : t.line ≡ s.line
  pub more : List Exchange
  pub told_is : t.told ≡ s.told ++ more
  pub given : Given [] FromHost 0 a b more
  pub grows : m ≤ n
  pub cause : ((t.stops ≡ s.stops) × (t.last ≡ s.last)) ⊎ (t.last ≡ Some HostFault → Rose m n)
