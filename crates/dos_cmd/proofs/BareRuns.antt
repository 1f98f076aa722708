-- A run that asks only for signals, of which there are none, has exchanges that its questions
-- determine.
use Rattle.std.specs.Prelude.{◌≡◌, ⊤, List, []}
use Rattle.std.specs.List.{AllByRecursion}
use Rattle.std.proofs.Common.{sym, ap₂, ◌∙◌}
use Rattle.dos_world.specs.declared.Config.{Config}
use Rattle.dos_io.specs.Given.{GivesPosts}
use Rattle.dos_io.specs.declared.exchange.Exchange.{Exchange}
use Rattle.dos_io.specs.declared.exchange.Exchange.TheVariants.{Signals, Input, Clock, End}
use Rattle.elf_image.specs.Image.{Image}
use Rattle.flat_machine.specs.Machine.{Seen}
use Rattle.dpg_run.proofs.Asked.{Determines, one_run}
use Rattle.logged_runs.specs.Runs.{RanWhole}

-- no post, and nothing that the host gives
abbrev pub IsBare : Exchange → Type 0
IsBare (Signals round list) = list ≡ []
IsBare (Input round tid max bytes) = ⊥
IsBare (Clock round tid n) = ⊥
IsBare (End ending rounds) = ⊤

-- The first are as the posts say, of which there are none, and the others are bare.
abbrev GivenAndBare : List Exchange → List Exchange → Type 0
GivenAndBare es fs = GivesPosts [] es × AllByRecursion IsBare fs

bare_determines : Determines GivenAndBare
bare_determines e (Input round tid max bytes) es fs known same = absurd known.1.0
bare_determines e (Clock round tid n) es fs known same = absurd known.1.0
bare_determines (Signals r l) (Signals s m) es fs known same =
    let round : r ≡ s = cc in
    (ap₂ Signals round (known.0.0 ∙ sym known.1.0), (known.0.1, known.1.1))
bare_determines (End e r) (End f s) es fs known same =
    let ending : e ≡ f = cc in
    let rounds : r ≡ s = cc in (ap₂ End ending rounds, (known.0, known.1.1))
bare_determines e f es fs known same = absurd cc

-- Without posts, a run that is known to ask nothing of the host has no other exchanges, and nothing
-- else is seen of it.
pub bare_once : (images : List Image) (config : Config) (es fs : List Exchange) (a b : Seen)
    → GivesPosts [] es → AllByRecursion IsBare fs → RanWhole images config es a
    → RanWhole images config fs b → (es ≡ fs) × (a ≡ b)
bare_once images config es fs a b gives bare one other =
    one_run GivenAndBare bare_determines images config es fs a b (gives, bare) one.fits other.fits
    one.is other.is
