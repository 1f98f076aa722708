-- The questions of a run determine its quiet answers.
use Rattle.std.proofs.Common.{◌≡◌, refl, sym, ap, ◌∙◌, List}
use Rattle.dos_io.specs.declared.exchange.Exchange.{Exchange}
use Rattle.dos_io.specs.declared.exchange.Exchange.TheVariants.{Signals, Input, Clock, End}
use Rattle.dos_io.specs.Exchanges.{question_of}
use Rattle.dos_io.specs.Quiet.{quiet_exchange, IsQuiet, AreQuiet}
use Rattle.dpg_run.specs.QuietRuns.{QuietRunsAreOne}
use Rattle.dpg_run.proofs.Asked.{Determines, one_run}

quiet_is : (e : Exchange) → IsQuiet e → e ≡ quiet_exchange (question_of e)
quiet_is (Signals round list) h = ap (Signals round) h
quiet_is (Input round tid max bytes) h = ap (Input round tid max) h
quiet_is (Clock round tid n) h = ap (Clock round tid) h
quiet_is (End ending rounds) h = refl

-- all of both are
abbrev BothQuiet : List Exchange → List Exchange → Type 0
BothQuiet es fs = AreQuiet es × AreQuiet fs

quiet_determines : Determines BothQuiet
quiet_determines e f es fs quiet same = (
  quiet_is e quiet.0.0 ∙ ap quiet_exchange same ∙ sym (quiet_is f quiet.1.0),
  (quiet.0.1, quiet.1.1),
)

pub quiet_once : QuietRunsAreOne
quiet_once images config a b one other =
    (one_run BothQuiet quiet_determines images config one.exchanges other.exchanges a b
    (one.quiet, other.quiet) one.fits other.fits one.is other.is).1
