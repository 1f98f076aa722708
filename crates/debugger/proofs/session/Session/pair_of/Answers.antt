use Rattle.std.proofs.Common.{ℕ, Option, Some, ap, ◌∙◌, sym}
use Rattle.std.specs.Prelude.{option_map}
use Rattle.debug_session.specs.Sessions.{Pair, home_pair}
use Rattle.debugger.proofs.session.Session.pair_of.Goals as goal

pub returns-in-Some : goal.returns-in-Some
returns-in-Some c start s is_start asked =
    ap (λ (p : Pair). Some p) (c.home_pair.ensures start s is_start asked)
    ∙ ap (λ (o : Option ℕ). option_map (home_pair s) o) (sym c.in-Some.is)

pub returns-in-None : goal.returns-in-None
returns-in-None c start s is_start asked =
    ap (λ (o : Option ℕ). option_map (home_pair s) o) (sym c.in-None.is)
