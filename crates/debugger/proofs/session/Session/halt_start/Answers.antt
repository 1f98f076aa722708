use Rattle.std.proofs.Common.{ℕ, ap, ◌∙◌}
use Rattle.debug_session.specs.Backwards.{halt_start}
use Rattle.debug_session.specs.Positions.{position_after}
use Rattle.debugger.specs.Standing.{SessionView}
use Rattle.debugger.proofs.Backing.{start_meant}
use Rattle.debugger.proofs.session.Session.halt_start.Goals as goal

pub returns-clause-halt : goal.returns-clause-halt
returns-clause-halt c start s is_start asked =
    start_meant s c.args.resumptions.now start c.args.stepped c.at.result c.moves.result
    c.pair_of-whose.result (c.pair_of-whose.ensures start s is_start asked) c.at.ensures
    ∙ ap (λ (n : ℕ). halt_start s c.args.resumptions.now c.args.stepped (position_after n start))
    (c.moves.ensures.moves ∙ ap (λ (a : SessionView). a.playback.moves) c.self.view_is)
