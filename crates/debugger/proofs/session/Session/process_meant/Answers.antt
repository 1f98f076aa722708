use Rattle.std.proofs.Common.{◌≡◌, ℕ, Option, None, true, ap, ◌∙◌}
use Rattle.std.specs.Prelude.{unwrap_or}
use Rattle.debug_client.specs.Births.{has_home}
use Rattle.debug_session.specs.Homes.{home_of}
use Rattle.debug_session.specs.Positions.{all_moments}
use Rattle.debug_session.specs.Tables.{process_asked}
use Rattle.debugger.specs.Standing.{SessionView}
use Rattle.debugger.proofs.Telling.{shown_so}
use Rattle.debugger.proofs.session.Session.process_meant.Goals as goal

pub returns : goal.returns
returns c =
    shown_so c.self.view_is c.self.inside.playback.walk.state
    (ap (λ (x : SessionView). x.playback.walk.state) c.self.view_is) c.self.invariant
    c.requires.running
    (λ s. c.unwrap_or.result ≡ process_asked s None)
    (λ r at q output error h.
    let known : has_home c.self.inside.births c.meant.result ≡ true =
    ap (has_home c.self.inside.births) c.meant.ensures
    ∙ ap (λ (x : SessionView). has_home x.births x.client.meant) c.self.view_is
    ∙ c.requires.known in
    c.unwrap_or.ensures
    ∙ ap (λ (o : Option ℕ). unwrap_or o 0) (c.home.ensures.home (all_moments at) h.births known)
    ∙ ap (λ (t : ℕ). unwrap_or (home_of (all_moments at) t) 0) c.meant.ensures)
