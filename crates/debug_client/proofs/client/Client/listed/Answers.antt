use Rattle.std.proofs.Common.{◌≡◌, true, map, ap, sym, refl, ◌∙◌}
use Rattle.std.proofs.lemmas.Result.{IfOk-weaker}
use Rattle.dos_world.specs.World.{World}
use Rattle.kernel_calls.specs.StateWorld.{world_of, sent}
use Rattle.debug_session.specs.Positions.{all_moments}
use Rattle.debug_session.specs.Sessions.{home_pair, listed_at}
use Rattle.debug_client.specs.Births.{has_homes}
use Rattle.debug_client.specs.Clients.{session_of}
use Rattle.debug_client.proofs.Listed.{listed_known}
use Rattle.debug_client.proofs.client.Client.listed.Goals as goal

pub returns : goal.returns
returns c =
    IfOk-weaker c.pairs.result _ _ (λ pairs h r at q output error a is.
    let w = sent output error (world_of q c.args.state.now) in
    let s = session_of c.args.self.now r at in
    let b = c.args.births.now in
    let numbers : c.deref.result.now ≡ listed_at s w =
    c.deref.ensures.value ∙ c.in_ok-numbers.ensures r at q output error a in
    let known : has_homes b (listed_at s w) ≡ true =
    listed_known b s w (all_moments at) a refl c.requires.noted.homes c.requires.told in
    h r at a (ap (has_homes b) numbers ∙ known)
    ∙ ap (map (home_pair s)) numbers
    ∙ ap (λ (v : World). map (home_pair s) (listed_at s v)) (sym is))
    c.pairs.ensures
