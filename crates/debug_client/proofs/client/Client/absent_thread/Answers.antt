use Rattle.std.proofs.Common.{ℕ, Bool, Option, ap, sym, ◌∙◌}
use Rattle.std.specs.Prelude.{unwrap_or, if◌then◌else◌}
use Rattle.kernel_calls.specs.StateWorld.{world_of, sent}
use Rattle.debug_session.specs.Positions.{all_moments}
use Rattle.debug_session.specs.Homes.{birth_thread}
use Rattle.debug_client.specs.Clients.{session_of}
use Rattle.debug_client.proofs.Listed.{standing_known}
use Rattle.debug_client.proofs.client.Client.absent_thread.Goals as goal

pub returns-then-is_standing : goal.returns-then-is_standing
returns-then-is_standing c r at q output error a =
    let w = sent output error (world_of q c.args.state.now) in
    let s = session_of c.args.self.now r at in
    let p = c.args.process in
    let birth : Option ℕ = birth_thread (all_moments at) p in
    let stands = sym (c.is_standing.ensures r at q output error) ∙ c.if-is_standing.true in
    c.unwrap_or.ensures
    ∙ ap (λ (o : Option ℕ). unwrap_or o 0) (c.first_thread.ensures.thread (all_moments at) a
    (standing_known c.args.births.now s w p c.requires.noted.first_threads c.requires.told stands))
    ∙ sym (ap (λ (b : Bool). if b then unwrap_or birth 0 else 0) stands)

pub returns : goal.returns
returns c r at q output error a =
    let p = c.args.process in
    let birth : Option ℕ = birth_thread (all_moments at) p in
    let absent = sym (c.is_standing.ensures r at q output error) ∙ c.if-is_standing.false in
    sym (ap (λ (b : Bool). if b then unwrap_or birth 0 else 0) absent)
