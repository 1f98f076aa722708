use Rattle.std.proofs.Common.{ℕ, Bool, cond, List, Option, ◌∷◌, ◌++◌, filter, ap, sym, ◌∙◌}
use Rattle.std.specs.Prelude.{option_to_list}
use Rattle.dos_world.specs.World.{live_threads, first_of}
use Rattle.kernel_calls.specs.StateWorld.{world_of, sent}
use Rattle.debug_session.specs.Sessions.{is_told_of}
use Rattle.debug_client.specs.Clients.{session_of}
use Rattle.debug_client.proofs.Chosen.{first_kept}
use Rattle.debug_client.proofs.client.Client.first_told.Goals as goal

pub returns-in_default : goal.returns-in_default
returns-in_default c r at q output error =
    let w = sent output error (world_of q c.args.state.now) in
    let told : ℕ → Bool = is_told_of (session_of c.args.self.now r at) c.args.resumptions.now w in
    let others : List ℕ = c.args.self.now.thread ∷ live_threads w in
    c.current_told.ensures r at q output error ∙ sym (first_kept told others)
    ∙ sym (ap (λ (o : Option ℕ). first_of (filter told (option_to_list o ++ others)))
    c.in_default.is)

pub returns : goal.returns
returns c r at q output error =
    let w = sent output error (world_of q c.args.state.now) in
    let told : ℕ → Bool = is_told_of (session_of c.args.self.now r at) c.args.resumptions.now w in
    let others : List ℕ = c.args.self.now.thread ∷ live_threads w in
    let mover = c.in-Some.mover in
    let fails = sym (c.is_told_of.ensures r at q output error) ∙ c.if-is_told_of.false in
    c.current_told-2.ensures r at q output error ∙ sym (first_kept told others)
    ∙ sym (ap (λ (b : Bool). first_of (cond b (mover ∷ filter told others)
    (filter told others))) fails)
    ∙ sym (ap (λ (o : Option ℕ). first_of (filter told (option_to_list o ++ others))) c.in-Some.is)
