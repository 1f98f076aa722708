use Rattle.std.proofs.Common.{◌≡◌, ◌+◌, ◌-◌, ap, ◌∙◌, arith}
use Rattle.dos_world.specs.Services.{returns}
use Rattle.kernel_calls.specs.StateWorld.{sent, world_of}
use Rattle.kernel_calls.specs.CallResults.{call_in}
use Rattle.kernel_calls.proofs.Rows.{goes_replied}
use Rattle.kernel_calls.proofs.threads.round_number.Goals as goal

pub returns-clause-goes_on : goal.returns-clause-goes_on
returns-clause-goes_on c = λ q o e.
    let now : c.args.state.now.round - 1 + 1 ≡ c.args.state.now.round =
    omega (arith, c.requires.sound.counted.round) in
    ap (λ n. returns n (call_in (sent o e (world_of q c.args.state.now)) c.args.asked.now)) now
    ∙ goes_replied c.args.state.now c.reply.new.state c.args.asked.now c.args.state.now.round
    c.reply.ensures.answers q o e
