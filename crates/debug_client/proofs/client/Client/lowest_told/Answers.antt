use Rattle.std.proofs.Common.{ℕ, Bool, arith, sym, ◌∙◌}
use Rattle.dos_world.specs.World.{live_threads}
use Rattle.kernel_calls.specs.StateWorld.{world_of, sent}
use Rattle.debug_session.specs.Sessions.{is_told_of}
use Rattle.debug_client.specs.Clients.{session_of}
use Rattle.debug_client.proofs.Walked.{find_here, find_on, find_end}
use Rattle.debug_client.proofs.Listed.{living_count, living_number}
use Rattle.debug_client.proofs.client.Client.lowest_told.Goals as goal

pub live_thread-number-requires : goal.live_thread-number-requires
live_thread-number-requires c = omega (
  arith,
  living_count 1 c.args.state.now.table.threads,
  c.live_threads-place-end.ensures,
  c.loop-place-test.true,
)

pub returns-then-is_told_of : goal.returns-then-is_told_of
returns-then-is_told_of c r at q output error =
    let w = sent output error (world_of q c.args.state.now) in
    let i = c.loop-place.place in
    let number = c.live_thread-number.result.0 in
    let told : ℕ → Bool = is_told_of (session_of c.args.self.now r at) c.args.resumptions.now w in
    sym (find_here told (live_threads w) i number
    (living_number 1 c.args.state.now.table.threads i number c.live_thread-number.result.1.now
    c.live_thread-number.ensures)
    (sym (c.is_told_of.ensures r at q output error) ∙ c.if-is_told_of.true))
    ∙ c.loop-place.invariant r at q output error

pub loop-place-preserved : goal.loop-place-preserved
loop-place-preserved c r at q output error =
    let w = sent output error (world_of q c.args.state.now) in
    let i = c.loop-place.place in
    let number = c.live_thread-number.result.0 in
    let told : ℕ → Bool = is_told_of (session_of c.args.self.now r at) c.args.resumptions.now w in
    sym (find_on told (live_threads w) i number
    (living_number 1 c.args.state.now.table.threads i number c.live_thread-number.result.1.now
    c.live_thread-number.ensures)
    (sym (c.is_told_of.ensures r at q output error) ∙ c.if-is_told_of.false))
    ∙ c.loop-place.invariant r at q output error

pub returns : goal.returns
returns c r at q output error =
    let w = sent output error (world_of q c.args.state.now) in
    let i = c.loop-place.place in
    let told : ℕ → Bool = is_told_of (session_of c.args.self.now r at) c.args.resumptions.now w in
    sym (find_end told (live_threads w) i
    (omega (arith, c.live_threads-place-end.ensures, c.loop-place-test.false)))
    ∙ c.loop-place.invariant r at q output error
