use Rattle.std.proofs.Common.{◌+◌, ℕ, Bool, [], ◌∷◌, drop, filter, arith}
use Rattle.dos_world.specs.World.{live_threads}
use Rattle.kernel_calls.specs.StateWorld.{world_of, sent}
use Rattle.debug_session.specs.Sessions.{is_thread_shown}
use Rattle.debug_client.specs.Clients.{session_of}
use Rattle.debug_client.proofs.Walked.{some_put, kept_split, kept_end, all_put}
use Rattle.debug_client.proofs.Listed.{living_count, living_number}
use Rattle.debug_client.proofs.client.Client.put_shown.Goals as goal

pub live_thread-number-requires : goal.live_thread-number-requires
live_thread-number-requires c = omega (
  arith,
  living_count 1 c.args.state.now.table.threads,
  c.live_threads-place-end.ensures,
  c.loop-place-test.true,
)

pub loop-place-preserved : goal.loop-place-preserved
loop-place-preserved c r at q output error =
    let w = sent output error (world_of q c.args.state.now) in
    let i = c.loop-place.place in
    let number = c.live_thread-number.result.0 in
    let shown : ℕ → Bool = is_thread_shown (session_of c.args.self.now r at) w in
    some_put c.loop-place.numbers.items _ (filter shown (number ∷ []))
    c.put_if_shown.new.numbers.items
    (filter shown (drop i (live_threads w))) (filter shown (drop (i + 1) (live_threads w)))
    (c.loop-place.invariant r at q output error)
    (kept_split shown (live_threads w) i number
    (living_number 1 c.args.state.now.table.threads i number c.live_thread-number.result.1.now
    c.live_thread-number.ensures))
    (c.in_ok-put_if_shown.ensures r at q output error)

pub returns : goal.returns
returns c r at q output error =
    let w = sent output error (world_of q c.args.state.now) in
    let i = c.loop-place.place in
    let shown : ℕ → Bool = is_thread_shown (session_of c.args.self.now r at) w in
    all_put c.loop-place.numbers.items _ (filter shown (drop i (live_threads w)))
    (c.loop-place.invariant r at q output error)
    (kept_end shown (live_threads w) i
    (omega (arith, c.live_threads-place-end.ensures, c.loop-place-test.false)))
