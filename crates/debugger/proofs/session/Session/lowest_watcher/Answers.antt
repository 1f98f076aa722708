use Rattle.std.proofs.Common.{◌≡◌, ℕ, Bool, arith, length, ap, sym, ◌∙◌, Some}
use Rattle.std.specs.Prelude.{slice_get}
use Rattle.dos_world.specs.World.{World, live_threads}
use Rattle.debug_session.specs.Hits.{is_watcher}
use Rattle.debug_client.proofs.Listed.{living_count, living_number}
use Rattle.debugger.specs.Standing.{here}
use Rattle.debugger.proofs.Seen.{of_state}
use Rattle.debugger.proofs.Watching.{first_all, first_end, first_here, first_on}
use Rattle.debugger.proofs.session.Session.lowest_watcher.Goals as goal

pub live_thread-thread-requires : goal.live_thread-thread-requires
live_thread-thread-requires c = omega (
  arith,
  living_count 1 c.state.result.now.table.threads,
  c.live_threads-place-end.ensures,
  c.loop-place-test.true,
)

pub loop-place-init : goal.loop-place-init
loop-place-init c start s is_start asked =
    let w = (here c.args.self.now start).moment.world in
    first_all (is_watcher s c.args.resumptions.now w c.args.point) (live_threads w)

pub returns-then-is_watcher-clause-lowest : goal.returns-then-is_watcher-clause-lowest
returns-then-is_watcher-clause-lowest c start s is_start asked =
    let w = (here c.args.self.now start).moment.world in
    let i = c.loop-place.place in
    let number = c.live_thread-thread.result.0 in
    let test : ℕ → Bool = is_watcher s c.args.resumptions.now w c.args.point in
    let there : slice_get (live_threads w) i ≡ Some number =
    of_state _ _ c.self.view_is c.self.invariant c.requires c.state.result.now
    c.state.ensures.state start is_start
    (λ (v : World). slice_get (live_threads v) i ≡ Some number)
    (λ q o e. living_number 1 c.state.result.now.table.threads i number
    c.live_thread-thread.result.1.now c.live_thread-thread.ensures) in
    first_here test (live_threads w) i number there
    (sym (c.is_watcher.ensures.watcher start s is_start asked) ∙ c.if-is_watcher.true)
    (c.loop-place.invariant start s is_start asked)

pub loop-place-preserved : goal.loop-place-preserved
loop-place-preserved c start s is_start asked =
    let w = (here c.args.self.now start).moment.world in
    let i = c.loop-place.place in
    let number = c.live_thread-thread.result.0 in
    let test : ℕ → Bool = is_watcher s c.args.resumptions.now w c.args.point in
    let there : slice_get (live_threads w) i ≡ Some number =
    of_state _ _ c.self.view_is c.self.invariant c.requires c.state.result.now
    c.state.ensures.state start is_start
    (λ (v : World). slice_get (live_threads v) i ≡ Some number)
    (λ q o e. living_number 1 c.state.result.now.table.threads i number
    c.live_thread-thread.result.1.now c.live_thread-thread.ensures) in
    first_on test (live_threads w) i number there
    (sym (c.is_watcher.ensures.watcher start s is_start asked) ∙ c.if-is_watcher.false)
    (c.loop-place.invariant start s is_start asked)

pub returns-clause-lowest : goal.returns-clause-lowest
returns-clause-lowest c start s is_start asked =
    let w = (here c.args.self.now start).moment.world in
    let count : length (live_threads w) ≡ c.live_threads-place-end.result =
    of_state _ _ c.self.view_is c.self.invariant c.requires c.state.result.now
    c.state.ensures.state start is_start
    (λ (v : World). length (live_threads v) ≡ c.live_threads-place-end.result)
    (λ q o e. sym c.live_threads-place-end.ensures) in
    first_end (is_watcher s c.args.resumptions.now w c.args.point) (live_threads w)
    c.loop-place.place (omega (arith, count, c.loop-place-test.false))
    (c.loop-place.invariant start s is_start asked)
