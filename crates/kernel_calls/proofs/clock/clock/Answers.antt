use Rattle.std.proofs.Common.{◌≡◌, ◌+◌, ◌-◌, sym, ap, arith}
use Rattle.std.proofs.lemmas.List.Elements.{All-nil}
use Rattle.dos_world.specs.Play.{ask, asks, done}
use Rattle.dos_world.specs.Lawful.{IsByte}
use Rattle.dos_world.specs.Services.{clock, reading_returned, went}
use Rattle.dos_world.specs.declared.Question.TheVariants.{Clock as clock_question}
use Rattle.dos_io.specs.declared.exchange.Exchange.TheVariants.{Clock as clock_exchange}
use Rattle.dos_laws.specs.Standing.{IsPost}
use Rattle.kernel_calls.specs.StateWorld.{sent, world_of}
use Rattle.kernel_calls.specs.CallResults.{call_in}
use Rattle.kernel_calls.proofs.ServicePlays.{plays_asked, plays_stopped}
use Rattle.kernel_calls.proofs.clock.clock.Goals as goal

pub returns-in-Ok-clause-plays : goal.returns-in-Ok-clause-plays
returns-in-Ok-clause-plays g c =
    let s = c.args.state.now in
    let a = c.args.asked.now in
    let first = c.requires.sound.counted.round in
    let now : s.round - 1 + 1 ≡ s.round = omega (arith, first) in
    plays_asked (λ w. clock (call_in w a)) (clock_exchange s.round a.thread c.in-Ok.reading) s
    c.reply_two.new.state _ _
    (λ q o e. reading_returned (call_in (sent o e (world_of q s)) a))
    (λ q o e. ap (λ n. ask (clock_question n a.thread) o e
    (reading_returned (call_in (sent o e (world_of q s)) a))) now)
    (λ q o e. ap (λ x. done (went (sent o e (world_of q x)))) (sym c.reply_two.ensures.answers))
    (record { posts = All-nil IsPost; bytes = All-nil IsByte; count = omega arith })
    tt c.in-Ok.ensures.ok

pub returns-in-Err-clause-plays : goal.returns-in-Err-clause-plays
returns-in-Err-clause-plays g c =
    let s = c.args.state.now in
    let a = c.args.asked.now in
    let first = c.requires.sound.counted.round in
    let now : s.round - 1 + 1 ≡ s.round = omega (arith, first) in
    plays_stopped (λ w. clock (call_in w a)) (clock_question s.round a.thread) s
    s c.run_stop.result c.in-Err.stop _ _ tt
    (λ q o e. ap (λ n. asks (clock_question n a.thread) o e) now)
    c.run_stop.ensures c.in-Err.ensures.err
