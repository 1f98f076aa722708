use Rattle.std.proofs.Common.{◌≡◌, true, not, Some, None, sym, ap, ◌∙◌, arith}
use Rattle.std.specs.Prelude.{◌==◌, ◌&&◌, ◌%◌}
use Rattle.std.proofs.lemmas.Bool.Decides.{nat_tests}
use Rattle.dos_world.specs.World.{World, entry_at}
use Rattle.dos_world.specs.Calls.{Call}
use Rattle.dos_laws.proofs.Mapped.{entry_taken}
use Rattle.kernel_mem.specs.MemoryWorld.{entry_in}
use Rattle.kernel_calls.specs.StateWorld.{sent, world_of}
use Rattle.kernel_calls.specs.CallResults.{call_in, paid_state}
use Rattle.kernel_calls.proofs.Keeping.{lawful_now}
use Rattle.kernel_calls.proofs.Waits.{entry_paid, futex_tells, word_tells}
use Rattle.kernel_calls.proofs.waiting.awaits_waking.Goals as goal

pub word_at-requires-clause-frame : goal.word_at-requires-clause-frame
word_at-requires-clause-frame c =
    let found : entry_in c.args.state.now.table c.args.asked.now.thread c.args.asked.now.a0
    ≡ Some c.in-Some.entry = sym c.entry_at.ensures ∙ c.in-Some.is in
    (entry_taken (world_of 16 c.args.state.now) c.args.asked.now.thread c.args.asked.now.a0
    c.in-Some.entry (lawful_now c.args.state.now c.requires.sound) found).within

pub returns-in-Some : goal.returns-in-Some
returns-in-Some c = λ q o e.
    let w : World = sent o e (world_of q (paid_state c.args.state.now c.args.asked.now.thread)) in
    let call : Call = call_in w c.args.asked.now in
    let found : entry_in c.args.state.now.table c.args.asked.now.thread c.args.asked.now.a0
    ≡ Some c.in-Some.entry = sym c.entry_at.ensures ∙ c.in-Some.is in
    let even : (c.args.asked.now.a0 % 4 == 0) ≡ true =
    grind (arith, nat_tests, c.if-asked-ne0.false) in
    sym (futex_tells call
    ∙ ap (λ b. not (not b) && word_tells call
    (entry_at w c.args.asked.now.thread c.args.asked.now.a0)) even
    ∙ ap (word_tells call)
    (entry_paid c.args.state.now c.args.asked.now.thread q o e c.args.asked.now.a0 ∙ found)
    ∙ ap (λ n. n == c.args.asked.now.a1)
    (c.word_at.ensures w (paid_state c.args.state.now c.args.asked.now.thread).table))

pub returns-in-None : goal.returns-in-None
returns-in-None c = λ q o e.
    let w : World = sent o e (world_of q (paid_state c.args.state.now c.args.asked.now.thread)) in
    let call : Call = call_in w c.args.asked.now in
    let found : entry_in c.args.state.now.table c.args.asked.now.thread c.args.asked.now.a0
    ≡ None = sym c.entry_at.ensures ∙ c.in-None.is in
    let even : (c.args.asked.now.a0 % 4 == 0) ≡ true =
    grind (arith, nat_tests, c.if-asked-ne0.false) in
    sym (futex_tells call
    ∙ ap (λ b. not (not b) && word_tells call
    (entry_at w c.args.asked.now.thread c.args.asked.now.a0)) even
    ∙ ap (word_tells call)
    (entry_paid c.args.state.now c.args.asked.now.thread q o e c.args.asked.now.a0 ∙ found))
