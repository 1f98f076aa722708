use Rattle.std.proofs.Common.{◌≡◌, ℕ, List, Option, Some, IfSome, refl, sym, ap, ◌∙◌}
use Rattle.dos_world.specs.Play.{done}
use Rattle.dos_world.specs.Services.{went, transfers, write, write_by}
use Rattle.dos_world.specs.declared.End.{End}
use Rattle.dos_world.specs.declared.End.TheVariants.{PipeWrite}
use Rattle.proc_table.specs.Tables.{held_in, end_named}
use Rattle.kernel_calls.specs.StateWorld.{IsSound, sent, world_of}
use Rattle.kernel_calls.specs.CallResults.{AreAsked, are_readable, call_in, target_of, write_to}
use Rattle.kernel_calls.specs.declared.state.State.{State}
use Rattle.kernel_calls.specs.declared.state.Asked.{Asked}
use Rattle.kernel_calls.specs.declared.state.Served.TheVariants.{Went}
use Rattle.kernel_calls.specs.declared.writing.Target.{Target}
use Rattle.kernel_calls.specs.declared.writing.Target.TheVariants.{To as to_stream}
use Rattle.kernel_calls.specs.declared.writing.Target.TheVariants.{Pipe as pipe_target}
use Rattle.kernel_calls.proofs.DescriptorRows.{named_range}
use Rattle.kernel_calls.proofs.Sending.{end_of, target_end, writes_as, writes_none, writes_to}
use Rattle.kernel_calls.proofs.ServicePlays.{plays_as, plays_quietly}
use Rattle.kernel_calls.proofs.writing.write.Goals as goal

-- a write to a target, where the descriptor names it
to_target : (s : State) (sound : IsSound s) (a : Asked) → AreAsked s a → (d : Option End)
    (target : Target) → IfSome (held_in s.table.processes a.process) (λ h. d ≡ end_named h a.a0)
    → target_of d ≡ Some target → (q : ℕ) (o e : List ℕ)
    → write (call_in (sent o e (world_of q s)) a)
    ≡ write_by (Some (end_of target)) (call_in (sent o e (world_of q s)) a)
to_target s sound a are d target is goes =
    writes_as s sound a are d (Some (end_of target)) is (target_end d target goes)

pub write_pipe-requires-clause-pipe : goal.write_pipe-requires-clause-pipe
write_pipe-requires-clause-pipe g c =
    named_range c.args.state.now c.requires.sound c.args.asked.now c.requires.asked
    c.descriptor.result
    (PipeWrite c.in-Some-Pipe.pipe) c.descriptor.ensures
    (target_end c.descriptor.result (pipe_target c.in-Some-Pipe.pipe)
    (cc (c.in-Some-Pipe.is, c.in-Some-Pipe.field-0-is, c.target_of.ensures)))

pub returns-in-Some-To-clause-plays : goal.returns-in-Some-To-clause-plays
returns-in-Some-To-clause-plays g c =
    let stream = c.in-Some-To.stream in
    let a = c.args.asked.now in
    plays_as (λ w. write (call_in w a))
    (λ w. transfers (write_to stream) (are_readable w a) (call_in w a)) c.args.state.now
    c.args.state.now
    (λ q o e. to_target c.args.state.now c.requires.sound a c.requires.asked
    c.descriptor.result (to_stream stream) c.descriptor.ensures
    (cc (c.in-Some-To.is, c.in-Some-To.field-0-is, c.target_of.ensures)) q o e
    ∙ writes_to stream (sent o e (world_of q c.args.state.now)) a)
    _ _ c.send.result c.send.new.state c.send.ensures.plays

pub returns-in-Some-Pipe-clause-plays : goal.returns-in-Some-Pipe-clause-plays
returns-in-Some-Pipe-clause-plays g c =
    plays_quietly (λ w. write (call_in w c.args.asked.now)) c.args.state.now c.write_pipe.result
    c.write_pipe.new.state _
    (λ q o e. to_target c.args.state.now c.requires.sound c.args.asked.now c.requires.asked
    c.descriptor.result (pipe_target c.in-Some-Pipe.pipe) c.descriptor.ensures
    (cc (c.in-Some-Pipe.is, c.in-Some-Pipe.field-0-is, c.target_of.ensures)) q o e
    ∙ c.write_pipe.ensures.goes_on q o e)

pub returns-in-None-clause-plays : goal.returns-in-None-clause-plays
returns-in-None-clause-plays g c =
    plays_quietly (λ w. write (call_in w c.args.asked.now)) c.args.state.now Went
    c.refuse_call.new.state _
    (λ q o e. writes_as c.args.state.now c.requires.sound c.args.asked.now c.requires.asked
    c.descriptor.result c.descriptor.result c.descriptor.ensures refl q o e
    ∙ writes_none c.descriptor.result
    (call_in (sent o e (world_of q c.args.state.now)) c.args.asked.now)
    (sym c.target_of.ensures ∙ c.in-None.is)
    ∙ ap (λ s. done (went (sent o e (world_of q s)))) (sym c.refuse_call.ensures.answers))
