use Rattle.std.proofs.Common.{◌≡◌, ℕ, List, Option, Some, IfSome, refl, sym, ap, ◌∙◌}
use Rattle.dos_world.specs.Play.{done}
use Rattle.dos_world.specs.Services.{went, read, read_by}
use Rattle.dos_world.specs.declared.End.{End}
use Rattle.dos_world.specs.declared.End.TheVariants.{Input, PipeRead}
use Rattle.proc_table.specs.Tables.{held_in, end_named}
use Rattle.kernel_calls.specs.StateWorld.{IsSound, sent, world_of}
use Rattle.kernel_calls.specs.CallResults.{AreAsked, call_in, source_of}
use Rattle.kernel_calls.specs.declared.state.State.{State}
use Rattle.kernel_calls.specs.declared.state.Asked.{Asked}
use Rattle.kernel_calls.specs.declared.state.Served.TheVariants.{Went}
use Rattle.kernel_calls.specs.declared.reading.Source.{Source}
use Rattle.kernel_calls.specs.declared.reading.Source.TheVariants.{Input as input_source}
use Rattle.kernel_calls.specs.declared.reading.Source.TheVariants.{Pipe as pipe_source}
use Rattle.kernel_calls.proofs.DescriptorRows.{named_range}
use Rattle.kernel_calls.proofs.InputRows.{end_of, reads_as, reads_none, source_end}
use Rattle.kernel_calls.proofs.ServicePlays.{plays_as, plays_quietly}
use Rattle.kernel_calls.proofs.reading.read.Goals as goal

-- a read from a source, where the descriptor names it
from_source : (s : State) (sound : IsSound s) (a : Asked) → AreAsked s a → (d : Option End)
    (source : Source) → IfSome (held_in s.table.processes a.process) (λ h. d ≡ end_named h a.a0)
    → source_of d ≡ Some source → (q : ℕ) (o e : List ℕ)
    → read (call_in (sent o e (world_of q s)) a)
    ≡ read_by (Some (end_of source)) (call_in (sent o e (world_of q s)) a)
from_source s sound a are d source is goes =
    reads_as s sound a are d (Some (end_of source)) is (source_end d source goes)

pub read_pipe-requires-clause-pipe : goal.read_pipe-requires-clause-pipe
read_pipe-requires-clause-pipe g c =
    named_range c.args.state.now c.requires.sound c.args.asked.now c.requires.asked
    c.descriptor.result
    (PipeRead c.in-Some-Pipe.pipe) c.descriptor.ensures
    (source_end c.descriptor.result (pipe_source c.in-Some-Pipe.pipe)
    (cc (c.in-Some-Pipe.is, c.in-Some-Pipe.field-0-is, c.source_of.ensures)))

pub returns-in-Some-Input-clause-plays : goal.returns-in-Some-Input-clause-plays
returns-in-Some-Input-clause-plays g c =
    let a = c.args.asked.now in
    plays_as (λ w. read (call_in w a)) (λ w. read_by (Some Input) (call_in w a)) c.args.state.now
    c.args.state.now
    (from_source c.args.state.now c.requires.sound a c.requires.asked
    c.descriptor.result input_source c.descriptor.ensures
    (cc (c.in-Some-Input.is, c.in-Some-Input.field-0-is, c.source_of.ensures)))
    _ _ c.read_input.result c.read_input.new.state c.read_input.ensures.plays

pub returns-in-Some-Pipe-clause-plays : goal.returns-in-Some-Pipe-clause-plays
returns-in-Some-Pipe-clause-plays g c =
    plays_quietly (λ w. read (call_in w c.args.asked.now)) c.args.state.now c.read_pipe.result
    c.read_pipe.new.state _
    (λ q o e. from_source c.args.state.now c.requires.sound c.args.asked.now c.requires.asked
    c.descriptor.result (pipe_source c.in-Some-Pipe.pipe) c.descriptor.ensures
    (cc (c.in-Some-Pipe.is, c.in-Some-Pipe.field-0-is, c.source_of.ensures)) q o e
    ∙ c.read_pipe.ensures.goes_on q o e)

pub returns-in-None-clause-plays : goal.returns-in-None-clause-plays
returns-in-None-clause-plays g c =
    plays_quietly (λ w. read (call_in w c.args.asked.now)) c.args.state.now Went
    c.refuse_call.new.state _
    (λ q o e. reads_as c.args.state.now c.requires.sound c.args.asked.now c.requires.asked
    c.descriptor.result c.descriptor.result c.descriptor.ensures refl q o e
    ∙ reads_none c.descriptor.result
    (call_in (sent o e (world_of q c.args.state.now)) c.args.asked.now)
    (sym c.source_of.ensures ∙ c.in-None.is)
    ∙ ap (λ s. done (went (sent o e (world_of q s)))) (sym c.refuse_call.ensures.answers))
