-- What a call of a service comes to, once it is paid for. This project's own rules.
use Rattle.std.specs.Prelude.{◌≡◌, ℕ, min, Bool, List, Option, None, Some, IfSome}
use Rattle.dos_world.specs.World.{World}
use Rattle.dos_world.specs.Kernel.{all_reach}
use Rattle.dos_world.specs.Play.{done}
use Rattle.dos_world.specs.Services.{charged, Call, Service as FlatService}
use Rattle.dos_world.specs.Services.{write_output, write_error}
use Rattle.dos_world.specs.declared.Access.TheVariants.{Load}
use Rattle.dos_world.specs.declared.End.{End}
use Rattle.dos_world.specs.declared.End.TheVariants.{Input, Output, Error, PipeRead, PipeWrite}
use Rattle.dos_io.specs.declared.border.Stream.{Stream}
use Rattle.dos_io.specs.declared.border.Stream.TheVariants.{Output as output_stream}
use Rattle.dos_io.specs.declared.border.Stream.TheVariants.{Error as error_stream}
use Rattle.proc_table.specs.Tables.{IsLiveThread, thread_by, thread_in}
use Rattle.kernel_calls.specs.StateWorld.{IsReady, world_of, sent, way_in}
use Rattle.kernel_calls.specs.declared.state.State.{State}
use Rattle.kernel_calls.specs.declared.state.Asked.{Asked}
use Rattle.kernel_calls.specs.declared.state.Served.{Served}
use Rattle.kernel_calls.specs.declared.reading.Source.{Source}
use Rattle.kernel_calls.specs.declared.reading.Source.TheVariants.{Input as input_source}
use Rattle.kernel_calls.specs.declared.reading.Source.TheVariants.{Pipe as pipe_source}
use Rattle.kernel_calls.specs.declared.writing.Target.{Target}
use Rattle.kernel_calls.specs.declared.writing.Target.TheVariants.{To as to_stream}
use Rattle.kernel_calls.specs.declared.writing.Target.TheVariants.{Pipe as pipe_target}

-- these arguments, asked in this world
abbrev pub call_in : World → Asked → Call
call_in w a = record {
  world = w;
  thread = a.thread;
  process = a.process;
  a0 = a.a0;
  a1 = a.a1;
  a2 =
      a.a2;
}

-- the state once t's call is paid for
abbrev pub paid_state : State → ℕ → State
paid_state s t = record s { table = thread_by charged s.table t }

-- the thread that asks lives and is ready, and its process is the one that is said
pub record AreAsked (s : State) (a : Asked) : Type 0 where
  pub live : IsLiveThread s.table.threads a.thread
  pub ready : IsReady s.table.threads a.thread
  pub process : IfSome (thread_in s.table.threads a.thread) (λ thread. a.process ≡ thread.process)

-- ---- what it does

-- From the old state's world it goes on this way in the new state's world. It asks nothing and
-- sends nothing.
abbrev pub ActsQuietly : FlatService → State → Asked → Served → State → Type 0
ActsQuietly service old a way new = (q : ℕ) (o e : List ℕ)
    → service (call_in (sent o e (world_of q old)) a)
    ≡ done (way_in way (sent o e (world_of q new)))

-- ---- reading and writing

-- where a descriptor writes to: one of the group's own outputs, or a pipe
abbrev pub target_of : Option End → Option Target
target_of (Some Output) = Some (to_stream output_stream)
target_of (Some Error) = Some (to_stream error_stream)
target_of (Some Input) = None
target_of (Some (PipeRead pipe)) = None
target_of (Some (PipeWrite pipe)) = Some (pipe_target pipe)
target_of None = None

-- where a descriptor reads from: the input, or a pipe
abbrev pub source_of : Option End → Option Source
source_of (Some Input) = Some input_source
source_of (Some (PipeRead pipe)) = Some (pipe_source pipe)
source_of (Some Output) = None
source_of (Some Error) = None
source_of (Some (PipeWrite pipe)) = None
source_of None = None

-- how many bytes are asked for
abbrev pub asked_count : Asked → ℕ
asked_count a = min a.a2 4096

-- whether all of them are mapped
abbrev pub are_readable : World → Asked → Bool
are_readable w a = all_reach w a.thread a.a1 (asked_count a) Load

-- the service that writes to a stream
abbrev pub write_to : Stream → FlatService
write_to output_stream = write_output
write_to error_stream = write_error
