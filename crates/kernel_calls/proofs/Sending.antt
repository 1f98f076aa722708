-- The branches of a write, and what a service sends.
use Rattle.std.proofs.Common.{◌≡◌, ◌≢◌, ℕ, Bool, true, cond, List, [], ◌++◌, Option, Some}
use Rattle.std.proofs.Common.{None, IsSome, IfSome, refl, sym, ap, ◌∙◌, eq-eqb}
use Rattle.std.specs.Prelude.{unwrap_or, slice_get}
use Rattle.std.proofs.lemmas.Bool.{ne_eqb}
use Rattle.dos_world.specs.World.{World, Holdings, live_process, registers_by}
use Rattle.dos_world.specs.Kernel.{copied_in, answered}
use Rattle.dos_world.specs.Play.{done}
use Rattle.dos_world.specs.Services.{Service, Call, went, transfers, returns}
use Rattle.dos_world.specs.Services.{returns_in, refuses, count_of, write, write_by, descriptor}
use Rattle.dos_world.specs.declared.End.{End}
use Rattle.dos_world.specs.declared.End.TheVariants.{Input, Output, Error, PipeRead, PipeWrite}
use Rattle.dos_io.specs.declared.border.Stream.{Stream}
use Rattle.dos_io.specs.declared.border.Stream.TheVariants.{Output as output_stream}
use Rattle.dos_io.specs.declared.border.Stream.TheVariants.{Error as error_stream}
use Rattle.proc_table.specs.Tables.{thread_by, held_in, end_named}
use Rattle.kernel_mem.specs.MemoryWorld.{in_world}
use Rattle.kernel_objects.specs.Pipework.{Pipework}
use Rattle.kernel_calls.specs.StateWorld.{IsSound, StandsButOwners, world_of, base, sent}
use Rattle.kernel_calls.specs.Plays.{with_more}
use Rattle.kernel_calls.specs.CallResults.{AreAsked, call_in, asked_count, are_readable, target_of}
use Rattle.kernel_calls.specs.CallResults.{write_to}
use Rattle.kernel_calls.specs.declared.state.State.{State}
use Rattle.kernel_calls.specs.declared.state.Asked.{Asked}
use Rattle.kernel_calls.specs.declared.writing.Target.{Target}
use Rattle.kernel_calls.specs.declared.writing.Target.TheVariants.{To as to_stream}
use Rattle.kernel_calls.specs.declared.writing.Target.TheVariants.{Pipe as pipe_target}
use Rattle.kernel_calls.proofs.Keeping.{process_alive}

-- the state after an answer
abbrev pub answering : State → ℕ → ℕ → State
answering s t value = record s { table = thread_by (registers_by (answered value)) s.table t }

-- ---- which branch

pub zero_moves : (s : Service) (b : Bool) (c : Call) → count_of c ≡ 0
    → transfers s b c ≡ returns 0 c
zero_moves s b c e = ap (λ (t : Bool). cond t (returns 0 c) (cond b (s c) (refuses 14 c)))
    (eq-eqb (count_of c) 0 e)

pub moved : (s : Service) (b d : Bool) (c : Call) → count_of c ≢ 0 → b ≡ d
    → transfers s b c ≡ cond d (s c) (refuses 14 c)
moved s b d c e is = ap (λ (t : Bool). cond t (returns 0 c) (cond b (s c) (refuses 14 c)))
    (ne_eqb (count_of c) 0 e) ∙ ap (λ (t : Bool). cond t (s c) (refuses 14 c)) is

-- ---- what is sent, whichever stream it goes to

-- The bytes are read in the state between, whose frames are granted.
pub sent-bytes : (s m new : State) (a : Asked) (stream : Stream) (bytes : List ℕ)
    → asked_count a ≢ 0 → ((q : ℕ) (o e : List ℕ) → are_readable (sent o e (world_of q s)) a ≡ true)
    → ((w : World) → copied_in (in_world w s.frames s.table) a.thread a.a1 (asked_count a)
    ≡ (in_world w m.frames m.table, bytes)) → m.round ≡ s.round → StandsButOwners s m
    → new ≡ answering m a.thread (asked_count a) → (q : ℕ) (o e : List ℕ)
    → transfers (write_to stream) (are_readable (sent o e (world_of q s)) a)
    (call_in (sent o e (world_of q s)) a)
    ≡ done (went (with_more stream bytes (sent o e (world_of q new))))
sent-bytes s m new a stream bytes some all copied same stood is q o e =
    moved (write_to stream) _ true (call_in (sent o e (world_of q s)) a) some (all q o e)
    ∙ written stream
    ∙ ap (λ v. done (went (with_more stream bytes
    (sent o e (in_world v m.frames
    (thread_by (registers_by (answered (asked_count a))) m.table a.thread))))))
    (sym rest_is)
    ∙ ap (λ (x : State). done (went (with_more stream bytes (sent o e (world_of q x))))) (sym is)
  where
    rest_is : base q m.round m.pipes.bytes m.futexes ≡ base q s.round s.pipes.bytes s.futexes
    rest_is = ap (λ r. base q r m.pipes.bytes m.futexes) same
        ∙ ap (λ (x : Pipework). base q s.round x.bytes m.futexes) stood.pipes
        ∙ ap (λ sleepers. base q s.round s.pipes.bytes sleepers) stood.futexes

    written : (to : Stream) → write_to to (call_in (sent o e (world_of q s)) a)
        ≡ done (went (with_more to bytes
        (sent o e (in_world (base q s.round s.pipes.bytes s.futexes) m.frames
        (thread_by (registers_by (answered (asked_count a))) m.table a.thread)))))
    written output_stream =
        ap (λ (k : World × List ℕ). returns_in (record k.0 { output = k.0.output ++ k.1 })
        (asked_count a) (call_in (sent o e (world_of q s)) a))
        (copied (sent o e (base q s.round s.pipes.bytes s.futexes)))
    written error_stream =
        ap (λ (k : World × List ℕ). returns_in (record k.0 { error = k.0.error ++ k.1 })
        (asked_count a) (call_in (sent o e (world_of q s)) a))
        (copied (sent o e (base q s.round s.pipes.bytes s.futexes)))

-- ---- where it goes

-- what the table says of a descriptor is what the call's descriptor names
pub descriptor_is : (w : World) (a : Asked) (d : Option End) → IsSome (live_process w a.process)
    → IfSome (live_process w a.process) (λ h. d ≡ end_named h a.a0) → descriptor (call_in w a) ≡ d
descriptor_is w a d live is = by (live_process w a.process) live is
  where
    by : (o : Option Holdings) → IsSome o → IfSome o (λ h. d ≡ end_named h a.a0)
        → unwrap_or (slice_get
        (elim o as (λ _. List (Option End)) [ None ↦ [] | Some h ↦ h.descriptors ]) a.a0)
        None ≡ d
    by None l e = cc
    by (Some h) l e = sym e

-- so the call's descriptor is this end
pub names_end : (s : State) (sound : IsSound s) (a : Asked) → AreAsked s a → (d end : Option End)
    → IfSome (held_in s.table.processes a.process) (λ h. d ≡ end_named h a.a0) → d ≡ end
    → (q : ℕ) (o e : List ℕ) → descriptor (call_in (sent o e (world_of q s)) a) ≡ end
names_end s sound a are d end is same q o e =
    descriptor_is (sent o e (world_of q s)) a d
    (process_alive s sound a.thread a.process are.live are.process) is ∙ same

-- and it writes what a write to that end writes
pub writes_as : (s : State) (sound : IsSound s) (a : Asked) → AreAsked s a → (d end : Option End)
    → IfSome (held_in s.table.processes a.process) (λ h. d ≡ end_named h a.a0) → d ≡ end
    → (q : ℕ) (o e : List ℕ)
    → write (call_in (sent o e (world_of q s)) a)
    ≡ write_by end (call_in (sent o e (world_of q s)) a)
writes_as s sound a are d end is same q o e =
    ap (λ x. write_by x (call_in (sent o e (world_of q s)) a))
    (names_end s sound a are d end is same q o e)

-- the end that a target is
abbrev pub end_of : Target → End
end_of (to_stream output_stream) = Output
end_of (to_stream error_stream) = Error
end_of (pipe_target pipe) = PipeWrite pipe

-- a write to a stream
pub writes_to : (stream : Stream) (w : World) (a : Asked)
    → write_by (Some (end_of (to_stream stream))) (call_in w a)
    ≡ transfers (write_to stream) (are_readable w a) (call_in w a)
writes_to output_stream w a = refl
writes_to error_stream w a = refl

pub target_end : (d : Option End) (target : Target) → target_of d ≡ Some target
    → d ≡ Some (end_of target)
target_end (Some Output) target e =
    let same : to_stream output_stream ≡ target = cc in ap (λ k. Some (end_of k)) same
target_end (Some Error) target e =
    let same : to_stream error_stream ≡ target = cc in ap (λ k. Some (end_of k)) same
target_end (Some (PipeWrite p)) target e =
    let same : pipe_target p ≡ target = cc in ap (λ k. Some (end_of k)) same
target_end (Some Input) target e = cc
target_end (Some (PipeRead p)) target e = cc
target_end None target e = cc

pub writes_none : (d : Option End) (c : Call) → target_of d ≡ None → write_by d c ≡ refuses 9 c
writes_none (Some Output) c e = cc
writes_none (Some Error) c e = cc
writes_none (Some Input) c e = refl
writes_none (Some (PipeRead p)) c e = refl
writes_none (Some (PipeWrite p)) c e = cc
writes_none None c e = refl
