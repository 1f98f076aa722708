-- What reading answers where the shim is asked for input, and where it isn't.
use Rattle.std.proofs.Common.{◌≡◌, ℕ, ◌+◌, ◌-◌, ◌≤◌, List, take, length, Option, Some}
use Rattle.std.proofs.Common.{None, IfSome, refl, sym, ap, ◌∙◌, arith}
use Rattle.std.specs.Prelude.{All, Ok}
use Rattle.std.proofs.lemmas.List.Elements.{All-nil}
use Rattle.dos_world.specs.World.{World}
use Rattle.dos_world.specs.Kernel.{copied_out}
use Rattle.dos_world.specs.Play.{ask, done}
use Rattle.dos_world.specs.DescriptorCalls.{input_copied}
use Rattle.dos_world.specs.Services.{Call, went, refuses, read, read_by, read_input, returns_in}
use Rattle.dos_world.specs.Lawful.{IsByte}
use Rattle.dos_world.specs.declared.End.{End}
use Rattle.dos_world.specs.declared.End.TheVariants.{Input, Output, Error, PipeRead, PipeWrite}
use Rattle.dos_world.specs.declared.Question.TheVariants.{Input as input_question}
use Rattle.dos_io.specs.Borders.{BorderState, Crosses, exchanged}
use Rattle.dos_io.specs.declared.exchange.Exchange.TheVariants.{Input as input_exchange}
use Rattle.dos_laws.specs.Standing.{IsPost}
use Rattle.kernel_mem.specs.MemoryWorld.{in_world}
use Rattle.page_store.specs.Store.{Store}
use Rattle.proc_table.specs.Tables.{held_in, end_named}
use Rattle.kernel_calls.specs.StateWorld.{IsSound, base, sent, world_of}
use Rattle.kernel_calls.specs.Plays.{PlaysOnce}
use Rattle.kernel_calls.specs.CallResults.{AreAsked, asked_count, call_in, source_of}
use Rattle.kernel_calls.specs.declared.state.State.{State}
use Rattle.kernel_calls.specs.declared.state.Asked.{Asked}
use Rattle.kernel_calls.specs.declared.state.Served.TheVariants.{Went}
use Rattle.kernel_calls.specs.declared.reading.Source.{Source}
use Rattle.kernel_calls.specs.declared.reading.Source.TheVariants.{Input as input_source}
use Rattle.kernel_calls.specs.declared.reading.Source.TheVariants.{Pipe as pipe_source}
use Rattle.kernel_calls.proofs.Sending.{answering, names_end}
use Rattle.kernel_calls.proofs.ServicePlays.{plays_asked}

-- ---- the input

-- so much is asked for, in the round that is being run
pub input_asked : (s : State) (a : Asked) (count : ℕ) → 1 ≤ s.round → count ≡ asked_count a
    → input_question (s.round - 1 + 1) a.thread (asked_count a)
    ≡ input_question s.round a.thread count
input_asked s a count first same =
    let now : s.round - 1 + 1 ≡ s.round = omega (arith, first) in
    ap (λ n. input_question n a.thread (asked_count a)) now
    ∙ ap (λ n. input_question s.round a.thread n) (sym same)

pub input_plays : (s : State) (a : Asked) (count moved : ℕ) (frames : Store)
    (buffer : List ℕ) (before after : BorderState) (new : State) → 1 ≤ s.round
    → count ≡ asked_count a → moved ≤ count → length (take moved buffer) ≡ moved
    → All IsByte (take moved buffer)
    → Crosses before (exchanged (input_exchange s.round a.thread count (take moved buffer))) after
    → ((w : World) → copied_out (in_world w s.frames s.table) a.thread a.a1 (take moved buffer)
    ≡ in_world w frames s.table)
    → new ≡ answering (record s { frames = frames; buffer = buffer }) a.thread moved
    → PlaysOnce (λ w. read_input (call_in w a)) (Ok Went) s before new after
input_plays s a count moved frames buffer before after new first same within long bytes crosses
    copies is =
    plays_asked (λ w. read_input (call_in w a))
    (input_exchange s.round a.thread count (take moved buffer)) s new before after
    (λ q o e. input_copied (call_in (sent o e (world_of q s)) a))
    (λ q o e. ap (λ question. ask question o e (input_copied (call_in (sent o e (world_of q s)) a)))
    (input_asked s a count first same))
    (λ q o e. let c : Call = call_in (sent o e (world_of q s)) a in
    ap (λ n. returns_in (copied_out c.world c.thread c.a1 (take moved buffer)) n c) long
    ∙ ap (λ v. returns_in v moved c) (copies (sent o e (base q s.round s.pipes.bytes s.futexes)))
    ∙ ap (λ x. done (went (sent o e (world_of q x)))) (sym is))
    (record {
      posts = All-nil IsPost;
      bytes = bytes;
      count = omega (arith, long, within, same);
    })
    tt crosses

-- ---- where a0 reads from

pub reads_as : (s : State) (sound : IsSound s) (a : Asked) → AreAsked s a → (d end : Option End)
    → IfSome (held_in s.table.processes a.process) (λ h. d ≡ end_named h a.a0) → d ≡ end
    → (q : ℕ) (o e : List ℕ)
    → read (call_in (sent o e (world_of q s)) a)
    ≡ read_by end (call_in (sent o e (world_of q s)) a)
reads_as s sound a are d end is same q o e =
    ap (λ x. read_by x (call_in (sent o e (world_of q s)) a))
    (names_end s sound a are d end is same q o e)

-- the end that a source is
abbrev pub end_of : Source → End
end_of input_source = Input
end_of (pipe_source pipe) = PipeRead pipe

pub source_end : (d : Option End) (source : Source) → source_of d ≡ Some source
    → d ≡ Some (end_of source)
source_end (Some Input) source e =
    let same : input_source ≡ source = cc in ap (λ k. Some (end_of k)) same
source_end (Some (PipeRead p)) source e =
    let same : pipe_source p ≡ source = cc in ap (λ k. Some (end_of k)) same
source_end (Some Output) source e = cc
source_end (Some Error) source e = cc
source_end (Some (PipeWrite p)) source e = cc
source_end None source e = cc

pub reads_none : (d : Option End) (c : Call) → source_of d ≡ None → read_by d c ≡ refuses 9 c
reads_none (Some Input) c e = cc
reads_none (Some (PipeRead p)) c e = cc
reads_none (Some Output) c e = refl
reads_none (Some Error) c e = refl
reads_none (Some (PipeWrite p)) c e = refl
reads_none None c e = refl
