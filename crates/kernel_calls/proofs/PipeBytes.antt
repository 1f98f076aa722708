-- What reading from a pipe and writing to one answer, and which state they leave.
use Rattle.std.proofs.Common.{◌≡◌, ◌≢◌, ℕ, ◌-◌, ◌<◌, ◌++◌, Bool, true, false, cond, List, length}
use Rattle.std.proofs.Common.{take, drop, sym, ap, subst, ◌∙◌, arith}
use Rattle.std.specs.Prelude.{min, not, nat_lt, ◌==◌}
use Rattle.std.proofs.lemmas.Bool.{eq-eqb, ne_eqb}
use Rattle.std.proofs.lemmas.Bool.Decides.{nat_tests}
use Rattle.dos_world.specs.World.{World, in_state}
use Rattle.dos_world.specs.Kernel.{copied_in, copied_out, has_reader, has_writer, minus}
use Rattle.dos_world.specs.Counts.{reads_pipe, writes_pipe}
use Rattle.dos_world.specs.Play.{Play, done}
use Rattle.dos_world.specs.Calls.{Call, Served as FlatServed, went, waits, refuses, retries}
use Rattle.dos_world.specs.Calls.{returns, returns_in}
use Rattle.dos_world.specs.DescriptorCalls.{read_pipe, with_pipe, write_pipe, write_some}
use Rattle.dos_world.specs.declared.ThreadState.TheVariants.{Retry}
use Rattle.kernel_mem.specs.MemoryWorld.{in_world}
use Rattle.kernel_objects.specs.Pipework.{Pipework, bytes_at, ends_at, with_bytes}
use Rattle.page_store.specs.Store.{Store}
use Rattle.proc_table.specs.Tables.{Tables, thread_by}
use Rattle.kernel_calls.specs.StateWorld.{IsCounted, base, sent, world_of}
use Rattle.kernel_calls.specs.CallResults.{ActsQuietly, asked_count, call_in}
use Rattle.kernel_calls.specs.declared.state.State.{State}
use Rattle.kernel_calls.specs.declared.state.Asked.{Asked}
use Rattle.kernel_calls.specs.declared.state.Served.TheVariants.{Went, Waits}
use Rattle.kernel_calls.proofs.Counted.{counted-thread_by}
use Rattle.kernel_calls.proofs.ProcessEnds.{some_end}
use Rattle.kernel_calls.proofs.Sending.{answering}

-- the state in which a thread waits at its ecall
abbrev pub retrying : State → ℕ → State
retrying s t = record s { table = thread_by (in_state Retry) s.table t }

-- the state with these frames, pipes and what lies in the buffer
abbrev pub moved_to : State → Store → Pipework → List ℕ → State
moved_to s frames pipes buffer =
    record s { frames = frames; pipes = pipes; buffer = buffer }

pub retry_counted : (s : State) (t : ℕ) (table : Tables)
    → table ≡ thread_by (in_state Retry) s.table t
    → IsCounted s → IsCounted (record s { table = table })
retry_counted s t table is counted =
    subst (λ (T : Tables). IsCounted (record s { table = T })) (sym is)
    (counted-thread_by s t (in_state Retry) counted)

-- where both are some, so is the lesser
pub some_least : (k x y : ℕ) → k ≡ min x y → 0 < x → y ≢ 0 → k ≢ 0
some_least k x y least some other none = other (omega (arith, least, some, none))

module _ (s : State) (counted : IsCounted s) (a : Asked) (pipe : ℕ) where
  abbrev held : List ℕ
  held = bytes_at s.pipes pipe

  abbrev call : ℕ → List ℕ → List ℕ → Call
  call q o e = call_in (sent o e (world_of q s)) a

  -- ---- who has the other end

  none_of : (n : ℕ) → n ≡ 0 → nat_lt 0 n ≡ false
  none_of n e = ap (nat_lt 0) e

  some_of : (n : ℕ) → n ≢ 0 → nat_lt 0 n ≡ true
  some_of n some = grind (arith, nat_tests)

  writer_is : (q : ℕ) (o e : List ℕ)
      → has_writer (sent o e (world_of q s)) pipe ≡ nat_lt 0 (ends_at s.pipes pipe true)
  writer_is q o e = some_end (writes_pipe pipe) s.table.processes
      ∙ ap (nat_lt 0) (sym (counted.ends.writers pipe))

  reader_is : (q : ℕ) (o e : List ℕ)
      → has_reader (sent o e (world_of q s)) pipe ≡ nat_lt 0 (ends_at s.pipes pipe false)
  reader_is q o e = some_end (reads_pipe pipe) s.table.processes
      ∙ ap (nat_lt 0) (sym (counted.ends.readers pipe))

  -- ---- reading

  -- what is done by whether there is a byte, and a writer
  abbrev read_with : Call → Bool → Bool → ℕ → Play FlatServed
  read_with c none writer k =
      cond none (cond writer (retries c) (returns 0 c))
      (returns_in
      (with_pipe (copied_out c.world c.thread c.a1 (take k held)) pipe (drop k held)) k c)

  -- an empty pipe
  read_none : length held ≡ 0 → (writer : Bool) → nat_lt 0 (ends_at s.pipes pipe true) ≡ writer
      → (q : ℕ) (o e : List ℕ)
      → read_pipe pipe (call q o e)
      ≡ cond writer (retries (call q o e)) (returns 0 (call q o e))
  read_none empty writer is q o e =
      let c : Call = call q o e in
      let none : min (asked_count a) (length held) ≡ 0 = omega (arith, empty) in
      ap (λ b. read_with c b (has_writer c.world pipe) (min (asked_count a) (length held)))
      (eq-eqb (min (asked_count a) (length held)) 0 none)
      ∙ ap (λ b. cond b (retries c) (returns 0 c)) (writer_is q o e ∙ is)

  pub at_end : (new : State) → length held ≡ 0 → ends_at s.pipes pipe true ≡ 0
      → new ≡ answering s a.thread 0 → ActsQuietly (read_pipe pipe) s a Went new
  at_end new empty none is q o e =
      read_none empty false (none_of (ends_at s.pipes pipe true) none) q o e
      ∙ ap (λ x. done (went (sent o e (world_of q x)))) (sym is)

  pub awaits_bytes : (new : State) → length held ≡ 0 → ends_at s.pipes pipe true ≢ 0
      → new ≡ retrying s a.thread → ActsQuietly (read_pipe pipe) s a Waits new
  awaits_bytes new empty some is q o e =
      read_none empty true (some_of (ends_at s.pipes pipe true) some) q o e
      ∙ ap (λ x. done (waits (sent o e (world_of q x)))) (sym is)

  pub taken : (k : ℕ) (frames : Store) (pipes : Pipework) (buffer : List ℕ) (new : State)
      → k ≡ min (asked_count a) (length held) → k ≢ 0
      → ((w : World) → copied_out (in_world w s.frames s.table) a.thread a.a1 (take k held)
      ≡ in_world w frames s.table)
      → pipes ≡ with_bytes s.pipes pipe (drop k held)
      → new ≡ answering (moved_to s frames pipes buffer) a.thread k
      → ActsQuietly (read_pipe pipe) s a Went new
  taken k frames pipes buffer new least some copies left is q o e =
      let c : Call = call q o e in
      ap (λ n. read_with c (n == 0) (has_writer c.world pipe) n) (sym least)
      ∙ ap (λ b. read_with c b (has_writer c.world pipe) k) (ne_eqb k 0 some)
      ∙ ap (λ v. returns_in (with_pipe v pipe (drop k held)) k c)
      (copies (sent o e (base q s.round s.pipes.bytes s.futexes)))
      ∙ ap (λ P. done (went (sent o e (world_of q
      (answering (moved_to s frames P buffer) a.thread k))))) (sym left)
      ∙ ap (λ x. done (went (sent o e (world_of q x)))) (sym is)

  -- ---- writing

  abbrev room : ℕ
  room = min (asked_count a) (4096 - length held)

  pub room_is : (k count held_count : ℕ) → k ≡ min count (4096 - held_count)
      → count ≡ asked_count a → held_count ≡ length held → k ≡ room
  room_is k count held_count least same holds =
      least ∙ ap (λ n. min n (4096 - held_count)) same
      ∙ ap (λ n. min (asked_count a) (4096 - n)) holds

  -- what is done by whether there is a reader, and room for a byte
  abbrev write_with : Call → Bool → Bool → ℕ → Play FlatServed
  write_with c reader none k =
      cond (not reader) (refuses 32 c) (cond none (retries c) (write_some pipe held k c))

  write_is : (reader : Bool) → nat_lt 0 (ends_at s.pipes pipe false) ≡ reader → (q : ℕ)
      (o e : List ℕ)
      → write_pipe pipe (call q o e) ≡ write_with (call q o e) reader (room == 0) room
  write_is reader is q o e =
      ap (λ b. write_with (call q o e) b (room == 0) room) (reader_is q o e ∙ is)

  pub no_reader : (new : State) → ends_at s.pipes pipe false ≡ 0
      → new ≡ answering s a.thread (minus 32) → ActsQuietly (write_pipe pipe) s a Went new
  no_reader new none is q o e =
      write_is false (none_of (ends_at s.pipes pipe false) none) q o e
      ∙ ap (λ x. done (went (sent o e (world_of q x)))) (sym is)

  pub awaits_room : (new : State) → ends_at s.pipes pipe false ≢ 0 → room ≡ 0
      → new ≡ retrying s a.thread → ActsQuietly (write_pipe pipe) s a Waits new
  awaits_room new some none is q o e =
      write_is true (some_of (ends_at s.pipes pipe false) some) q o e
      ∙ ap (λ b. write_with (call q o e) true b room) (eq-eqb room 0 none)
      ∙ ap (λ x. done (waits (sent o e (world_of q x)))) (sym is)

  pub given : (k : ℕ) (frames : Store) (pipes : Pipework) (bytes buffer : List ℕ) (new : State)
      → ends_at s.pipes pipe false ≢ 0 → k ≡ room → k ≢ 0
      → ((w : World) → copied_in (in_world w s.frames s.table) a.thread a.a1 k
      ≡ (in_world w frames s.table, bytes))
      → pipes ≡ with_bytes s.pipes pipe (held ++ bytes)
      → new ≡ answering (moved_to s frames pipes buffer) a.thread k
      → ActsQuietly (write_pipe pipe) s a Went new
  given k frames pipes bytes buffer new reader least some copies put is q o e =
      let c : Call = call q o e in
      write_is true (some_of (ends_at s.pipes pipe false) reader) q o e
      ∙ ap (λ n. write_with c true (n == 0) n) (sym least)
      ∙ ap (λ b. write_with c true b k) (ne_eqb k 0 some)
      ∙ ap (λ (copy : World × List ℕ). returns_in (with_pipe copy.0 pipe (held ++ copy.1)) k c)
      (copies (sent o e (base q s.round s.pipes.bytes s.futexes)))
      ∙ ap (λ P. done (went (sent o e (world_of q
      (answering (moved_to s frames P buffer) a.thread k))))) (sym put)
      ∙ ap (λ x. done (went (sent o e (world_of q x)))) (sym is)
