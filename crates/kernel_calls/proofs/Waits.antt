-- What calls of wait, read, write and futex_wait come to, where they would wait.
use Rattle.std.proofs.Common.{◌≡◌, ◌≢◌, ℕ, suc, zero, ◌-◌, Bool, true, false, cond, not, List}
use Rattle.std.proofs.Common.{length, take, drop, Option, Some, None, option_map, IfSome, refl, sym}
use Rattle.std.proofs.Common.{ap, ◌∙◌, subst, arith}
use Rattle.std.specs.Prelude.{◌==◌, ◌&&◌, ◌%◌, ◌/◌, min, nat_le, nat_lt}
use Rattle.std.proofs.lemmas.Bool.Decides.{nat_tests}
use Rattle.dos_world.specs.World.{World, Holdings, Thread, entry_at, look}
use Rattle.dos_world.specs.Kernel.{all_reach, copied_out, has_reader, has_writer, opened}
use Rattle.dos_world.specs.Copying.{is_reached}
use Rattle.dos_world.specs.Counts.{reads_pipe, writes_pipe}
use Rattle.dos_world.specs.Reach.{fault, in_frame, reach}
use Rattle.dos_world.specs.Play.{Play, done}
use Rattle.dos_world.specs.Calls.{Call, Service, Served as FlatServed, charged, refuses, refuses_in}
use Rattle.dos_world.specs.Calls.{retries, returns, returns_in, waits}
use Rattle.dos_world.specs.DescriptorCalls.{count_of, pipe_bytes, read_by, read_pipe, transfers}
use Rattle.dos_world.specs.DescriptorCalls.{with_pipe, write_by, write_pipe, write_some}
use Rattle.dos_world.specs.FutexCalls.{asleep_at, by_entry, futex_wait, futex_wait_at, futex_word}
use Rattle.dos_world.specs.FutexCalls.{is_off_word}
use Rattle.dos_world.specs.Lawful.{IsEnd}
use Rattle.dos_world.specs.Signals.{play_waits}
use Rattle.dos_world.specs.declared.Access.{Access}
use Rattle.dos_world.specs.declared.Access.TheVariants.{Load, Store}
use Rattle.dos_world.specs.declared.End.{End}
use Rattle.dos_world.specs.declared.End.TheVariants.{PipeRead, PipeWrite}
use Rattle.dos_world.specs.declared.Entry.{Entry}
use Rattle.dos_world.specs.declared.Size.TheVariants.{Byte}
use Rattle.dos_laws.proofs.Mapped.{some_is}
use Rattle.dos_laws.proofs.Numbers.{changed_there}
use Rattle.kernel_objects.specs.Pipework.{bytes_at, ends_at}
use Rattle.page_store.specs.Store.{Store as Held}
use Rattle.proc_table.specs.Tables.{IsProcess, end_named, held_in, thread_in}
use Rattle.kernel_mem.specs.MemoryWorld.{entry_in, in_world, space_in}
use Rattle.kernel_calls.specs.StateWorld.{IsCounted, IsSound, sent, world_of}
use Rattle.kernel_calls.specs.CallResults.{asked_count, call_in, paid_state}
use Rattle.kernel_calls.specs.declared.state.State.{State}
use Rattle.kernel_calls.specs.declared.state.Asked.{Asked}
use Rattle.kernel_calls.proofs.EndCounts.{end_range}
use Rattle.kernel_calls.proofs.Keeping.{lawful_now}
use Rattle.kernel_calls.proofs.ProcessEnds.{some_end}

-- ---- what is seen of memory, whether the call is paid for or not

module _ (s : State) (t q : ℕ) (o e : List ℕ) where
  abbrev before : World
  before = sent o e (world_of q s)

  abbrev after : World
  after = sent o e (world_of q (paid_state s t))

  pub entry_paid : (address : ℕ) → entry_at after t address ≡ entry_in s.table t address
  entry_paid address =
      ap (λ (x : Option Thread). elim x as (λ _. Option Entry) [
        | None ↦ None
        | Some thread ↦ look (space_in s.table thread.process) (address / 4096)
      ]) (changed_there charged s.table.threads t)
      ∙ by (thread_in s.table.threads t)
    where
      by : (x : Option Thread)
          → elim (option_map charged x) as (λ _. Option Entry) [
            | None ↦ None
            | Some thread ↦ look (space_in s.table thread.process) (address / 4096)
          ] ≡ elim x as (λ _. Option Entry) [
            | None ↦ None
            | Some thread ↦ look (space_in s.table thread.process) (address / 4096)
          ]
      by None = refl
      by (Some thread) = refl

  pub reach_paid : (address n : ℕ) (access : Access)
      → all_reach after t address n access ≡ all_reach before t address n access
  reach_paid address zero access = refl
  reach_paid address (suc n) access =
      ap (λ b. b && all_reach after t (suc address) n access) one
      ∙ ap (λ b. is_reached (reach before t address Byte access) && b)
      (reach_paid (suc address) n access)
    where
      framed : (x : Option Entry) → is_reached (cond (not (address % 1 == 0)) (fault 7)
          (in_frame after t address access x))
          ≡ is_reached (cond (not (address % 1 == 0)) (fault 7)
          (in_frame before t address access x))
      framed None = refl
      framed (Some entry) = refl

      one : is_reached (reach after t address Byte access)
          ≡ is_reached (reach before t address Byte access)
      one = ap (λ x. is_reached (cond (not (address % 1 == 0)) (fault 7)
          (in_frame after t address access x))) (entry_paid address)
          ∙ framed (entry_in s.table t address)

-- ---- futex_wait

-- the word by the entry of its page
abbrev pub word_tells : Call → Option Entry → Bool
word_tells c None = false
word_tells c (Some entry) = futex_word entry c == c.a1

pub futex_tells : (c : Call)
    → play_waits (futex_wait c)
    ≡ (not (is_off_word c) && word_tells c (entry_at c.world c.thread c.a0))
futex_tells c = by (is_off_word c) (entry_at c.world c.thread c.a0)
  where
    same : (b : Bool) (w : World) (entry : Entry)
        → play_waits (cond b (done (waits (asleep_at w entry c))) (refuses_in w 11 c)) ≡ b
    same true w entry = refl
    same false w entry = refl

    by : (off : Bool) (x : Option Entry)
        → play_waits (cond off (refuses 22 c) (by_entry futex_wait_at x c))
        ≡ (not off && word_tells c x)
    by true x = refl
    by false None = refl
    by false (Some entry) =
        same (futex_word entry c == c.a1) (opened c.world c.thread c.a0 Load) entry

-- ---- bytes that are moved

-- Where bytes are asked for, and all are mapped, it is the service that tells.
pub transfers_tell : (f : Service) (mapped : Bool) (c : Call) (b : Bool)
    → (count_of c ≢ 0 → play_waits (f c) ≡ b)
    → play_waits (transfers f mapped c) ≡ ((not (count_of c == 0) && mapped) && b)
transfers_tell f mapped c b tells = by (count_of c == 0) refl mapped
  where
    by : (none : Bool) → (count_of c == 0) ≡ none → (mapped : Bool)
        → play_waits (cond none (returns 0 c) (cond mapped (f c) (refuses 14 c)))
        ≡ ((not none && mapped) && b)
    by true is mapped = refl
    by false is false = refl
    by false is true = tells (grind (arith, nat_tests, is))

module _ (pipe : ℕ) (c : Call) (some : count_of c ≢ 0) where
  abbrev held : List ℕ
  held = pipe_bytes c.world pipe

  abbrev taken : Play FlatServed
  taken =
      let k : ℕ = min (count_of c) (length held) in
      returns_in (with_pipe (copied_out c.world c.thread c.a1 (take k held)) pipe (drop k held)) k c

  pub read_tells : play_waits (read_pipe pipe c)
      ≡ ((length held == 0) && has_writer c.world pipe)
  read_tells =
      ap (λ (b : Bool). play_waits (cond b
      (cond (has_writer c.world pipe) (retries c) (returns 0 c)) taken)) none
      ∙ by (length held == 0) (has_writer c.world pipe)
    where
      none : (min (count_of c) (length held) == 0) ≡ (length held == 0)
      none = grind (arith, nat_tests, some)

      by : (empty writer : Bool)
          → play_waits (cond empty (cond writer (retries c) (returns 0 c)) taken)
          ≡ (empty && writer)
      by true true = refl
      by true false = refl
      by false writer = refl

  abbrev given : Play FlatServed
  given = write_some pipe held (min (count_of c) (4096 - length held)) c

  pub write_tells : play_waits (write_pipe pipe c)
      ≡ (has_reader c.world pipe && nat_le 4096 (length held))
  write_tells =
      ap (λ (b : Bool). play_waits (cond (not (has_reader c.world pipe)) (refuses 32 c)
      (cond b (retries c) given))) full
      ∙ by (has_reader c.world pipe) (nat_le 4096 (length held))
    where
      full : (min (count_of c) (4096 - length held) == 0) ≡ nat_le 4096 (length held)
      full = grind (arith, nat_tests, some)

      by : (reader full : Bool)
          → play_waits (cond (not reader) (refuses 32 c) (cond full (retries c) given))
          ≡ (reader && full)
      by false full = refl
      by true true = refl
      by true false = refl

-- whether bytes are asked for and mapped, and what the pipe tells, as the state has them
module _ (s : State) (counted : IsCounted s) (a : Asked) (pipe q : ℕ) (o e : List ℕ)
    (reached tells : Bool) where
  abbrev call : Call
  call = call_in (sent o e (world_of q (paid_state s a.thread))) a

  abbrev IsReached : Access → Type 0
  IsReached access = (w : World) (frames : Held) → reached
      ≡ (not (asked_count a == 0)
      && all_reach (in_world w frames s.table) a.thread a.a1 (asked_count a) access)

  reached_paid : (access : Access) (b : Bool) → IsReached access
      → ((not (asked_count a == 0)
      && all_reach call.world a.thread a.a1 (asked_count a) access) && b) ≡ (reached && b)
  reached_paid access b is =
      ap (λ r. (not (asked_count a == 0) && r) && b)
      (reach_paid s a.thread q o e a.a1 (asked_count a) access)
      ∙ ap (λ r. r && b) (sym (is (sent o e (world_of q s)) s.frames))

  pub pipe_read_tells : IsReached Store
      → tells ≡ ((length (bytes_at s.pipes pipe) == 0) && nat_lt 0 (ends_at s.pipes pipe true))
      → (reached && tells) ≡ play_waits (read_by (Some (PipeRead pipe)) call)
  pipe_read_tells is dry = sym (
      transfers_tell (read_pipe pipe) (all_reach call.world a.thread a.a1 (asked_count a) Store)
      call ((length (pipe_bytes call.world pipe) == 0) && has_writer call.world pipe)
      (read_tells pipe call)
      ∙ reached_paid Store _ is
      ∙ ap (λ b. reached && ((length (bytes_at s.pipes pipe) == 0) && b))
      (some_end (writes_pipe pipe) s.table.processes
      ∙ ap (nat_lt 0) (sym (counted.ends.writers pipe)))
      ∙ ap (λ b. reached && b) (sym dry))

  pub pipe_write_tells : IsReached Load
      → tells ≡ (nat_lt 0 (ends_at s.pipes pipe false)
      && nat_le 4096 (length (bytes_at s.pipes pipe)))
      → (reached && tells) ≡ play_waits (write_by (Some (PipeWrite pipe)) call)
  pipe_write_tells is full = sym (
      transfers_tell (write_pipe pipe) (all_reach call.world a.thread a.a1 (asked_count a) Load)
      call (has_reader call.world pipe && nat_le 4096 (length (pipe_bytes call.world pipe)))
      (write_tells pipe call)
      ∙ reached_paid Load _ is
      ∙ ap (λ b. reached && (b && nat_le 4096 (length (bytes_at s.pipes pipe))))
      (some_end (reads_pipe pipe) s.table.processes
      ∙ ap (nat_lt 0) (sym (counted.ends.readers pipe)))
      ∙ ap (λ b. reached && b) (sym full))

-- what an open descriptor of a live process names is in range
pub named_range : (s : State) → IsSound s → (p k : ℕ) (end : End)
    → IsProcess s.table.processes p
    → IfSome (held_in s.table.processes p) (λ h. Some end ≡ end_named h k) → IsEnd (Some end)
named_range s sound p k end live same =
    let had = some_is (held_in s.table.processes p) live in
    end_range s (lawful_now s sound) sound.counted p had.0 had.1 k end
    (sym (subst (λ (x : Option Holdings). IfSome x (λ h. Some end ≡ end_named h k)) had.1 same))
