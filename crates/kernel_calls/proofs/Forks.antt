-- A copy of a process: what the state has then, and what its pipes may have.
use Rattle.std.proofs.Common.{◌≡◌, ℕ, ◌+◌, ◌-◌, ◌<◌, ◌≤◌, Bool, true, false, cond, List, [], ◌∷◌}
use Rattle.std.proofs.Common.{◌++◌, length, Option, Some, None, IsSome, IfSome, Result, Ok, Err}
use Rattle.std.proofs.Common.{length-append, refl, sym, ap, subst, ◌∙◌, arith}
use Rattle.std.specs.Prelude.{◌^◌, All, IfErr, count_by, nat_le, nat_lt, sum_by}
use Rattle.std.proofs.lemmas.Bool.{or_parts}
use Rattle.std.proofs.lemmas.Bool.Decides.{nat_tests}
use Rattle.std.proofs.lemmas.List.Elements.{All-append, All-cons, All-nil}
use Rattle.std.proofs.lemmas.List.Sums.{sum_by-append, sum_by-cons}
use Rattle.dos_world.specs.Counts.{reads_pipe, writes_pipe}
use Rattle.dos_world.specs.Kernel.{answered, free_frames, minus}
use Rattle.dos_world.specs.Play.{Play, done}
use Rattle.dos_world.specs.ProcessCalls.{are_processes_full, child_process, child_thread}
use Rattle.dos_world.specs.ProcessCalls.{copied_space, fork, forked, forked_by, next_process}
use Rattle.dos_world.specs.ProcessCalls.{private_entries, with_child}
use Rattle.dos_world.specs.Calls.{Call, Served as FlatServed, replies, went}
use Rattle.dos_world.specs.ThreadCalls.{are_threads_full, next_thread}
use Rattle.dos_world.specs.World.{World, Holdings, Thread, all_holdings, live_process, registers_by}
use Rattle.dos_world.specs.World.{thread_at, with_registers}
use Rattle.dos_world.specs.declared.Entry.{Entry}
use Rattle.dos_laws.proofs.Mapped.{some_is}
use Rattle.dos_laws.proofs.StandsChildren.{all_holdings-push}
use Rattle.dos_laws.proofs.StandsForks.{copied_space_moved}
use Rattle.kernel_objects.specs.Pipework.{Pipework}
use Rattle.page_store.specs.Store.{Store, uses_at}
use Rattle.proc_table.specs.Tables.{IsProcess, IsLiveThread, Tables, held_in, thread_by, thread_in}
use Rattle.kernel_mem.proofs.Children.{held_last, to-process}
use Rattle.kernel_mem.specs.Forking.{AreTaken, fork_call, with_space}
use Rattle.kernel_mem.specs.Memory.{entries_of}
use Rattle.kernel_mem.specs.MemoryWorld.{HasAllHome, in_world, space_in}
use Rattle.kernel_calls.specs.Children.{AreAdded, CanComeAgain}
use Rattle.kernel_calls.specs.StateWorld.{IsCounted, IsSound, base, sent, world_of}
use Rattle.kernel_calls.specs.CallResults.{AreAsked, ActsQuietly, call_in}
use Rattle.kernel_calls.specs.declared.state.State.{State}
use Rattle.kernel_calls.specs.declared.state.Asked.{Asked}
use Rattle.kernel_calls.specs.declared.state.Served.TheVariants.{Went}
use Rattle.kernel_calls.proofs.Callers.{Has, has, names_ends, of-caller, process_lives}
use Rattle.kernel_calls.proofs.Changed.{thread_stands}
use Rattle.kernel_calls.proofs.Counted.{counted-thread_by}
use Rattle.kernel_calls.proofs.DescriptorCounts.{few_ends}
use Rattle.kernel_calls.proofs.Keeping.{lawful_now}
use Rattle.kernel_calls.proofs.Room.{all_owned, few_uses}

-- ---- what the flat fork says

-- the processes and threads are those that were, and the child's
made_processes : (c : Call) (h : Holdings) (thread : Thread)
    → (with_child c h thread).processes
    ≡ c.world.processes
    ++ child_process c h (copied_space c.world (next_thread c.world) h.space).1 ∷ []
made_processes c h thread =
    let copy : World × List (ℕ × Entry) = copied_space c.world (next_thread c.world) h.space in
    ap (λ (x : World). x.processes ++ child_process c h copy.1 ∷ [])
    (copied_space_moved c.world (next_thread c.world) h.space)

made_threads : (c : Call) (h : Holdings) (thread : Thread)
    → (with_child c h thread).threads
    ≡ c.world.threads ++ Some (child_thread c.world thread) ∷ []
made_threads c h thread =
    ap (λ (x : World). x.threads ++ Some (child_thread c.world thread) ∷ [])
    (copied_space_moved c.world (next_thread c.world) h.space)

-- a fork that isn't refused: there was room for a process, and the child is there
record IsMade (c : Call) (h : Holdings) (thread : Thread) (v : World) : Type 0 where
  pub room : are_processes_full c.world.processes c.world.threads ≡ false
  pub processes : v.processes
      ≡ c.world.processes
      ++ child_process c h (copied_space c.world (next_thread c.world) h.space).1 ∷ []
  pub threads : v.threads ≡ c.world.threads ++ Some (child_thread c.world thread) ∷ []

made : (c : Call) (h : Holdings) (thread : Thread) (v : World)
    → live_process c.world c.process ≡ Some h → thread_at c.world c.thread ≡ Some thread
    → forked c ≡ Ok v → IsMade c h thread v
made c h thread v process caller is =
    by (are_processes_full c.world.processes c.world.threads)
    (nat_lt (free_frames c.world) (private_entries h.space)) refl
    (sym (ap (λ o. forked_by c o (thread_at c.world c.thread)) process
    ∙ ap (forked_by c (Some h)) caller) ∙ is)
  where
    by : (full few : Bool) → are_processes_full c.world.processes c.world.threads ≡ full
        → cond {A = Result World ℕ} full (Err 11)
        (cond {A = Result World ℕ} few (Err 12) (Ok (with_child c h thread))) ≡ Ok v
        → IsMade c h thread v
    by true few room e = cc
    by false true room e = cc
    by false false room e =
        let child : v ≡ with_child c h thread = cc in
        record {
          room = room;
          processes = ap (λ (x : World). x.processes) child ∙ made_processes c h thread;
          threads = ap (λ (x : World). x.threads) child ∙ made_threads c h thread;
        }

-- a refusal is a number above 0
fork_numbers : (c : Call) → IfErr (forked c) (λ number. 0 < number)
fork_numbers c = by_parts (live_process c.world c.process) (thread_at c.world c.thread)
  where
    by : (full few : Bool) (w : World)
        → IfErr (cond full (Err 11) (cond few (Err 12) (Ok w))) (λ number. 0 < number)
    by true few w = omega arith
    by false true w = omega arith
    by false false w = tt

    by_parts : (o : Option Holdings) (t : Option Thread)
        → IfErr (forked_by c o t) (λ number. 0 < number)
    by_parts (Some h) (Some thread) =
        by (are_processes_full c.world.processes c.world.threads)
        (nat_lt (free_frames c.world) (private_entries h.space)) (with_child c h thread)
    by_parts (Some h) None = omega arith
    by_parts None t = omega arith

-- ---- the caller

module _ (s : State) (a : Asked) (sound : IsSound s) (asked : AreAsked s a) where
  abbrev call : Call
  call = call_in (world_of 16 s) a

  -- what is told of the caller's process
  abbrev Caller : (ℕ → Type 0) → Type 0
  Caller P = IfSome (thread_in s.table.threads a.thread) (λ thread. P thread.process)

  lives : IsProcess s.table.processes a.process
  lives = process_lives s a sound asked

  had : Has s a.process
  had = has s a.process sound lives

  thread_is : (thread : Thread) × (thread_in s.table.threads a.thread ≡ Some thread)
  thread_is = some_is (thread_in s.table.threads a.thread) asked.live

  told : (P : ℕ → Type 0) → P a.process → Caller P
  told P h = to-process P (thread_in s.table.threads a.thread) a.process asked.process h

  pub takes : Caller (λ p. AreTaken (space_in s.table p) s.frames)
  takes = told (λ p. AreTaken (space_in s.table p) s.frames) (all_owned s a.process sound lives)

  pub uses_few : Caller (λ p. (frame : ℕ)
      → uses_at s.frames frame + length (space_in s.table p) < 2 ^ 32 - 1)
  uses_few = told (λ p. (frame : ℕ)
      → uses_at s.frames frame + length (space_in s.table p) < 2 ^ 32 - 1)
      (few_uses s a.process sound lives)

  -- ---- a refusal

  module _ (frames : Store) (table : Tables) (number : ℕ)
      (forks : Caller (λ p. (w : World)
      → forked (fork_call (in_world w s.frames s.table) a.thread p) ≡ Err number)) where
    refused : (q : ℕ) (o e : List ℕ) → forked (call_in (sent o e (world_of q s)) a) ≡ Err number
    refused q o e =
        of-caller s a sound asked (λ p. (w : World)
        → forked (fork_call (in_world w s.frames s.table) a.thread p) ≡ Err number) forks
        (sent o e (base q s.round s.pipes.bytes s.futexes))

    pub refusal_number : 0 < number
    refusal_number =
        subst (λ r. IfErr r (λ n. 0 < n)) (refused 16 [] []) (fork_numbers call)

    module _ (new : State) (stays : (frames ≡ s.frames) × (table ≡ s.table))
        (is : new ≡ record s {
          frames = frames;
          table = thread_by (registers_by (answered (minus number))) table a.thread;
        }) where
      abbrev ended : Store → Tables → State
      ended f t = record s {
        frames = f;
        table = thread_by (registers_by (answered (minus number))) t a.thread;
      }

      -- only the caller's registers change
      pub refused_is : ended s.frames s.table ≡ new
      refused_is = sym (is ∙ ap (λ f. ended f table) stays.0 ∙ ap (ended s.frames) stays.1)

      pub refuses_fork : ActsQuietly fork s a Went new
      refuses_fork q o e =
          ap (λ r. replies r (next_process (sent o e (world_of q s)))
          (call_in (sent o e (world_of q s)) a)) (refused q o e)
          ∙ ap (λ x. done (went (sent o e (world_of q x)))) refused_is

      pub counted-refused : IsCounted new
      counted-refused = subst IsCounted refused_is
          (counted-thread_by s a.thread (registers_by (answered (minus number)))
          sound.counted)

  -- ---- a child

  module _ (frames : Store) (table : Tables) (child : ℕ)
      (forks : Caller (λ p. (w : World)
      → forked (fork_call (in_world w s.frames s.table) a.thread p)
      ≡ Ok (in_world w frames table)))
      (number : child ≡ length s.table.processes + 1) where
    comes : (q : ℕ) (o e : List ℕ)
        → forked (call_in (sent o e (world_of q s)) a)
        ≡ Ok (in_world (sent o e (base q s.round s.pipes.bytes s.futexes)) frames table)
    comes q o e =
        of-caller s a sound asked (λ p. (w : World)
        → forked (fork_call (in_world w s.frames s.table) a.thread p)
        ≡ Ok (in_world w frames table)) forks
        (sent o e (base q s.round s.pipes.bytes s.futexes))

    abbrev seen : World
    seen = in_world (base 16 s.round s.pipes.bytes s.futexes) frames table

    is_made : IsMade call had.holdings thread_is.0 seen
    is_made = made call had.holdings thread_is.0 seen had.is thread_is.1 (comes 16 [] [])

    abbrev copy : World × List (ℕ × Entry)
    copy = copied_space call.world (next_thread call.world) had.holdings.space

    -- what the child has
    abbrev begun : Holdings
    begun = with_space copy.1 had.holdings

    child_held : held_in table.processes child ≡ Some begun
    child_held = ap (λ ps. held_in ps child) is_made.processes
        ∙ held_last s.table.processes (child_process call had.holdings copy.1) child number

    child_space : space_in table child ≡ copy.1
    child_space =
        ap (λ o. elim o as (λ _. List (ℕ × Entry)) [ None ↦ [] | Some h ↦ h.space ]) child_held

    all_are : all_holdings table.processes ≡ all_holdings s.table.processes ++ begun ∷ []
    all_are = ap all_holdings is_made.processes
        ∙ all_holdings-push s.table.processes (child_process call had.holdings copy.1) begun refl

    -- a sum over what all have, with the child's
    sums : (f : Holdings → ℕ)
        → sum_by f (all_holdings table.processes) ≡ sum_by f (all_holdings s.table.processes)
        + f begun
    sums f = ap (sum_by f) all_are
        ∙ omega (
          arith,
          sum_by-append f (all_holdings s.table.processes) (begun ∷ []),
          sum_by-cons f begun [],
        )

    pub caller_stays : IsLiveThread table.threads a.thread
    caller_stays = subst (λ ts. IsLiveThread ts a.thread) (sym is_made.threads)
        (thread_stands s.table.threads (Some (child_thread call.world thread_is.0) ∷ []) a.thread
        asked.live)

    pub child_lives : IsProcess table.processes child
    child_lives = subst (λ (o : Option Holdings). IsSome o) (sym child_held) refl

    pub child_count : IfSome (held_in table.processes child) (λ h. length h.descriptors ≡ 32)
    child_count = subst (λ (o : Option Holdings). IfSome o (λ h. length h.descriptors ≡ 32))
        (sym child_held) had.are.descriptors.0

    -- at most 32 processes have 32 descriptors each
    few : length (all_holdings table.processes) ≤ 32
    few = omega (
      arith,
      ap (λ (hs : List Holdings). length hs) all_are,
      length-append (all_holdings s.table.processes) (begun ∷ []),
      below (length (all_holdings s.table.processes))
          (or_parts (nat_le 32 (length (all_holdings s.table.processes)))
          (are_threads_full s.table.threads) is_made.room).0,
    )
      where
        below : (n : ℕ) → nat_le 32 n ≡ false → n < 32
        below n e = grind (arith, nat_tests)

    each : All (λ h. length h.descriptors ≡ 32) (all_holdings table.processes)
    each = subst (All (λ h. length h.descriptors ≡ 32)) (sym all_are)
        (All-append (λ (h : Holdings). length h.descriptors ≡ 32) (all_holdings s.table.processes)
        (begun ∷ [])
        (λ k d lt. ((lawful_now s sound).processes.holdings k d lt).descriptors.0)
        (All-cons (λ (h : Holdings). length h.descriptors ≡ 32) begun [] had.are.descriptors.0
        (All-nil (λ (h : Holdings). length h.descriptors ≡ 32))))

    can_again : CanComeAgain had.holdings.descriptors s.pipes
    can_again = record {
      named = names_ends s a.process sound had;
      readers = λ pipe. omega (
        arith,
        sound.counted.ends.readers pipe,
        sums (λ h. count_by (reads_pipe pipe) h.descriptors),
        few_ends (reads_pipe pipe) table.processes each few,
      );
      writers = λ pipe. omega (
        arith,
        sound.counted.ends.writers pipe,
        sums (λ h. count_by (writes_pipe pipe) h.descriptors),
        few_ends (writes_pipe pipe) table.processes each few,
      );
    }

    pub child_room : IfSome (held_in table.processes child)
        (λ h. CanComeAgain h.descriptors s.pipes)
    child_room = subst (λ (o : Option Holdings). IfSome o (λ h. CanComeAgain h.descriptors s.pipes))
        (sym child_held) can_again

    module _ (pipes : Pipework) (new : State)
        (adds : IfSome (held_in table.processes child) (λ h. AreAdded h.descriptors s.pipes pipes))
        (is : new ≡ record s {
          frames = frames;
          table = thread_by (registers_by (answered child)) table a.thread;
          pipes = pipes;
        }) where
      added : AreAdded had.holdings.descriptors s.pipes pipes
      added = subst (λ (o : Option Holdings). IfSome o (λ h. AreAdded h.descriptors s.pipes pipes))
          child_held adds

      pub forks_child : ActsQuietly fork s a Went new
      forks_child q o e =
          ap (λ r. replies r (next_process (sent o e (world_of q s)))
          (call_in (sent o e (world_of q s)) a)) (comes q o e)
          ∙ ap (λ n. ended n s.pipes.bytes) (sym number)
          ∙ ap (ended child) (sym added.bytes)
          ∙ ap (λ x. done (went (sent o e (world_of q x)))) (sym is)
        where
          ended : ℕ → List (List ℕ) → Play FlatServed
          ended value bytes = done (went (with_registers
              (in_world (sent o e (base q s.round bytes s.futexes)) frames table) a.thread
              (answered value)))

      pub counted-forked : HasAllHome frames → length frames.owners ≡ length s.frames.owners
          → table.room ≡ s.table.room
          → ((frame : ℕ) → uses_at frames frame ≡ uses_at s.frames frame
          + entries_of (space_in table child) frame)
          → IsCounted new
      counted-forked home count room uses = subst IsCounted (sym is)
          (counted-thread_by (record s { frames = frames; table = table; pipes = pipes }) a.thread
          (registers_by (answered child)) (record {
            home = home;
            round = sound.counted.round;
            room = omega (arith, count, room, sound.counted.room);
            uses = λ q frame. omega (
              arith,
              uses frame,
              ap (λ es. entries_of es frame) child_space,
              sound.counted.uses q frame,
              sums (λ h. entries_of h.space frame),
            );
            ends = record {
              readers = λ pipe. omega (
                arith,
                added.readers pipe,
                sound.counted.ends.readers pipe,
                sums (λ h. count_by (reads_pipe pipe) h.descriptors),
              );
              writers = λ pipe. omega (
                arith,
                added.writers pipe,
                sound.counted.ends.writers pipe,
                sums (λ h. count_by (writes_pipe pipe) h.descriptors),
              );
              reader_counts = added.reader_counts;
              writer_counts = added.writer_counts;
            };
          }))
