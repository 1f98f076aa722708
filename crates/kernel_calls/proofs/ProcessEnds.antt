-- The end of a process.
use Rattle.std.proofs.Common.{◌≡◌, ℕ, zero, suc, ◌+◌, ◌<◌, Bool, true, false, cond, List, [], ◌∷◌}
use Rattle.std.proofs.Common.{map, length, Option, Some, None, IsSome, refl, sym, ap, subst, ◌∙◌}
use Rattle.std.proofs.Common.{arith}
use Rattle.std.specs.Prelude.{IfSome, not, filter, sum_by, count_by, option_and_then, nat_lt}
use Rattle.std.specs.Prelude.{◌==◌, ◌&&◌, ◌||◌}
use Rattle.std.specs.List.{list_any}
use Rattle.std.proofs.lemmas.Bool.{eq-eqb}
use Rattle.std.proofs.lemmas.Bool.Decides.{nat_tests}
use Rattle.std.proofs.lemmas.List.{ext_get_or}
use Rattle.dos_world.specs.Numbered.{numbered, changed, changed_at, map_from, numbers_of}
use Rattle.dos_world.specs.Lawful.{Lawful, AreHoldings}
use Rattle.dos_world.specs.declared.End.{End}
use Rattle.dos_world.specs.World.{World, Thread, Life, live as alive, ended, Process, Holdings}
use Rattle.dos_world.specs.World.{on_holdings, holdings_of, all_holdings, first_of, belongs_to}
use Rattle.dos_world.specs.World.{with_thread, parent_of}
use Rattle.dos_world.specs.Kernel.{process_ended, posted, pending_with, orphaned, ended_by}
use Rattle.dos_world.specs.Kernel.{is_none_of_these, unless_of, without_entries, tidied, zero_page}
use Rattle.dos_world.specs.Counts.{uses_of, is_mapped, is_open, owner_if_mapped, bytes_if_open}
use Rattle.dos_world.specs.Counts.{reads_pipe, writes_pipe, bytes_if_mapped}
use Rattle.dos_world.specs.declared.Owner.{Owner}
use Rattle.dos_world.specs.declared.Owner.TheVariants.{Free}
use Rattle.dos_laws.specs.Ends.{ended_processes, without_process}
use Rattle.dos_laws.proofs.EveryEnd.{lawful-process_ended}
use Rattle.dos_laws.proofs.StandsEnds.{among}
use Rattle.dos_laws.proofs.EndedProcesses.{orphans_have}
use Rattle.dos_laws.proofs.Ends.{length-map_from, get_or-map_from}
use Rattle.dos_laws.proofs.Mapped.{some_is, held_all}
use Rattle.page_store.specs.Store.{Store, joined, shown, uses_at, owner_at, page_at}
use Rattle.page_store.proofs.Joined.{zeros-shown}
use Rattle.proc_table.specs.Tables.{Tables, IsProcess, IsLiveThread, thread_in, held_in, held_by}
use Rattle.proc_table.specs.Tables.{thread_by, with_ended}
use Rattle.kernel_mem.specs.Memory.{AreUsed, IsDropped, entries_of}
use Rattle.kernel_mem.specs.MemoryWorld.{space_in}
use Rattle.kernel_objects.specs.Pipework.{Pipework, bytes_at, ends_at, is_open_at}
use Rattle.kernel_calls.specs.Ending.{AreDropped, AreNamed, posted_in}
use Rattle.kernel_calls.specs.StateWorld.{IsCounted, IsSound, AreCounted, ends_of, world_of, sent}
use Rattle.kernel_calls.specs.declared.state.State.{State}
use Rattle.kernel_calls.proofs.Keeping.{lawful_now}
use Rattle.kernel_mem.proofs.Dropping.{home-dropped}
use Rattle.kernel_calls.proofs.Uses.{any_summed, sum_ended, uses-ended, mapped-used, owners-dropped}
use Rattle.kernel_calls.proofs.Uses.{bytes-dropped}

-- ---- processes

-- what a process had is forgotten when it ends
ended-changed : (f : Holdings → Holdings) (status : ℕ) (ps : List Process) (p : ℕ)
    → changed (ended_by status) (changed (on_holdings f) ps p) p ≡ changed (ended_by status) ps p
ended-changed f status ps zero = refl
ended-changed f status ps (suc i) = at ps i
  where
    at : (ps : List Process) (i : ℕ)
        → changed_at (ended_by status) (changed_at (on_holdings f) ps i) i
        ≡ changed_at (ended_by status) ps i
    at [] i = refl
    at (x ∷ ps) zero = refl
    at (x ∷ ps) (suc i) = ap (λ rest. x ∷ rest) (at ps i)

-- a process that is changed lives
pub still_live : (f : Holdings → Holdings) (ps : List Process) (p : ℕ) → IsProcess ps p
    → IsProcess (changed (on_holdings f) ps p) p
still_live f ps zero live = live
still_live f ps (suc i) live = at ps i live
  where
    lives : (x : Process) (l : Life) → IsSome (holdings_of (record x { life = l }))
        → IsSome (holdings_of (on_holdings f (record x { life = l })))
    lives x (alive h) is = refl
    lives x (ended status collected) is = is

    at : (ps : List Process) (i : ℕ) → IsProcess ps (suc i)
        → IsProcess (changed_at (on_holdings f) ps i) (suc i)
    at [] i h = h
    at (x ∷ ps) zero h = lives x x.life h
    at (x ∷ ps) (suc i) h = at ps i h

-- ---- the state

-- what the process had
held_is : (T : Tables) (p : ℕ) → IsProcess T.processes p
    → (h : Holdings) × (held_in T.processes p ≡ Some h) × (space_in T p ≡ h.space)
held_is T p live = let is = some_is (held_in T.processes p) live in
    (is.0, is.1, ap (λ o. elim o as (λ _. List _) [ None ↦ [] | Some h ↦ h.space ]) is.1)

-- some process has an end where one is counted
pub some_end : (test : Option End → Bool) (ps : List Process)
    → list_any (λ (h : Holdings). list_any test h.descriptors) (all_holdings ps)
    ≡ nat_lt 0 (ends_of test ps)
some_end test ps = any_summed (λ (h : Holdings). list_any test h.descriptors)
    (λ h. count_by test h.descriptors)
    (λ h. any_summed test (λ e. cond (test e) 1 0) (λ e. one (test e)) h.descriptors)
    (all_holdings ps)
  where
    one : (b : Bool) → b ≡ nat_lt 0 (cond b 1 0)
    one true = refl
    one false = refl

-- a pipe is open where it has an end that is counted
pub open-counted : (ps : List Process) (pipes : Pipework) → AreCounted ps pipes → (v : World)
    → v.processes ≡ ps → (pipe : ℕ) → is_open_at pipes pipe ≡ is_open v pipe
open-counted ps pipes counted v is pipe =
    ap (λ n. not ((n == 0) && (ends_at pipes pipe true == 0))) (counted.readers pipe)
    ∙ ap (λ n. not ((ends_of (reads_pipe pipe) ps == 0) && (n == 0))) (counted.writers pipe)
    ∙ either (ends_of (reads_pipe pipe) ps) (ends_of (writes_pipe pipe) ps)
    ∙ ap (λ b. b || nat_lt 0 (ends_of (writes_pipe pipe) ps)) (sym (any (reads_pipe pipe)))
    ∙ ap (λ b. list_any (λ (h : Holdings). list_any (reads_pipe pipe) h.descriptors)
    (all_holdings ps) || b) (sym (any (writes_pipe pipe)))
    ∙ ap (λ xs. is_open (record v { processes = xs }) pipe) (sym is)
  where
    either : (a b : ℕ) → not ((a == 0) && (b == 0)) ≡ (nat_lt 0 a || nat_lt 0 b)
    either a b = by (a == 0) (b == 0) refl refl
      where
        by : (x y : Bool) → (a == 0) ≡ x → (b == 0) ≡ y → not (x && y) ≡ (nat_lt 0 a || nat_lt 0 b)
        by x y p q = grind (arith, nat_tests)

    any : (test : Option End → Bool)
        → list_any (λ (h : Holdings). list_any test h.descriptors) (all_holdings ps)
        ≡ nat_lt 0 (ends_of test ps)
    any test = some_end test ps

-- nobody owned a frame that nothing used
pub unused_free : (s : State) → IsSound s → (frame : ℕ) → frame < length s.frames.owners
    → uses_at s.frames frame ≡ 0 → owner_at s.frames frame ≡ Free
unused_free s sound frame lt none =
    let unmapped : is_mapped (world_of 16 s) frame ≡ false =
    mapped-used (world_of 16 s) frame
    ∙ ap (nat_lt 0) (sym (sound.counted.uses 16 frame) ∙ none) in
    ((lawful_now s sound).frames.free frame lt).1 unmapped

-- and it was zero
pub unused_zero : (s : State) → IsSound s → (frame : ℕ) → frame < length s.frames.owners
    → uses_at s.frames frame ≡ 0 → shown (page_at s.frames frame) ≡ zero_page
unused_zero s sound frame lt none =
    zeros-shown s.frames.pages frame (omega (arith, lt, sound.counted.home.owners))
    (λ offset within. (lawful_now s sound).frames.zeros frame offset
    (unused_free s sound frame lt none) within)

-- Where ends are dropped, a pipe that isn't open any more is empty, and the others stay.
pub pipes_tidied : (ends : List (Option End)) (old new : Pipework) (v : World)
    → AreDropped ends old new → length old.bytes ≡ 64 → AreCounted v.processes new
    → new.bytes ≡ map_from 0 (bytes_if_open v) old.bytes
pipes_tidied ends old new v dropped count counted =
    ext_get_or [] new.bytes (map_from 0 (bytes_if_open v) old.bytes)
    (dropped.byte_counts ∙ sym count ∙ sym (length-map_from 0 (bytes_if_open v) old.bytes))
    (λ pipe lt.
    let within : pipe < length old.bytes = omega (arith, dropped.byte_counts, count) in
    let here : 0 + pipe ≡ pipe = omega arith in
    dropped.bytes pipe
    ∙ ap (λ b. cond b (bytes_at old pipe) [])
    (open-counted v.processes new counted v refl pipe)
    ∙ sym (get_or-map_from 0 (bytes_if_open v) old.bytes pipe [] [] within
    ∙ ap (λ k. bytes_if_open v k (bytes_at old pipe)) here))

module _ (s : State) (sound : IsSound s) (p status : ℕ) (live : IsProcess s.table.processes p) where
  abbrev w : World
  w = world_of 16 s

  counted : IsCounted s
  counted = sound.counted

  abbrev left : World
  left = record w { processes = ended_processes w.processes p status }

  uses-left : (frame : ℕ)
      → uses_at s.frames frame ≡ uses_of left frame + entries_of (space_in s.table p) frame
  uses-left frame = let is = held_is s.table p live in
      counted.uses 16 frame ∙ uses-ended w p status frame is.0 is.1
      ∙ ap (λ space. uses_of left frame + entries_of space frame) (sym is.2)

  -- each of its entries is a use
  pub are_used : AreUsed (space_in s.table p) s.frames
  are_used frame = omega (arith, uses-left frame)

  -- what it had
  had : (h : Holdings) × (held_in s.table.processes p ≡ Some h) × (space_in s.table p ≡ h.space)
  had = held_is s.table p live

  -- the ends that are left, and those that it had
  ends-left : (test : Option End → Bool)
      → ends_of test s.table.processes
      ≡ ends_of test left.processes + count_by test had.0.descriptors
  ends-left test =
      sum_ended (λ h. count_by test h.descriptors) status s.table.processes p had.0 had.1
      ∙ ap (λ hs. sum_by (λ (h : Holdings). count_by test h.descriptors) hs + count_by test
      had.0.descriptors)
      (sym (orphans_have p (changed (ended_by status) s.table.processes p)))

  -- what it names is there
  pub named : IfSome (held_in s.table.processes p) (λ h. AreNamed h.descriptors s.pipes)
  named = subst (λ (o : Option Holdings). IfSome o (λ h. AreNamed h.descriptors s.pipes))
      (sym had.1) (record {
        few = in_range.descriptors.1;
        readers = λ pipe. omega (arith, counted.ends.readers pipe, ends-left (reads_pipe pipe));
        writers = λ pipe. omega (arith, counted.ends.writers pipe, ends-left (writes_pipe pipe));
        reader_counts = counted.ends.reader_counts;
        writer_counts = counted.ends.writer_counts;
        byte_counts = (lawful_now s sound).pipes.ranges.0;
        empty = λ pipe shut. (lawful_now s sound).pipes.closed pipe
            (sym (open-counted s.table.processes s.pipes counted.ends w refl pipe) ∙ shut);
      })
    where
      in_range : AreHoldings (length s.frames.owners) had.0
      in_range = held_all (AreHoldings (length s.frames.owners)) s.table.processes p had.0
          (lawful_now s sound).processes.holdings had.1

  pub named-count : IfSome (held_in s.table.processes p) (λ h. length h.descriptors ≡ 32)
  named-count = subst (λ (o : Option Holdings). IfSome o (λ h. length h.descriptors ≡ 32))
      (sym had.1) (held_all (AreHoldings (length s.frames.owners)) s.table.processes p had.0
      (lawful_now s sound).processes.holdings had.1).descriptors.0

  module _ (frames : Store) (dropped : IsDropped (space_in s.table p) s.frames frames)
      (pipes : Pipework)
      (gone : IfSome (held_in s.table.processes p)
      (λ h. AreDropped h.descriptors s.pipes pipes)) where
    abbrev table : Tables
    table = with_ended (held_by without_entries s.table p) p status

    abbrev mid : State
    mid = record s {
      frames = frames;
      table = table;
      pipes = pipes;
      futexes =
          filter (is_none_of_these (numbers_of (belongs_to p) s.table.threads)) s.futexes;
    }

    abbrev new : ℕ → State
    new parent = record mid { table = posted_in table parent 17 }

    processes_is : table.processes ≡ ended_processes s.table.processes p status
    processes_is = ap (map (orphaned p)) (ended-changed without_entries status s.table.processes p)

    uses_new : (frame : ℕ) → uses_at frames frame ≡ uses_of left frame
    uses_new frame = dropped.uses frame ∙ omega (arith, uses-left frame)

    owners_is : frames.owners ≡ map_from 0 (owner_if_mapped left) s.frames.owners
    owners_is = owners-dropped left (space_in s.table p) s.frames frames dropped uses-left
        (unused_free s sound)

    bytes_is : bytes_if_mapped (is_mapped left) 0 s.frames.owners (joined s.frames.pages)
        ≡ joined frames.pages
    bytes_is = bytes-dropped left (space_in s.table p) s.frames frames dropped counted.home.owners
        uses-left (unused_zero s sound)

    dropped_ends : AreDropped had.0.descriptors s.pipes pipes
    dropped_ends = subst (λ (o : Option Holdings). IfSome o
        (λ h. AreDropped h.descriptors s.pipes pipes)) had.1 gone

    counted_left : AreCounted left.processes pipes
    counted_left = record {
      readers = λ pipe. omega (
        arith,
        dropped_ends.readers pipe,
        counted.ends.readers pipe,
        ends-left (reads_pipe pipe),
      );
      writers = λ pipe. omega (
        arith,
        dropped_ends.writers pipe,
        counted.ends.writers pipe,
        ends-left (writes_pipe pipe),
      );
      reader_counts = dropped_ends.reader_counts;
      writer_counts = dropped_ends.writer_counts;
    }

    pipes_is : pipes.bytes ≡ map_from 0 (bytes_if_open left) s.pipes.bytes
    pipes_is =
        pipes_tidied had.0.descriptors s.pipes pipes left dropped_ends
        (lawful_now s sound).pipes.ranges.0 counted_left

    abbrev with_lists : World → List ℕ → List Owner → List Process → List (List ℕ) → World
    with_lists v bytes owners processes held =
        record v {
          bytes = bytes;
          owners = owners;
          processes = processes;
          threads =
              map (unless_of p) s.table.threads;
          pipes = held;
          sleepers = mid.futexes;
        }

    -- before its parent is told
    closed_is : (q : ℕ) (o e : List ℕ)
        → tidied (without_process (sent o e (world_of q s)) p status) ≡ sent o e (world_of q mid)
    closed_is q o e =
        ap (λ bytes. with_lists (sent o e (world_of q s)) bytes
        (map_from 0 (owner_if_mapped left) s.frames.owners)
        (ended_processes s.table.processes p status)
        (map_from 0 (bytes_if_open left) s.pipes.bytes)) bytes_is
        ∙ ap (λ owners. with_lists (sent o e (world_of q s)) (joined frames.pages) owners
        (ended_processes s.table.processes p status)
        (map_from 0 (bytes_if_open left) s.pipes.bytes)) (sym owners_is)
        ∙ ap (λ processes.
        with_lists (sent o e (world_of q s)) (joined frames.pages) frames.owners processes
        (map_from 0 (bytes_if_open left) s.pipes.bytes)) (sym processes_is)
        ∙ ap (λ held. with_lists (sent o e (world_of q s))
        (joined frames.pages) frames.owners table.processes held) (sym pipes_is)

    -- and then
    told_is : (parent q : ℕ) (o e : List ℕ)
        → posted (sent o e (world_of q mid)) parent 17 ≡ sent o e (world_of q (new parent))
    told_is parent q o e = by (first_of (numbers_of (belongs_to parent) table.threads))
      where
        by : (x : Option ℕ)
            → elim x as (λ _. World) [
              | None ↦ sent o e (world_of q mid)
              | Some t ↦ with_thread (sent o e (world_of q mid)) t (pending_with 17)
            ]
            ≡ sent o e (world_of q
            (record mid {
              table =
                  elim x as (λ _. Tables) [
                    | None ↦ table
                    | Some t ↦ thread_by (pending_with 17) table t
                  ];
            }))
        by None = refl
        by (Some t) = refl

    module _ (parent : ℕ)
        (of : IfSome (numbered s.table.processes p) (λ process. parent ≡ process.parent)) where
      parent_is : (q : ℕ) (o e : List ℕ) → parent_of (sent o e (world_of q s)) p ≡ parent
      parent_is q o e = by (numbered s.table.processes p) live of
        where
          by : (x : Option Process) → IsSome (option_and_then holdings_of x)
              → IfSome x (λ process. parent ≡ process.parent)
              → elim x as (λ _. ℕ) [ None ↦ 0 | Some process ↦ process.parent ] ≡ parent
          by None lives h = cc
          by (Some process) lives h = sym h

      pub ends : (q : ℕ) (o e : List ℕ)
          → process_ended (sent o e (world_of q s)) p status ≡ sent o e (world_of q (new parent))
      ends q o e =
          ap (λ n. posted (tidied (without_process (sent o e (world_of q s)) p status)) n 17)
          (parent_is q o e)
          ∙ ap (λ v. posted v parent 17) (closed_is q o e) ∙ told_is parent q o e

      posted_processes : (posted_in table parent 17).processes ≡ table.processes
      posted_processes = by (first_of (numbers_of (belongs_to parent) table.threads))
        where
          by : (x : Option ℕ)
              → ◌≡◌ {A = List Process}
              (let T : Tables =
              elim x as (λ _. Tables) [
                | None ↦ table
                | Some t ↦ thread_by (pending_with 17) table t
              ] in
              T.processes) table.processes
          by None = refl
          by (Some t) = refl

      posted_room : (posted_in table parent 17).room ≡ table.room
      posted_room = by (first_of (numbers_of (belongs_to parent) table.threads))
        where
          by : (x : Option ℕ)
              → ◌≡◌ {A = ℕ}
              (let T : Tables =
              elim x as (λ _. Tables) [
                | None ↦ table
                | Some t ↦ thread_by (pending_with 17) table t
              ] in T.room) table.room
          by None = refl
          by (Some t) = refl

      pub sound-ended : status < 256 → IsSound (new parent)
      sound-ended small = record {
        counted = record {
          home = record {
            home = home-dropped (space_in s.table p) s.frames frames dropped counted.home.home;
            owners = dropped.frames.count ∙ counted.home.owners ∙ sym dropped.page_count;
          };
          round = counted.round;
          room = omega (arith, dropped.frames.count, counted.room, posted_room);
          uses = λ q frame. uses_new frame
              ∙ ap (λ ps. uses_of (record left { processes = ps }) frame)
              (sym (posted_processes ∙ processes_is));
          ends = subst (λ ps. AreCounted ps pipes)
              (sym (posted_processes ∙ processes_is)) counted_left;
        };
        lawful = λ q low high.
            subst Lawful (ends q [] [])
            (lawful-process_ended (world_of q s) p status small (sound.lawful q low high));
      }

-- ---- who is told

-- the first of a process's threads lives
pub first-lives : (threads : List (Option Thread)) (p t : ℕ)
    → Some t ≡ first_of (numbers_of (belongs_to p) threads) → IsLiveThread threads t
first-lives threads p t e =
    by (thread_in threads t)
    (sym (among (belongs_to p) refl threads t)
    ∙ first_among (numbers_of (belongs_to p) threads) e)
  where
    first_among : (ns : List ℕ) → Some t ≡ first_of ns → list_any (λ u. u == t) ns ≡ true
    first_among [] e = cc
    first_among (n ∷ ns) e = let same : n ≡ t = cc in
        ap (λ b. b || list_any (λ u. u == t) ns) (eq-eqb n t same)

    by : (o : Option Thread) → belongs_to p o ≡ true → IsSome o
    by None h = cc
    by (Some thread) h = refl
