-- What every service leaves of what is said of a world, where it stands whenever a thread keeps its
-- budget, a thread is new, frames have other owners and more bytes are sent.
use Rattle.std.proofs.Common.{ℕ, zero, ◌+◌, suc, ◌-◌, ◌%◌, ◌≡◌, refl, ap, Bool, true, false}
use Rattle.std.proofs.Common.{cond, not, List, [], ◌∷◌, ◌++◌, length, length-set, Option, Some}
use Rattle.std.proofs.Common.{None}
use Rattle.std.proofs.Common.{Result, Ok, Err, min, take, drop}
use Rattle.std.specs.Prelude.{◌==◌, ◌||◌, ◌&&◌, slice_set, nat_le, nat_lt, is_none}
use Rattle.dos_world.specs.Numbered.{map_from}
use Rattle.dos_world.specs.World.{World, Thread, Holdings, Registers, thread_at, action_of}
use Rattle.dos_world.specs.World.{first_thread, first_of, has_ended, live_process, with_thread}
use Rattle.dos_world.specs.World.{with_holdings, with_registers, registers_by, page_of, entry_at}
use Rattle.dos_world.specs.World.{in_state}
use Rattle.dos_world.specs.Reach.{Reached, fault, foreign, at, reach, grant, granted, stored}
use Rattle.dos_world.specs.Counts.{owner_if_mapped}
use Rattle.dos_world.specs.Copying.{all_reach, byte_stored}
use Rattle.dos_world.specs.Kernel.{answered, awake, minus, posted, pending_with, tidied}
use Rattle.dos_world.specs.Kernel.{process_ended, thread_ended, woken, opened, copied_in}
use Rattle.dos_world.specs.Kernel.{copied_out}
use Rattle.dos_world.specs.Kernel.{has_reader, has_writer, with_fresh, with_taken, free_frames}
use Rattle.dos_world.specs.Kernel.{lowest_free_frame}
use Rattle.dos_world.specs.Play.{Play, input_of}
use Rattle.dos_world.specs.Services.{service_of}
use Rattle.dos_world.specs.Calls.{Call, Service, Served, went, waits, yields, gone, returns}
use Rattle.dos_world.specs.Calls.{returns_in, returns_two, refuses, refuses_in, replies, retries}
use Rattle.dos_world.specs.Calls.{mask_of}
use Rattle.dos_world.specs.ThreadCalls.{thread_new, are_threads_full, ready_thread, new_registers}
use Rattle.dos_world.specs.ThreadCalls.{next_thread, with_new_thread}
use Rattle.dos_world.specs.ProcessCalls.{fork, forked_by, copied_space, are_processes_full}
use Rattle.dos_world.specs.ProcessCalls.{private_entries, with_child, next_process, wait, wait_by}
use Rattle.dos_world.specs.ProcessCalls.{children_where, any_process, collected, status_at}
use Rattle.dos_world.specs.DescriptorCalls.{pipe, pipe_by, close, dup, dup_by, read, read_by}
use Rattle.dos_world.specs.DescriptorCalls.{read_input, read_pipe, write, write_by, write_output}
use Rattle.dos_world.specs.DescriptorCalls.{write_error, write_pipe, write_some, transfers}
use Rattle.dos_world.specs.DescriptorCalls.{count_of, descriptor, free_descriptors, second_of}
use Rattle.dos_world.specs.DescriptorCalls.{lowest_pipe, with_descriptor, pipe_bytes, with_pipe}
use Rattle.dos_world.specs.FutexCalls.{futex_wait, futex_wake, at_word, by_entry, is_off_word}
use Rattle.dos_world.specs.FutexCalls.{futex_wait_at, futex_wake_at, futex_word, all_woken}
use Rattle.dos_world.specs.FutexCalls.{sleepers_at}
use Rattle.dos_world.specs.MemoryCalls.{map_pages, page_mapped, mapped_fresh, pages_of, is_range}
use Rattle.dos_world.specs.MemoryCalls.{maps_page, where_mapped, is_no_range, lacks_page}
use Rattle.dos_world.specs.MemoryCalls.{unmap, without_pages, with_shared}
use Rattle.dos_world.specs.SignalCalls.{sig_handler, is_signal, is_action, with_action, sig_mask}
use Rattle.dos_world.specs.SignalCalls.{masked, sig_return, sig_return_by, restored}
use Rattle.dos_world.specs.SignalCalls.{refused_in_place, saved_of, kill}
use Rattle.dos_world.specs.declared.Access.{Access}
use Rattle.dos_world.specs.declared.Access.TheVariants.{Load, Store}
use Rattle.dos_world.specs.declared.Size.TheVariants.{Byte}
use Rattle.dos_world.specs.declared.Entry.{Entry}
use Rattle.dos_world.specs.declared.Owner.{Owner}
use Rattle.dos_world.specs.declared.Owner.TheVariants.{Of}
use Rattle.dos_world.specs.declared.End.{End}
use Rattle.dos_world.specs.declared.End.TheVariants.{Input, Output, Error, PipeRead, PipeWrite}
use Rattle.dos_world.specs.declared.Question.TheVariants.{Clock, Input as input_question}
use Rattle.dos_world.specs.declared.ThreadState.TheVariants.{Retry, Asleep}
use Rattle.round_core.specs.Protocol.{Protocol, Allows}
use Rattle.round_core.proofs.Rows.{OfEach, by_number}

-- what is said of a world's threads and owners, of its quantum and its count of rounds, and of the
-- bytes that it has sent to output and to error
abbrev pub Said : Type 1
Said = (threads : List (Option Thread)) (owners : List Owner) (quantum rounds : ℕ)
    (output error : List ℕ) → Type 0

-- it is said of this world
abbrev pub IsSaid : Said → World → Type 0
IsSaid K w = K w.threads w.owners w.quantum w.rounds w.output w.error

-- It stands where a thread changes that keeps its budget, where a thread is new, where as many
-- frames have other owners, and where more bytes are sent.
pub record Stands (K : Said) : Type 0 where
  pub thread : (f : Thread → Thread) → ((thread : Thread) → (f thread).budget ≡ thread.budget)
      → (w : World) (t : ℕ) → IsSaid K w → IsSaid K (with_thread w t f)
  pub new_thread : (w : World) (thread : Thread) → IsSaid K w → IsSaid K (with_new_thread w thread)
  pub owners : (w : World) (owners : List Owner) → length owners ≡ length w.owners → IsSaid K w
      → IsSaid K (record w { owners = owners })
  pub output : (w : World) (bytes : List ℕ) → IsSaid K w
      → IsSaid K (record w { output = w.output ++ bytes })
  pub error : (w : World) (bytes : List ℕ) → IsSaid K w
      → IsSaid K (record w { error = w.error ++ bytes })

-- So it is wherever a service leaves a thread that isn't gone, if it is said of the world then.
pub record Leaves (K : Said) (After : Served → Type 0) : Type 0 where
  pub going : (w : World) → IsSaid K w → After (went w)
  pub waiting : (w : World) → IsSaid K w → After (waits w)
  pub yielding : (w : World) → IsSaid K w → After (yields w)

pub length-map_from : {A B : Type 0} (n : ℕ) (f : ℕ → A → B) (xs : List A)
    → length (map_from n f xs) ≡ length xs
length-map_from n f [] = refl
length-map_from n f (x ∷ xs) = ap suc (length-map_from (suc n) f xs)

module _ (K : Said) (stands : Stands K) where
  abbrev J : World → Type 0
  J w = IsSaid K w

  -- ---- the kernel's changes

  kept_if : (b : Bool) (u v : World) → J u → J v → J (cond b u v)
  kept_if true u v h k = h
  kept_if false u v h k = k

  pub posted_kept : (w : World) (p signal : ℕ) → J w → J (posted w p signal)
  posted_kept w p signal k = by_first (first_thread w p)
    where
      by_first : (o : Option ℕ)
          → J (elim o as (λ _. World) [ None ↦ w | Some u ↦ with_thread w u (pending_with signal) ])
      by_first None = k
      by_first (Some u) = stands.thread (pending_with signal) (λ thread. refl) w u k

  tidied_kept : (w : World) → J w → J (tidied w)
  tidied_kept w k =
      stands.owners w (map_from 0 (owner_if_mapped w) w.owners)
      (length-map_from 0 (owner_if_mapped w) w.owners) k

  opened_kept : (w : World) (u address : ℕ) (access : Access) → J w → J (opened w u address access)
  opened_kept w u address access k = by_reach (reach w u address Byte access)
    where
      by_reach : (r : Reached)
          → J (elim r as (λ _. World) [
            | fault m ↦ w
            | foreign frame ↦ grant w u frame access
            | at place ↦ w
          ])
      by_reach (fault m) = k
      by_reach (foreign frame) =
          stands.owners w (slice_set w.owners frame (granted u access))
          (length-set w.owners frame (granted u access)) k
      by_reach (at place) = k

  copied_in_kept : (count : ℕ) (w : World) (u address : ℕ) → J w → J (copied_in w u address count).0
  copied_in_kept zero w u address k = k
  copied_in_kept (suc count) w u address k =
      copied_in_kept count (opened w u address Load) u (suc address)
      (opened_kept w u address Load k)

  byte_kept : (w : World) (u address b : ℕ) → J w → J (byte_stored w u address b)
  byte_kept w u address b k = by_reach (reach w u address Byte Store)
    where
      by_reach : (r : Reached)
          → J (elim r as (λ _. World) [
            | fault m ↦ w
            | foreign frame ↦ w
            | at place ↦ stored w place (b ∷ [])
          ])
      by_reach (fault m) = k
      by_reach (foreign frame) = k
      by_reach (at place) = k

  copied_out_kept : (bytes : List ℕ) (w : World) (u address : ℕ) → J w
      → J (copied_out w u address bytes)
  copied_out_kept [] w u address k = k
  copied_out_kept (b ∷ bytes) w u address k =
      copied_out_kept bytes (byte_stored (opened w u address Store) u address b) u (suc address)
      (byte_kept (opened w u address Store) u address b (opened_kept w u address Store k))

  all_woken_kept : (w : World) (us : List ℕ) → J w → J (all_woken w us)
  all_woken_kept w [] k = k
  all_woken_kept w (u ∷ us) k =
      all_woken_kept (woken w u 0) us (stands.thread (awake 0) (λ thread. refl) w u k)

  -- whatever its bytes are
  taken_kept : (w : World) (u : ℕ) → J w → J (with_taken w u)
  taken_kept w u k =
      stands.owners w (slice_set w.owners (lowest_free_frame w) (Of u))
      (length-set w.owners (lowest_free_frame w) (Of u)) k

  mapped_kept : (c : Call) (pages : List ℕ) (w : World) → J w → J (mapped_fresh c w pages)
  mapped_kept c [] w k = k
  mapped_kept c (page ∷ pages) w k =
      mapped_kept c pages (page_mapped c.thread c.process c.a2 w page)
      (taken_kept w c.thread k)

  copied_space_kept : (w : World) (u : ℕ) (space : List (ℕ × Entry)) → J w
      → J (copied_space w u space).0
  copied_space_kept w u [] k = k
  copied_space_kept w u (e ∷ space) k =
      copied_space_kept (cond e.1.shared w (with_fresh w u (page_of w.bytes e.1.frame))) u space
      (kept_if e.1.shared w (with_fresh w u (page_of w.bytes e.1.frame)) k
      (taken_kept w u k))

  -- ---- the services

  module _ (protocol : Protocol) (After : Served → Type 0) (leaves : Leaves K After)
      (c : Call) (k : J c.world) where
    abbrev Left : Play Served → Type 0
    Left play = Allows protocol After play

    if_left : (b : Bool) (u v : Play Served) → Left u → Left v → Left (cond b u v)
    if_left true u v h l = h
    if_left false u v h l = l

    -- to go on with an answer
    answers : (f : Registers → Registers) (w : World) → J w
        → After (went (with_registers w c.thread f))
    answers f w h =
        leaves.going _ (stands.thread (registers_by f) (λ thread. refl) w c.thread h)

    -- to wait
    retries_left : Left (retries c)
    retries_left =
        leaves.waiting _ (stands.thread (in_state Retry) (λ thread. refl) c.world c.thread k)

    returns_left : (w : World) (value : ℕ) → J w → Left (returns_in w value c)
    returns_left w value h = answers (answered value) w h

    two_left : (w : World) (first second : ℕ) → J w → Left (returns_two w first second c)
    two_left w first second h = answers _ w h

    refused : (number : ℕ) → Left (refuses number c)
    refused number = returns_left c.world (minus number) k

    replies_left : (r : Result World ℕ) (value : ℕ) → ((w : World) → r ≡ Ok w → J w)
        → Left (replies r value c)
    replies_left (Ok w) value h = returns_left w value (h w refl)
    replies_left (Err number) value h = refused number

    moves_left : (one : Service) (are_mapped : Bool) → Left (one c)
        → Left (transfers one are_mapped c)
    moves_left one are_mapped h =
        if_left (count_of c == 0) (returns 0 c) (cond are_mapped (one c) (refuses 14 c))
        (returns_left c.world 0 k)
        (if_left are_mapped (one c) (refuses 14 c) h (refused 14))

    thread_new_left : Left (thread_new c)
    thread_new_left =
        let thread : Thread =
        ready_thread c.process (new_registers c.a0 c.a1 c.a2) (mask_of c) [] in
        let made : Play Served =
        returns_in (with_new_thread c.world thread) (next_thread c.world) c in
        if_left (not (c.a0 % 2 == 0)) (refuses 22 c)
        (cond (are_threads_full c.world.threads) (refuses 11 c) made) (refused 22)
        (if_left (are_threads_full c.world.threads) (refuses 11 c) made (refused 11)
        (returns_left (with_new_thread c.world thread) (next_thread c.world)
        (stands.new_thread c.world thread k)))

    fork_left : Left (fork c)
    fork_left = by_both (live_process c.world c.process) (thread_at c.world c.thread)
      where
        by_both : (h : Option Holdings) (o : Option Thread)
            → Left (replies (forked_by c h o) (next_process c.world) c)
        by_both None None = refused 11
        by_both None (Some thread) = refused 11
        by_both (Some h) None = refused 11
        by_both (Some h) (Some thread) =
            by_room (are_processes_full c.world.processes c.world.threads)
            (nat_lt (free_frames c.world) (private_entries h.space))
          where
            by_room : (a b : Bool)
                → Left (replies (cond a (Err 11) (cond b (Err 12) (Ok (with_child c h thread))))
                (next_process c.world) c)
            by_room true b = refused 11
            by_room false true = refused 12
            by_room false false =
                let copy = (copied_space c.world (next_thread c.world) h.space).0 in
                returns_left (with_child c h thread) (next_process c.world)
                (stands.new_thread copy _
                (copied_space_kept c.world (next_thread c.world) h.space k))

    wait_left : Left (wait c)
    wait_left =
        by_children (first_of (children_where any_process c))
        (first_of (children_where has_ended c))
      where
        by_children : (a b : Option ℕ) → Left (wait_by a b c)
        by_children None b = refused 10
        by_children (Some any) None = retries_left
        by_children (Some any) (Some p) = two_left (collected c.world p) p (status_at c.world p) k

    pipe_left : Left (pipe c)
    pipe_left =
        by_free (first_of (free_descriptors c)) (second_of (free_descriptors c))
        (lowest_pipe c.world)
      where
        by_free : (a b p : Option ℕ) → Left (pipe_by a b p c)
        by_free None b p = refused 24
        by_free (Some a) None p = refused 24
        by_free (Some a) (Some b) None = refused 24
        by_free (Some a) (Some b) (Some p) =
            let one : World = with_descriptor c c.world a (Some (PipeRead p)) in
            two_left (with_descriptor c one b (Some (PipeWrite p))) a b k

    close_left : Left (close c)
    close_left = by_end (descriptor c)
      where
        by_end : (o : Option End)
            → Left (elim o as (λ _. Play Served) [
              | None ↦ refuses 9 c
              | Some end ↦ returns_in (tidied (with_descriptor c c.world c.a0 None)) 0 c
            ])
        by_end None = refused 9
        by_end (Some end) =
            returns_left (tidied (with_descriptor c c.world c.a0 None)) 0
            (tidied_kept (with_descriptor c c.world c.a0 None) k)

    dup_left : Left (dup c)
    dup_left = by_end (descriptor c) (first_of (free_descriptors c))
      where
        by_end : (o : Option End) (f : Option ℕ) → Left (dup_by o f c)
        by_end None f = refused 9
        by_end (Some end) None = refused 24
        by_end (Some end) (Some number) =
            returns_left (with_descriptor c c.world number (Some end)) number k

    read_left : ((most : ℕ) → protocol.may (input_question (c.world.rounds + 1) c.thread most)
        c.world.output c.world.error) → Left (read c)
    read_left may = by_end (descriptor c)
      where
        pipe_read : (p : ℕ) → Left (read_pipe p c)
        pipe_read p =
            let held : List ℕ = pipe_bytes c.world p in
            let count : ℕ = min (count_of c) (length held) in
            let copy : World = copied_out c.world c.thread c.a1 (take count held) in
            if_left (count == 0) (cond (has_writer c.world p) (retries c) (returns 0 c))
            (returns_in (with_pipe copy p (drop count held)) count c)
            (if_left (has_writer c.world p) (retries c) (returns 0 c) retries_left
            (returns_left c.world 0 k))
            (returns_left (with_pipe copy p (drop count held)) count
            (copied_out_kept (take count held) c.world c.thread c.a1 k))

        by_end : (o : Option End) → Left (read_by o c)
        by_end None = refused 9
        by_end (Some Input) =
            moves_left read_input (all_reach c.world c.thread c.a1 (count_of c) Store) (
              may _,
              λ answer is.
                  returns_left (copied_out c.world c.thread c.a1 (input_of answer))
                  (length (input_of answer))
                  (copied_out_kept (input_of answer) c.world c.thread c.a1 k),
            )
        by_end (Some Output) = refused 9
        by_end (Some Error) = refused 9
        by_end (Some (PipeRead p)) = moves_left (read_pipe p)
            (all_reach c.world c.thread c.a1 (count_of c) Store) (pipe_read p)
        by_end (Some (PipeWrite p)) = refused 9

    write_left : Left (write c)
    write_left = by_end (descriptor c)
      where
        copied : (count : ℕ) → J (copied_in c.world c.thread c.a1 count).0
        copied count = copied_in_kept count c.world c.thread c.a1 k

        pipe_written : (p : ℕ) → Left (write_pipe p c)
        pipe_written p =
            let held : List ℕ = pipe_bytes c.world p in
            let count : ℕ = min (count_of c) (4096 - length held) in
            if_left (not (has_reader c.world p)) (refuses 32 c)
            (cond (count == 0) (retries c) (write_some p held count c)) (refused 32)
            (if_left (count == 0) (retries c) (write_some p held count c) retries_left
            (let moved = copied_in c.world c.thread c.a1 count in
            returns_left (with_pipe moved.0 p (held ++ moved.1)) count (copied count)))

        by_end : (o : Option End) → Left (write_by o c)
        by_end None = refused 9
        by_end (Some Input) = refused 9
        by_end (Some Output) =
            let moved = copied_in c.world c.thread c.a1 (count_of c) in
            moves_left write_output (all_reach c.world c.thread c.a1 (count_of c) Load)
            (returns_left (record moved.0 { output = moved.0.output ++ moved.1 }) (count_of c)
            (stands.output moved.0 moved.1 (copied (count_of c))))
        by_end (Some Error) =
            let moved = copied_in c.world c.thread c.a1 (count_of c) in
            moves_left write_error (all_reach c.world c.thread c.a1 (count_of c) Load)
            (returns_left (record moved.0 { error = moved.0.error ++ moved.1 }) (count_of c)
            (stands.error moved.0 moved.1 (copied (count_of c))))
        by_end (Some (PipeRead p)) = refused 9
        by_end (Some (PipeWrite p)) = moves_left (write_pipe p)
            (all_reach c.world c.thread c.a1 (count_of c) Load) (pipe_written p)

    at_word_left : (one : Entry → Service) → ((e : Entry) → Left (one e c)) → Left (at_word one c)
    at_word_left one h =
        if_left (is_off_word c) (refuses 22 c) (by_entry one (entry_at c.world c.thread c.a0) c)
        (refused 22) (entry_left (entry_at c.world c.thread c.a0))
      where
        entry_left : (o : Option Entry) → Left (by_entry one o c)
        entry_left None = refused 14
        entry_left (Some e) = h e

    futex_wait_left : Left (futex_wait c)
    futex_wait_left =
        let read : World = opened c.world c.thread c.a0 Load in
        let kept : J read = opened_kept c.world c.thread c.a0 Load k in
        at_word_left futex_wait_at
        (λ e. if_left (futex_word e c == c.a1) _ (refuses_in read 11 c)
        (leaves.waiting _ (stands.thread (in_state Asleep) (λ thread. refl) read c.thread kept))
        (returns_left read (minus 11) kept))

    futex_wake_left : Left (futex_wake c)
    futex_wake_left =
        at_word_left futex_wake_at
        (λ e. returns_left (all_woken c.world (sleepers_at e c)) (length (sleepers_at e c))
        (all_woken_kept c.world (sleepers_at e c) k))

    map_left : Left (map_pages c)
    map_left =
        by_tests (not (is_range c && nat_le c.a2 7)) (maps_page c)
        (nat_lt (free_frames c.world) c.a1)
      where
        by_tests : (a b d : Bool)
            → Left (replies
            (cond a (Err 22)
            (cond b (Err 22)
            (cond d (Err 12) (Ok (mapped_fresh c c.world (pages_of c)))))) 0 c)
        by_tests true b d = refused 22
        by_tests false true d = refused 22
        by_tests false false true = refused 12
        by_tests false false false =
            returns_left (mapped_fresh c c.world (pages_of c)) 0
            (mapped_kept c (pages_of c) c.world k)

    where_left : (w : World) → J w → Left (replies (where_mapped c w) 0 c)
    where_left w h = by_tests (is_no_range c) (lacks_page c)
      where
        by_tests : (a b : Bool) → Left (replies (cond a (Err 22) (cond b (Err 22) (Ok w))) 0 c)
        by_tests true b = refused 22
        by_tests false true = refused 22
        by_tests false false = returns_left w 0 h

    unmap_left : Left (unmap c)
    unmap_left =
        let less : World = with_holdings c.world c.process (without_pages c) in
        where_left (tidied less) (tidied_kept less k)

    handler_left : Left (sig_handler c)
    handler_left =
        if_left (not (is_signal c.a0) || (c.a0 == 9) || not (is_action c.a1)) (refuses 22 c)
        (returns_in (with_holdings c.world c.process (with_action c.a0 c.a1))
        (action_of c.world c.process c.a0) c) (refused 22)
        (returns_left (with_holdings c.world c.process (with_action c.a0 c.a1))
        (action_of c.world c.process c.a0) k)

    mask_left : Left (sig_mask c)
    mask_left =
        returns_left (with_thread c.world c.thread (masked c.a0)) (mask_of c)
        (stands.thread (masked c.a0) (λ thread. refl) c.world c.thread k)

    sig_return_left : Left (sig_return c)
    sig_return_left = by_saved (saved_of c)
      where
        by_saved : (saved : List (Registers × ℕ)) → Left (sig_return_by saved c)
        by_saved [] = answers refused_in_place c.world k
        by_saved (last ∷ others) =
            leaves.going _
            (stands.thread (restored last others) (λ thread. refl) c.world c.thread k)

    kill_left : Left (kill c)
    kill_left =
        let told : World = cond (c.a1 == 0) c.world (posted c.world c.a0 c.a1) in
        if_left (nat_lt 31 c.a1) (refuses 22 c)
        (cond (is_none (live_process c.world c.a0)) (refuses 3 c) (returns_in told 0 c))
        (refused 22)
        (if_left (is_none (live_process c.world c.a0)) (refuses 3 c) (returns_in told 0 c)
        (refused 3)
        (returns_left told 0
        (kept_if (c.a1 == 0) c.world (posted c.world c.a0 c.a1) k
        (posted_kept c.world c.a0 c.a1 k))))

    -- The services that ask, read and clock, may do so; and two of them end a thread.
    module _ (Called : ℕ → Type 0)
        (may_read : Called 7 → (most : ℕ)
        → protocol.may (input_question (c.world.rounds + 1) c.thread most) c.world.output
        c.world.error)
        (may_clock : Called 22
        → protocol.may (Clock (c.world.rounds + 1) c.thread) c.world.output c.world.error)
        (thread_exits : After (gone (thread_ended c.world c.process c.thread)))
        (process_exits : After (gone (process_ended c.world c.process (c.a0 % 256)))) where
      each_left : OfEach (λ number one. Called number → Left (one c))
      each_left = record {
        of_thread_exit = λ called. thread_exits;
        of_process_exit = λ called. process_exits;
        of_thread_new = λ called. thread_new_left;
        of_fork = λ called. fork_left;
        of_wait = λ called. wait_left;
        of_pipe = λ called. pipe_left;
        of_read = λ called. read_left (may_read called);
        of_write = λ called. write_left;
        of_close = λ called. close_left;
        of_dup = λ called. dup_left;
        of_futex_wait = λ called. futex_wait_left;
        of_futex_wake = λ called. futex_wake_left;
        of_map = λ called. map_left;
        of_unmap = λ called. unmap_left;
        of_share = λ called. where_left (with_holdings c.world c.process (with_shared c)) k;
        of_sig_handler = λ called. handler_left;
        of_sig_mask = λ called. mask_left;
        of_sig_return = λ called. sig_return_left;
        of_kill = λ called. kill_left;
        of_get_pid = λ called. returns_left c.world c.process k;
        of_get_tid = λ called. returns_left c.world c.thread k;
        of_clock = λ called.
            (may_clock called, λ answer is. two_left c.world _ _ k);
        of_yield = λ called.
            leaves.yielding _
            (stands.thread (registers_by (answered 0)) (λ thread. refl) c.world c.thread k);
        of_round = λ called. returns_left c.world _ k;
      }

      -- the service of each number
      pub service_left : (number : ℕ) → Called number → Left (service_of number c)
      service_left =
          by_number (λ number one. Called number → Left (one c)) each_left
          (λ number called. refused 38)
