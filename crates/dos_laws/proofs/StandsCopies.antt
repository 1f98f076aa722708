-- Bytes that a service reads from its caller's memory or writes to it keep a world standing: 7 and
-- 8.
use Rattle.std.proofs.Common.{ℕ, zero, suc, ◌-◌, ◌<◌, ◌≤◌, ◌≡◌, ◌⊎◌, inl, inr, refl, sym, ap, ◌∙◌}
use Rattle.std.proofs.Common.{subst, Bool, true, false, cond, not, List, [], ◌∷◌, ◌++◌, length}
use Rattle.std.proofs.Common.{Option, Some, None, min, take, drop, arith, length-set, length-append}
use Rattle.std.proofs.Common.{◌+◌, ◌*◌, ◌%◌}
use Rattle.std.specs.Prelude.{All, IsFalse, ◌==◌, slice_get, slice_set, slice_index_or, unwrap_or}
use Rattle.std.specs.List.{list_any}
use Rattle.std.proofs.lemmas.Bool.{cases_eq, true≢false, or_left, or_right, eq-eqb}
use Rattle.std.proofs.lemmas.List.{length-drop, get_or-set_other}
use Rattle.std.proofs.lemmas.List.Elements.{All-nil, All-cons, All-head, All-tail, All-set}
use Rattle.std.proofs.lemmas.List.Elements.{All-take, All-drop, All-append}
use Rattle.dos_world.specs.World.{World, all_holdings, entry_at, owner_of}
use Rattle.dos_world.specs.Bytes.{loaded, stored}
use Rattle.dos_world.specs.Reach.{Reached, fault, foreign, at, reach, grant, in_frame, has_right}
use Rattle.dos_world.specs.Reach.{is_foreign, width}
use Rattle.dos_world.specs.Copying.{opened, place_of, byte_stored, copied_in, copied_out, all_reach}
use Rattle.dos_world.specs.Counts.{reads_pipe, writes_pipe, has_reader, has_writer, is_open}
use Rattle.dos_world.specs.Play.{input_of}
use Rattle.dos_world.specs.Calls.{Call, Service, returns, returns_in, refuses, retries}
use Rattle.dos_world.specs.DescriptorCalls.{read, read_by, read_input, read_pipe, write, write_by}
use Rattle.dos_world.specs.DescriptorCalls.{write_output, write_error, write_pipe, write_some}
use Rattle.dos_world.specs.DescriptorCalls.{transfers, count_of, descriptor, descriptors_of}
use Rattle.dos_world.specs.DescriptorCalls.{pipe_bytes, with_pipe}
use Rattle.dos_world.specs.Lawful.{Lawful, IsByte, IsPipe}
use Rattle.dos_world.specs.declared.Access.{Access}
use Rattle.dos_world.specs.declared.Access.TheVariants.{Load, Store}
use Rattle.dos_world.specs.declared.Size.TheVariants.{Byte}
use Rattle.dos_world.specs.declared.End.{End}
use Rattle.dos_world.specs.declared.End.TheVariants.{Input, Output, Error, PipeRead, PipeWrite}
use Rattle.dos_laws.specs.Standing.{LawfulWith}
use Rattle.dos_laws.proofs.Mapped.{IsTaken, held_any, entry_taken}
use Rattle.dos_laws.proofs.Numerals.{loaded_below}
use Rattle.dos_laws.proofs.Frames.{lawful-grant, lawful-stored}
use Rattle.dos_laws.proofs.Outside.{lawful-sent}
use Rattle.flat_machine.proofs.Keeps.{Own, reach-own, store}
use Rattle.dos_laws.proofs.StandsCalls.{StandsCall, Leaves, law, held, thread_within}
use Rattle.dos_laws.proofs.StandsCalls.{returns_stands, returns_in_stands, refuses_stands}
use Rattle.dos_laws.proofs.StandsCalls.{retries_stands, leaves_if}
use Rattle.dos_world.specs.declared.Entry.{Entry}
use Rattle.dos_world.specs.declared.Size.{Size}

-- what is foreign is the frame of an entry
pub foreign_taken : (w : World) (t address : ℕ) (size : Size) (access : Access) (frame : ℕ)
    → Lawful w → reach w t address size access ≡ foreign frame → IsTaken w frame
foreign_taken w t address size access frame l h = by_alignment (address % width size == 0) h
  where
    by_owner : (e : Entry) → entry_at w t address ≡ Some e → (b : Bool)
        → cond b (foreign e.frame) (at (4096 * e.frame + address % 4096)) ≡ foreign frame
        → IsTaken w frame
    by_owner e is true q =
        let same : e.frame ≡ frame = cc in subst (IsTaken w) same (entry_taken w t address e l is)
    by_owner e is false q = absurd (grind arith)

    by_right : (e : Entry) → entry_at w t address ≡ Some e → (b : Bool)
        → cond (not b) (fault 11)
        (cond (is_foreign t access (owner_of w e.frame)) (foreign e.frame)
        (at (4096 * e.frame + address % 4096))) ≡ foreign frame
        → IsTaken w frame
    by_right e is true q = by_owner e is (is_foreign t access (owner_of w e.frame)) q
    by_right e is false q = absurd (grind arith)

    by_entry : (o : Option Entry) → entry_at w t address ≡ o
        → in_frame w t address access o ≡ foreign frame → IsTaken w frame
    by_entry None is q = absurd (grind arith)
    by_entry (Some e) is q = by_right e is (has_right access e) q

    by_alignment : (b : Bool)
        → cond (not b) (fault 7) (in_frame w t address access (entry_at w t address))
        ≡ foreign frame
        → IsTaken w frame
    by_alignment true q = by_entry (entry_at w t address) refl q
    by_alignment false q = absurd (grind arith)

-- ---- owners, bytes and what is sent

pub stands-grant : (ts : List ℕ) (w : World) (t frame : ℕ) (access : Access)
    → (1 ≤ t) × (t ≤ length w.threads) → IsTaken w frame → LawfulWith ts w
    → LawfulWith ts (grant w t frame access)
stands-grant ts w t frame access given taken k =
    record {
      lawful = lawful-grant w t frame access given taken k.lawful;
      awake = k.awake;
      apart =
          k.apart;
    }

pub stands-stored : (ts : List ℕ) (w : World) (t place : ℕ) (new : List ℕ) → All IsByte new
    → Own w t place (length new) → LawfulWith ts w → LawfulWith ts (stored w place new)
stands-stored ts w t place new bytes own k = record {
  lawful = lawful-stored w t place new bytes own k.lawful;
  awake = k.awake;
  apart = k.apart;
}

-- a byte that is written where it is reached
stands-byte_stored : (ts : List ℕ) (w : World) (t address b : ℕ) → IsByte b → LawfulWith ts w
    → LawfulWith ts (byte_stored w t address b)
stands-byte_stored ts w t address b is k = by_reached (reach w t address Byte Store) refl
  where
    by_reached : (r : Reached) → reach w t address Byte Store ≡ r
        → LawfulWith ts (elim r as (λ _. World) [
          | fault number ↦ w
          | foreign frame ↦ w
          | at place ↦ stored w place (b ∷ [])
        ])
    by_reached (fault number) e = k
    by_reached (foreign frame) e = k
    by_reached (at place) e =
        stands-stored ts w t place (b ∷ []) (All-cons IsByte b [] is (All-nil IsByte))
        (reach-own w t address Byte Store store place e) k

pub stands-sent : (ts : List ℕ) (w : World) (output error : List ℕ) → LawfulWith ts w
    → LawfulWith ts (record w { output = output; error = error })
stands-sent ts w output error k =
    record { lawful = lawful-sent w output error k.lawful; awake = k.awake; apart = k.apart }

-- ---- copies

-- the same but for owners and bytes
abbrev pub IsMoved : World → World → Type 0
IsMoved w u = u ≡ record w { owners = u.owners; bytes = u.bytes }

moved_on : (w u v : World) → IsMoved w u → IsMoved u v → IsMoved w v
moved_on w u v one two =
    two ∙ ap {A = World} {B = World} (λ x. record x { owners = v.owners; bytes = v.bytes }) one

pub opened_moved : (w : World) (t address : ℕ) (access : Access)
    → IsMoved w (opened w t address access)
opened_moved w t address access = by_reached (reach w t address Byte access)
  where
    by_reached : (r : Reached)
        → IsMoved w (elim r as (λ _. World) [
          | fault number ↦ w
          | foreign frame ↦ grant w t frame access
          | at place ↦ w
        ])
    by_reached (fault number) = refl
    by_reached (foreign frame) = refl
    by_reached (at place) = refl

pub copied_in_moved : (w : World) (t address n : ℕ) → IsMoved w (copied_in w t address n).0
copied_in_moved w t address zero = refl
copied_in_moved w t address (suc n) =
    let u : World = opened w t address Load in
    moved_on w u (copied_in u t (suc address) n).0 (opened_moved w t address Load)
    (copied_in_moved u t (suc address) n)

byte_moved : (w : World) (t address b : ℕ) → IsMoved w (byte_stored w t address b)
byte_moved w t address b = by_reached (reach w t address Byte Store)
  where
    by_reached : (r : Reached)
        → IsMoved w (elim r as (λ _. World) [
          | fault number ↦ w
          | foreign frame ↦ w
          | at place ↦ stored w place (b ∷ [])
        ])
    by_reached (fault number) = refl
    by_reached (foreign frame) = refl
    by_reached (at place) = refl

pub copied_out_moved : (w : World) (t address : ℕ) (bytes : List ℕ)
    → IsMoved w (copied_out w t address bytes)
copied_out_moved w t address [] = refl
copied_out_moved w t address (b ∷ bytes) =
    let u : World = opened w t address Store in
    let v : World = byte_stored u t address b in
    moved_on w v (copied_out v t (suc address) bytes)
    (moved_on w u v (opened_moved w t address Store) (byte_moved u t address b))
    (copied_out_moved v t (suc address) bytes)

-- the number of a thread was given
abbrev pub IsGiven : World → ℕ → Type 0
IsGiven w t = (1 ≤ t) × (t ≤ length w.threads)

pub given_moved : (w u : World) (t : ℕ) → IsMoved w u → IsGiven w t → IsGiven u t
given_moved w u t moved given = subst (λ x. IsGiven x t) (sym moved) given

pub stands-opened : (ts : List ℕ) (w : World) (t address : ℕ) (access : Access) → IsGiven w t
    → LawfulWith ts w → LawfulWith ts (opened w t address access)
stands-opened ts w t address access given k = by_reached (reach w t address Byte access) refl
  where
    by_reached : (r : Reached) → reach w t address Byte access ≡ r
        → LawfulWith ts (elim r as (λ _. World) [
          | fault number ↦ w
          | foreign frame ↦ grant w t frame access
          | at place ↦ w
        ])
    by_reached (fault number) e = k
    by_reached (foreign frame) e =
        stands-grant ts w t frame access given
        (foreign_taken w t address Byte access frame k.lawful e) k
    by_reached (at place) e = k

pub stands-copied_in : (ts : List ℕ) (n : ℕ) (w : World) (t address : ℕ) → IsGiven w t
    → LawfulWith ts w → LawfulWith ts (copied_in w t address n).0
stands-copied_in ts zero w t address given k = k
stands-copied_in ts (suc n) w t address given k =
    let u : World = opened w t address Load in
    stands-copied_in ts n u t (suc address)
    (given_moved w u t (opened_moved w t address Load) given)
    (stands-opened ts w t address Load given k)

-- so many bytes are read
pub copied_in_bytes : (ts : List ℕ) (n : ℕ) (w : World) (t address : ℕ) → IsGiven w t
    → LawfulWith ts w
    → (length (copied_in w t address n).1 ≡ n) × All IsByte (copied_in w t address n).1
copied_in_bytes ts zero w t address given k = (refl, All-nil IsByte)
copied_in_bytes ts (suc n) w t address given k =
    let u : World = opened w t address Load in
    let stands = stands-opened ts w t address Load given k in
    let rest =
    copied_in_bytes ts n u t (suc address) (given_moved w u t (opened_moved w t address Load) given)
    stands in
    let first : loaded u (place_of u t address Load) 1 < 256 =
    omega (arith, loaded_below u (place_of u t address Load) 1 stands.lawful) in (
      ap suc rest.0,
      All-cons IsByte (loaded u (place_of u t address Load) 1)
          (copied_in u t (suc address) n).1 first rest.1,
    )

pub stands-copied_out : (ts : List ℕ) (bytes : List ℕ) (w : World) (t address : ℕ) → IsGiven w t
    → All IsByte bytes → LawfulWith ts w → LawfulWith ts (copied_out w t address bytes)
stands-copied_out ts [] w t address given all k = k
stands-copied_out ts (b ∷ bytes) w t address given all k =
    let u : World = opened w t address Store in
    let v : World = byte_stored u t address b in
    stands-copied_out ts bytes v t (suc address)
    (given_moved w v t (moved_on w u v (opened_moved w t address Store) (byte_moved u t address b))
    given)
    (All-tail IsByte b bytes all)
    (stands-byte_stored ts u t address b (All-head IsByte b bytes all)
    (stands-opened ts w t address Store given k))

-- ---- a pipe

-- an opens pipe that holds other bytes
pub stands-with_pipe : (ts : List ℕ) (w : World) (pipe : ℕ) (bytes : List ℕ) → is_open w pipe ≡ true
    → IsPipe bytes → LawfulWith ts w → LawfulWith ts (with_pipe w pipe bytes)
stands-with_pipe ts w pipe bytes opens is k = record {
  lawful = record {
    frames = record {
      bytes = k.lawful.frames.bytes;
      free = k.lawful.frames.free;
      zeros = k.lawful.frames.zeros;
      owned =
          k.lawful.frames.owned;
    };
    processes = record {
      holdings = k.lawful.processes.holdings;
      private =
          k.lawful.processes.private;
      populated = k.lawful.processes.populated;
      statuses =
          k.lawful.processes.statuses;
      parents = k.lawful.processes.parents;
      given =
          k.lawful.processes.given;
    };
    threads = record {
      ranges = k.lawful.threads.ranges;
      asleep = k.lawful.threads.asleep;
      sleepers = k.lawful.threads.sleepers;
    };
    pipes = record {
      ranges = (
        length-set w.pipes pipe bytes
            ∙ k.lawful.pipes.ranges.0,
        All-set IsPipe w.pipes pipe bytes is k.lawful.pipes.ranges.1,
      );
      closed = λ other shut. by_number other shut (cases_eq other pipe);
    };
    limits = record {
      threads = k.lawful.limits.threads;
      processes = k.lawful.limits.processes;
      frames = k.lawful.limits.frames;
    };
    run = k.lawful.run;
  };
  awake = k.awake;
  apart = k.apart;
}
  where
    by_number : (other : ℕ) → IsFalse (is_open w other) → (other ≡ pipe) ⊎ (other ≡ pipe → ⊥)
        → slice_index_or (slice_set w.pipes pipe bytes) other [] ≡ []
    by_number other shut (inl same) =
        absurd (true≢false (sym opens ∙ ap (is_open w) (sym same) ∙ shut))
    by_number other shut (inr apart) =
        get_or-set_other w.pipes pipe other bytes [] apart ∙ k.lawful.pipes.closed other shut

-- what a pipe of a lawful world holds
pub pipe_is : (w : World) (pipe : ℕ) → Lawful w → IsPipe (pipe_bytes w pipe)
pipe_is w pipe l = at w.pipes pipe l.pipes.ranges.1
  where
    at : (pipes : List (List ℕ)) (i : ℕ) → All IsPipe pipes → IsPipe (slice_index_or pipes i [])
    at [] i all = (omega arith, All-nil IsByte)
    at (x ∷ xs) zero all = All-head IsPipe x xs all
    at (x ∷ xs) (suc i) all = at xs i (All-tail IsPipe x xs all)

-- ---- an end that the caller has

any_end : (test : Option End → Bool) → test None ≡ false → (ends : List (Option End)) (k : ℕ)
    → test (unwrap_or (slice_get ends k) None) ≡ true → list_any test ends ≡ true
any_end test none [] k e = absurd (true≢false (sym e ∙ none))
any_end test none (x ∷ xs) zero e = or_left (test x) (list_any test xs) e
any_end test none (x ∷ xs) (suc k) e =
    or_right (test x) (list_any test xs) (any_end test none xs k e)

module _ (ts : List ℕ) (c : Call) (call : StandsCall ts c) where
  -- what passes at a descriptor of the caller passes somewhere
  pub end_held : (test : Option End → Bool) → test None ≡ false → test (descriptor c) ≡ true
      → list_any (λ h. list_any test h.descriptors) (all_holdings c.world.processes) ≡ true
  end_held test none e =
      let h = held ts c call in
      let ends : descriptors_of c ≡ h.0.descriptors =
      ap (λ o. elim o as (λ _. List (Option End)) [ None ↦ [] | Some x ↦ x.descriptors ]) h.1 in
      held_any (λ x. list_any test x.descriptors) c.world.processes c.process h.0 h.1
      (any_end test none h.0.descriptors c.a0
      (subst (λ xs. test (unwrap_or (slice_get xs c.a0) None) ≡ true) ends e))

  pub reader_held : (pipe : ℕ) → descriptor c ≡ Some (PipeRead pipe) → is_open c.world pipe ≡ true
  reader_held pipe e =
      or_left (has_reader c.world pipe) (has_writer c.world pipe)
      (end_held (reads_pipe pipe) refl (ap (reads_pipe pipe) e ∙ eq-eqb pipe pipe refl))

  pub writer_held : (pipe : ℕ) → descriptor c ≡ Some (PipeWrite pipe) → is_open c.world pipe ≡ true
  writer_held pipe e =
      or_right (has_reader c.world pipe) (has_writer c.world pipe)
      (end_held (writes_pipe pipe) refl (ap (writes_pipe pipe) e ∙ eq-eqb pipe pipe refl))

  pub given : IsGiven c.world c.thread
  given = let n = thread_within ts c call in (n.0, n.1)

  moves_stands : (one : Service) (are_mapped : Bool) → Leaves ts c call (one c)
      → Leaves ts c call (transfers one are_mapped c)
  moves_stands one are_mapped h =
      leaves_if ts c call (count_of c == 0) (returns 0 c) (cond are_mapped (one c) (refuses 14 c))
      (λ none. returns_stands ts c call 0 (omega arith))
      (λ some. leaves_if ts c call are_mapped (one c) (refuses 14 c) (λ all. h)
      (λ others. refuses_stands ts c call 14 (omega arith)))

  -- ---- 8

  write_output_stands : Leaves ts c call (write_output c)
  write_output_stands =
      let copy : World × List ℕ = copied_in c.world c.thread c.a1 (count_of c) in
      returns_in_stands ts c call (record copy.0 { output = copy.0.output ++ copy.1 }) (count_of c)
      (omega arith)
      (stands-sent (c.thread ∷ ts) copy.0 (copy.0.output ++ copy.1) copy.0.error
      (stands-copied_in (c.thread ∷ ts) (count_of c) c.world c.thread c.a1 given call.stands))

  write_error_stands : Leaves ts c call (write_error c)
  write_error_stands =
      let copy : World × List ℕ = copied_in c.world c.thread c.a1 (count_of c) in
      returns_in_stands ts c call (record copy.0 { error = copy.0.error ++ copy.1 }) (count_of c)
      (omega arith)
      (stands-sent (c.thread ∷ ts) copy.0 copy.0.output (copy.0.error ++ copy.1)
      (stands-copied_in (c.thread ∷ ts) (count_of c) c.world c.thread c.a1 given call.stands))

  write_pipe_stands : (pipe : ℕ) → is_open c.world pipe ≡ true
      → Leaves ts c call (write_pipe pipe c)
  write_pipe_stands pipe opens =
      let held_bytes : List ℕ = pipe_bytes c.world pipe in
      let count : ℕ = min (count_of c) (4096 - length held_bytes) in
      leaves_if ts c call (not (has_reader c.world pipe)) (refuses 32 c)
      (cond (count == 0) (retries c) (write_some pipe held_bytes count c))
      (λ nobody. refuses_stands ts c call 32 (omega arith))
      (λ read. leaves_if ts c call (count == 0) (retries c) (write_some pipe held_bytes count c)
      (λ full. retries_stands ts c call) (λ room. some))
    where
      some : Leaves ts c call
          (write_some pipe (pipe_bytes c.world pipe)
          (min (count_of c) (4096 - length (pipe_bytes c.world pipe))) c)
      some =
          let held_bytes : List ℕ = pipe_bytes c.world pipe in
          let count : ℕ = min (count_of c) (4096 - length held_bytes) in
          let copy : World × List ℕ = copied_in c.world c.thread c.a1 count in
          let were = pipe_is c.world pipe (law ts c call) in
          let new = copied_in_bytes (c.thread ∷ ts) count c.world c.thread c.a1 given call.stands in
          let is : IsPipe (held_bytes ++ copy.1) = (
            omega (arith, length-append held_bytes copy.1, new.0, were.0),
            All-append IsByte held_bytes copy.1 were.1 new.1,
          ) in
          returns_in_stands ts c call (with_pipe copy.0 pipe (held_bytes ++ copy.1)) count
          (omega arith)
          (stands-with_pipe (c.thread ∷ ts) copy.0 pipe (held_bytes ++ copy.1)
          (subst (λ u. is_open u pipe ≡ true)
          (sym (copied_in_moved c.world c.thread c.a1 count)) opens) is
          (stands-copied_in (c.thread ∷ ts) count c.world c.thread c.a1 given call.stands))

  pub write_stands : Leaves ts c call (write c)
  write_stands = by_end (descriptor c) refl
    where
      by_end : (o : Option End) → descriptor c ≡ o → Leaves ts c call (write_by o c)
      by_end None e = refuses_stands ts c call 9 (omega arith)
      by_end (Some Input) e = refuses_stands ts c call 9 (omega arith)
      by_end (Some Output) e =
          moves_stands write_output (all_reach c.world c.thread c.a1 (count_of c) Load)
          write_output_stands
      by_end (Some Error) e =
          moves_stands write_error (all_reach c.world c.thread c.a1 (count_of c) Load)
          write_error_stands
      by_end (Some (PipeRead pipe)) e = refuses_stands ts c call 9 (omega arith)
      by_end (Some (PipeWrite pipe)) e =
          moves_stands (write_pipe pipe) (all_reach c.world c.thread c.a1 (count_of c) Load)
          (write_pipe_stands pipe (writer_held pipe e))

  -- ---- 7

  read_input_stands : Leaves ts c call (read_input c)
  read_input_stands = (
    tt,
    λ answer fits.
        returns_in_stands ts c call (copied_out c.world c.thread c.a1 (input_of answer))
        (length (input_of answer)) (omega (arith, fits.count))
        (stands-copied_out (c.thread ∷ ts)
        (input_of answer) c.world c.thread c.a1 given fits.bytes call.stands),
  )

  read_pipe_stands : (pipe : ℕ) → is_open c.world pipe ≡ true → Leaves ts c call (read_pipe pipe c)
  read_pipe_stands pipe opens =
      let held_bytes : List ℕ = pipe_bytes c.world pipe in
      let count : ℕ = min (count_of c) (length held_bytes) in
      let copy : World = copied_out c.world c.thread c.a1 (take count held_bytes) in
      leaves_if ts c call (count == 0) (cond (has_writer c.world pipe) (retries c) (returns 0 c))
      (returns_in (with_pipe copy pipe (drop count held_bytes)) count c)
      (λ none. leaves_if ts c call (has_writer c.world pipe) (retries c) (returns 0 c)
      (λ written. retries_stands ts c call)
      (λ nobody. returns_stands ts c call 0 (omega arith)))
      (λ some. moved)
    where
      moved : Leaves ts c call
          (returns_in
          (with_pipe
          (copied_out c.world c.thread c.a1
          (take (min (count_of c) (length (pipe_bytes c.world pipe))) (pipe_bytes c.world pipe)))
          pipe
          (drop (min (count_of c) (length (pipe_bytes c.world pipe))) (pipe_bytes c.world pipe)))
          (min (count_of c) (length (pipe_bytes c.world pipe))) c)
      moved =
          let held_bytes : List ℕ = pipe_bytes c.world pipe in
          let count : ℕ = min (count_of c) (length held_bytes) in
          let were = pipe_is c.world pipe (law ts c call) in
          let copy : World = copied_out c.world c.thread c.a1 (take count held_bytes) in
          let is : IsPipe (drop count held_bytes) = (
            omega (arith, length-drop count held_bytes, were.0),
            All-drop IsByte count held_bytes were.1,
          ) in
          returns_in_stands ts c call (with_pipe copy pipe (drop count held_bytes)) count
          (omega arith)
          (stands-with_pipe (c.thread ∷ ts) copy pipe (drop count held_bytes)
          (subst (λ u. is_open u pipe ≡ true)
          (sym (copied_out_moved c.world c.thread c.a1 (take count held_bytes)))
          opens) is
          (stands-copied_out (c.thread ∷ ts) (take count held_bytes) c.world c.thread c.a1 given
          (All-take IsByte count held_bytes were.1) call.stands))

  pub read_stands : Leaves ts c call (read c)
  read_stands = by_end (descriptor c) refl
    where
      by_end : (o : Option End) → descriptor c ≡ o → Leaves ts c call (read_by o c)
      by_end None e = refuses_stands ts c call 9 (omega arith)
      by_end (Some Input) e =
          moves_stands read_input (all_reach c.world c.thread c.a1 (count_of c) Store)
          read_input_stands
      by_end (Some Output) e = refuses_stands ts c call 9 (omega arith)
      by_end (Some Error) e = refuses_stands ts c call 9 (omega arith)
      by_end (Some (PipeRead pipe)) e =
          moves_stands (read_pipe pipe) (all_reach c.world c.thread c.a1 (count_of c) Store)
          (read_pipe_stands pipe (reader_held pipe e))
      by_end (Some (PipeWrite pipe)) e = refuses_stands ts c call 9 (omega arith)
