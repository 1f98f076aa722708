-- What the services of memory come to: one process has another space.
use Rattle.std.proofs.Common.{◌≡◌, ℕ, ◌+◌, ◌<◌, Bool, true, false, cond, List, [], length}
use Rattle.std.proofs.Common.{Some, Result, Ok, Err, IfErr, refl, sym, ap, subst, ◌∙◌}
use Rattle.std.proofs.Common.{arith}
use Rattle.std.specs.Prelude.{OnErr, OnOk, ◌==◌, ◌&&◌, not, nat_le, nat_lt, count_by, filter}
use Rattle.std.proofs.lemmas.List.Filters.{sum_by-filter_both}
use Rattle.dos_world.specs.Numbered.{map_from}
use Rattle.dos_world.specs.World.{World, Holdings, registers_by, with_holdings, with_registers}
use Rattle.dos_world.specs.Kernel.{answered, minus, tidied, free_frames, without_entries}
use Rattle.dos_world.specs.Counts.{uses_of, owner_if_mapped, bytes_if_open, reads_pipe, writes_pipe}
use Rattle.dos_world.specs.Counts.{is_mapped, bytes_if_mapped}
use Rattle.dos_world.specs.Play.{Play, done}
use Rattle.dos_world.specs.Calls.{Call, Served as FlatServed, replies, went}
use Rattle.dos_world.specs.MemoryCalls.{in_pages, stays_mapped, mapped, where_mapped, is_range}
use Rattle.dos_world.specs.MemoryCalls.{is_no_range, lacks_page, maps_page, all_rights}
use Rattle.dos_world.specs.MemoryCalls.{without_pages, with_shared, shared_in_pages, share_if}
use Rattle.dos_world.specs.MemoryCalls.{mapped_fresh, pages_of}
use Rattle.dos_world.specs.declared.Entry.{Entry}
use Rattle.dos_world.specs.declared.Owner.{Owner}
use Rattle.dos_laws.proofs.Holders.{sum_changed}
use Rattle.dos_laws.proofs.Spaces.{uses-mapped}
use Rattle.page_store.specs.Store.{Store, joined, uses_at}
use Rattle.proc_table.specs.Tables.{Tables, held_by, held_in, thread_by}
use Rattle.kernel_mem.specs.Memory.{AreUsed, IsDropped, entries_of}
use Rattle.kernel_mem.specs.Ranges.{result_in}
use Rattle.kernel_mem.specs.MemoryWorld.{HasAllHome, space_in}
use Rattle.kernel_mem.proofs.Dropping.{home-dropped}
use Rattle.kernel_calls.specs.Memory.{answer_by}
use Rattle.kernel_calls.specs.StateWorld.{AreCounted, IsCounted, IsSound, sent, world_of}
use Rattle.kernel_calls.specs.CallResults.{ActsQuietly, call_in}
use Rattle.kernel_calls.specs.declared.state.State.{State}
use Rattle.kernel_calls.specs.declared.state.Asked.{Asked}
use Rattle.kernel_calls.specs.declared.state.Served.TheVariants.{Went}
use Rattle.kernel_calls.proofs.Callers.{Has, names_ends}
use Rattle.kernel_calls.proofs.Counted.{counted-thread_by}
use Rattle.kernel_calls.proofs.Keeping.{lawful_now}
use Rattle.kernel_calls.proofs.PipeEnds.{dropped-none}
use Rattle.kernel_calls.proofs.ProcessEnds.{pipes_tidied, unused_free, unused_zero}
use Rattle.kernel_calls.proofs.Uses.{owners-dropped, bytes-dropped}

-- ---- refusals

-- what is refused is refused by a number above 0
pub map_numbers : (c : Call) → IfErr (mapped c) (λ number. 0 < number)
map_numbers c = by (not (is_range c && nat_le c.a2 all_rights)) (maps_page c)
    (nat_lt (free_frames c.world) c.a1) (mapped_fresh c c.world (pages_of c))
  where
    by : (a b few : Bool) (w : World)
        → IfErr (cond a (Err 22) (cond b (Err 22) (cond few (Err 12) (Ok w))))
        (λ number. 0 < number)
    by true b few w = omega arith
    by false true few w = omega arith
    by false false true w = omega arith
    by false false false w = tt

pub range_numbers : (c : Call) (w : World) → IfErr (where_mapped c w) (λ number. 0 < number)
range_numbers c w = by (is_no_range c) (lacks_page c)
  where
    by : (a b : Bool) → IfErr (cond a (Err 22) (cond b (Err 22) (Ok w))) (λ number. 0 < number)
    by true b = omega arith
    by false true = omega arith
    by false false = tt

pub number_of : {A : Type 0} (outcome : Result A ℕ) (w : World) (found : Result World ℕ)
    → found ≡ result_in outcome w → IfErr found (λ number. 0 < number)
    → IfErr outcome (λ number. 0 < number)
number_of (Ok x) w found is h = tt
number_of (Err number) w found is h = subst (λ r. IfErr r (λ n. 0 < n)) is h

-- ---- what a call goes on with

module _ {A : Type 0} (s new : State) (a : Asked) (frames : Store) (table : Tables)
    (outcome : Result A ℕ) where
  abbrev after : State
  after = record s { frames = frames; table = table }

  module _ (is : new ≡ record after {
    table = thread_by (registers_by (answered (answer_by outcome))) table a.thread;
  }) where
    pub concluded : (body : Call → Result World ℕ)
        → OnErr outcome ((frames ≡ s.frames) × (table ≡ s.table))
        → ((q : ℕ) (o e : List ℕ) → body (call_in (sent o e (world_of q s)) a)
        ≡ result_in outcome (sent o e (world_of q after)))
        → ActsQuietly (λ c. replies (body c) 0 c) s a Went new
    concluded body stays comes q o e =
        ap (λ r. replies r 0 (call_in (sent o e (world_of q s)) a)) (comes q o e)
        ∙ by outcome stays ∙ ap (λ x. done (went (sent o e (world_of q x)))) (sym is)
      where
        ended : Store → Tables → ℕ → Play FlatServed
        ended f t value = done (went (with_registers
            (sent o e (world_of q (record s { frames = f; table = t }))) a.thread
            (answered value)))

        by : (r : Result A ℕ) → OnErr r ((frames ≡ s.frames) × (table ≡ s.table))
            → replies (result_in r (sent o e (world_of q after))) 0
            (call_in (sent o e (world_of q s)) a) ≡ ended frames table (answer_by r)
        by (Ok x) h = refl
        by (Err number) h = ap (λ f. ended f s.table (minus number)) (sym h.0)
            ∙ ap (λ t. ended frames t (minus number)) (sym h.1)

    pub counted-concluded : IsCounted after → IsCounted new
    counted-concluded counted = subst IsCounted (sym is)
        (counted-thread_by after a.thread (registers_by (answered (answer_by outcome))) counted)

-- ---- another space

-- One process has another space, and as many uses came and went as entries.
module _ (s : State) (p : ℕ) (h : Holdings) (is : held_in s.table.processes p ≡ Some h)
    (f : Holdings → Holdings) (ends : (f h).descriptors ≡ h.descriptors)
    (counted : IsCounted s) where
  pub ends-space : AreCounted (held_by f s.table p).processes s.pipes
  ends-space = record {
    readers = λ pipe. omega (
      arith,
      counted.ends.readers pipe,
      sum_changed f (λ k. count_by (reads_pipe pipe) k.descriptors) s.table.processes p h is,
      ap (count_by (reads_pipe pipe)) ends,
    );
    writers = λ pipe. omega (
      arith,
      counted.ends.writers pipe,
      sum_changed f (λ k. count_by (writes_pipe pipe) k.descriptors) s.table.processes p h is,
      ap (count_by (writes_pipe pipe)) ends,
    );
    reader_counts = counted.ends.reader_counts;
    writer_counts = counted.ends.writer_counts;
  }

  pub counted-space : (frames : Store) (table : Tables) → table ≡ held_by f s.table p
      → HasAllHome frames → length frames.owners ≡ length s.frames.owners
      → ((frame : ℕ) → uses_at frames frame + entries_of h.space frame
      ≡ uses_at s.frames frame + entries_of (f h).space frame)
      → IsCounted (record s { frames = frames; table = table })
  counted-space frames table changes home count uses =
      subst (λ (t : Tables). IsCounted (record s { frames = frames; table = t })) (sym changes)
      (record {
        home = home;
        round = counted.round;
        room = omega (arith, count, counted.room);
        uses = λ q frame. omega (
          arith,
          uses frame,
          counted.uses q frame,
          sum_changed f (λ k. entries_of k.space frame) s.table.processes p h is,
        );
        ends = ends-space;
      })

-- each entry of a live process is a use
pub used-space : (s : State) (p : ℕ) (h : Holdings) → held_in s.table.processes p ≡ Some h
    → IsCounted s → AreUsed h.space s.frames
used-space s p h is counted frame =
    let none : entries_of [] frame ≡ 0 = refl in
    omega (
      arith,
      none,
      counted.uses 16 frame,
      sum_changed without_entries (λ k. entries_of k.space frame) s.table.processes p h is,
    )

-- ---- where a call is refused, nothing changes

pub where-ok : {A : Type 0} (outcome : Result A ℕ) (P Q : Type 0) → (P → Q) → OnOk outcome P
    → OnOk outcome Q
where-ok (Ok x) P Q f h = f h
where-ok (Err number) P Q f h = tt

pub same-in : {A : Type 0} (outcome : Result A ℕ) (v w : World) → OnOk outcome (v ≡ w)
    → result_in outcome v ≡ result_in outcome w
same-in (Ok x) v w h = ap (λ u. ok u) h
  where
    ok : World → Result World ℕ
    ok u = Ok u
same-in (Err number) v w h = refl

-- what is counted in either case
pub counted-either : {A : Type 0} (outcome : Result A ℕ) (s : State) (frames : Store)
    (table : Tables)
    → OnErr outcome ((frames ≡ s.frames) × (table ≡ s.table)) → IsCounted s
    → OnOk outcome (IsCounted (record s { frames = frames; table = table }))
    → IsCounted (record s { frames = frames; table = table })
counted-either (Ok x) s frames table stays counted changed = changed
counted-either (Err number) s frames table stays counted changed =
    subst (λ f. IsCounted (record s { frames = f; table = table })) (sym stays.0)
    (subst (λ t. IsCounted (record s { table = t })) (sym stays.1) counted)

-- ---- pages less

module _ (s : State) (a : Asked) (sound : IsSound s) (has : Has s a.process) (frames : Store)
    (table : Tables)
    (dropped : IsDropped
    (filter (in_pages (call_in (world_of 16 s) a)) (space_in s.table a.process)) s.frames frames)
    (changes : table ≡ held_by (without_pages (call_in (world_of 16 s) a)) s.table a.process) where
  abbrev call : Call
  call = call_in (world_of 16 s) a

  abbrev space : List (ℕ × Entry)
  space = has.holdings.space

  abbrev left : World
  left = with_holdings (world_of 16 s) a.process (without_pages call)

  counted : IsCounted s
  counted = sound.counted

  gone : IsDropped (filter (in_pages call) space) s.frames frames
  gone = subst (λ es. IsDropped (filter (in_pages call) es) s.frames frames) has.space dropped

  both : (frame : ℕ) → entries_of (filter (in_pages call) space) frame
      + entries_of (filter (stays_mapped call) space) frame ≡ entries_of space frame
  both frame = sum_by-filter_both (in_pages call) (stays_mapped call) (λ e. refl)
      (λ (e : ℕ × Entry). cond (e.1.frame == frame) 1 0) space

  pub counted-unmapped : IsCounted (record s { frames = frames; table = table })
  counted-unmapped =
      counted-space s a.process has.holdings has.is (without_pages call) refl counted frames table
      changes (record {
        home = home-dropped (filter (in_pages call) space) s.frames frames gone
            sound.counted.home.home;
        owners = gone.frames.count ∙ sound.counted.home.owners ∙ sym gone.page_count;
      })
      gone.frames.count (λ frame. omega (
        arith,
        gone.uses frame,
        both frame,
        used-space s a.process has.holdings has.is counted frame,
      ))

  uses-left : (frame : ℕ)
      → uses_at s.frames frame ≡ uses_of left frame
      + entries_of (filter (in_pages call) space) frame
  uses-left frame = omega (
    arith,
    counted.uses 16 frame,
    both frame,
    sum_changed (without_pages call) (λ k. entries_of k.space frame) s.table.processes a.process
        has.holdings has.is,
  )

  owners_is : frames.owners ≡ map_from 0 (owner_if_mapped left) s.frames.owners
  owners_is = owners-dropped left (filter (in_pages call) space) s.frames frames gone uses-left
      (unused_free s sound)

  bytes_is : bytes_if_mapped (is_mapped left) 0 s.frames.owners (joined s.frames.pages)
      ≡ joined frames.pages
  bytes_is = bytes-dropped left (filter (in_pages call) space) s.frames frames gone
      sound.counted.home.owners uses-left (unused_zero s sound)

  -- a pipe is open as before, and one that isn't is empty
  pipes_is : s.pipes.bytes ≡ map_from 0 (bytes_if_open left) s.pipes.bytes
  pipes_is = pipes_tidied [] s.pipes s.pipes left
      (dropped-none s.pipes has.holdings.descriptors (names_ends s a.process sound has))
      (lawful_now s sound).pipes.ranges.0
      (ends-space s a.process has.holdings has.is (without_pages call) refl counted)

  pub unmapped_is : (q : ℕ) (o e : List ℕ)
      → tidied (with_holdings (sent o e (world_of q s)) a.process (without_pages call))
      ≡ sent o e (world_of q (record s { frames = frames; table = table }))
  unmapped_is q o e =
      ap (λ bytes. shown bytes (map_from 0 (owner_if_mapped left) s.frames.owners)
      (held_by (without_pages call) s.table a.process)
      (map_from 0 (bytes_if_open left) s.pipes.bytes)) bytes_is
      ∙ ap (λ owners. shown (joined frames.pages) owners
      (held_by (without_pages call) s.table a.process)
      (map_from 0 (bytes_if_open left) s.pipes.bytes)) (sym owners_is)
      ∙ ap (λ pipes. shown (joined frames.pages) frames.owners
      (held_by (without_pages call) s.table a.process) pipes) (sym pipes_is)
      ∙ ap (λ T. shown (joined frames.pages) frames.owners T s.pipes.bytes) (sym changes)
    where
      shown : List ℕ → List Owner → Tables → List (List ℕ) → World
      shown bytes owners T pipes = record (sent o e (world_of q s)) {
        bytes = bytes;
        owners = owners;
        processes = T.processes;
        threads = T.threads;
        pipes = pipes;
      }

-- ---- pages shared

pub counted-shared : (s : State) (a : Asked) → IsSound s → Has s a.process → (table : Tables)
    → table ≡ held_by (with_shared (call_in (world_of 16 s) a)) s.table a.process
    → IsCounted (record s { table = table })
counted-shared s a sound has table changes =
    counted-space s a.process has.holdings has.is (with_shared (call_in (world_of 16 s) a)) refl
    sound.counted s.frames table changes sound.counted.home refl
    (λ frame. ap (λ n. uses_at s.frames frame + n)
    (sym (uses-mapped frame (shared_in_pages (call_in (world_of 16 s) a)) same_frame
    has.holdings.space)))
  where
    same_frame : (e : ℕ × Entry)
        → (shared_in_pages (call_in (world_of 16 s) a) e).1.frame ≡ e.1.frame
    same_frame e = by (in_pages (call_in (world_of 16 s) a) e)
      where
        by : (b : Bool) → (share_if b e.1).frame ≡ e.1.frame
        by true = refl
        by false = refl
