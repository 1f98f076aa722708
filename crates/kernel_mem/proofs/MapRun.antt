-- Fresh pages, one after another.
use Rattle.std.proofs.Common.{◌≡◌, ℕ, zero, suc, ◌+◌, ◌-◌, ◌<◌, ◌≤◌, Bool, true, false, List}
use Rattle.std.proofs.Common.{length, length-set, Option, Some, None, refl, sym, ap, ap₂, subst}
use Rattle.std.proofs.Common.{◌∙◌, arith}
use Rattle.std.specs.Prelude.{◌||◌, is_some, position}
use Rattle.std.proofs.lemmas.List.Quantifiers.{position-Some}
use Rattle.dos_world.specs.Numbered.{run_of}
use Rattle.dos_world.specs.World.{World, is_free, look}
use Rattle.dos_world.specs.Kernel.{put, with_entry}
use Rattle.dos_world.specs.Calls.{Call}
use Rattle.dos_world.specs.MemoryCalls.{mapped_fresh, page_mapped, private_entry}
use Rattle.dos_world.specs.declared.Entry.{Entry}
use Rattle.dos_world.specs.declared.Owner.TheVariants.{Free, Of}
use Rattle.page_store.specs.Store.{IsUnused, KeepsFrames, Store, free_count, uses_at, with_owned}
use Rattle.page_store.proofs.Kept.{frames-same}
use Rattle.page_store.proofs.Counts.{count_by-taken}
use Rattle.proc_table.specs.Tables.{IsProcess, Tables, entry_replaced, held_by, run_put}
use Rattle.kernel_mem.specs.Memory.{HasUsesOf, entries_of}
use Rattle.kernel_mem.specs.Ranges.{maps_any, range_call}
use Rattle.kernel_mem.specs.MemoryWorld.{in_world, space_in, HasAllHome}
use Rattle.kernel_mem.proofs.Copies.{first_use}
use Rattle.kernel_mem.specs.Forking.{with_space}
use Rattle.kernel_mem.proofs.Mapping.{page_step}
use Rattle.kernel_mem.proofs.Putting.{put-entries, put-other, replaced-first, run-mapped}
use Rattle.space_map.specs.Mapping.{IsMapped, put_run, with_replaced}
use Rattle.kernel_mem.proofs.Loops.{own-space, space-changed, still-live, table-changed}

-- ---- the flat world

pub mapped-snoc : (c : Call) (w : World) (page i : ℕ)
    → mapped_fresh c w (run_of page (i + 1)) ≡ page_mapped c.thread c.process c.a2
    (mapped_fresh c w (run_of page i)) (page + i)
mapped-snoc c w page i = let one : i + 1 ≡ suc i = omega arith in
    ap (λ n. mapped_fresh c w (run_of page n)) one ∙ at w page i
  where
    at : (w : World) (page i : ℕ)
        → mapped_fresh c w (run_of page (suc i)) ≡ page_mapped c.thread c.process c.a2
        (mapped_fresh c w (run_of page i)) (page + i)
    at w page zero = let same : page ≡ page + 0 = omega arith in
        ap (page_mapped c.thread c.process c.a2 w) same
    at w page (suc i) = let same : suc page + i ≡ page + suc i = omega arith in
        at (page_mapped c.thread c.process c.a2 w page) (suc page) i
        ∙ ap (page_mapped c.thread c.process c.a2 (mapped_fresh c w (run_of page (suc i)))) same

-- where none of a run is mapped, each isn't
pub none_mapped : (es : List (ℕ × Entry)) (page count k : ℕ) → maps_any es page count ≡ false
    → k < count → look es (page + k) ≡ None
none_mapped es page count k none h = no (look es (page + k)) (at page count k none h)
  where
    no : (o : Option Entry) → is_some o ≡ false → o ≡ None
    no None e = refl
    no (Some x) e = cc

    first : (a b : Bool) → (a || b) ≡ false → a ≡ false
    first true b e = cc
    first false b e = refl

    rest : (a b : Bool) → (a || b) ≡ false → b ≡ false
    rest true b e = cc
    rest false b e = e

    at : (page count k : ℕ) → maps_any es page count ≡ false → k < count
        → is_some (look es (page + k)) ≡ false
    at page zero k none h = absurd (omega arith)
    at page (suc count) zero none h = ap (λ p. is_some (look es p)) (omega arith)
        ∙ first (is_some (look es page)) (maps_any es (suc page) count) none
    at page (suc count) (suc k) none h = ap (λ p. is_some (look es p)) (omega arith)
        ∙ at (suc page) count k (rest (is_some (look es page)) (maps_any es (suc page) count) none)
        (omega arith)

-- ---- how far it has come

pub record IsMapping (s0 : Store) (old_table : Tables) (t p page rights count i : ℕ) (s : Store)
    (T : Tables) : Type 0 where
  pub maps : (w : World) (address pages : ℕ)
      → mapped_fresh (range_call (in_world w s0 old_table) t p address pages rights)
      (in_world w s0 old_table)
      (run_of page i) ≡ in_world w s T
  pub table : T ≡ held_by (with_space (space_in T p)) old_table p
  pub home : HasAllHome s
  pub live : IsProcess T.processes p
  pub fresh : (k : ℕ) → i ≤ k → k < count → look (space_in T p) (page + k) ≡ None
  pub room : T.room ≡ old_table.room
  pub frames : KeepsFrames s0 s
  pub free : free_count s + i ≡ free_count s0
  pub uses : HasUsesOf (space_in old_table p) s0 (space_in T p) s

mapping-none : (s : Store) (T : Tables) (t p page rights count : ℕ) → HasAllHome s
    → IsProcess T.processes p → maps_any (space_in T p) page count ≡ false
    → IsMapping s T t p page rights count 0 s T
mapping-none s T t p page rights count home live none = record {
  maps = λ w address pages. refl;
  table = own-space T p;
  home = home;
  live = live;
  fresh = λ k low h. none_mapped (space_in T p) page count k none h;
  room = refl;
  frames = frames-same s;
  free = omega arith;
  uses = λ f. refl;
}

mapping-more : {s0 s s1 : Store} {old_table T next_table : Tables}
    {t p page rights count i frame : ℕ}
    → IsMapping s0 old_table t p page rights count i s T → position is_free s.owners ≡ Some frame
    → s1 ≡ with_owned s frame t
    → next_table ≡ held_by (with_entry (page + i) (private_entry frame rights)) T p
    → ((w : World) → in_world w s1 next_table ≡ page_mapped t p rights (in_world w s T) (page + i))
    → HasAllHome s1 → IsUnused s frame
    → IsMapping s0 old_table t p page rights count (i + 1) s1 next_table
mapping-more {s0} {s} {s1} {old_table} {T} {next_table} {t} {p} {page} {rights} {count} {i} {frame}
    so_far found frames table one home unused =
    let entry : Entry = private_entry frame rights in
    let space : space_in next_table p ≡ put (page + i) entry (space_in T p) =
    space-changed (put (page + i) entry) T next_table p so_far.live table in
    let at = position-Some is_free s.owners frame Free found in
    record {
      maps = λ w address pages.
          mapped-snoc (range_call (in_world w s0 old_table) t p address pages rights)
          (in_world w s0 old_table) page i
          ∙ ap (λ v. page_mapped t p rights v (page + i)) (so_far.maps w address pages)
          ∙ sym (one w);
      table = table-changed (put (page + i) entry) T next_table old_table p (space_in T p)
          so_far.table table
          ∙ ap (λ es. held_by (with_space es) old_table p) (sym space);
      home = home;
      live = still-live (with_entry (page + i) entry) next_table T p table so_far.live;
      fresh = λ k low h. ap (λ es. look es (page + k)) space
          ∙ put-other (page + i) entry (space_in T p) (page + k) (λ e. absurd (omega arith))
          ∙ so_far.fresh k (omega arith) h;
      room = ap (λ (x : Tables). x.room) table ∙ so_far.room;
      frames = record {
        count = ap (λ (x : Store). length x.owners) frames ∙ length-set s.owners frame (Of t)
            ∙ so_far.frames.count;
        marked = ap (λ (x : Store). x.marked) frames ∙ so_far.frames.marked;
      };
      free = omega (
        arith,
        so_far.free,
        ap (λ (x : Store). free_count x) frames,
        count_by-taken s.owners frame (Of t) at.0 at.1 refl,
      );
      uses = λ f. omega (
        arith,
        so_far.uses f,
        ap (λ (x : Store). uses_at x f) frames,
        first_use s.uses frame f unused.within unused.none,
        ap (λ es. entries_of es f) space,
        put-entries (page + i) entry (space_in T p) f,
      );
    }

-- ---- all entries stand, and get their frames

-- How far the table has come, and how it would be if only the pages were mapped that have their
-- frames. The entries of the others stand behind those, with no frame of their own.
pub record IsFilling (s0 : Store) (old_table : Tables) (t p page rights count i : ℕ) (s : Store)
    (T : Tables) : Type 0 where
  pub filled : Tables
  pub mapping : IsMapping s0 old_table t p page rights count i s filled
  pub stands : T ≡ held_by (with_space (put_run (page + i) (count - i) (private_entry 0 rights)
      (space_in filled p))) old_table p

pub filling-none : {s : Store} {old_table T : Tables} (t p page rights count : ℕ) {entry : Entry}
    → HasAllHome s → IsProcess old_table.processes p
    → maps_any (space_in old_table p) page count ≡ false → entry ≡ private_entry 0 rights
    → T ≡ held_by (run_put page count entry) old_table p
    → IsFilling s old_table t p page rights count 0 s T
filling-none {s} {old_table} {T} t p page rights count {entry} home live none blank table =
    let first : page ≡ page + 0 = omega arith in
    let all : count ≡ count - 0 = omega arith in
    record {
      filled = old_table;
      mapping = mapping-none s old_table t p page rights count home live none;
      stands = table-changed (put_run page count entry) old_table T old_table p
          (space_in old_table p) (own-space old_table p) table
          ∙ ap (λ es. held_by (with_space es) old_table p)
          (ap (λ e. put_run page count e (space_in old_table p)) blank
          ∙ ap₂ (λ a n. put_run a n (private_entry 0 rights) (space_in old_table p)) first all);
    }

module _ {s0 s : Store} {old_table T : Tables} {t p page rights count i : ℕ}
    (alive : IsProcess old_table.processes p)
    (so_far : IsFilling s0 old_table t p page rights count i s T) where
  pub filling-lives : IsProcess T.processes p
  filling-lives = still-live (with_space (put_run (page + i) (count - i) (private_entry 0 rights)
      (space_in so_far.filled p))) T old_table p so_far.stands alive

  pub filling-mapped : i < count → IsMapped (space_in T p) (page + i)
  filling-mapped h =
      let more : count - i ≡ suc (count - (i + 1)) = omega arith in
      subst (λ es. IsMapped es (page + i))
      (sym (space-changed (λ _. put_run (page + i) (count - i) (private_entry 0 rights)
      (space_in so_far.filled p)) old_table T p alive so_far.stands
      ∙ ap (λ n. put_run (page + i) n (private_entry 0 rights) (space_in so_far.filled p)) more))
      (run-mapped (page + i) (count - (i + 1)) (private_entry 0 rights) (space_in so_far.filled p))

  -- with all frames it is as if the pages had been mapped one after another
  pub filling-ends : i ≡ count → IsMapping s0 old_table t p page rights count count s T
  filling-ends end =
      let none : count - i ≡ 0 = omega arith in
      let all : T ≡ so_far.filled =
      so_far.stands
      ∙ ap (λ n. held_by (with_space (put_run (page + i) n (private_entry 0 rights)
      (space_in so_far.filled p))) old_table p) none
      ∙ sym so_far.mapping.table in
      subst (λ n. IsMapping s0 old_table t p page rights count n s T) end
      (subst (λ U. IsMapping s0 old_table t p page rights count i s U) (sym all) so_far.mapping)

  pub filling-more : {s1 : Store} {next_table : Tables} {frame : ℕ} → i < count
      → position is_free s.owners ≡ Some frame → s1 ≡ with_owned s frame t
      → next_table ≡ held_by (entry_replaced (page + i) (private_entry frame rights)) T p
      → HasAllHome s1 → IsUnused s frame
      → IsFilling s0 old_table t p page rights count (i + 1) s1 next_table
  filling-more {s1} {next_table} {frame} h found frames table home unused =
      let entry : Entry = private_entry frame rights in
      let space : List (ℕ × Entry) = space_in so_far.filled p in
      let next : Tables = held_by (with_entry (page + i) entry) so_far.filled p in
      let more : count - i ≡ suc (count - (i + 1)) = omega arith in
      let behind : suc (page + i) ≡ page + (i + 1) = omega arith in
      let one : (w : World) → in_world w s1 next
      ≡ page_mapped t p rights (in_world w s so_far.filled) (page + i) =
      λ w. ap (λ x. in_world w x next) frames
      ∙ page_step w s so_far.filled t p rights (page + i) frame (sym found) in
      record {
        filled = next;
        mapping = mapping-more so_far.mapping found frames refl one home unused;
        stands = table-changed (with_replaced (page + i) entry) T next_table old_table p
            (put_run (page + i) (count - i) (private_entry 0 rights) space) so_far.stands table
            ∙ ap (λ es. held_by (with_space es) old_table p)
            (ap (λ n. with_replaced (page + i) entry
            (put_run (page + i) n (private_entry 0 rights) space)) more
            ∙ replaced-first (page + i) (count - (i + 1)) entry (private_entry 0 rights) space
            (so_far.mapping.fresh i (omega arith) h)
            ∙ ap₂ (λ a es. put_run a (count - (i + 1)) (private_entry 0 rights) es) behind
            (sym (space-changed (put (page + i) entry) so_far.filled next p so_far.mapping.live
            refl)));
      }
