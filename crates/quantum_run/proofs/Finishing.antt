-- A pack that has run for so many instructions, in each world that it showed.
use Rattle.std.proofs.Common.{ℕ, zero, suc, ◌*◌, ◌/◌, ◌%◌, ◌≡◌, ◌⊎◌, inl, inr, refl, sym, ap, ◌∙◌}
use Rattle.std.proofs.Common.{Bool, true, false, List, [], ◌∷◌, length, map, get_or, slice_get}
use Rattle.std.proofs.Common.{is_some, Option, Some, None, option_map}
use Rattle.std.specs.Prelude.{slice_index_or}
use Rattle.dos_world.specs.Numbered.{numbered}
use Rattle.dos_world.specs.World.{World, Thread, Process, Registers, thread_at, owner_of, page_of}
use Rattle.dos_world.specs.World.{look, space_of}
use Rattle.dos_world.specs.declared.Entry.{Entry}
use Rattle.dos_world.specs.declared.Owner.{Owner}
use Rattle.dos_world.specs.declared.Owner.TheVariants.{Free, Shared, Of}
use Rattle.page_store.specs.Store.{whole, joined}
use Rattle.page_store.proofs.Joined.{length-joined}
use Rattle.flat_machine.specs.Laws.{AreAlike}
use Rattle.flat_machine.specs.Laws.{kept}
use Rattle.flat_machine.specs.Alone.{steps}
use Rattle.flat_machine.specs.Laws.{without_progress, DiffersInOwn}
use Rattle.written_words.specs.declared.Written.{Written}
use Rattle.quantum_run.specs.Pages.{is_here, overlay}
use Rattle.quantum_run.specs.Packs.{IsPacked, bytes_of_frame, paired}
use Rattle.quantum_run.specs.ThreadRuns.{IsRunOf, run_to, store_of}
use Rattle.dos_world.specs.World.{ran}
use Rattle.quantum_run.specs.Shows.{Pack, View, Shows, thread_space}
use Rattle.quantum_run.proofs.Alike.{steps-alike-all}
use Rattle.quantum_run.proofs.Overlay.{length-overlay}
use Rattle.flat_machine.proofs.Own.{steps-own}
use Rattle.quantum_run.proofs.Packing.{paired-at, paired-is, page-own, page-lent, byte-in-page}
use Rattle.quantum_run.proofs.Packing.{page-same, same-here, same-length}
use Rattle.flat_machine.proofs.Threads.{seen-changed}
use Rattle.quantum_run.proofs.Spaces.{entry-space}

-- a thread's space where its process and the processes are the same
space-same : (u w : World) (t : ℕ) → u.processes ≡ w.processes
    → option_map without_progress (thread_at u t) ≡ option_map without_progress (thread_at w t)
    → thread_space u t ≡ thread_space w t
space-same u w t ps ts = by_thread (thread_at u t) (thread_at w t) ts
    ∙ ap (λ x. elim (thread_at w t) as (λ _. List (ℕ × Entry)) [
      | None ↦ []
      | Some thread ↦ in_space x thread.process
    ]) ps
  where
    in_space : List Process → ℕ → List (ℕ × Entry)
    in_space x p = space_of (record w { processes = x }) p

    by_thread : (a b : Option Thread) → option_map without_progress a
        ≡ option_map without_progress b
        → (elim a as (λ _. List (ℕ × Entry)) [
          | None ↦ []
          | Some thread ↦ in_space u.processes thread.process
        ])
        ≡ (elim b as (λ _. List (ℕ × Entry)) [
          | None ↦ []
          | Some thread ↦ in_space u.processes thread.process
        ])
    by_thread None None q = refl
    by_thread None (Some y) q = cc
    by_thread (Some x) None q = cc
    by_thread (Some x) (Some y) q =
        let same : without_progress x ≡ without_progress y = cc in
        ap (λ (z : Thread). in_space u.processes z.process) same

pub Some-some : {a b : List (ℕ × Entry)}
    → ◌≡◌ {A = Option (Option (List (ℕ × Entry)))} (Some (Some a)) (Some (Some b)) → a ≡ b
Some-some q = cc

module _ (t pid : ℕ) (r : Registers) (budget : ℕ) (words : Option (List Written)) (held : List ℕ)
    (table lent : List (Option (List ℕ))) (capacity : ℕ) (owners : List Owner)
    (spaces : List (Option (List (ℕ × Entry)))) (entries : List (ℕ × Entry))
    (packed : IsPacked held table capacity) (level : length table ≡ length lent)
    (as_many : length owners ≡ length lent)
    (space : numbered spaces pid ≡ Some (Some entries))
    (owned : (i frame : ℕ) → slice_get held i ≡ Some frame
    → slice_index_or owners frame Free ≡ Of t)
    (after : List (Option (List ℕ))) (r' : Registers) (left n : ℕ)
    (same : map is_some after ≡ map is_some table)
    (ends : (u : World) → IsRunOf u (store_of owners (overlay table lent)) entries t r budget
    → steps n u t ≡ run_to u t (overlay after lent) r' left) where
  abbrev view : View
  view = record { owners = owners; pages = map (option_map whole) lent; spaces = spaces }

  abbrev before : Pack
  before = record {
    thread = t;
    process = pid;
    registers = r;
    budget = budget;
    pages =
        paired held table;
    room = length table;
    words = words;
  }

  abbrev now : Pack
  now = record {
    thread = t;
    process = pid;
    registers = r';
    budget = left;
    pages =
        paired held after;
    room = length after;
    words = words;
  }

  module _ (w : World) (shows : Shows before view w) where
    owner-is : (frame : ℕ) → owner_of w frame ≡ slice_index_or owners frame Free
    owner-is frame = ap (λ (os : List Owner). slice_index_or os frame Free) (sym shows.owners)

    abbrev u : World
    u = record w { bytes = joined (overlay table lent) }

    count-all : length (joined (overlay table lent)) ≡ length w.bytes
    count-all = length-joined (overlay table lent)
        ∙ ap (λ n. 4096 * n)
        (length-overlay table lent level ∙ level ∙ sym as_many ∙ ap length shows.owners)
        ∙ sym shows.count

    -- the bytes of an own frame are the pack's, and those of a Shared one the view's
    own-page : (frame : ℕ) → owner_of w frame ≡ Of t
        → page_of (joined (overlay table lent)) frame ≡ page_of w.bytes frame
    own-page frame mine =
        let a = shows.own.all frame mine in
        let p = paired-is held table a.0 frame (page_of w.bytes frame) a.1 in
        page-own table lent frame level (packed.here a.0 frame p.0) ∙ p.1

    lent-page : (frame : ℕ) → owner_of w frame ≡ Shared
        → page_of (joined (overlay table lent)) frame ≡ page_of w.bytes frame
    lent-page frame all =
        let h = home lent frame (page_of w.bytes frame) (shows.shared frame all) in
        page-lent table lent frame h.0 level (by_own (is_here table frame) refl) h.1 ∙ h.2
      where
        home : (pages : List (Option (List ℕ))) (f : ℕ) (page : List ℕ)
            → slice_get (map (option_map whole) pages) f ≡ Some (Some page)
            → (x : List ℕ) × (slice_get pages f ≡ Some (Some x)) × (whole x ≡ page)
        home [] f page h = cc
        home (None ∷ pages) zero page h = cc
        home (Some x ∷ pages) zero page h = (x, refl, cc)
        home (x ∷ pages) (suc f) page h = home pages f page h

        never : Of t ≡ Shared → ⊥
        never q = cc

        by_own : (b : Bool) → is_here table frame ≡ b → is_here table frame ≡ false
        by_own false e = e
        by_own true e = let a = packed.all frame e in
            absurd (never (sym (owned a.0 frame a.1) ∙ sym (owner-is frame) ∙ all))

    alike : AreAlike t w u
    alike = record {
      bytes = joined (overlay table lent);
      is = refl;
      count = count-all;
      mapped = λ a e has. shows.mapped (a / 4096) e (sym (entry-space w t a) ∙ has);
      kept = λ i sees. sym (byte-in-page (joined (overlay table lent)) i)
          ∙ ap (λ page. get_or page (i % 4096) 0) (by_owner (i / 4096) sees)
          ∙ byte-in-page w.bytes i;
    }
      where
        by_owner : (frame : ℕ) → (owner_of w frame ≡ Of t) ⊎ (owner_of w frame ≡ Shared)
            → page_of (joined (overlay table lent)) frame ≡ page_of w.bytes frame
        by_owner frame (inl mine) = own-page frame mine
        by_owner frame (inr all) = lent-page frame all

    run-of : IsRunOf u (store_of owners (overlay table lent)) entries t r budget
    run-of = record {
      bytes = refl;
      owners = sym shows.owners;
      space =
          Some-some (sym shows.space ∙ space);
      thread = shows.thread;
    }

    abbrev end : World
    end = steps n w t

    changed : DiffersInOwn t w end
    changed = steps-own n w t

    end-is : steps n u t ≡ run_to u t (overlay after lent) r' left
    end-is = ends u run-of

    alikes : AreAlike t end (steps n u t)
    alikes = steps-alike-all n t w u alike

    bytes-after : alikes.bytes ≡ joined (overlay after lent)
    bytes-after = sym (ap (λ (x : World). x.bytes) alikes.is) ∙ ap (λ (x : World). x.bytes) end-is

    thread-after : option_map kept (thread_at end t) ≡ Some (r', left)
    thread-after =
        ap (λ (x : World). option_map kept (thread_at x t)) (sym alikes.is ∙ end-is)
        ∙ seen-changed kept (ran r' left) w.threads t
        ∙ some-kept (thread_at w t) (r, budget) shows.thread
      where
        some-kept : (o : Option Thread) (k : Registers × ℕ) → option_map kept o ≡ Some k
            → option_map (λ x. kept (ran r' left x)) o ≡ Some (r', left)
        some-kept None k q = cc
        some-kept (Some x) k q = refl

    owner-after : (frame : ℕ) → owner_of end frame ≡ owner_of w frame
    owner-after frame = ap (λ (os : List Owner). slice_index_or os frame Free)
        changed.owners

    level-after : length after ≡ length lent
    level-after = same-length table after same ∙ level

    -- an own page, afterwards
    page-after : (i frame : ℕ) → slice_get held i ≡ Some frame → owner_of w frame ≡ Of t
        → bytes_of_frame after frame ≡ page_of end.bytes frame
    page-after i frame at mine =
        sym (page-own after lent frame level-after
        (same-here table after frame same ∙ packed.here i frame at))
        ∙ ap (λ bytes. page_of bytes frame) (sym bytes-after)
        ∙ page-same alikes.bytes end.bytes frame alikes.count
        (λ k is. alikes.kept k (inl (ap (owner_of end) is ∙ owner-after frame ∙ mine)))

    pub finished : Shows now view end
    finished =
        let spaces-same : thread_space end t ≡ thread_space w t =
        space-same end w t changed.processes changed.thread in
        record {
          owners = shows.owners ∙ sym changed.owners;
          thread = thread-after;
          space = shows.space ∙ ap (λ x. Some (Some x)) (sym spaces-same);
          count = changed.count ∙ shows.count
              ∙ ap (λ (os : List Owner). 4096 * length os) (sym changed.owners);
          mapped = λ page e has free.
              shows.mapped page e (ap (λ x. look x page) (sym spaces-same) ∙ has)
              (sym (owner-after e.frame) ∙ free);
          shared = λ frame all. shows.shared frame (sym (owner-after frame) ∙ all)
              ∙ ap (λ x. Some (Some x)) (shared-page frame (sym (owner-after frame) ∙ all));
          own = record {
            owner = λ i frame page at. let p = paired-is held after i frame page at in
                owner-after frame ∙ owner-is frame ∙ owned i frame p.0;
            bytes = λ i frame page at. let p = paired-is held after i frame page at in
                sym p.1 ∙ page-after i frame p.0 (owner-is frame ∙ owned i frame p.0);
            all = λ frame mine. let a = shows.own.all frame (sym (owner-after frame) ∙ mine) in
                let p = paired-is held table a.0 frame (page_of w.bytes frame) a.1 in (
                  a.0,
                  paired-at held after a.0 frame p.0
                      ∙ ap (λ x. Some (frame, x))
                      (page-after a.0 frame p.0 (sym (owner-after frame) ∙ mine)),
                );
            apart = λ i j frame page other a b.
                packed.apart i j frame (paired-is held after i frame page a).0
                (paired-is held after j frame other b).0;
          };
        }
      where
        shared≢own : Shared ≡ Of t → ⊥
        shared≢own q = cc

        shared-page : (frame : ℕ) → owner_of w frame ≡ Shared
            → page_of w.bytes frame ≡ page_of end.bytes frame
        shared-page frame all =
            page-same w.bytes end.bytes frame (sym changed.count)
            (λ k is. sym
            (changed.bytes k
            (λ mine. shared≢own (sym all ∙ ap (owner_of w) (sym is) ∙ mine))))
