-- What a sound state gives, and what changes of a state keep it sound.
use Rattle.std.proofs.Common.{◌≡◌, ℕ, ◌+◌, ◌-◌, ◌*◌, ◌≤◌, true, List, length, Option, Some, None}
use Rattle.std.proofs.Common.{IsSome}
use Rattle.std.proofs.Common.{IfSome, option_map, refl, sym, ap, ◌∙◌, subst, arith}
use Rattle.std.specs.Prelude.{All, IsFalse, ◌↔◌, slice_index_or}
use Rattle.dos_world.specs.World.{World, Thread, Sleeper, Registers, is_free}
use Rattle.dos_world.specs.Services.{charged}
use Rattle.dos_world.specs.Lawful.{Lawful, IsThread as InRange, IsByte}
use Rattle.dos_world.specs.Counts.{is_mapped}
use Rattle.dos_world.specs.declared.Owner.{Owner}
use Rattle.dos_world.specs.declared.ThreadState.TheVariants.{Ready}
use Rattle.dos_world.specs.declared.Owner.TheVariants.{Free, Shared, Of}
use Rattle.dos_laws.proofs.Numbers.{changed_there}
use Rattle.dos_laws.proofs.RegisterRanges.{charged_change}
use Rattle.dos_laws.proofs.Threads.{lawful-with_thread}
use Rattle.dos_laws.proofs.Frames.{AreOwned, lawful-with_frames}
use Rattle.dos_laws.proofs.Mapped.{entry_taken, not_free}
use Rattle.dos_laws.proofs.Outside.{lawful-counted}
use Rattle.kernel_objects.specs.Pipework.{Pipework}
use Rattle.page_store.specs.Store.{Store, joined}
use Rattle.proc_table.specs.Tables.{Tables, IsLiveThread, IsProcess, thread_in, thread_by, ran}
use Rattle.kernel_mem.specs.MemoryWorld.{IsCaller, NamesUsedFrames, KeepsUses}
use Rattle.kernel_calls.specs.StateWorld.{IsCounted, IsReady, IsSound, StandsButOwners, world_of}
use Rattle.kernel_calls.specs.CallResults.{AreAsked}
use Rattle.kernel_calls.specs.declared.state.State.{State}
use Rattle.kernel_calls.specs.declared.state.Asked.{Asked}
use Rattle.kernel_calls.proofs.Changed.{lives_changed, charge_taken_back}
use Rattle.kernel_calls.proofs.Counted.{all_counted, counted_like, counted-thread_by}

-- ---- what a sound state gives

-- the world at one quantum, for what doesn't depend on it
pub lawful_now : (s : State) → IsSound s → Lawful (world_of 16 s)
lawful_now s sound = sound.lawful 16 (omega arith) (omega arith)

module _ (s : State) (sound : IsSound s) where
  now : Lawful (world_of 16 s)
  now = lawful_now s sound

  -- the process of a live thread lives
  pub caller : (t : ℕ) → IsLiveThread s.table.threads t → IsCaller s.table t
  caller t live = record {
    thread = live;
    process =
        by (thread_in s.table.threads t) (now.threads.ranges t);
  }
    where
      by : (o : Option Thread) → IfSome o (InRange s.table.processes)
          → IfSome o (λ thread. IsProcess s.table.processes thread.process)
      by None h = tt
      by (Some thread) h = h.process

  pub process_alive : (t p : ℕ) → IsLiveThread s.table.threads t
      → IfSome (thread_in s.table.threads t) (λ thread. p ≡ thread.process)
      → IsProcess s.table.processes p
  process_alive t p live own = by (thread_in s.table.threads t) live own (caller t live).process
    where
      by : (o : Option Thread) → IsSome o → IfSome o (λ thread. p ≡ thread.process)
          → IfSome o (λ thread. IsProcess s.table.processes thread.process)
          → IsProcess s.table.processes p
      by None live e h = cc
      by (Some thread) live e h = subst (λ n. IsProcess s.table.processes n) (sym e) h

  -- what an entry names isn't Free
  pub mapped : (t : ℕ) → NamesUsedFrames s.table s.frames t
  mapped t address e found =
      not_free (slice_index_or s.frames.owners e.frame Free)
      (entry_taken (world_of 16 s) t address e now found).owner

-- ---- what changes keep

-- what a service costs
pub sound-charged : (s : State) (t : ℕ) → IsSound s
    → IsSound (record s { table = thread_by charged s.table t })
sound-charged s t sound = record {
  counted = counted-thread_by s t charged sound.counted;
  lawful = λ q low high.
      lawful-with_thread charged charged_change (world_of q s) t (sound.lawful q low high);
}

-- a round more
pub sound-counted : (s : State) → s.round ≤ 1000000 → IsSound s
    → IsSound (record s { round = s.round + 1 })
sound-counted s h sound =
    let k = sound.counted in
    let same : s.round - 1 + 1 ≡ s.round + 1 - 1 = omega (arith, k.round) in
    record {
      counted = record {
        home = k.home;
        round = omega arith;
        room = k.room;
        uses = k.uses;
        ends = k.ends;
      };
      lawful = λ q low high. subst (λ n. Lawful (record (world_of q s) { rounds = n })) same
          (lawful-counted (world_of q s) (omega (arith, k.round)) (sound.lawful q low high));
    }

-- ---- where all stands but owners

module _ (s new : State) (stood : StandsButOwners s new) (round : new.round ≡ s.round) where
  pub counted-stands : IsCounted s → IsCounted new
  counted-stands counted = counted_like s new (record {
    home = record {
      home = subst (λ (ps : List (Option (List ℕ))). All IsSome ps)
          (sym stood.frames.pages) counted.home.home;
      owners = stood.frames.frames.count ∙ counted.home.owners ∙ ap length (sym stood.frames.pages);
    };
    round = round;
    room = ap (λ (T : Tables). T.room) stood.table;
    frames = stood.frames.frames.count;
    uses = stood.frames.uses;
    readers = ap (λ (x : Pipework). x.readers) stood.pipes;
    writers = ap (λ (x : Pipework). x.writers) stood.pipes;
    processes = ap (λ (T : Tables). all_counted T.processes) stood.table;
  }) counted

  free_by : (o p : Owner) → is_free o ≡ is_free p → (o ≡ Free) → (p ≡ Free)
  free_by o Free e h = refl
  free_by o Shared e h = let no : is_free o ≡ true = ap is_free h in cc
  free_by o (Of t) e h = let no : is_free o ≡ true = ap is_free h in cc

  owned : (q : ℕ) → Lawful (world_of q s)
      → AreOwned (world_of q s) new.frames.owners (joined new.frames.pages)
  owned q l = record {
    places = stood.frames.frames.count;
    count = ap (λ ps. length (joined ps)) stood.frames.pages;
    range = subst (λ (ps : List (Option (List ℕ))). All IsByte (joined ps))
        (sym stood.frames.pages) l.frames.bytes.1;
    free = λ frame lt.
        let o : Owner = slice_index_or new.frames.owners frame Free in
        let p : Owner = slice_index_or s.frames.owners frame Free in
        let was : (p ≡ Free) ↔ IsFalse (is_mapped (world_of q s) frame) = l.frames.free frame lt
        in (
          (λ h. was.0 (free_by o p (stood.frames.used frame) h)),
          (λ h. free_by p o (sym (stood.frames.used frame)) (was.1 h)),
        );
    zeros = λ frame offset h within.
        ap (λ (ps : List (Option (List ℕ))). slice_index_or (joined ps) (4096 * frame + offset) 0)
        stood.frames.pages
        ∙ l.frames.zeros frame offset
        (free_by (slice_index_or new.frames.owners frame Free)
        (slice_index_or s.frames.owners frame Free) (stood.frames.used frame) h) within;
    owned = λ frame t h. l.frames.owned frame t (stood.frames.owned frame t h);
  }

  -- the world with the new state's frames, and with this beside them
  abbrev beside : ℕ → Tables → Pipework → List Sleeper → ℕ → World
  beside q table pipes futexes n =
      world_of q (record new { table = table; pipes = pipes; futexes = futexes; round = n })

  world-stands : (q : ℕ) → beside q s.table s.pipes s.futexes s.round ≡ world_of q new
  world-stands q =
      ap (λ T. beside q T s.pipes s.futexes s.round) (sym stood.table)
      ∙ ap (λ (x : Pipework). beside q new.table x s.futexes s.round) (sym stood.pipes)
      ∙ ap (λ sleepers. beside q new.table new.pipes sleepers s.round) (sym stood.futexes)
      ∙ ap (λ n. beside q new.table new.pipes new.futexes n) (sym round)

  pub sound-stands : IsSound s → IsSound new
  sound-stands sound = record {
    counted = counted-stands sound.counted;
    lawful = λ q low high. let l = sound.lawful q low high in
        subst Lawful (world-stands q)
        (lawful-with_frames (world_of q s) new.frames.owners (joined new.frames.pages) (owned q l)
        l);
  }

-- ---- a call that is paid for

pub asked_charged : (s : State) (a : Asked) → IsLiveThread s.table.threads a.thread
    → IsReady s.table.threads a.thread
    → IfSome (thread_in s.table.threads a.thread) (λ thread. a.process ≡ thread.process)
    → AreAsked (record s { table = thread_by charged s.table a.thread }) a
asked_charged s a live ready process = record {
  live = lives_changed charged s.table.threads a.thread live;
  ready = subst (λ o. IfSome o (λ (thread : Thread). thread.state ≡ Ready))
      (sym (changed_there charged s.table.threads a.thread))
      (still (thread_in s.table.threads a.thread) ready);
  process = subst (λ o. IfSome o (λ (thread : Thread). a.process ≡ thread.process))
      (sym (changed_there charged s.table.threads a.thread))
      (own (thread_in s.table.threads a.thread) process);
}
  where
    own : (o : Option Thread) → IfSome o (λ thread. a.process ≡ thread.process)
        → IfSome (option_map charged o) (λ thread. a.process ≡ thread.process)
    own None h = tt
    own (Some thread) h = h

    still : (o : Option Thread) → IfSome o (λ thread. thread.state ≡ Ready)
        → IfSome (option_map charged o) (λ thread. thread.state ≡ Ready)
    still None h = tt
    still (Some thread) h = h

-- What stood after the call was paid for stands, once the thread has its registers and its budget
-- again.
pub stands-restored : (s paid after new : State) (t budget : ℕ) (r : Registers)
    → IfSome (thread_in s.table.threads t) (λ thread. r ≡ thread.registers)
    → IfSome (thread_in s.table.threads t) (λ thread. budget ≡ thread.budget)
    → paid ≡ record s { table = thread_by charged s.table t } → StandsButOwners paid after
    → new ≡ record after { table = thread_by (ran r budget) after.table t } → StandsButOwners s new
stands-restored s paid after new t budget r registers left paid_is stood is = record {
  table = ap (λ (x : State). x.table) is
      ∙ ap (λ T. thread_by (ran r budget) T t) (stood.table ∙ ap (λ (x : State). x.table) paid_is)
      ∙ charge_taken_back s.table t budget r registers left;
  frames = subst (λ (f : Store). KeepsUses s.frames f) (sym (ap (λ (x : State). x.frames) is))
      (subst (λ (f : Store). KeepsUses f after.frames)
      (ap (λ (x : State). x.frames) paid_is) stood.frames);
  pipes = ap (λ (x : State). x.pipes) is ∙ stood.pipes ∙ ap (λ (x : State). x.pipes) paid_is;
  futexes = ap (λ (x : State). x.futexes) is ∙ stood.futexes
      ∙ ap (λ (x : State). x.futexes) paid_is;
}
