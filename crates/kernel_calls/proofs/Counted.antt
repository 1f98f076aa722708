-- What changes of a state keep counted.
use Rattle.std.proofs.Common.{◌≡◌, ℕ, ◌+◌, ◌≤◌, Bool, zero, suc, List, [], ◌∷◌, map, length, Option}
use Rattle.std.proofs.Common.{Some, None, IsSome, refl, sym, ap, ◌∙◌, subst, arith}
use Rattle.std.specs.Prelude.{◌==◌, All, sum_by, count_by, slice_index}
use Rattle.std.proofs.lemmas.List.Sums.{sum_by-cons}
use Rattle.dos_world.specs.Counts.{reads_pipe, writes_pipe}
use Rattle.dos_world.specs.Numbered.{changed, changed_at}
use Rattle.dos_world.specs.World.{Process, Holdings, Thread, Sleeper, Life, all_holdings}
use Rattle.dos_world.specs.World.{holdings_of, live, ended, live_changed, on_holdings}
use Rattle.dos_world.specs.declared.End.{End}
use Rattle.dos_world.specs.declared.Entry.{Entry}
use Rattle.dos_laws.proofs.EndedProcesses.{before}
use Rattle.kernel_mem.specs.MemoryWorld.{HasAllHome, KeepsUses}
use Rattle.page_store.specs.Store.{Store}
use Rattle.proc_table.specs.Tables.{Tables, thread_by, held_by}
use Rattle.kernel_calls.specs.StateWorld.{IsCounted, ends_of}
use Rattle.kernel_calls.specs.declared.state.State.{State}

-- ---- the pages and descriptors of the live processes

-- what the kept numbers count of a process: its pages and its descriptors
abbrev pub counted_of : Holdings → List (ℕ × Entry) × List (Option End)
counted_of h = (h.space, h.descriptors)

abbrev pub all_counted : List Process → List (List (ℕ × Entry) × List (Option End))
all_counted processes = map counted_of (all_holdings processes)

-- a sum over what is counted alone is the same where that is
pub sum_counted : (f : List (ℕ × Entry) × List (Option End) → ℕ) (hs ks : List Holdings)
    → map counted_of ks ≡ map counted_of hs
    → sum_by (λ h. f (counted_of h)) ks ≡ sum_by (λ h. f (counted_of h)) hs
sum_counted f hs ks e = sym (sum_mapped ks) ∙ ap (sum_by f) e ∙ sum_mapped hs
  where
    sum_mapped : (hs : List Holdings)
        → sum_by f (map counted_of hs) ≡ sum_by (λ h. f (counted_of h)) hs
    sum_mapped [] = refl
    sum_mapped (h ∷ hs) = sum_by-cons f (counted_of h) (map counted_of hs)
        ∙ ap (λ n. f (counted_of h) + n) (sum_mapped hs)
        ∙ sym (sum_by-cons (λ k. f (counted_of k)) h hs)

-- ---- a state like one that is counted

-- What a state has in common with one before it: the round, the room of spaces, how many frames
-- there are and the uses of each, the ends of pipes, and the pages and descriptors of the live
-- processes. All its pages are home.
pub record IsCountedLike (old new : State) : Type 0 where
  pub home : HasAllHome new.frames
  pub round : new.round ≡ old.round
  pub room : new.table.room ≡ old.table.room
  pub frames : length new.frames.owners ≡ length old.frames.owners
  pub uses : new.frames.uses ≡ old.frames.uses
  pub readers : new.pipes.readers ≡ old.pipes.readers
  pub writers : new.pipes.writers ≡ old.pipes.writers
  pub processes : all_counted new.table.processes ≡ all_counted old.table.processes

-- it is counted
pub counted_like : (old new : State) → IsCountedLike old new → IsCounted old → IsCounted new
counted_like old new like counted = record {
  home = like.home;
  round = subst (λ n. 1 ≤ n) (sym like.round) counted.round;
  room = omega (arith, like.frames, like.room, counted.room);
  uses = λ q frame. ap (λ us. slice_index us frame) like.uses ∙ counted.uses q frame
      ∙ sym (sum_counted (λ c. count_by (λ e. e.1.frame == frame) c.0)
      (all_holdings old.table.processes) (all_holdings new.table.processes) like.processes);
  ends = record {
    readers = λ pipe. ap (λ ns. slice_index ns pipe) like.readers ∙ counted.ends.readers pipe
        ∙ sym (ends_like (reads_pipe pipe));
    writers = λ pipe. ap (λ ns. slice_index ns pipe) like.writers ∙ counted.ends.writers pipe
        ∙ sym (ends_like (writes_pipe pipe));
    reader_counts = ap length like.readers ∙ counted.ends.reader_counts;
    writer_counts = ap length like.writers ∙ counted.ends.writer_counts;
  };
}
  where
    ends_like : (test : Option End → Bool)
        → ends_of test new.table.processes ≡ ends_of test old.table.processes
    ends_like test = sum_counted (λ c. count_by test c.1)
        (all_holdings old.table.processes) (all_holdings new.table.processes) like.processes

-- ---- single changes

-- other threads
pub counted-threads : (s : State) (threads : List (Option Thread)) → IsCounted s
    → IsCounted (record s { table = record s.table { threads = threads } })
counted-threads s threads counted = record {
  home = counted.home;
  round = counted.round;
  room = counted.room;
  uses = counted.uses;
  ends = counted.ends;
}

-- other sleepers
pub counted-queue : (s : State) (queue : List Sleeper) → IsCounted s
    → IsCounted (record s { futexes = queue })
counted-queue s queue counted = record {
  home = counted.home;
  round = counted.round;
  room = counted.room;
  uses = counted.uses;
  ends = counted.ends;
}

-- a thread that is changed
pub counted-thread_by : (s : State) (t : ℕ) (f : Thread → Thread) → IsCounted s
    → IsCounted (record s { table = thread_by f s.table t })
counted-thread_by s t f counted =
    counted-threads s (thread_by f s.table t).threads counted

-- other owners of frames that stay in use
pub home_kept : (old new : Store) → KeepsUses old new → HasAllHome old → HasAllHome new
home_kept old new keeps home = record {
  home = subst (λ (ps : List (Option (List ℕ))). All IsSome ps) (sym keeps.pages) home.home;
  owners = keeps.frames.count ∙ home.owners ∙ ap length (sym keeps.pages);
}

pub counted-frames : (s : State) (frames : Store) → KeepsUses s.frames frames → IsCounted s
    → IsCounted (record s { frames = frames })
counted-frames s frames keeps counted = counted_like s (record s { frames = frames })
    (record {
      home = home_kept s.frames frames keeps counted.home;
      round = refl;
      room = refl;
      frames = keeps.frames.count;
      uses = keeps.uses;
      readers = refl;
      writers = refl;
      processes = refl;
    }) counted

-- a table with the same pages and descriptors
pub counted-table : (s new : State) (T : Tables) → IsCounted s → new ≡ record s { table = T }
    → all_counted T.processes ≡ all_counted s.table.processes → T.room ≡ s.table.room
    → IsCounted new
counted-table s new T counted is processes room = subst IsCounted (sym is)
    (counted_like s (record s { table = T }) (record {
      home = counted.home;
      round = refl;
      room = room;
      frames = refl;
      uses = refl;
      readers = refl;
      writers = refl;
      processes = processes;
    }) counted)

-- ---- what a process has beside its pages and descriptors

module _ (f : Holdings → Holdings) (same : (h : Holdings) → counted_of (f h) ≡ counted_of h) where
  one : (x : Process) (rest : List Holdings)
      → map counted_of (before (holdings_of (on_holdings f x)) rest)
      ≡ map counted_of (before (holdings_of x) rest)
  one x rest = by x.life
    where
      by : (life : Life)
          → map counted_of (before (holdings_of (record x { life = live_changed f life })) rest)
          ≡ map counted_of (before (holdings_of (record x { life = life })) rest)
      by (live h) = ap (λ c. c ∷ map counted_of rest) (same h)
      by (ended status collected) = refl

  others : (o : Option Holdings) (rest more : List Holdings)
      → map counted_of more ≡ map counted_of rest
      → map counted_of (before o more) ≡ map counted_of (before o rest)
  others None rest more e = e
  others (Some h) rest more e = ap (λ cs. counted_of h ∷ cs) e

  -- a change of it
  pub all_counted-changed : (ps : List Process) (p : ℕ)
      → all_counted (changed (on_holdings f) ps p) ≡ all_counted ps
  all_counted-changed ps zero = refl
  all_counted-changed ps (suc i) = at ps i
    where
      at : (ps : List Process) (i : ℕ)
          → all_counted (changed_at (on_holdings f) ps i) ≡ all_counted ps
      at [] i = refl
      at (x ∷ ps) zero = one x (all_holdings ps)
      at (x ∷ ps) (suc i) = others (holdings_of x) (all_holdings ps)
          (all_holdings (changed_at (on_holdings f) ps i)) (at ps i)

  pub counted-held_by : (s : State) (p : ℕ) → IsCounted s
      → IsCounted (record s { table = held_by f s.table p })
  counted-held_by s p counted = counted-table s (record s { table = held_by f s.table p })
      (held_by f s.table p) counted refl (all_counted-changed s.table.processes p) refl
