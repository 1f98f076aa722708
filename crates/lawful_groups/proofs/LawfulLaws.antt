-- A group whose fields fit, and whose parts agree, is in a lawful world.
use Rattle.std.proofs.Common.{◌≡◌, ◌≢◌, ℕ, zero, suc, ◌+◌, ◌*◌, ◌<◌, ◌≤◌}
use Rattle.std.proofs.Common.{List, [], ◌∷◌, ◌++◌, length, map, refl, sym, ap, subst, ◌∙◌, arith}
use Rattle.std.proofs.Common.{Option, Some, None}
use Rattle.std.specs.Prelude.{All, AllPairs, IfSome, IsTrue, filter, flat_map, replicate, is_some}
use Rattle.std.specs.Prelude.{slice_index, slice_index_or}
use Rattle.std.proofs.lemmas.List.{length-append, length-replicate, length-map, get_or_default}
use Rattle.std.proofs.lemmas.List.{get_or-replicate, get_or_append_left}
use Rattle.std.proofs.lemmas.List.{get_or-append-add}
use Rattle.std.proofs.lemmas.List.Concat.{flat_map-cons}
use Rattle.std.proofs.lemmas.List.Elements.{All-nil, All-cons, All-head, All-tail, All-append}
use Rattle.dos_world.specs.World.{Process, Life, live, ended, Holdings, Thread}
use Rattle.dos_world.specs.World.{all_holdings, thread_at, live_threads}
use Rattle.dos_world.specs.World.{live_process}
use Rattle.dos_world.specs.Lawful.{Lawful, IsByte, IsThread, AreHoldings, HasStatus, IsSleeper}
use Rattle.dos_world.specs.Lawful.{IsPipe}
use Rattle.dos_world.specs.declared.Owner.{Owner}
use Rattle.dos_world.specs.declared.Owner.TheVariants.{Free, Shared, Of}
use Rattle.proc_table.specs.Spread.{live_in, AreRising}
use Rattle.proc_table.proofs.Spread.{spread_at, spread_length, numbers_spread, kept_all}
use Rattle.text_fields.specs.Formats.{AreBytes}
use Rattle.group_text.specs.Groups.{SavedGroup, world_in, page_in}
use Rattle.group_text.specs.GroupText as row
use Rattle.lawful_groups.specs.Agreeing.{PartsAgree}
use Rattle.lawful_groups.proofs.ThreadLaws.{all_in_yes}
use Rattle.lawful_groups.proofs.RangeLaws.{in_range, many_all, many_count, threads_range}
use Rattle.lawful_groups.proofs.RangeLaws.{ThreadInRange}
use Rattle.lawful_groups.proofs.RangeLaws.{holdings_range, live_range, status_range, sleeper_range}
use Rattle.lawful_groups.proofs.RangeLaws.{pipe_bytes_range}

-- ---- processes

abbrev Apart : Holdings → Type 0
Apart h = AllPairs (λ a b. a.1.frame ≢ b.1.frame) h.space

module _ (frames processes : ℕ) (some : 0 < frames) where
  abbrev ProcessFits : Process → Type 0
  ProcessFits p = (row.process_row frames processes).Fits p

  holdings_all : (ps : List Process) → All ProcessFits ps → All Apart (all_holdings ps)
      → All (AreHoldings frames) (all_holdings ps)
  holdings_all [] fits apart = All-nil (AreHoldings frames)
  holdings_all (p ∷ ps) fits apart =
      go (λ a. holdings_all ps (All-tail ProcessFits p ps fits) a) p.life refl
    where
      here : ProcessFits p
      here = All-head ProcessFits p ps fits

      go : (All Apart (all_holdings ps) → All (AreHoldings frames) (all_holdings ps))
          → (life : Life) → p.life ≡ life → All (AreHoldings frames) (all_holdings (p ∷ ps))
      go rest (live h) e =
          let are : all_holdings (p ∷ ps) ≡ h ∷ all_holdings ps = rw e refl in
          let a : All Apart (h ∷ all_holdings ps) = subst (All Apart) are apart in
          subst (All (AreHoldings frames)) (sym are)
          (All-cons (AreHoldings frames) h (all_holdings ps)
          (holdings_range frames h some (live_range frames p.life here.0.1 h e)
          (All-head Apart h (all_holdings ps) a)) (rest (All-tail Apart h (all_holdings ps) a)))
      go rest (ended s c) e =
          let are : all_holdings (p ∷ ps) ≡ all_holdings ps = rw e refl in
          subst (All (AreHoldings frames)) (sym are) (rest (subst (All Apart) are apart))

  status_one : (p : Process) → ProcessFits p → HasStatus p
  status_one p fits = go p.life refl (status_range frames p.life fits.0.1)
    where
      go : (life : Life) → p.life ≡ life → row.status_of_life p.life < 256 → HasStatus p
      go (live h) e lt = rw e (omega arith)
      go (ended s c) e lt =
          let z : row.status_of_life p.life ≡ s = ap row.status_of_life e in
          rw e (omega (arith, z, lt))

-- ---- frames

module _ (given : ℕ) where
  abbrev FrameFits : Owner × List ℕ → Type 0
  FrameFits f = (row.frame_row given).Fits f

  -- 4096 bytes, and an owner whose number was given
  abbrev FrameInRange : Owner × List ℕ → Type 0
  FrameInRange f = (length (page_in f) ≡ 4096) × All IsByte (page_in f)
      × ((t : ℕ) → f.0 ≡ Of t → (1 ≤ t) × (t ≤ given))

  bytes_all : (xs : List ℕ) → AreBytes xs → All IsByte xs
  bytes_all xs fits k d lt = subst (λ n. n < 256) (get_or_default xs k 0 d lt) (fits k)

  zeros_all : (n : ℕ) → All IsByte (replicate n 0)
  zeros_all zero = All-nil IsByte
  zeros_all (suc n) = All-cons IsByte 0 (replicate n 0) (omega arith) (zeros_all n)

  frame_range : (o : Owner) (page : List ℕ) → FrameFits (o, page) → FrameInRange (o, page)
  frame_range Free page fits = (
    length-replicate {A = ℕ} 4096 0,
    zeros_all 4096,
    λ t e. absurd (grind (arith, e)),
  )
  frame_range Shared page fits = (
    fits.1.0.1.0,
    bytes_all page fits.1.0.1.1,
    λ t e. absurd (grind (arith, e)),
  )
  frame_range (Of s) page fits = (
    fits.1.0.1.0,
    bytes_all page fits.1.0.1.1,
    λ t e. let same : s ≡ t = cc in
        subst (λ n. (1 ≤ n) × (n ≤ given)) same (in_range 1 given s fits.1.0.0.1),
  )

  frame_one : (f : Owner × List ℕ) → FrameFits f → FrameInRange f
  frame_one (o, page) fits = frame_range o page fits

  pages_length : (fs : List (Owner × List ℕ)) → All FrameInRange fs
      → length (flat_map page_in fs) ≡ 4096 * length fs
  pages_length [] all = refl
  pages_length (f ∷ fs) all =
      let here = (All-head FrameInRange f fs all).0 in
      let rest = pages_length fs (All-tail FrameInRange f fs all) in
      ap length (flat_map-cons page_in f fs) ∙ length-append (page_in f) (flat_map page_in fs)
      ∙ omega (arith, here, rest)

  pages_bytes : (fs : List (Owner × List ℕ)) → All FrameInRange fs
      → All IsByte (flat_map page_in fs)
  pages_bytes [] all = All-nil IsByte
  pages_bytes (f ∷ fs) all =
      subst (All IsByte) (sym (flat_map-cons page_in f fs))
      (All-append IsByte (page_in f) (flat_map page_in fs) (All-head FrameInRange f fs all).1
      (pages_bytes fs (All-tail FrameInRange f fs all)))

  owner_given : (fs : List (Owner × List ℕ)) → All FrameInRange fs → (frame t : ℕ)
      → slice_index_or (map (λ f. f.0) fs) frame Free ≡ Of t → (1 ≤ t) × (t ≤ given)
  owner_given [] all frame t e = absurd (grind (arith, e))
  owner_given (f ∷ fs) all zero t e = (All-head FrameInRange f fs all).2 t e
  owner_given (f ∷ fs) all (suc frame) t e =
      owner_given fs (All-tail FrameInRange f fs all) frame t e

  page_zero : (o : Owner) (page : List ℕ) (offset : ℕ) → o ≡ Free → offset < 4096
      → slice_index (page_in (o, page)) offset ≡ 0
  page_zero Free page offset free lt = get_or-replicate 4096 offset 0 0 lt
  page_zero Shared page offset free lt = absurd cc
  page_zero (Of t) page offset free lt = absurd cc

  -- a Free frame is zero
  frames_zero : (fs : List (Owner × List ℕ)) → All FrameInRange fs → (frame offset : ℕ)
      → slice_index_or (map (λ f. f.0) fs) frame Free ≡ Free → offset < 4096
      → slice_index (flat_map page_in fs) (4096 * frame + offset) ≡ 0
  frames_zero [] all frame offset free lt = refl
  frames_zero (f ∷ fs) all zero offset free lt =
      let here = (All-head FrameInRange f fs all).0 in
      let at : 4096 * 0 + offset ≡ offset = omega arith in
      ap (λ (xs : List ℕ). slice_index xs (4096 * 0 + offset)) (flat_map-cons page_in f fs)
      ∙ ap (slice_index (page_in f ++ flat_map page_in fs)) at
      ∙ get_or_append_left (page_in f) (flat_map page_in fs) 0 offset (omega (arith, here, lt))
      ∙ page_zero f.0 f.1 offset free lt
  frames_zero (f ∷ fs) all (suc frame) offset free lt =
      let here = (All-head FrameInRange f fs all).0 in
      let at : 4096 * suc frame + offset ≡ length (page_in f) + (4096 * frame + offset) =
      omega (arith, here) in
      ap (λ (xs : List ℕ). slice_index xs (4096 * suc frame + offset))
      (flat_map-cons page_in f fs)
      ∙ ap (slice_index (page_in f ++ flat_map page_in fs)) at
      ∙ get_or-append-add (page_in f) (flat_map page_in fs) (4096 * frame + offset) 0
      ∙ frames_zero fs (All-tail FrameInRange f fs all) frame offset free lt

-- ---- all of it

pub lawful_by_parts : (g : SavedGroup) → row.group_row.Fits g → PartsAgree (world_in g)
    → Lawful (world_in g)
lawful_by_parts g fits agrees =
    let h = fits.0.0.0 in
    let b = fits.0.1 in
    let quantum = in_range 16 65536 g.config.quantum h.1.1.0.0.0.1 in
    let limit = in_range 1 1000000 g.config.rounds h.1.1.0.0.1.0.1 in
    let frames = in_range 16 16384 g.config.frames h.1.1.0.0.1.1.1 in
    let rounds = in_range 0 g.config.rounds g.rounds h.1.1.1.0.1 in
    let given = in_range 1 65535 g.given h.1.1.1.1.0.1 in
    let made = in_range 1 65535 (length g.processes) h.1.1.1.1.1.1 in
    let count : length (map (λ (f : Owner × List ℕ). f.0) g.frames) ≡ g.config.frames =
    length-map g.frames (λ f. f.0)
    ∙ many_count (row.frame_row g.given) g.config.frames g.frames b.1.1.1.1 in
    let each = many_all (row.frame_row g.given) (FrameInRange g.given) (frame_one g.given)
    g.config.frames g.frames b.1.1.1.1 in
    let some : 0 < g.config.frames = omega (arith, frames.0) in
    let threads = threads_range g.given (length g.processes) (length g.threads) 1 g.threads
    b.1.0.0.1 in
    let number = spread_length g.threads g.given in
    let living = numbers_spread is_some g.threads g.given refl threads.0 in
    record {
      frames = record {
        bytes = (
          pages_length g.given g.frames each
              ∙ ap (λ n. 4096 * n) (sym (length-map g.frames (λ f. f.0))),
          pages_bytes g.given g.frames each,
        );
        free = agrees.free;
        zeros = λ frame offset free lt. frames_zero g.given g.frames each frame offset free lt;
        owned = λ frame t e. let o = owner_given g.given g.frames each frame t e in
            (o.0, omega (arith, o.1, number));
      };
      processes = record {
        holdings = subst (λ n. All (AreHoldings n) (all_holdings g.processes)) (sym count)
            (holdings_all g.config.frames (length g.processes) some g.processes
            (many_all (row.process_row g.config.frames (length g.processes))
            (ProcessFits g.config.frames (length g.processes) some) (λ p f. f)
            (length g.processes) g.processes b.0) agrees.apart);
        private = agrees.private;
        populated = agrees.populated;
        parents = agrees.parents;
        statuses = many_all (row.process_row g.config.frames (length g.processes)) HasStatus
            (status_one g.config.frames (length g.processes) some) (length g.processes)
            g.processes b.0;
        given = (omega (arith, made.0), agrees.numbers);
      };
      threads = record {
        ranges = λ t. ranges_at t threads;
        asleep = agrees.asleep;
        sleepers = subst (λ n. All (IsSleeper n) g.sleepers) (sym count)
            (many_all (row.sleeper_row g.given g.config.frames) (IsSleeper g.config.frames)
            (λ s f. sleeper_range g.given g.config.frames s some f) (length g.sleepers)
            g.sleepers b.1.1.1.0.0.1);
      };
      pipes = record {
        ranges = (
          many_count row.pipe_row 64 g.pipes b.1.1.0,
          many_all row.pipe_row IsPipe pipe_bytes_range 64 g.pipes b.1.1.0,
        );
        closed = agrees.closed;
      };
      limits = record {
        threads = (
          live_few living (in_range 0 64 (length g.threads) b.1.0.0.0.1).1,
          omega (arith, number, given.1),
        );
        processes = agrees.few;
        frames = (omega (arith, count, frames.0), omega (arith, count, frames.1));
      };
      run = record { turn = quantum; count = omega (arith, rounds.1, limit.1) };
    }
  where
    live_few : live_threads (world_in g)
        ≡ map (λ e. e.0) (filter (λ e. is_some (Some e.1)) g.threads) → length g.threads ≤ 64
        → length (live_threads (world_in g)) ≤ 64
    live_few are few =
        let n : length (live_threads (world_in g)) ≡ length g.threads =
        ap length are
        ∙ length-map (filter (λ (e : ℕ × Thread). is_some (Some e.1)) g.threads) (λ e. e.0)
        ∙ ap length (kept_all g.threads) in
        omega (arith, n, few)

    ranges_at : (t : ℕ)
        → (AreRising 1 (g.given + 1) g.threads × All ThreadInRange g.threads)
        → IfSome (thread_at (world_in g) t) (IsThread g.processes)
    ranges_at t threads =
        let is = spread_at g.threads g.given t threads.0 in
        both (live_in g.threads t)
        (all_in_yes (λ n thread. ThreadInRange (n, thread)) g.threads threads.1 t)
        (agrees.living t) is
      where
        both : (o : Option Thread) → IfSome o (λ thread. ThreadInRange (t, thread))
            → IfSome (thread_at (world_in g) t)
            (λ thread. IsTrue (is_some (live_process (world_in g) thread.process)))
            → thread_at (world_in g) t ≡ o
            → IfSome (thread_at (world_in g) t) (IsThread g.processes)
        both None range lives is = rw is tt
        both (Some thread) range lives is =
            let process = subst (λ (o : Option Thread). IfSome o
            (λ thread. IsTrue (is_some (live_process (world_in g) thread.process)))) is
            lives in
            subst (λ o. IfSome o (IsThread g.processes)) (sym is)
            (record {
              process = process;
              registers = range.0;
              pending = range.1;
              mask = range.2;
              saved = range.3;
            })

-- a lawful world's parts agree
pub parts_by_law : (g : SavedGroup) → Lawful (world_in g)
    → PartsAgree (world_in g)
parts_by_law g law = record {
  free = law.frames.free;
  apart = λ k d lt. (law.processes.holdings k d lt).apart;
  private = law.processes.private;
  populated = law.processes.populated;
  parents = law.processes.parents;
  numbers = law.processes.given.1;
  living = λ t. lives (thread_at (world_in g) t) (law.threads.ranges t);
  asleep = law.threads.asleep;
  closed = law.pipes.closed;
  few = law.limits.processes;
}
  where
    lives : (o : Option Thread) → IfSome o (IsThread g.processes)
        → IfSome o (λ thread. IsTrue (is_some (live_process (world_in g) thread.process)))
    lives None h = tt
    lives (Some thread) h = h.process
