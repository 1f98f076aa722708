-- Worlds in which less is had than in a lawful one: once they are tidied they are lawful.
use Rattle.std.proofs.Common.{ℕ, suc, ◌+◌, ◌*◌, ◌<◌, ◌≤◌, ◌≡◌, ◌≢◌, ◌⊎◌, inl, inr, refl, sym, ap}
use Rattle.std.proofs.Common.{◌∙◌, subst}
use Rattle.std.proofs.Common.{Bool, true, false, cond, List, [], ◌∷◌, length, arith}
use Rattle.std.specs.Prelude.{All, IfSome, IsTrue, IsFalse, ◌↔◌, is_some, slice_index_or}
use Rattle.std.proofs.lemmas.Bool.{cases_lt, true≢false}
use Rattle.std.proofs.lemmas.List.{get_or_past}
use Rattle.std.proofs.lemmas.List.Elements.{All-nil, All-cons, All-head, All-tail}
use Rattle.dos_world.specs.Numbered.{numbered, map_from}
use Rattle.dos_world.specs.World.{World, all_holdings, live_process, live_threads, thread_at}
use Rattle.dos_world.specs.World.{threads_of, owner_of}
use Rattle.dos_world.specs.Counts.{is_mapped, is_open, owner_if_mapped, bytes_if_open, tidied}
use Rattle.dos_world.specs.Lawful.{Lawful, IsThread, AreHoldings, IsAlone, IsSleeper, IsPipe}
use Rattle.dos_world.specs.Lawful.{turns_asleep}
use Rattle.dos_world.specs.declared.Owner.{Owner}
use Rattle.dos_world.specs.declared.Owner.TheVariants.{Free, Of}
use Rattle.dos_laws.proofs.Ends.{length-map_from, get_or-map_from}
use Rattle.dos_laws.proofs.Stands.{times, HasStatus}
use Rattle.dos_laws.proofs.Zeros.{length-tidied, tidied_at, tidied_bytes}

-- what a world with the owners, bytes, pipes and run of a lawful one must have, so that it is
-- lawful once it is tidied
pub record IsLess (w v : World) : Type 0 where
  pub mapped : (frame : ℕ) → is_mapped v frame ≡ true → is_mapped w frame ≡ true
  pub holdings : All (AreHoldings (length w.owners)) (all_holdings v.processes)
  pub private : All (λ h. All (IsAlone v) h.space) (all_holdings v.processes)
  pub populated : (p : ℕ) → IsTrue (is_some (live_process v p)) → threads_of v p ≢ []
  pub parents : (p : ℕ) → IfSome (numbered v.processes p) (λ process. process.parent < p)
  pub statuses : All HasStatus v.processes
  pub given : (0 < length v.processes) × (length v.processes ≤ length v.threads)
  pub ranges : (t : ℕ) → IfSome (thread_at v t) (IsThread v.processes)
  pub asleep : (t : ℕ) → times t v.sleepers ≡ turns_asleep (thread_at v t)
  pub sleepers : All (IsSleeper (length w.owners)) v.sleepers
  pub live : length (live_threads v) ≤ 64
  pub threads : length v.threads ≡ length w.threads
  pub processes : length (all_holdings v.processes) ≤ 32

all-map_from : {A B : Type 0} (P : A → Type 0) (R : B → Type 0) (f : ℕ → A → B)
    → ((k : ℕ) (x : A) → P x → R (f k x)) → (n : ℕ) (xs : List A) → All P xs
    → All R (map_from n f xs)
all-map_from P R f keep n [] all = All-nil R
all-map_from P R f keep n (x ∷ xs) all =
    All-cons R (f n x) (map_from (suc n) f xs) (keep n x (All-head P x xs all))
    (all-map_from P R f keep (suc n) xs (All-tail P x xs all))

module _ (w v : World) (less : IsLess w v) (lawful : Lawful w) where
  -- with w's owners, bytes, pipes and run
  abbrev mixed : World
  mixed = record w { processes = v.processes; threads = v.threads; sleepers = v.sleepers }

  abbrev new : World
  new = tidied mixed

  count_new : length new.owners ≡ length w.owners
  count_new = length-map_from 0 (owner_if_mapped mixed) w.owners

  owner_new : (frame : ℕ) → frame < length w.owners
      → owner_of new frame ≡ owner_if_mapped mixed frame (owner_of w frame)
  owner_new frame lt =
      get_or-map_from 0 (owner_if_mapped mixed) w.owners frame Free Free lt
      ∙ ap (λ k. owner_if_mapped mixed k (owner_of w frame)) (omega arith)

  free_new : (frame : ℕ) → frame < length w.owners → (b : Bool) → is_mapped v frame ≡ b
      → (cond b (owner_of w frame) Free ≡ Free) ↔ IsFalse b
  free_new frame lt true e = (
    λ free. absurd (true≢false
        (sym (less.mapped frame e) ∙ (lawful.frames.free frame lt).0 free)),
    λ no.
        absurd (true≢false no),
  )
  free_new frame lt false e = (λ free. refl, λ no. refl)

  zero_mapped : (b : Bool) (o : Owner) (byte : ℕ) → cond b o Free ≡ Free → (o ≡ Free → byte ≡ 0)
      → cond b byte 0 ≡ 0
  zero_mapped true o byte free was = was free
  zero_mapped false o byte free was = refl

  zeros_new : (frame offset : ℕ) → owner_of new frame ≡ Free → offset < 4096
      → (frame < length w.owners) ⊎ (length w.owners ≤ frame)
      → slice_index_or new.bytes (4096 * frame + offset) 0 ≡ 0
  zeros_new frame offset free within (inl lt) =
      let here : 0 + frame ≡ frame = omega arith in
      tidied_at (is_mapped mixed) 0 w.owners w.bytes lawful.frames.bytes.0 frame offset lt within
      ∙ ap (λ k. cond (is_mapped v k) (slice_index_or w.bytes (4096 * frame + offset) 0) 0) here
      ∙ zero_mapped (is_mapped v frame) (owner_of w frame)
      (slice_index_or w.bytes (4096 * frame + offset) 0) (sym (owner_new frame lt) ∙ free)
      (λ was. lawful.frames.zeros frame offset was within)
  zeros_new frame offset free within (inr past) =
      get_or_past new.bytes (4096 * frame + offset) 0
      (omega (
        arith,
        length-tidied (is_mapped mixed) 0 w.owners w.bytes lawful.frames.bytes.0,
        lawful.frames.bytes.0,
        past,
      ))

  of_mapped : (b : Bool) (o : Owner) (t : ℕ) → cond b o Free ≡ Of t → o ≡ Of t
  of_mapped true o t e = e
  of_mapped false o t e = absurd (grind arith)

  owned_new : (frame t : ℕ) → owner_of new frame ≡ Of t
      → (frame < length w.owners) ⊎ (length w.owners ≤ frame) → (1 ≤ t) × (t ≤ length v.threads)
  owned_new frame t e (inl lt) =
      let was =
      lawful.frames.owned frame t
      (of_mapped (is_mapped v frame) (owner_of w frame) t (sym (owner_new frame lt) ∙ e)) in
      (was.0, omega (arith, was.1, less.threads))
  owned_new frame t e (inr past) =
      let none : owner_of new frame ≡ Free =
      get_or_past new.owners frame Free (omega (arith, past, count_new)) in
      let both : Free ≡ Of t = sym none ∙ e in
      absurd (grind arith)

  pipe_kept : (pipe : ℕ) (bytes : List ℕ) → IsPipe bytes → IsPipe (bytes_if_open mixed pipe bytes)
  pipe_kept pipe bytes is = by_open (is_open mixed pipe)
    where
      by_open : (b : Bool) → IsPipe (cond b bytes [])
      by_open true = is
      by_open false = (omega arith, All-nil _)

  closed_new : (pipe : ℕ) → IsFalse (is_open mixed pipe) → slice_index_or new.pipes pipe [] ≡ []
  closed_new pipe shut = by_place (cases_lt pipe (length w.pipes))
    where
      by_place : (pipe < length w.pipes) ⊎ (length w.pipes ≤ pipe)
          → slice_index_or new.pipes pipe [] ≡ []
      by_place (inl lt) =
          get_or-map_from 0 (bytes_if_open mixed) w.pipes pipe [] [] lt
          ∙ ap (λ k. bytes_if_open mixed k (slice_index_or w.pipes pipe [])) (omega arith)
          ∙ ap (λ b. cond b (slice_index_or w.pipes pipe []) []) shut
      by_place (inr past) =
          get_or_past new.pipes pipe []
          (omega (arith, past, length-map_from 0 (bytes_if_open mixed) w.pipes))

  pub lawful-tidied : Lawful new
  lawful-tidied = record {
    frames = record {
      bytes = (
        omega (
          arith,
          lawful.frames.bytes.0,
          count_new,
          length-tidied (is_mapped mixed) 0 w.owners w.bytes lawful.frames.bytes.0,
        ),
        tidied_bytes (is_mapped mixed) 0 w.owners w.bytes lawful.frames.bytes.1,
      );
      free = λ frame lt.
          subst (λ o. (o ≡ Free) ↔ IsFalse (is_mapped new frame))
          (sym (owner_new frame (omega (arith, lt, count_new))))
          (free_new frame (omega (arith, lt, count_new)) (is_mapped new frame) refl);
      zeros = λ frame offset free within.
          zeros_new frame offset free within (cases_lt frame (length w.owners));
      owned = λ frame t e. owned_new frame t e (cases_lt frame (length w.owners));
    };
    processes = record {
      holdings =
          subst (λ n. All (AreHoldings n) (all_holdings v.processes)) (sym count_new) less.holdings;
      private = less.private;
      populated = less.populated;
      parents = less.parents;
      statuses = less.statuses;
      given = less.given;
    };
    threads = record {
      ranges = less.ranges;
      asleep = less.asleep;
      sleepers =
          subst (λ n. All (IsSleeper n) v.sleepers) (sym count_new) less.sleepers;
    };
    pipes = record {
      ranges = (
        omega (arith, lawful.pipes.ranges.0, length-map_from 0 (bytes_if_open mixed) w.pipes),
        all-map_from IsPipe IsPipe
            (bytes_if_open mixed) pipe_kept 0 w.pipes lawful.pipes.ranges.1,
      );
      closed =
          closed_new;
    };
    limits = record {
      threads = (less.live, omega (arith, lawful.limits.threads.1, less.threads));
      processes = less.processes;
      frames = (
        omega (arith, lawful.limits.frames.0, count_new),
        omega (arith, lawful.limits.frames.1, count_new),
      );
    };
    run = lawful.run;
  }
