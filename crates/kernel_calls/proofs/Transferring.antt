-- The branches of a call that moves bytes, and what moving them keeps counted.
use Rattle.std.proofs.Common.{◌≡◌, ◌≢◌, ℕ, ◌+◌, ◌-◌, ◌≤◌, Bool, true, false, List, length, Option}
use Rattle.std.proofs.Common.{IsSome, refl, sym, ap, subst, ◌∙◌, arith}
use Rattle.std.specs.Prelude.{All}
use Rattle.dos_world.specs.World.{World}
use Rattle.dos_world.specs.Kernel.{all_reach, minus}
use Rattle.dos_world.specs.Play.{done}
use Rattle.dos_world.specs.Calls.{Service, went}
use Rattle.dos_world.specs.DescriptorCalls.{count_of, transfers}
use Rattle.dos_world.specs.declared.Access.{Access}
use Rattle.kernel_mem.specs.MemoryWorld.{in_world, HasAllHome, KeepsUses}
use Rattle.kernel_mem.proofs.Reaching.{reach_front}
use Rattle.kernel_objects.specs.Pipework.{Pipework}
use Rattle.page_store.specs.Store.{Store}
use Rattle.kernel_calls.specs.StateWorld.{IsCounted, base, sent, world_of}
use Rattle.kernel_calls.specs.CallResults.{ActsQuietly, asked_count, call_in}
use Rattle.kernel_calls.specs.declared.state.State.{State}
use Rattle.kernel_calls.specs.declared.state.Asked.{Asked}
use Rattle.kernel_calls.specs.declared.state.Served.{Served}
use Rattle.kernel_calls.specs.declared.state.Served.TheVariants.{Went}
use Rattle.kernel_calls.proofs.Counted.{counted_like}
use Rattle.kernel_calls.proofs.Sending.{answering, moved, zero_moves}

-- ---- which branch

module _ (access : Access) (s : State) (a : Asked) where
  abbrev pub are_reached : ℕ → List ℕ → List ℕ → Bool
  are_reached q o e = all_reach (sent o e (world_of q s)) a.thread a.a1 (asked_count a) access

  -- whether so many bytes are mapped, as the table says it
  abbrev pub Reaches : Bool → ℕ → Type 0
  Reaches b count = (w : World) (frames : Store) → b
      ≡ all_reach (in_world w frames s.table) a.thread a.a1 count access

  pub reached_as : (b : Bool) (count : ℕ) → count ≡ asked_count a → Reaches b count
      → (q : ℕ) (o e : List ℕ) → are_reached q o e ≡ b
  reached_as b count same is q o e =
      ap (λ n. all_reach (sent o e (world_of q s)) a.thread a.a1 n access) (sym same)
      ∙ sym (is (sent o e (base q s.round s.pipes.bytes s.futexes)) s.frames)

  module _ (f : Service) where
    -- the bytes that are asked for are moved, where all are mapped
    abbrev pub moves : Service
    moves c = transfers f (all_reach c.world c.thread c.a1 (count_of c) access) c

    pub no_bytes : (new : State) → asked_count a ≡ 0 → new ≡ answering s a.thread 0
        → ActsQuietly moves s a Went new
    no_bytes new zero is q o e =
        zero_moves f (are_reached q o e) (call_in (sent o e (world_of q s)) a) zero
        ∙ ap (λ x. done (went (sent o e (world_of q x)))) (sym is)

    module _ (count : ℕ) (same : count ≡ asked_count a) (some : count ≢ 0) where
      pub not_mapped : (number : ℕ) (new : State) → Reaches false count → number ≡ 14
          → new ≡ answering s a.thread (minus number) → ActsQuietly moves s a Went new
      not_mapped number new none refusal is q o e =
          moved f (are_reached q o e) false (call_in (sent o e (world_of q s)) a)
          (λ z. some (same ∙ z)) (reached_as false count same none q o e)
          ∙ ap (λ x. done (went (sent o e (world_of q x))))
          (ap (λ n. answering s a.thread (minus n)) (sym refusal) ∙ sym is)

      -- where all are mapped, it does what f does
      pub does_move : Reaches true count → (q : ℕ) (o e : List ℕ)
          → moves (call_in (sent o e (world_of q s)) a) ≡ f (call_in (sent o e (world_of q s)) a)
      does_move all q o e =
          moved f (are_reached q o e) true (call_in (sent o e (world_of q s)) a)
          (λ z. some (same ∙ z)) (reached_as true count same all q o e)

      pub all_mapped : (way : Served) (new : State) → Reaches true count
          → ActsQuietly f s a way new → ActsQuietly moves s a way new
      all_mapped way new all goes q o e = does_move all q o e ∙ goes q o e

-- where all are reached, so are the first of them
pub reach_first : (w : World) (t a n k : ℕ) (access : Access) → n ≤ k
    → all_reach w t a k access ≡ true → all_reach w t a n access ≡ true
reach_first w t a n k access few all =
    reach_front w t a n (a + n) (k - n) k access refl (omega (arith, few)) all

-- ---- what stays counted

-- pages are written, or granted, and pipes hold something else
pub counted_moved : (s : State) (frames : Store) (pipes : Pipework) (buffer : List ℕ)
    → HasAllHome frames → frames.uses ≡ s.frames.uses
    → length frames.owners ≡ length s.frames.owners → pipes.readers ≡ s.pipes.readers
    → pipes.writers ≡ s.pipes.writers → IsCounted s
    → IsCounted (record s { frames = frames; pipes = pipes; buffer = buffer })
counted_moved s frames pipes buffer home uses count readers writers counted =
    counted_like s (record s { frames = frames; pipes = pipes; buffer = buffer }) (record {
      home = home;
      round = refl;
      room = refl;
      frames = count;
      uses = uses;
      readers = readers;
      writers = writers;
      processes = refl;
    }) counted

-- where only owners changed, pages are home
pub still_home : (old new : Store) → KeepsUses old new → HasAllHome old → HasAllHome new
still_home old new keeps home = record {
  home = subst (λ (ps : List (Option (List ℕ))). All IsSome ps) (sym keeps.pages) home.home;
  owners = keeps.frames.count ∙ home.owners ∙ ap length (sym keeps.pages);
}
