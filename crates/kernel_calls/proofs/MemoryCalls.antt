-- The services of memory, from what the frames and the table come to.
use Rattle.std.proofs.Common.{◌≡◌, ℕ, ◌+◌, ◌<◌, List, [], length, Result, Ok, Err, IfErr, IfSome}
use Rattle.std.proofs.Common.{refl, sym, subst, ◌∙◌}
use Rattle.std.specs.Prelude.{OnErr, OnOk, filter}
use Rattle.dos_world.specs.World.{World, with_holdings}
use Rattle.dos_world.specs.Kernel.{tidied}
use Rattle.dos_world.specs.Calls.{Call}
use Rattle.dos_world.specs.MemoryCalls.{in_pages, mapped, shared, unmapped, where_mapped}
use Rattle.dos_world.specs.MemoryCalls.{with_shared, without_pages}
use Rattle.page_store.specs.Store.{Store, uses_at}
use Rattle.proc_table.specs.Tables.{Tables, held_by, thread_in}
use Rattle.kernel_mem.proofs.Children.{to-process}
use Rattle.kernel_mem.specs.Forking.{with_space}
use Rattle.kernel_mem.specs.Memory.{AreUsed, HasUsesOf, IsDropped, entries_of}
use Rattle.kernel_mem.specs.Ranges.{range_call, result_in}
use Rattle.kernel_mem.specs.MemoryWorld.{HasAllHome, in_world, space_in}
use Rattle.kernel_calls.specs.StateWorld.{IsCounted, IsSound, base, sent, world_of}
use Rattle.kernel_calls.specs.CallResults.{AreAsked, call_in}
use Rattle.kernel_calls.specs.declared.state.State.{State}
use Rattle.kernel_calls.specs.declared.state.Asked.{Asked}
use Rattle.kernel_calls.proofs.Callers.{Has, has, of-caller, process_lives}
use Rattle.kernel_calls.proofs.Spaces.{counted-either, counted-shared, counted-space}
use Rattle.kernel_calls.proofs.Spaces.{counted-unmapped, map_numbers, number_of, range_numbers}
use Rattle.kernel_calls.proofs.Spaces.{same-in, unmapped_is, used-space, where-ok}

module _ (s : State) (a : Asked) (sound : IsSound s) (asked : AreAsked s a) where
  abbrev call : Call
  call = call_in (world_of 16 s) a

  had : Has s a.process
  had = has s a.process sound (process_lives s a sound asked)

  counted : IsCounted s
  counted = sound.counted

  -- the process that is said, in what is told of the caller's
  abbrev Caller : (ℕ → Type 0) → Type 0
  Caller P = IfSome (thread_in s.table.threads a.thread) (λ thread. P thread.process)

  pub are_used : Caller (λ p. AreUsed (space_in s.table p) s.frames)
  are_used = to-process (λ p. AreUsed (space_in s.table p) s.frames)
      (thread_in s.table.threads a.thread) a.process asked.process
      (subst (λ es. AreUsed es s.frames) (sym had.space)
      (used-space s a.process had.holdings had.is counted))

  module _ {A : Type 0} (frames : Store) (table : Tables) (outcome : Result A ℕ) where
    abbrev after : State
    after = record s { frames = frames; table = table }

    -- ---- map

    module _ (maps : Caller (λ p. (w : World)
        → mapped (range_call (in_world w s.frames s.table) a.thread p a.a0 a.a1 a.a2)
        ≡ result_in outcome (in_world w frames table))) where
      pub map_comes : (q : ℕ) (o e : List ℕ)
          → mapped (call_in (sent o e (world_of q s)) a)
          ≡ result_in outcome (sent o e (world_of q after))
      map_comes q o e =
          of-caller s a sound asked (λ p. (w : World)
          → mapped (range_call (in_world w s.frames s.table) a.thread p a.a0 a.a1 a.a2)
          ≡ result_in outcome (in_world w frames table)) maps
          (sent o e (base q s.round s.pipes.bytes s.futexes))

      pub map_number : IfErr outcome (λ number. 0 < number)
      map_number = number_of outcome (world_of 16 after) (mapped call) (map_comes 16 [] [])
          (map_numbers call)

    pub counted-mapped : OnOk outcome (Caller (λ p. table
        ≡ held_by (with_space (space_in table p)) s.table p))
        → Caller (λ p. HasUsesOf (space_in s.table p) s.frames (space_in table p) frames)
        → OnErr outcome ((frames ≡ s.frames) × (table ≡ s.table)) → HasAllHome frames
        → length frames.owners ≡ length s.frames.owners → IsCounted after
    counted-mapped changes uses stays home count =
        counted-either outcome s frames table stays counted
        (where-ok outcome _ (IsCounted after) (λ changed.
        let is = of-caller s a sound asked (λ p. table
        ≡ held_by (with_space (space_in table p)) s.table p) changed in
        counted-space s a.process had.holdings had.is (with_space (space_in table a.process)) refl
        counted frames table is home count
        (subst (λ es. (frame : ℕ) → uses_at frames frame + entries_of es frame
        ≡ uses_at s.frames frame + entries_of (space_in table a.process) frame) had.space
        (of-caller s a sound asked (λ p. HasUsesOf (space_in s.table p) s.frames
        (space_in table p) frames) uses))) changes)

    -- ---- unmap

    module _ (tests : Caller (λ p. (w v : World) (u : Store)
        → where_mapped (range_call (in_world w u s.table) a.thread p a.a0 a.a1 0) v
        ≡ result_in outcome v))
        (dropped : OnOk outcome (Caller (λ p. IsDropped (filter (in_pages call)
        (space_in s.table p)) s.frames frames)))
        (changes : OnOk outcome (Caller (λ p. table ≡ held_by (without_pages call) s.table p)))
        (stays : OnErr outcome ((frames ≡ s.frames) × (table ≡ s.table))) where
      -- what follows from both, where it isn't refused
      both : (P : Type 0)
          → (IsDropped (filter (in_pages call) (space_in s.table a.process)) s.frames frames
          → table ≡ held_by (without_pages call) s.table a.process → P)
          → OnOk outcome P
      both P f = by outcome dropped changes
        where
          by : (r : Result A ℕ)
              → OnOk r (Caller (λ p. IsDropped (filter (in_pages call)
              (space_in s.table p)) s.frames frames))
              → OnOk r (Caller (λ p. table ≡ held_by (without_pages call) s.table p)) → OnOk r P
          by (Ok x) d t = f
              (of-caller s a sound asked (λ p. IsDropped (filter (in_pages call)
              (space_in s.table p)) s.frames frames) d)
              (of-caller s a sound asked (λ p. table ≡ held_by (without_pages call) s.table p) t)
          by (Err number) d t = tt

      pub unmap_comes : (q : ℕ) (o e : List ℕ)
          → unmapped (call_in (sent o e (world_of q s)) a)
          ≡ result_in outcome (sent o e (world_of q after))
      unmap_comes q o e =
          let left : World =
          tidied (with_holdings (sent o e (world_of q s)) a.process (without_pages call)) in
          of-caller s a sound asked (λ p. (w v : World) (u : Store)
          → where_mapped (range_call (in_world w u s.table) a.thread p a.a0 a.a1 0) v
          ≡ result_in outcome v) tests
          (sent o e (base q s.round s.pipes.bytes s.futexes)) left s.frames
          ∙ same-in outcome left (sent o e (world_of q after))
          (both (left ≡ sent o e (world_of q after))
          (λ d t. unmapped_is s a sound had frames table d t q o e))

      pub unmap_number : IfErr outcome (λ number. 0 < number)
      unmap_number = number_of outcome (world_of 16 after) (unmapped call) (unmap_comes 16 [] [])
          (range_numbers call
          (tidied (with_holdings (world_of 16 s) a.process (without_pages call))))

      pub counted-unmap : IsCounted after
      counted-unmap = counted-either outcome s frames table stays counted
          (both (IsCounted after) (λ d t. counted-unmapped s a sound had frames table d t))

  -- ---- share

  module _ {A : Type 0} (table : Tables) (outcome : Result A ℕ)
      (shares : Caller (λ p. (w : World) (u : Store)
      → shared (range_call (in_world w u s.table) a.thread p a.a0 a.a1 0)
      ≡ result_in outcome (in_world w u table)))
      (changes : OnOk outcome (Caller (λ p. table ≡ held_by (with_shared call) s.table p)))
      (stays : OnErr outcome (table ≡ s.table)) where
    abbrev shared_state : State
    shared_state = record s { table = table }

    pub share_stays : OnErr outcome ((s.frames ≡ s.frames) × (table ≡ s.table))
    share_stays = by outcome stays
      where
        by : (r : Result A ℕ) → OnErr r (table ≡ s.table)
            → OnErr r ((s.frames ≡ s.frames) × (table ≡ s.table))
        by (Ok x) h = tt
        by (Err number) h = (refl, h)

    pub share_comes : (q : ℕ) (o e : List ℕ)
        → shared (call_in (sent o e (world_of q s)) a)
        ≡ result_in outcome (sent o e (world_of q shared_state))
    share_comes q o e =
        of-caller s a sound asked (λ p. (w : World) (u : Store)
        → shared (range_call (in_world w u s.table) a.thread p a.a0 a.a1 0)
        ≡ result_in outcome (in_world w u table)) shares
        (sent o e (base q s.round s.pipes.bytes s.futexes)) s.frames

    pub share_number : IfErr outcome (λ number. 0 < number)
    share_number = number_of outcome (world_of 16 shared_state) (shared call) (share_comes 16 [] [])
        (range_numbers call (with_holdings (world_of 16 s) a.process (with_shared call)))

    pub counted-share : IsCounted shared_state
    counted-share = counted-either outcome s s.frames table share_stays counted
        (where-ok outcome _ (IsCounted shared_state) (λ changed.
        counted-shared s a sound had table
        (of-caller s a sound asked (λ p. table ≡ held_by (with_shared call) s.table p) changed))
        changes)
