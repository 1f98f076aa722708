-- A space has no more pages than there are frames in use.
use Rattle.std.proofs.Common.{◌≡◌, ◌≢◌, ℕ, suc, ◌+◌, ◌-◌, ◌<◌, ◌≤◌, false, List, [], ◌∷◌, length}
use Rattle.std.proofs.Common.{get_or, set, length-set, get_or-set_other, sym, ap, subst, ◌∙◌, arith}
use Rattle.std.specs.Prelude.{◌^◌, All, count_by, slice_index_or}
use Rattle.std.proofs.lemmas.Option.{get_or_from_slice_get, slice_get_within}
use Rattle.std.proofs.lemmas.List.Sums.{count_by-le-length, sum_by-le}
use Rattle.dos_world.specs.Lawful.{Lawful}
use Rattle.dos_world.specs.World.{Holdings, all_holdings, is_free}
use Rattle.dos_world.specs.declared.Entry.{Entry}
use Rattle.dos_world.specs.declared.Owner.{Owner}
use Rattle.dos_world.specs.declared.Owner.TheVariants.{Free}
use Rattle.dos_laws.specs.Taken.{IsTaken}
use Rattle.dos_laws.proofs.Mapped.{not_free, space_taken}
use Rattle.dos_laws.proofs.Spaces.{OtherFrame, Pairs, pairs_from}
use Rattle.dos_laws.proofs.StandsForks.{uses_from_apart}
use Rattle.page_store.proofs.Counts.{count_by-freed}
use Rattle.page_store.specs.Store.{free_count, uses_at}
use Rattle.proc_table.specs.Tables.{IsProcess}
use Rattle.kernel_mem.specs.Forking.{AreTaken}
use Rattle.kernel_mem.specs.Memory.{entries_of}
use Rattle.kernel_mem.specs.MemoryWorld.{space_in}
use Rattle.kernel_calls.specs.StateWorld.{IsSound, world_of}
use Rattle.kernel_calls.specs.declared.state.State.{State}
use Rattle.kernel_calls.proofs.Callers.{Has, has}
use Rattle.kernel_calls.proofs.Keeping.{lawful_now}

-- an entry of a frame that is there and isn't Free
record IsIn (owners : List Owner) (e : ℕ × Entry) : Type 0 where
  pub within : e.1.frame < length owners
  pub owner : is_free (get_or owners e.1.frame Free) ≡ false

-- entries of frames of their own, that are in use, are at most as many as these
few_entries : (space : List (ℕ × Entry)) (owners : List Owner) → All (IsIn owners) space
    → Pairs OtherFrame space → length space + count_by is_free owners ≤ length owners
few_entries [] owners all pairs = omega (arith, count_by-le-length is_free owners)
few_entries (e ∷ space) owners all pairs =
    let here : IsIn owners e = all 0 e (omega arith) in
    let frame : ℕ = e.1.frame in
    omega (
      arith,
      few_entries space (set owners frame Free) others pairs.1,
      length-set owners frame Free,
      count_by-freed owners frame here.within here.owner,
    )
  where
    others : All (IsIn (set owners e.1.frame Free)) space
    others k d lt =
        let x : ℕ × Entry = slice_index_or space k d in
        let was : IsIn owners x = all (suc k) d (omega arith) in
        let apart : e.1.frame ≢ x.1.frame = pairs.0 k d lt in
        record {
          within = omega (arith, was.within, length-set owners e.1.frame Free);
          owner = ap is_free
              (get_or-set_other owners e.1.frame x.1.frame Free Free (λ same. apart (sym same)))
              ∙ was.owner;
        }

module _ (s : State) (p : ℕ) (sound : IsSound s) (live : IsProcess s.table.processes p) where
  all_taken : All (λ e. IsTaken (world_of 16 s) e.1.frame) (space_in s.table p)
  all_taken = space_taken (world_of 16 s) p (lawful_now s sound)

  all_in : All (IsIn s.frames.owners) (space_in s.table p)
  all_in k d lt = let taken = all_taken k d lt in
      record { within = taken.within; owner = not_free _ taken.owner }

  apart : Pairs OtherFrame (space_in s.table p)
  apart = let h : Has s p = has s p sound live in
      subst (Pairs OtherFrame) (sym h.space) (pairs_from OtherFrame h.holdings.space h.are.apart)

  -- there is room in it for all frames that are Free
  pub has_room : length (space_in s.table p) + free_count s.frames ≤ s.table.room
  has_room =
      omega (
        arith,
        few_entries (space_in s.table p) s.frames.owners all_in apart,
        sound.counted.room,
      )

  -- what its entries name isn't Free
  pub all_owned : AreTaken (space_in s.table p) s.frames
  all_owned i e here =
      subst (λ (x : ℕ × Entry). is_free (get_or s.frames.owners x.1.frame Free) ≡ false)
      (get_or_from_slice_get (space_in s.table p) i e e here)
      (all_in i e (slice_get_within (space_in s.table p) i e here)).owner

  -- a frame is used at most once by each process
  once : (frame : ℕ)
      → All (λ h. entries_of h.space frame ≤ 1) (all_holdings s.table.processes)
  once frame k d lt =
      let h : Holdings = slice_index_or (all_holdings s.table.processes) k d in
      uses_from_apart h.space (pairs_from OtherFrame h.space
      ((lawful_now s sound).processes.holdings k d lt).apart) frame

  -- so the uses of a frame and the pages are few
  pub few_uses : (frame : ℕ)
      → uses_at s.frames frame + length (space_in s.table p) < 2 ^ 32 - 1
  few_uses frame =
      let l : Lawful (world_of 16 s) = lawful_now s sound in
      omega (
        arith,
        few_entries (space_in s.table p) s.frames.owners all_in apart,
        sound.counted.uses 16 frame,
        sum_by-le (λ (h : Holdings). entries_of h.space frame) 1
            (all_holdings s.table.processes) (once frame),
        l.limits.processes,
        l.limits.frames.1,
      )
