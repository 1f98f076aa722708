-- Threads that become ready, over the kernel's state.
use Rattle.std.proofs.Common.{ℕ, ◌+◌, ◌<◌, ◌≤◌, ◌≡◌, sym, ap, ◌∙◌, subst, List, [], ◌∷◌, drop}
use Rattle.std.proofs.Common.{get_or, length}
use Rattle.dos_world.specs.World.{in_state}
use Rattle.dos_world.specs.Signals.{made_ready, ripen}
use Rattle.dos_world.specs.declared.ThreadState.TheVariants.{Ready}
use Rattle.dos_laws.specs.Standing.{LawfulWith}
use Rattle.dos_laws.proofs.StandsKeeps.{stands_kept}
use Rattle.proc_table.specs.Tables.{Tables, IsLiveThread, thread_by}
use Rattle.kernel_calls.specs.StateWorld.{IsCounted, IsSound, sent, world_of}
use Rattle.kernel_calls.specs.declared.state.State.{State}
use Rattle.group_rounds.specs.Phases.{AreLive, ripe_in}
use Rattle.group_rounds.proofs.PhaseLaws.{drop_at, drop_out}
use Rattle.group_rounds.proofs.SignalLaws.{thread_world}
use Rattle.group_rounds.proofs.Sound.{lives_by, sound_then}

module _ (s : State) (table : Tables) (t : ℕ)
    (set : table ≡ thread_by (in_state Ready) s.table t) where
  pub ready_next : (xs : List ℕ) (i : ℕ) → i < length xs → t ≡ get_or xs i 0
      → (q : ℕ) (o e : List ℕ)
      → made_ready (sent o e (world_of q s)) (drop i xs)
      ≡ made_ready (sent o e (world_of q (record s { table = table }))) (drop (i + 1) xs)
  ready_next xs i lt is q o e =
      ap (made_ready (sent o e (world_of q s))) (drop_at xs i lt)
      ∙ ap (λ t. made_ready (sent o e (world_of q s)) (t ∷ drop (i + 1) xs)) (sym is)
      ∙ ap (λ w. made_ready w (drop (i + 1) xs))
      (thread_world s table t (in_state Ready) set q o e)

  pub ready_live : (xs : List ℕ) → AreLive s.table.threads xs → AreLive table.threads xs
  ready_live xs live k d lt =
      subst (λ (table : Tables). IsLiveThread table.threads (get_or xs k d)) (sym set)
      (lives_by (in_state Ready) s.table.threads t (get_or xs k d) (live k d lt))

pub ready_out : (s : State) (xs : List ℕ) (i : ℕ) → length xs ≤ i → (q : ℕ) (o e : List ℕ)
    → made_ready (sent o e (world_of q s)) (drop i xs) ≡ sent o e (world_of q s)
ready_out s xs i over q o e = ap (made_ready (sent o e (world_of q s))) (drop_out xs i over)

-- those that are ripe, made ready
pub ripe_then : (s s' : State) (xs : List ℕ)
    → ((q : ℕ) (o e : List ℕ) → xs ≡ ripe_in (sent o e (world_of q s)))
    → ((q : ℕ) (o e : List ℕ)
    → made_ready (sent o e (world_of q s)) xs ≡ sent o e (world_of q s'))
    → (q : ℕ) (o e : List ℕ) → ripen (sent o e (world_of q s)) ≡ sent o e (world_of q s')
ripe_then s s' xs are sets q o e =
    ap (made_ready (sent o e (world_of q s))) (sym (are q o e)) ∙ sets q o e

pub ripe_sound : (s s' : State)
    → ((q : ℕ) (o e : List ℕ) → ripen (sent o e (world_of q s)) ≡ sent o e (world_of q s'))
    → IsSound s → IsCounted s' → IsSound s'
ripe_sound s s' ripens h counted =
    sound_then s s' h counted
    (λ q k. subst (LawfulWith []) (ripens q [] []) (stands_kept.ripen_kept (world_of q s) k))
