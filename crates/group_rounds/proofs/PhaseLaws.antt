-- One starter more in a phase.
use Rattle.std.proofs.Common.{ℕ, suc, ◌+◌, ◌<◌, ◌≤◌, ◌≡◌, refl, sym, ap, ◌∙◌, subst, Bool, cond}
use Rattle.std.proofs.Common.{true, false, List, [], ◌∷◌, length, drop, get_or, drop-cons}
use Rattle.std.proofs.Common.{arith}
use Rattle.std.specs.Prelude.{is_some}
use Rattle.std.proofs.Math.ListN.{drop_of_length-le}
use Rattle.dos_world.specs.World.{World}
use Rattle.dos_world.specs.Play.{done, ◌>>=◌}
use Rattle.dos_laws.specs.Standing.{LawfulWith}
use Rattle.dos_laws.proofs.StandsKeeps.{stands-budget}
use Rattle.flat_machine.specs.Rest.{rest_of, rest_if_live, serial_of}
use Rattle.flat_machine.specs.Round.{with_budgets}
use Rattle.proc_table.specs.Tables.{Tables, IsLiveThread, thread_by, thread_in, with_budget}
use Rattle.dos_io.specs.Borders.{BorderState}
use Rattle.kernel_calls.specs.StateWorld.{HaveParts, IsCounted, IsSound, sent, world_of}
use Rattle.kernel_calls.specs.Plays.{PlaysOn, Stopper, StopsIn, stopper}
use Rattle.kernel_calls.proofs.Counted.{counted-thread_by}
use Rattle.kernel_calls.proofs.Playing.{plays_and, plays_behind, plays_still, stops_after}
use Rattle.kernel_calls.proofs.Playing.{stops_before}
use Rattle.kernel_calls.specs.declared.state.State.{State}
use Rattle.group_rounds.specs.Phases.{AreLive}
use Rattle.group_rounds.proofs.FrontLaws.{fronts_serial}
use Rattle.group_rounds.proofs.Sound.{sound_then, parts_then, lives_by}
use Rattle.std.specs.Prelude.{Err}
use Rattle.kernel_calls.specs.declared.state.RunStop.{RunStop}
use Rattle.kernel_calls.specs.StateWorld.{StaysInRound}
use Rattle.kernel_calls.proofs.Staying.{stays-then}
use Rattle.group_rounds.specs.Outcomes.{Serves}

-- ---- the list of starters, from a place on

pub drop_at : (xs : List ℕ) (i : ℕ) → i < length xs → drop i xs ≡ get_or xs i 0 ∷ drop (i + 1) xs
drop_at xs i lt = drop-cons xs i 0 lt
    ∙ ap (λ n. get_or xs i 0 ∷ drop n xs) (let e : suc i ≡ i + 1 = omega arith in e)

pub drop_out : (xs : List ℕ) (i : ℕ) → length xs ≤ i → drop i xs ≡ []
drop_out xs i le = drop_of_length-le xs le

-- ---- budgets

module _ (s : State) (table : Tables) (quantum t : ℕ)
    (set : table ≡ thread_by (with_budget quantum) s.table t) where
  pub budget_next : (xs : List ℕ) (i : ℕ) → i < length xs → t ≡ get_or xs i 0 → (o e : List ℕ)
      → with_budgets (sent o e (world_of quantum s)) (drop i xs)
      ≡ with_budgets (sent o e (world_of quantum (record s { table = table }))) (drop (i + 1) xs)
  budget_next xs i lt is o e =
      ap (with_budgets (sent o e (world_of quantum s))) (drop_at xs i lt)
      ∙ ap (λ t. with_budgets (sent o e (world_of quantum s)) (t ∷ drop (i + 1) xs)) (sym is)
      ∙ ap (λ (table : Tables). with_budgets
      (sent o e (world_of quantum (record s { table = table }))) (drop (i + 1) xs))
      (sym set)

  -- who has a part has it, whoever's budget it is
  budget_stands : (q : ℕ) (ts : List ℕ) → LawfulWith ts (world_of q s)
      → LawfulWith ts (world_of q (record s { table = table }))
  budget_stands q ts k =
      subst (λ (table : Tables). LawfulWith ts (world_of q (record s { table = table }))) (sym set)
      (stands-budget ts (world_of q s) t quantum k)

  pub budget_sound : IsSound s → IsSound (record s { table = table })
  budget_sound sound = sound_then s (record s { table = table }) sound
      (subst (λ (table : Tables). IsCounted (record s { table = table })) (sym set)
      (counted-thread_by s t (with_budget quantum) sound.counted))
      (λ q k. budget_stands q [] k)

  pub budget_parts : IsSound s → (ts : List ℕ) → HaveParts ts s
      → HaveParts ts (record s { table = table })
  budget_parts sound ts = parts_then s (record s { table = table }) ts ts sound
      (budget_stands 16 ts)

  pub budget_live : (xs : List ℕ) → AreLive s.table.threads xs → AreLive table.threads xs
  budget_live xs live k d lt =
      subst (λ (table : Tables). IsLiveThread table.threads (get_or xs k d)) (sym set)
      (lives_by (with_budget quantum) s.table.threads t (get_or xs k d) (live k d lt))

-- ---- the serial phase

serial_at : (xs : List ℕ) (t i : ℕ) → i < length xs → t ≡ get_or xs i 0 → (w : World)
    → serial_of w (drop i xs) ≡ (rest_if_live w t >>= λ next. serial_of next (drop (i + 1) xs))
serial_at xs t i lt is w = ap (serial_of w) (drop_at xs i lt)
    ∙ ap (λ t. serial_of w (t ∷ drop (i + 1) xs)) (sym is)

-- over the part of the next of them
module _ (q : ℕ) (start s : State) (b₀ b₁ : BorderState) (t : ℕ) (xs : List ℕ) (i : ℕ)
    (lt : i < length xs) (is : t ≡ get_or xs i 0)
    (h : PlaysOn q (λ w. serial_of w xs) start b₀ (λ w. serial_of w (drop i xs)) s b₁) where
  next_begins : PlaysOn q (λ w. serial_of w xs) start b₀
      (λ w. rest_if_live w t >>= λ next. serial_of next (drop (i + 1) xs)) s b₁
  next_begins =
      plays_and q (λ w. serial_of w xs) (λ w. serial_of w (drop i xs))
      (λ w. rest_if_live w t >>= λ next. serial_of next (drop (i + 1) xs)) start s s b₀ b₁ b₁ h
      (plays_still q (λ w. serial_of w (drop i xs))
      (λ w. rest_if_live w t >>= λ next. serial_of next (drop (i + 1) xs)) s s b₁
      (λ o e. serial_at xs t i lt is (sent o e (world_of q s))))

  pub serial_next : (s' : State) (b₂ : BorderState)
      → PlaysOn q (λ w. rest_if_live w t) s b₁ (λ w. done w) s' b₂
      → PlaysOn q (λ w. serial_of w xs) start b₀ (λ w. serial_of w (drop (i + 1) xs)) s' b₂
  serial_next s' b₂ k =
      plays_and q (λ w. serial_of w xs)
      (λ w. rest_if_live w t >>= λ next. serial_of next (drop (i + 1) xs))
      (λ w. serial_of w (drop (i + 1) xs)) start s s' b₀ b₁ b₂ next_begins
      (plays_behind q (λ w. rest_if_live w t) (λ w. done w)
      (λ next. serial_of next (drop (i + 1) xs)) s s' b₁ b₂ k)

  -- in which the run stops
  serial_stopped : (b₂ : BorderState) (by : Stopper)
      → StopsIn q (λ w. w) (λ w. rest_if_live w t) by s b₁ b₂
      → StopsIn q (λ w. w) (λ w. serial_of w xs) by start b₀ b₂
  serial_stopped b₂ by k =
      stops_after q (λ w. w) (λ w. serial_of w xs)
      (λ w. rest_if_live w t >>= λ next. serial_of next (drop (i + 1) xs)) start s b₀ b₁ b₂ by
      next_begins
      (stops_before q (λ w. w) (λ w. w) (λ w. rest_if_live w t)
      (λ next. serial_of next (drop (i + 1) xs)) s b₁ b₂
      (λ o e w out err. fronts_serial o e (drop (i + 1) xs) w [] (out, err)) by k)

pub serial_starts : (q : ℕ) (s : State) (b : BorderState) (xs : List ℕ)
    → PlaysOn q (λ w. serial_of w xs) s b (λ w. serial_of w (drop 0 xs)) s b
serial_starts q s b xs =
    plays_still q (λ w. serial_of w xs) (λ w. serial_of w (drop 0 xs)) s s b (λ o e. refl)

pub serial_ends : (q : ℕ) (start s : State) (b₀ b₁ : BorderState) (xs : List ℕ) (i : ℕ)
    → length xs ≤ i
    → PlaysOn q (λ w. serial_of w xs) start b₀ (λ w. serial_of w (drop i xs)) s b₁
    → PlaysOn q (λ w. serial_of w xs) start b₀ (λ w. done w) s b₁
serial_ends q start s b₀ b₁ xs i le h =
    plays_and q (λ w. serial_of w xs) (λ w. serial_of w (drop i xs))
    (λ w. done w) start s s b₀ b₁ b₁ h
    (plays_still q (λ w. serial_of w (drop i xs)) (λ w. done w) s s b₁
    (λ o e. ap (serial_of (sent o e (world_of q s))) (drop_out xs i le)))

-- the first of those that have their parts yet
pub parts_at : (s : State) (xs : List ℕ) (i t : ℕ) → i < length xs → t ≡ get_or xs i 0
    → HaveParts (drop i xs) s → HaveParts (t ∷ drop (i + 1) xs) s
parts_at s xs i t lt is h =
    subst (λ n. HaveParts (n ∷ drop (i + 1) xs) s) (sym is)
    (subst (λ ts. HaveParts ts s) (drop_at xs i lt) h)

-- where the part of one of them has stopped
pub serial_stops : {T U : Type 0} (start s s' : State) (b₀ b₁ b₂ : BorderState) (t : ℕ)
    (xs : List ℕ) (i : ℕ) (stop : RunStop) → i < length xs → t ≡ get_or xs i 0
    → ((q : ℕ) → PlaysOn q (λ w. serial_of w xs) start b₀ (λ w. serial_of w (drop i xs)) s b₁)
    → StaysInRound start s
    → Serves {T = T} (λ w. rest_if_live w t) (Err stop) s b₁ s' b₂
    → Serves {T = U} (λ w. serial_of w xs) (Err stop) start b₀ s' b₂
serial_stops start s s' b₀ b₁ b₂ t xs i stop lt is goes round h = record {
  plays = λ q. record {
    goes = tt;
    stops = serial_stopped q start s b₀ b₁ t xs i lt is (goes q) b₂ (stopper stop)
        (h.plays q).stops;
  };
  sound = tt;
  round = stays-then h.round round;
  count = tt;
}

-- ---- a starter that lives, or not

pub rest_is_live : (q : ℕ) (s : State) (t : ℕ) → true ≡ is_some (thread_in s.table.threads t)
    → (o e : List ℕ)
    → rest_if_live (sent o e (world_of q s)) t ≡ rest_of (sent o e (world_of q s)) t
rest_is_live q s t live o e =
    ap (λ (b : Bool). cond b (rest_of (sent o e (world_of q s)) t)
    (done (sent o e (world_of q s)))) (sym live)

pub rest_of_gone : (q : ℕ) (s : State) (b : BorderState) (t : ℕ)
    → false ≡ is_some (thread_in s.table.threads t)
    → PlaysOn q (λ w. rest_if_live w t) s b (λ w. done w) s b
rest_of_gone q s b t gone =
    plays_still q (λ w. rest_if_live w t) (λ w. done w) s s b
    (λ o e. ap (λ (b : Bool). cond b (rest_of (sent o e (world_of q s)) t)
    (done (sent o e (world_of q s)))) (sym gone))
