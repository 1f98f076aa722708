-- What follows a stop of a thread, over the kernel's state.
use Rattle.std.proofs.Common.{ℕ, zero, suc, ◌+◌, ◌-◌, ◌<◌, ◌≤◌, ◌≡◌, refl, sym, ap, ap₂, ◌∙◌, subst}
use Rattle.std.proofs.Common.{Bool, cond, true, false, List, [], ◌∷◌, length, Option, Some, None}
use Rattle.std.proofs.Common.{option_map, arith}
use Rattle.std.specs.Prelude.{map, Result, Ok, Err, IsSome, MatchOption}
use Rattle.dos_world.specs.World.{World, Thread}
use Rattle.dos_world.specs.Kernel.{process_ended}
use Rattle.dos_world.specs.Play.{done, ◌>>=◌}
use Rattle.dos_world.specs.Services.{service}
use Rattle.dos_world.specs.declared.Access.{Access}
use Rattle.dos_world.specs.declared.Reason.{Reason}
use Rattle.dos_world.specs.declared.Reason.TheVariants.{Page, Fault, Service}
use Rattle.dos_io.specs.Borders.{BorderState, exchanges_of}
use Rattle.dos_io.specs.Exchanges.{answer_of}
use Rattle.dos_laws.specs.Plays.{world_served}
use Rattle.dos_laws.specs.Standing.{LawfulWith}
use Rattle.dos_laws.proofs.Mapped.{entry_taken}
use Rattle.dos_laws.proofs.StandsEnds.{stands-process_ended}
use Rattle.dos_laws.proofs.StandsKeeps.{stands_kept}
use Rattle.flat_machine.specs.Step.{step}
use Rattle.flat_machine.specs.Alone.{emptied, steps, alone}
use Rattle.flat_machine.specs.Laws.{after_steps}
use Rattle.round_core.specs.Granting.{grants_needed}
use Rattle.round_core.specs.Laws.{MapsWithin}
use Rattle.flat_machine.specs.Rest.{page_granted, process_of, after_service, turns, rest_of}
use Rattle.round_core.proofs.Turning.{goes_on, turns-granted, turns-fault, turns-service}
use Rattle.round_core.proofs.Turning.{turns-after_steps, few_grants, needed-granted}
use Rattle.proc_table.specs.Tables.{thread_in, IsLiveThread}
use Rattle.kernel_calls.specs.StateWorld.{HaveParts, IsSound, world_of, sent, way_in, left_after}
use Rattle.kernel_calls.specs.Plays.{Answers, Plays, PlaysOn, PlaysOnce, Stopper, StopsIn}
use Rattle.kernel_calls.specs.Plays.{sent_then}
use Rattle.kernel_calls.proofs.ServicePlays.{goes-over}
use Rattle.kernel_calls.proofs.Playing.{once_plays, plays_and, plays_before, plays_from}
use Rattle.kernel_calls.proofs.Playing.{plays_still}
use Rattle.kernel_calls.proofs.Playing.{stops_after}
use Rattle.kernel_calls.specs.declared.state.RunStop.{RunStop}
use Rattle.kernel_calls.specs.declared.state.State.{State}
use Rattle.kernel_calls.specs.declared.state.Served.{Served}
use Rattle.kernel_calls.specs.declared.state.Served.TheVariants.{Went, Waits, Yields, Gone}
use Rattle.group_rounds.specs.Parts.{KeepsCount, RanPart, budget_in, goes_on_after, turns_left}
use Rattle.group_rounds.specs.Parts.{part_left, part_measure}
use Rattle.group_rounds.proofs.FrontLaws.{fronts_after_service}
use Rattle.group_rounds.proofs.Pays.{HasPaid, budget_at}
use Rattle.group_rounds.proofs.Pays.{process_ended-count, service_paid}
use Rattle.group_rounds.proofs.ThreadRunLaws.{some_of}
use Rattle.group_rounds.proofs.Sound.{parts_then, sound_one}

one_less : (n : ℕ) → 0 < n → n ≡ suc (n - 1)
one_less n h = omega (arith, h)

-- what t maps is there, whatever was sent
maps_within : (s : State) (t : ℕ) → IsSound s → (q : ℕ) (o e : List ℕ)
    → MapsWithin (sent o e (world_of q s)) t
maps_within s t sound q o e address entry found =
    (entry_taken (world_of 16 s) t address entry (sound_one s sound) found).within

-- ---- instructions

module _ (s s' : State) (t : ℕ) (reason : Option Reason) (ran : RanPart s t s' reason) where
  pub run_goes : (q : ℕ) (b : BorderState) → PlaysOn q (turns_left t) s b (turns_left t) s' b
  run_goes q b = plays_still q (turns_left t) (turns_left t) s s' b (λ o e.
      ap (λ n. turns n (sent o e (world_of q s)) t) ran.paid
      ∙ turns-after_steps ran.count (budget_in s' t) (sent o e (world_of q s))
      (sent o e (world_of q s')) t (ran.runs q o e))

  pub run_measure : part_measure s' t ≤ part_measure s t
  run_measure = go ran.count ran.paid (ran.runs 0 [] [])
    where
      go : (count : ℕ) → budget_in s t ≡ count + budget_in s' t
          → after_steps count (world_of 0 s) t ≡ Some (world_of 0 s')
          → part_measure s' t ≤ part_measure s t
      go zero paid runs =
          let same : world_of 0 s ≡ world_of 0 s' = cc in
          let needs : grants_needed 3 (world_of 0 s) t ≡ grants_needed 3 (world_of 0 s') t =
          ap (λ w. grants_needed 3 w t) same in
          omega (arith, paid, needs)
      go (suc count) paid runs = let few = few_grants 3 (world_of 0 s') t in
          omega (arith, paid, few)

-- ---- the parallel part

steps-after_steps : (k n : ℕ) (w w' : World) (t : ℕ) → after_steps k w t ≡ Some w'
    → steps (k + n) w t ≡ steps n w' t
steps-after_steps zero n w w' t e = let same : w ≡ w' = cc in
    ap (λ m. steps m w t) (let z : 0 + n ≡ n = omega arith in z) ∙ ap (λ v. steps n v t) same
steps-after_steps (suc k) n w w' t e =
    ap (λ m. steps m w t) (let z : suc k + n ≡ suc (k + n) = omega arith in z)
    ∙ go (λ next. steps-after_steps k n next w' t) (step w t) refl e
  where
    go : ((next : World) → after_steps k next t ≡ Some w' → steps (k + n) next t ≡ steps n w' t)
        → (r : Result World Reason) → step w t ≡ r
        → (elim r as (λ _. Option World) [ Ok next ↦ after_steps k next t | Err reason ↦ None ])
        ≡ Some w' → steps (suc (k + n)) w t ≡ steps n w' t
    go rest (Ok next) is h =
        ap (λ (r : Result World Reason). elim r as (λ _. World) [
          | Ok next ↦ steps (k + n) next t
          | Err reason ↦ w
        ]) is ∙ rest next h
    go rest (Err reason) is h = cc

-- who stops runs no further
steps-stopped : (n : ℕ) (w : World) (t : ℕ) (reason : Reason) → step w t ≡ Err reason
    → steps n w t ≡ w
steps-stopped zero w t reason e = refl
steps-stopped (suc n) w t reason e =
    ap (λ (r : Result World Reason). elim r as (λ _. World) [
      | Ok next ↦ steps n next t
      | Err reason ↦ w
    ]) e

-- t begins, and runs until it stops or its budget is 0
pub alone_runs : (s begun s' : State) (t : ℕ) (reason : Option Reason)
    → ((q : ℕ) (o e : List ℕ) → emptied (sent o e (world_of q s)) t ≡ sent o e (world_of q begun))
    → budget_in begun t ≡ budget_in s t → RanPart begun t s' reason
    → (q : ℕ) (o e : List ℕ) → alone (sent o e (world_of q s)) t ≡ sent o e (world_of q s')
alone_runs s begun s' t reason empties same ran q o e =
    ap₂ (λ n w. steps n w t) (sym same ∙ ran.paid) (empties q o e)
    ∙ steps-after_steps ran.count (budget_in s' t) (sent o e (world_of q begun))
    (sent o e (world_of q s')) t (ran.runs q o e) ∙ go reason ran.stops
  where
    go : (r : Option Reason)
        → MatchOption r (budget_in s' t ≡ 0)
        (λ r. (0 < budget_in s' t)
        × ((q : ℕ) (o e : List ℕ) → step (sent o e (world_of q s')) t ≡ Err r))
        → steps (budget_in s' t) (sent o e (world_of q s')) t ≡ sent o e (world_of q s')
    go None h = ap (λ n. steps n (sent o e (world_of q s')) t) h
    go (Some r) h = steps-stopped (budget_in s' t) (sent o e (world_of q s')) t r (h.1 q o e)

-- t's serial part, as it begins
pub rest_begins : (s begun : State) (t : ℕ)
    → ((q : ℕ) (o e : List ℕ) → emptied (sent o e (world_of q s)) t ≡ sent o e (world_of q begun))
    → budget_in begun t ≡ budget_in s t
    → (q : ℕ) (b : BorderState) → PlaysOn q (λ w. rest_of w t) s b (turns_left t) begun b
rest_begins s begun t empties same q b =
    plays_still q (λ w. rest_of w t) (turns_left t) s begun b
    (λ o e. ap₂ (λ n w. turns n w t) (sym same) (empties q o e))

-- where its budget is 0, the part is over
pub run_over : (s : State) (t : ℕ) → budget_in s t ≡ 0 → (q : ℕ) (b : BorderState)
    → PlaysOn q (turns_left t) s b (λ w. done w) s b
run_over s t none q b =
    plays_still q (turns_left t) (λ w. done w) s s b
    (λ o e. ap (λ n. turns n (sent o e (world_of q s)) t) none)

-- ---- a grant

module _ (s s' : State) (t address : ℕ) (access : Access) (sound : IsSound s)
    (budget : 0 < budget_in s t)
    (stops : (q : ℕ) (o e : List ℕ) → step (sent o e (world_of q s)) t ≡ Err (Page address access))
    (grants : (q : ℕ) (o e : List ℕ)
    → page_granted (sent o e (world_of q s)) t address access ≡ sent o e (world_of q s'))
    (same : s'.table ≡ s.table) where
  budget_same : budget_in s' t ≡ budget_in s t
  budget_same = ap (λ table. budget_in (record s { table = table }) t) same

  pub grant_goes : (q : ℕ) (b : BorderState) → PlaysOn q (turns_left t) s b (turns_left t) s' b
  grant_goes q b = plays_still q (turns_left t) (turns_left t) s s' b (λ o e.
      let w : World = sent o e (world_of q s) in
      ap (λ n. turns n w t) (one_less (budget_in s t) budget)
      ∙ turns-granted w t address access (budget_in s t - 1) (maps_within s t sound q o e)
      (stops q o e)
      ∙ ap (λ v. turns (suc (budget_in s t - 1)) v t) (grants q o e)
      ∙ ap (λ n. turns n (sent o e (world_of q s')) t)
      (sym (one_less (budget_in s t) budget) ∙ sym budget_same))

  pub grant_measure : part_measure s' t < part_measure s t
  grant_measure =
      let needs : grants_needed 3 (world_of 0 s) t ≡ suc (grants_needed 3 (world_of 0 s') t) =
      needed-granted (world_of 0 s) t address access (maps_within s t sound 0 [] []) (stops 0 [] [])
      ∙ ap (λ w. suc (grants_needed 3 w t)) (grants 0 [] []) in
      let budgets = budget_same in
      omega (arith, needs, budgets)

-- ---- a fault

pub fault_goes : (s s' : State) (t number : ℕ) → 0 < budget_in s t
    → ((q : ℕ) (o e : List ℕ) → step (sent o e (world_of q s)) t ≡ Err (Fault number))
    → ((q : ℕ) (o e : List ℕ)
    → process_ended (sent o e (world_of q s)) (process_of (sent o e (world_of q s)) t)
    (128 + number) ≡ sent o e (world_of q s'))
    → (q : ℕ) (b : BorderState) → PlaysOn q (turns_left t) s b (λ w. done w) s' b
fault_goes s s' t number budget stops ends q b =
    plays_still q (turns_left t) (λ w. done w) s s' b (λ o e.
    let w : World = sent o e (world_of q s) in
    ap (λ n. turns n w t) (one_less (budget_in s t) budget)
    ∙ turns-fault w t (budget_in s t - 1) number (stops q o e) ∙ ap done (ends q o e))

-- and leaves as many frames
pub fault_count : (s s' : State) (p status : ℕ)
    → process_ended (world_of 0 s) p status ≡ world_of 0 s' → KeepsCount s s'
fault_count s s' p status ends = ap (λ w. length w.owners) (sym ends)
    ∙ process_ended-count (world_of 0 s) p status

-- ---- a service

-- what is left is the service, and then the turns with one of the budget less
turn_serves : (s : State) (t : ℕ) → 0 < budget_in s t
    → ((q : ℕ) (o e : List ℕ) → step (sent o e (world_of q s)) t ≡ Err Service)
    → (q : ℕ) (o e : List ℕ)
    → turns_left t (sent o e (world_of q s))
    ≡ (service (sent o e (world_of q s)) t
    >>= λ served. goes_on (budget_in s t - 1) t (after_service served))
turn_serves s t budget stops q o e =
    ap (λ n. turns n (sent o e (world_of q s)) t) (one_less (budget_in s t) budget)
    ∙ turns-service (sent o e (world_of q s)) t (budget_in s t - 1) (stops q o e)

-- so the call of the service plays the turn, on to what follows the service
pub turn_plays : (s s' : State) (t : ℕ) → 0 < budget_in s t
    → ((q : ℕ) (o e : List ℕ) → step (sent o e (world_of q s)) t ≡ Err Service)
    → (result : Result Served RunStop) (before after : BorderState)
    → PlaysOnce (λ w. service w t) result s before s' after
    → (q : ℕ) → Plays q (λ w. w) (turns_left t)
    (λ way w. goes_on (budget_in s t - 1) t (after_service (way_in way w))) result s before s' after
turn_plays s s' t budget stops result before after h q =
    plays_from q (λ w. w) (turns_left t)
    (λ w. service w t >>= λ served. goes_on (budget_in s t - 1) t (after_service served))
    (λ way w. goes_on (budget_in s t - 1) t (after_service (way_in way w))) result s s' before after
    (turn_serves s t budget stops q)
    (plays_before q world_served (λ w. w) (λ w. service w t)
    (λ served. goes_on (budget_in s t - 1) t (after_service served))
    (λ way w. done (way_in way w)) result s s' before after
    (λ o e served out err. fronts_after_service o e (budget_in s t - 1) t served [] (out, err))
    (once_plays q (λ w. service w t) result s s' before after h))

module _ (s s' : State) (t : ℕ) (live : IsLiveThread s.table.threads t) (before after : BorderState)
    (way : Served) (answers : Answers (λ w. service w t) s before way s' after) where
  caller : (thread : Thread) × (thread_in s.table.threads t ≡ Some thread)
  caller = some_of (thread_in s.table.threads t) live

  -- the world that the service left
  abbrev left : World
  left = sent_then answers.crossings [] [] (world_of 0 s')

  paid : HasPaid t (caller.0.budget - 1) (length s.frames.owners) (way_in way left)
  paid = service_paid (world_of 0 s) t caller.0 (map answer_of (exchanges_of answers.crossings)) []
      (way_in way left) caller.1
      (goes-over [] [] answers.crossings (service (world_of 0 s) t) (way_in way left)
      (answers.goes 0 [] []))

  budget_before : budget_in s t ≡ caller.0.budget
  budget_before = ap (λ o. elim o as (λ _. ℕ) [ None ↦ 0 | Some thread ↦ thread.budget ]) caller.1

  -- there are as many frames
  pub served_count : KeepsCount s s'
  served_count = go way paid
    where
      go : (way : Served)
          → HasPaid t (caller.0.budget - 1) (length s.frames.owners)
          (way_in way left)
          → length s'.frames.owners ≡ length s.frames.owners
      go Went h = h.1
      go Waits h = h
      go Yields h = h
      go Gone h = h

  -- where it goes on, it lives, with one of its budget less
  on_left : goes_on_after way ≡ true → budget_at s'.table.threads t ≡ Some (caller.0.budget - 1)
  on_left = go way paid
    where
      go : (way : Served)
          → HasPaid t (caller.0.budget - 1) (length s.frames.owners)
          (way_in way left)
          → goes_on_after way ≡ true → budget_at s'.table.threads t ≡ Some (caller.0.budget - 1)
      go Went h on = h.0
      go Waits h on = cc
      go Yields h on = cc
      go Gone h on = cc

  pub on_lives : goes_on_after way ≡ true → IsLiveThread s'.table.threads t
  on_lives on = go (thread_in s'.table.threads t) (on_left on)
    where
      go : (o : Option Thread)
          → option_map (λ (thread : Thread). thread.budget) o ≡ Some (caller.0.budget - 1)
          → IsSome o
      go None h = cc
      go (Some thread) h = refl

  on_budget : goes_on_after way ≡ true → budget_in s' t ≡ budget_in s t - 1
  on_budget on = go (thread_in s'.table.threads t) (on_left on)
      ∙ sym (ap (λ n. n - 1) budget_before)
    where
      go : (o : Option Thread)
          → option_map (λ (thread : Thread). thread.budget) o ≡ Some (caller.0.budget - 1)
          → (elim o as (λ _. ℕ) [ None ↦ 0 | Some thread ↦ thread.budget ]) ≡ caller.0.budget - 1
      go None h = cc
      go (Some thread) h = cc

  pub on_measure : 0 < budget_in s t → goes_on_after way ≡ true
      → part_measure s' t < part_measure s t
  on_measure budget on = let less = on_budget on in let few = few_grants 3 (world_of 0 s') t in
      omega (arith, less, few, budget)

  pub service_goes : 0 < budget_in s t
      → ((q : ℕ) (o e : List ℕ) → step (sent o e (world_of q s)) t ≡ Err Service)
      → (q : ℕ) → PlaysOn q (turns_left t) s before (part_left t (goes_on_after way)) s' after
  service_goes budget stops q =
      plays_and q (turns_left t)
      (λ w. goes_on (budget_in s t - 1) t (after_service (way_in way w)))
      (part_left t (goes_on_after way)) s s' s' before after after
      (turn_plays s s' t budget stops (Ok way) before after (record { ends = answers; stops = tt })
      q).goes
      (plays_still q (λ w. goes_on (budget_in s t - 1) t (after_service (way_in way w)))
      (part_left t (goes_on_after way)) s' s' after (last way on_budget))
    where
      last : (way : Served) → (goes_on_after way ≡ true → budget_in s' t ≡ budget_in s t - 1)
          → (o e : List ℕ)
          → goes_on (budget_in s t - 1) t (after_service (way_in way (sent o e (world_of q s'))))
          ≡ part_left t (goes_on_after way) (sent o e (world_of q s'))
      last Went less o e = ap (λ n. turns n (sent o e (world_of q s')) t) (sym (less refl))
      last Waits less o e = refl
      last Yields less o e = refl
      last Gone less o e = refl

-- who has a part after a service of t's
pub parts_left : (way : Served) (t : ℕ) (ts : List ℕ) (s : State)
    → HaveParts (left_after way t ts) s → HaveParts (cond (goes_on_after way) (t ∷ ts) ts) s
parts_left Went t ts s h = h
parts_left Waits t ts s h = h
parts_left Yields t ts s h = h
parts_left Gone t ts s h = h

-- the end of t's process leaves the others theirs
pub parts_ended : (s s' : State) (t p status : ℕ) (ts : List ℕ) → IsSound s → status < 256
    → ((q : ℕ) (o e : List ℕ)
    → process_ended (sent o e (world_of q s)) p status ≡ sent o e (world_of q s'))
    → HaveParts (t ∷ ts) s → HaveParts ts s'
parts_ended s s' t p status ts sound small ends =
    parts_then s s' (t ∷ ts) ts sound
    (λ k. subst (LawfulWith ts) (ends 16 [] [])
    (stands-process_ended ts (world_of 16 s) p status small
    (stands_kept.passes ts (world_of 16 s) t k)))

-- ---- the part

-- From the part's begin over the instructions and then a turn.
module _ (q t : ℕ) (start s ran : State) (b₀ b₁ : BorderState) (reason : Option Reason)
    (h : PlaysOn q (λ w. rest_of w t) start b₀ (turns_left t) s b₁) (run : RanPart s t ran reason)
  where
    rest_runs : PlaysOn q (λ w. rest_of w t) start b₀ (turns_left t) ran b₁
    rest_runs = plays_and q (λ w. rest_of w t) (turns_left t) (turns_left t) start s ran b₀ b₁ b₁ h
        (run_goes s ran t reason run q b₁)

    goes_turn : (after : State) (b₂ : BorderState) (on : Bool)
        → PlaysOn q (turns_left t) ran b₁ (part_left t on) after b₂
        → PlaysOn q (λ w. rest_of w t) start b₀ (part_left t on) after b₂
    goes_turn after b₂ on k = plays_and q (λ w. rest_of w t) (turns_left t) (part_left t on) start
        ran after b₀ b₁ b₂ rest_runs k

    -- after which the part goes on
    pub goes_further : (after : State) (b₂ : BorderState) (on : Bool) → on ≡ true
        → PlaysOn q (turns_left t) ran b₁ (part_left t on) after b₂
        → PlaysOn q (λ w. rest_of w t) start b₀ (turns_left t) after b₂
    goes_further after b₂ on is k =
        subst (λ on. PlaysOn q (λ w. rest_of w t) start b₀ (part_left t on) after b₂) is
        (goes_turn after b₂ on k)

    -- after which it is over
    pub goes_out : (after : State) (b₂ : BorderState) (on : Bool) → on ≡ false
        → PlaysOn q (turns_left t) ran b₁ (part_left t on) after b₂
        → PlaysOn q (λ w. rest_of w t) start b₀ (λ w. done w) after b₂
    goes_out after b₂ on is k =
        subst (λ on. PlaysOn q (λ w. rest_of w t) start b₀ (part_left t on) after b₂) is
        (goes_turn after b₂ on k)

    -- in which the run stops
    pub rest_stops : (b₂ : BorderState) (by : Stopper)
        → StopsIn q (λ w. w) (turns_left t) by ran b₁ b₂
        → StopsIn q (λ w. w) (λ w. rest_of w t) by start b₀ b₂
    rest_stops b₂ by k = stops_after q (λ w. w) (λ w. rest_of w t) (turns_left t) start ran b₀ b₁ b₂
        by rest_runs k

-- over the instructions alone, after which the budget is 0
pub goes_over_budget : (q t : ℕ) (start s ran : State) (b₀ b₁ : BorderState)
    → PlaysOn q (λ w. rest_of w t) start b₀ (turns_left t) s b₁ → RanPart s t ran None
    → PlaysOn q (λ w. rest_of w t) start b₀ (λ w. done w) ran b₁
goes_over_budget q t start s ran b₀ b₁ h run =
    plays_and q (λ w. rest_of w t) (turns_left t) (λ w. done w) start ran ran b₀ b₁ b₁
    (rest_runs q t start s ran b₀ b₁ None h run) (run_over ran t run.stops q b₁)
