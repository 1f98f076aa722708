-- What every change of a round keeps, the whole round keeps: one walk over the plays, for any
-- invariant.
use Rattle.std.proofs.Common.{ℕ, zero, suc, ◌+◌, ◌-◌, ◌≡◌, refl, ◌∙◌, subst}
use Rattle.std.proofs.Common.{cond, List, [], ◌∷◌, Option, Some, None, Result}
use Rattle.std.proofs.Common.{Ok, Err}
use Rattle.std.specs.Prelude.{All, is_some}
use Rattle.std.proofs.lemmas.Bool.{cond_both}
use Rattle.std.proofs.lemmas.List.Elements.{All-head, All-tail}
use Rattle.dos_world.specs.World.{World, Thread, thread_at, entry_at, live_threads, ready_threads}
use Rattle.dos_world.specs.World.{with_thread, get}
use Rattle.dos_world.specs.Kernel.{posted}
use Rattle.dos_world.specs.Play.{Play, done, ask, posts_of}
use Rattle.dos_world.specs.Calls.{Served, went, waits, yields, gone}
use Rattle.dos_world.specs.Services.{service, service_for}
use Rattle.dos_world.specs.Signals.{all_posted, signal_turn, signal_turns, signalled, ripen}
use Rattle.dos_world.specs.declared.Access.{Access}
use Rattle.dos_world.specs.declared.Entry.{Entry}
use Rattle.dos_world.specs.declared.Post.{Post}
use Rattle.dos_world.specs.declared.Question.TheVariants.{Signals}
use Rattle.dos_world.specs.declared.Reason.{Reason}
use Rattle.dos_world.specs.declared.Scheme.{Scheme}
use Rattle.dos_world.specs.declared.Scheme.TheVariants.{Ownership, Buffered}
use Rattle.dos_world.specs.declared.Reason.TheVariants.{Page, Fault, Service as service_reason}
use Rattle.flat_machine.specs.Step.{step}
use Rattle.flat_machine.specs.Alone.{budget_of, emptied, steps, alone}
use Rattle.flat_machine.specs.Rest.{granted_by, page_granted, settled, Turn, on, over_with}
use Rattle.flat_machine.specs.Rest.{service_done, after_step, turn, turns, rest_of, rest_if_live}
use Rattle.flat_machine.specs.Rest.{serial_of}
use Rattle.flat_machine.specs.Round.{RoundEnd, finished, stalled, all_alone, parallel, with_budget}
use Rattle.flat_machine.specs.Round.{with_budgets, budgets, counted, phases_by, is_none_of}
use Rattle.flat_machine.specs.Round.{begun_by, phase_of, round_by, round_of}
use Rattle.flat_machine.specs.Buffered.{buffered}
use Rattle.flat_machine.specs.Round.{went as went_on}
use Rattle.round_core.specs.Protocol.{Protocol, Allows}
use Rattle.round_core.specs.Invariants.{Holds, Keeps, IsInvariant, LeavesServed, LeavesEnd}
use Rattle.round_core.specs.Invariants.{PhaseKeeps}
use Rattle.round_core.proofs.Allowed.{then_allows}

module _ (protocol : Protocol) (I : Holds) (k : Keeps protocol I) where
  -- ---- the parallel phase

  pub steps_keep : (count : ℕ) (ts : List ℕ) (w : World) (t : ℕ) → I ts w → I ts (steps count w t)
  steps_keep zero ts w t h = h
  steps_keep (suc count) ts w t h = by_step (λ next. steps_keep count ts next t) (step w t) refl
    where
      by_step : ((next : World) → I ts next → I ts (steps count next t)) → (r : Result World Reason)
          → step w t ≡ r
          → I ts (elim r as (λ _. World) [ Ok next ↦ steps count next t | Err reason ↦ w ])
      by_step rest (Ok next) is = rest next (k.steps_kept ts w next t is h)
      by_step rest (Err reason) is = h

  pub alone_keeps : (ts : List ℕ) (w : World) (t : ℕ) → I ts w → I ts (alone w t)
  alone_keeps ts w t h = steps_keep (budget_of w t) ts (emptied w t) t (k.emptied_kept ts w t h)

  pub all_alone_keep : (ts : List ℕ) (w : World) (us : List ℕ) → I ts w → I ts (all_alone w us)
  all_alone_keep ts w [] h = h
  all_alone_keep ts w (u ∷ us) h = all_alone_keep ts (alone w u) us (alone_keeps ts w u h)

  pub parallel_keeps : PhaseKeeps I parallel
  parallel_keeps ts w h = all_alone_keep ts w (ready_threads w) h

  pub with_budgets_keep : (ts : List ℕ) (w : World) (us : List ℕ) → I ts w
      → I ts (with_budgets w us)
  with_budgets_keep ts w [] h = h
  with_budgets_keep ts w (u ∷ us) h =
      with_budgets_keep ts (with_thread w u (with_budget w.quantum)) us (k.budget_kept ts w u h)

  -- ---- an instruction after its grants

  pub page_granted_keeps : (ts : List ℕ) (w : World) (t address : ℕ) (access : Access) → I ts w
      → I ts (page_granted w t address access)
  page_granted_keeps ts w t address access h = by_entry (entry_at w t address) refl
    where
      by_entry : (o : Option Entry) → entry_at w t address ≡ o → I ts (granted_by w t access o)
      by_entry None is = h
      by_entry (Some e) is = k.grant_kept ts w t address access e is h

  -- the world that the grants leave, that of the step, where it goes, and where it faults, that it
  -- faults there
  abbrev KeepsSettled : List ℕ → ℕ → World × Result World Reason → Type 0
  KeepsSettled ts t s =
      I ts
      s.0 × ((next : World) → s.1 ≡ Ok next → I ts next)
      × ((number : ℕ) → s.1 ≡ Err (Fault number) → step s.0 t ≡ Err (Fault number))

  pub settled_keeps : (count : ℕ) (ts : List ℕ) (w : World) (t : ℕ) → I ts w
      → KeepsSettled ts t (settled count w t)
  settled_keeps zero ts w t h = (h, λ next is. k.steps_kept ts w next t is h, λ number is. is)
  settled_keeps (suc count) ts w t h = by_step (λ u. settled_keeps count ts u t) (step w t) refl
    where
      same : {a b : World} → ◌≡◌ {A = Result World Reason} (Ok a) (Ok b) → a ≡ b
      same e = cc

      by_step : ((u : World) → I ts u → KeepsSettled ts t (settled count u t))
          → (r : Result World Reason) → step w t ≡ r
          → KeepsSettled ts t (elim r as (λ _. World × Result World Reason) [
            | Ok next ↦ (w, Ok next)
            | Err reason ↦ elim reason as (λ _. World × Result World Reason) [
              | Page address access ↦ settled count (page_granted w t address access) t
              | Fault number ↦ (w, Err (Fault number))
              | service_reason ↦ (w, Err service_reason)
            ]
          ])
      by_step rest (Ok next) is =
          (h, λ other e. subst (I ts) (same e) (k.steps_kept ts w next t is h), λ number e. cc)
      by_step rest (Err (Page address access)) is =
          rest (page_granted w t address access) (page_granted_keeps ts w t address access h)
      by_step rest (Err (Fault number)) is = (h, λ other e. cc, λ n e. is ∙ e)
      by_step rest (Err service_reason) is = (h, λ other e. cc, λ number e. cc)

  -- ---- a service

  service_keeps : (ts : List ℕ) (w : World) (t : ℕ) → I (t ∷ ts) w
      → Allows protocol (LeavesServed I t ts) (service w t)
  service_keeps ts w t h = by_thread (thread_at w t) refl
    where
      by_thread : (o : Option Thread) → thread_at w t ≡ o
          → Allows protocol (LeavesServed I t ts) (service_for w t o)
      by_thread None is = k.passes ts w t h
      by_thread (Some thread) is = k.served (get thread.registers 17) ts w t thread is h

  -- ---- a turn, a part, and the phase

  abbrev LeavesTurn : ℕ → List ℕ → Turn → Type 0
  LeavesTurn t ts (on w) = I (t ∷ ts) w
  LeavesTurn t ts (over_with w) = I ts w

  turned : (ts : List ℕ) (t : ℕ) (s : Served) → LeavesServed I t ts s
      → Allows protocol (LeavesTurn t ts) (service_done s)
  turned ts t (went w) h = h
  turned ts t (waits w) h = h
  turned ts t (yields w) h = h
  turned ts t (gone w) h = h

  after_step_keeps : (ts : List ℕ) (w : World) (t : ℕ) (r : Result World Reason) → I (t ∷ ts) w
      → ((next : World) → r ≡ Ok next → I (t ∷ ts) next)
      → ((number : ℕ) → r ≡ Err (Fault number) → step w t ≡ Err (Fault number))
      → Allows protocol (LeavesTurn t ts) (after_step t w r)
  after_step_keeps ts w t (Ok next) h goes faults = goes next refl
  after_step_keeps ts w t (Err (Page address access)) h goes faults = k.passes ts w t h
  after_step_keeps ts w t (Err (Fault number)) h goes faults =
      k.fault_kept ts w t number (faults number refl) h
  after_step_keeps ts w t (Err service_reason) h goes faults =
      then_allows protocol (LeavesServed I t ts) (LeavesTurn t ts) (service w t) service_done
      (service_keeps ts w t h) (turned ts t)

  pub turn_keeps : (ts : List ℕ) (w : World) (t : ℕ) → I (t ∷ ts) w
      → Allows protocol (LeavesTurn t ts) (turn w t)
  turn_keeps ts w t h =
      let s = settled_keeps 3 (t ∷ ts) w t h in
      after_step_keeps ts (settled 3 w t).0 t (settled 3 w t).1 s.0 s.1 s.2

  pub turns_keep : (count : ℕ) (ts : List ℕ) (w : World) (t : ℕ) → I (t ∷ ts) w
      → Allows protocol (I ts) (turns count w t)
  turns_keep zero ts w t h = k.passes ts w t h
  turns_keep (suc count) ts w t h =
      then_allows protocol (LeavesTurn t ts) (I ts) (turn w t)
      (λ taken. elim taken as (λ _. Play World) [
        | on next ↦ turns count next t
        | over_with last ↦ done last
      ])
      (turn_keeps ts w t h) (by_turn (λ u. turns_keep count ts u t))
    where
      by_turn : ((u : World) → I (t ∷ ts) u → Allows protocol (I ts) (turns count u t))
          → (taken : Turn) → LeavesTurn t ts taken
          → Allows protocol (I ts)
          (elim taken as (λ _. Play World) [
            | on next ↦ turns count next t
            | over_with last ↦ done last
          ])
      by_turn rest (on next) h = rest next h
      by_turn rest (over_with last) h = h

  pub rest_keeps : (ts : List ℕ) (w : World) (t : ℕ) → I (t ∷ ts) w
      → Allows protocol (I ts) (rest_of w t)
  rest_keeps ts w t h =
      turns_keep (budget_of w t) ts (emptied w t) t (k.emptied_kept (t ∷ ts) w t h)

  pub serial_keeps : (w : World) (ts : List ℕ) → I ts w → Allows protocol (I []) (serial_of w ts)
  serial_keeps w [] h = h
  serial_keeps w (t ∷ ts) h =
      then_allows protocol (I ts) (I []) (rest_if_live w t) (λ next. serial_of next ts)
      (cond_both (is_some (thread_at w t)) (rest_of w t) (done w) (Allows protocol (I ts))
      (λ lives. rest_keeps ts w t h) (λ gone. k.passes ts w t h))
      (λ next. serial_keeps next ts)

  -- ---- the signal point

  all_posted_keep : (w : World) (posts : List Post) → All protocol.posts posts → I [] w
      → I [] (all_posted w posts)
  all_posted_keep w [] all h = h
  all_posted_keep w (post ∷ posts) all h =
      all_posted_keep (posted w post.pid post.signal) posts (All-tail protocol.posts post posts all)
      (k.post_kept w post (All-head protocol.posts post posts all) h)

  signal_turns_keep : (w : World) (ts : List ℕ) → I [] w → I [] (signal_turns w ts)
  signal_turns_keep w [] h = h
  signal_turns_keep w (t ∷ ts) h = signal_turns_keep (signal_turn w t) ts (k.turn_kept w t h)

  pub signalled_keeps : (w : World) (posts : List Post) → All protocol.posts posts → I [] w
      → I [] (signalled w posts)
  signalled_keeps w posts all h =
      signal_turns_keep (all_posted w posts) (live_threads (all_posted w posts))
      (all_posted_keep w posts all h)

  -- ---- the round

  phases_keep : (phase : World → World) → PhaseKeeps I phase → (w : World) → I [] w
      → Allows protocol (LeavesEnd (I [])) (phases_by phase w (ready_threads w))
  phases_keep phase kept w h =
      let starters : List ℕ = ready_threads w in
      let opening : World = with_budgets w starters in
      let halfway : World = phase opening in
      then_allows protocol (I []) (LeavesEnd (I [])) (serial_of halfway starters)
      (λ last. done (went_on (counted last) (budgets opening starters - budgets halfway starters)))
      (serial_keeps halfway starters
      (kept starters opening
      (with_budgets_keep starters w starters (k.begins w h))))
      (λ last left. (last, refl, left))

  begun_keeps : (phase : World → World) → PhaseKeeps I phase → (w : World) → I [] w
      → Allows protocol (LeavesEnd (I [])) (begun_by phase w)
  begun_keeps phase kept w h =
      cond_both (is_none_of (live_threads w)) (done (finished w))
      (cond (is_none_of (ready_threads w)) (done (stalled w)) (phases_by phase w (ready_threads w)))
      (Allows protocol (LeavesEnd (I []))) (λ none. h)
      (λ some. cond_both (is_none_of (ready_threads w)) (done (stalled w))
      (phases_by phase w (ready_threads w)) (Allows protocol (LeavesEnd (I []))) (λ none. h)
      (λ ready. phases_keep phase kept w h))

  -- the signals of a round, and who ripens
  pub opened_keeps : (w : World) (posts : List Post) → All protocol.posts posts → I [] w
      → I [] (ripen (signalled w posts))
  opened_keeps w posts all h = k.ripen_kept (signalled w posts) (signalled_keeps w posts all h)

  -- A round, where it may ask for its signals.
  pub round_by_keeps : (phase : World → World) → PhaseKeeps I phase → (w : World)
      → protocol.may (Signals (w.rounds + 1)) w.output w.error → I [] w
      → Allows protocol (LeavesEnd (I [])) (round_by phase w)
  round_by_keeps phase kept w may h =
      cond_both (is_none_of (live_threads w)) (done (finished w)) asked
      (Allows protocol (LeavesEnd (I []))) (λ none. h)
      (λ some. (
        may,
        λ answer is. begun_keeps phase kept (ripen (signalled w (posts_of answer)))
            (opened_keeps w (posts_of answer) (protocol.brings answer is) h),
      ))
    where
      asked : Play RoundEnd
      asked =
          ask (Signals (w.rounds + 1)) w.output w.error
          (λ answer. begun_by phase (ripen (signalled w (posts_of answer))))

  -- the parallel phase of either scheme, where the buffered one keeps it
  pub phase_keeps : PhaseKeeps I buffered → (scheme : Scheme) → PhaseKeeps I (phase_of scheme)
  phase_keeps kept Ownership = parallel_keeps
  phase_keeps kept Buffered = kept

  pub round_keeps : PhaseKeeps I buffered → (scheme : Scheme) (w : World)
      → protocol.may (Signals (w.rounds + 1)) w.output w.error → I [] w
      → Allows protocol (LeavesEnd (I [])) (round_of scheme w)
  round_keeps kept scheme = round_by_keeps (phase_of scheme) (phase_keeps kept scheme)

  pub kept_throughout : IsInvariant protocol I
  kept_throughout = record {
    alone_kept = alone_keeps;
    parallel_kept = parallel_keeps;
    service_kept = service_keeps;
    rest_kept = rest_keeps;
    serial_kept = λ ts w h. serial_keeps w ts h;
    signals_kept = signalled_keeps;
    phases_kept = begun_keeps;
    round_kept = round_by_keeps;
  }
