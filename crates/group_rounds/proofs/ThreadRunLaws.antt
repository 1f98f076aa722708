-- A thread that runs in place, and the grant of a page, over the kernel's state.
use Rattle.std.proofs.Common.{ℕ, zero, suc, ◌-◌, ◌/◌, ◌<◌, ◌≤◌, ◌≡◌, refl, sym, ap, ap₂, ◌∙◌, subst}
use Rattle.std.proofs.Common.{List, [], ◌∷◌, length, length-set, Option, Some, None, option_map}
use Rattle.std.proofs.Common.{arith, ◌⊎◌, inl, inr, true}
use Rattle.std.proofs.lemmas.Bool.{true≢false}
use Rattle.std.specs.Prelude.{All, IsSome, IfSome, Err, MatchOption, slice_get}
use Rattle.dos_world.specs.Numbered.{changed, changed_at}
use Rattle.dos_world.specs.World.{World, Thread, Registers, Holdings, flat, space_of, look}
use Rattle.dos_world.specs.World.{entry_at}
use Rattle.dos_world.specs.Reach.{granted}
use Rattle.dos_world.specs.declared.Access.{Access}
use Rattle.dos_world.specs.declared.Entry.{Entry}
use Rattle.dos_world.specs.declared.Reason.{Reason}
use Rattle.dos_laws.proofs.Mapped.{IsTaken, space_taken, looked, process_lives, not_free}
use Rattle.dos_laws.specs.Standing.{LawfulWith}
use Rattle.flat_machine.specs.Laws.{kept}
use Rattle.flat_machine.specs.Step.{step}
use Rattle.quantum_run.specs.Shows.{thread_space}
use Rattle.quantum_run.specs.ThreadRuns.{run_to, AreMapped, IsRunOf, StartsElsewhere, is_stop_at}
use Rattle.flat_machine.specs.Laws.{after_steps}
use Rattle.dos_world.specs.World.{ran}
use Rattle.flat_machine.specs.Rest.{page_granted, granted_by}
use Rattle.page_store.specs.Store.{Store, AreHome, IsOwned, with_grant}
use Rattle.proc_table.specs.Tables.{Tables, thread_in, held_in, thread_by, IsLiveThread, IsProcess}
use Rattle.kernel_calls.specs.StateWorld.{HaveParts, IsSound, world_of, sent}
use Rattle.kernel_calls.specs.declared.state.State.{State}
use Rattle.kernel_calls.proofs.Counted.{all_counted, counted_like}
use Rattle.group_rounds.specs.Parts.{IsAtOneOf, RanPart, RanUpTo, budget_in}
use Rattle.group_rounds.proofs.Sound.{sound_then, parts_then, sound_one, steps_keep, grant_keeps}

-- ---- a live thread

-- what a clause says of the value that is there
pub of_some : {A : Type 0} (P : A → Type 0) (o : Option A) (x : A) → o ≡ Some x → IfSome o P → P x
of_some P o x is h = subst (λ o. IfSome o P) is h

pub some_of : {A : Type 0} (o : Option A) → IsSome o → (x : A) × (o ≡ Some x)
some_of None h = cc
some_of (Some x) h = (x, refl)

-- a live thread, and what its process has
pub record Seen (s : State) (t : ℕ) : Type 0 where
  pub thread : Thread
  pub is : thread_in s.table.threads t ≡ Some thread
  pub holdings : Holdings
  pub has : held_in s.table.processes thread.process ≡ Some holdings

pub seen : (s : State) (t : ℕ) → IsSound s → IsLiveThread s.table.threads t → Seen s t
seen s t sound live =
    let found = some_of (thread_in s.table.threads t) live in
    let had = process_lives (world_of 16 s) t found.0 (sound_one s sound) found.1 in
    record { thread = found.0; is = found.1; holdings = had.0; has = had.1 }

-- what is changed is there
pub thread_in-by : (f : Thread → Thread) (threads : List (Option Thread)) (t : ℕ)
    → thread_in (changed (option_map f) threads t) t ≡ option_map f (thread_in threads t)
thread_in-by f threads zero = refl
thread_in-by f threads (suc i) = go threads i
  where
    go : (threads : List (Option Thread)) (i : ℕ)
        → flat (slice_get (changed_at (option_map f) threads i) i)
        ≡ option_map f (flat (slice_get threads i))
    go [] i = refl
    go (None ∷ threads) zero = refl
    go (Some thread ∷ threads) zero = refl
    go (x ∷ threads) (suc i) = go threads i

-- two changes that do the same to the thread that is there
pub same_change : (f g : Thread → Thread) (threads : List (Option Thread)) (t : ℕ) (thread : Thread)
    → thread_in threads t ≡ Some thread → f thread ≡ g thread
    → changed (option_map f) threads t ≡ changed (option_map g) threads t
same_change f g threads zero thread is same = refl
same_change f g threads (suc i) thread is same = go threads i is
  where
    go : (threads : List (Option Thread)) (i : ℕ) → flat (slice_get threads i) ≡ Some thread
        → changed_at (option_map f) threads i ≡ changed_at (option_map g) threads i
    go [] i is = refl
    go (None ∷ threads) zero is = refl
    go (Some x ∷ threads) zero is = let here : x ≡ thread = cc in
        ap (λ y. Some y ∷ threads) (ap f here ∙ same ∙ ap g (sym here))
    go (x ∷ threads) (suc i) is = ap (λ rest. x ∷ rest) (go threads i is)

-- ---- what is read of it

module _ (s : State) (t : ℕ) (sound : IsSound s) (live : IsLiveThread s.table.threads t) where
  abbrev here : Seen s t
  here = seen s t sound live

  pub process_is : (pid : ℕ) → IfSome (thread_in s.table.threads t) (λ thread. pid ≡ thread.process)
      → pid ≡ here.thread.process
  process_is pid h = of_some (λ thread. pid ≡ thread.process)
      (thread_in s.table.threads t) here.thread here.is h

  -- its process lives
  pub holds : (pid : ℕ) → IfSome (thread_in s.table.threads t) (λ thread. pid ≡ thread.process)
      → IsProcess s.table.processes pid
  holds pid h = subst (λ p. IsProcess s.table.processes p) (sym (process_is pid h))
      (subst (λ o. IsSome o) (sym here.has) refl)

  pub space_is : (pid : ℕ) (entries : List (ℕ × Entry))
      → IfSome (thread_in s.table.threads t) (λ thread. pid ≡ thread.process)
      → IfSome (held_in s.table.processes pid) (λ h. entries ≡ h.space)
      → entries ≡ here.holdings.space
  space_is pid entries p h =
      of_some (λ h. entries ≡ h.space)
      (held_in s.table.processes here.thread.process) here.holdings here.has
      (subst (λ p. IfSome (held_in s.table.processes p) (λ h. entries ≡ h.space))
      (process_is pid p) h)

  -- each of its entries names a frame that there is, and that isn't Free
  pub taken : (entries : List (ℕ × Entry)) → entries ≡ here.holdings.space → (page : ℕ) (e : Entry)
      → look entries page ≡ Some e → IsTaken (world_of 16 s) e.frame
  taken entries same page e found =
      let w : World = world_of 16 s in
      let all : All (λ e. IsTaken w e.1.frame) here.holdings.space =
      subst (λ o. All (λ e. IsTaken w e.1.frame)
      (elim o as (λ _. List (ℕ × Entry)) [ None ↦ [] | Some h ↦ h.space ])) here.has
      (space_taken w here.thread.process (sound_one s sound)) in
      (looked (λ e. IsTaken w e.1.frame) here.holdings.space page e all
      (ap (λ es. look es page) (sym same) ∙ found)).1

  pub mapped : (entries : List (ℕ × Entry)) → entries ≡ here.holdings.space
      → AreMapped s.frames entries
  mapped entries same page e found =
      let one = taken entries same page e found in
      let within : e.frame < length s.frames.owners = one.within in
      let count = sound.counted.home.owners in
      (omega (arith, within, count), not_free _ one.owner)

  -- the flat world's space of it, whatever was sent
  pub thread_space_is : (q : ℕ) (o e : List ℕ)
      → thread_space (sent o e (world_of q s)) t ≡ here.holdings.space
  thread_space_is q o e =
      ap (λ x. elim x as (λ _. List (ℕ × Entry)) [
        | None ↦ []
        | Some thread ↦ space_of (sent o e (world_of q s)) thread.process
      ]) here.is
      ∙ ap (λ x. elim x as (λ _. List (ℕ × Entry)) [ None ↦ [] | Some h ↦ h.space ]) here.has

  pub is_run : (q : ℕ) (o e : List ℕ) (entries : List (ℕ × Entry)) (registers : Registers)
      (budget : ℕ) → entries ≡ here.holdings.space → registers ≡ here.thread.registers
      → budget ≡ here.thread.budget
      → IsRunOf (sent o e (world_of q s)) s.frames entries t registers budget
  is_run q o e entries registers budget es rs bs = record {
    bytes = refl;
    owners = refl;
    space = thread_space_is q o e ∙ sym es;
    thread = ap (option_map kept) here.is ∙ ap₂ (λ r b. Some (r, b)) (sym rs) (sym bs);
  }

  pub registers_is : (registers : Registers)
      → IfSome (thread_in s.table.threads t) (λ thread. registers ≡ thread.registers)
      → registers ≡ here.thread.registers
  registers_is registers h =
      of_some (λ thread. registers ≡ thread.registers)
      (thread_in s.table.threads t) here.thread here.is h

  pub own_budget : (budget : ℕ)
      → IfSome (thread_in s.table.threads t) (λ thread. budget ≡ thread.budget)
      → budget ≡ here.thread.budget
  own_budget budget h = of_some (λ thread. budget ≡ thread.budget)
      (thread_in s.table.threads t) here.thread here.is h

  pub budget_is : (budget : ℕ)
      → IfSome (thread_in s.table.threads t) (λ thread. budget ≡ thread.budget)
      → budget ≡ budget_in s t
  budget_is budget h = own_budget budget h
      ∙ sym (ap (λ o. elim o as (λ _. ℕ) [ None ↦ 0 | Some thread ↦ thread.budget ]) here.is)

-- ---- after a run in place

-- what run_until_address and set_run leave of a state
pub record IsRunFrom (stops : List ℕ) (s : State) (t : ℕ) (entries : List (ℕ × Entry))
    (registers : Registers) (budget : ℕ) (frames : Store) (table : Tables)
    (registers' : Registers) (budget' : ℕ)
    (reason : Option Reason) : Type 0 where
  pub runs : (w : World) → IsRunOf w s.frames entries t registers budget
      → after_steps (budget - budget') w t ≡ Some (run_to w t frames.pages registers' budget')
  pub stop : MatchOption reason ((budget' ≡ 0) ⊎ (is_stop_at stops registers'.pc ≡ true))
      (λ r. (0 < budget')
      × ((w : World) → IsRunOf w s.frames entries t registers budget
      → step (run_to w t frames.pages registers' budget') t ≡ Err r))
  pub elsewhere : (w : World) → IsRunOf w s.frames entries t registers budget
      → StartsElsewhere stops (budget - budget') w t
  pub within : budget' ≤ budget
  pub owners : frames.owners ≡ s.frames.owners
  pub uses : frames.uses ≡ s.frames.uses
  pub home : AreHome frames
  pub count : length frames.owners ≡ length frames.pages
  pub table_is : table ≡ thread_by (ran registers' budget') s.table t

module _ (ends : List ℕ) (s : State) (t : ℕ) (sound : IsSound s)
    (live : IsLiveThread s.table.threads t)
    (entries : List (ℕ × Entry)) (registers : Registers) (budget : ℕ) (frames : Store)
    (table : Tables) (registers' : Registers) (budget' : ℕ) (reason : Option Reason)
    (es : entries ≡ (seen s t sound live).holdings.space)
    (rs : registers ≡ (seen s t sound live).thread.registers)
    (bs : budget ≡ (seen s t sound live).thread.budget)
    (run : IsRunFrom ends s t entries registers budget frames table registers' budget' reason) where
  abbrev after : State
  after = record s { frames = frames; table = table }

  world_after : (q : ℕ) (o e : List ℕ)
      → run_to (sent o e (world_of q s)) t frames.pages registers' budget'
      ≡ sent o e (world_of q after)
  world_after q o e = ap₂
      (λ owners (table : Tables). sent o e
      (world_of q
      (record after { frames = record frames { owners = owners }; table = table })))
      (sym run.owners) (sym run.table_is)

  thread_after : thread_in table.threads t
      ≡ Some (ran registers' budget' (seen s t sound live).thread)
  thread_after = ap (λ (table : Tables). thread_in table.threads t) run.table_is
      ∙ thread_in-by (ran registers' budget') s.table.threads t
      ∙ ap (option_map (ran registers' budget')) (seen s t sound live).is

  budget_before : budget_in s t ≡ budget
  budget_before = ap (λ o. elim o as (λ _. ℕ) [ None ↦ 0 | Some thread ↦ thread.budget ])
      (seen s t sound live).is ∙ sym bs

  budget_after : budget_in after t ≡ budget'
  budget_after = ap (λ o. elim o as (λ _. ℕ) [ None ↦ 0 | Some thread ↦ thread.budget ])
      thread_after

  runs_so : (q : ℕ) (o e : List ℕ)
      → after_steps (budget - budget') (sent o e (world_of q s)) t
      ≡ Some (sent o e (world_of q after))
  runs_so q o e = run.runs (sent o e (world_of q s))
      (is_run s t sound live q o e entries registers budget es rs bs)
      ∙ ap Some (world_after q o e)

  stops_so : (o : Option Reason)
      → MatchOption o ((budget' ≡ 0) ⊎ (is_stop_at ends registers'.pc ≡ true))
      (λ r. (0 < budget')
      × ((w : World) → IsRunOf w s.frames entries t registers budget
      → step (run_to w t frames.pages registers' budget') t ≡ Err r))
      → MatchOption o ((budget_in after t ≡ 0) ⊎ IsAtOneOf ends after t)
      (λ r. (0 < budget_in after t)
      × ((q : ℕ) (o e : List ℕ) → step (sent o e (world_of q after)) t ≡ Err r))
  stops_so None (inl none) = inl (budget_after ∙ none)
  stops_so None (inr there) =
      inr (subst (λ o. MatchOption o ⊥
      (λ (thread : Thread). is_stop_at ends thread.registers.pc ≡ true)) (sym thread_after) there)
  stops_so (Some r) h = (
    subst (λ n. 0 < n) (sym budget_after) h.0,
    λ q o e. ap (λ w. step w t) (sym (world_after q o e))
        ∙ h.1 (sent o e (world_of q s))
        (is_run s t sound live q o e entries registers budget es rs bs),
  )

  pub run_after : RanUpTo ends s t after reason
  run_after = record {
    count = budget - budget';
    paid = let was = budget_before in let now = budget_after in let within = run.within in
        omega (arith, was, now, within);
    runs = runs_so;
    elsewhere = λ q o e. run.elsewhere (sent o e (world_of q s))
        (is_run s t sound live q o e entries registers budget es rs bs);
    stops = stops_so reason run.stop;
  }

  -- and the state stays sound, with who has a part
  pub sound_after : IsSound after
  sound_after = sound_then s after sound
      (counted_like s after (record {
        home = record { home = run.home; owners = run.count };
        round = refl;
        room = ap (λ (table : Tables). table.room) run.table_is;
        frames = ap length run.owners;
        uses = run.uses;
        readers = refl;
        writers = refl;
        processes = ap (λ (table : Tables). all_counted table.processes) run.table_is;
      }) sound.counted)
      (λ q k. steps_keep [] (budget - budget') (world_of q s) (world_of q after) t (runs_so q [] [])
      k)

  pub parts_after : (ts : List ℕ) → HaveParts ts s → HaveParts ts after
  parts_after ts = parts_then s after ts ts sound
      (steps_keep ts (budget - budget') (world_of 16 s) (world_of 16 after) t (runs_so 16 [] []))

  pub live_after : IsLiveThread table.threads t
  live_after = subst (λ o. IsSome o) (sym thread_after) refl

-- a run up to no address is a part
pub part_ran : (s : State) (t : ℕ) (after : State) (reason : Option Reason)
    → RanUpTo [] s t after reason → RanPart s t after reason
part_ran s t after reason ran = record {
  count = ran.count;
  paid = ran.paid;
  runs = ran.runs;
  stops = stops reason ran.stops;
}
  where
    nowhere : (o : Option Thread)
        → MatchOption o ⊥ (λ (thread : Thread). is_stop_at [] thread.registers.pc ≡ true) → ⊥
    nowhere None h = h
    nowhere (Some thread) h = true≢false (sym h)

    stops : (o : Option Reason)
        → MatchOption o ((budget_in after t ≡ 0) ⊎ IsAtOneOf [] after t)
        (λ r. (0 < budget_in after t)
        × ((q : ℕ) (o e : List ℕ) → step (sent o e (world_of q after)) t ≡ Err r))
        → MatchOption o (budget_in after t ≡ 0)
        (λ r. (0 < budget_in after t)
        × ((q : ℕ) (o e : List ℕ) → step (sent o e (world_of q after)) t ≡ Err r))
    stops None (inl none) = none
    stops None (inr there) = absurd (nowhere (thread_in after.table.threads t) there)
    stops (Some r) h = h

-- ---- after a grant

module _ (s : State) (t : ℕ) (sound : IsSound s) (live : IsLiveThread s.table.threads t)
    (address : ℕ)
    (access : Access) (entries : List (ℕ × Entry))
    (es : entries ≡ (seen s t sound live).holdings.space) where
  entry_is : (q : ℕ) (o e : List ℕ)
      → entry_at (sent o e (world_of q s)) t address ≡ look entries (address / 4096)
  entry_is q o e =
      ap (λ x. elim x as (λ _. Option Entry) [
        | None ↦ None
        | Some thread ↦ look (space_of (sent o e (world_of q s)) thread.process)
            (address / 4096)
      ]) (seen s t sound live).is
      ∙ ap (λ x. look (elim x as (λ _. List (ℕ × Entry)) [ None ↦ [] | Some h ↦ h.space ])
      (address / 4096)) (seen s t sound live).has
      ∙ ap (λ es. look es (address / 4096)) (sym es)

  pub granted_none : look entries (address / 4096) ≡ None → (q : ℕ) (o e : List ℕ)
      → page_granted (sent o e (world_of q s)) t address access ≡ sent o e (world_of q s)
  granted_none none q o e =
      ap (granted_by (sent o e (world_of q s)) t access) (entry_is q o e ∙ none)

  module _ (entry : Entry) (found : look entries (address / 4096) ≡ Some entry) where
    abbrev granted_state : State
    granted_state = record s { frames = with_grant s.frames entry.frame t access }

    pub granted_one : (q : ℕ) (o e : List ℕ)
        → page_granted (sent o e (world_of q s)) t address access
        ≡ sent o e (world_of q granted_state)
    granted_one q o e = ap (granted_by (sent o e (world_of q s)) t access) (entry_is q o e ∙ found)

    pub owned_one : IsOwned s.frames entry.frame
    owned_one = (mapped s t sound live entries es (address / 4096) entry found).1

    pub sound_granted : IsSound granted_state
    sound_granted = sound_then s granted_state sound
        (counted_like s granted_state (record {
          home = record {
            home = sound.counted.home.home;
            owners =
                length-set s.frames.owners entry.frame (granted t access)
                ∙ sound.counted.home.owners;
          };
          round = refl;
          room = refl;
          frames = length-set s.frames.owners entry.frame (granted t access);
          uses = refl;
          readers = refl;
          writers = refl;
          processes = refl;
        }) sound.counted)
        (λ q k. subst (LawfulWith []) (granted_one q [] [])
        (grant_keeps [] (world_of q s) t address access k))
