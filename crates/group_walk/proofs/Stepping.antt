-- One instruction in place: a step doesn't depend on the budget of its thread.
use Rattle.std.proofs.Common.{ℕ, zero, suc, ◌+◌, ◌-◌, ◌%◌, ◌^◌, ◌<◌, ◌≡◌, refl, sym, ap, ap₂, ◌∙◌}
use Rattle.std.proofs.Common.{subst, cond, not, eqb, List, Option, Some, None, option_map}
use Rattle.std.proofs.Common.{Result, Ok, Err, arith}
use Rattle.std.proofs.Common.{[], ◌∷◌, List}
use Rattle.std.specs.Prelude.{MatchOption}
use Rattle.dos_world.specs.Numbered.{changed, changed_at}
use Rattle.dos_world.specs.World.{World, Thread, Registers, entry_at, thread_at}
use Rattle.dos_world.specs.World.{with_thread, with_budget}
use Rattle.dos_world.specs.Reach.{fault, in_frame, width, loaded, stored, bytes_of}
use Rattle.dos_world.specs.declared.Access.{Access}
use Rattle.dos_world.specs.declared.Access.TheVariants.{Fetch, Load, Store, Claim}
use Rattle.dos_world.specs.declared.Reason.{Reason}
use Rattle.dos_world.specs.declared.Size.{Size}
use Rattle.dos_world.specs.declared.Size.TheVariants.{Half, Word}
use Rattle.rv_isa.specs.declared.Instr.{Instr}
use Rattle.flat_machine.specs.Blind.{entry_at-with_thread}
use Rattle.flat_machine.specs.Effect.{Effect, goes, loads, stores, claims, stops, effect}
use Rattle.flat_machine.specs.Step.{◌>>=◌, step, step_of, step_by, performed, reached, half_at}
use Rattle.flat_machine.specs.Step.{instruction_at, place_or_reason, whole_word, lone_half, paid}
use Rattle.flat_machine.specs.Step.{with_word, paid_by}
use Rattle.flat_machine.specs.Laws.{after_steps}
use Rattle.flat_machine.proofs.Forms.{step-form}
use Rattle.proc_table.specs.Tables.{IsLiveThread, Tables, thread_by, thread_in}
use Rattle.kernel_calls.specs.StateWorld.{sent, world_of}
use Rattle.kernel_calls.specs.declared.state.State.{State}
use Rattle.group_rounds.specs.Parts.{RanPart, budget_in}
use Rattle.group_rounds.proofs.Sound.{lives_by}
use Rattle.group_rounds.proofs.ThreadRunLaws.{same_change}
use Rattle.group_walk.specs.Needs.{reason_of}

-- ---- a thread that changes twice

pub changed-then : (f g : Thread → Thread) (ts : List (Option Thread)) (t : ℕ)
    → changed (option_map g) (changed (option_map f) ts t) t
    ≡ changed (option_map (λ x. g (f x))) ts t
changed-then f g ts zero = refl
changed-then f g ts (suc i) = at_place ts i
  where
    at_place : (ts : List (Option Thread)) (i : ℕ)
        → changed_at (option_map g) (changed_at (option_map f) ts i) i
        ≡ changed_at (option_map (λ x. g (f x))) ts i
    at_place [] i = refl
    at_place (None ∷ ts) zero = refl
    at_place (Some x ∷ ts) zero = refl
    at_place (x ∷ ts) (suc i) = ap (λ ys. x ∷ ys) (at_place ts i)

-- ---- a step in a world in which its thread has another budget

-- what a world becomes, where there is one
abbrev pub behind : (World → World) → Result World Reason → Result World Reason
behind f (Ok next) = Ok (f next)
behind f (Err reason) = Err reason

module _ (w : World) (t n b : ℕ) (thread : Thread) (is : thread_at w t ≡ Some thread)
    (left : b ≡ thread.budget - 1) where
  -- t has this budget in place of its own
  abbrev other : World
  other = with_thread w t (with_budget n)

  -- and afterwards another
  abbrev again : World → World
  again next = with_thread next t (with_budget b)

  entry-same : (a : ℕ) → entry_at other t a ≡ entry_at w t a
  entry-same a = entry_at-with_thread w t (with_budget n) (λ x. refl) a

  reached-same : (a : ℕ) (size : Size) (access : Access)
      → reached other t a size access ≡ reached w t a size access
  reached-same a size access =
      ap (λ o. place_or_reason a access
      (cond (not (eqb (a % width size) 0)) (fault 7) (in_frame w t a access o))) (entry-same a)

  half-same : (a : ℕ) → half_at other t a ≡ half_at w t a
  half-same a = ap (λ r. r >>= λ place. Ok (loaded w place 2)) (reached-same a Half Fetch)

  instruction-same : (pc : ℕ) → instruction_at other t pc ≡ instruction_at w t pc
  instruction-same pc =
      ap₂ (λ first second. first >>= λ low.
      cond (eqb (low % 4) 3) (second >>= λ high. Ok (whole_word low high)) (Ok (lone_half low)))
      (half-same pc) (half-same ((pc + 2) % 2 ^ 32))

  then-behind : {A : Type 0} (r s : Result A Reason) (f g : A → World) → r ≡ s
      → ((a : A) → again (f a) ≡ g a)
      → behind again (r >>= λ a. Ok (f a)) ≡ (s >>= λ a. Ok (g a))
  then-behind (Ok a) s f g e each = ap Ok (each a) ∙ ap (λ r. r >>= λ x. Ok (g x)) e
  then-behind (Err reason) s f g e each = ap (λ r. r >>= λ x. Ok (g x)) e

  paid-again : (bytes : List ℕ) (r : Registers)
      → again (paid (record other { bytes = bytes }) t r) ≡ paid (record w { bytes = bytes }) t r
  paid-again bytes r =
      ap (λ ts. record w { bytes = bytes; threads = ts })
      (changed-then (paid_by r) (with_budget b) (changed (option_map (with_budget n)) w.threads t) t
      ∙ changed-then (with_budget n) (λ x. with_budget b (paid_by r x)) w.threads t
      ∙ same_change (λ x. with_budget b (paid_by r (with_budget n x))) (paid_by r) w.threads t
      thread is (ap (λ m. with_budget m (paid_by r thread)) left))

  performed-same : (e : Effect) → behind again (performed other t e) ≡ performed w t e
  performed-same (goes r) = ap Ok (paid-again w.bytes r)
  performed-same (loads address size next) =
      then-behind (reached other t address size Load) (reached w t address size Load)
      (λ place. paid other t (next (loaded other place (width size))))
      (λ place. paid w t (next (loaded w place (width size))))
      (reached-same address size Load)
      (λ place. paid-again w.bytes (next (loaded w place (width size))))
  performed-same (stores address size value r) =
      then-behind (reached other t address size Store) (reached w t address size Store)
      (λ place. paid (stored other place (bytes_of (width size) value)) t r)
      (λ place. paid (stored w place (bytes_of (width size) value)) t r)
      (reached-same address size Store)
      (λ place. paid-again (stored w place (bytes_of (width size) value)).bytes r)
  performed-same (claims address next new) =
      then-behind (reached other t address Word Claim) (reached w t address Word Claim)
      (λ place. paid (with_word other place (new (loaded other place 4))) t
      (next (loaded other place 4)))
      (λ place. paid (with_word w place (new (loaded w place 4))) t (next (loaded w place 4)))
      (reached-same address Word Claim)
      (λ place. by_new place (new (loaded w place 4)))
    where
      by_new : (place : ℕ) (o : Option ℕ)
          → again (paid (with_word other place o) t (next (loaded w place 4)))
          ≡ paid (with_word w place o) t (next (loaded w place 4))
      by_new place None = paid-again w.bytes (next (loaded w place 4))
      by_new place (Some word) =
          paid-again (stored w place (bytes_of 4 word)).bytes (next (loaded w place 4))
  performed-same (stops reason) = refl

  step_by-same : (found : Option Instr × ℕ)
      → behind again (step_by other t thread.registers found) ≡ step_by w t thread.registers found
  step_by-same found = go found.0
    where
      go : (o : Option Instr)
          → behind again (step_by other t thread.registers (o, found.1))
          ≡ step_by w t thread.registers (o, found.1)
      go None = refl
      go (Some instr) = performed-same (effect instr found.1 thread.registers)

  fetched-same : (r : Result (Option Instr × ℕ) Reason)
      → behind again (r >>= step_by other t thread.registers)
      ≡ (r >>= step_by w t thread.registers)
  fetched-same (Ok found) = step_by-same found
  fetched-same (Err reason) = refl

  -- who has another budget is the same thread otherwise
  other-is : thread_at other t ≡ Some (with_budget n thread)
  other-is = thread_in-changed w.threads t is
    where
      thread_in-changed : (ts : List (Option Thread)) (t : ℕ) → thread_in ts t ≡ Some thread
          → thread_in (changed (option_map (with_budget n)) ts t) t ≡ Some (with_budget n thread)
      thread_in-changed ts zero h = cc
      thread_in-changed ts (suc i) h = at_place ts i h
        where
          at_place : (ts : List (Option Thread)) (i : ℕ) → thread_in ts (suc i) ≡ Some thread
              → thread_in (changed_at (option_map (with_budget n)) ts i) (suc i)
              ≡ Some (with_budget n thread)
          at_place [] i h = cc
          at_place (None ∷ ts) zero h = cc
          at_place (Some x ∷ ts) zero h = let same : x ≡ thread = cc in
              ap (λ y. Some (with_budget n y)) same
          at_place (x ∷ ts) (suc i) h = at_place ts i h

  pub step-same : behind again (step other t) ≡ step w t
  step-same =
      ap (λ o. behind again (step_of other t o)) other-is
      ∙ ap (λ r. behind again (r >>= step_by other t thread.registers))
      (instruction-same thread.registers.pc)
      ∙ fetched-same (instruction_at w t thread.registers.pc)
      ∙ sym (ap (step_of w t) is)

-- ---- one instruction of a state

module _ (s : State) (t b : ℕ) (table : Tables) (thread : Thread)
    (is : thread_in s.table.threads t ≡ Some thread) (left : b ≡ thread.budget - 1)
    (set : table ≡ thread_by (with_budget 1) s.table t) (ran : State) (reason : Option Reason)
    (run : RanPart (record s { table = table }) t ran reason) (last : Tables)
    (set_back : last ≡ thread_by (with_budget b) ran.table t)
    (goes_on : (q : ℕ) (o e : List ℕ) → reason_of (step (sent o e (world_of q s)) t) ≡ None)
  where
    abbrev one : State
    one = record s { table = table }

    abbrev before : ℕ → List ℕ → List ℕ → World
    before q o e = sent o e (world_of q s)

    one-is : (q : ℕ) (o e : List ℕ)
        → sent o e (world_of q one) ≡ with_thread (before q o e) t (with_budget 1)
    one-is q o e = ap (λ (T : Tables). sent o e (world_of q (record s { table = T }))) set

    last-is : (q : ℕ) (o e : List ℕ)
        → with_thread (sent o e (world_of q ran)) t (with_budget b)
        ≡ sent o e (world_of q (record ran { table = last }))
    last-is q o e = ap (λ (T : Tables). sent o e (world_of q (record ran { table = T })))
        (sym set_back)

    -- the budget of the state that ran
    one_left : budget_in one t ≡ 1
    one_left =
        ap (λ (T : Tables). budget_in (record s { table = T }) t) set
        ∙ ap (λ o. elim o as (λ _. ℕ) [ None ↦ 0 | Some x ↦ x.budget ])
        (other-is (before 0 [] []) t 1 b thread is left)

    not_refused : (q : ℕ) (o e : List ℕ) (why : Reason)
        → step (with_thread (before q o e) t (with_budget 1)) t ≡ Err why → ⊥
    not_refused q o e why stopped =
        let refused : ◌≡◌ {A = Result World Reason} (Err why) (step (before q o e) t) =
        sym (ap (behind (again (before q o e) t 1 b thread is left)) stopped)
        ∙ step-same (before q o e) t 1 b thread is left in
        let none : ◌≡◌ {A = Option Reason} (Some why) None =
        ap reason_of refused ∙ goes_on q o e in
        cc

    by_count : (count : ℕ) (why : Option Reason) → budget_in one t ≡ count + budget_in ran t
        → (q : ℕ) (o e : List ℕ)
        → after_steps count (sent o e (world_of q one)) t ≡ Some (sent o e (world_of q ran))
        → (elim why as (λ _. Type 0) [
          | None ↦ budget_in ran t ≡ 0
          | Some r ↦ (0 < budget_in ran t)
              × ((q : ℕ) (o e : List ℕ) → step (sent o e (world_of q ran)) t ≡ Err r)
        ])
        → step (sent o e (world_of q one)) t ≡ Ok (sent o e (world_of q ran))
    by_count zero None paid q o e steps none =
        absurd (let l = one_left in omega (arith, l, paid, none))
    by_count zero (Some r) paid q o e steps stopped =
        let same : sent o e (world_of q one) ≡ sent o e (world_of q ran) = cc in
        absurd (not_refused q o e r
        (subst (λ v. step v t ≡ Err r) (sym same ∙ one-is q o e) (stopped.1 q o e)))
    by_count (suc zero) why paid q o e steps stopped =
        go (step (sent o e (world_of q one)) t) steps
      where
        go : (r : Result World Reason)
            → (elim r as (λ _. Option World) [ Ok next ↦ Some next | Err reason ↦ None ])
            ≡ Some (sent o e (world_of q ran)) → r ≡ Ok (sent o e (world_of q ran))
        go (Ok next) h = let same : next ≡ sent o e (world_of q ran) = cc in ap Ok same
        go (Err reason) h = cc
    by_count (suc (suc count)) why paid q o e steps stopped =
        absurd (let l = one_left in omega (arith, l, paid))

    pub steps_once : (q : ℕ) (o e : List ℕ)
        → step (before q o e) t ≡ Ok (sent o e (world_of q (record ran { table = last })))
    steps_once q o e =
        sym (step-same (before q o e) t 1 b thread is left)
        ∙ ap (behind (again (before q o e) t 1 b thread is left))
        (subst (λ v. step v t ≡ Ok (sent o e (world_of q ran))) (one-is q o e)
        (by_count run.count reason run.paid q o e (run.runs q o e) (stops_so reason run.stops)))
        ∙ ap Ok (last-is q o e)
      where
        stops_so : (why : Option Reason)
            → MatchOption why (budget_in ran t ≡ 0)
            (λ r. (0 < budget_in ran t)
            × ((q : ℕ) (o e : List ℕ) → step (sent o e (world_of q ran)) t ≡ Err r))
            → (elim why as (λ _. Type 0) [
              | None ↦ budget_in ran t ≡ 0
              | Some r ↦ (0 < budget_in ran t)
                  × ((q : ℕ) (o e : List ℕ) → step (sent o e (world_of q ran)) t ≡ Err r)
            ])
        stops_so None h = h
        stops_so (Some r) h = h

-- who lives, lives on
pub step-lives : (s s' : State) (t : ℕ) → step (world_of 0 s) t ≡ Ok (world_of 0 s') → (u : ℕ)
    → IsLiveThread s.table.threads u → IsLiveThread s'.table.threads u
step-lives s s' t h u live =
    let form = step-form (world_of 0 s) (world_of 0 s') t h in
    subst (λ (w : World). IsLiveThread w.threads u) (sym form.is)
    (lives_by (paid_by form.registers) s.table.threads t u live)

-- a state in which a thread has another budget
module _ (s : State) (t n : ℕ) (table : Tables)
    (set : table ≡ thread_by (with_budget n) s.table t) where
  pub budget_lives : (u : ℕ) → IsLiveThread s.table.threads u → IsLiveThread table.threads u
  budget_lives u live =
      subst (λ (T : Tables). IsLiveThread T.threads u) (sym set)
      (lives_by (with_budget n) s.table.threads t u live)
