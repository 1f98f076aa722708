-- What the parts of some threads leave as it is, and that worlds which differ in no more and agree
-- on those threads' registers, budgets and pages are one.
use Rattle.std.proofs.Common.{ℕ, zero, suc, ◌+◌, ◌*◌, ◌/◌, ◌%◌, ◌≡◌, ◌≢◌, ◌⊎◌, inl, inr, refl, sym}
use Rattle.std.proofs.Common.{ap, ◌∙◌, subst, Bool, true, false, eqb, eqb-true, List, [], ◌∷◌}
use Rattle.std.proofs.Common.{length, get_or, drop, Option, Some, None, option_map, Result, Ok, Err}
use Rattle.std.proofs.Common.{arith}
use Rattle.std.specs.Prelude.{slice_get, slice_index_or}
use Rattle.std.proofs.lemmas.List.{ext_get_or, get_or-take, get_or-drop}
use Rattle.dos_world.specs.World.{World, Thread, Process, Sleeper, Registers, flat, thread_at}
use Rattle.dos_world.specs.World.{owner_of, page_of, registers_by}
use Rattle.dos_world.specs.World.{released}
use Rattle.dos_world.specs.declared.Owner.{Owner}
use Rattle.dos_world.specs.declared.Owner.TheVariants.{Free, Shared, Of}
use Rattle.dos_world.specs.declared.Reason.{Reason}
use Rattle.dos_world.proofs.Numbers.{length-changed}
use Rattle.flat_machine.specs.Step.{step, paid_by}
use Rattle.flat_machine.specs.Laws.{kept}
use Rattle.flat_machine.proofs.Stays.{step-form}
use Rattle.flat_machine.specs.Alone.{budget_of, emptied, steps, alone}
use Rattle.flat_machine.specs.Laws.{without_progress, DiffersInOwn}
use Rattle.flat_machine.proofs.After.{steps-ok, steps-stopped}
use Rattle.flat_machine.proofs.Own.{alone-own}
use Rattle.flat_machine.specs.Round.{all_alone}
use Rattle.round_core.proofs.Commute.{Among}

-- ---- worlds that differ in parts of some threads

pub record DifferIn (ts : List ℕ) (w u : World) : Type 0 where
  pub owners : u.owners ≡ w.owners
  pub count : length u.bytes ≡ length w.bytes
  pub bytes : (i : ℕ) → ((t : ℕ) → Among ts t → owner_of w (i / 4096) ≢ Of t)
      → get_or u.bytes i 0 ≡ get_or w.bytes i 0
  pub processes : u.processes ≡ w.processes
  pub numbers : length u.threads ≡ length w.threads
  pub others : (s : ℕ) → (Among ts s → ⊥) → thread_at u s ≡ thread_at w s
  pub threads : (s : ℕ)
      → option_map without_progress (thread_at u s) ≡ option_map without_progress (thread_at w s)
  pub pipes : u.pipes ≡ w.pipes
  pub sleepers : u.sleepers ≡ w.sleepers
  pub rounds : u.rounds ≡ w.rounds
  pub quantum : u.quantum ≡ w.quantum
  pub output : u.output ≡ w.output
  pub error : u.error ≡ w.error

differ_in_nothing : (w : World) → DifferIn [] w w
differ_in_nothing w = record {
  owners = refl;
  count = refl;
  bytes = λ i h. refl;
  processes = refl;
  numbers = refl;
  others = λ s h. refl;
  threads = λ s. refl;
  pipes = refl;
  sleepers = refl;
  rounds = refl;
  quantum = refl;
  output = refl;
  error = refl;
}

steps-numbers : (n : ℕ) (w : World) (t : ℕ) → length ((steps n w t).threads) ≡ length w.threads
steps-numbers zero w t = refl
steps-numbers (suc n) w t = by_step (λ next. steps-numbers n next t) (step w t) refl
  where
    by_step : ((next : World) → length ((steps n next t).threads) ≡ length next.threads)
        → (r : Result World Reason) → step w t ≡ r
        → length ((steps (suc n) w t).threads) ≡ length w.threads
    by_step rest (Ok next) h =
        let form = step-form w next t h in
        ap (λ (x : World). length x.threads) (steps-ok n w next t h)
        ∙ rest next
        ∙ ap (λ (x : World). length x.threads) form.is
        ∙ length-changed (option_map (paid_by form.registers)) w.threads t
    by_step rest (Err reason) h =
        ap (λ (x : World). length x.threads) (steps-stopped (suc n) w t reason h)

alone-numbers : (w : World) (t : ℕ) → length ((alone w t).threads) ≡ length w.threads
alone-numbers w t =
    steps-numbers (budget_of w t) (emptied w t) t
    ∙ length-changed (option_map (registers_by released)) w.threads t

differ-first : (t : ℕ) (ts : List ℕ) (w v u : World) → DiffersInOwn t w v
    → length v.threads ≡ length w.threads → DifferIn ts v u → DifferIn (t ∷ ts) w u
differ-first t ts w v u d numbers r = record {
  owners = r.owners ∙ d.owners;
  count = r.count ∙ d.count;
  bytes = λ i none.
      r.bytes i
      (λ x h e. none x (inr h)
      (sym (ap (λ (os : List Owner). slice_index_or os (i / 4096) Free) d.owners) ∙ e))
      ∙ d.bytes i (none t (inl refl));
  processes = r.processes ∙ d.processes;
  numbers = r.numbers ∙ numbers;
  others = λ s out. r.others s (λ h. out (inr h)) ∙ d.others s (λ e. out (inl (sym e)));
  threads = λ s. r.threads s ∙ by_eq s (eqb s t) refl;
  pipes = r.pipes ∙ d.pipes;
  sleepers = r.sleepers ∙ d.sleepers;
  rounds = r.rounds ∙ d.rounds;
  quantum = r.quantum ∙ d.quantum;
  output = r.output ∙ d.output;
  error = r.error ∙ d.error;
}
  where
    by_eq : (s : ℕ) (b : Bool) → eqb s t ≡ b
        → option_map without_progress (thread_at v s) ≡ option_map without_progress (thread_at w s)
    by_eq s true e =
        subst (λ n. option_map without_progress (thread_at v n)
        ≡ option_map without_progress (thread_at w n))
        (sym (eqb-true s t e)) d.thread
    by_eq s false e =
        let other : s ≢ t = λ q. grind (arith, q, e) in
        ap (option_map without_progress) (d.others s other)

pub all_alone-differ : (ts : List ℕ) (w : World) → DifferIn ts w (all_alone w ts)
all_alone-differ [] w = differ_in_nothing w
all_alone-differ (t ∷ ts) w =
    differ-first t ts w (alone w t) (all_alone (alone w t) ts) (alone-own w t) (alone-numbers w t)
    (all_alone-differ ts (alone w t))

-- ---- two of them that agree on those parts are one

pub decide-among : (ts : List ℕ) (s : ℕ) → Among ts s ⊎ (Among ts s → ⊥)
decide-among [] s = inr (λ h. absurd h)
decide-among (t ∷ ts) s = by (decide-among ts s) (eqb t s) refl
  where
    by : Among ts s ⊎ (Among ts s → ⊥) → (b : Bool) → eqb t s ≡ b
        → Among (t ∷ ts) s ⊎ (Among (t ∷ ts) s → ⊥)
    by rest true e = inl (inl (eqb-true t s e))
    by (inl h) false e = inl (inr h)
    by (inr out) false e = inr (λ h. both h)
      where
        both : Among (t ∷ ts) s → ⊥
        both (inl q) = grind (arith, q, e)
        both (inr q) = out q

pub decide-owner : (ts : List ℕ) (o : Owner)
    → ((t : ℕ) × Among ts t × (o ≡ Of t)) ⊎ ((t : ℕ) → Among ts t → o ≢ Of t)
decide-owner ts Free = inr (λ t h q. free t q)
  where
    free : (t : ℕ) → Free ≡ Of t → ⊥
    free t q = cc
decide-owner ts Shared = inr (λ t h q. shared t q)
  where
    shared : (t : ℕ) → Shared ≡ Of t → ⊥
    shared t q = cc
decide-owner ts (Of s) = by (decide-among ts s)
  where
    Of-is : (a b : ℕ) → Of a ≡ Of b → a ≡ b
    Of-is a b q = cc

    by : Among ts s ⊎ (Among ts s → ⊥)
        → ((t : ℕ) × Among ts t × (Of s ≡ Of t)) ⊎ ((t : ℕ) → Among ts t → Of s ≢ Of t)
    by (inl h) = inl (s, h, refl)
    by (inr out) = inr (λ t h q. out (subst (Among ts) (sym (Of-is s t q)) h))

byte-in-page : (bytes : List ℕ) (i : ℕ)
    → get_or (page_of bytes (i / 4096)) (i % 4096) 0 ≡ get_or bytes i 0
byte-in-page bytes i =
    let place : 4096 * (i / 4096) + i % 4096 ≡ i = omega arith in
    get_or-take 4096 (drop (4096 * (i / 4096)) bytes) (i % 4096) 0 (omega arith)
    ∙ get_or-drop (4096 * (i / 4096)) bytes (i % 4096) 0
    ∙ ap (λ k. get_or bytes k 0) place

at-number : (ts : List (Option Thread)) (i : ℕ) → flat (slice_get ts i) ≡ get_or ts i None
at-number [] i = refl
at-number (None ∷ ts) zero = refl
at-number (Some x ∷ ts) zero = refl
at-number (x ∷ ts) (suc i) = at-number ts i

restore : Registers × ℕ → Thread → Thread
restore k thread = record thread { registers = k.0; budget = k.1 }

same-thread : (a b : Option Thread) → option_map kept a ≡ option_map kept b
    → option_map without_progress a ≡ option_map without_progress b → a ≡ b
unfolding restore
same-thread None None k w = refl
same-thread None (Some y) k w = cc
same-thread (Some x) None k w = cc
same-thread (Some x) (Some y) k w =
    let kx : kept x ≡ kept y = cc in
    let wx : without_progress x ≡ without_progress y = cc in
    ap Some (ap (λ z. restore z (without_progress x)) kx ∙ ap (λ z. restore (kept y) z) wx)

mk : List ℕ → List Owner → List Process → List (Option Thread) → List (List ℕ) → List Sleeper → ℕ
    → ℕ → List ℕ → List ℕ → World
mk x0 x1 x2 x3 x4 x5 x6 x7 x8 x9 =
    record {
      bytes = x0;
      owners = x1;
      processes = x2;
      threads = x3;
      pipes = x4;
      sleepers = x5;
      rounds = x6;
      quantum = x7;
      output = x8;
      error = x9;
    }

world-same : (u v : World) → u.bytes ≡ v.bytes → u.owners ≡ v.owners → u.processes ≡ v.processes
    → u.threads ≡ v.threads → u.pipes ≡ v.pipes → u.sleepers ≡ v.sleepers → u.rounds ≡ v.rounds
    → u.quantum ≡ v.quantum → u.output ≡ v.output → u.error ≡ v.error → u ≡ v
unfolding mk
world-same u v h0 h1 h2 h3 h4 h5 h6 h7 h8 h9 =
    ap
    (λ x. mk x u.owners u.processes u.threads u.pipes u.sleepers u.rounds u.quantum u.output
    u.error) h0
    ∙ ap
    (λ x. mk v.bytes x u.processes u.threads u.pipes u.sleepers u.rounds u.quantum u.output
    u.error) h1
    ∙ ap
    (λ x. mk v.bytes v.owners x u.threads u.pipes u.sleepers u.rounds u.quantum u.output u.error) h2
    ∙ ap
    (λ x. mk v.bytes v.owners v.processes x u.pipes u.sleepers u.rounds u.quantum u.output
    u.error) h3
    ∙ ap
    (λ x. mk v.bytes v.owners v.processes v.threads x u.sleepers u.rounds u.quantum u.output
    u.error) h4
    ∙ ap
    (λ x. mk v.bytes v.owners v.processes v.threads v.pipes x u.rounds u.quantum u.output
    u.error) h5
    ∙ ap
    (λ x. mk v.bytes v.owners v.processes v.threads v.pipes v.sleepers x u.quantum u.output
    u.error) h6
    ∙ ap
    (λ x. mk v.bytes v.owners v.processes v.threads v.pipes v.sleepers v.rounds x u.output
    u.error) h7
    ∙ ap
    (λ x. mk v.bytes v.owners v.processes v.threads v.pipes v.sleepers v.rounds v.quantum x
    u.error) h8
    ∙ ap
    (λ x. mk v.bytes v.owners v.processes v.threads v.pipes v.sleepers v.rounds v.quantum v.output
    x) h9

pub differ-same : (ts : List ℕ) (w u v : World) → DifferIn ts w u → DifferIn ts w v
    → ((t : ℕ) → Among ts t → option_map kept (thread_at u t) ≡ option_map kept (thread_at v t))
    → ((t frame : ℕ) → Among ts t → owner_of w frame ≡ Of t
    → page_of u.bytes frame ≡ page_of v.bytes frame)
    → u ≡ v
differ-same ts w u v a b threads pages =
    world-same u v
    (ext_get_or 0 u.bytes v.bytes (a.count ∙ sym b.count)
    (λ i h. byte i (decide-owner ts (owner_of w (i / 4096)))))
    (a.owners ∙ sym b.owners) (a.processes ∙ sym b.processes)
    (ext_get_or None u.threads v.threads (a.numbers ∙ sym b.numbers)
    (λ i h. sym (at-number u.threads i) ∙ thread (suc i) (decide-among ts (suc i))
    ∙ at-number v.threads i))
    (a.pipes ∙ sym b.pipes) (a.sleepers ∙ sym b.sleepers) (a.rounds ∙ sym b.rounds)
    (a.quantum ∙ sym b.quantum) (a.output ∙ sym b.output) (a.error ∙ sym b.error)
  where
    byte : (i : ℕ)
        → ((t : ℕ) × Among ts t × (owner_of w (i / 4096) ≡ Of t))
        ⊎ ((t : ℕ) → Among ts t → owner_of w (i / 4096) ≢ Of t)
        → get_or u.bytes i 0 ≡ get_or v.bytes i 0
    byte i (inl h) =
        sym (byte-in-page u.bytes i)
        ∙ ap (λ page. get_or page (i % 4096) 0) (pages h.0 (i / 4096) h.1 h.2)
        ∙ byte-in-page v.bytes i
    byte i (inr out) = a.bytes i out ∙ sym (b.bytes i out)

    thread : (s : ℕ) → Among ts s ⊎ (Among ts s → ⊥) → thread_at u s ≡ thread_at v s
    thread s (inl h) =
        same-thread (thread_at u s) (thread_at v s) (threads s h) (a.threads s ∙ sym (b.threads s))
    thread s (inr out) = a.others s out ∙ sym (b.others s out)
