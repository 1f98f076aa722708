-- Whole parts of some of the ready threads are a mix of instructions, and each pack shows it.
use Rattle.std.proofs.Common.{ℕ, zero, suc, ◌+◌, ◌-◌, ◌*◌, ◌/◌, ◌<◌, ◌≤◌, ◌≡◌, ◌≢◌, ◌⊎◌, inl, inr}
use Rattle.std.proofs.Common.{refl, sym, ap, ◌∙◌, subst, Bool, cond, true, false, not, eqb}
use Rattle.std.proofs.Common.{eqb-true, List, [], ◌∷◌, ◌++◌, length, get_or, Option}
use Rattle.std.proofs.Common.{Some, None, option_map, Result, Ok, Err, arith}
use Rattle.std.specs.Prelude.{fold, replicate, slice_get, slice_index_or, option_and_then, ◌&&◌}
use Rattle.std.specs.Prelude.{◌==◌, IfSome}
use Rattle.dos_world.specs.Numbered.{numbered, changed, changed_at}
use Rattle.dos_world.specs.World.{World, Thread, Process, flat, thread_at, is_state, ready_threads}
use Rattle.dos_world.specs.World.{registers_by, released, owner_of, page_of, look, holdings_of}
use Rattle.dos_world.specs.declared.Entry.{Entry}
use Rattle.dos_world.specs.declared.Owner.{Owner}
use Rattle.dos_world.specs.declared.Owner.TheVariants.{Free, Shared, Of}
use Rattle.dos_world.specs.declared.Reason.{Reason}
use Rattle.dos_world.specs.declared.ThreadState.TheVariants.{Ready}
use Rattle.flat_machine.specs.Step.{step, paid_by}
use Rattle.flat_machine.specs.Laws.{kept}
use Rattle.flat_machine.proofs.Dependence.{take_drop_same}
use Rattle.flat_machine.proofs.Keeps.{step-keeps}
use Rattle.flat_machine.proofs.Stays.{step-form}
use Rattle.flat_machine.proofs.Commute.{step-others, step-pays}
use Rattle.flat_machine.specs.Alone.{budget_of, emptied, steps, alone}
use Rattle.quantum_run.specs.Shows.{Pack, View, Shows, thread_space}
use Rattle.flat_machine.proofs.After.{steps-ok, steps-stopped}
use Rattle.flat_machine.specs.Mixed.{stepped, mixed}
use Rattle.quantum_run.specs.Mix.{turns_of, members, HaveBegun, PacksShow}
use Rattle.round_core.proofs.Commute.{Among, Apart, active, budget_in, finish, stepped-idle}
use Rattle.round_core.proofs.Commute.{stepped-stop, stepped-ok, stepped-others, finish-stepped}
use Rattle.round_core.proofs.Commute.{paid-budget, ready_of-change, places-apart, ready-in}

-- ---- a pack shows what it showed after a step of another thread

space_in : List Process → Option Thread → List (ℕ × Entry)
space_in ps o =
    elim o as (λ _. List (ℕ × Entry)) [
      | None ↦ []
      | Some thread ↦
          elim (option_and_then holdings_of (numbered ps thread.process)) as (λ _.
          List (ℕ × Entry)) [ None ↦ [] | Some h ↦ h.space ]
    ]

space-in : (w : World) (t : ℕ) → thread_space w t ≡ space_in w.processes (thread_at w t)
unfolding space_in
space-in w t = refl

module _ (p : Pack) (v : View) (w w' : World) (s : ℕ) (other : s ≢ p.thread)
    (owners : w'.owners ≡ w.owners) (processes : w'.processes ≡ w.processes)
    (thread : thread_at w' p.thread ≡ thread_at w p.thread)
    (bytes : length w'.bytes ≡ length w.bytes)
    (pages : (frame : ℕ) → owner_of w frame ≢ Of s → page_of w'.bytes frame ≡ page_of w.bytes frame)
  where
    owner_same : (frame : ℕ) → owner_of w' frame ≡ owner_of w frame
    owner_same frame = ap (λ (os : List Owner). slice_index_or os frame Free) owners

    space_same : thread_space w' p.thread ≡ thread_space w p.thread
    space_same =
        space-in w' p.thread
        ∙ ap (λ ps. space_in ps (thread_at w' p.thread)) processes
        ∙ ap (space_in w.processes) thread
        ∙ sym (space-in w p.thread)

    Of-is : (a b : ℕ) → Of a ≡ Of b → a ≡ b
    Of-is a b q = cc

    not-shared : (o : Owner) → o ≡ Shared → o ≢ Of s
    not-shared o e q = cc

    own_page : (frame : ℕ) → owner_of w frame ≡ Of p.thread
        → page_of w'.bytes frame ≡ page_of w.bytes frame
    own_page frame e = pages frame (λ q. other (Of-is s p.thread (sym q ∙ e)))

    pub shows-kept : Shows p v w → Shows p v w'
    shows-kept sh = record {
      owners = sh.owners ∙ sym owners;
      thread = ap (option_map kept) thread ∙ sh.thread;
      space = sh.space ∙ ap (λ x. Some (Some x)) (sym space_same);
      count = bytes ∙ sh.count ∙ ap (λ (os : List Owner). 4096 * length os) (sym owners);
      mapped = λ page e h free.
          sh.mapped page e (ap (λ space. look space page) (sym space_same) ∙ h)
          (sym (owner_same e.frame) ∙ free);
      shared = λ frame h.
          let here : owner_of w frame ≡ Shared = sym (owner_same frame) ∙ h in
          sh.shared frame here
          ∙ ap (λ x. Some (Some x)) (sym (pages frame (not-shared (owner_of w frame) here)));
      own = record {
        owner = λ i frame page h. owner_same frame ∙ sh.own.owner i frame page h;
        bytes = λ i frame page h.
            sh.own.bytes i frame page h ∙ sym (own_page frame (sh.own.owner i frame page h));
        all = λ frame h.
            let here : owner_of w frame ≡ Of p.thread = sym (owner_same frame) ∙ h in
            let found = sh.own.all frame here in
            (found.0, found.1 ∙ ap (λ x. Some (frame, x)) (sym (own_page frame here)));
        apart = sh.own.apart;
      };
    }

page-same : (w w' : World) (s : ℕ) → length w'.bytes ≡ length w.bytes
    → ((i : ℕ) → owner_of w (i / 4096) ≢ Of s → get_or w'.bytes i 0 ≡ get_or w.bytes i 0)
    → (frame : ℕ) → owner_of w frame ≢ Of s → page_of w'.bytes frame ≡ page_of w.bytes frame
page-same w w' s count same frame theirs =
    take_drop_same (4096 * frame) 4096 w'.bytes w.bytes count
    (λ i low high. same i (not_theirs i low high))
  where
    not_theirs : (i : ℕ) → 4096 * frame ≤ i → i < 4096 * frame + 4096 → owner_of w (i / 4096) ≢ Of s
    not_theirs i low high q =
        let here : i / 4096 ≡ frame = omega arith in theirs (sym (ap (owner_of w) here) ∙ q)

pub shows-stepped : (p : Pack) (v : View) (u : World) (s : ℕ) → s ≢ p.thread → Shows p v u
    → Shows p v (stepped u s)
shows-stepped p v u s other sh = by_active (active u s) refl (step u s) refl
  where
    by_active : (b : Bool) → active u s ≡ b → (r : Result World Reason) → step u s ≡ r
        → Shows p v (stepped u s)
    by_active false idle r h = subst (Shows p v) (sym (stepped-idle u s idle)) sh
    by_active true acts (Err why) h = subst (Shows p v) (sym (stepped-stop u s why h)) sh
    by_active true acts (Ok w1) h =
        let form = step-form u w1 s h in
        let keeps = step-keeps u w1 s h in
        subst (Shows p v) (sym (stepped-ok u w1 s acts h))
        (shows-kept p v u w1 s other keeps.owners (ap (λ x. x.processes) form.is)
        (step-others u w1 s p.thread (λ e. other (sym e)) h)
        (ap (λ x. length x.bytes) form.is ∙ form.count)
        (page-same u w1 s (ap (λ x. length x.bytes) form.is ∙ form.count) keeps.bytes) sh)

shows-fold : (p : Pack) (v : View) (ss : List ℕ) (u : World) → ((s : ℕ) → Among ss s → s ≢ p.thread)
    → Shows p v u → Shows p v (fold stepped u ss)
shows-fold p v [] u others sh = sh
shows-fold p v (s ∷ ss) u others sh =
    shows-fold p v ss (stepped u s) (λ x h. others x (inr h))
    (shows-stepped p v u s (others s (inl refl)) sh)

-- ---- turns of one thread after another are its part

stays-stopped : (n : ℕ) (u : World) (t : ℕ) (reason : Reason) → step u t ≡ Err reason
    → fold stepped u (replicate n t) ≡ u
stays-stopped zero u t reason h = refl
stays-stopped (suc n) u t reason h =
    ap (λ x. fold stepped x (replicate n t)) (stepped-stop u t reason h)
    ∙ stays-stopped n u t reason h

turns-steps : (n : ℕ) (u : World) (t : ℕ) → is_state Ready (thread_at u t) ≡ true
    → n ≤ budget_of u t → fold stepped u (replicate n t) ≡ steps n u t
turns-steps zero u t ready few = refl
turns-steps (suc n) u t ready few = by_step (λ next. turns-steps n next t) (step u t) refl
  where
    acts : active u t ≡ true
    acts = ap (λ b. b && not (budget_of u t == 0)) ready ∙ some (budget_of u t) (omega (arith, few))
      where
        some : (b : ℕ) → b ≢ 0 → not (b == 0) ≡ true
        some zero h = absurd (h refl)
        some (suc b) h = grind arith

    by_step : ((next : World) → is_state Ready (thread_at next t) ≡ true → n ≤ budget_of next t
        → fold stepped next (replicate n t) ≡ steps n next t)
        → (r : Result World Reason) → step u t ≡ r
        → fold stepped u (replicate (suc n) t) ≡ steps (suc n) u t
    by_step rest (Err reason) h =
        stays-stopped (suc n) u t reason h ∙ sym (steps-stopped (suc n) u t reason h)
    by_step rest (Ok next) h =
        let paying = step-pays u next t h in
        let less : budget_of next t ≡ budget_of u t - 1 =
        ap budget_in paying.1 ∙ paid-budget paying.0 (thread_at u t) in
        ap (λ x. fold stepped x (replicate n t)) (stepped-ok u next t acts h)
        ∙ rest next
        (ap (is_state Ready) paying.1
        ∙ ready_of-change (paid_by paying.0) (λ x. refl) (thread_at u t)
        ∙ ready) (omega (arith, less, few))
        ∙ sym (steps-ok n u next t h)

pub turns-finish : (q : ℕ) (u : World) (t : ℕ) → is_state Ready (thread_at u t) ≡ true
    → budget_of u t ≡ q → fold stepped u (replicate q t) ≡ finish u t
turns-finish q u t ready is =
    turns-steps q u t ready (omega (arith, is)) ∙ ap (λ n. steps n u t) (sym is)

pub fold-append : (xs ys : List ℕ) (u : World)
    → fold stepped u (xs ++ ys) ≡ fold stepped (fold stepped u xs) ys
fold-append [] ys u = refl
fold-append (x ∷ xs) ys u = fold-append xs ys (stepped u x)

finish-fold : (ss : List ℕ) (u : World) (t : ℕ) → ((s : ℕ) → Among ss s → s ≢ t)
    → finish (fold stepped u ss) t ≡ fold stepped (finish u t) ss
finish-fold [] u t others = refl
finish-fold (s ∷ ss) u t others =
    finish-fold ss (stepped u s) t (λ x h. others x (inr h))
    ∙ ap (λ x. fold stepped x ss) (finish-stepped u s t (λ e. others s (inl refl) (sym e)))

fold-others : (ss : List ℕ) (u : World) (t : ℕ) → ((s : ℕ) → Among ss s → s ≢ t)
    → thread_at (fold stepped u ss) t ≡ thread_at u t
fold-others [] u t others = refl
fold-others (s ∷ ss) u t others =
    fold-others ss (stepped u s) t (λ x h. others x (inr h))
    ∙ stepped-others u s t (λ e. others s (inl refl) (sym e))

among-replicate : (n m s : ℕ) → Among (replicate n m) s → m ≡ s
among-replicate zero m s h = absurd h
among-replicate (suc n) m s (inl e) = e
among-replicate (suc n) m s (inr h) = among-replicate n m s h

among-append : (xs ys : List ℕ) (s : ℕ) → Among (xs ++ ys) s → Among xs s ⊎ Among ys s
among-append [] ys s h = inr h
among-append (x ∷ xs) ys s (inl e) = inl (inl e)
among-append (x ∷ xs) ys s (inr h) = by (among-append xs ys s h)
  where
    by : Among xs s ⊎ Among ys s → Among (x ∷ xs) s ⊎ Among ys s
    by (inl z) = inl (inr z)
    by (inr z) = inr z

among-turns : (q : ℕ) (ms : List ℕ) (s : ℕ) → Among (turns_of q ms) s → Among ms s
among-turns q [] s h = absurd h
among-turns q (m ∷ ms) s h =
    by (λ z. among-turns q ms s z) (among-append (replicate q m) (turns_of q ms) s h)
  where
    by : (Among (turns_of q ms) s → Among ms s) → Among (replicate q m) s ⊎ Among (turns_of q ms) s
        → Among (m ∷ ms) s
    by rest (inl z) = inl (among-replicate q m s z)
    by rest (inr z) = inr (rest z)

-- ---- who isn't among the members shows the world; who is, its part

shows-without : (p : Pack) (v : View) (q : ℕ) (ms : List ℕ) (u : World)
    → ((s : ℕ) → Among ms s → s ≢ p.thread) → Shows p v u
    → Shows p v (fold stepped u (turns_of q ms))
shows-without p v q ms u others sh =
    shows-fold p v (turns_of q ms) u (λ s h. others s (among-turns q ms s h)) sh

shows-with : (p : Pack) (v : View) (q : ℕ) (ms : List ℕ) (u : World) → Apart ms → Among ms p.thread
    → is_state Ready (thread_at u p.thread) ≡ true → budget_of u p.thread ≡ q
    → Shows p v (finish u p.thread) → Shows p v (fold stepped u (turns_of q ms))
shows-with p v q [] u apart among ready is sh = absurd among
shows-with p v q (m ∷ ms) u apart among ready is sh =
    by_eq (λ x. shows-with p v q ms x apart.1) (eqb m p.thread) refl among
  where
    t : ℕ
    t = p.thread

    whole : fold stepped u (turns_of q (m ∷ ms)) ≡ fold stepped (fold stepped u (replicate q m))
        (turns_of q ms)
    whole = fold-append (replicate q m) (turns_of q ms) u

    by_eq : ((x : World) → Among ms p.thread → is_state Ready (thread_at x p.thread) ≡ true
        → budget_of x p.thread ≡ q → Shows p v (finish x p.thread)
        → Shows p v (fold stepped x (turns_of q ms)))
        → (b : Bool) → eqb m p.thread ≡ b → Among (m ∷ ms) p.thread
        → Shows p v (fold stepped u (turns_of q (m ∷ ms)))
    by_eq rest true e h =
        let here : m ≡ p.thread = eqb-true m p.thread e in
        let part : fold stepped u (replicate q m) ≡ finish u p.thread =
        ap (λ n. fold stepped u (replicate q n)) here ∙ turns-finish q u p.thread ready is in
        subst (Shows p v) (sym (whole ∙ ap (λ x. fold stepped x (turns_of q ms)) part))
        (shows-without p v q ms (finish u p.thread) (λ s z y. apart.0 s z (y ∙ sym here)) sh)
    by_eq rest false e h =
        let others : (s : ℕ) → Among (replicate q m) s → s ≢ p.thread =
        λ s z y. differ (among-replicate q m s z ∙ y) e in
        let same : thread_at (fold stepped u (replicate q m)) p.thread ≡ thread_at u p.thread =
        fold-others (replicate q m) u p.thread others in
        subst (Shows p v) (sym whole)
        (rest (fold stepped u (replicate q m)) (below h) (ap (is_state Ready) same ∙ ready)
        (ap budget_in same ∙ is)
        (subst (Shows p v) (sym (finish-fold (replicate q m) u p.thread others))
        (shows-fold p v (replicate q m) (finish u p.thread) others sh)))
      where
        differ : m ≡ p.thread → eqb m p.thread ≡ false → ⊥
        differ y z = grind (arith, y, z)

        below : Among (m ∷ ms) p.thread → Among ms p.thread
        below (inl y) = absurd (differ y e)
        below (inr y) = y

-- ---- the members

members-among : (f : ℕ → Bool) (n : ℕ) (ts : List ℕ) (s : ℕ) → Among (members f n ts) s → Among ts s
members-among f n [] s h = absurd h
members-among f n (t ∷ ts) s h = by (λ z. members-among f (suc n) ts s z) (f n) h
  where
    by : (Among (members f (suc n) ts) s → Among ts s) → (b : Bool)
        → Among (cond b (t ∷ members f (suc n) ts) (members f (suc n) ts)) s → Among (t ∷ ts) s
    by rest true (inl e) = inl e
    by rest true (inr z) = inr (rest z)
    by rest false z = inr (rest z)

members-apart : (f : ℕ → Bool) (n : ℕ) (ts : List ℕ) → Apart ts → Apart (members f n ts)
members-apart f n [] apart = tt
members-apart f n (t ∷ ts) apart = by (members-apart f (suc n) ts apart.1) (f n)
  where
    by : Apart (members f (suc n) ts) → (b : Bool)
        → Apart (cond b (t ∷ members f (suc n) ts) (members f (suc n) ts))
    by rest true = (λ s h. apart.0 s (members-among f (suc n) ts s h), rest)
    by rest false = rest

pub at-among : (ts : List ℕ) (i t : ℕ) → slice_get ts i ≡ Some t → Among ts t
at-among [] i t h = cc
at-among (x ∷ ts) zero t h = inl cc
at-among (x ∷ ts) (suc i) t h = inr (at-among ts i t h)

-- the thread at a place is a member exactly where its place is
member-at : (f : ℕ → Bool) (n : ℕ) (ts : List ℕ) (i t : ℕ) → slice_get ts i ≡ Some t
    → f (n + i) ≡ true → Among (members f n ts) t
member-at f n [] i t h inside = cc
member-at f n (x ∷ ts) zero t h inside =
    let here : x ≡ t = cc in
    let place : n + 0 ≡ n = omega arith in
    subst (λ b. Among (cond b (x ∷ members f (suc n) ts) (members f (suc n) ts)) t)
    (sym (sym (ap f place) ∙ inside)) (inl here)
member-at f n (x ∷ ts) (suc i) t h inside =
    by (member-at f (suc n) ts i t h (ap f (place n i) ∙ inside)) (f n)
  where
    place : (n i : ℕ) → suc n + i ≡ n + suc i
    place n i = omega arith

    by : Among (members f (suc n) ts) t → (b : Bool)
        → Among (cond b (x ∷ members f (suc n) ts) (members f (suc n) ts)) t
    by rest true = inr rest
    by rest false = rest

outside-member-at : (f : ℕ → Bool) (n : ℕ) (ts : List ℕ) (i t : ℕ) → Apart ts
    → slice_get ts i ≡ Some t → f (n + i) ≡ false → (s : ℕ) → Among (members f n ts) s → s ≢ t
outside-member-at f n [] i t apart h outside s m = absurd m
outside-member-at f n (x ∷ ts) zero t apart h outside s m =
    let here : x ≡ t = cc in
    let place : n + 0 ≡ n = omega arith in
    let rest : Among (members f (suc n) ts) s =
    subst (λ b. Among (cond b (x ∷ members f (suc n) ts) (members f (suc n) ts)) s)
    (sym (ap f place) ∙ outside) m in
    λ e. apart.0 s (members-among f (suc n) ts s rest) (e ∙ sym here)
outside-member-at f n (x ∷ ts) (suc i) t apart h outside s m =
    by (λ z. outside-member-at f (suc n) ts i t apart.1 h (ap f (place n i) ∙ outside) s z) (f n) m
  where
    place : (n i : ℕ) → suc n + i ≡ n + suc i
    place n i = omega arith

    by : (Among (members f (suc n) ts) s → s ≢ t) → (b : Bool)
        → Among (cond b (x ∷ members f (suc n) ts) (members f (suc n) ts)) s → s ≢ t
    by rest true (inl e) = λ y. apart.0 t (at-among ts i t h) (sym y ∙ sym e)
    by rest true (inr z) = rest z
    by rest false z = rest z

-- ---- no reservation to empty

changed-none : (g : Thread → Thread) (ts : List (Option Thread)) (t : ℕ)
    → ((x : Thread) → flat (numbered ts t) ≡ Some x → g x ≡ x) → changed (option_map g) ts t ≡ ts
changed-none g ts zero same = refl
changed-none g ts (suc i) same = at ts i same
  where
    at : (ts : List (Option Thread)) (i : ℕ)
        → ((x : Thread) → flat (slice_get ts i) ≡ Some x → g x ≡ x)
        → changed_at (option_map g) ts i ≡ ts
    at [] i same = refl
    at (None ∷ ts) zero same = refl
    at (Some x ∷ ts) zero same = ap (λ y. Some y ∷ ts) (same x refl)
    at (x ∷ ts) (suc i) same = ap (λ ys. x ∷ ys) (at ts i same)

released-same : (x : Thread) → x.registers.held ≡ None → registers_by released x ≡ x
released-same x h = ap (λ held. record x { registers = record x.registers { held = held } }) (sym h)

emptied-same : (w : World) (t : ℕ) → IfSome (thread_at w t) (λ x. x.registers.held ≡ None)
    → emptied w t ≡ w
emptied-same w t none =
    ap (λ ts. record w { threads = ts })
    (changed-none (registers_by released) w.threads t
    (λ x h. released-same x (subst (λ o. IfSome o (λ y. y.registers.held ≡ None)) h none)))

pub fold-emptied-same : (w : World) (ts : List ℕ)
    → ((t : ℕ) → Among ts t → IfSome (thread_at w t) (λ x. x.registers.held ≡ None))
    → fold emptied w ts ≡ w
fold-emptied-same w [] none = refl
fold-emptied-same w (t ∷ ts) none =
    ap (λ u. fold emptied u ts) (emptied-same w t (none t (inl refl)))
    ∙ fold-emptied-same w ts (λ s h. none s (inr h))

-- ---- all together

pub begun-budget : (q : ℕ) (o : Option Thread) → is_state Ready o ≡ true
    → IfSome o (λ x. (x.budget ≡ q) × (x.registers.held ≡ None)) → budget_in o ≡ q
begun-budget q None ready h = absurd (grind arith)
begun-budget q (Some x) ready h = h.0

pub begun-held : (q : ℕ) (o : Option Thread)
    → IfSome o (λ x. (x.budget ≡ q) × (x.registers.held ≡ None))
    → IfSome o (λ x. x.registers.held ≡ None)
begun-held q None h = tt
begun-held q (Some x) h = h.1

pub parts-are-a-mix : (w : World) (f : ℕ → Bool) (v : View) (packs : List Pack) → HaveBegun w
    → PacksShow w f v packs
    → (i t : ℕ) (p : Pack) → slice_get (ready_threads w) i ≡ Some t → slice_get packs i ≡ Some p
    → Shows p v (mixed w (turns_of w.quantum (members f 0 (ready_threads w))))
parts-are-a-mix w f v packs begun shown i t p at here =
    let is : p.thread ≡ t = (shown i t p at here).0 in
    let among : Among (ready_threads w) t = at-among (ready_threads w) i t at in
    let ready : is_state Ready (thread_at w t) ≡ true = ready-in w t among in
    let apart : Apart (ready_threads w) = places-apart 1 (is_state Ready) w.threads in
    let start : fold emptied w (ready_threads w) ≡ w =
    fold-emptied-same w (ready_threads w)
    (λ s h. begun-held w.quantum (thread_at w s) (begun s (ready-in w s h))) in
    subst (λ u. Shows p v (fold stepped u (turns_of w.quantum (members f 0 (ready_threads w)))))
    (sym start) (by is among ready apart (f i) refl (shown i t p at here).1)
  where
    by : p.thread ≡ t → Among (ready_threads w) t → is_state Ready (thread_at w t) ≡ true
        → Apart (ready_threads w) → (b : Bool) → f i ≡ b → Shows p v (cond (f i) (alone w t) w)
        → Shows p v (fold stepped w (turns_of w.quantum (members f 0 (ready_threads w))))
    by is among ready apart false outside sh =
        shows-without p v w.quantum (members f 0 (ready_threads w)) w
        (λ s h e. outside-member-at f 0 (ready_threads w) i t apart at (ap f (plus i) ∙ outside) s h
        (e ∙ is))
        (subst (λ b. Shows p v (cond b (alone w t) w)) outside sh)
      where
        plus : (i : ℕ) → 0 + i ≡ i
        plus i = omega arith
    by is among ready apart true inside sh =
        let budget : budget_of w t ≡ w.quantum =
        begun-budget w.quantum (thread_at w t) ready (begun t ready) in
        let part : alone w t ≡ finish w t =
        ap (λ u. steps (budget_of w t) u t)
        (emptied-same w t (begun-held w.quantum (thread_at w t) (begun t ready))) in
        let mine : Shows p v (finish w p.thread) =
        subst (λ n. Shows p v (finish w n)) (sym is)
        (subst (Shows p v) part (subst (λ b. Shows p v (cond b (alone w t) w)) inside sh)) in
        shows-with p v w.quantum (members f 0 (ready_threads w)) w
        (members-apart f 0 (ready_threads w) apart)
        (subst (Among (members f 0 (ready_threads w))) (sym is)
        (member-at f 0 (ready_threads w) i t at (ap f (plus i) ∙ inside)))
        (subst (λ n. is_state Ready (thread_at w n) ≡ true) (sym is) ready)
        (subst (λ n. budget_of w n ≡ w.quantum) (sym is) budget)
        mine
      where
        plus : (i : ℕ) → 0 + i ≡ i
        plus i = omega arith
