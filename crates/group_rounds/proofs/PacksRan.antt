-- Packs that have run show the world of all parts, one after another.
use Rattle.std.proofs.Common.{ℕ, zero, suc, ◌*◌, ◌≡◌, ◌≢◌, inl, inr, refl, sym, ap, ◌∙◌, subst}
use Rattle.std.proofs.Common.{List, [], ◌∷◌, length, Option, Some, None, option_map}
use Rattle.std.proofs.Common.{option_and_then, arith}
use Rattle.std.specs.Prelude.{slice_get, slice_index_or}
use Rattle.dos_world.specs.Numbered.{numbered}
use Rattle.dos_world.specs.World.{World, Thread, Process, is_state, holdings_of, thread_at}
use Rattle.dos_world.specs.World.{owner_of, page_of, look}
use Rattle.dos_world.specs.declared.Entry.{Entry}
use Rattle.dos_world.specs.declared.Owner.{Owner}
use Rattle.dos_world.specs.declared.Owner.TheVariants.{Free, Shared, Of}
use Rattle.flat_machine.specs.Laws.{kept}
use Rattle.flat_machine.specs.Alone.{alone}
use Rattle.quantum_run.specs.Shows.{Pack, View, Shows, FinishedOwning, thread_space}
use Rattle.flat_machine.proofs.Own.{alone-own}
use Rattle.quantum_run.proofs.Packing.{page-same}
use Rattle.flat_machine.specs.Round.{all_alone}
use Rattle.round_core.proofs.Commute.{Among, Apart, places-apart}
use Rattle.dos_world.specs.declared.ThreadState.TheVariants.{Ready}
use Rattle.group_rounds.specs.Handing.{AreOnce}
use Rattle.group_rounds.specs.Phases.{ready_in}
use Rattle.round_core.proofs.Bringing.{DifferIn, all_alone-differ, differ-same}
use Rattle.group_rounds.proofs.HandingLaws.{beside}

-- ---- a part of another thread

space_in : List Process → Option Thread → List (ℕ × Entry)
space_in ps o = elim o as (λ _. List (ℕ × Entry)) [
  | None ↦ []
  | Some thread ↦ elim (option_and_then holdings_of (numbered ps thread.process)) as (λ _.
      List (ℕ × Entry)) [ None ↦ [] | Some h ↦ h.space ]
]

space-in : (w : World) (t : ℕ) → thread_space w t ≡ space_in w.processes (thread_at w t)
unfolding space_in
space-in w t = refl

module _ (p : Pack) (v : View) (w : World) (s : ℕ) (other : s ≢ p.thread) (sh : Shows p v w) where
  owner-same : (frame : ℕ) → owner_of (alone w s) frame ≡ owner_of w frame
  owner-same frame = ap (λ (os : List Owner). slice_index_or os frame Free) (alone-own w s).owners

  thread-same : thread_at (alone w s) p.thread ≡ thread_at w p.thread
  thread-same = (alone-own w s).others p.thread (λ e. other (sym e))

  space-same : thread_space (alone w s) p.thread ≡ thread_space w p.thread
  space-same = space-in (alone w s) p.thread
      ∙ ap (λ ps. space_in ps (thread_at (alone w s) p.thread)) (alone-own w s).processes
      ∙ ap (space_in w.processes) thread-same ∙ sym (space-in w p.thread)

  page-stays : (frame : ℕ) → owner_of w frame ≢ Of s
      → page_of ((alone w s).bytes) frame ≡ page_of w.bytes frame
  page-stays frame theirs =
      page-same ((alone w s).bytes) w.bytes frame (alone-own w s).count
      (λ i is. (alone-own w s).bytes i (λ e. theirs (ap (owner_of w) (sym is) ∙ e)))

  shared≢own : (o : Owner) → o ≡ Shared → o ≢ Of s
  shared≢own o e q = cc

  Of-is : (a b : ℕ) → Of a ≡ Of b → a ≡ b
  Of-is a b q = cc

  own-page : (frame : ℕ) → owner_of w frame ≡ Of p.thread
      → page_of ((alone w s).bytes) frame ≡ page_of w.bytes frame
  own-page frame mine = page-stays frame (λ q. other (Of-is s p.thread (sym q ∙ mine)))

  pub shows-beside : Shows p v (alone w s)
  shows-beside =
      let d = alone-own w s in
      record {
        owners = sh.owners ∙ sym d.owners;
        thread = ap (option_map kept) thread-same ∙ sh.thread;
        space = sh.space ∙ ap (λ x. Some (Some x)) (sym space-same);
        count = d.count ∙ sh.count ∙ ap (λ (os : List Owner). 4096 * length os) (sym d.owners);
        mapped = λ page e h free.
            sh.mapped page e (ap (λ space. look space page) (sym space-same) ∙ h)
            (sym (owner-same e.frame) ∙ free);
        shared = λ frame h. let here : owner_of w frame ≡ Shared = sym (owner-same frame) ∙ h in
            sh.shared frame here
            ∙ ap (λ x. Some (Some x)) (sym (page-stays frame (shared≢own (owner_of w frame) here)));
        own = record {
          owner = λ i frame page h. owner-same frame ∙ sh.own.owner i frame page h;
          bytes = λ i frame page h. sh.own.bytes i frame page h
              ∙ sym (own-page frame (sh.own.owner i frame page h));
          all = λ frame h. let here : owner_of w frame ≡ Of p.thread = sym (owner-same frame) ∙ h in
              let found = sh.own.all frame here in
              (found.0, found.1 ∙ ap (λ x. Some (frame, x)) (sym (own-page frame here)));
          apart = sh.own.apart;
        };
      }

pub shows-past : (p : Pack) (v : View) (ts : List ℕ) (w : World)
    → ((s : ℕ) → Among ts s → s ≢ p.thread) → Shows p v w → Shows p v (all_alone w ts)
shows-past p v [] w others sh = sh
shows-past p v (t ∷ ts) w others sh =
    shows-past p v ts (alone w t) (λ s h. others s (inr h))
    (shows-beside p v w t (others t (inl refl)) sh)

-- ---- all packs

pub among-of : (ts : List ℕ) (i t : ℕ) → slice_get ts i ≡ Some t → Among ts t
among-of [] i t h = cc
among-of (x ∷ ts) zero t h = inl (number-is h)
  where
    number-is : {a b : ℕ} → ◌≡◌ {A = Option ℕ} (Some a) (Some b) → a ≡ b
    number-is q = cc
among-of (x ∷ ts) (suc i) t h = inr (among-of ts i t h)

pub among-at : (ts : List ℕ) (t : ℕ) → Among ts t → (i : ℕ) × (slice_get ts i ≡ Some t)
among-at [] t h = absurd h
among-at (x ∷ ts) t (inl e) = (0, ap Some e)
among-at (x ∷ ts) t (inr h) = let r = among-at ts t h in (suc r.0, r.1)

pub apart-of : (ts : List ℕ)
    → AreOnce ts → Apart ts
apart-of [] h = tt
apart-of (t ∷ ts) h = (
  λ s q e. let at = among-at ts s q in let same : suc at.0 ≡ 0 =
      h (suc at.0) 0 t (at.1 ∙ ap Some e) refl in omega (arith, same),
  apart-of ts (λ i j s a b. let same : suc i ≡ suc j = h (suc i) (suc j) s a b in
      omega (arith, same)),
)

pub pack-is : {a b : Pack} → ◌≡◌ {A = Option Pack} (Some a) (Some b) → a ≡ b
pack-is q = cc

-- what is known of a pack and of what it became
pub record Went (v : View) (w : World) (t : ℕ) (p q : Pack) : Type 0 where
  pub begun : p.thread ≡ t
  pub thread : q.thread ≡ t
  pub shown : Shows p v w
  pub finished : FinishedOwning p v q

pub all-shown : (v : View) (ts : List ℕ) (ps qs : List Pack) (w : World) → Apart ts
    → length ps ≡ length ts → length qs ≡ length ts
    → ((i t : ℕ) (p q : Pack) → slice_get ts i ≡ Some t → slice_get ps i ≡ Some p
    → slice_get qs i ≡ Some q → Went v w t p q)
    → (i t : ℕ) (q : Pack) → slice_get ts i ≡ Some t → slice_get qs i ≡ Some q
    → Shows q v (all_alone w ts)
all-shown v [] ps qs w apart lp lq each i t q at here = cc
all-shown v (x ∷ ts) [] qs w apart lp lq each i t q at here = absurd (grind arith)
all-shown v (x ∷ ts) (p ∷ ps) [] w apart lp lq each i t q at here = absurd (grind arith)
all-shown v (x ∷ ts) (p ∷ ps) (y ∷ qs) w apart lp lq each zero t q at here =
    let e = each 0 x p y refl refl refl in
    let first : Shows y v (alone w x) =
    subst (λ n. Shows y v (alone w n)) e.begun (e.finished w e.shown) in
    subst (λ (z : Pack). Shows z v (all_alone (alone w x) ts)) (pack-is here)
    (shows-past y v ts (alone w x) (λ s h z. apart.0 s h (z ∙ e.thread)) first)
all-shown v (x ∷ ts) (p ∷ ps) (y ∷ qs) w apart lp lq each (suc i) t q at here =
    all-shown v ts ps qs (alone w x) apart.1 (omega arith) (omega arith) later i t q at here
  where
    later : (i t : ℕ) (p q : Pack) → slice_get ts i ≡ Some t → slice_get ps i ≡ Some p
        → slice_get qs i ≡ Some q → Went v (alone w x) t p q
    later j s a b at here there =
        let e = each (suc j) s a b at here there in
        record {
          begun = e.begun;
          thread = e.thread;
          shown =
              shows-beside a v w x
              (λ z. apart.0 s (among-of ts j s at) (sym e.begun ∙ sym z)) e.shown;
          finished =
              e.finished;
        }

-- ---- what has come back

-- u has what a pack holds: its thread's registers and budget, and its pages
pub record Back (u : World) (t : ℕ) (q : Pack) : Type 0 where
  pub thread : option_map kept (thread_at u t) ≡ Some (q.registers, q.budget)
  pub pages : (j frame : ℕ) (page : List ℕ) → slice_get q.pages j ≡ Some (frame, page)
      → page_of u.bytes frame ≡ page

pub brought : (v : View) (ts : List ℕ) (ps qs : List Pack) (w u : World) → Apart ts
    → length ps ≡ length ts → length qs ≡ length ts
    → ((i t : ℕ) (p q : Pack) → slice_get ts i ≡ Some t → slice_get ps i ≡ Some p
    → slice_get qs i ≡ Some q → Went v w t p q)
    → DifferIn ts w u → ((i t : ℕ) (q : Pack) → slice_get ts i ≡ Some t → slice_get qs i ≡ Some q
    → Back u t q) → all_alone w ts ≡ u
brought v ts ps qs w u apart lp lq each differ back =
    sym (differ-same ts w u (all_alone w ts) differ (all_alone-differ ts w)
    (λ t h. let i = among-at ts t h in let q = beside qs ts i.0 t (sym lq) i.1 in
    let sh = all-shown v ts ps qs w apart lp lq each i.0 t q.0 i.1 q.1 in
    (back i.0 t q.0 i.1 q.1).thread
    ∙ sym (subst (λ (n : ℕ). option_map kept (thread_at (all_alone w ts) n)
    ≡ Some (q.0.registers, q.0.budget)) (thread-is i.0 t q.0 i.1 q.1) sh.thread))
    (λ t frame h mine. let i = among-at ts t h in let q = beside qs ts i.0 t (sym lq) i.1 in
    let sh = all-shown v ts ps qs w apart lp lq each i.0 t q.0 i.1 q.1 in
    let mine' : owner_of (all_alone w ts) frame ≡ Of q.0.thread =
    ap (λ (os : List Owner). slice_index_or os frame Free) (all_alone-differ ts w).owners
    ∙ mine ∙ ap Of (sym (thread-is i.0 t q.0 i.1 q.1)) in
    let held = sh.own.all frame mine' in
    (back i.0 t q.0 i.1 q.1).pages held.0 frame
    (page_of ((all_alone w ts).bytes) frame) held.1))
  where
    thread-is : (i t : ℕ) (q : Pack) → slice_get ts i ≡ Some t → slice_get qs i ≡ Some q
        → q.thread ≡ t
    thread-is i t q at here = let p = beside ps ts i t (sym lp) at in
        (each i t p.0 q at p.1 here).thread

-- threads that are apart stand at one place each
pub apart-index : (ts : List ℕ) → Apart ts → AreOnce ts
apart-index [] h i j t a b = cc
apart-index (x ∷ ts) h zero zero t a b = refl
apart-index (x ∷ ts) h zero (suc j) t a b = absurd (h.0 t (among-of ts j t b) (sym (first a)))
  where
    first : ◌≡◌ {A = Option ℕ} (Some x) (Some t) → x ≡ t
    first q = cc
apart-index (x ∷ ts) h (suc i) zero t a b = absurd (h.0 t (among-of ts i t a) (sym (first b)))
  where
    first : ◌≡◌ {A = Option ℕ} (Some x) (Some t) → x ≡ t
    first q = cc
apart-index (x ∷ ts) h (suc i) (suc j) t a b = ap suc (apart-index ts h.1 i j t a b)

pub ready-apart : (threads : List (Option Thread)) (ts : List ℕ) → ts ≡ ready_in threads
    → AreOnce ts
ready-apart threads ts is =
    apart-index ts (subst Apart (sym is) (places-apart 1 (is_state Ready) threads))
