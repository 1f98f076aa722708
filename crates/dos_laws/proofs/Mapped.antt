-- In a lawful world the process of a live thread lives, and each frame that a live process maps is
-- there and isn't Free.
use Rattle.std.proofs.Common.{ℕ, zero, suc, ◌/◌, ◌<◌, ◌≡◌, ◌≢◌, refl, sym, ap, ◌∙◌, subst, Bool}
use Rattle.std.proofs.Common.{true, false, cond, List, [], ◌∷◌, length, Option, Some, None}
use Rattle.std.proofs.Common.{option_map, option_and_then, arith, eq-eqb}
use Rattle.std.specs.Prelude.{slice_get, slice_index_or, All, IsTrue, IfSome, is_some, ◌==◌, find}
use Rattle.std.specs.List.{list_any}
use Rattle.std.proofs.lemmas.Bool.{or_left, or_right, true≢false}
use Rattle.std.proofs.lemmas.List.Elements.{All-nil, All-head, All-tail}
use Rattle.dos_world.specs.Numbered.{numbered}
pub use Rattle.dos_world.proofs.UsualCalls.{held_all}
use Rattle.dos_world.specs.World.{World, Process, Thread, Holdings, holdings_of, all_holdings}
use Rattle.dos_world.specs.World.{live_process, thread_at, space_of, entry_at, look, is_free}
use Rattle.dos_world.specs.Counts.{is_mapped, maps_frame}
use Rattle.dos_world.specs.Lawful.{Lawful, IsThread, AreHoldings, IsPage}
use Rattle.dos_world.specs.declared.Entry.{Entry}
use Rattle.dos_world.specs.declared.Owner.{Owner}
use Rattle.dos_world.specs.declared.Owner.TheVariants.{Free, Shared, Of}
pub use Rattle.dos_laws.specs.Taken.{IsTaken}

-- ---- a live thread's process

pub some_is : {A : Type 0} (o : Option A) → IsTrue (is_some o) → (x : A) × (o ≡ Some x)
some_is None h = absurd (true≢false (sym h))
some_is (Some x) h = (x, refl)

-- what holds of each thread that is there holds of this one
pub of_thread : (P : Thread → Type 0) (w : World) (t : ℕ) (thread : Thread)
    → ((s : ℕ) → IfSome (thread_at w s) P) → thread_at w t ≡ Some thread → P thread
of_thread P w t thread all is = subst (λ o. IfSome o P) is (all t)

-- what the process of a live thread has
pub process_lives : (w : World) (t : ℕ) (thread : Thread) → Lawful w → thread_at w t ≡ Some thread
    → (h : Holdings) × (live_process w thread.process ≡ Some h)
process_lives w t thread l is =
    some_is (live_process w thread.process)
    (of_thread (IsThread w.processes) w t thread l.threads.ranges is).process

-- ---- what a live process has

-- what passes at what this process has passes somewhere
pub held_any : (q : Holdings → Bool) (ps : List Process) (p : ℕ) (h : Holdings)
    → option_and_then holdings_of (numbered ps p) ≡ Some h → q h ≡ true
    → list_any q (all_holdings ps) ≡ true
held_any q ps zero h e t = cc
held_any q ps (suc i) h e t = at ps i e
  where
    by_first : (o : Option Holdings) (rest : List Holdings) → list_any q rest ≡ true
        → list_any q (elim o as (λ _. List Holdings) [ None ↦ rest | Some k ↦ k ∷ rest ]) ≡ true
    by_first None rest r = r
    by_first (Some k) rest r = or_right (q k) (list_any q rest) r

    at : (ps : List Process) (i : ℕ) → option_and_then holdings_of (slice_get ps i) ≡ Some h
        → list_any q (all_holdings ps) ≡ true
    at [] i e = cc
    at (x ∷ ps) zero e =
        ap
        (λ o. list_any q
        (elim o as (λ _. List Holdings) [ None ↦ all_holdings ps | Some k ↦ k ∷ all_holdings ps ]))
        e
        ∙ or_left (q h) (list_any q (all_holdings ps)) t
    at (x ∷ ps) (suc i) e = by_first (holdings_of x) (all_holdings ps) (at ps i e)

-- ---- an entry of a space

-- a test that passes at an entry passes somewhere in the space
pub any_at : (q : (ℕ × Entry) → Bool) (space : List (ℕ × Entry)) (k : ℕ) (d : ℕ × Entry)
    → k < length space → q (slice_index_or space k d) ≡ true → list_any q space ≡ true
any_at q [] k d lt t = absurd (omega arith)
any_at q (x ∷ xs) zero d lt t = or_left (q x) (list_any q xs) t
any_at q (x ∷ xs) (suc k) d lt t = or_right (q x) (list_any q xs) (any_at q xs k d (omega arith) t)

-- what holds of each entry holds of what is looked up
pub looked : (Q : (ℕ × Entry) → Type 0) (space : List (ℕ × Entry)) (page : ℕ) (e : Entry)
    → All Q space → look space page ≡ Some e → (n : ℕ) × Q (n, e)
looked Q [] page e all h = cc
looked Q (x ∷ xs) page e all h =
    by_test (x.0 == page) (λ g. looked Q xs page e (All-tail Q x xs all) g) h
  where
    by_test : (b : Bool) → (look xs page ≡ Some e → (n : ℕ) × Q (n, e))
        → option_map (λ (y : ℕ × Entry). y.1)
        (cond b (Some x) (find (λ (y : ℕ × Entry). y.0 == page) xs)) ≡ Some e
        → (n : ℕ) × Q (n, e)
    by_test true rest g =
        let is : x.1 ≡ e = cc in (x.0, subst (λ y. Q (x.0, y)) is (All-head Q x xs all))
    by_test false rest g = rest g

-- each frame of a live process is taken
pub space_taken : (w : World) (p : ℕ) → Lawful w → All (λ e. IsTaken w e.1.frame) (space_of w p)
space_taken w p l = by_holdings (live_process w p) refl
  where
    taken : (h : Holdings) → live_process w p ≡ Some h → All (λ e. IsTaken w e.1.frame) h.space
    taken h is k d lt =
        let e : ℕ × Entry = slice_index_or h.space k d in
        let page : IsPage (length w.owners) e =
        (held_all (AreHoldings (length w.owners)) w.processes p h l.processes.holdings is).pages k d
        lt in
        let mapped : is_mapped w e.1.frame ≡ true =
        held_any (maps_frame e.1.frame) w.processes p h is
        (any_at (λ x. x.1.frame == e.1.frame) h.space k d lt (eq-eqb e.1.frame e.1.frame refl)) in
        record {
          within = page.2;
          owner =
              λ free. true≢false (sym mapped ∙ (l.frames.free e.1.frame page.2).0 free);
        }

    by_holdings : (o : Option Holdings) → live_process w p ≡ o
        → All (λ e. IsTaken w e.1.frame)
        (elim o as (λ _. List (ℕ × Entry)) [ None ↦ [] | Some h ↦ h.space ])
    by_holdings None is = All-nil (λ e. IsTaken w e.1.frame)
    by_holdings (Some h) is = taken h is

-- so is that of an entry of a thread
pub entry_taken : (w : World) (t address : ℕ) (e : Entry) → Lawful w → entry_at w t address ≡ Some e
    → IsTaken w e.frame
entry_taken w t address e l h = by_thread (thread_at w t) h
  where
    by_thread : (o : Option Thread)
        → elim o as (λ _. Option Entry) [
          | None ↦ None
          | Some thread ↦ look (space_of w thread.process) (address / 4096)
        ] ≡ Some e
        → IsTaken w e.frame
    by_thread None g = cc
    by_thread (Some thread) g =
        (looked (λ x. IsTaken w x.1.frame) (space_of w thread.process) (address / 4096) e
        (space_taken w thread.process l) g).1

-- the test of an owner
pub not_free : (o : Owner) → o ≢ Free → is_free o ≡ false
not_free Free h = absurd (h refl)
not_free Shared h = refl
not_free (Of t) h = refl
