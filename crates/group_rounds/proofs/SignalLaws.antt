-- The signal point over the kernel's state.
use Rattle.std.proofs.Common.{ℕ, zero, suc, ◌+◌, ◌-◌, ◌<◌, ◌≤◌, ◌≡◌, refl, sym, ap, ◌∙◌, subst}
use Rattle.std.proofs.Common.{Bool, cond, true, false, List, [], ◌∷◌, drop, get_or, length, Option}
use Rattle.std.proofs.Common.{Some, None, option_map, le-leb, eq-eqb, arith}
use Rattle.std.proofs.lemmas.Bool.{ne_eqb}
use Rattle.std.specs.Prelude.{◌==◌, ◌||◌, IfSome, IsSome, find, slice_get, slice_index}
use Rattle.dos_world.specs.Numbered.{run_of, numbers_of}
use Rattle.dos_world.specs.World.{World, Thread, Sleeper, Holdings, has_bit, with_thread, first_of}
use Rattle.dos_world.specs.World.{belongs_to, action_of}
use Rattle.dos_world.specs.Kernel.{awake, posted, pending_with, process_ended}
use Rattle.dos_world.specs.Lawful.{IsThread as InRange}
use Rattle.dos_world.specs.SignalCalls.{is_signal}
use Rattle.dos_world.specs.Signals.{all_posted, may_come, chosen, cleared, default_action}
use Rattle.dos_world.specs.Signals.{delivered, handler_action, signal_turn, signal_turns, turn_by}
use Rattle.dos_world.specs.declared.Post.{Post}
use Rattle.dos_io.specs.Posts.{FitsPost, ArePosts}
use Rattle.dos_laws.proofs.StandsKeeps.{stands_kept}
use Rattle.dos_laws.proofs.StandsMasks.{found_in}
use Rattle.dos_laws.specs.Standing.{LawfulWith}
use Rattle.proc_table.specs.Tables.{Tables, IsProcess, IsLiveThread, held_in, thread_by, thread_in}
use Rattle.kernel_calls.specs.Ending.{posted_in}
use Rattle.kernel_calls.specs.StateWorld.{IsCounted, IsSound, sent, world_of}
use Rattle.kernel_calls.specs.declared.state.State.{State}
use Rattle.group_rounds.proofs.ThreadRunLaws.{of_some, some_of, thread_in-by}
use Rattle.group_rounds.proofs.Sound.{sound_one, sound_then}
use Rattle.group_rounds.proofs.PhaseLaws.{drop_at, drop_out}

-- ---- sound states

-- the process of a live thread lives
pub process_lives : (s : State) → IsSound s → (t : ℕ) (thread : Thread)
    → thread_in s.table.threads t ≡ Some thread → IsProcess s.table.processes thread.process
process_lives s h t thread is =
    (of_some (InRange s.table.processes) (thread_in s.table.threads t) thread is
    ((sound_one s h).threads.ranges t)).process

-- ---- a thread that changes

-- who sleeps may change with it
pub thread_counted : (s : State) (futexes : List Sleeper) (table : Tables) (t : ℕ)
    (f : Thread → Thread) → table ≡ thread_by f s.table t → IsCounted s
    → IsCounted (record s { table = table; futexes = futexes })
thread_counted s futexes table t f is k =
    subst (λ (T : Tables). IsCounted (record s { table = T; futexes = futexes })) (sym is)
    (record { home = k.home; round = k.round; room = k.room; uses = k.uses; ends = k.ends })

-- a live thread changed by f
pub thread_world : (s : State) (table : Tables) (t : ℕ) (f : Thread → Thread)
    → table ≡ thread_by f s.table t → (q : ℕ) (o e : List ℕ)
    → with_thread (sent o e (world_of q s)) t f
    ≡ sent o e (world_of q (record s { table = table }))
thread_world s table t f is q o e =
    ap (λ (T : Tables). sent o e (world_of q (record s { table = T }))) (sym is)

-- of a live thread
pub if_some : {A : Type 0} (o : Option A) (x : A) → o ≡ Some x → (P : A → Type 0) → P x → IfSome o P
if_some o x is P h = subst (λ o. IfSome o P) (sym is) h

-- as much is saved at a thread that wakes
pub room_awake : (old table : Tables) (t value : ℕ) → table ≡ thread_by (awake value) old t
    → IfSome (thread_in old.threads t) (λ thread. length thread.saved < 4)
    → IfSome (thread_in table.threads t) (λ thread. length thread.saved < 4)
room_awake old table t value is room =
    subst (λ (T : Tables). IfSome (thread_in T.threads t) (λ thread. length thread.saved < 4))
    (sym is)
    (subst (λ o. IfSome o (λ (thread : Thread). length thread.saved < 4))
    (sym (thread_in-by (awake value) old.threads t)) (by (thread_in old.threads t) room))
  where
    by : (o : Option Thread) → IfSome o (λ thread. length thread.saved < 4)
        → IfSome (option_map (awake value) o) (λ thread. length thread.saved < 4)
    by None h = tt
    by (Some thread) h = h

-- ---- posts

module _ (s : State) (table : Tables) (p signal : ℕ)
    (is : table ≡ posted_in s.table p signal) where
  pub posted_world : (q : ℕ) (o e : List ℕ)
      → posted (sent o e (world_of q s)) p signal
      ≡ sent o e (world_of q (record s { table = table }))
  posted_world q o e =
      by (first_of (numbers_of (belongs_to p) s.table.threads))
      ∙ ap (λ (T : Tables). sent o e (world_of q (record s { table = T }))) (sym is)
    where
      by : (first : Option ℕ)
          → (elim first as (λ _. World) [
            | None ↦ sent o e (world_of q s)
            | Some t ↦ with_thread (sent o e (world_of q s)) t (pending_with signal)
          ]) ≡ sent o e (world_of q (record s {
            table =
                elim first as (λ _. Tables) [
                  | None ↦ s.table
                  | Some t ↦ thread_by (pending_with signal) s.table t
                ];
          }))
      by None = refl
      by (Some t) = refl

  posted_counted : IsCounted s → IsCounted (record s { table = table })
  posted_counted k =
      subst (λ (T : Tables). IsCounted (record s { table = T })) (sym is)
      (by (first_of (numbers_of (belongs_to p) s.table.threads)))
    where
      by : (first : Option ℕ) → IsCounted (record s {
        table =
            elim first as (λ _. Tables) [
              | None ↦ s.table
              | Some t ↦ thread_by (pending_with signal) s.table t
            ];
      })
      by None = k
      by (Some t) =
          record { home = k.home; round = k.round; room = k.room; uses = k.uses; ends = k.ends }

  pub posted_sound : 1 ≤ signal → signal ≤ 31 → IsSound s → IsSound (record s { table = table })
  posted_sound low high h =
      sound_then s (record s { table = table }) h (posted_counted h.counted)
      (λ q k. subst (LawfulWith []) (posted_world q [] [])
      (stands_kept.post_kept (world_of q s) (record { pid = p; signal = signal }) (low, high) k))

-- what stands at a place of a list begins the rest of it
pub drop_get : {A : Type 0} (xs : List A) (i : ℕ) (x : A) → slice_get xs i ≡ Some x
    → drop i xs ≡ x ∷ drop (i + 1) xs
drop_get {A} xs i x is = go xs i is ∙ ap (λ n. x ∷ drop n xs)
    (let e : suc i ≡ i + 1 = omega arith in e)
  where
    go : (xs : List A) (i : ℕ) → slice_get xs i ≡ Some x → drop i xs ≡ x ∷ drop (suc i) xs
    go [] i is = cc
    go (y ∷ ys) zero is = let same : y ≡ x = cc in ap (λ z. z ∷ ys) same
    go (y ∷ ys) (suc i) is = go ys i is

-- one post of the list
pub post_next : (s : State) (table : Tables) (posts : List Post) (i : ℕ) (post : Post)
    → slice_get posts i ≡ Some post → table ≡ posted_in s.table post.pid post.signal
    → (q : ℕ) (o e : List ℕ)
    → all_posted (sent o e (world_of q s)) (drop i posts)
    ≡ all_posted (sent o e (world_of q (record s { table = table }))) (drop (i + 1) posts)
post_next s table posts i post at is q o e =
    ap (all_posted (sent o e (world_of q s))) (drop_get posts i post at)
    ∙ ap (λ w. all_posted w (drop (i + 1) posts))
    (posted_world s table post.pid post.signal is q o e)

pub fits_at : (posts : List Post) (i : ℕ) (post : Post) → ArePosts posts
    → slice_get posts i ≡ Some post → FitsPost post
fits_at [] i post fit is = cc
fits_at (p ∷ posts) zero post fit is = let same : p ≡ post = cc in subst FitsPost same fit.0
fits_at (p ∷ posts) (suc i) post fit is = fits_at posts i post fit.1 is

-- ---- a turn

signal_is : (n : ℕ) → 1 ≤ n → n ≤ 31 → is_signal n ≡ true
signal_is n low high = rw (le-leb 1 n low, le-leb n 31 high) refl

-- the signal that a thread chooses is one from 1 to 31
pub chosen_signal : (thread : Thread) (signal : ℕ) → chosen thread ≡ Some signal
    → is_signal signal ≡ true
chosen_signal thread signal h = by_nine (has_bit thread.pending 9) h
  where
    by_nine : (b : Bool) → cond b (Some 9) (find (may_come thread) (run_of 1 31)) ≡ Some signal
        → is_signal signal ≡ true
    by_nine true e = let same : 9 ≡ signal = cc in ap is_signal (sym same)
    by_nine false e = let r = found_in (may_come thread) 1 31 signal e in
        signal_is signal r.0 (omega (arith, r.1))

-- the action that is read of a live process
pub action_read : (w : World) (p signal action : ℕ) → IsProcess w.processes p
    → IfSome (held_in w.processes p) (λ h. action ≡ slice_index h.actions (signal - 1))
    → action_of w p signal ≡ action
action_read w p signal action live read = by (held_in w.processes p) live read
  where
    by : (o : Option Holdings) → IsSome o
        → IfSome o (λ h. action ≡ slice_index h.actions (signal - 1))
        → (elim o as (λ _. ℕ) [ None ↦ 0 | Some h ↦ slice_index h.actions (signal - 1) ]) ≡ action
    by None live e = cc
    by (Some h) live e = sym e

-- a live thread, and the action of a signal that is read
pub record HasAction (s : State) (t signal action : ℕ) : Type 0 where
  pub thread : Thread
  pub is : thread_in s.table.threads t ≡ Some thread
  pub read : (q : ℕ) (o e : List ℕ)
      → action_of (sent o e (world_of q s)) thread.process signal ≡ action

pub has_action : (s : State) → IsSound s → (t p signal action : ℕ) → IsLiveThread s.table.threads t
    → IfSome (thread_in s.table.threads t) (λ thread. p ≡ thread.process)
    → IfSome (held_in s.table.processes p) (λ h. action ≡ slice_index h.actions (signal - 1))
    → HasAction s t signal action
has_action s kept t p signal action live own read =
    let found = some_of (thread_in s.table.threads t) live in
    record {
      thread = found.0;
      is = found.1;
      read = λ q o e. action_read (sent o e (world_of q s)) found.0.process signal action
          (process_lives s kept t found.0 found.1)
          (subst (λ p. IfSome (held_in s.table.processes p)
          (λ (h : Holdings). action ≡ slice_index h.actions (signal - 1)))
          (of_some (λ thread. p ≡ thread.process) (thread_in s.table.threads t) found.0 found.1 own)
          read);
    }

-- the turn of a live thread, by the signal that it chooses
pub turn_world : (s s' : State) (t : ℕ) (thread : Thread) (signal : ℕ)
    → thread_in s.table.threads t ≡ Some thread → chosen thread ≡ Some signal
    → ((q : ℕ) (o e : List ℕ)
    → delivered (sent o e (world_of q s)) t thread signal ≡ sent o e (world_of q s'))
    → (q : ℕ) (o e : List ℕ)
    → signal_turn (sent o e (world_of q s)) t ≡ sent o e (world_of q s')
turn_world s s' t thread signal is chooses delivers q o e =
    ap (turn_by (sent o e (world_of q s)) t) is
    ∙ ap (λ c. elim c as (λ _. World) [
      | None ↦ sent o e (world_of q s)
      | Some signal ↦ delivered (sent o e (world_of q s)) t thread signal
    ]) chooses ∙ delivers q o e

-- a turn keeps a state sound
pub turn_sound : (t : ℕ) (s s' : State)
    → ((q : ℕ) (o e : List ℕ) → signal_turn (sent o e (world_of q s)) t ≡ sent o e (world_of q s'))
    → IsSound s → IsCounted s' → IsSound s'
turn_sound t s s' turns h counted =
    sound_then s s' h counted
    (λ q k. subst (LawfulWith []) (turns q [] []) (stands_kept.turn_kept (world_of q s) t k))

-- ---- what a signal comes to

pub ends_by_default : (w : World) (t : ℕ) (thread : Thread) (signal : ℕ) → (signal ≡ 17 → ⊥)
    → default_action w t thread signal ≡ process_ended w thread.process (128 + signal)
ends_by_default w t thread signal other =
    ap (λ b. cond b (with_thread w t (cleared 17)) (process_ended w thread.process (128 + signal)))
    (ne_eqb signal 17 other)

module _ (w : World) (t : ℕ) (thread : Thread) (signal action : ℕ)
    (is : action_of w thread.process signal ≡ action) where
  -- by the tests of the action that is read
  abbrev by_action : (a b : Bool) → World
  by_action a b = cond a (default_action w t thread signal)
      (cond b (with_thread w t (cleared signal)) (handler_action w t thread signal action))

  read_action : delivered w t thread signal
      ≡ by_action ((action == 0) || (signal == 9)) (action == 1)
  read_action = ap (λ n. cond ((n == 0) || (signal == 9)) (default_action w t thread signal)
      (cond (n == 1) (with_thread w t (cleared signal)) (handler_action w t thread signal n))) is

  pub delivered_default : ((action == 0) || (signal == 9)) ≡ true
      → delivered w t thread signal ≡ default_action w t thread signal
  delivered_default default = read_action ∙ ap (λ a. by_action a (action == 1)) default

  pub delivered_dropped : ((action == 0) || (signal == 9)) ≡ false → action ≡ 1
      → delivered w t thread signal ≡ with_thread w t (cleared signal)
  delivered_dropped other dropped = read_action
      ∙ ap (λ a. by_action a (action == 1)) other ∙ ap (by_action false) (eq-eqb action 1 dropped)

  pub delivered_handled : ((action == 0) || (signal == 9)) ≡ false → (action ≡ 1 → ⊥)
      → delivered w t thread signal ≡ handler_action w t thread signal action
  delivered_handled other handled = read_action
      ∙ ap (λ a. by_action a (action == 1)) other ∙ ap (by_action false) (ne_eqb action 1 handled)

-- ---- turns one after another

module _ (s s' : State) (t : ℕ)
    (takes : (q : ℕ) (o e : List ℕ)
    → signal_turn (sent o e (world_of q s)) t ≡ sent o e (world_of q s')) where
  pub turns_next : (xs : List ℕ) (i : ℕ) → i < length xs → t ≡ get_or xs i 0
      → (q : ℕ) (o e : List ℕ)
      → signal_turns (sent o e (world_of q s)) (drop i xs)
      ≡ signal_turns (sent o e (world_of q s')) (drop (i + 1) xs)
  turns_next xs i lt is q o e =
      ap (signal_turns (sent o e (world_of q s))) (drop_at xs i lt)
      ∙ ap (λ t. signal_turns (sent o e (world_of q s)) (t ∷ drop (i + 1) xs)) (sym is)
      ∙ ap (λ w. signal_turns w (drop (i + 1) xs)) (takes q o e)

pub turns_out : (s : State) (xs : List ℕ) (i : ℕ) → length xs ≤ i → (q : ℕ) (o e : List ℕ)
    → signal_turns (sent o e (world_of q s)) (drop i xs) ≡ sent o e (world_of q s)
turns_out s xs i over q o e = ap (signal_turns (sent o e (world_of q s))) (drop_out xs i over)
