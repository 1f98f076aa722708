-- What every service leaves: a caller that goes on lives and has paid one of its budget, and there
-- are as many frames as before. None asks the question of the run's end.
use Rattle.std.proofs.Common.{ℕ, zero, suc, ◌-◌, ◌%◌, ◌≡◌, refl, sym, ap, ◌∙◌, subst, Bool, true}
use Rattle.std.proofs.Common.{false, cond, List, [], ◌∷◌, ◌++◌, length, Option}
use Rattle.std.proofs.Common.{Some, None, option_map}
use Rattle.std.specs.Prelude.{◌==◌, ⊤, filter, map, slice_get}
use Rattle.dos_world.specs.Numbered.{changed}
use Rattle.dos_world.specs.World.{World, Thread, flat, thread_at, get}
use Rattle.dos_world.specs.World.{first_thread, threads_of, parent_of}
use Rattle.dos_world.specs.World.{with_thread, without_thread}
use Rattle.dos_world.specs.Counts.{owner_if_mapped}
use Rattle.dos_world.specs.Kernel.{pending_with, tidied, orphaned}
use Rattle.dos_world.specs.Kernel.{ended_by, unless_of, is_none_of_these, process_ended}
use Rattle.dos_world.specs.Kernel.{thread_ended}
use Rattle.dos_world.specs.Play.{Play, Answer, done, ask, asks, over, gives}
use Rattle.dos_world.specs.Services.{service, service_for, service_of}
use Rattle.dos_world.specs.Calls.{Call, Served, went, waits, yields, gone, charged}
use Rattle.dos_world.specs.Calls.{call_of}
use Rattle.dos_world.specs.declared.Question.{Question}
use Rattle.dos_io.specs.declared.exchange.Exchange.{Exchange}
use Rattle.dos_io.specs.declared.exchange.Exchange.TheVariants.{Signals, Input as input_exchange}
use Rattle.dos_io.specs.declared.exchange.Exchange.TheVariants.{Clock, End}
use Rattle.dos_io.specs.Exchanges.{answer_of, question_of}
use Rattle.dos_io.specs.Shims.{HasNoEnd}
use Rattle.dos_laws.proofs.Stands.{at_changed}
use Rattle.dos_laws.proofs.Ends.{length-map_from}
use Rattle.round_core.specs.Protocol.{Allows, Protocol}
use Rattle.round_core.proofs.Allowed.{Comes, over_allows, over_comes}
use Rattle.round_core.proofs.Services.{IsSaid, Leaves, Said, Stands, service_left}
use Rattle.proc_table.specs.Tables.{thread_in}
use Rattle.group_rounds.specs.Plays.{GoesOn}
use Rattle.group_rounds.specs.Outside.{is_end_question}
use Rattle.group_rounds.proofs.ThreadRunLaws.{thread_in-by}

-- any question but that of the run's end, and any answer
abbrev pub asking : Protocol
asking = record {
  may = λ question output error. is_end_question (Some question) ≡ false;
  answers = λ answer. ⊤;
  posts = λ post. ⊤;
  brings = λ answer is k d lt. tt;
}

-- the budget of a live thread
abbrev pub budget_at : List (Option Thread) → ℕ → Option ℕ
budget_at threads t = option_map (λ thread. thread.budget) (thread_in threads t)

-- a change that leaves the budget, and a thread more
same_budget : (f : Thread → Thread) → ((thread : Thread) → (f thread).budget ≡ thread.budget)
    → (budget : ℕ) (o : Option Thread)
    → option_map (λ (thread : Thread). thread.budget) o ≡ Some budget
    → option_map (λ (thread : Thread). thread.budget) (option_map f o) ≡ Some budget
same_budget f same budget None h = h
same_budget f same budget (Some thread) h = ap Some (same thread) ∙ h

more_at : (threads : List (Option Thread)) (new : Thread) (t budget : ℕ)
    → budget_at threads t ≡ Some budget → budget_at (threads ++ Some new ∷ []) t ≡ Some budget
more_at threads new zero budget h = h
more_at threads new (suc i) budget h = go threads i h
  where
    go : (threads : List (Option Thread)) (i : ℕ)
        → option_map (λ (thread : Thread). thread.budget) (flat (slice_get threads i)) ≡ Some budget
        → option_map (λ (thread : Thread). thread.budget)
        (flat (slice_get (threads ++ Some new ∷ []) i)) ≡ Some budget
    go [] i h = cc
    go (x ∷ threads) zero h = h
    go (x ∷ threads) (suc i) h = go threads i h

module _ (t budget frames : ℕ) where
  -- The caller lives with this budget, and there are so many frames.
  abbrev IsPaid : Said
  IsPaid threads owners quantum rounds output error =
      (budget_at threads t ≡ Some budget) × (length owners ≡ frames)

  -- where a service lets its caller go on, it has paid; and there are so many frames in any case
  abbrev pub HasPaid : Served → Type 0
  HasPaid (went w) = IsSaid IsPaid w
  HasPaid (waits w) = length w.owners ≡ frames
  HasPaid (yields w) = length w.owners ≡ frames
  HasPaid (gone w) = length w.owners ≡ frames

  paid_stands : Stands IsPaid
  paid_stands = record {
    thread = λ f same w u k. (
      at_changed (λ o. option_map (λ (thread : Thread). thread.budget) o ≡ Some budget) f w.threads
          u t (λ other. k.0)
          (λ here. same_budget f same budget (thread_at w u)
          (subst (λ n. budget_at w.threads n ≡ Some budget) here k.0)),
      k.1,
    );
    new_thread = λ w thread k. (more_at w.threads thread t budget k.0, k.1);
    owners = λ w owners count k. (k.0, count ∙ k.1);
    output = λ w bytes k. k;
    error = λ w bytes k. k;
  }

  paid_leaves : Leaves IsPaid HasPaid
  paid_leaves =
      record { going = λ w k. k; waiting = λ w k. k.1; yielding = λ w k. k.1 }

-- the end of a process, and of a thread, leave as many frames
pub process_ended-count : (w : World) (p status : ℕ)
    → length (process_ended w p status).owners ≡ length w.owners
process_ended-count w p status = go (first_thread closed (parent_of w p))
    ∙ length-map_from 0 (owner_if_mapped ended) w.owners
  where
    ended : World
    ended = record w {
      processes = map (orphaned p) (changed (ended_by status) w.processes p);
      threads = map (unless_of p) w.threads;
      sleepers = filter (is_none_of_these (threads_of w p)) w.sleepers;
    }

    closed : World
    closed = tidied ended

    go : (o : Option ℕ) → length
        (elim o as (λ _. World) [
          | None ↦ closed
          | Some t ↦ with_thread closed t (pending_with 17)
        ]).owners ≡ length closed.owners
    go None = refl
    go (Some t) = refl

thread_ended-count : (w : World) (p t : ℕ) → length (thread_ended w p t).owners ≡ length w.owners
thread_ended-count w p t = go (length (threads_of w p) == 1)
  where
    go : (last : Bool) → length (cond last (process_ended w p 0) (without_thread w t)).owners
        ≡ length w.owners
    go true = process_ended-count w p 0
    go false = refl

-- The service that the a7 of a live thread names pays, over any answers.
pub service_pays : (w : World) (t : ℕ) (thread : Thread) → thread_at w t ≡ Some thread
    → Allows asking (HasPaid t (thread.budget - 1) (length w.owners)) (service w t)
service_pays w t thread is =
    subst (λ o. Allows asking (HasPaid t (thread.budget - 1) (length w.owners)) (service_for w t o))
    (sym is) each
  where
    c : Call
    c = call_of w t thread

    stands : Stands (IsPaid t (thread.budget - 1) (length w.owners))
    stands = paid_stands t (thread.budget - 1) (length w.owners)

    pays : budget_at c.world.threads t ≡ Some (thread.budget - 1)
    pays = ap (option_map (λ thread. thread.budget))
        (thread_in-by charged w.threads t ∙ ap (option_map charged) is)

    each : Allows asking (HasPaid t (thread.budget - 1) (length w.owners))
        (service_of (get thread.registers 17) c)
    each =
        service_left (IsPaid t (thread.budget - 1) (length w.owners)) stands asking
        (HasPaid t (thread.budget - 1) (length w.owners))
        (paid_leaves t (thread.budget - 1) (length w.owners)) c (pays, refl) (λ number. ⊤)
        (λ called most. refl) (λ called. refl)
        (thread_ended-count c.world c.process t)
        (process_ended-count c.world c.process (c.a0 % 256)) (get thread.registers 17) tt

pub service_paid : (w : World) (t : ℕ) (thread : Thread) (answers rest : List Answer)
    (served : Served) → thread_at w t ≡ Some thread
    → over answers (service w t) ≡ gives served rest
    → HasPaid t (thread.budget - 1) (length w.owners) served
service_paid w t thread answers rest served is e =
    over_allows asking (HasPaid t (thread.budget - 1) (length w.owners)) answers
    (service w t) served rest (service_pays w t thread is) (λ k d lt. tt) e

-- ---- questions

-- no exchange of what asks so is the run's end
pub no_end_over : {A : Type 0} (P : A → Type 0) (es : List Exchange) (play left : Play A)
    → Allows asking P play → GoesOn es play left → HasNoEnd es
no_end_over P [] play left may h = tt
no_end_over P (x ∷ es) (done a) left may h = absurd h
no_end_over P (x ∷ es) (ask question output error next) left may h =
    by_exchange x (ap (λ q. is_end_question (Some q)) (sym h.0) ∙ may.0)
    (no_end_over P es (next (answer_of x)) left (may.1 (answer_of x) tt) h.1)
  where
    by_exchange : (x : Exchange) → is_end_question (Some (question_of x)) ≡ false → HasNoEnd es
        → HasNoEnd (x ∷ es)
    by_exchange (Signals round list) other rest = rest
    by_exchange (input_exchange round tid max bytes) other rest = rest
    by_exchange (Clock round tid n) other rest = rest
    by_exchange (End ending rounds) other rest = cc

pub no_end-append : (es fs : List Exchange) → HasNoEnd es → HasNoEnd fs → HasNoEnd (es ++ fs)
no_end-append [] fs h k = k
no_end-append (Signals round list ∷ es) fs h k = no_end-append es fs h k
no_end-append (input_exchange round tid max bytes ∷ es) fs h k = no_end-append es fs h k
no_end-append (Clock round tid n ∷ es) fs h k = no_end-append es fs h k
no_end-append (End ending rounds ∷ es) fs h k = absurd h

-- and the question that it comes to isn't
pub question_no_end : {A : Type 0} (P : A → Type 0) (given : List Answer) (play : Play A)
    (question : Question) (output error : List ℕ) → Allows asking P play
    → over given play ≡ asks question output error → is_end_question (Some question) ≡ false
question_no_end P given play question output error may e =
    subst (Comes asking P) e (over_comes asking P given play may (λ k d lt. tt))
