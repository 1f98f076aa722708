-- A thread that lives and has its registers keeps them under what services change of the world.
use Rattle.std.proofs.Common.{ℕ, zero, suc, ◌<◌, ◌≡◌, refl, sym, ap, ◌∙◌, Bool, cond, true, false}
use Rattle.std.proofs.Common.{List, [], ◌∷◌, ◌++◌, length, Option, Some, None, option_map}
use Rattle.std.specs.Prelude.{slice_get, nat_lt, IsTrue}
use Rattle.std.proofs.lemmas.Bool.{ltb-true, true≢false}
use Rattle.std.proofs.lemmas.List.{length-set, get_or-set_same}
use Rattle.dos_world.specs.Numbered.{numbered, changed, changed_at}
use Rattle.dos_world.specs.World.{World, Thread, Registers, Entry, flat, with_thread, registers_by}
use Rattle.dos_world.specs.World.{get, set}
use Rattle.dos_world.specs.Kernel.{awake, woken, posted, pending_with, with_fresh, copied_in}
use Rattle.dos_world.specs.Kernel.{copied_out, opened}
use Rattle.dos_world.specs.Bytes.{stored}
use Rattle.dos_world.specs.Copying.{byte_stored}
use Rattle.dos_world.specs.Reach.{Reached, fault, foreign, at, reach, grant}
use Rattle.dos_world.specs.Calls.{Call}
use Rattle.dos_world.specs.ProcessCalls.{copied_space}
use Rattle.dos_world.specs.FutexCalls.{all_woken}
use Rattle.dos_world.specs.MemoryCalls.{mapped_fresh, page_mapped}
use Rattle.dos_world.specs.World.{first_thread, page_of}
use Rattle.dos_world.specs.declared.Access.{Access}
use Rattle.dos_world.proofs.Numbers.{changed_there}
use Rattle.dos_world.specs.declared.Access.TheVariants.{Load, Store}
use Rattle.dos_world.specs.declared.Size.TheVariants.{Byte}

-- ---- which changes leave the threads

opened_by : (w : World) (t : ℕ) (access : Access) (r : Reached)
    → (elim r as (λ _. World) [
      | fault n ↦ w
      | foreign frame ↦ grant w t frame access
      | at place ↦ w
    ]).threads ≡ w.threads
opened_by w t access (fault n) = refl
opened_by w t access (foreign frame) = refl
opened_by w t access (at place) = refl

pub threads-opened : (w : World) (t address : ℕ) (access : Access)
    → (opened w t address access).threads ≡ w.threads
threads-opened w t address access = opened_by w t access (reach w t address Byte access)

pub threads-copied_in : (w : World) (t address n : ℕ)
    → (copied_in w t address n).0.threads ≡ w.threads
threads-copied_in w t address zero = refl
threads-copied_in w t address (suc n) =
    threads-copied_in (opened w t address Load) t (suc address) n ∙ threads-opened w t address Load

threads-byte_stored : (w : World) (t address b : ℕ)
    → (byte_stored w t address b).threads ≡ w.threads
threads-byte_stored w t address b = by_reached (reach w t address Byte Store)
  where
    by_reached : (r : Reached)
        → (elim r as (λ _. World) [
          | fault number ↦ w
          | foreign frame ↦ w
          | at place ↦ stored w place (b ∷ [])
        ]).threads ≡ w.threads
    by_reached (fault number) = refl
    by_reached (foreign frame) = refl
    by_reached (at place) = refl

pub threads-copied_out : (w : World) (t address : ℕ) (bytes : List ℕ)
    → (copied_out w t address bytes).threads ≡ w.threads
threads-copied_out w t address [] = refl
threads-copied_out w t address (b ∷ bytes) =
    let before : World = opened w t address Store in
    threads-copied_out (byte_stored before t address b) t (suc address) bytes
    ∙ threads-byte_stored before t address b ∙ threads-opened w t address Store

pub threads-copied_space : (w : World) (t : ℕ) (space : List (ℕ × Entry))
    → (copied_space w t space).0.threads ≡ w.threads
threads-copied_space w t [] = refl
threads-copied_space w t (e ∷ space) =
    by_shared (λ next. threads-copied_space next t space) e.1.shared
  where
    by_shared : ((next : World) → (copied_space next t space).0.threads ≡ next.threads) → (b : Bool)
        → (copied_space (cond b w (with_fresh w t (page_of w.bytes e.1.frame))) t space).0.threads
        ≡ w.threads
    by_shared rest true = rest w
    by_shared rest false = rest (with_fresh w t (page_of w.bytes e.1.frame))

pub threads-mapped_fresh : (c : Call) (w : World) (pages : List ℕ)
    → (mapped_fresh c w pages).threads ≡ w.threads
threads-mapped_fresh c w [] = refl
threads-mapped_fresh c w (page ∷ pages) =
    threads-mapped_fresh c (page_mapped c.thread c.process c.a2 w page) pages

-- ---- a thread with its registers

-- whether a thread lives and has a0
abbrev pub has_a0 : Option Thread → Bool
has_a0 None = false
has_a0 (Some thread) = nat_lt 10 (length thread.registers.numbers)

-- whether the thread of this number does
abbrev pub lives : List (Option Thread) → ℕ → Bool
lives threads t = has_a0 (flat (numbered threads t))

-- what keeps the number of registers keeps that
pub lives-changed : (f : Thread → Thread)
    → ((thread : Thread) → length (f thread).registers.numbers ≡ length thread.registers.numbers)
    → (threads : List (Option Thread)) (s t : ℕ)
    → lives (changed (option_map f) threads s) t ≡ lives threads t
lives-changed f keeps threads zero t = refl
lives-changed f keeps threads (suc s) zero = refl
lives-changed f keeps threads (suc s) (suc t) = walk threads s t
  where
    walk : (threads : List (Option Thread)) (s t : ℕ)
        → has_a0 (flat (slice_get (changed_at (option_map f) threads s) t))
        ≡ has_a0 (flat (slice_get threads t))
    walk [] s t = refl
    walk (None ∷ threads) zero zero = refl
    walk (Some thread ∷ threads) zero zero = ap (nat_lt 10) (keeps thread)
    walk (x ∷ threads) zero (suc t) = refl
    walk (x ∷ threads) (suc s) zero = refl
    walk (x ∷ threads) (suc s) (suc t) = walk threads s t

pub lives-more : (threads more : List (Option Thread)) (t : ℕ) → IsTrue (lives threads t)
    → IsTrue (lives (threads ++ more) t)
lives-more threads more zero h = h
lives-more threads more (suc t) h = walk threads t h
  where
    walk : (threads : List (Option Thread)) (t : ℕ) → IsTrue (has_a0 (flat (slice_get threads t)))
        → IsTrue (has_a0 (flat (slice_get (threads ++ more) t)))
    walk [] t h = absurd (true≢false (sym h))
    walk (x ∷ threads) zero h = h
    walk (x ∷ threads) (suc t) h = walk threads t h

pub numbers-set : (r : Registers) (index value : ℕ)
    → length (set r index value).numbers ≡ length r.numbers
numbers-set r zero value = refl
numbers-set r (suc i) value = length-set r.numbers (suc i) value

pub lives-woken : (w : World) (s value t : ℕ)
    → lives (woken w s value).threads t ≡ lives w.threads t
lives-woken w s value t =
    lives-changed (awake value) (λ thread. numbers-set thread.registers 10 value) w.threads s t

pub lives-all_woken : (w : World) (sleepers : List ℕ) (t : ℕ)
    → lives (all_woken w sleepers).threads t ≡ lives w.threads t
lives-all_woken w [] t = refl
lives-all_woken w (s ∷ sleepers) t = lives-all_woken (woken w s 0) sleepers t ∙ lives-woken w s 0 t

pub lives-posted : (w : World) (p signal t : ℕ)
    → lives (posted w p signal).threads t ≡ lives w.threads t
lives-posted w p signal t = by_first (first_thread w p)
  where
    by_first : (o : Option ℕ)
        → lives (elim o as (λ _. World) [
          | None ↦ w
          | Some s ↦ with_thread w s (pending_with signal)
        ]).threads t ≡ lives w.threads t
    by_first None = refl
    by_first (Some s) = lives-changed (pending_with signal) (λ thread. refl) w.threads s t

-- ---- a0

-- a0 of a thread that lives
abbrev pub a0_of : Option Thread → Option ℕ
a0_of thread = option_map (λ thread. get thread.registers 10) thread

-- where t lives and its registers are changed so that a0 has a value
pub a0-changed : (f : Registers → Registers) (value : ℕ)
    → ((r : Registers) → 10 < length r.numbers → get (f r) 10 ≡ value)
    → (threads : List (Option Thread)) (t : ℕ) → IsTrue (lives threads t)
    → a0_of (flat (numbered (changed (option_map (registers_by f)) threads t) t)) ≡ Some value
a0-changed f value gives threads t h = ap a0_of (changed_there (registers_by f) threads t)
    ∙ by_thread (flat (numbered threads t)) h
  where
    by_thread : (o : Option Thread) → IsTrue (has_a0 o)
        → a0_of (option_map (registers_by f) o) ≡ Some value
    by_thread None h = absurd (true≢false (sym h))
    by_thread (Some thread) h =
        ap Some (gives thread.registers (ltb-true 10 (length thread.registers.numbers) h))

pub a0-set : (value : ℕ) (r : Registers) → 10 < length r.numbers → get (set r 10 value) 10 ≡ value
a0-set value r h = get_or-set_same r.numbers 10 value 0 h
