-- The services that never wait: all but wait, read, write and futex_wait.
use Rattle.std.proofs.Common.{◌≡◌, ◌≢◌, ℕ, Bool, true, false, cond, not, if◌then◌else◌, List, []}
use Rattle.std.proofs.Common.{◌∷◌, Option, Some, None, Result, Ok, Err, refl, sym, subst, eqb-true}
use Rattle.std.specs.Prelude.{◌==◌, ◌||◌, ◌%◌, find, is_none, nat_lt, ⊤}
use Rattle.dos_world.specs.World.{World, Registers, Thread, action_of, entry_at, first_of}
use Rattle.dos_world.specs.World.{live_process, with_holdings}
use Rattle.dos_world.specs.Kernel.{posted, tidied}
use Rattle.dos_world.specs.Play.{Play}
use Rattle.dos_world.specs.Calls.{Call, Service, Served as FlatServed, mask_of, refuses, returns_in}
use Rattle.dos_world.specs.Calls.{replies}
use Rattle.dos_world.specs.DescriptorCalls.{close, descriptor, dup, dup_by, free_descriptors}
use Rattle.dos_world.specs.DescriptorCalls.{lowest_pipe, pipe, pipe_by, read, second_of}
use Rattle.dos_world.specs.DescriptorCalls.{with_descriptor, write}
use Rattle.dos_world.specs.FutexCalls.{by_entry, futex_wait, futex_wake, futex_wake_at, is_off_word}
use Rattle.dos_world.specs.MemoryCalls.{mapped, shared, unmapped}
use Rattle.dos_world.specs.ProcessCalls.{forked, next_process, wait}
use Rattle.dos_world.specs.Services.{services, service_by, service_of}
use Rattle.dos_world.specs.SignalCalls.{is_action, is_signal, kill, saved_of, sig_handler}
use Rattle.dos_world.specs.SignalCalls.{sig_return, sig_return_by, with_action}
use Rattle.dos_world.specs.Signals.{play_waits}
use Rattle.dos_world.specs.declared.End.{End}
use Rattle.dos_world.specs.declared.Entry.{Entry}
use Rattle.dos_world.specs.ThreadCalls.{are_threads_full, new_registers, next_thread, ready_thread}
use Rattle.dos_world.specs.ThreadCalls.{thread_new, with_new_thread}

-- a service that never waits
abbrev pub IsPatient : Service → Type 0
IsPatient service = (c : Call) → play_waits (service c) ≡ false

either : (b : Bool) (x y : Play FlatServed) → play_waits x ≡ false → play_waits y ≡ false
    → play_waits (cond b x y) ≡ false
either true x y first second = first
either false x y first second = second

replied : (r : Result World ℕ) (value : ℕ) → IsPatient (replies r value)
replied (Ok w) value c = refl
replied (Err number) value c = refl

-- ---- each

thread_new_goes : IsPatient thread_new
thread_new_goes c =
    let thread : Thread =
    ready_thread c.process (new_registers c.a0 c.a1 c.a2) (mask_of c) [] in
    let begun : Play FlatServed =
    returns_in (with_new_thread c.world thread) (next_thread c.world) c in
    let full : Bool = are_threads_full c.world.threads in
    either (not (c.a0 % 2 == 0)) (refuses 22 c) (cond full (refuses 11 c) begun) refl
    (either full (refuses 11 c) begun refl refl)

pipe_goes : IsPatient pipe
pipe_goes c = by (first_of (free_descriptors c)) (second_of (free_descriptors c))
    (lowest_pipe c.world)
  where
    by : (x y z : Option ℕ) → play_waits (pipe_by x y z c) ≡ false
    by None y z = refl
    by (Some x) None z = refl
    by (Some x) (Some y) None = refl
    by (Some x) (Some y) (Some z) = refl

close_goes : IsPatient close
close_goes c = by (descriptor c)
  where
    by : (o : Option End)
        → play_waits (elim o as (λ _. Play FlatServed) [
          | None ↦ refuses 9 c
          | Some end ↦ returns_in (tidied (with_descriptor c c.world c.a0 None)) 0 c
        ]) ≡ false
    by None = refl
    by (Some end) = refl

dup_goes : IsPatient dup
dup_goes c = by (descriptor c) (first_of (free_descriptors c))
  where
    by : (x : Option End) (y : Option ℕ) → play_waits (dup_by x y c) ≡ false
    by None y = refl
    by (Some x) None = refl
    by (Some x) (Some y) = refl

futex_wake_goes : IsPatient futex_wake
futex_wake_goes c = either (is_off_word c) (refuses 22 c)
    (by_entry futex_wake_at (entry_at c.world c.thread c.a0) c) refl
    (by (entry_at c.world c.thread c.a0))
  where
    by : (o : Option Entry) → play_waits (by_entry futex_wake_at o c) ≡ false
    by None = refl
    by (Some e) = refl

sig_handler_goes : IsPatient sig_handler
sig_handler_goes c =
    either (not (is_signal c.a0) || (c.a0 == 9) || not (is_action c.a1)) (refuses 22 c)
    (returns_in (with_holdings c.world c.process (with_action c.a0 c.a1))
    (action_of c.world c.process c.a0) c) refl refl

sig_return_goes : IsPatient sig_return
sig_return_goes c = by (saved_of c)
  where
    by : (saved : List (Registers × ℕ)) → play_waits (sig_return_by saved c) ≡ false
    by [] = refl
    by (last ∷ others) = refl

kill_goes : IsPatient kill
kill_goes c =
    let posts : Play FlatServed =
    returns_in (if c.a1 == 0 then c.world else posted c.world c.a0 c.a1) 0 c in
    let gone : Bool = is_none (live_process c.world c.a0) in
    either (nat_lt 31 c.a1) (refuses 22 c) (cond gone (refuses 3 c) posts) refl
    (either gone (refuses 3 c) posts refl refl)

-- ---- all

-- a number of none of the four that can wait
abbrev pub IsPatientNumber : ℕ → Type 0
IsPatientNumber n = (n ≢ 5) × (n ≢ 7) × (n ≢ 8) × (n ≢ 11)

abbrev IsPatientRow : ℕ × Service → Type 0
IsPatientRow row = IsPatientNumber row.0 → IsPatient row.1

abbrev EachRow : List (ℕ × Service) → Type 0
EachRow [] = ⊤
EachRow (row ∷ rows) = IsPatientRow row × EachRow rows

each_row : EachRow services
unfolding services
each_row = (
  λ others. λ c. refl,
  (
    λ others. λ c. refl,
    (
      λ others. thread_new_goes,
      (
        λ others. λ c. replied (forked c) (next_process c.world) c,
        (
          λ others. absurd (others.0 refl),
          (
            λ others. pipe_goes,
            (
              λ others. absurd (others.1 refl),
              (
                λ others. absurd (others.2 refl),
                (
                  λ others. close_goes,
                  (
                    λ others. dup_goes,
                    (
                      λ others. absurd (others.3 refl),
                      (
                        λ others. futex_wake_goes,
                        (
                          λ others. λ c. replied (mapped c) 0 c,
                          (
                            λ others. λ c. replied (unmapped c) 0 c,
                            (
                              λ others. λ c. replied (shared c) 0 c,
                              (
                                λ others. sig_handler_goes,
                                (
                                  λ others. λ c. refl,
                                  (
                                    λ others. sig_return_goes,
                                    (
                                      λ others. kill_goes,
                                      (
                                        λ others. λ c. refl,
                                        (
                                          λ others. λ c. refl,
                                          (
                                            λ others. λ c. refl,
                                            (
                                              λ others. λ c. refl,
                                              (
                                                λ others. λ c. refl,
                                                tt,
                                              ),
                                            ),
                                          ),
                                        ),
                                      ),
                                    ),
                                  ),
                                ),
                              ),
                            ),
                          ),
                        ),
                      ),
                    ),
                  ),
                ),
              ),
            ),
          ),
        ),
      ),
    ),
  ),
)

by_number : (n : ℕ) → IsPatientNumber n → (rows : List (ℕ × Service)) → EachRow rows
    → IsPatient (service_by (find (λ row. row.0 == n) rows))
by_number n others [] each = λ c. refl
by_number n others (row ∷ rows) each = first (row.0 == n) refl (by_number n others rows each.1)
  where
    first : (b : Bool) → (row.0 == n) ≡ b
        → IsPatient (service_by (find (λ row. row.0 == n) rows))
        → IsPatient (service_by (cond b (Some row) (find (λ row. row.0 == n) rows)))
    first true is rest = each.0 (subst IsPatientNumber (sym (eqb-true row.0 n is)) others)
    first false is rest = rest

-- a service of none of the four numbers never waits
pub patient : (n : ℕ) → IsPatientNumber n → IsPatient (service_of n)
patient n others = by_number n others services each_row

-- ---- the four

pub row_5 : service_of 5 ≡ wait
unfolding services
row_5 = refl

pub row_7 : service_of 7 ≡ read
unfolding services
row_7 = refl

pub row_8 : service_of 8 ≡ write
unfolding services
row_8 = refl

pub row_11 : service_of 11 ≡ futex_wait
unfolding services
row_11 = refl
