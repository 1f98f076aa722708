-- One thing for each service of the table, by its name; so for the service of each number.
use Rattle.std.proofs.Common.{ℕ, ◌≡◌, refl, subst, Bool, true, false, cond, List, [], ◌∷◌, Some}
use Rattle.std.proofs.Common.{eqb-true}
use Rattle.std.specs.Prelude.{⊤, find, ◌==◌}
use Rattle.dos_world.specs.Calls.{Service, refuses}
use Rattle.dos_world.specs.Services.{services, service_of, service_by, thread_exit, process_exit}
use Rattle.dos_world.specs.Services.{thread_new, fork, wait, pipe, read, write, close, dup}
use Rattle.dos_world.specs.Services.{futex_wait, futex_wake, map_pages, unmap, share, sig_handler}
use Rattle.dos_world.specs.Services.{sig_mask, sig_return, kill, get_pid, get_tid, clock, yield}
use Rattle.dos_world.specs.Services.{round_number}

-- What holds of each service, with its number. A new service is a field more.
pub record OfEach (K : ℕ → Service → Type 0) : Type 0 where
  pub of_thread_exit : K 1 thread_exit
  pub of_process_exit : K 2 process_exit
  pub of_thread_new : K 3 thread_new
  pub of_fork : K 4 fork
  pub of_wait : K 5 wait
  pub of_pipe : K 6 pipe
  pub of_read : K 7 read
  pub of_write : K 8 write
  pub of_close : K 9 close
  pub of_dup : K 10 dup
  pub of_futex_wait : K 11 futex_wait
  pub of_futex_wake : K 12 futex_wake
  pub of_map : K 13 map_pages
  pub of_unmap : K 14 unmap
  pub of_share : K 15 share
  pub of_sig_handler : K 16 sig_handler
  pub of_sig_mask : K 17 sig_mask
  pub of_sig_return : K 18 sig_return
  pub of_kill : K 19 kill
  pub of_get_pid : K 20 get_pid
  pub of_get_tid : K 21 get_tid
  pub of_clock : K 22 clock
  pub of_yield : K 23 yield
  pub of_round : K 24 round_number

-- one thing and the others
infixr 5 ◌&◌
◌&◌ : {A B : Type 0} → A → B → A × B
a & b = (a, b)

module _ (K : ℕ → Service → Type 0) where
  -- of each row, one after another
  abbrev AllRows : List (ℕ × Service) → Type 0
  AllRows [] = ⊤
  AllRows (row ∷ rows) = K row.0 row.1 × AllRows rows

  found : (rows : List (ℕ × Service)) → AllRows rows → (number : ℕ) → K number (refuses 38)
      → K number (service_by (find (λ row. row.0 == number) rows))
  found [] all number missing = missing
  found (row ∷ rows) all number missing =
      by_first (found rows all.1 number missing) (row.0 == number) refl
    where
      by_first : K number (service_by (find (λ (row : ℕ × Service). row.0 == number) rows))
          → (b : Bool) → (row.0 == number) ≡ b
          → K number (service_by
          (cond b (Some row) (find (λ (row : ℕ × Service). row.0 == number) rows)))
      by_first others true e = subst (λ n. K n row.1) (eqb-true row.0 number e) all.0
      by_first others false e = others

  rows_of : OfEach K → AllRows services
  unfolding services
  rows_of r =
      r.of_thread_exit & r.of_process_exit & r.of_thread_new & r.of_fork & r.of_wait & r.of_pipe &
      r.of_read & r.of_write & r.of_close & r.of_dup & r.of_futex_wait & r.of_futex_wake &
      r.of_map & r.of_unmap & r.of_share & r.of_sig_handler & r.of_sig_mask & r.of_sig_return &
      r.of_kill & r.of_get_pid & r.of_get_tid & r.of_clock & r.of_yield & r.of_round & tt

  -- the service of a number, or the refusal of one that there isn't
  pub by_number : OfEach K → ((number : ℕ) → K number (refuses 38)) → (number : ℕ)
      → K number (service_of number)
  by_number r missing number = found services (rows_of r) number (missing number)
