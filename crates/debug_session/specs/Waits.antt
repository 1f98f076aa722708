-- What a thread is about, in words: it is ready, waits in a service, sleeps, or is gone. This
-- project's own texts; numbers are decimal.
use Rattle.std.specs.Prelude.{ℕ, ◌/◌, ◌%◌, ◌^◌, ◌==◌, List, [], ◌++◌, find, Option, Some, None}
use Rattle.std.specs.Prelude.{codes}
use Rattle.std.specs.Prelude.{decimal, if◌then◌else◌}
use Rattle.dos_world.specs.World.{World, Registers, Process, Sleeper, live, ended, get}
use Rattle.dos_world.specs.World.{process_at, thread_at}
use Rattle.dos_world.specs.declared.ThreadState.{ThreadState}
use Rattle.dos_world.specs.declared.ThreadState.TheVariants.{Ready, Retry, Asleep}
use Rattle.gdb_packets.specs.Hexadecimal.{byte_digits}

-- eight hexadecimal digits
abbrev pub word_digits : ℕ → List ℕ
word_digits n =
    byte_digits (n / 2 ^ 24) ++ byte_digits (n / 2 ^ 16 % 256) ++ byte_digits (n / 2 ^ 8 % 256)
    ++ byte_digits (n % 256)

-- ---- waiting, by the service in a7 (x17) and what a0 (x10) names

abbrev pub child_wait : (which : ℕ) → List ℕ
child_wait which =
    if which == 0 then codes "waits for any child"
    else codes "waits for process " ++ decimal which

-- 5 waits for a child, 7 reads, 8 writes; no other service tries again
abbrev pub wait_text : (number which : ℕ) → List ℕ
wait_text number which =
    if number == 5 then child_wait which
    else if number == 7 then codes "waits to read descriptor " ++ decimal which
    else codes "waits to write descriptor " ++ decimal which

-- ---- sleeping, on an address by the place of its word

abbrev pub place_text : Option Sleeper → List ℕ
place_text None = []
place_text (Some sleeper) =
    codes ", frame " ++ decimal sleeper.frame ++ codes " offset " ++ decimal sleeper.offset

abbrev pub sleep_text : List Sleeper → ℕ → (address : ℕ) → List ℕ
sleep_text sleepers t address =
    codes "sleeps at " ++ word_digits address
    ++ place_text (find (λ sleeper. sleeper.thread == t) sleepers)

-- ---- a thread

-- by what is left of its budget, its registers and its state
abbrev pub state_text : List Sleeper → ℕ → (budget : ℕ) → Registers → ThreadState → List ℕ
state_text sleepers t budget r Ready = codes "ready, " ++ decimal budget ++ codes " left"
state_text sleepers t budget r Retry = wait_text (get r 17) (get r 10)
state_text sleepers t budget r Asleep = sleep_text sleepers t (get r 10)

-- of a listed thread that doesn't live, by its process
abbrev pub absence_text : Option Process → List ℕ
absence_text None = codes "not born yet"
absence_text (Some process) = elim process.life [
  | live h ↦ []
  | ended status collected ↦ codes "ended, status " ++ decimal status
]

-- thread t of process p
abbrev pub what_text : World → (p t : ℕ) → List ℕ
what_text w p t = elim (thread_at w t) [
  | None ↦ absence_text (process_at w p)
  | Some thread ↦
      state_text w.sleepers t thread.budget thread.registers thread.state
]
