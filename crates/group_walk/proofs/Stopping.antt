-- Why the instruction of a thread of a state stops, by what the state's calls say of it.
use Rattle.std.proofs.Common.{ℕ, ◌≡◌, sym, ap, ◌∙◌, Bool, List, Option, None, Some, Result, Ok, Err}
use Rattle.std.specs.Prelude.{IfSome}
use Rattle.dos_world.specs.World.{World, Registers, thread_at}
use Rattle.dos_world.specs.declared.Reason.{Reason}
use Rattle.dos_world.specs.declared.Reason.TheVariants.{Fault}
use Rattle.rv_isa.specs.declared.Instr.{Instr}
use Rattle.dos_laws.proofs.Mapped.{entry_taken}
use Rattle.round_core.specs.Laws.{MapsWithin}
use Rattle.group_rounds.proofs.Sound.{sound_one}
use Rattle.flat_machine.specs.Effect.{effect}
use Rattle.flat_machine.specs.Step.{instruction_at, step}
use Rattle.kernel_calls.specs.StateWorld.{IsSound, sent, world_of}
use Rattle.kernel_calls.specs.declared.state.State.{State}
use Rattle.proc_table.specs.Tables.{IsLiveThread, thread_in}
use Rattle.group_rounds.proofs.ThreadRunLaws.{Seen, seen, registers_is}
use Rattle.group_walk.specs.declared.need.Need.{Need}
use Rattle.group_walk.specs.Needs.{instructions_of, need_of, reason_of, seen_by, unmet}
use Rattle.group_walk.proofs.Refusals.{stops_fetching, stops_meaning_nothing, stops_needing}
use Rattle.group_walk.proofs.Refusals.{thread_seen}

module _ (s : State) (t : ℕ) (g : Bool) (sound : IsSound s) (live : IsLiveThread s.table.threads t)
    (r : Registers) (pc : ℕ)
    (r-is : IfSome (thread_in s.table.threads t) (λ thread. r ≡ thread.registers))
    (pc-is : pc ≡ r.pc) where
  abbrev here : Seen s t
  here = seen s t sound live

  abbrev there : ℕ → List ℕ → List ℕ → World
  there q o e = seen_by g t (sent o e (world_of q s))

  registers : r ≡ here.thread.registers
  registers = registers_is s t sound live r r-is

  pc_there : pc ≡ here.thread.registers.pc
  pc_there = pc-is ∙ ap (λ (x : Registers). x.pc) registers

  thread_there : (q : ℕ) (o e : List ℕ) → thread_at (there q o e) t ≡ Some here.thread
  thread_there q o e = thread_seen g t (sent o e (world_of q s)) t ∙ here.is

  -- what is found at pc
  found_there : (x : Result (Option Instr) Reason)
      → ((q : ℕ) (o e : List ℕ) → instructions_of (instruction_at (there q o e) t pc) ≡ x)
      → (q : ℕ) (o e : List ℕ)
      → instructions_of (instruction_at (there q o e) t here.thread.registers.pc) ≡ x
  found_there x found q o e =
      ap (λ a. instructions_of (instruction_at (there q o e) t a)) (sym pc_there) ∙ found q o e

  pub not_fetched_there : (reason : Reason)
      → ((q : ℕ) (o e : List ℕ)
      → instructions_of (instruction_at (there q o e) t pc) ≡ Err reason)
      → (q : ℕ) (o e : List ℕ) → reason_of (step (there q o e) t) ≡ Some reason
  not_fetched_there reason found q o e =
      stops_fetching (there q o e) t here.thread (thread_there q o e) reason
      (found_there (Err reason) found q o e)

  pub meaningless_there :
      ((q : ℕ) (o e : List ℕ) → instructions_of (instruction_at (there q o e) t pc) ≡ Ok None)
      → (q : ℕ) (o e : List ℕ) → reason_of (step (there q o e) t) ≡ Some (Fault 4)
  meaningless_there found q o e =
      stops_meaning_nothing (there q o e) t here.thread (thread_there q o e)
      (found_there (Ok None) found q o e)

  pub needing_there : (instr : Instr) (need : Need) (why : Option Reason)
      → ((q : ℕ) (o e : List ℕ)
      → instructions_of (instruction_at (there q o e) t pc) ≡ Ok (Some instr))
      → ((size : ℕ) → need_of (effect instr size r) ≡ need)
      → ((q : ℕ) (o e : List ℕ) → unmet (there q o e) t need ≡ why)
      → (q : ℕ) (o e : List ℕ) → reason_of (step (there q o e) t) ≡ why
  needing_there instr need why found needs so q o e =
      stops_needing (there q o e) t here.thread (thread_there q o e) instr need
      (found_there (Ok (Some instr)) found q o e)
      (λ size. ap (λ x. need_of (effect instr size x)) (sym registers) ∙ needs size)
      ∙ so q o e

-- ---- what a thread of a sound state maps is there

pub all_within : (s : State) (t : ℕ) → IsSound s → (q : ℕ) (o e : List ℕ)
    → MapsWithin (sent o e (world_of q s)) t
all_within s t sound q o e address entry found =
    (entry_taken (world_of 16 s) t address entry (sound_one s sound) found).within
