-- Walks over small programs, computed by the checker. What they come to was worked out by hand.
use Rattle.std.specs.Prelude.{ℕ, pos, true, List, [], ◌∷◌, ◌≡◌, refl, flat_map, Option, Some, None}
use Rattle.dos_world.specs.Bytes.{bytes_of}
use Rattle.dos_world.specs.Play.{Outcome, gives, asks, over, posts}
use Rattle.dos_world.specs.World.{blank}
use Rattle.dos_world.specs.declared.Access.TheVariants.{Store}
use Rattle.dos_world.specs.declared.Config.{Config}
use Rattle.dos_world.specs.declared.Reason.TheVariants.{Fault, Service}
use Rattle.dos_world.specs.declared.Size.TheVariants.{Word}
use Rattle.dos_world.specs.declared.Scheme.TheVariants.{Ownership}
use Rattle.elf_image.specs.Image.{Image}
use Rattle.flat_machine.specs.Computing.{computing}
use Rattle.flat_machine.specs.Effect.{effect}
use Rattle.flat_machine.specs.Opening.{opening}
use Rattle.flat_machine.specs.Step.{step}
use Rattle.rv_isa.specs.declared.Instr.TheVariants as instr
use Rattle.rv_isa.specs.declared.StoreOp.TheVariants as stores
use Rattle.group_moves.specs.Moments.{Moment, first_moment}
use Rattle.group_moves.specs.Places.{Place, between_rounds, within_part, within_rest}
use Rattle.group_walk.specs.declared.need.Need.TheVariants.{Reach, Stop}
use Rattle.group_walk.specs.declared.walker.Phase.TheVariants.{Between, Parallel, Serial}
use Rattle.group_walk.specs.Needs.{all_granted, need_of, reason_of}
use Rattle.group_walk.specs.Places.{numbers_behind, place_at}
use Rattle.group_walk.specs.Plays.{walked}

-- an image of these instruction words at 0x10000, entered at the first
abbrev program : List ℕ → Image
program words =
    record {
      entry = 0x10000;
      parts =
          record {
            address = 0x10000;
            bytes = flat_map (bytes_of 4) words;
            zeros = 0;
            write = true;
            exec = true;
            index = 0;
          } ∷ [];
    }

abbrev run_of_100 : Config
run_of_100 = record { quantum = 1000; rounds = 100; frames = 17; scheme = Ownership }

-- process_exit with 7
abbrev exits : Image
exits = program (0x00200893 ∷ 0x00700513 ∷ 0x00000073 ∷ [])

-- the numbers of the moment to which a walk comes, and its place
abbrev stands_at : Outcome Moment → Option (ℕ × ℕ × Place)
stands_at (gives m rest) = Some (m.begun_rounds, m.made, m.place)
stands_at (asks question output error) = None

abbrev after_moves : ℕ → Option (ℕ × ℕ × Place)
after_moves moves = stands_at (over (posts [] ∷ [])
    (walked moves 100 (first_moment (opening (exits ∷ []) run_of_100))))

no_move : after_moves 0 ≡ Some (0, 0, between_rounds)
unfolding computing
no_move = refl

a_round_has_begun : after_moves 1 ≡ Some (1, 0, within_part (1 ∷ []) 1 [])
unfolding computing
a_round_has_begun = refl

-- two instructions, and the ecall stops: the serial phase
a_service_is_next : after_moves 3 ≡ Some (1, 2, within_rest (1 ∷ []) 1 [])
unfolding computing
a_service_is_next = refl

-- behind the last the round is counted, and nobody lives
nobody_is_left : after_moves 9 ≡ Some (1, 3, between_rounds)
unfolding computing
nobody_is_left = refl

-- ---- places by an index

the_second_of_three : place_at Parallel (2 ∷ 5 ∷ 7 ∷ []) 1 ≡ within_part (2 ∷ 5 ∷ 7 ∷ []) 5 (7 ∷ [])
the_second_of_three = refl

the_last_of_three : place_at Serial (2 ∷ 5 ∷ 7 ∷ []) 2 ≡ within_rest (2 ∷ 5 ∷ 7 ∷ []) 7 []
the_last_of_three = refl

numbers : numbers_behind Between 4 17 ≡ (5, 0)
numbers = refl

-- ---- needs

a_store_needs_its_word : need_of (effect (instr.Store stores.Sw 0 0 (pos 8)) 4 (blank 0x10000))
    ≡ Reach 8 Word Store
unfolding effect
a_store_needs_its_word = refl

an_ecall_stops : need_of (effect instr.Ecall 4 (blank 0x10000)) ≡ Stop Service
unfolding effect
an_ecall_stops = refl

-- an ebreak stops so whosever the pages are
an_ebreak_stops : reason_of (step (all_granted 1 (opening (program (0x00100073 ∷ []) ∷ [])
    run_of_100)) 1) ≡ Some (Fault 5)
unfolding computing
an_ebreak_stops = refl
