-- Histories of small programs, computed by the checker. What they come to was worked out by hand.
use Rattle.std.specs.Prelude.{ℕ, true, List, [], ◌∷◌, ◌≡◌, refl, flat_map, map}
use Rattle.dos_world.specs.Bytes.{bytes_of}
use Rattle.dos_world.specs.Play.{Answer, posts}
use Rattle.dos_world.specs.declared.Config.{Config}
use Rattle.dos_world.specs.declared.Scheme.TheVariants.{Ownership}
use Rattle.elf_image.specs.Image.{Image}
use Rattle.flat_machine.specs.Computing.{computing}
use Rattle.group_moves.specs.Moves.{MoveKind, begins, runs, is_served, faults}
use Rattle.group_moves.specs.Moments.{history}

-- an image of these instruction words at 0x10000, entered at the first
abbrev program : List ℕ → Image
program words =
    record {
      entry = 0x10000;
      parts =
          record {
            address = 0x10000;
            bytes = flat_map (bytes_of 4) words;
            zeros = 0;
            write = true;
            exec = true;
            index = 0;
          } ∷ [];
    }

abbrev with_frames : ℕ → Config
with_frames frames = record { quantum = 1000; rounds = 100000; frames = frames; scheme = Ownership }

-- the moves alone
abbrev kinds : (most : ℕ) → Image → Config → List Answer → List MoveKind
kinds most image config answers = map (λ x. x.0) (history most (image ∷ []) config answers)

-- process_exit with 7
a_process_exits : kinds 9 (program (0x00200893 ∷ 0x00700513 ∷ 0x00000073 ∷ [])) (with_frames 17)
    (posts [] ∷ [])
    ≡ begins ∷ runs 1 ∷ runs 1 ∷ is_served 1 ∷ []
unfolding computing
a_process_exits = refl

-- a store to no page
a_store_hits_no_page : kinds 9 (program (0x00002023 ∷ [])) (with_frames 17) (posts [] ∷ [])
    ≡ begins ∷ faults 1 11 ∷ []
unfolding computing
a_store_hits_no_page = refl

-- futex_wait on a word that is as expected: the group stalls
nobody_is_ready : kinds 20 (program
    (0x00B00893 ∷ 0x00000517 ∷ 0x00052583 ∷ 0x00000073 ∷ 0x00200893 ∷ 0x00000073 ∷ []))
    (with_frames 17) (posts [] ∷ posts [] ∷ [])
    ≡ begins ∷ runs 1 ∷ runs 1 ∷ runs 1 ∷ is_served 1 ∷ begins ∷ []
unfolding computing
nobody_is_ready = refl

-- fork; the parent waits and exits with the child's status, the child exits with 5
a_parent_collects_its_child : kinds 40 (program
    (0x00400893 ∷ 0x00000073 ∷ 0x00050E63 ∷ 0x00500893 ∷ 0x00000513 ∷ 0x00000073
    ∷ 0x00058513 ∷ 0x00200893 ∷ 0x00000073 ∷ 0x00500513 ∷ 0x00200893 ∷ 0x00000073 ∷ []))
    (with_frames 34) (posts [] ∷ posts [] ∷ posts [] ∷ [])
    ≡ begins ∷ runs 1 ∷ is_served 1 ∷ runs 1 ∷ runs 1 ∷ runs 1 ∷ is_served 1
    ∷ begins ∷ runs 2 ∷ runs 2 ∷ runs 2 ∷ is_served 2
    ∷ begins ∷ is_served 1 ∷ runs 1 ∷ runs 1 ∷ is_served 1 ∷ []
unfolding computing
a_parent_collects_its_child = refl

-- Two threads load one word, yield, add 1 and store: one addition is lost, always.
two_threads_lose_an_addition : kinds 60 (program
    (0x00300893 ∷ 0x00000517 ∷ 0x01450513 ∷ 0x00000073 ∷ 0x01700893 ∷ 0x00000073
    ∷ 0x00000417 ∷ 0x03842283 ∷ 0x01700893 ∷ 0x00000073 ∷ 0x00128293
    ∷ 0x02542C23 ∷ 0x00000073 ∷ 0x00800893 ∷ 0x00100513 ∷ 0x03840593 ∷ 0x00100613 ∷ 0x00000073
    ∷ 0x00100893 ∷ 0x00000073 ∷ 0x00000030 ∷ [])) (with_frames 17)
    (posts [] ∷ posts [] ∷ posts [] ∷ posts [] ∷ [])
    ≡ begins ∷ runs 1 ∷ runs 1 ∷ runs 1 ∷ is_served 1 ∷ runs 1 ∷ is_served 1
    ∷ begins ∷ runs 1 ∷ runs 1 ∷ runs 1 ∷ is_served 1 ∷ runs 2 ∷ runs 2 ∷ runs 2 ∷ is_served 2
    ∷ begins ∷ runs 1 ∷ runs 2 ∷ runs 1 ∷ is_served 1 ∷ runs 2 ∷ is_served 2
    ∷ begins ∷ runs 2 ∷ runs 2 ∷ runs 2 ∷ runs 2 ∷ runs 1 ∷ runs 1 ∷ runs 1 ∷ runs 1 ∷ is_served 1
    ∷ runs 1 ∷ is_served 1 ∷ is_served 2 ∷ runs 2 ∷ is_served 2 ∷ []
unfolding computing
two_threads_lose_an_addition = refl
