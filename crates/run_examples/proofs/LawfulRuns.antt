-- The openings of small programs, and the worlds in which their runs end, are lawful: tested by the
-- checker.
use Rattle.std.specs.Prelude.{List, [], ◌∷◌, ◌≡◌, refl, Bool, true, false, IsTrue}
use Rattle.dos_world.specs.World.{World}
use Rattle.dos_world.specs.Lawful.{Lawful}
use Rattle.dos_world.specs.IsLawful.{is_lawful, is_lawful_but_for_frames}
use Rattle.dos_world.specs.Play.{Answer, Outcome, gives, asks, over, posts}
use Rattle.dos_world.specs.declared.Config.{Config}
use Rattle.dos_world.specs.declared.Scheme.TheVariants.{Ownership}
use Rattle.dos_world.proofs.LawfulTest.{lawful_by}
use Rattle.flat_machine.specs.Computing.{computing}
use Rattle.elf_image.specs.Image.{Image}
use Rattle.flat_machine.specs.Opening.{opening}
use Rattle.flat_machine.specs.Machine.{Finish, rounds_from}
use Rattle.run_examples.proofs.Programs.{with_frames}
use Rattle.run_examples.proofs.Endings.{exits_with_7}
use Rattle.run_examples.proofs.Sending.{says_hi}
use Rattle.run_examples.proofs.Threads.{sleeps, forks}

one_image : IsTrue (is_lawful (opening (exits_with_7 ∷ []) (with_frames 17)))
one_image = refl

one_opening_is_lawful : Lawful (opening (exits_with_7 ∷ []) (with_frames 17))
one_opening_is_lawful = lawful_by (opening (exits_with_7 ∷ []) (with_frames 17)) one_image

-- with four frames that are Free
two_images : IsTrue (is_lawful (opening (exits_with_7 ∷ says_hi ∷ []) (with_frames 38)))
two_images = refl

-- whether a run ends, in a world that passes the test
abbrev ends_in : (World → Bool) → Outcome Finish → Bool
ends_in test (gives finish rest) = test finish.world
ends_in test (asks question output error) = false

-- the same of the run of these images over these answers
abbrev run_ends_in : (World → Bool) → List Image → Config → List Answer → Bool
run_ends_in test images config answers =
    ends_in test (over answers (rounds_from (opening images config) config))

-- one thread that sleeps for ever
with_a_sleeper : IsTrue (run_ends_in is_lawful (sleeps ∷ []) (with_frames 17)
    (posts [] ∷ posts [] ∷ []))
unfolding computing
with_a_sleeper = refl

-- All but the frames of a run that forks; the bytes of its 34 frames take the checker too long.

-- after its first round: a child that lives, and a parent that waits for it
parent_and_child : run_ends_in is_lawful_but_for_frames (forks ∷ [])
    (record { quantum = 1000; rounds = 1; frames = 34; scheme = Ownership }) (posts [] ∷ []) ≡ true
unfolding computing
parent_and_child = refl

-- at its end: two processes that have ended
all_ended : run_ends_in is_lawful_but_for_frames (forks ∷ []) (with_frames 34)
    (posts [] ∷ posts [] ∷ posts [] ∷ []) ≡ true
unfolding computing
all_ended = refl
