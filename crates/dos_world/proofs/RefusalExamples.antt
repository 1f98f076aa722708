-- Which refusal comes first, and where ranges and frames end, in a small world; computed by the
-- checker. What each comes to was worked out by hand from its rule.
use Rattle.std.specs.Prelude.{ℕ, [], ◌∷◌, replicate, Option, Some, None, ◌≡◌, refl}
use Rattle.dos_world.specs.World.{World, thread_at, with_thread, with_registers, blank, set}
use Rattle.dos_world.specs.Kernel.{minus, zero_page}
use Rattle.dos_world.specs.Services.{services}
use Rattle.dos_world.specs.Refusals.{refusals, call_refusal}
use Rattle.dos_world.specs.declared.Owner.TheVariants.{Shared, Of}
use Rattle.dos_world.specs.declared.ThreadState.TheVariants.{Ready}
use Rattle.dos_world.proofs.SmallWorld.{a_thread, a_process, world_with, small, arguments, served}
use Rattle.dos_world.proofs.SmallWorld.{goes_on, after, reply}

-- ---- map: 22 before 12

off_a_page : reply 1 (served small 1 13 0x12004 1 2) ≡ (goes_on, minus 22)
unfolding services zero_page
off_a_page = refl

no_pages : reply 1 (served small 1 13 0x12000 0 2) ≡ (goes_on, minus 22)
unfolding services zero_page
no_pages = refl

below_the_range : reply 1 (served small 1 13 0 1 2) ≡ (goes_on, minus 22)
unfolding services zero_page
below_the_range = refl

the_last_page : reply 1 (served small 1 13 0xEFFFF000 1 2) ≡ (goes_on, 0)
unfolding services zero_page
the_last_page = refl

above_the_range : reply 1 (served small 1 13 0xEFFFF000 2 2) ≡ (goes_on, minus 22)
unfolding services zero_page
above_the_range = refl

unknown_rights : reply 1 (served small 1 13 0x12000 1 8) ≡ (goes_on, minus 22)
unfolding services zero_page
unknown_rights = refl

a_page_is_there : reply 1 (served small 1 13 0x10000 1 2) ≡ (goes_on, minus 22)
unfolding services zero_page
a_page_is_there = refl

two_frames_are_wanted : reply 1 (served small 1 13 0x12000 2 2) ≡ (goes_on, minus 12)
unfolding services zero_page
two_frames_are_wanted = refl

-- ---- fork: two private pages, and one frame that is free; with one page shared it is enough

too_few_frames : reply 1 (served small 1 4 0 0 0) ≡ (goes_on, minus 12)
unfolding services
too_few_frames = refl

abbrev part_shared : World
part_shared = after (served small 1 15 0x11000 1 0)

a_child_is_made : reply 1 (served part_shared 1 4 0 0 0) ≡ (goes_on, 2)
unfolding services
a_child_is_made = refl

no_old_owner_changes : (after (served part_shared 1 4 0 0 0)).owners ≡ Shared ∷ Of 1 ∷ Of 3 ∷ []
unfolding services
no_old_owner_changes = refl

-- its thread: pc past the ecall, a0 is 0, no reservation
the_child's_thread : thread_at (after (served part_shared 1 4 9 0 0)) 3
    ≡ Some (record {
      process = 2;
      registers = set (set (blank 0x10008) 17 4) 10 0;
      budget = 0;
      state = Ready;
      pending = 0;
      mask = 0;
      saved = [];
    })
unfolding services
the_child's_thread = refl

-- ---- thread_new: 22 before 11

abbrev full_house : World
full_house = world_with (replicate 4096 7) (a_process ∷ []) (replicate 64 (Some a_thread))

no_place_for_an_instruction : reply 1 (served full_house 1 3 0x10001 0 0) ≡ (goes_on, minus 22)
unfolding services
no_place_for_an_instruction = refl

no_thread_more : reply 1 (served full_house 1 3 0x10002 0 0) ≡ (goes_on, minus 11)
unfolding services
no_thread_more = refl

-- ---- write to a pipe: 14 before 32

abbrev nobody_reads : World
nobody_reads = after (served (after (served small 1 6 0 0 0)) 1 9 3 0 0)

no_page_to_write_from : reply 1 (served nobody_reads 1 8 4 0x50000 1) ≡ (goes_on, minus 14)
unfolding services
no_page_to_write_from = refl

no_reader : reply 1 (served nobody_reads 1 8 4 0x11000 1) ≡ (goes_on, minus 32)
unfolding services
no_reader = refl

-- ---- the table of refusals

-- the number with which thread 1's call is refused
abbrev refusal_for : World → ℕ → ℕ → ℕ → ℕ → Option ℕ
refusal_for w number a0 a1 a2 = call_refusal (with_registers w 1 (arguments number a0 a1 a2)) 1

-- descriptor 4 writes to a pipe that nobody reads
first_the_page : refusal_for nobody_reads 8 4 0x50000 1 ≡ Some 14
unfolding services refusals
first_the_page = refl

then_the_reader : refusal_for nobody_reads 8 4 0x11000 1 ≡ Some 32
unfolding services refusals
then_the_reader = refl

not_for_no_bytes : refusal_for nobody_reads 8 4 0x50000 0 ≡ None
unfolding services refusals
not_for_no_bytes = refl

another_word : refusal_for small 11 0x11000 2 0 ≡ Some 11
unfolding services refusals
another_word = refl

that_word : refusal_for small 11 0x11000 0x07070707 0 ≡ None
unfolding services refusals
that_word = refl

too_few_frames_are_free : refusal_for small 4 0 0 0 ≡ Some 12
unfolding services refusals
too_few_frames_are_free = refl

nothing_to_return_to : refusal_for small 18 0 0 0 ≡ Some 22
unfolding services refusals
nothing_to_return_to = refl

never_refused : refusal_for small 20 0 0 0 ≡ None
unfolding services refusals
never_refused = refl

no_such_service : refusal_for small 25 0 0 0 ≡ Some 38
unfolding services refusals
no_such_service = refl

-- In a world that isn't lawful the number of a process may read like a refusal: so the table is
-- complete for lawful worlds.
abbrev many_processes : World
many_processes = with_thread small 1 (λ thread. record thread { process = 0xFFFFFFEA })

reads_like_a_refusal : reply 1 (served many_processes 1 20 0 0 0) ≡ (goes_on, minus 22)
unfolding services
reads_like_a_refusal = refl
