-- A small lawful world, and what makes it unlawful, one thing after another; tested by the checker.
use Rattle.std.specs.Prelude.{◌*◌, true, false, [], ◌∷◌, ◌++◌, replicate, Some, None, ◌≡◌, refl}
use Rattle.dos_world.specs.World.{World, in_state, with_thread, with_registers}
use Rattle.dos_world.specs.Lawful.{Lawful}
use Rattle.dos_world.specs.IsLawful.{is_lawful}
use Rattle.dos_world.specs.declared.Owner.TheVariants.{Free, Shared, Of}
use Rattle.dos_world.specs.declared.ThreadState.TheVariants.{Asleep}
use Rattle.dos_world.proofs.SmallWorld.{a_thread, a_process, small}
use Rattle.dos_world.proofs.LawfulTest.{lawful_by}

-- one process with one thread and two pages, in 16 frames
abbrev sixteen : World
sixteen = record small {
  bytes = replicate (16 * 4096) 0;
  owners =
      Shared ∷ Of 1 ∷ replicate 14 Free;
  threads = Some a_thread ∷ [];
}

it_passes : is_lawful sixteen ≡ true
it_passes = refl

it_is_lawful : Lawful sixteen
it_is_lawful = lawful_by sixteen it_passes

-- ---- frames

three_frames : is_lawful small ≡ false
three_frames = refl

a_byte_is_missing : is_lawful (record sixteen { bytes = replicate 65535 0 }) ≡ false
a_byte_is_missing = refl

a_mapped_frame_is_free : is_lawful (record sixteen { owners = Free ∷ Of 1 ∷ replicate 14 Free })
    ≡ false
a_mapped_frame_is_free = refl

an_unmapped_frame_is_owned : is_lawful
    (record sixteen { owners = Shared ∷ Of 1 ∷ Of 1 ∷ replicate 13 Free }) ≡ false
an_unmapped_frame_is_owned = refl

a_free_frame_has_a_byte : is_lawful
    (record sixteen { bytes = replicate 8192 0 ++ 7 ∷ replicate 57343 0 }) ≡ false
a_free_frame_has_a_byte = refl

mapped_frames_have_bytes : is_lawful
    (record sixteen { bytes = replicate 8192 7 ++ replicate 57344 0 }) ≡ true
mapped_frames_have_bytes = refl

no_such_owner : is_lawful (record sixteen { owners = Shared ∷ Of 2 ∷ replicate 14 Free }) ≡ false
no_such_owner = refl

-- ---- processes and threads

nobody_was_made : is_lawful (record sixteen { processes = []; threads = [] }) ≡ false
nobody_was_made = refl

a_process_without_a_thread : is_lawful (record sixteen { threads = None ∷ [] }) ≡ false
a_process_without_a_thread = refl

a_thread_without_a_process : is_lawful
    (record sixteen { threads = Some a_thread ∷ Some (record a_thread { process = 2 }) ∷ [] })
    ≡ false
a_thread_without_a_process = refl

its_own_parent : is_lawful (record sixteen { processes = record a_process { parent = 1 } ∷ [] })
    ≡ false
its_own_parent = refl

register_0_is_5 : is_lawful
    (with_registers sixteen 1 (λ r. record r { numbers = 5 ∷ replicate 31 0 })) ≡ false
register_0_is_5 = refl

signal_9_is_masked : is_lawful (with_thread sixteen 1 (λ thread. record thread { mask = 512 }))
    ≡ false
signal_9_is_masked = refl

signal_0_is_pending : is_lawful (with_thread sixteen 1 (λ thread. record thread { pending = 1 }))
    ≡ false
signal_0_is_pending = refl

-- ---- sleepers and pipes

a_sleeper_who_is_awake : is_lawful
    (record sixteen { sleepers = record { thread = 1; frame = 1; offset = 0 } ∷ [] }) ≡ false
a_sleeper_who_is_awake = refl

asleep_but_not_in_the_queue : is_lawful (with_thread sixteen 1 (in_state Asleep)) ≡ false
asleep_but_not_in_the_queue = refl

asleep_in_the_queue : is_lawful
    (record (with_thread sixteen 1 (in_state Asleep)) {
      sleepers =
          record { thread = 1; frame = 1; offset = 0 } ∷ [];
    }) ≡ true
asleep_in_the_queue = refl

a_closed_pipe_holds_a_byte : is_lawful (record sixteen { pipes = (7 ∷ []) ∷ replicate 63 [] })
    ≡ false
a_closed_pipe_holds_a_byte = refl

-- ---- limits

a_quantum_of_15 : is_lawful (record sixteen { quantum = 15 }) ≡ false
a_quantum_of_15 = refl
