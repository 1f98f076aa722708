-- Pages of a small world, computed by the checker. What is told was worked out by hand.
use Rattle.std.specs.Prelude.{ℕ, Bool, true, false, List, [], ◌∷◌, ◌≡◌, refl, codes, map}
use Rattle.std.specs.Fmt.{digits}
use Rattle.dos_world.specs.World.{World, Process, live, live_process}
use Rattle.dos_world.specs.declared.Entry.{Entry}
use Rattle.dos_world.specs.declared.Owner.TheVariants.{Free, Shared, Of}
use Rattle.debug_session.specs.Where.{console_line}
use Rattle.debug_session.specs.Pages.{page_lines_in, pages_lines_in}

abbrev entry : (frame : ℕ) → (write exec shared : Bool) → Entry
entry frame write exec shared =
    record { frame = frame; write = write; exec = exec; shared = shared }

abbrev with_pages : List (ℕ × Entry) → Process
with_pages space =
    record { parent = 0; life = live (record { actions = []; descriptors = []; space = space }) }

-- Two processes share frame 2, of which the first has it at 0x12 and the second at 0x20.
abbrev two_share : World
two_share = record {
  bytes = [];
  owners = Of 1 ∷ Of 1 ∷ Shared ∷ Free ∷ Of 7 ∷ [];
  processes =
      with_pages ((0x10, entry 0 true true false) ∷ (0x11, entry 1 true true false)
      ∷ (0x12, entry 2 true false true) ∷ (0x13, entry 3 false false false)
      ∷ (0x15, entry 4 false true false) ∷ [])
      ∷ with_pages ((0x20, entry 2 true false true) ∷ []) ∷ [];
  threads = [];
  pipes = [];
  sleepers = [];
  rounds = 0;
  quantum = 0;
  output = [];
  error = [];
}

a_shared_frame_is_told_of_both : page_lines_in two_share 1 0x12 (live_process two_share 1)
    ≡ map console_line
    (codes "page 00012000 of process 1: frame 2, owner shared, rights rw-, shared"
    ∷ codes "also page 00020000 of process 2" ∷ [])
unfolding digits
a_shared_frame_is_told_of_both = refl

pages_in_a_row_are_told_together : pages_lines_in two_share (live_process two_share 1)
    ≡ map console_line
    (codes "pages 00010000 to 00011000: frames 0 to 1, owner thread 1, rights rwx, private"
    ∷ codes "pages 00012000 to 00012000: frames 2 to 2, owner shared, rights rw-, shared"
    ∷ codes "pages 00013000 to 00013000: frames 3 to 3, owner free, rights r--, private"
    ∷ codes "pages 00015000 to 00015000: frames 4 to 4, owner thread 7, rights r-x, private" ∷ [])
unfolding digits
pages_in_a_row_are_told_together = refl
