-- What the memory of a thread answers, by its space and by what is kept at places. This project's
-- own rules.
use Rattle.std.specs.Prelude.{ℕ, Bool, true, List, Option, Some, None, Result, Ok, Err}
use Rattle.std.specs.Prelude.{if◌then◌else◌}
use Rattle.dos_world.specs.Reach.{width, written, bytes_of}
use Rattle.dos_world.specs.declared.Access.TheVariants.{Fetch, Load, Store, Claim}
use Rattle.dos_world.specs.declared.Entry.{Entry}
use Rattle.dos_world.specs.declared.Owner.{Owner}
use Rattle.dos_world.specs.declared.Reason.{Reason}
use Rattle.dos_world.specs.declared.Reason.TheVariants.{Page}
use Rattle.dos_world.specs.declared.Size.TheVariants.{Half, Word}
use Rattle.dos_world.specs.declared.Size.{Size}
use Rattle.dos_world.specs.declared.Access.{Access}
use Rattle.page_store.specs.Store.{number_at}
use Rattle.flat_machine.specs.Over.{MemoryAnswers}
use Rattle.flat_machine.specs.Step.{◌>>=◌}
use Rattle.quantum_run.specs.Finding.{frame_for_size, flat_place}

-- What stands still while a thread runs: who runs, the owners of the frames, and the entries of the
-- space.
pub record Still : Type 0 where
  pub thread : ℕ
  pub owners : List Owner
  pub entries : List (ℕ × Entry)

abbrev pub still : ℕ → List Owner → List (ℕ × Entry) → Still
still t owners entries = record { thread = t; owners = owners; entries = entries }

-- What changes while it runs, as bytes by their places: the bytes that are read; what is left after
-- some are written from a place on, or None where there is no room for them; and whether a word can
-- be claimed.
pub record Places (M : Type 0) : Type 0 where
  pub bytes : M → List ℕ
  pub write : M → ℕ → List ℕ → Option M
  pub claims : Bool

-- the flat bytes themselves
abbrev pub flat_places : Places (List ℕ)
flat_places = record {
  bytes = λ bytes. bytes;
  write = λ bytes place new. Some (written bytes place new);
  claims = true;
}

-- the frame of an access that takes so much, or why it is refused
abbrev pub frame_found : Still → Access → Size → ℕ → Result ℕ Reason
frame_found s access size address =
    frame_for_size s.thread s.owners s.entries access size address

-- what is left after a store, or a stop as at a page where there is no room
abbrev pub left_or_page : {M : Type 0} → ℕ → Option M → Result M Reason
left_or_page address None = Err (Page address Store)
left_or_page address (Some after) = Ok after

-- the word that is claimed, or a stop as at a page where none can be
abbrev pub word_or_page : ℕ → Bool → ℕ → Result ℕ Reason
word_or_page address claims word = if claims then Ok word else Err (Page address Claim)

-- what is answered by the space, and at the places that it leads to
abbrev pub run_answers : {M : Type 0} → Still → Places M → MemoryAnswers M
run_answers s places = record {
  fetch = λ m address.
      frame_found s Fetch Half address
      >>= λ frame. Ok (number_at (places.bytes m) (flat_place frame address) Half);
  load = λ m address size.
      frame_found s Load size address
      >>= λ frame. Ok (number_at (places.bytes m) (flat_place frame address) size);
  store = λ m address size value.
      frame_found s Store size address
      >>= λ frame. left_or_page address
      (places.write m (flat_place frame address) (bytes_of (width size) value));
  claim = λ m address.
      frame_found s Claim Word address
      >>= λ frame. word_or_page address places.claims
      (number_at (places.bytes m) (flat_place frame address) Word);
}
