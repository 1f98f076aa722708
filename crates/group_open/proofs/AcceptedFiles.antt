-- What the law of openings asks of images holds of the image of each file of bytes that no refusal
-- holds of.
use Rattle.std.proofs.Common.{ℕ, ◌≡◌, List, None}
use Rattle.std.specs.Prelude.{All, slice_index_or}
use Rattle.std.proofs.lemmas.List.Elements.{All-drop, All-map, All-take}
use Rattle.dos_world.specs.Lawful.{IsByte}
use Rattle.elf_image.specs.Image.{image_of, part_headers, part_of, refusal}
use Rattle.elf_image.specs.declared.header.Header.{Header}
use Rattle.elf_image.proofs.SoundLaws.{sound}
use Rattle.group_open.specs.Laws.{HasBytes, IsAccepted}

part_has_bytes : (bytes : List ℕ) (h : Header) → All IsByte bytes → HasBytes (part_of bytes h)
part_has_bytes bytes h are = All-take IsByte h.file_size _ (All-drop IsByte h.offset bytes are)

pub accepted_file : (bytes : List ℕ) → All IsByte bytes → refusal bytes ≡ None
    → IsAccepted (image_of bytes)
unfolding image_of
accepted_file bytes are none = record {
  sound = sound bytes none;
  bytes = All-map HasBytes (part_of bytes) (part_headers bytes)
      (λ k d lt. part_has_bytes bytes (slice_index_or (part_headers bytes) k d) are);
}
