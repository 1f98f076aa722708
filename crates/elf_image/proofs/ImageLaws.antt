-- The image of a file, by its refusal and its parts.
use Rattle.std.proofs.Common.{◌≡◌, ℕ, List, length, Some, None, Ok, Err, refl, subst, sym}
use Rattle.std.specs.Prelude.{map, All}
use Rattle.elf_image.specs.declared.error.ImageError.{ImageError}
use Rattle.elf_image.specs.declared.header.Header.{Header}
use Rattle.elf_image.specs.declared.part.Part.{Part}
use Rattle.elf_image.specs.Fields.{e_entry}
use Rattle.elf_image.specs.Image.{Image, IsLoadable, IsSoundImage, image, image_of, part_headers}
use Rattle.elf_image.specs.Image.{part_of, refusal}
use Rattle.elf_image.proofs.SoundLaws.{loadable, sound}

pub image-refused : (bytes : List ℕ) (error : ImageError) → refusal bytes ≡ Some error
    → image bytes ≡ Err error
unfolding image
image-refused bytes error e = rw e refl

pub image-accepted : (bytes : List ℕ) → refusal bytes ≡ None → image bytes ≡ Ok (image_of bytes)
unfolding image
image-accepted bytes e = rw e refl

abbrev made : ℕ → List Part → Image
made entry parts = record { entry = entry; parts = parts }

-- what the code has made is the image
made_is : (bytes : List ℕ) (entry : ℕ) (parts : List Part) (hs : List Header)
    → entry ≡ e_entry bytes → hs ≡ part_headers bytes → parts ≡ map (part_of bytes) hs
    → image_of bytes ≡ made entry parts
unfolding image_of
made_is bytes entry parts hs e h p = rw (e, p, h) refl

pub image-made : (bytes : List ℕ) (entry : ℕ) (parts : List Part) (hs : List Header)
    → refusal bytes ≡ None → entry ≡ e_entry bytes → hs ≡ part_headers bytes
    → parts ≡ map (part_of bytes) hs → image bytes ≡ Ok (record { entry = entry; parts = parts })
image-made bytes entry parts hs none e h p =
    rw (← made_is bytes entry parts hs e h p) (image-accepted bytes none)

pub sound_made : (bytes : List ℕ) (entry : ℕ) (parts : List Part) (hs : List Header)
    → refusal bytes ≡ None → entry ≡ e_entry bytes → hs ≡ part_headers bytes
    → parts ≡ map (part_of bytes) hs → IsSoundImage (record { entry = entry; parts = parts })
sound_made bytes entry parts hs none e h p =
    subst IsSoundImage (made_is bytes entry parts hs e h p) (sound bytes none)

pub loadable_of : (bytes : List ℕ) (hs : List Header) → refusal bytes ≡ None
    → hs ≡ part_headers bytes → All (IsLoadable (length bytes)) hs
loadable_of bytes hs none h =
    subst (λ (l : List Header). All (IsLoadable (length bytes)) l) (sym h) (loadable bytes none)
