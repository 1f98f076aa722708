-- What `inspect` and `gen` print. This project's own texts.
use Rattle.std.specs.Prelude.{ℕ, Bool, List, [], ◌∷◌, ◌++◌, length, flat_map, Option, if◌then◌else◌}
use Rattle.std.specs.Prelude.{codes, decimal}
use Rattle.dos_world.specs.declared.Ending.{Ending}
use Rattle.elf_image.specs.declared.part.Part.{Part}
use Rattle.elf_image.specs.Image.{Image, size_of}
use Rattle.dos_texts.specs.Report.{line_feed, process_lines, rounds_line}
use Rattle.dos_texts.specs.Lines.{hex, digest_text}

-- ---- inspect: the entry, and a line for each part in the order of the table

-- the right's letter, or `-` without it
abbrev pub right : (letter : ℕ) → Bool → ℕ
right letter has = if has then letter else 45

-- every part may be read
abbrev pub rights : Part → List ℕ
rights part = 114 ∷ right 119 part.write ∷ right 120 part.exec ∷ []

-- the line of a part
unfoldable pub part_line : Part → List ℕ
part_line part =
    codes "load " ++ hex 8 part.address ++ codes " file " ++ decimal (length part.bytes)
    ++ codes " memory " ++ decimal (size_of part)
    ++ codes " rights " ++ rights part ++ line_feed

-- the first line
unfoldable pub entry_line : (entry : ℕ) → List ℕ
entry_line entry = codes "entry " ++ hex 8 entry ++ line_feed

-- all lines
abbrev pub inspect_lines : Image → List ℕ
inspect_lines image = entry_line image.entry ++ flat_map part_line image.parts

-- ---- gen: how a run ended, how much it printed, and the digest of that

-- how many bytes were printed
abbrev pub output_line : (count : ℕ) → List ℕ
output_line count = codes "output " ++ decimal count ++ codes " bytes" ++ line_feed

-- their digest
abbrev pub sha256_line : (digest : List ℕ) → List ℕ
sha256_line digest = codes "sha256 " ++ digest_text digest ++ line_feed

-- all lines, of these statuses, after this many rounds
abbrev pub summary_of : (statuses : List (Option ℕ)) → (rounds : ℕ) → Ending → (count : ℕ)
    → (digest : List ℕ) → List ℕ
summary_of statuses rounds ending count digest =
    rounds_line rounds ending ++ process_lines 1 statuses ++ output_line count
    ++ sha256_line digest
