-- A file as a linker makes it: a note, the headers and code, the data, and the stack's header;
-- sections stand behind.
use Rattle.std.specs.Prelude.{ℕ, List, [], ◌∷◌, ◌++◌, replicate, true, false, Ok, ◌≡◌, refl}
use Rattle.elf_image.specs.Image.{image, image_of, refusal, format_refusal, machine_refusal}
use Rattle.elf_image.specs.Image.{table_refusal, segment_refusal, overlap_refusal, entry_refusal}
use Rattle.elf_image.specs.Fields.{headers, headers_from, header_at, half, word}
use Rattle.elf_image.proofs.Files.{file_header, program_header, code}

abbrev data_bytes : List ℕ
data_bytes = 1 ∷ 2 ∷ 3 ∷ 4 ∷ []

abbrev sections : List ℕ
sections = replicate 80 0xAA

-- The code stands at 180, behind the four headers, and is loaded with them.
abbrev loaded : List ℕ
loaded = file_header 0x100B4 4 ++ program_header 4 0 0 0 0 4 ++ program_header 1 0 0x10000 192 192 5
    ++ program_header 1 192 0x110C0 4 64 6 ++ program_header 0x6474E551 0 0 0 0 6 ++ code

abbrev linked : List ℕ
linked = loaded ++ data_bytes ++ sections

-- It has two parts. The first is the file's front; of the second 60 bytes aren't in the file. Their
-- indexes count all headers.
accepted : image linked ≡ Ok (record {
  entry = 0x100B4;
  parts =
      record { address = 0x10000; bytes = loaded; zeros = 0; write = false; exec = true; index = 1 }
      ∷ record {
        address = 0x110C0;
        bytes = data_bytes;
        zeros = 60;
        write = true;
        exec = false;
        index = 2;
      } ∷ [];
})
unfolding image image_of refusal format_refusal machine_refusal table_refusal segment_refusal
    overlap_refusal entry_refusal headers headers_from header_at half word
accepted = refl
