-- Words that a thread has written and that aren't in memory yet, and how they are put there. This
-- project's own rules. Bytes are in the order of memory, the lowest first (`Bytes` of dos_world).
use Rattle.std.specs.Prelude.{ℕ, suc, ◌+◌, ◌-◌, ◌*◌, ◌/◌, ◌%◌, ◌^◌, Bool, ◌==◌, ◌&&◌, bit_or}
use Rattle.std.specs.Prelude.{List, [], ◌∷◌, ◌++◌, map, length, slice_set, Option, Some, None}
use Rattle.std.specs.Prelude.{if◌then◌else◌}
use Rattle.std.specs.List.{list_any}
use Rattle.dos_world.specs.World.{page_size}
use Rattle.dos_world.specs.Bytes.{number_of, bytes_of, written}
use Rattle.written_words.specs.declared.Written.{Written}

-- how many words a thread may have written in a part
abbrev pub most_words : ℕ
most_words = 1024

-- ---- in memory

-- The bytes that a mask names, written from a place on. Bit 0 of the mask is of the first.
abbrev pub written_by : ℕ → List ℕ → ℕ → List ℕ → List ℕ
written_by mask bytes place [] = bytes
written_by mask bytes place (b ∷ new) =
    written_by (mask / 2) (if mask % 2 == 1 then slice_set bytes place b else bytes) (suc place) new

-- one word put in memory: the bytes of its value that its mask names
abbrev pub word_put : List ℕ → Written → List ℕ
word_put bytes x = written_by x.mask bytes (page_size * x.frame + x.offset) (bytes_of 4 x.value)

-- The words put in memory, one after another. This is what commits them, and it is also what the
-- thread that wrote them reads before.
abbrev pub words_put : List ℕ → List Written → List ℕ
words_put bytes [] = bytes
words_put bytes (x ∷ words) = words_put (word_put bytes x) words

-- ---- in the list

-- whether a word is the one of this frame and offset
abbrev pub is_at : (frame offset : ℕ) → Written → Bool
is_at frame offset x = (x.frame == frame) && (x.offset == offset)

-- a word before any of its bytes is written
abbrev pub unwritten : (frame offset : ℕ) → Written
unwritten frame offset = record { frame = frame; offset = offset; mask = 0; value = 0 }

-- a word with these bytes written from its byte `first` on
abbrev pub with_bytes_from : (first : ℕ) → List ℕ → Written → Written
with_bytes_from first new x = record x {
  mask = bit_or x.mask ((2 ^ length new - 1) * 2 ^ first);
  value = number_of (written (bytes_of 4 x.value) first new);
}

-- the words with the one of this frame and offset changed
abbrev pub with_word_changed : (frame offset : ℕ) → (Written → Written) → List Written
    → List Written
with_word_changed frame offset change words =
    map (λ x. if is_at frame offset x then change x else x) words

-- The words after a store of these bytes, which lie in one aligned word: they go into that word, or
-- into a new one behind the others. None where that would be one too many.
abbrev pub with_stored : List Written → (frame offset : ℕ) → List ℕ → Option (List Written)
with_stored words frame offset new =
    let aligned : ℕ = offset / 4 * 4 in
    let change : Written → Written = with_bytes_from (offset % 4) new in
    if list_any (is_at frame aligned) words then Some (with_word_changed frame aligned change words)
    else (if length words == most_words then None
    else Some (words ++ change (unwritten frame aligned) ∷ []))
