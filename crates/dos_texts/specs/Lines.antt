-- The messages, and the parts of their lines. This project's own texts; numbers are decimal.
use Rattle.std.specs.Prelude.{ℕ, zero, suc, ◌+◌, ◌/◌, ◌%◌, List, [], ◌∷◌, ◌++◌, flat_map, nat_lt}
use Rattle.std.specs.Prelude.{if◌then◌else◌, codes, decimal}
use Rattle.dos_world.specs.declared.Question.{Question}
use Rattle.dos_world.specs.declared.Question.TheVariants.{Signals, Input, Clock, End}
use Rattle.dos_texts.specs.Report.{ending_word}
use Rattle.elf_image.specs.declared.error.ImageError.{ImageError}
use Rattle.group_text.specs.declared.refusal.GroupRefusal.{GroupRefusal}
use Rattle.group_text.specs.declared.refusal.GroupRefusal.TheVariants as refusal
use Rattle.elf_image.specs.declared.error.ImageError.TheVariants.{Segment, Overlap}
use Rattle.log_text.specs.declared.refusal.LogError.{LogError}
use Rattle.log_text.specs.declared.refusal.LogError.TheVariants.{Short, Magic, Version, Header}
use Rattle.log_text.specs.declared.refusal.LogError.TheVariants.{Entry, AfterEnd}

-- Images are counted from 1 in the order of the words, a log's entries from 0. Want of memory
-- refuses no image.
pub data Message : Type 0 where
  words_refused : Message
  image_too_long : (image : ℕ) → Message
  image_refused : (image : ℕ) → ImageError → Message
  no_room : (needed frames : ℕ) → Message
  log_too_long : Message
  log_refused : LogError → Message
  images_differ : (logged given : ℕ) → Message
  digests_differ : (image : ℕ) → (digest logged : List ℕ) → Message
  misfit : (entry : ℕ) → (kept asked : Question) → Message
  file_fault : Message
  host_fault : Message
  out_of_memory : Message
  log_full : Message
  group_too_long : Message
  group_refused : GroupRefusal → Message
  group_unlawful : Message
  group_of_another_log : Message

-- ---- hexadecimal, in lower case

-- `0` to `9`, `a` to `f`
abbrev pub hex_digit : ℕ → ℕ
hex_digit n = if nat_lt n 10 then 48 + n else 87 + n

-- so many digits, the highest first
abbrev pub hex : (count n : ℕ) → List ℕ
hex zero n = []
hex (suc count) n = hex count (n / 16) ++ hex_digit (n % 16) ∷ []

-- two digits for each byte
abbrev pub digest_text : List ℕ → List ℕ
digest_text = flat_map (hex 2)

-- ---- the parts of a message

-- the indexes that a refusal of a segment or of two parts has
abbrev pub indexes_text : ImageError → List ℕ
indexes_text (Segment i) = codes " at " ++ decimal i
indexes_text (Overlap i j) = codes " at " ++ decimal i ++ codes " and " ++ decimal j
indexes_text _ = []

-- what is wrong with a log
abbrev pub refusal_text : LogError → List ℕ
refusal_text (Short place) = codes "short at " ++ decimal place
refusal_text Magic = codes "magic"
refusal_text (Version n) = codes "version " ++ decimal n
refusal_text (Header place) = codes "header at " ++ decimal place
refusal_text (Entry place) = codes "entry at " ++ decimal place
refusal_text (AfterEnd place) = codes "after end at " ++ decimal place

-- what is wrong with a saved group
abbrev pub group_refusal_text : GroupRefusal → List ℕ
group_refusal_text (refusal.Short place) = codes "short at " ++ decimal place
group_refusal_text refusal.Magic = codes "magic"
group_refusal_text (refusal.Version n) = codes "version " ++ decimal n
group_refusal_text (refusal.Field place) = codes "field at " ++ decimal place
group_refusal_text (refusal.AfterEnd place) = codes "after end at " ++ decimal place

-- a question
abbrev pub question_text : Question → List ℕ
question_text (Signals round) = codes "signals round " ++ decimal round
question_text (Input round tid max) = codes "input round " ++ decimal round ++ codes " thread "
    ++ decimal tid ++ codes " max " ++ decimal max
question_text (Clock round tid) = codes "clock round " ++ decimal round ++ codes " thread "
    ++ decimal tid
question_text (End ending rounds) = codes "end " ++ ending_word ending ++ codes " rounds "
    ++ decimal rounds
