-- The rows of a log, each as one format: its text, which values have one, and how it is read. This
-- project's own format; numbers are little-endian.
use Rattle.std.specs.Prelude.{ℕ, zero, suc, ◌-◌, ◌^◌, min, Bool, true, false, List, [], length}
use Rattle.std.specs.Prelude.{Option, Some, None, ◌==◌, nat_le, if◌then◌else◌}
use Rattle.dos_world.specs.declared.Post.{Post}
use Rattle.dos_world.specs.declared.Ending.{Ending}
use Rattle.dos_world.specs.declared.Ending.TheVariants.{Done, Limit, Stalled}
use Rattle.dos_io.specs.declared.exchange.Exchange.TheVariants.{Signals, Input, Clock, End}
use Rattle.text_fields.specs.Formats.{Format, bytes, u8_in, u16_in, u32_in, u64_in, ◌then◌, seen_as}
use Rattle.text_fields.specs.Formats.{tagged, many, with_count, from_to, any}
use Rattle.log_text.specs.declared.header.LogHeader.{LogHeader}
use Rattle.log_text.specs.declared.version.LogVersion.{LogVersion}
use Rattle.log_text.specs.declared.version.LogVersion.TheVariants.{One, Two}
use Rattle.log_text.specs.declared.progress.Progress.{Progress}
use Rattle.log_text.specs.Items.{Item, quiet, kept}
use Rattle.log_text.specs.LogText.{ending_code}
use Rattle.log_text.specs.Ranges.{most_exchanges, least_posts}

-- ---- the header, behind the magic and the version

abbrev pub LogFields : Type 0
LogFields = ℕ × (ℕ × (ℕ × (ℕ × List (List ℕ))))

abbrev pub to_log_header : LogFields → LogHeader
to_log_header (images, (quantum, (rounds, (frames, digests)))) =
    record { quantum = quantum; rounds = rounds; frames = frames; digests = digests }

abbrev pub of_log_header : LogHeader → LogFields
of_log_header h = (length h.digests, (h.quantum, (h.rounds, (h.frames, h.digests))))

-- how many images, the quantum, the limit of rounds, the frames, and a digest for each image
abbrev pub log_fields : Format LogFields
log_fields =
    u16_in (from_to 1 8) then λ images.
    u32_in (from_to 16 65536) then λ quantum.
    u32_in (from_to 1 1000000) then λ rounds.
    u32_in (from_to 16 16384) then λ frames.
    many images (bytes 32)

abbrev pub log_header_row : Format LogHeader
log_header_row = seen_as to_log_header of_log_header log_fields

-- ---- an entry behind its kind

abbrev pub to_post : ℕ × ℕ → Post
to_post (pid, signal) = record { pid = pid; signal = signal }

abbrev pub of_post : Post → ℕ × ℕ
of_post post = (post.pid, post.signal)

-- a process and a signal
abbrev pub post_fields : Format (ℕ × ℕ)
post_fields = u32_in any then λ pid. u8_in (from_to 1 31)

abbrev pub post_row : Format Post
post_row = seen_as to_post of_post post_fields

abbrev pub to_signals : ℕ × List Post → Item
to_signals (round, posts) = kept (Signals round posts)

abbrev pub of_signals : Item → ℕ × List Post
of_signals (kept (Signals round posts)) = (round, posts)
of_signals item = (0, [])

-- so many posts at least, and at most 32
abbrev pub posts_row : ℕ → Format (List Post)
posts_row least = with_count (u8_in (from_to least 32)) (λ count. many count post_row)

-- a round's signals
abbrev pub signals_fields : ℕ → Format (ℕ × List Post)
signals_fields least = u32_in any then λ round. posts_row least

abbrev pub signals_row : ℕ → Format Item
signals_row least = seen_as to_signals of_signals (signals_fields least)

abbrev pub InputFields : Type 0
InputFields = ℕ × (ℕ × (ℕ × List ℕ))

abbrev pub to_input : InputFields → Item
to_input (round, (tid, (max, input))) = kept (Input round tid max input)

abbrev pub of_input : Item → InputFields
of_input (kept (Input round tid max input)) = (round, (tid, (max, input)))
of_input item = (0, (0, (0, [])))

-- so many bytes, and these
abbrev pub input_row_bytes : ℕ → Format (List ℕ)
input_row_bytes max = with_count (u16_in (from_to 0 max)) bytes

-- an input, of no more bytes than were asked for
abbrev pub input_fields : Format InputFields
input_fields =
    u32_in any then λ round.
    u32_in any then λ tid.
    u16_in (from_to 1 4096) then λ max.
    input_row_bytes max

abbrev pub input_row : Format Item
input_row = seen_as to_input of_input input_fields

abbrev pub to_clock : ℕ × (ℕ × ℕ) → Item
to_clock (round, (tid, reading)) = kept (Clock round tid reading)

abbrev pub of_clock : Item → ℕ × (ℕ × ℕ)
of_clock (kept (Clock round tid reading)) = (round, (tid, reading))
of_clock item = (0, (0, 0))

-- a reading of the clock
abbrev pub clock_fields : Format (ℕ × (ℕ × ℕ))
clock_fields =
    u32_in any then λ round.
    u32_in any then λ tid.
    u64_in any

abbrev pub clock_row : Format Item
clock_row = seen_as to_clock of_clock clock_fields

-- the ending of a byte from 0 to 2
abbrev pub ending_of_byte : ℕ → Ending
ending_of_byte zero = Done
ending_of_byte (suc zero) = Limit
ending_of_byte (suc (suc n)) = Stalled

abbrev pub ending_row : Format Ending
ending_row = seen_as ending_of_byte ending_code (u8_in (from_to 0 2))

abbrev pub to_end : Ending × ℕ → Item
to_end (ending, rounds) = kept (End ending rounds)

abbrev pub of_end : Item → Ending × ℕ
of_end (kept (End ending rounds)) = (ending, rounds)
of_end item = (Done, 0)

-- the end
abbrev pub end_fields : Format (Ending × ℕ)
end_fields = ending_row then λ ending. u32_in any

abbrev pub end_row : Format Item
end_row = seen_as to_end of_end end_fields

-- whether a quiet entry of this round would go on with the last entry: where that is a quiet one,
-- one of the next round would
abbrev pub is_next : Option ℕ → ℕ → Bool
is_next None round = false
is_next (Some next) round = next == round

abbrev pub is_apart : Option ℕ → ℕ → Bool
is_apart goes_on round = if is_next goes_on round then false else true

-- how many rounds a quiet entry from this one on may stand for, where so many exchanges are held
abbrev pub most_quiet : (round held : ℕ) → ℕ
most_quiet round held = min (2 ^ 32 - round) (most_exchanges - held)

abbrev pub to_quiet : ℕ × ℕ → Item
to_quiet (round, count) = quiet round count

abbrev pub of_quiet : Item → ℕ × ℕ
of_quiet (quiet round count) = (round, count)
of_quiet item = (0, 0)

-- a quiet entry: no round is past 2^32 - 1, and no more exchanges are held than may be
abbrev pub quiet_fields : Progress → Format (ℕ × ℕ)
quiet_fields p =
    u32_in (is_apart p.goes_on) then λ round.
    u32_in (from_to 1 (most_quiet round p.held))

abbrev pub quiet_row : Progress → Format Item
quiet_row p = seen_as to_quiet of_quiet (quiet_fields p)

-- ---- an entry

abbrev pub kind_of : Item → ℕ
kind_of (kept (End ending rounds)) = 0
kind_of (kept (Signals round posts)) = 1
kind_of (kept (Input round tid max input)) = 2
kind_of (kept (Clock round tid reading)) = 3
kind_of (quiet round count) = 4

-- Version 1 doesn't know the quiet entry.
abbrev pub last_kind : LogVersion → ℕ
last_kind One = 3
last_kind Two = 4

-- Where as many exchanges are held as may be, the end alone may stand there.
abbrev pub kind_may_stand : LogVersion → Progress → ℕ → Bool
kind_may_stand v p zero = true
kind_may_stand v p (suc n) =
    if p.held == most_exchanges then false else nat_le (suc n) (last_kind v)

abbrev pub row_of_kind : LogVersion → Progress → ℕ → Format Item
row_of_kind v p zero = end_row
row_of_kind v p (suc zero) = signals_row (least_posts v)
row_of_kind v p (suc (suc zero)) = input_row
row_of_kind v p (suc (suc (suc zero))) = clock_row
row_of_kind v p (suc (suc (suc (suc n)))) = quiet_row p

-- a kind, and what is behind it
abbrev pub item_row : LogVersion → Progress → Format Item
item_row v p = tagged kind_of (kind_may_stand v p) (row_of_kind v p)
