-- What is answered to bytes that are no log: mostly the smallest log's 64 bytes, cut or with other
-- bytes in them.
use Rattle.std.specs.Prelude.{ℕ, List, [], ◌∷◌, ◌++◌, take, slice_set, Ok, Err, ◌≡◌, refl}
use Rattle.dos_io.specs.declared.exchange.Exchange.TheVariants.{Signals}
use Rattle.log_text.specs.declared.refusal.LogError.TheVariants.{Short, Magic, Version, Header}
use Rattle.log_text.specs.declared.refusal.LogError.TheVariants.{Entry, AfterEnd}
use Rattle.log_text.specs.Items.{quiet_rounds}
use Rattle.text_fields.specs.Reading.{read_list}
use Rattle.log_text.specs.Reading.{log_at, read_header, fields_at, magic_at, version_at, body_at}
use Rattle.log_text.specs.Reading.{item_at}
use Rattle.log_text.proofs.Texts.{smallest, text}

-- the text with another byte at a place
abbrev changed : (place byte : ℕ) → List ℕ
changed place byte = slice_set text place byte

-- the header, and these entries behind it
abbrev entries : List ℕ → List ℕ
entries bytes = take 52 text ++ bytes

-- ---- cut: the field in which the bytes end begins at the place

nothing : log_at [] ≡ Err (Short 0)
unfolding log_at read_header fields_at magic_at version_at body_at item_at read_list quiet_rounds
nothing = refl

-- fewer than four bytes are short, whatever they are
three_bytes : log_at (1 ∷ 2 ∷ 3 ∷ []) ≡ Err (Short 0)
unfolding log_at read_header fields_at magic_at version_at body_at item_at read_list quiet_rounds
three_bytes = refl

cut_in_version : log_at (take 5 text) ≡ Err (Short 4)
unfolding log_at read_header fields_at magic_at version_at body_at item_at read_list quiet_rounds
cut_in_version = refl

cut_in_frames : log_at (take 19 text) ≡ Err (Short 16)
unfolding log_at read_header fields_at magic_at version_at body_at item_at read_list quiet_rounds
cut_in_frames = refl

-- a digest is one field
cut_in_digest : log_at (take 51 text) ≡ Err (Short 20)
unfolding log_at read_header fields_at magic_at version_at body_at item_at read_list quiet_rounds
cut_in_digest = refl

cut_behind_header : log_at (take 52 text) ≡ Err (Short 52)
unfolding log_at read_header fields_at magic_at version_at body_at item_at read_list quiet_rounds
cut_behind_header = refl

cut_in_round : log_at (take 56 text) ≡ Err (Short 53)
unfolding log_at read_header fields_at magic_at version_at body_at item_at read_list quiet_rounds
cut_in_round = refl

-- the end is missing
cut_behind_signals : log_at (take 58 text) ≡ Err (Short 58)
unfolding log_at read_header fields_at magic_at version_at body_at item_at read_list quiet_rounds
cut_behind_signals = refl

cut_in_end : log_at (take 63 text) ≡ Err (Short 60)
unfolding log_at read_header fields_at magic_at version_at body_at item_at read_list quiet_rounds
cut_in_end = refl

-- ---- the header

other_magic : log_at (changed 3 0x4D) ≡ Err Magic
unfolding log_at read_header fields_at magic_at version_at body_at item_at read_list quiet_rounds
other_magic = refl

version_3 : log_at (changed 4 3) ≡ Err (Version 3)
unfolding log_at read_header fields_at magic_at version_at body_at item_at read_list quiet_rounds
version_3 = refl

version_256 : log_at (slice_set (changed 4 0) 5 1) ≡ Err (Version 256)
unfolding log_at read_header fields_at magic_at version_at body_at item_at read_list quiet_rounds
version_256 = refl

no_images : log_at (changed 6 0) ≡ Err (Header 6)
unfolding log_at read_header fields_at magic_at version_at body_at item_at read_list quiet_rounds
no_images = refl

nine_images : log_at (changed 6 9) ≡ Err (Header 6)
unfolding log_at read_header fields_at magic_at version_at body_at item_at read_list quiet_rounds
nine_images = refl

quantum_15 : log_at (slice_set (changed 8 15) 9 0) ≡ Err (Header 8)
unfolding log_at read_header fields_at magic_at version_at body_at item_at read_list quiet_rounds
quantum_15 = refl

quantum_65537 : log_at (slice_set (slice_set (changed 8 1) 9 0) 10 1) ≡ Err (Header 8)
unfolding log_at read_header fields_at magic_at version_at body_at item_at read_list quiet_rounds
quantum_65537 = refl

no_rounds : log_at (slice_set (slice_set (changed 12 0) 13 0) 14 0) ≡ Err (Header 12)
unfolding log_at read_header fields_at magic_at version_at body_at item_at read_list quiet_rounds
no_rounds = refl

rounds_1000001 : log_at (slice_set (slice_set (changed 12 0x41) 13 0x42) 14 0x0F) ≡ Err (Header 12)
unfolding log_at read_header fields_at magic_at version_at body_at item_at read_list quiet_rounds
rounds_1000001 = refl

frames_15 : log_at (slice_set (changed 16 15) 17 0) ≡ Err (Header 16)
unfolding log_at read_header fields_at magic_at version_at body_at item_at read_list quiet_rounds
frames_15 = refl

frames_16385 : log_at (slice_set (changed 16 1) 17 0x40) ≡ Err (Header 16)
unfolding log_at read_header fields_at magic_at version_at body_at item_at read_list quiet_rounds
frames_16385 = refl

-- ---- an entry

unknown_kind : log_at (changed 52 9) ≡ Err (Entry 52)
unfolding log_at read_header fields_at magic_at version_at body_at item_at read_list quiet_rounds
unknown_kind = refl

kind_4 : log_at (changed 52 4) ≡ Err (Entry 52)
unfolding log_at read_header fields_at magic_at version_at body_at item_at read_list quiet_rounds
kind_4 = refl

-- a round has no range: it is the run that misses this one
other_round : log_at (changed 53 2) ≡ Ok (record smallest { entries = Signals 2 [] ∷ [] })
unfolding log_at read_header fields_at magic_at version_at body_at item_at read_list quiet_rounds
other_round = refl

posts_33 : log_at (changed 57 33) ≡ Err (Entry 57)
unfolding log_at read_header fields_at magic_at version_at body_at item_at read_list quiet_rounds
posts_33 = refl

-- one post, of which the signal is missing
posts_missing : log_at (entries (1 ∷ 1 ∷ 0 ∷ 0 ∷ 0 ∷ 1 ∷ 1 ∷ 0 ∷ 0 ∷ 0 ∷ [])) ≡ Err (Short 62)
unfolding log_at read_header fields_at magic_at version_at body_at item_at read_list quiet_rounds
posts_missing = refl

signal_0 : log_at (entries (1 ∷ 1 ∷ 0 ∷ 0 ∷ 0 ∷ 1 ∷ 1 ∷ 0 ∷ 0 ∷ 0 ∷ 0 ∷ [])) ≡ Err (Entry 62)
unfolding log_at read_header fields_at magic_at version_at body_at item_at read_list quiet_rounds
signal_0 = refl

signal_32 : log_at (entries (1 ∷ 1 ∷ 0 ∷ 0 ∷ 0 ∷ 1 ∷ 1 ∷ 0 ∷ 0 ∷ 0 ∷ 32 ∷ [])) ≡ Err (Entry 62)
unfolding log_at read_header fields_at magic_at version_at body_at item_at read_list quiet_rounds
signal_32 = refl

-- an input for 0 bytes
input_of_none : log_at (entries (2 ∷ 1 ∷ 0 ∷ 0 ∷ 0 ∷ 1 ∷ 0 ∷ 0 ∷ 0 ∷ 0 ∷ 0 ∷ 0 ∷ 0 ∷ []))
    ≡ Err (Entry 61)
unfolding log_at read_header fields_at magic_at version_at body_at item_at read_list quiet_rounds
input_of_none = refl

-- an input for 4097 bytes
input_of_many : log_at (entries (2 ∷ 1 ∷ 0 ∷ 0 ∷ 0 ∷ 1 ∷ 0 ∷ 0 ∷ 0 ∷ 1 ∷ 16 ∷ 0 ∷ 0 ∷ []))
    ≡ Err (Entry 61)
unfolding log_at read_header fields_at magic_at version_at body_at item_at read_list quiet_rounds
input_of_many = refl

-- three bytes where two were asked for
input_too_long : log_at
    (entries (2 ∷ 1 ∷ 0 ∷ 0 ∷ 0 ∷ 1 ∷ 0 ∷ 0 ∷ 0 ∷ 2 ∷ 0 ∷ 3 ∷ 0 ∷ 1 ∷ 2 ∷ 3 ∷ [])) ≡ Err (Entry 63)
unfolding log_at read_header fields_at magic_at version_at body_at item_at read_list quiet_rounds
input_too_long = refl

-- two bytes, of which one is missing
input_missing : log_at (entries (2 ∷ 1 ∷ 0 ∷ 0 ∷ 0 ∷ 1 ∷ 0 ∷ 0 ∷ 0 ∷ 2 ∷ 0 ∷ 2 ∷ 0 ∷ 1 ∷ []))
    ≡ Err (Short 65)
unfolding log_at read_header fields_at magic_at version_at body_at item_at read_list quiet_rounds
input_missing = refl

reading_missing : log_at
    (entries (3 ∷ 1 ∷ 0 ∷ 0 ∷ 0 ∷ 1 ∷ 0 ∷ 0 ∷ 0 ∷ 1 ∷ 2 ∷ 3 ∷ 4 ∷ 5 ∷ 6 ∷ 7 ∷ [])) ≡ Err (Short 61)
unfolding log_at read_header fields_at magic_at version_at body_at item_at read_list quiet_rounds
reading_missing = refl

-- ---- the end

unknown_ending : log_at (changed 59 3) ≡ Err (Entry 59)
unfolding log_at read_header fields_at magic_at version_at body_at item_at read_list quiet_rounds
unknown_ending = refl

one_byte_more : log_at (text ++ 0 ∷ []) ≡ Err (AfterEnd 64)
unfolding log_at read_header fields_at magic_at version_at body_at item_at read_list quiet_rounds
one_byte_more = refl

two_ends : log_at (text ++ text) ≡ Err (AfterEnd 64)
unfolding log_at read_header fields_at magic_at version_at body_at item_at read_list quiet_rounds
two_ends = refl

-- the first thing that is wrong is told, though more is
first_wrong : log_at (slice_set (slice_set (changed 57 33) 59 3) 8 0) ≡ Err (Entry 57)
unfolding log_at read_header fields_at magic_at version_at body_at item_at read_list quiet_rounds
first_wrong = refl
