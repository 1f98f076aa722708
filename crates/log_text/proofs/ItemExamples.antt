-- The texts of small logs in version 2, byte by byte, and what is refused.
use Rattle.std.specs.Prelude.{ℕ, List, [], ◌∷◌, ◌++◌, length, Ok, Err, ◌≡◌, refl}
use Rattle.dos_world.specs.declared.Ending.TheVariants.{Stalled}
use Rattle.dos_io.specs.declared.exchange.Exchange.TheVariants.{Signals, Clock}
use Rattle.log_text.specs.declared.refusal.LogError.TheVariants.{Entry}
use Rattle.log_text.specs.declared.version.LogVersion.TheVariants.{Two}
use Rattle.log_text.specs.LogText.{Log, logtext}
use Rattle.log_text.specs.Items.{quiet, kept, items_of}
use Rattle.log_text.specs.Items.{quiet_rounds}
use Rattle.text_fields.specs.Reading.{read_list}
use Rattle.log_text.specs.Reading.{log_at, read_header, fields_at, magic_at, version_at, body_at}
use Rattle.log_text.specs.Reading.{item_at}
use Rattle.log_text.proofs.Texts.{digest, smallest}

-- ---- the log of a run of the smallest image

-- the header up to the digests
abbrev start : List ℕ
start = 0x44 ∷ 0x50 ∷ 0x47 ∷ 0x4C ∷ 0x02 ∷ 0x00 ∷ 0x01 ∷ 0x00 ∷ 0xE8 ∷ 0x03 ∷ 0x00 ∷ 0x00 ∷ 0xA0
    ∷ 0x86 ∷ 0x01 ∷ 0x00 ∷ 0x00 ∷ 0x10 ∷ 0x00 ∷ 0x00 ∷ []

abbrev end_one : List ℕ
end_one = 0x00 ∷ 0x00 ∷ 0x01 ∷ 0x00 ∷ 0x00 ∷ 0x00 ∷ []

abbrev text_two : List ℕ
text_two = start ++ digest
    ++ (0x04 ∷ 0x01 ∷ 0x00 ∷ 0x00 ∷ 0x00 ∷ 0x01 ∷ 0x00 ∷ 0x00 ∷ 0x00 ∷ []) ++ end_one

abbrev small : Log
small = record smallest { version = Two }

spelled : logtext small ≡ text_two
spelled = refl

has_67_bytes : length text_two ≡ 67
has_67_bytes = refl

read : log_at text_two ≡ Ok small
unfolding log_at read_header fields_at magic_at version_at body_at item_at read_list quiet_rounds
read = refl

-- a quiet entry of no rounds is refused at its count
none : log_at (start ++ digest
    ++ (0x04 ∷ 0x01 ∷ 0x00 ∷ 0x00 ∷ 0x00 ∷ 0x00 ∷ 0x00 ∷ 0x00 ∷ 0x00 ∷ []) ++ end_one)
    ≡ Err (Entry 57)
unfolding log_at read_header fields_at magic_at version_at body_at item_at read_list quiet_rounds
none = refl

-- ---- the log of a run that stalls in its second round

abbrev stalls : Log
stalls = record smallest {
  entries = Signals 1 [] ∷ Signals 2 [] ∷ [];
  ending = Stalled;
  rounds = 1;
}

of_70_bytes : length (logtext stalls) ≡ 70
of_70_bytes = refl

of_67_bytes : length (logtext (record stalls { version = Two })) ≡ 67
of_67_bytes = refl

-- its rounds as two entries are refused where the second begins
apart : log_at (start ++ digest
    ++ (0x04 ∷ 0x01 ∷ 0x00 ∷ 0x00 ∷ 0x00 ∷ 0x01 ∷ 0x00 ∷ 0x00 ∷ 0x00 ∷ [])
    ++ (0x04 ∷ 0x02 ∷ 0x00 ∷ 0x00 ∷ 0x00 ∷ 0x01 ∷ 0x00 ∷ 0x00 ∷ 0x00 ∷ []) ++ end_one)
    ≡ Err (Entry 62)
unfolding log_at read_header fields_at magic_at version_at body_at item_at read_list quiet_rounds
apart = refl

-- no signals as an entry of their own are refused at their count
signals_of_none : log_at (start ++ digest
    ++ (0x01 ∷ 0x01 ∷ 0x00 ∷ 0x00 ∷ 0x00 ∷ 0x00 ∷ []) ++ end_one) ≡ Err (Entry 57)
unfolding log_at read_header fields_at magic_at version_at body_at item_at read_list quiet_rounds
signals_of_none = refl

-- an entry of the other version's kind is refused in version 1
kind_4_in_version_1 : log_at
    (0x44 ∷ 0x50 ∷ 0x47 ∷ 0x4C ∷ 0x01 ∷ 0x00 ∷ 0x01 ∷ 0x00 ∷ 0xE8 ∷ 0x03 ∷ 0x00 ∷ 0x00 ∷ 0xA0
    ∷ 0x86 ∷ 0x01 ∷ 0x00 ∷ 0x00 ∷ 0x10 ∷ 0x00 ∷ 0x00 ∷ digest
    ++ (0x04 ∷ 0x01 ∷ 0x00 ∷ 0x00 ∷ 0x00 ∷ 0x01 ∷ 0x00 ∷ 0x00 ∷ 0x00 ∷ []) ++ end_one)
    ≡ Err (Entry 52)
unfolding log_at read_header fields_at magic_at version_at body_at item_at read_list quiet_rounds
kind_4_in_version_1 = refl

-- ---- stretches

three_and_two : items_of (Signals 1 [] ∷ Signals 2 [] ∷ Signals 3 [] ∷ Clock 3 1 7 ∷ Signals 4 []
    ∷ Signals 6 [] ∷ []) ≡ quiet 1 3 ∷ kept (Clock 3 1 7) ∷ quiet 4 1 ∷ quiet 6 1 ∷ []
three_and_two = refl
