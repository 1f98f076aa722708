-- The texts of small logs of version 1, byte by byte.
use Rattle.std.specs.Prelude.{ℕ, List, [], ◌∷◌, ◌++◌, length, replicate, codes, Ok, ◌≡◌, refl}
use Rattle.dos_world.specs.declared.Ending.TheVariants.{Done, Limit, Stalled}
use Rattle.dos_io.specs.declared.exchange.Exchange.TheVariants.{Signals, Input, Clock, End}
use Rattle.log_text.specs.declared.version.LogVersion.TheVariants.{One}
use Rattle.log_text.specs.LogText.{Log, exchanges, header_text, entry_text, logtext}
use Rattle.log_text.specs.Items.{quiet_rounds}
use Rattle.text_fields.specs.Reading.{read_list}
use Rattle.log_text.specs.Reading.{log_at, read_header, fields_at, magic_at, version_at, body_at}
use Rattle.log_text.specs.Reading.{item_at}

-- ---- the log of a run of the smallest image: one round, no signals, done

-- the SHA-256 digest of that image
abbrev pub digest : List ℕ
digest =
    0x3E ∷ 0x21 ∷ 0x5E ∷ 0xAA ∷ 0xC5 ∷ 0x7E ∷ 0x12 ∷ 0x59 ∷ 0xF5 ∷ 0x83 ∷ 0xAD ∷ 0x0A ∷ 0x3D ∷ 0x62
    ∷ 0x72 ∷ 0xDA ∷
    0x6E ∷ 0x75 ∷ 0xFB ∷ 0xDA ∷ 0x72 ∷ 0xE3 ∷ 0x70 ∷ 0x32 ∷ 0x7D ∷ 0xF3 ∷ 0x11 ∷ 0x09 ∷ 0x82 ∷ 0x4A
    ∷ 0x6E ∷ 0x5B ∷ []

abbrev pub smallest : Log
smallest = record {
  version = One;
  header = record { quantum = 1000; rounds = 100000; frames = 4096; digests = digest ∷ [] };
  entries = Signals 1 [] ∷ [];
  ending = Done;
  rounds = 1;
}

-- of 64 bytes: the header up to the digests, the digest at 20, the signals at 52, the end at 58
abbrev pub text : List ℕ
text =
    (0x44 ∷ 0x50 ∷ 0x47 ∷ 0x4C ∷ 0x01 ∷ 0x00 ∷ 0x01 ∷ 0x00 ∷ 0xE8 ∷ 0x03 ∷ 0x00 ∷ 0x00 ∷ 0xA0 ∷ 0x86
    ∷ 0x01 ∷ 0x00 ∷ 0x00 ∷ 0x10 ∷ 0x00 ∷ 0x00 ∷ [])
    ++ digest
    ++ (0x01 ∷ 0x01 ∷ 0x00 ∷ 0x00 ∷ 0x00 ∷ 0x00 ∷ [])
    ++ (0x00 ∷ 0x00 ∷ 0x01 ∷ 0x00 ∷ 0x00 ∷ 0x00 ∷ [])

spelled : logtext smallest ≡ text
spelled = refl

has_64_bytes : length text ≡ 64
has_64_bytes = refl

read : log_at text ≡ Ok smallest
unfolding log_at read_header fields_at magic_at version_at body_at item_at read_list quiet_rounds
read = refl

its_exchanges : exchanges smallest ≡ Signals 1 [] ∷ End Done 1 ∷ []
its_exchanges = refl

-- ---- each kind of entry

signals_spelled : entry_text
    (Signals 2 (record { pid = 258; signal = 15 } ∷ record { pid = 1; signal = 9 } ∷ []))
    ≡ 1 ∷ 2 ∷ 0 ∷ 0 ∷ 0 ∷ 2 ∷ 2 ∷ 1 ∷ 0 ∷ 0 ∷ 15 ∷ 1 ∷ 0 ∷ 0 ∷ 0 ∷ 9 ∷ []
signals_spelled = refl

input_spelled : entry_text (Input 1 3 4096 (codes "ab"))
    ≡ 2 ∷ 1 ∷ 0 ∷ 0 ∷ 0 ∷ 3 ∷ 0 ∷ 0 ∷ 0 ∷ 0 ∷ 16 ∷ 2 ∷ 0 ∷ 97 ∷ 98 ∷ []
input_spelled = refl

clock_spelled : entry_text (Clock 1 3 0x0123456789ABCDEF)
    ≡ 3 ∷ 1 ∷ 0 ∷ 0 ∷ 0 ∷ 3 ∷ 0 ∷ 0 ∷ 0 ∷ 0xEF ∷ 0xCD ∷ 0xAB ∷ 0x89 ∷ 0x67 ∷ 0x45 ∷ 0x23 ∷ 0x01 ∷ []
clock_spelled = refl

done_spelled : entry_text (End Done 1) ≡ 0 ∷ 0 ∷ 1 ∷ 0 ∷ 0 ∷ 0 ∷ []
done_spelled = refl

limit_spelled : entry_text (End Limit 1000000) ≡ 0 ∷ 1 ∷ 0x40 ∷ 0x42 ∷ 0x0F ∷ 0 ∷ []
limit_spelled = refl

stalled_spelled : entry_text (End Stalled 0) ≡ 0 ∷ 2 ∷ 0 ∷ 0 ∷ 0 ∷ 0 ∷ []
stalled_spelled = refl

-- ---- a log with all of them, and two images

abbrev all_kinds : Log
all_kinds = record {
  version = One;
  header = record {
    quantum = 65536;
    rounds = 1000000;
    frames = 16384;
    digests = digest ∷ replicate 32 7 ∷ [];
  };
  entries = Signals 1 [] ∷ Input 1 1 64 (codes "0123456789") ∷ Input 1 1 64 [] ∷ Clock 1 2
      18446744073709551615 ∷ Signals 2 (record { pid = 1; signal = 31 } ∷ []) ∷ [];
  ending = Stalled;
  rounds = 2;
}

all_kinds_read : log_at (logtext all_kinds) ≡ Ok all_kinds
unfolding log_at read_header fields_at magic_at version_at body_at item_at read_list quiet_rounds
all_kinds_read = refl

-- eight images
most_images : length
    (header_text One (record {
      quantum = 16;
      rounds = 1;
      frames = 16;
      digests = replicate 8 digest;
    }))
    ≡ 276
most_images = refl
