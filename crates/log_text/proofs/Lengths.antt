-- How long the texts of small logs are: a header with one digest takes 52 bytes, signals without
-- posts 6, an input 13 and its bytes, and the end 6.
use Rattle.std.specs.Prelude.{[], ◌∷◌, length, codes, ◌≡◌, refl}
use Rattle.dos_world.specs.declared.Ending.TheVariants.{Stalled}
use Rattle.dos_io.specs.declared.exchange.Exchange.TheVariants.{Signals, Input}
use Rattle.log_text.specs.declared.version.LogVersion.TheVariants.{Two}
use Rattle.log_text.specs.LogText.{logtext}
use Rattle.log_text.proofs.Texts.{smallest}

-- one round without posts, and a second that stalls at its start
a_stalled_run : length
    (logtext (record smallest { entries = Signals 1 [] ∷ Signals 2 [] ∷ []; ending = Stalled }))
    ≡ 70
a_stalled_run = refl

-- one round, with an input of ten bytes and one of none
a_copying_run : length
    (logtext (record smallest {
      entries = Signals 1 [] ∷ Input 1 1 64 (codes "0123456789") ∷ Input 1
          1 64 [] ∷ [];
    })) ≡ 100
a_copying_run = refl

-- In version 2 both rounds are one entry, of 9 bytes.
a_stalled_run_of_two : length
    (logtext (record smallest {
      version = Two;
      entries = Signals 1 [] ∷ Signals 2 [] ∷ [];
      ending = Stalled;
    })) ≡ 67
a_stalled_run_of_two = refl

a_copying_run_of_two : length
    (logtext (record smallest {
      version = Two;
      entries = Signals 1 [] ∷ Input 1 1 64 (codes "0123456789") ∷ Input 1
          1 64 [] ∷ [];
    })) ≡ 103
a_copying_run_of_two = refl
