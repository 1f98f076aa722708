-- Lines of text.
use Rattle.std.proofs.Common.{◌≡◌, length, ◌++◌, ◌∷◌, [], List, ℕ, suc, ◌-◌, ◌/◌, ◌%◌, ◌<◌, sym, ap}
use Rattle.std.proofs.Common.{◌∙◌, append_assoc, arith}
use Rattle.std.proofs.Math.Utf8.{encode}
use Rattle.std.proofs.lemmas.Str.{encode_ascii}
use Rattle.dos_texts.specs.Lines.{hex, hex_digit}

pub one_byte : (c : ℕ) → c < 128 → length (encode c) ≡ 1
one_byte c h = ap length (encode_ascii c h)

-- one digit more
pub hex_more : (count less n : ℕ) → count ≡ suc less
    → hex count n ≡ hex less (n / 16) ++ hex_digit (n % 16) ∷ []
hex_more count less n e = ap (λ v. hex v n) e

-- the digits of a number behind a line
pub hex_pushed : (old front new : List ℕ) (count less n : ℕ) (digit : ℕ) → 0 < count
    → less ≡ count - 1 → digit ≡ hex_digit (n % 16) → front ≡ old ++ hex less (n / 16)
    → new ≡ front ++ digit ∷ [] → new ≡ old ++ hex count n
hex_pushed old front new count less n digit some l d f e =
    let more : hex count n ≡ hex less (n / 16) ++ hex_digit (n % 16) ∷ [] =
    hex_more count less n (omega arith) in
    e ∙ ap (λ v. v ++ digit ∷ []) f ∙ append_assoc old (hex less (n / 16)) (digit ∷ [])
    ∙ ap (λ v. old ++ (hex less (n / 16) ++ v ∷ [])) d ∙ ap (λ v. old ++ v) (sym more)
