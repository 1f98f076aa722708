-- Digits, one after another.
use Rattle.std.proofs.Common.{◌≡◌, ◌+◌, ◌-◌, ◌*◌, ◌/◌, ◌%◌, ◌^◌, ◌<◌, ◌≤◌, ℕ, suc, List, [], ◌∷◌}
use Rattle.std.proofs.Common.{◌++◌}
use Rattle.std.proofs.Common.{Option, Some, None, Bool, true, false, cond, ltb, arith, refl, ap}
use Rattle.std.proofs.Common.{sym, ◌∙◌}
use Rattle.std.proofs.Common.{append_assoc, get_or, drop, length}
use Rattle.std.proofs.Math.Nat.{pow-le-pow_right}
use Rattle.std.specs.Prelude.{option_map}
use Rattle.gdb_packets.specs.Hexadecimal.{◌>>=◌, nibble_of, nibble_text, nibbles}
use Rattle.gdb_packets.specs.Hexadecimal.{bytes_from}

pub bound_fits : (v i : ℕ) → v < 16 ^ i → i < 8 → v < 268435456
bound_fits v i h lt = omega
    (arith, pow-le-pow_right {n = 16} (omega arith) {i = i} {j = 7} (omega arith))

-- one digit more
nibbles_more : (more less n : ℕ) → more ≡ suc less → 16 ≤ n
    → nibbles more n ≡ nibbles less (n / 16) ++ nibble_text (n % 16) ∷ []
nibbles_more more less n e big = ap (λ v. nibbles v n) e ∙ go (ltb n 16) refl
  where
    go : (b : Bool) → ltb n 16 ≡ b
        → cond b (nibble_text n ∷ []) (nibbles less (n / 16) ++ nibble_text (n % 16) ∷ [])
        ≡ nibbles less (n / 16) ++ nibble_text (n % 16) ∷ []
    go true e = absurd (grind arith)
    go false e = refl

-- the digits of a number behind others
pub nibbles_pushed : (old front new : List ℕ) (more less n : ℕ) (digit : ℕ) → 0 < more
    → less ≡ more - 1 → 16 ≤ n → digit ≡ nibble_text (n % 16)
    → front ≡ old ++ nibbles less (n / 16) → new ≡ front ++ digit ∷ []
    → new ≡ old ++ nibbles more n
nibbles_pushed old front new more less n digit some l big d f e =
    let whole : nibbles more n ≡ nibbles less (n / 16) ++ nibble_text (n % 16) ∷ [] =
    nibbles_more more less n (omega arith) big in
    e ∙ ap (λ v. v ++ digit ∷ []) f ∙ append_assoc old (nibbles less (n / 16)) (digit ∷ [])
    ∙ ap (λ v. old ++ (nibbles less (n / 16) ++ v ∷ [])) d ∙ ap (λ v. old ++ v) (sym whole)

-- the bytes of digits behind others
abbrev pub ahead : List ℕ → Option (List ℕ) → Option (List ℕ)
ahead front bytes = option_map (λ rest. front ++ rest) bytes

behind_one : (front : List ℕ) (b : ℕ) (o : Option (List ℕ))
    → ahead front (o >>= λ bytes. Some (b ∷ bytes)) ≡ ahead (front ++ b ∷ []) o
behind_one front b None = refl
behind_one front b (Some bytes) = ap Some (sym (append_assoc front (b ∷ []) bytes))

-- two digits are one byte more
pub pair_ahead : (front new text others : List ℕ) (high low : ℕ) → 2 ≤ length text
    → Some high ≡ nibble_of (get_or text 0 0) → Some low ≡ nibble_of (get_or text 1 0)
    → others ≡ drop 2 text → new ≡ front ++ (high * 16 + low) ∷ []
    → ahead new (bytes_from others) ≡ ahead front (bytes_from text)
pair_ahead front new [] others high low two e f is more = absurd (omega (arith, two))
pair_ahead front new (h ∷ []) others high low two e f is more = absurd (omega (arith, two))
pair_ahead front new (h ∷ l ∷ rest) others high low two e f is more =
    rw (more, is, ← e, ← f) (sym (behind_one front (high * 16 + low) (bytes_from rest)))

-- A byte whose digits are none ends the reading.
pub no_high : (front text : List ℕ) → 2 ≤ length text → None ≡ nibble_of (get_or text 0 0)
    → ahead front (bytes_from text) ≡ None
no_high front [] two e = absurd (omega (arith, two))
no_high front (h ∷ []) two e = absurd (omega (arith, two))
no_high front (h ∷ l ∷ rest) two e = rw (← e) refl

pub no_low : (front text : List ℕ) (high : ℕ) → 2 ≤ length text
    → Some high ≡ nibble_of (get_or text 0 0) → None ≡ nibble_of (get_or text 1 0)
    → ahead front (bytes_from text) ≡ None
no_low front [] high two e f = absurd (omega (arith, two))
no_low front (h ∷ []) high two e f = absurd (omega (arith, two))
no_low front (h ∷ l ∷ rest) high two e f = rw (← e, ← f) refl

-- what a pair of digits is
pub ruleset pairs = (pair_ahead, no_high, no_low)

pub tens_fit : (v i : ℕ) → v < 10 ^ i → i < 19 → v < 1000000000000000000
tens_fit v i h lt = omega
    (arith, pow-le-pow_right {n = 10} (omega arith) {i = i} {j = 18} (omega arith))
