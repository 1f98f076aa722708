-- Bytes with escapes are read back.
use Rattle.std.proofs.Common.{◌≡◌, ℕ, List, [], ◌∷◌, ◌++◌, Bool, true, false, cond, eqb}
use Rattle.std.proofs.Common.{refl, ap, sym, ◌∙◌}
use Rattle.std.proofs.lemmas.Bool.{eqb-true}
use Rattle.std.specs.Prelude.{◌||◌, bit_xor}
use Rattle.gdb_packets.specs.Escapes.{must_escape, escaped, escaped_byte, in_front_of, unescaped}
use Rattle.gdb_packets.specs.ReadBack.{AreReadBack, AreBytes}

-- An escaped byte is xored twice.
twice : (b : ℕ) → must_escape b ≡ true → bit_xor (bit_xor b 32) 32 ≡ b
twice b h = first (eqb b 35) refl h
  where
    at : (c : ℕ) → bit_xor (bit_xor c 32) 32 ≡ c → eqb b c ≡ true
        → bit_xor (bit_xor b 32) 32 ≡ b
    at c e t =
        let same : b ≡ c = eqb-true b c t in
        ap (λ v. bit_xor (bit_xor v 32) 32) same ∙ e ∙ sym same

    fourth : (v : Bool) → eqb b 125 ≡ v → v ≡ true → bit_xor (bit_xor b 32) 32 ≡ b
    fourth true e t = at 125 refl e
    fourth false e t = absurd cc

    third : (v : Bool) → eqb b 42 ≡ v → v || eqb b 125 ≡ true → bit_xor (bit_xor b 32) 32 ≡ b
    third true e t = at 42 refl e
    third false e t = fourth (eqb b 125) refl t

    second : (v : Bool) → eqb b 36 ≡ v → v || (eqb b 42 || eqb b 125) ≡ true
        → bit_xor (bit_xor b 32) 32 ≡ b
    second true e t = at 36 refl e
    second false e t = third (eqb b 42) refl t

    first : (v : Bool) → eqb b 35 ≡ v → v || (eqb b 36 || (eqb b 42 || eqb b 125)) ≡ true
        → bit_xor (bit_xor b 32) 32 ≡ b
    first true e t = at 35 refl e
    first false e t = second (eqb b 36) refl t

-- A byte that stands for itself isn't the mark.
not_mark : (b : ℕ) → must_escape b ≡ false → eqb b 125 ≡ false
not_mark b h = go (eqb b 125) refl
  where
    go : (v : Bool) → eqb b 125 ≡ v → v ≡ false
    go true e =
        let same : must_escape b ≡ must_escape 125 = ap must_escape (eqb-true b 125 e) in
        let wrong : false ≡ true = sym h ∙ same in absurd cc
    go false e = refl

plain_front : (b : ℕ) (rest : List ℕ) → eqb b 125 ≡ false
    → unescaped (b ∷ rest) ≡ in_front_of b (unescaped rest)
plain_front b [] h = rw h refl
plain_front b (d ∷ cs) h = rw h refl

one_again : (b : ℕ) (rest : List ℕ)
    → unescaped (escaped_byte b ++ rest) ≡ in_front_of b (unescaped rest)
one_again b rest = go (must_escape b) refl
  where
    go : (v : Bool) → must_escape b ≡ v
        → unescaped (cond v (125 ∷ bit_xor b 32 ∷ []) (b ∷ []) ++ rest)
        ≡ in_front_of b (unescaped rest)
    go true e = ap (λ c. in_front_of c (unescaped rest)) (twice b e)
    go false e = plain_front b rest (not_mark b e)

pub escapes_again : AreReadBack AreBytes escaped unescaped
escapes_again [] h = refl
escapes_again (b ∷ bs) h =
    one_again b (escaped bs) ∙ ap (in_front_of b) (escapes_again bs h.1)
