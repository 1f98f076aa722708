-- What the table's masks leave of a word, by its fields.
use Rattle.std.proofs.Common.{◌≡◌, ℕ, ◌+◌, ◌*◌, ◌/◌, ◌%◌, ◌^◌, ◌<◌, bit_and, sym, ap, ◌∙◌, arith}
use Rattle.std.proofs.Common.{lit<}
use Rattle.std.proofs.lemmas.Nat.{and_block, and_mask, shr_split, mod_below, pow_pos}
use Rattle.rv_isa.specs.Fields.{field, rs2}

-- a mask in two blocks
split : (k w a b : ℕ) → b < 2 ^ k
    → bit_and w (a * 2 ^ k + b) ≡ bit_and (w / 2 ^ k) a * 2 ^ k + bit_and (w % 2 ^ k) b
split k w a b h = ap (λ v. bit_and v (a * 2 ^ k + b)) (sym (shr_split w k))
    ∙ and_block k (w / 2 ^ k) a (w % 2 ^ k) b (mod_below w (2 ^ k) (pow_pos k)) h

pub opcode_mask : (w : ℕ) → bit_and w 0x7F ≡ field 6 0 w
opcode_mask w = omega (arith, and_mask w 7)

pub funct3_mask : (w : ℕ) → bit_and w 0x707F ≡ field 14 12 w * 2 ^ 12 + field 6 0 w
funct3_mask w = let e = split 12 w 7 127 (lit< tt) in
    omega (arith, e, and_mask (w / 2 ^ 12) 3, and_mask (w % 2 ^ 12) 7)

pub funct7_mask : (w : ℕ)
    → bit_and w 0xFE00707F ≡ field 31 25 w * 2 ^ 25 + field 14 12 w * 2 ^ 12 + field 6 0 w
funct7_mask w =
    let l = w % 2 ^ 25 in
    let e = split 25 w 127 0x707F (lit< tt) in
    omega (arith, e, and_mask (w / 2 ^ 25) 7, funct3_mask l)

pub funct5_mask : (w : ℕ)
    → bit_and w 0xF800707F ≡ field 31 27 w * 2 ^ 27 + field 14 12 w * 2 ^ 12 + field 6 0 w
funct5_mask w =
    let l = w % 2 ^ 27 in
    let e = split 27 w 31 0x707F (lit< tt) in
    omega (arith, e, and_mask (w / 2 ^ 27) 5, funct3_mask l)

pub funct5_alone_mask : (w : ℕ)
    → bit_and w 0xF9F0707F
    ≡ field 31 27 w * 2 ^ 27 + rs2 w * 2 ^ 20 + field 14 12 w * 2 ^ 12 + field 6 0 w
funct5_alone_mask w =
    let l = w % 2 ^ 27 in
    let m = l % 2 ^ 25 in
    let n = m % 2 ^ 20 in
    let e = split 27 w 31 0x1F0707F (lit< tt) in
    let f = split 25 l 0 0x1F0707F (lit< tt) in
    let g = split 20 m 31 0x707F (lit< tt) in
    omega (
      arith,
      e,
      f,
      g,
      and_mask (w / 2 ^ 27) 5,
      and_mask (l / 2 ^ 25) 0,
      and_mask (m / 2 ^ 20) 5,
      funct3_mask n,
    )

pub word_mask : (w : ℕ) → w < 2 ^ 32 → bit_and w 0xFFFFFFFF ≡ w
word_mask w h = omega (arith, and_mask w 32)
