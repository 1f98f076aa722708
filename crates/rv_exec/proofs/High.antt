-- The upper 32 bits of a product of two numbers of 64 bits that came from 32 bits.
use Rattle.std.proofs.Common.{ℕ, ◌≡◌, ◌<◌, ◌≤◌, ◌*◌, ◌^◌, ◌-◌, ap, ◌∙◌, ℤ, pos, negsuc, ◌*ℤ◌, w32}
use Rattle.std.proofs.Common.{w64, to_z, of_z, SFits, unsigned_abs, arith, lit<}
use Rattle.std.proofs.lemmas.Int.{ints, to_z-of_z, fits_signed_mul}
use Rattle.std.specs.Int.{int_shr}

-- what the code computes of its two factors, with each step's cast
abbrev pub upper_half : ℤ → ℤ → ℕ
upper_half x y = of_z w32
    (to_z w32 (of_z w32
    (to_z w64
    (of_z w64
    (int_shr
    (to_z w64 (of_z w64 (to_z w64 (of_z w64 x) *ℤ to_z w64 (of_z w64 y))))
    32)))))

narrow : (p : ℤ) → SFits w64 p
    → of_z w32 (to_z w32 (of_z w32 (to_z w64 (of_z w64 (int_shr p 32))))) ≡ of_z w32 (int_shr p 32)
narrow (pos n) f = omega (arith, ints)
narrow (negsuc n) f = omega (arith, ints)

exact : (x y : ℤ) (m n : ℕ) → SFits w64 x → SFits w64 y → unsigned_abs x ≤ m → unsigned_abs y ≤ n
    → m * n < 2 ^ 63 → upper_half x y ≡ of_z w32 (int_shr (x *ℤ y) 32)
exact x y m n f g a b h =
    let p = fits_signed_mul w64 x y m n a b h in
    rw (to_z-of_z w64 x f, to_z-of_z w64 y g, to_z-of_z w64 (x *ℤ y) p) (narrow (x *ℤ y) p)

widened : (a : ℕ) → a < 2 ^ 32 → to_z w32 (of_z w32 (to_z w32 a)) ≡ to_z w32 a
widened a h = omega (arith, ints)

signed_fits : (a : ℕ) → a < 2 ^ 32 → SFits w64 (to_z w32 a)
signed_fits a h = search (arith, ints)

signed_abs : (a : ℕ) → a < 2 ^ 32 → unsigned_abs (to_z w32 a) ≤ 2 ^ 31
signed_abs a h = omega (arith, ints)

unsigned_fits : (a : ℕ) → a < 2 ^ 32 → SFits w64 (pos a)
unsigned_fits a h = search (arith, ints)

-- a signed factor as the code widens it
pub factor : (a : ℕ) (s x : ℤ) → a < 2 ^ 32 → s ≡ to_z w32 a → x ≡ to_z w32 (of_z w32 s)
    → x ≡ to_z w32 a
factor a s x h e f = f ∙ ap (λ v. to_z w32 (of_z w32 v)) e ∙ widened a h

pub signed_by_signed : (a b : ℕ) (x y : ℤ) → a < 2 ^ 32 → b < 2 ^ 32 → x ≡ to_z w32 a
    → y ≡ to_z w32 b → upper_half x y ≡ of_z w32 (int_shr (to_z w32 a *ℤ to_z w32 b) 32)
signed_by_signed a b x y h k e f =
    ap (λ v. upper_half v y) e ∙ ap (upper_half (to_z w32 a)) f
    ∙ exact _ _ (2 ^ 31) (2 ^ 31) (signed_fits a h) (signed_fits b k) (signed_abs a h)
    (signed_abs b k) (lit< tt)

pub signed_by_unsigned : (a b : ℕ) (x y : ℤ) → a < 2 ^ 32 → b < 2 ^ 32 → x ≡ to_z w32 a → y ≡ pos b
    → upper_half x y ≡ of_z w32 (int_shr (to_z w32 a *ℤ pos b) 32)
signed_by_unsigned a b x y h k e f =
    ap (λ v. upper_half v y) e ∙ ap (upper_half (to_z w32 a)) f
    ∙ exact _ _ (2 ^ 31) (2 ^ 32 - 1) (signed_fits a h) (unsigned_fits b k) (signed_abs a h)
    (omega arith) (lit< tt)
