-- What a loan and a lender own. The value is lent for a lifetime of its own, the term, whose token
-- has 2 ^ 63 parts: each loan has one, and the lender has those that are not out.
use Rattle.std.specs.Prelude.{ℕ, [], ◌∷◌, ◌-◌, ◌^◌}
use mir.Syntax.{Ty}
use mir.Raw.{raw}
use base.Fraction.{full_share}
use base.Fml.{Lft, Fml, fsep, flent}
use denote.Memory.{lone}
use denote.RattleType.{RattleType}
use denote.RawPtr.{Ptr, lies_at}
use Rattle.left_right.specs.Parted.{part_owns, part_shares}

abbrev pub loan_owns : (R : RattleType) → Ptr → R.Denot → ℕ → Fml
loan_owns R p x term = part_owns R p x term 1

abbrev pub loan_shares : (R : RattleType) → Ptr → R.Denot → ℕ → Lft → Fml
loan_shares R p x term = part_shares R p x term

-- the value when the term is over, and the right to free its memory
abbrev pub comes_back : (Ty → Ptr → Fml) → (R : RattleType) → Ptr → R.Denot → ℕ → Fml
comes_back frees R p x term =
    fsep (flent (term ∷ []) (lies_at R full_share p x)) (frees (raw (lone R.mir)) p)

abbrev pub lent_owns : (Ty → Ptr → Fml) → (R : RattleType) → Ptr → R.Denot → ℕ → ℕ → Fml
lent_owns frees R p x term out =
    fsep (part_owns R p x term (2 ^ 63 - out)) (comes_back frees R p x term)
