-- A `&` to a loan holds a share of the loan's part of the term.
use base.Fml.{Lft, Fml}
use denote.RattleType.{RattleType}
use denote.Param.Laws.{Laws}
use denote.Param.Shared.{copy_shared}
use denote.Sharing.{ShrLaws}
use denote.Struct.Field.{RawPtr-field}
use denote.Struct.Laws.{RawPtr-copy}
use denote.Struct.Lending.{of_Lends, lent_at, lent_at_shr_laws}
use Rattle.left_right.proofs.PartSteps.{lent_laws, Lends-part}
use Rattle.counted_loans.specs.contracts.Loan as Loan
use Rattle.counted_loans.proofs.Loan.TheLaw.Statement.{statement}

module _ (T : RattleType) (L : Laws T) where
  -- the value, as it is seen for a lifetime
  abbrev seen : (Loan.the_row T).Denot → Lft → Fml
  seen l = lent_at T l.at l.value

  seen_laws : (l : (Loan.the_row T).Denot) → ShrLaws (seen l)
  seen_laws l = lent_at_shr_laws T L.shr_laws l.at l.value

  pub shares : statement T L
  shares = of_Lends (Loan.struct T) (Loan.the_codes T.Denot T.coded) (Loan.the_heap T)
      (Loan.the_lent T) (λ l _. lent_laws (seen l) (seen_laws l) l.term)
      (copy_shared RawPtr-field RawPtr-copy, tt)
      (λ M 𝓤 𝓛 l _. Lends-part (seen l) (seen_laws l) 𝓛 l.term 1 (Loan.the_row T).lives)
