-- The kind of an operation is that of each form with it.
use Rattle.std.proofs.Common.{ℕ, ◌≡◌, refl, ap, ◌∙◌, Bool, true, false, Option, Some, None, cond}
use Rattle.std.proofs.Common.{sym, subst, eqb, ◌%◌, ◌⊎◌, inl, inr}
use Rattle.std.specs.Prelude.{⊤, option_map, unwrap_or}
use Rattle.rv_isa.specs.declared.Instr.{Instr}
use Rattle.rv_isa.specs.declared.Instr.TheVariants as instr
use Rattle.rv_isa.specs.Meaning.{meaning}
use Rattle.rv_isa.specs.Compressed.{expansion, sized, instruction}
use Rattle.rv_form.specs.declared.form.Op.{Op}
use Rattle.rv_form.specs.declared.form.Op.TheVariants as op
use Rattle.rv_form.specs.declared.form.Form.{Form}
use Rattle.rv_form.specs.Forms.{instr_of, instr_of_form, plain_sized, IsFormOf}
use Rattle.code_pages.specs.Codes.{code_size}
use Rattle.code_pages.specs.Kinds.{IsOfKind, writes}
use Rattle.code_pages.specs.declared.kind.Kind.{Kind}
use Rattle.code_pages.specs.declared.kind.Kind.TheVariants as kind
use Rattle.code_pages.specs.KindTable.{kind_of_op}

-- an instruction, if any, of this size
abbrev HasSize : Option (Instr × ℕ) → ℕ → Type 0
HasSize None size = ⊤
HasSize (Some found) size = found.1 ≡ size

-- the same instruction by its other size
resized : (f : Form) (i : Instr) (n size : ℕ) → n ≡ size → instr_of_form f ≡ Some (i, n)
    → instr_of_form f ≡ Some (i, size)
resized f i n size same is = is ∙ ap (λ m. Some (i, m)) same

other : (f : Form) (i : Instr) (n size : ℕ) → n ≡ size → instr_of_form f ≡ Some (i, n)
    → instr_of_form f ≡ Some ((unwrap_or (instr_of_form f) (instr.Ecall, 0)).0, size)
other f i n size same is = resized f i n size same is
    ∙ ap (λ o. Some ((unwrap_or o (instr.Ecall, 0)).0, size)) (sym is)

of_op : (f : Form) (o : Op) (size : ℕ) → HasSize (instr_of o f.rd f.rs1 f.rs2 f.imm) size
    → instr_of_form f ≡ instr_of o f.rd f.rs1 f.rs2 f.imm
    → IsOfKind (kind_of_op o).0 (kind_of_op o).1 f size
unfolding instr_of
of_op f op.Illegal size has is = refl
of_op f op.Lui size has is = other f _ _ size has is
of_op f op.Auipc size has is = other f _ _ size has is
of_op f op.Jal size has is = resized f _ _ size has is
of_op f op.Jalr size has is = resized f _ _ size has is
of_op f op.Beq size has is = resized f _ _ size has is
of_op f op.Bne size has is = resized f _ _ size has is
of_op f op.Blt size has is = resized f _ _ size has is
of_op f op.Bge size has is = resized f _ _ size has is
of_op f op.Bltu size has is = resized f _ _ size has is
of_op f op.Bgeu size has is = resized f _ _ size has is
of_op f op.Lb size has is = other f _ _ size has is
of_op f op.Lh size has is = other f _ _ size has is
of_op f op.Lw size has is = resized f _ _ size has is
of_op f op.Lbu size has is = resized f _ _ size has is
of_op f op.Lhu size has is = other f _ _ size has is
of_op f op.Sb size has is = other f _ _ size has is
of_op f op.Sh size has is = other f _ _ size has is
of_op f op.Sw size has is = resized f _ _ size has is
of_op f op.Addi size has is = resized f _ _ size has is
of_op f op.Slti size has is = other f _ _ size has is
of_op f op.Sltiu size has is = other f _ _ size has is
of_op f op.Xori size has is = other f _ _ size has is
of_op f op.Ori size has is = other f _ _ size has is
of_op f op.Andi size has is = other f _ _ size has is
of_op f op.Slli size has is = resized f _ _ size has is
of_op f op.Srli size has is = resized f _ _ size has is
of_op f op.Srai size has is = other f _ _ size has is
of_op f op.Add size has is = resized f _ _ size has is
of_op f op.Sub size has is = other f _ _ size has is
of_op f op.Sll size has is = other f _ _ size has is
of_op f op.Slt size has is = other f _ _ size has is
of_op f op.Sltu size has is = other f _ _ size has is
of_op f op.Xor size has is = resized f _ _ size has is
of_op f op.Srl size has is = other f _ _ size has is
of_op f op.Sra size has is = other f _ _ size has is
of_op f op.Or size has is = other f _ _ size has is
of_op f op.And size has is = resized f _ _ size has is
of_op f op.Mul size has is = other f _ _ size has is
of_op f op.Mulh size has is = other f _ _ size has is
of_op f op.Mulhsu size has is = other f _ _ size has is
of_op f op.Mulhu size has is = other f _ _ size has is
of_op f op.Div size has is = other f _ _ size has is
of_op f op.Divu size has is = other f _ _ size has is
of_op f op.Rem size has is = other f _ _ size has is
of_op f op.Remu size has is = other f _ _ size has is
of_op f op.Fence size has is = other f _ _ size has is
of_op f op.Ecall size has is = refl
of_op f op.Ebreak size has is = refl
of_op f op.LrW size has is = refl
of_op f op.ScW size has is = refl
of_op f op.AmoswapW size has is = refl
of_op f op.AmoaddW size has is = refl
of_op f op.AmoxorW size has is = refl
of_op f op.AmoandW size has is = refl
of_op f op.AmoorW size has is = refl
of_op f op.AmominW size has is = refl
of_op f op.AmomaxW size has is = refl
of_op f op.AmominuW size has is = refl
of_op f op.AmomaxuW size has is = refl
of_op f op.ShortLui size has is = other f _ _ size has is
of_op f op.ShortJal size has is = resized f _ _ size has is
of_op f op.ShortJalr size has is = resized f _ _ size has is
of_op f op.ShortBeq size has is = resized f _ _ size has is
of_op f op.ShortBne size has is = resized f _ _ size has is
of_op f op.ShortLw size has is = resized f _ _ size has is
of_op f op.ShortSw size has is = resized f _ _ size has is
of_op f op.ShortAddi size has is = resized f _ _ size has is
of_op f op.ShortAndi size has is = other f _ _ size has is
of_op f op.ShortSlli size has is = resized f _ _ size has is
of_op f op.ShortSrli size has is = resized f _ _ size has is
of_op f op.ShortSrai size has is = other f _ _ size has is
of_op f op.ShortAdd size has is = resized f _ _ size has is
of_op f op.ShortSub size has is = other f _ _ size has is
of_op f op.ShortXor size has is = resized f _ _ size has is
of_op f op.ShortOr size has is = other f _ _ size has is
of_op f op.ShortAnd size has is = resized f _ _ size has is
of_op f op.ShortEbreak size has is = refl

-- what a code means has its size
code-size : (code : ℕ) → HasSize (option_map plain_sized (instruction code)) (code_size code)
code-size code = by_test (eqb (code % 4) 3)
  where
    of_meaning : (o : Option Instr) (size : ℕ)
        → HasSize (option_map plain_sized (option_map (sized size) o)) size
    of_meaning None size = tt
    of_meaning (Some i) size = refl

    by_test : (b : Bool) → HasSize (option_map plain_sized
        (cond b (option_map (sized 4) (meaning code)) (option_map (sized 2) (expansion code))))
        (cond b 4 2)
    by_test true = of_meaning (meaning code) 4
    by_test false = of_meaning (expansion code) 2

-- a line of a code is of its kind
pub of_code : (f : Form) (code : ℕ) → IsFormOf code f
    → IsOfKind (kind_of_op f.op).0 (kind_of_op f.op).1 f (code_size code)
of_code f code is =
    of_op f f.op (code_size code) (subst (λ o. HasSize o (code_size code)) (sym is)
    (code-size code))
    refl

-- a form that is of a kind which writes a register is of the others too
other-too : (k : Kind) (turned : Bool) (f : Form) (size : ℕ) → writes k ≡ true
    → IsOfKind k turned f size → IsOfKind kind.Other turned f size
other-too kind.Addi turned f size w is = other f _ _ size refl is
other-too kind.Lw turned f size w is = other f _ _ size refl is
other-too kind.Lbu turned f size w is = other f _ _ size refl is
other-too kind.Add turned f size w is = other f _ _ size refl is
other-too kind.Slli turned f size w is = other f _ _ size refl is
other-too kind.Srli turned f size w is = other f _ _ size refl is
other-too kind.Xor turned f size w is = other f _ _ size refl is
other-too kind.And turned f size w is = other f _ _ size refl is
other-too kind.Sw turned f size w is = cc
other-too kind.Equal turned f size w is = cc
other-too kind.Below turned f size w is = cc
other-too kind.Less turned f size w is = cc
other-too kind.Jal turned f size w is = cc
other-too kind.Jalr turned f size w is = cc
other-too kind.Other turned f size w is = cc
other-too kind.End turned f size w is = cc

-- a line that is of its kind by its operation is so where it is among the others instead
pub of-kind-for : (k own : Kind) (turned : Bool) (f : Form) (size : ℕ)
    → (own ≡ k) ⊎ ((writes k ≡ true) × (own ≡ kind.Other)) → IsOfKind k turned f size
    → IsOfKind own turned f size
of-kind-for k own turned f size (inl same) is =
    subst (λ (x : Kind). IsOfKind x turned f size) (sym same) is
of-kind-for k own turned f size (inr p) is =
    subst (λ (x : Kind). IsOfKind x turned f size) (sym p.1) (other-too k turned f size p.0 is)
