-- Code that goes behind other code, instruction by instruction.
use Rattle.std.proofs.Common.{◌≡◌, ℕ, zero, suc, ◌+◌, ◌<◌, List, [], ◌∷◌, ◌++◌, length, get_or}
use Rattle.std.proofs.Common.{take, sym, ap, ◌∙◌, append_assoc, arith}
use Rattle.std.proofs.lemmas.List.{map_more, append-nil}
use Rattle.rv_isa.specs.declared.Instr.{Instr}
use Rattle.rv_isa.specs.Encoding.{encoding}
use Rattle.rv_isa.specs.Valid.{IsValid}
use Rattle.rv_asm.specs.Source.{Source, with_item}
use Rattle.rv_asm.specs.declared.item.Item.{Item}
use Rattle.rv_asm.specs.declared.item.Item.TheVariants.{Word}
use Rattle.generated_group.specs.Stretches.{AreValid, with_code, words_of}

-- each is valid
pub valid_at : (code : List Instr) (k : ℕ) (d : Instr) → AreValid code → k < length code
    → IsValid (get_or code k d)
valid_at [] k d h l = absurd (omega arith)
valid_at (instr ∷ code) zero d h l = h.0
valid_at (instr ∷ code) (suc k) d h l = valid_at code k d h.1 (omega arith)

pub with_no_code : (s : Source) → with_code s [] ≡ s
with_no_code s = ap (λ (items : List Item). record s { items = items }) (append-nil s.items)

pub with_code-more : (s : Source) (code : List Instr) (k : ℕ) (d : Instr) → k < length code
    → with_item (with_code s (take k code)) (Word (encoding (get_or code k d)))
    ≡ with_code s (take (k + 1) code)
with_code-more s code k d l =
    let f : Instr → Item = λ instr. Word (encoding instr) in
    ap (λ (items : List Item). record s { items = items })
    (append_assoc s.items (words_of (take k code)) (f (get_or code k d) ∷ [])
    ∙ ap (λ (more : List Item). s.items ++ more) (sym (map_more f code k d l)))

-- a loop over code, one instruction on
pub pushed : (s now new : Source) (code : List Instr) (k : ℕ) (d : Instr) → k < length code
    → now ≡ with_code s (take k code)
    → new ≡ with_item now (Word (encoding (get_or code k d)))
    → new ≡ with_code s (take (k + 1) code)
pushed s now new code k d l before step =
    step ∙ ap (λ (t : Source). with_item t (Word (encoding (get_or code k d)))) before
    ∙ with_code-more s code k d l
