use Rattle.std.proofs.Common.{◌≡◌, ◌+◌, drop}
use Rattle.rv_asm.specs.Source.{halfwords_of}
use Rattle.rv_asm.specs.Words.{code_from}
use Rattle.rv_asm.proofs.WordLaws.{after}
use Rattle.rv_asm.proofs.words.code_of.Given as goal

-- what was made, with what is left, is the answer; and so are the places
abbrev pub invariant-loop-item : goal.invariant-loop-item
invariant-loop-item l =
    (after l.code.items (code_from l.labels l.place (drop l.item-index l.items))
    ≡ code_from l.labels 0 l.items)
    × (l.place + halfwords_of (drop l.item-index l.items) ≡ halfwords_of l.items)
