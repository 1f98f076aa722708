-- What the builder is told of the turns.
use Rattle.std.proofs.Common.{◌≡◌, ℕ, List, [], ◌∷◌, ◌++◌, length, negsuc, Option, Some, None, refl}
use Rattle.std.proofs.Common.{ap, ◌∙◌, append_assoc, length-append, arith}
use Rattle.std.specs.Prelude.{slice_range, slice_set}
use Rattle.rv_isa.specs.declared.Instr.{Instr}
use Rattle.rv_isa.specs.declared.BranchOp.TheVariants.{Bne}
use Rattle.rv_isa.specs.Encoding.{encoding}
use Rattle.rv_asm.specs.Source.{Source, halfwords_of, with_item, with_label, with_here}
use Rattle.rv_asm.proofs.WordLaws.{count-append}
use Rattle.rv_asm.specs.declared.item.Item.{Item}
use Rattle.rv_asm.specs.declared.item.Item.TheVariants.{Word, Branch}
use Rattle.generated_group.specs.Generated.{addi, work}
use Rattle.generated_group.specs.Stretches.{with_code, words_of, work_items, worked}

abbrev to_skip : ℕ → Item
to_skip skip = Branch Bne 6 0 skip

abbrev to_body : ℕ → Item
to_body body = Branch Bne 21 0 body

abbrev turn : List Instr
turn = slice_range work 0 9

abbrev shared_turn : List Instr
shared_turn = slice_range work 10 13

abbrev count_down : Item
count_down = Word (encoding (addi 21 21 (negsuc 0)))

-- the items up to the label skip, and all
abbrev items_to_skip : List Item → List Item
items_to_skip items = items ++ words_of turn ++ (to_skip 3 ∷ []) ++ words_of shared_turn

abbrev items_of : List Item → List Item
items_of items = items_to_skip items ++ (count_down ∷ []) ++ (to_body 2 ∷ [])

items_of-append : (items : List Item) → items_of items ≡ items ++ work_items
items_of-append items = simp append_assoc

place_of_skip : (items : List Item) → halfwords_of items ≡ 48
    → halfwords_of (items_to_skip items) ≡ 74
place_of_skip items h = simp count-append (omega arith)

-- the labels body and skip, behind two others
labels_set : (labels : List (Option ℕ)) (at_body at_skip : ℕ) → labels ≡ Some 2 ∷ Some 20 ∷ []
    → at_body ≡ 48 → at_skip ≡ 74
    → slice_set (slice_set (labels ++ None ∷ [] ++ None ∷ []) 2 (Some at_body)) 3 (Some at_skip)
    ≡ labels ++ Some 48 ∷ Some 74 ∷ []
labels_set labels at_body at_skip h b k = rw (h, b, k) refl

with_both : (s : Source) (items items' : List Item) (labels labels' : List (Option ℕ))
    → items ≡ items' → labels ≡ labels'
    → record s { items = items; labels = labels } ≡ record s { items = items'; labels = labels' }
with_both s items items' labels labels' i l = cc

-- the steps of the builder
abbrev steps : (body skip : ℕ) → Source → Source
steps body skip s =
    let begun : Source = with_here (with_label (with_label s)) body in
    let turned : Source = with_code (with_item (with_code begun turn) (to_skip skip)) shared_turn in
    with_item (with_item (with_here turned skip) count_down) (to_body body)

worked_in : (s : Source) → s.labels ≡ Some 2 ∷ Some 20 ∷ [] → halfwords_of s.items ≡ 48
    → steps 2 3 s ≡ worked s
worked_in s labels place =
    with_both s (items_of s.items) (s.items ++ work_items) _ (s.labels ++ Some 48 ∷ Some 74 ∷ [])
    (items_of-append s.items)
    (labels_set s.labels (halfwords_of s.items) (halfwords_of (items_to_skip s.items)) labels place
    (place_of_skip s.items place))

pub worked_by : (s s1 s2 s3 s4 s5 s6 s7 s8 s9 : Source) (body skip : ℕ)
    → s.labels ≡ Some 2 ∷ Some 20 ∷ [] → halfwords_of s.items ≡ 48
    → s1 ≡ with_label s → body ≡ length s.labels → s2 ≡ with_label s1 → skip ≡ length s1.labels
    → s3 ≡ with_here s2 body → s4 ≡ with_code s3 turn → s5 ≡ with_item s4 (to_skip skip)
    → s6 ≡ with_code s5 shared_turn → s7 ≡ with_here s6 skip → s8 ≡ with_item s7 count_down
    → s9 ≡ with_item s8 (to_body body)
    → s9 ≡ worked s
worked_by s s1 s2 s3 s4 s5 s6 s7 s8 s9 body skip labels place e1 b e2 k e3 e4 e5 e6 e7 e8 e9 =
    let two : body ≡ 2 = b ∙ ap length labels in
    let three : skip ≡ 3 = k ∙ ap (λ (t : Source). length t.labels) e1
    ∙ ap (λ (ls : List (Option ℕ)). length (ls ++ None ∷ [])) labels in
    let all : s9 ≡ steps body skip s =
    e9 ∙ ap (λ (t : Source). with_item t (to_body body)) (e8
    ∙ ap (λ (t : Source). with_item t count_down) (e7
    ∙ ap (λ (t : Source). with_here t skip) (e6
    ∙ ap (λ (t : Source). with_code t shared_turn) (e5
    ∙ ap (λ (t : Source). with_item t (to_skip skip)) (e4
    ∙ ap (λ (t : Source). with_code t turn) (e3
    ∙ ap (λ (t : Source). with_here t body) (e2
    ∙ ap with_label e1))))))) in
    all ∙ ap (λ (n : ℕ). steps n skip s) two ∙ ap (λ (n : ℕ). steps 2 n s) three
    ∙ worked_in s labels place
