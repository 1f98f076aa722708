-- What the builder is told of the threads' beginning.
use Rattle.std.proofs.Common.{◌≡◌, ℕ, List, [], ◌∷◌, ◌++◌, length, false, pos, ap, ◌∙◌, refl}
use Rattle.std.proofs.Common.{append_assoc, arith, ℤ, ◌≤◌, to_z, w32}
use Rattle.std.proofs.lemmas.Int.{to_z_pos}
use Rattle.std.specs.Prelude.{slice_range}
use Rattle.rv_isa.specs.declared.Instr.{Instr}
use Rattle.rv_isa.specs.declared.BranchOp.TheVariants.{Beq}
use Rattle.rv_isa.specs.Encoding.{encoding}
use Rattle.rv_asm.specs.Source.{Source, empty_at, with_item, with_label, with_here}
use Rattle.rv_asm.specs.declared.item.Item.{Item}
use Rattle.rv_asm.specs.declared.item.Item.TheVariants.{Word, Jump, Branch}
use Rattle.generated_group.specs.Generated.{addi, start_threads}
use Rattle.generated_group.specs.Stretches.{with_code, with_start, started, start_items, words_of}

-- ---- one more of them

abbrev last_index : ℕ → Item
last_index threads = Word (encoding (addi 5 0 (pos threads)))

abbrev made : ℕ → List Instr
made threads = slice_range (start_threads threads) 3 9

abbrev to_first : ℕ → Item
to_first first = Branch Beq 9 5 first

abbrev to_next : ℕ → Item
to_next next = Jump 0 next

items_of-append : (items : List Item) (threads next first : ℕ)
    → (((items ++ last_index threads ∷ []) ++ to_first first ∷ []) ++ words_of (made threads))
    ++ to_next next ∷ [] ≡ items ++ start_items threads next first
items_of-append items threads next first = simp append_assoc

pub next_started : (s s1 s2 s3 s4 : Source) (threads next first : ℕ)
    → threads ≤ 32 → s1 ≡ with_item s (Word (encoding (addi 5 0 (to_z w32 threads))))
    → s2 ≡ with_item s1 (to_first first) → s3 ≡ with_code s2 (made threads)
    → s4 ≡ with_item s3 (to_next next) → s4 ≡ with_start s threads next first
next_started s s1 s2 s3 s4 threads next first few e1 e2 e3 e4 =
    let same : to_z w32 threads ≡ pos threads = to_z_pos w32 threads (omega arith) in
    let last : s1 ≡ with_item s (last_index threads) =
    e1 ∙ ap (λ (z : ℤ). with_item s (Word (encoding (addi 5 0 z)))) same in
    e4 ∙ ap (λ (t : Source). with_item t (to_next next)) (e3
    ∙ ap (λ (t : Source). with_code t (made threads)) (e2
    ∙ ap (λ (t : Source). with_item t (to_first first)) last))
    ∙ ap (λ (items : List Item). record s { items = items })
    (items_of-append s.items threads next first)

-- ---- all of them

abbrev count_one : Item
count_one = Word (encoding (addi 9 0 (pos 1)))

abbrev steps : (threads next first : ℕ) → Source → Source
steps threads next first s =
    let begun : Source = with_item (with_label (with_label s)) count_one in
    with_here (with_start (with_here begun next) threads next first) first

started_in : (threads : ℕ) → steps threads 0 1 (empty_at 0x10000 false) ≡ started threads
started_in threads = refl

pub all_started : (s s1 s2 s3 s4 s5 s6 : Source) (threads next first : ℕ)
    → s ≡ empty_at 0x10000 false
    → s1 ≡ with_label s → next ≡ length s.labels → s2 ≡ with_label s1 → first ≡ length s1.labels
    → s3 ≡ with_item s2 count_one → s4 ≡ with_here s3 next
    → s5 ≡ with_start s4 threads next first → s6 ≡ with_here s5 first → s6 ≡ started threads
all_started s s1 s2 s3 s4 s5 s6 threads next first empty e1 n e2 f e3 e4 e5 e6 =
    let zeroth : next ≡ 0 = n ∙ ap (λ (t : Source). length t.labels) empty in
    let one : first ≡ 1 = f ∙ ap (λ (t : Source). length t.labels) (e1 ∙ ap with_label empty) in
    let all : s6 ≡ steps threads next first s =
    e6 ∙ ap (λ (t : Source). with_here t first) (e5
    ∙ ap (λ (t : Source). with_start t threads next first) (e4
    ∙ ap (λ (t : Source). with_here t next) (e3
    ∙ ap (λ (t : Source). with_item t count_one) (e2 ∙ ap with_label e1)))) in
    all ∙ ap (steps threads next first) empty
    ∙ ap (λ (k : ℕ). steps threads k first (empty_at 0x10000 false)) zeroth
    ∙ ap (λ (k : ℕ). steps threads 0 k (empty_at 0x10000 false)) one ∙ started_in threads
