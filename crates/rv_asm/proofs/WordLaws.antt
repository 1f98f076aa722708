-- The code of items, made one after another.
use Rattle.std.proofs.Common.{◌≡◌, ℕ, suc, ◌+◌, ◌*◌, ◌<◌, ◌≤◌, List, [], ◌∷◌, ◌++◌, length, drop}
use Rattle.std.proofs.Common.{get_or}
use Rattle.std.proofs.Common.{Option, Result, Ok, Err, refl, sym, ap, ◌∙◌, append_assoc, append-nil}
use Rattle.std.proofs.Common.{add-one, drop-cons, arith}
use Rattle.std.proofs.lemmas.List.{drop_all}
use Rattle.rv_asm.specs.declared.error.AsmError.{AsmError}
use Rattle.rv_asm.specs.declared.item.Item.{Item}
use Rattle.rv_asm.specs.declared.item.Item.TheVariants.{Half, Word, Jump, Branch}
use Rattle.rv_asm.specs.Source.{halfwords_of, halves_in}
use Rattle.rv_asm.specs.Words.{word_of, before, bytes_by, code_from}

-- what was made, before what is left
abbrev pub after : List ℕ → Result (List ℕ) AsmError → Result (List ℕ) AsmError
after done (Ok bytes) = Ok (done ++ bytes)
after done (Err e) = Err e

after-before : (done : List ℕ) (item : Item) (n : ℕ) (rest : Result (List ℕ) AsmError)
    → after (done ++ bytes_by item n) rest ≡ after done (before item (Ok n) rest)
after-before done item n (Ok bytes) = ap Ok (append_assoc done (bytes_by item n) bytes)
after-before done item n (Err e) = refl

code_from-cons : (labels : List (Option ℕ)) (place : ℕ) (item : Item) (items : List Item)
    → code_from labels place (item ∷ items) ≡ before item (word_of labels place item)
    (code_from labels (place + halves_in item) items)
unfolding code_from
code_from-cons labels place item items = refl

code_from-nil : (labels : List (Option ℕ)) (place : ℕ) → code_from labels place [] ≡ Ok []
unfolding code_from
code_from-nil labels place = refl

next_item : (items : List Item) (index : ℕ) (item default : Item) → index < length items
    → get_or items index default ≡ item → drop index items ≡ item ∷ drop (suc index) items
next_item items index item default lt e =
    drop-cons items index default lt ∙ ap (λ (x : Item). x ∷ drop (suc index) items) e

-- the next of the items
code_from-drop : (labels : List (Option ℕ)) (items : List Item) (index place : ℕ)
    (item default : Item) → index < length items → get_or items index default ≡ item
    → code_from labels place (drop index items) ≡ before item (word_of labels place item)
    (code_from labels (place + halves_in item) (drop (index + 1) items))
code_from-drop labels items index place item default lt e =
    rw (next_item items index item default lt e, add-one)
    (code_from-cons labels place item (drop (suc index) items))

pub count-drop : (items : List Item) (index : ℕ) (item default : Item) → index < length items
    → get_or items index default ≡ item
    → halfwords_of (drop index items) ≡ halves_in item + halfwords_of (drop (index + 1) items)
count-drop items index item default lt e =
    rw (next_item items index item default lt e, add-one) refl

pub one_more : (labels : List (Option ℕ)) (items : List Item) (all : Result (List ℕ) AsmError)
    (done new : List ℕ) (index place next n : ℕ) (item default : Item) → index < length items
    → get_or items index default ≡ item → word_of labels place item ≡ Ok n
    → new ≡ done ++ bytes_by item n → next ≡ place + halves_in item
    → after done (code_from labels place (drop index items)) ≡ all
    → after new (code_from labels next (drop (index + 1) items)) ≡ all
one_more labels items all done new index place next n item default lt e made is on was =
    rw (is, on) (after-before done item n
    (code_from labels (place + halves_in item) (drop (index + 1) items))
    ∙ ap (λ (r : Result ℕ AsmError). after done (before item r
    (code_from labels (place + halves_in item) (drop (index + 1) items)))) (sym made)
    ∙ ap (after done) (sym (code_from-drop labels items index place item default lt e)) ∙ was)

pub refused_here : (labels : List (Option ℕ)) (items : List Item) (all : Result (List ℕ) AsmError)
    (done : List ℕ) (index place : ℕ) (item default : Item) (refusal : AsmError)
    → index < length items → get_or items index default ≡ item
    → word_of labels place item ≡ Err refusal
    → after done (code_from labels place (drop index items)) ≡ all → all ≡ Err refusal
refused_here labels items all done index place item default refusal lt e made was =
    sym was ∙ ap (after done) (code_from-drop labels items index place item default lt e)
    ∙ ap (λ (r : Result ℕ AsmError). after done
    (before item r (code_from labels (place + halves_in item) (drop (index + 1) items)))) made

pub all_code : (labels : List (Option ℕ)) (items : List Item) (all : Result (List ℕ) AsmError)
    (done : List ℕ) (index place : ℕ) → length items ≤ index
    → after done (code_from labels place (drop index items)) ≡ all → all ≡ Ok done
all_code labels items all done index place le was =
    sym was ∙ ap (λ (l : List Item). after done (code_from labels place l))
    (drop_all index items le) ∙ ap (after done) (code_from-nil labels place)
    ∙ ap Ok (append-nil done)

-- ---- counts

pub count-append : (xs ys : List Item) → halfwords_of (xs ++ ys) ≡ halfwords_of xs + halfwords_of ys
count-append [] ys = omega arith
count-append (x ∷ xs) ys = let rest = count-append xs ys in omega (arith, rest)

pub counts_on : (items : List Item) (index place halves : ℕ) (item default : Item)
    → index < length items → get_or items index default ≡ item → halves ≡ halves_in item
    → place + halfwords_of (drop index items) ≡ halfwords_of items
    → place + halves + halfwords_of (drop (index + 1) items) ≡ halfwords_of items
counts_on items index place halves item default lt e is was =
    omega (arith, is, was, count-drop items index item default lt e)

-- no item has more than two halfwords
pub count-below : (items : List Item) → halfwords_of items ≤ 2 * length items
count-below [] = omega arith
count-below (item ∷ items) =
    let rest = count-below items in let here = halves-below item in omega (arith, rest, here)
  where
    halves-below : (item : Item) → halves_in item ≤ 2
    halves-below (Half value) = omega arith
    halves-below (Word value) = omega arith
    halves-below (Jump rd label) = omega arith
    halves-below (Branch op rs1 rs2 label) = omega arith
