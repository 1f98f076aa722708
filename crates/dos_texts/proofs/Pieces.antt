-- Pieces put one after another: what is told, and fronts.
use Rattle.std.proofs.Common.{ℕ, ◌+◌, ◌≡◌, min, sym, ap, ◌∙◌, List, [], ◌++◌, length, take, Option}
use Rattle.std.proofs.Common.{Result, Ok, Err, arith}
use Rattle.std.specs.Prelude.{OnErr, OnOk}
use Rattle.std.proofs.lemmas.List.{append-nil, append_assoc, take-append-le, take_min}
use Rattle.std.proofs.Math.Seq.{take-append-add}
use Rattle.dos_io.specs.Outside.{grown, GrewByFront}
use Rattle.dos_io.proofs.OutsideLaws.{grown-nothing, grown-twice, grown_more}

pub on_err : {T E : Type 0} (result : Result T E) (P : Type 0) → P → OnErr result P
on_err (Ok x) P holds = tt
on_err (Err e) P holds = holds

-- a front of what comes next is a front of the whole
take_next : (first next rest : List ℕ) (k : ℕ)
    → take (length first + min k (length next)) (first ++ (next ++ rest)) ≡ first ++ take k next
take_next first next rest k =
    take-append-add first (next ++ rest) (min k (length next))
    ∙ ap (λ xs. first ++ xs)
    (take-append-le (min k (length next)) next rest (omega arith) ∙ take_min k next)

pub front_of_whole : (told before new : Option (List ℕ)) (first next rest whole : List ℕ)
    → before ≡ grown told first → GrewByFront before new next → whole ≡ first ++ (next ++ rest)
    → GrewByFront told new whole
front_of_whole told before new first next rest whole b front w = (
  length first + min front.0 (length next),
  front.1 ∙ ap (λ t. grown t (take front.0 next)) b ∙ grown-twice told first (take front.0 next)
      ∙ ap (grown told) (sym (take_next first next rest front.0))
      ∙ ap (λ xs. grown told (take (length first + min front.0 (length next)) xs)) (sym w),
)

-- the bytes of a text that was made as a line
pub same_text : (bytes text line is : List ℕ) → bytes ≡ text → text ≡ line → line ≡ is → bytes ≡ is
same_text bytes text line is e f g = e ∙ f ∙ g

-- ---- words and a number behind them, two or three times

pub two_pieces : (line first second u v w x : List ℕ) → first ≡ (line ++ u) ++ v
    → second ≡ (first ++ w) ++ x → second ≡ line ++ (((u ++ v) ++ w) ++ x)
two_pieces line first second u v w x e f = f ∙ ap (λ l. (l ++ w) ++ x) e ∙ simp append_assoc

pub three_pieces : (line first second third u v w x y z : List ℕ) → first ≡ (line ++ u) ++ v
    → second ≡ (first ++ w) ++ x → third ≡ (second ++ y) ++ z
    → third ≡ line ++ (((((u ++ v) ++ w) ++ x) ++ y) ++ z)
three_pieces line first second third u v w x y z e f g =
    g ∙ ap (λ l. (l ++ y) ++ z) (two_pieces line first second u v w x e f) ∙ simp append_assoc

-- ---- a line, and another behind it

pub first_fails : (t now : Option (List ℕ)) (bytes line rest : List ℕ) → bytes ≡ line
    → GrewByFront t now bytes → GrewByFront t now (line ++ rest)
first_fails t now bytes line rest is front =
    front_of_whole t t now [] bytes rest (line ++ rest) (grown-nothing t) front
    (ap (λ l. l ++ rest) (sym is))

pub both_told : {T E : Type 0} (result : Result T E) (t before now : Option (List ℕ))
    (bytes line more last : List ℕ) → bytes ≡ line → more ≡ last → before ≡ grown t bytes
    → OnOk result (now ≡ grown before more) → OnOk result (now ≡ grown t (line ++ last))
both_told (Ok x) t before now bytes line more last is also told put =
    grown_more t before now bytes more told put
    ∙ ap (λ l. grown t (l ++ more)) is ∙ ap (λ l. grown t (line ++ l)) also
both_told (Err e) t before now bytes line more last is also told put = tt

pub second_fails : {T E : Type 0} (result : Result T E) (t before now : Option (List ℕ))
    (bytes line more last : List ℕ) → bytes ≡ line → more ≡ last → before ≡ grown t bytes
    → OnErr result (GrewByFront before now more) → OnErr result (GrewByFront t now (line ++ last))
second_fails (Ok x) t before now bytes line more last is also told front = tt
second_fails (Err e) t before now bytes line more last is also told front =
    front_of_whole t before now bytes more [] (line ++ last) told front
    (ap (λ l. l ++ last) (sym is) ∙ ap (λ l. bytes ++ l) (sym also ∙ sym (append-nil more)))

-- ---- counts of faults, which stand where no put fails

pub both_steady : {T E : Type 0} (result : Result T E) (start between now : ℕ) → between ≡ start
    → OnOk result (now ≡ between) → OnOk result (now ≡ start)
both_steady (Ok x) start between now first second = second ∙ first
both_steady (Err e) start between now first second = tt
