-- The lines of parts, put one by one.
use Rattle.std.proofs.Common.{◌≡◌, ◌<◌, ◌≤◌, ◌+◌, ◌++◌, ◌∷◌, [], List, ℕ, Option, length, take}
use Rattle.std.proofs.Common.{drop, get_or, flat_map, sym, ap, ◌∙◌, arith}
use Rattle.std.proofs.lemmas.Grind.{flat_map-append}
use Rattle.std.proofs.lemmas.List.{append-nil, append_assoc, take-append-drop, take_more}
use Rattle.std.proofs.lemmas.List.{flat_map_more, take_all}
use Rattle.dos_io.proofs.OutsideLaws.{grown-nothing}
use Rattle.dos_io.specs.Outside.{grown, GrewByFront}
use Rattle.dos_texts.proofs.Pieces.{front_of_whole}
use Rattle.elf_image.specs.declared.part.Part.{Part}
use Rattle.dos_texts.specs.Printed.{part_line}
use Rattle.dos_io.proofs.OutsideLaws.{grown_more}

-- no part yet
pub parts_start : (t now : Option (List ℕ)) (head piece : List ℕ) (parts : List Part) → piece ≡ head
    → now ≡ grown t piece → now ≡ grown t (head ++ flat_map part_line (take 0 parts))
parts_start t now head piece parts e put = put ∙ ap (λ v. grown t v) (e ∙ sym (append-nil head))

-- one part more
pub parts_more : (t before now : Option (List ℕ)) (head piece : List ℕ) (items parts : List Part)
    (i : ℕ) (part : Part)
    → items ≡ parts → i < length items → part ≡ get_or items i part → piece ≡ part_line part
    → before ≡ grown t (head ++ flat_map part_line (take i parts)) → now ≡ grown before piece
    → now ≡ grown t (head ++ flat_map part_line (take (i + 1) parts))
parts_more t before now head piece items parts i part same within is line so_far put =
    let inside : i < length parts = omega (arith, ap length same) in
    let here : get_or parts i part ≡ part = ap (λ v. get_or v i part) (sym same) ∙ sym is in
    let next : take i parts ++ part ∷ [] ≡ take (i + 1) parts =
    sym (take_more parts i part inside ∙ ap (λ v. take i parts ++ v ∷ []) here) in
    grown_more t before now (head ++ flat_map part_line (take i parts)) piece so_far put
    ∙ ap (λ v. grown t ((head ++ flat_map part_line (take i parts)) ++ v)) line
    ∙ ap (λ v. grown t v) (flat_map_more part_line head (take i parts) part)
    ∙ ap (λ v. grown t (head ++ flat_map part_line v)) next

-- all parts
pub parts_all : (t now : Option (List ℕ)) (head : List ℕ) (items parts : List Part) (i : ℕ)
    → items ≡ parts → length items ≤ i → now ≡ grown t (head ++ flat_map part_line (take i parts))
    → now ≡ grown t (head ++ flat_map part_line parts)
parts_all t now head items parts i same over so_far =
    let past : length parts ≤ i = omega (arith, ap length same) in
    so_far ∙ ap (λ v. grown t (head ++ flat_map part_line v)) (take_all i parts past)

-- ---- a line whose put failed

-- the first
pub front_first : (t now : Option (List ℕ)) (head piece : List ℕ) (parts : List Part) → piece ≡ head
    → GrewByFront t now piece → GrewByFront t now (head ++ flat_map part_line parts)
front_first t now head piece parts is front =
    front_of_whole t t now [] piece (flat_map part_line parts) (head ++ flat_map part_line parts)
    (grown-nothing t) front (ap (λ v. v ++ flat_map part_line parts) (sym is))

-- a part's
pub front_part : (t before now : Option (List ℕ)) (head piece : List ℕ) (items parts : List Part)
    (i : ℕ) (part : Part)
    → items ≡ parts → i < length items → part ≡ get_or items i part → piece ≡ part_line part
    → before ≡ grown t (head ++ flat_map part_line (take i parts)) → GrewByFront before now piece
    → GrewByFront t now (head ++ flat_map part_line parts)
front_part t before now head piece items parts i part same within is line so_far front =
    let inside : i < length parts = omega (arith, ap length same) in
    let here : get_or parts i part ≡ part = ap (λ v. get_or v i part) (sym same) ∙ sym is in
    let rest : List Part = drop (i + 1) parts in
    let left : List ℕ = flat_map part_line rest in
    let next : take (i + 1) parts ≡ take i parts ++ part ∷ [] =
    take_more parts i part inside ∙ ap (λ v. take i parts ++ v ∷ []) here in
    let split : flat_map part_line parts ≡ flat_map part_line (take i parts ++ part ∷ []) ++ left =
    ap (λ v. flat_map part_line v) (sym (take-append-drop (i + 1) parts) ∙ ap (λ v. v ++ rest) next)
    ∙ flat_map-append part_line (take i parts ++ part ∷ []) rest in
    let put : List ℕ = head ++ flat_map part_line (take i parts) in
    let whole : head ++ flat_map part_line parts ≡ put ++ (piece ++ left) =
    ap (λ v. head ++ v) split
    ∙ sym (append_assoc head (flat_map part_line (take i parts ++ part ∷ [])) left)
    ∙ ap (λ v. v ++ left) (sym (flat_map_more part_line head (take i parts) part))
    ∙ ap (λ v. (put ++ v) ++ left) (sym line)
    ∙ append_assoc put piece left in
    front_of_whole t before now put piece left (head ++ flat_map part_line parts) so_far front whole
