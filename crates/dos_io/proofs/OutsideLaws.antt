-- What a sink has told, piece by piece, and fronts.
use Rattle.std.proofs.Common.{◌≡◌, ℕ, List, [], ◌++◌, take, drop, append-nil, append_assoc, Option}
use Rattle.std.proofs.Common.{Some, None, refl, sym, ap, ◌∙◌}
use Rattle.std.proofs.lemmas.List.{take-append-drop}
use Rattle.dos_io.specs.Outside.{grown, IsFront, GrewByFront}

-- told, and nothing more
pub grown-nothing : (told : Option (List ℕ)) → told ≡ grown told []
grown-nothing None = refl
grown-nothing (Some bytes) = ap Some (sym (append-nil bytes))

-- told twice is told together
pub grown-twice : (told : Option (List ℕ)) (xs ys : List ℕ)
    → grown (grown told xs) ys ≡ grown told (xs ++ ys)
grown-twice None xs ys = refl
grown-twice (Some bytes) xs ys = ap Some (append_assoc bytes xs ys)

pub grown_more : (t before now : Option (List ℕ)) (xs ys : List ℕ) → before ≡ grown t xs
    → now ≡ grown before ys → now ≡ grown t (xs ++ ys)
grown_more t before now xs ys e f = f ∙ ap (λ v. grown v ys) e ∙ grown-twice t xs ys

-- ---- fronts

pub front-whole : (bytes : List ℕ) → IsFront bytes bytes
front-whole bytes = ([], sym (append-nil bytes))

-- with nothing behind
pub front-nothing : (bytes : List ℕ) → IsFront (bytes ++ []) bytes
front-nothing bytes = ([], sym (append-nil (bytes ++ []) ∙ append-nil bytes))

-- more bytes behind what it is a front of
pub front-more : (short long bytes : List ℕ) → IsFront short long → IsFront short (long ++ bytes)
front-more short long bytes h =
    (h.0 ++ bytes, ap (λ x. x ++ bytes) h.1 ∙ append_assoc short h.0 bytes)

-- the same bytes before both
pub front-behind : (before short long : List ℕ) → IsFront short long
    → IsFront (before ++ short) (before ++ long)
front-behind before short long h =
    (h.0, ap (λ x. before ++ x) h.1 ∙ sym (append_assoc before short h.0))

-- where it has grown by a front of a piece, it has grown by bytes that are a front of it
pub grown-front : (old new : Option (List ℕ)) (piece : List ℕ) → GrewByFront old new piece
    → (front : List ℕ) × (new ≡ grown old front) × IsFront front piece
grown-front old new piece h =
    (take h.0 piece, h.1, (drop h.0 piece, sym (take-append-drop h.0 piece)))
