-- Texts put one after another: what is told, and fronts.
use Rattle.std.proofs.Common.{ℕ, ◌+◌, ◌≡◌, ◌<◌, min, refl, sym, ap, ◌∙◌, subst, arith}
use Rattle.std.proofs.Common.{Bool, List, [], ◌∷◌, ◌++◌, length, take, drop, get_or}
use Rattle.std.proofs.Common.{Option, Result, Ok, Err, append-nil}
use Rattle.std.specs.Prelude.{OnErr}
use Rattle.std.specs.Global.{Vec}
use Rattle.std.proofs.lemmas.List.{take-append-le, take_min, take-append-drop, drop_more}
use Rattle.std.proofs.lemmas.Grind.{flat_map-append}
use Rattle.std.proofs.Math.Seq.{take-append-add}
use Rattle.dos_io.specs.Outside.{grown, GrewByFront}
use Rattle.dos_io.proofs.OutsideLaws.{grown-twice}
use Rattle.debug_session.specs.Connections.{acknowledgement}
use Rattle.debug_connection.specs.Keeping.{all_of, texts_of}

pub on_err : {T E : Type 0} (result : Result T E) (P : Type 0) → P → OnErr result P
on_err (Ok x) P holds = tt
on_err (Err e) P holds = holds

pub on_err_to : {T E P Q : Type 0} (result : Result T E) → (P → Q) → OnErr result P → OnErr result Q
on_err_to (Ok x) to holds = tt
on_err_to (Err e) to holds = to holds

-- a front of what comes next is a front of the whole
take_next : (first next rest : List ℕ) (k : ℕ)
    → take (length first + min k (length next)) (first ++ (next ++ rest)) ≡ first ++ take k next
take_next first next rest k =
    take-append-add first (next ++ rest) (min k (length next))
    ∙ ap (λ xs. first ++ xs)
    (take-append-le (min k (length next)) next rest (omega arith) ∙ take_min k next)

pub front_of_whole : (told before new : Option (List ℕ)) (first next rest whole : List ℕ)
    → before ≡ grown told first → GrewByFront before new next → whole ≡ first ++ (next ++ rest)
    → GrewByFront told new whole
front_of_whole told before new first next rest whole b front w = (
  length first + min front.0 (length next),
  front.1 ∙ ap (λ t. grown t (take front.0 next)) b ∙ grown-twice told first (take front.0 next)
      ∙ ap (grown told) (sym (take_next first next rest front.0))
      ∙ ap (λ xs. grown told (take (length first + min front.0 (length next)) xs)) (sym w),
)

-- one text after another
pub all_of-append : (xs ys : List (List ℕ)) → all_of (xs ++ ys) ≡ all_of xs ++ all_of ys
all_of-append xs ys = flat_map-append (λ (text : List ℕ). text) xs ys

-- ---- vectors, one by one

texts_of-append : (vs ws : List (Vec ℕ)) → texts_of (vs ++ ws) ≡ texts_of vs ++ texts_of ws
texts_of-append [] ws = refl
texts_of-append (v ∷ vs) ws = ap (λ (l : List (List ℕ)). v.items ∷ l) (texts_of-append vs ws)

vectors_split : (vs : List (Vec ℕ)) (i : ℕ) (v : Vec ℕ) → i < length vs → v ≡ get_or vs i v
    → all_of (texts_of vs)
    ≡ all_of (texts_of (take i vs)) ++ (v.items ++ all_of (texts_of (drop (i + 1) vs)))
vectors_split vs i v within is =
    let here : drop i vs ≡ v ∷ drop (i + 1) vs =
    drop_more vs i v within ∙ ap (λ (w : Vec ℕ). w ∷ drop (i + 1) vs) (sym is) in
    ap (λ (l : List (Vec ℕ)). all_of (texts_of l))
    (sym (take-append-drop i vs) ∙ ap (λ (l : List (Vec ℕ)). take i vs ++ l) here)
    ∙ ap all_of (texts_of-append (take i vs) (v ∷ drop (i + 1) vs))
    ∙ all_of-append (texts_of (take i vs)) (texts_of (v ∷ drop (i + 1) vs))

-- the vector whose put failed
pub front_vector : (t before new : Option (List ℕ)) (vs : List (Vec ℕ)) (i : ℕ) (v : Vec ℕ)
    (piece : List ℕ) → i < length vs → v ≡ get_or vs i v → piece ≡ v.items
    → before ≡ grown t (all_of (texts_of (take i vs))) → GrewByFront before new piece
    → GrewByFront t new (all_of (texts_of vs))
front_vector t before new vs i v piece within is same told front =
    front_of_whole t before new (all_of (texts_of (take i vs))) v.items
    (all_of (texts_of (drop (i + 1) vs))) (all_of (texts_of vs)) told
    (subst (λ (p : List ℕ). GrewByFront before new p) same front) (vectors_split vs i v within is)

-- ---- behind an acknowledgement

pub front_acknowledged : (a : Bool) (t before new : Option (List ℕ)) (texts : List (List ℕ))
    → before ≡ grown t (all_of (acknowledgement a)) → GrewByFront before new (all_of texts)
    → GrewByFront t new (all_of (acknowledgement a ++ texts))
front_acknowledged a t before new texts told front =
    front_of_whole t before new (all_of (acknowledgement a)) (all_of texts) []
    (all_of (acknowledgement a ++ texts)) told front
    (all_of-append (acknowledgement a) texts
    ∙ ap (λ (l : List ℕ). all_of (acknowledgement a) ++ l) (sym (append-nil (all_of texts))))
