-- Posts read one after the other.
use Rattle.std.proofs.Common.{◌≡◌, ◌∙◌, ℕ, cond, false, leb, List, ◌∷◌, ◌++◌}
use Rattle.std.proofs.Common.{length, Option, Some, None, refl, ap, arith}
use Rattle.std.specs.Prelude.{option_and_then, ◌+◌}
use Rattle.std.proofs.lemmas.Bool.{lt-leb}
use Rattle.dos_world.specs.declared.Post.{Post}
use Rattle.dos_words.specs.Numbers.{Text, comma, parts_by, posts_in_all}
use Rattle.dos_words.proofs.Parts.{one_at_least}

abbrev pub RoundPosts : Type 0
RoundPosts = List (ℕ × Post)

-- with these in front
abbrev after : RoundPosts → RoundPosts → Option RoundPosts
after posts more = Some (posts ++ more)

-- what is asked for by the posts so far and the items that are left
abbrev pub posts_and : RoundPosts → List Text → Option RoundPosts
posts_and posts items =
    cond (leb (length posts + length items) 32) (option_and_then (after posts) (posts_in_all items))
    None

-- an item more than 32
too_many : (posts : RoundPosts) (item : Text) (items : List Text) → length posts ≡ 32
    → posts_and posts (item ∷ items) ≡ None
too_many posts item items full =
    let over : leb (length posts + length (item ∷ items)) 32 ≡ false =
    lt-leb _ _ (omega (arith, full)) in
    rw over refl

pub items_too_many : (posts : RoundPosts) (text : Text) → length posts ≡ 32
    → posts_and posts (parts_by comma text) ≡ None
items_too_many posts text full = let some = one_at_least comma text in
    ap (posts_and posts) some.are ∙ too_many posts some.first some.others full
