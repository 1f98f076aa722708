-- The posts of a round, one after the other.
use Rattle.std.proofs.Common.{◌≡◌, ◌<◌, ◌∙◌, ℕ, ◌+◌, eqb, true, false}
use Rattle.std.proofs.Common.{List, [], ◌∷◌, ◌++◌, length, take, map, Some, refl, ap}
use Rattle.std.specs.List.{filter, slice_get}
use Rattle.std.proofs.lemmas.List.{take_more, map-append, append-nil}
use Rattle.std.proofs.lemmas.List.Elements.{filter-append}
use Rattle.std.proofs.lemmas.Option.{get_or_from_slice_get}
use Rattle.dos_world.specs.declared.Post.{Post}
use Rattle.dos_io.specs.Given.{posts_in}

one_more : (posts : List (ℕ × Post)) (i : ℕ) (x : ℕ × Post) → i < length posts
    → slice_get posts i ≡ Some x → take (i + 1) posts ≡ take i posts ++ x ∷ []
one_more posts i x lt e = take_more posts i x lt
    ∙ ap (λ (y : ℕ × Post). take i posts ++ y ∷ []) (get_or_from_slice_get posts i x x e)

in_more : (posts : List (ℕ × Post)) (i round : ℕ) (x : ℕ × Post) → i < length posts
    → slice_get posts i ≡ Some x
    → posts_in (take (i + 1) posts) round ≡ posts_in (take i posts) round ++ map
    (λ (p : ℕ × Post). p.1) (filter (λ (p : ℕ × Post). eqb p.0 round) (x ∷ []))
in_more posts i round x lt e =
    ap (λ (ps : List (ℕ × Post)). posts_in ps round) (one_more posts i x lt e)
    ∙ ap (map (λ (p : ℕ × Post). p.1)) (filter-append (λ (p : ℕ × Post). eqb p.0 round)
    (take i posts) (x ∷ []))
    ∙ map-append (λ (p : ℕ × Post). p.1) (filter (λ (p : ℕ × Post). eqb p.0 round) (take i posts))
    (filter (λ (p : ℕ × Post). eqb p.0 round) (x ∷ []))

pub in_that_round : (posts : List (ℕ × Post)) (i round : ℕ) (x : ℕ × Post) → i < length posts
    → slice_get posts i ≡ Some x → eqb x.0 round ≡ true
    → posts_in (take (i + 1) posts) round ≡ posts_in (take i posts) round ++ x.1 ∷ []
in_that_round posts i round x lt e is = in_more posts i round x lt e ∙ rw is refl

pub in_another : (posts : List (ℕ × Post)) (i round : ℕ) (x : ℕ × Post) → i < length posts
    → slice_get posts i ≡ Some x → eqb x.0 round ≡ false
    → posts_in (take (i + 1) posts) round ≡ posts_in (take i posts) round
in_another posts i round x lt e is = in_more posts i round x lt e ∙ rw is (append-nil _)
