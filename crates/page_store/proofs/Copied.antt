-- A page copied into another frame.
use Rattle.std.proofs.Common.{◌≡◌, ◌≢◌, ℕ, zero, suc, true, false, List, [], ◌∷◌}
use Rattle.std.proofs.Common.{◌<◌, length, get_or, set, Option, Some, None, refl, sym, ap, ◌∙◌}
use Rattle.std.specs.Prelude.{position, slice_get}
use Rattle.std.proofs.lemmas.List.{get_or-set_other}
use Rattle.std.proofs.lemmas.List.Quantifiers.{position-Some}
use Rattle.std.proofs.lemmas.Option.{get_or_from_slice_get, slice_get_within}
use Rattle.dos_world.specs.World.{is_free}
use Rattle.dos_world.specs.Reach.{written}
use Rattle.dos_world.specs.declared.Owner.{Owner}
use Rattle.dos_world.specs.declared.Owner.TheVariants.{Free}
use Rattle.page_store.specs.Store.{IsHomeIn, IsPageCopied, shown, whole}
use Rattle.page_store.proofs.Pages.{length-whole}
use Rattle.page_store.proofs.Joined.{written-whole}

set_twice : {A : Type 0} (xs : List A) (i : ℕ) (a b : A) → set (set xs i a) i b ≡ set xs i b
set_twice [] i a b = refl
set_twice (x ∷ xs) zero a b = refl
set_twice (x ∷ xs) (suc i) a b = ap (λ ys. x ∷ ys) (set_twice xs i a b)

-- a page is taken out, gets the bytes of another, and is put back
pub copied-page : (pages : List (Option (List ℕ))) (from to : ℕ) (away here : Option (List ℕ))
    (page new source : List ℕ) → from ≢ to → IsHomeIn pages from
    → here ≡ get_or (set pages to away) from here → here ≡ Some source
    → whole new ≡ written (whole page) 0 (whole source)
    → IsPageCopied pages from to (set (set pages to away) to (Some new))
copied-page pages from to away here page new source apart home read is wrote = record {
  page = new;
  pages_are = set_twice pages to away (Some new);
  bytes = wrote ∙ written-whole (whole page) (whole source)
      (length-whole source ∙ sym (length-whole page))
      ∙ ap shown (sym is ∙ read ∙ get_or-set_other pages to from away here apart
      ∙ get_or_from_slice_get pages from (Some home.0) here home.1
      ∙ sym (get_or_from_slice_get pages from (Some home.0) None home.1));
}

-- what is read of a page that is home
module _ {pages now : List (Option (List ℕ))} (same : pages ≡ now) (frame : ℕ)
    (home : IsHomeIn now frame) where
  here-at : slice_get pages frame ≡ Some (Some home.0)
  here-at = ap (λ ps. slice_get ps frame) same ∙ home.1

  pub home-within : frame < length pages
  home-within = slice_get_within pages frame (Some home.0) here-at

  pub home-read : {x : Option (List ℕ)} → x ≡ get_or pages frame x → x ≡ Some home.0
  home-read {x} read = read ∙ get_or_from_slice_get pages frame (Some home.0) x here-at

-- what isn't Free isn't the lowest that is
pub owned-apart : (owners : List Owner) (from i : ℕ) → is_free (get_or owners from Free) ≡ false
    → position is_free owners ≡ Some i → from ≢ i
owned-apart owners from i owned found e =
    let at = position-Some is_free owners i Free found in
    let free : is_free (get_or owners from Free) ≡ true = ap (λ k. is_free (get_or owners k Free)) e
    ∙ at.1 in
    cc
