-- One frame more that is read out.
use Rattle.std.proofs.Common.{◌≡◌, ◌≢◌, ℕ, zero, suc, ◌+◌, ◌<◌, List, [], ◌∷◌, ◌++◌, map, length}
use Rattle.std.proofs.Common.{drop, get_or, set, sym, ap, subst, ◌∙◌, arith, Option, Some}
use Rattle.std.proofs.Common.{None, append_assoc}
use Rattle.std.specs.Prelude.{All, IsSome}
use Rattle.std.proofs.lemmas.List.{drop-set-lt, map-append}
use Rattle.std.proofs.lemmas.List.Elements.{All-head, All-tail}
use Rattle.dos_world.specs.declared.Owner.{Owner}
use Rattle.page_store.specs.Store.{shown}
use Rattle.group_text.specs.Groups.{page_if_used}
use Rattle.group_text.specs.Records.{frame_of_record}
use Rattle.group_text.specs.declared.records.FrameRecord.{FrameRecord}
use Rattle.group_parts.specs.FrameLists.{framed}

abbrev IsHome : Option (List ℕ) → Type 0
IsHome o = IsSome o

-- what is home from a place on stands there
home_at : (pages : List (Option (List ℕ))) (i : ℕ) → All IsSome (drop i pages)
    → i < length pages → IsSome (get_or pages i None)
home_at [] i home lt = absurd (omega arith)
home_at (p ∷ pages) zero home lt = All-head IsHome p pages home
home_at (p ∷ pages) (suc i) home lt = home_at pages i home (omega arith)

pub is_home : (pages : List (Option (List ℕ))) (i : ℕ) → All IsSome (drop i pages)
    → i < length pages → get_or pages i None ≢ None
is_home pages i home lt none = let some : IsSome (get_or pages i None) = home_at pages i home lt in
    let both : IsSome {T = List ℕ} None = subst IsHome none some in cc

-- the others stay home
home_after : (pages : List (Option (List ℕ))) (i : ℕ) → All IsSome (drop i pages)
    → All IsSome (drop (suc i) pages)
home_after [] zero home = home
home_after [] (suc i) home = home
home_after (p ∷ pages) zero home = All-tail IsHome p pages home
home_after (p ∷ pages) (suc i) home = home_after pages i home

module _ (pages : List (Option (List ℕ))) (i : ℕ) {new : List (Option (List ℕ))}
    (taken : new ≡ set pages i None) where
  rest_stays : drop (i + 1) new ≡ drop (i + 1) pages
  rest_stays = ap (λ ps. drop (i + 1) ps) taken ∙ drop-set-lt (i + 1) pages i None (omega arith)

  pub rest_home : All IsSome (drop i pages) → All IsSome (drop (i + 1) new)
  rest_home home = subst (λ ps. All IsHome ps) (sym rest_stays)
      (subst (λ n. All IsHome (drop n pages)) {x = suc i} {y = i + 1} (omega arith)
      (home_after pages i home))

framed_at : (pages : List (Option (List ℕ))) (owners : List Owner) (i : ℕ) (page : List ℕ)
    (d : Owner) → get_or pages i None ≡ Some page → i < length owners
    → framed (drop i pages) (drop i owners)
    ≡ (get_or owners i d, page_if_used (get_or owners i d) (shown (Some page)))
    ∷ framed (drop (suc i) pages) (drop (suc i) owners)
framed_at [] owners i page d is lt = cc
framed_at (p ∷ pages) [] i page d is lt = absurd (omega arith)
framed_at (p ∷ pages) (o ∷ owners) zero page d is lt =
    ap (λ (q : Option (List ℕ)). (o, page_if_used o (shown q)) ∷ framed pages owners) is
framed_at (p ∷ pages) (o ∷ owners) (suc i) page d is lt =
    framed_at pages owners i page d is (omega arith)

-- what is read out and what is left are the whole
pub frame_more : (pages : List (Option (List ℕ))) (owners : List Owner) (i : ℕ) (page : List ℕ)
    (d : Owner) (old : List FrameRecord) {new : List FrameRecord} {left : List (Option (List ℕ))}
    {whole : List (Owner × List ℕ)}
    → get_or pages i None ≡ Some page → i < length owners → left ≡ set pages i None
    → new ≡ old ++ (record { owner = get_or owners i d; page = page }) ∷ []
    → map frame_of_record old ++ framed (drop i pages) (drop i owners) ≡ whole
    → map frame_of_record new ++ framed (drop (i + 1) left) (drop (i + 1) owners) ≡ whole
frame_more pages owners i page d old {new} {left} is lt taken pushed so_far =
    let r : FrameRecord = record { owner = get_or owners i d; page = page } in
    ap (λ rs. map frame_of_record rs ++ framed (drop (i + 1) left) (drop (i + 1) owners)) pushed
    ∙ ap (λ ps. map frame_of_record (old ++ r ∷ []) ++ framed ps (drop (i + 1) owners))
    (rest_stays pages i taken)
    ∙ ap (λ n. map frame_of_record (old ++ r ∷ []) ++ framed (drop n pages) (drop n owners))
    {x = i + 1} {y = suc i} (omega arith)
    ∙ ap (λ fs. fs ++ framed (drop (suc i) pages) (drop (suc i) owners))
    (map-append frame_of_record old (r ∷ []))
    ∙ append_assoc (map frame_of_record old) (frame_of_record r ∷ [])
    (framed (drop (suc i) pages) (drop (suc i) owners))
    ∙ ap (λ fs. map frame_of_record old ++ fs) (sym (framed_at pages owners i page d is lt))
    ∙ so_far
