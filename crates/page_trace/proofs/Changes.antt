-- Changes of owners, as their frames are marked anew one after another.
use Rattle.std.proofs.Common.{◌≡◌, ◌≢◌, ℕ, zero, suc, ◌+◌, ◌<◌, ◌≤◌, Bool, true, false}
use Rattle.std.proofs.Common.{List, [], ◌∷◌, ◌++◌, length, refl, sym, ap, ◌∙◌, arith}
use Rattle.std.proofs.Common.{append-nil, append_assoc, Option, eq-eqb, eqb-true}
use Rattle.std.specs.Prelude.{slice_index_or, slice_set, ◌==◌, if◌then◌else◌}
use Rattle.std.proofs.lemmas.List.Concat.{flat_map-append}
use Rattle.dos_world.specs.declared.Owner.{Owner}
use Rattle.dos_world.specs.declared.Owner.TheVariants.{Free, Shared, Of}
use Rattle.dos_io.specs.Outside.{GrewByFront, Rose, grown}
use Rattle.dos_io.proofs.OutsideLaws.{grown-nothing, grown_more}
use Rattle.dos_texts.proofs.Pieces.{front_of_whole}
use Rattle.page_store.specs.Store.{IsFirstChanged}
use Rattle.page_trace.specs.Lines.{change_line, change_lines}
use Rattle.page_trace.specs.Trace.{Change, change_at, changes, changes_from, same_owner}

pub owner_itself : (o : Owner) → same_owner o o ≡ true
owner_itself Free = refl
owner_itself Shared = refl
owner_itself (Of t) = eq-eqb t t refl

-- who is another isn't the same
pub owner_other : (a b : Owner) → a ≢ b → same_owner a b ≡ false
owner_other Free Free differs = absurd (differs refl)
owner_other Free Shared differs = refl
owner_other Free (Of u) differs = refl
owner_other Shared Free differs = refl
owner_other Shared Shared differs = absurd (differs refl)
owner_other Shared (Of u) differs = refl
owner_other (Of t) Free differs = refl
owner_other (Of t) Shared differs = refl
owner_other (Of t) (Of u) differs = by (t == u) refl
  where
    by : (b : Bool) → (t == u) ≡ b → (t == u) ≡ false
    by true is = absurd (differs (ap (λ n. Of n) (eqb-true t u is)))
    by false is = is

pub lines_more : (xs ys : List Change)
    → change_lines (xs ++ ys) ≡ change_lines xs ++ change_lines ys
lines_more xs ys = flat_map-append change_line xs ys

-- ---- changes

-- a frame that has its owner has no change
none_here : (number k : ℕ) (a b : Owner) → a ≡ b → change_at number k a b ≡ []
none_here number k a b is = ap (λ (o : Owner). change_at number k o b) is
    ∙ ap (λ (same : Bool). if same then [] else
    record { round = number; frame = k; before = b; after = b } ∷ []) (owner_itself b)

-- and where all have theirs there is none
none_at_all : (number k : ℕ) (owners : List Owner) → changes_from number k owners owners ≡ []
none_at_all number k [] = refl
none_at_all number k (o ∷ owners) =
    ap (λ (cs : List Change). cs ++ changes_from number (suc k) owners owners)
    (none_here number k o o refl) ∙ none_at_all number (suc k) owners

-- The first change, and then those that are left where its frame is marked anew.
first_change : (number k f : ℕ) (marked owners : List Owner) → f < length marked
    → f < length owners
    → ((i : ℕ) → i < f → slice_index_or marked i Free ≡ slice_index_or owners i Free)
    → changes_from number k marked owners
    ≡ change_at number (k + f) (slice_index_or marked f Free) (slice_index_or owners f Free)
    ++ changes_from number k (slice_set marked f (slice_index_or owners f Free)) owners
first_change number k f [] owners lt within below = absurd (omega arith)
first_change number k f (a ∷ marked) [] lt within below = absurd (omega arith)
first_change number k zero (a ∷ marked) (b ∷ owners) lt within below =
    let n : k ≡ k + 0 = omega arith in
    ap (λ (m : ℕ). change_at number m a b ++ changes_from number (suc k) marked owners) n
    ∙ ap (λ (cs : List Change). change_at number (k + 0) a b
    ++ (cs ++ changes_from number (suc k) marked owners)) (sym (none_here number k b b refl))
first_change number k (suc f) (a ∷ marked) (b ∷ owners) lt within below =
    let here = none_here number k a b (below 0 (omega arith)) in
    let n : suc k + f ≡ k + suc f = omega arith in
    let rest : List Change = changes_from number (suc k)
    (slice_set marked f (slice_index_or owners f Free)) owners in
    ap (λ (cs : List Change). cs ++ changes_from number (suc k) marked owners) here
    ∙ first_change number (suc k) f marked owners (omega arith) (omega arith)
    (λ i low. below (suc i) (omega arith))
    ∙ ap (λ (m : ℕ). change_at number m (slice_index_or marked f Free)
    (slice_index_or owners f Free) ++ rest) n
    ∙ ap (λ (cs : List Change). change_at number (k + suc f) (slice_index_or marked f Free)
    (slice_index_or owners f Free) ++ (cs ++ rest)) (sym here)

module _ (number f : ℕ) (marked owners : List Owner) (level : length marked ≡ length owners)
    (first : IsFirstChanged marked owners f) where
  -- the owners that are marked when this frame is
  abbrev next : List Owner
  next = slice_set marked f (slice_index_or owners f Free)

  -- its change
  abbrev this : List Change
  this = change_at number f (slice_index_or marked f Free) (slice_index_or owners f Free)

  pub changes_next : changes number marked owners ≡ this ++ changes number next owners
  changes_next =
      let n : 0 + f ≡ f = omega arith in
      first_change number 0 f marked owners (omega (arith, level, first.within)) first.within
      first.below
      ∙ ap (λ (m : ℕ). change_at number m (slice_index_or marked f Free)
      (slice_index_or owners f Free) ++ changes number next owners) n

  -- it is one
  this_is : this ≡ record {
    round = number;
    frame = f;
    before = slice_index_or marked f Free;
    after = slice_index_or owners f Free;
  } ∷ []
  this_is = ap (λ (same : Bool). if same then [] else record {
    round = number;
    frame = f;
    before = slice_index_or marked f Free;
    after = slice_index_or owners f Free;
  } ∷ []) (owner_other (slice_index_or marked f Free) (slice_index_or owners f Free)
      first.differs)

  pub line_is : change_line (record {
    round = number;
    frame = f;
    before = slice_index_or marked f Free;
    after = slice_index_or owners f Free;
  }) ≡ change_lines this
  line_is = sym (append-nil _) ∙ sym (ap change_lines this_is)

  -- so fewer are left
  pub fewer_left : length (changes number next owners) < length (changes number marked owners)
  fewer_left =
      let all : length (changes number marked owners) ≡ suc (length (changes number next owners)) =
      ap length changes_next
      ∙ ap (λ (cs : List Change). length (cs ++ changes number next owners)) this_is in
      omega (arith, all)

-- ---- how far the lines of a round have come

-- The lines so far, and those that are left, are those of all the changes of the round.
pub record PutSoFar (number : ℕ) (old marked owners : List Owner) (told now : Option (List ℕ)) :
    Type 0 where
  pub lines : List ℕ
  pub told_is : now ≡ grown told lines
  pub whole : change_lines (changes number old owners)
      ≡ lines ++ change_lines (changes number marked owners)

pub put_none : (number : ℕ) (old owners : List Owner) (told : Option (List ℕ))
    → PutSoFar number old old owners told told
put_none number old owners told = record {
  lines = [];
  told_is = grown-nothing told;
  whole = refl;
}

module _ (number : ℕ) (old marked owners : List Owner) (told now : Option (List ℕ))
    (so_far : PutSoFar number old marked owners told now) where
  module _ (f : ℕ) (level : length marked ≡ length owners)
      (first : IsFirstChanged marked owners f) where
    -- the next line, and then those that are left
    left : change_lines (changes number marked owners)
        ≡ change_lines (this number f marked owners level first)
        ++ change_lines (changes number (next number f marked owners level first) owners)
    left = ap change_lines (changes_next number f marked owners level first)
        ∙ lines_more (this number f marked owners level first)
        (changes number (next number f marked owners level first) owners)

    pub put_more : (after : Option (List ℕ))
        → after ≡ grown now (change_lines (this number f marked owners level first))
        → PutSoFar number old (next number f marked owners level first) owners told after
    put_more after put = record {
      lines = so_far.lines ++ change_lines (this number f marked owners level first);
      told_is = grown_more told now after so_far.lines
          (change_lines (this number f marked owners level first)) so_far.told_is put;
      whole = so_far.whole ∙ ap (λ (xs : List ℕ). so_far.lines ++ xs) left
          ∙ sym (append_assoc so_far.lines
          (change_lines (this number f marked owners level first))
          (change_lines (changes number (next number f marked owners level first) owners)));
    }

    -- where the next line fails, a front of all is put
    pub put_front : (after : Option (List ℕ))
        → GrewByFront now after (change_lines (this number f marked owners level first))
        → GrewByFront told after (change_lines (changes number old owners))
    put_front after front =
        front_of_whole told now after so_far.lines
        (change_lines (this number f marked owners level first))
        (change_lines (changes number (next number f marked owners level first) owners))
        (change_lines (changes number old owners)) so_far.told_is front
        (so_far.whole ∙ ap (λ (xs : List ℕ). so_far.lines ++ xs) left)

  -- and where none is left, all are
  pub put_all : marked ≡ owners → now ≡ grown told (change_lines (changes number old owners))
  put_all is = so_far.told_is
      ∙ ap (grown told) (sym (so_far.whole
      ∙ ap (λ (os : List Owner). so_far.lines ++ change_lines (changes number os owners)) is
      ∙ ap (λ (cs : List Change). so_far.lines ++ change_lines cs) (none_at_all number 0 owners)
      ∙ append-nil so_far.lines))

-- ---- counts

pub rose_later : (first mid last : ℕ) → first ≤ mid → Rose mid last → Rose first last
rose_later first mid last later rose = omega (arith, later, rose)
