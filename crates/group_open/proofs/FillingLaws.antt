-- What taking the lowest Free frame does to frames that are filled from the lowest on.
use Rattle.std.proofs.Common.{ℕ, suc, ◌+◌, ◌-◌, ◌*◌, ◌<◌, ◌≤◌, ◌≡◌, ◌⊎◌, inl, inr, refl, sym, ap}
use Rattle.std.proofs.Common.{◌∙◌, subst, cond, List, [], ◌∷◌, ◌++◌, length, get_or, set, take}
use Rattle.std.proofs.Common.{drop, replicate, slice_get, Option, Some, None, IsSome, All, arith}
use Rattle.std.specs.Prelude.{position, option_map}
use Rattle.std.proofs.lemmas.Bool.{true≢false, lt-ltb, cases_lt}
use Rattle.std.proofs.lemmas.List.Quantifiers.{position-Some}
use Rattle.std.proofs.lemmas.List.{append-nil, append_assoc, length-append, length-replicate}
use Rattle.std.proofs.lemmas.List.{length-set, set-get_or, set_at, take_at, drop_at, drop-replicate}
use Rattle.std.proofs.lemmas.List.{drop-drop, get_or_append_left, get_or-append_right}
use Rattle.std.proofs.lemmas.List.{replicate_more, length_push}
use Rattle.std.proofs.lemmas.List.Elements.{All-append, All-cons, All-nil, All-set}
use Rattle.std.proofs.lemmas.Option.{get_or_from_slice_get}
use Rattle.dos_world.specs.World.{is_free}
use Rattle.dos_world.specs.Kernel.{zero_page}
use Rattle.dos_world.specs.declared.Owner.{Owner}
use Rattle.dos_world.specs.declared.Owner.TheVariants.{Free, Of}
use Rattle.page_store.specs.Store.{Store, whole, shown, joined, with_home, with_owned}
use Rattle.page_store.proofs.Counts.{position-drop}
use Rattle.page_store.proofs.Joined.{joined-set, home-at, zeros-shown}
use Rattle.page_store.proofs.Pages.{length-whole}
use Rattle.group_open.specs.Filling.{IsOwnedBySome, IsFilled, HasFrames, TakesFrame}
use Rattle.group_open.proofs.Runs.{same_everywhere}

some_same : (m n : ℕ) → Some m ≡ Some n → m ≡ n
some_same m n e = cc

-- ---- the lowest Free frame

position_here : (rest : List Owner) → position is_free (Free ∷ rest) ≡ Some 0
position_here rest = ap (λ t. cond t (Some 0) None) (lt-ltb 0 (suc (length rest)) (omega arith))

position_behind : (owners : List Owner) (more n : ℕ) → All IsOwnedBySome owners → more ≡ suc n
    → position is_free (owners ++ replicate more Free) ≡ Some (length owners)
position_behind owners more n taken e =
    let free : List Owner = replicate more Free in
    let first : position is_free (replicate more Free) ≡ Some 0 =
    ap (λ k. position is_free (replicate k Free)) e ∙ position_here (replicate n Free) in
    sym (position-drop (owners ++ free) (length owners) (omega (arith, length-append owners free))
    (λ k lt. ap is_free (get_or_append_left owners free Free k lt) ∙ taken k Free lt))
    ∙ ap (λ xs. option_map (λ i. length owners + i) (position is_free xs))
    (drop_at owners free (length owners) refl)
    ∙ ap (option_map (λ i. length owners + i)) first
    ∙ ap (λ k. Some k) (omega arith)

pub lowest_is : (s : Store) (bytes : List ℕ) (owners : List Owner) → IsFilled s bytes owners
    → length owners + 1 ≤ length s.pages → position is_free s.owners ≡ Some (length owners)
lowest_is s bytes owners f room = ap (position is_free) f.owners_are
    ∙ position_behind owners (length s.pages - length owners)
    (length s.pages - length owners - 1) f.taken (omega arith)

pub has_lowest : (s : Store) → HasFrames s 1 → IsSome (position is_free s.owners)
has_lowest s h = subst IsSome (sym (lowest_is s h.bytes h.owners h.filled h.room)) refl

-- ---- a frame that was taken

-- it is one of those behind the ones that were taken
next_is : (s : Store) (frame : ℕ) → (h : HasFrames s 1) → position is_free s.owners ≡ Some frame
    → frame ≡ length h.owners
next_is s frame h e =
    some_same frame (length h.owners) (sym e ∙ lowest_is s h.bytes h.owners h.filled h.room)

-- its page is home
pub taken_is_home : (s : Store) (frame : ℕ) → HasFrames s 1 → position is_free s.owners ≡ Some frame
    → (page : List ℕ) × (slice_get s.pages frame ≡ Some (Some page))
taken_is_home s frame h e =
    home-at s.pages frame h.filled.home (omega (arith, next_is s frame h e, h.room))

-- and zero
pub zero_shown : (page : List ℕ) (s : Store) (frame : ℕ) → HasFrames s 1
    → position is_free s.owners ≡ Some frame → slice_get s.pages frame ≡ Some (Some page)
    → whole page ≡ zero_page
zero_shown page s frame h e got =
    ap shown (sym (get_or_from_slice_get s.pages frame (Some page) None got))
    ∙ zeros-shown s.pages frame (omega (arith, next_is s frame h e, h.room))
    (λ offset low.
    let behind : 4096 * length h.owners ≤ 4096 * frame + offset =
    omega (arith, next_is s frame h e) in
    ap (λ bytes. get_or bytes (4096 * frame + offset) 0) h.filled.bytes_are
    ∙ get_or-append_right h.bytes
    (replicate (4096 * (length s.pages - length h.owners)) 0) (4096 * length h.owners)
    (4096 * frame + offset) 0 h.filled.sized behind
    ∙ same_everywhere (4096 * (length s.pages - length h.owners))
    (4096 * frame + offset - 4096 * length h.owners) 0)

-- one value more in front of those that are left
set_next : {A : Type 0} (xs : List A) (more : ℕ) (d x : A)
    → set (xs ++ replicate (suc more) d) (length xs) x ≡ (xs ++ x ∷ []) ++ replicate more d
set_next xs more d x = set_at xs d (replicate more d) x (length xs) refl
    ∙ sym (append_assoc xs (x ∷ []) (replicate more d))

module _ (s : Store) (t frame : ℕ) (page bytes : List ℕ) (owners : List Owner)
    (f : IsFilled s bytes owners) (room : length owners + 1 ≤ length s.pages)
    (is : frame ≡ length owners) where
  pages_are : (with_home (with_owned s frame t) frame page).pages
      ≡ set s.pages (length owners) (Some page)
  pages_are = ap (λ k. set s.pages k (Some page)) is

  count_is : length (with_home (with_owned s frame t) frame page).pages ≡ length s.pages
  count_is = ap length pages_are ∙ length-set s.pages (length owners) (Some page)

  left_is : (n : ℕ) → n ≡ length (with_home (with_owned s frame t) frame page).pages - length
      (owners ++ Of t ∷ []) → length s.pages - length owners ≡ suc n
  left_is n e = omega (arith, count_is, length_push owners (Of t))

  next_owners : (n : ℕ) → length s.pages - length owners ≡ suc n
      → (with_home (with_owned s frame t) frame page).owners ≡ (owners ++ Of t ∷ [])
      ++ replicate n Free
  next_owners n e =
      ap (λ xs. set xs frame (Of t)) (f.owners_are ∙ ap (λ k. owners ++ replicate k Free) e)
      ∙ ap (λ k. set (owners ++ replicate (suc n) Free) k (Of t)) is ∙ set_next owners n Free (Of t)

  next_uses : (n : ℕ) → length s.pages - length owners ≡ suc n
      → (with_home (with_owned s frame t) frame page).uses
      ≡ replicate (length (owners ++ Of t ∷ [])) 1 ++ replicate n 0
  next_uses n e =
      ap (λ xs. set xs frame 1)
      (f.uses_are ∙ ap (λ k. replicate (length owners) 1 ++ replicate k 0) e)
      ∙ ap (λ k. set (replicate (length owners) 1 ++ replicate (suc n) 0) k 1)
      (is ∙ sym (length-replicate (length owners) 1))
      ∙ set_next (replicate (length owners) 1) n 0 1
      ∙ ap (λ xs. xs ++ replicate n 0)
      (replicate_more (length owners) 1
      ∙ ap (λ k. replicate k 1) (sym (length_push owners (Of t))))

  next_bytes : (n : ℕ) → length s.pages - length owners ≡ suc n
      → joined (with_home (with_owned s frame t) frame page).pages ≡ (bytes ++ whole page)
      ++ replicate (4096 * n) 0
  next_bytes n e =
      let zeros : List ℕ = replicate (4096 * (length s.pages - length owners)) 0 in
      let size = f.sized in
      ap joined pages_are
      ∙ joined-set s.pages (length owners) (Some page) (omega arith)
      ∙ ap (λ xs. (take (4096 * length owners) xs ++ whole page)
      ++ drop (4096 * length owners + 4096) xs) f.bytes_are
      ∙ ap (λ xs. (xs ++ whole page) ++ drop (4096 * length owners + 4096) (bytes ++ zeros))
      (take_at bytes zeros (4096 * length owners) size)
      ∙ ap (λ xs. (bytes ++ whole page) ++ xs)
      (sym (drop-drop 4096 (4096 * length owners) (bytes ++ zeros))
      ∙ ap (drop 4096) (drop_at bytes zeros (4096 * length owners) size)
      ∙ drop-replicate 4096 (4096 * (length s.pages - length owners)) 0
      ∙ ap (λ k. replicate k 0) (omega arith))

  next_filled : (n : ℕ) → n ≡ length (with_home (with_owned s frame t) frame page).pages - length
      (owners ++ Of t ∷ [])
      → IsFilled (with_home (with_owned s frame t) frame page) (bytes ++ whole page)
      (owners ++ Of t ∷ [])
  next_filled n e =
      let more = left_is n e in
      record {
        home = All-set IsSome s.pages frame (Some page) refl f.home;
        within = omega (arith, count_is, length_push owners (Of t), room);
        sized = omega (
          arith,
          length-append bytes (whole page),
          length-whole page,
          f.sized,
          length_push owners (Of t),
        );
        taken = All-append IsOwnedBySome owners (Of t ∷ []) f.taken
            (All-cons IsOwnedBySome (Of t) [] refl (All-nil IsOwnedBySome));
        bytes_are = next_bytes n more ∙ ap (λ k. (bytes ++ whole page) ++ replicate (4096 * k) 0) e;
        owners_are = next_owners n more ∙ ap (λ k. (owners ++ Of t ∷ []) ++ replicate k Free) e;
        uses_are = next_uses n more
            ∙ ap (λ k. replicate (length (owners ++ Of t ∷ [])) 1 ++ replicate k 0) e;
        unmarked = f.unmarked;
      }

-- where a frame is Free, another may be taken
room_from_lowest : (s : Store) (frame : ℕ) (bytes : List ℕ) (owners : List Owner)
    → IsFilled s bytes owners → position is_free s.owners ≡ Some frame
    → length owners + 1 ≤ length s.pages
room_from_lowest s frame bytes owners f e = go (cases_lt (length owners) (length s.pages))
  where
    go : (length owners < length s.pages) ⊎ (length s.pages ≤ length owners)
        → length owners + 1 ≤ length s.pages
    go (inl room) = omega arith
    go (inr full) =
        let found = position-Some is_free s.owners frame Free e in
        let none : length s.pages - length owners ≡ 0 = omega arith in
        let all : s.owners ≡ owners = f.owners_are ∙ ap (λ k. owners ++ replicate k Free) none
        ∙ append-nil owners in
        let within : frame < length owners = omega (arith, found.0, ap length all) in
        absurd (true≢false
        (sym found.1 ∙ ap (λ xs. is_free (get_or xs frame Free)) all
        ∙ f.taken frame Free within))

pub frame_is : (s : Store) (frame : ℕ) (bytes : List ℕ) (owners : List Owner)
    → IsFilled s bytes owners → position is_free s.owners ≡ Some frame → frame ≡ length owners
frame_is s frame bytes owners f e =
    some_same frame (length owners)
    (sym e ∙ lowest_is s bytes owners f (room_from_lowest s frame bytes owners f e))

pub fill_next : (s new : Store) (t frame : ℕ) (shows bytes : List ℕ) (owners : List Owner)
    → IsFilled s bytes owners → TakesFrame s new t frame shows
    → IsFilled new (bytes ++ shows) (owners ++ Of t ∷ [])
fill_next s new t frame shows bytes owners f takes =
    let filled = next_filled s t frame takes.page bytes owners f
    (room_from_lowest s frame bytes owners f takes.lowest)
    (frame_is s frame bytes owners f takes.lowest) _ refl in
    subst (λ (n : Store). IsFilled n (bytes ++ shows) (owners ++ Of t ∷ [])) (sym takes.becomes)
    (subst (λ (b : List ℕ). IsFilled (with_home (with_owned s frame t) frame takes.page)
    (bytes ++ b) (owners ++ Of t ∷ [])) takes.shows filled)

pub takes_count : (s new : Store) (t frame : ℕ) (shows : List ℕ) → TakesFrame s new t frame shows
    → length new.pages ≡ length s.pages
takes_count s new t frame shows takes = ap (λ (n : Store). length n.pages) takes.becomes
    ∙ length-set s.pages frame (Some takes.page)

-- the taken frame, with the zero page that it has
pub takes_zero : (s new : Store) (t frame : ℕ) → HasFrames s 1
    → position is_free s.owners ≡ Some frame → new ≡ with_owned s frame t
    → TakesFrame s new t frame zero_page
takes_zero s new t frame h e becomes =
    let home = taken_is_home s frame h e in
    record {
      lowest = e;
      page = home.0;
      shows = zero_shown home.0 s frame h e home.1;
      becomes = becomes ∙ ap (λ (ps : List (Option (List ℕ))). record (with_owned s frame t) {
        pages =
            ps;
      }) (sym (ap (set s.pages frame)
          (sym (get_or_from_slice_get s.pages frame (Some home.0) None home.1))
          ∙ set-get_or s.pages frame None));
    }
