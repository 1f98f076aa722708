-- What opening one page after another comes to.
use Rattle.std.proofs.Common.{ℕ, suc, ◌+◌, ◌*◌, ◌<◌, ◌≤◌, ◌≡◌, refl, sym, ap, ◌∙◌, subst, List, []}
use Rattle.std.proofs.Common.{◌∷◌, ◌++◌, length, replicate, All, arith}
use Rattle.std.proofs.lemmas.List.{append-nil, append_assoc, flat_map_more, length-append}
use Rattle.std.proofs.lemmas.List.{length-replicate, length_push, replicate_more}
use Rattle.std.proofs.lemmas.List.{replicate-append-replicate}
use Rattle.std.proofs.lemmas.List.Elements.{All-cons, All-head, All-nil, All-tail}
use Rattle.std.specs.Prelude.{flat_map}
use Rattle.dos_world.specs.Numbered.{map_from}
use Rattle.elf_image.specs.Image.{Image}
use Rattle.flat_machine.specs.Opening.{page_bytes, part_entry, stack_entry}
use Rattle.dos_world.specs.declared.Entry.{Entry}
use Rattle.dos_world.specs.Kernel.{with_entry, zero_page}
use Rattle.dos_world.specs.declared.Owner.{Owner}
use Rattle.dos_world.specs.declared.Owner.TheVariants.{Of}
use Rattle.page_store.specs.Store.{Store}
use Rattle.proc_table.specs.Tables.{Tables, held_by}
use Rattle.group_open.specs.Filling.{HasPlace, HasFrames, IsFilled, Opens, OpensParts, OpensStack}
use Rattle.group_open.specs.Filling.{TakesFrame, with_entries_more}
use Rattle.group_open.proofs.FillingLaws.{fill_next, frame_is, takes_count}
use Rattle.group_open.proofs.HeldLaws.{entry_is_more, more_twice, opens_nothing}

-- nothing yet
pub opens_none : (s : Store) (t : Tables) (p : ℕ) (entries : ℕ → List (ℕ × Entry)) (bytes : List ℕ)
    (owners : List Owner) → ((n : ℕ) → entries n ≡ []) → bytes ≡ [] → owners ≡ []
    → Opens s s t t p entries bytes owners
opens_none s t p entries bytes owners no_entry no_byte no_owner = record {
  count = refl;
  fills = λ b o f.
      subst (λ (bs : List ℕ). IsFilled s (b ++ bs) (o ++ owners)) (sym no_byte)
      (subst (λ (os : List Owner). IsFilled s (b ++ []) (o ++ os)) (sym no_owner)
      (subst (λ (bs : List ℕ). IsFilled s bs (o ++ [])) (sym (append-nil b))
      (subst (λ (os : List Owner). IsFilled s b os) (sym (append-nil o)) f)));
  maps = λ b o f. opens_nothing t p
      ∙ ap (λ es. held_by (with_entries_more es) t p) (sym (no_entry (length o)));
}

-- one page: the entry of the frame that was taken
pub opens_one : (s new : Store) (t u : Tables) (p tid page frame more : ℕ) (entry : Entry)
    (entries : ℕ → ℕ × Entry) (shows : List ℕ)
    → TakesFrame s new tid frame shows → HasPlace t p page more → u
    ≡ held_by (with_entry page entry) t p
    → entries frame ≡ (page, entry) → Opens s new t u p (λ n. entries n ∷ []) shows (Of tid ∷ [])
opens_one s new t u p tid page frame more entry entries shows takes place put is = record {
  count = takes_count s new tid frame shows takes;
  fills = λ b o f. fill_next s new tid frame shows b o f takes;
  maps = λ b o f.
      put ∙ entry_is_more t p page entry more place
      ∙ ap (λ e. held_by (with_entries_more (e ∷ [])) t p) (sym is)
      ∙ ap (λ n. held_by (with_entries_more (entries n ∷ [])) t p)
      (frame_is s frame b o f takes.lowest);
}

-- what was opened first and what was opened then, as one
pub opens_more : (s m new : Store) (t u v : Tables) (p : ℕ) (first second : ℕ → List (ℕ × Entry))
    (bytes later : List ℕ) (owners others : List Owner)
    → Opens s m t u p first bytes owners → Opens m new u v p second later others
    → Opens s new t v p (λ n. first n ++ second (n + length owners)) (bytes ++ later)
    (owners ++ others)
opens_more s m new t u v p first second bytes later owners others a b = record {
  count = b.count ∙ a.count;
  fills = λ bs os f.
      subst (λ (xs : List ℕ). IsFilled new xs (os ++ (owners ++ others)))
      (append_assoc bs bytes later)
      (subst (λ (xs : List Owner). IsFilled new (bs ++ bytes ++ later) xs)
      (append_assoc os owners others)
      (b.fills (bs ++ bytes) (os ++ owners) (a.fills bs os f)));
  maps = λ bs os f.
      b.maps (bs ++ bytes) (os ++ owners) (a.fills bs os f)
      ∙ ap (λ w. held_by (with_entries_more (second (length (os ++ owners)))) w p) (a.maps bs os f)
      ∙ more_twice (first (length os)) (second (length (os ++ owners))) t p
      ∙ ap (λ n. held_by (with_entries_more (first (length os) ++ second n)) t p)
      (length-append os owners);
}

-- the same under other names
pub opens_as : (s new : Store) (t u : Tables) (p : ℕ) (entries entries' : ℕ → List (ℕ × Entry))
    (bytes bytes' : List ℕ) (owners owners' : List Owner)
    → ((n : ℕ) → entries n ≡ entries' n) → bytes ≡ bytes' → owners ≡ owners'
    → Opens s new t u p entries bytes owners → Opens s new t u p entries' bytes' owners'
opens_as s new t u p entries entries' bytes bytes' owners owners' same_entries same_bytes
    same_owners o = record {
      count = o.count;
      fills = λ bs os f.
          subst (λ (xs : List ℕ). IsFilled new (bs ++ xs) (os ++ owners')) same_bytes
          (subst (λ (xs : List Owner). IsFilled new (bs ++ bytes) (os ++ xs)) same_owners
          (o.fills bs os f));
      maps = λ bs os f. o.maps bs os f
          ∙ ap (λ es. held_by (with_entries_more es) t p) (same_entries (length os));
    }

-- the room that is left
pub room_after : (s new : Store) (t u : Tables) (p n left : ℕ) (entries : ℕ → List (ℕ × Entry))
    (bytes : List ℕ) (owners : List Owner) → HasFrames s n
    → Opens s new t u p entries bytes owners → length owners + left ≤ n → HasFrames new left
room_after s new t u p n left entries bytes owners h o fits =
    let room = h.room in
    record {
      bytes = h.bytes ++ bytes;
      owners = h.owners ++ owners;
      filled = o.fills h.bytes h.owners h.filled;
      room = omega (arith, length-append h.owners owners, o.count);
    }

pub less_room : (s : Store) (n less : ℕ) → HasFrames s n → less ≤ n → HasFrames s less
less_room s n less h fits = let room = h.room in
    record { bytes = h.bytes; owners = h.owners; filled = h.filled; room = omega arith }

-- ---- pages in order

pub map_from_push : {A B : Type 0} (n : ℕ) (f : ℕ → A → B) (xs : List A) (x : A)
    → map_from n f xs ++ f (n + length xs) x ∷ [] ≡ map_from n f (xs ++ x ∷ [])
map_from_push n f [] x = ap (λ k. f k x ∷ []) (omega arith)
map_from_push n f (y ∷ ys) x =
    ap (λ zs. f n y ∷ zs)
    (ap (λ k. map_from (suc n) f ys ++ f k x ∷ []) (omega arith) ∙ map_from_push (suc n) f ys x)

-- as many owners as pages, and one more
owners_push : (tid : ℕ) (xs : List ℕ) (x : ℕ)
    → replicate (length xs) (Of tid) ++ Of tid ∷ [] ≡ replicate (length (xs ++ x ∷ [])) (Of tid)
owners_push tid xs x = replicate_more (length xs) (Of tid)
    ∙ ap (λ n. replicate n (Of tid)) (sym (length_push xs x))

-- the entries of one page more
entries_push : (f : ℕ → ℕ → ℕ × Entry) (tid n page : ℕ) (xs : List ℕ)
    → map_from n f xs ++ f (n + length (replicate (length xs) (Of tid))) page
    ∷ [] ≡ map_from n f (xs ++ page ∷ [])
entries_push f tid n page xs =
    ap (λ k. map_from n f xs ++ f (n + k) page ∷ []) (length-replicate (length xs) (Of tid))
    ∙ map_from_push n f xs page

pub parts_none : (s : Store) (t : Tables) (p tid : ℕ) (image : Image) (pages : List ℕ) → pages ≡ []
    → OpensParts s s t t p tid image pages
parts_none s t p tid image pages none =
    subst (λ (ps : List ℕ). OpensParts s s t t p tid image ps) (sym none)
    (opens_none s t p (λ n. []) [] [] (λ n. refl) refl refl)

pub parts_more : (s m new : Store) (t u v : Tables) (p tid page : ℕ) (image : Image) (xs : List ℕ)
    → OpensParts s m t u p tid image xs
    → Opens m new u v p (λ n. part_entry image n page ∷ []) (page_bytes image page) (Of tid ∷ [])
    → OpensParts s new t v p tid image (xs ++ page ∷ [])
parts_more s m new t u v p tid page image xs a b =
    opens_as s new t v p _ _ _ _ _ _
    (λ n. entries_push (part_entry image) tid n page xs)
    (flat_map_more (page_bytes image) [] xs page)
    (owners_push tid xs page)
    (opens_more s m new t u v p (λ n. map_from n (part_entry image) xs)
    (λ n. part_entry image n page ∷ []) (flat_map (page_bytes image) xs)
    (page_bytes image page) (replicate (length xs) (Of tid)) (Of tid ∷ []) a b)

pub stack_none : (s : Store) (t : Tables) (p tid : ℕ) → OpensStack s s t t p tid []
stack_none s t p tid = opens_none s t p (λ n. []) [] [] (λ n. refl) refl refl

pub stack_more : (s m new : Store) (t u v : Tables) (p tid page : ℕ) (xs : List ℕ)
    → OpensStack s m t u p tid xs
    → Opens m new u v p (λ n. stack_entry n page ∷ []) zero_page (Of tid ∷ [])
    → OpensStack s new t v p tid (xs ++ page ∷ [])
unfolding zero_page
stack_more s m new t u v p tid page xs a b =
    opens_as s new t v p _ _ _ _ _ _
    (λ n. entries_push stack_entry tid n page xs)
    (replicate-append-replicate (4096 * length xs) 4096 0
    ∙ ap (λ n. replicate n 0) (omega (arith, length_push xs page)))
    (owners_push tid xs page)
    (opens_more s m new t u v p (λ n. map_from n stack_entry xs) (λ n. stack_entry n page ∷ [])
    (replicate (4096 * length xs) 0) zero_page (replicate (length xs) (Of tid))
    (Of tid ∷ []) a b)

-- entries of pages below a bound are below it
pub entries_below : (f : ℕ → ℕ → ℕ × Entry) (bound : ℕ) → ((n page : ℕ) → (f n page).0 ≡ page)
    → (n : ℕ) (xs : List ℕ) → All (λ page. page < bound) xs
    → All (λ e. e.0 < bound) (map_from n f xs)
entries_below f bound keeps n [] below = All-nil (λ e. e.0 < bound)
entries_below f bound keeps n (x ∷ xs) below =
    let first : x < bound = All-head (λ page. page < bound) x xs below in
    All-cons (λ e. e.0 < bound) (f n x) (map_from (suc n) f xs) (omega (arith, keeps n x))
    (entries_below f bound keeps (suc n) xs (All-tail (λ page. page < bound) x xs below))
