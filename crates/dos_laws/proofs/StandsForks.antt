-- The service fork keeps a world standing: the child's private pages get fresh frames, and its
-- shared pages the same. 4.
use Rattle.std.proofs.Common.{ℕ, ◌+◌, ◌*◌, ◌<◌, ◌≤◌, ◌≡◌, ◌≢◌, ◌⊎◌, inl, inr, refl, sym, ap, ◌∙◌}
use Rattle.std.proofs.Common.{subst, Bool, true, false, cond, not, List, [], ◌∷◌, length, map}
use Rattle.std.proofs.Common.{arith, length-set, eq-eqb}
use Rattle.std.specs.Prelude.{All, IsFalse, ◌==◌, ◌&&◌, count_by, sum_by}
use Rattle.std.proofs.lemmas.Bool.{cases_eq, true≢false, ne_eqb}
use Rattle.std.proofs.lemmas.List.{get_or-set_same, get_or-set_other}
use Rattle.std.proofs.lemmas.List.Sums.{sum_by-cons}
use Rattle.std.proofs.lemmas.List.Elements.{All-nil, All-cons, All-head, All-tail}
use Rattle.dos_world.specs.World.{World, Holdings, owner_of, page_of}
use Rattle.dos_world.specs.Counts.{free_frames, lowest_free_frame}
use Rattle.dos_world.specs.Kernel.{with_fresh}
use Rattle.dos_world.specs.ProcessCalls.{copied_space, private_entries}
use Rattle.dos_world.specs.Lawful.{IsPage, IsByte}
use Rattle.dos_world.specs.declared.Entry.{Entry}
use Rattle.dos_world.specs.declared.Owner.TheVariants.{Free, Of}
use Rattle.dos_laws.proofs.Spaces.{Pairs, OtherFrame, uses_in, uses-cons, used_at}
use Rattle.dos_laws.proofs.StandsFrames.{lowest_is, one_taken, page_bytes, page_is}
use Rattle.dos_laws.proofs.StandsCopies.{IsMoved}
use Rattle.dos_laws.proofs.Zeros.{AreZero, zeros_page}

-- ---- frames that stand once

-- Where no frame is used twice, no frame stands twice, and the other way around.
pub apart_from_uses : (space : List (ℕ × Entry)) → ((frame : ℕ) → uses_in frame space ≤ 1)
    → Pairs OtherFrame space
apart_from_uses [] once = tt
apart_from_uses (e ∷ space) once = (
  used_at (OtherFrame e) space
      (λ x used same. let one : cond {A = ℕ} (e.1.frame == x.1.frame) 1 0 ≡ 1 =
      ap (λ b. cond {A = ℕ} b 1 0) (eq-eqb e.1.frame x.1.frame same) in
      absurd (omega (arith, once x.1.frame, uses-cons x.1.frame e space, one, used))),
  apart_from_uses space (λ frame. omega (arith, once frame, uses-cons frame e space)),
)

pub unused_by : (frame : ℕ) (space : List (ℕ × Entry)) → All (λ e. e.1.frame ≢ frame) space
    → uses_in frame space ≡ 0
unused_by frame [] all = refl
unused_by frame (e ∷ space) all =
    let none : cond {A = ℕ} (e.1.frame == frame) 1 0 ≡ 0 =
    ap (λ b. cond {A = ℕ} b 1 0)
    (ne_eqb e.1.frame frame (All-head (λ x. x.1.frame ≢ frame) e space all)) in
    omega (
      arith,
      uses-cons frame e space,
      none,
      unused_by frame space (All-tail (λ x. x.1.frame ≢ frame) e space all),
    )

pub uses_from_apart : (space : List (ℕ × Entry)) → Pairs OtherFrame space → (frame : ℕ)
    → uses_in frame space ≤ 1
uses_from_apart [] pairs frame = omega arith
uses_from_apart (e ∷ space) pairs frame =
    by_first (cases_eq e.1.frame frame) (uses_from_apart space pairs.1 frame)
  where
    turned : e.1.frame ≡ frame → (xs : List (ℕ × Entry)) → All (OtherFrame e) xs
        → All (λ x. x.1.frame ≢ frame) xs
    turned is [] all = All-nil (λ x. x.1.frame ≢ frame)
    turned is (x ∷ xs) all =
        let first = All-head (OtherFrame e) x xs all in
        All-cons (λ y. y.1.frame ≢ frame) x xs (λ same. first (is ∙ sym same))
        (turned is xs (All-tail (OtherFrame e) x xs all))

    by_first : (e.1.frame ≡ frame) ⊎ (e.1.frame ≡ frame → ⊥) → uses_in frame space ≤ 1
        → uses_in frame (e ∷ space) ≤ 1
    by_first (inl is) rest =
        let one : cond {A = ℕ} (e.1.frame == frame) 1 0 ≡ 1 =
        ap (λ b. cond {A = ℕ} b 1 0) (eq-eqb e.1.frame frame is) in
        omega (arith, uses-cons frame e space, one, unused_by frame space (turned is space pairs.0))
    by_first (inr other) rest =
        let none : cond {A = ℕ} (e.1.frame == frame) 1 0 ≡ 0 =
        ap (λ b. cond {A = ℕ} b 1 0) (ne_eqb e.1.frame frame other) in
        omega (arith, uses-cons frame e space, none, rest)

-- ---- private and shared entries of a frame

abbrev pub privates : ℕ → List (ℕ × Entry) → ℕ
privates frame space = count_by (λ e. (e.1.frame == frame) && not e.1.shared) space

abbrev pub shareds : ℕ → List (ℕ × Entry) → ℕ
shareds frame space = count_by (λ e. (e.1.frame == frame) && e.1.shared) space

privates-cons : (frame : ℕ) (e : ℕ × Entry) (space : List (ℕ × Entry))
    → privates frame (e ∷ space)
    ≡ cond ((e.1.frame == frame) && not e.1.shared) 1 0 + privates frame space
privates-cons frame e space =
    sum_by-cons (λ (x : ℕ × Entry). cond {A = ℕ} ((x.1.frame == frame) && not x.1.shared) 1 0) e
    space

shareds-cons : (frame : ℕ) (e : ℕ × Entry) (space : List (ℕ × Entry))
    → shareds frame (e ∷ space)
    ≡ cond ((e.1.frame == frame) && e.1.shared) 1 0 + shareds frame space
shareds-cons frame e space =
    sum_by-cons (λ (x : ℕ × Entry). cond {A = ℕ} ((x.1.frame == frame) && x.1.shared) 1 0) e space

pub uses_split : (frame : ℕ) (space : List (ℕ × Entry))
    → uses_in frame space ≡ privates frame space + shareds frame space
uses_split frame [] = refl
uses_split frame (e ∷ space) =
    omega (
      arith,
      uses-cons frame e space,
      privates-cons frame e space,
      shareds-cons frame e space,
      uses_split frame space,
      either (e.1.frame == frame) e.1.shared,
    )
  where
    either : (b s : Bool)
        → cond {A = ℕ} b 1 0 ≡ cond {A = ℕ} (b && not s) 1 0 + cond {A = ℕ} (b && s) 1 0
    either true true = refl
    either true false = refl
    either false s = refl

pub sum_split : (frame : ℕ) (hs : List Holdings)
    → sum_by (λ h. uses_in frame h.space) hs ≡ sum_by (λ h. privates frame h.space) hs + sum_by
    (λ h. shareds frame h.space) hs
sum_split frame [] = refl
sum_split frame (h ∷ hs) =
    omega (
      arith,
      sum_by-cons (λ x. uses_in frame x.space) h hs,
      sum_by-cons (λ x. privates frame x.space) h hs,
      sum_by-cons (λ x. shareds frame x.space) h hs,
      uses_split frame h.space,
      sum_split frame hs,
    )

-- ---- the copy of a space

-- what a copy of a space needs
pub record CanCopy (w : World) (space : List (ℕ × Entry)) : Type 0 where
  pub bytes : length w.bytes ≡ 4096 * length w.owners
  pub range : All IsByte w.bytes
  pub room : private_entries space ≤ free_frames w
  pub pages : All (IsPage (length w.owners)) space
  pub used : All (λ e. owner_of w e.1.frame ≢ Free) space
  pub zeros : AreZero w.owners w.bytes

-- what it leaves: of a frame that was taken the owner stays, and the copy has its shared entries; a
-- frame that was Free is Free still and not in the copy, or it is t's and stands there once
pub record IsCopied (w : World) (t : ℕ) (space : List (ℕ × Entry))
    (r : World × List (ℕ × Entry)) : Type 0 where
  pub places : length r.0.owners ≡ length w.owners
  pub count : length r.0.bytes ≡ length w.bytes
  pub range : All IsByte r.0.bytes
  pub numbers : map (λ e. e.0) r.1 ≡ map (λ e. e.0) space
  pub pages : All (IsPage (length w.owners)) r.1
  pub taken : (frame : ℕ) → owner_of w frame ≢ Free
      → (owner_of r.0 frame ≡ owner_of w frame) × (uses_in frame r.1 ≡ shareds frame space)
  pub fresh : (frame : ℕ) → owner_of w frame ≡ Free
      → ((owner_of r.0 frame ≡ Free) × (uses_in frame r.1 ≡ 0))
      ⊎ ((owner_of r.0 frame ≡ Of t) × (uses_in frame r.1 ≡ 1))
  pub private : All (λ e. IsFalse e.1.shared → owner_of w e.1.frame ≡ Free) r.1
  pub zeros : AreZero r.0.owners r.0.bytes

private_entries-cons : (e : ℕ × Entry) (space : List (ℕ × Entry))
    → private_entries (e ∷ space) ≡ cond (not e.1.shared) 1 0 + private_entries space
private_entries-cons e space =
    sum_by-cons (λ (x : ℕ × Entry). cond {A = ℕ} (not x.1.shared) 1 0) e space

Of≢Free : {t : ℕ} → Of t ≡ Free → ⊥
Of≢Free e = cc

module _ (w : World) (t : ℕ) (e : ℕ × Entry) (space : List (ℕ × Entry))
    (can : CanCopy w (e ∷ space)) where
  -- a shared entry stays
  copied_shared : e.1.shared ≡ true → (r : World × List (ℕ × Entry)) → IsCopied w t space r
      → IsCopied w t (e ∷ space) (r.0, (e.0, e.1) ∷ r.1)
  copied_shared is r k = record {
    places = k.places;
    count = k.count;
    range = k.range;
    numbers = ap (λ ns. e.0 ∷ ns) k.numbers;
    pages =
        All-cons (IsPage (length w.owners)) (e.0, e.1) r.1
        (All-head (IsPage (length w.owners)) e space can.pages) k.pages;
    taken = λ frame not_free.
        let was = k.taken frame not_free in (
          was.0,
          omega (
            arith,
            uses-cons frame (e.0, e.1) r.1,
            shareds-cons frame e space,
            was.1,
            both frame,
          ),
        );
    fresh = λ frame free. by_case frame free (k.fresh frame free);
    private =
        All-cons (λ x. IsFalse x.1.shared → owner_of w x.1.frame ≡ Free) (e.0, e.1) r.1
        (λ private. absurd (true≢false (sym is ∙ private))) k.private;
    zeros = k.zeros;
  }
    where
      both : (frame : ℕ)
          → cond {A = ℕ} ((e.1.frame == frame) && e.1.shared) 1 0
          ≡ cond {A = ℕ} (e.1.frame == frame) 1 0
      both frame =
          ap (λ s. cond {A = ℕ} ((e.1.frame == frame) && s) 1 0) is ∙ same (e.1.frame == frame)
        where
          same : (b : Bool) → cond {A = ℕ} (b && true) 1 0 ≡ cond {A = ℕ} b 1 0
          same true = refl
          same false = refl

      another : (frame : ℕ) → owner_of w frame ≡ Free → cond {A = ℕ} (e.1.frame == frame) 1 0 ≡ 0
      another frame free =
          ap (λ b. cond {A = ℕ} b 1 0)
          (ne_eqb e.1.frame frame
          (λ same. All-head (λ x. owner_of w x.1.frame ≢ Free) e space can.used
          (ap (owner_of w) same ∙ free)))

      by_case : (frame : ℕ) → owner_of w frame ≡ Free
          → ((owner_of r.0 frame ≡ Free) × (uses_in frame r.1 ≡ 0))
          ⊎ ((owner_of r.0 frame ≡ Of t) × (uses_in frame r.1 ≡ 1))
          → ((owner_of r.0 frame ≡ Free) × (uses_in frame ((e.0, e.1) ∷ r.1) ≡ 0))
          ⊎ ((owner_of r.0 frame ≡ Of t) × (uses_in frame ((e.0, e.1) ∷ r.1) ≡ 1))
      by_case frame free (inl none) =
          inl (none.0, omega (arith, uses-cons frame (e.0, e.1) r.1, another frame free, none.1))
      by_case frame free (inr one) =
          inr (one.0, omega (arith, uses-cons frame (e.0, e.1) r.1, another frame free, one.1))

  -- the rest of the space can be copied, too
  can_shared : e.1.shared ≡ true → CanCopy w space
  can_shared is =
      let none : cond {A = ℕ} (not e.1.shared) 1 0 ≡ 0 = ap (λ s. cond {A = ℕ} (not s) 1 0) is in
      record {
        bytes = can.bytes;
        range = can.range;
        room = omega (arith, can.room, private_entries-cons e space, none);
        pages = All-tail (IsPage (length w.owners)) e space can.pages;
        used = All-tail (λ x. owner_of w x.1.frame ≢ Free) e space can.used;
        zeros = can.zeros;
      }

  -- ---- a private entry

  abbrev frame : ℕ
  frame = lowest_free_frame w

  abbrev page : List ℕ
  page = page_of w.bytes e.1.frame

  abbrev u : World
  u = with_fresh w t page

  module _ (is : e.1.shared ≡ false) where
    has_room : 0 < free_frames w
    has_room =
        let one : cond {A = ℕ} (not e.1.shared) 1 0 ≡ 1 = ap (λ s. cond {A = ℕ} (not s) 1 0) is in
        omega (arith, can.room, private_entries-cons e space, one)

    there : (frame < length w.owners) × (owner_of w frame ≡ Free)
    there = lowest_is w.owners has_room

    owner_here : owner_of u frame ≡ Of t
    owner_here = get_or-set_same w.owners frame (Of t) Free there.0

    owner_other : (g : ℕ) → g ≢ frame → owner_of u g ≡ owner_of w g
    owner_other g other = get_or-set_other w.owners frame g (Of t) Free other

    not_frame : (g : ℕ) → owner_of w g ≢ Free → g ≢ frame
    not_frame g taken same = taken (ap (owner_of w) same ∙ there.1)

    page_fits : (length page ≡ 4096) × All IsByte page
    page_fits =
        let in_range = All-head (IsPage (length w.owners)) e space can.pages in
        page_is w.bytes e.1.frame (omega (arith, can.bytes, in_range.2)) can.range

    new_bytes : (length u.bytes ≡ length w.bytes) × All IsByte u.bytes
    new_bytes =
        page_bytes w.bytes frame page page_fits.0 (omega (arith, can.bytes, there.0)) can.range
        page_fits.1

    still_used : (xs : List (ℕ × Entry)) → All (λ x. owner_of w x.1.frame ≢ Free) xs
        → All (λ x. owner_of u x.1.frame ≢ Free) xs
    still_used [] all = All-nil (λ x. owner_of u x.1.frame ≢ Free)
    still_used (x ∷ xs) all =
        let first = All-head (λ y. owner_of w y.1.frame ≢ Free) x xs all in
        All-cons (λ y. owner_of u y.1.frame ≢ Free) x xs
        (λ free. first (sym (owner_other x.1.frame (not_frame x.1.frame first)) ∙ free))
        (still_used xs (All-tail (λ y. owner_of w y.1.frame ≢ Free) x xs all))

    can_private : CanCopy u space
    can_private =
        let one : cond {A = ℕ} (not e.1.shared) 1 0 ≡ 1 = ap (λ s. cond {A = ℕ} (not s) 1 0) is in
        let count : length u.owners ≡ length w.owners = length-set w.owners frame (Of t) in
        record {
          bytes = omega (arith, new_bytes.0, can.bytes, count);
          range = new_bytes.1;
          room =
              omega (
                arith,
                can.room,
                private_entries-cons e space,
                one,
                one_taken w.owners frame t there.0 there.1,
              );
          pages =
              subst (λ n. All (IsPage n) space) (sym count)
              (All-tail (IsPage (length w.owners)) e space can.pages);
          used = still_used space (All-tail (λ x. owner_of w x.1.frame ≢ Free) e space can.used);
          zeros =
              zeros_page w.owners w.bytes frame t page there.0 page_fits.0
              (omega (arith, can.bytes, there.0)) can.zeros;
        }

    abbrev entry : Entry
    entry = record e.1 { frame = frame }

    -- no entry of the space has the new frame
    none_has : (xs : List (ℕ × Entry)) → All (λ x. owner_of w x.1.frame ≢ Free) xs
        → All (λ x. x.1.frame ≢ frame) xs
    none_has [] all = All-nil (λ x. x.1.frame ≢ frame)
    none_has (x ∷ xs) all =
        All-cons (λ y. y.1.frame ≢ frame) x xs
        (not_frame x.1.frame (All-head (λ y. owner_of w y.1.frame ≢ Free) x xs all))
        (none_has xs (All-tail (λ y. owner_of w y.1.frame ≢ Free) x xs all))

    copied_private : (r : World × List (ℕ × Entry)) → IsCopied u t space r
        → IsCopied w t (e ∷ space) (r.0, (e.0, entry) ∷ r.1)
    copied_private r k = record {
      places = k.places ∙ count;
      count = k.count ∙ new_bytes.0;
      range = k.range;
      numbers = ap (λ ns. e.0 ∷ ns) k.numbers;
      pages =
          let in_range = All-head (IsPage (length w.owners)) e space can.pages in
          All-cons (IsPage (length w.owners)) (e.0, entry) r.1 (in_range.0, in_range.1, there.0)
          (subst (λ n. All (IsPage n) r.1) count k.pages);
      taken = λ g not_free. taken_new g not_free;
      fresh = λ g free. by_frame g free (cases_eq g frame);
      private =
          All-cons (λ x. IsFalse x.1.shared → owner_of w x.1.frame ≡ Free) (e.0, entry) r.1
          (λ private. there.1) (was_free r.1 k.private);
      zeros = k.zeros;
    }
      where
        count : length u.owners ≡ length w.owners
        count = length-set w.owners frame (Of t)

        other_none : (g : ℕ) → g ≢ frame → cond {A = ℕ} (frame == g) 1 0 ≡ 0
        other_none g other =
            ap (λ b. cond {A = ℕ} b 1 0) (ne_eqb frame g (λ same. other (sym same)))

        not_shared : (g : ℕ) → cond {A = ℕ} ((e.1.frame == g) && e.1.shared) 1 0 ≡ 0
        not_shared g = ap (λ s. cond {A = ℕ} ((e.1.frame == g) && s) 1 0) is ∙ none (e.1.frame == g)
          where
            none : (b : Bool) → cond {A = ℕ} (b && false) 1 0 ≡ 0
            none true = refl
            none false = refl

        taken_new : (g : ℕ) → owner_of w g ≢ Free
            → (owner_of r.0 g ≡ owner_of w g)
            × (uses_in g ((e.0, entry) ∷ r.1) ≡ shareds g (e ∷ space))
        taken_new g not_free =
            let other = not_frame g not_free in
            let was = k.taken g (λ free. not_free (sym (owner_other g other) ∙ free)) in (
              was.0 ∙ owner_other g other,
              omega (
                arith,
                uses-cons g (e.0, entry) r.1,
                shareds-cons g e space,
                other_none g other,
                not_shared g,
                was.1,
              ),
            )

        by_frame : (g : ℕ) → owner_of w g ≡ Free → (g ≡ frame) ⊎ (g ≡ frame → ⊥)
            → ((owner_of r.0 g ≡ Free) × (uses_in g ((e.0, entry) ∷ r.1) ≡ 0))
            ⊎ ((owner_of r.0 g ≡ Of t) × (uses_in g ((e.0, entry) ∷ r.1) ≡ 1))
        by_frame g free (inl same) =
            let was = k.taken frame (λ none. Of≢Free (sym owner_here ∙ none)) in
            let one : cond {A = ℕ} (frame == g) 1 0 ≡ 1 =
            ap (λ b. cond {A = ℕ} b 1 0) (eq-eqb frame g (sym same)) in
            let uses : uses_in g r.1 ≡ shareds frame space = ap (λ n. uses_in n r.1) same ∙ was.1 in
            let nothing : uses_in frame space ≡ 0 =
            unused_by frame space
            (none_has space (All-tail (λ x. owner_of w x.1.frame ≢ Free) e space can.used)) in
            inr (
              ap (owner_of r.0) same ∙ was.0 ∙ owner_here,
              omega
                  (arith, uses-cons g (e.0, entry) r.1, one, uses, uses_split frame space, nothing),
            )
        by_frame g free (inr other) = by_rest (k.fresh g (owner_other g other ∙ free))
          where
            by_rest :
                ((owner_of r.0 g ≡ Free) × (uses_in g r.1 ≡ 0))
                ⊎ ((owner_of r.0 g ≡ Of t) × (uses_in g r.1 ≡ 1))
                → ((owner_of r.0 g ≡ Free) × (uses_in g ((e.0, entry) ∷ r.1) ≡ 0))
                ⊎ ((owner_of r.0 g ≡ Of t) × (uses_in g ((e.0, entry) ∷ r.1) ≡ 1))
            by_rest (inl none) =
                inl
                (none.0, omega (arith, uses-cons g (e.0, entry) r.1, other_none g other, none.1))
            by_rest (inr one) =
                inr (one.0, omega (arith, uses-cons g (e.0, entry) r.1, other_none g other, one.1))

        was_free : (xs : List (ℕ × Entry))
            → All (λ x. IsFalse x.1.shared → owner_of u x.1.frame ≡ Free) xs
            → All (λ x. IsFalse x.1.shared → owner_of w x.1.frame ≡ Free) xs
        was_free [] all = All-nil (λ x. IsFalse x.1.shared → owner_of w x.1.frame ≡ Free)
        was_free (x ∷ xs) all =
            All-cons (λ y. IsFalse y.1.shared → owner_of w y.1.frame ≡ Free) x xs
            (λ private. before x.1.frame
            (All-head (λ y. IsFalse y.1.shared → owner_of u y.1.frame ≡ Free) x xs all private))
            (was_free xs (All-tail (λ y. IsFalse y.1.shared
            → owner_of u y.1.frame ≡ Free) x xs all))
          where
            before : (g : ℕ) → owner_of u g ≡ Free → owner_of w g ≡ Free
            before g free = by_g (cases_eq g frame)
              where
                by_g : (g ≡ frame) ⊎ (g ≡ frame → ⊥) → owner_of w g ≡ Free
                by_g (inl same) = ap (owner_of w) same ∙ there.1
                by_g (inr other) = sym (owner_other g other) ∙ free

pub copied_is : (w : World) (t : ℕ) (space : List (ℕ × Entry)) → CanCopy w space
    → IsCopied w t space (copied_space w t space)
copied_is w t [] can = record {
  places = refl;
  count = refl;
  range = can.range;
  numbers = refl;
  pages = All-nil (IsPage (length w.owners));
  taken = λ frame not_free. (refl, refl);
  fresh = λ frame free. inl (free, refl);
  private = All-nil (λ e. IsFalse e.1.shared → owner_of w e.1.frame ≡ Free);
  zeros = can.zeros;
}
copied_is w t (e ∷ space) can = by_shared (λ x. copied_is x t space) e.1.shared refl
  where
    by_shared : ((x : World) → CanCopy x space → IsCopied x t space (copied_space x t space))
        → (b : Bool) → e.1.shared ≡ b
        → IsCopied w t (e ∷ space) (
          (copied_space (cond b w (with_fresh w t (page_of w.bytes e.1.frame))) t space).0,
          (e.0, cond b e.1 (record e.1 { frame = lowest_free_frame w }))
              ∷ (copied_space (cond b w (with_fresh w t (page_of w.bytes e.1.frame))) t space).1,
        )
    by_shared rest true is =
        copied_shared w t e space can is (copied_space w t space)
        (rest w (can_shared w t e space can is))
    by_shared rest false is =
        copied_private w t e space can is (copied_space (u w t e space can) t space)
        (rest (u w t e space can) (can_private w t e space can is))

pub copied_space_moved : (w : World) (t : ℕ) (space : List (ℕ × Entry))
    → IsMoved w (copied_space w t space).0
copied_space_moved w t [] = refl
copied_space_moved w t (e ∷ space) = by_shared (λ x. copied_space_moved x t space) e.1.shared
  where
    by_shared : ((x : World) → IsMoved x (copied_space x t space).0) → (b : Bool)
        → IsMoved w (copied_space (cond b w (with_fresh w t (page_of w.bytes e.1.frame))) t space).0
    by_shared rest true = rest w
    by_shared rest false = rest (with_fresh w t (page_of w.bytes e.1.frame))
