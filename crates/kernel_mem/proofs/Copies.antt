-- Entries copied one after another.
use Rattle.std.proofs.Common.{◌≡◌, ℕ, zero, suc, ◌+◌, ◌<◌, ◌≤◌, Bool, true, false, cond, inl, inr}
use Rattle.std.proofs.Common.{List, [], ◌∷◌, length, get_or, set, take, slice_get, Option, Some}
use Rattle.std.proofs.Common.{None, unwrap_or, IsSome, option_map, length-set, get_or-set_same}
use Rattle.std.proofs.Common.{get_or-set_other, refl, sym, ap, subst, ◌∙◌, arith}
use Rattle.std.specs.Prelude.{◌==◌, not, position, count_by, All, nat_lt, slice_set}
use Rattle.std.proofs.lemmas.Bool.{cases_eq, ne_eqb}
use Rattle.std.proofs.lemmas.Bool.Decides.{nat_tests}
use Rattle.std.proofs.lemmas.List.Elements.{All-set}
use Rattle.std.proofs.lemmas.List.Quantifiers.{position-Some}
use Rattle.std.proofs.lemmas.Option.{get_or_from_slice_get}
use Rattle.std.proofs.lemmas.List.Sums.{count_by_more_no, count_by_more_yes, sum_by-cons}
use Rattle.std.proofs.lemmas.List.Sums.{sum_by-take-drop}
use Rattle.dos_world.specs.declared.Owner.{Owner}
use Rattle.dos_world.specs.declared.Owner.TheVariants.{Free, Of}
use Rattle.dos_world.specs.declared.Entry.{Entry}
use Rattle.dos_world.specs.World.{World, is_free, page_of}
use Rattle.dos_world.specs.Reach.{with_page}
use Rattle.dos_world.specs.Kernel.{with_fresh, lowest_free_frame}
use Rattle.dos_world.specs.ProcessCalls.{private_entries}
use Rattle.page_store.specs.Store.{Store, IsCopied, joined, shown, owner_at, with_use_more}
use Rattle.page_store.proofs.Joined.{joined-set, page_of-joined, home-at}
use Rattle.page_store.proofs.Counts.{owned-within, count_by-taken, position_more}
use Rattle.proc_table.specs.Tables.{Tables}
use Rattle.kernel_mem.specs.MemoryWorld.{in_world, HasAllHome}
use Rattle.kernel_mem.specs.Forking.{entry_copied, IsUsedMore, taken_by}
use Rattle.kernel_mem.proofs.Dropping.{no_entry}

-- ---- one use more

one_more : (uses : List ℕ) (n f : ℕ) → n < length uses
    → get_or (set uses n (get_or uses n 0 + 1)) f 0 ≡ get_or uses f 0 + cond (n == f) 1 0
one_more uses n f h = elim (cases_eq f n) [
  | inl same ↦ let is : (n == f) ≡ true = grind (arith, nat_tests) in
      ap (λ k. get_or (set uses n (get_or uses n 0 + 1)) k 0) same
      ∙ get_or-set_same uses n (get_or uses n 0 + 1) 0 h
      ∙ ap (λ k. get_or uses k 0 + 1) (sym same)
      ∙ ap (λ b. get_or uses f 0 + cond b 1 0) (sym is)
  | inr other ↦ get_or-set_other uses n f (get_or uses n 0 + 1) 0 other
      ∙ omega (arith, ap (λ b. cond {A = ℕ} b 1 0) (ne_eqb n f (λ e. other (sym e))))
]

pub first_use : (uses : List ℕ) (n f : ℕ) → n < length uses → get_or uses n 0 ≡ 0
    → get_or (set uses n 1) f 0 ≡ get_or uses f 0 + cond (n == f) 1 0
first_use uses n f h none = ap (λ v. get_or (set uses n (v + 1)) f 0) (sym none)
    ∙ one_more uses n f h

pub more-shared : (s : Store) (n : ℕ) → HasAllHome s → n < length s.uses
    → IsUsedMore s n (with_use_more s n)
more-shared s n home within =
    record {
      home = record { home = home.home; owners = home.owners };
      frames = record { count = refl; marked = refl };
      uses =
          λ f. one_more s.uses n f within;
      taken = λ f h. h;
    }

owned-stays : (owners : List Owner) (n f t : ℕ) → is_free (get_or owners f Free) ≡ false
    → is_free (get_or (set owners n (Of t)) f Free) ≡ false
owned-stays [] n f t h = h
owned-stays (x ∷ owners) zero zero t h = refl
owned-stays (x ∷ owners) zero (suc f) t h = h
owned-stays (x ∷ owners) (suc n) zero t h = h
owned-stays (x ∷ owners) (suc n) (suc f) t h = owned-stays owners n f t h

pub more-copied : (s new : Store) (from n t : ℕ) → HasAllHome s → IsCopied s from n t new
    → IsUsedMore s n new
more-copied s new from n t home c = record {
  home = record {
    home = subst (λ (ps : List (Option (List ℕ))). All IsSome ps) (sym c.pages.pages_are)
        (All-set IsSome s.pages n (Some c.pages.page) refl home.home);
    owners = ap length c.owners ∙ length-set s.owners n (Of t) ∙ home.owners
        ∙ sym (length-set s.pages n (Some c.pages.page)) ∙ ap length (sym c.pages.pages_are);
  };
  frames = record {
    count = ap length c.owners ∙ length-set s.owners n (Of t);
    marked = c.marked;
  };
  uses = λ f. ap (λ us. get_or us f 0) c.uses ∙ first_use s.uses n f c.within c.unused;
  taken = λ f h. subst (λ (os : List Owner). is_free (get_or os f Free) ≡ false) (sym c.owners)
      (owned-stays s.owners n f t h);
}

-- ---- the world of a copy

pub copied-private : (w : World) (s new : Store) (T : Tables) (t n : ℕ) (e : Entry)
    → e.shared ≡ false → HasAllHome s → is_free (owner_at s e.frame) ≡ false
    → Some n ≡ position is_free s.owners → IsCopied s e.frame n t new
    → entry_copied (in_world w s T) t e ≡ (in_world w new T, record e { frame = n })
copied-private w s new T t n e private home taken found c =
    let lowest : unwrap_or (position is_free s.owners) 0 ≡ n =
    ap (λ o. unwrap_or o 0) (sym found) in
    ap (λ b. by b) private
    ∙ ap (λ k. fresh (with_page (joined s.pages) k (page_of (joined s.pages) e.frame))
    (slice_set s.owners k (Of t)) k) lowest
    ∙ ap (λ bytes. fresh bytes (slice_set s.owners n (Of t)) n) bytes
    ∙ ap (λ owners. fresh (joined new.pages) owners n) (sym c.owners)
  where
    fresh : List ℕ → List Owner → ℕ → World × Entry
    fresh bytes owners k =
        (record (in_world w s T) { bytes = bytes; owners = owners }, record e { frame = k })

    by : Bool → World × Entry
    by b = (
      cond b (in_world w s T)
          (with_fresh (in_world w s T) t (page_of (joined s.pages) e.frame)),
      cond b e (record e { frame = lowest_free_frame (in_world w s T) }),
    )

    source : (page : List ℕ) × (slice_get s.pages e.frame ≡ Some (Some page))
    source = home-at s.pages e.frame home.home
        (omega (arith, home.owners, owned-within s.owners e.frame taken))

    there : n < length s.pages
    there = omega (arith, home.owners, (position-Some is_free s.owners n Free (sym found)).0)

    bytes : with_page (joined s.pages) n (page_of (joined s.pages) e.frame) ≡ joined new.pages
    bytes =
        ap (with_page (joined s.pages) n)
        (page_of-joined s.pages e.frame (Some source.0) source.1
        ∙ ap shown
        (sym (get_or_from_slice_get s.pages e.frame (Some source.0) None source.1))
        ∙ sym c.pages.bytes)
        ∙ sym (joined-set s.pages n (Some c.pages.page) there) ∙ ap joined (sym c.pages.pages_are)

-- ---- how many are taken

pub fewer-free : (s new : Store) (from n t : ℕ) → Some n ≡ position is_free s.owners
    → IsCopied s from n t new → count_by is_free new.owners + 1 ≡ count_by is_free s.owners
fewer-free s new from n t found c =
    let at = position-Some is_free s.owners n Free (sym found) in
    ap (λ os. count_by is_free os + 1) c.owners ∙ count_by-taken s.owners n (Of t) at.0 at.1 refl

none-free : (owners : List Owner) → position is_free owners ≡ None → count_by is_free owners ≡ 0
none-free [] e = refl
none-free (x ∷ owners) e = by (none-free owners) (is_free x) refl
  where
    none_before : (o : Option ℕ) → option_map (λ i. 1 + i) o ≡ None → o ≡ None
    none_before None e = refl
    none_before (Some i) e = cc

    by : (position is_free owners ≡ None → count_by is_free owners ≡ 0) → (b : Bool) → is_free x ≡ b
        → count_by is_free (x ∷ owners) ≡ 0
    by rest true q = absurd (let some : nat_lt 0 (suc (length owners)) ≡ true =
        grind (arith, nat_tests) in let first : position is_free (x ∷ owners) ≡ Some 0 =
        rw q (ap (λ b. cond {A = Option ℕ} b (Some 0) None) some) in cc)
    by rest false q = omega (
      arith,
      sum_by-cons (λ y. cond (is_free y) 1 0) x owners,
      ap (λ b. cond {A = ℕ} b 1 0) q,
      rest (none_before (position is_free owners) (sym (position_more x owners q) ∙ e)),
    )

pub some-free : (owners : List Owner) → 0 < count_by is_free owners → None ≡ position is_free owners
    → ⊥
some-free owners some none = omega (arith, none-free owners (sym none))

-- ---- entries that are private

pub private-more : (es : List (ℕ × Entry)) (i : ℕ) (e : ℕ × Entry) → i < length es
    → get_or es i no_entry ≡ e
    → private_entries (take (i + 1) es) ≡ private_entries (take i es) + taken_by e.1
private-more es i e h q = by (not e.1.shared) refl
  where
    by : (b : Bool) → not e.1.shared ≡ b
        → private_entries (take (i + 1) es)
        ≡ private_entries (take i es) + cond (not e.1.shared) 1 0
    by true t = count_by_more_yes (λ (x : ℕ × Entry). not x.1.shared) es i no_entry h
        (ap (λ (x : ℕ × Entry). not x.1.shared) q ∙ t)
        ∙ ap (λ b. private_entries (take i es) + cond b 1 0) (sym t)
    by false t = count_by_more_no (λ (x : ℕ × Entry). not x.1.shared) es i no_entry h
        (ap (λ (x : ℕ × Entry). not x.1.shared) q ∙ t)
        ∙ omega (arith, ap (λ b. cond {A = ℕ} b 1 0) t)

pub one-private : (e : Entry) → e.shared ≡ false → taken_by e ≡ 1
one-private e private = ap (λ b. cond (not b) 1 0) private

pub taken-one : (e : Entry) → taken_by e ≤ 1
taken-one e = by (not e.shared)
  where
    by : (b : Bool) → cond {A = ℕ} b 1 0 ≤ 1
    by true = omega arith
    by false = omega arith

-- an entry that is still to be copied takes of what is left
pub private-left : (es : List (ℕ × Entry)) (i : ℕ) (e : ℕ × Entry) → i < length es
    → get_or es i no_entry ≡ e → private_entries (take i es) + taken_by e.1 ≤ private_entries es
private-left es i e h q =
    omega (
      arith,
      private-more es i e h q,
      sum_by-take-drop (λ (x : ℕ × Entry). cond {A = ℕ} (not x.1.shared) 1 0) es (i + 1),
    )
