-- A new record with its links: the last child of its parent.
use Rattle.std.proofs.Common.{◌≡◌, ◌≢◌, ℕ, ◌+◌, ◌<◌, ◌≤◌, true, false, List, [], ◌∷◌, ◌++◌, length}
use Rattle.std.proofs.Common.{inl}
use Rattle.std.proofs.Common.{inr, refl, sym, ap, ◌∙◌, subst, arith, length-append}
use Rattle.std.specs.Prelude.{◌&&◌, ◌==◌, not}
use Rattle.std.proofs.lemmas.Bool.{cases_eq, cases_order}
use Rattle.dos_world.specs.Numbered.{numbered}
use Rattle.proc_table.specs.declared.record.Kept.{Kept}
use Rattle.proc_table.specs.declared.record.Links.{Links}
use Rattle.proc_table.specs.declared.record.Record.{Record}
use Rattle.proc_table.specs.Places.{is_collected}
use Rattle.proc_table.specs.Links.{AreLinked, AreLinkedBy, IsLinkable, is_child_at, is_uncollected}
use Rattle.proc_table.specs.Links.{links_at, next_in, no_links, passes, previous_in}
use Rattle.proc_table.specs.Links.{with_child_linked}
use Rattle.proc_table.specs.Links.{with_link}
use Rattle.proc_table.proofs.Grown.{grown}
use Rattle.proc_table.proofs.Moved.{at_last, before_last, beyond, child_to, family}
use Rattle.proc_table.proofs.Ways.{alike, back, is_at, links_of, not_at, on}
use Rattle.proc_table.proofs.Family.{link_length, link_next, link_previous}

-- an element of a list that gets one more
same_but_last : {A : Type 0} (xs : List A) (x : A) (n : ℕ) → n ≢ length xs + 1
    → numbered (xs ++ x ∷ []) n ≡ numbered xs n
same_but_last xs x n apart = elim (cases_order n (length xs + 1)) [
  | inl e ↦ absurd (apart e)
  | inr (inl below) ↦ before_last xs x n (omega arith)
  | inr (inr above) ↦ beyond (xs ++ x ∷ []) n (omega (arith, length-append xs (x ∷ [])))
      ∙ sym (beyond xs n (omega arith))
]

-- the links of a new number, before and after they are tied to others
module _ (L : List Links) (p c : ℕ) (number : c ≡ length L + 1) (within : p ≤ length L)
    (room : length L < 65535) (last : previous_in L p 65536 ≤ length L) where
  abbrev pushed : List Links
  pushed = L ++ no_links ∷ []

  pushed_length : length pushed ≡ length L + 1
  pushed_length = length-append L (no_links ∷ [])

  pub first_linkable : (M : List Links) → M ≡ pushed
      → IsLinkable (length M) p (previous_in L p 65536) c
  first_linkable M e =
      let grows : length M ≡ length L + 1 = ap (λ (K : List Links). length K) e ∙ pushed_length in
      record {
        parent_within = omega arith;
        before_within = λ some. omega arith;
        after_from = λ some. omega arith;
        after_low = λ some. omega arith;
        after_within = λ some low. omega arith;
      }

  tied_length : length (with_link pushed p (previous_in L p 65536) c) ≡ length L + 1
  tied_length = link_length pushed p (previous_in L p 65536) c (first_linkable pushed refl)
      ∙ pushed_length

  pub second_linkable : (M : List Links) → M ≡ with_link pushed p (previous_in L p 65536) c
      → IsLinkable (length M) p c 65536
  second_linkable M e =
      let grows : length M ≡ length L + 1 = ap (λ (K : List Links). length K) e ∙ tied_length in
      record {
        parent_within = omega arith;
        before_within = λ some. omega arith;
        after_from = λ some. omega arith;
        after_low = λ some. omega arith;
        after_within = λ some low. absurd (omega arith);
      }

  pub child_length : length (with_child_linked L p c) ≡ length L + 1
  unfolding with_child_linked
  child_length = link_length (with_link pushed p (previous_in L p 65536) c) p c 65536
      (second_linkable (with_link pushed p (previous_in L p 65536) c) refl) ∙ tied_length

  old_links : (n : ℕ) → n ≢ c → links_at pushed n ≡ links_at L n
  old_links n apart = ap links_of (same_but_last L no_links n (λ e. apart (e ∙ sym number)))

  new_links : links_at pushed c ≡ no_links
  new_links = ap links_of (at_last L no_links c number)

module _ (R : List Record) (L : List Links) (few : length R ≤ 65535) (count : length L ≡ length R)
    (linked : AreLinked R L) (p : ℕ) (kept : Kept) (uncollected : is_collected kept ≡ false)
    (within : p ≤ length R) (room : length R < 65535) where
  pub last_within : previous_in L p 65536 ≤ length L
  last_within = elim (cases_eq p 0) [
    | inl e ↦ omega (arith, ap (λ k. (links_at L k).last) e)
    | inr apart ↦ elim (linked.before p 65536 (omega arith) within (inl refl)).0 [
      | inl z ↦ omega arith
      | inr t ↦ omega (arith, child_to R p (previous_in L p 65536) t)
    ]
  ]

  pub added_linked : (c : ℕ) → c ≡ length L + 1
      → AreLinked (R ++ (record { parent = p; kept = kept }) ∷ []) (with_child_linked L p c)
  unfolding with_child_linked
  added_linked c number =
      let r : Record = record { parent = p; kept = kept } in
      let new : List Record = R ++ r ∷ [] in
      let L1 : List Links = L ++ no_links ∷ [] in
      let L2 : List Links = with_link L1 p (previous_in L p 65536) c in
      let L3 : List Links = with_link L2 p c 65536 in
      subst (λ n. AreLinkedBy n (is_child_at new) (next_in L3) (previous_in L3))
      (omega (arith, length-append R (r ∷ [])))
      (grown (length R) (is_child_at R) (family R few) (next_in L) (previous_in L) linked
      (is_child_at new) (next_in L1) (next_in L2) (next_in L3) (previous_in L1) (previous_in L2)
      (previous_in L3) p c (omega arith) (omega arith) within
      (λ q n apart. ap (passes (is_uncollected q))
      (same_but_last R r n (λ e. apart (omega arith))))
      (ap (passes (is_uncollected p)) (at_last R r c (omega arith))
      ∙ ap (λ k. (p == p) && not k) uncollected ∙ ap (λ t. t && true) (is_at p p refl))
      (λ q apart. ap (passes (is_uncollected q)) (at_last R r c (omega arith))
      ∙ ap (λ k. (p == q) && not k) uncollected
      ∙ ap (λ t. t && true) (not_at p q (λ e. apart (sym e))))
      (λ q n qc nc. alike on L L1 q n
      (ap (λ (l : Links). l.first) (old_links L p c number low small last_within q qc))
      (ap (λ (l : Links). l.next) (old_links L p c number low small last_within n nc)))
      (ap (λ (l : Links). l.first) (new_links L p c number low small last_within))
      (λ q n qc nc. alike back L L1 q n
      (ap (λ (l : Links). l.last) (old_links L p c number low small last_within q qc))
      (ap (λ (l : Links). l.previous) (old_links L p c number low small last_within n nc)))
      (ap (λ (l : Links). l.last) (new_links L p c number low small last_within))
      (λ e. ap (λ k. (links_at L k).last) e)
      (link_next L1 p (previous_in L p 65536) c
      (first_linkable L p c number low small last_within L1 refl))
      (link_previous L1 p (previous_in L p 65536) c
      (first_linkable L p c number low small last_within L1 refl))
      (link_next L2 p c 65536 (second_linkable L p c number low small last_within L2 refl))
      (link_previous L2 p c 65536 (second_linkable L p c number low small last_within L2 refl)))
    where
      low : p ≤ length L
      low = omega arith

      small : length L < 65535
      small = omega arith
