-- The records of processes with their links: what is linked stays so with a new record, a collected
-- child and the end of a process.
use Rattle.std.proofs.Common.{◌≡◌, ◌≢◌, ◌⊎◌, ℕ, ◌<◌, ◌≤◌, Bool, true, false, cond, List, map}
use Rattle.std.proofs.Common.{length, Option, Some, None, option_map, option_and_then, IsSome, inl}
use Rattle.std.proofs.Common.{inr, refl, sym, ap, ◌∙◌, subst, arith}
use Rattle.std.specs.Prelude.{not, ◌&&◌, ◌==◌}
use Rattle.std.proofs.lemmas.Bool.{cases_eq, cases_order}
use Rattle.std.proofs.lemmas.Bool.Decides.{nat_tests}
use Rattle.dos_world.specs.Numbered.{numbered, changed}
use Rattle.proc_table.specs.declared.record.Kept.{Kept}
use Rattle.proc_table.specs.declared.record.Kept.TheVariants.{Live, Ended}
use Rattle.proc_table.specs.declared.record.Links.{Links}
use Rattle.proc_table.specs.declared.record.Record.{Record}
use Rattle.proc_table.specs.Places.{is_collected, kept_as, orphan_record, place_in, place_of_record}
use Rattle.proc_table.specs.Links.{AreLinked, AreLinkedBy, IsLinkable, IsNext, childless}
use Rattle.proc_table.specs.Links.{is_child_at, is_uncollected, next_in, passes}
use Rattle.proc_table.specs.Links.{previous_in, with_link, with_next, with_previous}
use Rattle.proc_table.proofs.Lengths.{changed_length, mapped_length}
use Rattle.proc_table.proofs.Linked.{IsMoved, childless_linked, linked_same, true_false, unlinked}
use Rattle.proc_table.proofs.Moved.{child_to, elsewhere, family, here, mapped}
use Rattle.proc_table.proofs.Ways.{alike, back, field_stays, is_at, leading, leading_length}
use Rattle.proc_table.proofs.Ways.{links_elsewhere, links_here, moved, not_at, on, others_stay}

-- ---- one child after another

module _ (L : List Links) (p a b : ℕ) (can : IsLinkable (length L) p a b) where
  -- the way on is written first, and then the way back
  abbrev onward : List Links
  onward = leading on L p a b

  abbrev both : List Links
  both = leading back onward p b a

  onward_length : length onward ≡ length L
  onward_length = leading_length on L p a b

  link_cases : (P : List Links → Type 0) → (p ≡ 0 → P L) → (0 < p → P both)
      → P (with_link L p a b)
  unfolding with_link with_next with_previous
  link_cases P none some = elim (cases_eq p 0) [
    | inl e ↦ subst (λ t. P (cond t L both)) (sym (is_at p 0 e)) (none e)
    | inr apart ↦ subst (λ t. P (cond t L both)) (sym (not_at p 0 apart)) (some (omega arith))
  ]

  pub link_next : IsMoved 0 p a b (next_in L) (next_in (with_link L p a b))
  link_next = link_cases (λ M. IsMoved 0 p a b (next_in L) (next_in M))
      (λ e. record {
        here = λ some. absurd (omega arith);
        heads = λ q other. refl;
        others = λ q n apart. refl;
      })
      (λ some.
      let first = moved on L p a b some can.parent_within
      (λ apart. (omega arith, can.before_within some)) in
      let same : (q n : ℕ) → next_in both q n ≡ next_in onward q n =
      λ q n. alike on onward both q n
      (others_stay back onward p b a (λ l. l.first) (λ l. refl) (λ l. refl) q)
      (others_stay back onward p b a (λ l. l.next) (λ l. refl) (λ l. refl) n) in
      record {
        here = λ is. same p a ∙ first.here is;
        heads = λ q other. same q 0 ∙ first.heads q other;
        others = λ q n apart. same q n ∙ first.others q n apart;
      })

  pub link_previous : IsMoved 65536 p b a (previous_in L) (previous_in (with_link L p a b))
  link_previous = link_cases (λ M. IsMoved 65536 p b a (previous_in L) (previous_in M))
      (λ e. record {
        here = λ some. absurd (omega arith);
        heads = λ q other. refl;
        others = λ q n apart. refl;
      })
      (λ some.
      let second = moved back onward p b a some (omega (arith, onward_length, can.parent_within))
      (λ apart. (
        can.after_from some,
        omega (arith, onward_length, can.after_within some (omega (arith, can.after_low some))),
      )) in
      let same : (q n : ℕ) → previous_in onward q n ≡ previous_in L q n =
      λ q n. alike back L onward q n
      (others_stay on L p a b (λ l. l.last) (λ l. refl) (λ l. refl) q)
      (others_stay on L p a b (λ l. l.previous) (λ l. refl) (λ l. refl) n) in
      record {
        here = second.here;
        heads = λ q other. second.heads q other ∙ same q 65536;
        others = λ q n apart. second.others q n apart ∙ same q n;
      })

  pub link_length : length (with_link L p a b) ≡ length L
  link_length = link_cases (λ M. length M ≡ length L) (λ e. refl)
      (λ some. leading_length back onward p b a ∙ onward_length)

-- 0 has no children that are linked
pub no_link : (L : List Links) (p a b : ℕ) → p ≡ 0 → with_link L p a b ≡ L
unfolding with_link
no_link L p a b e =
    ap (λ t. cond t L (with_previous (with_next L p a b) p b a)) (is_at p 0 e)

pub link_is : (L : List Links) (p a b : ℕ) → p ≢ 0
    → with_previous (with_next L p a b) p b a ≡ with_link L p a b
unfolding with_link
link_is L p a b apart =
    sym (ap (λ t. cond t L (with_previous (with_next L p a b) p b a)) (not_at p 0 apart))

-- ---- tests of records

and_false : (b : Bool) → (b && false) ≡ false
and_false true = refl
and_false false = refl

-- who was collected is nobody's child
collected_test : (q status : ℕ) (o : Option Record)
    → passes (is_uncollected q) (option_map (kept_as (Ended status true)) o) ≡ false
collected_test q status None = refl
collected_test q status (Some r) = and_false (r.parent == q)

-- who ends is a child still
ended_test : (q status : ℕ) (o : Option Record) → IsSome (option_and_then place_of_record o)
    → passes (is_uncollected q) (option_map (kept_as (Ended status false)) o)
    ≡ passes (is_uncollected q) o
ended_test q status None h = cc
ended_test q status (Some r) h = by r.kept h
  where
    by : (k : Kept)
        → IsSome (place_of_record (let x : Record = record { parent = r.parent; kept = k } in x))
        → ((r.parent == q) && not false) ≡ ((r.parent == q) && not (is_collected k))
    by (Live place) h = refl
    by (Ended status collected) h = cc

orphan_own : (p : ℕ) (o : Option Record) → 0 < p
    → passes (is_uncollected p) (option_map (orphan_record p) o) ≡ false
orphan_own p None some = refl
orphan_own p (Some r) some = by r.parent (is_collected r.kept)
  where
    by : (n : ℕ) (b : Bool) → ((cond ((n == p) && not b) 0 n == p) && not b) ≡ false
    by n true = and_false (cond ((n == p) && false) 0 n == p)
    by n false = elim (n == p) as (λ t. (n == p) ≡ t
        → ((cond (t && true) 0 n == p) && true) ≡ false) [
          | true ↦ λ e. ap (λ t. t && true) (not_at 0 p (λ z. omega arith))
          | false ↦ λ e. ap (λ t. t && true) e
        ] refl

orphan_other : (p q : ℕ) (o : Option Record) → 0 < q → q ≢ p
    → passes (is_uncollected q) (option_map (orphan_record p) o) ≡ passes (is_uncollected q) o
orphan_other p q None some apart = refl
orphan_other p q (Some r) some apart = by r.parent (is_collected r.kept)
  where
    same : (n : ℕ) → (n == p) ≡ true → (n == q) ≡ false
    same n e = grind (arith, nat_tests)

    by : (n : ℕ) (b : Bool)
        → ((cond ((n == p) && not b) 0 n == q) && not b) ≡ ((n == q) && not b)
    by n true = and_false (cond ((n == p) && false) 0 n == q) ∙ sym (and_false (n == q))
    by n false = elim (n == p) as (λ t. (n == p) ≡ t
        → ((cond (t && true) 0 n == q) && true) ≡ ((n == q) && true)) [
          | true ↦ λ e. ap (λ t. t && true) (not_at 0 q (λ z. omega arith) ∙ sym (same n e))
          | false ↦ λ e. refl
        ] refl

-- ---- what stays linked

module _ (R : List Record) (L : List Links) (few : length R ≤ 65535) (count : length L ≡ length R)
    (linked : AreLinked R L) where
  counted : (new : List Record) (M : List Links) → length new ≡ length R
      → AreLinkedBy (length R) (is_child_at new) (next_in M) (previous_in M) → AreLinked new M
  counted new M e h =
      subst (λ n. AreLinkedBy n (is_child_at new) (next_in M) (previous_in M)) (sym e) h

  -- a process that lives ends
  pub ended_linked : (p status : ℕ) → IsSome (place_in R p)
      → AreLinked (changed (kept_as (Ended status false)) R p) L
  ended_linked p status lives =
      let new : List Record = changed (kept_as (Ended status false)) R p in
      counted new L (changed_length (kept_as (Ended status false)) R p)
      (linked_same (length R) (is_child_at R) (family R few) (next_in L) (previous_in L) linked
      (is_child_at new) (next_in L) (previous_in L)
      (λ q n some. elim (cases_eq n p) [
        | inl e ↦ ap (is_child_at new q) e
            ∙ ap (passes (is_uncollected q)) (here (kept_as (Ended status false)) R p)
            ∙ ended_test q status (numbered R p) lives ∙ ap (is_child_at R q) (sym e)
        | inr apart ↦ ap (passes (is_uncollected q))
            (elsewhere (kept_as (Ended status false)) R p n apart)
      ]) (λ q n some. refl) (λ q n some. refl))

  -- its children have no parent
  pub orphans_linked : (p : ℕ) → 0 < p → p ≤ length R
      → AreLinked (map (orphan_record p) R) (changed childless L p)
  orphans_linked p some low =
      let new : List Record = map (orphan_record p) R in
      let M : List Links = changed childless L p in
      counted new M (mapped_length (orphan_record p) R)
      (childless_linked (length R) (is_child_at R) (family R few) (next_in L) (previous_in L) linked
      (is_child_at new) (next_in M) (previous_in M) p
      (λ n. ap (passes (is_uncollected p)) (mapped (orphan_record p) R n)
      ∙ orphan_own p (numbered R n) some)
      (λ q n from apart. ap (passes (is_uncollected q)) (mapped (orphan_record p) R n)
      ∙ orphan_other p q (numbered R n) from apart)
      (ap (λ (l : Links). l.first) (links_here childless L p some (omega arith)))
      (ap (λ (l : Links). l.last) (links_here childless L p some (omega arith)))
      (λ q n apart at. alike on L M q n
      (ap (λ (l : Links). l.first) (links_elsewhere childless L p q apart))
      (field_stays (λ l. l.next) childless (λ l. refl) L p n))
      (λ q n apart at. alike back L M q n
      (ap (λ (l : Links). l.last) (links_elsewhere childless L p q apart))
      (field_stays (λ l. l.previous) childless (λ l. refl) L p n)))

  -- ---- a child is collected

  module _ (p c : ℕ) (is : is_child_at R p c ≡ true) where
    pub parent_to : p ≤ length R
    parent_to = elim (cases_order p (length R)) [
      | inl e ↦ omega arith
      | inr (inl below) ↦ omega arith
      | inr (inr above) ↦ absurd (true_false is (linked.given p c above))
    ]

    pub others_linkable : IsLinkable (length L) p (previous_in L p c) (next_in L p c)
    others_linkable = record {
      parent_within = omega (arith, parent_to);
      before_within = λ some. start (previous_in L p c)
          (linked.before p c some parent_to (inr is)).0;
      after_from = λ some. omega (arith, (after some).above);
      after_low = λ some. (after some).low;
      after_within = λ some low. omega (arith, child_to R p (next_in L p c) ((after some).is low));
    }
      where
        after : 0 < p → IsNext (is_child_at R p) c (next_in L p c)
        after some = linked.after p c some parent_to (inr is)

        start : (n : ℕ) → (n ≡ 0) ⊎ (is_child_at R p n ≡ true) → n ≤ length L
        start n at = elim at [
          | inl z ↦ omega arith
          | inr t ↦ omega (arith, child_to R p n t)
        ]

    pub collected_linked : (status : ℕ) → AreLinked (changed (kept_as (Ended status true)) R c)
        (with_link L p (previous_in L p c) (next_in L p c))
    collected_linked status =
        let new : List Record = changed (kept_as (Ended status true)) R c in
        let M : List Links = with_link L p (previous_in L p c) (next_in L p c) in
        counted new M (changed_length (kept_as (Ended status true)) R c)
        (elim (cases_eq p 0) [
          | inl e ↦ linked_same (length R) (is_child_at R) (family R few) (next_in L)
              (previous_in L) linked (is_child_at new) (next_in M) (previous_in M)
              (λ q n some. elim (cases_eq n c) [
                | inl s ↦ ap (is_child_at new q) s ∙ gone q
                    ∙ sym (ap (is_child_at R q) s ∙ foreign q e some)
                | inr apart ↦ rest q n apart
              ])
              (λ q n some. ap (λ K. next_in K q n) (none e))
              (λ q n some. ap (λ K. previous_in K q n) (none e))
          | inr apart ↦ unlinked (length R) (is_child_at R) (family R few) (next_in L)
              (previous_in L) linked (is_child_at new) (next_in M) (previous_in M) p c
              (omega arith) is gone rest
              (link_next L p (previous_in L p c) (next_in L p c) others_linkable)
              (link_previous L p (previous_in L p c) (next_in L p c) others_linkable)
        ])
      where
        gone : (q : ℕ) → is_child_at (changed (kept_as (Ended status true)) R c) q c ≡ false
        gone q = ap (passes (is_uncollected q)) (here (kept_as (Ended status true)) R c)
            ∙ collected_test q status (numbered R c)

        rest : (q n : ℕ) → n ≢ c
            → is_child_at (changed (kept_as (Ended status true)) R c) q n ≡ is_child_at R q n
        rest q n apart =
            ap (passes (is_uncollected q)) (elsewhere (kept_as (Ended status true)) R c n apart)

        foreign : (q : ℕ) → p ≡ 0 → 0 < q → is_child_at R q c ≡ false
        foreign q e some = elim (is_child_at R q c) as (λ b. is_child_at R q c ≡ b → b ≡ false) [
          | true ↦ λ t. absurd (omega (arith, (family R few).unique q p c t is))
          | false ↦ λ f. refl
        ] refl

        none : p ≡ 0 → with_link L p (previous_in L p c) (next_in L p c) ≡ L
        none e = no_link L p (previous_in L p c) (next_in L p c) e
