-- Records that are kept with their links: what each change leaves.
use Rattle.std.proofs.Common.{◌≡◌, ℕ, ◌+◌, ◌<◌, ◌≤◌, Bool, true, false, List, [], ◌∷◌, ◌++◌, map}
use Rattle.std.proofs.Common.{length, Option, Some, None, IsSome, refl, sym, ap, ◌∙◌, subst, arith}
use Rattle.std.proofs.Common.{length-append}
use Rattle.std.specs.Prelude.{not, ◌&&◌, ◌==◌}
use Rattle.std.proofs.lemmas.Bool.{and_parts}
use Rattle.std.proofs.lemmas.List.{length-map}
use Rattle.dos_world.specs.Numbered.{numbered, changed}
use Rattle.proc_table.specs.declared.record.Kept.{Kept}
use Rattle.proc_table.specs.declared.record.Kept.TheVariants.{Ended}
use Rattle.proc_table.specs.declared.record.Links.{Links}
use Rattle.proc_table.specs.declared.record.Record.{Record}
use Rattle.proc_table.specs.Places.{has_come, is_child_record, is_collected, kept_as, orphan_record}
use Rattle.proc_table.specs.Places.{place_in}
use Rattle.proc_table.specs.Links.{AreStored, AreLinked, IsLinkable, IsWalkable, childless}
use Rattle.proc_table.specs.Links.{is_child_at}
use Rattle.proc_table.specs.Links.{is_uncollected, next_in, passes, passes_at, previous_in}
use Rattle.proc_table.specs.Links.{with_child_linked, with_link}
use Rattle.proc_table.proofs.Lengths.{changed_length}
use Rattle.proc_table.proofs.Moved.{at_last, child_from, child_to, given_in, last_changed}
use Rattle.proc_table.proofs.Moved.{live_given}
use Rattle.proc_table.proofs.Ways.{is_at}
use Rattle.proc_table.proofs.Family.{collected_linked, ended_linked, link_length, orphans_linked}
use Rattle.proc_table.proofs.Family.{others_linkable}
use Rattle.proc_table.proofs.Added.{added_linked, child_length, last_within}

-- a child that has come is one that wasn't collected
child_test : (asked : Bool) (p : ℕ) (o : Option Record)
    → passes (is_child_record asked p) o ≡ true → passes (is_uncollected p) o ≡ true
child_test asked p None e = cc
child_test asked p (Some r) e =
    (and_parts ((r.parent == p) && not (is_collected r.kept)) (has_come asked r.kept) e).0

module _ {R now : List Record} {L : List Links} {room links_room : ℕ}
    (kept : AreStored R L room links_room) (shows : R ≡ now) where
  -- ---- a walk

  pub walkable : {records : List Record} {links : List Links} → records ≡ R → links ≡ L → (p : ℕ)
      → 0 < p → p ≤ length now → IsWalkable records links p
  walkable {records} {links} rs ls p some low =
      let given : p ≤ length R = omega (arith, low, ap (λ (xs : List Record). length xs) shows) in
      subst (λ M. IsWalkable records M p) (sym ls)
      (subst (λ xs. IsWalkable xs L p) (sym rs) (record {
        linked = kept.linked;
        count = kept.count;
        few = kept.few;
        from = some;
        within = given;
      }))

  -- ---- a new record

  module _ (p : ℕ) (k : Kept) {n : ℕ} (uncollected : is_collected k ≡ false)
      (within : p ≤ length now) (left : length now < 65535) (number : n ≡ length L + 1) where
    low : p ≤ length R
    low = omega (arith, within, ap (λ (rs : List Record). length rs) shows)

    small : length R < 65535
    small = omega (arith, left, ap (λ (rs : List Record). length rs) shows)

    pub last_low : previous_in L p 65536 ≤ length L
    last_low = last_within R L kept.few kept.count kept.linked p k uncollected low small

    pub kept_added : {new : List Record} {M : List Links} {grown links_grown : ℕ}
        → new ≡ R ++ record { parent = p; kept = k } ∷ [] → M ≡ with_child_linked L p n
        → room ≤ grown → links_room ≤ links_grown → AreStored new M grown links_grown
    kept_added {new} {M} {grown} {links_grown} is ms more links_more =
        let r : Record = record { parent = p; kept = k } in
        record {
          linked = subst (λ K. AreLinked new K) (sym ms)
              (subst (λ rs. AreLinked rs (with_child_linked L p n)) (sym is)
              (added_linked R L kept.few kept.count kept.linked p k uncollected low small n
              number));
          count = omega (
            arith,
            kept.count,
            ap (λ (K : List Links). length K) ms,
            child_length L p n number (omega (arith, kept.count, low))
                (omega (arith, kept.count, small)) last_low,
            ap (λ (rs : List Record). length rs) is,
            length-append R (r ∷ []),
          );
          few = omega (
            arith,
            small,
            ap (λ (rs : List Record). length rs) is,
            length-append R (r ∷ []),
          );
          taken = omega (arith, kept.taken);
          links_taken = omega (arith, kept.links_taken);
        }

  -- ---- a child is collected

  module _ (p c : ℕ) (is : passes_at (is_child_record true p) now c ≡ true) where
    child_is : is_child_at R p c ≡ true
    child_is = child_test true p (numbered R c)
        (ap (λ rs. passes_at (is_child_record true p) rs c) shows ∙ is)

    pub linkable_others : IsLinkable (length L) p (previous_in L p c) (next_in L p c)
    linkable_others = others_linkable R L kept.few kept.count kept.linked p c child_is

    pub child_given : (0 < c) × (c ≤ length R)
    child_given = (child_from R p c child_is, child_to R p c child_is)

    pub kept_collected : (status : ℕ) {new : List Record} {M : List Links} {same links_same : ℕ}
        → new ≡ changed (kept_as (Ended status true)) R c
        → M ≡ with_link L p (previous_in L p c) (next_in L p c) → same ≡ room
        → links_same ≡ links_room → AreStored new M same links_same
    kept_collected status {new} {M} {same} {links_same} ns ms s ls = record {
      linked = subst (λ K. AreLinked new K) (sym ms)
          (subst (λ rs. AreLinked rs (with_link L p (previous_in L p c) (next_in L p c))) (sym ns)
          (collected_linked R L kept.few kept.count kept.linked p c child_is status));
      count = ap (λ (K : List Links). length K) ms
          ∙ link_length L p (previous_in L p c) (next_in L p c) linkable_others ∙ kept.count
          ∙ sym (ap (λ (rs : List Record). length rs) ns
          ∙ changed_length (kept_as (Ended status true)) R c);
      few = omega (
        arith,
        kept.few,
        ap (λ (rs : List Record). length rs) ns,
        changed_length (kept_as (Ended status true)) R c,
      );
      taken = omega (arith, kept.taken);
      links_taken = omega (arith, kept.links_taken);
    }

  -- ---- the end of a process

  module _ (p status : ℕ) (lives : IsSome (place_in now p)) {ended : List Record}
      (es : ended ≡ changed (kept_as (Ended status false)) R p) where
    live_here : IsSome (place_in R p)
    live_here = subst (λ rs. IsSome (place_in rs p)) (sym shows) lives

    same_length : length ended ≡ length R
    same_length = ap (λ (rs : List Record). length rs) es
        ∙ changed_length (kept_as (Ended status false)) R p

    pub given_links : (0 < p) × (p ≤ length L)
    given_links = let given = given_in R p (live_given R p live_here) in
        (given.0, omega (arith, given.1, kept.count))

    pub ended_walkable : {links : List Links} → links ≡ L → IsWalkable ended links p
    ended_walkable e = subst (λ M. IsWalkable ended M p) (sym e) (record {
      linked = subst (λ rs. AreLinked rs L) (sym es)
          (ended_linked R L kept.few kept.count kept.linked p status live_here);
      count = kept.count ∙ sym same_length;
      few = omega (arith, kept.few, same_length);
      from = given_links.0;
      within = omega (arith, given_links.1, kept.count, same_length);
    })

    pub kept_ended : {new : List Record} {M : List Links} {same links_same : ℕ}
        → new ≡ map (orphan_record p) ended → M ≡ changed childless L p → same ≡ room
        → links_same ≡ links_room → AreStored new M same links_same
    kept_ended {new} {M} {same} {links_same} ns ms s ls =
        let walk = ended_walkable refl in
        record {
          linked = subst (λ K. AreLinked new K) (sym ms)
              (subst (λ rs. AreLinked rs (changed childless L p)) (sym ns)
              (orphans_linked ended L walk.few walk.count walk.linked p walk.from walk.within));
          count = ap (λ (K : List Links). length K) ms ∙ changed_length childless L p
              ∙ walk.count
              ∙ sym (ap (λ (rs : List Record). length rs) ns ∙ length-map ended (orphan_record p));
          few = omega (
            arith,
            walk.few,
            ap (λ (rs : List Record). length rs) ns,
            length-map ended (orphan_record p),
          );
          taken = omega (arith, kept.taken);
          links_taken = omega (arith, kept.links_taken);
        }

-- ---- a process that was collected, more

-- a new record, of a process that has ended, is a child that has come
pub last_passes : (R : List Record) (p status n : ℕ) {new : List Record}
    → new ≡ R ++ record { parent = p; kept = Ended status false } ∷ [] → n ≡ length R + 1
    → passes_at (is_child_record true p) new n ≡ true
last_passes R p status n e number =
    ap (λ rs. passes_at (is_child_record true p) rs n) e
    ∙ ap (passes (is_child_record true p)) (at_last R _ n number)
    ∙ ap (λ t. t && true && true) (is_at p p refl)

pub last_collected : (R : List Record) (p status n : ℕ) {ended new : List Record}
    → ended ≡ R ++ record { parent = p; kept = Ended status false } ∷ [] → n ≡ length R + 1
    → new ≡ changed (kept_as (Ended status true)) ended n
    → new ≡ R ++ record { parent = p; kept = Ended status true } ∷ []
last_collected R p status n e number is =
    is ∙ ap (λ rs. changed (kept_as (Ended status true)) rs n) e
    ∙ last_changed (kept_as (Ended status true)) R _ n number
