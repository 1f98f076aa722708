-- What a table's records and places stand for, and what a change there does to it.
use Rattle.std.proofs.Common.{◌≡◌, ◌≢◌, ℕ, zero, suc, ◌+◌, ◌-◌, ◌<◌, ◌≤◌, Bool, true, false, cond}
use Rattle.std.proofs.Common.{List, [], ◌∷◌, ◌++◌, map, length, get_or, set, slice_get, replicate}
use Rattle.std.proofs.Common.{count_by, inl, inr, Option, Some, None, option_map, option_and_then}
use Rattle.std.proofs.Common.{IsSome, IfSome, refl, sym, ap, ◌∙◌, subst, arith, length-set}
use Rattle.std.proofs.Common.{get_or-set_other, get_or-set_same}
use Rattle.std.specs.Prelude.{is_some, is_none, nat_le, position, All, slice_index_or}
use Rattle.std.proofs.lemmas.List.{get_or_read}
use Rattle.std.proofs.lemmas.List.Elements.{All-set, All-get_or, All-replicate}
use Rattle.std.proofs.lemmas.List.Sums.{sum_by-set, sum_by-append}
use Rattle.std.proofs.lemmas.Option.{slice_get_within, get_or_from_slice_get}
use Rattle.std.proofs.lemmas.Bool.Decides.{nat_tests}
use Rattle.dos_world.specs.Numbered.{numbered, changed, changed_at}
use Rattle.dos_world.specs.World.{Holdings, Process, all_holdings, on_holdings}
use Rattle.dos_world.specs.Kernel.{orphaned, ended_by}
use Rattle.dos_world.specs.ProcessCalls.{collected_by}
use Rattle.dos_world.specs.declared.End.{End}
use Rattle.dos_world.specs.declared.Entry.{Entry}
use Rattle.space_map.specs.Mapping.{Mapping, empty}
use Rattle.proc_table.specs.Tables.{held_as, held_in, IsParent, IsProcess, ended_process}
use Rattle.proc_table.specs.Tables.{living_process, new_process}
use Rattle.proc_table.specs.Places.{Group, group_shown, kept_as, first_belongings, holdings_by}
use Rattle.proc_table.specs.Places.{holdings_in, no_belongings, process_by, processes_shown}
use Rattle.proc_table.specs.Places.{place_of_record}
use Rattle.proc_table.specs.Places.{place_in, is_placed, orphan_record, status_or_0, IsHeld}
use Rattle.proc_table.specs.Places.{AreHeld, ArePlaced}
use Rattle.proc_table.specs.declared.record.Record.{Record}
use Rattle.proc_table.specs.declared.record.Belongings.{Belongings}
use Rattle.proc_table.specs.declared.record.Kept.TheVariants.{Live, Ended}
use Rattle.proc_table.proofs.Moved.{changed_is, given_in, live_given, read_again}
use Rattle.proc_table.proofs.Places.{collected_shown, marked_held, numbered_shown, shown_length}
use Rattle.proc_table.proofs.Places.{held_shown, held_at, changed_process, holdings_count}
use Rattle.proc_table.proofs.Places.{orphans_count, ended_held, orphans_held, held_pushed, all_kept}
use Rattle.proc_table.proofs.Places.{none_free, free_place, get_within, get_placed, get-set_same}
use Rattle.proc_table.proofs.Places.{shown_ended, shown_ended_more, shown_added}

abbrev pub spaced_by : (List (ℕ × Entry) → List (ℕ × Entry)) → Holdings → Holdings
spaced_by f h = record h { space = f h.space }

abbrev counted : Bool → ℕ
counted b = cond b 1 0

count_set : {A : Type 0} (test : A → Bool) (xs : List A) (i : ℕ) (y d : A) → i < length xs
    → count_by test (set xs i y) + counted (test (get_or xs i d))
    ≡ count_by test xs + counted (test y)
count_set test xs i y d h = sum_by-set (λ x. counted (test x)) xs i y d h

abbrev no_record : Record
no_record = record { parent = 0; kept = Live 0 }

-- What is kept is placed, and shows this group.
pub record Stands (R : List Record) (holders : List (Option ℕ)) (S : List Mapping)
    (D : List Belongings) (count room : ℕ) (now : Group) : Type 0 where
  pub shows : group_shown S D R room ≡ now
  pub placed : ArePlaced R holders S D count room

module _ {R : List Record} {holders : List (Option ℕ)} {S : List Mapping} {D : List Belongings}
    {count room : ℕ} {now : Group} (shows : group_shown S D R room ≡ now)
    (placed : ArePlaced R holders S D count room) where
  pub processes_same : processes_shown S D R ≡ now.processes
  processes_same = ap (λ (g : Group). g.processes) shows

  pub room_shown : room ≡ now.room
  room_shown = ap (λ (g : Group). g.room) shows

  pub given_shown : length now.processes ≡ length R
  given_shown = ap (λ ps. length ps) (sym processes_same) ∙ shown_length S D R

  pub living_shown : count ≡ length (all_holdings now.processes)
  living_shown = placed.living ∙ sym (holdings_count S D R)
      ∙ ap (λ ps. length (all_holdings ps)) processes_same

  pub held_now : (p : ℕ) → held_in now.processes p ≡ option_map (holdings_in S D) (place_in R p)
  held_now p = ap (λ ps. held_in ps p) (sym processes_same) ∙ held_shown S D R p

  -- a live process has a place
  pub lives : (p : ℕ) → IsProcess now.processes p → IsSome (place_in R p)
  lives p h = by (place_in R p) (subst (λ (o : Option Holdings). IsSome o) (held_now p) h)
    where
      by : (o : Option ℕ) → IsSome (option_map (holdings_in S D) o) → IsSome o
      by None h = h
      by (Some place) h = refl

  -- a number that was given has a record
  pub given_record : (p : ℕ) → IsSome (numbered now.processes p) → IsSome (numbered R p)
  given_record p h = by (numbered R p) (subst (λ (o : Option Process). IsSome o)
      (ap (λ ps. numbered ps p) (sym processes_same) ∙ numbered_shown S D R p) h)
    where
      by : (o : Option Record) → IsSome (option_map (process_by (holdings_in S D)) o) → IsSome o
      by None h = h
      by (Some r) h = refl

  -- what is true of what a record says, is true of the process
  pub of_record : (p : ℕ) (P : Process → Type 0) {x : Record} → numbered R p ≡ Some x
      → P (process_by (holdings_in S D) x) → IfSome (numbered now.processes p) P
  of_record p P {x} is h = subst (λ (o : Option Process). IfSome o P)
      (sym (ap (λ ps. numbered ps p) (sym processes_same) ∙ numbered_shown S D R p
      ∙ ap (option_map (process_by (holdings_in S D))) is)) h

  -- the parent of a new process was given its number, or is 0
  pub parent_within : (p : ℕ) → IsParent now.processes p → p ≤ length R
  parent_within p is = elim is [
    | inl e ↦ omega arith
    | inr h ↦ (given_in R p (live_given R p (lives p h))).1
  ]

  -- what stands at a place changes by f
  shown_changed : (place : ℕ) (S' : List Mapping) (D' : List Belongings) (f : Holdings → Holdings)
      → ((q : ℕ) → q ≢ place → holdings_in S' D' q ≡ holdings_in S D q)
      → holdings_in S' D' place ≡ f (holdings_in S D place)
      → (p : ℕ) → place_in R p ≡ Some place → slice_get holders place ≡ Some (Some p)
      → processes_shown S' D' R ≡ changed (on_holdings f) (processes_shown S D R) p
  unfolding processes_shown
  shown_changed place S' D' f others here zero e at = cc
  shown_changed place S' D' f others here (suc i) e at =
      changed_process (holdings_in S D) (holdings_in S' D') holders place others f (suc i) 1 i R
      (omega arith) here at placed.held e

  -- ---- the place of a live process

  module _ (p : ℕ) {place : ℕ} (found : place_in R p ≡ Some place) where
    at_place : slice_get holders place ≡ Some (Some p)
    at_place = by p found
      where
        by : (p : ℕ) → place_in R p ≡ Some place → slice_get holders place ≡ Some (Some p)
        by zero e = cc
        by (suc i) e = held_at holders place 1 R i placed.held e
            ∙ ap (λ n. Some (Some n)) (omega arith)

    pub within : place < 32
    within = omega (arith, slice_get_within holders place (Some p) at_place, placed.holders_count)

    pub within_spaces : place < length S
    within_spaces = omega (arith, within, placed.spaces_count)

    pub within_belongings : place < length D
    within_belongings = omega (arith, within, placed.belongings_count)

    pub holds : held_in now.processes p ≡ Some (holdings_in S D place)
    holds = held_now p ∙ ap (option_map (holdings_in S D)) found

    space_read : {x : Mapping} → x ≡ get_or S place x → x ≡ get_or S place (empty 0)
    space_read {x} read = get_or_read S place x within_spaces read (empty 0)

    belongings_read : {x : Belongings} → x ≡ get_or D place x → x ≡ get_or D place no_belongings
    belongings_read {x} read = get_or_read D place x within_belongings read no_belongings

    pub room_read : {x : Mapping} → x ≡ get_or S place x → x.room ≡ now.room
    room_read {x} read = ap (λ (s : Mapping). s.room) read
        ∙ All-get_or (λ (s : Mapping). s.room ≡ room) S place x within_spaces placed.rooms
        ∙ room_shown

    -- what is true of what stands there, is true of what the process has
    of_holdings : (P : Holdings → Type 0) → P (holdings_in S D place)
        → IfSome (held_in now.processes p) P
    of_holdings P h = subst (λ (o : Option Holdings). IfSome o P) (sym holds) h

    pub of_space : (P : List (ℕ × Entry) → Type 0) {x : Mapping} → x ≡ get_or S place x
        → P x.entries → IfSome (held_in now.processes p) (λ h. P h.space)
    of_space P read h = of_holdings (λ h. P h.space)
        (subst (λ (s : Mapping). P s.entries) (space_read read) h)

    pub of_belongings : (P : List (Option End) → List ℕ → Type 0) {x : Belongings}
        → x ≡ get_or D place x → P x.descriptors x.actions
        → IfSome (held_in now.processes p) (λ h. P h.descriptors h.actions)
    of_belongings P read h = of_holdings (λ h. P h.descriptors h.actions)
        (subst (λ (b : Belongings). P b.descriptors b.actions) (belongings_read read) h)

    -- what is true of the process's space, is true of the one that stands there
    pub in_space : (P : List (ℕ × Entry) → ℕ → Type 0) {x : Mapping} → x ≡ get_or S place x
        → IfSome (held_in now.processes p) (λ h. P h.space now.room) → P x.entries x.room
    in_space P {x} read h =
        let held = subst (λ (o : Option Holdings). IfSome o (λ h. P h.space now.room)) holds h in
        subst (λ n. P x.entries n) (sym (room_read read))
        (subst (λ (s : Mapping). P s.entries now.room) (sym (space_read read)) held)

    -- what stands there changes by f
    changes : (S' : List Mapping) (D' : List Belongings) (f : Holdings → Holdings)
        → ((q : ℕ) → q ≢ place → holdings_in S' D' q ≡ holdings_in S D q)
        → holdings_in S' D' place ≡ f (holdings_in S D place)
        → group_shown S' D' R room
        ≡ record now { processes = changed (on_holdings f) now.processes p }
    changes S' D' f others here =
        ap (λ ps. let g : Group = record { processes = ps; room = room } in g)
        (shown_changed place S' D' f others here p found at_place)
        ∙ ap (λ (g : Group). let h : Group =
        record g { processes = changed (on_holdings f) g.processes p } in h) shows

    -- the process's space is written
    pub space_written : (f : List (ℕ × Entry) → List (ℕ × Entry)) {x y : Mapping}
        → x ≡ get_or S place x → y ≡ record x { entries = f x.entries }
        → Stands R holders (set S place y) D count room
        (record now { processes = changed (on_holdings (spaced_by f)) now.processes p })
    space_written f {x} {y} read is = record {
      shows = changes (set S place y) D (spaced_by f)
          (λ q apart. ap (with_space q) (get_or-set_other S place q y (empty 0) apart))
          (ap (with_space place) (get_or-set_same S place y (empty 0) within_spaces)
          ∙ ap (with_space place) is
          ∙ ap (λ (s : Mapping).
          holdings_by (slice_index_or D place no_belongings) (f s.entries)) (space_read read));
      placed = record {
        held = placed.held;
        holding = placed.holding;
        living = placed.living;
        holders_count = placed.holders_count;
        spaces_count = length-set S place y ∙ placed.spaces_count;
        belongings_count = placed.belongings_count;
        rooms = All-set (λ (s : Mapping). s.room ≡ room) S place y
            (ap (λ (s : Mapping). s.room) is ∙ room_read read ∙ sym room_shown) placed.rooms;
      };
    }
      where
        with_space : ℕ → Mapping → Holdings
        with_space q s = holdings_by (slice_index_or D q no_belongings) s.entries

    -- its belongings are written
    pub belongings_written : (f : Holdings → Holdings) {x y : Belongings} → x ≡ get_or D place x
        → ((space : List (ℕ × Entry)) → holdings_by y space ≡ f (holdings_by x space))
        → Stands R holders S (set D place y) count room
        (record now { processes = changed (on_holdings f) now.processes p })
    belongings_written f {x} {y} read is = record {
      shows = changes S (set D place y) f
          (λ q apart. ap (with_belongings q) (get_or-set_other D place q y no_belongings apart))
          (ap (with_belongings place)
          (get_or-set_same D place y no_belongings within_belongings)
          ∙ is (slice_index_or S place (empty 0)).entries
          ∙ ap (λ b. f (with_belongings place b)) (belongings_read read));
      placed = record {
        held = placed.held;
        holding = placed.holding;
        living = placed.living;
        holders_count = placed.holders_count;
        spaces_count = placed.spaces_count;
        belongings_count = length-set D place y ∙ placed.belongings_count;
        rooms = placed.rooms;
      };
    }
      where
        with_belongings : ℕ → Belongings → Holdings
        with_belongings q b = holdings_by b (slice_index_or S q (empty 0)).entries

    -- it gets those that stand at another place
    pub belongings_copied : {source : ℕ} → source < length D → {x y : Belongings}
        → x ≡ get_or D place x → y ≡ get_or D source y
        → Stands R holders S (set D place y) count room (record now {
          processes =
              changed (on_holdings (held_as (holdings_in S D source))) now.processes p;
        })
    belongings_copied {source} low {x} {y} read is =
        belongings_written (held_as (holdings_in S D source)) read
        (λ space. ap (λ (b : Belongings). holdings_by b space)
        (get_or_read D source y low is no_belongings))

    -- ---- its end

    -- its record
    recorded : (p - 1 + 1 ≡ p) × (p - 1 < length R)
        × (option_and_then place_of_record (slice_get R (p - 1)) ≡ Some place)
    recorded = by p found
      where
        by : (p : ℕ) → place_in R p ≡ Some place → (p - 1 + 1 ≡ p) × (p - 1 < length R)
            × (option_and_then place_of_record (slice_get R (p - 1)) ≡ Some place)
        by zero e = cc
        by (suc i) e = (
          omega arith,
          omega (arith, get_within R i e),
          subst (λ n. option_and_then place_of_record (slice_get R n) ≡ Some place) {x = i}
              (omega arith) e,
        )

    freed : count_by is_some (set holders place None) + 1 ≡ count_by is_some holders
    freed =
        let was : get_or holders place None ≡ Some p =
        get_or_from_slice_get holders place (Some p) None at_place in
        omega (
          arith,
          count_set is_some holders place None None
              (omega (arith, within, placed.holders_count)),
          ap (λ (o : Option ℕ). counted (is_some o)) was,
        )

    -- at least one process lives
    pub one_lives : 1 ≤ count
    one_lives = omega (arith, freed, placed.holding)

    one_ended : (x y : Record) → x ≡ get_or R (p - 1) x → place_of_record y ≡ None
        → count_by is_placed (set R (p - 1) y) + 1 ≡ count_by is_placed R
    one_ended x y read gone =
        let was : place_of_record (get_or R (p - 1) y) ≡ Some place =
        get_placed R (p - 1) y place recorded.1 recorded.2 in
        omega (
          arith,
          count_set is_placed R (p - 1) y y recorded.1,
          ap (λ (o : Option ℕ). counted (is_some o)) was,
          ap (λ (o : Option ℕ). counted (is_some o)) gone,
        )

    pub ended_standing : (status : ℕ) {new : List Record}
        → new ≡ map (orphan_record p) (changed (kept_as (Ended status false)) R p)
        → Stands new (set holders place None) S D (count - 1) room
        (record now { processes = map (orphaned p) (changed (ended_by status) now.processes p) })
    ended_standing status {new} is =
        let x : Record = get_or R (p - 1) no_record in
        let y : Record = kept_as (Ended status false) x in
        let read : x ≡ get_or R (p - 1) x = read_again R (p - 1) no_record recorded.1 in
        let e : new ≡ map (orphan_record p) (set R (p - 1) y) =
        is ∙ ap (map (orphan_record p)) (sym (changed_is (kept_as (Ended status false)) R p x
        (omega (arith, recorded.0)) (omega (arith, recorded.0, recorded.1)) read)) in
        record {
          shows = ap (λ ps. let g : Group = record { processes = ps; room = room } in g)
              (ap (processes_shown S D) e
              ∙ shown_ended S D p status R x y read refl recorded.0 recorded.1)
              ∙ ap (λ (g : Group). let h : Group =
              record g { processes = map (orphaned p) (changed (ended_by status) g.processes p) }
              in h) shows;
          placed = record {
            held = subst (AreHeld (set holders place None) 1) (sym e)
                (orphans_held (set holders place None) p 1 (set R (p - 1) y)
                (ended_held holders place p 1 (p - 1) R y
                (omega (arith, recorded.0)) at_place refl placed.held));
            holding = omega (arith, freed, placed.holding);
            living = omega (
              arith,
              one_ended x y read refl,
              placed.living,
              ap (count_by is_placed) e,
              orphans_count p (set R (p - 1) y),
            );
            holders_count = length-set holders place None ∙ placed.holders_count;
            spaces_count = placed.spaces_count;
            belongings_count = placed.belongings_count;
            rooms = placed.rooms;
          };
        }

  -- ---- a child is collected

  pub collected_standing : (p : ℕ) → 1 ≤ p → p - 1 < length R → (status : ℕ)
      → ((x : Record) → x ≡ get_or R (p - 1) x
      → (place_of_record x ≡ None) × (status ≡ status_or_0 x.kept))
      → {new : List Record} → new ≡ changed (kept_as (Ended status true)) R p
      → Stands new holders S D count room
      (record now { processes = changed collected_by now.processes p })
  unfolding processes_shown
  collected_standing p from within status gone {new} is =
      let x : Record = get_or R (p - 1) no_record in
      let y : Record = kept_as (Ended status true) x in
      let read : x ≡ get_or R (p - 1) x = read_again R (p - 1) no_record within in
      let e : new ≡ set R (p - 1) y =
      is ∙ sym (changed_is (kept_as (Ended status true)) R p x from (omega (arith, within)) read) in
      let was : place_of_record (get_or R (p - 1) y) ≡ None =
      (gone (get_or R (p - 1) y) (read_again R (p - 1) y within)).0 in
      record {
        shows = ap (λ ps. let g : Group = record { processes = ps; room = room } in g)
            (ap (map (process_by (holdings_in S D))) e
            ∙ collected_shown (holdings_in S D) (p - 1) R x y read
            (ap (λ n. kept_as (Ended n true) x) (gone x read).1) within
            ∙ at p from)
            ∙ ap (λ (g : Group). let h : Group =
            record g { processes = changed collected_by g.processes p } in h) shows;
        placed = record {
          held = subst (AreHeld holders 1) (sym e)
              (marked_held holders 1 (p - 1) R y refl placed.held);
          holding = placed.holding;
          living = omega (
            arith,
            placed.living,
            ap (count_by is_placed) e,
            count_set is_placed R (p - 1) y y within,
            ap (λ (o : Option ℕ). counted (is_some o)) was,
          );
          holders_count = placed.holders_count;
          spaces_count = placed.spaces_count;
          belongings_count = placed.belongings_count;
          rooms = placed.rooms;
        };
      }
    where
      at : (p : ℕ) → 1 ≤ p
          → changed_at collected_by (map (process_by (holdings_in S D)) R) (p - 1)
          ≡ changed collected_by (map (process_by (holdings_in S D)) R) p
      at zero h = absurd (omega arith)
      at (suc i) h = ap (changed_at collected_by (map (process_by (holdings_in S D)) R))
          (omega arith)

  -- ---- a new process, at a place that no process holds

  pub few_live : nat_le 32 (length (all_holdings now.processes)) ≡ false → count < 32
  few_live few = omega (arith, living_shown, below (length (all_holdings now.processes)) few)
    where
      below : (n : ℕ) → nat_le 32 n ≡ false → n < 32
      below n few = grind (arith, nat_tests)

  pub has_place : nat_le 32 (length (all_holdings now.processes)) ≡ false
      → position is_none holders ≡ None → ⊥
  has_place few none = omega (
    arith,
    few_live few,
    placed.holding,
    placed.holders_count,
    none_free holders none,
  )

  module _ {place : ℕ} (first : position is_none holders ≡ Some place) where
    free : slice_get holders place ≡ Some None
    free = free_place holders place first

    pub free_within : place < 32
    free_within = omega (arith, slice_get_within holders place None free, placed.holders_count)

    pub free_in_spaces : place < length S
    free_in_spaces = omega (arith, free_within, placed.spaces_count)

    pub free_in_belongings : place < length D
    free_in_belongings = omega (arith, free_within, placed.belongings_count)

    pub restored_standing : (parent : ℕ) (y : Mapping) (b : Belongings) {n : ℕ} {new : List Record}
        → n ≡ length R → y.room ≡ room
        → new ≡ R ++ record { parent = parent; kept = Live place } ∷ []
        → Stands new (set holders place (Some (n + 1))) (set S place y) (set D place b) (count + 1)
        room (record now {
          processes =
              now.processes ++ living_process parent (holdings_by b y.entries) ∷ [];
        })
    restored_standing parent y b {n} {new} number same_room e =
        let r : Record = record { parent = parent; kept = Live place } in
        let H : List (Option ℕ) = set holders place (Some (n + 1)) in
        let in_holders : place < length holders =
        omega (arith, free_within, placed.holders_count) in
        let holder : IsHeld H (place_of_record r) (1 + length R) =
        get-set_same holders place (Some (n + 1)) in_holders
        ∙ ap (λ m. Some (Some m)) (omega (arith, number)) in
        let was : get_or holders place None ≡ None =
        get_or_from_slice_get holders place None None free in
        record {
          shows = ap (λ ps. let g : Group = record { processes = ps; room = room } in g)
              (ap (processes_shown (set S place y) (set D place b)) e
              ∙ shown_added R holders S D place parent y b free free_in_spaces free_in_belongings
              placed.held)
              ∙ ap (λ (g : Group). let h : Group = record g {
                processes =
                    g.processes ++ living_process parent (holdings_by b y.entries) ∷ [];
              } in h) shows;
          placed = record {
            held = subst (AreHeld H 1) (sym e)
                (held_pushed H 1 R r
                (all_kept holders place (Some (n + 1)) 1 R (λ m le s. never m s) placed.held)
                holder);
            holding = omega (
              arith,
              placed.holding,
              count_set is_some holders place (Some (n + 1)) None in_holders,
              ap (λ (o : Option ℕ). counted (is_some o)) was,
            );
            living = omega (
              arith,
              placed.living,
              ap (count_by is_placed) e,
              sum_by-append (λ (k : Record). counted (is_placed k)) R (r ∷ []),
            );
            holders_count = length-set holders place (Some (n + 1)) ∙ placed.holders_count;
            spaces_count = length-set S place y ∙ placed.spaces_count;
            belongings_count = length-set D place b ∙ placed.belongings_count;
            rooms = All-set (λ (s : Mapping). s.room ≡ room) S place y same_room placed.rooms;
          };
        }
      where
        never : (m : ℕ) → slice_get holders place ≡ Some (Some m) → ⊥
        never m s = let both : Some None ≡ Some (Some m) = sym free ∙ s in cc

    pub added_standing : (parent : ℕ) {n : ℕ} {x y : Mapping} {b : Belongings} {new : List Record}
        → n ≡ length R → x ≡ get_or S place x → y ≡ record x { entries = [] }
        → b ≡ first_belongings → new ≡ R ++ record { parent = parent; kept = Live place } ∷ []
        → Stands new (set holders place (Some (n + 1))) (set S place y) (set D place b) (count + 1)
        room (record now { processes = now.processes ++ new_process parent ∷ [] })
    added_standing parent {n} {x} {y} {b} {new} number read is begins e =
        let same_room : y.room ≡ room = ap (λ (s : Mapping). s.room) is
        ∙ ap (λ (s : Mapping). s.room) read
        ∙ All-get_or (λ (s : Mapping). s.room ≡ room) S place x free_in_spaces placed.rooms in
        subst (λ (q : Process). Stands new (set holders place (Some (n + 1))) (set S place y)
        (set D place b) (count + 1) room (record now { processes = now.processes ++ q ∷ [] }))
        (ap (λ (c : Belongings). living_process parent (holdings_by c y.entries)) begins
        ∙ ap (λ (s : Mapping). living_process parent (holdings_by first_belongings s.entries)) is)
        (restored_standing parent y b number same_room e)

-- ---- a process that has ended, more

pub ended_added : {R : List Record} {holders : List (Option ℕ)} {S : List Mapping}
    {D : List Belongings} {count room : ℕ} {now : Group} → group_shown S D R room ≡ now
    → ArePlaced R holders S D count room → (parent status : ℕ) (collected : Bool)
    {new : List Record}
    → new ≡ R ++ record { parent = parent; kept = Ended status collected } ∷ []
    → Stands new holders S D count room
    (record now { processes = now.processes ++ ended_process parent status collected ∷ [] })
ended_added {R} {holders} {S} {D} {count} {room} shows placed parent status collected {new} e =
    let r : Record = record { parent = parent; kept = Ended status collected } in
    record {
      shows = ap (λ ps. let g : Group = record { processes = ps; room = room } in g)
          (ap (processes_shown S D) e ∙ shown_ended_more S D R parent status collected)
          ∙ ap (λ (g : Group). let h : Group = record g {
            processes =
                g.processes ++ ended_process parent status collected ∷ [];
          } in h) shows;
      placed = record {
        held = subst (AreHeld holders 1) (sym e) (held_pushed holders 1 R r placed.held tt);
        holding = placed.holding;
        living = omega (
          arith,
          placed.living,
          ap (count_by is_placed) e,
          sum_by-append (λ (k : Record). counted (is_placed k)) R (r ∷ []),
        );
        holders_count = placed.holders_count;
        spaces_count = placed.spaces_count;
        belongings_count = placed.belongings_count;
        rooms = placed.rooms;
      };
    }

-- ---- no process

pub none_standing : (R : List Record) (S : List Mapping) (D : List Belongings) (room : ℕ) → R ≡ []
    → group_shown S D R room ≡ record { processes = []; room = room }
unfolding processes_shown
none_standing R S D room e =
    ap (λ (rs : List Record). let g : Group =
    record { processes = map (process_by (holdings_in S D)) rs; room = room } in g) e

pub placed_none : (R : List Record) (S : List Mapping) (D : List Belongings) (room : ℕ)
    → R ≡ [] → S ≡ replicate 32 (empty room) → D ≡ replicate 32 first_belongings
    → ArePlaced R (replicate 32 None) S D 0 room
placed_none R S D room none spaces ends = record {
  held = subst (AreHeld (replicate 32 None) 1) (sym none) tt;
  holding = refl;
  living = sym (ap (count_by is_placed) none);
  holders_count = refl;
  spaces_count = ap (λ (ss : List Mapping). length ss) spaces;
  belongings_count = ap (λ (ds : List Belongings). length ds) ends;
  rooms = subst (All (λ (s : Mapping). s.room ≡ room)) (sym spaces)
      (All-replicate (λ (s : Mapping). s.room ≡ room) 32 (empty room) refl);
}
