-- The service map keeps a world standing: each page gets a fresh frame. 13.
use Rattle.std.proofs.Common.{ℕ, zero, suc, ◌+◌, ◌*◌, ◌/◌, ◌%◌, ◌<◌, ◌≤◌, ◌≡◌, ◌≢◌, ◌⊎◌, inl, inr}
use Rattle.std.proofs.Common.{refl, sym, ap, ◌∙◌, subst, Bool, true, false, cond, not, List, []}
use Rattle.std.proofs.Common.{◌∷◌, length, Option, Some, None, Result, Ok, Err, arith, length-set}
use Rattle.std.proofs.Common.{eq-eqb}
use Rattle.std.specs.Prelude.{All, IsFalse, ◌↔◌, ◌==◌, ◌&&◌, nat_lt, nat_le, is_some, count_by}
use Rattle.std.specs.List.{list_any}
use Rattle.std.proofs.lemmas.Bool.{cases_eq, true≢false, ne_eqb, or_cases, or_left, or_right}
use Rattle.std.proofs.lemmas.Bool.{or_parts, and_parts, eqb-true, leb-true, ltb-false}
use Rattle.std.proofs.lemmas.List.{get_or-set_same, get_or-set_other}
use Rattle.std.proofs.lemmas.List.Elements.{All-nil, All-cons, All-head, All-tail}
use Rattle.dos_world.specs.Numbered.{run_of}
use Rattle.dos_world.specs.World.{World, Holdings, all_holdings, live_process, look, on_holdings}
use Rattle.dos_world.specs.World.{owner_of}
use Rattle.dos_world.specs.Counts.{is_mapped, uses_of, is_open, has_reader, has_writer, reads_pipe}
use Rattle.dos_world.specs.Counts.{writes_pipe, free_frames, lowest_free_frame}
use Rattle.dos_world.specs.Kernel.{with_entry, put}
use Rattle.dos_world.specs.Calls.{Call, replies}
use Rattle.dos_world.specs.MemoryCalls.{map_pages, page_mapped, mapped_fresh, pages_of, is_range}
use Rattle.dos_world.specs.MemoryCalls.{maps_page, is_page_mapped, private_entry}
use Rattle.dos_world.specs.Lawful.{AreHoldings, IsAlone, IsPage}
use Rattle.dos_world.specs.declared.Entry.{Entry}
use Rattle.dos_world.specs.declared.End.{End}
use Rattle.dos_world.specs.declared.Owner.TheVariants.{Free, Of}
use Rattle.dos_world.proofs.UsualCalls.{held_all}
use Rattle.dos_world.proofs.Numbers.{length-changed}
use Rattle.dos_laws.specs.Standing.{LawfulWith}
use Rattle.dos_laws.proofs.Holders.{any_counts, counts_any, has_changed, sum_changed, all_changed}
use Rattle.dos_laws.proofs.Holders.{live_changed_same, count_changed, parents_changed}
use Rattle.dos_laws.proofs.Holders.{statuses_changed}
use Rattle.dos_laws.proofs.Spaces.{OtherFrame, pairs_from, pairs_to, rising_from, rising_to}
use Rattle.dos_laws.proofs.Spaces.{uses_in, uses-put, unused, all-put, rising-put, apart-put}
use Rattle.dos_laws.proofs.Spaces.{look-put, unmapped_page}
use Rattle.dos_laws.proofs.StandsHeld.{lawful-laid}
use Rattle.dos_laws.proofs.StandsFrames.{lowest_is, one_taken, free_unused, none_of_sum}
use Rattle.dos_laws.proofs.Zeros.{zeros_taken}
use Rattle.dos_laws.proofs.StandsCalls.{StandsCall, Leaves, held, thread_within, returns_in_stands}
use Rattle.dos_laws.proofs.StandsCalls.{refuses_stands}

-- ---- one page more

-- a page may be mapped: there is a free frame, the page is in range and isn't mapped yet
pub record MayMap (w : World) (t p page : ℕ) (h : Holdings) : Type 0 where
  pub given : (1 ≤ t) × (t ≤ length w.threads)
  pub is : live_process w p ≡ Some h
  pub room : 0 < free_frames w
  pub low : 0x1 ≤ page
  pub high : page ≤ 0xEFFFF
  pub fresh : is_some (look h.space page) ≡ false

module _ (w : World) (t p rights page : ℕ) (h : Holdings) (may : MayMap w t p page h) (ts : List ℕ)
    (k : LawfulWith ts w) where
  abbrev frame : ℕ
  frame = lowest_free_frame w

  abbrev entry : Entry
  entry = private_entry frame rights

  abbrev f : Holdings → Holdings
  f = with_entry page entry

  abbrev v : World
  v = page_mapped t p rights w page

  there : (frame < length w.owners) × (owner_of w frame ≡ Free)
  there = lowest_is w.owners may.room

  nobody : uses_of w frame ≡ 0
  nobody = free_unused w frame k.lawful there.0 there.1

  uses_new : (g : ℕ) → uses_of v g ≡ cond (frame == g) 1 0 + uses_of w g
  uses_new g =
      omega (
        arith,
        sum_changed f (λ x. uses_in g x.space) w.processes p h may.is,
        uses-put g page entry h.space,
      )

  owner_here : owner_of v frame ≡ Of t
  owner_here = get_or-set_same w.owners frame (Of t) Free there.0

  owner_other : (g : ℕ) → g ≢ frame → owner_of v g ≡ owner_of w g
  owner_other g other = get_or-set_other w.owners frame g (Of t) Free other

  other_uses : (g : ℕ) → g ≢ frame → uses_of v g ≡ uses_of w g
  other_uses g other =
      let none : cond {A = ℕ} (frame == g) 1 0 ≡ 0 =
      ap (λ b. cond {A = ℕ} b 1 0) (ne_eqb frame g (λ e. other (sym e))) in
      omega (arith, uses_new g, none)

  here_uses : uses_of v frame ≡ 1
  here_uses =
      let one : cond {A = ℕ} (frame == frame) 1 0 ≡ 1 =
      ap (λ b. cond {A = ℕ} b 1 0) (eq-eqb frame frame refl) in
      omega (arith, uses_new frame, one, nobody)

  used_mapped : (u : World) (g : ℕ) → 0 < uses_of u g → is_mapped u g ≡ true
  used_mapped u g used =
      counts_any (λ (x : ℕ × Entry). x.1.frame == g) (λ (x : Holdings). x.space)
      (all_holdings u.processes) used

  mapped_used : (u : World) (g : ℕ) → is_mapped u g ≡ true → 0 < uses_of u g
  mapped_used u g e =
      any_counts (λ (x : ℕ × Entry). x.1.frame == g) (λ (x : Holdings). x.space)
      (all_holdings u.processes) e

  free_new : (g : ℕ) → g < length w.owners → (owner_of v g ≡ Free) ↔ IsFalse (is_mapped v g)
  free_new g lt = by_frame (cases_eq g frame)
    where
      by_frame : (g ≡ frame) ⊎ (g ≡ frame → ⊥) → (owner_of v g ≡ Free) ↔ IsFalse (is_mapped v g)
      by_frame (inl same) =
          subst (λ n. (owner_of v n ≡ Free) ↔ IsFalse (is_mapped v n)) (sym same) (
            (λ free. let both : Of t ≡ Free = sym owner_here ∙ free in cc),
            (λ none. absurd
                (true≢false (sym (used_mapped v frame (omega (arith, here_uses))) ∙ none))),
          )
      by_frame (inr other) =
          let was = k.lawful.frames.free g lt in (
            (λ free. by_mapped (is_mapped v g) refl (was.0 (sym (owner_other g other) ∙ free))),
            (λ none. owner_other g other ∙ was.1 (was_not (is_mapped w g) refl none)),
          )
        where
          by_mapped : (b : Bool) → is_mapped v g ≡ b → is_mapped w g ≡ false → b ≡ false
          by_mapped true e none =
              absurd
              (true≢false
              (sym (used_mapped w g (omega (arith, other_uses g other, mapped_used v g e))) ∙ none))
          by_mapped false e none = refl

          was_not : (b : Bool) → is_mapped w g ≡ b → is_mapped v g ≡ false → b ≡ false
          was_not true e none =
              absurd
              (true≢false
              (sym (used_mapped v g (omega (arith, other_uses g other, mapped_used w g e))) ∙ none))
          was_not false e none = refl

  owned_new : (g s : ℕ) → owner_of v g ≡ Of s → (1 ≤ s) × (s ≤ length w.threads)
  owned_new g s e = by_frame (cases_eq g frame)
    where
      by_frame : (g ≡ frame) ⊎ (g ≡ frame → ⊥) → (1 ≤ s) × (s ≤ length w.threads)
      by_frame (inl same) =
          let both : Of t ≡ Of s = sym owner_here ∙ ap (owner_of v) (sym same) ∙ e in
          let is : t ≡ s = cc in
          let given = may.given in (omega (arith, is, given.0), omega (arith, is, given.1))
      by_frame (inr other) = k.lawful.frames.owned g s (sym (owner_other g other) ∙ e)

  were : AreHoldings (length w.owners) h
  were = held_all (AreHoldings (length w.owners)) w.processes p h k.lawful.processes.holdings may.is

  -- nobody has the frame
  none_has : All (λ x. uses_in frame x.space ≡ 0) (all_holdings w.processes)
  none_has = none_of_sum (λ x. uses_in frame x.space) (all_holdings w.processes) nobody

  here_none : uses_in frame h.space ≡ 0
  here_none = held_all (λ x. uses_in frame x.space ≡ 0) w.processes p h none_has may.is

  are : AreHoldings (length w.owners) (f h)
  are = record {
    actions = were.actions;
    descriptors = were.descriptors;
    rising =
        rising_to (put page entry h.space)
        (rising-put page entry h.space (unmapped_page page h.space may.fresh)
        (rising_from h.space were.rising));
    pages =
        all-put (IsPage (length w.owners)) page entry h.space (may.low, may.high, there.0)
        were.pages;
    apart =
        pairs_to OtherFrame (put page entry h.space)
        (apart-put page entry h.space (unused frame h.space here_none)
        (pairs_from OtherFrame h.space were.apart));
  }

  alone_still : (space : List (ℕ × Entry)) → uses_in frame space ≡ 0 → All (IsAlone w) space
      → All (IsAlone v) space
  alone_still space none all = both_all space (unused frame space none) all
    where
      both_all : (xs : List (ℕ × Entry)) → All (λ e. e.1.frame ≢ frame) xs → All (IsAlone w) xs
          → All (IsAlone v) xs
      both_all [] others all = All-nil (IsAlone v)
      both_all (e ∷ xs) others all =
          All-cons (IsAlone v) e xs
          (λ private. other_uses e.1.frame (All-head (λ x. x.1.frame ≢ frame) e xs others)
          ∙ All-head (IsAlone w) e xs all private)
          (both_all xs (All-tail (λ x. x.1.frame ≢ frame) e xs others)
          (All-tail (IsAlone w) e xs all))

  -- what each has, with its entries alone and none of the new frame
  abbrev HasOthers : Holdings → Type 0
  HasOthers x = (uses_in frame x.space ≡ 0) × All (IsAlone w) x.space

  have_others : (hs : List Holdings) → All (λ x. uses_in frame x.space ≡ 0) hs
      → All (λ x. All (IsAlone w) x.space) hs → All HasOthers hs
  have_others [] none all = All-nil HasOthers
  have_others (x ∷ xs) none all =
      All-cons HasOthers x xs (
        All-head (λ y. uses_in frame y.space ≡ 0) x xs none,
        All-head (λ y. All (IsAlone w) y.space) x xs all,
      )
      (have_others xs (All-tail (λ y. uses_in frame y.space ≡ 0) x xs none)
      (All-tail (λ y. All (IsAlone w) y.space) x xs all))

  private_new : All (λ x. All (IsAlone v) x.space) (all_holdings v.processes)
  private_new =
      all_changed f HasOthers (λ x. All (IsAlone v) x.space)
      (λ x has. alone_still x.space has.0 has.1) w.processes p h may.is
      (all-put (IsAlone v) page entry h.space (λ private. here_uses)
      (alone_still h.space here_none
      (held_all
      (λ x. All (IsAlone w) x.space) w.processes p h k.lawful.processes.private
      may.is)))
      (have_others (all_holdings w.processes) none_has k.lawful.processes.private)

  ends_same : (test : Option End → Bool)
      → list_any (λ x. list_any test x.descriptors) (all_holdings w.processes) ≡ true
      → list_any (λ x. list_any test x.descriptors) (all_holdings v.processes) ≡ true
  ends_same test e =
      counts_any test (λ x. x.descriptors) (all_holdings v.processes)
      (omega (
        arith,
        sum_changed f (λ x. count_by test x.descriptors) w.processes p h may.is,
        any_counts test (λ x. x.descriptors) (all_holdings w.processes) e,
      ))

  opens_same : (pipe : ℕ) → is_open w pipe ≡ true → is_open v pipe ≡ true
  opens_same pipe e = by_end (or_cases (has_reader w pipe) (has_writer w pipe) e)
    where
      by_end : (has_reader w pipe ≡ true) ⊎ (has_writer w pipe ≡ true) → is_open v pipe ≡ true
      by_end (inl read) =
          or_left (has_reader v pipe) (has_writer v pipe) (ends_same (reads_pipe pipe) read)
      by_end (inr written) =
          or_right (has_reader v pipe) (has_writer v pipe) (ends_same (writes_pipe pipe) written)

  pub stands-page_mapped : LawfulWith ts v
  stands-page_mapped =
      let l = k.lawful in
      record {
        lawful = lawful-laid w v.owners w.bytes v.processes (record {
          places = length-set w.owners frame (Of t);
          count = refl;
          range = l.frames.bytes.1;
          free = free_new;
          zeros = zeros_taken w.owners w.bytes frame t there.0 l.frames.zeros;
          owned = owned_new;
          holdings =
              all_changed f (AreHoldings (length w.owners)) (AreHoldings (length w.owners))
              (λ x is. is) w.processes p h may.is are l.processes.holdings;
          private = private_new;
          lives = live_changed_same f w.processes p;
          parents = parents_changed f w.processes p l.processes.parents;
          statuses = statuses_changed f w.processes p l.processes.statuses;
          given = length-changed (on_holdings f) w.processes p;
          opens = opens_same;
          limit = omega (arith, count_changed f w.processes p, l.limits.processes);
        }) l;
        awake = k.awake;
        apart = k.apart;
      }

  -- what is left: a frame less is free, and the process has the page
  pub fewer_free : free_frames v + 1 ≡ free_frames w
  fewer_free = one_taken w.owners frame t there.0 there.1

  pub has_page : live_process v p ≡ Some (f h)
  has_page = has_changed f w.processes p h may.is

-- ---- a run of pages

module _ (c : Call) (ts : List ℕ) where
  pub stands-mapped : (n a : ℕ) (w : World) (h : Holdings) → LawfulWith ts w
      → (1 ≤ c.thread) × (c.thread ≤ length w.threads) → live_process w c.process ≡ Some h
      → n ≤ free_frames w → 0x1 ≤ a → a + n ≤ 0xF0000
      → ((page : ℕ) → a ≤ page → page < a + n → is_some (look h.space page) ≡ false)
      → LawfulWith ts (mapped_fresh c w (run_of a n))
  stands-mapped zero a w h k given is room low high fresh = k
  stands-mapped (suc n) a w h k given is room low high fresh =
      let may : MayMap w c.thread c.process a h =
      record {
        given = given;
        is = is;
        room = omega (arith, room);
        low = low;
        high =
            omega (arith, high);
        fresh = fresh a (omega arith) (omega arith);
      } in
      stands-mapped n (suc a) (page_mapped c.thread c.process c.a2 w a)
      (with_entry a (private_entry (lowest_free_frame w) c.a2) h)
      (stands-page_mapped w c.thread c.process c.a2 a h may ts k) given
      (has_page w c.thread c.process c.a2 a h may ts k)
      (omega (arith, room, fewer_free w c.thread c.process c.a2 a h may ts k)) (omega arith)
      (omega (arith, high))
      (λ page from to. ap is_some
      (look-put a page (private_entry (lowest_free_frame w) c.a2) h.space
      (λ e. absurd (omega arith))) ∙ fresh page (omega arith) (omega arith))

-- where a test passes nowhere in a run, it fails at each
fails_each : (test : ℕ → Bool) (a n : ℕ) → list_any test (run_of a n) ≡ false → (k : ℕ) → a ≤ k
    → k < a + n → test k ≡ false
fails_each test a zero e k from to = absurd (omega arith)
fails_each test a (suc n) e k from to =
    by_first (or_parts (test a) (list_any test (run_of (suc a) n)) e) (cases_eq k a)
    (λ rest more. fails_each test (suc a) n rest k more (omega arith))
  where
    by_first : (test a ≡ false) × (list_any test (run_of (suc a) n) ≡ false) → (k ≡ a) ⊎ (k ≡ a → ⊥)
        → (list_any test (run_of (suc a) n) ≡ false → suc a ≤ k → test k ≡ false) → test k ≡ false
    by_first both (inl same) rest = ap test same ∙ both.0
    by_first both (inr other) rest = rest both.1 (omega arith)

module _ (ts : List ℕ) (c : Call) (call : StandsCall ts c) where
  pub map_stands : Leaves ts c call (map_pages c)
  map_stands = by_range (is_range c && nat_le c.a2 7) refl
    where
      go : Bool → Bool → Bool → Result World ℕ
      go a b d =
          cond (not a) (Err 22)
          (cond b (Err 22) (cond d (Err 12) (Ok (mapped_fresh c c.world (pages_of c)))))

      by_tests : is_range c ≡ true → (b d : Bool) → maps_page c ≡ b
          → nat_lt (free_frames c.world) c.a1 ≡ d → Leaves ts c call (replies (go true b d) 0 c)
      by_tests range true d e g = refuses_stands ts c call 22 (omega arith)
      by_tests range false true e g = refuses_stands ts c call 12 (omega arith)
      by_tests range false false e g =
          let n = thread_within ts c call in
          let h = held ts c call in
          let one =
          and_parts ((c.a0 % 4096 == 0) && nat_lt 0 c.a1 && nat_le 0x1000 c.a0)
          (nat_le (c.a0 + 4096 * c.a1) 0xF0000000) range in
          let two = and_parts ((c.a0 % 4096 == 0) && nat_lt 0 c.a1) (nat_le 0x1000 c.a0) one.0 in
          let three = and_parts (c.a0 % 4096 == 0) (nat_lt 0 c.a1) two.0 in
          let even : c.a0 % 4096 ≡ 0 = eqb-true (c.a0 % 4096) 0 three.0 in
          let low : 0x1000 ≤ c.a0 = leb-true 0x1000 c.a0 two.1 in
          let high : c.a0 + 4096 * c.a1 ≤ 0xF0000000 =
          leb-true (c.a0 + 4096 * c.a1) 0xF0000000 one.1 in
          returns_in_stands ts c call (mapped_fresh c c.world (pages_of c)) 0 (omega arith)
          (stands-mapped c (c.thread ∷ ts) c.a1 (c.a0 / 4096) c.world h.0 call.stands (n.0, n.1) h.1
          (ltb-false (free_frames c.world) c.a1 g) (omega (arith, low))
          (omega (arith, high, even))
          (λ page from to.
          ap (λ o.
          is_some
          (look (elim o as (λ _. List (ℕ × Entry)) [ None ↦ [] | Some x ↦ x.space ])
          page)) (sym h.1)
          ∙ fails_each (is_page_mapped c) (c.a0 / 4096) c.a1 e page from to))

      by_range : (a : Bool) → (is_range c && nat_le c.a2 7) ≡ a
          → Leaves ts c call (replies (go a (maps_page c) (nat_lt (free_frames c.world) c.a1)) 0 c)
      by_range true e =
          by_tests (and_parts (is_range c) (nat_le c.a2 7) e).0 (maps_page c)
          (nat_lt (free_frames c.world) c.a1) refl refl
      by_range false e = refuses_stands ts c call 22 (omega arith)
