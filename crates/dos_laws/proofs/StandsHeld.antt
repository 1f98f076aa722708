-- What a process has changes, and a world goes on standing: descriptors, actions, marks of pages, a
-- child that is collected. 5, 6, 10, 15, 16.
use Rattle.std.proofs.Common.{ℕ, ◌-◌, ◌%◌, ◌<◌, ◌≤◌, ◌≡◌, ◌⊎◌, inl, inr, refl, sym, ◌∙◌, subst}
use Rattle.std.proofs.Common.{Bool, true, false, cond, not, List, [], ◌∷◌, length, map, Option}
use Rattle.std.proofs.Common.{Some, None, Ok, Err, arith, length-set}
use Rattle.std.specs.Prelude.{All, IfSome, IsFalse, ◌↔◌, ◌==◌, ◌||◌, ◌&&◌, nat_lt, slice_index_or}
use Rattle.std.specs.Prelude.{count_by, is_some}
use Rattle.std.specs.List.{list_any}
use Rattle.std.proofs.lemmas.Bool.{true≢false, false≢true, not-false, or_left, or_right, or_cases}
use Rattle.std.proofs.lemmas.Bool.{or_parts, and_parts, eqb-true, ltb-true}
use Rattle.std.proofs.lemmas.List.Elements.{All-nil, All-cons, All-head, All-tail, All-set}
use Rattle.dos_world.specs.Numbered.{numbered}
use Rattle.dos_world.specs.World.{World, Process, Holdings, Thread, all_holdings, live_process}
use Rattle.dos_world.specs.World.{on_holdings, with_holdings, thread_at, owner_of, code_unit}
use Rattle.dos_world.specs.Counts.{is_mapped, uses_of, is_open, has_reader, has_writer, reads_pipe}
use Rattle.dos_world.specs.Counts.{writes_pipe}
use Rattle.dos_world.specs.Calls.{Call, returns_in, refuses, replies}
use Rattle.dos_world.specs.Services.{action_of}
use Rattle.dos_world.specs.DescriptorCalls.{pipe}
use Rattle.dos_world.specs.MemoryCalls.{share, where_mapped, is_no_range, lacks_page, share_if}
use Rattle.dos_world.specs.MemoryCalls.{shared_in_pages, with_shared, in_pages}
use Rattle.dos_world.specs.SignalCalls.{sig_handler, is_signal, is_action, with_action}
use Rattle.dos_world.specs.Lawful.{Lawful, IsThread, AreHoldings, IsAction, IsAlone, IsByte, IsPage}
use Rattle.dos_world.specs.Lawful.{IsSleeper}
use Rattle.dos_world.specs.declared.Entry.{Entry}
use Rattle.dos_world.specs.declared.Owner.{Owner}
use Rattle.dos_world.specs.declared.Owner.TheVariants.{Free, Of}
use Rattle.dos_world.specs.declared.End.{End}
use Rattle.dos_world.proofs.UsualCalls.{held_all}
use Rattle.dos_world.proofs.Numbers.{length-changed}
use Rattle.dos_laws.specs.Standing.{LawfulWith}
use Rattle.dos_laws.proofs.Holders.{held_by, any_counts, counts_any, sum_changed, all_changed}
use Rattle.dos_laws.proofs.Holders.{live_changed_same, count_changed, parents_changed}
use Rattle.dos_laws.proofs.Holders.{statuses_changed}
use Rattle.dos_laws.proofs.Spaces.{pairs_from, pairs_to, pairs-mapped, all-mapped, Below}
use Rattle.dos_laws.proofs.Spaces.{OtherFrame, rising_from, rising_to, uses_in, uses-mapped}
use Rattle.dos_laws.proofs.Stands.{HasStatus}
use Rattle.dos_laws.proofs.Zeros.{AreZero}
use Rattle.dos_laws.proofs.StandsCalls.{StandsCall, Leaves, law, held, held_is, returns_in_stands}
use Rattle.dos_laws.proofs.StandsCalls.{refuses_stands, leaves_if}
use Rattle.dos_laws.proofs.StandsMasks.{handler_word}

-- ---- other owners, bytes and processes

-- what they must keep, so that the world with these in their place is lawful
pub record IsLaid (w : World) (owners : List Owner) (bytes : List ℕ)
    (ps : List Process) : Type 0 where
  pub places : length owners ≡ length w.owners
  pub count : length bytes ≡ length w.bytes
  pub range : All IsByte bytes
  pub free : (frame : ℕ) → frame < length w.owners
      → (slice_index_or owners frame Free ≡ Free) ↔ IsFalse
      (is_mapped (record w { processes = ps }) frame)
  pub zeros : AreZero owners bytes
  pub owned : (frame t : ℕ) → slice_index_or owners frame Free ≡ Of t
      → (1 ≤ t) × (t ≤ length w.threads)
  pub holdings : All (AreHoldings (length w.owners)) (all_holdings ps)
  pub private : All (λ h. All (IsAlone (record w { processes = ps })) h.space) (all_holdings ps)
  pub lives : (q : ℕ) → is_some (held_by ps q) ≡ is_some (held_by w.processes q)
  pub parents : (q : ℕ) → IfSome (numbered ps q) (λ process. process.parent < q)
  pub statuses : All HasStatus ps
  pub given : length ps ≡ length w.processes
  pub opens : (pipe : ℕ) → is_open w pipe ≡ true → is_open (record w { processes = ps }) pipe ≡ true
  pub limit : length (all_holdings ps) ≤ 32

pub lawful-laid : (w : World) (owners : List Owner) (bytes : List ℕ) (ps : List Process)
    → IsLaid w owners bytes ps → Lawful w
    → Lawful (record w { owners = owners; bytes = bytes; processes = ps })
lawful-laid w owners bytes ps are l = record {
  frames = record {
    bytes = (omega (arith, l.frames.bytes.0, are.count, are.places), are.range);
    free = λ frame lt. are.free frame (omega (arith, lt, are.places));
    zeros = are.zeros;
    owned = are.owned;
  };
  processes = record {
    holdings = subst (λ n. All (AreHoldings n) (all_holdings ps)) (sym are.places) are.holdings;
    private = are.private;
    populated = λ q lives. l.processes.populated q (sym (are.lives q) ∙ lives);
    parents = are.parents;
    statuses = are.statuses;
    given = (
      omega (arith, l.processes.given.0, are.given),
      omega (arith, l.processes.given.1, are.given),
    );
  };
  threads = record {
    ranges = λ t. ranged (thread_at w t) (l.threads.ranges t);
    asleep = l.threads.asleep;
    sleepers = subst (λ n. All (IsSleeper n) w.sleepers) (sym are.places) l.threads.sleepers;
  };
  pipes = record {
    ranges = l.pipes.ranges;
    closed =
        λ pipe shut. l.pipes.closed pipe (was_shut pipe (is_open w pipe) refl shut);
  };
  limits = record {
    threads = l.limits.threads;
    processes = are.limit;
    frames = (
      omega (arith, l.limits.frames.0, are.places),
      omega (arith, l.limits.frames.1, are.places),
    );
  };
  run = l.run;
}
  where
    ranged : (o : Option Thread) → IfSome o (IsThread w.processes) → IfSome o (IsThread ps)
    ranged None h = tt
    ranged (Some thread) h =
        record {
          process = are.lives thread.process ∙ h.process;
          registers = h.registers;
          pending =
              h.pending;
          mask = h.mask;
          saved = h.saved;
        }

    was_shut : (pipe : ℕ) (b : Bool) → is_open w pipe ≡ b
        → IsFalse (is_open (record w { processes = ps }) pipe) → b ≡ false
    was_shut pipe true e shut = absurd (true≢false (sym (are.opens pipe e) ∙ shut))
    was_shut pipe false e shut = refl

-- ---- what one process has, its frames the same

bool_same : (a b : Bool) → (a ≡ true → b ≡ true) → (b ≡ true → a ≡ true) → a ≡ b
bool_same true true f g = refl
bool_same true false f g = absurd (false≢true (f refl))
bool_same false true f g = absurd (false≢true (g refl))
bool_same false false f g = refl

pub record IsKeptBy (w : World) (p : ℕ) (h : Holdings) (f : Holdings → Holdings) : Type 0 where
  pub is : live_process w p ≡ Some h
  pub are : AreHoldings (length w.owners) (f h)
  pub frames : (frame : ℕ) → uses_in frame (f h).space ≡ uses_in frame h.space
  pub alone : All (IsAlone w) (f h).space
  pub reads : (pipe : ℕ)
      → count_by (reads_pipe pipe) h.descriptors ≤ count_by (reads_pipe pipe) (f h).descriptors
  pub writes : (pipe : ℕ)
      → count_by (writes_pipe pipe) h.descriptors ≤ count_by (writes_pipe pipe) (f h).descriptors

module _ (w : World) (p : ℕ) (h : Holdings) (f : Holdings → Holdings) (k : IsKeptBy w p h f) where
  abbrev v : World
  v = with_holdings w p f

  uses_same : (frame : ℕ) → uses_of v frame ≡ uses_of w frame
  uses_same frame =
      omega (arith, sum_changed f (λ x. uses_in frame x.space) w.processes p h k.is, k.frames frame)

  mapped_same : (frame : ℕ) → is_mapped v frame ≡ is_mapped w frame
  mapped_same frame = bool_same (is_mapped v frame) (is_mapped w frame)
      (λ e. counts_any (λ x. x.1.frame == frame) (λ x. x.space) (all_holdings w.processes)
      (omega (
        arith,
        uses_same frame,
        any_counts (λ (x : ℕ × Entry). x.1.frame == frame)
            (λ (x : Holdings). x.space) (all_holdings v.processes) e,
      )))
      (λ e. counts_any (λ x. x.1.frame == frame) (λ x. x.space) (all_holdings v.processes)
      (omega (
        arith,
        uses_same frame,
        any_counts (λ (x : ℕ × Entry). x.1.frame == frame)
            (λ (x : Holdings). x.space) (all_holdings w.processes) e,
      )))

  held_more : (test : Option End → Bool)
      → count_by test h.descriptors ≤ count_by test (f h).descriptors
      → list_any (λ x. list_any test x.descriptors) (all_holdings w.processes) ≡ true
      → list_any (λ x. list_any test x.descriptors) (all_holdings v.processes) ≡ true
  held_more test more e =
      counts_any test (λ x. x.descriptors) (all_holdings v.processes)
      (omega (
        arith,
        sum_changed f (λ x. count_by test x.descriptors) w.processes p h k.is,
        more,
        any_counts test (λ x. x.descriptors) (all_holdings w.processes) e,
      ))

  opens_more : (pipe : ℕ) → is_open w pipe ≡ true → is_open v pipe ≡ true
  opens_more pipe e = by_end (or_cases (has_reader w pipe) (has_writer w pipe) e)
    where
      by_end : (has_reader w pipe ≡ true) ⊎ (has_writer w pipe ≡ true) → is_open v pipe ≡ true
      by_end (inl read) =
          or_left (has_reader v pipe) (has_writer v pipe)
          (held_more (reads_pipe pipe) (k.reads pipe) read)
      by_end (inr written) =
          or_right (has_reader v pipe) (has_writer v pipe)
          (held_more (writes_pipe pipe) (k.writes pipe) written)

  alone_new : (space : List (ℕ × Entry)) → All (IsAlone w) space → All (IsAlone v) space
  alone_new [] all = All-nil (IsAlone v)
  alone_new (e ∷ space) all =
      All-cons (IsAlone v) e space
      (λ private. uses_same e.1.frame ∙ All-head (IsAlone w) e space all private)
      (alone_new space (All-tail (IsAlone w) e space all))

  pub stands-with_holdings : (ts : List ℕ) → LawfulWith ts w → LawfulWith ts v
  stands-with_holdings ts s = record {
    lawful = lawful-laid w w.owners w.bytes v.processes (record {
      places = refl;
      count = refl;
      range = s.lawful.frames.bytes.1;
      free = λ frame lt.
          subst (λ b. (owner_of w frame ≡ Free) ↔ IsFalse b) (sym (mapped_same frame))
          (s.lawful.frames.free frame lt);
      zeros = s.lawful.frames.zeros;
      owned = s.lawful.frames.owned;
      holdings =
          all_changed f (AreHoldings (length w.owners)) (AreHoldings (length w.owners)) (λ x is. is)
          w.processes p h k.is k.are s.lawful.processes.holdings;
      private =
          all_changed f (λ x. All (IsAlone w) x.space) (λ x. All (IsAlone v) x.space)
          (λ x all. alone_new x.space all) w.processes p h k.is (alone_new (f h).space k.alone)
          s.lawful.processes.private;
      lives = live_changed_same f w.processes p;
      parents = parents_changed f w.processes p s.lawful.processes.parents;
      statuses = statuses_changed f w.processes p s.lawful.processes.statuses;
      given = length-changed (on_holdings f) w.processes p;
      opens = opens_more;
      limit = omega (arith, count_changed f w.processes p, s.lawful.limits.processes);
    }) s.lawful;
    awake = s.awake;
    apart = s.apart;
  }

-- ---- 16 and 15

action_is : (a : ℕ) → is_action a ≡ true → IsAction a
action_is a e = by_case (or_cases (a == 1) ((a % code_unit == 0) && nat_lt a 0xF0000000) e)
  where
    by_case : ((a == 1) ≡ true) ⊎ (((a % code_unit == 0) && nat_lt a 0xF0000000) ≡ true)
        → IsAction a
    by_case (inl one) = inl (eqb-true a 1 one)
    by_case (inr place) =
        let both = and_parts (a % code_unit == 0) (nat_lt a 0xF0000000) place in
        inr (eqb-true (a % code_unit) 0 both.0, ltb-true a 0xF0000000 both.1)

module _ (ts : List ℕ) (c : Call) (call : StandsCall ts c) where
  abbrev pub h : Holdings
  h = (held ts c call).0

  pub alone : All (IsAlone c.world) h.space
  alone =
      held_all (λ x. All (IsAlone c.world) x.space) c.world.processes c.process h
      (law ts c call).processes.private (held ts c call).1

  pub sig_handler_stands : Leaves ts c call (sig_handler c)
  sig_handler_stands =
      let former : ℕ = action_of c.world c.process c.a0 in
      leaves_if ts c call (not (is_signal c.a0) || (c.a0 == 9) || not (is_action c.a1))
      (refuses 22 c) (returns_in (with_holdings c.world c.process (with_action c.a0 c.a1)) former c)
      (λ bad. refuses_stands ts c call 22 (omega arith))
      (λ good.
      let is = held_is ts c call in
      let parts = or_parts (not (is_signal c.a0) || (c.a0 == 9)) (not (is_action c.a1)) good in
      let action : IsAction c.a1 = action_is c.a1 (not-false (is_action c.a1) parts.1) in
      returns_in_stands ts c call (with_holdings c.world c.process (with_action c.a0 c.a1)) former
      (handler_word (c.thread ∷ ts) c.world c.thread call.stands c.process c.a0)
      (stands-with_holdings c.world c.process h (with_action c.a0 c.a1) (record {
        is = (held ts c call).1;
        are = record {
          actions = (
            length-set h.actions (c.a0 - 1) c.a1
                ∙ is.actions.0,
            All-set IsAction h.actions (c.a0 - 1) c.a1 action is.actions.1,
          );
          descriptors = is.descriptors;
          rising = is.rising;
          pages = is.pages;
          apart =
              is.apart;
        };
        frames = λ frame. refl;
        alone = alone;
        reads = λ pipe. omega arith;
        writes = λ pipe. omega arith;
      }) (c.thread ∷ ts) call.stands))

  share_frame : (b : Bool) (e : Entry) → (share_if b e).frame ≡ e.frame
  share_frame true e = refl
  share_frame false e = refl

  share_alone : (b : Bool) (page : ℕ) (e : Entry) → IsAlone c.world (page, e)
      → IsAlone c.world (page, share_if b e)
  share_alone true page e is = λ private. absurd (true≢false private)
  share_alone false page e is = is

  shared_stands : LawfulWith (c.thread ∷ ts) (with_holdings c.world c.process (with_shared c))
  shared_stands =
      let is = held_is ts c call in
      let same : (e : ℕ × Entry) → (shared_in_pages c e).1.frame ≡ e.1.frame =
      λ e. share_frame (in_pages c e) e.1 in
      stands-with_holdings c.world c.process h (with_shared c) (record {
        is = (held ts c call).1;
        are = record {
          actions = is.actions;
          descriptors = is.descriptors;
          rising =
              rising_to (map (shared_in_pages c) h.space)
              (pairs-mapped Below Below (shared_in_pages c) (λ a b less. less) h.space
              (rising_from h.space is.rising));
          pages =
              all-mapped (IsPage (length c.world.owners)) (IsPage (length c.world.owners))
              (shared_in_pages c)
              (λ e page. (
                page.0,
                page.1,
                subst (λ n. n < length c.world.owners)
                    (sym (same e)) page.2,
              ))
              h.space is.pages;
          apart =
              pairs_to OtherFrame (map (shared_in_pages c) h.space)
              (pairs-mapped OtherFrame OtherFrame (shared_in_pages c)
              (λ a b other e. other (sym (same a) ∙ e ∙ same b)) h.space
              (pairs_from OtherFrame h.space is.apart));
        };
        frames = λ frame. uses-mapped frame (shared_in_pages c) same h.space;
        alone =
            all-mapped (IsAlone c.world) (IsAlone c.world) (shared_in_pages c)
            (λ e is. share_alone (in_pages c e) e.0 e.1 is) h.space alone;
        reads = λ pipe. omega arith;
        writes = λ pipe. omega arith;
      }) (c.thread ∷ ts) call.stands

  -- a service of a range that is mapped
  pub where_mapped_stands : (w : World) → LawfulWith (c.thread ∷ ts) w
      → Leaves ts c call (replies (where_mapped c w) 0 c)
  where_mapped_stands w k = by_tests (is_no_range c) (lacks_page c)
    where
      by_tests : (a b : Bool)
          → Leaves ts c call (replies (cond a (Err 22) (cond b (Err 22) (Ok w))) 0 c)
      by_tests true b = refuses_stands ts c call 22 (omega arith)
      by_tests false true = refuses_stands ts c call 22 (omega arith)
      by_tests false false = returns_in_stands ts c call w 0 (omega arith) k

  pub share_stands : Leaves ts c call (share c)
  share_stands = where_mapped_stands (with_holdings c.world c.process (with_shared c)) shared_stands
