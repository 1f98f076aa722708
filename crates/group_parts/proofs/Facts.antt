-- What a saved group in a lawful world gives those that build a kernel's state of it.
use Rattle.std.proofs.Common.{◌≡◌, ℕ, zero, suc, ◌+◌, ◌*◌, ◌<◌, ◌≤◌, Bool, true, false}
use Rattle.std.proofs.Common.{cond}
use Rattle.std.proofs.Common.{List, [], ◌∷◌, ◌++◌, length, map, get_or, set, slice_get}
use Rattle.std.proofs.Common.{refl, sym, ap, subst, ◌∙◌, arith, Option, Some, None}
use Rattle.std.proofs.Common.{append_assoc}
use Rattle.std.proofs.Common.{length-append, get_or-set_other, inl, inr}
use Rattle.std.specs.Prelude.{All, IfSome, is_some, count_by, ◌==◌}
use Rattle.std.specs.Prelude.{nat_lt}
use Rattle.std.specs.Global.{Vec}
use Rattle.std.specs.List.{list_any}
use Rattle.std.proofs.lemmas.Bool.{cases_eq, eq-eqb}
use Rattle.std.proofs.lemmas.Bool.Decides.{nat_tests}
use Rattle.std.proofs.lemmas.List.{length-map, append-nil}
use Rattle.std.proofs.lemmas.List.Sums.{sum_by-set, count_by-le-length}
use Rattle.std.proofs.lemmas.List.Elements.{All-nil, All-cons, All-head, All-tail}
use Rattle.dos_world.specs.Numbered.{places_from}
use Rattle.dos_world.specs.World.{Process, Life, live, ended, Thread, Sleeper}
use Rattle.dos_world.specs.World.{World, all_holdings, flat, is_state}
use Rattle.dos_world.specs.declared.ThreadState.TheVariants.{Asleep}
use Rattle.dos_world.specs.Counts.{reads_pipe, writes_pipe}
use Rattle.dos_world.specs.Lawful.{Lawful, AreHoldings, IsPipe, turns_asleep}
use Rattle.dos_world.specs.declared.End.{End}
use Rattle.kernel_objects.specs.Pipework.{FitsPipe, vector_bytes}
use Rattle.proc_table.specs.Spread.{AreRising, spread}
use Rattle.proc_table.specs.Tables.{Tables, process_restored}
use Rattle.proc_table.proofs.Spread.{spread_length}
use Rattle.group_text.specs.GroupText as row
use Rattle.group_text.specs.Groups.{world_in}
use Rattle.group_text.specs.Records.{group_of_record, process_of_record as process_of}
use Rattle.group_text.specs.Records.{recorded_holdings as held_of, thread_of_record as thread_of}
use Rattle.group_text.specs.Records.{frame_of_record, sleeper_of_record}
use Rattle.group_text.specs.declared.records.ProcessRecord.{ProcessRecord}
use Rattle.group_text.specs.declared.records.ThreadRecord.{ThreadRecord}
use Rattle.group_text.specs.declared.records.GroupRecord.{GroupRecord}
use Rattle.lawful_groups.proofs.FrameLaws.{any_counted, count-cons}
use Rattle.lawful_groups.proofs.RangeLaws.{in_range, many_count, threads_range, ThreadInRange}
use Rattle.lawful_groups.proofs.FitsLaws.{few_pages}
use Rattle.group_parts.specs.PipeEnds.{AreShut, HasFewEnds, HaveFewEnds, all_ends, end_test}
use Rattle.group_parts.specs.PipeEnds.{own_ends}
use Rattle.group_parts.specs.Restoring.{AreRestorable, IsHolding, all_restored}

-- ---- what processes have

-- what is known of a process where it lives
abbrev pub Holds : ℕ → ProcessRecord → Type 0
Holds frames r = r.status ≡ None → AreHoldings frames (held_of r)

module _ (frames : ℕ) where
  pub each_holds : (rs : List ProcessRecord)
      → All (AreHoldings frames) (all_holdings (map process_of rs)) → All (Holds frames) rs
  each_holds [] all = All-nil (Holds frames)
  each_holds (r ∷ rs) all = by (λ a. each_holds rs a) r.status refl
    where
      by : (All (AreHoldings frames) (all_holdings (map process_of rs)) → All (Holds frames) rs)
          → (s : Option ℕ) → r.status ≡ s → All (Holds frames) (r ∷ rs)
      by rest None e =
          let are : All (AreHoldings frames) (held_of r ∷ all_holdings (map process_of rs)) =
          subst (All (AreHoldings frames)) (here e) all in
          All-cons (Holds frames) r rs
          (λ lives.
          All-head (AreHoldings frames) (held_of r) (all_holdings (map process_of rs)) are)
          (rest
          (All-tail (AreHoldings frames) (held_of r) (all_holdings (map process_of rs)) are))
        where
          here : r.status ≡ None
              → all_holdings (map process_of (r ∷ rs))
              ≡ held_of r ∷ all_holdings (map process_of rs)
          here e = rw e refl
      by rest (Some status) e =
          All-cons (Holds frames) r rs
          (λ lives. let both : Some status ≡ None = sym e ∙ lives in cc)
          (rest (subst (All (AreHoldings frames)) (here e) all))
        where
          here : r.status ≡ Some status
              → all_holdings (map process_of (r ∷ rs)) ≡ all_holdings (map process_of rs)
          here e = rw e refl

-- ---- ends of pipes

pub few_ends : (frames : ℕ) (r : ProcessRecord) → Holds frames r → HasFewEnds r
few_ends frames r holds lives = omega (arith, (holds lives).descriptors.0)

-- at most 32 a process that lives
ends_bound : (test : Option End → Bool) (rs : List ProcessRecord) → All HasFewEnds rs
    → all_ends test rs ≤ 32 * length (all_holdings (map process_of rs))
ends_bound test [] all = omega arith
ends_bound test (r ∷ rs) all =
    by (ends_bound test rs (All-tail HasFewEnds r rs all)) r.status refl
  where
    by : all_ends test rs ≤ 32 * length (all_holdings (map process_of rs))
        → (s : Option ℕ) → r.status ≡ s
        → all_ends test (r ∷ rs) ≤ 32 * length (all_holdings (map process_of (r ∷ rs)))
    by rest None e =
        let few : length r.ends.items ≤ 32 = All-head HasFewEnds r rs all e in
        rw e (omega (arith, few, rest, count_by-le-length test r.ends.items))
    by rest (Some status) e = rw e (omega (arith, rest))

-- where none is counted none is there
no_ends : (test : Option End → Bool) (rs : List ProcessRecord) → all_ends test rs ≡ 0
    → list_any (λ h. list_any test h.descriptors) (all_holdings (map process_of rs)) ≡ false
no_ends test [] none = refl
no_ends test (r ∷ rs) none = by (λ z. no_ends test rs z) r.status refl none
  where
    by : (all_ends test rs ≡ 0
        → list_any (λ h. list_any test h.descriptors) (all_holdings (map process_of rs)) ≡ false)
        → (s : Option ℕ) → r.status ≡ s → all_ends test (r ∷ rs) ≡ 0
        → list_any (λ h. list_any test h.descriptors) (all_holdings (map process_of (r ∷ rs)))
        ≡ false
    by rest None e none =
        let sums : count_by test r.ends.items + all_ends test rs ≡ 0 =
        ap (λ k. k + all_ends test rs) (sym (own e)) ∙ none in
        let here : list_any test r.ends.items ≡ false =
        any_counted test r.ends.items ∙ nothing (count_by test r.ends.items) (omega arith) in
        rw e (rw (here, rest (omega arith)) refl)
      where
        own : r.status ≡ None → own_ends test r ≡ count_by test r.ends.items
        own e = rw e refl

        nothing : (n : ℕ) → n ≡ 0 → nat_lt 0 n ≡ false
        nothing n z = grind (arith, nat_tests)
    by rest (Some status) e none = rw e (rest (gone e ∙ none))
      where
        gone : r.status ≡ Some status → all_ends test rs ≡ all_ends test (r ∷ rs)
        gone e = rw e (omega arith)

-- ---- processes, one after another

-- one process more, and who lives
holdings_more : (ps : List Process) (p : Process)
    → length (all_holdings (ps ++ p ∷ []))
    ≡ length (all_holdings ps) + length (all_holdings (p ∷ []))
holdings_more [] p = omega arith
holdings_more (q ∷ ps) p = by (holdings_more ps p) q.life
  where
    by : length (all_holdings (ps ++ p ∷ []))
        ≡ length (all_holdings ps) + length (all_holdings (p ∷ []))
        → (life : Life)
        → length (all_holdings ((record { parent = q.parent; life = life }) ∷ (ps ++ p ∷ [])))
        ≡ length (all_holdings ((record { parent = q.parent; life = life }) ∷ ps))
        + length (all_holdings (p ∷ []))
    by rest (live h) = omega (arith, rest)
    by rest (ended s c) = rest

-- who lives of a list, by its first
holdings_first : (p : Process) (ps : List Process)
    → length (all_holdings (p ∷ ps)) ≡ length (all_holdings (p ∷ [])) + length (all_holdings ps)
holdings_first p ps = by p.life
  where
    by : (life : Life)
        → length (all_holdings ((record { parent = p.parent; life = life }) ∷ ps))
        ≡ length (all_holdings ((record { parent = p.parent; life = life }) ∷ []))
        + length (all_holdings ps)
    by (live h) = omega arith
    by (ended s c) = omega arith

lives_one : (r : ProcessRecord) → r.status ≡ None → length (all_holdings (process_of r ∷ [])) ≡ 1
lives_one r e = rw e refl

module _ (frames given : ℕ) (low : given ≤ 65535) where
  pub restorable : (t : Tables) (rs : List ProcessRecord) → t.room ≡ frames
      → length t.threads ≡ given → length t.processes + length rs ≤ given
      → ((i : ℕ) → IfSome (slice_get (map process_of rs) i)
      (λ p. p.parent ≤ length t.processes + i))
      → All (Holds frames) rs
      → length (all_holdings t.processes) + length (all_holdings (map process_of rs)) ≤ 32
      → AreRestorable t rs
  restorable t [] room threads count parents holds few = tt
  restorable t (r ∷ rs) room threads count parents holds few =
      let own : r.parent ≤ length t.processes + 0 = parents 0 in
      let next : Tables = process_restored t (process_of r) in
      let longer : length next.processes ≡ length t.processes + 1 =
      length-append t.processes (process_of r ∷ []) in (
        record {
          numbers = omega (arith, count, threads);
          given = omega (arith, count, low);
          parent = omega (arith, own);
          few = λ lives. omega (
            arith,
            few,
            holdings_first (process_of r) (map process_of rs),
            lives_one r lives,
          );
          holds = λ lives. holding lives (All-head (Holds frames) r rs holds lives);
        },
        restorable next rs room threads (omega (arith, count, longer))
            (λ i. subst (λ n. IfSome (slice_get (map process_of rs) i) (λ p. p.parent ≤ n))
            {x = length t.processes + suc i} (omega (arith, longer)) (parents (suc i)))
            (All-tail (Holds frames) r rs holds)
            (omega (
              arith,
              few,
              holdings_first (process_of r) (map process_of rs),
              holdings_more t.processes (process_of r),
            )),
      )
    where
      holding : r.status ≡ None → AreHoldings frames (held_of r) → IsHolding t.room r
      holding lives are = record {
        actions = are.actions.0;
        ends = are.descriptors.0;
        rising = are.rising;
        fits = omega (arith, room, few_pages frames r.pages.items are.pages are.apart);
      }

pub all_restored_is : (t : Tables) (rs : List ProcessRecord)
    → all_restored t rs ≡ record t { processes = t.processes ++ map process_of rs }
all_restored_is t [] =
    ap (λ ps. let u : Tables = record t { processes = ps } in u) (sym (append-nil t.processes))
all_restored_is t (r ∷ rs) =
    all_restored_is (process_restored t (process_of r)) rs
    ∙ ap (λ ps. let u : Tables = record t { processes = ps } in u)
    (append_assoc t.processes (process_of r ∷ []) (map process_of rs))

-- ---- who sleeps

abbrev yes : Bool → Bool
yes b = b

-- each that stands in a list is marked and stands there once: no more than there are marks
few_sleepers : (ss : List Sleeper) (marks : List Bool)
    → ((t : ℕ) → count_by (λ s. s.thread == t) ss ≤ cond (get_or marks t false) 1 0)
    → length ss ≤ count_by yes marks
few_sleepers [] marks each = omega arith
few_sleepers (s ∷ ss) marks each =
    let t : ℕ = s.thread in
    let one : 1 ≤ cond {A = ℕ} (get_or marks t false) 1 0 =
    omega (arith, each t, first t refl) in
    let there : t < length marks = marked_within marks t one in
    omega (
      arith,
      few_sleepers ss (set marks t false) others,
      sum_by-set (λ (b : Bool). cond {A = ℕ} b 1 0) marks t false false there,
      one,
    )
  where
    first : (t : ℕ) → s.thread ≡ t
        → count_by (λ x. x.thread == t) (s ∷ ss) ≡ 1 + count_by (λ x. x.thread == t) ss
    first t e = count-cons (λ (x : Sleeper). x.thread == t) s ss
        ∙ ap (λ b. cond {A = ℕ} b 1 0 + count_by (λ x. x.thread == t) ss) (eq-eqb s.thread t e)

    marked_within : (marks : List Bool) (i : ℕ) → 1 ≤ cond {A = ℕ} (get_or marks i false) 1 0
        → i < length marks
    marked_within [] i h = absurd (omega arith)
    marked_within (b ∷ marks) zero h = omega arith
    marked_within (b ∷ marks) (suc i) h = omega (arith, marked_within marks i h)

    others : (t : ℕ) → count_by (λ x. x.thread == t) ss
        ≤ cond (get_or (set marks s.thread false) t false) 1 0
    others t = elim (cases_eq t s.thread) [
      | inl same ↦ omega (arith, each t, first t (sym same), at_most_one (get_or marks t false))
      | inr other ↦ omega (
        arith,
        each t,
        count-cons (λ (x : Sleeper). x.thread == t) s ss,
        ap (λ b. cond {A = ℕ} b 1 0) (get_or-set_other marks s.thread t false false other),
      )
    ]
      where
        at_most_one : (b : Bool) → cond {A = ℕ} b 1 0 ≤ 1
        at_most_one true = omega arith
        at_most_one false = omega arith

-- who is asleep lives
turns_marked : (threads : List (Option Thread)) (i : ℕ)
    → turns_asleep (flat (slice_get threads i)) ≤ cond (get_or (map is_some threads) i false) 1 0
turns_marked [] i = omega arith
turns_marked (None ∷ threads) zero = omega arith
turns_marked (Some thread ∷ threads) zero = at_most_one (is_state Asleep (Some thread))
  where
    at_most_one : (b : Bool) → cond {A = ℕ} b 1 0 ≤ 1
    at_most_one true = omega arith
    at_most_one false = omega arith
turns_marked (o ∷ threads) (suc i) = turns_marked threads i

marked_count : (n : ℕ) (threads : List (Option Thread))
    → count_by yes (map is_some threads) ≡ length (places_from n is_some threads)
marked_count n [] = refl
marked_count n (None ∷ threads) =
    omega (
      arith,
      count-cons yes false (map is_some threads),
      marked_count (suc n) threads,
    )
marked_count n (Some thread ∷ threads) =
    omega (arith, count-cons yes true (map is_some threads), marked_count (suc n) threads)

-- ---- all of it

module _ (g : GroupRecord) (fits : row.group_row.Fits (group_of_record g))
    (law : Lawful (world_in (group_of_record g))) where
  abbrev w : World
  w = world_in (group_of_record g)

  abbrev rs : List ProcessRecord
  rs = g.processes.items

  pub frames_count : length g.frames.items ≡ g.config.frames
  frames_count =
      sym (length-map g.frames.items frame_of_record)
      ∙ many_count (row.frame_row g.given) g.config.frames (map frame_of_record g.frames.items)
      fits.0.1.1.1.1.1

  pub owners_count : length w.owners ≡ g.config.frames
  owners_count =
      length-map (map frame_of_record g.frames.items) (λ f. f.0)
      ∙ length-map g.frames.items frame_of_record ∙ frames_count

  pub holds : All (Holds g.config.frames) rs
  holds = subst (λ n. All (Holds n) rs) owners_count
      (each_holds (length w.owners) rs law.processes.holdings)

  pub all_few_ends : All HasFewEnds rs
  all_few_ends k d lt = few_ends g.config.frames (get_or rs k d) (holds k d lt)

  pub have_few_ends : HaveFewEnds rs
  have_few_ends writer pipe =
      omega (arith, ends_bound (end_test writer pipe) rs all_few_ends, law.limits.processes)

  pub shut : AreShut rs (vector_bytes g.pipes.items)
  shut pipe reads writes = law.pipes.closed pipe
      (rw (no_ends (reads_pipe pipe) rs reads, no_ends (writes_pipe pipe) rs writes) refl)

  pub pipes_count : length g.pipes.items ≡ 64
  pipes_count = sym (length-map g.pipes.items (λ p. p.items)) ∙ law.pipes.ranges.0

  pub pipes_fit : All FitsPipe g.pipes.items
  pipes_fit = each g.pipes.items law.pipes.ranges.1
    where
      each : (vs : List (Vec ℕ)) → All IsPipe (vector_bytes vs) → All FitsPipe vs
      each [] all = All-nil FitsPipe
      each (v ∷ vs) all = All-cons FitsPipe v vs (All-head IsPipe v.items (vector_bytes vs) all).0
          (each vs (All-tail IsPipe v.items (vector_bytes vs) all))

  threads_known : AreRising 1 (g.given + 1) (map thread_of g.threads.items)
      × All ThreadInRange (map thread_of g.threads.items)
  threads_known = threads_range g.given (length (map process_of g.processes.items))
      (length (map thread_of g.threads.items)) 1 (map thread_of g.threads.items) fits.0.1.1.0.0.1

  pub threads_rise : AreRising 1 (g.given + 1) (map thread_of g.threads.items)
  threads_rise = threads_known.0

  pub few_saved : All (λ r. length r.saved.items ≤ 4) g.threads.items
  few_saved = each g.threads.items threads_known.1
    where
      each : (ts : List ThreadRecord) → All ThreadInRange (map thread_of ts)
          → All (λ r. length r.saved.items ≤ 4) ts
      each [] all = All-nil (λ (r : ThreadRecord). length r.saved.items ≤ 4)
      each (t ∷ ts) all = All-cons (λ (r : ThreadRecord). length r.saved.items ≤ 4) t ts
          (All-head ThreadInRange (thread_of t) (map thread_of ts) all).3.0
          (each ts (All-tail ThreadInRange (thread_of t) (map thread_of ts) all))

  pub few_threads : length g.threads.items ≤ 64
  few_threads = omega (
    arith,
    (in_range 0 64 (length (map thread_of g.threads.items)) fits.0.1.1.0.0.0.1).1,
    length-map g.threads.items thread_of,
  )

  given_range : (1 ≤ g.given) × (g.given ≤ 65535)
  given_range = in_range 1 65535 g.given fits.0.0.0.1.1.1.1.0.1

  pub few_waiting : length g.sleepers.items ≤ 64
  few_waiting = omega (
    arith,
    few_sleepers w.sleepers (false ∷ map is_some w.threads) each,
    count-cons yes false (map is_some w.threads),
    marked_count 1 w.threads,
    law.limits.threads.0,
    length-map g.sleepers.items sleeper_of_record,
  )
    where
      each : (t : ℕ) → count_by (λ s. s.thread == t) w.sleepers
          ≤ cond (get_or (false ∷ map is_some w.threads) t false) 1 0
      each zero = omega (arith, law.threads.asleep 0)
      each (suc i) = omega (arith, law.threads.asleep (suc i), turns_marked w.threads i)

  -- the table before its first process
  abbrev pub table_begun : Tables
  table_begun = record {
    processes = [];
    threads = spread (map thread_of g.threads.items) g.given;
    room = g.config.frames;
  }

  pub all_restorable : AreRestorable table_begun rs
  all_restorable = restorable g.config.frames g.given given_range.1 table_begun rs refl
      (spread_length (map thread_of g.threads.items) g.given)
      (omega (
        arith,
        law.processes.given.1,
        spread_length (map thread_of g.threads.items) g.given,
        length-map rs process_of,
      ))
      parents holds (omega (arith, law.limits.processes))
    where
      parents : (i : ℕ) → IfSome (slice_get (map process_of rs) i) (λ p. p.parent ≤ 0 + i)
      parents i = by (slice_get (map process_of rs) i) (law.processes.parents (suc i))
        where
          by : (o : Option Process) → IfSome o (λ p. p.parent < suc i)
              → IfSome o (λ p. p.parent ≤ 0 + i)
          by None h = tt
          by (Some p) h = omega (arith, h)
