-- The kept counts of ends where one descriptor of a process is set.
use Rattle.std.proofs.Common.{◌≡◌, ℕ, ◌+◌, ◌<◌, Bool, true, false, cond, inl, inr, List, [], ◌∷◌}
use Rattle.std.proofs.Common.{length, get_or, set, take, Option, Some, None, length-set}
use Rattle.std.proofs.Common.{get_or-set_same, get_or-set_other, refl, sym, ap, subst, ◌∙◌, arith}
use Rattle.std.specs.Prelude.{◌==◌, count_by}
use Rattle.std.proofs.lemmas.Bool.{cases_eq, ne_eqb, eq-eqb}
use Rattle.std.proofs.lemmas.List.Elements.{All-get_or, All-nil, All-cons}
use Rattle.std.proofs.lemmas.List.Sums.{sum_by-cons}
use Rattle.std.proofs.lemmas.Option.{unwrap_or-slice_get}
use Rattle.dos_world.specs.Numbered.{changed}
use Rattle.dos_world.specs.World.{Process, Holdings, on_holdings}
use Rattle.dos_world.specs.Counts.{reads_pipe, writes_pipe}
use Rattle.dos_world.specs.DescriptorCalls.{with_end}
use Rattle.dos_world.specs.Lawful.{Lawful, AreHoldings, IsEnd}
use Rattle.dos_world.specs.declared.End.{End}
use Rattle.dos_world.specs.declared.End.TheVariants.{Input, Output, Error, PipeRead, PipeWrite}
use Rattle.dos_laws.proofs.Holders.{all_changed, count_changed}
use Rattle.dos_laws.proofs.Mapped.{held_all}
use Rattle.proc_table.specs.Tables.{held_in, end_named}
use Rattle.kernel_objects.specs.Pipework.{Pipework}
use Rattle.kernel_calls.specs.Ending.{AreDropped, AreNamed, IsNamed, without_end}
use Rattle.kernel_calls.specs.Ends.{CanHave, with_end_more}
use Rattle.kernel_calls.specs.StateWorld.{AreCounted, IsCounted, ends_of, world_of}
use Rattle.kernel_calls.specs.declared.state.State.{State}
use Rattle.kernel_calls.proofs.DescriptorCounts.{IsFreeAt, ends_set, few_ends, open_within}
use Rattle.kernel_calls.proofs.PipeEnds.{dropped-more, dropped-none, open-by, open-by-second}
use Rattle.kernel_calls.proofs.PipeEnds.{still-named}
use Rattle.kernel_calls.proofs.ProcessEnds.{open-counted}

-- ---- an end more

pub one_more : (xs : List ℕ) (p pipe : ℕ) → p < length xs
    → get_or (set xs p (get_or xs p 0 + 1)) pipe 0 ≡ get_or xs pipe 0 + cond (p == pipe) 1 0
one_more xs p pipe within = elim (cases_eq pipe p) [
  | inl same ↦
      let here : get_or (set xs p (get_or xs p 0 + 1)) pipe 0 ≡ get_or xs p 0 + 1 =
      ap (λ k. get_or (set xs p (get_or xs p 0 + 1)) k 0) same
      ∙ get_or-set_same xs p (get_or xs p 0 + 1) 0 within in
      omega (
        arith,
        here,
        ap (λ k. get_or xs k 0) same,
        ap (λ b. cond {A = ℕ} b 1 0) (eq-eqb p pipe (sym same)),
      )
  | inr other ↦ omega (
    arith,
    get_or-set_other xs p pipe (get_or xs p 0 + 1) 0 other,
    ap (λ b. cond {A = ℕ} b 1 0) (ne_eqb p pipe (λ q. other (sym q))),
  )
]

-- no byte moves
pub bytes_stay : (end : End) (s : Pipework) → (with_end_more end s).bytes ≡ s.bytes
bytes_stay (PipeRead p) s = refl
bytes_stay (PipeWrite p) s = refl
bytes_stay Input s = refl
bytes_stay Output s = refl
bytes_stay Error s = refl

module _ (ps : List Process) (p : ℕ) (h : Holdings) (k : ℕ) (is : held_in ps p ≡ Some h)
    (free : IsFreeAt h.descriptors k) where
  -- A free descriptor is set: one end more.
  set_free : (test : Option End → Bool) → test None ≡ false → (end : End)
      → ends_of test (changed (on_holdings (with_end k (Some end))) ps p)
      ≡ ends_of test ps + cond (test (Some end)) 1 0
  set_free test none end =
      let was : cond {A = ℕ} (test (end_named h k)) 1 0 ≡ 0 =
      ap (λ x. cond {A = ℕ} (test x) 1 0) free.closed ∙ ap (λ b. cond {A = ℕ} b 1 0) none in
      omega (arith, was, ends_set test ps p h k (Some end) is free.within)

  module _ (pipes : Pipework) (counted : AreCounted ps pipes) where
    no_pipes : (end : End) → ((pipe : ℕ) → reads_pipe pipe (Some end) ≡ false)
        → ((pipe : ℕ) → writes_pipe pipe (Some end) ≡ false)
        → AreCounted (changed (on_holdings (with_end k (Some end))) ps p) pipes
    no_pipes end reads writes = record {
      readers = λ pipe. omega (
        arith,
        counted.readers pipe,
        set_free (reads_pipe pipe) refl end,
        ap (λ b. cond {A = ℕ} b 1 0) (reads pipe),
      );
      writers = λ pipe. omega (
        arith,
        counted.writers pipe,
        set_free (writes_pipe pipe) refl end,
        ap (λ b. cond {A = ℕ} b 1 0) (writes pipe),
      );
      reader_counts = counted.reader_counts;
      writer_counts = counted.writer_counts;
    }

    pub counted_more : (end : End) → IsEnd (Some end)
        → AreCounted (changed (on_holdings (with_end k (Some end))) ps p) (with_end_more end pipes)
    counted_more (PipeRead n) low = record {
      readers = λ pipe. omega (
        arith,
        counted.readers pipe,
        one_more pipes.readers n pipe (omega (arith, counted.reader_counts, low)),
        set_free (reads_pipe pipe) refl (PipeRead n),
      );
      writers = λ pipe. omega (
        arith,
        counted.writers pipe,
        set_free (writes_pipe pipe) refl (PipeRead n),
      );
      reader_counts = length-set pipes.readers n (get_or pipes.readers n 0 + 1)
          ∙ counted.reader_counts;
      writer_counts = counted.writer_counts;
    }
    counted_more (PipeWrite n) low = record {
      readers = λ pipe. omega (
        arith,
        counted.readers pipe,
        set_free (reads_pipe pipe) refl (PipeWrite n),
      );
      writers = λ pipe. omega (
        arith,
        counted.writers pipe,
        one_more pipes.writers n pipe (omega (arith, counted.writer_counts, low)),
        set_free (writes_pipe pipe) refl (PipeWrite n),
      );
      reader_counts = counted.reader_counts;
      writer_counts = length-set pipes.writers n (get_or pipes.writers n 0 + 1)
          ∙ counted.writer_counts;
    }
    counted_more Input low = no_pipes Input (λ pipe. refl) (λ pipe. refl)
    counted_more Output low = no_pipes Output (λ pipe. refl) (λ pipe. refl)
    counted_more Error low = no_pipes Error (λ pipe. refl) (λ pipe. refl)

-- ---- in a lawful world

module _ (s : State) (lawful : Lawful (world_of 16 s)) (counted : IsCounted s) (p : ℕ)
    (h : Holdings) (is : held_in s.table.processes p ≡ Some h) where
  abbrev ps : List Process
  ps = s.table.processes

  in_range : AreHoldings (length s.frames.owners) h
  in_range =
      held_all (AreHoldings (length s.frames.owners)) s.table.processes p h
      lawful.processes.holdings is

  -- what an open descriptor names is in range
  pub end_range : (k : ℕ) (end : End) → end_named h k ≡ Some end → IsEnd (Some end)
  end_range k end open_is =
      subst IsEnd (sym (unwrap_or-slice_get h.descriptors k None) ∙ open_is)
      (All-get_or IsEnd h.descriptors k None (open_within h.descriptors k end open_is)
      in_range.descriptors.1)

  -- an open descriptor is counted
  one_counts : (test : Option End → Bool) → test None ≡ false → (k : ℕ) (end : End)
      → end_named h k ≡ Some end → test (Some end) ≡ true → 0 < ends_of test ps
  one_counts test none k end open_is passes =
      let here : cond {A = ℕ} (test (end_named h k)) 1 0 ≡ 1 =
      ap (λ x. cond {A = ℕ} (test x) 1 0) open_is ∙ ap (λ b. cond {A = ℕ} b 1 0) passes in
      let gone : cond {A = ℕ} (test None) 1 0 ≡ 0 = ap (λ b. cond {A = ℕ} b 1 0) none in
      omega (
        arith,
        here,
        gone,
        ends_set test ps p h k None is (open_within h.descriptors k end open_is),
      )

  -- where a descriptor is free, there are fewer ends than descriptors
  few_now : (test : Option End → Bool) → test None ≡ false → (k : ℕ) → IsFreeAt h.descriptors k
      → (end : End) → test (Some end) ≡ true → ends_of test ps < 1024
  few_now test none k free end passes =
      let one : cond {A = ℕ} (test (Some end)) 1 0 ≡ 1 = ap (λ b. cond {A = ℕ} b 1 0) passes in
      omega (
        arith,
        one,
        set_free ps p h k is free test none end,
        few_ends test (changed (on_holdings (with_end k (Some end))) ps p)
            (all_changed (with_end k (Some end)) (AreHoldings (length s.frames.owners))
            (λ x. length x.descriptors ≡ 32) (λ x are. are.descriptors.0) ps p h is
            (length-set h.descriptors k (Some end) ∙ in_range.descriptors.0)
            lawful.processes.holdings)
            (omega (
              arith,
              count_changed (with_end k (Some end)) ps p,
              lawful.limits.processes,
            )),
      )

  -- a pipe whose end is named can have one more, where a descriptor is free
  pub can_have : (k : ℕ) → IsFreeAt h.descriptors k → (n : ℕ) (end : End) → end_named h n ≡ Some end
      → CanHave end s.pipes
  can_have k free n (PipeRead pipe) open_is =
      let same : reads_pipe pipe (Some (PipeRead pipe)) ≡ true = eq-eqb pipe pipe refl in
      let some : 0 < ends_of (reads_pipe pipe) ps =
      one_counts (reads_pipe pipe) refl n (PipeRead pipe) open_is same in
      record {
        number = end_range n (PipeRead pipe) open_is;
        opened = open-by (get_or s.pipes.readers pipe 0) (get_or s.pipes.writers pipe 0)
            (omega (arith, counted.ends.readers pipe, some));
        few = omega (
          arith,
          counted.ends.readers pipe,
          few_now (reads_pipe pipe) refl k free (PipeRead pipe) same,
        );
      }
  can_have k free n (PipeWrite pipe) open_is =
      let same : writes_pipe pipe (Some (PipeWrite pipe)) ≡ true = eq-eqb pipe pipe refl in
      let some : 0 < ends_of (writes_pipe pipe) ps =
      one_counts (writes_pipe pipe) refl n (PipeWrite pipe) open_is same in
      record {
        number = end_range n (PipeWrite pipe) open_is;
        opened = open-by-second (get_or s.pipes.readers pipe 0) (get_or s.pipes.writers pipe 0)
            (omega (arith, counted.ends.writers pipe, some));
        few = omega (
          arith,
          counted.ends.writers pipe,
          few_now (writes_pipe pipe) refl k free (PipeWrite pipe) same,
        );
      }
  can_have k free n Input open_is = tt
  can_have k free n Output open_is = tt
  can_have k free n Error open_is = tt

  -- ---- an end less

  module _ (k : ℕ) (end : End) (open_is : end_named h k ≡ Some end) where
    abbrev one : List (Option End)
    one = Some end ∷ []

    abbrev left : List Process
    left = changed (on_holdings (with_end k None)) ps p

    ends_left : (test : Option End → Bool) → test None ≡ false
        → ends_of test left + count_by test one ≡ ends_of test ps
    ends_left test none =
        let was : cond {A = ℕ} (test (end_named h k)) 1 0 ≡ cond (test (Some end)) 1 0 =
        ap (λ x. cond {A = ℕ} (test x) 1 0) open_is in
        let gone : cond {A = ℕ} (test None) 1 0 ≡ 0 = ap (λ b. cond {A = ℕ} b 1 0) none in
        omega (
          arith,
          was,
          gone,
          ends_set test ps p h k None is (open_within h.descriptors k end open_is),
          sum_by-cons (λ x. cond {A = ℕ} (test x) 1 0) (Some end) [],
        )

    one_named : AreNamed one s.pipes
    one_named = record {
      few = All-cons IsEnd (Some end) [] (end_range k end open_is) (All-nil IsEnd);
      readers = λ pipe. omega (
        arith,
        counted.ends.readers pipe,
        ends_left (reads_pipe pipe) refl,
      );
      writers = λ pipe. omega (
        arith,
        counted.ends.writers pipe,
        ends_left (writes_pipe pipe) refl,
      );
      reader_counts = counted.ends.reader_counts;
      writer_counts = counted.ends.writer_counts;
      byte_counts = lawful.pipes.ranges.0;
      empty = λ pipe shut. lawful.pipes.closed pipe
          (sym (open-counted ps s.pipes counted.ends (world_of 16 s) refl pipe) ∙ shut);
    }

    pub is_named : IsNamed (Some end) s.pipes
    is_named = still-named one s.pipes s.pipes 0 (omega arith) one_named
        (dropped-none s.pipes one one_named) (Some end) refl

    pub one_dropped : AreDropped (take 1 one) s.pipes (without_end (Some end) s.pipes)
    one_dropped = dropped-more one s.pipes s.pipes 0 (omega arith) one_named
        (dropped-none s.pipes one one_named) (Some end) (without_end (Some end) s.pipes) refl refl

    pub counted_less : AreCounted left (without_end (Some end) s.pipes)
    counted_less = record {
      readers = λ pipe. omega (
        arith,
        counted.ends.readers pipe,
        one_dropped.readers pipe,
        ends_left (reads_pipe pipe) refl,
      );
      writers = λ pipe. omega (
        arith,
        counted.ends.writers pipe,
        one_dropped.writers pipe,
        ends_left (writes_pipe pipe) refl,
      );
      reader_counts = one_dropped.reader_counts;
      writer_counts = one_dropped.writer_counts;
    }
