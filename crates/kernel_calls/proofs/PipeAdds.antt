-- Ends of pipes that come once more, one after another.
use Rattle.std.proofs.Common.{◌≡◌, ℕ, ◌+◌, ◌<◌, ◌≤◌, Bool, true, false, cond, List, length, get_or}
use Rattle.std.proofs.Common.{take, Option, Some, None, IsSome, IfSome, length-set, refl, sym, ap}
use Rattle.std.proofs.Common.{subst, ◌∙◌, arith}
use Rattle.std.specs.Prelude.{count_by}
use Rattle.std.proofs.lemmas.Bool.{eq-eqb}
use Rattle.std.proofs.lemmas.List.Elements.{All-get_or}
use Rattle.std.proofs.lemmas.List.Sums.{sum_by-take-drop}
use Rattle.std.proofs.lemmas.Option.{unwrap_or-slice_get}
use Rattle.dos_world.specs.World.{Holdings}
use Rattle.dos_world.specs.Counts.{reads_pipe, writes_pipe}
use Rattle.dos_world.specs.Lawful.{IsEnd}
use Rattle.dos_world.specs.declared.End.{End}
use Rattle.dos_world.specs.declared.End.TheVariants.{Input, Output, Error, PipeRead, PipeWrite}
use Rattle.kernel_objects.specs.Pipework.{Pipework}
use Rattle.proc_table.specs.Tables.{end_named}
use Rattle.kernel_calls.specs.Children.{AreAdded, CanComeAgain, CanName, with_named}
use Rattle.kernel_calls.proofs.EndCounts.{one_more}
use Rattle.kernel_calls.proofs.PipeEnds.{more-no, more-none, open-by, open-by-second}

none_added : (s : Pipework) (ends : List (Option End)) → CanComeAgain ends s
    → AreAdded (take 0 ends) s s
none_added s ends can = record {
  readers = λ pipe. omega arith;
  writers = λ pipe. omega arith;
  bytes = refl;
  reader_counts = can.named.reader_counts;
  writer_counts = can.named.writer_counts;
}

module _ (ends : List (Option End)) (old s : Pipework) (i : ℕ) (h : i < length ends)
    (can : CanComeAgain ends old) (added : AreAdded (take i ends) old s) where
  -- how often the end at this place is counted up to there, and in all
  one_then : (test : Option End → Bool) (e : Option End) → get_or ends i None ≡ e → test e ≡ true
      → count_by test (take i ends) + 1 ≤ count_by test ends
  one_then test e q passes = omega (
    arith,
    more-no test ends i e h q,
    ap (λ b. cond {A = ℕ} b 1 0) passes,
    sum_by-take-drop (λ x. cond {A = ℕ} (test x) 1 0) ends (i + 1),
  )

  -- the next may come
  pub next_can : (e : Option End) → get_or ends i None ≡ e → CanName e s
  next_can (Some (PipeRead p)) q =
      let one = one_then (reads_pipe p) (Some (PipeRead p)) q (eq-eqb p p refl) in
      record {
        number = subst IsEnd q (All-get_or IsEnd ends i None h can.named.few);
        opened = open-by (get_or s.readers p 0) (get_or s.writers p 0)
            (omega (arith, added.readers p, can.named.readers p, one));
        few = omega (arith, added.readers p, can.readers p, one);
      }
  next_can (Some (PipeWrite p)) q =
      let one = one_then (writes_pipe p) (Some (PipeWrite p)) q (eq-eqb p p refl) in
      record {
        number = subst IsEnd q (All-get_or IsEnd ends i None h can.named.few);
        opened = open-by-second (get_or s.readers p 0) (get_or s.writers p 0)
            (omega (arith, added.writers p, can.named.writers p, one));
        few = omega (arith, added.writers p, can.writers p, one);
      }
  next_can (Some Input) q = tt
  next_can (Some Output) q = tt
  next_can (Some Error) q = tt
  next_can None q = tt

  unnamed : (e : Option End) → get_or ends i None ≡ e → ((pipe : ℕ) → reads_pipe pipe e ≡ false)
      → ((pipe : ℕ) → writes_pipe pipe e ≡ false) → AreAdded (take (i + 1) ends) old s
  unnamed e q reads writes = record {
    readers = λ pipe.
        omega (arith, added.readers pipe, more-none (reads_pipe pipe) ends i e h q (reads pipe));
    writers = λ pipe.
        omega (arith, added.writers pipe, more-none (writes_pipe pipe) ends i e h q (writes pipe));
    bytes = added.bytes;
    reader_counts = added.reader_counts;
    writer_counts = added.writer_counts;
  }

  low : (p : ℕ) (xs : List ℕ) → length xs ≡ 64 → p < 64 → p < length xs
  low p xs count is = omega (arith, count, is)

  -- and then one more has come
  next_more : (e : Option End) → get_or ends i None ≡ e
      → AreAdded (take (i + 1) ends) old (with_named e s)
  next_more (Some (PipeRead p)) q =
      let can_here = next_can (Some (PipeRead p)) q in
      record {
        readers = λ pipe. omega (
          arith,
          one_more s.readers p pipe (low p s.readers added.reader_counts can_here.number),
          added.readers pipe,
          more-no (reads_pipe pipe) ends i (Some (PipeRead p)) h q,
        );
        writers = λ pipe. omega (
          arith,
          added.writers pipe,
          more-no (writes_pipe pipe) ends i (Some (PipeRead p)) h q,
        );
        bytes = added.bytes;
        reader_counts = length-set s.readers p (get_or s.readers p 0 + 1) ∙ added.reader_counts;
        writer_counts = added.writer_counts;
      }
  next_more (Some (PipeWrite p)) q =
      let can_here = next_can (Some (PipeWrite p)) q in
      record {
        readers = λ pipe. omega (
          arith,
          added.readers pipe,
          more-no (reads_pipe pipe) ends i (Some (PipeWrite p)) h q,
        );
        writers = λ pipe. omega (
          arith,
          one_more s.writers p pipe (low p s.writers added.writer_counts can_here.number),
          added.writers pipe,
          more-no (writes_pipe pipe) ends i (Some (PipeWrite p)) h q,
        );
        bytes = added.bytes;
        reader_counts = added.reader_counts;
        writer_counts = length-set s.writers p (get_or s.writers p 0 + 1) ∙ added.writer_counts;
      }
  next_more (Some Input) q = unnamed (Some Input) q (λ pipe. refl) (λ pipe. refl)
  next_more (Some Output) q = unnamed (Some Output) q (λ pipe. refl) (λ pipe. refl)
  next_more (Some Error) q = unnamed (Some Error) q (λ pipe. refl) (λ pipe. refl)
  next_more None q = unnamed None q (λ pipe. refl) (λ pipe. refl)

  pub next_added : (e : Option End) (new : Pipework) → get_or ends i None ≡ e
      → new ≡ with_named e s → AreAdded (take (i + 1) ends) old new
  next_added e new q is = subst (AreAdded (take (i + 1) ends) old) (sym is) (next_more e q)

-- ---- the descriptors of a live process

pub nothing_added : (o : Option Holdings) (s : Pipework)
    → IfSome o (λ h. CanComeAgain h.descriptors s)
    → IfSome o (λ h. AreAdded (take 0 h.descriptors) s s)
nothing_added None s can = tt
nothing_added (Some h) s can = none_added s h.descriptors can

module _ (o : Option Holdings) (old s : Pipework) (i : ℕ) (e : Option End) (alive : IsSome o)
    (count : IfSome o (λ h. length h.descriptors ≡ 32))
    (can : IfSome o (λ h. CanComeAgain h.descriptors old))
    (added : IfSome o (λ h. AreAdded (take i h.descriptors) old s))
    (is : IfSome o (λ h. e ≡ end_named h i)) (below : i < 32) where
  pub end_can : CanName e s
  end_can = by o alive count can added is
    where
      by : (o : Option Holdings) → IsSome o → IfSome o (λ h. length h.descriptors ≡ 32)
          → IfSome o (λ h. CanComeAgain h.descriptors old)
          → IfSome o (λ h. AreAdded (take i h.descriptors) old s)
          → IfSome o (λ h. e ≡ end_named h i)
          → CanName e s
      by None a c n d is = absurd (cc)
      by (Some h) a c n d is =
          next_can h.descriptors old s i (omega (arith, c)) n d e
          (sym (unwrap_or-slice_get h.descriptors i None) ∙ sym is)

  pub end_added : (new : Pipework) → new ≡ with_named e s
      → IfSome o (λ h. AreAdded (take (i + 1) h.descriptors) old new)
  end_added new more = by o count can added is
    where
      by : (o : Option Holdings) → IfSome o (λ h. length h.descriptors ≡ 32)
          → IfSome o (λ h. CanComeAgain h.descriptors old)
          → IfSome o (λ h. AreAdded (take i h.descriptors) old s)
          → IfSome o (λ h. e ≡ end_named h i)
          → IfSome o (λ h. AreAdded (take (i + 1) h.descriptors) old new)
      by None c n d is = tt
      by (Some h) c n d is =
          next_added h.descriptors old s i (omega (arith, c)) n d e new
          (sym (unwrap_or-slice_get h.descriptors i None) ∙ sym is) more
