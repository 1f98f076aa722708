-- Ends of pipes that are dropped one after another.
use Rattle.std.proofs.Common.{◌≡◌, ◌≢◌, ℕ, ◌+◌, ◌-◌, ◌<◌, Bool, true, false, cond, inl, inr, List}
use Rattle.std.proofs.Common.{[], length, get_or, set, take, Option, Some, None, IsSome, IfSome}
use Rattle.std.proofs.Common.{length-set, get_or-set_same, get_or-set_other, refl, sym, ap, subst}
use Rattle.std.proofs.Common.{◌∙◌, arith}
use Rattle.std.specs.Prelude.{◌==◌, ◌&&◌, not, count_by}
use Rattle.std.proofs.lemmas.Bool.{cases_eq, ne_eqb, eq-eqb}
use Rattle.std.proofs.lemmas.Bool.Decides.{nat_tests}
use Rattle.std.proofs.lemmas.List.Elements.{All-get_or}
use Rattle.std.proofs.lemmas.List.Sums.{count_by_more_no, count_by_more_yes, sum_by-take-drop}
use Rattle.std.proofs.lemmas.Option.{unwrap_or-slice_get}
use Rattle.dos_world.specs.World.{Holdings}
use Rattle.proc_table.specs.Tables.{end_named}
use Rattle.dos_world.specs.Counts.{reads_pipe, writes_pipe}
use Rattle.dos_world.specs.Lawful.{IsEnd}
use Rattle.dos_world.specs.declared.End.{End}
use Rattle.dos_world.specs.declared.End.TheVariants.{Input, Output, Error, PipeRead, PipeWrite}
use Rattle.kernel_objects.specs.Pipework.{Pipework, bytes_at, ends_at, is_open_at, with_bytes}
use Rattle.kernel_objects.specs.Pipework.{with_ends}
use Rattle.kernel_calls.specs.Ending.{AreDropped, AreNamed, IsNamed, without_end}

-- ---- one end less

-- what a pipe keeps, and what it loses with its last end
bytes-left : (s left old : Pipework) (p : ℕ) → p < length s.bytes → left.bytes ≡ s.bytes
    → ((pipe : ℕ) → pipe ≢ p → is_open_at left pipe ≡ is_open_at s pipe) → is_open_at s p ≡ true
    → ((pipe : ℕ) → bytes_at s pipe ≡ cond (is_open_at s pipe) (bytes_at old pipe) [])
    → (b : Bool) → is_open_at left p ≡ b → (pipe : ℕ)
    → bytes_at (cond b left (with_bytes left p [])) pipe
    ≡ cond (is_open_at (cond b left (with_bytes left p [])) pipe) (bytes_at old pipe) []
bytes-left s left old p within same others was so_far true q pipe = elim (cases_eq pipe p) [
  | inl here ↦ ap (λ xs. get_or xs pipe []) same ∙ so_far pipe
      ∙ ap (λ b. cond b (bytes_at old pipe) [])
      (ap (is_open_at s) here ∙ was ∙ sym q ∙ ap (is_open_at left) (sym here))
  | inr other ↦ ap (λ xs. get_or xs pipe []) same ∙ so_far pipe
      ∙ ap (λ b. cond b (bytes_at old pipe) []) (sym (others pipe other))
]
bytes-left s left old p within same others was so_far false q pipe = elim (cases_eq pipe p) [
  | inl here ↦ ap (λ k. get_or (set left.bytes p []) k []) here
      ∙ get_or-set_same left.bytes p [] [] (omega (arith, ap length same))
      ∙ sym (ap (λ b. cond b (bytes_at old pipe) []) (ap (is_open_at left) here ∙ q))
  | inr other ↦ get_or-set_other left.bytes p pipe [] [] other ∙ ap (λ xs. get_or xs pipe []) same
      ∙ so_far pipe ∙ ap (λ b. cond b (bytes_at old pipe) []) (sym (others pipe other))
]

pub open-by : (a b : ℕ) → (0 < a) → not ((a == 0) && (b == 0)) ≡ true
open-by a b h = let x : (a == 0) ≡ false = grind (arith, nat_tests) in
    ap (λ k. not (k && (b == 0))) x

pub open-by-second : (a b : ℕ) → (0 < b) → not ((a == 0) && (b == 0)) ≡ true
open-by-second a b h = let x : (b == 0) ≡ false = grind (arith, nat_tests) in
    ap (λ k. not ((a == 0) && k)) x ∙ never (a == 0)
  where
    never : (c : Bool) → not (c && false) ≡ true
    never true = refl
    never false = refl

one-less : (xs : List ℕ) (p pipe c : ℕ) (total : ℕ) → p < length xs → 0 < get_or xs p 0
    → get_or xs pipe 0 + c ≡ total
    → get_or (set xs p (get_or xs p 0 - 1)) pipe 0 + (c + cond (p == pipe) 1 0) ≡ total
one-less xs p pipe c total h some e = elim (cases_eq pipe p) [
  | inl same ↦
      let here : get_or (set xs p (get_or xs p 0 - 1)) pipe 0 ≡ get_or xs p 0 - 1 =
      ap (λ k. get_or (set xs p (get_or xs p 0 - 1)) k 0) same
      ∙ get_or-set_same xs p (get_or xs p 0 - 1) 0 h in
      omega (
        arith,
        here,
        ap (λ k. get_or xs k 0) same,
        ap (λ b. cond {A = ℕ} b 1 0) (eq-eqb p pipe (sym same)),
      )
  | inr other ↦ omega (
    arith,
    get_or-set_other xs p pipe (get_or xs p 0 - 1) 0 other,
    ap (λ b. cond {A = ℕ} b 1 0) (ne_eqb p pipe (λ q. other (sym q))),
  )
]

-- ---- how far the ends are dropped

pub dropped-none : (s : Pipework) (ends : List (Option End)) → AreNamed ends s
    → AreDropped (take 0 ends) s s
dropped-none s ends named = record {
  readers = λ pipe. omega arith;
  writers = λ pipe. omega arith;
  bytes = λ pipe. by pipe (is_open_at s pipe) refl;
  reader_counts = named.reader_counts;
  writer_counts = named.writer_counts;
  byte_counts = named.byte_counts;
}
  where
    by : (pipe : ℕ) (b : Bool) → is_open_at s pipe ≡ b
        → bytes_at s pipe ≡ cond (is_open_at s pipe) (bytes_at s pipe) []
    by pipe true q = sym (ap (λ b. cond b (bytes_at s pipe) []) q)
    by pipe false q = named.empty pipe q ∙ sym (ap (λ b. cond b (bytes_at s pipe) []) q)

pub more-no : (test : Option End → Bool) (ends : List (Option End)) (i : ℕ) (e : Option End)
    → i < length ends → get_or ends i None ≡ e
    → count_by test (take (i + 1) ends) ≡ count_by test (take i ends) + cond (test e) 1 0
more-no test ends i e h q = by (test e) refl
  where
    by : (b : Bool) → test e ≡ b
        → count_by test (take (i + 1) ends) ≡ count_by test (take i ends) + cond (test e) 1 0
    by true t = count_by_more_yes test ends i None h (ap test q ∙ t)
        ∙ ap (λ b. count_by test (take i ends) + cond b 1 0) (sym t)
    by false t = count_by_more_no test ends i None h (ap test q ∙ t)
        ∙ omega (arith, ap (λ b. cond {A = ℕ} b 1 0) t)

-- an end that isn't counted leaves the count
pub more-none : (test : Option End → Bool) (ends : List (Option End)) (i : ℕ) (e : Option End)
    → i < length ends → get_or ends i None ≡ e → test e ≡ false
    → count_by test (take (i + 1) ends) ≡ count_by test (take i ends)
more-none test ends i e h q none =
    more-no test ends i e h q
    ∙ omega (arith, ap (λ b. cond {A = ℕ} b 1 0) none)

-- a pipe that has lost an end, with its bytes where it is open still
abbrev kept-if : Bool → Pipework → ℕ → Pipework
kept-if b left p = cond b left (with_bytes left p [])

kept-readers : (b : Bool) (left : Pipework) (p : ℕ)
    → ◌≡◌ {A = List ℕ} (let x : Pipework = kept-if b left p in x.readers) left.readers
kept-readers true left p = refl
kept-readers false left p = refl

kept-writers : (b : Bool) (left : Pipework) (p : ℕ)
    → ◌≡◌ {A = List ℕ} (let x : Pipework = kept-if b left p in x.writers) left.writers
kept-writers true left p = refl
kept-writers false left p = refl

kept-counts : (b : Bool) (left : Pipework) (p : ℕ) → length left.bytes ≡ 64
    → ◌≡◌ {A = ℕ} (let x : Pipework = kept-if b left p in length x.bytes) 64
kept-counts true left p count = count
kept-counts false left p count = length-set left.bytes p [] ∙ count

module _ (ends : List (Option End)) (old s : Pipework) (i : ℕ) (h : i < length ends)
    (named : AreNamed ends old) (dropped : AreDropped (take i ends) old s) where
  -- an end that is still to go is there
  pub still-named : (e : Option End) → get_or ends i None ≡ e → IsNamed e s
  still-named (Some (PipeRead p)) q =
      let low : p < 64 = subst IsEnd q (All-get_or IsEnd ends i None h named.few) in
      let one : cond {A = ℕ} (p == p) 1 0 ≡ 1 = ap (λ b. cond {A = ℕ} b 1 0) (eq-eqb p p refl) in (
        low,
        omega (
          arith,
          named.readers p,
          dropped.readers p,
          more-no (reads_pipe p) ends i (Some (PipeRead p)) h q,
          one,
          sum_by-take-drop (λ e. cond {A = ℕ} (reads_pipe p e) 1 0) ends (i + 1),
        ),
      )
  still-named (Some (PipeWrite p)) q =
      let low : p < 64 = subst IsEnd q (All-get_or IsEnd ends i None h named.few) in
      let one : cond {A = ℕ} (p == p) 1 0 ≡ 1 = ap (λ b. cond {A = ℕ} b 1 0) (eq-eqb p p refl) in (
        low,
        omega (
          arith,
          named.writers p,
          dropped.writers p,
          more-no (writes_pipe p) ends i (Some (PipeWrite p)) h q,
          one,
          sum_by-take-drop (λ e. cond {A = ℕ} (writes_pipe p e) 1 0) ends (i + 1),
        ),
      )
  still-named (Some Input) q = tt
  still-named (Some Output) q = tt
  still-named (Some Error) q = tt
  still-named None q = tt

  unnamed : (e : Option End) → get_or ends i None ≡ e → ((pipe : ℕ) → reads_pipe pipe e ≡ false)
      → ((pipe : ℕ) → writes_pipe pipe e ≡ false) → AreDropped (take (i + 1) ends) old s
  unnamed e q reads writes = record {
    readers = λ pipe.
        omega (arith, dropped.readers pipe, more-none (reads_pipe pipe) ends i e h q (reads pipe));
    writers = λ pipe.
        omega (
          arith,
          dropped.writers pipe,
          more-none (writes_pipe pipe) ends i e h q (writes pipe),
        );
    bytes = dropped.bytes;
    reader_counts = dropped.reader_counts;
    writer_counts = dropped.writer_counts;
    byte_counts = dropped.byte_counts;
  }

  -- one more is gone
  pub dropped-more : (e : Option End) (new : Pipework) → get_or ends i None ≡ e
      → new ≡ without_end e s → AreDropped (take (i + 1) ends) old new
  dropped-more (Some (PipeRead p)) new q is =
      subst (AreDropped (take (i + 1) ends) old) (sym is) (by (is_open_at left p) refl)
    where
      there : IsNamed (Some (PipeRead p)) s
      there = still-named (Some (PipeRead p)) q

      left : Pipework
      left = with_ends s p false (ends_at s p false - 1)

      by : (b : Bool) → is_open_at left p ≡ b
          → AreDropped (take (i + 1) ends) old (kept-if (is_open_at left p) left p)
      by b r = subst (λ b. AreDropped (take (i + 1) ends) old (kept-if b left p))
          (sym r) (record {
            readers = λ pipe.
                omega (
                  arith,
                  one-less s.readers p pipe (count_by (reads_pipe pipe) (take i ends))
                      (ends_at old pipe false)
                      (omega (arith, dropped.reader_counts, there.0)) there.1
                      (dropped.readers pipe),
                  more-no (reads_pipe pipe) ends i (Some (PipeRead p)) h q,
                  ap (λ xs. get_or xs pipe 0) (kept-readers b left p),
                );
            writers = λ pipe.
                omega (
                  arith,
                  dropped.writers pipe,
                  more-no (writes_pipe pipe) ends i
                      (Some (PipeRead p)) h q,
                  ap (λ xs. get_or xs pipe 0) (kept-writers b left p),
                );
            bytes = bytes-left s left old p (omega (arith, dropped.byte_counts, there.0)) refl
                (λ pipe other. ap (λ n. not ((n == 0) && (get_or s.writers pipe 0 == 0)))
                (get_or-set_other s.readers p pipe (get_or s.readers p 0 - 1) 0 other))
                (open-by (get_or s.readers p 0) (get_or s.writers p 0) there.1) dropped.bytes b r;
            reader_counts =
                ap length (kept-readers b left p)
                ∙ length-set s.readers p (get_or s.readers p 0 - 1) ∙ dropped.reader_counts;
            writer_counts = ap length (kept-writers b left p) ∙ dropped.writer_counts;
            byte_counts = kept-counts b left p dropped.byte_counts;
          })
  dropped-more (Some (PipeWrite p)) new q is =
      subst (AreDropped (take (i + 1) ends) old) (sym is) (by (is_open_at left p) refl)
    where
      there : IsNamed (Some (PipeWrite p)) s
      there = still-named (Some (PipeWrite p)) q

      left : Pipework
      left = with_ends s p true (ends_at s p true - 1)

      by : (b : Bool) → is_open_at left p ≡ b
          → AreDropped (take (i + 1) ends) old (kept-if (is_open_at left p) left p)
      by b r = subst (λ b. AreDropped (take (i + 1) ends) old (kept-if b left p))
          (sym r) (record {
            readers = λ pipe.
                omega (
                  arith,
                  dropped.readers pipe,
                  more-no (reads_pipe pipe) ends i (Some (PipeWrite p)) h q,
                  ap (λ xs. get_or xs pipe 0) (kept-readers b left p),
                );
            writers = λ pipe.
                omega (
                  arith,
                  one-less s.writers p pipe (count_by (writes_pipe pipe) (take i ends))
                      (ends_at old pipe true)
                      (omega (arith, dropped.writer_counts, there.0)) there.1
                      (dropped.writers pipe),
                  more-no (writes_pipe pipe) ends i
                      (Some (PipeWrite p)) h q,
                  ap (λ xs. get_or xs pipe 0) (kept-writers b left p),
                );
            bytes = bytes-left s left old p (omega (arith, dropped.byte_counts, there.0)) refl
                (λ pipe other. ap (λ n. not ((get_or s.readers pipe 0 == 0) && (n == 0)))
                (get_or-set_other s.writers p pipe (get_or s.writers p 0 - 1) 0 other))
                (open-by-second (get_or s.readers p 0) (get_or s.writers p 0) there.1) dropped.bytes
                b
                r;
            reader_counts = ap length (kept-readers b left p) ∙ dropped.reader_counts;
            writer_counts =
                ap length (kept-writers b left p)
                ∙ length-set s.writers p (get_or s.writers p 0 - 1) ∙ dropped.writer_counts;
            byte_counts = kept-counts b left p dropped.byte_counts;
          })
  dropped-more (Some Input) new q is =
      subst (AreDropped (take (i + 1) ends) old) (sym is)
      (unnamed (Some Input) q (λ pipe. refl) (λ pipe. refl))
  dropped-more (Some Output) new q is =
      subst (AreDropped (take (i + 1) ends) old) (sym is)
      (unnamed (Some Output) q (λ pipe. refl) (λ pipe. refl))
  dropped-more (Some Error) new q is =
      subst (AreDropped (take (i + 1) ends) old) (sym is)
      (unnamed (Some Error) q (λ pipe. refl) (λ pipe. refl))
  dropped-more None new q is =
      subst (AreDropped (take (i + 1) ends) old) (sym is)
      (unnamed None q (λ pipe. refl) (λ pipe. refl))

-- ---- the descriptors of a live process

module _ (o : Option Holdings) (old s : Pipework) (i : ℕ) (e : Option End) (alive : IsSome o)
    (count : IfSome o (λ h. length h.descriptors ≡ 32))
    (named : IfSome o (λ h. AreNamed h.descriptors old))
    (dropped : IfSome o (λ h. AreDropped (take i h.descriptors) old s))
    (is : IfSome o (λ h. e ≡ end_named h i)) (low : i < 32) where
  pub end-named : IsNamed e s
  end-named = by o alive count named dropped is
    where
      by : (o : Option Holdings) → IsSome o → IfSome o (λ h. length h.descriptors ≡ 32)
          → IfSome o (λ h. AreNamed h.descriptors old)
          → IfSome o (λ h. AreDropped (take i h.descriptors) old s)
          → IfSome o (λ h. e ≡ end_named h i)
          → IsNamed e s
      by None a c n d is = absurd (cc)
      by (Some h) a c n d is =
          still-named h.descriptors old s i (omega (arith, c)) n d e
          (sym (unwrap_or-slice_get h.descriptors i None) ∙ sym is)

  pub end-dropped : (new : Pipework) → new ≡ without_end e s
      → IfSome o (λ h. AreDropped (take (i + 1) h.descriptors) old new)
  end-dropped new gone = by o alive count named dropped is
    where
      by : (o : Option Holdings) → IsSome o → IfSome o (λ h. length h.descriptors ≡ 32)
          → IfSome o (λ h. AreNamed h.descriptors old)
          → IfSome o (λ h. AreDropped (take i h.descriptors) old s)
          → IfSome o (λ h. e ≡ end_named h i)
          → IfSome o (λ h. AreDropped (take (i + 1) h.descriptors) old new)
      by None a c n d is = tt
      by (Some h) a c n d is =
          dropped-more h.descriptors old s i (omega (arith, c)) n d e new
          (sym (unwrap_or-slice_get h.descriptors i None) ∙ sym is) gone
