-- A space copied entry by entry.
use Rattle.std.proofs.Common.{◌≡◌, ◌≢◌, ℕ, zero, suc, ◌+◌, ◌<◌, false, cond, inl, inr, List, []}
use Rattle.std.proofs.Common.{◌∷◌, ◌++◌, length, get_or, slice_get, take, Option, Some, None}
use Rattle.std.proofs.Common.{IsSome}
use Rattle.std.proofs.Common.{IfSome, option_map, option_and_then, length-append, refl, sym, ap}
use Rattle.std.proofs.Common.{subst, ◌∙◌, arith}
use Rattle.std.specs.Prelude.{◌==◌, nat_lt, find}
use Rattle.std.proofs.lemmas.Bool.{cases_eq}
use Rattle.std.proofs.lemmas.Bool.Decides.{nat_tests}
use Rattle.std.proofs.lemmas.List.{take_more, get_or_append_left}
use Rattle.std.proofs.lemmas.List.Sums.{sum_by-append, sum_by-cons}
use Rattle.std.proofs.lemmas.Option.{get_or_from_slice_get}
use Rattle.dos_world.specs.declared.Entry.{Entry}
use Rattle.dos_world.specs.Numbered.{changed, changed_at}
use Rattle.dos_world.proofs.Numbers.{changed_other}
use Rattle.dos_world.specs.World.{World, Process, Holdings, Life, live, ended, holdings_of}
use Rattle.dos_world.specs.World.{on_holdings, live_changed, look, is_free}
use Rattle.dos_world.specs.Kernel.{put, with_entry}
use Rattle.dos_world.specs.ProcessCalls.{copied_space, private_entries}
use Rattle.page_store.specs.Store.{KeepsFrames, Store, free_count, owner_at, uses_at}
use Rattle.page_store.proofs.Kept.{frames-same, frames-then}
use Rattle.space_map.specs.Mapping.{IsRising, page_of_entry, no_entry as no_page}
use Rattle.proc_table.specs.Tables.{Tables, IsProcess, held_in, held_by}
use Rattle.proc_table.proofs.Standing.{spaced_by}
use Rattle.kernel_mem.specs.Memory.{entries_of}
use Rattle.kernel_mem.specs.MemoryWorld.{in_world, space_in, HasAllHome}
use Rattle.kernel_mem.specs.Forking.{entry_copied, IsUsedMore, taken_by, with_space}
use Rattle.kernel_mem.proofs.Copies.{private-more}
use Rattle.kernel_mem.proofs.DropRun.{next-page}

-- ---- what processes have, changed

held_there : (f : Holdings → Holdings) (ps : List Process) (p : ℕ)
    → held_in (changed (on_holdings f) ps p) p ≡ option_map f (held_in ps p)
held_there f ps zero = refl
held_there f ps (suc i) = at ps i
  where
    one : (parent : ℕ) (l : Life)
        → holdings_of (on_holdings f (record { parent = parent; life = l }))
        ≡ option_map f (holdings_of (record { parent = parent; life = l }))
    one parent (live h) = refl
    one parent (ended status collected) = refl

    at : (ps : List Process) (i : ℕ)
        → held_in (changed (on_holdings f) ps (suc i)) (suc i) ≡ option_map f (held_in ps (suc i))
    at [] i = refl
    at (x ∷ ps) zero = one x.parent x.life
    at (x ∷ ps) (suc i) = at ps i

held_other : (f : Holdings → Holdings) (ps : List Process) (p q : ℕ) → q ≢ p
    → held_in (changed (on_holdings f) ps p) q ≡ held_in ps q
held_other f ps p q other =
    ap (option_and_then holdings_of) (changed_other (on_holdings f) ps p q other)

changed_twice : {A : Type 0} (f g h : A → A) → ((x : A) → g (f x) ≡ h x) → (xs : List A) (p : ℕ)
    → changed g (changed f xs p) p ≡ changed h xs p
changed_twice f g h e xs zero = refl
changed_twice {A} f g h e xs (suc i) = at xs i
  where
    at : (xs : List A) (i : ℕ) → changed_at g (changed_at f xs i) i ≡ changed_at h xs i
    at [] i = refl
    at (x ∷ xs) zero = ap (λ y. y ∷ xs) (e x)
    at (x ∷ xs) (suc i) = ap (λ ys. x ∷ ys) (at xs i)

-- a process that lives still lives where another changes, and where it changes itself
pub other-space : (f : Holdings → Holdings) (T old_table : Tables) (pid child : ℕ)
    → T ≡ held_by f old_table child
    → pid ≢ child → held_in T.processes pid ≡ held_in old_table.processes pid
other-space f T old_table pid child is apart = ap (λ (x : Tables). held_in x.processes pid) is
    ∙ held_other f old_table.processes child pid apart

pub other-live : (f : Holdings → Holdings) (T old_table : Tables) (pid child : ℕ)
    → T ≡ held_by f old_table child
    → pid ≢ child → IsProcess old_table.processes pid → IsProcess T.processes pid
other-live f T old_table pid child is apart alive =
    subst (λ (o : Option Holdings). IsSome o)
    (sym (other-space f T old_table pid child is apart)) alive

pub still-live : (f : Holdings → Holdings) (T old_table : Tables) (child : ℕ)
    → T ≡ held_by f old_table child
    → IsProcess old_table.processes child → IsProcess T.processes child
still-live f T old_table child is alive =
    subst (λ (o : Option Holdings). IsSome o)
    (sym (ap (λ (x : Tables). held_in x.processes child) is
    ∙ held_there f old_table.processes child))
    (by (held_in old_table.processes child) alive)
  where
    by : (o : Option Holdings) → IsSome o → IsSome (option_map f o)
    by None h = h
    by (Some h) e = refl

-- what is said of the space of a live process
pub of-space : (P : List (ℕ × Entry) → Type 0) (T : Tables) (p : ℕ) → P (space_in T p)
    → IfSome (held_in T.processes p) (λ h. P h.space)
of-space P T p h = by (held_in T.processes p) h
  where
    by : (o : Option Holdings) → P (elim o [ None ↦ [] | Some h ↦ h.space ])
        → IfSome o (λ h. P h.space)
    by None h = tt
    by (Some k) h = h

-- the space that a live process has is that of the table
pub space-is : (T : Tables) (p : ℕ) (es : List (ℕ × Entry)) → IsProcess T.processes p
    → IfSome (held_in T.processes p) (λ h. es ≡ h.space) → es ≡ space_in T p
space-is T p es alive is = by (held_in T.processes p) alive is
  where
    by : (o : Option Holdings) → IsSome o → IfSome o (λ h. es ≡ h.space)
        → es ≡ elim o [ None ↦ [] | Some h ↦ h.space ]
    by None alive is = cc
    by (Some h) alive is = is

-- the space that is copied, as it is lent while the copy grows
pub lent-space : (f : Holdings → Holdings) (T old_table : Tables) (pid child : ℕ)
    (es : List (ℕ × Entry))
    → T ≡ held_by f old_table child → pid ≢ child → IsProcess old_table.processes pid
    → IfSome (held_in T.processes pid) (λ h. es ≡ h.space) → es ≡ space_in old_table pid
lent-space f T old_table pid child es is apart alive here =
    space-is old_table pid es alive
    (subst (λ (o : Option Holdings). IfSome o (λ h. es ≡ h.space))
    (other-space f T old_table pid child is apart) here)

-- a change of the space that a process has so far
space_twice : (f : List (ℕ × Entry) → List (ℕ × Entry)) (cs : List (ℕ × Entry)) (x : Process)
    → on_holdings (spaced_by f) (on_holdings (with_space cs) x) ≡ on_holdings (with_space (f cs)) x
space_twice f cs x = by x.life
  where
    by : (l : Life) → ◌≡◌ {A = Process}
        (record x { life = live_changed (spaced_by f) (live_changed (with_space cs) l) })
        (record x { life = live_changed (with_space (f cs)) l })
    by (live h) = refl
    by (ended s c) = refl

pub table-changed : (f : List (ℕ × Entry) → List (ℕ × Entry)) (T next_table old_table : Tables)
    (child : ℕ) (cs : List (ℕ × Entry))
    → T ≡ held_by (with_space cs) old_table child → next_table ≡ held_by (spaced_by f) T child
    → next_table ≡ held_by (with_space (f cs)) old_table child
table-changed f T next_table old_table child cs is changed_is =
    changed_is ∙ ap (λ (x : Tables). held_by (spaced_by f) x child) is
    ∙ ap (λ ps. with_processes ps)
    (changed_twice (on_holdings (with_space cs)) (on_holdings (spaced_by f))
    (on_holdings (with_space (f cs)))
    (space_twice f cs) old_table.processes child)
  where
    with_processes : List Process → Tables
    with_processes ps = record old_table { processes = ps }

pub space-changed : (f : List (ℕ × Entry) → List (ℕ × Entry)) (T next_table : Tables) (child : ℕ)
    → IsProcess T.processes child → next_table ≡ held_by (spaced_by f) T child
    → space_in next_table child ≡ f (space_in T child)
space-changed f T next_table child alive is =
    ap (λ (x : Tables). space_in x child) is
    ∙ ap space_by (held_there (spaced_by f) T.processes child)
    ∙ by (held_in T.processes child) alive
  where
    space_by : Option Holdings → List (ℕ × Entry)
    space_by o = elim o [ None ↦ [] | Some h ↦ h.space ]

    by : (o : Option Holdings) → IsSome o
        → space_by (option_map (spaced_by f) o) ≡ f (space_by o)
    by None alive = cc
    by (Some h) alive = refl

-- ---- put behind all pages

pub put-last : (cs : List (ℕ × Entry)) (page : ℕ) (e : Entry)
    → ((k : ℕ) → k < length cs → page_of_entry cs k < page) → put page e cs ≡ cs ++ (page, e) ∷ []
put-last [] page e below = refl
put-last (x ∷ cs) page e below =
    let above : nat_lt page x.0 ≡ false = grind (arith, nat_tests, below 0 (omega arith)) in
    ap (λ b. cond b ((page, e) ∷ x ∷ cs) (x ∷ put page e cs)) above
    ∙ ap (λ ys. x ∷ ys) (put-last cs page e (λ k h. below (suc k) (omega arith)))

pub look-above : (cs : List (ℕ × Entry)) (page : ℕ)
    → ((k : ℕ) → k < length cs → page_of_entry cs k < page) → look cs page ≡ None
look-above [] page below = refl
look-above (x ∷ cs) page below =
    let other : (x.0 == page) ≡ false = grind (arith, nat_tests, below 0 (omega arith)) in
    ap (λ b. option_map (λ (e : ℕ × Entry). e.1)
    (cond b (Some x) (find (λ (e : ℕ × Entry). e.0 == page) cs))) other
    ∙ look-above cs page (λ k h. below (suc k) (omega arith))

-- ---- one entry more in the flat world

pub copied-snoc : (w : World) (t : ℕ) (es : List (ℕ × Entry)) (e : ℕ × Entry)
    → copied_space w t (es ++ e ∷ [])
    ≡ (
      (entry_copied (copied_space w t es).0 t e.1).0,
      (copied_space w t es).1
          ++ (e.0, (entry_copied (copied_space w t es).0 t e.1).1) ∷ [],
    )
copied-snoc w t [] e = refl
copied-snoc w t (x ∷ es) e =
    ap (λ (r : World × List (ℕ × Entry)). (r.0, (x.0, (entry_copied w t x.1).1) ∷ r.1))
    (copied-snoc (entry_copied w t x.1).0 t es e)

pub copied-step : (w w1 w2 : World) (t : ℕ) (es cs : List (ℕ × Entry)) (e : ℕ × Entry)
    (copy : Entry) → copied_space w t es ≡ (w1, cs) → entry_copied w1 t e.1 ≡ (w2, copy)
    → copied_space w t (es ++ e ∷ []) ≡ (w2, cs ++ (e.0, copy) ∷ [])
copied-step w w1 w2 t es cs e copy before one =
    copied-snoc w t es e ∙
    ap (λ (r : World × List (ℕ × Entry)).
    ((entry_copied r.0 t e.1).0, r.1 ++ (e.0, (entry_copied r.0 t e.1).1) ∷ [])) before
    ∙ ap (λ (q : World × Entry). pair q.0 (cs ++ (e.0, q.1) ∷ [])) one
  where
    pair : World → List (ℕ × Entry) → World × List (ℕ × Entry)
    pair x ys = (x, ys)

-- ---- how far a copy has come

pub record IsCopying (s0 : Store) (old_table : Tables) (pid child tid i : ℕ) (s : Store)
    (T : Tables) : Type 0 where
  pub table : T ≡ held_by (with_space (space_in T child)) old_table child
  pub copies : (w : World) (U : Tables)
      → copied_space (in_world w s0 U) tid (take i (space_in old_table pid))
      ≡ (in_world w s U, space_in T child)
  pub home : HasAllHome s
  pub frames : KeepsFrames s0 s
  pub uses : (f : ℕ) → uses_at s f ≡ uses_at s0 f + entries_of (space_in T child) f
  pub taken : (f : ℕ) → is_free (owner_at s0 f) ≡ false → is_free (owner_at s f) ≡ false
  pub length_is : length (space_in T child) ≡ i
  pub below : i < length (space_in old_table pid) → (k : ℕ) → k < i
      → page_of_entry (space_in T child) k < page_of_entry (space_in old_table pid) i
  pub free : free_count s + private_entries (take i (space_in old_table pid)) ≡ free_count s0

entries-append : (cs : List (ℕ × Entry)) (e : ℕ × Entry) (f : ℕ)
    → entries_of (cs ++ e ∷ []) f ≡ entries_of cs f + cond (e.1.frame == f) 1 0
entries-append cs e f = omega (
  arith,
  sum_by-append (λ (x : ℕ × Entry). cond {A = ℕ} (x.1.frame == f) 1 0) cs (e ∷ []),
  sum_by-cons (λ (x : ℕ × Entry). cond {A = ℕ} (x.1.frame == f) 1 0) e [],
)

page-more : (cs : List (ℕ × Entry)) (e : ℕ × Entry) (k n : ℕ) → length cs ≡ n → k < n
    → page_of_entry (cs ++ e ∷ []) k ≡ page_of_entry cs k
page-more cs e k n l h = ap (λ (x : ℕ × Entry). x.0)
    (get_or_append_left cs (e ∷ []) (0, no_page) k (omega arith))

page-last : (cs : List (ℕ × Entry)) (e : ℕ × Entry) (n : ℕ) → length cs ≡ n
    → page_of_entry (cs ++ e ∷ []) n ≡ e.0
page-last [] e zero l = refl
page-last [] e (suc n) l = absurd (omega arith)
page-last (x ∷ cs) e zero l = absurd (omega arith)
page-last (x ∷ cs) e (suc n) l = page-last cs e n (omega arith)

-- the entry of a process that is copied next
pub record IsNextEntry (old_table : Tables) (pid i : ℕ) (e : ℕ × Entry) : Type 0 where
  pub within : i < length (space_in old_table pid)
  pub found : slice_get (space_in old_table pid) i ≡ Some e
  pub here : get_or (space_in old_table pid) i (0, no_page) ≡ e
  pub sorted : IsRising (space_in old_table pid)

module _ {s0 s : Store} {old_table T : Tables} {pid child tid i : ℕ}
    (so_far : IsCopying s0 old_table pid child tid i s T) where
  -- it is read from the space as it was and as it is lent while the copy grows
  pub next_entry : (first now : List (ℕ × Entry)) {e : ℕ × Entry} → pid ≢ child
      → IsProcess old_table.processes pid
      → IfSome (held_in old_table.processes pid) (λ h. first ≡ h.space) → IsRising first
      → i < length first → IfSome (held_in T.processes pid) (λ h. now ≡ h.space)
      → slice_get now i ≡ Some e → IsNextEntry old_table pid i e
  next_entry first now {e} apart alive is rising low lent at =
      let same : first ≡ space_in old_table pid = space-is old_table pid first alive is in
      let found : slice_get (space_in old_table pid) i ≡ Some e =
      ap (λ (es : List (ℕ × Entry)). slice_get es i)
      (sym (lent-space (with_space (space_in T child)) T old_table pid child now so_far.table
      apart alive lent)) ∙ at in
      record {
        within = omega (arith, ap length same);
        found = found;
        here = get_or_from_slice_get (space_in old_table pid) i e (0, no_page) found;
        sorted = subst IsRising same rising;
      }

  module _ {e : ℕ × Entry} (next : IsNextEntry old_table pid i e)
      (alive : IsProcess old_table.processes child) where
    child-lives : IsProcess T.processes child
    child-lives = still-live (with_space (space_in T child)) T old_table child so_far.table alive

    page-here : page_of_entry (space_in old_table pid) i ≡ e.0
    page-here = ap (λ (x : ℕ × Entry). x.0) next.here

    pub pages-below : (k : ℕ) → k < length (space_in T child)
        → page_of_entry (space_in T child) k < e.0
    pages-below k h = omega
        (arith, page-here, so_far.below next.within k (omega (arith, so_far.length_is)))

    module _ {s1 : Store} {next_table : Tables} (copy : Entry)
        (put_is : next_table ≡ held_by (with_entry e.0 copy) T child)
        (copied : (w : World) (U : Tables)
        → entry_copied (in_world w s U) tid e.1 ≡ (in_world w s1 U, copy))
        (more : IsUsedMore s copy.frame s1)
        (free : free_count s1 + taken_by e.1 ≡ free_count s) where
      space-now : space_in next_table child ≡ space_in T child ++ (e.0, copy) ∷ []
      space-now = space-changed (put e.0 copy) T next_table child child-lives put_is
          ∙ put-last (space_in T child) e.0 copy pages-below

      pub copying-more : IsCopying s0 old_table pid child tid (i + 1) s1 next_table
      copying-more = record {
        table = table-changed (put e.0 copy) T next_table old_table child (space_in T child)
            so_far.table put_is
            ∙ ap (λ (es : List (ℕ × Entry)). held_by (with_space es) old_table child)
            (put-last (space_in T child) e.0 copy pages-below ∙ sym space-now);
        copies = λ w U.
            ap (copied_space (in_world w s0 U) tid)
            (take_more (space_in old_table pid) i (0, no_page) next.within
            ∙ ap (λ (x : ℕ × Entry). take i (space_in old_table pid) ++ x ∷ []) next.here)
            ∙ copied-step (in_world w s0 U) (in_world w s U) (in_world w s1 U) tid
            (take i (space_in old_table pid)) (space_in T child) e copy (so_far.copies w U)
            (copied w U)
            ∙ ap (λ (es : List (ℕ × Entry)). pair (in_world w s1 U) es) (sym space-now);
        home = more.home;
        frames = frames-then more.frames so_far.frames;
        uses = λ f. more.uses f
            ∙ omega (
              arith,
              so_far.uses f,
              entries-append (space_in T child) (e.0, copy) f,
              ap (λ (es : List (ℕ × Entry)). entries_of es f) space-now,
            );
        taken = λ f h. more.taken f (so_far.taken f h);
        length_is = ap length space-now ∙ length-append (space_in T child) ((e.0, copy) ∷ [])
            ∙ omega (arith, so_far.length_is);
        below = λ h k l. ap-below h k l;
        free = omega (
          arith,
          so_far.free,
          free,
          private-more (space_in old_table pid) i e next.within next.here,
        );
      }
        where
          pair : World → List (ℕ × Entry) → World × List (ℕ × Entry)
          pair x ys = (x, ys)

          ap-below : i + 1 < length (space_in old_table pid) → (k : ℕ) → k < i + 1
              → page_of_entry (space_in next_table child) k < page_of_entry
              (space_in old_table pid) (i + 1)
          ap-below h k l =
              let after : page_of_entry (space_in old_table pid) i < page_of_entry
              (space_in old_table pid)
              (i + 1) =
              next-page (space_in old_table pid) next.sorted i h in
              let now : page_of_entry (space_in next_table child) k
              ≡ page_of_entry (space_in T child ++ (e.0, copy) ∷ []) k =
              ap (λ (es : List (ℕ × Entry)). page_of_entry es k) space-now in
              elim (cases_eq k i) [
                | inl same ↦
                    omega (
                      arith,
                      now,
                      ap (page_of_entry (space_in T child ++ (e.0, copy) ∷ [])) same,
                      page-last (space_in T child) (e.0, copy) i so_far.length_is,
                      page-here,
                    )
                | inr other ↦
                    omega (
                      arith,
                      now,
                      page-more (space_in T child) (e.0, copy) k i so_far.length_is
                          (omega arith),
                      so_far.below next.within k (omega arith),
                    )
              ]

same-space : (ps : List Process) (p : ℕ) (es : List (ℕ × Entry))
    → IfSome (held_in ps p) (λ h. es ≡ h.space) → changed (on_holdings (with_space es)) ps p ≡ ps
same-space ps zero es h = refl
same-space ps (suc i) es h = at ps i h
  where
    one : (x : Process) (l : Life)
        → IfSome (holdings_of (record x { life = l })) (λ h. es ≡ h.space)
        → ◌≡◌ {A = Process} (record x { life = live_changed (with_space es) l })
        (record x { life = l })
    one x (live k) e = ap (λ (ys : List (ℕ × Entry)). by ys) e
      where
        by : List (ℕ × Entry) → Process
        by ys = record x { life = live (record k { space = ys }) }
    one x (ended s c) e = refl

    at : (ps : List Process) (i : ℕ) → IfSome (held_in ps (suc i)) (λ h. es ≡ h.space)
        → changed_at (on_holdings (with_space es)) ps i ≡ ps
    at [] i h = refl
    at (x ∷ ps) zero h = ap (λ y. y ∷ ps) (one x x.life h)
    at (x ∷ ps) (suc i) h = ap (λ ys. x ∷ ys) (at ps i h)

-- its own space is no change
pub own-space : (T : Tables) (p : ℕ) → T ≡ held_by (with_space (space_in T p)) T p
own-space T p = ap (λ ps. with_processes ps)
    (sym (same-space T.processes p (space_in T p) (of-space (λ es. space_in T p ≡ es) T p refl)))
  where
    with_processes : List Process → Tables
    with_processes ps = record T { processes = ps }

pub copying-none : (s : Store) (T : Tables) (pid child tid : ℕ) → HasAllHome s
    → space_in T child ≡ [] → IsCopying s T pid child tid 0 s T
copying-none s T pid child tid home empty = record {
  table = own-space T child;
  copies = λ w U. ap (λ (es : List (ℕ × Entry)). pair (in_world w s U) es) (sym empty);
  home = home;
  frames = frames-same s;
  uses = λ f. omega (arith, ap (λ (es : List (ℕ × Entry)). entries_of es f) empty);
  taken = λ f h. h;
  length_is = ap length empty;
  below = λ h k l. absurd (omega arith);
  free = omega arith;
}
  where
    pair : World → List (ℕ × Entry) → World × List (ℕ × Entry)
    pair x ys = (x, ys)
