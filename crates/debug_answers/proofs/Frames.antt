-- Pages of a process as they are told.
use Rattle.std.proofs.Common.{◌≡◌, ℕ, suc, ◌+◌, ◌<◌, ◌^◌, List, [], ◌++◌, length, Option, Some}
use Rattle.std.proofs.Common.{None}
use Rattle.std.proofs.Common.{refl, sym, ap, subst, ◌∙◌, arith, flat_map, append-nil, IfSome}
use Rattle.std.specs.Prelude.{All, IsSome, is_some, slice_get, false, option_and_then}
use Rattle.std.proofs.lemmas.Bool.{true≢false}
use Rattle.std.proofs.lemmas.List.Elements.{All-get_or, All-weaker}
use Rattle.std.proofs.lemmas.Option.{get_or_from_slice_get, slice_get_within}
use Rattle.dos_world.specs.Lawful.{IsPage}
use Rattle.dos_world.specs.World.{World, Process, Holdings, holdings_of, look}
use Rattle.dos_world.specs.declared.Entry.{Entry}
use Rattle.proc_table.specs.Tables.{IsProcess, held_in}
use Rattle.kernel_mem.specs.MemoryWorld.{space_in}
use Rattle.kernel_calls.specs.StateWorld.{IsSound}
use Rattle.kernel_calls.specs.declared.state.State.{State}
use Rattle.kernel_calls.proofs.Callers.{Has, has}
use Rattle.debug_session.specs.Pages.{also_row, also_in, page_lines_of, page_lines_in}
use Rattle.debug_session.specs.Pages.{no_process_lines, stretches_of, pages_lines_in}

-- an entry of a page that may be mapped
abbrev pub IsLow : ℕ × Entry → Type 0
IsLow e = e.0 < 2 ^ 20

pub one_low : (P : ℕ × Entry → Type 0) (es : List (ℕ × Entry)) (i : ℕ) (e : ℕ × Entry) → All P es
    → slice_get es i ≡ Some e → P e
one_low P es i e all is =
    subst P (get_or_from_slice_get es i e e is)
    (All-get_or P es i e (slice_get_within es i e is) all)

pub all_pages : (s : State) (p : ℕ) (entries : List (ℕ × Entry)) → IsSound s
    → IsProcess s.table.processes p
    → IfSome (held_in s.table.processes p) (λ h. entries ≡ h.space)
    → All (IsPage (length s.frames.owners)) entries
all_pages s p entries sound live are =
    let x : Has s p = has s p sound live in
    let its : entries ≡ x.holdings.space =
    subst (λ (o : Option Holdings). IfSome o (λ h. entries ≡ h.space)) x.is are in
    subst (All (IsPage (length s.frames.owners))) (sym its) x.are.pages

pub all_low : (s : State) (p : ℕ) (entries : List (ℕ × Entry)) → IsSound s
    → IsProcess s.table.processes p
    → IfSome (held_in s.table.processes p) (λ h. entries ≡ h.space) → All IsLow entries
all_low s p entries sound live are =
    All-weaker (IsPage (length s.frames.owners)) IsLow (λ e page. omega (arith, page.1))
    entries (all_pages s p entries sound live are)

-- the other pages of a process that lives
pub also_living : (p page frame q : ℕ) (o : Option Holdings) (entries : List (ℕ × Entry))
    → IsSome o → IfSome o (λ h. entries ≡ h.space)
    → flat_map (also_row p page frame q) entries ≡ also_in p page frame q o
also_living p page frame q None entries some are = absurd (true≢false (sym some))
also_living p page frame q (Some h) entries some are =
    ap (flat_map (also_row p page frame q)) are

-- and of one that doesn't
pub also_none : (p page frame q : ℕ) (o : Option Holdings) (lines : List (List ℕ))
    → is_some o ≡ false → lines ≡ lines ++ also_in p page frame q o
also_none p page frame q None lines none = sym (append-nil lines)
also_none p page frame q (Some h) lines none = absurd (true≢false none)

-- a page of a process that lives
pub page_living : (w : World) (p page : ℕ) (o : Option Holdings) → IsSome o
    → page_lines_of w p page
    (look (elim o as (λ _. List (ℕ × Entry)) [ None ↦ [] | Some h ↦ h.space ]) page)
    ≡ page_lines_in w p page o
page_living w p page None some = absurd (true≢false (sym some))
page_living w p page (Some h) some = refl

pub page_absent : (w : World) (p page : ℕ) (o : Option Holdings) → is_some o ≡ false
    → no_process_lines ≡ page_lines_in w p page o
page_absent w p page None none = refl
page_absent w p page (Some h) none = absurd (true≢false none)

-- the pages of a process that lives, in stretches
pub pages_living : (w : World) (o : Option Holdings) (entries : List (ℕ × Entry)) → IsSome o
    → IfSome o (λ h. entries ≡ h.space) → stretches_of w entries ≡ pages_lines_in w o
pages_living w None entries some are = absurd (true≢false (sym some))
pages_living w (Some h) entries some are = ap (stretches_of w) are

pub pages_absent : (w : World) (o : Option Holdings) → is_some o ≡ false
    → no_process_lines ≡ pages_lines_in w o
pages_absent w None none = refl
pages_absent w (Some h) none = absurd (true≢false none)

-- the pages that a table gives of a process that lives
pub space_is : (s : State) (p : ℕ) (entries : List (ℕ × Entry)) → IsSound s
    → IsProcess s.table.processes p
    → IfSome (held_in s.table.processes p) (λ h. entries ≡ h.space)
    → entries ≡ space_in s.table p
space_is s p entries sound live are =
    let x : Has s p = has s p sound live in
    subst (λ (o : Option Holdings). IfSome o (λ h. entries ≡ h.space)) x.is are ∙ sym x.space

-- those with a frame in the process of a number that was given
pub also_of_number : (p page frame : ℕ) (ps : List Process) (i : ℕ) (x : Process)
    → slice_get ps i ≡ Some x
    → also_in p page frame (i + 1) (held_in ps (i + 1))
    ≡ also_in p page frame (1 + i) (holdings_of x)
also_of_number p page frame ps i x is =
    let next : i + 1 ≡ suc i = omega arith in
    let same : suc i ≡ 1 + i = omega arith in
    ap (λ n. also_in p page frame n (held_in ps n)) next
    ∙ ap (λ (o : Option Process). also_in p page frame (suc i) (option_and_then holdings_of o)) is
    ∙ ap (λ n. also_in p page frame n (holdings_of x)) same
