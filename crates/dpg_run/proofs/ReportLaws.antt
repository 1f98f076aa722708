-- The lines of a report, one after another.
use Rattle.std.proofs.Common.{ℕ, zero, suc, ◌+◌, ◌<◌, ◌≤◌, ◌≡◌, sym, ap, ◌∙◌, subst, List, [], ◌∷◌}
use Rattle.std.proofs.Common.{◌++◌, length, take, drop, map, get_or, Option, arith}
use Rattle.std.specs.Prelude.{IfSome, slice_get}
use Rattle.std.proofs.lemmas.List.{append-nil, append_assoc, length-take, take-append-drop}
use Rattle.std.proofs.lemmas.List.{take_all, take_more}
use Rattle.dos_world.specs.Numbered.{numbered}
use Rattle.dos_world.specs.World.{Process}
use Rattle.dos_io.specs.Outside.{grown, GrewByFront}
use Rattle.dos_io.proofs.OutsideLaws.{grown-twice}
use Rattle.proc_table.specs.Tables.{last_status}
use Rattle.flat_machine.specs.Machine.{status_in}
use Rattle.dos_texts.specs.Report.{process_line, process_lines}
use Rattle.dos_texts.proofs.Pieces.{front_of_whole}

-- ---- the lines

lines-append : (number : ℕ) (xs ys : List (Option ℕ))
    → process_lines number (xs ++ ys) ≡ process_lines number xs
    ++ process_lines (number + length xs) ys
lines-append number [] ys = ap (λ n. process_lines n ys) (omega arith)
lines-append number (x ∷ xs) ys =
    ap (λ lines. process_line number x ++ lines)
    (lines-append (suc number) xs ys
    ∙ ap (λ n. process_lines (suc number) xs ++ process_lines n ys) (omega arith))
    ∙ sym (append_assoc (process_line number x) (process_lines (suc number) xs)
    (process_lines (number + suc (length xs)) ys))

lines_more : (all : List (Option ℕ)) (i : ℕ) (status : Option ℕ) → i < length all
    → status ≡ get_or all i status
    → process_lines 1 (take (i + 1) all) ≡ process_lines 1 (take i all)
    ++ process_line (i + 1) status
lines_more all i status lt is =
    ap (process_lines 1) (take_more all i status lt ∙ ap (λ s. take i all ++ s ∷ []) (sym is))
    ∙ lines-append 1 (take i all) (status ∷ [])
    ∙ ap (λ n. process_lines 1 (take i all) ++ process_lines n (status ∷ []))
    (omega (arith, length-take i all))
    ∙ ap (λ line. process_lines 1 (take i all) ++ line) (append-nil (process_line (i + 1) status))

pub told_more : (told before new : Option (List ℕ)) (all : List (Option ℕ)) (i : ℕ)
    (status : Option ℕ) (line : List ℕ) → i < length all → status ≡ get_or all i status
    → before ≡ grown told (process_lines 1 (take i all)) → line ≡ process_line (i + 1) status
    → new ≡ grown before line → new ≡ grown told (process_lines 1 (take (i + 1) all))
told_more told before new all i status line lt is so_far line_is put =
    put ∙ ap (λ t. grown t line) so_far
    ∙ ap (grown (grown told (process_lines 1 (take i all)))) line_is
    ∙ grown-twice told (process_lines 1 (take i all)) (process_line (i + 1) status)
    ∙ ap (grown told) (sym (lines_more all i status lt is))

pub told_all : (told before : Option (List ℕ)) (all : List (Option ℕ)) (i : ℕ) → length all ≤ i
    → before ≡ grown told (process_lines 1 (take i all)) → before ≡ grown told (process_lines 1 all)
told_all told before all i past so_far =
    so_far ∙ ap (λ xs. grown told (process_lines 1 xs)) (take_all i all past)

pub front_more : (told before new : Option (List ℕ)) (all : List (Option ℕ)) (i : ℕ)
    (status : Option ℕ) (line : List ℕ) → i < length all → status ≡ get_or all i status
    → before ≡ grown told (process_lines 1 (take i all)) → line ≡ process_line (i + 1) status
    → GrewByFront before new line → GrewByFront told new (process_lines 1 all)
front_more told before new all i status line lt is so_far line_is front =
    let left : List ℕ = process_lines (1 + length (take (i + 1) all)) (drop (i + 1) all) in
    let whole : process_lines 1 all ≡ process_lines 1 (take i all) ++ (line ++ left) =
    ap (process_lines 1) (sym (take-append-drop (i + 1) all))
    ∙ lines-append 1 (take (i + 1) all) (drop (i + 1) all)
    ∙ ap (λ lines. lines ++ left) (lines_more all i status lt is)
    ∙ append_assoc (process_lines 1 (take i all)) (process_line (i + 1) status) left
    ∙ ap (λ l. process_lines 1 (take i all) ++ (l ++ left)) (sym line_is) in
    front_of_whole told before new (process_lines 1 (take i all)) line left (process_lines 1 all)
    so_far front whole

-- ---- the status of a process

status_here : (processes : List Process) (i : ℕ) (status : Option ℕ) → i < length processes
    → IfSome (slice_get processes i) (λ process. status ≡ last_status process)
    → status ≡ get_or (map status_in processes) i status
status_here [] i status lt known = absurd (omega arith)
status_here (process ∷ processes) zero status lt known = known
status_here (process ∷ processes) (suc i) status lt known =
    status_here processes i status (omega arith) known

pub status_at : (processes : List Process) (i : ℕ) (status : Option ℕ) → i < length processes
    → IfSome (numbered processes (i + 1)) (λ process. status ≡ last_status process)
    → status ≡ get_or (map status_in processes) i status
status_at processes i status lt known =
    let next : i + 1 ≡ suc i = omega arith in
    status_here processes i status lt
    (subst (λ n. IfSome (numbered processes n) (λ process. status ≡ last_status process))
    next known)
