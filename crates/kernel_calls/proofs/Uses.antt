-- The uses of frames, counted again when a process has ended or pages are unmapped.
use Rattle.std.proofs.Common.{◌≡◌, ℕ, zero, suc, ◌+◌, ◌<◌, Bool, true, false, cond, List, [], ◌∷◌}
use Rattle.std.proofs.Common.{length, Option, Some, None, refl, sym, ap, ◌∙◌, arith}
use Rattle.std.specs.Prelude.{◌==◌, ◌&&◌, ◌||◌, nat_lt, count_by, sum_by}
use Rattle.std.specs.List.{list_any}
use Rattle.std.proofs.lemmas.List.{ext_get_or}
use Rattle.std.proofs.lemmas.List.Sums.{sum_by-cons}
use Rattle.std.proofs.lemmas.Bool.Decides.{nat_tests}
use Rattle.dos_world.specs.Numbered.{changed, changed_at, map_from}
use Rattle.dos_world.specs.World.{World, Process, Holdings, holdings_of, all_holdings}
use Rattle.dos_world.specs.Kernel.{ended_by, zero_page}
use Rattle.dos_world.specs.Counts.{uses_of, is_mapped, maps_frame, owner_if_mapped}
use Rattle.dos_world.specs.Counts.{bytes_if_mapped}
use Rattle.dos_world.specs.declared.Entry.{Entry}
use Rattle.dos_world.specs.declared.Owner.TheVariants.{Free}
use Rattle.dos_laws.specs.Ends.{ended_processes}
use Rattle.dos_laws.proofs.EndedProcesses.{before, orphans_have}
use Rattle.dos_laws.proofs.Ends.{length-map_from, get_or-map_from}
use Rattle.page_store.specs.Store.{Store, zeroed, joined, shown, owner_at, page_at, uses_at}
use Rattle.page_store.proofs.Joined.{joined-tidied, shown-cleared}
use Rattle.proc_table.specs.Tables.{held_in}
use Rattle.kernel_mem.specs.Memory.{IsDropped, entries_of}

-- ---- sums over what the live processes have

sum_before : (f : Holdings → ℕ) (o : Option Holdings) (rest more : List Holdings) (k : ℕ)
    → sum_by f more ≡ sum_by f rest + k → sum_by f (before o more) ≡ sum_by f (before o rest) + k
sum_before f None rest more k e = e
sum_before f (Some h) rest more k e = omega (arith, sum_by-cons f h more, sum_by-cons f h rest)

-- what the others have, and what the one had that ended
pub sum_ended : (f : Holdings → ℕ) (status : ℕ) (ps : List Process) (p : ℕ) (h : Holdings)
    → held_in ps p ≡ Some h
    → sum_by f (all_holdings ps) ≡ sum_by f (all_holdings (changed (ended_by status) ps p)) + f h
sum_ended f status ps zero h e = cc
sum_ended f status ps (suc i) h e = at ps i e
  where
    at : (ps : List Process) (i : ℕ) → held_in ps (suc i) ≡ Some h
        → sum_by f (all_holdings ps)
        ≡ sum_by f (all_holdings (changed_at (ended_by status) ps i)) + f h
    at [] i e = cc
    at (x ∷ ps) zero e = ap (λ o. sum_by f (before o (all_holdings ps))) e
        ∙ omega (arith, sum_by-cons f h (all_holdings ps))
    at (x ∷ ps) (suc i) e =
        sum_before f (holdings_of x) (all_holdings (changed_at (ended_by status) ps i))
        (all_holdings ps) (f h) (at ps i e)

-- A frame's uses are those that are left, and those of the process that ended.
pub uses-ended : (w : World) (p status frame : ℕ) (h : Holdings) → held_in w.processes p ≡ Some h
    → uses_of w frame ≡ uses_of
    (record w { processes = ended_processes w.processes p status }) frame + entries_of h.space
    frame
uses-ended w p status frame h e =
    let f : Holdings → ℕ = λ (k : Holdings). count_by (λ (x : ℕ × _). x.1.frame == frame) k.space in
    sum_ended f status w.processes p h e
    ∙ ap (λ hs. sum_by f hs + f h)
    (sym (orphans_have p (changed (ended_by status) w.processes p)))

-- ---- mapped is used

pub any_summed : {A : Type 0} (test : A → Bool) (f : A → ℕ) → ((x : A) → test x ≡ nat_lt 0 (f x))
    → (xs : List A) → list_any test xs ≡ nat_lt 0 (sum_by f xs)
any_summed test f each [] = refl
any_summed test f each (x ∷ xs) =
    ap (λ b. b || list_any test xs) (each x)
    ∙ ap (λ b. nat_lt 0 (f x) || b) (any_summed test f each xs) ∙ either (f x) (sum_by f xs)
    ∙ ap (nat_lt 0) (sym (sum_by-cons f x xs))
  where
    either : (a b : ℕ) → (nat_lt 0 a || nat_lt 0 b) ≡ nat_lt 0 (a + b)
    either a b = grind (arith, nat_tests)

pub mapped-used : (w : World) (frame : ℕ) → is_mapped w frame ≡ nat_lt 0 (uses_of w frame)
mapped-used w frame =
    any_summed (maps_frame frame) (λ h. count_by (λ e. e.1.frame == frame) h.space)
    (λ h. any_summed (λ e. e.1.frame == frame) (λ e. cond (e.1.frame == frame) 1 0)
    (λ e. one (e.1.frame == frame)) h.space) (all_holdings w.processes)
  where
    one : (b : Bool) → b ≡ nat_lt 0 (cond b 1 0)
    one true = refl
    one false = refl

-- ---- owners

-- Of u uses k are gone and v are left: what stood stands as long as some are left.
left-used : {A : Type 0} (gone o : A) (u k v : ℕ) → u ≡ v + k → (u ≡ 0 → o ≡ gone)
    → cond (nat_lt 0 k && (u == k)) gone o ≡ cond (nat_lt 0 v) o gone
left-used gone o u k zero e free = none k (omega arith)
  where
    none : (k : ℕ) → u ≡ k → cond (nat_lt 0 k && (u == k)) gone o ≡ gone
    none zero same = free same
    none (suc n) same =
        let all : (u == suc n) ≡ true = grind (arith, nat_tests) in
        let some : nat_lt 0 (suc n) ≡ true = grind (arith, nat_tests) in
        ap (λ b. cond (nat_lt 0 (suc n) && b) gone o) all ∙ ap (λ b. cond (b && true) gone o) some
left-used gone o u k (suc v) e free =
    let not_all : (u == k) ≡ false = grind (arith, nat_tests) in
    let some : nat_lt 0 (suc v) ≡ true = grind (arith, nat_tests) in
    ap (λ b. cond (nat_lt 0 k && b) gone o) not_all ∙ never (nat_lt 0 k)
    ∙ sym (ap (λ b. cond b o gone) some)
  where
    never : (b : Bool) → cond (b && false) gone o ≡ o
    never true = refl
    never false = refl

-- Where entries are gone, each frame has the owner that it had, but for those that nothing maps any
-- more.
pub owners-dropped : (left : World) (gone : List (ℕ × Entry)) (old new : Store)
    → IsDropped gone old new
    → ((frame : ℕ) → uses_at old frame ≡ uses_of left frame + entries_of gone frame)
    → ((frame : ℕ) → frame < length old.owners → uses_at old frame ≡ 0 → owner_at old frame ≡ Free)
    → new.owners ≡ map_from 0 (owner_if_mapped left) old.owners
owners-dropped left gone old new dropped uses free =
    ext_get_or Free new.owners (map_from 0 (owner_if_mapped left) old.owners)
    (dropped.frames.count ∙ sym (length-map_from 0 (owner_if_mapped left) old.owners))
    (λ frame lt.
    let within : frame < length old.owners = omega (arith, dropped.frames.count) in
    let here : 0 + frame ≡ frame = omega arith in
    dropped.owners frame
    ∙ left-used Free (owner_at old frame) (uses_at old frame) (entries_of gone frame)
    (uses_of left frame) (uses frame) (free frame within)
    ∙ ap (λ b. cond b (owner_at old frame) Free) (sym (mapped-used left frame))
    ∙ sym (get_or-map_from 0 (owner_if_mapped left) old.owners frame Free Free within
    ∙ ap (λ k. owner_if_mapped left k (owner_at old frame)) here))

-- ---- bytes

-- and the bytes that it had, but for those that nothing maps any more
pub bytes-dropped : (left : World) (gone : List (ℕ × Entry)) (old new : Store)
    → IsDropped gone old new → length old.owners ≡ length old.pages
    → ((frame : ℕ) → uses_at old frame ≡ uses_of left frame + entries_of gone frame)
    → ((frame : ℕ) → frame < length old.owners → uses_at old frame ≡ 0
    → shown (page_at old frame) ≡ zero_page)
    → bytes_if_mapped (is_mapped left) 0 old.owners (joined old.pages) ≡ joined new.pages
bytes-dropped left gone old new dropped count uses blank =
    joined-tidied (is_mapped left) 0 old.owners old.pages new.pages dropped.page_count count
    (λ frame lt.
    let here : frame ≡ 0 + frame = omega arith in
    ap shown (dropped.pages frame)
    ∙ shows (nat_lt 0 (entries_of gone frame) && (uses_at old frame == entries_of gone frame))
    (page_at old frame)
    ∙ left-used zero_page (shown (page_at old frame)) (uses_at old frame) (entries_of gone frame)
    (uses_of left frame) (uses frame) (blank frame (omega (arith, lt, count)))
    ∙ ap (λ b. cond b (shown (page_at old frame)) zero_page) (sym (mapped-used left frame))
    ∙ ap (λ k. cond (is_mapped left k) (shown (page_at old frame)) zero_page) here)
  where
    shows : (b : Bool) (page : Option (List ℕ))
        → shown (cond b (zeroed page) page) ≡ cond b zero_page (shown page)
    shows true page = shown-cleared page
    shows false page = refl
