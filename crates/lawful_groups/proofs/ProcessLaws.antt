-- Processes by their list: parents, who lives, who has a thread, and pipes.
use Rattle.std.proofs.Common.{◌≡◌, ◌≢◌, ℕ, zero, suc, ◌+◌, ◌<◌, Bool, true, false, not}
use Rattle.std.proofs.Common.{◌||◌, List, [], ◌∷◌, length, map, refl, sym, ap, subst, ◌∙◌}
use Rattle.std.proofs.Common.{arith}
use Rattle.std.proofs.Common.{Option, Some, None, option_and_then, option_map}
use Rattle.std.specs.Prelude.{IfSome, IsTrue, ◌==◌, nat_lt, filter, slice_get}
use Rattle.std.specs.Prelude.{is_some}
use Rattle.std.specs.Prelude.{slice_index_or}
use Rattle.std.specs.List.{list_any}
use Rattle.std.proofs.lemmas.Bool.{ltb-true, and_parts, true≢false}
use Rattle.std.proofs.lemmas.Bool.Decides.{nat_tests}
use Rattle.dos_world.specs.Numbered.{numbered}
use Rattle.dos_world.specs.World.{Process, Holdings, holdings_of, all_holdings, belongs_to}
use Rattle.dos_world.specs.Counts.{reads_pipe, writes_pipe}
use Rattle.group_text.specs.declared.records.ProcessRecord.{ProcessRecord}
use Rattle.group_text.specs.declared.records.ThreadRecord.{ThreadRecord}
use Rattle.group_text.specs.Records.{process_of_record as process_of, thread_of_record as thread_of}
use Rattle.lawful_groups.specs.Agreeing.{living_processes, parents_below, has_thread_in}
use Rattle.lawful_groups.specs.Agreeing.{all_populated}
use Rattle.lawful_groups.specs.Agreeing.{lives_in, has_end_of, pipes_match}

-- ---- how many live

pub live_counted : (rs : List ProcessRecord)
    → living_processes rs ≡ length (all_holdings (map process_of rs))
live_counted [] = refl
live_counted (r ∷ rs) = go (live_counted rs) r.status refl
  where
    go : living_processes rs ≡ length (all_holdings (map process_of rs)) → (s : Option ℕ)
        → r.status ≡ s
        → living_processes (r ∷ rs) ≡ length (all_holdings (map process_of (r ∷ rs)))
    go rest None e = rw e (ap suc rest)
    go rest (Some x) e = rw e rest

-- ---- parents

pub parents_yes : (p : ℕ) (rs : List ProcessRecord) → parents_below p rs ≡ true → (i : ℕ)
    → IfSome (slice_get (map process_of rs) i) (λ process. process.parent < p + i)
parents_yes p [] h i = tt
parents_yes p (r ∷ rs) h zero =
    let a = and_parts (nat_lt r.parent p) (parents_below (suc p) rs) h in
    let z = ltb-true r.parent p a.0 in omega (arith, z)
parents_yes p (r ∷ rs) h (suc i) =
    let a = and_parts (nat_lt r.parent p) (parents_below (suc p) rs) h in
    subst (λ n. IfSome (slice_get (map process_of rs) i) (λ process. process.parent < n))
    (let z : suc p + i ≡ p + suc i = omega arith in z) (parents_yes (suc p) rs a.1 i)

pub parents_no : (p : ℕ) (rs : List ProcessRecord)
    → ((i : ℕ) → IfSome (slice_get (map process_of rs) i) (λ process. process.parent < p + i))
    → parents_below p rs ≡ true
parents_no p [] each = refl
parents_no p (r ∷ rs) each =
    let here : nat_lt r.parent p ≡ true =
    (let z : r.parent < p + 0 = each 0 in grind (arith, nat_tests, z)) in
    let rest : parents_below (suc p) rs ≡ true = parents_no (suc p) rs (λ i.
    subst (λ n. IfSome (slice_get (map process_of rs) i) (λ process. process.parent < n))
    (let z : p + suc i ≡ suc p + i = omega arith in z) (each (suc i))) in
    rw (here, rest) refl

-- ---- who lives, and has a thread

abbrev pub Populated : List ThreadRecord → ℕ → Option Process → Type 0
Populated threads p o = IsTrue (is_some (option_and_then holdings_of o))
    → has_thread_in threads p ≡ true

pub populated_yes : (threads : List ThreadRecord) (p : ℕ) (rs : List ProcessRecord)
    → all_populated threads p rs ≡ true → (i : ℕ)
    → Populated threads (p + i) (slice_get (map process_of rs) i)
populated_yes threads p [] h i lives = absurd (true≢false (sym lives))
populated_yes threads p (r ∷ rs) h zero lives = go r.status refl
  where
    go : (s : Option ℕ) → r.status ≡ s → has_thread_in threads (p + 0) ≡ true
    go None e =
        let a = (and_parts (is_some r.status || has_thread_in threads p)
        (all_populated threads (suc p) rs) h).0 in
        let t : has_thread_in threads p ≡ true =
        subst (λ s. (is_some s || has_thread_in threads p) ≡ true) e a in
        subst (λ n. has_thread_in threads n ≡ true) (let z : p ≡ p + 0 = omega arith in z) t
    go (Some x) e =
        let dead : is_some (option_and_then holdings_of (Some (process_of r))) ≡ false = rw e refl
        in
        absurd (true≢false (sym lives ∙ dead))
populated_yes threads p (r ∷ rs) h (suc i) lives =
    let a = (and_parts (is_some r.status || has_thread_in threads p)
    (all_populated threads (suc p) rs) h).1 in
    subst (λ n. has_thread_in threads n ≡ true) (let z : suc p + i ≡ p + suc i = omega arith in z)
    (populated_yes threads (suc p) rs a i lives)

pub populated_no : (threads : List ThreadRecord) (p : ℕ) (rs : List ProcessRecord)
    → ((i : ℕ) → Populated threads (p + i) (slice_get (map process_of rs) i))
    → all_populated threads p rs ≡ true
populated_no threads p [] each = refl
populated_no threads p (r ∷ rs) each =
    let rest : all_populated threads (suc p) rs ≡ true = populated_no threads (suc p) rs (λ i lives.
    subst (λ n. has_thread_in threads n ≡ true) (let z : p + suc i ≡ suc p + i = omega arith in z)
    (each (suc i) lives)) in
    rw (here r.status refl, rest) refl
  where
    here : (s : Option ℕ) → r.status ≡ s
        → (is_some r.status || has_thread_in threads p) ≡ true
    here None e =
        let lives : is_some (option_and_then holdings_of (Some (process_of r))) ≡ true = rw e refl
        in
        let z : has_thread_in threads p ≡ true =
        subst (λ n. has_thread_in threads n ≡ true) (let z : p + 0 ≡ p = omega arith in z)
        (each 0 lives) in
        rw (e, z) refl
    here (Some x) e = rw e refl

-- the threads of a process are those of the list
pub threads_listed : (threads : List ThreadRecord) (p : ℕ)
    → (has_thread_in threads p ≡ true
    → map (λ e. e.0) (filter (λ e. belongs_to p (Some e.1)) (map thread_of threads)) ≢ [])
    × (map (λ e. e.0) (filter (λ e. belongs_to p (Some e.1)) (map thread_of threads)) ≢ []
    → has_thread_in threads p ≡ true)
threads_listed [] p = (λ h e. true≢false (sym h), λ not_nil. absurd (not_nil refl))
threads_listed (t ∷ threads) p = go (threads_listed threads p) (t.pid == p) refl
  where
    Listed : Type 0
    Listed = (has_thread_in (t ∷ threads) p ≡ true
        → map (λ e. e.0) (filter (λ e. belongs_to p (Some e.1)) (map thread_of (t ∷ threads))) ≢ [])
        × (map (λ e. e.0) (filter (λ e. belongs_to p (Some e.1)) (map thread_of (t ∷ threads))) ≢ []
        → has_thread_in (t ∷ threads) p ≡ true)

    go : (has_thread_in threads p ≡ true
        → map (λ e. e.0) (filter (λ e. belongs_to p (Some e.1)) (map thread_of threads)) ≢ [])
        × (map (λ e. e.0) (filter (λ e. belongs_to p (Some e.1)) (map thread_of threads)) ≢ []
        → has_thread_in threads p ≡ true)
        → (b : Bool) → (t.pid == p) ≡ b → Listed
    go rest true e = rw e (λ h nil. absurd cc, λ not_nil. refl)
    go rest false e = rw e rest

-- ---- pipes

or_swap : (a b c d : Bool) → ((a || b) || (c || d)) ≡ ((a || c) || (b || d))
or_swap true b c d = refl
or_swap false true true d = refl
or_swap false true false d = refl
or_swap false false c d = refl

any_or : {A : Type 0} (f g : A → Bool) (xs : List A)
    → list_any (λ x. f x || g x) xs ≡ (list_any f xs || list_any g xs)
any_or f g [] = refl
any_or f g (x ∷ xs) = ap (λ b. (f x || g x) || b) (any_or f g xs)
    ∙ or_swap (f x) (g x) (list_any f xs) (list_any g xs)

abbrev open_in : (pipe : ℕ) (hs : List Holdings) → Bool
open_in pipe hs = list_any (λ h. list_any (reads_pipe pipe) h.descriptors) hs
    || list_any (λ h. list_any (writes_pipe pipe) h.descriptors) hs

pub ends_open : (pipe : ℕ) (rs : List ProcessRecord)
    → list_any (has_end_of pipe) rs ≡ open_in pipe (all_holdings (map process_of rs))
ends_open pipe [] = refl
ends_open pipe (r ∷ rs) = go (ends_open pipe rs) r.status refl
  where
    go : list_any (has_end_of pipe) rs ≡ open_in pipe (all_holdings (map process_of rs))
        → (s : Option ℕ) → r.status ≡ s
        → list_any (has_end_of pipe) (r ∷ rs)
        ≡ open_in pipe (all_holdings (map process_of (r ∷ rs)))
    go rest None e = rw e (
        ap (λ b. b || list_any (has_end_of pipe) rs)
        (any_or (reads_pipe pipe) (writes_pipe pipe) r.ends.items)
        ∙ ap (λ b. (list_any (reads_pipe pipe) r.ends.items
        || list_any (writes_pipe pipe) r.ends.items) || b) rest
        ∙ or_swap (list_any (reads_pipe pipe) r.ends.items)
        (list_any (writes_pipe pipe) r.ends.items) _ _)
    go rest (Some x) e = rw e rest

abbrev pub ClosedAt : List ProcessRecord → ℕ → List ℕ → Type 0
ClosedAt rs pipe bytes = list_any (has_end_of pipe) rs ≡ false → bytes ≡ []

closed_is : (b : Bool) (bytes : List ℕ) → ((length bytes == 0) || b) ≡ true → b ≡ false
    → bytes ≡ []
closed_is b [] h e = refl
closed_is b (x ∷ bytes) h e =
    let z : (length (x ∷ bytes) == 0) ≡ false = grind (arith, nat_tests) in
    absurd (true≢false (sym h ∙ ap (λ c. c || b) z ∙ e))

is_closed : (b : Bool) (bytes : List ℕ) → (b ≡ false → bytes ≡ [])
    → ((length bytes == 0) || b) ≡ true
is_closed b [] h = refl
is_closed true (x ∷ bytes) h =
    let z : (length (x ∷ bytes) == 0) ≡ false = grind (arith, nat_tests) in
    ap (λ c. c || true) z
is_closed false (x ∷ bytes) h = let z : x ∷ bytes ≡ [] = h refl in absurd cc

pub pipes_yes : (rs : List ProcessRecord) (pipe : ℕ) (pipes : List (List ℕ))
    → pipes_match rs pipe pipes ≡ true → (i : ℕ)
    → ClosedAt rs (pipe + i) (slice_index_or pipes i [])
pipes_yes rs pipe [] h i closed = refl
pipes_yes rs pipe (bytes ∷ pipes) h zero closed =
    let a = and_parts ((length bytes == 0) || list_any (has_end_of pipe) rs)
    (pipes_match rs (suc pipe) pipes) h in
    closed_is (list_any (has_end_of pipe) rs) bytes a.0
    (subst (λ n. list_any (has_end_of n) rs ≡ false) (let z : pipe + 0 ≡ pipe = omega arith in z)
    closed)
pipes_yes rs pipe (bytes ∷ pipes) h (suc i) closed =
    let a = and_parts ((length bytes == 0) || list_any (has_end_of pipe) rs)
    (pipes_match rs (suc pipe) pipes) h in
    pipes_yes rs (suc pipe) pipes a.1 i
    (subst (λ n. list_any (has_end_of n) rs ≡ false)
    (let z : pipe + suc i ≡ suc pipe + i = omega arith in z) closed)

pub pipes_no : (rs : List ProcessRecord) (pipe : ℕ) (pipes : List (List ℕ))
    → ((i : ℕ) → ClosedAt rs (pipe + i) (slice_index_or pipes i []))
    → pipes_match rs pipe pipes ≡ true
pipes_no rs pipe [] each = refl
pipes_no rs pipe (bytes ∷ pipes) each =
    let here = is_closed (list_any (has_end_of pipe) rs) bytes (λ closed. each 0
    (subst (λ n. list_any (has_end_of n) rs ≡ false) (let z : pipe ≡ pipe + 0 = omega arith in z)
    closed)) in
    let rest = pipes_no rs (suc pipe) pipes (λ i closed. each (suc i)
    (subst (λ n. list_any (has_end_of n) rs ≡ false)
    (let z : suc pipe + i ≡ pipe + suc i = omega arith in z) closed)) in
    rw (here, rest) refl

-- ---- one number

mapped_at : (rs : List ProcessRecord) (i : ℕ)
    → slice_get (map process_of rs) i ≡ option_map process_of (slice_get rs i)
mapped_at [] i = refl
mapped_at (x ∷ rs) zero = refl
mapped_at (x ∷ rs) (suc i) = mapped_at rs i

pub lives_by : (rs : List ProcessRecord) (p : ℕ) (o : Option ProcessRecord) → numbered rs p ≡ o
    → lives_in rs p ≡ is_some (option_and_then holdings_of (option_map process_of o))
lives_by rs zero o e = ap (λ (x : Option ProcessRecord).
    is_some (option_and_then holdings_of (option_map process_of x))) e
lives_by rs (suc i) o e =
    ap (λ x. is_some (option_and_then holdings_of x)) (mapped_at rs i)
    ∙ ap (λ (x : Option ProcessRecord).
    is_some (option_and_then holdings_of (option_map process_of x))) e

pub lives_one : (r : ProcessRecord)
    → is_some (option_and_then holdings_of (Some (process_of r))) ≡ not (is_some r.status)
lives_one r = at r.status refl
  where
    at : (s : Option ℕ) → r.status ≡ s
        → is_some (option_and_then holdings_of (Some (process_of r))) ≡ not (is_some r.status)
    at None e = rw e refl
    at (Some x) e = rw e refl

pub not_twice : (b : Bool) → b ≡ not (not b)
not_twice true = refl
not_twice false = refl
