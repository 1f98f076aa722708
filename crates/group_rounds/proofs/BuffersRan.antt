-- Packs with words run over the whole of memory, and what they leave is each thread's part.
use Rattle.std.proofs.Common.{ℕ, zero, suc, ◌+◌, ◌-◌, ◌<◌, ◌≡◌, ◌≢◌, refl, sym, ap, ap₂, ◌∙◌, subst}
use Rattle.std.proofs.Common.{true, false, List, [], ◌∷◌, length, map, drop, get_or, Option, Some}
use Rattle.std.proofs.Common.{None, IsSome, All, option_map, arith, drop-cons}
use Rattle.std.specs.Prelude.{slice_get, slice_index_or}
use Rattle.std.proofs.lemmas.List.{length-map}
use Rattle.std.proofs.lemmas.List.Elements.{All-nil, All-cons, All-head, All-tail}
use Rattle.std.proofs.lemmas.Option.{slice_get-get_or}
use Rattle.dos_world.specs.World.{World, Thread, flat, thread_at, look, ran, is_free}
use Rattle.dos_world.specs.declared.Entry.{Entry}
use Rattle.dos_world.specs.declared.Owner.{Owner}
use Rattle.dos_world.specs.declared.Owner.TheVariants.{Free}
use Rattle.dos_world.proofs.Numbers.{changed_other}
use Rattle.dos_laws.specs.Taken.{IsPartIn}
use Rattle.dos_laws.proofs.StandsBuffered.{part-in}
use Rattle.flat_machine.specs.Alone.{budget_of}
use Rattle.flat_machine.specs.Buffered.{Part, all_put, part_b, part_of_thread}
use Rattle.flat_machine.specs.Buffered.{with_part}
use Rattle.flat_machine.proofs.Threads.{seen-changed}
use Rattle.page_store.specs.Store.{whole}
use Rattle.page_store.proofs.Counts.{owned-within}
use Rattle.proc_table.specs.Tables.{IsLiveThread}
use Rattle.quantum_run.specs.Packs.{empty_writing, with_thread_of}
use Rattle.quantum_run.specs.Shows.{Pack, View, CanRun, CanRunWriting, Sees, pack_left}
use Rattle.quantum_run.proofs.Writing.{joined-whole}
use Rattle.worker_pool.specs.Ran.{AllCanRun, AllRan, HasRun, budgets_left}
use Rattle.kernel_calls.specs.StateWorld.{IsSound, sent, world_of}
use Rattle.kernel_calls.specs.declared.state.State.{State}
use Rattle.group_rounds.specs.Buffers.{CanBePut, HaveNoWords, part_in, parts_put}
use Rattle.group_rounds.specs.Handing.{AreOnce, AreSpare, emptied_pack, pack_of, view_of}
use Rattle.group_rounds.specs.Parts.{KeepsCount, budget_in, work_between}
use Rattle.group_rounds.specs.Phases.{AreLive}
use Rattle.group_rounds.proofs.HandingLaws.{beside}
use Rattle.group_rounds.proofs.PacksBack.{in-at}
use Rattle.group_rounds.proofs.PacksShow.{map-at, place-of, some-is, space-shown}
use Rattle.group_rounds.proofs.PacksWork.{budgets-are}
use Rattle.group_rounds.proofs.Sound.{lives_by}
use Rattle.group_rounds.proofs.ThreadRunLaws.{Seen, seen, mapped, some_of, thread_space_is}

-- ---- parts that are put in

-- packs that hold these threads' parts put them in
pub puts-same : (began w : World) (ts : List ℕ) (qs : List Pack) → length qs ≡ length ts
    → ((i t : ℕ) (q : Pack) → slice_get ts i ≡ Some t → slice_get qs i ≡ Some q
    → (q.thread ≡ t) × (part_in q ≡ part_b began t))
    → parts_put w qs ≡ all_put began w ts
puts-same began w [] [] level each = refl
puts-same began w [] (q ∷ qs) level each = absurd (grind arith)
puts-same began w (t ∷ ts) [] level each = absurd (grind arith)
puts-same began w (t ∷ ts) (q ∷ qs) level each =
    let first = each 0 t q refl refl in
    ap₂ (λ n p. parts_put (with_part w n p) qs) first.0 first.1
    ∙ puts-same began (with_part w t (part_b began t)) ts qs (omega arith)
    (λ i u p at here. each (suc i) u p at here)

-- the first of those that are left, and the others
pub drop-pack : (ps : List Pack) (i : ℕ) (d : Pack) → i < length ps
    → drop i ps ≡ get_or ps i d ∷ drop (i + 1) ps
drop-pack ps i d lt = drop-cons ps i d lt
    ∙ ap (λ n. get_or ps i d ∷ drop n ps) (let e : suc i ≡ i + 1 = omega arith in e)

-- after one of them the others can still be put in
module _ (s s' : State) (p : Pack)
    (puts : (q : ℕ) (o e : List ℕ) → with_part (sent o e (world_of q s)) p.thread (part_in p)
    ≡ sent o e (world_of q s')) where
  owners-same : s.frames.owners ≡ s'.frames.owners
  owners-same = ap (λ (w : World). w.owners) (puts 0 [] [])

  pub count-same : KeepsCount s s'
  count-same = ap length (sym owners-same)

  pub still-put : (x : Pack) → CanBePut s x → CanBePut s' x
  still-put x can = record {
    live = subst (λ w. IsSome (thread_at w x.thread)) (puts 0 [] [])
        (lives_by (ran p.registers p.budget) s.table.threads p.thread x.thread can.live);
    part_is = subst (λ (owners : List Owner). IsPartIn owners (part_in x)) owners-same can.part_is;
  }

-- ---- the budgets that parts leave

put-other : (began w : World) (ts : List ℕ) (t : ℕ) → ((i : ℕ) → slice_get ts i ≢ Some t)
    → thread_at (all_put began w ts) t ≡ thread_at w t
put-other began w [] t none = refl
put-other began w (u ∷ ts) t none =
    let p = part_b began u in
    put-other began (with_part w u p) ts t (λ i at. none (suc i) at)
    ∙ ap flat (changed_other (option_map (ran p.registers p.budget)) w.threads u t
    (λ e. none 0 (ap Some (sym e))))

budget-seen : (w : World) (t b : ℕ)
    → option_map (λ (x : Thread). x.budget) (thread_at w t) ≡ Some b → budget_of w t ≡ b
budget-seen w t b h = by (thread_at w t) h
  where
    inner : {a c : ℕ} → ◌≡◌ {A = Option ℕ} (Some a) (Some c) → a ≡ c
    inner q = cc

    by : (o : Option Thread) → option_map (λ (x : Thread). x.budget) o ≡ Some b
        → elim o as (λ _. ℕ) [ None ↦ 0 | Some thread ↦ thread.budget ] ≡ b
    by None q = cc
    by (Some x) q = inner q

put-own : (w : World) (t : ℕ) (p : Part) → IsSome (thread_at w t)
    → budget_of (with_part w t p) t ≡ p.budget
put-own w t p live =
    let found = some_of (thread_at w t) live in
    budget-seen (with_part w t p) t p.budget
    (seen-changed (λ (x : Thread). x.budget) (ran p.registers p.budget) w.threads t
    ∙ ap (option_map (λ (x : Thread). p.budget)) found.1)

abbrev budget-by : Option Thread → ℕ
budget-by o = elim o as (λ _. ℕ) [ None ↦ 0 | Some thread ↦ thread.budget ]

-- each thread has the budget that its part has left
pub put-budget : (began w : World) (ts : List ℕ) → AreOnce ts
    → ((i t : ℕ) → slice_get ts i ≡ Some t → IsSome (thread_at w t))
    → (i t : ℕ) → slice_get ts i ≡ Some t
    → budget_of (all_put began w ts) t ≡ (part_b began t).budget
put-budget began w [] apart live i t at = cc
put-budget began w (u ∷ ts) apart live zero t at =
    let p = part_b began u in
    let same : u ≡ t = number-is at in
    subst (λ n. budget_of (all_put began (with_part w u p) ts) n ≡ (part_b began n).budget) same
    (ap budget-by (put-other began (with_part w u p) ts u
    (λ i later. let twice : suc i ≡ 0 = apart (suc i) 0 u later refl in omega (arith, twice)))
    ∙ put-own w u p (live 0 u refl))
  where
    number-is : {a b : ℕ} → ◌≡◌ {A = Option ℕ} (Some a) (Some b) → a ≡ b
    number-is q = cc
put-budget began w (u ∷ ts) apart live (suc i) t at =
    let p = part_b began u in
    put-budget began (with_part w u p) ts
    (λ j k x a b. let next : suc j ≡ suc k = apart (suc j) (suc k) x a b in omega (arith, next))
    (λ j x there. lives_by (ran p.registers p.budget) w.threads u x (live (suc j) x there)) i t at

-- ---- packs that are filled

all-home : (pages : List (Option (List ℕ))) → All IsSome pages
    → All IsSome (map (option_map whole) pages)
all-home [] h = All-nil IsSome
all-home (None ∷ pages) h = absurd (never (All-head IsSome None pages h))
  where
    never : false ≡ true → ⊥
    never q = cc
all-home (Some page ∷ pages) h = All-cons IsSome (Some (whole page)) (map (option_map whole) pages)
    refl (all-home pages (All-tail IsSome (Some page) pages h))

module _ (s : State) (sound : IsSound s) (ts : List ℕ) (live : AreLive s.table.threads ts)
    (ps : List Pack) (filled : ps ≡ map (pack_of s.table empty_writing) ts) where
  abbrev view : View
  view = view_of s.frames s.table

  pub as-filled : length ps ≡ length ts
  as-filled = ap length filled ∙ length-map ts (pack_of s.table empty_writing)

  module _ (i t : ℕ) (p : Pack) (at : slice_get ts i ≡ Some t) (here : slice_get ps i ≡ Some p)
    where
      abbrev lives : IsLiveThread s.table.threads t
      lives = let r = place-of ts i t 0 at in
          subst (IsLiveThread s.table.threads) r.1 (live i 0 r.0)

      abbrev found : Seen s t
      found = seen s t sound lives

      abbrev opened : Pack
      opened = with_thread_of empty_writing t found.thread.process found.thread.registers
          found.thread.budget

      pub filled-is : p ≡ opened
      filled-is =
          some-is (sym here ∙ ap (λ (xs : List Pack). slice_get xs i) filled
          ∙ map-at (pack_of s.table empty_writing) ts i t at)
          ∙ ap (λ o. elim o as (λ _. Pack) [
            | None ↦ empty_writing
            | Some x ↦ with_thread_of empty_writing t x.process x.registers x.budget
          ]) found.is

      owned : (e : Entry) (page : ℕ) → look found.holdings.space page ≡ Some e
          → is_free (slice_index_or s.frames.owners e.frame Free) ≡ false
      owned e page has = (mapped s t sound lives found.holdings.space refl page e has).1

      writing : CanRunWriting opened view
      writing = record {
        entries = found.holdings.space;
        space = space-shown s.table.processes found.thread.process found.holdings found.has;
        mapped = λ page e has. (
          owned-within s.frames.owners e.frame (owned e page has),
          λ free. let used = owned e page has in let q = ap is_free free in
              grind (arith, used, q),
        );
        home = all-home s.frames.pages sound.counted.home.home;
      }

      pub can-write : CanRun p view
      can-write = subst (λ (x : Pack). CanRun x view) (sym filled-is) (record {
        owning = λ none. absurd (never none);
        writing = λ some. writing;
      })
        where
          never : true ≡ false → ⊥
          never q = cc

      sees-it : (q : ℕ) (o e : List ℕ) → Sees opened view (sent o e (world_of q s))
      sees-it q o e = record {
        owners = refl;
        bytes = sym (joined-whole s.frames.pages);
        space = space-shown s.table.processes found.thread.process found.holdings found.has
            ∙ ap (λ x. Some (Some x)) (sym (thread_space_is s t sound lives q o e));
      }

      pub opening-budget : p.budget ≡ budget_in s t
      opening-budget =
          ap (λ (x : Pack). x.budget) filled-is
          ∙ sym (ap (λ o. elim o as (λ _. ℕ) [
            | None ↦ 0
            | Some thread ↦ thread.budget
          ]) found.is)

      -- what it becomes is its thread's part of each world that has this state
      pub left-is : (after : Pack) → HasRun view p after → (q : ℕ) (o e : List ℕ)
          → after ≡ pack_left opened (part_b (sent o e (world_of q s)) t)
      left-is after run q o e =
          (subst (λ (x : Pack). HasRun view x after) filled-is run).finished.writing [] refl
          (sent o e (world_of q s)) (sees-it q o e)
          ∙ ap (pack_left opened)
          (sym (ap (part_of_thread (sent o e (world_of q s)) t) found.is))

  pub none-written : HaveNoWords ps
  none-written i p here =
      let t = beside ts ps i p as-filled here in
      ap (λ (x : Pack). x.words) (filled-is i t.0 p t.1 here)

  pub all-can-write : AllCanRun view ps
  all-can-write i p here =
      let t = beside ts ps i p as-filled here in can-write i t.0 p t.1 here

  -- ---- packs that have run
  module _ (apart : AreOnce ts) (qs : List Pack) (ran : AllRan view ps qs) where
    pub as-left : length qs ≡ length ts
    as-left = ran.level ∙ as-filled

    -- which thread's part a pack has
    pub record IsLeft (i : ℕ) (after : Pack) : Type 0 where
      pub thread : ℕ
      pub starter : slice_get ts i ≡ Some thread
      pub is : (q : ℕ) (o e : List ℕ) → (after.thread ≡ thread)
          × (part_in after ≡ part_b (sent o e (world_of q s)) thread)
      pub empty : emptied_pack after ≡ empty_writing

    pub left-at : (i : ℕ) (after : Pack) → slice_get qs i ≡ Some after → IsLeft i after
    left-at i after here =
        let t = beside ts qs i after as-left here in
        let p = beside ps qs i after ran.level here in
        let r = ran.each i p.0 p.1 in
        let run = subst (λ (x : Pack). HasRun view p.0 x) (some-is (sym r.1 ∙ here)) r.2 in
        let left = left-is i t.0 p.0 t.1 p.1 after run in
        record {
          thread = t.0;
          starter = t.1;
          is = λ q o e. (
            ap (λ (x : Pack). x.thread) (left q o e),
            ap part_in (left q o e),
          );
          empty = ap emptied_pack (left 0 [] []);
        }

    pub left-spare : AreSpare empty_writing qs
    left-spare after k = let i = in-at qs after k in (left-at i.0 after i.1).empty

    left-of : (i t : ℕ) (after : Pack) → slice_get ts i ≡ Some t → slice_get qs i ≡ Some after
        → (q : ℕ) (o e : List ℕ) → (after.thread ≡ t)
        × (part_in after ≡ part_b (sent o e (world_of q s)) t)
    left-of i t after at here q o e =
        let k = left-at i after here in
        subst (λ n. (after.thread ≡ n) × (part_in after ≡ part_b (sent o e (world_of q s)) n))
        (number-is (sym k.starter ∙ at)) (k.is q o e)
      where
        number-is : {a b : ℕ} → ◌≡◌ {A = Option ℕ} (Some a) (Some b) → a ≡ b
        number-is z = cc

    -- in a sound state each part is in range
    pub all-can-be-put : All (CanBePut s) qs
    all-can-be-put i d lt =
        let after = get_or qs i d in
        let k = left-at i after (slice_get-get_or qs i d lt) in
        let is = k.is 16 [] [] in
        let r = place-of ts i k.thread 0 k.starter in
        record {
          live = subst (IsLiveThread s.table.threads) (r.1 ∙ sym is.0) (live i 0 r.0);
          part_is = subst (IsPartIn s.frames.owners) (sym is.1)
              (part-in (world_of 16 s) k.thread
              (sound.lawful 16 (omega arith) (omega arith)));
        }

    pub puts-all : (w : World) (q : ℕ) (o e : List ℕ)
        → parts_put w qs ≡ all_put (sent o e (world_of q s)) w ts
    puts-all w q o e = puts-same (sent o e (world_of q s)) w ts qs as-left
        (λ i t after at here. left-of i t after at here q o e)

    -- what the packs have run is what their threads have
    pub work-left : (s2 : State)
        → ((q : ℕ) (o e : List ℕ) → parts_put (sent o e (world_of q s)) qs
        ≡ sent o e (world_of q s2))
        → budgets_left ps - budgets_left qs ≡ work_between s s2 ts
    work-left s2 puts = ap₂ (λ a b. a - b)
        (budgets-are s ts ps as-filled opening-budget)
        (budgets-are s2 ts qs as-left (λ i t after at here.
        ap (λ (p : Part). p.budget) (left-of i t after at here 0 [] []).1
        ∙ sym (put-budget (world_of 0 s) (world_of 0 s) ts apart
        (λ j u there. let r = place-of ts j u 0 there in
        subst (IsLiveThread s.table.threads) r.1 (live j 0 r.0)) i t at)
        ∙ ap (λ w. budget_of w t)
        (sym (puts-all (world_of 0 s) 0 [] []) ∙ puts 0 [] [])))
