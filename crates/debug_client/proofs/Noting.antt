-- The tables with what one moment more has.
use Rattle.std.proofs.Common.{◌≡◌, ◌⊎◌, inl, inr, ℕ, zero, suc, ◌+◌, ◌-◌, ◌<◌, ◌≤◌, List, [], ◌∷◌}
use Rattle.std.proofs.Common.{◌++◌, length, drop, Bool, true, false, cond, Option, Some, None, refl}
use Rattle.std.proofs.Common.{sym, ap, subst, ◌∙◌, arith, length-append, length-drop}
use Rattle.std.specs.Prelude.{slice_get, option_map, unwrap_or, is_some, nat_le, IfSome}
use Rattle.std.proofs.lemmas.Bool.{true≢false, le-leb, leb-true, leb-false}
use Rattle.dos_world.specs.Numbered.{numbered}
use Rattle.dos_world.specs.World.{World, Process, Thread, flat, thread_at, first_thread}
use Rattle.dos_world.specs.World.{parent_of}
use Rattle.group_moves.specs.Moments.{Moment}
use Rattle.kernel_calls.specs.StateWorld.{world_of, sent, IsSound}
use Rattle.kernel_calls.specs.declared.state.State.{State}
use Rattle.debug_session.specs.Homes.{birth_of}
use Rattle.debug_client.specs.Births.{BirthTables, KnowsBirths, HasNoted, Grows, process_of_thread}
use Rattle.debug_client.specs.Births.{image_behind, image_by, images_with, first_in, homes_behind}
use Rattle.debug_client.specs.Births.{firsts_behind}
use Rattle.debug_client.proofs.Walked.{at_place}
use Rattle.debug_client.proofs.Fronts.{same_first, one_more, is_there, first_stays, first_later}
use Rattle.debug_client.proofs.Fronts.{never, none_there}
use Rattle.debug_client.proofs.Fronts.{numbered_front, none_beyond, some_within, length_behind}
use Rattle.debug_client.proofs.Known.{threads_at, processes_at}
use Rattle.debug_client.proofs.Images.{image_stays, image_is}

-- ---- the images

uncons : {A : Type 0} (xs : List A) (k : ℕ) (x : A) (rest : List A) → drop k xs ≡ x ∷ rest
    → (slice_get xs k ≡ Some x) × (drop (k + 1) xs ≡ rest)
uncons [] zero x rest is = cc
uncons [] (suc k) x rest is = cc
uncons (y ∷ ys) zero x rest is =
    let first : y ≡ x = cc in
    let others : ys ≡ rest = cc in
    (ap (λ z. Some z) first, others)
uncons (y ∷ ys) (suc k) x rest is =
    let next : suc k + 1 ≡ suc (k + 1) = omega arith in
    let more = uncons ys k x rest is in
    (more.0, ap (λ n. drop n (y ∷ ys)) next ∙ more.1)

last_number : (kept : List ℕ) (x : ℕ) → numbered (kept ++ x ∷ []) (suc (length kept)) ≡ Some x
last_number [] x = refl
last_number (y ∷ kept) x = last_number kept x

length_with : (images : ℕ) (ps : List Process) (kept : List ℕ)
    → length (images_with images kept ps) ≡ length kept + length ps
length_with images [] kept = omega arith
length_with images (process ∷ ps) kept =
    let value = image_by images kept (length kept + 1) process.parent in
    let many : length (kept ++ value ∷ []) ≡ length kept + 1 = length-append kept (value ∷ []) in
    omega (arith, length_with images ps (kept ++ value ∷ []), many)

length_images : (images : ℕ) (old : List ℕ) (ps : List Process)
    → length ps ≤ length (images_with images old (drop (length old) ps))
length_images images old ps =
    omega (arith, length_with images (drop (length old) ps) old, length-drop (length old) ps)

module _ (images : ℕ) (old : List ℕ) (noted : List Moment) (m : Moment)
    (parents : (p : ℕ) → IfSome (birth_of (noted ++ m ∷ []) p) (λ m. parent_of m.world p < p))
    (parents_noted : (p : ℕ) → IfSome (birth_of noted p) (λ m. parent_of m.world p < p))
    (known : (p : ℕ) → numbered old p
    ≡ option_map (λ m. image_behind images noted p) (birth_of noted p)) where
  abbrev all : List Moment
  all = noted ++ m ∷ []

  abbrev Right : List ℕ → Type 0
  Right kept = (p : ℕ) → 0 < p → p ≤ length kept
      → numbered kept p ≡ Some (image_behind images all p)

  same_births : (p : ℕ) → p ≤ length old → birth_of all p ≡ birth_of noted p
  same_births p within =
      same_first old (λ m. image_behind images noted p) processes_at noted (m ∷ []) false p
      (known p)
      (λ is. absurd (true≢false (sym is))) (le-leb p (length old) within)

  old_right : Right old
  old_right p some within =
      by (birth_of noted p) refl
      ∙ ap (λ o. Some (unwrap_or o 0)) (sym (image_stays images all noted (length old) same_births
      parents_noted p p within))
    where
      by : (o : Option Moment) → birth_of noted p ≡ o
          → numbered old p ≡ Some (image_behind images noted p)
      by None none =
          let is_zero = none_beyond old p within
          (known p ∙ ap (option_map (λ m. image_behind images noted p)) none) in
          absurd (omega (arith, some, is_zero))
      by (Some first) found =
          known p ∙ ap (option_map (λ m. image_behind images noted p)) found

  -- where the process of a number is first there at the new moment
  born_now : (p : ℕ) (process : Process) → length old < p
      → numbered m.world.processes p ≡ Some process → birth_of all p ≡ Some m
  born_now p process beyond there =
      first_later (is_there processes_at p) noted (m ∷ []) (unborn (birth_of noted p) refl)
      ∙ ap (λ o. cond (is_some o) (Some m) None) there
    where
      unborn : (o : Option Moment) → birth_of noted p ≡ o → birth_of noted p ≡ None
      unborn None none = none
      unborn (Some first) found =
          let within = some_within old p (image_behind images noted p)
          (known p ∙ ap (option_map (λ m. image_behind images noted p)) found) in
          absurd (omega (arith, beyond, within))

  one_right : (kept : List ℕ) (process : Process) → length old ≤ length kept → Right kept
      → slice_get m.world.processes (length kept) ≡ Some process
      → Right (kept ++ image_by images kept (length kept + 1) process.parent ∷ [])
  one_right kept process long right there p some within =
      by (nat_le p (length kept)) refl
    where
      k : ℕ
      k = length kept

      value : ℕ
      value = image_by images kept (length kept + 1) process.parent

      at : numbered m.world.processes (suc (length kept)) ≡ Some process
      at = there

      born : birth_of all (suc (length kept)) ≡ Some m
      born = born_now (suc (length kept)) process (omega (arith, long)) there

      parent : process.parent ≡ parent_of m.world (suc (length kept))
      parent =
          sym (ap (λ (o : Option Process). elim o [ None ↦ 0 | Some given ↦ given.parent ]) there)

      below : process.parent < suc (length kept)
      below =
          let is : parent_of m.world (suc (length kept)) < suc (length kept) =
          subst (λ (o : Option Moment). IfSome o
          (λ m. parent_of m.world (suc (length kept)) < suc (length kept))) born
          (parents (suc (length kept))) in
          omega (arith, is, parent)

      of_parent : (n : ℕ) → n ≤ length kept
          → unwrap_or (numbered kept n) 0 ≡ image_behind images all n
      of_parent zero low = refl
      of_parent (suc n) low = ap (λ o. unwrap_or o 0) (right (suc n) (omega arith) low)

      last : image_by images kept (length kept + 1) process.parent
          ≡ image_behind images all (suc (length kept))
      last =
          let next : length kept + 1 ≡ suc (length kept) = omega arith in
          ap (λ n. image_by images kept n process.parent) next
          ∙ image_is images all parents kept (suc (length kept)) process.parent m (omega arith) born
          parent below (of_parent process.parent (omega (arith, below)))

      by : (b : Bool) → nat_le p (length kept) ≡ b
          → numbered (kept ++ image_by images kept (length kept + 1) process.parent ∷ []) p
          ≡ Some (image_behind images all p)
      by true low =
          let low_is = leb-true p (length kept) low in
          numbered_front kept
          (image_by images kept (length kept + 1) process.parent ∷ []) p low_is
          ∙ right p some low_is
      by false high =
          let beyond = leb-false p (length kept) high in
          let same : p ≡ suc (length kept) = omega (
            arith,
            beyond,
            within,
            length-append kept
                (image_by images kept (length kept + 1) process.parent ∷ []),
          ) in
          ap (numbered (kept ++ image_by images kept (length kept + 1) process.parent ∷ [])) same
          ∙ last_number kept (image_by images kept (length kept + 1) process.parent)
          ∙ ap (λ n. Some n) last
          ∙ ap (λ n. Some (image_behind images all n)) (sym same)

  all_right : (ps : List Process) (kept : List ℕ) → length old ≤ length kept → Right kept
      → drop (length kept) m.world.processes ≡ ps → Right (images_with images kept ps)
  all_right [] kept long right is = right
  all_right (process ∷ ps) kept long right is =
      let here = uncons m.world.processes (length kept) process ps is in
      let value = image_by images kept (length kept + 1) process.parent in
      let many : length (kept ++ value ∷ []) ≡ length kept + 1 =
      length-append kept (value ∷ []) in
      all_right ps (kept ++ value ∷ []) (omega (arith, many, long))
      (one_right kept process long right here.0)
      (ap (λ n. drop n m.world.processes) many ∙ here.1)

  abbrev new : List ℕ
  new = images_with images old (drop (length old) m.world.processes)

  length_old : length old ≤ length new
  length_old = omega (arith, length_with images (drop (length old) m.world.processes) old)

  new_within : (p : ℕ) → p ≤ length new → (p ≤ length old) ⊎ (p ≤ length m.world.processes)
  new_within p within = by (nat_le p (length old)) refl
    where
      by : (b : Bool) → nat_le p (length old) ≡ b
          → (p ≤ length old) ⊎ (p ≤ length m.world.processes)
      by true low = inl (leb-true p (length old) low)
      by false high =
          let beyond = leb-false p (length old) high in
          inr (omega (
            arith,
            beyond,
            within,
            length_with images (drop (length old) m.world.processes) old,
            length-drop (length old) m.world.processes,
          ))

  within_if : (p : ℕ) (x : Moment) → birth_of all p ≡ Some x → p ≤ length new
  within_if p x born = by (birth_of noted p) refl
    where
      now : (o : Option Process) → numbered m.world.processes p ≡ o
          → birth_of noted p ≡ None → p ≤ length new
      now (Some process) there none =
          let within = some_within m.world.processes p process there in
          omega (arith, within, length_images images old m.world.processes)
      now None missing none =
          let no : None ≡ Some x =
          sym (first_later (is_there processes_at p) noted (m ∷ []) none
          ∙ ap (λ o. cond (is_some o) (Some m) None) missing)
          ∙ born in
          cc

      by : (o : Option Moment) → birth_of noted p ≡ o → p ≤ length new
      by None none = now (numbered m.world.processes p) refl none
      by (Some first) found =
          let within = some_within old p (image_behind images noted p)
          (known p ∙ ap (option_map (λ m. image_behind images noted p)) found) in
          omega (arith, within, length_old)

  born_if : (p : ℕ) → 0 < p → p ≤ length new → (x : Moment) × (birth_of all p ≡ Some x)
  born_if p some within = by (birth_of noted p) refl
    where
      now : (k : ℕ) → p ≡ suc k → birth_of noted p ≡ None → p ≤ length m.world.processes
          → (x : Moment) × (birth_of all p ≡ Some x)
      now k is none low =
          let here = at_place m.world.processes k (omega (arith, is, low)) in
          let there : numbered m.world.processes p ≡ Some here.0 =
          ap (numbered m.world.processes) is ∙ here.1 in (
            m,
            first_later (is_there processes_at p) noted (m ∷ []) none
                ∙ ap (λ o. cond (is_some o) (Some m) None) there,
          )

      by_where : birth_of noted p ≡ None → (p ≤ length old) ⊎ (p ≤ length m.world.processes)
          → (x : Moment) × (birth_of all p ≡ Some x)
      by_where none (inl low) =
          let is_zero = none_beyond old p low
          (known p ∙ ap (option_map (λ m. image_behind images noted p)) none) in
          absurd (omega (arith, some, is_zero))
      by_where none (inr low) = now (p - 1) (omega (arith, some)) none low

      by : (o : Option Moment) → birth_of noted p ≡ o
          → (x : Moment) × (birth_of all p ≡ Some x)
      by None none = by_where none (new_within p within)
      by (Some first) found =
          (first, first_stays (is_there processes_at p) noted (m ∷ []) first found)

  pub images_noted : (p : ℕ)
      → numbered new p ≡ option_map (λ m. image_behind images all p) (birth_of all p)
  images_noted zero =
      sym (ap (option_map (λ m. image_behind images all 0))
      (never (is_there processes_at 0) all (λ m. refl)))
  images_noted (suc k) = by (birth_of all (suc k)) refl
    where
      not_born : birth_of all (suc k) ≡ None → (b : Bool) → nat_le (suc k) (length new) ≡ b
          → numbered new (suc k) ≡ None
      not_born none true low =
          let born = born_if (suc k) (omega arith) (leb-true (suc k) (length new) low) in
          let no : None ≡ Some born.0 = sym none ∙ born.1 in
          cc
      not_born none false high =
          none_there new k (leb-false (suc k) (length new) high)

      by : (o : Option Moment) → birth_of all (suc k) ≡ o
          → numbered new (suc k)
          ≡ option_map (λ m. image_behind images all (suc k)) (birth_of all (suc k))
      by None none =
          not_born none (nat_le (suc k) (length new)) refl
          ∙ sym (ap (option_map (λ m. image_behind images all (suc k))) none)
      by (Some x) born =
          all_right (drop (length old) m.world.processes) old (omega arith) old_right refl (suc k)
          (omega arith) (within_if (suc k) x born)
          ∙ sym (ap (option_map (λ m. image_behind images all (suc k))) born)

-- ---- all of them

-- the tables with what a state has more
abbrev pub grown : BirthTables → State → BirthTables
grown b s = record {
  images = b.images;
  image_numbers = images_with b.images b.image_numbers
      (drop (length b.image_numbers) s.table.processes);
  first_threads = b.first_threads
      ++ firsts_behind (length b.first_threads) s.table.processes s.table.threads;
  homes = b.homes ++ homes_behind (length b.homes) s.table.threads;
  is_whole = b.is_whole;
}

pub grown_there : (b : BirthTables) (s : State) → HasNoted (grown b s) s
grown_there b s = record {
  images = length_images b.images b.image_numbers s.table.processes;
  first_threads = length_behind b.first_threads
      (λ (p : ℕ) (process : Process). first_in s.table.threads p)
      s.table.processes;
  homes = length_behind b.homes (λ (t : ℕ) (thread : Option Thread). process_of_thread thread)
      s.table.threads;
}

pub grown_grows : (b : BirthTables) (s : State) → Grows b (grown b s)
grown_grows b s = record {
  images = omega (
    arith,
    length_with b.images (drop (length b.image_numbers) s.table.processes) b.image_numbers,
  );
  first_threads = omega (
    arith,
    length-append b.first_threads
        (firsts_behind (length b.first_threads) s.table.processes s.table.threads),
  );
  homes = omega (
    arith,
    length-append b.homes (homes_behind (length b.homes) s.table.threads),
  );
  whole = λ is. is;
}

module _ (b : BirthTables) (s : State) (noted : List Moment) (m : Moment) (q : ℕ)
    (output error : List ℕ) (is : m.world ≡ sent output error (world_of q s)) (sound : IsSound s)
    (known : KnowsBirths b noted) where
  processes_are : m.world.processes ≡ s.table.processes
  processes_are = ap (λ (w : World). w.processes) is

  threads_are : m.world.threads ≡ s.table.threads
  threads_are = ap (λ (w : World). w.threads) is

  lower : (p : ℕ) → IfSome (birth_of (noted ++ m ∷ []) p) (λ m. parent_of m.world p < p)
  lower p = by (birth_of noted p) refl
    where
      IsLower : Option Moment → Type 0
      IsLower o = IfSome o (λ m. parent_of m.world p < p)

      now : (o : Option Process) → numbered m.world.processes p ≡ o
          → IsLower (cond (is_some (numbered m.world.processes p)) (Some m) None)
      now None missing =
          subst (λ (o : Option Process). IsLower (cond (is_some o) (Some m) None)) (sym missing) tt
      now (Some process) there =
          let lawful : IfSome (numbered s.table.processes p) (λ process. process.parent < p) =
          (sound.lawful 16 (omega arith) (omega arith)).processes.parents p in
          let below : process.parent < p =
          subst (λ (o : Option Process). IfSome o (λ process. process.parent < p))
          (ap (λ (ps : List Process). numbered ps p) (sym processes_are) ∙ there) lawful in
          let parent : parent_of m.world p ≡ process.parent =
          ap (λ (o : Option Process). elim o [ None ↦ 0 | Some given ↦ given.parent ]) there in
          subst (λ (o : Option Process). IsLower (cond (is_some o) (Some m) None)) (sym there)
          (omega (arith, below, parent))

      by : (o : Option Moment) → birth_of noted p ≡ o → IsLower (birth_of (noted ++ m ∷ []) p)
      by None none =
          subst IsLower (sym (first_later (is_there processes_at p) noted (m ∷ []) none))
          (now (numbered m.world.processes p) refl)
      by (Some first) found =
          subst IsLower (sym (first_stays (is_there processes_at p) noted (m ∷ []) first found))
          (subst IsLower found (known.parents p))

  pub noted_one : KnowsBirths (grown b s) (noted ++ m ∷ [])
  noted_one = record {
    images = λ p.
        ap (λ (ps : List Process). numbered (images_with b.images b.image_numbers
        (drop (length b.image_numbers) ps)) p) (sym processes_are)
        ∙ images_noted b.images b.image_numbers noted m lower known.parents known.images p;
    first_threads = λ p.
        ap (λ (ps : List Process). numbered (b.first_threads
        ++ firsts_behind (length b.first_threads) ps s.table.threads) p) (sym processes_are)
        ∙ one_more b.first_threads (λ n process. first_in s.table.threads n)
        (λ m. first_thread m.world p) processes_at noted m p (known.first_threads p)
        (λ process there. ap (λ (ts : List (Option Thread)). first_in ts p) (sym threads_are));
    homes = λ t.
        ap (λ (ts : List (Option Thread)). numbered (b.homes
        ++ homes_behind (length b.homes) ts) t) (sym threads_are)
        ∙ one_more b.homes (λ n thread. process_of_thread thread)
        (λ m. process_of_thread (thread_at m.world t)) threads_at noted m t (known.homes t)
        (λ thread there. ap (λ o. process_of_thread (flat o)) (sym there));
    parents = lower;
  }
