-- What is kept of births is right over all moments of which those that were noted are a front.
use Rattle.std.proofs.Common.{◌≡◌, ℕ, ◌<◌, ◌≤◌, List, [], ◌++◌, length}
use Rattle.std.proofs.Common.{Bool, true, false, Option, Some, None, refl, sym, ap, ◌∙◌}
use Rattle.std.proofs.Common.{arith}
use Rattle.std.specs.Prelude.{option_map, option_and_then, unwrap_or, nat_le, ◌||◌}
use Rattle.dos_world.specs.Numbered.{numbered}
use Rattle.dos_world.specs.World.{Process, Thread, flat, thread_at, first_thread}
use Rattle.group_moves.specs.Moments.{Moment}
use Rattle.debug_session.specs.Homes.{birth_of, birth_of_thread, home_of, birth_thread}
use Rattle.debug_session.specs.Homes.{image_of_process}
use Rattle.debug_client.specs.Births.{BirthTables, AreBirthsKnown, has_home, has_process}
use Rattle.debug_client.specs.Births.{has_image, process_of_thread, image_behind}
use Rattle.std.proofs.lemmas.Bool.{leb-true, le-leb}
use Rattle.debug_client.proofs.Tests.{or_second}
use Rattle.debug_client.proofs.Fronts.{same_first, none_beyond}
use Rattle.debug_client.proofs.Images.{image_stays, image_unborn}

abbrev pub threads_at : Moment → List (Option Thread)
threads_at m = m.world.threads

abbrev pub processes_at : Moment → List Process
processes_at m = m.world.processes

flat_mapped : {M B : Type 0} (g : M → Option B) (o : Option M)
    → flat (option_map g o) ≡ option_and_then g o
flat_mapped g None = refl
flat_mapped g (Some m) = refl

module _ (b : BirthTables) (moments : List Moment) (a : AreBirthsKnown b moments) where
  pub home_known : (t : ℕ) → has_home b t ≡ true → flat (numbered b.homes t) ≡ home_of moments t
  home_known t known =
      let g : Moment → Option ℕ = λ m. process_of_thread (thread_at m.world t) in
      let first : birth_of_thread (a.noted ++ a.later) t ≡ birth_of_thread a.noted t =
      same_first b.homes g threads_at a.noted a.later b.is_whole t (a.known.homes t) a.whole
      known in
      ap flat (a.known.homes t)
      ∙ flat_mapped g (birth_of_thread a.noted t)
      ∙ ap (option_and_then g) (sym first)
      ∙ ap (λ (ms : List Moment). home_of ms t) (sym a.front)

  pub first_known : (p : ℕ) → has_process b p ≡ true
      → flat (numbered b.first_threads p) ≡ birth_thread moments p
  first_known p known =
      let g : Moment → Option ℕ = λ m. first_thread m.world p in
      let first : birth_of (a.noted ++ a.later) p ≡ birth_of a.noted p =
      same_first b.first_threads g processes_at a.noted a.later b.is_whole p
      (a.known.first_threads p) a.whole known in
      ap flat (a.known.first_threads p)
      ∙ flat_mapped g (birth_of a.noted p)
      ∙ ap (option_and_then g) (sym first)
      ∙ ap (λ (ms : List Moment). birth_thread ms p) (sym a.front)

  lower_known : (p q : ℕ) → has_image b p ≡ true → q ≤ p → has_image b q ≡ true
  lower_known p q known below = by b.is_whole known
    where
      by : (whole : Bool) → (whole || nat_le p (length b.image_numbers)) ≡ true
          → (whole || nat_le q (length b.image_numbers)) ≡ true
      by true known = refl
      by false known =
          let within = leb-true p (length b.image_numbers) known in
          le-leb q (length b.image_numbers) (omega (arith, within, below))

  pub image_known : (p : ℕ) → has_image b p ≡ true → nat_le p b.images ≡ false
      → unwrap_or (numbered b.image_numbers p) 0 ≡ image_behind b.images moments p
  image_known p known later =
      ap (λ o. unwrap_or o 0) (a.known.images p)
      ∙ by (birth_of a.noted p) refl
      ∙ ap (λ o. unwrap_or o 0) (sym (image_stays b.images (a.noted ++ a.later) a.noted p
      (λ q below. same_first b.image_numbers (λ m. image_behind b.images a.noted q) processes_at
      a.noted a.later b.is_whole q (a.known.images q) a.whole (lower_known p q known below))
      a.known.parents p p (omega arith)))
      ∙ ap (λ (ms : List Moment). image_behind b.images ms p) (sym a.front)
    where
      by : (o : Option Moment) → birth_of a.noted p ≡ o
          → unwrap_or (option_map (λ m. image_behind b.images a.noted p) (birth_of a.noted p)) 0
          ≡ image_behind b.images a.noted p
      by None none =
          ap (λ o. unwrap_or (option_map (λ m. image_behind b.images a.noted p) o) 0) none
          ∙ sym (image_unborn b.images a.noted p later none)
      by (Some m) some =
          ap (λ o. unwrap_or (option_map (λ m. image_behind b.images a.noted p) o) 0) some

  -- what is kept of a process that was there
  pub image_kept : (p : ℕ) → 0 < p → p ≤ length b.image_numbers
      → numbered b.image_numbers p ≡ Some (image_behind b.images moments p)
  image_kept p some within = by (birth_of a.noted p) refl
    where
      known : has_image b p ≡ true
      known =
          or_second b.is_whole (nat_le p (length b.image_numbers))
          (le-leb p (length b.image_numbers) within)

      same : image_behind b.images a.noted p ≡ image_behind b.images moments p
      same =
          ap (λ o. unwrap_or o 0) (sym (image_stays b.images (a.noted ++ a.later) a.noted p
          (λ q below. same_first b.image_numbers (λ m. image_behind b.images a.noted q)
          processes_at a.noted a.later b.is_whole q (a.known.images q) a.whole
          (lower_known p q known below))
          a.known.parents p p (omega arith)))
          ∙ ap (λ (ms : List Moment). image_behind b.images ms p) (sym a.front)

      by : (o : Option Moment) → birth_of a.noted p ≡ o
          → numbered b.image_numbers p ≡ Some (image_behind b.images moments p)
      by None none =
          let is_zero = none_beyond b.image_numbers p within (a.known.images p
          ∙ ap (option_map (λ m. image_behind b.images a.noted p)) none) in
          absurd (omega (arith, some, is_zero))
      by (Some m) found =
          a.known.images p ∙ ap (option_map (λ m. image_behind b.images a.noted p)) found
          ∙ ap (λ n. Some n) same

  -- its name
  pub image_named : (names : List (List ℕ)) (p : ℕ) → 0 < p → p ≤ length b.image_numbers
      → unwrap_or (option_and_then (λ n. numbered names n) (numbered b.image_numbers p)) []
      ≡ unwrap_or (option_and_then (λ n. numbered names n)
      (image_of_process p b.images moments p)) []
  image_named names p some within =
      ap (λ o. unwrap_or (option_and_then (λ n. numbered names n) o) [])
      (image_kept p some within)
      ∙ by (image_of_process p b.images moments p)
    where
      by : (o : Option ℕ) → unwrap_or (numbered names (unwrap_or o 0)) []
          ≡ unwrap_or (option_and_then (λ n. numbered names n) o) []
      by None = refl
      by (Some n) = refl
