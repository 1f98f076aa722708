-- The images of processes, by what is kept of births; and the threads of pairs. This project's own.
use Rattle.std.proofs.Common.{◌≡◌, ℕ, zero, suc, ◌+◌, ◌<◌, ◌≤◌, ◌∙◌, List, [], ◌∷◌, map, length}
use Rattle.std.proofs.Common.{Bool, true, false, Option, Some, None, refl, sym, ap, ap₂, arith}
use Rattle.std.specs.Prelude.{is_some, nat_le, option_and_then, option_map, slice_get, unwrap_or}
use Rattle.std.specs.Prelude.{◌||◌}
use Rattle.std.proofs.lemmas.Bool.{le-leb, leb-true, true≢false}
use Rattle.dos_world.specs.Numbered.{map_from, numbered}
use Rattle.dos_world.specs.World.{Process, first_thread}
use Rattle.group_moves.specs.Moments.{Moment}
use Rattle.debug_answers.specs.Images.{name_by}
use Rattle.debug_client.specs.Births.{AreBirthsKnown, BirthTables, has_image, has_process}
use Rattle.debug_client.specs.Births.{image_behind}
use Rattle.debug_client.proofs.Known.{image_named}
use Rattle.debug_session.specs.Homes.{birth_of, image_of_process}
use Rattle.debug_session.specs.Pages.{image_name, process_rows, process_told, processes_told}
use Rattle.debug_session.specs.Positions.{all_moments}
use Rattle.debug_session.specs.Sessions.{Session, home_in, home_pair}

-- ---- pairs

pair_thread : (s : Session) (t : ℕ) → (home_pair s t).1 ≡ t
pair_thread s t = by (home_in s t)
  where
    by : (o : Option ℕ)
        → (elim o as (λ _. ℕ × ℕ) [ None ↦ (s.process, t) | Some p ↦ (p, t) ]).1 ≡ t
    by None = refl
    by (Some p) = refl

-- Threads that are paired with their processes are themselves.
pub paired_threads : (s : Session) (ts : List ℕ)
    → map (λ (pair : ℕ × ℕ). pair.1) (map (home_pair s) ts) ≡ ts
paired_threads s [] = refl
paired_threads s (t ∷ ts) =
    ap₂ (λ (x : ℕ) (xs : List ℕ). x ∷ xs) (pair_thread s t) (paired_threads s ts)

-- ---- names

pub numbered_map : {A B : Type 0} (f : A → B) (xs : List A) (n : ℕ)
    → numbered (map f xs) n ≡ option_map f (numbered xs n)
numbered_map f xs zero = refl
numbered_map f xs (suc i) = at f xs i
  where
    at : {A B : Type 0} (f : A → B) (xs : List A) (i : ℕ)
        → slice_get (map f xs) i ≡ option_map f (slice_get xs i)
    at f [] i = refl
    at f (x ∷ xs) zero = refl
    at f (x ∷ xs) (suc i) = at f xs i

-- a name by the number of an image, 0 where there is none
pub name_numbered : (names : List (List ℕ)) (image : Option ℕ)
    → option_and_then (λ n. numbered names n) image ≡ numbered names (unwrap_or image 0)
name_numbered names None = refl
name_numbered names (Some n) = refl

rows_same : (f g : ℕ → List ℕ) (n : ℕ) (processes : List Process)
    → ((p : ℕ) → n ≤ p → p < n + length processes → f p ≡ g p)
    → map_from n (λ p process. process_told (f p) p process) processes
    ≡ map_from n (λ p process. process_told (g p) p process) processes
rows_same f g n [] same = refl
rows_same f g n (x ∷ xs) same =
    ap₂ (λ (name : List ℕ) (rest : List (List ℕ)). process_told name n x ∷ rest)
    (same n (omega arith) (omega arith))
    (rows_same f g (suc n) xs (λ p low high. same p (omega (arith, low)) (omega (arith, high))))

module _ (b : BirthTables) (s : Session) (known : AreBirthsKnown b (all_moments s.position))
    (images : b.images ≡ length s.recording.names) where
  -- the rows of processes by the images that are kept
  pub rows_kept : length s.position.moment.world.processes ≤ length b.image_numbers
      → processes_told (name_by s.recording.names b.image_numbers) s.position.moment.world
      ≡ process_rows s
  rows_kept few =
      rows_same (name_by s.recording.names b.image_numbers)
      (λ p. unwrap_or (image_name s p) []) 1 s.position.moment.world.processes
      (λ p low high. image_named b (all_moments s.position) known s.recording.names p
      (omega (arith, low)) (omega (arith, few, high))
      ∙ ap (λ n. unwrap_or (option_and_then (λ n. numbered s.recording.names n)
      (image_of_process p n (all_moments s.position) p)) []) images)

  -- the name of the image of a process
  pub image_is : (p image : ℕ) → image ≡ image_behind b.images (all_moments s.position) p
      → image_name s p ≡ numbered s.recording.names image
  image_is p image is =
      name_numbered s.recording.names
      (image_of_process p (length s.recording.names) (all_moments s.position) p)
      ∙ ap (λ n. numbered s.recording.names
      (unwrap_or (image_of_process p n (all_moments s.position) p) 0)) (sym images)
      ∙ ap (numbered s.recording.names) (sym is)

-- ---- which images are known

within : {A : Type 0} (xs : List A) (i : ℕ) (x : A) → slice_get xs i ≡ Some x → suc i ≤ length xs
within [] i x is = cc
within (y ∷ ys) zero x is = omega arith
within (y ∷ ys) (suc i) x is = omega (arith, within ys i x is)

same_length : {A B : Type 0} (xs : List A) (ys : List B)
    → ((n : ℕ) → is_some (numbered xs n) ≡ true → is_some (numbered ys n) ≡ true)
    → length xs ≤ length ys
same_length [] ys same = omega arith
same_length {A} {B} (x ∷ xs) ys same = by (length xs) refl
  where
    by : (n : ℕ) → length xs ≡ n → length (x ∷ xs) ≤ length ys
    by n many = there (numbered ys (suc n)) refl (same (suc n) (last (x ∷ xs) n (omega arith)))
      where
        last : (zs : List A) (i : ℕ) → i < length zs → is_some (numbered zs (suc i)) ≡ true
        last [] i less = absurd (omega (arith, less))
        last (z ∷ zs) zero less = refl
        last (z ∷ zs) (suc i) less = last zs i (omega (arith, less))

        there : (o : Option B) → numbered ys (suc n) ≡ o → is_some (numbered ys (suc n)) ≡ true
            → length (x ∷ xs) ≤ length ys
        there None none some =
            absurd (true≢false (sym some ∙ ap (λ (o : Option B). is_some o) none))
        there (Some y) found some =
            let less = within ys n y found in omega (arith, less, many)

-- Whose first thread is known has an image that is.
pub has_image_too : (b : BirthTables) (moments : List Moment) → AreBirthsKnown b moments → (p : ℕ)
    → has_process b p ≡ true → has_image b p ≡ true
has_image_too b moments a p known = by b.is_whole known
  where
    mapped : {B C : Type 0} (g : Moment → B) (h : Moment → C) (o : Option Moment)
        → is_some (option_map g o) ≡ is_some (option_map h o)
    mapped g h None = refl
    mapped g h (Some m) = refl

    long : length b.first_threads ≤ length b.image_numbers
    long =
        same_length b.first_threads b.image_numbers
        (λ n some. ap (λ (o : Option ℕ). is_some o) (a.known.images n)
        ∙ mapped (λ m. image_behind b.images a.noted n) (λ m. first_thread m.world n)
        (birth_of a.noted n)
        ∙ sym (ap (λ (o : Option (Option ℕ)). is_some o) (a.known.first_threads n)) ∙ some)

    by : (whole : Bool) → (whole || nat_le p (length b.first_threads)) ≡ true
        → (whole || nat_le p (length b.image_numbers)) ≡ true
    by true known = refl
    by false known =
        let within = leb-true p (length b.first_threads) known in
        le-leb p (length b.image_numbers) (omega (arith, within, long))
