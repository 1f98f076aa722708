-- The opening of accepted images that fit is lawful, field by field.
use Rattle.std.proofs.Common.{ℕ, zero, suc, ◌+◌, ◌*◌, ◌-◌, ◌<◌, ◌≤◌, ◌≡◌, ◌≢◌, ◌⊎◌, inl, inr, refl}
use Rattle.std.proofs.Common.{sym, ap, ◌∙◌, Bool, cond, true, false, List, [], ◌∷◌, length, arith}
use Rattle.std.specs.Prelude.{◌↔◌, All, IsTrue, IsFalse, IfSome, is_some, option_and_then, flat_map}
use Rattle.std.specs.Prelude.{count_by, sum_by, ◌==◌, slice_get, slice_index_or, replicate}
use Rattle.std.specs.List.{list_any}
use Rattle.std.proofs.lemmas.Bool.{true≢false, false≢true, eq-eqb, cases_lt, or_left, or_right}
use Rattle.std.proofs.lemmas.Bool.{or_from}
use Rattle.std.proofs.lemmas.List.{get_or_append_left, get_or-append_right, length-append}
use Rattle.std.proofs.lemmas.List.{length-replicate}
use Rattle.std.proofs.lemmas.List.Elements.{All-nil, All-cons, All-head, All-tail, All-append}
use Rattle.std.proofs.lemmas.List.Elements.{All-replicate, All-weaker}
use Rattle.std.proofs.lemmas.List.Sums.{sum_by-cons}
use Rattle.dos_world.specs.Numbered.{map_from, places_from, numbered}
use Rattle.dos_world.specs.World.{Process, Holdings, flat, all_holdings, holdings_of, belongs_to}
use Rattle.dos_world.specs.World.{live_process, thread_at, threads_of, owner_of}
use Rattle.dos_world.specs.Counts.{maps_frame, is_mapped}
use Rattle.dos_world.specs.Lawful.{Lawful, FramesAreLawful, ProcessesAreLawful, ThreadsAreLawful}
use Rattle.dos_world.specs.Lawful.{PipesAreLawful, IsWithinLimits, AreHoldings, IsThread, IsAlone}
use Rattle.dos_world.specs.Lawful.{HasStatus, IsByte, IsConfig, IsPipe, IsSleeper, turns_asleep}
use Rattle.dos_world.specs.declared.Config.{Config}
use Rattle.dos_world.specs.declared.Owner.{Owner}
use Rattle.dos_world.specs.declared.Owner.TheVariants.{Free, Of}
use Rattle.elf_image.specs.Image.{Image}
use Rattle.flat_machine.specs.Opening.{opening, needed, page_count, image_bytes, owners_from}
use Rattle.flat_machine.specs.Opening.{processes_from, opening_process, opening_thread}
use Rattle.group_open.specs.Laws.{IsAccepted, OpeningsAreLawful}
use Rattle.group_open.proofs.Runs.{All-flat_map, length_with_zeros, same_everywhere}
use Rattle.dos_laws.proofs.Ends.{length-map_from}
use Rattle.group_open.proofs.Runs.{any_in_run, none_in_run, one_counted}
use Rattle.group_open.proofs.Runs.{none_counted}
use Rattle.group_open.proofs.OpeningParts.{frame_of, opening_holdings, frames_within, holdings_in}
use Rattle.group_open.proofs.OpeningParts.{maps_run, counts_run, thread_in, bytes_in, bytes_length}

-- ---- statuses

-- nobody has ended
pub statuses_from : (frame : ℕ) (images : List Image) → All HasStatus (processes_from frame images)
statuses_from frame [] = All-nil HasStatus
statuses_from frame (image ∷ images) =
    All-cons HasStatus (opening_process image frame)
    (processes_from (frame + page_count image) images) (omega arith)
    (statuses_from (frame + page_count image) images)

-- ---- frames

pub needed_more : (image : Image) (images : List Image)
    → needed (image ∷ images) ≡ page_count image + needed images
needed_more image images = sum_by-cons page_count image images

pub owners_length : (k : ℕ) (images : List Image) → length (owners_from k images) ≡ needed images
owners_length k [] = refl
owners_length k (image ∷ images) =
    omega (
      arith,
      length-append (replicate (page_count image) (Of k)) (owners_from (suc k) images),
      length-replicate (page_count image) (Of k),
      owners_length (suc k) images,
      needed_more image images,
    )

-- pieces that are 4096 times as long as their sizes
length_by_sizes : {A : Type 0} (f : A → List ℕ) (size : A → ℕ)
    → ((x : A) → length (f x) ≡ 4096 * size x) → (xs : List A)
    → length (flat_map f xs) ≡ 4096 * sum_by size xs
length_by_sizes f size each [] = refl
length_by_sizes f size each (x ∷ xs) =
    omega (
      arith,
      length-append (f x) (flat_map f xs),
      each x,
      length_by_sizes f size each xs,
      sum_by-cons size x xs,
    )

-- an owner that is a thread, one of these
abbrev IsOwnerIn : ℕ → ℕ → Owner → Type 0
IsOwnerIn low high o = (t : ℕ) → o ≡ Of t → (low ≤ t) × (t < high)

owners_in : (k high : ℕ) (images : List Image) → k + length images ≤ high
    → All (IsOwnerIn k high) (owners_from k images)
owners_in k high [] fits = All-nil (IsOwnerIn k high)
owners_in k high (image ∷ images) fits =
    All-append (IsOwnerIn k high) (replicate (page_count image) (Of k)) (owners_from (suc k) images)
    (All-replicate (IsOwnerIn k high) (page_count image) (Of k)
    (λ t e. let same : k ≡ t = cc in (omega arith, omega arith)))
    (All-weaker (IsOwnerIn (suc k) high) (IsOwnerIn k high)
    (λ o f t e. let r = f t e in (omega (arith, r.0), r.1)) (owners_from (suc k) images)
    (owners_in (suc k) high images (omega arith)))

owners_taken : (k : ℕ) (images : List Image) → All (λ o. o ≢ Free) (owners_from k images)
owners_taken k [] = All-nil (λ o. o ≢ Free)
owners_taken k (image ∷ images) =
    All-append (λ o. o ≢ Free) (replicate (page_count image) (Of k)) (owners_from (suc k) images)
    (All-replicate (λ o. o ≢ Free) (page_count image) (Of k) (λ e. cc))
    (owners_taken (suc k) images)

-- ---- spaces

holdings_all : (frames f : ℕ) (images : List Image) → All IsAccepted images
    → f + needed images ≤ frames → All (AreHoldings frames) (all_holdings (processes_from f images))
holdings_all frames f [] h fits = All-nil (AreHoldings frames)
holdings_all frames f (image ∷ images) h fits =
    let more = needed_more image images in
    All-cons (AreHoldings frames) (opening_holdings image f)
    (all_holdings (processes_from (f + page_count image) images))
    (holdings_in frames image f (All-head IsAccepted image images h) (omega (arith, more)))
    (holdings_all frames (f + page_count image) images (All-tail IsAccepted image images h)
    (omega (arith, more)))

abbrev FramesBelow : ℕ → Holdings → Type 0
FramesBelow bound h = All (λ e. frame_of e < bound) h.space

frames_below : (bound f : ℕ) (images : List Image) → f + needed images ≤ bound
    → All (FramesBelow bound) (all_holdings (processes_from f images))
frames_below bound f [] fits = All-nil (FramesBelow bound)
frames_below bound f (image ∷ images) fits =
    let more = needed_more image images in
    All-cons (FramesBelow bound) (opening_holdings image f)
    (all_holdings (processes_from (f + page_count image) images))
    (λ k d lt. let within = frames_within image f k d lt in omega (arith, within.1, more, fits))
    (frames_below bound (f + page_count image) images (omega (arith, more)))

mapped_out : (x f : ℕ) (images : List Image) → f + needed images ≤ x
    → list_any (maps_frame x) (all_holdings (processes_from f images)) ≡ false
mapped_out x f [] out = refl
mapped_out x f (image ∷ images) out =
    let more = needed_more image images in
    or_from (maps_frame x (opening_holdings image f))
    (list_any (maps_frame x) (all_holdings (processes_from (f + page_count image) images)))
    (maps_run x image f ∙ none_in_run x f (page_count image) (inr (omega (arith, more))))
    (mapped_out x (f + page_count image) images (omega (arith, more)))

mapped_in : (x f : ℕ) (images : List Image) → f ≤ x → x < f + needed images
    → list_any (maps_frame x) (all_holdings (processes_from f images)) ≡ true
mapped_in x f [] le lt = absurd (omega arith)
mapped_in x f (image ∷ images) le lt =
    let more = needed_more image images in
    go (λ past. mapped_in x (f + page_count image) images past (omega (arith, more)))
    (cases_lt x (f + page_count image))
  where
    go : (f + page_count image ≤ x
        → list_any (maps_frame x) (all_holdings (processes_from (f + page_count image) images))
        ≡ true) → (x < f + page_count image) ⊎ (f + page_count image ≤ x)
        → list_any (maps_frame x) (all_holdings (processes_from f (image ∷ images))) ≡ true
    go rest (inl here) =
        or_left (maps_frame x (opening_holdings image f))
        (list_any (maps_frame x)
        (all_holdings (processes_from (f + page_count image) images)))
        (maps_run x image f ∙ any_in_run x f (page_count image) le here)
    go rest (inr past) =
        or_right (maps_frame x (opening_holdings image f))
        (list_any (maps_frame x)
        (all_holdings (processes_from (f + page_count image) images))) (rest past)

-- how many entries have a frame
abbrev uses_in : ℕ → Holdings → ℕ
uses_in x h = count_by (λ e. e.1.frame == x) h.space

uses_before : (x f : ℕ) (images : List Image) → x < f
    → sum_by (uses_in x) (all_holdings (processes_from f images)) ≡ 0
uses_before x f [] before = refl
uses_before x f (image ∷ images) before =
    let here : uses_in x (opening_holdings image f) ≡ 0 =
    counts_run x image f ∙ none_counted x f (page_count image) (inl before) in
    omega (
      arith,
      sum_by-cons (uses_in x) (opening_holdings image f)
          (all_holdings (processes_from (f + page_count image) images)),
      here,
      uses_before x (f + page_count image) images (omega arith),
    )

pub uses_after : (x f : ℕ) (images : List Image) → f + needed images ≤ x
    → sum_by (uses_in x) (all_holdings (processes_from f images)) ≡ 0
uses_after x f [] after = refl
uses_after x f (image ∷ images) after =
    let more = needed_more image images in
    let here : uses_in x (opening_holdings image f) ≡ 0 =
    counts_run x image f ∙ none_counted x f (page_count image) (inr (omega (arith, more))) in
    omega (
      arith,
      sum_by-cons (uses_in x) (opening_holdings image f)
          (all_holdings (processes_from (f + page_count image) images)),
      here,
      uses_after x (f + page_count image) images (omega (arith, more)),
    )

pub one_use : (x f : ℕ) (images : List Image) → f ≤ x → x < f + needed images
    → sum_by (uses_in x) (all_holdings (processes_from f images)) ≡ 1
one_use x f [] le lt = absurd (omega arith)
one_use x f (image ∷ images) le lt =
    let more = needed_more image images in
    sum_by-cons (uses_in x) (opening_holdings image f)
    (all_holdings (processes_from (f + page_count image) images))
    ∙ go (λ past. one_use x (f + page_count image) images past (omega (arith, more)))
    (cases_lt x (f + page_count image))
  where
    go : (f + page_count image ≤ x
        → sum_by (uses_in x) (all_holdings (processes_from (f + page_count image) images)) ≡ 1)
        → (x < f + page_count image) ⊎ (f + page_count image ≤ x)
        → uses_in x (opening_holdings image f) + sum_by (uses_in x)
        (all_holdings (processes_from (f + page_count image) images)) ≡ 1
    go rest (inl below) =
        let here : uses_in x (opening_holdings image f) ≡ 1 =
        counts_run x image f ∙ one_counted x f (page_count image) le below in
        omega (arith, here, uses_before x (f + page_count image) images below)
    go rest (inr past) =
        let here : uses_in x (opening_holdings image f) ≡ 0 =
        counts_run x image f ∙ none_counted x f (page_count image) (inr past) in
        omega (arith, here, rest past)

-- ---- processes

pub processes_length : (f : ℕ) (images : List Image)
    → length (processes_from f images) ≡ length images
processes_length f [] = refl
processes_length f (image ∷ images) = ap suc (processes_length (f + page_count image) images)

pub holdings_length : (f : ℕ) (images : List Image)
    → length (all_holdings (processes_from f images)) ≡ length images
holdings_length f [] = refl
holdings_length f (image ∷ images) = ap suc (holdings_length (f + page_count image) images)

parent_below : (f i p : ℕ) (images : List Image) → 0 < p
    → IfSome (slice_get (processes_from f images) i) (λ process. process.parent < p)
parent_below f i p [] h = tt
parent_below f zero p (image ∷ images) h = h
parent_below f (suc i) p (image ∷ images) h = parent_below (f + page_count image) i p images h

process_lives : (f i : ℕ) (images : List Image) → i < length images
    → IsTrue (is_some (option_and_then holdings_of (slice_get (processes_from f images) i)))
process_lives f i [] lt = absurd (omega arith)
process_lives f zero (image ∷ images) lt = refl
process_lives f (suc i) (image ∷ images) lt =
    process_lives (f + page_count image) i images (omega arith)

number_lives : (f m : ℕ) (images : List Image) → 1 ≤ m → m < 1 + length images
    → IsTrue (is_some (option_and_then holdings_of (numbered (processes_from f images) m)))
number_lives f zero images le lt = absurd (omega arith)
number_lives f (suc i) images le lt = process_lives f i images (omega arith)

-- ---- threads

put_first : (b : Bool) (n : ℕ) (rest : List ℕ) → b ≡ true → cond b (n ∷ rest) rest ≢ []
put_first true n rest e same = cc
put_first false n rest e same = absurd (false≢true e)

put_or_not : (b : Bool) (n : ℕ) (rest : List ℕ) → rest ≢ [] → cond b (n ∷ rest) rest ≢ []
put_or_not true n rest h same = cc
put_or_not false n rest h same = h same

has_thread : (k p f i : ℕ) (images : List Image) → p ≡ k + i
    → IsTrue (is_some (option_and_then holdings_of (slice_get (processes_from f images) i)))
    → places_from k (belongs_to p) (map_from k opening_thread images) ≢ []
has_thread k p f i [] e lives = absurd (false≢true lives)
has_thread k p f zero (image ∷ images) e lives =
    put_first (k == p) k (places_from (suc k) (belongs_to p)
    (map_from (suc k) opening_thread images)) (eq-eqb k p (omega arith))
has_thread k p f (suc i) (image ∷ images) e lives =
    put_or_not (k == p) k
    (places_from (suc k) (belongs_to p) (map_from (suc k) opening_thread images))
    (has_thread (suc k) p (f + page_count image) i images (omega arith) lives)

threads_in : (processes : List Process) (k i : ℕ) (images : List Image) → All IsAccepted images
    → ((m : ℕ) → k ≤ m → m < k + length images
    → IsTrue (is_some (option_and_then holdings_of (numbered processes m))))
    → IfSome (flat (slice_get (map_from k opening_thread images) i)) (IsThread processes)
threads_in processes k i [] h lives = tt
threads_in processes k zero (image ∷ images) h lives =
    thread_in processes k image (All-head IsAccepted image images h)
    (lives k (omega arith) (omega arith))
threads_in processes k (suc i) (image ∷ images) h lives =
    threads_in processes (suc k) i images (All-tail IsAccepted image images h)
    (λ m le lt. lives m (omega arith) (omega arith))

nobody_asleep : (k i : ℕ) (images : List Image)
    → 0 ≡ turns_asleep (flat (slice_get (map_from k opening_thread images) i))
nobody_asleep k i [] = refl
nobody_asleep k zero (image ∷ images) = refl
nobody_asleep k (suc i) (image ∷ images) = nobody_asleep (suc k) i images

count_put : (b : Bool) (n m : ℕ) (rest : List ℕ) → length rest ≤ m
    → length (cond b (n ∷ rest) rest) ≤ suc m
count_put true n m rest le = omega arith
count_put false n m rest le = omega arith

pub places_at_most : {A : Type 0} (k : ℕ) (test : A → Bool) (xs : List A)
    → length (places_from k test xs) ≤ length xs
places_at_most k test [] = omega arith
places_at_most k test (x ∷ xs) =
    count_put (test x) k (length xs) (places_from (suc k) test xs) (places_at_most (suc k) test xs)

-- ---- the world

module _ (images : List Image) (config : Config) (some : 1 ≤ length images)
    (few : length images ≤ 8) (accepted : All IsAccepted images) (within : IsConfig config)
    (fit : needed images ≤ config.frames) where
  owners_all : length (opening images config).owners ≡ config.frames
  owners_all =
      omega (
        arith,
        length-append (owners_from 1 images)
            (replicate (config.frames - needed images) Free),
        length-replicate (config.frames - needed images) Free,
        owners_length 1 images,
        fit,
      )

  bytes_field : (length (opening images config).bytes
      ≡ 4096 * length (opening images config).owners) × All IsByte (opening images config).bytes
  bytes_field = (
    length_with_zeros (flat_map image_bytes images) (4096 * needed images)
        (4096 * (config.frames - needed images))
        (length_by_sizes image_bytes page_count bytes_length images)
        ∙ omega (arith, owners_all, fit),
    All-append IsByte (flat_map image_bytes images)
        (replicate (4096 * (config.frames - needed images)) 0)
        (All-flat_map IsByte image_bytes images
        (All-weaker IsAccepted
        (λ image. All IsByte (image_bytes image)) bytes_in images accepted))
        (All-replicate IsByte (4096 * (config.frames - needed images)) 0 (omega arith)),
  )

  free_field : (frame : ℕ) → frame < length (opening images config).owners
      → (owner_of (opening images config) frame ≡ Free) ↔ IsFalse
      (is_mapped (opening images config) frame)
  free_field frame lt = go (cases_lt frame (needed images))
    where
      go : (frame < needed images) ⊎ (needed images ≤ frame)
          → (owner_of (opening images config) frame ≡ Free) ↔ IsFalse
          (is_mapped (opening images config) frame)
      go (inl below) =
          let there : frame < length (owners_from 1 images) =
          omega (arith, owners_length 1 images, below) in
          let owner : owner_of (opening images config) frame
          ≡ slice_index_or (owners_from 1 images) frame Free =
          get_or_append_left (owners_from 1 images)
          (replicate (config.frames - needed images) Free) Free frame there in
          let taken : owner_of (opening images config) frame ≢ Free =
          λ e. owners_taken 1 images frame Free there (sym owner ∙ e) in
          let mapped : is_mapped (opening images config) frame ≡ true =
          mapped_in frame 0 images (omega arith) (omega (arith, below)) in
          (λ e. absurd (taken e), λ e. absurd (true≢false (sym mapped ∙ e)))
      go (inr past) =
          let owner : owner_of (opening images config) frame ≡ Free =
          get_or-append_right (owners_from 1 images)
          (replicate (config.frames - needed images) Free) (needed images) frame Free
          (owners_length 1 images) past
          ∙ same_everywhere (config.frames - needed images) (frame - needed images) Free in
          let unmapped : is_mapped (opening images config) frame ≡ false =
          mapped_out frame 0 images (omega (arith, past)) in
          (λ e. unmapped, λ e. owner)

  zeros_field : (frame offset : ℕ) → owner_of (opening images config) frame ≡ Free → offset < 4096
      → slice_index_or (opening images config).bytes (4096 * frame + offset) 0 ≡ 0
  zeros_field frame offset free low = go (cases_lt frame (needed images))
    where
      go : (frame < needed images) ⊎ (needed images ≤ frame)
          → slice_index_or (opening images config).bytes (4096 * frame + offset) 0 ≡ 0
      go (inl below) =
          let there : frame < length (owners_from 1 images) =
          omega (arith, owners_length 1 images, below) in
          absurd (owners_taken 1 images frame Free there
          (sym (get_or_append_left (owners_from 1 images)
          (replicate (config.frames - needed images) Free) Free frame there) ∙ free))
      go (inr past) =
          get_or-append_right (flat_map image_bytes images)
          (replicate (4096 * (config.frames - needed images)) 0) (4096 * needed images)
          (4096 * frame + offset) 0 (length_by_sizes image_bytes page_count bytes_length images)
          (omega (arith, past))
          ∙ same_everywhere (4096 * (config.frames - needed images))
          (4096 * frame + offset - 4096 * needed images) 0

  owned_field : (frame t : ℕ) → owner_of (opening images config) frame ≡ Of t
      → (1 ≤ t) × (t ≤ length (opening images config).threads)
  owned_field frame t e = go (cases_lt frame (length (owners_from 1 images)))
    where
      go : (frame < length (owners_from 1 images)) ⊎ (length (owners_from 1 images) ≤ frame)
          → (1 ≤ t) × (t ≤ length (opening images config).threads)
      go (inl there) =
          let owner : owner_of (opening images config) frame
          ≡ slice_index_or (owners_from 1 images) frame Free =
          get_or_append_left (owners_from 1 images)
          (replicate (config.frames - needed images) Free) Free frame there in
          let range = owners_in 1 (1 + length images) images (omega arith) frame Free there t
          (sym owner ∙ e) in
          (range.0, omega (arith, range.1, length-map_from 1 opening_thread images))
      go (inr past) =
          let owner : owner_of (opening images config) frame ≡ Free =
          get_or-append_right (owners_from 1 images)
          (replicate (config.frames - needed images) Free)
          (length (owners_from 1 images)) frame Free refl past
          ∙ same_everywhere (config.frames - needed images)
          (frame - length (owners_from 1 images)) Free in
          let both : Free ≡ Of t = sym owner ∙ e in
          cc

  holdings_field : All (AreHoldings (length (opening images config).owners))
      (all_holdings (opening images config).processes)
  holdings_field = holdings_all (length (opening images config).owners) 0 images accepted
      (omega (arith, owners_all, fit))

  private_field : All (λ h. All (IsAlone (opening images config)) h.space)
      (all_holdings (opening images config).processes)
  private_field =
      All-weaker (FramesBelow (needed images)) (λ h. All (IsAlone (opening images config)) h.space)
      (λ h below k d lt private. one_use (frame_of (slice_index_or h.space k d)) 0 images
      (omega arith) (omega (arith, below k d lt)))
      (all_holdings (processes_from 0 images)) (frames_below (needed images) 0 images (omega arith))

  populated_field : (p : ℕ) → IsTrue (is_some (live_process (opening images config) p))
      → threads_of (opening images config) p ≢ []
  populated_field zero lives = absurd (false≢true lives)
  populated_field (suc i) lives = has_thread 1 (suc i) 0 i images (omega arith) lives

  parents_field : (p : ℕ)
      → IfSome (numbered (opening images config).processes p) (λ process. process.parent < p)
  parents_field zero = tt
  parents_field (suc i) = parent_below 0 i (suc i) images (omega arith)

  threads_field : (t : ℕ)
      → IfSome (thread_at (opening images config) t) (IsThread (opening images config).processes)
  threads_field zero = tt
  threads_field (suc i) =
      threads_in (processes_from 0 images) 1 i images accepted
      (λ m le lt. number_lives 0 m images le lt)

  asleep_field : (t : ℕ) → 0 ≡ turns_asleep (thread_at (opening images config) t)
  asleep_field zero = refl
  asleep_field (suc i) = nobody_asleep 1 i images

  threads_all : length (opening images config).threads ≡ length images
  threads_all = length-map_from 1 opening_thread images

  frames_of_it : FramesAreLawful (opening images config)
  frames_of_it = record {
    bytes = bytes_field;
    free = free_field;
    zeros = zeros_field;
    owned = owned_field;
  }

  processes_of_it : ProcessesAreLawful (opening images config)
  processes_of_it = record {
    holdings = holdings_field;
    private = private_field;
    populated = populated_field;
    parents = parents_field;
    statuses = statuses_from 0 images;
    given = (
      omega (arith, processes_length 0 images, some),
      omega (arith, processes_length 0 images, threads_all),
    );
  }

  threads_of_it : ThreadsAreLawful (opening images config)
  threads_of_it = record {
    ranges = threads_field;
    asleep = asleep_field;
    sleepers =
        All-nil (IsSleeper (length (opening images config).owners));
  }

  pipes_of_it : PipesAreLawful (opening images config)
  pipes_of_it = record {
    ranges = (refl, All-replicate IsPipe 64 [] (omega arith, All-nil IsByte));
    closed = λ pipe closed. same_everywhere 64 pipe [];
  }

  limits_of_it : IsWithinLimits (opening images config)
  limits_of_it = record {
    threads = (
      omega (
        arith,
        places_at_most 1 is_some (opening images config).threads,
        threads_all,
        few,
      ),
      omega (arith, threads_all, few),
    );
    processes = omega (arith, holdings_length 0 images, few);
    frames = (
      omega (arith, owners_all, within.frames.0),
      omega (arith, owners_all, within.frames.1),
    );
  }

  all_of_it : Lawful (opening images config)
  all_of_it = record {
    frames = frames_of_it;
    processes = processes_of_it;
    threads = threads_of_it;
    pipes = pipes_of_it;
    limits = limits_of_it;
    run = record { turn = within.quantum; count = omega arith };
  }

pub every_opening : OpeningsAreLawful
every_opening images config some few accepted within fit =
    all_of_it images config some few accepted within fit
