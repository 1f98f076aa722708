-- The first descriptors of a process, and an image more in a group.
use Rattle.std.proofs.Common.{ℕ, suc, ◌+◌, ◌*◌, get_or, take, ◌<◌, ◌≤◌, ◌≡◌, ◌||◌, false, arith, []}
use Rattle.std.proofs.Common.{◌∷◌, ◌++◌, length, refl, sym, ap, ◌∙◌, subst, List, Option, Some}
use Rattle.std.proofs.Common.{None, IsSome, replicate}
use Rattle.std.specs.Prelude.{IfSome, flat_map, is_none, is_some, nat_le, option_and_then, position}
use Rattle.std.specs.Prelude.{slice_get, slice_set}
use Rattle.std.proofs.lemmas.Bool.{lt-leb, or_from}
use Rattle.std.proofs.lemmas.List.Elements.{All-nil, All-replicate}
use Rattle.std.proofs.lemmas.List.Sums.{sum_by_more_le}
use Rattle.std.proofs.lemmas.List.{length-replicate, length-take, take_more}
use Rattle.dos_world.specs.Kernel.{zero_page}
use Rattle.page_store.proofs.Joined.{joined-unused}
use Rattle.dos_world.specs.Numbered.{changed, changed_at, numbered, numbers_of}
use Rattle.dos_world.specs.ProcessCalls.{are_processes_full}
use Rattle.dos_world.specs.ThreadCalls.{ready_thread}
use Rattle.elf_image.specs.Image.{Image}
use Rattle.page_store.specs.Store.{Store, unused_frames}
use Rattle.dos_world.specs.World.{Holdings, all_holdings, holdings_of, live, on_holdings}
use Rattle.dos_world.specs.DescriptorCalls.{with_end}
use Rattle.dos_world.specs.declared.End.{End}
use Rattle.proc_table.specs.Tables.{Tables, IsProcess, held_by, held_in, new_process, no_tables}
use Rattle.proc_table.specs.Tables.{process_added}
use Rattle.flat_machine.specs.Opening.{image_bytes, needed, opening_descriptors, opening_process}
use Rattle.flat_machine.specs.Opening.{opening_registers, opening_thread, owners_from, page_count}
use Rattle.flat_machine.specs.Opening.{processes_from, space_from}
use Rattle.group_open.specs.Filling.{HasPlace, HasFrames, IsFilled, IsOwnedBySome, OpensImage}
use Rattle.group_open.specs.Filling.{with_entries_more}
use Rattle.std.proofs.lemmas.List.{append-nil, append_assoc, flat_map_more}
use Rattle.dos_world.specs.declared.Entry.{Entry}
use Rattle.dos_world.specs.declared.Owner.{Owner}
use Rattle.dos_world.specs.declared.Owner.TheVariants.{Free, Of}
use Rattle.group_open.proofs.OpensLaws.{map_from_push}
use Rattle.group_open.specs.Group.{FitsMore, IsOpened, with_first_ends, with_process_opened}
use Rattle.dos_laws.proofs.Ends.{length-map_from}
use Rattle.group_open.proofs.OpeningLaws.{holdings_length, needed_more, owners_length}
use Rattle.group_open.proofs.OpeningLaws.{places_at_most, processes_length}
use Rattle.group_open.proofs.HeldLaws.{held_after, held_if, held_none, held_same, held_twice}

-- ---- descriptors

abbrev pub with_ends : List (Option End) → Holdings → Holdings
with_ends ends h = record h { descriptors = ends }

-- the table is the first one, in which the process lived, but for its descriptors
pub record HasEnds (first t : Tables) (p : ℕ) (ends : List (Option End)) : Type 0 where
  pub held : Holdings
  pub lived : held_in first.processes p ≡ Some held
  pub is : t ≡ held_by (with_ends ends) first p

pub ends_start : (t : Tables) (p : ℕ) (ends : List (Option End)) → IsProcess t.processes p
    → IfSome (held_in t.processes p) (λ h. h.descriptors ≡ ends) → HasEnds t t p ends
ends_start t p ends lives are = go (held_in t.processes p) refl lives are
  where
    go : (o : Option Holdings) → held_in t.processes p ≡ o → IsSome o
        → IfSome o (λ h. h.descriptors ≡ ends) → HasEnds t t p ends
    go None e some all = absurd cc
    go (Some h) e some all = record {
      held = h;
      lived = e;
      is = sym (held_same (with_ends ends) (λ g. g) t p
          (held_if (λ g. with_ends ends g ≡ g) t p h e
          (ap (λ es. record h { descriptors = es }) (sym all))) ∙ held_none t p);
    }

ends_now : (first t : Tables) (p : ℕ) (ends : List (Option End)) (h : HasEnds first t p ends)
    → held_in t.processes p ≡ Some (with_ends ends h.held)
ends_now first t p ends h = ap (λ (u : Tables). held_in u.processes p) h.is
    ∙ held_after (with_ends ends) first p h.held h.lived

pub ends_live : (first t : Tables) (p : ℕ) (ends : List (Option End)) → HasEnds first t p ends
    → IsProcess t.processes p
ends_live first t p ends h = subst IsSome (sym (ends_now first t p ends h)) refl

-- the lowest that is closed was opened
pub ends_more : (first t u : Tables) (p k : ℕ) (ends : List (Option End)) (end : End)
    (result : Option ℕ) → HasEnds first t p ends → position is_none ends ≡ Some k
    → IfSome (held_in t.processes p) (λ h. result ≡ position is_none h.descriptors)
    → IfSome result (λ n. u ≡ held_by (with_end n (Some end)) t p)
    → HasEnds first u p (slice_set ends k (Some end))
ends_more first t u p k ends end result h lowest found opened =
    let known : result ≡ position is_none ends =
    subst (λ (o : Option Holdings). IfSome o (λ g. result ≡ position is_none g.descriptors))
    (ends_now first t p ends h) found in
    let opens : u ≡ held_by (with_end k (Some end)) t p =
    subst (λ (o : Option ℕ). IfSome o (λ n. u ≡ held_by (with_end n (Some end)) t p))
    (known ∙ lowest) opened in
    record {
      held = h.held;
      lived = h.lived;
      is = opens ∙ ap (λ v. held_by (with_end k (Some end)) v p) h.is
          ∙ held_twice (with_end k (Some end)) (with_ends ends) first p;
    }

-- ---- the last of a list

changed_last : {A : Type 0} (f : A → A) (xs : List A) (x : A)
    → changed f (xs ++ x ∷ []) (length xs + 1) ≡ xs ++ f x ∷ []
changed_last {A = A} f xs x = let last : length xs + 1 ≡ suc (length xs) = omega arith in
    ap (changed f (xs ++ x ∷ [])) last ∙ go xs
  where
    go : (ys : List A) → changed_at f (ys ++ x ∷ []) (length ys) ≡ ys ++ f x ∷ []
    go [] = refl
    go (y ∷ ys) = ap (λ zs. y ∷ zs) (go ys)

numbered_last : {A : Type 0} (xs : List A) (x : A)
    → numbered (xs ++ x ∷ []) (length xs + 1) ≡ Some x
numbered_last {A = A} xs x = let last : length xs + 1 ≡ suc (length xs) = omega arith in
    ap (numbered (xs ++ x ∷ [])) last ∙ go xs
  where
    go : (ys : List A) → slice_get (ys ++ x ∷ []) (length ys) ≡ Some x
    go [] = refl
    go (y ∷ ys) = go ys

-- ---- one image more

processes_push : (f : ℕ) (images : List Image) (image : Image)
    → processes_from f images ++ opening_process image (f + needed images)
    ∷ [] ≡ processes_from f (images ++ image ∷ [])
processes_push f [] image = ap (λ n. opening_process image n ∷ []) (omega arith)
processes_push f (x ∷ images) image =
    ap (λ ps. opening_process x f ∷ ps)
    (ap (λ n. processes_from (f + page_count x) images ++ opening_process image n ∷ [])
    (omega (arith, needed_more x images))
    ∙ processes_push (f + page_count x) images image)

owners_push : (k : ℕ) (images : List Image) (image : Image)
    → owners_from k images ++ replicate (page_count image) (Of (k + length images))
    ≡ owners_from k (images ++ image ∷ [])
owners_push k [] image = ap (λ n. replicate (page_count image) (Of n)) (omega arith)
    ∙ sym (append-nil (replicate (page_count image) (Of k)))
owners_push k (x ∷ images) image =
    append_assoc (replicate (page_count x) (Of k)) (owners_from (suc k) images)
    (replicate (page_count image) (Of (k + suc (length images))))
    ∙ ap (λ os. replicate (page_count x) (Of k) ++ os)
    (ap (λ n. owners_from (suc k) images ++ replicate (page_count image) (Of n)) (omega arith)
    ∙ owners_push (suc k) images image)

module _ (count : ℕ) (s : Store) (t : Tables) (images : List Image) (image : Image)
    (o : IsOpened count s t images) where
  process_count : length t.processes ≡ length images
  process_count = ap length o.processes ∙ processes_length 0 images

  thread_count : length t.threads ≡ length images
  thread_count = ap length o.threads ∙ length-map_from 1 opening_thread images

  pub not_full : length images < 8 → are_processes_full t.processes t.threads ≡ false
  not_full few =
      ap (λ ps. are_processes_full ps t.threads) o.processes
      ∙ or_from (nat_le 32 (length (all_holdings (processes_from 0 images))))
      (nat_le 64 (length (numbers_of is_some t.threads)) || nat_le 65535 (length t.threads))
      (lt-leb 32 _ (omega (arith, holdings_length 0 images)))
      (or_from (nat_le 64 (length (numbers_of is_some t.threads))) (nat_le 65535 (length t.threads))
      (lt-leb 64 _ (omega (arith, places_at_most 1 is_some t.threads, thread_count)))
      (lt-leb 65535 _ (omega (arith, thread_count))))

  pub more_room : needed images + page_count image ≤ count → HasFrames s (page_count image)
  more_room fits = record {
    bytes = flat_map image_bytes images;
    owners = owners_from 1 images;
    filled = o.filled;
    room = omega (arith, owners_length 1 images, o.count_is);
  }

  pub opened_place : needed images + page_count image ≤ count
      → HasPlace (with_process_opened t image) (length t.processes + 1) 0 (page_count image)
  opened_place fits = record {
    held = with_first_ends
        (record { actions = replicate 31 0; descriptors = replicate 32 None; space = [] });
    is = held_after with_first_ends
        (process_added t (new_process 0)
        (ready_thread (length t.processes + 1) (opening_registers image) 0 []))
        (length t.processes + 1) _
        (ap (option_and_then holdings_of) (numbered_last t.processes (new_process 0)));
    below = All-nil (λ e. e.0 < 0);
    room = omega (arith, o.room);
  }

  next_processes : (entries : List (ℕ × Entry))
      → (held_by (with_entries_more entries) (with_process_opened t image)
      (length t.processes + 1)).processes
      ≡ t.processes ++ record {
        parent = 0;
        life =
            live (record {
              actions = replicate 31 0;
              descriptors = opening_descriptors;
              space =
                  entries;
            });
      } ∷ []
  next_processes entries =
      ap (λ ps. changed (on_holdings (with_entries_more entries)) ps (length t.processes + 1))
      (changed_last (on_holdings with_first_ends) t.processes (new_process 0))
      ∙ changed_last (on_holdings (with_entries_more entries)) t.processes
      (on_holdings with_first_ends (new_process 0))

  pub next_opened : (new : Store) (after u : Tables) (pid tid : ℕ) → after
      ≡ with_process_opened t image
      → pid ≡ length t.processes + 1 → tid ≡ length t.threads + 1
      → OpensImage s new after u pid tid image → IsOpened count new u (images ++ image ∷ [])
  next_opened new after u pid tid after_is pid_is tid_is opens =
      let owners = owners_from 1 images in
      let first : length owners ≡ 0 + needed images = omega (arith, owners_length 1 images) in
      let maps = opens.maps (flat_map image_bytes images) owners o.filled in
      let is : u ≡ held_by (with_entries_more (space_from image (length owners)))
      (with_process_opened t image)
      (length t.processes + 1) =
      maps ∙ ap (λ v. held_by (with_entries_more (space_from image (length owners))) v pid) after_is
      ∙ ap (held_by (with_entries_more (space_from image (length owners)))
      (with_process_opened t image)) pid_is
      in
      let thread : tid ≡ 1 + length images = omega (arith, thread_count) in
      record {
        count_is = opens.count ∙ o.count_is;
        room = ap (λ (v : Tables). v.room) is ∙ o.room;
        filled = subst (λ (bs : List ℕ). IsFilled new bs (owners_from 1 (images ++ image ∷ [])))
            (flat_map_more image_bytes [] images image)
            (subst (λ (os : List Owner). IsFilled new
            (flat_map image_bytes images ++ image_bytes image) os)
            (ap (λ n. owners ++ replicate (page_count image) (Of n)) thread
            ∙ owners_push 1 images image)
            (opens.fills (flat_map image_bytes images) owners o.filled));
        processes = ap (λ (v : Tables). v.processes) is
            ∙ next_processes (space_from image (length owners))
            ∙ ap (λ n. t.processes ++ opening_process image n ∷ []) first
            ∙ ap (λ ps. ps ++ opening_process image (0 + needed images) ∷ []) o.processes
            ∙ processes_push 0 images image;
        threads = ap (λ (v : Tables). v.threads) is
            ∙ ap (λ n. t.threads ++ opening_thread n image ∷ []) (omega (arith, process_count))
            ∙ ap (λ ts. ts ++ opening_thread (1 + length images) image ∷ []) o.threads
            ∙ map_from_push 1 opening_thread images image;
      }

-- ---- from none on

pub nothing_opened : (count : ℕ) (s : Store) (t : Tables) → s ≡ unused_frames count → t
    ≡ no_tables count
    → IsOpened count s t []
nothing_opened count s t none no_process =
    let size : length (replicate count (Some zero_page)) ≡ count =
    length-replicate count (Some zero_page) in
    subst (λ (x : Store). IsOpened count x t []) (sym none)
    (subst (λ (x : Tables). IsOpened count (unused_frames count) x []) (sym no_process) (record {
      count_is = size;
      room = refl;
      filled = record {
        home = All-replicate IsSome count (Some zero_page) refl;
        within = omega arith;
        sized = refl;
        taken = All-nil IsOwnedBySome;
        bytes_are = joined-unused count ∙ ap (λ n. replicate (4096 * n) 0) (sym size ∙ omega arith);
        owners_are = ap (λ n. replicate n Free) (sym size ∙ omega arith);
        uses_are = ap (λ n. replicate n 0) (sym size ∙ omega arith);
        unmarked = refl;
      };
      processes = refl;
      threads = refl;
    }))

-- the next of the images fits where all do
pub next_fits : (count : ℕ) (s : Store) (t : Tables) (images : List Image) (i : ℕ) (image : Image)
    → IsOpened count s t (take i images) → i < length images → image ≡ get_or images i image
    → length images ≤ 8 → needed images ≤ count
    → FitsMore s t image
next_fits count s t images i image o lt is few fits = record {
  count = count;
  images = take i images;
  opened = o;
  few = omega (arith, length-take i images);
  fits = omega (arith, sum_by_more_le page_count images i image lt, ap page_count is);
}

pub images_more : (images : List Image) (i : ℕ) (image : Image) → i < length images
    → image ≡ get_or images i image → take i images ++ image ∷ [] ≡ take (i + 1) images
images_more images i image lt is = ap (λ x. take i images ++ x ∷ []) is
    ∙ sym (take_more images i image lt)
