-- Packs that were handed out can run, and show the world that they came from.
use Rattle.std.proofs.Common.{ℕ, zero, suc, ◌+◌, ◌*◌, ◌<◌, ◌≡◌, ◌≢◌, inr, refl, sym, ap, ◌∙◌, subst}
use Rattle.std.proofs.Common.{List, [], ◌∷◌, ◌++◌, length, map, take, get_or, Option, Some, None}
use Rattle.std.proofs.Common.{option_map, arith, true, false}
use Rattle.std.specs.Prelude.{slice_get, slice_index_or}
use Rattle.std.proofs.lemmas.List.{length-map}
use Rattle.dos_world.specs.Numbered.{numbered}
use Rattle.dos_world.specs.World.{Thread, Process, Holdings, page_of, look, is_free}
use Rattle.dos_world.specs.declared.Entry.{Entry}
use Rattle.dos_world.specs.declared.Owner.{Owner}
use Rattle.dos_world.specs.declared.Owner.TheVariants.{Free, Shared, Of}
use Rattle.flat_machine.specs.Laws.{kept}
use Rattle.page_store.specs.Store.{Store, whole, shown, joined, owner_at}
use Rattle.page_store.proofs.Joined.{home-at, length-joined, page_of-joined}
use Rattle.page_store.proofs.Counts.{owned-within}
use Rattle.quantum_run.specs.Packs.{bytes_of_frame, empty_pack, space_held, with_thread_of}
use Rattle.quantum_run.specs.Shows.{Pack, Shows, CanRun, CanRunOwning, frames_of, has_words}
use Rattle.proc_table.specs.Tables.{Tables, held_in, thread_in, IsLiveThread}
use Rattle.kernel_calls.specs.StateWorld.{IsSound, sent, world_of}
use Rattle.kernel_calls.specs.declared.state.State.{State}
use Rattle.group_rounds.specs.Handing.{HasBelow, Handing, pack_of, view_of}
use Rattle.group_rounds.specs.Phases.{AreLive}
use Rattle.group_rounds.proofs.ThreadRunLaws.{Seen, seen, mapped, thread_space_is}

pub place-of : {A : Type 0} (xs : List A) (i : ℕ) (x d : A) → slice_get xs i ≡ Some x
    → (i < length xs) × (get_or xs i d ≡ x)
place-of [] i x d h = cc
place-of {A} (y ∷ xs) zero x d h = (omega arith, same h)
  where
    same : ◌≡◌ {A = Option A} (Some y) (Some x) → y ≡ x
    same q = cc
place-of (y ∷ xs) (suc i) x d h = let r = place-of xs i x d h in let low = r.0 in
    (omega (arith, low), r.1)

pub map-at : {A B : Type 0} (f : A → B) (xs : List A) (i : ℕ) (x : A) → slice_get xs i ≡ Some x
    → slice_get (map f xs) i ≡ Some (f x)
map-at f [] i x h = cc
map-at {A} f (y ∷ xs) zero x h = ap (λ o. option_map f o) h
map-at f (y ∷ xs) (suc i) x h = map-at f xs i x h

pub space-shown : (ps : List Process) (p : ℕ) (h : Holdings) → held_in ps p ≡ Some h
    → numbered (map space_held ps) p ≡ Some (Some h.space)
space-shown ps zero h q = cc
space-shown [] (suc i) h q = cc
space-shown (x ∷ ps) (suc zero) h q =
    ap (λ (o : Option Holdings). Some (option_map (λ (y : Holdings). y.space) o)) q
space-shown (x ∷ ps) (suc (suc i)) h q = space-shown ps (suc i) h q

pub frames-at : (pages : List (ℕ × List ℕ)) (j frame : ℕ) (page : List ℕ)
    → slice_get pages j ≡ Some (frame, page) → slice_get (frames_of pages) j ≡ Some frame
frames-at pages j frame page h = map-at (λ x. x.0) pages j (frame, page) h

pub frames-from : (pages : List (ℕ × List ℕ)) (j frame : ℕ)
    → slice_get (frames_of pages) j ≡ Some frame
    → (page : List ℕ) × (slice_get pages j ≡ Some (frame, page))
frames-from [] j frame h = cc
frames-from (x ∷ pages) zero frame h = let same : x.0 ≡ frame = is h in
    (x.1, ap (λ n. Some (n, x.1)) same)
  where
    is : ◌≡◌ {A = Option ℕ} (Some x.0) (Some frame) → x.0 ≡ frame
    is q = cc
frames-from (x ∷ pages) (suc j) frame h = frames-from pages j frame h

pub some-is : {a b : Pack} → ◌≡◌ {A = Option Pack} (Some a) (Some b) → a ≡ b
some-is q = cc

pub of≢shared : (t : ℕ) → Shared ≡ Of t → ⊥
of≢shared t q = cc

of-within : (owners : List Owner) (frame t : ℕ) → slice_index_or owners frame Free ≡ Of t
    → frame < length owners
of-within owners frame t h = owned-within owners frame (ap is_free h)

shared-within : (owners : List Owner) (frame : ℕ) → slice_index_or owners frame Free ≡ Shared
    → frame < length owners
shared-within owners frame h = owned-within owners frame (ap is_free h)

module _ (s : State) (sound : IsSound s) (ts : List ℕ) (live : AreLive s.table.threads ts)
    (new : Store) (packs : List Pack)
    (h : Handing ts (map (pack_of s.table (empty_pack (length s.frames.pages))) ts) s.frames new
    packs
    (length s.frames.pages)) where
  abbrev pub lives : (i t : ℕ) → slice_get ts i ≡ Some t → IsLiveThread s.table.threads t
  lives i t at = let r = place-of ts i t 0 at
      in subst (IsLiveThread s.table.threads) r.1 (live i 0 r.0)

  pub owner-new : (frame : ℕ) → slice_index_or new.owners frame Free ≡ owner_at s.frames frame
  owner-new frame = ap (λ (os : List Owner). slice_index_or os frame Free) h.owners

  pub frame-low : (frame t : ℕ) → owner_at s.frames frame ≡ Of t → frame < length s.frames.pages
  frame-low frame t mine = let low = of-within s.frames.owners frame t mine in let same =
      sound.counted.home.owners in omega (arith, low, same)

  -- the bytes of a frame
  pub bytes-page : (frame : ℕ) → frame < length s.frames.pages
      → bytes_of_frame s.frames.pages frame ≡ page_of (joined s.frames.pages) frame
  bytes-page frame low =
      let x = home-at s.frames.pages frame sound.counted.home.home low in
      ap (λ o. elim o as (λ _. List ℕ) [ None ↦ shown None | Some y ↦ shown y ]) x.1
      ∙ sym (page_of-joined s.frames.pages frame (Some x.0) x.1)

  shared-page : (frame : ℕ) → owner_at s.frames frame ≡ Shared
      → slice_get (map (option_map whole) new.pages) frame
      ≡ Some (Some (page_of (joined s.frames.pages) frame))
  shared-page frame all =
      let low = shared-within s.frames.owners frame all in
      let same = sound.counted.home.owners in
      let x = home-at s.frames.pages frame sound.counted.home.home (omega (arith, low, same)) in
      let here : slice_get new.pages frame ≡ Some (Some x.0) =
      h.home frame (inr (λ place t is. of≢shared t (sym all ∙ is.1))) ∙ x.1 in
      map-at (option_map whole) new.pages frame (Some x.0) here
      ∙ ap (λ page. Some (Some page)) (sym (page_of-joined s.frames.pages frame (Some x.0) x.1))

  module _ (i t : ℕ) (p : Pack) (at : slice_get ts i ≡ Some t)
      (here : slice_get packs i ≡ Some p) where
    abbrev found : Seen s t
    found = seen s t sound (lives i t at)

    pub below : HasBelow t s.frames (length s.frames.pages)
        (pack_of s.table (empty_pack (length s.frames.pages)) t) p
    below =
        let has = h.each i t p at here in
        subst (λ (b : Pack). HasBelow t s.frames (length s.frames.pages) b p)
        (some-is (sym has.1 ∙ map-at (pack_of s.table (empty_pack (length s.frames.pages))) ts i t
        at))
        has.2

    abbrev opened : Pack
    opened = record {
      thread = t;
      process = found.thread.process;
      registers =
          found.thread.registers;
      budget = found.thread.budget;
      pages = p.pages;
      room =
          length s.frames.pages;
      words = None;
    }

    pub opened-is : p ≡ opened
    opened-is =
        below.is ∙ ap (λ (b : Pack). record b { pages = p.pages })
        (ap (λ o. elim o as (λ _. Pack) [
          | None ↦ empty_pack (length s.frames.pages)
          | Some x ↦
              with_thread_of
              (empty_pack (length s.frames.pages)) t x.process x.registers x.budget
        ]) found.is)

    -- it has no words
    pub no-words : has_words p ≡ false
    no-words = ap has_words opened-is

    not-free : (e : Entry) (page : ℕ) → look found.holdings.space page ≡ Some e
        → owner_at s.frames e.frame ≢ Free
    not-free e page has free = let taken =
        (mapped s t sound (lives i t at) found.holdings.space refl page e has).1 in let q =
        ap is_free free in grind (arith, taken, q)

    owning : CanRunOwning opened (view_of new s.table)
    owning = record {
      entries = found.holdings.space;
      space = space-shown s.table.processes found.thread.process found.holdings found.has;
      mapped = λ page e has. (
        subst (λ (os : List Owner). e.frame < length os) (sym h.owners)
            (owned-within s.frames.owners e.frame
            (mapped s t sound (lives i t at) found.holdings.space refl page e has).1),
        λ free. not-free e page has (sym (owner-new e.frame) ∙ free),
      );
      own = λ frame mine. let mine' = sym (owner-new frame) ∙ mine in let r =
          below.all frame (frame-low frame t mine') mine' in
          (r.0, frames-at p.pages r.0 frame _ r.1);
      owned = λ j frame has. let r = frames-from p.pages j frame has in
          owner-new frame ∙ (below.owner j frame r.0 r.1).0;
      shared = λ frame all. (_, shared-page frame (sym (owner-new frame) ∙ all));
      level = sym (length-map new.pages (option_map whole) ∙ h.count);
    }

    pub can-run : CanRun p (view_of new s.table)
    can-run = record {
      owning = λ none. subst (λ (x : Pack). CanRunOwning x (view_of new s.table)) (sym opened-is)
          owning;
      writing = λ some. absurd (never (sym no-words ∙ some));
    }
      where
        never : false ≡ true → ⊥
        never q = cc

    pub shows-it : (q : ℕ) (o e : List ℕ) → Shows p (view_of new s.table) (sent o e (world_of q s))
    shows-it q o e = subst (λ (x : Pack). Shows x (view_of new s.table) (sent o e (world_of q s)))
        (sym opened-is) (record {
          owners = h.owners;
          thread = ap (option_map kept) found.is;
          space = space-shown s.table.processes found.thread.process found.holdings found.has
              ∙ ap (λ x. Some (Some x)) (sym (thread_space_is s t sound (lives i t at) q o e));
          count = length-joined s.frames.pages ∙ ap (λ n. 4096 * n) (sym sound.counted.home.owners);
          mapped = λ page entry has.
              not-free entry page
              (ap (λ x. look x page) (sym (thread_space_is s t sound (lives i t at) q o e)) ∙ has);
          shared = shared-page;
          own = record {
            owner = λ j frame page has. (below.owner j frame page has).0;
            bytes = λ j frame page has. let r = below.owner j frame page has in
                r.2 ∙ bytes-page frame r.1;
            all = λ frame mine. let low = frame-low frame t mine in let r =
                below.all frame low mine in
                (r.0, r.1 ∙ ap (λ x. Some (frame, x)) (bytes-page frame low));
            apart = λ j k frame a b x y. below.apart j k frame a b x y;
          };
        })

-- ---- the packs before their pages come

pub take-more : (xs : List ℕ) (i : ℕ) → i < length xs
    → take (i + 1) xs ≡ take i xs ++ get_or xs i 0 ∷ []
take-more [] i h = absurd (omega arith)
take-more (x ∷ xs) zero h = refl
take-more (x ∷ xs) (suc i) h = let e : suc i + 1 ≡ suc (i + 1) = omega arith in
    ap (λ n. take n (x ∷ xs)) e ∙ ap (λ ys. x ∷ ys) (take-more xs i (omega arith))

pub map-more : {A B : Type 0} (f : A → B) (xs : List A) (x : A)
    → map f (xs ++ x ∷ []) ≡ map f xs ++ f x ∷ []
map-more f [] x = refl
map-more f (y ∷ xs) x = ap (λ ys. f y ∷ ys) (map-more f xs x)

pub pack_of-begun : (table : Tables) (n : ℕ) (xs : List ℕ) (i : ℕ) (p : Pack)
    → slice_get (map (pack_of table (empty_pack n)) xs) i ≡ Some p → (p.pages ≡ []) × (p.room ≡ n)
pack_of-begun table n [] i p h = cc
pack_of-begun table n (x ∷ xs) zero p h =
    subst (λ (q : Pack). (q.pages ≡ []) × (q.room ≡ n)) (some-is h) (by (thread_in table.threads x))
  where
    by : (o : Option Thread)
        → ((elim o as (λ _. Pack) [
          | None ↦ empty_pack n
          | Some y ↦
              with_thread_of (empty_pack n) x y.process y.registers y.budget
        ]).pages ≡ [])
        × ((elim o as (λ _. Pack) [
          | None ↦ empty_pack n
          | Some y ↦
              with_thread_of (empty_pack n) x y.process y.registers y.budget
        ]).room ≡ n)
    by None = (refl, refl)
    by (Some y) = (refl, refl)
pack_of-begun table n (x ∷ xs) (suc i) p h = pack_of-begun table n xs i p h
