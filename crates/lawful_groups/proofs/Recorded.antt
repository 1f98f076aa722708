-- What is saved of a lawful world has a text, and stands for that world.
use Rattle.std.proofs.Common.{◌≡◌, ℕ, zero, suc, ◌+◌, ◌*◌, ◌<◌, ◌≤◌}
use Rattle.std.proofs.Common.{List, [], ◌∷◌, ◌++◌, length, map, drop, get_or, slice_get}
use Rattle.std.proofs.Common.{refl, sym, ap, subst, ◌∙◌, arith, Option, Some, None, replicate}
use Rattle.std.specs.Prelude.{All, IfSome, IsTrue, is_some, option_and_then, slice_index}
use Rattle.std.specs.Prelude.{slice_index_or, flat_map}
use Rattle.std.proofs.lemmas.Option.{slice_get_within}
use Rattle.std.proofs.lemmas.List.{length-take-le, length-drop, get_or-take, get_or-drop, drop-drop}
use Rattle.std.proofs.lemmas.List.{take-append-drop, nil_from_length}
use Rattle.std.proofs.lemmas.List.Concat.{flat_map-cons}
use Rattle.std.proofs.lemmas.List.Elements.{All-nil, All-cons}
use Rattle.dos_world.specs.Numbered.{numbered, map_from, places_from}
use Rattle.dos_world.specs.World.{World, Process, Thread, Sleeper, flat, holdings_of, thread_at}
use Rattle.dos_world.specs.World.{page_of}
use Rattle.dos_world.specs.Lawful.{IsWord, IsThread, IsPipe}
use Rattle.dos_world.specs.Lawful.{turns_asleep}
use Rattle.dos_world.specs.declared.Config.{Config}
use Rattle.dos_world.specs.declared.Scheme.{Scheme}
use Rattle.dos_world.specs.declared.Owner.{Owner}
use Rattle.dos_world.specs.declared.Owner.TheVariants.{Free, Shared, Of}
use Rattle.proc_table.specs.Spread.{living_from, spread}
use Rattle.proc_table.proofs.Spread.{living_rises, rising_wider, spread_living}
use Rattle.text_fields.specs.Formats.{many}
use Rattle.group_text.specs.Groups.{frame_in, group_of, page_in, world_in}
use Rattle.group_text.specs.GroupText as row
use Rattle.lawful_groups.specs.Recording.{IsRecordable, RecordsFit, WorldsComeBack}
use Rattle.lawful_groups.proofs.FitsLaws.{ThreadFits, all_many, within, threads_fit, processes_fit}
use Rattle.lawful_groups.proofs.FitsLaws.{pipe_fits, sleeper_fits, counted_there, frames_fit}

-- ---- live threads

-- what holds of each live thread with its number holds of all of them
pub living_all : (P : ℕ × Thread → Type 0) (n : ℕ) (threads : List (Option Thread))
    → ((i : ℕ) → IfSome (flat (slice_get threads i)) (λ thread. P (n + i, thread)))
    → All P (living_from n threads)
living_all P n [] each = All-nil P
living_all P n (None ∷ threads) each =
    living_all P (suc n) threads (λ i. moved P n i (flat (slice_get threads i)) (each (suc i)))
  where
    moved : (P : ℕ × Thread → Type 0) (n i : ℕ) (o : Option Thread)
        → IfSome o (λ thread. P (n + suc i, thread)) → IfSome o (λ thread. P (suc n + i, thread))
    moved P n i o h = subst (λ m. IfSome o (λ thread. P (m, thread))) {x = n + suc i}
        (omega arith) h
living_all P n (Some thread ∷ threads) each =
    All-cons P (n, thread) (living_from (suc n) threads)
    (subst (λ m. P (m, thread)) {x = n + 0} (omega arith) (each 0))
    (living_all P (suc n) threads (λ i. moved P n i (flat (slice_get threads i)) (each (suc i))))
  where
    moved : (P : ℕ × Thread → Type 0) (n i : ℕ) (o : Option Thread)
        → IfSome o (λ thread. P (n + suc i, thread)) → IfSome o (λ thread. P (suc n + i, thread))
    moved P n i o h = subst (λ m. IfSome o (λ thread. P (m, thread))) {x = n + suc i}
        (omega arith) h

pub living_length : (n : ℕ) (threads : List (Option Thread))
    → length (living_from n threads) ≡ length (places_from n is_some threads)
living_length n [] = refl
living_length n (None ∷ threads) = living_length (suc n) threads
living_length n (Some thread ∷ threads) = ap (λ k. suc k) (living_length (suc n) threads)

-- ---- numbers that were given

given_process : (ps : List Process) (p : ℕ)
    → IsTrue (is_some (option_and_then holdings_of (numbered ps p))) → (1 ≤ p) × (p ≤ length ps)
given_process ps zero h = cc
given_process ps (suc i) h = by (slice_get ps i) refl h
  where
    by : (o : Option Process) → slice_get ps i ≡ o
        → IsTrue (is_some (option_and_then holdings_of o)) → (1 ≤ suc i) × (suc i ≤ length ps)
    by None e h = cc
    by (Some q) e h = (omega arith, omega (arith, slice_get_within ps i q e))

given_thread : (threads : List (Option Thread)) (t : ℕ)
    → 1 ≤ turns_asleep (flat (numbered threads t)) → (1 ≤ t) × (t ≤ length threads)
given_thread threads zero h = absurd (omega arith)
given_thread threads (suc i) h = by (slice_get threads i) refl h
  where
    by : (o : Option (Option Thread)) → slice_get threads i ≡ o → 1 ≤ turns_asleep (flat o)
        → (1 ≤ suc i) × (suc i ≤ length threads)
    by None e h = absurd (omega arith)
    by (Some q) e h = (omega arith, omega (arith, slice_get_within threads i q e))

-- ---- all of it

module _ (digest : List ℕ) (used : ℕ) (config : Config) (w : World)
    (is : IsRecordable digest used config w) where
  few_threads : length w.threads ≤ 65535
  few_threads = is.lawful.limits.threads.1

  few_processes : length w.processes ≤ 65535
  few_processes = omega (arith, is.lawful.processes.given.1, few_threads)

  some_threads : 1 ≤ length w.threads
  some_threads = omega (arith, is.lawful.processes.given.0, is.lawful.processes.given.1)

  few_frames : length w.owners ≤ 16384
  few_frames = is.lawful.limits.frames.1

  thread_known : (t : ℕ)
      → IfSome (thread_at w t) (λ thread. ThreadFits (length w.processes) (t, thread))
  thread_known t = by (thread_at w t) (is.lawful.threads.ranges t) (is.budgets t)
    where
      by : (o : Option Thread) → IfSome o (IsThread w.processes)
          → IfSome o (λ thread. IsWord thread.budget)
          → IfSome o (λ thread. ThreadFits (length w.processes) (t, thread))
      by None range budget = tt
      by (Some thread) range budget = record {
        process = given_process w.processes thread.process range.process;
        registers = range.registers;
        budget = budget;
        pending = range.pending;
        mask = range.mask;
        saved = range.saved;
      }

  threads_known : All (ThreadFits (length w.processes)) (living_from 1 w.threads)
  threads_known = living_all (ThreadFits (length w.processes)) 1 w.threads
      (λ i. subst (λ n. IfSome (flat (slice_get w.threads i))
      (λ thread. ThreadFits (length w.processes) (n, thread))) {x = suc i} (omega arith)
      (thread_known (suc i)))

  few_living : length (living_from 1 w.threads) ≤ 64
  few_living = omega (arith, living_length 1 w.threads, is.lawful.limits.threads.0)

  sleeper_known : All (λ s. (row.sleeper_row (length w.threads) (length w.owners)).Fits s)
      w.sleepers
  sleeper_known k d lt =
      let s : Sleeper = get_or w.sleepers k d in
      let turns : 1 ≤ turns_asleep (thread_at w s.thread) =
      omega (
        arith,
        is.lawful.threads.asleep s.thread,
        counted_there s.thread w.sleepers k d lt refl,
      ) in
      sleeper_fits (length w.threads) (length w.owners) s few_threads few_frames
      (is.lawful.threads.sleepers k d lt) (given_thread w.threads s.thread turns)

  pub recorded_fits : row.group_row.Fits (group_of digest used config w)
  recorded_fits = (
    (
      (
        (
          (is.digest_count, is.digest_bytes),
          (
            (is.few_used, refl),
            (
              (
                (
                  (
                    omega (arith, is.config_range.quantum.1),
                    within 16 65536 config.quantum is.config_range.quantum.0
                        is.config_range.quantum.1,
                  ),
                  (
                    (
                      omega (arith, is.config_range.rounds.1),
                      within 1 1000000 config.rounds is.config_range.rounds.0
                          is.config_range.rounds.1,
                    ),
                    (
                      omega (arith, is.config_range.frames.1),
                      within 16 16384 config.frames is.config_range.frames.0
                          is.config_range.frames.1,
                    ),
                  ),
                ),
                ap (λ (s : Scheme). record config { scheme = s }) (sym is.scheme),
              ),
              (
                (
                  omega (arith, is.rounds, is.config_range.rounds.1),
                  within 0 config.rounds w.rounds (omega arith) is.rounds,
                ),
                (
                  (
                    omega (arith, few_threads),
                    within 1 65535 (length w.threads) some_threads few_threads,
                  ),
                  (
                    omega (arith, few_processes),
                    within 1 65535 (length w.processes) is.lawful.processes.given.0 few_processes,
                  ),
                ),
              ),
            ),
          ),
        ),
        refl,
      ),
      (
        subst (λ n. (many (length w.processes) (row.process_row n (length w.processes))).Fits
            w.processes) is.frames
            (processes_fit (length w.owners) (length w.processes) few_frames few_processes 0
            w.processes (omega arith) parents is.lawful.processes.holdings
            is.lawful.processes.statuses),
        (
          (
            (
              (omega (arith, few_living), within 0 64 _ (omega arith) few_living),
              threads_fit (length w.threads) (length w.processes) 1 (living_from 1 w.threads)
                  few_threads few_processes
                  (rising_wider 1 (1 + length w.threads) 1 (length w.threads + 1)
                  (living_from 1 w.threads) (omega arith) (omega arith) (living_rises 1 w.threads))
                  threads_known,
            ),
            refl,
          ),
          (
            all_many row.pipe_row IsPipe pipe_fits 64 w.pipes is.lawful.pipes.ranges.0
                is.lawful.pipes.ranges.1,
            (
              (
                (
                  (is.sleepers, refl),
                  subst (λ n. (many (length w.sleepers) (row.sleeper_row (length w.threads) n)).Fits
                      w.sleepers) is.frames
                      (all_many (row.sleeper_row (length w.threads) (length w.owners))
                      (λ s. (row.sleeper_row (length w.threads) (length w.owners)).Fits s)
                      (λ s f. f) (length w.sleepers) w.sleepers refl sleeper_known),
                ),
                refl,
              ),
              subst (λ n. (many n (row.frame_row (length w.threads))).Fits
                  (group_of digest used config w).frames) is.frames
                  (frames_fit (length w.threads) w.bytes 0 w.owners few_threads
                  (omega (arith, is.lawful.frames.bytes.0)) is.lawful.frames.bytes.1
                  is.lawful.frames.owned),
            ),
          ),
        ),
      ),
    ),
    refl,
  )
    where
      parents : (i : ℕ) → IfSome (slice_get w.processes i) (λ p. p.parent ≤ 0 + i)
      parents i = by (slice_get w.processes i) (is.lawful.processes.parents (suc i))
        where
          by : (o : Option Process) → IfSome o (λ p. p.parent < suc i)
              → IfSome o (λ p. p.parent ≤ 0 + i)
          by None h = tt
          by (Some p) h = omega (arith, h)

pub records_fit : RecordsFit
records_fit digest used config w is = recorded_fits digest used config w is

-- ---- a world comes back

nothing_but_zeros : (xs : List ℕ) → ((i : ℕ) → i < length xs → get_or xs i 0 ≡ 0)
    → xs ≡ replicate (length xs) 0
nothing_but_zeros [] zeros = refl
nothing_but_zeros (x ∷ xs) zeros =
    ap (λ n. n ∷ xs) (zeros 0 (omega arith))
    ∙ ap (λ ys. 0 ∷ ys) (nothing_but_zeros xs (λ i lt. zeros (suc i) (omega arith)))

module _ (bytes : List ℕ) where
  page_length : (frame : ℕ) → 4096 * (frame + 1) ≤ length bytes
      → length (page_of bytes frame) ≡ 4096
  page_length frame room = length-take-le 4096 (drop (4096 * frame) bytes)
      (omega (arith, length-drop (4096 * frame) bytes))

  zeros_at : (frame : ℕ) → 4096 * (frame + 1) ≤ length bytes
      → ((i : ℕ) → i < 4096 → slice_index bytes (4096 * frame + i) ≡ 0)
      → replicate 4096 0 ≡ page_of bytes frame
  zeros_at frame room zeros =
      sym (nothing_but_zeros (page_of bytes frame)
      (λ i lt. get_or-take 4096 (drop (4096 * frame) bytes) i 0
      (omega (arith, lt, page_length frame room))
      ∙ get_or-drop (4096 * frame) bytes i 0
      ∙ zeros i (omega (arith, lt, page_length frame room)))
      ∙ ap (λ n. replicate n 0) (page_length frame room))

  page_back : (frame : ℕ) (o : Owner) → (o ≡ Free → replicate 4096 0 ≡ page_of bytes frame)
      → page_in (frame_in bytes frame o) ≡ page_of bytes frame
  page_back frame Free empty = empty refl
  page_back frame Shared empty = refl
  page_back frame (Of t) empty = refl

  -- the pages of frames that are zero where they are Free are the bytes from the first on
  pages_back : (frame : ℕ) (owners : List Owner) → 4096 * (frame + length owners) ≡ length bytes
      → ((i : ℕ) → i < length owners → slice_index_or owners i Free ≡ Free
      → replicate 4096 0 ≡ page_of bytes (frame + i))
      → flat_map page_in (map_from frame (frame_in bytes) owners) ≡ drop (4096 * frame) bytes
  pages_back frame [] len zeros =
      sym (nil_from_length (drop (4096 * frame) bytes)
      (omega (arith, length-drop (4096 * frame) bytes)))
  pages_back frame (o ∷ owners) len zeros =
      flat_map-cons page_in (frame_in bytes frame o) (map_from (suc frame) (frame_in bytes) owners)
      ∙ ap (λ xs. xs ++ flat_map page_in (map_from (suc frame) (frame_in bytes) owners))
      (page_back frame o (λ e. subst (λ n. replicate 4096 0 ≡ page_of bytes n) {x = frame + 0}
      (omega arith) (zeros 0 (omega arith) e)))
      ∙ ap (λ xs. page_of bytes frame ++ xs)
      (pages_back (suc frame) owners (omega (arith, len))
      (λ i lt e. subst (λ n. replicate 4096 0 ≡ page_of bytes n) {x = frame + suc i} (omega arith)
      (zeros (suc i) (omega arith) e))
      ∙ ap (λ n. drop n bytes) {x = 4096 * suc frame} {y = 4096 * frame + 4096} (omega arith)
      ∙ sym (drop-drop 4096 (4096 * frame) bytes))
      ∙ take-append-drop 4096 (drop (4096 * frame) bytes)

owners_back : (bytes : List ℕ) (n : ℕ) (owners : List Owner)
    → map (λ f. f.0) (map_from n (frame_in bytes) owners) ≡ owners
owners_back bytes n [] = refl
owners_back bytes n (o ∷ owners) = ap (λ os. o ∷ os) (owners_back bytes (suc n) owners)

pub worlds_come_back : WorldsComeBack
worlds_come_back digest used config w lawful quantum output error =
    let g = group_of digest used config w in
    let bytes : flat_map page_in g.frames ≡ w.bytes =
    pages_back w.bytes 0 w.owners (omega (arith, lawful.frames.bytes.0))
    (λ i lt free. subst (λ n. replicate 4096 0 ≡ page_of w.bytes n) {x = i} (omega arith)
    (zeros_at w.bytes i (omega (arith, lawful.frames.bytes.0))
    (λ j low. lawful.frames.zeros i j free low))) in
    let owners : map (λ f. f.0) g.frames ≡ w.owners = owners_back w.bytes 0 w.owners in
    let threads : spread g.threads g.given ≡ w.threads = spread_living w.threads in
    ap (λ xs. record (world_in g) { bytes = xs }) bytes
    ∙ ap (λ os. record (world_in g) { bytes = w.bytes; owners = os }) owners
    ∙ ap (λ ts. record (world_in g) { bytes = w.bytes; owners = w.owners; threads = ts }) threads
    ∙ ap (λ q. record w { quantum = q; output = []; error = [] }) (sym quantum)
    ∙ ap (λ xs. record w { output = xs; error = [] }) (sym output)
    ∙ ap (λ xs. record w { error = xs }) (sym error)
