-- A word put in memory, in the page of its frame and in the one list of bytes; and a part put into
-- a state.
use Rattle.std.proofs.Common.{ℕ, zero, suc, ◌+◌, ◌-◌, ◌*◌, ◌/◌, ◌%◌, ◌<◌, ◌≤◌, ◌≡◌, refl, sym, ap}
use Rattle.std.proofs.Common.{◌∙◌, subst, cond, Bool, true, false, eqb, List, [], ◌∷◌, ◌++◌, length}
use Rattle.std.proofs.Common.{get_or, set, take, drop, length-set, Option, Some, arith}
use Rattle.std.specs.Prelude.{slice_get}
use Rattle.std.proofs.lemmas.List.{set-set, set_comm, set-append_left, set-append_right}
use Rattle.std.proofs.lemmas.List.{length-take, length-drop, take-append-drop, drop-drop}
use Rattle.std.proofs.lemmas.List.{drop_more}
use Rattle.dos_world.specs.Bytes.{bytes_of, written}
use Rattle.dos_world.specs.World.{World, Registers}
use Rattle.dos_world.specs.Lawful.{Lawful}
use Rattle.dos_world.specs.declared.Owner.{Owner}
use Rattle.written_words.specs.declared.Written.{Written}
use Rattle.written_words.specs.Words.{word_put, words_put, written_by}
use Rattle.flat_machine.specs.Buffered.{part, with_part}
use Rattle.dos_laws.specs.Taken.{IsPartIn, IsWordOf}
use Rattle.dos_laws.proofs.LawfulRounds.{lawful-part}
use Rattle.page_store.specs.Store.{Store, joined, shown, whole, with_home}
use Rattle.page_store.proofs.Counts.{owned-within}
use Rattle.page_store.proofs.Joined.{home-at, length-shown}
use Rattle.page_store.proofs.Pages.{length-whole, written-splice}
use Rattle.proc_table.specs.Tables.{Tables, thread_by, ran}
use Rattle.kernel_mem.specs.MemoryWorld.{HasAllHome}
use Rattle.kernel_calls.specs.StateWorld.{IsCounted, IsSound, sent, world_of}
use Rattle.kernel_calls.specs.Committing.{StandsButBytes}
use Rattle.kernel_calls.specs.declared.state.State.{State}
use Rattle.kernel_calls.proofs.Counted.{all_counted, counted_like}

-- ---- bytes that are written, and one of them changed

-- a byte before them
set-before : (bytes : List ℕ) (i place b : ℕ) (new : List ℕ) → i < place
    → set (written bytes place new) i b ≡ written (set bytes i b) place new
set-before bytes i place b [] h = refl
set-before bytes i place b (c ∷ new) h =
    set-before (set bytes place c) i (suc place) b new (omega arith)
    ∙ ap (λ ys. written ys (suc place) new)
    (set_comm bytes place i c b (λ e. omega (arith, e, h)))

-- one of them
set-written : (bytes : List ℕ) (place j b : ℕ) (new : List ℕ) → j < length new
    → written bytes place (set new j b) ≡ set (written bytes place new) (place + j) b
set-written bytes place j b [] h = absurd (omega arith)
set-written bytes place zero b (c ∷ new) h =
    let here : place ≡ place + 0 = omega arith in
    ap (λ ys. written ys (suc place) new) (sym (set-set bytes place c b))
    ∙ sym (set-before (set bytes place c) place (suc place) b new (omega arith))
    ∙ ap (λ i. set (written (set bytes place c) (suc place) new) i b) here
set-written bytes place (suc j) b (c ∷ new) h =
    let next : suc place + j ≡ place + suc j = omega arith in
    set-written (set bytes place c) (suc place) j b new (omega arith)
    ∙ ap (λ i. set (written (set bytes place c) (suc place) new) i b) next

-- ---- the bytes that a mask names

length-bit : (c : Bool) (xs : List ℕ) (i b : ℕ) → length (cond c (set xs i b) xs) ≡ length xs
length-bit true xs i b = length-set xs i b
length-bit false xs i b = refl

-- put among others that are written then, or put where those were written
by-written : (mask : ℕ) (bytes : List ℕ) (place j : ℕ) (old new : List ℕ)
    → j + length new ≤ length old
    → written bytes place (written_by mask old j new)
    ≡ written_by mask (written bytes place old) (place + j) new
by-written mask bytes place j old [] h = refl
by-written mask bytes place j old (b ∷ new) h =
    let next : place + suc j ≡ suc (place + j) = omega arith in
    by-written (mask / 2) bytes place (suc j) (cond (eqb (mask % 2) 1) (set old j b) old) new
    (omega (arith, h, length-bit (eqb (mask % 2) 1) old j b))
    ∙ ap (λ i. written_by (mask / 2)
    (written bytes place (cond (eqb (mask % 2) 1) (set old j b) old)) i new) next
    ∙ ap (λ (ys : List ℕ). written_by (mask / 2) ys (suc (place + j)) new)
    (by_bit (eqb (mask % 2) 1))
  where
    by_bit : (c : Bool) → written bytes place (cond c (set old j b) old)
        ≡ cond c (set (written bytes place old) (place + j) b) (written bytes place old)
    by_bit true = set-written bytes place j b old (omega (arith, h))
    by_bit false = refl

-- what stands there, written again, changes nothing
written-same : (bytes : List ℕ) (place n : ℕ) → place + n ≤ length bytes
    → written bytes place (take n (drop place bytes)) ≡ bytes
written-same bytes place n h =
    let size : length (take n (drop place bytes)) ≡ n =
    omega (arith, length-take n (drop place bytes), length-drop place bytes, h) in
    written-splice bytes place (take n (drop place bytes)) (omega (arith, size, h))
    ∙ ap (λ k. take place bytes ++ (take n (drop place bytes) ++ drop (place + k) bytes)) size
    ∙ ap (λ ys. take place bytes ++ (take n (drop place bytes) ++ ys))
    (sym (drop-drop n place bytes))
    ∙ ap (λ ys. take place bytes ++ ys) (take-append-drop n (drop place bytes))
    ∙ take-append-drop place bytes

-- those that stand there with the new ones put among them, and written
put-over : (mask : ℕ) (bytes : List ℕ) (place n : ℕ) (old new put : List ℕ)
    → place + n ≤ length bytes → length new ≤ n → old ≡ take n (drop place bytes)
    → put ≡ written_by mask old 0 new
    → written bytes place put ≡ written_by mask bytes place new
put-over mask bytes place n old new put h few is made =
    let none : place + 0 ≡ place = omega arith in
    let size : length old ≡ n = ap length is
    ∙ omega (arith, length-take n (drop place bytes), length-drop place bytes, h) in
    ap (λ ys. written bytes place ys) made
    ∙ by-written mask bytes place 0 old new (omega (arith, size, few))
    ∙ ap (λ (ys : List ℕ). written_by mask (written bytes place ys) (place + 0) new) is
    ∙ ap (λ (ys : List ℕ). written_by mask ys (place + 0) new) (written-same bytes place n h)
    ∙ ap (λ i. written_by mask bytes i new) none

-- ---- four bytes of a page

take-more : (xs : List ℕ) (o n k : ℕ) → o < length xs → n ≡ o + 1
    → take (suc k) (drop o xs) ≡ get_or xs o 0 ∷ take k (drop n xs)
take-more xs o n k h e = ap (take (suc k)) (drop_more xs o 0 h)
    ∙ ap (λ m. get_or xs o 0 ∷ take k (drop m xs)) (sym e)

four-at : (xs : List ℕ) (o : ℕ) → o + 4 ≤ length xs
    → get_or xs o 0 ∷ get_or xs (o + 1) 0 ∷ get_or xs (o + 2) 0 ∷ get_or xs (o + 3) 0 ∷ []
    ≡ take 4 (drop o xs)
four-at xs o h = sym (take-more xs o (o + 1) 3 (omega arith) refl
    ∙ ap (λ ys. get_or xs o 0 ∷ ys) (take-more xs (o + 1) (o + 2) 2 (omega arith) (omega arith))
    ∙ ap (λ ys. get_or xs o 0 ∷ get_or xs (o + 1) 0 ∷ ys)
    (take-more xs (o + 2) (o + 3) 1 (omega arith) (omega arith))
    ∙ ap (λ ys. get_or xs o 0 ∷ get_or xs (o + 1) 0 ∷ get_or xs (o + 2) 0 ∷ ys)
    (take-more xs (o + 3) (o + 4) 0 (omega arith) (omega arith)))

-- four bytes of a page with those of a word put among them, and written
pub word-written : (mask o value : ℕ) (page new shown_bytes put : List ℕ) → o + 4 ≤ 4096
    → shown_bytes ≡ whole page
    → put ≡ written_by mask (get_or shown_bytes o 0 ∷ get_or shown_bytes (o + 1) 0
    ∷ get_or shown_bytes (o + 2) 0 ∷ get_or shown_bytes (o + 3) 0 ∷ []) 0 (bytes_of 4 value)
    → whole new ≡ written (whole page) o put
    → whole new ≡ written_by mask (whole page) o (bytes_of 4 value)
word-written mask o value page new shown_bytes put h is made wrote =
    let size : length (whole page) ≡ 4096 = length-whole page in
    wrote
    ∙ put-over mask (whole page) o 4 (take 4 (drop o (whole page))) (bytes_of 4 value) put
    (omega (arith, h, size)) (omega arith) refl
    (made ∙ ap (λ (xs : List ℕ). written_by mask (get_or xs o 0 ∷ get_or xs (o + 1) 0
    ∷ get_or xs (o + 2) 0 ∷ get_or xs (o + 3) 0 ∷ []) 0 (bytes_of 4 value)) is
    ∙ ap (λ (xs : List ℕ). written_by mask xs 0 (bytes_of 4 value))
    (four-at (whole page) o (omega (arith, h, size))))

-- ---- a page among the others

by-append_left : (mask : ℕ) (xs ys : List ℕ) (o : ℕ) (new : List ℕ) → o + length new ≤ length xs
    → written_by mask (xs ++ ys) o new ≡ written_by mask xs o new ++ ys
by-append_left mask xs ys o [] h = refl
by-append_left mask xs ys o (b ∷ new) h =
    ap (λ (zs : List ℕ). written_by (mask / 2) zs (suc o) new) (by_bit (eqb (mask % 2) 1))
    ∙ by-append_left (mask / 2) (cond (eqb (mask % 2) 1) (set xs o b) xs) ys (suc o) new
    (omega (arith, h, length-bit (eqb (mask % 2) 1) xs o b))
  where
    by_bit : (c : Bool) → cond c (set (xs ++ ys) o b) (xs ++ ys) ≡ cond c (set xs o b) xs ++ ys
    by_bit true = set-append_left xs ys o b (omega (arith, h))
    by_bit false = refl

by-append_right : (mask : ℕ) (xs ys : List ℕ) (n k : ℕ) (new : List ℕ) → length xs ≡ n → n ≤ k
    → written_by mask (xs ++ ys) k new ≡ xs ++ written_by mask ys (k - n) new
by-append_right mask xs ys n k [] e h = refl
by-append_right mask xs ys n k (b ∷ new) e h =
    let next : suc k - n ≡ suc (k - n) = omega arith in
    ap (λ (zs : List ℕ). written_by (mask / 2) zs (suc k) new) (by_bit (eqb (mask % 2) 1))
    ∙ by-append_right (mask / 2) xs (cond (eqb (mask % 2) 1) (set ys (k - n) b) ys) n (suc k) new e
    (omega arith)
    ∙ ap (λ m. xs ++ written_by (mask / 2)
    (cond (eqb (mask % 2) 1) (set ys (k - n) b) ys) m new) next
  where
    by_bit : (c : Bool)
        → cond c (set (xs ++ ys) k b) (xs ++ ys) ≡ xs ++ cond c (set ys (k - n) b) ys
    by_bit true = set-append_right xs ys n k b e h
    by_bit false = refl

-- what is put in a page is put in the one list
joined-by : (ps : List (Option (List ℕ))) (f o k mask : ℕ) (old new bytes : List ℕ)
    → slice_get ps f ≡ Some (Some old) → whole new ≡ written_by mask (whole old) o bytes
    → o + length bytes ≤ 4096 → k ≡ 4096 * f + o
    → joined (set ps f (Some new)) ≡ written_by mask (joined ps) k bytes
unfolding joined
joined-by [] f o k mask old new bytes e w h q = cc
joined-by (x ∷ ps) zero o k mask old new bytes e w h q =
    let is : x ≡ Some old = cc in
    let same : o ≡ k = omega arith in
    ap (λ y. y ++ joined ps) w
    ∙ ap (λ m. written_by mask (whole old) m bytes ++ joined ps) same
    ∙ ap (λ y. written_by mask (shown y) k bytes ++ joined ps) (sym is)
    ∙ sym (by-append_left mask (shown x) (joined ps) k bytes (omega (arith, length-shown x)))
joined-by (x ∷ ps) (suc f) o k mask old new bytes e w h q =
    ap (λ xs. shown x ++ xs)
    (joined-by ps f o (k - 4096) mask old new bytes e w h (omega arith))
    ∙ sym (by-append_right mask (shown x) (joined ps) 4096 k bytes (length-shown x) (omega arith))

-- ---- a word

-- the page of its frame is home
pub word-home : {s : Store} {x : Written} → HasAllHome s → IsWordOf s.owners x
    → (page : List ℕ) × (slice_get s.pages x.frame ≡ Some (Some page))
word-home {s} {x} home is =
    let within = owned-within s.owners x.frame is.owned in
    home-at s.pages x.frame home.home (omega (arith, within, home.owners))

-- it fits into that page
word-fits : {owners : List Owner} {x : Written} → IsWordOf owners x → x.offset + 4 ≤ 4096
word-fits {owners} {x} is = omega (arith, is.word.aligned, is.word.within)

pub word-joined : (s : Store) (x : Written) (old new : List ℕ) → IsWordOf s.owners x
    → slice_get s.pages x.frame ≡ Some (Some old)
    → whole new ≡ written_by x.mask (whole old) x.offset (bytes_of 4 x.value)
    → joined (with_home s x.frame new).pages ≡ word_put (joined s.pages) x
word-joined s x old new is here wrote =
    joined-by s.pages x.frame x.offset (4096 * x.frame + x.offset) x.mask old new
    (bytes_of 4 x.value) here wrote (word-fits is) refl

-- ---- a part that is put into a state

module _ (s : State) (table : Tables) (frames : Store) (t budget : ℕ) (r : Registers)
    (words : List Written) (run : table ≡ thread_by (ran r budget) s.table t)
    (stands : StandsButBytes s.frames frames)
    (put : joined frames.pages ≡ words_put (joined s.frames.pages) words) where
  abbrev after : State
  after = record s { table = table; frames = frames }

  pub part-world : (q : ℕ) (o e : List ℕ)
      → with_part (sent o e (world_of q s)) t (part r budget words) ≡ sent o e (world_of q after)
  part-world q o e =
      ap (λ bytes. shows bytes s.frames.owners (thread_by (ran r budget) s.table t)) (sym put)
      ∙ ap (λ owners. shows (joined frames.pages) owners (thread_by (ran r budget) s.table t))
      (sym stands.owners)
      ∙ ap (λ T. shows (joined frames.pages) frames.owners T) (sym run)
    where
      shows : List ℕ → List Owner → Tables → World
      shows bytes owners T = record (sent o e (world_of q s)) {
        bytes = bytes;
        owners = owners;
        processes = T.processes;
        threads = T.threads;
      }

  part-counted : IsCounted s → IsCounted after
  part-counted counted = counted_like s after (record {
    home = stands.home;
    round = refl;
    room = ap (λ (T : Tables). T.room) run;
    frames = ap length stands.owners;
    uses = stands.uses;
    readers = refl;
    writers = refl;
    processes = ap (λ (T : Tables). all_counted T.processes) run;
  }) counted

  pub part-sound : IsPartIn s.frames.owners (part r budget words) → IsSound s → IsSound after
  part-sound is sound = record {
    counted = part-counted sound.counted;
    lawful = λ q low high. subst Lawful (part-world q [] [])
        (lawful-part (world_of q s) t (part r budget words) is (sound.lawful q low high));
  }
