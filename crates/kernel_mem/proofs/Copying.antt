-- The bytes of a stretch of a page, read and written once its frame is granted.
use Rattle.std.proofs.Common.{◌≡◌, ℕ, zero, suc, ◌+◌, ◌*◌, ◌/◌, ◌%◌, ◌<◌, ◌≤◌, true, false, List}
use Rattle.std.proofs.Common.{[], ◌∷◌, ◌++◌, length, get_or, take, drop, Some, refl, sym, ap, ◌∙◌}
use Rattle.std.proofs.Common.{subst, arith}
use Rattle.std.specs.Prelude.{slice_get}
use Rattle.std.proofs.Math.Seq.{drop-cons}
use Rattle.dos_world.specs.declared.Entry.{Entry}
use Rattle.dos_world.specs.declared.Access.TheVariants.{Load, Store}
use Rattle.dos_world.specs.World.{World, entry_at, owner_of}
use Rattle.dos_world.specs.Reach.{has_right, is_foreign, loaded, stored, written, number_of}
use Rattle.dos_world.specs.Kernel.{opened, place_of, copied_in, copied_out}
use Rattle.dos_world.specs.Copying.{byte_stored}
use Rattle.proc_table.specs.Tables.{Tables}
use Rattle.page_store.specs.Store.{Store as Held, whole, with_home}
use Rattle.page_store.proofs.Joined.{joined-stretch, joined-written, length-joined}
use Rattle.kernel_mem.specs.MemoryWorld.{HasFrame, in_world, HasAllHome, with_open}
use Rattle.kernel_mem.proofs.Reaching.{entry_same, opened_here, place_here, stored_here, IsOpen}
use Rattle.kernel_mem.proofs.Reaching.{is_open, opened-pages}

-- ---- what a stretch holds

-- bytes before those that are left
abbrev pub prefixed : List ℕ → World × List ℕ → World × List ℕ
prefixed front r = (r.0, front ++ r.1)

-- first some of the bytes, and then the others
pub read_split : (w v : World) (t a n b m k : ℕ) (front : List ℕ) → copied_in w t a n ≡ (v, front)
    → b ≡ a + n → k ≡ n + m → copied_in w t a k ≡ prefixed front (copied_in v t b m)
read_split w v t a n b m k front h e q =
    ap (copied_in w t a) q ∙ walk w n a b e
    ∙ ap (λ (r : World × List ℕ). prefixed r.1 (copied_in r.0 t b m)) h
  where
    walk : (w : World) (n a b : ℕ) → b ≡ a + n
        → copied_in w t a (n + m)
        ≡ prefixed (copied_in w t a n).1 (copied_in (copied_in w t a n).0 t b m)
    walk w zero a b e =
        let same : a ≡ b = omega arith in
        let none : 0 + m ≡ m = omega arith in
        ap (copied_in w t a) none ∙ ap (λ x. copied_in w t x m) same
    walk w (suc n) a b e =
        let more : suc n + m ≡ suc (n + m) = omega arith in
        let ow : World = opened w t a Load in
        ap (copied_in w t a) more
        ∙ ap (λ r. prefixed (loaded ow (place_of ow t a Load) 1 ∷ []) r)
        (walk ow n (suc a) b (omega arith))

-- a page that is opened first is opened no more
pub read_opened : (w v : World) (t a n : ℕ) → 0 < n → opened w t a Load ≡ v → opened v t a Load ≡ v
    → copied_in w t a n ≡ copied_in v t a n
read_opened w v t a zero some e f = absurd (omega arith)
read_opened w v t a (suc n) some e f = ap step e ∙ sym (ap step f)
  where
    step : World → World × List ℕ
    step ow = prefixed (loaded ow (place_of ow t a Load) 1 ∷ []) (copied_in ow t (suc a) n)

byte_loaded : (bytes : List ℕ) (k : ℕ) → number_of (take 1 (drop k bytes)) ≡ get_or bytes k 0
byte_loaded [] zero = refl
byte_loaded [] (suc k) = refl
byte_loaded (b ∷ bytes) zero = omega arith
byte_loaded (b ∷ bytes) (suc k) = byte_loaded bytes k

-- where a frame isn't foreign, the bytes are read as they stand
read_own : (w : World) (t a n k : ℕ) (e : Entry) → is_foreign t Load (owner_of w e.frame) ≡ false
    → ((i : ℕ) → i < n → entry_at w t (a + i) ≡ Some e)
    → ((i : ℕ) → i < n → 4096 * e.frame + (a + i) % 4096 ≡ k + i) → k + n ≤ length w.bytes
    → copied_in w t a n ≡ (w, take n (drop k w.bytes))
read_own w t a zero k e own mapped places within = refl
read_own w t a (suc n) k e own mapped places within =
    let here : entry_at w t a ≡ Some e =
    subst (λ x. entry_at w t x ≡ Some e) {x = a + 0} (omega arith) (mapped 0 (omega arith)) in
    let first : 4096 * e.frame + a % 4096 ≡ k =
    subst (λ x. 4096 * e.frame + x % 4096 ≡ k) {x = a + 0} (omega arith)
    (places 0 (omega arith) ∙ omega arith) in
    ap (λ (ow : World). prefixed (loaded ow (place_of ow t a Load) 1 ∷ [])
    (copied_in ow t (suc a) n)) (opened_here w t a Load e false here refl own)
    ∙ ap (λ r. prefixed (loaded w (place_of w t a Load) 1 ∷ []) r)
    (read_own w t (suc a) n (suc k) e own
    (λ i l. subst (λ x. entry_at w t x ≡ Some e) {x = a + suc i} (omega arith)
    (mapped (suc i) (omega arith)))
    (λ i l. subst (λ x. 4096 * e.frame + x % 4096 ≡ suc k + i) {x = a + suc i} (omega arith)
    (places (suc i) (omega arith) ∙ omega arith)) (omega arith))
    ∙ ap (λ p. prefixed (loaded w p 1 ∷ []) (w, take n (drop (suc k) w.bytes)))
    (place_here w t a Load e here refl own ∙ first)
    ∙ ap (λ b. prefixed (b ∷ []) (w, take n (drop (suc k) w.bytes))) (byte_loaded w.bytes k)
    ∙ ap (λ (xs : List ℕ). pair (take (suc n) xs)) (sym (drop-cons w.bytes k 0 (omega arith)))
  where
    pair : List ℕ → World × List ℕ
    pair xs = (w, xs)

-- a stretch of a page
read_page : (w : World) (t a n k : ℕ) (e : Entry) → entry_at w t a ≡ Some e
    → is_foreign t Load (owner_of w e.frame) ≡ false → a % 4096 + n ≤ 4096
    → k ≡ 4096 * e.frame + a % 4096 → 4096 * e.frame + 4096 ≤ length w.bytes
    → copied_in w t a n ≡ (w, take n (drop k w.bytes))
read_page w t a n k e here own within place bytes =
    read_own w t a n k e own
    (λ i l. let same : (a + i) / 4096 ≡ a / 4096 = omega arith in
    entry_same w t (a + i) a same ∙ here)
    (λ i l. omega arith)
    (omega arith)

-- a stretch of a page, read from the page once its frame is granted
pub stretch_read : (w : World) {s u : Held} {T : Tables} {t a : ℕ} (n : ℕ) {frame : ℕ}
    {page part : List ℕ} → HasFrame T s t a Load frame → HasAllHome s → u ≡ with_open s frame t Load
    → 0 < n → a % 4096 + n ≤ 4096 → slice_get u.pages frame ≡ Some (Some page)
    → part ≡ take n (drop (a % 4096) (whole page))
    → copied_in (in_world w s T) t a n ≡ (in_world w u T, part)
stretch_read w {s} {u} {T} {t} {a} n {frame} {page} {part} has homes is some within home bytes =
    let v : Held = with_open s frame t Load in
    let open_now : IsOpen w s v T t a Load has.entry = is_open w s T t a Load frame has in
    let here : slice_get v.pages frame ≡ Some (Some page) =
    ap (λ (x : Held). slice_get x.pages frame) (sym is) ∙ home in
    read_opened (in_world w s T) (in_world w v T) t a n some open_now.first open_now.again
    ∙ read_page (in_world w v T) t a n
    (4096 * frame + a % 4096) has.entry has.found open_now.own within
    (omega (arith, has.frame_is))
    (omega (
      arith,
      has.frame_is,
      has.within,
      homes.owners,
      length-joined v.pages,
      ap length (opened-pages s frame t Load),
    ))
    ∙ ap (with_part v) (joined-stretch v.pages frame (a % 4096) n (4096 * frame + a % 4096)
    (Some page) here within refl ∙ sym bytes)
    ∙ ap (λ (x : Held). with_part x part) (sym is)
  where
    with_part : Held → List ℕ → World × List ℕ
    with_part x xs = (in_world w x T, xs)

-- ---- what is written to a stretch

-- first some of the bytes, and then the others
pub written_split : (w v : World) (t a b : ℕ) (xs ys : List ℕ) → copied_out w t a xs ≡ v
    → b ≡ a + length xs → copied_out w t a (xs ++ ys) ≡ copied_out v t b ys
written_split w v t a b xs ys h e = walk w a b xs e ∙ ap (λ (x : World). copied_out x t b ys) h
  where
    walk : (w : World) (a b : ℕ) (xs : List ℕ) → b ≡ a + length xs
        → copied_out w t a (xs ++ ys) ≡ copied_out (copied_out w t a xs) t b ys
    walk w a b [] e = let same : a ≡ b = omega arith in ap (λ x. copied_out w t x ys) same
    walk w a b (x ∷ xs) e = let ow : World = opened w t a Store in
        walk (byte_stored ow t a x) (suc a) b xs (omega arith)

-- a page that is opened first is opened no more
written_opened : (w v : World) (t a : ℕ) (bytes : List ℕ) → 0 < length bytes
    → opened w t a Store ≡ v → opened v t a Store ≡ v
    → copied_out w t a bytes ≡ copied_out v t a bytes
written_opened w v t a [] some e f = absurd (omega arith)
written_opened w v t a (b ∷ bytes) some e f = ap step e ∙ sym (ap step f)
  where
    step : World → World
    step ow = copied_out (byte_stored ow t a b) t (suc a) bytes

-- where a frame isn't foreign, the bytes are written where they stand
written_own : (w : World) (t a k : ℕ) (bytes : List ℕ) (e : Entry) → has_right Store e ≡ true
    → is_foreign t Store (owner_of w e.frame) ≡ false
    → ((i : ℕ) → i < length bytes → entry_at w t (a + i) ≡ Some e)
    → ((i : ℕ) → i < length bytes → 4096 * e.frame + (a + i) % 4096 ≡ k + i)
    → copied_out w t a bytes ≡ stored w k bytes
written_own w t a k [] e right own mapped places = refl
written_own w t a k (b ∷ bytes) e right own mapped places =
    let here : entry_at w t a ≡ Some e =
    subst (λ x. entry_at w t x ≡ Some e) {x = a + 0} (omega arith) (mapped 0 (omega arith)) in
    let first : 4096 * e.frame + a % 4096 ≡ k =
    subst (λ x. 4096 * e.frame + x % 4096 ≡ k) {x = a + 0} (omega arith)
    (places 0 (omega arith) ∙ omega arith) in
    ap (λ (ow : World). copied_out (byte_stored ow t a b) t (suc a) bytes)
    (opened_here w t a Store e false here right own)
    ∙ ap (λ (x : World). copied_out x t (suc a) bytes) (stored_here w t a b e here right own)
    ∙ ap (λ p. copied_out (stored w p (b ∷ [])) t (suc a) bytes) first
    ∙ written_own (stored w k (b ∷ [])) t (suc a) (suc k) bytes e right own
    (λ i l. subst (λ x. entry_at w t x ≡ Some e) {x = a + suc i} (omega arith)
    (mapped (suc i) (omega arith)))
    (λ i l. subst (λ x. 4096 * e.frame + x % 4096 ≡ suc k + i) {x = a + suc i} (omega arith)
    (places (suc i) (omega arith) ∙ omega arith))

-- a stretch of a page
written_page : (w : World) (t a k : ℕ) (bytes : List ℕ) (e : Entry) → entry_at w t a ≡ Some e
    → has_right Store e ≡ true → is_foreign t Store (owner_of w e.frame) ≡ false
    → a % 4096 + length bytes ≤ 4096 → k ≡ 4096 * e.frame + a % 4096
    → copied_out w t a bytes ≡ stored w k bytes
written_page w t a k bytes e here right own within place =
    written_own w t a k bytes e right own
    (λ i l. let same : (a + i) / 4096 ≡ a / 4096 = omega arith in
    entry_same w t (a + i) a same ∙ here)
    (λ i l. omega arith)

-- a stretch of a page, written to the page once its frame is granted
pub stretch_written : (w : World) {s u : Held} {T : Tables} {t a frame : ℕ} {old : List ℕ}
    (page bytes : List ℕ) → HasFrame T s t a Store frame → u ≡ with_open s frame t Store
    → 0 < length bytes → a % 4096 + length bytes ≤ 4096 → slice_get u.pages frame ≡ Some (Some old)
    → whole page ≡ written (whole old) (a % 4096) bytes
    → copied_out (in_world w s T) t a bytes ≡ in_world w (with_home u frame page) T
stretch_written w {s} {u} {T} {t} {a} {frame} {old} page bytes has is some within home wrote =
    let v : Held = with_open s frame t Store in
    let open_now : IsOpen w s v T t a Store has.entry = is_open w s T t a Store frame has in
    let here : slice_get v.pages frame ≡ Some (Some old) =
    ap (λ (x : Held). slice_get x.pages frame) (sym is) ∙ home in
    written_opened (in_world w s T) (in_world w v T) t a bytes some open_now.first open_now.again
    ∙ written_page (in_world w v T) t a
    (4096 * frame + a % 4096) bytes has.entry has.found open_now.right open_now.own within
    (omega (arith, has.frame_is))
    ∙ ap (bytes_in v) (sym
    (joined-written v.pages frame (a % 4096)
    (4096 * frame + a % 4096) old page bytes here wrote within refl))
    ∙ ap (λ (x : Held). in_world w (with_home x frame page) T) (sym is)
  where
    bytes_in : Held → List ℕ → World
    bytes_in x xs = record (in_world w x T) { bytes = xs }
