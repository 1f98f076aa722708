-- Whole streams of bytes.
use Rattle.std.proofs.Common.{◌≡◌, ◌+◌, ◌*◌, ◌/◌, ◌%◌, ◌<◌, ◌≤◌, ℕ, List, [], ◌∷◌, ◌++◌, length}
use Rattle.std.proofs.Common.{Bool, true}
use Rattle.std.proofs.Common.{false, cond, arith, refl, ap, sym, ◌∙◌, append_assoc, append-nil, sum}
use Rattle.std.proofs.Common.{zero-add}
use Rattle.std.proofs.Common.{length-append}
use Rattle.std.proofs.Common.{Some}
use Rattle.std.proofs.lemmas.Bool.{le-leb, leb-true, leb-false, eq-eqb}
use Rattle.std.proofs.lemmas.List.Sums.{sum_by-cons}
use Rattle.std.proofs.Math.Dec.{leb}
use Rattle.gdb_packets.specs.Hexadecimal.{nibble_of, byte_digits, nibble_text}
use Rattle.gdb_packets.specs.Framing.{Framing, packet_limit, checksum, is_checked, told_event}
use Rattle.gdb_packets.specs.Framing.{framing_behind, framing_step, events_from, outside_with}
use Rattle.gdb_packets.specs.Framing.{kept_bytes, packet_then, with_body_byte}
use Rattle.gdb_packets.specs.ReadBack.{AreBodyBytes}
use Rattle.gdb_packets.specs.Streams.{PacketsAreTold, LongPacketsAreTold, FramesAreReadBack}
use Rattle.gdb_packets.specs.Streams.{BytesBetweenAreNone, UnendedPacketsAreNone, PiecesAreOne}
use Rattle.gdb_packets.specs.declared.framing.Place.TheVariants.{Inside}
use Rattle.gdb_packets.specs.declared.framing.Event.TheVariants.{Packet, TooLong}
use Rattle.gdb_packets.proofs.ReadBackLaws.{nibble_again}

-- ---- pieces

pub pieces_are_one : PiecesAreOne
pieces_are_one f [] ys = refl
pieces_are_one f (x ∷ xs) ys =
    ap (λ v. told_event (framing_step f x).1 (framing_step f x).0.body ++ v)
    (pieces_are_one (framing_step f x).0 xs ys)
    ∙ sym (append_assoc (told_event (framing_step f x).1 (framing_step f x).0.body)
    (events_from (framing_step f x).0 xs) (events_from (framing_behind (framing_step f x).0 xs) ys))

-- ---- bytes between packets

pub bytes_between : BytesBetweenAreNone
bytes_between [] rest before running h = refl
bytes_between (b ∷ bs) rest before running h =
    rw (h.0.0, h.0.1) (bytes_between bs rest before running h.1)

-- ---- within a packet

abbrev inside_with : List ℕ → ℕ → Framing
inside_with body running = record { place = Inside; body = body; running = running }

-- the sum so far, byte by byte
abbrev running_behind : ℕ → List ℕ → ℕ
running_behind r [] = r
running_behind r (b ∷ bs) = running_behind ((r + b) % 256) bs

sum_on : (r b s : ℕ) → ((r + b) % 256 + s) % 256 ≡ (r + (b + s)) % 256
sum_on r b s = omega arith

sum_cons : (b : ℕ) (bs : List ℕ) → sum (b ∷ bs) ≡ b + sum bs
sum_cons b bs = sum_by-cons (λ x. x) b bs

running_is : (r : ℕ) (body : List ℕ) → r < 256 → running_behind r body ≡ (r + sum body) % 256
running_is r [] h = omega arith
running_is r (b ∷ bs) h =
    running_is ((r + b) % 256) bs (omega arith) ∙ sum_on r b (sum bs)
    ∙ ap (λ v. (r + v) % 256) (sym (sum_cons b bs))

running_sum : (body : List ℕ) → running_behind 0 body ≡ checksum body
running_sum body = running_is 0 body (omega arith) ∙ ap (λ v. v % 256) (zero-add (sum body))

within_all : (body rest kept : List ℕ) (r : ℕ) → AreBodyBytes body
    → events_from (inside_with kept r) (body ++ rest)
    ≡ events_from (inside_with (kept_bytes kept body) (running_behind r body)) rest
within_all [] rest kept r h = refl
within_all (b ∷ bs) rest kept r h =
    rw (h.0) (within_all bs rest (with_body_byte kept b) ((r + b) % 256) h.1)

kept_whole : (kept body : List ℕ) → length kept + length body ≤ packet_limit
    → kept_bytes kept body ≡ kept ++ body
kept_whole kept [] h = sym (append-nil kept)
kept_whole kept (b ∷ bs) h =
    go (leb (length kept) packet_limit) refl (kept_whole (kept ++ b ∷ []) bs)
  where
    go : (v : Bool) → leb (length kept) packet_limit ≡ v
        → (length (kept ++ b ∷ []) + length bs ≤ packet_limit
        → kept_bytes (kept ++ b ∷ []) bs ≡ (kept ++ b ∷ []) ++ bs)
        → kept_bytes (cond v (kept ++ b ∷ []) kept) bs ≡ kept ++ b ∷ bs
    go true e again =
        again (omega (arith, length-append kept (b ∷ []), h)) ∙ append_assoc kept (b ∷ []) bs
    go false e again =
        let wrong : true ≡ false = sym (le-leb (length kept) packet_limit (omega (arith, h))) ∙ e in
        absurd cc

pub unended_packets : UnendedPacketsAreNone
unended_packets body before running h =
    ap (λ v. events_from (inside_with [] 0) v) (sym (append-nil body))
    ∙ within_all body [] [] 0 h

whole : (body rest before : List ℕ) (running first second : ℕ) → AreBodyBytes body
    → events_from (outside_with before running) (packet_then body first second rest)
    ≡ (
      cond (leb (length (kept_bytes [] body)) packet_limit)
          (Packet (is_checked (checksum body) (first ∷ second ∷ [])))
          (TooLong (is_checked (checksum body) (first ∷ second ∷ []))),
      kept_bytes [] body,
    )
    ∷ events_from (outside_with (kept_bytes [] body) (checksum body)) rest
whole body rest before running first second h =
    within_all body (35 ∷ first ∷ second ∷ rest) [] 0 h ∙ rw (running_sum body) refl

pub packets_are_told : PacketsAreTold
packets_are_told body rest before running first second h few =
    whole body rest before running first second h
    ∙ rw (kept_whole [] body (omega (arith, few)), le-leb (length body) packet_limit few) refl

kept_long : (kept body : List ℕ) → packet_limit < length kept + length body
    → packet_limit < length (kept_bytes kept body)
kept_long kept [] h = omega (arith, h)
kept_long kept (b ∷ bs) h =
    go (leb (length kept) packet_limit) refl (kept_long (kept ++ b ∷ []) bs) (kept_long kept bs)
  where
    go : (v : Bool) → leb (length kept) packet_limit ≡ v
        → (packet_limit < length (kept ++ b ∷ []) + length bs
        → packet_limit < length (kept_bytes (kept ++ b ∷ []) bs))
        → (packet_limit < length kept + length bs
        → packet_limit < length (kept_bytes kept bs))
        → packet_limit < length (kept_bytes (cond v (kept ++ b ∷ []) kept) bs)
    go true e longer same = longer (omega (arith, length-append kept (b ∷ []), h))
    go false e longer same =
        let over : packet_limit < length kept = leb-false _ _ e in same (omega (arith, over))

over_limit : (n : ℕ) → packet_limit < n → leb n packet_limit ≡ false
over_limit n h = go (leb n packet_limit) refl
  where
    go : (v : Bool) → leb n packet_limit ≡ v → v ≡ false
    go true e = absurd (omega (arith, h, leb-true _ _ e))
    go false e = refl

pub long_packets : LongPacketsAreTold
long_packets body rest before running first second h many =
    whole body rest before running first second h
    ∙ rw (over_limit (length (kept_bytes [] body)) (kept_long [] body (omega (arith, many)))) refl

-- ---- as it is sent

checked_again : (n : ℕ) → n < 256 → is_checked n (byte_digits n) ≡ true
checked_again n h =
    let high : nibble_of (nibble_text (n / 16)) ≡ Some (n / 16) =
    nibble_again (n / 16) (omega arith) in
    let low : nibble_of (nibble_text (n % 16)) ≡ Some (n % 16) =
    nibble_again (n % 16) (omega arith) in
    let same : (0 * 16 + n / 16) * 16 + n % 16 ≡ n = omega arith in
    rw (high, low) (eq-eqb _ _ same)

pub frames_again : FramesAreReadBack
frames_again body rest before running h few =
    let small : checksum body < 256 = omega arith in
    ap (λ v. events_from (outside_with before running) (36 ∷ v))
    (append_assoc body (35 ∷ byte_digits (checksum body)) rest)
    ∙ packets_are_told body rest before running (nibble_text (checksum body / 16))
    (nibble_text (checksum body % 16)) h few
    ∙ ap (λ v. (Packet v, body) ∷ events_from (outside_with body (checksum body)) rest)
    (checked_again (checksum body) small)
