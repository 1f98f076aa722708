-- The bytes of a process that lie in one page.
use Rattle.std.proofs.Common.{◌≡◌, ℕ, zero, suc, ◌+◌, ◌*◌, ◌/◌, ◌%◌, ◌<◌, ◌≤◌, List, [], ◌∷◌, ◌++◌}
use Rattle.std.proofs.Common.{length, take, drop, get_or, Option, Some, None, refl, sym, ap, ◌∙◌}
use Rattle.std.proofs.Common.{arith, ◌-◌, min, codes}
use Rattle.std.specs.Prelude.{slice_get, option_map, option_and_then}
use Rattle.std.proofs.lemmas.List.{drop_more, length-append}
use Rattle.std.proofs.lemmas.List.Concat.{flat_map-append}
use Rattle.std.proofs.lemmas.Option.{slice_get-get_or}
use Rattle.gdb_packets.specs.Hexadecimal.{byte_digits, bytes_digits}
use Rattle.dos_world.specs.World.{World, look, space_of, page_size}
use Rattle.dos_world.specs.declared.Entry.{Entry}
use Rattle.debug_session.specs.Told.{byte_told, bytes_told, bytes_or_error, memory_told}

-- what is told behind a first byte
abbrev told_behind : World → (p count address : ℕ) → Option ℕ → List ℕ
told_behind w p count address first =
    elim first [ None ↦ [] | Some byte ↦ byte ∷ bytes_told w p count (address + 1) ]

abbrev byte_in : World → (address : ℕ) → Option Entry → Option ℕ
byte_in w address entry =
    option_and_then (λ place. slice_get w.bytes place)
    (option_map (λ (e : Entry). page_size * e.frame + address % page_size) entry)

-- nothing where the page isn't mapped
pub none_told : (w : World) (p count address : ℕ) → look (space_of w p) (address / 4096) ≡ None
    → bytes_told w p count address ≡ []
none_told w p zero address none = refl
none_told w p (suc count) address none =
    ap (λ o. told_behind w p count address (byte_in w address o)) none

-- the bytes of the frame
pub told_in_page : (w : World) (p page : ℕ) (e : Entry) (count offset address place : ℕ)
    → look (space_of w p) page ≡ Some e → address ≡ 4096 * page + offset
    → place ≡ 4096 * e.frame + offset → offset + count ≤ 4096 → place + count ≤ length w.bytes
    → bytes_told w p count address ≡ take count (drop place w.bytes)
told_in_page w p page e zero offset address place there at lies within inside = refl
told_in_page w p page e (suc count) offset address place there at lies within inside =
    let of_page : address / 4096 ≡ page = omega arith in
    let spot : 4096 * e.frame + address % 4096 ≡ place = omega arith in
    let short : place < length w.bytes = omega arith in
    ap (λ n. told_behind w p count address (byte_in w address (look (space_of w p) n))) of_page
    ∙ ap (λ o. told_behind w p count address (byte_in w address o)) there
    ∙ ap (λ n. told_behind w p count address (slice_get w.bytes n)) spot
    ∙ ap (told_behind w p count address) (slice_get-get_or w.bytes place 0 short)
    ∙ ap (λ bytes. get_or w.bytes place 0 ∷ bytes)
    (told_in_page w p page e count (offset + 1) (address + 1) (place + 1) there (omega arith)
    (omega arith) (omega arith) (omega arith))
    ∙ ap (take (suc count)) (sym (drop_more w.bytes place 0 short))

-- ---- two stretches

-- Behind a first stretch that is told whole another is told.
pub told_on : (w : World) (p a b address next : ℕ) → next ≡ address + a
    → length (bytes_told w p a address) ≡ a
    → bytes_told w p (a + b) address ≡ bytes_told w p a address ++ bytes_told w p b next
told_on w p zero b address next at whole =
    let none : zero + b ≡ b = omega arith in
    let same : address ≡ next = omega arith in
    ap (λ n. bytes_told w p n address) none ∙ ap (bytes_told w p b) same
told_on w p (suc a) b address next at whole =
    let more : suc a + b ≡ suc (a + b) = omega arith in
    ap (λ n. bytes_told w p n address) more
    ∙ by (byte_told w p address)
    (told_on w p a b (address + 1) next (omega arith)) whole
  where
    by : (first : Option ℕ)
        → (length (bytes_told w p a (address + 1)) ≡ a → bytes_told w p (a + b) (address + 1)
        ≡ bytes_told w p a (address + 1) ++ bytes_told w p b next)
        → length (told_behind w p a address first) ≡ suc a
        → told_behind w p (a + b) address first
        ≡ told_behind w p a address first ++ bytes_told w p b next
    by None on whole = absurd (omega (arith, whole))
    by (Some byte) on whole = ap (λ bytes. byte ∷ bytes) (on (omega (arith, whole)))

-- Where nothing is told of a first stretch, nothing is.
pub told_none : (w : World) (p a b address : ℕ) → bytes_told w p (suc a) address ≡ []
    → bytes_told w p (suc a + b) address ≡ []
told_none w p a b address none =
    let more : suc a + b ≡ suc (a + b) = omega arith in
    ap (λ n. bytes_told w p n address) more ∙ by (byte_told w p address) none
  where
    by : (first : Option ℕ) → told_behind w p a address first ≡ []
        → told_behind w p (a + b) address first ≡ []
    by None none = refl
    by (Some byte) none = cc

-- ---- what is answered

error_alone : (n : ℕ) → 0 < n → codes "E0e" ≡ bytes_or_error n []
error_alone zero some = absurd (omega (arith, some))
error_alone (suc n) some = refl

bytes_alone : (n : ℕ) (bytes : List ℕ) → 0 < n → 0 < length bytes
    → bytes_digits bytes ≡ bytes_or_error n bytes
bytes_alone zero bytes some more = absurd (omega (arith, some))
bytes_alone (suc n) [] some more = absurd (omega (arith, more))
bytes_alone (suc n) (b ∷ bytes) some more = refl

-- of so many bytes, of which so many lie in the first page
module _ (w : World) (p asked from count first : ℕ) (count_is : count ≡ min asked 4096)
    (some : 0 < count) (first_some : 0 < first) (first_few : first ≤ count) where
  asked_some : 0 < asked
  asked_some = omega (arith, count_is, some)

  pub none_answered : bytes_told w p first from ≡ [] → codes "E0e" ≡ memory_told w p asked from
  none_answered none =
      let n = first - 1 in
      let parts : suc n + (count - first) ≡ min asked 4096 = omega (arith, count_is) in
      let one : first ≡ suc n = omega (arith, first_some) in
      error_alone asked asked_some
      ∙ ap (bytes_or_error asked)
      (sym (told_none w p n (count - first) from
      (ap (λ k. bytes_told w p k from) (sym one) ∙ none)))
      ∙ ap (λ k. bytes_or_error asked (bytes_told w p k from)) parts

  pub both_answered : (next : ℕ) (front back : List ℕ) → next ≡ from + first
      → length front ≡ first → front ≡ bytes_told w p first from
      → back ≡ bytes_told w p (count - first) next
      → bytes_digits front ++ bytes_digits back ≡ memory_told w p asked from
  both_answered next front back next_is whole front_is back_is =
      let parts : first + (count - first) ≡ min asked 4096 = omega (arith, count_is, first_few) in
      let told : front ++ back ≡ bytes_told w p (min asked 4096) from =
      ap (λ xs. xs ++ back) front_is ∙ ap (λ xs. bytes_told w p first from ++ xs) back_is
      ∙ sym (told_on w p first (count - first) from next next_is
      (ap length (sym front_is) ∙ whole))
      ∙ ap (λ k. bytes_told w p k from) parts in
      let long : 0 < length (front ++ back) =
      omega (arith, length-append front back, whole, first_some) in
      sym (flat_map-append byte_digits front back)
      ∙ bytes_alone asked (front ++ back) asked_some long ∙ ap (bytes_or_error asked) told
