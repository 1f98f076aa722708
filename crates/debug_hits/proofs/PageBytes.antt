-- The bytes of a process that lie in one page, in a world and in a state of it.
use Rattle.std.proofs.Common.{◌≡◌, ℕ, zero, suc, ◌+◌, ◌*◌, ◌/◌, ◌%◌, ◌<◌, ◌≤◌, List, [], ◌∷◌}
use Rattle.std.proofs.Common.{length}
use Rattle.std.proofs.Common.{take, drop, get_or, Option, Some, None, IfSome, IsSome, refl, sym, ap}
use Rattle.std.proofs.Common.{subst, ◌∙◌, arith}
use Rattle.std.specs.Prelude.{slice_get, option_map, option_and_then}
use Rattle.std.proofs.lemmas.List.{drop_more}
use Rattle.std.proofs.lemmas.Option.{slice_get-get_or}
use Rattle.dos_world.specs.World.{World, Holdings, look, space_of, page_size}
use Rattle.dos_world.specs.Lawful.{IsPage}
use Rattle.dos_world.specs.declared.Entry.{Entry}
use Rattle.dos_laws.proofs.Mapped.{looked}
use Rattle.page_store.specs.Store.{IsHome, joined, whole}
use Rattle.page_store.proofs.Joined.{home-at, joined-stretch, length-joined}
use Rattle.proc_table.specs.Tables.{IsProcess, held_in}
use Rattle.kernel_mem.specs.MemoryWorld.{space_in}
use Rattle.kernel_calls.specs.StateWorld.{IsSound, sent, world_of}
use Rattle.kernel_calls.specs.declared.state.State.{State}
use Rattle.kernel_calls.proofs.Callers.{Has, has}
use Rattle.debug_session.specs.Told.{byte_told, bytes_told}
use Rattle.debug_hits.specs.Kept.{AreFramesThere}

-- ---- in a world

-- the byte of an address by the entry of its page
abbrev pub byte_in : World → (address : ℕ) → Option Entry → Option ℕ
byte_in w address entry =
    option_and_then (λ place. slice_get w.bytes place)
    (option_map (λ (e : Entry). page_size * e.frame + address % page_size) entry)

-- what is told behind a first byte
abbrev pub told_behind : World → (p count address : ℕ) → Option ℕ → List ℕ
told_behind w p count address first =
    elim first [ None ↦ [] | Some byte ↦ byte ∷ bytes_told w p count (address + 1) ]

-- nothing where the page isn't mapped
pub none_told : (w : World) (p count address : ℕ) → look (space_of w p) (address / 4096) ≡ None
    → bytes_told w p count address ≡ []
none_told w p zero address none = refl
none_told w p (suc count) address none =
    ap (λ o. told_behind w p count address (byte_in w address o)) none

-- the byte of the frame
pub byte_in_page : (w : World) (p page : ℕ) (e : Entry) (address place : ℕ)
    → look (space_of w p) page ≡ Some e → address / 4096 ≡ page
    → place ≡ 4096 * e.frame + address % 4096 → place < length w.bytes
    → byte_told w p address ≡ Some (get_or w.bytes place 0)
byte_in_page w p page e address place there of_page spot short =
    ap (λ n. byte_in w address (look (space_of w p) n)) of_page ∙ ap (byte_in w address) there
    ∙ ap (slice_get w.bytes) (sym spot) ∙ slice_get-get_or w.bytes place 0 short

-- the bytes of the frame
pub told_in_page : (w : World) (p page : ℕ) (e : Entry) (count offset address place : ℕ)
    → look (space_of w p) page ≡ Some e → address ≡ 4096 * page + offset
    → place ≡ 4096 * e.frame + offset → offset + count ≤ 4096 → place + count ≤ length w.bytes
    → bytes_told w p count address ≡ take count (drop place w.bytes)
told_in_page w p page e zero offset address place there at lies within inside = refl
told_in_page w p page e (suc count) offset address place there at lies within inside =
    let of_page : address / 4096 ≡ page = omega arith in
    let spot : place ≡ 4096 * e.frame + address % 4096 = omega arith in
    let short : place < length w.bytes = omega arith in
    ap (told_behind w p count address)
    (byte_in_page w p page e address place there of_page spot short)
    ∙ ap (λ bytes. get_or w.bytes place 0 ∷ bytes)
    (told_in_page w p page e count (offset + 1) (address + 1) (place + 1) there (omega arith)
    (omega arith) (omega arith) (omega arith))
    ∙ ap (take (suc count)) (sym (drop_more w.bytes place 0 short))

-- ---- in the world of a state

-- what a process maps is there
mapped_within : (s : State) (p page : ℕ) (e : Entry) → (x : Has s p)
    → look x.holdings.space page ≡ Some e → e.frame < length s.frames.owners
mapped_within s p page e x here =
    (looked (IsPage (length s.frames.owners)) x.holdings.space page e x.are.pages here).1.2

abbrev Fits : State → Entry → Type 0
Fits s e = 4096 * e.frame + 4096 ≤ length (joined s.frames.pages)

fits_there : (s : State) (p page : ℕ) → IsSound s → (x : Has s p) (o : Option Entry)
    → look x.holdings.space page ≡ o → IfSome o (Fits s)
fits_there s p page sound x None is = tt
fits_there s p page sound x (Some e) is =
    omega (
      arith,
      length-joined s.frames.pages,
      mapped_within s p page e x is,
      sound.counted.home.owners,
    )

pub frames_there : (s : State) (q : ℕ) (output error : List ℕ) → IsSound s
    → AreFramesThere (sent output error (world_of q s))
frames_there s q output error sound p page = by_process (held_in s.table.processes p) refl
  where
    by_process : (o : Option Holdings) → held_in s.table.processes p ≡ o
        → IfSome (look (space_in s.table p) page) (Fits s)
    by_process None is =
        subst (λ (o : Option Holdings). IfSome (look (elim o as (λ _. List (ℕ × Entry))
        [ None ↦ [] | Some h ↦ h.space ]) page) (Fits s)) (sym is) tt
    by_process (Some h) is =
        let x : Has s p = has s p sound
        (subst (λ (o : Option Holdings). IsSome o) (sym is) refl) in
        subst (λ (es : List (ℕ × Entry)). IfSome (look es page) (Fits s)) (sym x.space)
        (fits_there s p page sound x (look x.holdings.space page) refl)

-- The process has this entry of a page, whose frame is there.
pub record Found (s : State) (p page : ℕ) (e : Entry) : Type 0 where
  pub there : look (space_in s.table p) page ≡ Some e
  pub within : e.frame < length s.frames.owners

pub found : (s : State) (p page : ℕ) (e : Entry) (entries : List (ℕ × Entry)) → IsSound s
    → IsProcess s.table.processes p
    → IfSome (held_in s.table.processes p) (λ h. entries ≡ h.space)
    → look entries page ≡ Some e → Found s p page e
found s p page e entries sound live are there =
    let x : Has s p = has s p sound live in
    let its : entries ≡ x.holdings.space =
    subst (λ (o : Option Holdings). IfSome o (λ h. entries ≡ h.space)) x.is are in
    let here : look x.holdings.space page ≡ Some e = ap (λ es. look es page) (sym its) ∙ there in
    record {
      there = ap (λ es. look es page) x.space ∙ here;
      within = mapped_within s p page e x here;
    }

module _ (s : State) (p page : ℕ) (e : Entry) (sound : IsSound s) (x : Found s p page e) where
  pub is_home : IsHome s.frames e.frame
  is_home =
      home-at s.frames.pages e.frame sound.counted.home.home
      (omega (arith, x.within, sound.counted.home.owners))

  pub told_of_page : (q : ℕ) (output error : List ℕ) (count offset address : ℕ)
      (bytes held : List ℕ)
      → address ≡ 4096 * page + offset → offset + count ≤ 4096
      → slice_get s.frames.pages e.frame ≡ Some (Some held) → bytes ≡ whole held
      → take count (drop offset bytes)
      ≡ bytes_told (sent output error (world_of q s)) p count address
  told_of_page q output error count offset address bytes held at lies is whole_is =
      let place = 4096 * e.frame + offset in
      let long : place + count ≤ length (joined s.frames.pages) =
      omega (arith, length-joined s.frames.pages, x.within, sound.counted.home.owners) in
      ap (λ bs. take count (drop offset bs)) whole_is
      ∙ sym (joined-stretch s.frames.pages e.frame offset count place (Some held) is lies refl)
      ∙ sym (told_in_page (sent output error (world_of q s)) p page e count offset address place
      x.there at refl lies long)
