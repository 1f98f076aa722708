-- An entry that is found in a state: what it says of the state's world, and that its frame is
-- there.
use Rattle.std.proofs.Common.{◌≡◌, ℕ, ◌+◌, ◌*◌, ◌<◌, ◌≤◌, List, length, take, drop, Option}
use Rattle.std.proofs.Common.{Some, IfSome, refl, sym, ap, subst, ◌∙◌, arith}
use Rattle.std.specs.Prelude.{slice_get}
use Rattle.dos_world.specs.World.{Holdings, look}
use Rattle.dos_world.specs.Lawful.{IsPage}
use Rattle.dos_world.specs.declared.Entry.{Entry}
use Rattle.dos_laws.proofs.Mapped.{looked}
use Rattle.page_store.specs.Store.{IsHome, joined, whole}
use Rattle.page_store.proofs.Joined.{home-at, joined-stretch, length-joined}
use Rattle.proc_table.specs.Tables.{IsProcess, held_in}
use Rattle.kernel_mem.specs.MemoryWorld.{space_in}
use Rattle.kernel_calls.specs.StateWorld.{IsSound, world_of}
use Rattle.kernel_calls.specs.declared.state.State.{State}
use Rattle.kernel_calls.proofs.Callers.{Has, has}
use Rattle.debug_session.specs.Told.{bytes_told}
use Rattle.debug_answers.proofs.Reading.{told_in_page}

-- The process has this entry of a page, whose frame is there.
pub record Found (s : State) (p page : ℕ) (e : Entry) : Type 0 where
  pub there : look (space_in s.table p) page ≡ Some e
  pub within : e.frame < length s.frames.owners

pub found : (s : State) (p page : ℕ) (e : Entry) (entries : List (ℕ × Entry)) → IsSound s
    → IsProcess s.table.processes p
    → IfSome (held_in s.table.processes p) (λ h. entries ≡ h.space)
    → look entries page ≡ Some e → Found s p page e
found s p page e entries sound live are there =
    let x : Has s p = has s p sound live in
    let its : entries ≡ x.holdings.space =
    subst (λ (o : Option Holdings). IfSome o (λ h. entries ≡ h.space)) x.is are in
    let here : look x.holdings.space page ≡ Some e = ap (λ es. look es page) (sym its) ∙ there in
    record {
      there = ap (λ es. look es page) x.space ∙ here;
      within = (looked (IsPage (length s.frames.owners)) x.holdings.space page e x.are.pages
          here).1.2;
    }

module _ (s : State) (p page : ℕ) (e : Entry) (sound : IsSound s) (x : Found s p page e) where
  pub is_home : IsHome s.frames e.frame
  is_home =
      home-at s.frames.pages e.frame sound.counted.home.home
      (omega (arith, x.within, sound.counted.home.owners))

  pub told_of_page : (q count offset address : ℕ) (bytes held : List ℕ)
      → address ≡ 4096 * page + offset → offset + count ≤ 4096
      → slice_get s.frames.pages e.frame ≡ Some (Some held) → bytes ≡ whole held
      → take count (drop offset bytes) ≡ bytes_told (world_of q s) p count address
  told_of_page q count offset address bytes held at lies is whole_is =
      let place = 4096 * e.frame + offset in
      let long : place + count ≤ length (joined s.frames.pages) =
      omega (arith, length-joined s.frames.pages, x.within, sound.counted.home.owners) in
      ap (λ bs. take count (drop offset bs)) whole_is
      ∙ sym (joined-stretch s.frames.pages e.frame offset count place (Some held) is lies refl)
      ∙ sym (told_in_page (world_of q s) p page e count offset address place x.there at refl lies
      long)
