-- What is told of a world has nothing to do with what was sent by then. This project's own.
use Rattle.std.proofs.Common.{◌≡◌, ℕ, zero, suc, ◌+◌, List, [], ◌∷◌, Option, Some, None, true}
use Rattle.std.proofs.Common.{false, refl, ap, ap₂, ◌∙◌}
use Rattle.std.specs.Prelude.{IsSome, min}
use Rattle.dos_world.specs.World.{World, Holdings, live_process, look}
use Rattle.dos_world.specs.declared.Entry.{Entry}
use Rattle.kernel_calls.specs.StateWorld.{sent}
use Rattle.debug_session.specs.Pages.{goes_on, page_lines_in, page_lines_of, pages_lines_in}
use Rattle.debug_session.specs.Pages.{stretch_line, stretches_from}
use Rattle.debug_session.specs.Pages.{stretches_of}
use Rattle.debug_session.specs.Told.{byte_told, bytes_or_error, bytes_told, memory_told}

module _ (output error : List ℕ) (w : World) where
  bytes_unsent : (p count address : ℕ)
      → bytes_told (sent output error w) p count address ≡ bytes_told w p count address
  bytes_unsent p zero address = refl
  bytes_unsent p (suc count) address =
      ap
      (λ (rest : List ℕ). elim (byte_told w p address) [
        | None ↦ []
        | Some byte ↦ byte ∷ rest
      ])
      (bytes_unsent p count (address + 1))

  pub memory_unsent : (p count address : ℕ)
      → memory_told (sent output error w) p count address ≡ memory_told w p count address
  memory_unsent p count address =
      ap (bytes_or_error count) (bytes_unsent p (min count 4096) address)

  stretches_unsent : (first last : ℕ × Entry) (entries : List (ℕ × Entry))
      → stretches_from (sent output error w) first last entries
      ≡ stretches_from w first last entries
  stretches_unsent first last [] = refl
  stretches_unsent first last (e ∷ entries) =
      ap₂
      (λ (on anew : List (List ℕ)). elim (goes_on w last e) [
        | true ↦ on
        | false ↦ stretch_line w first last ∷ anew
      ])
      (stretches_unsent first e entries) (stretches_unsent e e entries)

  pub pages_unsent : (holdings : Option Holdings)
      → pages_lines_in (sent output error w) holdings ≡ pages_lines_in w holdings
  pages_unsent None = refl
  pages_unsent (Some h) = by h.space
    where
      by : (space : List (ℕ × Entry))
          → stretches_of (sent output error w) space ≡ stretches_of w space
      by [] = refl
      by (e ∷ entries) = stretches_unsent e e entries

  pub page_unsent : (p page : ℕ) (holdings : Option Holdings)
      → page_lines_in (sent output error w) p page holdings ≡ page_lines_in w p page holdings
  page_unsent p page None = refl
  page_unsent p page (Some h) = by (look h.space page)
    where
      by : (entry : Option Entry)
          → page_lines_of (sent output error w) p page entry ≡ page_lines_of w p page entry
      by None = refl
      by (Some e) = refl

-- A page of a process by another number of it, which is its own where it lives.
pub page_same : (w : World) (p q page : ℕ) → live_process w p ≡ live_process w q
    → (IsSome (live_process w q) → p ≡ q)
    → page_lines_in w p page (live_process w p) ≡ page_lines_in w q page (live_process w q)
page_same w p q page same number =
    ap (λ (o : Option Holdings). page_lines_in w p page o) same ∙ by (live_process w q) number
  where
    by : (o : Option Holdings) → (IsSome o → p ≡ q)
        → page_lines_in w p page o ≡ page_lines_in w q page o
    by None number = refl
    by (Some h) number =
        ap (λ (n : ℕ). page_lines_in w n page (Some h)) (number refl)
