-- What a saved group whose fields fit gives of its lengths.
use Rattle.std.proofs.Common.{◌≡◌, ℕ, zero, suc, ◌<◌, ◌^◌, List, [], ◌∷◌, length, map, subst, arith}
use Rattle.std.proofs.Common.{refl, ap, sym, drop}
use Rattle.std.specs.Prelude.{All, reverse}
use Rattle.std.proofs.lemmas.List.{length-map, length-reverse}
use Rattle.std.proofs.lemmas.List.Elements.{All-nil, All-cons}
use Rattle.dos_world.specs.World.{Registers}
use Rattle.text_fields.specs.Formats.{Format, ListFits, u32_in, any}
use Rattle.text_fields.proofs.FormatLaws.{listed_length}
use Rattle.group_text.specs.declared.records.ProcessRecord.{ProcessRecord}
use Rattle.group_text.specs.declared.records.ThreadRecord.{ThreadRecord}
use Rattle.group_text.specs.declared.records.GroupRecord.{GroupRecord}
use Rattle.group_text.specs.Records.{process_of_record, thread_of_record, recorded_life}
use Rattle.group_text.specs.Records.{group_of_record, sleeper_of_record}
use Rattle.group_text.specs.GroupText as row
use Rattle.group_writer.specs.Lengths.{HasFewPages, HasAllNumbers, IsWholeThread}

module _ {A S X : Type 0} (one : S → Format A) (next : S → A → S) (view : X → A)
    (P : X → Type 0) (gives : (s : S) (x : X) → (one s).Fits (view x) → P x) where
  each_gives : (n : ℕ) (s : S) (xs : List X) → ListFits one next n s (map view xs) → All P xs
  each_gives zero s [] fits = All-nil P
  each_gives zero s (x ∷ xs) fits = absurd fits
  each_gives (suc n) s [] fits = absurd fits
  each_gives (suc n) s (x ∷ xs) fits =
      All-cons P x xs (gives s x fits.0) (each_gives n (next s (view x)) xs fits.1)

few_pages : (frames processes : ℕ) (r : ProcessRecord)
    → (row.process_row frames processes).Fits (process_of_record r) → HasFewPages r
few_pages frames processes r fits lives =
    let h = subst (λ s. (row.life_row frames).Fits (recorded_life (record r { status = s })))
    lives fits.0.1 in
    h.1.0.1.0.1.1.0.0.0

all_numbers : (r : Registers) → row.registers_row.Fits r → HasAllNumbers r
all_numbers r fits =
    let whole : record { pc = r.pc; numbers = 0 ∷ drop 1 r.numbers; held = r.held } ≡ r = fits.1 in
    subst HasAllNumbers whole
    (ap suc (listed_length (λ (s : ℕ). u32_in any) (λ s x. s) 31 0 (drop 1 r.numbers) fits.0.1.0))

unmapped : {X : Type 0} (xs : List X) → map (λ (x : X). x) xs ≡ xs
unmapped [] = refl
unmapped (x ∷ xs) = ap (λ (l : List _). x ∷ l) (unmapped xs)

whole_thread : (given processes least : ℕ) (r : ThreadRecord)
    → (row.thread_row given processes least).Fits (thread_of_record r) → IsWholeThread r
whole_thread given processes least r fits =
    let saved = reverse r.saved.items in
    let of_saved = fits.0.1.1.1.1.1.1.1.0.0 in
    record {
      few = omega (arith, length-reverse r.saved.items, of_saved.0.0);
      registers = all_numbers r.regs fits.0.1.1.1.0;
      saved = each_gives (λ (s : ℕ). row.saved_row) (λ s x. s) (λ x. x) (λ s. HasAllNumbers s.0)
          (λ s x f. all_numbers x.0 f.0) (length saved) 0 saved
          (subst (ListFits (λ (s : ℕ). row.saved_row) (λ s x. s) (length saved) 0)
          (sym (unmapped saved)) of_saved.1);
    }

module _ (g : GroupRecord) (fits : row.group_row.Fits (group_of_record g)) where
  pub few_processes : length g.processes.items < 2 ^ 32
  few_processes =
      omega (arith, fits.0.0.0.1.1.1.1.1.0, length-map g.processes.items process_of_record)

  pub pages_are_few : All HasFewPages g.processes.items
  pages_are_few =
      let n = length (map process_of_record g.processes.items) in
      each_gives (λ (s : ℕ). row.process_row g.config.frames n) (λ s x. s) process_of_record
      HasFewPages (λ s r f. few_pages g.config.frames n r f) n 0 g.processes.items fits.0.1.0

  pub few_threads : length g.threads.items < 256
  few_threads = omega (arith, fits.0.1.1.0.0.0.0, length-map g.threads.items thread_of_record)

  pub threads_are_whole : All IsWholeThread g.threads.items
  threads_are_whole =
      let n = length (map process_of_record g.processes.items) in
      each_gives (λ least. row.thread_row g.given n least) (λ s x. suc x.0) thread_of_record
      IsWholeThread (λ s r f. whole_thread g.given n s r f)
      (length (map thread_of_record g.threads.items)) 1 g.threads.items fits.0.1.1.0.0.1

  pub pipes_are_short : All (λ p. length p.items < 2 ^ 16) g.pipes.items
  pipes_are_short =
      each_gives (λ (s : ℕ). row.pipe_row) (λ s x. s) (λ p. p.items)
      (λ p. length p.items < 2 ^ 16) (λ s p f. f.0.0.0) 64 0 g.pipes.items fits.0.1.1.1.0

  pub few_sleepers : length g.sleepers.items < 256
  few_sleepers =
      omega (arith, fits.0.1.1.1.1.0.0.0.0, length-map g.sleepers.items sleeper_of_record)
