-- Each row of a saved group's text is a format: what is read was written so, and what is written is
-- read again.
use Rattle.std.proofs.Common.{◌≡◌, ℕ, zero, suc, ◌+◌, ◌/◌, ◌%◌, ◌≤◌, Bool, true}
use Rattle.std.proofs.Common.{false}
use Rattle.std.proofs.Common.{List, [], length, refl, sym, ap, ◌∙◌}
use Rattle.std.proofs.Common.{arith}
use Rattle.std.proofs.Common.{Option, Some, None, leb}
use Rattle.std.specs.Prelude.{reverse, ◌==◌, if◌then◌else◌}
use Rattle.std.specs.Int.{w16, w32}
use Rattle.std.proofs.lemmas.Bool.{eqb-true, leb-true, and_parts}
use Rattle.std.proofs.lemmas.List.{reverse-reverse}
use Rattle.dos_world.specs.World.{Life, live, ended}
use Rattle.dos_world.specs.declared.Owner.{Owner}
use Rattle.dos_world.specs.declared.Owner.TheVariants.{Free, Shared, Of}
use Rattle.dos_world.specs.declared.End.{End}
use Rattle.text_fields.specs.Formats.{Format, bytes, u8_in, u16_in, u32_in, ◌then◌, seen_as}
use Rattle.text_fields.specs.Formats.{many, ascending, from_to, just, any}
use Rattle.text_fields.specs.Laws.{IsFormat}
use Rattle.text_fields.proofs.FormatLaws.{bytes_format, number_format, u8_format, then_format}
use Rattle.text_fields.proofs.FormatLaws.{as_format, tagged_format, many_format, ascending_format}
use Rattle.text_fields.proofs.FormatLaws.{with_count_format, listed_length, wide16, wide32}
use Rattle.group_text.specs.GroupText as row

-- ---- fields

pub n32 : (test : ℕ → Bool) → IsFormat (u32_in test)
n32 test = number_format w32 wide32 test

n16 : (test : ℕ → Bool) → IsFormat (u16_in test)
n16 test = number_format w16 wide16 test

pub just_is : (low n : ℕ) → just low n ≡ true → n ≡ low
just_is low n e = eqb-true n low e

pub range_is : (low high n : ℕ) → from_to low high n ≡ true → (low ≤ n) × (n ≤ high)
range_is low high n e =
    let p = and_parts (leb low n) (leb n high) e in (leb-true _ _ p.0, leb-true _ _ p.1)

-- ---- the header

config_format : IsFormat row.config_row
config_format = as_format row.to_config row.of_config row.config_fields
    (then_format _ _ (n32 _) (λ _ _. then_format _ _ (n32 _) (λ _ _. n32 _))) (λ a fits. refl)

pub header_format : IsFormat row.header_row
header_format = as_format row.to_header row.of_header row.header_fields
    (then_format _ _ (bytes_format 32) (λ _ _.
    then_format _ _ (n32 _) (λ _ _.
    then_format _ _ config_format (λ _ _.
    then_format _ _ (n32 _) (λ _ _.
    then_format _ _ (n32 _) (λ _ _. n32 _))))))
    (λ a fits. refl)

-- ---- a thread

held_is : (n : ℕ) → (u8_in (from_to 0 1)).Fits n → IsFormat (row.held_by_code n)
held_is zero fits =
    as_format (λ _. None) row.held_word (u32_in (just 0)) (n32 _) (λ a f. sym (just_is 0 a f.1))
held_is (suc n) fits =
    as_format (λ a. Some a) row.held_word (u32_in any) (n32 _) (λ a f. refl)

held_tags : (n : ℕ) (a : Option ℕ) → (u8_in (from_to 0 1)).Fits n → (row.held_by_code n).Fits a
    → row.held_code a ≡ n
held_tags zero a fits f = ap row.held_code (sym f.1)
held_tags (suc zero) a fits f = ap row.held_code (sym f.1)
held_tags (suc (suc n)) a fits f =
    let r = range_is 0 1 (suc (suc n)) fits.1 in absurd (omega arith)

held_format : IsFormat row.held_row
held_format = tagged_format row.held_code (from_to 0 1) row.held_by_code held_is held_tags

registers_format : IsFormat row.registers_row
registers_format = as_format row.to_registers row.of_registers row.register_fields
    (then_format _ _ (n32 _) (λ _ _. then_format _ _ (many_format 31 _ (n32 _)) (λ _ _.
    held_format)))
    (λ a fits. refl)

state_format : IsFormat row.state_row
state_format = as_format row.state_by_code row.state_code (u8_in (from_to 0 2)) (u8_format _) back
  where
    back : (a : ℕ) → (u8_in (from_to 0 2)).Fits a → row.state_code (row.state_by_code a) ≡ a
    back zero f = refl
    back (suc zero) f = refl
    back (suc (suc zero)) f = refl
    back (suc (suc (suc n))) f =
        let r = range_is 0 2 (suc (suc (suc n))) f.1 in absurd (omega arith)

many_length : {A : Type 0} (n : ℕ) (form : Format A) (xs : List A) → (many n form).Fits xs
    → length xs ≡ n
many_length n form xs fits = listed_length (λ (s : ℕ). form) (λ s x. s) n 0 xs fits

saved_one_format : IsFormat row.saved_row
saved_one_format = then_format _ _ registers_format (λ _ _. n32 _)

pub saved_format : IsFormat row.saved_rows
saved_format = as_format reverse reverse row.saved_in_order
    (with_count_format (u8_in (from_to 0 4)) (λ n. many n row.saved_row) (u8_format _)
    (λ n. many_format n _ saved_one_format) (λ n xs fits. many_length n row.saved_row xs fits))
    (λ a fits. reverse-reverse a)

pub thread_format : (given processes least : ℕ) → IsFormat (row.thread_row given processes least)
thread_format given processes least =
    as_format row.to_thread row.of_thread (row.thread_fields given processes least)
    (then_format _ _ (n32 _) (λ _ _.
    then_format _ _ (n32 _) (λ _ _.
    then_format _ _ state_format (λ _ _.
    then_format _ _ registers_format (λ _ _.
    then_format _ _ (n32 _) (λ _ _.
    then_format _ _ (n32 _) (λ _ _.
    then_format _ _ (n32 _) (λ _ _. saved_format))))))))
    (λ a fits. refl)

pub threads_format : (given processes : ℕ) → IsFormat (row.thread_rows given processes)
threads_format given processes = with_count_format (u8_in (from_to 0 64))
    (λ n. ascending (λ t. t.0) (row.thread_row given processes) n 1) (u8_format _)
    (λ n. ascending_format _ _ n 1 (thread_format given processes))
    (λ n xs fits. listed_length (row.thread_row given processes) (λ s x. suc x.0) n 1 xs fits)

-- ---- a process

abbrev end_of : ℕ → Format (Option End)
end_of n = seen_as (row.end_by_code n) row.end_pipe (u8_in (row.is_pipe_of n))

end_back : (n a : ℕ) → row.is_pipe_of n a ≡ true → row.end_pipe (row.end_by_code n a) ≡ a
end_back zero a p = sym (just_is 0 a p)
end_back (suc zero) a p = sym (just_is 0 a p)
end_back (suc (suc zero)) a p = sym (just_is 0 a p)
end_back (suc (suc (suc zero))) a p = sym (just_is 0 a p)
end_back (suc (suc (suc (suc zero)))) a p = refl
end_back (suc (suc (suc (suc (suc n))))) a p = refl

end_coded : (n pipe : ℕ) → n ≤ 5 → row.end_code (row.end_by_code n pipe) ≡ n
end_coded zero pipe le = refl
end_coded (suc zero) pipe le = refl
end_coded (suc (suc zero)) pipe le = refl
end_coded (suc (suc (suc zero))) pipe le = refl
end_coded (suc (suc (suc (suc zero)))) pipe le = refl
end_coded (suc (suc (suc (suc (suc zero))))) pipe le = refl
end_coded (suc (suc (suc (suc (suc (suc n)))))) pipe le = absurd (omega arith)

descriptor_format : IsFormat row.descriptor_row
descriptor_format = tagged_format row.end_code (from_to 0 5) end_of
    (λ n f. as_format (row.end_by_code n) row.end_pipe (u8_in (row.is_pipe_of n)) (u8_format _)
    (λ a g. end_back n a g.1))
    (λ n a f g. ap row.end_code (sym g.1)
    ∙ end_coded n (row.end_pipe a) (range_is 0 5 n f.1).1)

rights_back : (rights : ℕ) → rights ≤ 3
    → (if rights % 2 == 1 then 1 else 0) + (if rights / 2 == 1 then 2 else 0) ≡ rights
rights_back zero le = refl
rights_back (suc zero) le = refl
rights_back (suc (suc zero)) le = refl
rights_back (suc (suc (suc zero))) le = refl
rights_back (suc (suc (suc (suc n)))) le = absurd (omega arith)

flag_back : (flag : ℕ) → flag ≤ 1 → row.flag_of (flag == 1) ≡ flag
flag_back zero le = refl
flag_back (suc zero) le = refl
flag_back (suc (suc n)) le = absurd (omega arith)

pub page_format : (frames least : ℕ) → IsFormat (row.page_row frames least)
page_format frames least = as_format row.to_page row.of_page (row.page_fields frames least)
    (then_format _ _ (n32 _) (λ _ _.
    then_format _ _ (n32 _) (λ _ _.
    then_format _ _ (u8_format _) (λ _ _. u8_format _))))
    (λ a fits.
    let r = rights_back a.1.1.0 (range_is 0 3 a.1.1.0 fits.1.1.0.1).1 in
    let s = flag_back a.1.1.1 (range_is 0 1 a.1.1.1 fits.1.1.1.1).1 in
    rw (r, s) refl)

pub space_format : (frames : ℕ) → IsFormat (row.space_row frames)
space_format frames = with_count_format (u32_in (from_to 0 frames))
    (λ n. ascending (λ e. e.0) (row.page_row frames) n 1) (n32 _)
    (λ n. ascending_format _ _ n 1 (page_format frames))
    (λ n xs fits. listed_length (row.page_row frames) (λ s x. suc x.0) n 1 xs fits)

pub holdings_format : (frames : ℕ) → IsFormat (row.holdings_row frames)
holdings_format frames = as_format row.to_holdings row.of_holdings (row.holding_fields frames)
    (then_format _ _ (many_format 31 _ (n32 _)) (λ _ _.
    then_format _ _ (many_format 32 _ descriptor_format) (λ _ _. space_format frames)))
    (λ a fits. refl)

module _ (frames : ℕ) where
  life_is : (n : ℕ) → (u8_in (from_to 0 2)).Fits n → IsFormat (row.life_by_code frames n)
  life_is zero f =
      as_format (λ x. live x.1) (λ life. (0, row.holdings_of_life life)) (row.live_fields frames)
      (then_format _ _ (u8_format _) (λ _ _. holdings_format frames))
      (λ a g. ap (λ n. (n, a.1)) (sym (just_is 0 a.0 g.0.1)))
  life_is (suc zero) f =
      as_format (λ s. ended s false) row.status_of_life (u8_in any) (u8_format _) (λ a g. refl)
  life_is (suc (suc n)) f =
      as_format (λ s. ended s true) row.status_of_life (u8_in any) (u8_format _) (λ a g. refl)

  life_tags : (n : ℕ) (a : Life) → (u8_in (from_to 0 2)).Fits n → (row.life_by_code frames n).Fits a
      → row.life_code a ≡ n
  life_tags zero a f g = ap row.life_code (sym g.1)
  life_tags (suc zero) a f g = ap row.life_code (sym g.1)
  life_tags (suc (suc zero)) a f g = ap row.life_code (sym g.1)
  life_tags (suc (suc (suc n))) a f g =
      let r = range_is 0 2 (suc (suc (suc n))) f.1 in absurd (omega arith)

pub process_format : (frames processes : ℕ) → IsFormat (row.process_row frames processes)
process_format frames processes =
    as_format (λ x. record { parent = x.0; life = x.1 }) (λ p. (p.parent, p.life))
    (row.process_fields frames processes)
    (then_format _ _ (n32 _) (λ _ _.
    tagged_format row.life_code (from_to 0 2) (row.life_by_code frames) (life_is frames)
    (life_tags frames)))
    (λ a fits. refl)

-- ---- pipes, waiters and frames

pub pipe_format : IsFormat row.pipe_row
pipe_format = with_count_format (u16_in (from_to 0 4096)) bytes (n16 _) bytes_format
    (λ n xs fits. fits.0)

pub sleepers_format : (given frames : ℕ) → IsFormat (row.sleeper_rows given frames)
sleepers_format given frames = with_count_format (u8_in any)
    (λ n. many n (row.sleeper_row given frames)) (u8_format _)
    (λ n. many_format n _
    (as_format row.to_sleeper row.of_sleeper (row.sleeper_fields given frames)
    (then_format _ _ (n32 _) (λ _ _.
    then_format _ _ (n32 _) (λ _ _. n16 _)))
    (λ a fits. refl)))
    (λ n xs fits. many_length n (row.sleeper_row given frames) xs fits)

module _ (given : ℕ) where
  frame_is : (n : ℕ) → (u8_in (from_to 0 2)).Fits n → IsFormat (row.frame_by_code given n)
  frame_is zero f = as_format (λ _. (Free, [])) row.owner_thread (u32_in (just 0)) (n32 _)
      (λ a g. sym (just_is 0 a g.1))
  frame_is (suc zero) f =
      as_format (λ x. (Shared, x.1)) (λ f. (row.owner_thread f, f.1)) row.shared_fields
      (then_format _ _ (n32 _) (λ _ _. bytes_format 4096))
      (λ a g. ap (λ n. (n, a.1)) (sym (just_is 0 a.0 g.0.1)))
  frame_is (suc (suc n)) f =
      as_format (λ x. (Of x.0, x.1)) (λ f. (row.owner_thread f, f.1)) (row.owned_fields given)
      (then_format _ _ (n32 _) (λ _ _. bytes_format 4096)) (λ a g. refl)

  frame_tags : (n : ℕ) (a : Owner × List ℕ) → (u8_in (from_to 0 2)).Fits n
      → (row.frame_by_code given n).Fits a → row.owner_code a ≡ n
  frame_tags zero a f g = ap row.owner_code (sym g.1)
  frame_tags (suc zero) a f g = ap row.owner_code (sym g.1)
  frame_tags (suc (suc zero)) a f g = ap row.owner_code (sym g.1)
  frame_tags (suc (suc (suc n))) a f g =
      let r = range_is 0 2 (suc (suc (suc n))) f.1 in absurd (omega arith)

  pub frame_format : IsFormat (row.frame_row given)
  frame_format =
      tagged_format row.owner_code (from_to 0 2) (row.frame_by_code given) frame_is frame_tags

-- ---- all of it

pub body_format : (h : row.Header) → IsFormat (row.group_body h)
body_format h =
    then_format _ _ (many_format h.processes _ (process_format h.config.frames h.processes)) (λ _ _.
    then_format _ _ (threads_format h.threads h.processes) (λ _ _.
    then_format _ _ (many_format 64 _ pipe_format) (λ _ _.
    then_format _ _ (sleepers_format h.threads h.config.frames) (λ _ _.
    many_format h.config.frames _ (frame_format h.threads)))))

pub group_format : IsFormat row.group_row
group_format = as_format row.to_group row.of_group row.group_fields
    (then_format _ _ header_format (λ h _. body_format h)) back
  where
    back : (a : row.Header × row.BodyFields) → row.group_fields.Fits a
        → row.of_group (row.to_group a) ≡ a
    back (h, (processes, rest)) fits =
        let n = many_length h.processes (row.process_row h.config.frames h.processes) processes
        fits.1.0 in
        rw n refl
