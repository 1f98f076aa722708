-- The text of a saved group in a lawful world is short enough for a file.
use Rattle.std.proofs.Common.{◌≡◌, ℕ, zero, suc, ◌+◌, ◌*◌, ◌≤◌, true, false, List, [], ◌∷◌}
use Rattle.std.proofs.Common.{length, reverse}
use Rattle.std.proofs.Common.{◌++◌, Ok, arith}
use Rattle.std.proofs.Math.Nat.{mul-le-mul_right}
use Rattle.std.proofs.lemmas.List.{length-append}
use Rattle.dos_world.specs.Lawful.{Lawful}
use Rattle.dos_world.specs.World.{Process, Life, live, ended}
use Rattle.dos_world.specs.World.{all_holdings}
use Rattle.dos_world.specs.SignalCalls.{is_action}
use Rattle.text_fields.specs.Formats.{Format, bytes, u8_in, u16_in, u32_in, ◌then◌, seen_as, tagged}
use Rattle.text_fields.specs.Formats.{listed, list_text, ListFits, many, with_count, from_to}
use Rattle.text_fields.specs.Formats.{ascending, any}
use Rattle.group_text.specs.GroupText as rows
use Rattle.group_text.specs.GroupText.{grouptext, group_row}
use Rattle.group_text.specs.Groups.{SavedGroup, world_in}
use Rattle.group_text.specs.Ranges.{may_mask, may_pend}
use Rattle.group_text.proofs.GroupLaws.{groups_are_spelled}
use Rattle.group_text.proofs.RowLaws.{range_is}
use Rattle.group_files.specs.Judging.{group_verdict, longest_group}
use Rattle.group_files.proofs.GroupVerdicts.{group_accepted}

-- ---- formats

-- what fits the format has a text of at most so many bytes
AtMost : {A : Type 0} → ℕ → Format A → Type 0
AtMost {A = A} most form = (a : A) → form.Fits a → length (form.text a) ≤ most

some_bytes : (n : ℕ) → AtMost n (bytes n)
unfolding AtMost
some_bytes n a fits = omega (arith, fits.0)

byte : (test : ℕ → _) → AtMost 1 (u8_in test)
unfolding AtMost
byte test a fits = omega arith

half : (test : ℕ → _) → AtMost 2 (u16_in test)
unfolding AtMost
half test a fits = omega arith

word : (test : ℕ → _) → AtMost 4 (u32_in test)
unfolding AtMost
word test a fits = omega arith

both : {A B : Type 0} (m n : ℕ) (first : Format A) (second : A → Format B) → AtMost m first
    → ((a : A) → first.Fits a → AtMost n (second a)) → AtMost (m + n) (first then second)
unfolding AtMost
both m n first second one two x fits =
    omega (
      arith,
      length-append (first.text x.0) ((second x.0).text x.1),
      one x.0 fits.0,
      two x.0 fits.0 x.1 fits.1,
    )

seen : {A B : Type 0} (m : ℕ) (to : A → B) (from : B → A) (form : Format A) → AtMost m form
    → AtMost m (seen_as to from form)
unfolding AtMost
seen m to from form short b fits = short (from b) fits.0

by_tag : {A : Type 0} (m : ℕ) (tag : A → ℕ) (test : ℕ → _) (form : ℕ → Format A)
    → ((n : ℕ) → AtMost m (form n)) → AtMost (suc m) (tagged tag test form)
unfolding AtMost
by_tag m tag test form short a fits = omega (arith, short (tag a) a fits.1)

module _ {A S : Type 0} (m : ℕ) (one : S → Format A) (next : S → A → S)
    (short : (s : S) → AtMost m (one s)) where
  rising : (n : ℕ) (s : S) → AtMost (n * m) (listed one next n s)
  unfolding AtMost
  rising zero s [] fits = omega arith
  rising zero s (x ∷ xs) fits = absurd fits
  rising (suc n) s [] fits = absurd fits
  rising (suc n) s (x ∷ xs) fits =
      omega (
        arith,
        length-append ((one s).text x) (list_text one next (next s x) xs),
        short s x fits.0,
        rising n (next s x) xs fits.1,
      )

so_many : {A : Type 0} (m n : ℕ) (form : Format A) → AtMost m form → AtMost (n * m) (many n form)
so_many m n form short = rising m (λ (s : ℕ). form) (λ s x. s) (λ s. short) n 0

up_to : {A : Type 0} (m n k : ℕ) (form : Format A) → n ≤ k → AtMost (n * m) form
    → AtMost (k * m) form
unfolding AtMost
up_to m n k form few short a fits = omega (arith, short a fits, mul-le-mul_right m few)

counted : {A : Type 0} (m n : ℕ) (count : Format ℕ) (lists : ℕ → Format (List A)) → AtMost m count
    → ((k : ℕ) → count.Fits k → AtMost n (lists k)) → AtMost (m + n) (with_count count lists)
unfolding AtMost
counted m n count lists one two xs fits =
    both m n count lists one two (length xs, xs) fits.0

-- ---- threads, pipes, sleepers and frames

held_short : (n : ℕ) → AtMost 4 (rows.held_by_code n)
unfolding AtMost
held_short zero held fits = omega arith
held_short (suc n) held fits = omega arith

registers_short : AtMost 133 rows.registers_row
registers_short = seen 133 rows.to_registers rows.of_registers rows.register_fields
    (both 4 129 _ _ (word any) (λ pc _.
    both 124 5 _ _ (so_many 4 31 _ (word any)) (λ numbers _.
    by_tag 4 rows.held_code (from_to 0 1) rows.held_by_code held_short)))

saved_short : AtMost 549 rows.saved_rows
saved_short = seen 549 reverse reverse rows.saved_in_order
    (counted 1 548 _ (λ depth. many depth rows.saved_row) (byte _)
    (λ depth few. up_to 137 depth 4 _ (range_is 0 4 depth few.1).1
    (so_many 137 depth rows.saved_row (both 133 4 _ _ registers_short (λ _ _. word _)))))

thread_short : (given processes least : ℕ) → AtMost 703 (rows.thread_row given processes least)
thread_short given processes least =
    seen 703 rows.to_thread rows.of_thread (rows.thread_fields given processes least)
    (both 4 699 _ _ (word (from_to least given)) (λ _ _.
    both 4 695 _ _ (word (from_to 1 processes)) (λ _ _.
    both 1 694 rows.state_row _ (seen 1 rows.state_by_code rows.state_code _ (byte (from_to 0 2)))
    (λ _ _.
    both 133 561 rows.registers_row _ registers_short (λ _ _.
    both 4 557 _ _ (word any) (λ _ _.
    both 4 553 _ _ (word may_pend) (λ _ _.
    both 4 549 _ _ (word may_mask) (λ _ _. saved_short))))))))

threads_short : (given processes : ℕ) → AtMost 44993 (rows.thread_rows given processes)
threads_short given processes =
    counted 1 44992 (u8_in (from_to 0 64))
    (λ n. ascending (λ t. t.0) (rows.thread_row given processes) n 1) (byte (from_to 0 64))
    (λ n few. up_to 703 n 64 _ (range_is 0 64 n few.1).1
    (rising 703 (rows.thread_row given processes) (λ s t. suc t.0) (thread_short given processes) n
    1))

pipe_bytes : (n : ℕ) → n ≤ 4096 → AtMost 4096 (bytes n)
unfolding AtMost
pipe_bytes n few held fits = omega (arith, few, fits.0)

pipe_short : AtMost 4098 rows.pipe_row
pipe_short = counted 2 4096 (u16_in (from_to 0 4096)) bytes (half (from_to 0 4096))
    (λ n few. pipe_bytes n (range_is 0 4096 n few.1).1)

sleeper_short : (given frames : ℕ) → AtMost 10 (rows.sleeper_row given frames)
sleeper_short given frames =
    seen 10 rows.to_sleeper rows.of_sleeper (rows.sleeper_fields given frames)
    (both 4 6 _ _ (word _) (λ _ _. both 4 2 _ _ (word _) (λ _ _. half _)))

sleepers_short : (given frames : ℕ) → AtMost 2551 (rows.sleeper_rows given frames)
sleepers_short given frames =
    counted 1 2550 (u8_in any) (λ n. many n (rows.sleeper_row given frames)) (byte any)
    (λ n few. up_to 10 n 255 _ (omega (arith, few.0))
    (so_many 10 n _ (sleeper_short given frames)))

frame_by_code_short : (given n : ℕ) → AtMost 4100 (rows.frame_by_code given n)
unfolding AtMost
frame_by_code_short given zero f fits = omega arith
frame_by_code_short given (suc zero) f fits = omega (arith, fits.0.1.0)
frame_by_code_short given (suc (suc n)) f fits = omega (arith, fits.0.1.0)

frame_short : (given : ℕ) → AtMost 4101 (rows.frame_row given)
frame_short given = by_tag 4100 rows.owner_code (from_to 0 2) (rows.frame_by_code given)
    (frame_by_code_short given)

-- ---- processes, of which few live

page_short : (frames least : ℕ) → AtMost 10 (rows.page_row frames least)
page_short frames least = seen 10 rows.to_page rows.of_page (rows.page_fields frames least)
    (both 4 6 _ _ (word _) (λ _ _.
    both 4 2 _ _ (word _) (λ _ _. both 1 1 _ _ (byte _) (λ _ _. byte _))))

space_short : (frames : ℕ) → frames ≤ 16384 → AtMost 163844 (rows.space_row frames)
space_short frames few =
    counted 4 163840 (u32_in (from_to 0 frames))
    (λ n. ascending (λ e. e.0) (rows.page_row frames) n 1) (word (from_to 0 frames))
    (λ n fits. up_to 10 n 16384 _ (omega (arith, few, (range_is 0 frames n fits.1).1))
    (rising 10 (rows.page_row frames) (λ s e. suc e.0) (page_short frames) n 1))

descriptor_short : AtMost 2 rows.descriptor_row
unfolding AtMost
descriptor_short descriptor fits = omega arith

holdings_short : (frames : ℕ) → frames ≤ 16384 → AtMost 164032 (rows.holdings_row frames)
holdings_short frames few =
    seen 164032 rows.to_holdings rows.of_holdings (rows.holding_fields frames)
    (both 124 163908 _ _ (so_many 4 31 _ (word is_action)) (λ _ _.
    both 64 163844 _ _ (so_many 2 32 rows.descriptor_row descriptor_short)
    (λ _ _. space_short frames few)))

abbrev lives : Life → ℕ
lives (live h) = 1
lives (ended status collected) = 0

life_short : (frames : ℕ) (life : Life) → frames ≤ 16384 → (rows.life_row frames).Fits life
    → length ((rows.life_row frames).text life) ≤ 2 + 164032 * lives life
unfolding AtMost
life_short frames (live h) few fits = omega (arith, holdings_short frames few h fits.1.0.1)
life_short frames (ended status true) few fits = omega arith
life_short frames (ended status false) few fits = omega arith

one_more : (parent : ℕ) (life : Life) (ps : List Process)
    → length (all_holdings (record { parent = parent; life = life } ∷ ps))
    ≡ lives life + length (all_holdings ps)
one_more parent (live h) ps = omega arith
one_more parent (ended status collected) ps = omega arith

module _ (frames processes : ℕ) (few : frames ≤ 16384) where
  abbrev row : Format Process
  row = rows.process_row frames processes

  processes_short : (n s : ℕ) (ps : List Process)
      → ListFits (λ (s : ℕ). row) (λ s x. s) n s ps
      → length (list_text (λ (s : ℕ). row) (λ s x. s) s ps)
      ≤ n * 6 + 164032 * length (all_holdings ps)
  processes_short zero s [] fits = omega arith
  processes_short zero s (p ∷ ps) fits = absurd fits
  processes_short (suc n) s [] fits = absurd fits
  processes_short (suc n) s (p ∷ ps) fits =
      omega (
        arith,
        length-append (row.text p) (list_text (λ (s : ℕ). row) (λ s x. s) s ps),
        life_short frames p.life few fits.0.0.1,
        one_more p.parent p.life ps,
        processes_short n s ps fits.1,
      )

-- ---- the whole text

config_short : AtMost 12 rows.config_row
config_short = seen 12 rows.to_config rows.of_config rows.config_fields
    (both 4 8 _ _ (word (from_to 16 65536)) (λ _ _.
    both 4 4 _ _ (word (from_to 1 1000000)) (λ _ _. word (from_to 16 16384))))

header_short : AtMost 60 rows.header_row
header_short = seen 60 rows.to_header rows.of_header rows.header_fields
    (both 32 28 _ _ (some_bytes 32) (λ _ _.
    both 4 24 _ _ (word any) (λ _ _.
    both 12 12 rows.config_row _ config_short (λ config _.
    both 4 8 _ _ (word (from_to 0 config.rounds)) (λ _ _.
    both 4 4 _ _ (word (from_to 1 65535)) (λ _ _. word (from_to 1 65535)))))))

-- six texts, one behind the other
six_lengths : (a b c d e f : List ℕ) → length (a ++ (b ++ (c ++ (d ++ (e ++ f)))))
    ≡ length a + (length b + (length c + (length d + (length e + length f))))
six_lengths a b c d e f = omega (
  arith,
  length-append a (b ++ (c ++ (d ++ (e ++ f)))),
  length-append b (c ++ (d ++ (e ++ f))),
  length-append c (d ++ (e ++ f)),
  length-append d (e ++ f),
  length-append e f,
)

group_is_short : (g : SavedGroup) → group_row.Fits g → length (all_holdings g.processes) ≤ 32
    → length (grouptext g) ≤ longest_group
unfolding AtMost
group_is_short g fits few =
    let h = rows.header_in g in
    let header = fits.0.0.0 in
    let frames : g.config.frames ≤ 16384 =
    (range_is 16 16384 g.config.frames header.1.1.0.0.1.1.1).1 in
    let given : length g.processes ≤ 65535 =
    (range_is 1 65535 (length g.processes) header.1.1.1.1.1.1).1 in
    let body = fits.0.1 in
    let all = processes_short g.config.frames h.processes frames h.processes 0 g.processes body.0 in
    let pages : length ((many g.config.frames (rows.frame_row g.given)).text g.frames)
    ≤ 16384 * 4101 = up_to 4101 g.config.frames 16384
    (many g.config.frames (rows.frame_row g.given)) frames
    (so_many 4101 g.config.frames (rows.frame_row g.given) (frame_short g.given)) g.frames
    body.1.1.1.1 in
    let whole : length (group_row.text g) ≡ _ = six_lengths (rows.header_row.text h)
    ((many h.processes (rows.process_row g.config.frames h.processes)).text g.processes)
    ((rows.thread_rows g.given h.processes).text g.threads)
    ((many 64 rows.pipe_row).text g.pipes)
    ((rows.sleeper_rows g.given g.config.frames).text g.sleepers)
    ((many g.config.frames (rows.frame_row g.given)).text g.frames) in
    omega (
      arith,
      whole,
      header_short h fits.0.0,
      all,
      given,
      few,
      threads_short g.given h.processes g.threads body.1.0,
      so_many 4098 64 rows.pipe_row pipe_short g.pipes body.1.1.0,
      sleepers_short g.given g.config.frames g.sleepers body.1.1.1.0,
      pages,
    )

pub written_is_taken : (g : SavedGroup) → group_row.Fits g → Lawful (world_in g)
    → group_verdict (grouptext g) ≡ Ok g
written_is_taken g fits lawful = group_accepted (grouptext g) g
    (group_is_short g fits lawful.limits.processes) (groups_are_spelled.again g fits) lawful
