-- A group whose fields fit is in a world whose parts are in range: what is left of lawfulness is
-- how the parts agree.
use Rattle.std.proofs.Common.{◌≡◌, ◌≢◌, ℕ, zero, suc, ◌+◌, ◌-◌, ◌%◌, ◌^◌, ◌<◌, ◌≤◌, Bool}
use Rattle.std.proofs.Common.{true}
use Rattle.std.proofs.Common.{false, not, ◌&&◌, ◌||◌, List, [], ◌∷◌, length, map, drop}
use Rattle.std.proofs.Common.{refl}
use Rattle.std.proofs.Common.{sym, ap, subst, arith, Option, Some, None, inl, inr, leb}
use Rattle.std.specs.Prelude.{All, AllPairs, IfSome, reverse}
use Rattle.std.specs.Prelude.{nat_lt, slice_index, ◌==◌}
use Rattle.std.proofs.lemmas.Bool.{eqb-true, leb-true, ltb-true, and_parts, not-true}
use Rattle.std.proofs.lemmas.List.{get_or_default, length-reverse, reverse-reverse, get_or-reverse}
use Rattle.std.proofs.lemmas.List.{length-map}
use Rattle.dos_world.specs.Lawful.{AreHoldings}
use Rattle.proc_table.specs.Spread.{AreRising}
use Rattle.std.proofs.lemmas.List.Elements.{All-nil, All-cons}
use Rattle.dos_world.specs.World.{Life, live, ended, Holdings, Thread, Registers, Sleeper}
use Rattle.dos_world.specs.World.{has_bit, page_size, code_unit}
use Rattle.dos_world.specs.SignalCalls.{is_action}
use Rattle.dos_world.specs.Lawful.{IsWord, IsPending, IsMask, IsAction, IsEnd, IsPage}
use Rattle.dos_world.specs.Lawful.{AreRegisters, IsSaved, IsSleeper, IsPipe}
use Rattle.dos_world.specs.declared.Entry.{Entry}
use Rattle.dos_world.specs.declared.End.{End}
use Rattle.dos_world.specs.declared.End.TheVariants.{Input, Output, Error, PipeRead, PipeWrite}
use Rattle.text_fields.specs.Formats.{Format, many, ListFits, from_to, u32_in}
use Rattle.text_fields.specs.Formats.{any, tagged}
use Rattle.group_text.specs.Ranges.{may_mask}
use Rattle.group_text.specs.GroupText as row

-- ---- lists

pub many_all : {A : Type 0} (form : Format A) (P : A → Type 0) → ((x : A) → form.Fits x → P x)
    → (n : ℕ) (xs : List A) → (many n form).Fits xs → All P xs
many_all form P f zero [] fits = All-nil P
many_all form P f zero (x ∷ xs) fits = absurd fits
many_all form P f (suc n) [] fits = absurd fits
many_all form P f (suc n) (x ∷ xs) fits =
    All-cons P x xs (f x fits.0) (many_all form P f n xs fits.1)

pub many_count : {A : Type 0} (form : Format A) (n : ℕ) (xs : List A) → (many n form).Fits xs
    → length xs ≡ n
many_count form zero [] fits = refl
many_count form zero (x ∷ xs) fits = absurd fits
many_count form (suc n) [] fits = absurd fits
many_count form (suc n) (x ∷ xs) fits = ap suc (many_count form n xs fits.1)

-- ---- numbers

pub in_range : (low high n : ℕ) → from_to low high n ≡ true → (low ≤ n) × (n ≤ high)
in_range low high n e =
    let p = and_parts (leb low n) (leb n high) e in (leb-true _ _ p.0, leb-true _ _ p.1)

action_range : (a : ℕ) → is_action a ≡ true → IsAction a
action_range a h = go (a == 1) refl h
  where
    go : (b : Bool) → (a == 1) ≡ b → (b || ((a % code_unit == 0) && nat_lt a 0xF0000000)) ≡ true
        → IsAction a
    go true e q = inl (eqb-true a 1 e)
    go false e q =
        let p = and_parts (a % code_unit == 0) (nat_lt a 0xF0000000) q in
        inr (eqb-true (a % code_unit) 0 p.0, ltb-true a 0xF0000000 p.1)

mask_range : (set : ℕ) → set < 2 ^ 32 → may_mask set ≡ true → IsMask set
mask_range set word h =
    let q = and_parts (not (has_bit set 0)) (not (has_bit set 9)) h in
    (word, not-true (has_bit set 0) q.0, not-true (has_bit set 9) q.1)

-- ---- registers and threads

held_range : (o : Option ℕ) → row.held_row.Fits o → IfSome o IsWord
held_range None fits = tt
held_range (Some a) fits = fits.1.0.0

pub registers_range : (r : Registers) → row.registers_row.Fits r → AreRegisters r
registers_range r fits =
    let whole : record { pc = r.pc; numbers = 0 ∷ drop 1 r.numbers; held = r.held } ≡ r = fits.1 in
    let numbers = fits.0.1.0 in
    subst AreRegisters whole (record {
      pc = fits.0.0.0;
      count = ap suc (many_count (u32_in any) 31 (drop 1 r.numbers) numbers);
      words = All-cons IsWord 0 (drop 1 r.numbers) (omega arith)
          (many_all (u32_in any) IsWord (λ x f. f.0) 31 (drop 1 r.numbers) numbers);
      first = refl;
      held = held_range r.held fits.0.1.1;
    })

saved_range : (s : Registers × ℕ) → row.saved_row.Fits s → IsSaved s
saved_range s fits = (registers_range s.0 fits.0, mask_range s.1 fits.1.0 fits.1.1)

-- ---- what a process has

pipe_range : (kind pipe : ℕ) → row.is_pipe_of (suc (suc (suc (suc kind)))) pipe ≡ true → pipe < 64
pipe_range kind pipe e = let r = in_range 0 63 pipe e in omega (arith, r.1)

end_range : (end : Option End) → row.descriptor_row.Fits end → IsEnd end
end_range (Some (PipeRead pipe)) fits = pipe_range 0 pipe fits.1.0.1
end_range (Some (PipeWrite pipe)) fits = pipe_range 1 pipe fits.1.0.1
end_range (Some Input) fits = tt
end_range (Some Output) fits = tt
end_range (Some Error) fits = tt
end_range None fits = tt

page_range : (frames least : ℕ) (e : ℕ × Entry) → 0 < frames → 1 ≤ least
    → (row.page_row frames least).Fits e → IsPage frames e
page_range frames least e some low fits =
    let page = in_range least 0xEFFFF e.0 fits.0.0.1 in
    let frame = in_range 0 (frames - 1) e.1.frame fits.0.1.0.1 in
    (omega (arith, low, page.0), page.1, omega (arith, some, frame.1))

pub pages_range : (frames n least : ℕ) (space : List (ℕ × Entry)) → 0 < frames → 1 ≤ least
    → ListFits (row.page_row frames) (λ s x. suc x.0) n least space → All (IsPage frames) space
pages_range frames zero least [] some low fits = All-nil (IsPage frames)
pages_range frames zero least (e ∷ space) some low fits = absurd fits
pages_range frames (suc n) least [] some low fits = absurd fits
pages_range frames (suc n) least (e ∷ space) some low fits =
    All-cons (IsPage frames) e space (page_range frames least e some low fits.0)
    (pages_range frames n (suc e.0) space some (omega arith) fits.1)

-- ---- who sleeps, and pipes

pub sleeper_range : (given frames : ℕ) (s : Sleeper) → 0 < frames
    → (row.sleeper_row given frames).Fits s → IsSleeper frames s
sleeper_range given frames s some fits =
    let frame = in_range 0 (frames - 1) s.frame fits.0.1.0.1 in
    let q = and_parts (s.offset % 4 == 0) (nat_lt s.offset page_size) fits.0.1.1.1 in (
      omega (arith, some, frame.1),
      eqb-true (s.offset % 4) 0 q.0,
      ltb-true s.offset page_size q.1,
    )

pub pipe_bytes_range : (bytes : List ℕ) → row.pipe_row.Fits bytes → IsPipe bytes
pipe_bytes_range bytes fits = (
  (in_range 0 4096 (length bytes) fits.0.0.1).1,
  λ k d lt. subst (λ n. n < 256) (get_or_default bytes k 0 d lt) (fits.0.1.1 k),
)

-- ---- live threads

all_reverse : {A : Type 0} (P : A → Type 0) (xs : List A) → All P xs → All P (reverse xs)
all_reverse P xs all k d lt =
    let n : length (reverse xs) ≡ length xs = length-reverse xs in
    let i : ℕ = length xs - 1 - k in
    subst P (sym (get_or-reverse xs k d (omega (arith, n, lt)))) (all i d (omega (arith, n, lt)))

-- what the ranges say of a live thread
abbrev pub ThreadInRange : ℕ × Thread → Type 0
ThreadInRange e = AreRegisters e.1.registers × IsPending e.1.pending × IsMask e.1.mask
    × ((length e.1.saved ≤ 4) × All IsSaved e.1.saved)

saved_all : (saved : List (Registers × ℕ)) → row.saved_rows.Fits saved
    → (length saved ≤ 4) × All IsSaved saved
saved_all saved fits =
    let len : length (reverse saved) ≡ length saved = length-reverse saved in (
      omega (arith, len, (in_range 0 4 (length (reverse saved)) fits.0.0.0.1).1),
      subst (All IsSaved) (reverse-reverse saved) (all_reverse IsSaved (reverse saved)
          (many_all row.saved_row IsSaved saved_range (length (reverse saved)) (reverse saved)
          fits.0.0.1)),
    )

pub thread_range : (given processes least : ℕ) (e : ℕ × Thread)
    → (row.thread_row given processes least).Fits e → ThreadInRange e
thread_range given processes least e fits =
    let f = fits.0.1.1.1 in (
      registers_range e.1.registers f.0,
      (f.1.1.0.0, not-true (has_bit e.1.pending 0) f.1.1.0.1),
      mask_range e.1.mask f.1.1.1.0.0 f.1.1.1.0.1,
      saved_all e.1.saved f.1.1.1.1,
    )

pub threads_range : (given processes n least : ℕ) (xs : List (ℕ × Thread))
    → ListFits (row.thread_row given processes) (λ s x. suc x.0) n least xs
    → AreRising least (given + 1) xs × All ThreadInRange xs
threads_range given processes zero least [] fits = (tt, All-nil ThreadInRange)
threads_range given processes zero least (e ∷ xs) fits = absurd fits
threads_range given processes (suc n) least [] fits = absurd fits
threads_range given processes (suc n) least (e ∷ xs) fits =
    let number = in_range least given e.0 fits.0.0.0.1 in
    let rest = threads_range given processes n (suc e.0) xs fits.1 in (
      (number.0, omega (arith, number.1), rest.0),
      All-cons ThreadInRange e xs (thread_range given processes least e fits.0) rest.1,
    )

-- ---- holdings

pages_from : (frames n least : ℕ) (space : List (ℕ × Entry))
    → ListFits (row.page_row frames) (λ s x. suc x.0) n least space → (i : ℕ) → i < length space
    → least ≤ slice_index (map (λ e. e.0) space) i
pages_from frames n least [] fits i lt = absurd (omega arith)
pages_from frames zero least (e ∷ space) fits i lt = absurd fits
pages_from frames (suc n) least (e ∷ space) fits zero lt =
    (in_range least 0xEFFFF e.0 fits.0.0.0.1).0
pages_from frames (suc n) least (e ∷ space) fits (suc i) lt =
    let here = in_range least 0xEFFFF e.0 fits.0.0.0.1 in
    let more = pages_from frames n (suc e.0) space fits.1 i (omega arith) in
    omega (arith, here.0, more)

pages_rise : (frames n least : ℕ) (space : List (ℕ × Entry))
    → ListFits (row.page_row frames) (λ s x. suc x.0) n least space → (i j : ℕ) → i < j
    → j < length space
    → slice_index (map (λ e. e.0) space) i < slice_index (map (λ e. e.0) space) j
pages_rise frames n least [] fits i j lt within = absurd (omega arith)
pages_rise frames zero least (e ∷ space) fits i j lt within = absurd fits
pages_rise frames (suc n) least (e ∷ space) fits i zero lt within = absurd (omega arith)
pages_rise frames (suc n) least (e ∷ space) fits zero (suc j) lt within =
    let more = pages_from frames n (suc e.0) space fits.1 j (omega arith) in omega (arith, more)
pages_rise frames (suc n) least (e ∷ space) fits (suc i) (suc j) lt within =
    pages_rise frames n (suc e.0) space fits.1 i j (omega arith) (omega arith)

pub holdings_range : (frames : ℕ) (h : Holdings) → 0 < frames → (row.holdings_row frames).Fits h
    → AllPairs (λ a b. a.1.frame ≢ b.1.frame) h.space → AreHoldings frames h
holdings_range frames h some fits apart =
    let pages = fits.0.1.1.0.1 in
    record {
      actions = (
        many_count (u32_in is_action) 31 h.actions fits.0.0,
        many_all (u32_in is_action) IsAction (λ a f. action_range a f.1) 31 h.actions
            fits.0.0,
      );
      descriptors = (
        many_count row.descriptor_row 32 h.descriptors fits.0.1.0,
        many_all row.descriptor_row IsEnd end_range 32 h.descriptors fits.0.1.0,
      );
      rising = λ k lt.
          let len : length (map (λ (e : ℕ × Entry). e.0) h.space) ≡ length h.space =
          length-map h.space (λ e. e.0) in
          pages_rise frames (length h.space) 1 h.space pages k (k + 1) (omega arith)
          (omega (arith, len, lt));
      pages = pages_range frames (length h.space) 1 h.space some (omega arith) pages;
      apart = apart;
    }

-- ---- processes

pub live_range : (frames : ℕ) (life : Life)
    → (tagged row.life_code (from_to 0 2) (row.life_by_code frames)).Fits life → (h : Holdings)
    → life ≡ live h → (row.holdings_row frames).Fits h
live_range frames (live k) fits h is =
    let same : k ≡ h = cc in subst (row.holdings_row frames).Fits same fits.1.0.1
live_range frames (ended s c) fits h is = absurd cc

pub status_range : (frames : ℕ) (life : Life)
    → (tagged row.life_code (from_to 0 2) (row.life_by_code frames)).Fits life
    → row.status_of_life life < 256
status_range frames (live k) fits = omega arith
status_range frames (ended s true) fits = fits.1.0.0
status_range frames (ended s false) fits = fits.1.0.0
