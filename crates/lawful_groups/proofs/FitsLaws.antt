-- What is saved of a lawful world is in the ranges of its text.
use Rattle.std.proofs.Common.{◌≡◌, ◌≢◌, ℕ, zero, suc, ◌+◌, ◌-◌, ◌*◌, ◌%◌, ◌<◌, ◌≤◌, Bool, true}
use Rattle.std.proofs.Common.{false, cond, not, ◌&&◌, ◌||◌, List, [], ◌∷◌, length, map, drop}
use Rattle.std.proofs.Common.{get_or, set}
use Rattle.std.proofs.Common.{slice_get, replicate, get_or-set_other}
use Rattle.std.proofs.Common.{refl, sym, ap, subst, ◌∙◌, arith, Option, Some, None, inl, inr}
use Rattle.std.specs.Prelude.{All, AllPairs, IfSome, reverse, count_by}
use Rattle.std.specs.Prelude.{nat_lt, slice_index, slice_index_or, ◌==◌}
use Rattle.std.specs.List.Sorted.{IsStrictlyIncreasing}
use Rattle.std.proofs.lemmas.Bool.{le-leb, lt-ltb, eq-eqb}
use Rattle.std.proofs.lemmas.List.{length-reverse, reverse-reverse, get_or-reverse}
use Rattle.std.proofs.lemmas.List.{length-replicate, get_or-replicate, length-take-le, length-drop}
use Rattle.std.proofs.lemmas.List.Sums.{sum_by-cons, sum_by-set, count_by-le-length}
use Rattle.std.proofs.lemmas.List.Elements.{All-nil, All-cons, All-head, All-tail, All-take}
use Rattle.std.proofs.lemmas.List.Elements.{All-drop}
use Rattle.dos_world.specs.World.{Life, live, ended, Holdings, Process, Thread, Registers, Sleeper}
use Rattle.dos_world.specs.World.{page_size, code_unit, all_holdings}
use Rattle.dos_world.specs.World.{page_of}
use Rattle.dos_world.specs.Numbered.{map_from}
use Rattle.dos_world.specs.SignalCalls.{is_action}
use Rattle.dos_world.specs.Lawful.{IsWord, IsByte, IsPending, IsMask, IsAction, IsEnd, IsPage}
use Rattle.dos_world.specs.Lawful.{AreRegisters, IsSaved, IsSleeper, IsPipe, AreHoldings}
use Rattle.dos_world.specs.Lawful.{HasStatus}
use Rattle.dos_world.specs.declared.Entry.{Entry}
use Rattle.dos_world.specs.declared.End.{End}
use Rattle.dos_world.specs.declared.End.TheVariants.{Input, Output, Error, PipeRead, PipeWrite}
use Rattle.dos_world.specs.declared.ThreadState.{ThreadState}
use Rattle.dos_world.specs.declared.ThreadState.TheVariants.{Ready, Retry, Asleep}
use Rattle.dos_world.specs.declared.Owner.{Owner}
use Rattle.dos_world.specs.declared.Owner.TheVariants.{Free, Shared, Of}
use Rattle.proc_table.specs.Spread.{AreRising}
use Rattle.text_fields.specs.Formats.{AreBytes, Format, many, ListFits, from_to, u32_in, any}
use Rattle.group_text.specs.Groups.{frame_in, page_if_used}
use Rattle.group_text.specs.Ranges.{may_pend, may_mask}
use Rattle.group_text.specs.GroupText as row

-- ---- lists and numbers

pub all_many : {A : Type 0} (form : Format A) (P : A → Type 0) → ((x : A) → P x → form.Fits x)
    → (n : ℕ) (xs : List A) → length xs ≡ n → All P xs → (many n form).Fits xs
all_many form P f zero [] len all = tt
all_many form P f zero (x ∷ xs) len all = absurd (omega arith)
all_many form P f (suc n) [] len all = absurd (omega arith)
all_many form P f (suc n) (x ∷ xs) len all =
    (f x (All-head P x xs all), all_many form P f n xs (omega arith) (All-tail P x xs all))

pub within : (low high n : ℕ) → low ≤ n → n ≤ high → from_to low high n ≡ true
within low high n l h = rw (le-leb low n l, le-leb n high h) refl

not_false : (b : Bool) → b ≡ false → not b ≡ true
not_false b e = rw e refl

-- ---- registers and threads

action_fits : (a : ℕ) → IsAction a → (u32_in is_action).Fits a
action_fits a (inl e) = (omega arith, rw (eq-eqb a 1 e) refl)
action_fits a (inr h) = (omega (arith, h.1), by (a == 1))
  where
    by : (b : Bool) → (b || ((a % code_unit == 0) && nat_lt a 0xF0000000)) ≡ true
    by true = refl
    by false = rw (eq-eqb (a % code_unit) 0 h.0, lt-ltb a 0xF0000000 h.1) refl

mask_fits : (set : ℕ) → IsMask set → (u32_in may_mask).Fits set
mask_fits set h = (h.0, rw (h.1, h.2) refl)

pending_fits : (set : ℕ) → IsPending set → (u32_in may_pend).Fits set
pending_fits set h = (h.0, rw h.1 refl)

held_fits : (o : Option ℕ) → IfSome o IsWord → row.held_row.Fits o
held_fits None h = ((omega arith, refl), ((omega arith, refl), refl))
held_fits (Some a) h = ((omega arith, refl), ((h, refl), refl))

numbers_fit : (numbers : List ℕ) → length numbers ≡ 32 → All IsWord numbers
    → slice_index numbers 0 ≡ 0
    → (many 31 (u32_in any)).Fits (drop 1 numbers) × (0 ∷ drop 1 numbers ≡ numbers)
numbers_fit [] len all first = absurd (omega arith)
numbers_fit (x ∷ xs) len all first = (
  all_many (u32_in any) IsWord (λ n h. (h, refl)) 31 xs (omega arith) (All-tail IsWord x xs all),
  ap (λ n. n ∷ xs) (sym first),
)

pub registers_fit : (r : Registers) → AreRegisters r → row.registers_row.Fits r
registers_fit r are =
    let n = numbers_fit r.numbers are.count are.words are.first in (
      ((are.pc, refl), (n.0, held_fits r.held are.held)),
      ap (λ xs. let s : Registers = record { pc = r.pc; numbers = xs; held = r.held } in s) n.1,
    )

saved_fits : (s : Registers × ℕ) → IsSaved s → row.saved_row.Fits s
saved_fits s h = (registers_fit s.0 h.0, mask_fits s.1 h.1)

state_fits : (s : ThreadState) → row.state_row.Fits s
state_fits Ready = ((omega arith, refl), refl)
state_fits Retry = ((omega arith, refl), refl)
state_fits Asleep = ((omega arith, refl), refl)

all_reversed : {A : Type 0} (P : A → Type 0) (xs : List A) → All P xs → All P (reverse xs)
all_reversed P xs all k d lt =
    let n : length (reverse xs) ≡ length xs = length-reverse xs in
    let i : ℕ = length xs - 1 - k in
    subst P (sym (get_or-reverse xs k d (omega (arith, n, lt)))) (all i d (omega (arith, n, lt)))

saved_rows_fit : (saved : List (Registers × ℕ)) → length saved ≤ 4 → All IsSaved saved
    → row.saved_rows.Fits saved
saved_rows_fit saved few all =
    let n : length (reverse saved) ≡ length saved = length-reverse saved in (
      (
        (
          (omega (arith, n), within 0 4 (length (reverse saved)) (omega arith) (omega (arith, n))),
          all_many row.saved_row IsSaved saved_fits (length (reverse saved)) (reverse saved) refl
              (all_reversed IsSaved saved all),
        ),
        refl,
      ),
      reverse-reverse saved,
    )

-- what is known of a live thread
pub record ThreadFits (processes : ℕ) (e : ℕ × Thread) : Type 0 where
  pub process : (1 ≤ e.1.process) × (e.1.process ≤ processes)
  pub registers : AreRegisters e.1.registers
  pub budget : IsWord e.1.budget
  pub pending : IsPending e.1.pending
  pub mask : IsMask e.1.mask
  pub saved : (length e.1.saved ≤ 4) × All IsSaved e.1.saved

thread_fits : (given processes least : ℕ) (e : ℕ × Thread) → given ≤ 65535 → processes ≤ 65535
    → least ≤ e.0 → e.0 ≤ given → ThreadFits processes e
    → (row.thread_row given processes least).Fits e
thread_fits given processes least e few some low high are = (
  (
    (omega arith, within least given e.0 low high),
    (
      (
        omega (arith, are.process.1),
        within 1 processes e.1.process are.process.0 are.process.1,
      ),
      (
        state_fits e.1.state,
        (
          registers_fit e.1.registers are.registers,
          (
            (are.budget, refl),
            (
              pending_fits e.1.pending are.pending,
              (
                mask_fits e.1.mask are.mask,
                saved_rows_fit e.1.saved are.saved.0 are.saved.1,
              ),
            ),
          ),
        ),
      ),
    ),
  ),
  refl,
)

pub threads_fit : (given processes least : ℕ) (xs : List (ℕ × Thread)) → given ≤ 65535
    → processes ≤ 65535 → AreRising least (given + 1) xs → All (ThreadFits processes) xs
    → ListFits (row.thread_row given processes) (λ s x. suc x.0) (length xs) least xs
threads_fit given processes least [] few some rising all = tt
threads_fit given processes least (e ∷ xs) few some rising all = (
  thread_fits given processes least e few some rising.0 (omega (arith, rising.1))
      (All-head (ThreadFits processes) e xs all),
  threads_fit given processes (suc e.0) xs few some rising.2
      (All-tail (ThreadFits processes) e xs all),
)

-- ---- what a process has

end_fits : (end : Option End) → IsEnd end → row.descriptor_row.Fits end
end_fits None h = ((omega arith, refl), ((omega arith, refl), refl))
end_fits (Some Input) h = ((omega arith, refl), ((omega arith, refl), refl))
end_fits (Some Output) h = ((omega arith, refl), ((omega arith, refl), refl))
end_fits (Some Error) h = ((omega arith, refl), ((omega arith, refl), refl))
end_fits (Some (PipeRead pipe)) h = (
  (omega arith, refl),
  ((omega arith, within 0 63 pipe (omega arith) (omega arith)), refl),
)
end_fits (Some (PipeWrite pipe)) h = (
  (omega arith, refl),
  ((omega arith, within 0 63 pipe (omega arith) (omega arith)), refl),
)

entry_fits : (page frame : ℕ) (write exec shared : Bool)
    → row.to_page (row.of_page (
      page,
      record {
        frame = frame;
        write = write;
        exec = exec;
        shared = shared;
      },
    )) ≡ (page, record { frame = frame; write = write; exec = exec; shared = shared })
entry_fits page frame true true true = refl
entry_fits page frame true true false = refl
entry_fits page frame true false true = refl
entry_fits page frame true false false = refl
entry_fits page frame false true true = refl
entry_fits page frame false true false = refl
entry_fits page frame false false true = refl
entry_fits page frame false false false = refl

rights_fit : (write exec : Bool) (frame : ℕ) (shared : Bool)
    → (row.rights_of (record { frame = frame; write = write; exec = exec; shared = shared }) < 256)
    × (from_to 0 3 (row.rights_of (record {
      frame = frame;
      write = write;
      exec = exec;
      shared = shared;
    })) ≡ true)
rights_fit true true frame shared = (omega arith, refl)
rights_fit true false frame shared = (omega arith, refl)
rights_fit false true frame shared = (omega arith, refl)
rights_fit false false frame shared = (omega arith, refl)

flag_fits : (b : Bool) → (row.flag_of b < 256) × (from_to 0 1 (row.flag_of b) ≡ true)
flag_fits true = (omega arith, refl)
flag_fits false = (omega arith, refl)

page_fits : (frames least : ℕ) (e : ℕ × Entry) → frames ≤ 16384 → least ≤ e.0 → IsPage frames e
    → (row.page_row frames least).Fits e
page_fits frames least e few low is = (
  (
    (omega (arith, is.1), within least 0xEFFFF e.0 low is.1),
    (
      (omega (arith, is.2), within 0 (frames - 1) e.1.frame (omega arith) (omega (arith, is.2))),
      (rights_fit e.1.write e.1.exec e.1.frame e.1.shared, flag_fits e.1.shared),
    ),
  ),
  entry_fits e.0 e.1.frame e.1.write e.1.exec e.1.shared,
)

-- the pages of a space rise
abbrev pub RiseFrom : ℕ → List (ℕ × Entry) → Type 0
RiseFrom least [] = Unit {0}
RiseFrom least (e ∷ space) = (least ≤ e.0) × RiseFrom (suc e.0) space

rise_after : (e : ℕ × Entry) (space : List (ℕ × Entry))
    → IsStrictlyIncreasing (map (λ e. e.0) (e ∷ space)) → RiseFrom (suc e.0) space
rise_after e [] rising = tt
rise_after e (f ∷ space) rising = (
  rising 0 (omega arith),
  rise_after f space (λ k lt. subst
      (λ n. slice_index (map (λ e. e.0) (f ∷ space)) k
      < slice_index (map (λ e. e.0) (e ∷ f ∷ space)) n)
      {x = suc k + 1} {y = suc (k + 1)} (omega arith) (rising (suc k) (omega arith))),
)

pub rise_from : (space : List (ℕ × Entry)) → IsStrictlyIncreasing (map (λ e. e.0) space)
    → (frames : ℕ) → All (IsPage frames) space → RiseFrom 1 space
rise_from [] rising frames all = tt
rise_from (e ∷ space) rising frames all =
    ((All-head (IsPage frames) e space all).0, rise_after e space rising)

pages_fit : (frames least : ℕ) (space : List (ℕ × Entry)) → frames ≤ 16384 → RiseFrom least space
    → All (IsPage frames) space
    → ListFits (row.page_row frames) (λ s x. suc x.0) (length space) least space
pages_fit frames least [] few rise all = tt
pages_fit frames least (e ∷ space) few rise all = (
  page_fits frames least e few rise.0 (All-head (IsPage frames) e space all),
  pages_fit frames (suc e.0) space few rise.1 (All-tail (IsPage frames) e space all),
)

-- ---- no more pages than frames

abbrev OtherFrame : ℕ × Entry → ℕ × Entry → Type 0
OtherFrame a b = a.1.frame ≢ b.1.frame

abbrev yes : Bool → Bool
yes b = b

-- each frame is marked, and none stands twice: no more entries than marks
few_marked : (space : List (ℕ × Entry)) (marks : List Bool)
    → All (λ e. get_or marks e.1.frame false ≡ true) space → AllPairs OtherFrame space
    → length space ≤ count_by yes marks
few_marked [] marks all apart = omega arith
few_marked (e ∷ space) marks all apart =
    let frame : ℕ = e.1.frame in
    let here : get_or marks frame false ≡ true =
    All-head (λ x. get_or marks x.1.frame false ≡ true) e space all in
    let there : frame < length marks = marked_within marks frame here in
    omega (
      arith,
      few_marked space (set marks frame false) others
          (λ i j d less lt. apart (suc i) (suc j) d (omega arith) (omega arith)),
      sum_by-set (λ (b : Bool). cond {A = ℕ} b 1 0) marks frame false false there,
      ap (λ (b : Bool). cond {A = ℕ} b 1 0) here,
    )
  where
    marked_within : (marks : List Bool) (i : ℕ) → get_or marks i false ≡ true → i < length marks
    marked_within [] i h = cc
    marked_within (b ∷ marks) zero h = omega arith
    marked_within (b ∷ marks) (suc i) h = omega (arith, marked_within marks i h)

    others : All (λ x. get_or (set marks e.1.frame false) x.1.frame false ≡ true) space
    others k d lt =
        get_or-set_other marks e.1.frame (get_or space k d).1.frame false false
        (λ same. apart 0 (suc k) d (omega arith) (omega arith) (sym same))
        ∙ all (suc k) d (omega arith)

pub few_pages : (frames : ℕ) (space : List (ℕ × Entry)) → All (IsPage frames) space
    → AllPairs OtherFrame space → length space ≤ frames
few_pages frames space all apart =
    omega (
      arith,
      few_marked space (replicate frames true)
          (λ k d lt. get_or-replicate frames (get_or space k d).1.frame true false (all k d lt).2)
          apart,
      count_by-le-length yes (replicate frames true),
      length-replicate {A = Bool} frames true,
    )

-- ---- holdings and processes

holdings_fit : (frames : ℕ) (h : Holdings) → frames ≤ 16384 → AreHoldings frames h
    → (row.holdings_row frames).Fits h
holdings_fit frames h few are =
    let room = few_pages frames h.space are.pages are.apart in (
      (
        all_many (u32_in is_action) IsAction action_fits 31 h.actions are.actions.0 are.actions.1,
        (
          all_many row.descriptor_row IsEnd end_fits 32 h.descriptors are.descriptors.0
              are.descriptors.1,
          (
            (
              (omega (arith, room), within 0 frames (length h.space) (omega arith) room),
              pages_fit frames 1 h.space few (rise_from h.space are.rising frames are.pages)
                  are.pages,
            ),
            refl,
          ),
        ),
      ),
      refl,
    )

module _ (frames count : ℕ) (few : frames ≤ 16384) (some : count ≤ 65535) where
  abbrev HoldAll : List Holdings → Type 0
  HoldAll hs = All (AreHoldings frames) hs

  process_fits : (p : Process) → p.parent ≤ count → HoldAll (all_holdings (p ∷ []))
      → HasStatus p → (row.process_row frames count).Fits p
  process_fits p low held status =
      (((omega arith, within 0 count p.parent (omega arith) low), by p.life held status), refl)
    where
      by : (life : Life)
          → HoldAll (all_holdings ((record { parent = p.parent; life = life }) ∷ []))
          → HasStatus (record { parent = p.parent; life = life }) → (row.life_row frames).Fits life
      by (live h) held status = (
        (omega arith, refl),
        (
          (
            (omega arith, refl),
            holdings_fit frames h few (All-head (AreHoldings frames) h [] held),
          ),
          refl,
        ),
      )
      by (ended s true) held status = ((omega arith, refl), ((status, refl), refl))
      by (ended s false) held status = ((omega arith, refl), ((status, refl), refl))

  -- what the first has, and what the others have
  parted : (p : Process) (ps : List Process)
      → HoldAll (all_holdings (p ∷ ps))
      → HoldAll (all_holdings (p ∷ [])) × HoldAll (all_holdings ps)
  parted p ps all = by p.life all
    where
      by : (life : Life)
          → HoldAll (all_holdings ((record { parent = p.parent; life = life }) ∷ ps))
          → HoldAll (all_holdings ((record { parent = p.parent; life = life }) ∷ []))
          × HoldAll (all_holdings ps)
      by (live h) all = (
        All-cons (AreHoldings frames) h [] (All-head (AreHoldings frames) h (all_holdings ps) all)
            (All-nil (AreHoldings frames)),
        All-tail (AreHoldings frames) h (all_holdings ps) all,
      )
      by (ended s c) all = (All-nil (AreHoldings frames), all)

  pub processes_fit : (before : ℕ) (ps : List Process) → before + length ps ≤ count
      → ((i : ℕ) → IfSome (slice_get ps i) (λ p. p.parent ≤ before + i))
      → HoldAll (all_holdings ps) → All HasStatus ps
      → (many (length ps) (row.process_row frames count)).Fits ps
  processes_fit before [] room parents held statuses = tt
  processes_fit before (p ∷ ps) room parents held statuses =
      let parts = parted p ps held in
      let own : p.parent ≤ before + 0 = parents 0 in (
        process_fits p (omega (arith, own)) parts.0 (All-head HasStatus p ps statuses),
        processes_fit (suc before) ps (omega arith)
            (λ i. subst (λ n. IfSome (slice_get ps i) (λ q. q.parent ≤ n)) {x = before + suc i}
            (omega arith) (parents (suc i)))
            parts.1 (All-tail HasStatus p ps statuses),
      )

-- ---- pipes, sleepers and frames

are_bytes : (xs : List ℕ) → All IsByte xs → AreBytes xs
are_bytes [] all i = omega arith
are_bytes (x ∷ xs) all zero = All-head IsByte x xs all
are_bytes (x ∷ xs) all (suc i) = are_bytes xs (All-tail IsByte x xs all) i

pub pipe_fits : (bytes : List ℕ) → IsPipe bytes → row.pipe_row.Fits bytes
pipe_fits bytes is = (
  (
    (omega (arith, is.0), within 0 4096 (length bytes) (omega arith) is.0),
    (refl, are_bytes bytes is.1),
  ),
  refl,
)

pub sleeper_fits : (given frames : ℕ) (s : Sleeper) → given ≤ 65535 → frames ≤ 16384
    → IsSleeper frames s → (1 ≤ s.thread) × (s.thread ≤ given)
    → (row.sleeper_row given frames).Fits s
sleeper_fits given frames s few some is thread = (
  (
    (omega (arith, thread.1), within 1 given s.thread thread.0 thread.1),
    (
      (omega (arith, is.0), within 0 (frames - 1) s.frame (omega arith) (omega (arith, is.0))),
      (
        omega (arith, is.2),
        rw (eq-eqb (s.offset % 4) 0 is.1, lt-ltb s.offset page_size is.2) refl,
      ),
    ),
  ),
  refl,
)

-- who stands in a list is counted there
pub counted_there : (t : ℕ) (sleepers : List Sleeper) (k : ℕ) (d : Sleeper) → k < length sleepers
    → (get_or sleepers k d).thread ≡ t → 1 ≤ count_by (λ s. s.thread == t) sleepers
counted_there t [] k d lt e = absurd (omega arith)
counted_there t (s ∷ sleepers) zero d lt e =
    omega (
      arith,
      sum_by-cons (λ (x : Sleeper). cond {A = ℕ} (x.thread == t) 1 0) s sleepers,
      ap (λ (b : Bool). cond {A = ℕ} b 1 0) (eq-eqb s.thread t e),
    )
counted_there t (s ∷ sleepers) (suc k) d lt e =
    omega (
      arith,
      sum_by-cons (λ (x : Sleeper). cond {A = ℕ} (x.thread == t) 1 0) s sleepers,
      counted_there t sleepers k d (omega arith) e,
    )

frame_fits : (given : ℕ) (o : Owner) (page : List ℕ) → given ≤ 65535 → length page ≡ 4096
    → All IsByte page → ((t : ℕ) → o ≡ Of t → (1 ≤ t) × (t ≤ given))
    → (row.frame_row given).Fits (o, page_if_used o page)
frame_fits given Free page few len bytes owned =
    ((omega arith, refl), ((omega arith, refl), refl))
frame_fits given Shared page few len bytes owned =
    ((omega arith, refl), (((omega arith, refl), (len, are_bytes page bytes)), refl))
frame_fits given (Of t) page few len bytes owned =
    let o = owned t refl in (
      (omega arith, refl),
      (((omega (arith, o.1), within 1 given t o.0 o.1), (len, are_bytes page bytes)), refl),
    )

pub frames_fit : (given : ℕ) (bytes : List ℕ) (n : ℕ) (owners : List Owner) → given ≤ 65535
    → 4096 * (n + length owners) ≤ length bytes → All IsByte bytes
    → ((i t : ℕ) → slice_index_or owners i Free ≡ Of t → (1 ≤ t) × (t ≤ given))
    → (many (length owners) (row.frame_row given)).Fits (map_from n (frame_in bytes) owners)
frames_fit given bytes n [] few len all owned = tt
frames_fit given bytes n (o ∷ owners) few len all owned = (
  frame_fits given o (page_of bytes n) few
      (length-take-le 4096 (drop (4096 * n) bytes) (omega (arith, length-drop (4096 * n) bytes)))
      (All-take IsByte 4096 (drop (4096 * n) bytes) (All-drop IsByte (4096 * n) bytes all))
      (λ t e. owned 0 t e),
  frames_fit given bytes (suc n) owners few (omega arith) all (λ i t e. owned (suc i) t e),
)
