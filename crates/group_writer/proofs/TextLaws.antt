-- The texts of a group's parts don't go by what their ranges go by; and what was put is a text.
use Rattle.std.proofs.Common.{◌≡◌, ℕ, zero, suc, ◌+◌, ◌<◌, ◌≤◌, List, [], ◌∷◌, ◌++◌, refl, ap, sym}
use Rattle.std.proofs.Common.{◌∙◌, append_assoc, append-nil, length, drop, get_or, arith, true}
use Rattle.std.proofs.Common.{false}
use Rattle.std.specs.Int.{w32, to_le_bytes}
use Rattle.std.proofs.lemmas.List.{drop_more}
use Rattle.dos_world.specs.World.{Process, Life, live, ended, Thread, Sleeper}
use Rattle.dos_world.specs.SignalCalls.{is_action}
use Rattle.dos_world.specs.declared.Entry.{Entry}
use Rattle.dos_world.specs.declared.Owner.{Owner}
use Rattle.dos_world.specs.declared.Owner.TheVariants.{Free, Shared, Of}
use Rattle.text_fields.specs.Formats.{Format, list_text, many, ascending, u32_in}
use Rattle.group_text.specs.Groups.{SavedGroup}
use Rattle.group_text.specs.GroupText.{page_row, space_row, descriptor_row, life_row, process_row}
use Rattle.group_text.specs.GroupText.{thread_row, thread_rows, pipe_row, sleeper_row, sleeper_rows}
use Rattle.group_text.specs.GroupText.{frame_row, header_row, header_in, group_row}

-- ---- ranges

module _ {A S T : Type 0} (one : S → Format A) (next : S → A → S) (other : T → Format A)
    (onward : T → A → T) (same : (s : S) (t : T) (x : A) → (one s).text x ≡ (other t).text x) where
  lists_same : (s : S) (t : T) (xs : List A)
      → list_text one next s xs ≡ list_text other onward t xs
  lists_same s t [] = refl
  lists_same s t (x ∷ xs) =
      rw (same s t x)
      (ap (λ (text : List ℕ). (other t).text x ++ text) (lists_same (next s x) (onward t x) xs))

pub pages_text : (n : ℕ) (xs : List (ℕ × Entry))
    → (ascending (λ e. e.0) (page_row 0) n 1).text xs ≡ (many 0 (page_row 0 0)).text xs
pages_text n xs =
    lists_same (page_row 0) (λ s x. suc x.0) (λ (s : ℕ). page_row 0 0) (λ s x. s)
    (λ s t x. refl) 1 0 xs

pub threads_text : (n : ℕ) (xs : List (ℕ × Thread))
    → (ascending (λ t. t.0) (thread_row 0 0) n 1).text xs ≡ (many 0 (thread_row 0 0 0)).text xs
threads_text n xs =
    lists_same (thread_row 0 0) (λ s x. suc x.0) (λ (s : ℕ). thread_row 0 0 0) (λ s x. s)
    (λ s t x. refl) 1 0 xs

spaces_same : (frames : ℕ) (xs : List (ℕ × Entry))
    → (space_row frames).text xs ≡ (space_row 0).text xs
spaces_same frames xs =
    ap (λ (text : List ℕ). to_le_bytes w32 (length xs) ++ text)
    (lists_same (page_row frames) (λ s x. suc x.0) (page_row 0) (λ s x. suc x.0)
    (λ s t x. refl) 1 1 xs)

lives_same : (frames : ℕ) (life : Life) → (life_row frames).text life ≡ (life_row 0).text life
lives_same frames (live h) =
    ap (λ (text : List ℕ). 0 ∷ 0 ∷ ((many 31 (u32_in is_action)).text h.actions
    ++ ((many 32 descriptor_row).text h.descriptors ++ text))) (spaces_same frames h.space)
lives_same frames (ended status true) = refl
lives_same frames (ended status false) = refl

process_same : (frames processes : ℕ) (p : Process)
    → (process_row frames processes).text p ≡ (process_row 0 0).text p
process_same frames processes p =
    ap (λ (text : List ℕ). to_le_bytes w32 p.parent ++ text) (lives_same frames p.life)

frame_same : (given : ℕ) (f : Owner × List ℕ) → (frame_row given).text f ≡ (frame_row 0).text f
frame_same given (Free, page) = refl
frame_same given (Shared, page) = refl
frame_same given (Of t, page) = refl

processes_same : (n frames processes : ℕ) (ps : List Process)
    → (many n (process_row frames processes)).text ps ≡ (many 0 (process_row 0 0)).text ps
processes_same n frames processes ps =
    lists_same (λ (s : ℕ). process_row frames processes) (λ s x. s) (λ (s : ℕ). process_row 0 0)
    (λ s x. s) (λ s t x. process_same frames processes x) 0 0 ps

threads_same : (given processes : ℕ) (ts : List (ℕ × Thread))
    → (thread_rows given processes).text ts ≡ (thread_rows 0 0).text ts
threads_same given processes ts =
    ap (λ (text : List ℕ). length ts ∷ text)
    (lists_same (thread_row given processes) (λ s x. suc x.0) (thread_row 0 0) (λ s x. suc x.0)
    (λ s t x. refl) 1 1 ts)

sleepers_same : (given frames : ℕ) (ss : List Sleeper)
    → (sleeper_rows given frames).text ss ≡ (sleeper_rows 0 0).text ss
sleepers_same given frames ss =
    ap (λ (text : List ℕ). length ss ∷ text)
    (lists_same (λ (s : ℕ). sleeper_row given frames) (λ s x. s) (λ (s : ℕ). sleeper_row 0 0)
    (λ s x. s) (λ s t x. refl) 0 0 ss)

frames_same : (n given : ℕ) (fs : List (Owner × List ℕ))
    → (many n (frame_row given)).text fs ≡ (many 0 (frame_row 0)).text fs
frames_same n given fs =
    lists_same (λ (s : ℕ). frame_row given) (λ s x. s) (λ (s : ℕ). frame_row 0) (λ s x. s)
    (λ s t x. frame_same given x) 0 0 fs

-- a group's text, by its parts
pub group_is : (g : SavedGroup) → group_row.text g
    ≡ header_row.text (header_in g) ++ ((many 0 (process_row 0 0)).text g.processes
    ++ ((thread_rows 0 0).text g.threads ++ ((many 64 pipe_row).text g.pipes
    ++ ((sleeper_rows 0 0).text g.sleepers ++ (many 0 (frame_row 0)).text g.frames))))
group_is g =
    let n = length g.processes in
    let header = header_row.text (header_in g) in
    let processes = (many 0 (process_row 0 0)).text g.processes in
    let threads = (thread_rows 0 0).text g.threads in
    let pipes = (many 64 pipe_row).text g.pipes in
    let sleepers = (sleeper_rows 0 0).text g.sleepers in
    let given_sleepers = (sleeper_rows g.given g.config.frames).text g.sleepers in
    let given_frames = (many g.config.frames (frame_row g.given)).text g.frames in
    let given_threads = (thread_rows g.given n).text g.threads in
    ap (λ (t : List ℕ). header ++ (t
    ++ (given_threads ++ (pipes ++ (given_sleepers ++ given_frames)))))
    (processes_same n g.config.frames n g.processes)
    ∙ ap (λ (t : List ℕ). header ++ (processes ++ (t
    ++ (pipes ++ (given_sleepers ++ given_frames))))) (threads_same g.given n g.threads)
    ∙ ap (λ (t : List ℕ). header ++ (processes ++ (threads ++ (pipes ++ (t ++ given_frames)))))
    (sleepers_same g.given g.config.frames g.sleepers)
    ∙ ap (λ (t : List ℕ). header ++ (processes ++ (threads ++ (pipes ++ (sleepers ++ t)))))
    (frames_same g.config.frames g.given g.frames)

-- ---- what was put

-- one text behind another
pub behind : (old mid new a rest : List ℕ) → mid ≡ old ++ a → new ≡ mid ++ rest
    → new ≡ old ++ (a ++ rest)
behind old mid new a rest front back =
    back ∙ ap (λ (t : List ℕ). t ++ rest) front ∙ append_assoc old a rest

-- An element of a list is put: what is left to put is one element less.
pub goes_on : {X : Type 0} (one : X → List ℕ) (each : List X → List ℕ)
    → ((x : X) (xs : List X) → each (x ∷ xs) ≡ one x ++ each xs)
    → (xs : List X) (i : ℕ) (x : X) (out new whole : List ℕ) → i < length xs
    → get_or xs i x ≡ x → out ++ each (drop i xs) ≡ whole → new ≡ out ++ one x
    → new ++ each (drop (i + 1) xs) ≡ whole
goes_on {X = X} one each more xs i x out new whole within is before put =
    let left = ap each (drop_more xs i x within)
    ∙ ap (λ (y : X). each (y ∷ drop (i + 1) xs)) is ∙ more x (drop (i + 1) xs) in
    ap (λ (t : List ℕ). t ++ each (drop (i + 1) xs)) put
    ∙ append_assoc out (one x) (each (drop (i + 1) xs))
    ∙ ap (λ (t : List ℕ). out ++ t) (sym left) ∙ before

past : {X : Type 0} (xs : List X) (i : ℕ) → length xs ≤ i → drop i xs ≡ []
past [] zero long = refl
past [] (suc i) long = refl
past (x ∷ xs) zero long = absurd (omega (arith, long))
past (x ∷ xs) (suc i) long = past xs i (omega (arith, long))

-- Where all are put, nothing is left.
pub nothing_left : {X : Type 0} (each : List X → List ℕ) → each [] ≡ [] → (xs : List X) (i : ℕ)
    (out whole : List ℕ) → length xs ≤ i → out ++ each (drop i xs) ≡ whole → out ≡ whole
nothing_left each none xs i out whole long all =
    sym (append-nil out) ∙ ap (λ (t : List ℕ). out ++ t) (sym none)
    ∙ ap (λ (ys : List _). out ++ each ys) (sym (past xs i long)) ∙ all
