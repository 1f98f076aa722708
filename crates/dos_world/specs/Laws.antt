-- Laws of the definitions; the functions of the module laws promise them.
use Rattle.std.specs.Prelude.{ℕ, ◌≡◌, ◌≢◌, ◌⊎◌, ◌<◌, List, [], ◌∷◌, ◌++◌, Some, None, option_map}
use Rattle.std.specs.Prelude.{IsTrue, slice_set}
use Rattle.dos_world.specs.Errors.{enosys}
use Rattle.dos_world.specs.World.{World, Thread, thread_at, get, blank}
use Rattle.dos_world.specs.Play.{Play, Answer, done, ask, ◌>>=◌, Outcome, gives, asks, over}
use Rattle.dos_world.specs.Play.{questions}
use Rattle.dos_world.specs.Services.{service, service_of}
use Rattle.dos_world.specs.Calls.{Call, call_of, went, refuses}
use Rattle.dos_world.specs.Refusals.{call_refusal, refused}
use Rattle.dos_world.specs.Lawful.{Lawful}
use Rattle.dos_world.specs.IsLawful.{is_lawful}
use Rattle.dos_world.specs.declared.Owner.TheVariants.{Shared}
use Rattle.dos_world.specs.declared.Question.{Question}

-- ---- plays over answers

-- what is left to play once these answers are used up
abbrev pub after : {A : Type 0} → List Answer → Play A → Play A
after answers (done a) = done a
after [] (ask question output error next) = ask question output error next
after (answer ∷ answers) (ask question output error next) = after answers (next answer)

-- the answers that are not used
abbrev pub unused : {A : Type 0} → List Answer → Play A → List Answer
unused answers (done a) = answers
unused [] (ask question output error next) = []
unused (answer ∷ answers) (ask question output error next) = unused answers (next answer)

-- what follows an outcome
abbrev pub over_then : {A B : Type 0} → Outcome A → (A → Play B) → Outcome B
over_then (gives a rest) f = over rest (f a)
over_then (asks question output error) f = asks question output error

-- More answers go on where the first ran out.
abbrev pub MoreAnswersGoOn : Type 0 → Type 0
MoreAnswersGoOn A = (first more : List Answer) (p : Play A)
    → over (first ++ more) p ≡ over (unused first p ++ more) (after first p)

-- First one thing and then another, over all answers, is the other from where the first was done.
abbrev pub OneThenAnother : Type 0 → Type 0 → Type 0
OneThenAnother A B = (answers : List Answer) (p : Play A) (f : A → Play B)
    → over answers (p >>= f) ≡ over_then (over answers p) f

-- The question at which the answers run out is the last of the questions.
abbrev pub TheLastQuestionIsAsked : Type 0 → Type 0
TheLastQuestionIsAsked A = (answers : List Answer) (p : Play A)
    (question : Question) (output error : List ℕ)
    → over answers p ≡ asks question output error
    → (before : List Question) × (questions answers p ≡ before ++ question ∷ [])

-- ---- lawful worlds

-- What the test passes is lawful.
abbrev pub TestedIsLawful : Type 0
TestedIsLawful = (w : World) → IsTrue (is_lawful w) → Lawful w

-- ---- refusals

-- a thread without its registers and its budget
abbrev pub but_for_registers : Thread → Thread
but_for_registers thread = record thread { registers = blank 0; budget = 0 }

-- Two worlds are the same but for t's registers and budget and the owners of frames.
pub record SameButRegistersAndOwners (old new : World) (t : ℕ) : Type 0 where
  pub bytes : new.bytes ≡ old.bytes
  pub processes : new.processes ≡ old.processes
  pub others : (s : ℕ) → s ≢ t → thread_at new s ≡ thread_at old s
  pub thread : option_map but_for_registers (thread_at new t)
      ≡ option_map but_for_registers (thread_at old t)
  pub pipes : new.pipes ≡ old.pipes
  pub sleepers : new.sleepers ≡ old.sleepers
  pub rounds : new.rounds ≡ old.rounds
  pub quantum : new.quantum ≡ old.quantum
  pub output : new.output ≡ old.output
  pub error : new.error ≡ old.error

-- All owners stand; or it is futex_wait's 11, and one frame has become Shared.
abbrev pub KeepsOwners : ℕ → ℕ → World → World → Type 0
KeepsOwners service number old new =
    (new.owners ≡ old.owners)
    ⊎ ((service ≡ 11) × (number ≡ 11)
    × ((frame : ℕ) × (new.owners ≡ slice_set old.owners frame Shared)))

-- What a refused call of t comes to: t goes on in the world `refused`, which is w with t's
-- registers and budget changed.
abbrev pub IsRefusal : World → ℕ → Thread → ℕ → Type 0
IsRefusal w t thread number =
    let named : ℕ = get thread.registers 17 in
    let left : World = refused named number (call_of w t thread) in
    (service w t ≡ done (went left))
    × SameButRegistersAndOwners w left t
    × KeepsOwners named number w left

-- A call that is refused, by whichever service, changes its thread's registers alone, but for what
-- every call pays.
abbrev pub RefusedCallsChangeRegistersAlone : Type 0
RefusedCallsChangeRegistersAlone =
    (w : World) (t : ℕ) (thread : Thread) → thread_at w t ≡ Some thread
    → (number : ℕ) → call_refusal w t ≡ Some number → IsRefusal w t thread number

-- In a lawful world a call for which the table has no number isn't what a refusal with an error's
-- number would be.
abbrev pub OnlyTheseAreRefused : Type 0
OnlyTheseAreRefused = (w : World) → Lawful w → (t : ℕ) (thread : Thread)
    → thread_at w t ≡ Some thread → call_refusal w t ≡ None
    → (number : ℕ) → 0 < number → number < 64
    → service w t ≢ done (went (refused (get thread.registers 17) number (call_of w t thread)))

-- ---- the table

-- A number that is 0 or over 24 is no service: the call is refused with 38.
abbrev pub UnknownServicesAreRefused : Type 0
UnknownServicesAreRefused =
    (number : ℕ) → (number ≡ 0) ⊎ (24 < number) → (c : Call)
    → service_of number c ≡ refuses enosys c
