-- What a leader's run and its follower's come to. This project's own rules.
use Rattle.std.specs.Prelude.{◌≡◌, ◌≢◌, ◌++◌, ◌∷◌, [], ℕ, List, Option, Result, Ok, Err, ⊤, IfErr}
use Rattle.dos_world.specs.declared.Config.{Config}
use Rattle.dos_world.specs.declared.Ending.{Ending}
use Rattle.dos_world.specs.declared.Question.{Question}
use Rattle.dos_io.specs.Exchanges.{question_of}
use Rattle.dos_io.specs.declared.exchange.Exchange.{Exchange}
use Rattle.elf_image.specs.Image.{Image}
use Rattle.group_rounds.specs.Kernels.{Held}
use Rattle.kernel_calls.specs.declared.state.RunStop.{RunStop}
use Rattle.kernel_calls.specs.declared.state.RunStop.TheVariants.{HostFault, LogFull, Misfit}
use Rattle.kernel_calls.specs.declared.state.RunStop.TheVariants.{OutFault, ErrFault, Memory}
use Rattle.flat_machine.specs.Machine.{Seen}
use Rattle.logged_runs.specs.Opened.{IsOpenedWith}
use Rattle.logged_runs.specs.Runs.{Ended, Put, RanAhead, RanUntil, RanWhole}
use Rattle.twin_shims.specs.declared.note.Note.{Note}
use Rattle.twin_shims.specs.Notes.{exchanges_in}

-- It was cut off, having put these bytes.
pub record CutAt (images : List Image) (config : Config) (told : List Exchange)
    (out err out_after err_after : Option (List ℕ)) : Type 0 where
  pub output : List ℕ
  pub error : List ℕ
  pub ran : RanAhead images config told output error
  pub put : Put out err out_after err_after output error

-- Its shim stopped at this question, and it had put these bytes.
pub record StoppedAt (images : List Image) (config : Config) (told : List Exchange)
    (question : Question) (out err out_after err_after : Option (List ℕ)) : Type 0 where
  pub output : List ℕ
  pub error : List ℕ
  pub ran : RanUntil images config told question output error
  pub put : Put out err out_after err_after output error

-- It came to its end.
pub record EndedAt (images : List Image) (config : Config) (told : List Exchange) (kernel : Held)
    (ending : Ending) (out err out_after err_after : Option (List ℕ)) (tally tally_after : ℕ) :
    Type 0 where
  pub seen : Seen
  pub ran : RanWhole images config told seen
  pub ended : Ended kernel ending seen out err out_after err_after tally tally_after

-- ---- a leader

-- what a leader's run comes to: its host failed, or memory for a note was wanting, at a question
abbrev pub LeaderCame : Result Ending RunStop → List Image → Config → List Exchange → Held
    → (out err out_after err_after : Option (List ℕ)) → (tally tally_after : ℕ) → Type 0
LeaderCame (Ok ending) images config told kernel out err out_after err_after tally tally_after =
    EndedAt images config told kernel ending out err out_after err_after tally tally_after
LeaderCame (Err HostFault) images config told kernel out err out_after err_after tally
    tally_after =
    (question : Question) × StoppedAt images config told question out err out_after err_after
LeaderCame (Err Memory) images config told kernel out err out_after err_after tally tally_after =
    (question : Question) × StoppedAt images config told question out err out_after err_after
LeaderCame (Err OutFault) images config told kernel out err out_after err_after tally
    tally_after = CutAt images config told out err out_after err_after
LeaderCame (Err ErrFault) images config told kernel out err out_after err_after tally
    tally_after = CutAt images config told out err out_after err_after
LeaderCame (Err LogFull) images config told kernel out err out_after err_after tally
    tally_after = ⊥
LeaderCame (Err (Misfit m)) images config told kernel out err out_after err_after tally
    tally_after = ⊥

-- Over the exchanges of these notes a leader came to this.
pub record Led (k k' : Held) (result : Result Ending RunStop) (notes : List Note)
    (out err out_after err_after : Option (List ℕ)) (tally tally_after : ℕ) : Type 0 where
  pub came : (images : List Image) (config : Config) → IsOpenedWith k images config
      → LeaderCame result images config (exchanges_in notes) k' out err out_after err_after
      tally tally_after

-- ---- a follower

-- what a follower's run comes to: its leader has stopped, or was told another question
abbrev pub FollowerCame : Result Ending RunStop → List Image → Config → (told rest : List Exchange)
    → Held → (out err out_after err_after : Option (List ℕ)) → (tally tally_after : ℕ) → Type 0
FollowerCame (Ok ending) images config told rest kernel out err out_after err_after tally
    tally_after =
    EndedAt images config told kernel ending out err out_after err_after tally tally_after
FollowerCame (Err HostFault) images config told rest kernel out err out_after err_after tally
    tally_after =
    (question : Question) × StoppedAt images config told question out err out_after err_after
FollowerCame (Err (Misfit m)) images config told rest kernel out err out_after err_after tally
    tally_after = StoppedAt images config told m.asked out err out_after err_after
FollowerCame (Err OutFault) images config told rest kernel out err out_after err_after tally
    tally_after = CutAt images config told out err out_after err_after
FollowerCame (Err ErrFault) images config told rest kernel out err out_after err_after tally
    tally_after = CutAt images config told out err out_after err_after
FollowerCame (Err LogFull) images config told rest kernel out err out_after err_after tally
    tally_after = ⊥
FollowerCame (Err Memory) images config told rest kernel out err out_after err_after tally
    tally_after = ⊥

-- what the notes behind those that it told are, where it stopped: none are left where its leader
-- has stopped, and a misfit is with the next one
abbrev pub StopsBefore : RunStop → List Exchange → Type 0
StopsBefore HostFault rest = rest ≡ []
StopsBefore (Misfit m) rest = (next : Exchange) × (behind : List Exchange)
    × (rest ≡ next ∷ behind) × (question_of next ≢ m.asked)
StopsBefore _ rest = ⊤

-- A follower has told a front of the exchanges that its leader was told, and came to this over
-- them.
pub record Followed (k k' : Held) (result : Result Ending RunStop) (notes : List Note)
    (out err out_after err_after : Option (List ℕ)) (tally tally_after : ℕ) : Type 0 where
  pub told : List Exchange
  pub rest : List Exchange
  pub front : exchanges_in notes ≡ told ++ rest
  pub stops : IfErr result (λ stop. StopsBefore stop rest)
  pub came : (images : List Image) (config : Config) → IsOpenedWith k images config
      → FollowerCame result images config told rest k' out err out_after err_after tally
      tally_after
