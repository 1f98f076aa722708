-- However a side's run came out, its outputs hold fronts of what it sends to them.
use Rattle.std.proofs.Common.{◌≡◌, ◌∙◌, ◌++◌, ℕ, List, [], ◌∷◌, append-nil, map, Option, Ok, Err}
use Rattle.std.proofs.Common.{refl, subst, sym}
use Rattle.std.specs.Prelude.{Result}
use Rattle.dos_world.specs.Play.{Answer, Outcome, Play, asks, ask, done, over, questions}
use Rattle.dos_world.specs.Play.{◌>>=◌}
use Rattle.dos_world.specs.declared.Ending.{Ending}
use Rattle.dos_world.specs.declared.Question.{Question}
use Rattle.dos_io.specs.Exchanges.{answer_of, question_of}
use Rattle.dos_io.specs.Outside.{IsFront}
use Rattle.dos_io.specs.declared.exchange.Exchange.{Exchange}
use Rattle.dos_io.proofs.OutsideLaws.{front-whole}
use Rattle.dpg_run.specs.GroupRuns.{AreFronts}
use Rattle.dpg_run.proofs.Asked.{heads}
use Rattle.group_rounds.specs.Plays.{GoesOn}
use Rattle.elf_image.specs.Image.{Image}
use Rattle.flat_machine.specs.Machine.{Finish, Ran, Seen, group, machine, result_of}
use Rattle.flat_machine.specs.Machine.{rounds_from, told_end}
use Rattle.flat_machine.specs.Opening.{opening}
use Rattle.group_rounds.specs.Kernels.{Held}
use Rattle.kernel_calls.specs.declared.state.RunStop.{RunStop}
use Rattle.kernel_calls.specs.declared.state.RunStop.TheVariants.{HostFault, LogFull, Misfit}
use Rattle.kernel_calls.specs.declared.state.RunStop.TheVariants.{OutFault, ErrFault, Memory}
use Rattle.logged_runs.specs.Runs.{RanUntil, RanWhole}
use Rattle.twin_runs.specs.Twins.{CutAt, EndedAt, FollowerCame, LeaderCame, StoppedAt}
use Rattle.dos_twin.specs.TwinImages.{twin_config}

-- ---- all bytes until a question are fronts of what is sent until there

same_bytes : (question asked : Question) (output error out err : List ℕ)
    → ◌≡◌ {A = Outcome Finish} (asks question output error) (asks asked out err)
    → (output ≡ out) × (error ≡ err)
same_bytes question asked output error out err is = (cc, cc)

all_are_fronts : (output error out err : List ℕ) → out ≡ output → err ≡ error
    → IsFront output out × IsFront error err
all_are_fronts output error out err a b = (
  subst (λ (x : List ℕ). IsFront output x) (sym a) (front-whole output),
  subst (λ (x : List ℕ). IsFront error x) (sym b) (front-whole error),
)

fronts_over : (answers : List Answer) (asked : List Question) (play : Play Finish)
    (question : Question) (output error : List ℕ)
    → over answers (play >>= told_end) ≡ asks question output error
    → AreFronts output error (result_of asked (over answers play))
fronts_over [] asked (done f) question output error is =
    let same = same_bytes _ question f.world.output f.world.error output error is in
    all_are_fronts output error f.world.output f.world.error same.0 same.1
fronts_over (a ∷ answers) asked (done f) question output error is = absurd cc
fronts_over [] asked (ask first o e next) question output error is =
    let same = same_bytes first question o e output error is in
    all_are_fronts output error o e same.0 same.1
fronts_over (a ∷ answers) asked (ask first o e next) question output error is =
    fronts_over answers asked (next a) question output error is

-- ---- a play that has asked the questions of some exchanges goes on by their answers

goes_on : {A : Type 0} (told : List Exchange) (more : List Question) (play : Play A)
    → questions (map answer_of told) play ≡ map question_of told ++ more
    → (left : Play A) × GoesOn told play left
goes_on [] more play is = (play, refl)
goes_on (e ∷ told) more (done a) is = absurd cc
goes_on (e ∷ told) more (ask question o n next) is =
    let at = heads question (question_of e) (questions (map answer_of told) (next (answer_of e)))
    (map question_of told ++ more) is in
    let rest = goes_on told more (next (answer_of e)) at.1 in (rest.0, (at.0, rest.1))

module _ (images : List Image) (told : List Exchange) where
  until_fronts : (question : Question) (output error : List ℕ)
      → RanUntil images twin_config told question output error
      → AreFronts output error (machine images twin_config (map answer_of told))
  until_fronts question output error ran =
      fronts_over (map answer_of told) (questions (map answer_of told) (group images twin_config))
      (rounds_from (opening images twin_config) twin_config) question output error ran.asks

  whole_fronts : (seen : Seen) → RanWhole images twin_config told seen
      → AreFronts seen.output seen.error (machine images twin_config (map answer_of told))
  whole_fronts seen ran =
      subst (λ (r : Ran). AreFronts seen.output seen.error r) (sym ran.is)
      (front-whole seen.output, front-whole seen.error)

  module _ (kernel : Held) (out err out_after err_after : Option (List ℕ))
      (tally tally_after : ℕ) where
    ended : (ending : Ending) → EndedAt images twin_config told kernel ending out err out_after
        err_after tally tally_after → CutAt images twin_config told out err out_after err_after
    ended ending at = record {
      output = at.seen.output;
      error = at.seen.error;
      ran = record {
        goes = goes_on told [] (group images twin_config)
            (at.ran.fits ∙ sym (append-nil (map question_of told)));
        fronts = whole_fronts at.seen at.ran;
      };
      put = at.ended.put;
    }

    stopped : (question : Question)
        → StoppedAt images twin_config told question out err out_after err_after
        → CutAt images twin_config told out err out_after err_after
    stopped question at = record {
      output = at.output;
      error = at.error;
      ran = record {
        goes = goes_on told (question ∷ []) (group images twin_config) at.ran.asked;
        fronts = until_fronts question at.output at.error at.ran;
      };
      put = at.put;
    }

    pub led : (leader : Result Ending RunStop) → LeaderCame leader images twin_config told kernel
        out err out_after err_after tally tally_after
        → CutAt images twin_config told out err out_after err_after
    led (Ok ending) came = ended ending came
    led (Err HostFault) came = stopped came.0 came.1
    led (Err Memory) came = stopped came.0 came.1
    led (Err OutFault) came = came
    led (Err ErrFault) came = came
    led (Err LogFull) came = absurd came
    led (Err (Misfit m)) came = absurd came

    pub followed : (follower : Result Ending RunStop) (rest : List Exchange)
        → FollowerCame follower images twin_config told rest kernel out err out_after err_after
        tally tally_after → CutAt images twin_config told out err out_after err_after
    followed (Ok ending) rest came = ended ending came
    followed (Err HostFault) rest came = stopped came.0 came.1
    followed (Err (Misfit m)) rest came = stopped m.asked came
    followed (Err OutFault) rest came = came
    followed (Err ErrFault) rest came = came
    followed (Err LogFull) rest came = absurd came
    followed (Err Memory) rest came = absurd came
