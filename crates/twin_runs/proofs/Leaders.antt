-- A run over a leader that was asked nothing before.
use Rattle.std.proofs.Common.{ℕ, ◌≡◌, sym, ap, ◌∙◌, subst, List, [], ◌++◌, Option, Some, Ok, Err}
use Rattle.std.proofs.Common.{IsErrOf}
use Rattle.std.proofs.Common.{◌⊎◌, inl, inr, arith}
use Rattle.std.specs.Prelude.{IfOk, IfErr, IfSome, OnErr, OnSome, Result}
use Rattle.dos_world.specs.declared.Config.{Config}
use Rattle.dos_world.specs.declared.Ending.{Ending}
use Rattle.dos_io.specs.Given.{Given}
use Rattle.dos_io.specs.Hosts.{Told}
use Rattle.dos_io.specs.declared.exchange.ClockRule.TheVariants.{FromHost}
use Rattle.dos_io.specs.declared.exchange.Exchange.{Exchange}
use Rattle.dos_io.specs.Outside.{Rose}
use Rattle.dos_io.specs.declared.shim.ShimStop.{ShimStop}
use Rattle.dos_io.specs.declared.shim.ShimStop.TheVariants as stops
use Rattle.elf_image.specs.Image.{Image}
use Rattle.group_rounds.specs.StatePlays.{telling}
use Rattle.group_rounds.specs.Kernels.{Held}
use Rattle.group_rounds.specs.Outside.{HasShimCause}
use Rattle.kernel_calls.specs.StateWorld.{shim_stop}
use Rattle.kernel_calls.specs.declared.state.RunStop.{RunStop}
use Rattle.kernel_calls.specs.declared.state.RunStop.TheVariants.{HostFault, LogFull, Misfit}
use Rattle.kernel_calls.specs.declared.state.RunStop.TheVariants.{OutFault, ErrFault, Memory}
use Rattle.worker_pool.specs.Ran.{GrewBy}
use Rattle.dpg_run.specs.GroupRuns.{CutGroup, RanGroup, StoppedGroup}
use Rattle.logged_runs.specs.Opened.{IsOpenedWith}
use Rattle.logged_runs.proofs.FromOpening.{ran_ahead, ran_until, ran_whole}
use Rattle.twin_shims.specs.Leader.{TellerState, FollowsLeader, IsLeaderStop, leader_state}
use Rattle.twin_runs.specs.Twins.{LeaderCame}

-- the host, from one moment to another at which it is the same
pub led : {H : Type 0} (told : H → Option Told) (faults : H → ℕ) (start after : TellerState)
    (h h' i i' : H) → h ≡ h' → i' ≡ i
    → FollowsLeader start after (told h) (told i) (faults h) (faults i)
    → FollowsLeader start after (told h') (told i') (faults h') (faults i')
led told faults start after h h' i i' before left follows =
    subst (λ x. FollowsLeader start after (told x) (told i') (faults x) (faults i')) before
    (subst (λ x. FollowsLeader start after (told h) (told x) (faults h) (faults x)) (sym left)
    follows)

-- all that it told is given
pub all_given : (start after : TellerState) (a b : Option Told) (m n : ℕ) → start.told ≡ []
    → FollowsLeader start after a b m n → Given [] FromHost 0 a b after.told
all_given start after a b m n fresh follows =
    subst (λ (es : List Exchange). Given [] FromHost 0 a b es)
    (sym (follows.told_is ∙ ap (λ (es : List Exchange). es ++ follows.more) fresh)) follows.given

module _ (k k' : Held) (start after : TellerState) (o e o1 e1 : Option (List ℕ))
    (tally tally' : ℕ) (fresh : start.told ≡ []) (images : List Image) (config : Config)
    (opened : IsOpenedWith k images config) where
  abbrev Stopped : Type 0
  Stopped = StoppedGroup k.config k.state (telling start.told o e) (telling after.told o1 e1)
      after.asked

  abbrev Cut : Type 0
  Cut = CutGroup k.config k.state (telling start.told o e) (telling after.told o1 e1)

  abbrev Came : Result Ending RunStop → Type 0
  Came result = LeaderCame result images config after.told k' o e o1 e1 tally tally'

  -- it never stops for another reason
  not_so : (stop : ShimStop) → after.last ≡ Some stop → IfSome after.last IsLeaderStop
      → IsLeaderStop stop
  not_so stop last never = subst (λ (x : Option ShimStop). IfSome x IsLeaderStop) last never

  pub leader_came : (result : Result Ending RunStop)
      → IfOk result (λ ending. (work : ℕ) × RanGroup k.config k.state (telling start.told o e)
      ending k'.state (telling after.told o1 e1) work × GrewBy tally tally' work)
      → IfErr result (λ stop. OnSome (shim_stop stop) Stopped) → OnErr result Cut
      → IfErr result (λ stop. HasShimCause stop (leader_state start) (leader_state after))
      → IfSome after.last IsLeaderStop → Came result
  leader_came (Ok ending) runs asks cut cause never =
      let ran = ran_whole k start.told after.told o e o1 e1 fresh images config opened k' ending
      tally tally' runs.0 runs.1 runs.2 in
      record { seen = ran.0; ran = ran.1; ended = ran.2 }
  leader_came (Err HostFault) runs asks cut cause never = (
    asks.question,
    record {
      output = asks.more.output;
      error = asks.more.error;
      ran = ran_until k start.told after.told o e o1 e1 fresh images config opened after.asked
          asks;
      put = record { out_is = asks.more.output_is; err_is = asks.more.error_is };
    },
  )
  leader_came (Err Memory) runs asks cut cause never = (
    asks.question,
    record {
      output = asks.more.output;
      error = asks.more.error;
      ran = ran_until k start.told after.told o e o1 e1 fresh images config opened after.asked
          asks;
      put = record { out_is = asks.more.output_is; err_is = asks.more.error_is };
    },
  )
  leader_came (Err OutFault) runs asks cut cause never = record {
    output = cut.more.output;
    error = cut.more.error;
    ran = ran_ahead k start.told after.told o e o1 e1 fresh images config opened cut;
    put = record { out_is = cut.more.output_is; err_is = cut.more.error_is };
  }
  leader_came (Err ErrFault) runs asks cut cause never = record {
    output = cut.more.output;
    error = cut.more.error;
    ran = ran_ahead k start.told after.told o e o1 e1 fresh images config opened cut;
    put = record { out_is = cut.more.output_is; err_is = cut.more.error_is };
  }
  leader_came (Err LogFull) runs asks cut cause never = not_so _ cause.1 never
  leader_came (Err (Misfit m)) runs asks cut cause never = not_so _ cause.1 never

-- the host failed only where its count rose
pub host_rose : (start after : TellerState) (a b : Option Told) (m n : ℕ)
    (result : Result Ending RunStop) → start.stops ≡ 0 → FollowsLeader start after a b m n
    → IfErr result (λ stop. HasShimCause stop (leader_state start) (leader_state after))
    → IsErrOf result HostFault → Rose m n
host_rose start after a b m n (Ok ending) none follows cause is = absurd cc
host_rose start after a b m n (Err HostFault) none follows cause is =
    by_cause follows.cause
  where
    by_cause : ((after.stops ≡ start.stops) × (after.last ≡ start.last))
        ⊎ (after.last ≡ Some stops.HostFault → Rose m n) → Rose m n
    by_cause (inl same) = absurd (omega (arith, same.0, cause.0, none))
    by_cause (inr h) = h cause.1
host_rose start after a b m n (Err LogFull) none follows cause is = absurd cc
host_rose start after a b m n (Err (Misfit x)) none follows cause is = absurd cc
host_rose start after a b m n (Err Memory) none follows cause is = absurd cc
host_rose start after a b m n (Err OutFault) none follows cause is = absurd cc
host_rose start after a b m n (Err ErrFault) none follows cause is = absurd cc
