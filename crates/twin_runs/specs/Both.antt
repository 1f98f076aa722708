-- What came of a leader's run and of its follower's. This project's own rule.
use Rattle.std.specs.Prelude.{◌≡◌, ◌++◌, [], ℕ, List, Option, Result, IfErr}
use Rattle.dos_world.specs.declared.Config.{Config}
use Rattle.dos_world.specs.declared.Ending.{Ending}
use Rattle.dos_io.specs.Given.{Given}
use Rattle.dos_io.specs.Hosts.{Told}
use Rattle.dos_io.specs.declared.exchange.ClockRule.TheVariants.{FromHost}
use Rattle.dos_io.specs.declared.exchange.Exchange.{Exchange}
use Rattle.elf_image.specs.Image.{Image}
use Rattle.group_rounds.specs.Kernels.{Held}
use Rattle.kernel_calls.specs.declared.state.RunStop.{RunStop}
use Rattle.twin_runs.specs.Alike.{RanAlike, IsUncut}
use Rattle.twin_runs.specs.Twins.{FollowerCame, LeaderCame, StopsBefore}

-- The leader was told these exchanges, which its host gave, and the follower a front of them; each
-- came to this over them. Where no put failed both came to the same.
pub record RanBoth (leader follower : Result Ending RunStop) (images : List Image)
    (config : Config) (host host_after : Option Told) (kernel : Held)
    (out err out_after err_after : Option (List ℕ))
    (second_out second_err second_out_after second_err_after : Option (List ℕ))
    (tally tally_after : ℕ) : Type 0 where
  pub told : List Exchange
  pub followed : List Exchange
  pub rest : List Exchange
  pub front : told ≡ followed ++ rest
  pub given : Given [] FromHost 0 host host_after told
  pub led : LeaderCame leader images config told kernel out err out_after err_after tally
      tally_after
  pub came : (second : Held) × (before after : ℕ)
      × FollowerCame follower images config followed rest second second_out second_err
      second_out_after second_err_after before after
  pub stops : IfErr follower (λ stop. StopsBefore stop rest)
  pub alike : IsUncut leader → IsUncut follower
      → RanAlike leader follower images config told followed kernel out err out_after err_after
      second_out second_err second_out_after second_err_after tally tally_after
