-- The world in what a play comes to. This project's own words.
use Rattle.dos_world.specs.World.{World}
use Rattle.dos_world.specs.Calls.{Served, went, waits, yields, gone}
use Rattle.flat_machine.specs.Round.{RoundEnd, finished, stalled}
use Rattle.flat_machine.specs.Round.{went as went_on}

-- the world after a service
abbrev pub world_served : Served → World
world_served (went w) = w
world_served (waits w) = w
world_served (yields w) = w
world_served (gone w) = w

-- the world after a round
abbrev pub world_ended : RoundEnd → World
world_ended (went_on w work) = w
world_ended (finished w) = w
world_ended (stalled w) = w
