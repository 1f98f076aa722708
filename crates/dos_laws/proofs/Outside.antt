-- What was sent, the rounds and the quantum: a lawful world with others in their place is lawful.
use Rattle.std.proofs.Common.{refl, ℕ, ◌+◌, ◌<◌, List, arith}
use Rattle.dos_world.specs.World.{World}
use Rattle.dos_world.specs.Lawful.{Lawful, IsWithinRun}
use Rattle.flat_machine.specs.Round.{counted}
use Rattle.dos_laws.proofs.Frames.{lawful-over}

-- ---- all of it at once

module _ (w : World) (quantum rounds : ℕ) (output error : List ℕ) where
  abbrev pub outside : World
  outside = record w { quantum = quantum; rounds = rounds; output = output; error = error }

  pub lawful-outside : IsWithinRun quantum rounds → Lawful w → Lawful outside
  lawful-outside run l =
      lawful-over w w.owners w.bytes quantum rounds output error (record {
        places = refl;
        count = refl;
        range = l.frames.bytes.1;
        free = l.frames.free;
        zeros = l.frames.zeros;
        owned = l.frames.owned;
      }) run l

-- ---- one thing

-- bytes that were sent
pub lawful-sent : (w : World) (output error : List ℕ) → Lawful w
    → Lawful (record w { output = output; error = error })
lawful-sent w output error l = lawful-outside w w.quantum w.rounds output error l.run l

-- a round more
pub lawful-counted : (w : World) → w.rounds < 1000000 → Lawful w → Lawful (counted w)
lawful-counted w few l =
    lawful-outside w w.quantum (w.rounds + 1) w.output w.error
    (record { turn = l.run.turn; count = omega arith }) l
