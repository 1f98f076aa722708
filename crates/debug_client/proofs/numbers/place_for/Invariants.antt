use Rattle.std.proofs.Common.{◌≡◌, ◌+◌, drop}
use Rattle.debug_client.specs.Numbers.{place_for}
use Rattle.debug_client.proofs.numbers.place_for.Given as goal

abbrev pub invariant-loop-place : goal.invariant-loop-place
invariant-loop-place l =
    l.place + place_for l.number (drop l.place l.numbers) ≡ place_for l.number l.numbers
