use Rattle.std.proofs.Common.{ℕ, ◌<◌, zero, suc, slice_index, replicate, arith, refl}
use Rattle.service_tests.proofs.runs.header.Goals as goal

zeros : (n i : ℕ) → slice_index (replicate n 0) i < 256
zeros zero i = omega arith
zeros (suc n) zero = omega arith
zeros (suc n) (suc i) = zeros n i

pub returns : goal.returns
returns c = record {
  quantum = (omega arith, omega arith);
  rounds = (omega arith, omega arith);
  frames = (omega arith, omega arith);
  count = rw (c.push.ensures, c.new-digests.ensures) (omega arith, omega arith);
  digests = rw (c.push.ensures, c.new-digests.ensures)
      (record { len = refl; bytes = zeros 32 }, tt);
}
