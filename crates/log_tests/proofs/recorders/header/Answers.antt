use Rattle.std.proofs.Common.{ℕ, ◌<◌, zero, suc, slice_index, replicate, arith, refl}
use Rattle.log_tests.proofs.recorders.header.Goals as goal

sevens : (n i : ℕ) → slice_index (replicate n 7) i < 256
sevens zero i = omega arith
sevens (suc n) zero = omega arith
sevens (suc n) (suc i) = sevens n i

pub returns : goal.returns
returns c = record {
  quantum = (omega arith, omega arith);
  rounds = (omega arith, omega arith);
  frames = (omega arith, omega arith);
  count = rw (c.push.ensures, c.new-digests.ensures) (omega arith, omega arith);
  digests = rw (c.push.ensures, c.new-digests.ensures)
      (record { len = refl; bytes = sevens 32 }, tt);
}
