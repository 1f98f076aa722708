use Rattle.std.proofs.Common.{rules, ◌≡◌, ℕ, length, take, length-take, ap, arith}
use Rattle.std.specs.Prelude.{◌==◌, filter}
use Rattle.std.proofs.lemmas.List.{length-map}
use Rattle.std.proofs.lemmas.List.Sums.{length-filter, count_by-le-length}
use Rattle.arrayvec.specs.ArrayVec.{array_vec_len}
use Rattle.dos_world.specs.World.{Thread}
use Rattle.proc_table.proofs.threads.numbers_in.Goals as goal

pub push-requires : goal.push-requires
push-requires c =
    let count : array_vec_len c.loop-entry.numbers ≡ length c.loop-entry.numbers.items =
    search rules in
    omega (
      arith,
      count,
      ap length c.loop-entry.invariant,
      length-map (filter (λ (e : ℕ × Thread). e.1.process == c.args.pid)
          (take c.loop-entry.entry-index c.args.live.now)) (λ (e : ℕ × Thread). e.0),
      length-filter (λ (e : ℕ × Thread). e.1.process == c.args.pid)
          (take c.loop-entry.entry-index c.args.live.now),
      count_by-le-length (λ (e : ℕ × Thread). e.1.process == c.args.pid)
          (take c.loop-entry.entry-index c.args.live.now),
      length-take c.loop-entry.entry-index c.args.live.now,
    )
