use Rattle.dos_world.specs.World.{ready_threads}
use Rattle.quantum_run.proofs.Mix.{at-among}
use Rattle.quantum_run.proofs.UnderWay.{slices-add-up, under-way, under-way-ends}
use Rattle.quantum_run.proofs.laws.packs_under_way_are_a_mix.Goals as goal

pub returns : goal.returns
returns c = record {
  mix = λ w order v i t opening pack at h.
      under-way w order v t opening pack (at-among (ready_threads w) i t at) h;
  slices = slices-add-up;
  ends = under-way-ends;
}
