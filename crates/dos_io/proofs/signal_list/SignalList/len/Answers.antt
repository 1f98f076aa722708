use Rattle.std.proofs.Common.{length, arith, ap}
use Rattle.std.proofs.lemmas.List.{length-take}
use Rattle.dos_io.proofs.signal_list.SignalList.len.Goals as goal

pub returns-clause-value : goal.returns-clause-value
returns-clause-value c =
    omega (
      arith,
      length-take c.self.inside.len c.self.inside.posts,
      ap length c.self.view_is,
      c.self.invariant,
    )
