use Rattle.std.proofs.Common.{ap}
use Rattle.quantum_run.proofs.Overlay.{here-set, some-set}
use Rattle.quantum_run.proofs.pages.InPlace.put.Goals as goal

pub returns-clause-fixed : goal.returns-clause-fixed
returns-clause-fixed c = ap (λ bs. (
  c.args.self.now.frames.ghost_name,
  c.args.self.now.frames.now.uses,
  c.args.self.now.frames.now.marked,
  bs,
))
    (some-set c.args.self.now.frames.now.pages c.args.frame c.write.new.self c.requires.own)

pub returns-clause-own : goal.returns-clause-own
returns-clause-own c = λ f here.
    here-set c.args.self.now.frames.now.pages c.args.frame c.write.new.self f here
