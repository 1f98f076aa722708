use Rattle.std.proofs.Common.{ap, subst, sym, ◌∙◌}
use Rattle.quantum_run.specs.Packs.{seen_in}
use Rattle.quantum_run.specs.Shows.{CanRun, View}
use Rattle.staying_workers.proofs.Readying.{can_of}
use Rattle.staying_workers.proofs.held.HeldPart.finish.Goals as goal

pub run_out-requires : goal.run_out-requires
run_out-requires c = record {
  can = subst (λ (v : View). CanRun c.args.self.now.pack v)
      (sym (c.view.ensures ∙ ap seen_in c.get-shared.ensures))
      (can_of c.args.self.now.pack (seen_in c.args.self.now.shared.value) c.requires);
}
