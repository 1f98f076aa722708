use Rattle.std.proofs.Common.{◌∙◌, ap, sym, subst}
use Rattle.dos_world.specs.Play.{done}
use Rattle.flat_machine.specs.Rest.{serial_of}
use Rattle.kernel_calls.specs.Plays.{Plays}
use Rattle.group_rounds.specs.Kernels.{Held}
use Rattle.group_rounds.specs.Phases.{ready_in}
use Rattle.group_rounds.proofs.ServesLaws.{serves_between}
use Rattle.group_rounds.proofs.kernel.serial_phase.Goals as goal

pub returns : goal.returns
returns g c =
    let served = c.run_ready-served.ensures.serves in
    let result = c.run_ready-served.result in
    let new = c.run_ready-served.new.state in
    let view = c.kernel.view_is in
    let between = c.kernel.invariant.3
    (ap (λ (k : Held). k.failed) view ∙ c.requires.running) in
    record {
      plays = subst (λ (k : Held). Plays k.config.quantum (λ w. w)
          (λ w. serial_of w (ready_in k.state.table.threads)) (λ _ w. done w) result k.state
          (g.B.Border.state c.args.border.now) new
          (g.B.Border.state c.run_ready-served.new.border)) view
          (served.plays c.kernel.inside.config.quantum);
      starters = c.run_ready-served.ensures.starters
          ∙ ap (λ (k : Held). ready_in k.state.table.threads) view;
      round = record {
        round = served.round.round ∙ ap (λ (k : Held). k.state.round) view;
        marked = served.round.marked ∙ ap (λ (k : Held). k.state.frames.marked) view;
      };
      sound = λ ok. serves_between _ result c.kernel.inside.state new c.kernel.inside.config _ _
          between served (sym c.is_err-kernel-inside.ensures.value ∙ ok);
      config = ap (λ (k : Held). k.config) view;
      failed = c.is_err-kernel-inside.ensures.value;
      follows = c.run_ready-served.ensures.follows;
    }

-- the state between two rounds is sound
pub run_ready-served-requires-clause-sound : goal.run_ready-served-requires-clause-sound
run_ready-served-requires-clause-sound g c =
    (c.kernel.invariant.3 (ap (λ (k : Held). k.failed) c.kernel.view_is ∙ c.requires.running)).sound
