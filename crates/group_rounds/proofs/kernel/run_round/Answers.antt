use Rattle.std.proofs.Common.{◌≡◌, ◌≤◌, ◌∙◌, ap, sym, subst}
use Rattle.std.specs.Prelude.{IfOk, OnErr, OnOk}
use Rattle.flat_machine.specs.Round.{round_of}
use Rattle.group_rounds.specs.Handing.{PacksFor}
use Rattle.group_rounds.specs.Kernels.{Held}
use Rattle.group_rounds.specs.Rounds.{AreStarters, PlaysRound, begun_work, next_round}
use Rattle.group_rounds.proofs.ServesLaws.{keeps_between, round_follows}
use Rattle.group_rounds.proofs.kernel.run_round.Goals as goal

pub invariant_of-kernel : goal.invariant_of-kernel
invariant_of-kernel g c =
    let i = c.kernel.inside in
    let e = c.play_round-result.ensures in
    let view = c.kernel.view_is in
    let between = c.kernel.invariant.3 (ap (λ (k : Held). k.failed) view ∙ c.requires.running) in
    let limit = subst (λ (k : Held). k.state.round ≤ k.config.rounds) (sym view)
    c.requires.limit in (
      e.room,
      round_follows c.play_round-result.result i.state.round _ e.keeps.round e.keeps.uncounted
          c.kernel.invariant.1,
      e.packs ∙ c.kernel.invariant.2,
      λ ok. keeps_between c.play_round-result.result i.state c.play_round-result.new.state i.config
          between limit e.keeps (sym c.is_err-kernel-inside.ensures.value ∙ ok),
    )

pub returns : goal.returns
returns g c =
    let i = c.kernel.inside in
    let e = c.play_round-result.ensures in
    let result = c.play_round-result.result in
    let new = c.play_round-result.new.state in
    let view = c.kernel.view_is in
    let before = g.B.Border.state c.args.border.now in
    let after = g.B.Border.state c.play_round-result.new.border in
    let between = c.kernel.invariant.3 (ap (λ (k : Held). k.failed) view ∙ c.requires.running) in
    let limit = subst (λ (k : Held). k.state.round ≤ k.config.rounds) (sym view) c.requires.limit in
    let tally = g.W.Workers.tally c.args.workers.now in
    let tally_after = g.W.Workers.tally c.play_round-result.new.workers in
    record {
      plays = subst (λ (k : Held). PlaysRound k.config.quantum (λ w. round_of k.config.scheme w)
          (λ w answers. begun_work k.config.scheme w answers) result k.state before new after
          tally tally_after) view
          (subst (λ (p : PacksFor). PlaysRound i.config.quantum (λ w. round_of p.scheme w)
          (λ w answers. begun_work p.scheme w answers) result i.state before new after
          tally tally_after) c.kernel.invariant.2 e.plays);
      round = subst (λ (k : Held). IfOk result (λ end. new.round ≡ next_round end k.state.round))
          view e.keeps.round;
      starters = subst (λ (k : Held). OnOk result (AreStarters k.state before.shim.told
          after.shim.told k.starters c.play_round-result.new.starters.items)) view e.starters;
      uncounted = subst (λ (k : Held). OnErr result (new.round ≡ k.state.round)) view
          e.keeps.uncounted;
      marked = e.keeps.marked ∙ ap (λ (k : Held). k.state.frames.marked) view;
      sound = λ ok. keeps_between result i.state new i.config between limit e.keeps
          (sym c.is_err-kernel-inside.ensures.value ∙ ok);
      config = ap (λ (k : Held). k.config) view;
      failed = c.is_err-kernel-inside.ensures.value;
      follows = e.follows;
      fixed = e.fixed;
    }
