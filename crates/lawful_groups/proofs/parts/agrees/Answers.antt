use Rattle.std.proofs.Common.{◌∙◌, sym, ap, length}
use Rattle.std.specs.Prelude.{map, replicate}
use Rattle.std.proofs.lemmas.List.{length-replicate}
use Rattle.std.proofs.lemmas.Result.{IfOk-weaker}
use Rattle.std.proofs.Common.{ℕ}
use Rattle.lawful_groups.proofs.CountLaws.{all_length}
use Rattle.lawful_groups.proofs.AgreeLaws.{agree_yes, agree_no}
use Rattle.lawful_groups.proofs.parts.agrees.Goals as goal

pub test_parts-requires-clause-uses : goal.test_parts-requires-clause-uses
test_parts-requires-clause-uses c =
    ap length c.requires.uses
    ∙ all_length (replicate (length c.args.owners.now) 0) c.args.processes.now
    ∙ length-replicate {A = ℕ} (length c.args.owners.now) 0

pub returns : goal.returns
returns c = IfOk-weaker c.test_parts.result _ _
    (λ b e. (
      λ h. agree_yes c.args.owners.now c.args.uses.now c.args.processes.now c.args.given
          c.args.threads.now (map (λ p. p.items) c.args.pipes.now) c.args.sleepers.now
          c.requires.frames c.requires.uses c.requires.rising (sym e ∙ h),
      λ all. e ∙ agree_no c.args.owners.now c.args.uses.now c.args.processes.now c.args.given
          c.args.threads.now (map (λ p. p.items) c.args.pipes.now) c.args.sleepers.now
          c.requires.frames c.requires.uses c.requires.rising all,
    )) c.test_parts.ensures
