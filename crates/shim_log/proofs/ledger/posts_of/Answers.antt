use Rattle.std.proofs.Common.{◌∙◌, ◌∷◌, ◌++◌, [], List, length, sym, ap, arith}
use Rattle.std.proofs.lemmas.Bool.{eq-eqb, ne_eqb}
use Rattle.std.proofs.lemmas.List.{length_push}
use Rattle.dos_world.specs.declared.Post.{Post}
use Rattle.shim_log.proofs.PostLaws.{in_that_round, in_another}
use Rattle.shim_log.proofs.ledger.posts_of.Goals.{then-at-round, else-at-round}
use Rattle.shim_log.proofs.ledger.posts_of.Goals as goal

pub loop-i-preserved : goal.loop-i-preserved
loop-i-preserved c =
    let x = c.post_at-at.result in
    elim c.if-at-round.branch [
      | then-at-round w ↦ (
        w.list-is ∙ w.push.ensures ∙ ap (λ (ps : List Post). ps ++ x.1 ∷ []) c.loop-i.invariant.0
            ∙ sym (in_that_round c.args.posts.now c.loop-i.i c.args.round x c.loop-i-test.true
            c.post_at-at.ensures.value (eq-eqb _ _ w.if-at-round.true)),
        omega (
          arith,
          ap length (w.list-is ∙ w.push.ensures),
          length_push c.loop-i.list x.1,
          c.loop-i.invariant.1,
        ),
      )
      | else-at-round w ↦ (
        w.list-is ∙ c.loop-i.invariant.0
            ∙ sym (in_another c.args.posts.now c.loop-i.i c.args.round x c.loop-i-test.true
            c.post_at-at.ensures.value (ne_eqb _ _ w.if-at-round.false)),
        omega (arith, ap length w.list-is, c.loop-i.invariant.1),
      )
    ]
