use Rattle.std.proofs.Common.{ℕ, Bool, List, sym, ◌∙◌, arith}
use Rattle.std.proofs.lemmas.Option.{slice_get-get_or}
use Rattle.group_moves.specs.Moments.{Moment}
use Rattle.gdb_packets.specs.declared.resumptions.Resumption.{Resumption}
use Rattle.debug_session.specs.Actions.{id_names}
use Rattle.debug_client.specs.Births.{knows_id}
use Rattle.debug_client.proofs.Walked.{any_here, any_on, any_end, all_next}
use Rattle.debug_client.proofs.actions.are_for.Goals as goal

abbrev names : List Moment → (p : ℕ) → Resumption → Bool
names moments p r = id_names moments r.threads p

pub returns-then-id_names : goal.returns-then-id_names
returns-then-id_names c moments a =
    let rs = c.args.resumptions.now in
    let i = c.loop-resumption.resumption-index in
    sym (any_here (names moments c.args.process) rs i _
    (slice_get-get_or rs i _ (omega (arith, c.loop-resumption-test.true)))
    (sym (c.id_names.ensures moments a) ∙ c.if-id_names.true))
    ∙ c.loop-resumption.invariant.found moments a

pub loop-resumption-preserved : goal.loop-resumption-preserved
loop-resumption-preserved c =
    let rs = c.args.resumptions.now in
    let i = c.loop-resumption.resumption-index in
    record {
      named = all_next (λ (r : Resumption). knows_id c.args.births.now r.threads) rs i
          (omega (arith, c.loop-resumption-test.true)) c.loop-resumption.invariant.named;
      found = λ moments a.
          sym (any_on (names moments c.args.process) rs i _
          (slice_get-get_or rs i _ (omega (arith, c.loop-resumption-test.true)))
          (sym (c.id_names.ensures moments a) ∙ c.if-id_names.false))
          ∙ c.loop-resumption.invariant.found moments a;
    }

pub returns : goal.returns
returns c moments a =
    sym (any_end (names moments c.args.process) c.args.resumptions.now
    c.loop-resumption.resumption-index (omega (arith, c.loop-resumption-test.false)))
    ∙ c.loop-resumption.invariant.found moments a
