use Rattle.std.proofs.Common.{◌≤◌, ◌∙◌, ap, length, subst}
use Rattle.std.proofs.lemmas.List.{take_all}
use Rattle.debug_connection.specs.Keeping.{texts_of}
use Rattle.dos_cmd.proofs.DebugEnds.{copied_more}
use Rattle.dos_cmd.proofs.debug.copies_of.Goals as goal

pub loop-index-init : goal.loop-index-init
loop-index-init c = ap texts_of c.new-copies.ensures.items

pub loop-index-preserved : goal.loop-index-preserved
loop-index-preserved c =
    copied_more _ _ c.in_ok-copy.copy c.args.names.now c.loop-index.index c.at.result.now
    c.at.ensures (c.in_ok-copy.ensures.items ∙ c.as_bytes.ensures.value) c.in_ok-push.ensures.items
    c.loop-index.invariant

pub returns : goal.returns
returns c =
    let le : length c.args.names.now ≤ c.loop-index.index =
    subst (λ n. n ≤ c.loop-index.index) c.len-index-end.ensures c.loop-index-test.false in
    c.loop-index.invariant ∙ take_all c.loop-index.index c.args.names.now le
