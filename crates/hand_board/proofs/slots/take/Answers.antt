use Rattle.std.proofs.Common.{sym, subst, ap, ◌∙◌}
use mathlib.Core.Logic.{dite}
use mathlib.Core.Option.{some}
use native.Mathlib.Decide.{ℕ_discrete}
use Rattle.std.specs.Mem.Slots.{slots_items}
use Rattle.hand_board.proofs.Counts.{there}
use Rattle.hand_board.proofs.Values.{comes_to_rest, none_empty}
use Rattle.hand_board.proofs.slots.take.Goals as goal

pub finished-requires : goal.finished-requires
finished-requires g c three =
    let xs = c.args.opened.now.value.opened in
    let t = there xs c.args.i c.requires.number in
    let r = comes_to_rest _ _ xs (slots_items c.args.closed.now.words)
    (slots_items c.args.closed.now.slots) c.args.i _ _ _ c.requires.rests c.word-word.ensures
    c.take.ensures.value c.in-Some.is t.0 t.1 in
    (r.1 three).0

pub unreachable-requires : goal.unreachable-requires
unreachable-requires g c = none_empty _ _ c.args.opened.now.value.opened
    (slots_items c.args.closed.now.words) (slots_items c.args.closed.now.slots) c.args.i
    c.requires.rests c.requires.number (c.take.ensures.value ∙ ap some c.in-None.is)

pub returns-clause-finished : goal.returns-clause-finished
returns-clause-finished g c x at =
    let r = comes_to_rest _ _ c.args.opened.now.value.opened (slots_items c.args.closed.now.words)
    (slots_items c.args.closed.now.slots) c.args.i _ _ _ c.requires.rests c.word-word.ensures
    c.take.ensures.value c.in-Some.is x at in
    let e = c.finished.ensures in
    dite (ℕ_discrete c.word-word.result 3) (λ three. (r.1 three).1 _ (e.under_way three))
    (λ no. subst (g.T.Part.finished x) (sym (e.finished no)) (r.0 no))
