use Rattle.std.proofs.Common.{◌++◌, ◌∙◌, ◌+◌, List, ℕ, [], ◌∷◌, map, drop, ap, sym, arith, Some}
use Rattle.std.proofs.lemmas.Option.{slice_get-get_or}
use Rattle.debug_session.specs.Stops.{console_text}
use Rattle.debug_connection.specs.Keeping.{texts_of}
use Rattle.debugger.proofs.Passed.{all_put, some_put}
use Rattle.debugger.specs.declared.forwards.Put.{Put}
use Rattle.debugger.specs.Halting.{puts_before}
use Rattle.debugger.proofs.Kept.{told_end, told_split}
use Rattle.debugger.proofs.session.Session.tell_puts.Goals as goal

pub loop-put-preserved : goal.loop-put-preserved
loop-put-preserved c =
    let puts = c.args.puts.now in
    let n = c.args.moves in
    let i = c.loop-put.put-index in
    some_put (texts_of c.loop-put.replies.items) _
    (map console_text (puts_before n (c.put-item.result ∷ [])))
    (texts_of c.tell_put.new.replies.items)
    (map console_text (puts_before n (drop i puts)))
    (map console_text (puts_before n (drop (i + 1) puts)))
    c.loop-put.invariant
    (told_split console_text n puts i c.put-item.result
    (slice_get-get_or puts i c.put-item.result (omega (arith, c.loop-put-test.true))
    ∙ ap (λ (p : Put). Some p) (sym c.put-item.is)))
    c.in_ok-tell_put.ensures

pub returns : goal.returns
returns c =
    let puts = c.args.puts.now in
    let n = c.args.moves in
    let i = c.loop-put.put-index in
    all_put (texts_of c.loop-put.replies.items) _ (map console_text (puts_before n (drop i puts)))
    c.loop-put.invariant
    (told_end console_text n puts i (omega (arith, c.loop-put-test.false)))
