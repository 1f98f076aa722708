use Rattle.std.proofs.Common.{◌≡◌, ℕ, List, ◌∷◌, [], ◌++◌, ap, ◌∙◌, codes}
use Rattle.std.proofs.lemmas.Result.{on_ok_weaker}
use Rattle.debug_connection.specs.Keeping.{texts_of}
use Rattle.debug_session.specs.Goals.{rewound}
use Rattle.debug_session.specs.Halts.{puts_from}
use Rattle.debugger.specs.Halting.{puts_before}
use Rattle.debugger.specs.Standing.{SessionView}
use Rattle.debugger.proofs.Telling.{prints_on, put_so_far}
use Rattle.debugger.proofs.session.Session.print_output.Goals as goal

pub returns : goal.returns
returns c =
    let k = c.args.self.now in
    let mid = c.puts_so_far.new.self in
    let said = c.in_ok-puts_so_far.ensures in
    let lines : List (List ℕ) = puts_before c.moves.result c.deref.result.now in
    let moves : c.moves.result ≡ k.playback.moves =
    c.moves.ensures.moves ∙ ap (λ (x : SessionView). x.playback.moves) c.self-2.view_is
    ∙ said.moves in
    on_ok_weaker c.say.result
    (λ put.
    prints_on k mid (texts_of c.args.replies.now.items) (texts_of c.say.new.replies.items)
    (λ s. puts_from (rewound s.position) s.position) lines said.same said.moves said.failed
    (put
    ∙ ap (λ (ts : List (List ℕ)). ts ++ codes "OK" ∷ []) c.in_ok-tell_puts.ensures)
    (λ s shows.
    ap (λ (n : ℕ). puts_before n c.deref.result.now) moves
    ∙ ap (puts_before k.playback.moves) c.deref.ensures.value
    ∙ put_so_far k s shows c.puts_so_far.new.puts.items
    (said.puts shows.start shows.start_is)))
    c.say.ensures
