use Rattle.std.proofs.Common.{◌++◌, ◌∙◌, List, ℕ, [], ◌∷◌, append-nil, ap, sym}
use Rattle.std.specs.Global.{Vec}
use Rattle.std.proofs.lemmas.List.{map-append}
use Rattle.debug_session.specs.Stops.{console_text}
use Rattle.debug_connection.specs.Keeping.{texts_of}
use Rattle.debugger.proofs.Kept.{none_told, one_told}
use Rattle.debugger.proofs.session.Session.tell_put.Goals as goal

pub returns-then-moves-put : goal.returns-then-moves-put
returns-then-moves-put c =
    sym (append-nil (texts_of c.args.replies.now.items))
    ∙ ap (λ (ts : List (List ℕ)). texts_of c.args.replies.now.items ++ ts)
    (sym (none_told console_text c.args.moves c.args.put.now c.if-moves-put.true))

pub returns : goal.returns
returns c =
    let old = texts_of c.args.replies.now.items in
    let less = c.if-moves-put.false in
    ap (λ vs. texts_of vs) c.in_ok-push.ensures.items
    ∙ map-append (λ (v : Vec ℕ). v.items) c.args.replies.now.items
    (c.put_console.new.out ∷ [])
    ∙ ap (λ (t : List ℕ). old ++ t ∷ [])
    (c.in_ok-put_console.ensures
    ∙ ap (λ (b : List ℕ). b ++ console_text c.deref.result.now) c.new-text.ensures.items
    ∙ ap (λ (b : List ℕ). console_text b) c.deref.ensures.value)
    ∙ ap (λ (ts : List (List ℕ)). old ++ ts)
    (sym (one_told console_text c.args.moves c.args.put.now less))
