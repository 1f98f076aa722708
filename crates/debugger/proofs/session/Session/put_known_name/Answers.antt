use Rattle.std.proofs.Common.{◌≡◌, ℕ, List, Option, None, ◌++◌, ◌∙◌, ap, sym, Bool, true, false}
use Rattle.std.specs.Prelude.{if◌then◌else◌}
use Rattle.std.proofs.lemmas.Result.{on_ok_weaker}
use Rattle.debug_session.specs.Files.{is_known, known_name, name_told}
use Rattle.debug_session.specs.Pages.{image_name}
use Rattle.debugger.proofs.session.Session.put_known_name.Goals as goal

pub put_name-requires-clause-known : goal.put_name-requires-clause-known
put_name-requires-clause-known c s shows =
    sym (c.is_known.ensures s shows) ∙ c.if-is_known.true

pub returns-then-is_known : goal.returns-then-is_known
returns-then-is_known c s shows =
    let p = c.args.process in
    let known : is_known s p ≡ true = sym (c.is_known.ensures s shows) ∙ c.if-is_known.true in
    let name : known_name s p ≡ image_name s p =
    ap (λ (b : Bool). if b then image_name s p else None) known in
    on_ok_weaker c.put_name.result
    (λ put. put ∙ ap (λ (n : Option (List ℕ)). c.args.out.now.items ++ name_told n c.args.part)
    (sym name))
    (c.put_name.ensures s shows)

pub returns : goal.returns
returns c s shows =
    let p = c.args.process in
    let hidden : is_known s p ≡ false = sym (c.is_known.ensures s shows) ∙ c.if-is_known.false in
    let none : known_name s p ≡ None =
    ap (λ (b : Bool). if b then image_name s p else None) hidden in
    on_ok_weaker c.put_text.result
    (λ put. put ∙ ap (λ (n : Option (List ℕ)). c.args.out.now.items ++ name_told n c.args.part)
    (sym none))
    c.put_text.ensures
