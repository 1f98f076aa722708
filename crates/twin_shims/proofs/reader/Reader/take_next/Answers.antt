use Rattle.std.proofs.Common.{◌≡◌, None, sym, ap, ◌∙◌}
use Rattle.twin_shims.specs.Follower.{ReaderState, follower_state}
use Rattle.twin_shims.proofs.Readers.{none_from, shows_taking}
use Rattle.twin_shims.proofs.reader.Reader.take_next.Goals as goal

pub returns-then-is_none-clause-told : goal.returns-then-is_none-clause-told
returns-then-is_none-clause-told g c =
    let none : c.clear.new.self.next ≡ None =
    sym (ap (λ (r : ReaderState). r.next) c.self.view_is)
    ∙ none_from _ _ c.is_none.ensures c.if-is_none.true in
    ap follower_state c.pop_next.ensures.1
    ∙ shows_taking c.clear.new.self c.pop_next.ensures.0 none
    ∙ ap follower_state c.clear.ensures
