use Rattle.std.proofs.Common.{◌≡◌, ◌∙◌, ap, sym, Some, None, Option}
use Rattle.group_moves.specs.Moves.{MoveKind}
use Rattle.group_walk.specs.Walks.{kind_named, kinds_named}
use Rattle.debugger.proofs.session.Session.halt_before.Goals as goal

pub returns-in_default-clause-halt : goal.returns-in_default-clause-halt
returns-in_default-clause-halt c rs start s is_start asked seen next =
    c.in_default.ensures.halt rs start s is_start asked seen next

pub returns-in-Some-2-clause-halt : goal.returns-in-Some-2-clause-halt
returns-in-Some-2-clause-halt c rs start s is_start asked seen next =
    c.in-Some.ensures.halt rs start s is_start asked seen next

pub returns-in-None-clause-halt : goal.returns-in-None-clause-halt
returns-in-None-clause-halt c rs start s is_start asked seen next =
    let no : None ≡ Some (kind_named c.args.before.now.kind) =
    sym (c.in_ok-next.ensures.kind start is_start ∙ ap kinds_named c.in-None.is) ∙ next in
    cc
