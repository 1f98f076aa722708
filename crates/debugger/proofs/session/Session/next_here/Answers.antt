use Rattle.std.proofs.Common.{◌≡◌, ℕ, ap, subst, ◌∙◌}
use Rattle.std.proofs.lemmas.Result.{IfOk-weaker, on_ok_weaker}
use Rattle.group_walk.specs.Walks.{kinds_named}
use Rattle.debug_session.specs.Positions.{Position, first_kind, position_after}
use Rattle.debug_where.specs.Places.{IsNextHere}
use Rattle.debugger.specs.Standing.{here}
use Rattle.debugger.proofs.Telling.{asked_on, same_on, start_on}
use Rattle.debugger.proofs.session.Session.next_here.Goals as goal

pub returns-in-Some-clause-next : goal.returns-in-Some-clause-next
returns-in-Some-clause-next c start s is_start asked =
    c.in_ok-next.ensures.kind start is_start ∙ ap kinds_named c.in-Some.is

pub returns-in-None-clause-next : goal.returns-in-None-clause-next
returns-in-None-clause-next c =
    let k = c.args.self.now in
    let mid = c.next.new.self in
    let same = c.in_ok-next.ensures.same in
    IfOk-weaker c.none_next.result _ _
    (λ next h start s is_start asked.
    let back : here mid start ≡ here k start =
    ap (λ (n : ℕ). position_after n start) c.in_ok-next.ensures.moves in
    subst (λ (at : Position). IsNextHere next s.recording at) back
    (h start s (start_on k mid same.run start is_start) (asked_on k mid same start s asked)
    (ap (λ (at : Position). first_kind at.future) back
    ∙ c.in_ok-next.ensures.kind start is_start ∙ ap kinds_named c.in-None.is)))
    c.none_next.ensures.next

pub returns-in-None-clause-moves : goal.returns-in-None-clause-moves
returns-in-None-clause-moves c =
    on_ok_weaker c.none_next.result (λ moves. moves ∙ c.in_ok-next.ensures.moves)
    c.none_next.ensures.moves

pub returns-in-None-clause-same : goal.returns-in-None-clause-same
returns-in-None-clause-same c =
    same_on c.args.self.now c.next.new.self c.none_next.new.self c.in_ok-next.ensures.same
    c.none_next.ensures.same
