use Rattle.std.proofs.Common.{ℕ, ◌-◌, ◌∙◌, ap, sym, arith}
use Rattle.debug_session.specs.Positions.{first_kind, position_after}
use Rattle.debugger.proofs.Placing.{last_so, none_so}
use Rattle.debugger.proofs.Telling.{start_on}
use Rattle.debugger.proofs.session.Session.last_kind.Goals as goal

pub returns-then-moves-eq0-clause-kind : goal.returns-then-moves-eq0-clause-kind
returns-then-moves-eq0-clause-kind c =
    none_so c.self.view_is c.self.invariant c.requires
    (sym c.moves-moves.ensures.moves ∙ c.if-moves-eq0.true)

pub returns-clause-kind : goal.returns-clause-kind
returns-clause-kind c start is_start =
    let k = c.args.self.now in
    let mid = c.go_to.new.self in
    let moves : ℕ = c.moves-moves.result in
    last_so c.self.view_is c.self.invariant c.requires (moves - 1)
    (sym c.moves-moves.ensures.moves ∙ omega (arith, c.if-moves-eq0.false)) start is_start
    ∙ ap (λ (n : ℕ). first_kind (position_after n start).future) (sym c.in_ok-go_to.ensures.moves)
    ∙ c.in_ok-kind.ensures.kind start (start_on k mid c.in_ok-go_to.ensures.same.run start is_start)
