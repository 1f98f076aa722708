use Rattle.std.proofs.Common.{ap, sym, subst, ◌∙◌, ◌≡◌, None, true}
use Rattle.debug_client.specs.Births.{BirthTables, knows_named}
use Rattle.debug_session.specs.Goals.{goal_position, rewound}
use Rattle.debug_session.specs.Halts.{halt_by}
use Rattle.debug_session.specs.Positions.{Position}
use Rattle.debug_session.specs.Sessions.{chosen_at}
use Rattle.debug_session.specs.declared.stops.Cause.TheVariants.{Plainly}
use Rattle.debugger.proofs.Lasting.{asked_on, here_rewound, same_on, start_on}
use Rattle.debugger.proofs.Onward.{meant_by}
use Rattle.debugger.proofs.session.Session.halt_gone.Goals as goal

pub returns-clause-halt : goal.returns-clause-halt
returns-clause-halt c rs start s is_start asked there =
    let k = c.go_to.new.self in
    let same = c.in_ok-go_to.ensures.same in
    let from = ap rewound there ∙ here_rewound c.args.self.now start is_start in
    let at = c.in_ok-moves.ensures.peopled start s
    (start_on c.args.self.now k same.run start is_start)
    (asked_on c.args.self.now k same start s asked) from in
    ap (λ (p : Position). halt_by 2 p (chosen_at s rs p) Plainly) (sym at)
    ∙ sym (meant_by s rs start c.at-halt.result c.in_ok-moves.moves 2 None Plainly
    c.at-halt.ensures)

pub returns-clause-same : goal.returns-clause-same
returns-clause-same c =
    same_on c.args.self.now c.go_to.new.self c.find_peopled.new.self
    c.in_ok-go_to.ensures.same c.in_ok-moves.ensures.same

pub returns-clause-known : goal.returns-clause-known
returns-clause-known c rs known =
    c.in_ok-moves.ensures.known rs
    (subst (λ (x : BirthTables). knows_named x rs ≡ true) (sym c.in_ok-go_to.ensures.births) known)

pub returns-in_err-moves-clause-same : goal.returns-in_err-moves-clause-same
returns-in_err-moves-clause-same c =
    same_on c.args.self.now c.go_to.new.self c.find_peopled.new.self
    c.in_ok-go_to.ensures.same c.in_err-moves.ensures.same
