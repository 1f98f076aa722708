use Rattle.std.proofs.Common.{ap, sym, ◌∙◌, arith, ◌≡◌, ◌+◌, ◌≤◌, refl, Option, Some, None}
use Rattle.std.specs.Prelude.{not}
use Rattle.debug_session.specs.Positions.{position_after}
use Rattle.debugger.specs.Halting.{peopled_at}
use Rattle.debugger.specs.Standing.{here}
use Rattle.debugger.proofs.Lasting.{asked_on, here_on, none_made, same_here, same_on, some_made}
use Rattle.debugger.proofs.Lasting.{start_on, start_past}
use Rattle.debugger.proofs.Pathway.{none_ahead}
use Rattle.debugger.proofs.Reached.{goal_is, peopled_moved, peopled_start, reached_end}
use Rattle.debugger.proofs.Reached.{reached_here, reached_moved, reached_of}
use Rattle.debugger.proofs.session.Session.find_peopled.Goals as goal

pub loop-init : goal.loop-init
loop-init c = record {
  same = same_here c.args.self.now;
  known = λ rs h. h;
  running = c.requires.running;
  within = omega arith;
  reached = λ start is_start. ap (λ n. reached_of c.args.round c.args.made (position_after n start))
      (sym c.requires.first);
  peopled = λ start s is_start asked none.
      sym (ap (λ n. peopled_at s (position_after n start)) c.requires.first
      ∙ peopled_start s start (start_past c.args.self.now.playback start is_start));
}

pub returns-then-is_reached-clause-peopled : goal.returns-then-is_reached-clause-peopled
returns-then-is_reached-clause-peopled c start s is_start asked from =
    let inv = c.loop.invariant in
    let k = c.loop.self in
    let start_now = start_on c.args.self.now k inv.same.run start is_start in
    let asked_now = asked_on c.args.self.now k inv.same start s asked in
    c.peopled_here-peopled.ensures.peopled start s start_now asked_now
    (inv.peopled start s is_start asked)
    ∙ ap (peopled_at s) (sym (inv.reached start is_start
    ∙ reached_here c.args.round c.args.made (here k start)
    (sym (c.is_reached.ensures start start_now) ∙ c.if-is_reached.true)))
    ∙ sym (goal_is s c.args.round c.args.made start from)

pub returns-then-is_none-clause-peopled : goal.returns-then-is_none-clause-peopled
returns-then-is_none-clause-peopled c start s is_start asked from =
    let inv = c.loop.invariant in
    let k = c.loop.self in
    let start_now = start_on c.args.self.now k inv.same.run start is_start in
    let asked_now = asked_on c.args.self.now k inv.same start s asked in
    let over = none_ahead (here k start).future
    ((c.in_ok-advance.ensures.advances start start_now).first
    ∙ none_made c.in_ok-advance.field-0 (c.is_none.ensures ∙ ap not c.if-is_none.true)) in
    c.peopled_here-peopled.ensures.peopled start s start_now asked_now
    (inv.peopled start s is_start asked)
    ∙ ap (peopled_at s) (sym (inv.reached start is_start
    ∙ reached_end c.args.round c.args.made (here k start) over))
    ∙ sym (goal_is s c.args.round c.args.made start from)

pub pass_towards-peopled-requires-clause-within :
    goal.pass_towards-peopled-requires-clause-within
pass_towards-peopled-requires-clause-within c =
    let low = c.peopled_here-peopled.ensures.within c.loop.invariant.within in
    let more = c.in_ok-advance.ensures.furthest in
    omega (arith, low, more)

pub loop-preserved : goal.loop-preserved
loop-preserved c =
    let inv = c.loop.invariant in
    let old = c.args.self.now in
    let k = c.loop.self in
    let mid = c.advance.new.self in
    let new = c.pass_towards-peopled.new.self in
    let e = c.in_ok-advance.ensures in
    let passed = c.pass_towards-peopled.ensures in
    let made = some_made c.in_ok-advance.field-0 (c.is_none.ensures ∙ ap not c.if-is_none.false) in
    let next : mid.playback.moves ≡ k.playback.moves + 1 = e.moves
    ∙ ap (λ n. k.playback.moves + n) made.one in
    let same_mid = same_on old k mid inv.same e.same in
    record {
      same = same_on old mid new same_mid passed.same;
      known = λ rs h. passed.known rs (e.known rs (inv.known rs h));
      running = passed.running;
      within = passed.within;
      reached = λ start is_start.
          let start_now = start_on old k inv.same.run start is_start in
          inv.reached start is_start
          ∙ reached_moved (here k start) (here mid start) made.kind (here_on k mid start next)
          ((e.advances start start_now).first ∙ made.kind_is) c.args.round c.args.made
          (sym (c.is_reached.ensures start start_now) ∙ c.if-is_reached.false)
          ∙ passed.reached start (start_on old mid same_mid.run start is_start);
      peopled = λ start s is_start asked none.
          let start_now = start_on old k inv.same.run start is_start in
          let asked_now = asked_on old k inv.same start s asked in
          passed.peopled start s (start_on old mid same_mid.run start is_start)
          (asked_on old mid same_mid start s asked)
          (λ none_mid. c.peopled_here-peopled.ensures.peopled start s start_now asked_now
          (inv.peopled start s is_start asked)
          ∙ peopled_moved (here k start) (here mid start) made.kind (here_on k mid start next)
          ((e.advances start start_now).first ∙ made.kind_is) s none_mid);
    }

pub returns-then-is_none-clause-same : goal.returns-then-is_none-clause-same
returns-then-is_none-clause-same c =
    same_on c.args.self.now c.loop.self c.advance.new.self c.loop.invariant.same
    c.in_ok-advance.ensures.same

pub returns-then-is_none-clause-known : goal.returns-then-is_none-clause-known
returns-then-is_none-clause-known c rs known =
    c.in_ok-advance.ensures.known rs (c.loop.invariant.known rs known)

pub returns-then-is_none-clause-there : goal.returns-then-is_none-clause-there
returns-then-is_none-clause-there c =
    let low = c.peopled_here-peopled.ensures.within c.loop.invariant.within in
    let more = c.in_ok-advance.ensures.furthest in
    omega (arith, low, more)

pub returns-then-is_reached-clause-there : goal.returns-then-is_reached-clause-there
returns-then-is_reached-clause-there c =
    c.peopled_here-peopled.ensures.within c.loop.invariant.within

pub returns-in_err-advance-clause-same : goal.returns-in_err-advance-clause-same
returns-in_err-advance-clause-same c =
    same_on c.args.self.now c.loop.self c.advance.new.self c.loop.invariant.same
    c.in_err-advance.ensures.same
