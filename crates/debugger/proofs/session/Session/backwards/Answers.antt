use Rattle.std.proofs.Common.{arith, ap, ◌∙◌}
use Rattle.debugger.specs.Standing.{SessionView}
use Rattle.debugger.proofs.Behind.{begins_back, comes_back, comes_on, comes_past, nobody_yet}
use Rattle.debugger.proofs.Behind.{quiet_here}
use Rattle.debugger.proofs.Seen.{ready_inside}
use Rattle.debugger.proofs.Staying.{known_on, known_same, named_stays}
use Rattle.debugger.proofs.session.Session.backwards.Goals as goal

pub halt_behind-requires-clause-known : goal.halt_behind-requires-clause-known
halt_behind-requires-clause-known c =
    named_stays c.args.self.now c.loop-stepped.self c.loop-stepped.invariant.known c.args.stepped
    c.requires.known

pub pass_backwards-requires-clause-known : goal.pass_backwards-requires-clause-known
pass_backwards-requires-clause-known c =
    named_stays c.args.self.now c.halt_behind.new.self
    (known_on c.args.self.now c.loop-stepped.self c.halt_behind.new.self
    c.loop-stepped.invariant.known c.in_ok-halt.ensures.known) c.args.stepped c.requires.known

pub loop-stepped-init : goal.loop-stepped-init
loop-stepped-init c =
    let went = c.in_ok-go_to.ensures in
    let now = c.go_to.new.self in
    let rs = c.args.resumptions.now in
    let stepped = c.args.stepped in
    let ready = ready_inside _ _ c.self.view_is c.self.invariant c.requires.running in
    let behind = ready.behind in
    let moves = c.moves-moves.ensures.moves in
    let same = ap (λ (a : SessionView). a.furthest) c.self.view_is in
    let furthest = went.furthest in
    let there = c.halt_start-halt.ensures.there in
    let none = went.moves in
    record {
      running = went.failed;
      within = omega (arith, none);
      same = went.same;
      known = known_same c.args.self.now now went.births;
      furthest = omega (arith, behind, moves, same, furthest);
      there = omega (arith, there, none);
      born = c.halt_start-halt.ensures.born;
      halts = λ start s is_start asked. begins_back now none start is_start s rs stepped
          c.halt_start-halt.result (c.halt_start-halt.ensures.halt start s is_start asked);
      was_there = λ start s is_start asked. nobody_yet now none start is_start s rs stepped;
      quiet = quiet_here now c.in_ok-quiet.quiet c.in_ok-quiet.ensures;
    }

pub loop-stepped-preserved-then-not-was_there : goal.loop-stepped-preserved-then-not-was_there
loop-stepped-preserved-then-not-was_there c =
    let went = c.in_ok-halt.ensures in
    let test = c.moves.ensures.moves
    ∙ ap (λ (a : SessionView). a.playback.moves) c.self-in-loop-stepped.view_is in
    comes_on c.args.self.now c.loop-stepped.self c.halt_behind.new.self c.args.resumptions.now
    c.args.stepped c.moves-moves.result _ c.loop-stepped.was_there
    c.loop-stepped.halt c.loop-stepped.invariant went.same went.known went.furthest went.failed
    (omega (arith, went.moves, c.loop-stepped-test.true, test)) c.in_ok-halt.halt went.there
    went.born c.was_there_by-was_there.result c.was_there_by-was_there.ensures went.halt went.was

pub loop-stepped-preserved : goal.loop-stepped-preserved
loop-stepped-preserved c =
    let went = c.in_ok-halt.ensures in
    let test = c.moves.ensures.moves
    ∙ ap (λ (a : SessionView). a.playback.moves) c.self-in-loop-stepped.view_is in
    comes_on c.args.self.now c.loop-stepped.self c.halt_behind.new.self c.args.resumptions.now
    c.args.stepped c.moves-moves.result _ c.loop-stepped.was_there
    c.loop-stepped.halt c.loop-stepped.invariant went.same went.known went.furthest went.failed
    (omega (arith, went.moves, c.loop-stepped-test.true, test)) c.in_ok-halt.halt went.there
    went.born c.was_there_by-was_there.result c.was_there_by-was_there.ensures went.halt went.was

pub loop-stepped-preserved-in-Some : goal.loop-stepped-preserved-in-Some
loop-stepped-preserved-in-Some c =
    let old = c.args.self.now in
    let k = c.loop-stepped.self in
    let at = c.halt_behind.new.self in
    let went = c.in_ok-halt.ensures in
    let passed = c.in_ok-halt-2.ensures in
    let test = c.moves.ensures.moves
    ∙ ap (λ (a : SessionView). a.playback.moves) c.self-in-loop-stepped.view_is in
    let come = comes_on old k at c.args.resumptions.now c.args.stepped c.moves-moves.result
    _ c.loop-stepped.was_there c.loop-stepped.halt c.loop-stepped.invariant
    went.same went.known went.furthest went.failed
    (omega (arith, went.moves, c.loop-stepped-test.true, test)) c.in_ok-halt.halt went.there
    went.born c.was_there_by-was_there.result c.was_there_by-was_there.ensures went.halt went.was in
    comes_past old at c.pass_backwards.new.self c.args.resumptions.now c.args.stepped
    c.moves-moves.result _ c.was_there_by-was_there.result c.in_ok-halt.halt
    come passed.same passed.known passed.furthest passed.running passed.within
    c.in_ok-halt-2.halt passed.there passed.born c.if-not-was_there.false
    c.in-Some.stops c.in-Some.is c.deref.result.now c.deref.ensures.value passed.halt passed.was

pub returns-clause-halt : goal.returns-clause-halt
returns-clause-halt c start s is_start asked at =
    let within = c.loop-stepped.invariant.within in
    let test = c.moves.ensures.moves
    ∙ ap (λ (a : SessionView). a.playback.moves) c.self-in-loop-stepped.view_is in
    let are = c.moves-moves.ensures.moves
    ∙ ap (λ (a : SessionView). a.playback.moves) c.self.view_is in
    comes_back c.args.self.now c.loop-stepped.self c.args.resumptions.now c.args.stepped
    c.moves-moves.result _ c.loop-stepped.was_there c.loop-stepped.halt
    c.loop-stepped.invariant (omega (arith, within, test, are, c.loop-stepped-test.false)) start s
    is_start asked at

pub returns-clause-there : goal.returns-clause-there
returns-clause-there c =
    let there = c.loop-stepped.invariant.there in
    let within = c.loop-stepped.invariant.within in
    let furthest = c.loop-stepped.invariant.furthest in
    omega (arith, there, within, furthest)

pub returns-clause-back : goal.returns-clause-back
returns-clause-back c =
    let there = c.loop-stepped.invariant.there in
    let within = c.loop-stepped.invariant.within in
    let moves = c.moves-moves.ensures.moves
    ∙ ap (λ (a : SessionView). a.playback.moves) c.self.view_is in
    omega (arith, there, within, moves)
