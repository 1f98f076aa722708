use Rattle.std.proofs.Common.{ap, sym, subst, ◌∙◌, arith, ◌≡◌, ◌≤◌, ◌+◌, true, false, List, Option}
use Rattle.std.proofs.Common.{Some, ℕ}
use Rattle.std.specs.Prelude.{IfSome}
use Rattle.gdb_packets.specs.declared.resumptions.Resumption.{Resumption}
use Rattle.debug_session.specs.Sessions.{Session}
use Rattle.recorded_walk.specs.Playbacks.{IsStartOf}
use Rattle.debug_client.specs.Births.{knows_named}
use Rattle.debugger.specs.declared.forwards.Put.{Put}
use Rattle.debugger.specs.declared.forwards.Way.{Way}
use Rattle.debug_session.specs.Forwards.{forwards, forwards_over}
use Rattle.debug_session.specs.Halts.{puts_from}
use Rattle.debug_session.specs.Positions.{Position, position_after}
use Rattle.debugger.specs.declared.halts.Halt.{Halt as Kept}
use Rattle.debugger.specs.Halting.{HasKept, forwards_from, halt_meant}
use Rattle.debugger.specs.Quiet.{StopsAtAddresses}
use Rattle.debugger.specs.Standing.{IsAsked, IsSame, SessionView, StillKnows, here}
use Rattle.debugger.proofs.Kept.{kept_none}
use Rattle.debugger.proofs.Lasting.{asked_on, same_here, same_on, start_on}
use Rattle.debugger.proofs.Onward.{match_none, match_some}
use Rattle.debugger.proofs.session.Session.forwards.Goals as goal
use Rattle.debugger.proofs.session.Session.forwards.Goals.{in-Some-stops+in_ok-way}
use Rattle.debugger.proofs.session.Session.forwards.Goals.{in_default-stops}

pub loop-init : goal.loop-init
loop-init c =
    let moves_are = c.moves.ensures.moves
    ∙ ap (λ (x : SessionView). x.playback.moves) c.self.view_is in
    record {
      same = same_here c.args.self.now;
      known = λ rs h. h;
      running = c.requires.running;
      named = c.requires.named;
      low = omega (arith, moves_are);
      high = omega (arith, moves_are);
      halt = λ start s is_start asked there.
          let rs = c.args.resumptions.now in
          let at = here c.args.self.now start in
          ap (λ (p : Position). forwards_over s rs true false p p.past p.moment p.future) there
          ∙ ap (λ n. forwards_over s rs true false (position_after n start) at.past at.moment
          at.future) (sym moves_are);
      kept = λ start is_start.
          kept_none start c.args.self.now.playback.moves c.args.puts.now.items c.requires.none;
      quiet = c.in_ok-stops.ensures;
    }

some_of : {A : Type 0} (o : Option A) (a : A) (P : A → Type 0) → o ≡ Some a → IfSome o P → P a
some_of o a P is holds = subst (λ x. IfSome x P) is holds

-- what the loop keeps, for a session and a way
abbrev Holds : SessionView → List Resumption → List Put → SessionView → Way → Type 0
Holds old rs puts k way = record {
  same : IsSame old k;
  known : StillKnows old k;
  running : k.failed ≡ false;
  named : knows_named k.births rs ≡ true;
  low : old.playback.moves ≤ way.last;
  high : way.last ≤ k.playback.moves;
  halt : (start : Position) (s : Session) → IsStartOf old.playback start
      → IsAsked old start s → s.position ≡ here old start
      → forwards s rs ≡ forwards_from s rs start way (here k start);
  kept : (start : Position) → IsStartOf old.playback start
      → HasKept start old.playback.moves k.playback.moves puts;
}

pub loop-preserved : goal.loop-preserved
loop-preserved c =
    let old = c.args.self.now in
    let k = c.loop.self in
    let new = c.go_on.new.self in
    let puts = c.go_on.new.puts.items in
    let inv = c.loop.invariant in
    let rs = c.args.resumptions.now in
    let way = c.with_here-way.result in
    let on : Way = record way { is_first = false } in
    let here_e = c.with_here-way.ensures in
    let e = c.in_ok-halt.ensures in
    let stepped : Holds old rs puts new on = record {
      same = same_on old k new inv.same e.same;
      known = λ xs h. e.known xs (inv.known xs h);
      running = e.failed;
      named = e.known rs inv.named;
      low = (let a = inv.low in let b = here_e.low in omega (arith, a, b));
      high = (let a = here_e.high in
          let b = match_none c.in_ok-halt.field-0
          (new.playback.moves ≡ k.playback.moves + 1)
          (λ (halt : Kept). (way.last ≤ halt.moves) × (halt.moves ≤ new.playback.moves)
          × (halt.moves ≤ new.furthest)) c.in_default.is e.moves in
          omega (arith, a, b));
      halt = λ start s is_start asked there.
          let start_now = start_on old k inv.same.run start is_start in
          let asked_now = asked_on old k inv.same start s asked in
          inv.halt start s is_start asked there
          ∙ here_e.same start s start_now asked_now
          ∙ match_none c.in_ok-halt.field-0
          (forwards_from s rs start way (here k start)
          ≡ forwards_from s rs start on (here new start))
          (λ (halt : Kept). forwards_from s rs start way (here k start)
          ≡ halt_meant s rs start halt) c.in_default.is
          (e.halt start s start_now asked_now (here_e.noted start s start_now asked_now));
      kept = λ start is_start.
          let start_now = start_on old k inv.same.run start is_start in
          e.puts start old.playback.moves start_now
          (let a = inv.low in let b = inv.high in omega (arith, a, b))
          (inv.kept start is_start);
    } in
    let now : Holds old rs puts c.match-stops-3.self c.match-stops-3.way' =
    elim c.match-stops-3.branch [
      | in-Some-stops+in_ok-way w ↦
          let last = w.pass_forwards.new.self in
          let passes = w.in_ok-way.ensures in
          let passed : Holds old rs puts last w.in_ok-way.way = record {
            same = same_on old new last stepped.same passes.same;
            known = λ xs h. passes.known xs (stepped.known xs h);
            running = passes.running;
            named = passes.known rs stepped.named;
            low = (let a = stepped.low in let b = passes.low in omega (arith, a, b));
            high = passes.last;
            halt = λ start s is_start asked there.
                let start_now = start_on old new stepped.same.run start is_start in
                let asked_now = asked_on old new stepped.same start s asked in
                let quiet = some_of _ w.in-Some-stops.stops _ w.in-Some-stops.is inv.quiet
                start s asked in
                stepped.halt start s is_start asked there
                ∙ passes.passes start s start_now asked_now
                (subst (StopsAtAddresses s) (sym w.deref.ensures.value) quiet.0) quiet.1;
            kept = λ start is_start.
                let start_now = start_on old new stepped.same.run start is_start in
                passes.puts start old.playback.moves puts start_now
                (let a = stepped.low in let b = stepped.high in omega (arith, a, b))
                (stepped.kept start is_start);
          } in
          subst (λ (x : SessionView). Holds old rs puts x c.match-stops-3.way')
          (sym w.self-is)
          (subst (λ (x : Way). Holds old rs puts last x) (sym w.way'-is) passed)
      | in_default-stops w ↦
          subst (λ (x : SessionView). Holds old rs puts x c.match-stops-3.way')
          (sym w.self-is)
          (subst (λ (x : Way). Holds old rs puts new x) (sym w.way'-is) stepped)
    ] in
    record {
      same = now.same;
      known = now.known;
      running = now.running;
      named = now.named;
      low = now.low;
      high = now.high;
      halt = now.halt;
      kept = now.kept;
      quiet = inv.quiet;
    }

pub returns-in-Some-clause-halt : goal.returns-in-Some-clause-halt
returns-in-Some-clause-halt c start s is_start asked there =
    let old = c.args.self.now in
    let k = c.loop.self in
    let new = c.go_on.new.self in
    let inv = c.loop.invariant in
    let rs = c.args.resumptions.now in
    let way = c.with_here-way.result in
    let here_e = c.with_here-way.ensures in
    let e = c.in_ok-halt.ensures in
    let n = c.in-Some.halt.moves in
    let there_is = match_some c.in_ok-halt.field-0 c.in-Some.halt
    (new.playback.moves ≡ k.playback.moves + 1)
    (λ (halt : Kept). (way.last ≤ halt.moves) × (halt.moves ≤ new.playback.moves)
    × (halt.moves ≤ new.furthest)) c.in-Some.is e.moves in
    let start_now = start_on old k inv.same.run start is_start in
    let asked_now = asked_on old k inv.same start s asked in
    let kept = e.puts start old.playback.moves start_now
    (let a = inv.low in let b = inv.high in omega (arith, a, b))
    (inv.kept start is_start) in (
      inv.halt start s is_start asked there ∙ here_e.same start s start_now asked_now
          ∙ match_some c.in_ok-halt.field-0 c.in-Some.halt
          (forwards_from s rs start way (here k start)
          ≡ forwards_from s rs start (record way { is_first = false }) (here new start))
          (λ (halt : Kept). forwards_from s rs start way (here k start)
          ≡ halt_meant s rs start halt) c.in-Some.is
          (e.halt start s start_now asked_now (here_e.noted start s start_now asked_now)),
      kept.each n
          (let a = inv.low in let b = here_e.low in let d = there_is.0 in omega (arith, a, b, d))
          there_is.1
          ∙ ap (λ (p : Position). puts_from p (position_after n start)) (sym there),
    )

pub returns-in-Some-clause-same : goal.returns-in-Some-clause-same
returns-in-Some-clause-same c =
    same_on c.args.self.now c.loop.self c.go_on.new.self c.loop.invariant.same
    c.in_ok-halt.ensures.same

pub returns-in-Some-clause-known : goal.returns-in-Some-clause-known
returns-in-Some-clause-known c rs known =
    c.in_ok-halt.ensures.known rs (c.loop.invariant.known rs known)

pub returns-in_err-halt-clause-same : goal.returns-in_err-halt-clause-same
returns-in_err-halt-clause-same c =
    same_on c.args.self.now c.loop.self c.go_on.new.self c.loop.invariant.same
    c.in_err-halt.ensures.same

pub returns-in_err-way-clause-same : goal.returns-in_err-way-clause-same
returns-in_err-way-clause-same c =
    same_on c.args.self.now c.go_on.new.self c.pass_forwards.new.self
    (same_on c.args.self.now c.loop.self c.go_on.new.self c.loop.invariant.same
    c.in_ok-halt.ensures.same) c.in_err-way.ensures.same
