use Rattle.std.proofs.Common.{◌≡◌, ◌≤◌, ◌+◌, ◌∙◌, ap, subst, sym, refl, Some, None, ℕ, true, arith}
use Rattle.std.proofs.Common.{Option, List, ◌++◌, length}
use Rattle.std.specs.Prelude.{IfSome, MatchOption, option_map}
use Rattle.dos_world.specs.World.{World}
use Rattle.group_walk.specs.Walks.{kind_named, kinds_named}
use Rattle.group_walk.specs.declared.walker.MoveKind.{MoveKind as kind_type}
use Rattle.recorded_walk.specs.Playbacks.{Heard, moves_made}
use Rattle.debug_session.specs.Halts.{some_bytes}
use Rattle.debug_session.specs.Forwards.{halt_moving}
use Rattle.debug_session.specs.Positions.{Position, first_kind, position_after}
use Rattle.debug_hits.specs.Kept.{HasLooked, Kept as Looked}
use Rattle.debug_client.specs.Clients.{ClientView}
use Rattle.debugger.specs.declared.halts.Halt.{Halt as Kept}
use Rattle.debugger.specs.Halting.{HasKept, WasSeen, halt_meant, puts_kept}
use Rattle.debugger.specs.Standing.{SessionView, here}
use Rattle.debugger.proofs.Kept.{kept_move, numbered_so}
use Rattle.debugger.proofs.Lasting.{asked_on, here_on, known_on, start_on}
use Rattle.debugger.proofs.Onward.{found_moves, move_ended, move_made}
use Rattle.debugger.proofs.session.Session.move_on.Goals as goal

pub returns-in_default-2-clause-halt : goal.returns-in_default-2-clause-halt
returns-in_default-2-clause-halt c start s is_start asked seen looked passing noted =
    move_ended s c.args.resumptions.now start c.args.way.now (here c.args.self.now start)
    c.at.result c.at.ensures ((c.in_ok-advance.ensures.advances start is_start).first
    ∙ ap (λ (o : Option kind_type). kinds_named o) c.in_default-2.is) noted

pub returns-in-Some-clause-halt : goal.returns-in-Some-clause-halt
returns-in-Some-clause-halt c start s is_start asked seen looked passing noted =
    c.in-Some.ensures.halt c.args.resumptions.now start s c.args.before.now is_start asked passing
    noted

pub returns-clause-halt : goal.returns-clause-halt
returns-clause-halt c start s is_start asked seen looked passing noted =
    let rs = c.args.resumptions.now in
    let way = c.args.way.now in
    let b = c.args.before.now in
    let k0 = c.args.self.now in
    let k1 = c.advance.new.self in
    let went = c.in_ok-advance.ensures in
    let found = c.in_ok-halt_moving.field-0 in
    let start1 = start_on k0 k1 went.same.run start is_start in
    let asked1 = asked_on k0 k1 went.same start s asked in
    let at : position_after b.moves start ≡ here k0 start =
    ap (λ n. position_after n start) c.requires.moves in
    let next : k1.playback.moves ≡ k0.playback.moves + 1 =
    went.moves ∙ ap (λ (o : Option kind_type). k0.playback.moves + moves_made o) c.in-Some-2.is in
    let moving = c.in_ok-halt_moving.ensures.halt start s start1 asked1
    (subst (λ (p : Position). WasSeen b s rs p.moment.world) (sym at) seen)
    (subst (λ (w : List Looked). HasLooked (position_after b.moves start).moment.world
    (kind_named b.kind) s.watchpoints w) (sym went.watched)
    (subst (λ (p : Position). HasLooked p.moment.world (kind_named b.kind) s.watchpoints
    k0.watched) (sym at) looked)) in
    move_made s rs start way (here k0 start) b _
    ((went.advances start is_start).first
    ∙ ap (λ (o : Option kind_type). kinds_named o) c.in-Some-2.is) passing noted
    (here k1 start) (here_on k0 k1 start next) found
    (moving ∙ ap (λ (p : Position). halt_moving s rs way.was_there
    (position_after way.last start) p (kind_named b.kind) (here k1 start)) at)

pub returns-clause-puts : goal.returns-clause-puts
returns-clause-puts c start first is_start from kept =
    let k0 = c.args.self.now in
    let k1 = c.advance.new.self in
    let went = c.in_ok-advance.ensures in
    let next : k1.playback.moves ≡ k0.playback.moves + 1 =
    went.moves ∙ ap (λ (o : Option kind_type). k0.playback.moves + moves_made o) c.in-Some-2.is in
    let heard = (went.advances start is_start).heard in
    kept_move start first k0.playback.moves k1.playback.moves c.args.puts.now.items
    c.keep_puts.new.puts.items k1.playback _ from next
    ((went.advances start is_start).first
    ∙ ap (λ (o : Option kind_type). kinds_named o) c.in-Some-2.is) heard
    (c.in_ok-keep_puts.ensures
    ∙ ap (λ n. puts_kept c.args.puts.now.items ++ numbered_so n
    (some_bytes k1.playback.output ++ some_bytes k1.playback.error)) c.requires.moves)
    kept

pub halt_moving-requires : goal.halt_moving-requires
halt_moving-requires c =
    let k0 = c.args.self.now in
    let k1 = c.advance.new.self in
    let b = c.args.before.now in
    let went = c.in_ok-advance.ensures in
    let next : k1.playback.moves ≡ k0.playback.moves + 1 =
    went.moves ∙ ap (λ (o : Option kind_type). k0.playback.moves + moves_made o) c.in-Some-2.is in
    let moves = c.requires.moves in
    let last = c.requires.last in
    record {
      running = went.failed;
      named = went.known c.args.resumptions.now c.requires.named;
      moves = omega (arith, next, moves);
      known = known_on k0 k1 went.known b.mover c.requires.known;
      count = c.requires.count
          ∙ ap (λ (x : ClientView). length x.watchpoints) (sym went.same.client);
      looked = c.requires.looked ∙ ap (λ (w : List Looked). length w) (sym went.watched);
      last = omega (arith, moves, last);
    }

pub returns-in_default-2-clause-moves : goal.returns-in_default-2-clause-moves
returns-in_default-2-clause-moves c =
    let end : c.at.result.moves ≡ c.args.way.now.last = ap (λ (h : Kept). h.moves) c.at.ensures in
    let moved : c.advance.new.self.playback.moves ≡ c.args.self.now.playback.moves + 0 =
    c.in_ok-advance.ensures.moves
    ∙ ap (λ (o : Option kind_type). c.args.self.now.playback.moves + moves_made o)
    c.in_default-2.is in
    let last = c.requires.last in
    let within = c.requires.within in
    let more = c.in_ok-advance.ensures.furthest in (
      omega (arith, end),
      omega (arith, end, moved, last),
      omega (arith, end, last, within, more),
    )

pub returns-clause-moves : goal.returns-clause-moves
returns-clause-moves c =
    let k0 = c.args.self.now in
    let k1 = c.advance.new.self in
    let next : k1.playback.moves ≡ k0.playback.moves + 1 =
    c.in_ok-advance.ensures.moves
    ∙ ap (λ (o : Option kind_type). k0.playback.moves + moves_made o) c.in-Some-2.is in
    found_moves c.in_ok-halt_moving.field-0 (k1.playback.moves ≡ k0.playback.moves + 1)
    c.args.way.now.last k1.playback.moves k1.furthest next c.in_ok-halt_moving.ensures.there
    c.in_ok-halt_moving.ensures.within

pub returns-in_default-2-clause-puts : goal.returns-in_default-2-clause-puts
returns-in_default-2-clause-puts c start first is_start from kept =
    let moved : c.args.self.now.playback.moves ≡ c.advance.new.self.playback.moves =
    (let is : c.advance.new.self.playback.moves ≡ c.args.self.now.playback.moves + 0 =
    c.in_ok-advance.ensures.moves
    ∙ ap (λ (o : Option kind_type). c.args.self.now.playback.moves + moves_made o)
    c.in_default-2.is in omega (arith, is)) in
    subst (λ n. HasKept start first n c.args.puts.now.items) moved kept

pub returns-in-Some-clause-moves : goal.returns-in-Some-clause-moves
returns-in-Some-clause-moves c =
    let there = c.in-Some.ensures.there in
    let last = c.requires.last in
    let within = c.requires.within in (
      omega (arith, there),
      omega (arith, there, last),
      omega (arith, there, last, within),
    )
