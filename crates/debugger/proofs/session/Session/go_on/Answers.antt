use Rattle.std.proofs.Common.{◌≡◌, ◌≤◌, ◌+◌, ◌∙◌, ap, subst, sym, refl, Some, None, ℕ, true, arith}
use Rattle.std.proofs.Common.{List, Option, false}
use Rattle.std.specs.Prelude.{IfSome, IsSome, MatchOption, length, option_map}
use Rattle.debug_client.specs.Births.{BirthTables, has_home, knows_named}
use Rattle.debug_client.specs.Clients.{ClientView}
use Rattle.debugger.specs.declared.halts.Halt.{Halt as Kept}
use Rattle.group_moves.specs.Moves.{MoveKind}
use Rattle.group_walk.specs.Walks.{kind_named, kinds_named}
use Rattle.group_walk.specs.declared.walker.MoveKind.{MoveKind as kind_type}
use Rattle.debug_hits.specs.Kept.{HasLooked, Kept as Looked}
use Rattle.debug_session.specs.Halts.{Halt}
use Rattle.debug_session.specs.Positions.{Position, first_kind, position_after}
use Rattle.recorded_walk.specs.Playbacks.{IsStartOf, Played}
use Rattle.debugger.specs.Halting.{HasKept, IsNoted, IsPassing, WasSeen, forwards_from, halt_meant}
use Rattle.debugger.specs.Halting.{halt_unless}
use Rattle.debugger.specs.Standing.{SessionView, here}
use Rattle.debugger.proofs.Lasting.{asked_on, here_same, same_on, start_on}
use Rattle.debugger.proofs.Onward.{before_halts, move_ended, nothing_ahead, passing_of}
use Rattle.debugger.proofs.Shown.{ready_of}
use Rattle.debugger.proofs.session.Session.go_on.Goals as goal

pub returns-in_default-clause-halt : goal.returns-in_default-clause-halt
returns-in_default-clause-halt c start s is_start asked noted =
    let ahead = subst (λ (p : Played). (start : Position) (made : MoveKind) → IsStartOf p start
    → first_kind (position_after p.moves start).future ≡ Some made
    → kinds_named c.kind.result ≡ Some made)
    (ap (λ (x : SessionView). x.playback) c.self.view_is) c.kind.ensures.ahead in
    move_ended s c.args.resumptions.now start c.args.way.now (here c.args.self.now start)
    c.at.result c.at.ensures
    (nothing_ahead (here c.args.self.now start).future c.kind.result
    (λ made first. ahead start made is_start first) c.in_default.is) noted

pub returns-in-Some-2-clause-halt : goal.returns-in-Some-2-clause-halt
returns-in-Some-2-clause-halt c start s is_start asked noted =
    let rs = c.args.resumptions.now in
    let way = c.args.way.now in
    let k0 = c.args.self.now in
    let k1 = c.look.new.self in
    let b = c.in_ok-before.before in
    let looks = c.in_ok-before.ensures in
    let halts = c.in_ok-halt.ensures in
    let one = ap (λ (k : SessionView). here k start) looks.rest in
    let start1 = start_on k0 k1 looks.same.run start is_start in
    let asked1 = asked_on k0 k1 looks.same start s asked in
    let seen = looks.seen start s is_start asked in
    let ahead = subst (λ (p : Played). (start : Position) (made : MoveKind) → IsStartOf p start
    → first_kind (position_after p.moves start).future ≡ Some made
    → kinds_named c.kind.result ≡ Some made)
    (ap (λ (x : SessionView). x.playback) c.self.view_is) c.kind.ensures.ahead in
    before_halts s rs start way (here k0 start) b c.kind.result
    (c.in-Some.is ∙ ap (λ (k : kind_type). Some k) (sym looks.kind))
    (λ made first. ahead start made is_start first) c.in-Some-2.halt
    (subst (λ (p : Position). IsSome (first_kind p.future)) one (subst (λ (o : Option Kept). IfSome
    o (λ halt. (start : Position) → IsStartOf k1.playback start
    → IsSome (first_kind (here k1 start).future))) c.in-Some-2.is halts.next start start1))
    (λ first. subst (λ (p : Position). Some (halt_meant s rs start c.in-Some-2.halt)
    ≡ halt_unless way.is_first s rs p) one
    (ap (λ (o : Option Kept). option_map (halt_meant s rs start) o) (sym c.in-Some-2.is)
    ∙ halts.halt rs start s start1 asked1
    (subst (λ (p : Position). WasSeen b s rs p.moment.world) (sym one) seen.0)
    (ap (λ (p : Position). first_kind p.future) one ∙ first)))
    noted

pub returns-clause-halt : goal.returns-clause-halt
returns-clause-halt c start s is_start asked noted =
    let rs = c.args.resumptions.now in
    let way = c.args.way.now in
    let k0 = c.args.self.now in
    let k1 = c.look.new.self in
    let k2 = c.halt_unless_first.new.self in
    let k3 = c.move_on.new.self in
    let b = c.in_ok-before.before in
    let looks = c.in_ok-before.ensures in
    let halts = c.in_ok-halt.ensures in
    let moves = c.in_ok-move_on.ensures in
    let one = ap (λ (k : SessionView). here k start) looks.rest in
    let two = here_same k1 k2 start halts.moves ∙ one in
    let start1 = start_on k0 k1 looks.same.run start is_start in
    let asked1 = asked_on k0 k1 looks.same start s asked in
    let start2 = start_on k1 k2 halts.same.run start start1 in
    let asked2 = asked_on k1 k2 halts.same start s asked1 in
    let seen = looks.seen start s is_start asked in
    let ahead = subst (λ (p : Played). (start : Position) (made : MoveKind) → IsStartOf p start
    → first_kind (position_after p.moves start).future ≡ Some made
    → kinds_named c.kind.result ≡ Some made)
    (ap (λ (x : SessionView). x.playback) c.self.view_is) c.kind.ensures.ahead in
    let passing = passing_of s rs start way (here k0 start) b c.kind.result
    (c.in-Some.is ∙ ap (λ (k : kind_type). Some k) (sym looks.kind))
    (λ made first. ahead start made is_start first)
    (λ first. let none : Option Halt = None in
    subst (λ (p : Position). none ≡ halt_unless way.is_first s rs p) one
    (ap (λ (o : Option Kept). option_map (halt_meant s rs start) o) (sym c.in_default-2.is)
    ∙ halts.halt rs start s start1 asked1
    (subst (λ (p : Position). WasSeen b s rs p.moment.world) (sym one) seen.0)
    (ap (λ (p : Position). first_kind p.future) one ∙ first))) in
    let looked = subst (λ (w : List Looked). HasLooked (here k2 start).moment.world
    (kind_named b.kind) s.watchpoints w) (sym halts.watched)
    (subst (λ (x : kind_type). HasLooked (here k2 start).moment.world (kind_named x)
    s.watchpoints k1.watched) (sym looks.kind)
    (subst (λ (p : Position). HasLooked p.moment.world (kind_named c.in-Some.kind) s.watchpoints
    k1.watched) (sym two) seen.1)) in
    subst (λ (p : Position). MatchOption c.in_ok-move_on.field-0
    (forwards_from s rs start way p
    ≡ forwards_from s rs start (record way { is_first = false }) (here k3 start))
    (λ halt. forwards_from s rs start way p ≡ halt_meant s rs start halt)) two
    (moves.halt start s start2 asked2
    (subst (λ (p : Position). WasSeen b s rs p.moment.world) (sym two) seen.0) looked
    (subst (IsPassing b s rs way.is_first) (sym two) passing)
    (subst (IsNoted s rs start way) (sym two) noted))

pub halt_unless_first-requires : goal.halt_unless_first-requires
halt_unless_first-requires c =
    let looks = c.in_ok-before.ensures in
    record {
      running = looks.failed;
      moves = looks.moves ∙ sym (ap (λ (k : SessionView). k.playback.moves) looks.rest);
      known = looks.known;
    }

pub move_on-requires : goal.move_on-requires
move_on-requires c =
    let k0 = c.args.self.now in
    let k1 = c.look.new.self in
    let k2 = c.halt_unless_first.new.self in
    let b = c.in_ok-before.before in
    let looks = c.in_ok-before.ensures in
    let halts = c.in_ok-halt.ensures in
    let births : k2.births ≡ k0.births =
    halts.births ∙ ap (λ (k : SessionView). k.births) looks.rest in
    let moves : k2.playback.moves ≡ k0.playback.moves =
    halts.moves ∙ ap (λ (k : SessionView). k.playback.moves) looks.rest in
    let most : k2.furthest ≡ k0.furthest =
    halts.furthest ∙ ap (λ (k : SessionView). k.furthest) looks.rest in
    let behind = (ready_of _ k0 c.self.view_is c.self.invariant c.requires.running).behind in
    let last = c.requires.last in
    record {
      running = halts.failed;
      named = subst (λ (x : BirthTables). knows_named x c.args.resumptions.now ≡ true)
          (sym births) c.requires.named;
      moves = looks.moves ∙ sym moves;
      known = subst (λ (x : BirthTables). IfSome b.mover (λ t. has_home x t ≡ true))
          (sym halts.births) looks.known;
      count = looks.count
          ∙ ap (λ (x : ClientView). length x.watchpoints) (sym halts.same.client);
      looked = looks.looked ∙ ap (λ (w : List Looked). length w) (sym halts.watched);
      last = omega (arith, moves, last);
      within = omega (arith, moves, most, behind);
    }

pub returns-in_default-clause-moves : goal.returns-in_default-clause-moves
returns-in_default-clause-moves c =
    let end : c.at.result.moves ≡ c.args.way.now.last = ap (λ (h : Kept). h.moves) c.at.ensures in
    let behind = (ready_of _ c.args.self.now c.self.view_is c.self.invariant
    c.requires.running).behind in
    let last = c.requires.last in
    (omega (arith, end), omega (arith, end, last), omega (arith, end, last, behind))

pub returns-in-Some-2-clause-moves : goal.returns-in-Some-2-clause-moves
returns-in-Some-2-clause-moves c =
    let k0 = c.args.self.now in
    let k1 = c.look.new.self in
    let k2 = c.halt_unless_first.new.self in
    let looks = c.in_ok-before.ensures in
    let halts = c.in_ok-halt.ensures in
    let one = ap (λ (k : SessionView). k.playback.moves) looks.rest in
    let moves : k2.playback.moves ≡ k0.playback.moves = halts.moves ∙ one in
    let most : k2.furthest ≡ k0.furthest =
    halts.furthest ∙ ap (λ (k : SessionView). k.furthest) looks.rest in
    let there : c.in-Some-2.halt.moves ≡ k0.playback.moves =
    subst (λ (o : Option Kept). IfSome o (λ (halt : Kept). halt.moves ≡ k1.playback.moves))
    c.in-Some-2.is halts.there ∙ one in
    let behind = (ready_of _ k0 c.self.view_is c.self.invariant c.requires.running).behind in
    let last = c.requires.last in (
      omega (arith, there, last),
      omega (arith, there, moves),
      omega (arith, there, most, behind),
    )

pub returns-clause-moves : goal.returns-clause-moves
returns-clause-moves c =
    let k0 = c.args.self.now in
    let k2 = c.halt_unless_first.new.self in
    let k3 = c.move_on.new.self in
    let looks = c.in_ok-before.ensures in
    let halts = c.in_ok-halt.ensures in
    let moves : k2.playback.moves ≡ k0.playback.moves =
    halts.moves ∙ ap (λ (k : SessionView). k.playback.moves) looks.rest in
    subst (λ n. MatchOption c.in_ok-move_on.field-0 (k3.playback.moves ≡ n + 1)
    (λ halt. (c.args.way.now.last ≤ halt.moves) × (halt.moves ≤ k3.playback.moves)
    × (halt.moves ≤ k3.furthest))) moves c.in_ok-move_on.ensures.moves

pub returns-in-Some-2-clause-puts : goal.returns-in-Some-2-clause-puts
returns-in-Some-2-clause-puts c start first is_start from kept =
    let moves = c.in_ok-halt.ensures.moves
    ∙ ap (λ (k : SessionView). k.playback.moves) c.in_ok-before.ensures.rest in
    subst (λ n. HasKept start first n c.args.puts.now.items) (sym moves) kept

pub returns-clause-puts : goal.returns-clause-puts
returns-clause-puts c start first is_start from kept =
    let k0 = c.args.self.now in
    let k1 = c.look.new.self in
    let k2 = c.halt_unless_first.new.self in
    let looks = c.in_ok-before.ensures in
    let halts = c.in_ok-halt.ensures in
    let moves : k2.playback.moves ≡ k0.playback.moves =
    halts.moves ∙ ap (λ (k : SessionView). k.playback.moves) looks.rest in
    let start2 = start_on k1 k2 halts.same.run start
    (start_on k0 k1 looks.same.run start is_start) in
    c.in_ok-move_on.ensures.puts start first start2 (omega (arith, moves, from))
    (subst (λ n. HasKept start first n c.args.puts.now.items) (sym moves) kept)

pub returns-clause-same : goal.returns-clause-same
returns-clause-same c =
    let k0 = c.args.self.now in
    let k1 = c.look.new.self in
    let k2 = c.halt_unless_first.new.self in
    let k3 = c.move_on.new.self in
    same_on k0 k2 k3 (same_on k0 k1 k2 c.in_ok-before.ensures.same c.in_ok-halt.ensures.same)
    c.in_ok-move_on.ensures.same

pub returns-clause-known : goal.returns-clause-known
returns-clause-known c rs known =
    let births = c.in_ok-halt.ensures.births
    ∙ ap (λ (k : SessionView). k.births) c.in_ok-before.ensures.rest in
    c.in_ok-move_on.ensures.known rs
    (subst (λ (x : BirthTables). knows_named x rs ≡ true) (sym births) known)

pub returns-in-Some-2-clause-same : goal.returns-in-Some-2-clause-same
returns-in-Some-2-clause-same c =
    same_on c.args.self.now c.look.new.self c.halt_unless_first.new.self
    c.in_ok-before.ensures.same c.in_ok-halt.ensures.same

pub returns-in-Some-2-clause-known : goal.returns-in-Some-2-clause-known
returns-in-Some-2-clause-known c rs known =
    let births = c.in_ok-halt.ensures.births
    ∙ ap (λ (k : SessionView). k.births) c.in_ok-before.ensures.rest in
    subst (λ (x : BirthTables). knows_named x rs ≡ true) (sym births) known

pub returns-in_err-halt-clause-same : goal.returns-in_err-halt-clause-same
returns-in_err-halt-clause-same c =
    same_on c.args.self.now c.look.new.self c.halt_unless_first.new.self
    c.in_ok-before.ensures.same c.in_err-halt.ensures.same

pub returns-in_err-move_on-clause-same : goal.returns-in_err-move_on-clause-same
returns-in_err-move_on-clause-same c =
    let k0 = c.args.self.now in
    let k1 = c.look.new.self in
    let k2 = c.halt_unless_first.new.self in
    same_on k0 k2 c.move_on.new.self
    (same_on k0 k1 k2 c.in_ok-before.ensures.same c.in_ok-halt.ensures.same)
    c.in_err-move_on.ensures.same
