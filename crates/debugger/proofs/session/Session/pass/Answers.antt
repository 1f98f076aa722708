use Rattle.std.proofs.Common.{◌≡◌, ◌≤◌, ℕ, List, false, ap, ◌∙◌, sym, subst}
use Rattle.std.specs.Prelude.{is_none, length, not}
use Rattle.debug_client.specs.Clients.{ClientView}
use Rattle.debug_hits.specs.Kept.{Kept}
use Rattle.debug_session.specs.Positions.{first_kind, position_after}
use Rattle.recorded_walk.specs.Playbacks.{IsStartOf}
use Rattle.debugger.specs.Standing.{SessionView}
use Rattle.debugger.proofs.Behind.{ahead_is, looked_now, next_is, same_now, seen_now}
use Rattle.debugger.proofs.Behind.{start_looked}
use Rattle.debugger.proofs.Staying.{home_in_stays, known_on, known_same}
use Rattle.debugger.proofs.session.Session.pass.Goals as goal

pub returns-clause-next : goal.returns-clause-next
returns-clause-next c =
    let old = c.args.self.now in
    let looked = c.look.new.self in
    let now = c.advance.new.self in
    let before = c.in_ok-before.before in
    let saw = c.in_ok-before.ensures in
    let went = c.in_ok-made.ensures in
    let some : is_none c.in_ok-made.made ≡ false =
    ap not (c.is_none.ensures ∙ ap not c.if-is_none.false) in
    next_is old looked now before c.in-Some.kind c.in_ok-made.made some saw.kind saw.moves saw.rest
    went.same went.moves went.watched

pub returns-clause-ahead : goal.returns-clause-ahead
returns-clause-ahead c start is_start =
    let old = c.args.self.now in
    let looked = c.look.new.self in
    let now = c.advance.new.self in
    let before = c.in_ok-before.before in
    let saw = c.in_ok-before.ensures in
    let went = c.in_ok-made.ensures in
    let some : is_none c.in_ok-made.made ≡ false =
    ap not (c.is_none.ensures ∙ ap not c.if-is_none.false) in
    ahead_is old looked now before c.in-Some.kind c.in_ok-made.made some saw.kind saw.moves saw.rest
    went.same went.moves went.watched start is_start
    (went.advances start (start_looked old looked now before c.in-Some.kind c.in_ok-made.made some
    saw.kind saw.moves saw.rest went.same went.moves went.watched start is_start))
    (λ m is. c.in-Some.ensures.ahead start m
    (subst (λ (a : SessionView). IsStartOf a.playback start) (sym c.self.view_is) is_start)
    (ap (λ (a : SessionView). first_kind (position_after a.playback.moves start).future)
    c.self.view_is ∙ is))

pub returns-clause-seen : goal.returns-clause-seen
returns-clause-seen c start s is_start asked =
    let old = c.args.self.now in
    let looked = c.look.new.self in
    let now = c.advance.new.self in
    let before = c.in_ok-before.before in
    let saw = c.in_ok-before.ensures in
    let went = c.in_ok-made.ensures in
    let some : is_none c.in_ok-made.made ≡ false =
    ap not (c.is_none.ensures ∙ ap not c.if-is_none.false) in
    let seen = saw.seen start s is_start asked in (
      seen_now old looked now before c.in-Some.kind c.in_ok-made.made some saw.kind saw.moves
          saw.rest went.same went.moves went.watched start is_start s asked c.args.resumptions.now
          seen.0,
      looked_now old looked now before c.in-Some.kind c.in_ok-made.made some saw.kind saw.moves
          saw.rest went.same went.moves went.watched start is_start s asked seen.1,
    )

pub returns-clause-count : goal.returns-clause-count
returns-clause-count c =
    c.in_ok-before.ensures.count
    ∙ ap (λ (client : ClientView). length client.watchpoints) (sym c.in_ok-made.ensures.same.client)

pub returns-clause-looked : goal.returns-clause-looked
returns-clause-looked c =
    c.in_ok-before.ensures.looked
    ∙ ap (λ (kept : List Kept). length kept) (sym c.in_ok-made.ensures.watched)

pub returns-clause-mover : goal.returns-clause-mover
returns-clause-mover c =
    home_in_stays c.look.new.self c.advance.new.self c.in_ok-made.ensures.known
    c.in_ok-before.before.mover c.in_ok-before.ensures.known

pub returns-clause-same : goal.returns-clause-same
returns-clause-same c =
    let old = c.args.self.now in
    let looked = c.look.new.self in
    let now = c.advance.new.self in
    let before = c.in_ok-before.before in
    let saw = c.in_ok-before.ensures in
    let went = c.in_ok-made.ensures in
    let some : is_none c.in_ok-made.made ≡ false =
    ap not (c.is_none.ensures ∙ ap not c.if-is_none.false) in
    same_now old looked now before c.in-Some.kind c.in_ok-made.made some saw.kind saw.moves saw.rest
    went.same went.moves went.watched

pub returns-clause-known : goal.returns-clause-known
returns-clause-known c =
    known_on c.args.self.now c.look.new.self c.advance.new.self
    (known_same c.args.self.now c.look.new.self
    (ap (λ (a : SessionView). a.births) c.in_ok-before.ensures.rest)) c.in_ok-made.ensures.known

pub returns-clause-furthest : goal.returns-clause-furthest
returns-clause-furthest c =
    subst (λ (n : ℕ). n ≤ c.advance.new.self.furthest)
    (ap (λ (a : SessionView). a.furthest) c.in_ok-before.ensures.rest)
    c.in_ok-made.ensures.furthest
