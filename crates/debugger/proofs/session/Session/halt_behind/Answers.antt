use Rattle.std.proofs.Common.{ℕ, ap, ◌∙◌, sym}
use Rattle.std.specs.Prelude.{option_map}
use Rattle.group_walk.specs.Walks.{kind_named}
use Rattle.debug_session.specs.Positions.{position_after}
use Rattle.debugger.specs.Halting.{backwards_from, halt_meant}
use Rattle.debugger.proofs.Backing.{behind_found, behind_kept, behind_start, was_behind, was_by}
use Rattle.debugger.proofs.Staying.{asked_stays, named_stays, start_stays}
use Rattle.debugger.proofs.session.Session.halt_behind.Goals as goal

pub halt_back-requires-clause-known : goal.halt_back-requires-clause-known
halt_back-requires-clause-known c =
    named_stays c.args.self.now c.pass.new.self c.in_ok-before.ensures.known c.args.stepped
    c.requires.known

pub halt_start-requires-clause-known : goal.halt_start-requires-clause-known
halt_start-requires-clause-known c =
    named_stays c.args.self.now c.pass.new.self c.in_ok-before.ensures.known c.args.stepped
    c.requires.known

pub returns-in-Some-clause-halt : goal.returns-in-Some-clause-halt
returns-in-Some-clause-halt c start s is_start asked kept was =
    let old = c.args.self.now in
    let now = c.pass.new.self in
    let passed = c.in_ok-before.ensures in
    let rs = c.args.resumptions.now in
    let before = c.in_ok-before.before in
    let seen = passed.seen start s is_start asked in
    behind_found s rs c.args.stepped start before.moves now.playback.moves passed.next
    (kind_named before.kind) (passed.ahead start is_start) (halt_meant s rs start c.in-Some.found)
    (ap (option_map (halt_meant s rs start)) (sym c.in-Some.is)
    ∙ c.in_ok-found.ensures.halt start s (start_stays old now passed.same.run start is_start)
    (asked_stays old now passed.same start s asked) seen.0 seen.1)

pub returns-in-Some-clause-was : goal.returns-in-Some-clause-was
returns-in-Some-clause-was c start s is_start asked =
    let now = c.pass.new.self in
    let passed = c.in_ok-before.ensures in
    let rs = c.args.resumptions.now in
    let before = c.in_ok-before.before in
    was_behind s rs c.args.stepped start before.moves now.playback.moves passed.next
    (kind_named before.kind) (passed.ahead start is_start)
    ∙ ap (λ (n : ℕ). was_by s rs c.args.stepped (position_after n start)) passed.moves

pub returns-then-was_there-clause-halt : goal.returns-then-was_there-clause-halt
returns-then-was_there-clause-halt c start s is_start asked kept was =
    let old = c.args.self.now in
    let now = c.pass.new.self in
    let passed = c.in_ok-before.ensures in
    let rs = c.args.resumptions.now in
    let before = c.in_ok-before.before in
    let seen = passed.seen start s is_start asked in
    let back = sym passed.moves in
    behind_kept s rs c.args.stepped start before.moves now.playback.moves passed.next
    (kind_named before.kind) (passed.ahead start is_start)
    (ap (option_map (halt_meant s rs start)) (sym c.in_default.is)
    ∙ c.in_ok-found.ensures.halt start s (start_stays old now passed.same.run start is_start)
    (asked_stays old now passed.same start s asked) seen.0 seen.1)
    c.args.was_there
    (was ∙ ap (λ (n : ℕ). was_by s rs c.args.stepped (position_after n start)) back)
    (halt_meant s rs start c.args.halt) c.if-was_there.true
    (kept ∙ ap (λ (n : ℕ). backwards_from s rs c.args.stepped (position_after n start)) back)

pub returns-clause-halt : goal.returns-clause-halt
returns-clause-halt c start s is_start asked kept was =
    let old = c.args.self.now in
    let now = c.pass.new.self in
    let passed = c.in_ok-before.ensures in
    let rs = c.args.resumptions.now in
    let before = c.in_ok-before.before in
    let seen = passed.seen start s is_start asked in
    let is_start_now = start_stays old now passed.same.run start is_start in
    let asked_now = asked_stays old now passed.same start s asked in
    let back = sym passed.moves in
    behind_start s rs c.args.stepped start before.moves now.playback.moves passed.next
    (kind_named before.kind) (passed.ahead start is_start)
    (ap (option_map (halt_meant s rs start)) (sym c.in_default.is)
    ∙ c.in_ok-found.ensures.halt start s is_start_now asked_now seen.0 seen.1)
    c.args.was_there
    (was ∙ ap (λ (n : ℕ). was_by s rs c.args.stepped (position_after n start)) back)
    (halt_meant s rs start c.halt_start.result) c.if-was_there.false
    (c.halt_start.ensures.halt start s is_start_now asked_now)
