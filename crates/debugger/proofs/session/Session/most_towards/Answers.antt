use Rattle.std.proofs.Common.{◌∙◌, ◌≡◌, ◌≤◌, ◌-◌, arith, refl, sym}
use Rattle.debugger.specs.Standing.{here}
use Rattle.debugger.proofs.Shown.{begun_seen, made_seen}
use Rattle.debugger.proofs.SilentTowards.{before_earlier, before_none, before_within}
use Rattle.debugger.proofs.session.Session.most_towards.Goals as goal

pub returns-then-begun-round : goal.returns-then-begun-round
returns-then-begun-round c start is_start =
    let m = (here c.args.self.now start).moment in
    let begun = begun_seen _ c.args.self.now c.self.view_is c.self.invariant c.requires start
    is_start ∙ sym c.begun.ensures ∙ sym c.from-begun.ensures in
    before_earlier c.args.round c.args.made c.from-begun.result m.made m begun refl _
    c.if-begun-round.true

pub returns-then-round-begun : goal.returns-then-round-begun
returns-then-round-begun c start is_start =
    let m = (here c.args.self.now start).moment in
    let begun = begun_seen _ c.args.self.now c.self.view_is c.self.invariant c.requires start
    is_start ∙ sym c.begun.ensures ∙ sym c.from-begun.ensures in
    before_none c.args.round c.args.made c.from-begun.result m.made m begun refl 0 refl

pub returns : goal.returns
returns c start is_start =
    let m = (here c.args.self.now start).moment in
    let begun = begun_seen _ c.args.self.now c.self.view_is c.self.invariant c.requires start
    is_start ∙ sym c.begun.ensures ∙ sym c.from-begun.ensures in
    let done = made_seen _ c.args.self.now c.self.view_is c.self.invariant c.requires start
    is_start ∙ sym c.made.ensures in
    let earlier = c.if-begun-round.false in
    let later = c.if-round-begun.false in
    let same : c.args.round ≡ c.from-begun.result = omega (arith, earlier, later) in
    let few : c.at_most.result ≤ c.args.made - c.made.result =
    omega (arith, c.at_most.ensures.most, c.saturating_sub.ensures) in
    before_within c.args.round c.args.made c.from-begun.result c.made.result m begun done
    c.at_most.result same few
