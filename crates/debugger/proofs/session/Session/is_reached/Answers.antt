use Rattle.std.proofs.Common.{ap, refl, sym, ◌∙◌}
use Rattle.debugger.specs.Standing.{here}
use Rattle.debugger.proofs.Reached.{is_earlier, is_later, is_within, reached_is}
use Rattle.debugger.proofs.Shown.{begun_seen, made_seen}
use Rattle.debugger.proofs.session.Session.is_reached.Goals as goal

pub returns-then-round-begun : goal.returns-then-round-begun
returns-then-round-begun c start is_start =
    let m = (here c.args.self.now start).moment in
    let begun = begun_seen _ c.args.self.now c.self.view_is c.self.invariant c.requires start
    is_start ∙ sym c.begun.ensures ∙ sym c.from-begun.ensures in
    is_later c.args.round c.args.made c.from-begun.result m.made c.if-round-begun.true
    ∙ reached_is c.args.round c.args.made m c.from-begun.result m.made begun refl

pub returns-then-round-begun-2 : goal.returns-then-round-begun-2
returns-then-round-begun-2 c start is_start =
    let m = (here c.args.self.now start).moment in
    let begun = begun_seen _ c.args.self.now c.self.view_is c.self.invariant c.requires start
    is_start ∙ sym c.begun.ensures ∙ sym c.from-begun.ensures in
    is_earlier c.args.round c.args.made c.from-begun.result m.made c.if-round-begun.false
    c.if-round-begun-2.true
    ∙ reached_is c.args.round c.args.made m c.from-begun.result m.made begun refl

pub returns : goal.returns
returns c start is_start =
    let m = (here c.args.self.now start).moment in
    let begun = begun_seen _ c.args.self.now c.self.view_is c.self.invariant c.requires start
    is_start ∙ sym c.begun.ensures ∙ sym c.from-begun.ensures in
    let done = made_seen _ c.args.self.now c.self.view_is c.self.invariant c.requires start
    is_start ∙ sym c.made.ensures in
    is_within c.args.round c.args.made c.from-begun.result c.made.result c.if-round-begun.false
    c.if-round-begun-2.false
    ∙ reached_is c.args.round c.args.made m c.from-begun.result c.made.result begun done
