use Rattle.std.proofs.Common.{◌≡◌, ◌⊎◌, ℕ, Option, Some, None, ap, ◌∙◌, sym, subst, arith}
use Rattle.std.specs.Prelude.{IfSome, option_map}
use Rattle.std.proofs.lemmas.Option.{IfSome_then}
use Rattle.dos_world.specs.World.{World}
use Rattle.debug_session.specs.Backwards.{halt_broken_back, halt_stepped_back}
use Rattle.debug_session.specs.Forwards.{halt_watched, or_else}
use Rattle.debug_session.specs.Halts.{Halt}
use Rattle.debug_session.specs.Hits.{hit_by}
use Rattle.debug_session.specs.Positions.{Position, mover_of, position_after}
use Rattle.group_walk.specs.Walks.{kind_named}
use Rattle.debugger.specs.declared.halts.Halt.{Halt as Kept}
use Rattle.debugger.specs.Halting.{halt_meant}
use Rattle.debugger.specs.Standing.{SessionView, here}
use Rattle.debugger.proofs.Backing.{found_first, found_later, within_either}
use Rattle.debugger.proofs.session.Session.halt_back.Goals as goal

pub returns-in-Some-clause-halt : goal.returns-in-Some-clause-halt
returns-in-Some-clause-halt c start s is_start asked seen looked =
    let rs = c.args.resumptions.now in
    let at : Position = position_after c.args.before.now.moves start in
    let kind = kind_named c.args.before.now.kind in
    let next : World = (here c.args.self.now start).moment.world in
    let here_is = c.moves-moves.ensures.moves
    ∙ ap (λ (a : SessionView). a.playback.moves) c.self.view_is in
    let watched = ap (option_map (halt_meant s rs start)) (sym c.in-Some.is)
    ∙ c.in_ok-halt.ensures.halt start s at.moment.world is_start asked seen looked
    ∙ ap (λ (n : ℕ). halt_watched s rs kind next (position_after n start) at
    (hit_by s rs at.moment.world kind next)) here_is in
    found_first (halt_meant s rs start c.in-Some.halt)
    (halt_watched s rs kind next (here c.args.self.now start) at
    (hit_by s rs at.moment.world kind next))
    (or_else (halt_broken_back s rs at (mover_of kind))
    (halt_stepped_back s at c.args.stepped (mover_of kind))) watched

pub returns-in-Some-halt_broken_back-clause-halt :
    goal.returns-in-Some-halt_broken_back-clause-halt
returns-in-Some-halt_broken_back-clause-halt c start s is_start asked seen looked =
    let rs = c.args.resumptions.now in
    let at : Position = position_after c.args.before.now.moves start in
    let kind = kind_named c.args.before.now.kind in
    let next : World = (here c.args.self.now start).moment.world in
    let here_is = c.moves-moves.ensures.moves
    ∙ ap (λ (a : SessionView). a.playback.moves) c.self.view_is in
    let none = ap (option_map (halt_meant s rs start)) (sym c.in_default.is)
    ∙ c.in_ok-halt.ensures.halt start s at.moment.world is_start asked seen looked
    ∙ ap (λ (n : ℕ). halt_watched s rs kind next (position_after n start) at
    (hit_by s rs at.moment.world kind next)) here_is in
    let watched : Option Halt = halt_watched s rs kind next (here c.args.self.now start) at
    (hit_by s rs at.moment.world kind next) in
    let broken : Option Halt = halt_broken_back s rs at (mover_of kind) in
    let stepped : Option Halt = halt_stepped_back s at c.args.stepped (mover_of kind) in
    let found = halt_meant s rs start c.in-Some-halt_broken_back.halt in
    found_later watched (or_else broken stepped) (Some found) none
    (found_first found broken stepped
    (c.in-Some-halt_broken_back.ensures.halt rs start s is_start asked seen))

pub returns-clause-halt : goal.returns-clause-halt
returns-clause-halt c start s is_start asked seen looked =
    let rs = c.args.resumptions.now in
    let at : Position = position_after c.args.before.now.moves start in
    let kind = kind_named c.args.before.now.kind in
    let next : World = (here c.args.self.now start).moment.world in
    let here_is = c.moves-moves.ensures.moves
    ∙ ap (λ (a : SessionView). a.playback.moves) c.self.view_is in
    let none = ap (option_map (halt_meant s rs start)) (sym c.in_default.is)
    ∙ c.in_ok-halt.ensures.halt start s at.moment.world is_start asked seen looked
    ∙ ap (λ (n : ℕ). halt_watched s rs kind next (position_after n start) at
    (hit_by s rs at.moment.world kind next)) here_is in
    let watched : Option Halt = halt_watched s rs kind next (here c.args.self.now start) at
    (hit_by s rs at.moment.world kind next) in
    let broken : Option Halt = halt_broken_back s rs at (mover_of kind) in
    let stepped : Option Halt = halt_stepped_back s at c.args.stepped (mover_of kind) in
    found_later watched (or_else broken stepped) _ none
    (found_later broken stepped _
    (ap (option_map (halt_meant s rs start)) (sym c.in_default-halt_broken_back.is)
    ∙ c.halt_broken_back.ensures.halt rs start s is_start asked seen)
    (c.halt_stepped_back.ensures.halt rs start s is_start asked))

pub returns-in-Some-clause-there : goal.returns-in-Some-clause-there
returns-in-Some-clause-there c =
    let here_is = c.moves-moves.ensures.moves
    ∙ ap (λ (a : SessionView). a.playback.moves) c.self.view_is in
    let next = c.requires.moves in
    within_either c.in-Some.halt.moves c.moves-moves.result c.args.before.now.moves
    c.args.self.now.playback.moves
    (subst (λ (o : Option Kept). IfSome o (λ (halt : Kept).
    (halt.moves ≡ c.moves-moves.result) ⊎ (halt.moves ≡ c.args.before.now.moves))) c.in-Some.is
    c.in_ok-halt.ensures.there)
    (omega (arith, here_is)) (omega (arith, next))

pub returns-in-Some-clause-born : goal.returns-in-Some-clause-born
returns-in-Some-clause-born c =
    subst (λ (o : Option Kept). IfSome o (λ (halt : Kept). halt.born ≡ None)) c.in-Some.is
    c.in_ok-halt.ensures.born

pub returns-in-Some-halt_broken_back-clause-there :
    goal.returns-in-Some-halt_broken_back-clause-there
returns-in-Some-halt_broken_back-clause-there c =
    let there = c.in-Some-halt_broken_back.ensures.there in
    let next = c.requires.moves in
    omega (arith, there, next)

pub returns-clause-there : goal.returns-clause-there
returns-clause-there c =
    let next = c.requires.moves in
    IfSome_then c.halt_stepped_back.result c.halt_stepped_back.ensures.there
    (λ (halt : Kept) there. omega (arith, there, next))
