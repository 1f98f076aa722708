use Rattle.std.proofs.Common.{◌≡◌, ◌≤◌, ◌∙◌, ap, subst, sym, Some, None, ℕ, true, arith, Option}
use Rattle.std.proofs.Common.{◌⊎◌}
use Rattle.std.specs.Prelude.{IfSome, option_map}
use Rattle.debugger.specs.declared.halts.Halt.{Halt as Kept}
use Rattle.group_walk.specs.Walks.{kind_named}
use Rattle.debug_session.specs.Forwards.{halt_watched}
use Rattle.debug_session.specs.Halts.{Halt}
use Rattle.debug_session.specs.Hits.{hit_by}
use Rattle.debug_session.specs.Positions.{Position, position_after}
use Rattle.debug_session.specs.Sessions.{Session}
use Rattle.recorded_walk.specs.Playbacks.{IsStartOf}
use Rattle.debug_client.specs.Births.{has_process}
use Rattle.debugger.specs.Halting.{halt_meant}
use Rattle.debugger.specs.Standing.{SessionView, here}
use Rattle.debugger.proofs.Onward.{born_nowhere, stepped_moves, unstepped_moves, unstepped_within}
use Rattle.debugger.proofs.Onward.{watched_moves}
use Rattle.debugger.proofs.Onward.{if_none, moving_born, moving_deserted, moving_stepped}
use Rattle.debugger.proofs.Onward.{moving_unstepped, moving_watched}
use Rattle.debugger.proofs.Shown.{ready_of}
use Rattle.debugger.proofs.session.Session.halt_moving.Goals as goal

pub returns-in-Some-clause-halt : goal.returns-in-Some-clause-halt
returns-in-Some-clause-halt c start s is_start asked seen looked =
    let rs = c.args.resumptions.now in
    let k = c.args.self.now in
    let at = here k start in
    let before = position_after c.args.before.now.moves start in
    let last = position_after c.args.way.now.last start in
    let was = c.args.way.now.was_there in
    let kind = kind_named c.args.before.now.kind in
    let there = ap (λ n. position_after n start)
    (c.moves-moves.ensures.moves ∙ ap (λ (x : SessionView). x.playback.moves) c.self.view_is) in
    moving_watched s rs start was last before at kind (halt_meant s rs start c.in-Some.halt)
    (ap (λ (o : Option Kept). option_map (halt_meant s rs start) o) (sym c.in-Some.is)
    ∙ c.in_ok-halt.ensures.halt start s before.moment.world is_start asked seen looked
    ∙ ap (λ (p : Position). halt_watched s rs kind at.moment.world before p
    (hit_by s rs before.moment.world kind at.moment.world)) there)

pub returns-in-Some-halt_deserted-clause-halt : goal.returns-in-Some-halt_deserted-clause-halt
returns-in-Some-halt_deserted-clause-halt c start s is_start asked seen looked =
    let rs = c.args.resumptions.now in
    let k = c.args.self.now in
    let at = here k start in
    let before = position_after c.args.before.now.moves start in
    let last = position_after c.args.way.now.last start in
    let was = c.args.way.now.was_there in
    let kind = kind_named c.args.before.now.kind in
    let there = ap (λ n. position_after n start)
    (c.moves-moves.ensures.moves ∙ ap (λ (x : SessionView). x.playback.moves) c.self.view_is) in
    moving_deserted s rs start was last before at kind
    (ap (λ (o : Option Kept). option_map (halt_meant s rs start) o) (sym c.in_default.is)
    ∙ c.in_ok-halt.ensures.halt start s before.moment.world is_start asked seen looked
    ∙ ap (λ (p : Position). halt_watched s rs kind at.moment.world before p
    (hit_by s rs before.moment.world kind at.moment.world)) there)
    (halt_meant s rs start c.in-Some-halt_deserted.halt) (c.in-Some-halt_deserted.ensures.halt start
    s is_start asked)

pub returns-in-Some-halt_born-clause-halt : goal.returns-in-Some-halt_born-clause-halt
returns-in-Some-halt_born-clause-halt c start s is_start asked seen looked =
    let rs = c.args.resumptions.now in
    let k = c.args.self.now in
    let at = here k start in
    let before = position_after c.args.before.now.moves start in
    let last = position_after c.args.way.now.last start in
    let was = c.args.way.now.was_there in
    let kind = kind_named c.args.before.now.kind in
    let there = ap (λ n. position_after n start)
    (c.moves-moves.ensures.moves ∙ ap (λ (x : SessionView). x.playback.moves) c.self.view_is) in
    moving_born s rs start was last before at kind
    (ap (λ (o : Option Kept). option_map (halt_meant s rs start) o) (sym c.in_default.is)
    ∙ c.in_ok-halt.ensures.halt start s before.moment.world is_start asked seen looked
    ∙ ap (λ (p : Position). halt_watched s rs kind at.moment.world before p
    (hit_by s rs before.moment.world kind at.moment.world)) there)
    (c.in_default-halt_deserted.ensures.halt start s is_start asked)
    (halt_meant s rs start c.in-Some-halt_born.halt)
    (c.in-Some-halt_born.ensures.halt start s before.moment.world is_start asked seen)

pub returns-in-Some-halt_stepped-clause-halt : goal.returns-in-Some-halt_stepped-clause-halt
returns-in-Some-halt_stepped-clause-halt c start s is_start asked seen looked =
    let rs = c.args.resumptions.now in
    let k = c.args.self.now in
    let at = here k start in
    let before = position_after c.args.before.now.moves start in
    let last = position_after c.args.way.now.last start in
    let was = c.args.way.now.was_there in
    let kind = kind_named c.args.before.now.kind in
    let there = ap (λ n. position_after n start)
    (c.moves-moves.ensures.moves ∙ ap (λ (x : SessionView). x.playback.moves) c.self.view_is) in
    moving_stepped s rs start was last before at kind
    (ap (λ (o : Option Kept). option_map (halt_meant s rs start) o) (sym c.in_default.is)
    ∙ c.in_ok-halt.ensures.halt start s before.moment.world is_start asked seen looked
    ∙ ap (λ (p : Position). halt_watched s rs kind at.moment.world before p
    (hit_by s rs before.moment.world kind at.moment.world)) there)
    (c.in_default-halt_deserted.ensures.halt start s is_start asked)
    (c.in_default-halt_born.ensures.halt start s before.moment.world is_start asked seen)
    (halt_meant s rs start c.in-Some-halt_stepped.halt)
    (c.in-Some-halt_stepped.ensures.halt start s before.moment.world is_start asked seen)

pub returns-clause-halt : goal.returns-clause-halt
returns-clause-halt c start s is_start asked seen looked =
    let rs = c.args.resumptions.now in
    let k = c.args.self.now in
    let at = here k start in
    let before = position_after c.args.before.now.moves start in
    let last = position_after c.args.way.now.last start in
    let was = c.args.way.now.was_there in
    let kind = kind_named c.args.before.now.kind in
    let there = ap (λ n. position_after n start)
    (c.moves-moves.ensures.moves ∙ ap (λ (x : SessionView). x.playback.moves) c.self.view_is) in
    moving_unstepped s rs start was last before at kind
    (ap (λ (o : Option Kept). option_map (halt_meant s rs start) o) (sym c.in_default.is)
    ∙ c.in_ok-halt.ensures.halt start s before.moment.world is_start asked seen looked
    ∙ ap (λ (p : Position). halt_watched s rs kind at.moment.world before p
    (hit_by s rs before.moment.world kind at.moment.world)) there)
    (c.in_default-halt_deserted.ensures.halt start s is_start asked)
    (c.in_default-halt_born.ensures.halt start s before.moment.world is_start asked seen)
    (option_map (halt_meant s rs start) c.halt_unstepped.result)
    (c.in_default-halt_stepped.ensures.halt start s before.moment.world is_start asked seen)
    (c.halt_unstepped.ensures.halt start s is_start asked)

pub returns-in-Some-clause-there : goal.returns-in-Some-clause-there
returns-in-Some-clause-there c =
    let k = c.args.self.now in
    let behind = (ready_of _ k c.self.view_is c.self.invariant c.requires.running).behind in
    let low = c.requires.last in
    let next = c.requires.moves in
    let here_is = c.moves-moves.ensures.moves
    ∙ ap (λ (x : SessionView). x.playback.moves) c.self.view_is in
    watched_moves c.in-Some.halt.moves c.args.before.now.moves c.moves-moves.result
    c.args.way.now.last k.playback.moves (subst (λ (o : Option Kept). IfSome o (λ (halt : Kept).
    (halt.moves ≡ c.args.before.now.moves) ⊎ (halt.moves ≡ c.moves-moves.result))) c.in-Some.is
    c.in_ok-halt.ensures.there) low next here_is

pub returns-in-Some-clause-within : goal.returns-in-Some-clause-within
returns-in-Some-clause-within c =
    let k = c.args.self.now in
    let behind = (ready_of _ k c.self.view_is c.self.invariant c.requires.running).behind in
    let low = c.requires.last in
    let next = c.requires.moves in
    let here_is = c.moves-moves.ensures.moves
    ∙ ap (λ (x : SessionView). x.playback.moves) c.self.view_is in
    let both = watched_moves c.in-Some.halt.moves c.args.before.now.moves c.moves-moves.result
    c.args.way.now.last k.playback.moves (subst (λ (o : Option Kept). IfSome o (λ (halt : Kept).
    (halt.moves ≡ c.args.before.now.moves) ⊎ (halt.moves ≡ c.moves-moves.result))) c.in-Some.is
    c.in_ok-halt.ensures.there) low next here_is in
    let most = both.1 in
    omega (arith, most, behind)

pub returns-in-Some-clause-born : goal.returns-in-Some-clause-born
returns-in-Some-clause-born c =
    if_none c.in-Some.halt.born (λ p. has_process c.args.self.now.births p ≡ true)
    (subst (λ (o : Option Kept). IfSome o (λ (halt : Kept). halt.born ≡ None)) c.in-Some.is
    c.in_ok-halt.ensures.born)

pub returns-in-Some-halt_deserted-clause-there : goal.returns-in-Some-halt_deserted-clause-there
returns-in-Some-halt_deserted-clause-there c =
    let k = c.args.self.now in
    let behind = (ready_of _ k c.self.view_is c.self.invariant c.requires.running).behind in
    let low = c.requires.last in
    let next = c.requires.moves in
    let here_is = c.moves-moves.ensures.moves
    ∙ ap (λ (x : SessionView). x.playback.moves) c.self.view_is in
    let is = c.in-Some-halt_deserted.ensures.there in
    (omega (arith, is), omega (arith, is, low, next))

pub returns-in-Some-halt_deserted-clause-within : goal.returns-in-Some-halt_deserted-clause-within
returns-in-Some-halt_deserted-clause-within c =
    let k = c.args.self.now in
    let behind = (ready_of _ k c.self.view_is c.self.invariant c.requires.running).behind in
    let low = c.requires.last in
    let next = c.requires.moves in
    let here_is = c.moves-moves.ensures.moves
    ∙ ap (λ (x : SessionView). x.playback.moves) c.self.view_is in
    let is = c.in-Some-halt_deserted.ensures.there in
    omega (arith, is, low, next, behind)

pub returns-in-Some-halt_deserted-clause-born : goal.returns-in-Some-halt_deserted-clause-born
returns-in-Some-halt_deserted-clause-born c =
    if_none c.in-Some-halt_deserted.halt.born (λ p. has_process c.args.self.now.births p ≡ true)
    c.in-Some-halt_deserted.ensures.born

pub returns-in-Some-halt_born-clause-there : goal.returns-in-Some-halt_born-clause-there
returns-in-Some-halt_born-clause-there c =
    let k = c.args.self.now in
    let behind = (ready_of _ k c.self.view_is c.self.invariant c.requires.running).behind in
    let low = c.requires.last in
    let next = c.requires.moves in
    let here_is = c.moves-moves.ensures.moves
    ∙ ap (λ (x : SessionView). x.playback.moves) c.self.view_is in
    let is = c.in-Some-halt_born.ensures.there in
    stepped_moves c.in-Some-halt_born.halt.moves c.args.way.now.last k.playback.moves is
    (omega (arith, low, next))

pub returns-in-Some-halt_born-clause-within : goal.returns-in-Some-halt_born-clause-within
returns-in-Some-halt_born-clause-within c =
    let k = c.args.self.now in
    let behind = (ready_of _ k c.self.view_is c.self.invariant c.requires.running).behind in
    let low = c.requires.last in
    let next = c.requires.moves in
    let here_is = c.moves-moves.ensures.moves
    ∙ ap (λ (x : SessionView). x.playback.moves) c.self.view_is in
    let is = c.in-Some-halt_born.ensures.there in
    omega (arith, is, behind)

pub returns-in-Some-halt_stepped-clause-there : goal.returns-in-Some-halt_stepped-clause-there
returns-in-Some-halt_stepped-clause-there c =
    let k = c.args.self.now in
    let behind = (ready_of _ k c.self.view_is c.self.invariant c.requires.running).behind in
    let low = c.requires.last in
    let next = c.requires.moves in
    let here_is = c.moves-moves.ensures.moves
    ∙ ap (λ (x : SessionView). x.playback.moves) c.self.view_is in
    let is = c.in-Some-halt_stepped.ensures.there in
    stepped_moves c.in-Some-halt_stepped.halt.moves c.args.way.now.last k.playback.moves is
    (omega (arith, low, next))

pub returns-in-Some-halt_stepped-clause-within : goal.returns-in-Some-halt_stepped-clause-within
returns-in-Some-halt_stepped-clause-within c =
    let k = c.args.self.now in
    let behind = (ready_of _ k c.self.view_is c.self.invariant c.requires.running).behind in
    let low = c.requires.last in
    let next = c.requires.moves in
    let here_is = c.moves-moves.ensures.moves
    ∙ ap (λ (x : SessionView). x.playback.moves) c.self.view_is in
    let is = c.in-Some-halt_stepped.ensures.there in
    omega (arith, is, behind)

pub returns-in-Some-halt_born-clause-born : goal.returns-in-Some-halt_born-clause-born
returns-in-Some-halt_born-clause-born c = c.in-Some-halt_born.ensures.born

pub returns-in-Some-halt_stepped-clause-born : goal.returns-in-Some-halt_stepped-clause-born
returns-in-Some-halt_stepped-clause-born c =
    if_none c.in-Some-halt_stepped.halt.born (λ p. has_process c.args.self.now.births p ≡ true)
    c.in-Some-halt_stepped.ensures.born

pub returns-clause-there : goal.returns-clause-there
returns-clause-there c =
    let k = c.args.self.now in
    let behind = (ready_of _ k c.self.view_is c.self.invariant c.requires.running).behind in
    let low = c.requires.last in
    let next = c.requires.moves in
    let here_is = c.moves-moves.ensures.moves
    ∙ ap (λ (x : SessionView). x.playback.moves) c.self.view_is in
    unstepped_moves c.halt_unstepped.result c.args.way.now.last k.playback.moves
    c.halt_unstepped.ensures.there (omega (arith, low, next))

pub returns-clause-within : goal.returns-clause-within
returns-clause-within c =
    let k = c.args.self.now in
    let behind = (ready_of _ k c.self.view_is c.self.invariant c.requires.running).behind in
    let low = c.requires.last in
    let next = c.requires.moves in
    let here_is = c.moves-moves.ensures.moves
    ∙ ap (λ (x : SessionView). x.playback.moves) c.self.view_is in
    unstepped_within c.halt_unstepped.result k.playback.moves k.furthest
    c.halt_unstepped.ensures.there behind

pub returns-clause-born : goal.returns-clause-born
returns-clause-born c =
    born_nowhere c.halt_unstepped.result (λ p. has_process c.args.self.now.births p ≡ true)
    c.halt_unstepped.ensures.born
