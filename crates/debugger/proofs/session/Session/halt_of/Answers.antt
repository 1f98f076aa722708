use Rattle.std.proofs.Common.{ap, sym, ◌∙◌, ◌≡◌, ◌≤◌, List, map, Option, Some, ℕ, arith}
use Rattle.debug_session.specs.Halts.{Halt, puts_from}
use Rattle.debug_session.specs.Positions.{Position, position_after}
use Rattle.debug_session.specs.Resuming.{console, owed_to}
use Rattle.debug_session.specs.Sessions.{Session, home_pair}
use Rattle.debug_session.specs.declared.stops.Cause.TheVariants.{Plainly}
use Rattle.debug_client.specs.Births.{has_home, knows_named}
use Rattle.debugger.specs.declared.forwards.Put.{Put}
use Rattle.debugger.specs.declared.halts.Halt.{Halt as Kept}
use Rattle.debugger.specs.Halting.{goes, halt_meant, puts_before}
use Rattle.debugger.specs.Standing.{SessionView, here}
use Rattle.debugger.proofs.Lasting.{goal_asked, owed_asked}
use Rattle.debugger.proofs.Onward.{halt_same, meant_at}
use Rattle.debugger.proofs.Pathway.{puts_none}
use Rattle.debugger.proofs.Resumed.{of_goal, of_other, of_owed, owed_known, told_goal, told_way}
use Rattle.debugger.proofs.Shown.{ready_of}
use Rattle.debugger.proofs.session.Session.halt_of.Goals as goal

pub returns-in-Some-clause-halt : goal.returns-in-Some-clause-halt
returns-in-Some-clause-halt c start s is_start asked there =
    let rs = c.args.resumptions.now in
    let other = goes s rs c.args.direction in
    let g = goal_asked _ c.args.self.now c.self.view_is start s asked ∙ sym c.goal.ensures
    ∙ c.in-Some.is in (
      of_goal s rs other c.in-Some.round c.in-Some.made g
          ∙ c.in_ok-halt_gone.ensures.halt rs start s is_start asked there,
      ap (λ (ps : List Put). map console (puts_before c.in_ok-halt_gone.field-0.moves ps))
          c.requires.none
          ∙ sym (told_goal s (halt_meant s rs start c.in_ok-halt_gone.field-0)
          (c.in-Some.round, c.in-Some.made) g),
    )

pub returns-in-Some-owed_to-clause-halt : goal.returns-in-Some-owed_to-clause-halt
returns-in-Some-owed_to-clause-halt c start s is_start asked there =
    let rs = c.args.resumptions.now in
    let other = goes s rs c.args.direction in
    let none = goal_asked _ c.args.self.now c.self.view_is start s asked ∙ sym c.goal.ensures
    ∙ c.in_default.is in
    let owed = ap (λ (o : Option ℕ). owed_to o rs)
    (owed_asked _ c.args.self.now c.self.view_is start s asked)
    ∙ sym c.owed_to.ensures ∙ c.in-Some-owed_to.is in
    let at : position_after c.moves-moves.result start ≡ s.position =
    ap (λ n. position_after n start) (c.moves-moves.ensures.moves
    ∙ ap (λ (x : SessionView). x.playback.moves) c.self.view_is)
    ∙ sym there in (
      of_owed s rs other c.in-Some-owed_to.thread none owed
          ∙ sym (meant_at s rs start c.at.result c.moves-moves.result (Some c.home_pair.result)
          Plainly
          c.at.ensures
          ∙ halt_same 5 (position_after c.moves-moves.result start) s.position c.home_pair.result
          (home_pair s c.in-Some-owed_to.thread) Plainly at
          (c.home_pair.ensures start s is_start asked)),
      ap (λ (ps : List Put). map console (puts_before c.at.result.moves ps)) c.requires.none
          ∙ sym (told_way s (halt_meant s rs start c.at.result) none
          ∙ ap (λ n. map console (puts_from s.position (position_after n start)))
          (ap (λ (h : Kept). h.moves) c.at.ensures)
          ∙ ap (λ (p : Position). map console (puts_from s.position p)) at
          ∙ ap (map console) (puts_none s.position)),
    )

pub returns-clause-halt : goal.returns-clause-halt
returns-clause-halt c start s is_start asked there =
    let rs = c.args.resumptions.now in
    let other = goes s rs c.args.direction in
    let none = goal_asked _ c.args.self.now c.self.view_is start s asked ∙ sym c.goal.ensures
    ∙ c.in_default.is in
    let owed = ap (λ (o : Option ℕ). owed_to o rs)
    (owed_asked _ c.args.self.now c.self.view_is start s asked)
    ∙ sym c.owed_to.ensures ∙ c.in_default-owed_to.is in
    let e = c.in_ok-halt_by.ensures.halt start s is_start asked there in (
      of_other s rs other none owed ∙ e.0,
      ap (map console) e.1
          ∙ sym (told_way s (halt_meant s rs start c.in_ok-halt_by.field-0) none),
    )

pub home_pair-requires : goal.home_pair-requires
home_pair-requires c = record {
  running = c.requires.running;
  known = owed_known c.args.self.now.births c.self.inside.client.owed c.args.resumptions.now
      c.in-Some-owed_to.thread (sym c.owed_to.ensures ∙ c.in-Some-owed_to.is) c.requires.named;
}

pub returns-in-Some-owed_to-clause-there : goal.returns-in-Some-owed_to-clause-there
returns-in-Some-owed_to-clause-there c =
    let is : c.at.result.moves ≡ c.moves-moves.result = ap (λ (h : Kept). h.moves) c.at.ensures in
    let here_is = c.moves-moves.ensures.moves
    ∙ ap (λ (x : SessionView). x.playback.moves) c.self.view_is in
    let behind = (ready_of _ c.args.self.now c.self.view_is c.self.invariant
    c.requires.running).behind in
    omega (arith, is, here_is, behind)
