use Rattle.std.proofs.Common.{◌≡◌, ℕ, Option, List, length, false, ap, sym, subst, ◌∙◌}
use Rattle.std.specs.Option.{option_map_or}
use Rattle.dos_world.specs.World.{World, thread_at}
use Rattle.group_walk.specs.Walks.{kind_named}
use Rattle.debug_session.specs.Hits.{is_thread_broken}
use Rattle.debug_session.specs.Positions.{Position, mover_of}
use Rattle.debug_session.specs.Sessions.{Session}
use Rattle.debug_session.specs.declared.points.Watchpoint.{Watchpoint}
use Rattle.debug_hits.specs.Kept.{HasLooked}
use Rattle.debugger.specs.declared.moving.Before.{Before}
use Rattle.debugger.specs.Halting.{WasSeen}
use Rattle.debugger.specs.Standing.{SessionView, here}
use Rattle.debugger.proofs.Staying.{asked_stays, start_stays}
use Rattle.debugger.proofs.Watching.{told_broken}
use Rattle.debugger.proofs.session.Session.look.Goals as goal

pub returns-clause-moves : goal.returns-clause-moves
returns-clause-moves c =
    c.moves.ensures.moves ∙ ap (λ (a : SessionView). a.playback.moves) c.self.view_is
    ∙ ap (λ (a : SessionView). a.playback.moves) c.in_ok-watch.ensures.rest

pub returns-clause-looked : goal.returns-clause-looked
returns-clause-looked c =
    c.in_ok-watching.ensures.count
    ∙ ap (λ (a : SessionView). length a.client.watchpoints) c.in_ok-watch.ensures.rest
    ∙ sym c.in_ok-watch.ensures.count

pub returns-clause-seen : goal.returns-clause-seen
returns-clause-seen c start s is_start asked =
    let old = c.args.self.now in
    let now = c.watch.new.self in
    let rs = c.args.resumptions.now in
    let kind = kind_named c.args.kind in
    let same = c.in_ok-watch.ensures.same in
    let is_start_now = start_stays old now same.run start is_start in
    let asked_now = asked_stays old now same start s asked in
    let there : here now start ≡ here old start =
    ap (λ (a : SessionView). here a start) c.in_ok-watch.ensures.rest in
    let w : World = (here now start).moment.world in
    let told = c.told_mover-mover.ensures.told start s is_start_now asked_now in
    let before : Before = record {
      moves = c.moves.result;
      kind = c.args.kind;
      mover = c.told_mover-mover.result;
      action = c.mover_action.result;
      is_broken = c.is_mover_broken.result;
      processes = c.processes.result;
      watching = c.in_ok-watching.watching;
    } in
    let seen : WasSeen before s rs w = record {
      mover = told;
      action = c.mover_action.ensures start is_start_now;
      broken = c.is_mover_broken.ensures start s is_start_now asked_now
          ∙ ap (λ (m : Option ℕ). option_map_or (λ t. is_thread_broken s (thread_at w t)) m false)
          told
          ∙ told_broken s rs w (mover_of kind);
      processes = c.processes.ensures start is_start_now;
      watching = c.in_ok-watching.ensures.watching start s is_start_now asked_now;
    } in (
      subst (λ (at : Position). WasSeen before s rs at.moment.world) there seen,
      subst (λ (points : List Watchpoint). HasLooked (here old start).moment.world kind points
          now.watched) (sym (ap (λ (u : Session). u.watchpoints) asked.is))
          (c.in_ok-watch.ensures.looked start is_start),
    )
