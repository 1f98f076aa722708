use Rattle.std.proofs.Common.{◌∙◌, refl}
use Rattle.dos_world.specs.Play.{done}
use Rattle.kernel_calls.proofs.Playing.{plays_told}
use Rattle.kernel_calls.proofs.Staying.{stays-same, stays-then}
use Rattle.std.proofs.lemmas.Result.{err_from_is_err_and}
use Rattle.group_rounds.proofs.PhaseLaws.{serial_starts, serial_next, serial_ends}
use Rattle.group_rounds.proofs.PhaseLaws.{serial_stops, parts_at}
use Rattle.group_rounds.proofs.ServesLaws.{serves_done}
use Rattle.group_rounds.proofs.phases.run_serial.Goals as goal

pub loop-tid-init : goal.loop-tid-init
loop-tid-init g c = record {
  goes = λ q. serial_starts q c.args.state.now (g.B.Border.state c.args.border.now)
      c.args.starters.now;
  sound = c.requires.sound;
  round = stays-same c.args.state.now;
  count = refl;
  parts = c.requires.parts;
  told = c.requires.told;
  follows = g.met.B.Border.reflexive c.args.border.now;
}

pub loop-tid-preserved : goal.loop-tid-preserved
loop-tid-preserved g c = record {
  goes = λ q.
      serial_next q c.args.state.now c.loop-tid.state _ _ _ c.args.starters.now
      c.loop-tid.tid-index c.loop-tid-test.true refl (c.loop-tid.invariant.goes q)
      c.finish_if_live.new.state _ (c.in_ok-finish_if_live.ensures.serves.plays q).goes;
  sound = c.in_ok-finish_if_live.ensures.serves.sound;
  round = stays-then c.finish_if_live.ensures.serves.round c.loop-tid.invariant.round;
  count = c.in_ok-finish_if_live.ensures.serves.count ∙ c.loop-tid.invariant.count;
  parts = c.in_ok-finish_if_live.ensures.parts _
      (parts_at c.loop-tid.state c.args.starters.now c.loop-tid.tid-index _ c.loop-tid-test.true
      refl c.loop-tid.invariant.parts);
  told = plays_told 0 _ (λ w. done w) c.loop-tid.state c.finish_if_live.new.state _ _
      (c.in_ok-finish_if_live.ensures.serves.plays 0).goes c.loop-tid.invariant.told;
  follows = g.met.B.Border.transitive _ _ _ c.loop-tid.invariant.follows
      c.finish_if_live.ensures.follows;
}

pub returns-clause-serves : goal.returns-clause-serves
returns-clause-serves g c =
    let now = c.loop-tid.invariant in
    serves_done _ _ c.args.state.now c.loop-tid.state _ _
    (λ q. serial_ends q c.args.state.now c.loop-tid.state _ _ c.args.starters.now
    c.loop-tid.tid-index c.loop-tid-test.false (now.goes q)) now.sound now.round now.count

pub returns-in_err-finish_if_live-clause-serves : goal.returns-in_err-finish_if_live-clause-serves
returns-in_err-finish_if_live-clause-serves g c =
    let p = err_from_is_err_and c.from_residual.result c.from_residual.ensures.1 in
    let now = c.loop-tid.invariant in
    rw (p.1, p.2) (serial_stops c.args.state.now c.loop-tid.state c.finish_if_live.new.state _ _ _ _
    c.args.starters.now c.loop-tid.tid-index _ c.loop-tid-test.true refl now.goes now.round
    c.in_err-finish_if_live.ensures.serves)

pub finish_if_live-requires-clause-awake : goal.finish_if_live-requires-clause-awake
finish_if_live-requires-clause-awake g c =
    (parts_at c.loop-tid.state c.args.starters.now c.loop-tid.tid-index _ c.loop-tid-test.true
    refl c.loop-tid.invariant.parts).awake.0

pub finish_if_live-requires-clause-sound : goal.finish_if_live-requires-clause-sound
finish_if_live-requires-clause-sound g c = c.loop-tid.invariant.sound

pub finish_if_live-requires-clause-told : goal.finish_if_live-requires-clause-told
finish_if_live-requires-clause-told g c = c.loop-tid.invariant.told

pub returns-in_err-finish_if_live-clause-follows : goal.returns-in_err-finish_if_live-clause-follows
returns-in_err-finish_if_live-clause-follows g c =
    g.met.B.Border.transitive _ _ _ c.loop-tid.invariant.follows c.finish_if_live.ensures.follows

pub returns-clause-follows : goal.returns-clause-follows
returns-clause-follows g c = c.loop-tid.invariant.follows
