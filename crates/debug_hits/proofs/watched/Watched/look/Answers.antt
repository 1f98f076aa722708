use Rattle.std.proofs.Common.{map, ◌∙◌, ap, arith}
use Rattle.std.proofs.lemmas.List.{take_all}
use Rattle.kernel_calls.specs.StateWorld.{sent, world_of}
use Rattle.group_walk.specs.Walks.{kind_named}
use Rattle.debug_hits.specs.Kept.{kept_of}
use Rattle.debug_hits.proofs.PageBytes.{frames_there}
use Rattle.debug_hits.proofs.watched.Watched.look.Goals as goal

pub returns : goal.returns
returns c q o e = record {
  frames = frames_there c.args.state.now q o e c.requires.sound;
  short = c.requires.short;
  each = c.loop-i.invariant q o e
      ∙ ap (map (kept_of (sent o e (world_of q c.args.state.now)) (kind_named c.args.kind)))
      (take_all c.loop-i.i c.args.points.now (omega arith));
}
