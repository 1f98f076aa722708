use Rattle.std.proofs.Common.{ℕ, List, ◌∙◌, ap, sym}
use Rattle.std.specs.Prelude.{slice_range}
use Rattle.kernel_calls.specs.StateWorld.{sent, world_of}
use Rattle.debug_hits.specs.Kept.{is_other_now}
use Rattle.debug_hits.proofs.PageBytes.{frames_there}
use Rattle.debug_hits.proofs.Parts.{changed_here}
use Rattle.debug_hits.proofs.watched.Watched.is_changed.Goals as goal

pub returns : goal.returns
returns c before kind points q o e looked =
    let behind = sent o e (world_of q c.args.behind.now) in
    let bytes = c.self.inside.bytes.items in
    let mark = c.index-mark.result.now in
    changed_here before behind kind points bytes c.self.inside.marks.items c.args.index mark
    c.args.self.now looked c.self.view_is c.requires.there c.index-mark.ensures
    c.is_other_now.result (frames_there c.args.behind.now q o e c.requires.sound)
    (ap (λ (bs : List ℕ). is_other_now (slice_range bs mark.from mark.middle)
    (slice_range bytes mark.middle mark.to) behind mark.point) (sym c.deref.ensures.value)
    ∙ ap (λ (bs : List ℕ). is_other_now (slice_range c.deref.result.now mark.from mark.middle)
    (slice_range bs mark.middle mark.to) behind mark.point) (sym c.deref-2.ensures.value)
    ∙ c.is_other_now.ensures q o e)
