use Rattle.std.proofs.Common.{◌≡◌, true, ◌∙◌, ap, sym}
use Rattle.kernel_calls.specs.StateWorld.{sent, world_of}
use Rattle.debug_session.specs.declared.points.Watchpoint.{Watchpoint}
use Rattle.debug_session.specs.Hits.{is_changed, is_hit_as}
use Rattle.debug_hits.proofs.Parts.{by_mark, by_point}
use Rattle.debug_hits.proofs.Hitting.{hit_changes, hit_reads, hit_touching, hit_changing}
use Rattle.debug_hits.proofs.watched.Watched.is_hit.Goals as goal

pub returns-in-Changes : goal.returns-in-Changes
returns-in-Changes c before kind points q o e looked =
    let behind = sent o e (world_of q c.args.behind.now) in
    let mark = c.index-mark.result.now in
    let result = c.is_changed.result in
    by_point before behind kind points c.self.inside.bytes.items c.self.inside.marks.items
    c.args.index mark c.args.self.now looked c.self.view_is c.requires.there c.index-mark.ensures
    (λ point. is_changed before behind point ≡ result)
    (λ point. is_hit_as point.kind before kind behind point ≡ result)
    (c.is_changed.ensures before kind points q o e looked)
    (λ point same touched changed. hit_changes before behind kind point mark.is_touched result
    touched (ap (λ (x : Watchpoint). x.kind) same ∙ c.in-Changes.is) changed)

pub returns-in-Reads : goal.returns-in-Reads
returns-in-Reads c before kind points q o e looked =
    let behind = sent o e (world_of q c.args.behind.now) in
    let mark = c.index-mark.result.now in
    by_mark before behind kind points c.self.inside.bytes.items c.self.inside.marks.items
    c.args.index mark c.args.self.now looked c.self.view_is c.requires.there c.index-mark.ensures
    (λ point. is_hit_as point.kind before kind behind point ≡ mark.is_touched)
    (λ point same touched. hit_reads before behind kind point mark.is_touched true touched
    (ap (λ (x : Watchpoint). x.kind) same ∙ c.in-Reads.is))

pub returns-then-mark : goal.returns-then-mark
returns-then-mark c before kind points q o e looked =
    let behind = sent o e (world_of q c.args.behind.now) in
    let mark = c.index-mark.result.now in
    by_mark before behind kind points c.self.inside.bytes.items c.self.inside.marks.items
    c.args.index mark c.args.self.now looked c.self.view_is c.requires.there c.index-mark.ensures
    (λ point. is_hit_as point.kind before kind behind point ≡ mark.is_touched)
    (λ point same touched. hit_touching before behind kind point mark.is_touched true touched
    (ap (λ (x : Watchpoint). x.kind) same ∙ c.in-Accesses.is) c.if-mark.true
    ∙ sym c.if-mark.true)

pub returns-else-mark : goal.returns-else-mark
returns-else-mark c before kind points q o e looked =
    let behind = sent o e (world_of q c.args.behind.now) in
    let mark = c.index-mark.result.now in
    let result = c.is_changed-else-mark.result in
    by_point before behind kind points c.self.inside.bytes.items c.self.inside.marks.items
    c.args.index mark c.args.self.now looked c.self.view_is c.requires.there c.index-mark.ensures
    (λ point. is_changed before behind point ≡ result)
    (λ point. is_hit_as point.kind before kind behind point ≡ result)
    (c.is_changed-else-mark.ensures before kind points q o e looked)
    (λ point same touched changed. hit_changing before behind kind point mark.is_touched result
    touched (ap (λ (x : Watchpoint). x.kind) same ∙ c.in-Accesses.is) c.if-mark.false changed)
