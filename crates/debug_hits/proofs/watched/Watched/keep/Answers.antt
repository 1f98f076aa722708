use Rattle.std.proofs.Common.{◌+◌, ◌-◌, ◌++◌, ◌∷◌, [], List, ◌∙◌, ap, refl, arith}
use Rattle.kernel_calls.specs.StateWorld.{sent, world_of}
use Rattle.debug_hits.specs.Kept.{Kept}
use Rattle.debug_hits.proofs.Keeping.{one_kept, kept_as}
use Rattle.debug_hits.proofs.watched.Watched.keep.Goals as goal

pub returns : goal.returns
returns c q o e kind touched =
    let w = sent o e (world_of q c.args.state.now) in
    let point = c.args.point in
    let before = c.self.inside in
    let front = c.bytes_in_page-front.result.now in
    let back = c.bytes_in_page-back.result.now in
    one_kept before.bytes.items front back c.extend_from_slice.new.self.items
    c.extend_from_slice-2.new.self.items before.marks.items c.push.new.self.items point
    c.len-from.result c.len-middle.result c.len-to.result c.args.is_touched c.self.invariant
    c.in_ok-extend_from_slice.ensures.items c.in_ok-extend_from_slice-2.ensures.items
    (omega arith) (omega arith) (omega arith) c.in_ok-push.ensures.items
    ∙ ap (λ (ks : List Kept). ks ++ record {
      point = point;
      front = front;
      back = back;
      is_touched = c.args.is_touched;
    } ∷ []) c.self.view_is
    ∙ ap (λ (k : Kept). c.args.self.now ++ k ∷ [])
    (kept_as w kind point c.front_count-count.result (point.length - c.front_count-count.result)
    c.from-start.result (c.from-start.result + c.from.result) front back c.args.is_touched
    c.front_count-count.ensures refl c.from-start.ensures (omega arith)
    (c.bytes_in_page-front.ensures q o e) (c.bytes_in_page-back.ensures q o e) touched)
