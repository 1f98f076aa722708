use Rattle.std.proofs.Common.{◌∙◌, ◌∷◌, ◌++◌, [], List, take, sym, ap, arith}
use Rattle.std.specs.List.{flat_map}
use Rattle.std.proofs.lemmas.List.{take_more, flat_map_more}
use Rattle.std.proofs.lemmas.Option.{get_or_from_slice_get}
use Rattle.dos_world.specs.declared.Post.{Post}
use Rattle.log_text.specs.LogText.{post_text}
use Rattle.log_text.proofs.entry_writing.put_posts.Goals as goal

pub loop-i-preserved : goal.loop-i-preserved
loop-i-preserved c =
    let x : Post = c.at.result in
    let more = take_more c.args.list.now c.loop-i.i x
    (omega (arith, c.loop-i-test.true, c.len-i-end.ensures.value)) in
    let one = more ∙ ap (λ (y : Post). take c.loop-i.i c.args.list.now ++ y ∷ [])
    (get_or_from_slice_get c.args.list.now c.loop-i.i x x c.at.ensures) in (
      c.put_post.ensures.items
          ∙ ap (λ (t : List _). t ++ post_text x) c.loop-i.invariant.0
          ∙ flat_map_more post_text c.args.out.now.items (take c.loop-i.i c.args.list.now) x
          ∙ ap (λ (ps : List Post). c.args.out.now.items ++ flat_map post_text ps) (sym one),
      omega (arith, c.put_post.ensures.len, c.loop-i.invariant.1),
      omega (arith, c.put_post.ensures.room, c.loop-i.invariant.2),
    )
