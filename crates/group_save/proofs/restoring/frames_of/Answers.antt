use Rattle.std.proofs.Common.{rules, vec_len, ◌≡◌, ◌∙◌, ap, length, map, replicate, sym, subst}
use Rattle.std.specs.Prelude.{All}
use Rattle.page_store.specs.Store.{AreParts}
use Rattle.lawful_groups.specs.Counts.{HaveFrames, counted_all}
use Rattle.lawful_groups.proofs.GroupFacts.{have_frames}
use Rattle.group_parts.specs.FrameLists.{page_of_record}
use Rattle.group_parts.proofs.FrameFacts.{are_parts}
use Rattle.group_save.proofs.restoring.frames_of.Goals as goal

pub count_uses-requires : goal.count_uses-requires
count_uses-requires c =
    let count : vec_len c.args.group.frames ≡ length c.args.group.frames.items = search rules in
    subst (λ n. All (HaveFrames n) c.deref.result.now) (sym (c.len.ensures ∙ count))
    (subst (λ rs. All (HaveFrames (length c.args.group.frames.items)) rs)
    (sym c.deref.ensures.value) (have_frames c.args.group c.requires.fits))

pub restore_frames-requires : goal.restore_frames-requires
restore_frames-requires c =
    let count : vec_len c.args.group.frames ≡ length c.args.group.frames.items = search rules in
    subst (λ uses. AreParts (map page_of_record c.args.group.frames.items)
    (map (λ f. f.owner) c.args.group.frames.items) uses)
    (sym (c.in_ok-uses.ensures
    ∙ ap (λ n. counted_all (replicate n 0) c.deref.result.now) (c.len.ensures ∙ count)
    ∙ ap (λ rs. counted_all (replicate (length c.args.group.frames.items) 0) rs)
    c.deref.ensures.value)) (are_parts c.args.group c.requires.fits c.requires.lawful)
