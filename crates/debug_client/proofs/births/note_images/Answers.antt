use Rattle.std.proofs.Common.{◌≡◌, ℕ, ◌+◌, List, Option, [], ◌∷◌, ◌++◌, ◌∙◌, sym, ap, subst, arith}
use Rattle.std.proofs.Common.{length, drop, length-append}
use Rattle.std.specs.Prelude.{IfSome}
use Rattle.dos_world.specs.World.{Process}
use Rattle.debug_client.specs.Births.{images_with, image_by}
use Rattle.debug_client.proofs.Walked.{at_place, drop_at, numbered_next}
use Rattle.debug_client.proofs.births.note_images.Goals as goal

pub loop-place-preserved : goal.loop-place-preserved
loop-place-preserved c =
    let processes : List Process = c.args.table.now.processes in
    let images = c.args.images in
    let kept : List ℕ = c.loop-place.numbers.items in
    let i = c.loop-place.place in
    let here = at_place processes i
    (omega (arith, c.loop-place-test.true, c.processes-place-end.ensures)) in
    let parent : c.parent.result ≡ here.0.parent =
    subst (λ (o : Option Process). IfSome o (λ process. c.parent.result ≡ process.parent))
    (numbered_next processes i here.0 here.1) c.parent.ensures in
    let number : length kept + 1 ≡ i + 1 = omega (arith, c.loop-place.invariant.many) in
    let added : c.image_by.result ≡ image_by images kept (length kept + 1) here.0.parent =
    c.image_by.ensures
    ∙ ap (λ (l : List ℕ). image_by images l (i + 1) c.parent.result) c.deref.ensures.value
    ∙ ap (λ n. image_by images kept (i + 1) n) parent
    ∙ ap (λ n. image_by images kept n here.0.parent) (sym number) in
    let put : c.push.new.self.items ≡ kept ++ c.image_by.result ∷ [] = c.in_ok-push.ensures.items in
    record {
      many = omega (
        arith,
        ap length put,
        length-append kept (c.image_by.result ∷ []),
        c.loop-place.invariant.many,
      );
      all = ap (λ (l : List ℕ). images_with images l (drop (i + 1) processes)) put
          ∙ ap (λ n. images_with images (kept ++ n ∷ []) (drop (i + 1) processes)) added
          ∙ sym (ap (images_with images kept) (drop_at processes i here.0 here.1))
          ∙ c.loop-place.invariant.all;
    }
