use Rattle.std.proofs.Common.{◌∙◌, ◌∷◌, ◌++◌, [], ℕ, List, take, sym, ap, arith}
use Rattle.std.specs.List.{concat}
use Rattle.std.proofs.lemmas.List.{take_more, flat_map_more}
use Rattle.std.proofs.lemmas.List.Concat.{concat_is}
use Rattle.std.proofs.lemmas.Option.{get_or_from_slice_get}
use Rattle.log_text.proofs.log_writing.put_digests.Goals as goal

abbrev itself : List ℕ → List ℕ
itself d = d

pub loop-i-preserved : goal.loop-i-preserved
loop-i-preserved c =
    let x : List ℕ = c.at-digest.result in
    let more = take_more c.args.digests.now c.loop-i.i x
    (omega (arith, c.loop-i-test.true, c.len-i-end.ensures.value)) in
    let one = more ∙ ap (λ (y : List ℕ). take c.loop-i.i c.args.digests.now ++ y ∷ [])
    (get_or_from_slice_get c.args.digests.now c.loop-i.i x x c.at-digest.ensures) in
    c.in_ok-extend_from_slice.ensures.items
    ∙ ap (λ (t : List ℕ). t ++ x) (c.loop-i.invariant
    ∙ ap (λ (t : List ℕ). c.args.out.now.items ++ t)
    (concat_is (take c.loop-i.i c.args.digests.now)))
    ∙ flat_map_more itself c.args.out.now.items (take c.loop-i.i c.args.digests.now) x
    ∙ ap (λ (t : List ℕ). c.args.out.now.items ++ t)
    (sym (concat_is (take c.loop-i.i c.args.digests.now ++ x ∷ [])) ∙ ap concat (sym one))
