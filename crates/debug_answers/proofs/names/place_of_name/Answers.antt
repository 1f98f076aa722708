use Rattle.std.proofs.Common.{ℕ, ◌∙◌, List, Some, ap, sym, map, arith}
use Rattle.std.specs.Prelude.{bytes_eq, position}
use Rattle.std.proofs.lemmas.Option.{slice_get-get_or}
use Rattle.kernel_objects.specs.Pipework.{vector_bytes}
use Rattle.debug_session.specs.Files.{rooted}
use Rattle.debug_answers.proofs.Places.{fails_on, passes_at, rooted_at}
use Rattle.debug_answers.proofs.names.place_of_name.Goals as goal

pub returns-then-is_of_file : goal.returns-then-is_of_file
returns-then-is_of_file c s are =
    let names = c.args.names.now in
    let i = c.loop-place.place in
    let v = c.index-names-place.result in
    let test = λ (file : List ℕ). bytes_eq file c.args.name.now in
    passes_at test (map rooted (vector_bytes names)) i c.loop-place.invariant (rooted v.items)
    (rooted_at names i v
    (slice_get-get_or names i v (omega (arith, c.loop-place-test.true))
    ∙ ap Some (sym c.index-names-place.is)))
    (ap (λ (file : List ℕ). bytes_eq (rooted file) c.args.name.now) (sym c.as_slice.ensures.value)
    ∙ sym c.if-is_of_file.ensures)
    ∙ ap (λ (files : List (List ℕ)). position test (map rooted files)) (sym are)

pub loop-place-preserved : goal.loop-place-preserved
loop-place-preserved c =
    let names = c.args.names.now in
    let i = c.loop-place.place in
    let v = c.index-names-place.result in
    let test = λ (file : List ℕ). bytes_eq file c.args.name.now in
    fails_on test (map rooted (vector_bytes names)) i c.loop-place.invariant (rooted v.items)
    (rooted_at names i v
    (slice_get-get_or names i v (omega (arith, c.loop-place-test.true))
    ∙ ap Some (sym c.index-names-place.is)))
    (ap (λ (file : List ℕ). bytes_eq (rooted file) c.args.name.now) (sym c.as_slice.ensures.value)
    ∙ sym c.if-is_of_file.ensures)
