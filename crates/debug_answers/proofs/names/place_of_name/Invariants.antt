use Rattle.std.proofs.Common.{◌≡◌, ◌+◌, map}
use Rattle.std.specs.Prelude.{bytes_eq}
use Rattle.kernel_objects.specs.Pipework.{vector_bytes}
use Rattle.debug_session.specs.Files.{rooted}
use Rattle.debug_answers.proofs.Places.{failing}
use Rattle.debug_answers.proofs.names.place_of_name.Given as goal

abbrev pub invariant-loop-place : goal.invariant-loop-place
invariant-loop-place l =
    let files = map rooted (vector_bytes l.names) in
    l.place + failing (λ file. bytes_eq file l.name) files l.place
    ≡ failing (λ file. bytes_eq file l.name) files 0
