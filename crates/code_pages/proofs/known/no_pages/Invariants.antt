use Rattle.std.proofs.Common.{◌≡◌, None}
use Rattle.std.specs.Prelude.{replicate}
use Rattle.std.specs.Vec.{vec_len, vec_capacity}
use Rattle.code_pages.proofs.known.no_pages.Given as goal

abbrev pub invariant-loop : goal.invariant-loop
invariant-loop l = record {
  count : vec_len l.pages ≡ l.counter;
  items : l.pages.items ≡ replicate l.counter None;
  room : vec_capacity l.pages ≡ 256;
}
