use Rattle.std.proofs.Common.{◌≡◌, ◌≤◌, ◌+◌, ◌*◌, ◌++◌, take, vec_len}
use Rattle.std.specs.Prelude.{vec_capacity}
use Rattle.log_text.specs.LogText.{post_text}
use Rattle.std.specs.List.{flat_map}
use Rattle.log_text.proofs.entry_writing.put_posts.Given as goal

abbrev pub invariant-loop-i : goal.invariant-loop-i
invariant-loop-i l = (l.out.items ≡ l.fn.out.items ++ flat_map post_text (take l.i l.list))
    × (vec_len l.out ≡ vec_len l.fn.out + 5 * l.i) × (vec_capacity l.fn.out ≤ vec_capacity l.out)
