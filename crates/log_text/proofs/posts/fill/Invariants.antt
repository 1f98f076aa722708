use Rattle.std.proofs.Common.{◌≡◌, ◌+◌, ◌*◌, ◌++◌, length}
use Rattle.dos_io.specs.Posts.{ArePosts}
use Rattle.log_text.specs.Views.{posts_in_text}
use Rattle.log_text.proofs.posts.fill.Given as goal

abbrev pub invariant-loop : goal.invariant-loop
invariant-loop l = (length l.posts ≡ 5 * l.counter + length l.rest)
    × (l.list ++ posts_in_text l.rest ≡ posts_in_text l.posts) × ArePosts (posts_in_text l.rest)
