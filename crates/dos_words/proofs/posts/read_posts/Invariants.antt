use Rattle.std.proofs.Common.{◌≡◌, ◌≤◌, length}
use Rattle.dos_words.specs.Numbers.{comma, posts_from}
use Rattle.dos_words.proofs.Parts.{parts_behind}
use Rattle.dos_words.proofs.PostLists.{posts_and}
use Rattle.dos_words.proofs.posts.read_posts.Given as goal

-- The posts so far and the items that are left ask for the whole.
abbrev pub invariant-loop-rest : goal.invariant-loop-rest
invariant-loop-rest l = record {
  whole : posts_and l.posts.items (parts_behind comma l.rest) ≡ posts_from l.text;
  few : length l.posts.items ≤ 32;
}

abbrev pub decreases-loop-rest : goal.decreases-loop-rest
decreases-loop-rest l = length (parts_behind comma l.rest)
