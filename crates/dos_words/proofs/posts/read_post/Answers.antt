use Rattle.std.proofs.Common.{sym}
use Rattle.dos_words.proofs.Parts.{no_post_of_four}
use Rattle.dos_words.proofs.posts.read_post.Goals as goal

pub returns-then-is_some : goal.returns-then-is_some
returns-then-is_some c =
    rw (
      c.first_part.ensures,
      c.in-Some.is,
      c.first_part-2.ensures,
      c.in-Some-rest.is,
      c.first_part-3.ensures,
    ) (sym (no_post_of_four c.first_part.result.0.now
    c.first_part-2.result.0.now c.first_part-3.result.0.now _ _ (sym c.if-is_some.ensures)))
