use Rattle.std.proofs.Common.{sym, ap, ◌∙◌, arith}
use Rattle.dos_words.specs.Numbers.{comma}
use Rattle.dos_words.proofs.Parts.{parts_behind}
use Rattle.dos_words.proofs.PostLists.{posts_and, items_too_many}
use Rattle.dos_words.proofs.posts.read_posts.Goals as goal

pub returns-then-len-eq32 : goal.returns-then-len-eq32
returns-then-len-eq32 c =
    sym c.loop-rest.invariant.whole
    ∙ ap (λ rest. posts_and c.loop-rest.posts.items (parts_behind comma rest)) c.in-Some.is
    ∙ items_too_many c.loop-rest.posts.items c.in-Some.items.now
    (omega (arith, c.len.ensures, c.if-len-eq32.true))
