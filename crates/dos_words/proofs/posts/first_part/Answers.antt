use Rattle.dos_words.proofs.Parts.{one_part, first_of_parts}
use Rattle.dos_words.proofs.posts.first_part.Goals as goal

pub returns-in-None : goal.returns-in-None
returns-in-None c = one_part _ _ _ c.split_once.ensures.cases c.requires c.in-None.is

pub returns-in-Some : goal.returns-in-Some
returns-in-Some c =
    first_of_parts _ _ _ _ _ c.split_once.ensures.cases c.requires c.in-Some.is
