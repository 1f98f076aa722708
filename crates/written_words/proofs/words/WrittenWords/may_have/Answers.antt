use Rattle.std.proofs.Common.{rules, subst, List}
use Rattle.written_words.specs.declared.Written.{Written}
use Rattle.written_words.specs.Index.{FramesAreMarked, IsIndexed}
use Rattle.written_words.proofs.Indexing.{none-of}
use Rattle.written_words.proofs.Putting.{page-beside}
use Rattle.written_words.proofs.words.WrittenWords.may_have.Goals as goal

pub returns-clause-none : goal.returns-clause-none
returns-clause-none c = λ is.
    none-of c.args.self.now c.self.inside.marks.value c.args.frame
    (subst (λ (ws : List Written). FramesAreMarked ws c.self.inside.marks.value) c.self.view_is
    c.self.invariant.1) (search (rules, is))

pub returns-clause-page : goal.returns-clause-page
returns-clause-page c = λ is bytes.
    page-beside c.args.self.now c.self.inside.before.items c.self.inside.last.value
    (subst (λ (ws : List Written). IsIndexed ws c.self.inside.before.items c.self.inside.last.value)
    c.self.view_is c.self.invariant.0) c.args.frame (returns-clause-none c is) bytes
