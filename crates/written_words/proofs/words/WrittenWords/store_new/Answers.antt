use Rattle.std.proofs.Common.{List, rules, subst}
use Rattle.dos_world.specs.Reach.{bytes_of, width}
use Rattle.written_words.specs.declared.Written.{Written}
use Rattle.written_words.specs.Index.{IsIndexed}
use Rattle.written_words.proofs.Indexing.{length-bytes}
use Rattle.written_words.proofs.Storing.{bytes-small, fits-word, store-put}
use Rattle.written_words.proofs.words.WrittenWords.store_new.Goals as goal

pub returns-clause-put : goal.returns-clause-put
returns-clause-put c = λ is.
    store-put c.args.self.now c.self.inside.before.items c.self.inside.last.value
    (subst (λ (ws : List Written). IsIndexed ws c.self.inside.before.items c.self.inside.last.value)
    c.self.view_is c.self.invariant.0) c.args.frame c.args.offset (width c.args.size)
    (bytes_of (width c.args.size) c.args.value) (length-bytes (width c.args.size) c.args.value)
    (bytes-small (width c.args.size) c.args.value) c.requires.within
    (fits-word c.args.offset c.args.size c.requires.aligned) c.add.new.self (search rules)
