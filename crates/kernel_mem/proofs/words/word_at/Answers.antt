use Rattle.std.proofs.Common.{◌+◌, ◌*◌, Some, refl, sym, ap, ◌∙◌, arith}
use Rattle.dos_world.specs.Bytes.{number_of}
use Rattle.page_store.proofs.Joined.{home-at, joined-stretch}
use Rattle.kernel_mem.proofs.words.word_at.Goals as goal

pub lend-requires : goal.lend-requires
lend-requires c = home-at c.args.frames.now.pages c.args.frame c.requires.home.home
    (omega (arith, c.requires.home.owners, c.requires.frame))

pub returns : goal.returns
returns c = λ w T. ap number_of (joined-stretch c.args.frames.now.pages c.args.frame c.args.offset 4
    (4096 * c.args.frame + c.args.offset) (Some c.lend.result.now) c.lend.ensures c.requires.offset
    refl) ∙ sym c.read.ensures.value
