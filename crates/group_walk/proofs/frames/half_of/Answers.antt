use Rattle.std.proofs.Common.{◌+◌, ◌*◌, ◌%◌, Some, refl, sym, ap, ◌∙◌, arith}
use Rattle.dos_world.specs.Bytes.{number_of}
use Rattle.page_store.proofs.Joined.{home-at, joined-stretch}
use Rattle.kernel_calls.specs.StateWorld.{sent, world_of}
use Rattle.group_walk.proofs.Reached.{half_fetched}
use Rattle.group_walk.proofs.frames.half_of.Goals as goal

pub lend-requires : goal.lend-requires
lend-requires c = home-at c.args.state.now.frames.pages c.in-Ok.frame
    c.requires.sound.counted.home.home
    (omega (arith, c.requires.sound.counted.home.owners, c.in-Ok.ensures.within))

pub returns-in-Ok-clause-half : goal.returns-in-Ok-clause-half
returns-in-Ok-clause-half c = λ q o e.
    half_fetched (sent o e (world_of q c.args.state.now)) c.args.tid c.args.address
    (4096 * c.in-Ok.frame + c.args.address % 4096) c.args.is_granted c.read.result
    (c.in-Ok.ensures.place q o e)
    (ap number_of (joined-stretch c.args.state.now.frames.pages c.in-Ok.frame
    (c.args.address % 4096) 2 (4096 * c.in-Ok.frame + c.args.address % 4096)
    (Some c.lend.result.now) c.lend.ensures c.in-Ok.ensures.one refl)
    ∙ sym c.read.ensures.value)
