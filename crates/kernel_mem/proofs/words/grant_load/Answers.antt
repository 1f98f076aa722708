use Rattle.std.proofs.Common.{◌≡◌, true, Option, None, Some, IsSome, refl, sym, ap, ◌∙◌}
use Rattle.dos_world.specs.declared.Access.TheVariants.{Load}
use Rattle.dos_world.specs.declared.Entry.{Entry}
use Rattle.page_store.specs.Store.{Store as Held}
use Rattle.kernel_mem.specs.MemoryWorld.{in_world, entry_in, is_allowed}
use Rattle.kernel_mem.proofs.Reaching.{opened_world}
use Rattle.kernel_mem.proofs.Keeping.{open-reads}
use Rattle.kernel_mem.proofs.words.grant_load.Goals as goal

-- every page that is mapped may be read
readable : (o : Option Entry) → IsSome o → is_allowed Load o ≡ true
readable None some = cc
readable (Some e) some = refl

pub open-requires-clause-allowed : goal.open-requires-clause-allowed
open-requires-clause-allowed c =
    readable (entry_in c.args.table.now c.args.tid c.args.address) c.requires.entry

pub returns-clause-opens : goal.returns-clause-opens
returns-clause-opens c = λ w.
    opened_world w c.open.ensures.has
    ∙ ap (λ (s : Held). in_world w s c.args.table.now) (sym c.open.ensures.opens)

pub returns-clause-stays : goal.returns-clause-stays
returns-clause-stays c = open-reads c.args.frames.now c.open.new.frames c.open.result c.args.tid
    c.open.ensures.has.owned c.open.ensures.opens
