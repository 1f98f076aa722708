use Rattle.std.proofs.Common.{◌≡◌, ◌∙◌, false, ℕ, List, sym, arith}
use Rattle.std.specs.List.{list_any}
use Rattle.dos_world.specs.declared.Entry.{Entry}
use Rattle.space_map.specs.Mapping.{in_run}
use Rattle.kernel_mem.proofs.Copies.{some-free}
use Rattle.kernel_mem.proofs.Loops.{of-space}
use Rattle.kernel_mem.proofs.MapRun.{IsMapping, filling-none, filling-more, filling-lives}
use Rattle.kernel_mem.proofs.MapRun.{filling-mapped, filling-ends}
use Rattle.kernel_mem.proofs.Runs.{any_entry}
use Rattle.kernel_mem.specs.MemoryWorld.{space_in}
use Rattle.kernel_mem.proofs.map.map_run.Goals as goal

pub put_run-requires-clause-unmapped : goal.put_run-requires-clause-unmapped
put_run-requires-clause-unmapped c =
    of-space (λ (es : List (ℕ × Entry)). list_any (in_run c.args.page c.args.count) es ≡ false)
    c.args.table.now c.args.pid
    (any_entry (space_in c.args.table.now c.args.pid) c.args.page c.args.count
    ∙ c.requires.unmapped)

pub loop-index-init : goal.loop-index-init
loop-index-init c = filling-none c.args.tid c.args.pid c.args.page c.args.rights c.args.count
    c.requires.home c.requires.live c.requires.unmapped c.private_entry.ensures c.put_run.ensures

pub fill_page-requires-clause-live : goal.fill_page-requires-clause-live
fill_page-requires-clause-live c = filling-lives c.requires.live c.loop-index.invariant

pub fill_page-requires-clause-mapped : goal.fill_page-requires-clause-mapped
fill_page-requires-clause-mapped c = filling-mapped c.requires.live c.loop-index.invariant
    c.loop-index-test.true

pub fill_page-requires-clause-free : goal.fill_page-requires-clause-free
fill_page-requires-clause-free c =
    λ none. some-free c.loop-index.frames.owners
    (omega (arith, c.loop-index.invariant.mapping.free)) (sym none)

pub loop-index-preserved : goal.loop-index-preserved
loop-index-preserved c = filling-more c.requires.live c.loop-index.invariant
    c.loop-index-test.true c.fill_page.ensures.frame c.fill_page.ensures.frames
    c.fill_page.ensures.table c.fill_page.ensures.home c.fill_page.ensures.unused

ends : (c : goal.After-loop-index)
    → IsMapping c.args.frames.now c.args.table.now c.args.tid c.args.pid c.args.page c.args.rights
    c.args.count c.args.count c.loop-index.frames c.loop-index.table
ends c = filling-ends c.requires.live c.loop-index.invariant (omega arith)

pub returns-clause-maps : goal.returns-clause-maps
returns-clause-maps c = (ends c).maps

pub returns-clause-uses : goal.returns-clause-uses
returns-clause-uses c = (ends c).uses

pub returns-clause-table : goal.returns-clause-table
returns-clause-table c = (ends c).table
