use Rattle.std.proofs.Common.{sym, subst, ◌∙◌, arith}
use Rattle.space_map.specs.Mapping.{in_run}
use Rattle.kernel_mem.specs.Memory.{IsDropped}
use Rattle.kernel_mem.proofs.Dropping.{none-dropped, passed-used, passed-dropped}
use Rattle.kernel_mem.proofs.DropRun.{run-begins, run-ends}
use Rattle.kernel_mem.proofs.drop.drop_run.Goals as goal

pub loop-place-init : goal.loop-place-init
loop-place-init c =
    subst (λ gone. IsDropped gone c.args.frames.now c.args.frames.now)
    (sym (run-begins c.args.space.now.entries c.len-place-end.ensures.rising c.args.page
    c.args.count c.first_from-place.result c.first_from-place.ensures))
    (none-dropped c.args.frames.now)

pub use_less-requires : goal.use_less-requires
use_less-requires c =
    passed-used c.args.frames.now c.loop-place.frames (in_run c.args.page c.args.count)
    c.args.space.now.entries c.loop-place.place c.at-mapped.result c.requires
    c.loop-place.invariant (omega arith) c.at-mapped.ensures
    (sym c.is_in_run.ensures ∙ c.if-not-is_in_run.false)

pub loop-place-preserved : goal.loop-place-preserved
loop-place-preserved c =
    passed-dropped c.args.frames.now c.loop-place.frames (in_run c.args.page c.args.count)
    c.args.space.now.entries c.loop-place.place c.at-mapped.result c.requires
    c.loop-place.invariant (omega arith) c.at-mapped.ensures
    (sym c.is_in_run.ensures ∙ c.if-not-is_in_run.false) c.use_less.new.self c.use_less.ensures

pub returns-then-not-is_in_run : goal.returns-then-not-is_in_run
returns-then-not-is_in_run c =
    subst (λ gone. IsDropped gone c.args.frames.now c.loop-place.frames)
    (run-ends c.args.space.now.entries c.len-place-end.ensures.rising c.args.page c.args.count
    c.first_from-place.result c.first_from-place.ensures c.loop-place.place c.at-mapped.result
    c.loop-place.auto.place (omega arith) c.at-mapped.ensures
    (sym c.is_in_run.ensures ∙ c.if-not-is_in_run.true)) c.loop-place.invariant
