use Rattle.std.proofs.Common.{◌-◌, ap, sym, subst, arith}
use Rattle.worker_pool.specs.Ran.{AllRan, GrewBy, budgets_left}
use Rattle.kernel_calls.specs.declared.state.State.{State}
use Rattle.group_rounds.specs.Away.{Away, HaveRun, WentOut}
use Rattle.group_rounds.specs.Handing.{view_of}
use Rattle.group_rounds.proofs.AwayLaws.{away, all-can-run}
use Rattle.group_rounds.proofs.away.run_parts.Goals as goal

pub run_parts-stand_in-requires-clause-can : goal.run_parts-stand_in-requires-clause-can
run_parts-stand_in-requires-clause-can g c = λ κs outlive.
    let i = c.handed.inside in
    let a : Away = away i.state i.config i.starters.items i.out.items in
    all-can-run c.handed.invariant.0.0 a c.handed.invariant.0.1

-- the state came back as it was
pub invariant_of-result : goal.invariant_of-result
invariant_of-result g c =
    let i = c.handed.inside in
    let out = c.handed.invariant.0 in
    let room = c.handed.invariant.1 in
    let e = c.run_parts-stand_in.ensures in
    let packs = c.run_parts-stand_in.new.packs.items in
    let level = e.runs.level in (
      (
        out.0,
        i.out.items,
        subst (λ (s : State). WentOut out.0 (away s i.config i.starters.items i.out.items))
            (sym e.state) out.1,
        subst (λ (s : State). AllRan (view_of s.frames s.table) i.out.items packs) (sym e.state)
            e.runs,
      ),
      record {
        scheme = room.scheme;
        frames_are = room.frames_are;
        starters_room = room.starters_room;
        empty = room.empty;
        many = omega (arith, room.many, level);
        fits = omega (arith, room.fits, level);
        room = omega (arith, room.room, e.room);
      },
    )

pub returns : goal.returns
returns g c =
    let i = c.handed.inside in
    let e = c.run_parts-stand_in.ensures in
    let view = c.handed.view_is in
    let new = c.run_parts-stand_in.new.state in
    let packs = c.run_parts-stand_in.new.packs.items in
    record {
      runs = subst (λ (a : Away). HaveRun a (away new i.config i.starters.items packs)) view
          (record {
            runs = e.runs;
            rest = ap (λ (s : State). away s i.config i.starters.items packs) e.state;
          });
      tally = subst (λ (a : Away). GrewBy (g.W.Workers.tally c.args.workers.now)
          (g.W.Workers.tally c.run_parts-stand_in.new.workers)
          (budgets_left a.packs - budgets_left packs))
          view e.tally;
      fixed = e.fixed;
    }
