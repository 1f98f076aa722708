use Rattle.std.proofs.Common.{ℕ, ◌≤◌, ◌-◌, refl, ap, sym, ◌∙◌, subst, arith, false}
use Rattle.worker_pool.specs.Ran.{budgets_left}
use Rattle.quantum_run.specs.Packs.{empty_pack}
use Rattle.group_rounds.specs.Away.{Away, HaveRun, IsParallelOf}
use Rattle.group_rounds.proofs.AwayLaws.{away, are-away, are-apart, are-live, are-others}
use Rattle.group_rounds.proofs.AwayLaws.{are-spare, packs-for}
use Rattle.group_rounds.proofs.AwayLaws.{between-again, is-parallel}
use Rattle.group_rounds.proofs.away.take_in.Goals as goal

-- what went out, by the packs before they ran
abbrev out-of : (c : goal.After-spare-1) → Away
out-of c = away c.ran.inside.state c.ran.inside.config c.ran.inside.starters.items
    c.ran.invariant.0.1

pub take_in-requires : goal.take_in-requires
take_in-requires c =
    let v = c.ran.invariant.0 in
    let room = c.ran.invariant.1 in
    let out = c.ran.inside.out.items in
    record {
      away = are-away v.0 (out-of c) v.2 out v.3;
      apart = are-apart v.0 (out-of c) v.2 out v.3;
      live = are-live v.0 (out-of c) v.2 out v.3;
      others = are-others v.0 (out-of c) v.2 out v.3;
      room = room.fits;
    }

pub invariant_of-result : goal.invariant_of-result
invariant_of-result c =
    let v = c.ran.invariant.0 in
    let room = c.ran.invariant.1 in
    let a : Away = away c.ran.inside.state c.ran.inside.config c.ran.inside.starters.items v.1 in
    let spare = c.take_in.ensures.spare in (
      record {
        empty = c.take_in.ensures.all_spare (empty_pack c.ran.inside.frames) room.empty
            (λ q k. are-spare v.0 a v.2 c.ran.inside.out.items v.3 q k
            ∙ ap empty_pack (sym room.frames_are));
        many = omega (arith, room.many, spare);
        fits = omega (arith, room.fits, spare, c.take_in.ensures.spare_room);
        none = c.take_in.ensures.packs;
        room = omega (arith, room.room, c.take_in.ensures.packs_room);
      },
      refl,
    )

pub invariant_of-result-2 : goal.invariant_of-result-2
invariant_of-result-2 c =
    let v = c.ran.invariant.0 in
    let room = c.ran.invariant.1 in
    let i = c.ran.inside in
    let a : Away = away i.state i.config i.starters.items v.1 in
    let e = c.take_in.ensures in (
      room.starters_room,
      subst (λ (n : ℕ). 1 ≤ n) (sym (e.round ∙ v.2.round)) v.2.begun,
      packs-for i.config i.frames room.frames_are room.scheme,
      λ running. between-again v.0 a v.2 c.ran.inside.out.items v.3 c.take_in.new.state e.back e.set
          e.round e.pipes e.futexes,
    )

pub returns : goal.returns
returns c = λ k a out have.
    let i = c.ran.inside in
    let ran : Away = away i.state i.config i.starters.items i.out.items in
    let e = c.take_in.ensures in
    subst (λ (x : Away). IsParallelOf k (budgets_left a.packs - budgets_left x.packs) (record {
      state = c.take_in.new.state;
      config = i.config;
      starters = i.starters.items;
      failed = false;
    })) c.ran.view_is
    (is-parallel k a ran out (subst (HaveRun a) (sym c.ran.view_is) have) c.take_in.new.state
    e.back e.set e.round e.pipes e.futexes)
