use Rattle.std.proofs.Common.{◌≡◌, refl, sym, ◌∙◌, arith, ap, length, inl}
use Rattle.group_rounds.proofs.ThreadRunLaws.{seen, mapped, space_is, registers_is, own_budget}
use Rattle.group_rounds.proofs.ThreadRunLaws.{budget_is, IsRunFrom, run_after, sound_after}
use Rattle.group_rounds.proofs.ThreadRunLaws.{parts_after, live_after}
use Rattle.quantum_run.proofs.Elsewhere.{none-yet}
use Rattle.group_rounds.proofs.part.run_until_address.Goals as goal

pub run_until_address-reason-requires-clause-mapped :
    goal.run_until_address-reason-requires-clause-mapped
run_until_address-reason-requires-clause-mapped c =
    mapped c.args.state.now c.args.tid c.requires.sound c.requires.live
    c.space-space.result.now.entries
    (space_is c.args.state.now c.args.tid c.requires.sound c.requires.live c.process_of-pid.result
    c.space-space.result.now.entries c.process_of-pid.ensures
    c.space-space.ensures.entries)

-- ---- what was read of the thread

its_space : (c : goal.After-set_run)
    → c.space-space.result.now.entries
    ≡ (seen c.args.state.now c.args.tid c.requires.sound c.requires.live).holdings.space
its_space c = space_is c.args.state.now c.args.tid c.requires.sound c.requires.live
    c.process_of-pid.result c.space-space.result.now.entries c.process_of-pid.ensures
    c.space-space.ensures.entries

its_registers : (c : goal.After-set_run)
    → c.regs.result.now ≡
    (seen c.args.state.now c.args.tid c.requires.sound c.requires.live).thread.registers
its_registers c = registers_is c.args.state.now c.args.tid c.requires.sound c.requires.live
    c.regs.result.now c.regs.ensures

its_budget : (c : goal.After-set_run)
    → c.budget-budget.result
    ≡ (seen c.args.state.now c.args.tid c.requires.sound c.requires.live).thread.budget
its_budget c = own_budget c.args.state.now c.args.tid c.requires.sound c.requires.live
    c.budget-budget.result c.budget-budget.ensures

-- ---- what the calls leave

left : (c : goal.After-set_run)
    → IsRunFrom c.args.stops.now c.args.state.now c.args.tid c.space-space.result.now.entries
    c.regs.result.now
    c.budget-budget.result c.run_until_address-reason.new.frames c.set_run.new.self
    c.run_until_address-reason.new.regs c.run_until_address-reason.new.budget
    c.run_until_address-reason.result
left c = record {
  runs = c.run_until_address-reason.ensures.runs;
  stop = c.run_until_address-reason.ensures.stop;
  elsewhere = c.run_until_address-reason.ensures.elsewhere;
  within = c.run_until_address-reason.ensures.within;
  owners = c.run_until_address-reason.ensures.owners;
  uses = c.run_until_address-reason.ensures.uses;
  home = c.run_until_address-reason.ensures.home;
  count = sym c.count-count.ensures.owners ∙ c.count-count.ensures.pages;
  table_is = c.set_run.ensures;
}

pub returns : goal.returns
returns c =
    let s = c.args.state.now in
    let t = c.args.tid in
    let sound = c.requires.sound in
    let live = c.requires.live in
    let entries = c.space-space.result.now.entries in
    let regs = c.regs.result.now in
    let budget = c.budget-budget.result in
    record {
      ran = run_after c.args.stops.now s t sound live entries regs budget _ _ _ _ _ (its_space c)
          (its_registers c)
          (its_budget c) (left c);
      sound = sound_after c.args.stops.now s t sound live entries regs budget _ _ _ _ _
          (its_space c)
          (its_registers c) (its_budget c) (left c);
      parts = parts_after c.args.stops.now s t sound live entries regs budget _ _ _ _ _
          (its_space c)
          (its_registers c) (its_budget c) (left c);
      round = record { round = refl; marked = c.run_until_address-reason.ensures.marked };
      count = ap length c.run_until_address-reason.ensures.owners;
      live = live_after c.args.stops.now s t sound live entries regs budget _ _ _ _ _ (its_space c)
          (its_registers c) (its_budget c) (left c);
    }

-- with no budget nothing runs
pub returns-then-budget-eq0-clause-ran : goal.returns-then-budget-eq0-clause-ran
returns-then-budget-eq0-clause-ran c = record {
  count = 0;
  paid = omega arith;
  runs = λ q o e. refl;
  elsewhere = λ q o e. none-yet c.args.stops.now 0 _ c.args.tid refl;
  stops = inl (sym (budget_is c.args.state.now c.args.tid c.requires.sound c.requires.live
      c.budget-budget.result c.budget-budget.ensures) ∙ c.if-budget-eq0.true);
}
