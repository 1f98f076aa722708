use Rattle.std.proofs.Common.{sym, ap, ◌∙◌}
use Rattle.std.specs.Prelude.{not}
use Rattle.proc_table.specs.declared.collected.Collected.TheVariants.{Got}
use Rattle.proc_table.proofs.Moved.{read_of}
use Rattle.proc_table.proofs.Waits.{found_given, outcome_got, outcome_none, outcome_wait}
use Rattle.proc_table.proofs.processes.Processes.outcome.Goals as goal

pub get-requires : goal.get-requires
get-requires c = found_given c.self.view_is c.self.invariant c.args.parent
    c.args.which (sym c.in-Some.ensures)

pub returns-then-is_none : goal.returns-then-is_none
returns-then-is_none c = outcome_none c.self.view_is c.self.invariant c.args.parent
    c.args.which c.first_child.result (sym c.first_child.ensures) (ap not c.if-is_none.ensures)

pub returns-in-Some : goal.returns-in-Some
returns-in-Some c =
    ap (λ n. Got c.in-Some.pid n) c.status_of.ensures
    ∙ outcome_got c.self.view_is c.self.invariant c.args.parent c.args.which
    (sym c.in-Some.ensures) c.first_child.result (sym c.first_child.ensures)
    (ap not c.if-is_none.ensures) c.get.result.now
    (read_of c.self.inside.records c.in-Some.pid c.get.result.now c.get.ensures)

pub returns-in-None : goal.returns-in-None
returns-in-None c = outcome_wait c.self.view_is c.self.invariant c.args.parent
    c.args.which c.first_child.result (sym c.first_child.ensures) (ap not c.if-is_none.ensures)
    (sym c.in-None.ensures)
