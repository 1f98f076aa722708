use Rattle.std.proofs.Common.{length, arith}
use Rattle.flat_machine.specs.Machine.{group}
use Rattle.dpg_run.proofs.MisfitLaws.{misfit_at, fits_have_none}
use Rattle.dpg_run.proofs.laws.misfits_are_first.Goals as goal

pub returns-clause-first : goal.returns-clause-first
returns-clause-first c = λ images config before next behind asked is differ.
    misfit_at 0 (length before) before next behind asked (group images config) (omega arith) is
    differ

pub returns-clause-none : goal.returns-clause-none
returns-clause-none c = λ images config exchanges fits.
    fits_have_none 0 exchanges (group images config) fits
