use Rattle.code_pages.proofs.KnownLaws.{slot-page-none}
use Rattle.code_pages.proofs.known.have_page.Goals as goal

pub returns-in-Ok-clause-there : goal.returns-in-Ok-clause-there
returns-in-Ok-clause-there c = λ yes.
    slot-page-none c.args.slot.now c.in-Ok.code c.in_default.not-Some c.in-Ok.ensures
