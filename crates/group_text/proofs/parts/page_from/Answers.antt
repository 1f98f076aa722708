use Rattle.std.proofs.Common.{sym, subst, ◌∙◌}
use Rattle.dos_world.specs.declared.Owner.{Owner}
use Rattle.page_store.specs.Store.{whole}
use Rattle.page_store.proofs.Joined.{written-whole}
use Rattle.page_store.proofs.Pages.{length-whole}
use Rattle.group_text.specs.Records.{HasItsPage}
use Rattle.group_text.proofs.parts.page_from.Goals as goal

pub returns-in-Shared : goal.returns-in-Shared
returns-in-Shared c =
    rw c.in-Shared.is (c.copy_from.ensures
    ∙ written-whole (whole c.in_ok-page.page) c.args.bytes.now
    (subst (λ (o : Owner). HasItsPage o c.args.bytes.now) c.in-Shared.is c.requires
    ∙ sym (length-whole c.in_ok-page.page)))

pub returns-in-Of : goal.returns-in-Of
returns-in-Of c =
    rw c.in-Of.is (c.copy_from-in-Of.ensures
    ∙ written-whole (whole c.in_ok-page.page) c.args.bytes.now
    (subst (λ (o : Owner). HasItsPage o c.args.bytes.now) c.in-Of.is c.requires
    ∙ sym (length-whole c.in_ok-page.page)))
