use Rattle.std.proofs.Common.{List, sym, ap, ◌∙◌, subst}
use Rattle.std.specs.Prelude.{IfSome}
use Rattle.dos_world.specs.declared.Owner.{Owner}
use Rattle.page_store.specs.Marks.{AreNotedIn, marked_in}
use Rattle.page_store.specs.Store.{IsFirstChanged}
use Rattle.page_store.proofs.Marking.{changed-some, settled-all}
use Rattle.page_store.proofs.changes.first_changed.Goals as goal

pub returns-in-Some-clause-none : goal.returns-in-Some-clause-none
returns-in-Some-clause-none c = λ owners k size none. ap marked_in c.in-Some.is
    ∙ settled-all owners c.in-Some.changes.owners.items c.in-Some.changes.noted
    (subst (AreNotedIn owners) c.in-Some.is k) (sym c.lowest.ensures ∙ none)

pub returns-in-Some-clause-some : goal.returns-in-Some-clause-some
returns-in-Some-clause-some c = λ owners k.
    subst (λ (m : List Owner). IfSome c.lowest.result (λ frame. IsFirstChanged m owners frame))
    (sym (ap marked_in c.in-Some.is))
    (changed-some owners c.in-Some.changes.owners.items c.in-Some.changes.noted c.lowest.result
    c.lowest.ensures (subst (AreNotedIn owners) c.in-Some.is k))
