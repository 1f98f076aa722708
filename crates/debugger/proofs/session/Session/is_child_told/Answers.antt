use Rattle.std.proofs.Common.{◌≡◌, ◌∙◌, ap, sym, Bool, true, false, refl, List, ℕ, length, arith}
use Rattle.std.specs.Prelude.{◌&&◌, nat_lt, not}
use Rattle.debug_session.specs.Sessions.{is_among}
use Rattle.debugger.proofs.Lasting.{child_told}
use Rattle.debugger.proofs.session.Session.is_child_told.Goals as goal

among_fails : (f a l : Bool) → a ≡ true → false ≡ (f && not a && l)
among_fails true true l is = refl
among_fails false true l is = refl
among_fails f false l is = cc

all_pass : (f a l r : Bool) → f ≡ true → a ≡ false → r ≡ l → r ≡ (f && not a && l)
all_pass true false l r holds other is = is
all_pass false a l r holds other is = cc
all_pass true true l r holds other is = cc

pub returns-then-not-is_told_forks : goal.returns-then-not-is_told_forks
returns-then-not-is_told_forks c start s asked =
    let told = c.self.inside.client.told in
    sym (child_told _ c.args.self.now c.self.view_is start s asked c.args.child
    ∙ ap (λ (b : Bool). b && not (is_among c.args.child told) && nat_lt (length told) 256)
    (sym c.is_told_forks.ensures ∙ c.if-not-is_told_forks.true))

pub returns-then-contains : goal.returns-then-contains
returns-then-contains c start s asked =
    let told = c.self.inside.client.told in
    among_fails c.self.inside.client.is_told_forks (is_among c.args.child told)
    (nat_lt (length told) 256)
    (ap (is_among c.args.child) (sym c.told-told.ensures)
    ∙ sym c.contains.ensures.value ∙ c.if-contains.true)
    ∙ sym (child_told _ c.args.self.now c.self.view_is start s asked c.args.child)

pub returns : goal.returns
returns c start s asked =
    let told = c.self.inside.client.told in
    all_pass c.self.inside.client.is_told_forks (is_among c.args.child told)
    (nat_lt (length told) 256) _ (sym c.is_told_forks.ensures ∙ c.if-not-is_told_forks.false)
    (ap (is_among c.args.child) (sym c.told-told.ensures)
    ∙ sym c.contains.ensures.value ∙ c.if-contains.false)
    (ap (λ (ns : List ℕ). nat_lt (length ns) 256) c.told-told.ensures)
    ∙ sym (child_told _ c.args.self.now c.self.view_is start s asked c.args.child)
