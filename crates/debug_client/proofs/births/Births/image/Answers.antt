use Rattle.std.proofs.Common.{◌≡◌, ◌<◌, ℕ, List, false, ◌∙◌, sym, ap, arith}
use Rattle.std.specs.Prelude.{unwrap_or, nat_le}
use Rattle.std.proofs.lemmas.Bool.Decides.{nat_tests}
use Rattle.dos_world.specs.Numbered.{numbered}
use Rattle.debug_client.specs.Births.{BirthTables}
use Rattle.debug_client.proofs.Known.{image_known}
use Rattle.debug_client.proofs.births.Births.image.Goals as goal

pub returns : goal.returns
returns c moments a known =
    let p = c.args.process in
    let images : c.self.inside.images ≡ c.args.self.now.images =
    ap (λ (b : BirthTables). b.images) c.self.view_is in
    let later : nat_le p c.args.self.now.images ≡ false =
    ap (nat_le p) (sym images) ∙ greater p c.self.inside.images c.if-process-self.false in
    c.number_at.ensures
    ∙ ap (λ (l : List ℕ). unwrap_or (numbered l p) 0) c.deref.ensures.value
    ∙ ap (λ (b : BirthTables). unwrap_or (numbered b.image_numbers p) 0) c.self.view_is
    ∙ image_known c.args.self.now moments a p known later
  where
    greater : (p n : ℕ) → n < p → nat_le p n ≡ false
    greater p n more = grind (arith, nat_tests)
