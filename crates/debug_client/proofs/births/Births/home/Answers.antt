use Rattle.std.proofs.Common.{List, ℕ, Option, ◌∙◌, ap}
use Rattle.dos_world.specs.Numbered.{numbered}
use Rattle.dos_world.specs.World.{flat}
use Rattle.debug_client.specs.Births.{BirthTables}
use Rattle.debug_client.proofs.Known.{home_known}
use Rattle.debug_client.proofs.births.Births.home.Goals as goal

pub returns-clause-home : goal.returns-clause-home
returns-clause-home c moments a known =
    let t = c.args.thread in
    c.kept_at.ensures
    ∙ ap (λ (kept : List (Option ℕ)). flat (numbered kept t)) c.deref.ensures.value
    ∙ ap (λ (b : BirthTables). flat (numbered b.homes t)) c.self.view_is
    ∙ home_known c.args.self.now moments a t known
