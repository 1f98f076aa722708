use Rattle.std.proofs.Common.{List, ℕ, Option, ◌∙◌, ap}
use Rattle.dos_world.specs.Numbered.{numbered}
use Rattle.dos_world.specs.World.{flat}
use Rattle.debug_client.specs.Births.{BirthTables}
use Rattle.debug_client.proofs.Known.{first_known}
use Rattle.debug_client.proofs.births.Births.first_thread.Goals as goal

pub returns-clause-thread : goal.returns-clause-thread
returns-clause-thread c moments a known =
    let p = c.args.process in
    c.kept_at.ensures
    ∙ ap (λ (kept : List (Option ℕ)). flat (numbered kept p)) c.deref.ensures.value
    ∙ ap (λ (b : BirthTables). flat (numbered b.first_threads p)) c.self.view_is
    ∙ first_known c.args.self.now moments a p known
