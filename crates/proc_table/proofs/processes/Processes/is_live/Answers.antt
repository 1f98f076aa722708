use Rattle.std.proofs.Common.{◌≡◌, ◌∙◌, ℕ, Option, option_map, Some, None, refl, sym, ap}
use Rattle.std.specs.Prelude.{is_some}
use Rattle.proc_table.specs.Places.{holdings_in, place_in}
use Rattle.dos_world.specs.World.{Holdings}
use Rattle.proc_table.proofs.Standing.{held_now}
use Rattle.proc_table.proofs.processes.Processes.is_live.Goals as goal

mapped : (f : ℕ → Holdings) (o : Option ℕ) → is_some o ≡ is_some (option_map f o)
mapped f None = refl
mapped f (Some n) = refl

pub returns : goal.returns
returns c =
    c.is_some.ensures ∙ ap is_some
    c.place_in.ensures
    ∙ mapped (holdings_in c.self.inside.spaces.items c.self.inside.belongings.items)
    (place_in c.self.inside.records c.args.pid)
    ∙ sym (ap is_some (held_now c.self.view_is c.self.invariant c.args.pid))
