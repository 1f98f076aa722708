use Rattle.std.proofs.Common.{◌≡◌, ℕ, List, Bool, false, sym, ap}
use Rattle.space_map.specs.Mapping.{Mapping}
use Rattle.dos_world.specs.World.{Process, was_collected}
use Rattle.proc_table.specs.Places.{holdings_in, life_by}
use Rattle.proc_table.specs.declared.record.Belongings.{Belongings}
use Rattle.proc_table.specs.declared.record.Kept.{Kept}
use Rattle.proc_table.proofs.Standing.{given_record, of_record}
use Rattle.proc_table.proofs.processes.Processes.was_collected.Goals as goal

pub get-requires : goal.get-requires
get-requires c = given_record c.self.view_is c.self.invariant c.args.pid c.requires

-- whether a process with this record was collected
abbrev kept_collected : List Mapping → List Belongings → ℕ → Kept → Bool
kept_collected S D parent k = was_collected
    (let p : Process = record { parent = parent; life = life_by (holdings_in S D) k } in p)

pub returns-in-Live : goal.returns-in-Live
returns-in-Live c =
    of_record c.self.view_is c.self.invariant c.args.pid
    (λ process. ◌≡◌ {A = Bool} false (was_collected process)) c.get.ensures
    (sym (ap (kept_collected c.self.inside.spaces.items c.self.inside.belongings.items
    c.get.result.now.parent) c.in-Live.is))

pub returns-in-Ended : goal.returns-in-Ended
returns-in-Ended c =
    of_record c.self.view_is c.self.invariant c.args.pid
    (λ process. ◌≡◌ {A = Bool} c.in-Ended.collected (was_collected process)) c.get.ensures
    (sym (ap (kept_collected c.self.inside.spaces.items c.self.inside.belongings.items
    c.get.result.now.parent) c.in-Ended.is))
