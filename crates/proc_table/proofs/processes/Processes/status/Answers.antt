use Rattle.std.proofs.Common.{◌≡◌, ℕ, List, Option, None, Some, sym, ap}
use Rattle.space_map.specs.Mapping.{Mapping}
use Rattle.dos_world.specs.World.{Process}
use Rattle.proc_table.specs.Tables.{last_status}
use Rattle.proc_table.specs.Places.{holdings_in, life_by}
use Rattle.proc_table.specs.declared.record.Belongings.{Belongings}
use Rattle.proc_table.specs.declared.record.Kept.{Kept}
use Rattle.proc_table.proofs.Standing.{given_record, of_record}
use Rattle.proc_table.proofs.processes.Processes.status.Goals as goal

pub get-requires : goal.get-requires
get-requires c = given_record c.self.view_is c.self.invariant c.args.pid c.requires

-- the status of a process with this record
abbrev kept_status : List Mapping → List Belongings → ℕ → Kept → Option ℕ
kept_status S D parent k =
    last_status (let p : Process = record { parent = parent; life = life_by (holdings_in S D) k } in
    p)

pub returns-in-Live : goal.returns-in-Live
returns-in-Live c =
    of_record c.self.view_is c.self.invariant c.args.pid
    (λ process. ◌≡◌ {A = Option ℕ} None (last_status process)) c.get.ensures
    (sym (ap (kept_status c.self.inside.spaces.items c.self.inside.belongings.items
    c.get.result.now.parent) c.in-Live.is))

pub returns-in-Ended : goal.returns-in-Ended
returns-in-Ended c =
    of_record c.self.view_is c.self.invariant c.args.pid
    (λ process. ◌≡◌ {A = Option ℕ} (Some c.in-Ended.status) (last_status process)) c.get.ensures
    (sym (ap (kept_status c.self.inside.spaces.items c.self.inside.belongings.items
    c.get.result.now.parent) c.in-Ended.is))
