use Rattle.std.proofs.Common.{rules, ◌≡◌, ℕ}
use Rattle.std.specs.Prelude.{◌==◌, not, filter}
use Rattle.std.proofs.lemmas.Fn.{filter_same}
use Rattle.dos_world.specs.World.{Thread}
use Rattle.proc_table.proofs.Shown.{filtered, kept_filter}
use Rattle.proc_table.proofs.threads.Threads.remove_of.Goals as goal

-- those that are left are those of the other processes
left : (c : goal.After-retain)
    → c.retain.new.self.items
    ≡ filter (λ e. not (e.1.process == c.args.pid)) c.self.inside.live.items
left c = filter_same _ (λ (e : ℕ × Thread). not (e.1.process == c.args.pid)) _
    (λ x b q k. search rules) _ _ c.retain.ensures.filtered

pub invariant_of-self : goal.invariant_of-self
invariant_of-self c =
    kept_filter c.self.view_is c.self.invariant c.args.pid (left c) c.retain.ensures.capacity

pub returns : goal.returns
returns c = filtered c.self.view_is c.self.invariant c.args.pid (left c)
