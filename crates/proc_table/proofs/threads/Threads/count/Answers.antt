use Rattle.std.proofs.Common.{rules, ◌≡◌, length, sym, ◌∙◌}
use Rattle.proc_table.proofs.Shown.{living}
use Rattle.proc_table.proofs.threads.Threads.count.Goals as goal

pub returns : goal.returns
returns c =
    let count : c.len.result ≡ length c.self.inside.live.items = search rules in
    count ∙ sym (living c.self.view_is c.self.invariant)
