use Rattle.std.proofs.Common.{rules, vec_len, ◌≡◌, ℕ, ◌+◌, ◌∙◌, List, length, ap, sym, arith}
use Rattle.dos_world.specs.World.{Thread}
use Rattle.proc_table.specs.Spread.{spread}
use Rattle.proc_table.proofs.Shown.{pushed, kept_push, room_left, length_shown}
use Rattle.proc_table.proofs.threads.Threads.add.Goals as goal

pub unreachable-requires : goal.unreachable-requires
unreachable-requires c =
    let left = room_left c.self.view_is c.self.invariant c.requires in
    let count : vec_len c.self.inside.live ≡ length c.self.inside.live.items = search rules in
    omega (arith, left.0, c.in-Err.ensures.full, c.self.invariant.taken)

pub invariant_of-self : goal.invariant_of-self
invariant_of-self c = kept_push c.self.view_is c.self.invariant c.args.thread c.requires
    c.in-Ok.ensures.items c.in-Ok.ensures.capacity

pub returns-clause-number : goal.returns-clause-number
returns-clause-number c =
    ap (λ n. n + 1) (sym (length_shown c.self.view_is c.self.invariant))

pub returns-clause-begins : goal.returns-clause-begins
returns-clause-begins c =
    ap (λ (es : List (ℕ × Thread)). spread es (c.self.inside.given + 1)) c.in-Ok.ensures.items
    ∙ pushed c.self.view_is c.self.invariant c.args.thread
