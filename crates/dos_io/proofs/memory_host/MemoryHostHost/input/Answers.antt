use Rattle.std.proofs.Common.{◌≤◌, ◌∙◌, ℕ, List, Some, take, length, sym, ap, arith}
use Rattle.dos_io.specs.HostMemory.{HostState, told_by, after_taking}
use Rattle.dos_io.proofs.PieceLaws.{count_leaves}
use Rattle.dos_io.proofs.memory_host.MemoryHostHost.input.Goals as goal

pub returns-clause-bytes : goal.returns-clause-bytes
returns-clause-bytes c =
    let one : 1 ≤ c.args.self.now.first = omega
    (arith, c.self.invariant.0, ap (λ (h : HostState). h.first) c.self.view_is) in
    let first = ap (λ (h : HostState). h.first) c.self.view_is in
    let left = ap (λ (h : HostState). length h.left) c.self.view_is in
    let n = c.next_count-count.ensures in
    c.take.ensures.bytes ∙ ap (λ (h : HostState). take c.next_count-count.result h.left)
    c.self.view_is
    ∙ sym (ap (λ (x : List ℕ × List (List ℕ)). x.0)
    (count_leaves (length c.args.buf.now) c.next_count-count.result c.args.self.now.first
    c.args.self.now.size c.args.self.now.left one c.requires n.max
    (omega (arith, n.first, first)) (omega (arith, n.left, left))
    (λ p q. omega (arith, n.most p (omega (arith, q, first)), left))))

pub returns-clause-told_ok : goal.returns-clause-told_ok
returns-clause-told_ok c =
    let one : 1 ≤ c.args.self.now.first = omega
    (arith, c.self.invariant.0, ap (λ (h : HostState). h.first) c.self.view_is) in
    let first = ap (λ (h : HostState). h.first) c.self.view_is in
    let left = ap (λ (h : HostState). length h.left) c.self.view_is in
    let n = c.next_count-count.ensures in
    ap told_by c.take.ensures.state
    ∙ ap (λ (h : HostState). told_by (after_taking c.next_count-count.result h)) c.self.view_is
    ∙ sym (ap (λ (x : List ℕ × List (List ℕ)).
    Some (record { pieces = x.1; readings = c.args.self.now.readings }))
    (count_leaves (length c.args.buf.now) c.next_count-count.result c.args.self.now.first
    c.args.self.now.size c.args.self.now.left one c.requires n.max
    (omega (arith, n.first, first)) (omega (arith, n.left, left))
    (λ p q. omega (arith, n.most p (omega (arith, q, first)), left))))
