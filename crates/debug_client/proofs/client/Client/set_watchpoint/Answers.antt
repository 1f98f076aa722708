use Rattle.std.proofs.Common.{◌≡◌, Bool, true, false, List, length, codes, ap, sym, ◌∙◌, arith}
use Rattle.std.specs.Prelude.{if◌then◌else◌}
use Rattle.debug_session.specs.Points.{with_watchpoint}
use Rattle.debug_session.specs.declared.points.Watchpoint.{Watchpoint}
use Rattle.debug_session.specs.Sessions.{Session}
use Rattle.debug_session.specs.Resuming.{replies_one}
use Rattle.debug_client.specs.Clients.{ClientView, session_of, watchpoint_in, is_refused}
use Rattle.debug_client.proofs.client.Client.set_watchpoint.Goals as goal

pub returns-then-is_refused-clause-ok : goal.returns-then-is_refused-clause-ok
returns-then-is_refused-clause-ok c r at =
    let now : ClientView = c.args.self.now in
    let s : Session = session_of now r at in
    let n = c.args.point.at.length in
    let more : List Watchpoint =
    with_watchpoint now.watchpoints (watchpoint_in now c.args.kind c.args.point) in
    let items : c.in_ok-more.more.items ≡ more =
    c.in_ok-more.ensures
    ∙ ap (λ (ws : List Watchpoint). with_watchpoint ws c.watchpoint_of-watchpoint.result)
    c.deref.ensures.value
    ∙ ap (λ (v : ClientView). with_watchpoint v.watchpoints c.watchpoint_of-watchpoint.result)
    c.self.view_is
    ∙ ap (with_watchpoint now.watchpoints) c.watchpoint_of-watchpoint.ensures in
    let many : c.len.result ≡ length c.in_ok-more.more.items =
    omega (arith, c.len.ensures, c.in_ok-more.more.ok) in
    let refused : is_refused (length more) n ≡ true =
    sym (c.is_refused.ensures
    ∙ ap (λ k. is_refused k n) (many ∙ ap (λ (ws : List Watchpoint). length ws) items))
    ∙ c.if-is_refused.true in
    sym (ap (λ (b : Bool). if b then replies_one s (codes "E01")
    else replies_one (record s { watchpoints = more }) (codes "OK")) refused)

pub returns-clause-ok : goal.returns-clause-ok
returns-clause-ok c r at =
    let now : ClientView = c.args.self.now in
    let s : Session = session_of now r at in
    let n = c.args.point.at.length in
    let more : List Watchpoint =
    with_watchpoint now.watchpoints (watchpoint_in now c.args.kind c.args.point) in
    let items : c.in_ok-more.more.items ≡ more =
    c.in_ok-more.ensures
    ∙ ap (λ (ws : List Watchpoint). with_watchpoint ws c.watchpoint_of-watchpoint.result)
    c.deref.ensures.value
    ∙ ap (λ (v : ClientView). with_watchpoint v.watchpoints c.watchpoint_of-watchpoint.result)
    c.self.view_is
    ∙ ap (with_watchpoint now.watchpoints) c.watchpoint_of-watchpoint.ensures in
    let many : c.len.result ≡ length c.in_ok-more.more.items =
    omega (arith, c.len.ensures, c.in_ok-more.more.ok) in
    let kept : is_refused (length more) n ≡ false =
    sym (c.is_refused.ensures
    ∙ ap (λ k. is_refused k n) (many ∙ ap (λ (ws : List Watchpoint). length ws) items))
    ∙ c.if-is_refused.false in
    ap (λ (v : ClientView). replies_one
    (session_of (record v { watchpoints = c.in_ok-more.more.items }) r at) (codes "OK"))
    c.self.view_is
    ∙ ap (λ (ws : List Watchpoint). replies_one
    (session_of (record now { watchpoints = ws }) r at) (codes "OK")) items
    ∙ sym (ap (λ (b : Bool). if b then replies_one s (codes "E01")
    else replies_one (record s { watchpoints = more }) (codes "OK")) kept)
