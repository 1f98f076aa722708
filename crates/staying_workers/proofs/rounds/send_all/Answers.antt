use Rattle.std.proofs.Common.{◌≡◌, ◌+◌, ◌∷◌, [], ℕ, All, List, sum_by, ap, sym, subst, arith}
use Rattle.std.proofs.Common.{◌∙◌, Option, Some}
use Rattle.std.specs.Prelude.{IfSome}
use Rattle.std.proofs.lemmas.List.Elements.{All-push}
use Rattle.std.proofs.lemmas.List.Sums.{sum_by-append}
use Rattle.order_place.specs.declared.worker.Worker.{Worker}
use Rattle.staying_workers.specs.Busy.{IsWorkerAt, share_out}
use Rattle.staying_workers.specs.declared.held.Held.{Held}
use Rattle.staying_workers.specs.declared.orders.PackOrder.{PackOrder}
use Rattle.staying_workers.proofs.RanPacks.{still_ready}
use Rattle.staying_workers.proofs.rounds.send_all.Goals as goal

abbrev sum_by_out : (G : Type 0) → List (Worker (PackOrder G)) → ℕ
sum_by_out G ws = sum_by (share_out {G = G}) ws

of_some : {A : Type 0} (P : A → Type 0) (o : Option A) (x : A) → o ≡ Some x → IfSome o P → P x
of_some P o x is some = subst (λ z. IfSome z P) is some

pub send_one-left-requires-clause-ready : goal.send_one-left-requires-clause-ready
send_one-left-requires-clause-ready g c =
    λ κs κ. still_ready c.loop-sent.invariant.1 c.requires.ready

pub loop-sent-preserved : goal.loop-sent-preserved
loop-sent-preserved g c =
    let inv = c.loop-sent.invariant in
    let sent = c.send_one-left.ensures in
    let w = c.in-Some.worker in
    let some = of_some (λ (u : Worker (PackOrder g.row.G.Denot)).
    IsWorkerAt c.loop-sent.lender.term c.loop-sent.seat.board c.loop-sent.seat.opened u
    × (c.send_one-left.result.1.share + share_out u ≡ c.loop-sent.seat.share)
    × (c.send_one-left.result.0.out ≡ c.loop-sent.lender.out + 1))
    c.send_one-left.result.2 w c.in-Some.is sent.some in
    let pushed = c.push_reserved.ensures in
    let before = c.loop-sent.busy.items in
    let term = c.args.lender.term in
    let board = c.args.seat.board in
    let opened = c.args.seat.opened in
    let at = subst (λ t. IsWorkerAt t board opened w) inv.8
    (subst (λ b. IsWorkerAt c.loop-sent.lender.term b opened w) inv.0
    (subst (λ (o : List Held). IsWorkerAt c.loop-sent.lender.term c.loop-sent.seat.board o w)
    inv.1 some.0)) in
    let sum = ap (sum_by_out g.row.G.Denot) pushed.items
    ∙ sum_by-append share_out before (w ∷ []) in
    let cut = some.1 in
    let more = some.2 in
    let all = inv.4 in (
      sent.seat.0 ∙ inv.0,
      sent.seat.1 ∙ inv.1,
      sent.seat.2,
      subst (λ (l : List (Worker (PackOrder g.row.G.Denot))). All (IsWorkerAt term board opened) l)
          (sym pushed.items) (All-push (IsWorkerAt term board opened) before w inv.3 at),
      omega (arith, sum, cut, all),
      omega (arith, pushed.len, inv.5),
      omega (arith, pushed.capacity, inv.6),
      sent.lender.0 ∙ inv.7,
      sent.lender.1 ∙ inv.8,
      omega (arith, more, pushed.len, inv.9),
    )
