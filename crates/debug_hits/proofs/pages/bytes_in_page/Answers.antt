use Rattle.std.proofs.Common.{◌≡◌, ◌+◌, ◌-◌, ◌/◌, ◌%◌, ◌∙◌, ap, sym, take, drop, arith}
use Rattle.debug_hits.proofs.PageBytes.{Found, found, is_home, told_of_page}
use Rattle.debug_hits.proofs.pages.bytes_in_page.Goals as goal

pub lend-requires : goal.lend-requires
lend-requires c =
    let s = c.args.state.now in
    let page = c.args.address / 4096 in
    let e = c.in-Some.entry in
    is_home s c.args.process page e c.requires.sound
    (found s c.args.process page e c.space.result.now.entries c.requires.sound
    (sym c.if-not-is_live.ensures) c.space.ensures.entries (sym c.look.ensures ∙ c.in-Some.is))

pub returns-in-Some : goal.returns-in-Some
returns-in-Some c q output error =
    let s = c.args.state.now in
    let page = c.args.address / 4096 in
    let offset = c.args.address % 4096 in
    let e = c.in-Some.entry in
    let x : Found s c.args.process page e =
    found s c.args.process page e c.space.result.now.entries c.requires.sound
    (sym c.if-not-is_live.ensures) c.space.ensures.entries (sym c.look.ensures ∙ c.in-Some.is) in
    let many : offset + c.args.count - offset ≡ c.args.count = omega arith in
    ap (λ n. take n (drop offset c.bytes-page.result.now)) many
    ∙ told_of_page s c.args.process page e c.requires.sound x q output error c.args.count offset
    c.args.address c.bytes-page.result.now c.lend.result.now (omega arith) c.requires.within
    c.lend.ensures c.bytes-page.ensures.value
