use Rattle.std.proofs.Common.{sym, subst}
use Rattle.page_store.specs.Store.{Store}
use Rattle.group_rounds.proofs.HandingLaws.{Putting, putting-begins, putting-more, put-away}
use Rattle.group_rounds.proofs.packs.put_pages.Goals as goal

pub loop-frame-init : goal.loop-frame-init
loop-frame-init c = putting-begins c.args.pack.now c.args.frames.now

pub put_back-requires : goal.put_back-requires
put_back-requires c = put-away c.args.pack.now c.loop-frame.pack c.take_page.new.self
    c.args.frames.now c.loop-frame.frames c.in-Some.frame c.in-Some.page c.loop-frame.invariant
    c.in-Some.ensures c.requires.away c.requires.apart

pub loop-frame-preserved : goal.loop-frame-preserved
loop-frame-preserved c =
    subst (λ (s : Store). Putting c.args.pack.now c.args.frames.now c.take_page.new.self s)
    (sym c.put_back.ensures)
    (putting-more c.args.pack.now c.loop-frame.pack c.take_page.new.self c.args.frames.now
    c.loop-frame.frames c.in-Some.frame c.in-Some.page c.loop-frame.invariant
    c.in-Some.ensures c.requires.away c.requires.apart)
