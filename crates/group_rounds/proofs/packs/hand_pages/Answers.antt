use Rattle.std.proofs.Common.{◌+◌, ◌≡◌, ◌∙◌, refl, ap, length, arith}
use Rattle.std.specs.Prelude.{slice_index_or}
use Rattle.dos_world.specs.declared.Owner.TheVariants.{Free}
use Rattle.group_rounds.proofs.HandingOut.{none-yet, none-free, page-home, handing-begins}
use Rattle.group_rounds.proofs.HandingOut.{handing-more, handing-rest}
use Rattle.group_rounds.proofs.packs.hand_pages.Goals as goal

pub loop-frame-init : goal.loop-frame-init
loop-frame-init c = record {
  hands =
      handing-rest c.args.starters.now c.args.packs.now.items c.args.frames.now c.args.frames.now
      c.args.packs.now.items 0 c.next_owned-frame.result (omega arith)
      c.next_owned-frame.ensures.none
      (handing-begins c.args.starters.now c.args.packs.now.items c.args.frames.now c.requires.apart
      c.requires.home c.requires.begun c.requires.level);
  within = c.next_owned-frame.ensures.below;
  room = refl;
}

pub hand_page-requires-clause-home : goal.hand_page-requires-clause-home
hand_page-requires-clause-home c =
    page-home c.args.starters.now c.args.packs.now.items c.args.frames.now c.requires.apart
    c.requires.home c.requires.begun c.loop-frame.frames c.loop-frame.packs.items
    c.loop-frame.frame c.loop-frame.invariant.hands (let a = c.loop-frame-test.true in
    let b = c.high-high.ensures.within in omega (arith, a, b))

pub hand_page-requires-clause-room : goal.hand_page-requires-clause-room
hand_page-requires-clause-room c = λ i p at.
    none-yet c.args.starters.now c.args.packs.now.items c.args.frames.now c.requires.apart
    c.requires.home c.requires.begun c.loop-frame.frames c.loop-frame.packs.items
    c.loop-frame.frame i p c.loop-frame.invariant.hands (let a = c.loop-frame-test.true in
    let b = c.high-high.ensures.within in omega (arith, a, b)) at

pub loop-frame-preserved : goal.loop-frame-preserved
loop-frame-preserved c =
    let one = handing-more c.args.starters.now c.args.packs.now.items c.args.frames.now
    c.requires.apart c.requires.home c.requires.begun c.loop-frame.frames
    c.loop-frame.packs.items c.loop-frame.frame c.hand_page.new.frames
    c.hand_page.new.packs.items
    (let a = c.loop-frame-test.true in let b = c.high-high.ensures.within in
    omega (arith, a, b)) c.loop-frame.invariant.hands c.hand_page.ensures.goes in
    record {
      hands =
          handing-rest c.args.starters.now c.args.packs.now.items c.args.frames.now
          c.hand_page.new.frames c.hand_page.new.packs.items (c.loop-frame.frame + 1)
          c.next_owned-frame-in-loop-frame.result c.next_owned-frame-in-loop-frame.ensures.above
          (λ f t above low mine. c.next_owned-frame-in-loop-frame.ensures.none f t above low
          (ap (λ os. slice_index_or os f Free) one.owners ∙ mine)) one;
      within = c.next_owned-frame-in-loop-frame.ensures.below;
      room = c.hand_page.ensures.room ∙ c.loop-frame.invariant.room;
    }

pub returns-clause-hands : goal.returns-clause-hands
returns-clause-hands c =
    let test = c.loop-frame-test.false in
    let end = c.loop-frame.invariant.within in
    let same : c.loop-frame.frame ≡ c.high-high.result = omega (arith, test, end) in
    handing-rest c.args.starters.now c.args.packs.now.items c.args.frames.now c.loop-frame.frames
    c.loop-frame.packs.items c.loop-frame.frame (length c.args.frames.now.pages)
    (let within = c.high-high.ensures.within in omega (arith, same, within))
    (none-free c.args.frames.now c.loop-frame.frame
    (λ f above. c.high-high.ensures.free f (omega (arith, above, same)))
    (length c.args.frames.now.pages))
    c.loop-frame.invariant.hands

pub hand_page-requires-clause-within : goal.hand_page-requires-clause-within
hand_page-requires-clause-within c =
    let test = c.loop-frame-test.true in
    let within = c.high-high.ensures.within in
    let pages = c.count-count.ensures.pages in
    let owners = c.count-count.ensures.owners in
    let same = ap length c.loop-frame.invariant.hands.owners in
    omega (arith, test, within, pages, owners, same)
