use Rattle.std.proofs.Common.{◌≡◌, ◌+◌, suc, Bool, true, List, length, set, sym, ap, ◌∙◌, arith}
use Rattle.page_store.proofs.Frees.{front_free, front-all, front-length, front-none}
use Rattle.page_store.proofs.Frees.{front-same, front-set}
use Rattle.page_store.proofs.tally.free_frames.Goals as goal
use Rattle.page_store.proofs.tally.free_frames.Goals.{then-is_free, else-is_free}

pub set-requires : goal.set-requires
set-requires c = omega (
  arith,
  ap (λ (bs : List Bool). length bs) c.loop-frame.invariant.are,
  front-length c.loop-frame.frame c.args.owners.now,
  c.loop-frame-test.true,
)

pub loop-frame-init : goal.loop-frame-init
loop-frame-init c = record { are = c.in_ok-frames.ensures ∙ sym (front-none c.args.owners.now) }

pub loop-frame-preserved : goal.loop-frame-preserved
loop-frame-preserved c = elim c.if-is_free.branch [
  | then-is_free w ↦ record {
    are = w.frames-is ∙ w.set.ensures
        ∙ ap (λ (bs : List Bool). set bs c.loop-frame.frame true) c.loop-frame.invariant.are
        ∙ front-set c.loop-frame.frame c.args.owners.now c.loop-frame-test.true
        (sym c.is_free.ensures ∙ w.if-is_free.true) ∙ next c;
  }
  | else-is_free w ↦ record {
    are = w.frames-is ∙ c.loop-frame.invariant.are
        ∙ front-same c.loop-frame.frame c.args.owners.now c.loop-frame-test.true
        (sym c.is_free.ensures ∙ w.if-is_free.false) ∙ next c;
  }
]
  where
    next : (c : goal.Joined-is_free) → front_free (suc c.loop-frame.frame) c.args.owners.now
        ≡ front_free (c.loop-frame.frame + 1) c.args.owners.now
    next c = let one : suc c.loop-frame.frame ≡ c.loop-frame.frame + 1 = omega arith in
        ap (λ n. front_free n c.args.owners.now) one

pub returns : goal.returns
returns c = c.loop-frame.invariant.are
    ∙ front-all c.loop-frame.frame c.args.owners.now (omega (arith, c.loop-frame-test.false))
