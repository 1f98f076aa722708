use Rattle.std.proofs.Common.{◌≡◌, ◌*◌, ◌+◌, ◌∙◌, ℕ, subst, rules, arith, refl}
use Rattle.code_pages.specs.Lines.{IsWrittenIn}
use Rattle.code_pages.proofs.Bytes.{written-none, written-then}
use Rattle.code_pages.proofs.LineLaws.{kept-all, kept-then}
use Rattle.code_pages.proofs.learning.Code.change_eight.Goals as goal

pub loop-half-init : goal.loop-half-init
loop-half-init c = record {
  known = c.requires.known;
  lines = kept-all c.args.lines.now.items;
  bytes =
      let e : 8 * c.args.eight ≡ 2 * (4 * c.args.eight) = omega arith in
      subst (λ (n : ℕ). IsWrittenIn (8 * c.args.eight) n c.args.self.now.bytes
      c.args.self.now.bytes c.args.bytes.now) e
      (written-none (8 * c.args.eight) c.args.self.now.bytes c.args.bytes.now);
  starts = refl;
  last = c.requires.last;
  capacity = refl;
}

pub loop-half-preserved : goal.loop-half-preserved
loop-half-preserved c = record {
  known = c.change_half.ensures.known;
  lines = kept-then c.args.lines.now.items c.loop-half.lines.items c.change_half.new.lines.items
      c.loop-half.invariant.lines c.change_half.ensures.lines;
  bytes =
      let e : 2 * c.loop-half.half + 2 ≡ 2 * (c.loop-half.half + 1) = omega arith in
      subst (λ (n : ℕ). IsWrittenIn (8 * c.args.eight) n c.args.self.now.bytes
      c.change_half.new.self.bytes c.args.bytes.now) e
      (written-then (8 * c.args.eight) (2 * c.loop-half.half) (2 * c.loop-half.half + 2)
      c.args.self.now.bytes c.loop-half.self.bytes c.change_half.new.self.bytes c.args.bytes.now
      (search rules) (omega arith) c.loop-half.invariant.bytes c.change_half.ensures.bytes);
  starts = c.change_half.ensures.starts ∙ c.loop-half.invariant.starts;
  last = c.change_half.ensures.last;
  capacity = search rules;
}

pub returns-clause-bytes : goal.returns-clause-bytes
returns-clause-bytes c =
    let low = c.loop-half-test.false in
    let high = c.loop-half.auto.half-end (omega arith) in
    let e : 2 * c.loop-half.half ≡ 8 * c.args.eight + 8 = omega (arith, low, high) in
    subst (λ (n : ℕ). IsWrittenIn (8 * c.args.eight) n c.args.self.now.bytes
    c.loop-half.self.bytes c.args.bytes.now) e c.loop-half.invariant.bytes
