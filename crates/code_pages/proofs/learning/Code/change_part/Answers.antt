use Rattle.std.proofs.Common.{◌≡◌, ◌*◌, ◌+◌, ◌∙◌, ℕ, subst, rules, arith, refl}
use Rattle.code_pages.specs.Lines.{IsWrittenIn}
use Rattle.code_pages.proofs.Bytes.{written-none, written-then}
use Rattle.code_pages.proofs.LineLaws.{kept-all, kept-then}
use Rattle.code_pages.proofs.learning.Code.change_part.Goals as goal

pub loop-eight-init : goal.loop-eight-init
loop-eight-init c = record {
  known = c.requires.known;
  lines = kept-all c.args.lines.now.items;
  bytes =
      let e : 64 * c.args.part ≡ 8 * (8 * c.args.part) = omega arith in
      subst (λ (n : ℕ). IsWrittenIn (64 * c.args.part) n c.args.self.now.bytes
      c.args.self.now.bytes c.args.bytes.now) e
      (written-none (64 * c.args.part) c.args.self.now.bytes c.args.bytes.now);
  starts = refl;
  last = c.requires.last;
  capacity = refl;
}

pub loop-eight-preserved : goal.loop-eight-preserved
loop-eight-preserved c = record {
  known = c.match_eight.ensures.known;
  lines = kept-then c.args.lines.now.items c.loop-eight.lines.items c.match_eight.new.lines.items
      c.loop-eight.invariant.lines c.match_eight.ensures.lines;
  bytes =
      let e : 8 * c.loop-eight.eight + 8 ≡ 8 * (c.loop-eight.eight + 1) = omega arith in
      subst (λ (n : ℕ). IsWrittenIn (64 * c.args.part) n c.args.self.now.bytes
      c.match_eight.new.self.bytes c.args.bytes.now) e
      (written-then (64 * c.args.part) (8 * c.loop-eight.eight) (8 * c.loop-eight.eight + 8)
      c.args.self.now.bytes c.loop-eight.self.bytes c.match_eight.new.self.bytes c.args.bytes.now
      (search rules) (omega arith) c.loop-eight.invariant.bytes c.match_eight.ensures.bytes);
  starts = c.match_eight.ensures.starts ∙ c.loop-eight.invariant.starts;
  last = c.match_eight.ensures.last;
  capacity = search rules;
}

pub returns-clause-bytes : goal.returns-clause-bytes
returns-clause-bytes c =
    let low = c.loop-eight-test.false in
    let high = c.loop-eight.auto.eight-end (omega arith) in
    let e : 8 * c.loop-eight.eight ≡ 64 * c.args.part + 64 = omega (arith, low, high) in
    subst (λ (n : ℕ). IsWrittenIn (64 * c.args.part) n c.args.self.now.bytes
    c.loop-eight.self.bytes c.args.bytes.now) e c.loop-eight.invariant.bytes
