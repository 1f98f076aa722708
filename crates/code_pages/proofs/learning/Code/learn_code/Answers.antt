use Rattle.std.proofs.Common.{◌≡◌, ◌<◌, ◌-◌, ◌+◌, ◌/◌, ◌∙◌, ℕ, suc, List, ap, sym, subst, rules}
use Rattle.std.proofs.Common.{arith, Bool, true, false, Some, length, length-set, set, ◌++◌, ◌∷◌}
use Rattle.std.proofs.Common.{[]}
use Rattle.std.specs.Prelude.{slice_get}
use Rattle.code_pages.specs.declared.line.Line.{Line}
use Rattle.code_pages.specs.Kinds.{ends}
use Rattle.code_pages.specs.Lines.{CodePage, IsKnownPage, AreStartsFrom}
use Rattle.code_pages.proofs.Lists.{got-set-same, got-set-other, Some-same}
use Rattle.code_pages.proofs.LineLaws.{known-filled, page-is, with_start, even-size, pushed-below}
use Rattle.code_pages.proofs.LineLaws.{pushed-here, pushed-more, starts-filled, fresh-set}
use Rattle.code_pages.proofs.LineLaws.{fresh-pushed, some-size}
use Rattle.code_pages.proofs.learning.Code.learn_code.Goals as goal

pub returns-then-ends-clause-known : goal.returns-then-ends-clause-known
returns-then-ends-clause-known c =
    let lines = c.args.lines.now.items in
    let k = c.len-last.result - 1 in
    let line = c.of-line.result in
    let marked = c.requires.marked in
    let last : marked.last ≡ k = search rules in
    let within : k < length lines = search rules in
    let over : ends line.kind ≡ true = sym c.ends.ensures ∙ c.if-ends.true in
    subst (λ (n : ℕ). IsKnownPage (set lines k line) (with_start (record {
      bytes = c.self.inside.bytes.value;
      starts = c.deref_mut.result.now;
    }) c.args.half n)) last
    (subst (λ (p : CodePage). IsKnownPage (set lines k line) (with_start p c.args.half marked.last))
    (page-is c.args.self.now c.self.inside.bytes.value c.deref_mut.result.now
    (ap (λ (p : CodePage). p.bytes) c.self.view_is)
    (c.deref_mut.ensures.value ∙ ap (λ (p : CodePage). p.starts) c.self.view_is))
    (known-filled lines (set lines k line) c.args.self.now c.args.block c.args.half c.args.code line
    c.requires.known marked (search rules) c.requires.half c.requires.block c.requires.unknown
    c.requires.code c.of-line.ensures.form c.of-line.ensures.size c.of-line.ensures.offset
    c.of-line.ensures.run
    (λ at h. got-set-other lines k at line (omega (arith, h, last)))
    (subst (λ n. slice_get (set lines k line) n ≡ Some line) (sym last)
    (got-set-same lines k line within))
    (λ g. absurd (true-not over g))))
  where
    true-not : {b : Bool} → b ≡ true → b ≡ false → ⊥
    true-not e f = cc

pub returns-then-ends-clause-below : goal.returns-then-ends-clause-below
returns-then-ends-clause-below c = λ at h.
    got-set-other c.args.lines.now.items (c.len-last.result - 1) at c.of-line.result (search rules)

pub returns-then-ends-clause-goes : goal.returns-then-ends-clause-goes
returns-then-ends-clause-goes c = λ at line g end.
    let lines = c.args.lines.now.items in
    let k = c.len-last.result - 1 in
    let within : k < length lines = search rules in
    let here : at ≡ k = search (rules, length-set lines k c.of-line.result) in
    let same : c.of-line.result ≡ line =
    Some-same (sym (got-set-same lines k c.of-line.result within)
    ∙ ap (slice_get (set lines k c.of-line.result)) (sym here) ∙ g) in
    ap (λ (l : Line). ends l.kind) (sym same) ∙ sym c.ends.ensures ∙ c.if-ends.true

pub returns-clause-known : goal.returns-clause-known
returns-clause-known c =
    let lines = c.args.lines.now.items in
    let new = c.push_reserved.new.self.items in
    let k = c.len-last.result - 1 in
    let line = c.of-line.result in
    let marked = c.requires.marked in
    let last : marked.last ≡ k = search rules in
    let within : k < length lines = search rules in
    let count : suc k ≡ length lines = search rules in
    let is : new ≡ set lines k line ++ c.end.result ∷ [] = search rules in
    let even : line.size / 2 + line.size / 2 ≡ line.size =
    subst (λ n. n / 2 + n / 2 ≡ n) (sym c.of-line.ensures.size) (even-size c.args.code) in
    let offset : c.end.result.offset ≡ line.offset + line.size =
    omega (arith, even, c.end.ensures.offset, c.of-line.ensures.offset) in
    subst (λ (n : ℕ). IsKnownPage new (with_start (record {
      bytes = c.self.inside.bytes.value;
      starts = c.deref_mut.result.now;
    }) c.args.half n)) last
    (subst (λ (p : CodePage). IsKnownPage new (with_start p c.args.half marked.last))
    (page-is c.args.self.now c.self.inside.bytes.value c.deref_mut.result.now
    (ap (λ (p : CodePage). p.bytes) c.self.view_is)
    (c.deref_mut.ensures.value ∙ ap (λ (p : CodePage). p.starts) c.self.view_is))
    (known-filled lines new c.args.self.now c.args.block c.args.half c.args.code line
    c.requires.known marked (search rules) c.requires.half c.requires.block c.requires.unknown
    c.requires.code c.of-line.ensures.form c.of-line.ensures.size c.of-line.ensures.offset
    c.of-line.ensures.run
    (λ at h. pushed-below lines new k line c.end.result is within at (omega (arith, h, last)))
    (subst (λ n. slice_get new n ≡ Some line) (sym last)
    (pushed-here lines new k line c.end.result is within))
    (λ g. record {
      line = c.end.result;
      is = ap (λ n. slice_get new (suc n)) last
          ∙ pushed-more lines new k line c.end.result is count;
      kind = c.end.ensures.kind;
      offset = offset;
    })))

pub returns-clause-below : goal.returns-clause-below
returns-clause-below c = λ at h.
    pushed-below c.args.lines.now.items c.push_reserved.new.self.items (c.len-last.result - 1)
    c.of-line.result c.end.result (search rules) (search rules) at (search rules)

pub returns-clause-goes : goal.returns-clause-goes
returns-clause-goes c =
    let lines = c.args.lines.now.items in
    let k = c.len-last.result - 1 in
    let count : suc k ≡ length lines = search rules in
    record {
      last = suc k;
      count = search rules;
      line = c.end.result;
      is = pushed-more lines c.push_reserved.new.self.items k c.of-line.result c.end.result
          (search rules) count;
      kind = c.end.ensures.kind;
      run = c.end.ensures.run;
      offset = c.end.ensures.offset;
      before = λ at line e got going.
          let here : at ≡ k = omega (arith, e) in
          let same : c.of-line.result ≡ line = Some-same (sym (pushed-here lines
          c.push_reserved.new.self.items k c.of-line.result c.end.result (search rules)
          (omega (arith, count))) ∙ ap (slice_get c.push_reserved.new.self.items) (sym here)
          ∙ got) in
          let offset : line.offset ≡ c.args.half + c.args.half =
          ap (λ (l : Line). l.offset) (sym same) ∙ c.of-line.ensures.offset in
          omega (arith, offset, c.requires.block);
    }

pub returns-then-ends-clause-starts : goal.returns-then-ends-clause-starts
returns-then-ends-clause-starts c =
    let k = c.len-last.result - 1 in
    let starts = c.deref_mut.ensures.value ∙ ap (λ (p : CodePage). p.starts) c.self.view_is in
    let size : length c.deref_mut.result.now ≡ 2048 = ap length starts ∙ c.requires.known.starts in
    subst (λ (xs : List ℕ). AreStartsFrom (c.args.lines.now.len - 1) xs
    (set c.deref_mut.result.now c.args.half k)) starts
    (starts-filled (c.args.lines.now.len - 1) c.args.half k c.deref_mut.result.now (search rules)
    (omega (arith, size, c.requires.half)))

pub returns-clause-starts : goal.returns-clause-starts
returns-clause-starts c =
    let k = c.len-last.result - 1 in
    let starts = c.deref_mut.ensures.value ∙ ap (λ (p : CodePage). p.starts) c.self.view_is in
    let size : length c.deref_mut.result.now ≡ 2048 = ap length starts ∙ c.requires.known.starts in
    subst (λ (xs : List ℕ). AreStartsFrom (c.args.lines.now.len - 1) xs
    (set c.deref_mut.result.now c.args.half k)) starts
    (starts-filled (c.args.lines.now.len - 1) c.args.half k c.deref_mut.result.now (search rules)
    (omega (arith, size, c.requires.half)))

pub returns-then-ends-clause-fresh : goal.returns-then-ends-clause-fresh
returns-then-ends-clause-fresh c =
    let size : 0 < c.of-line.result.size =
    subst (λ (n : ℕ). 0 < n) (sym c.of-line.ensures.size) (some-size c.args.code) in
    fresh-set c.args.lines.now.items (c.len-last.result - 1) c.of-line.result (search rules) size

pub returns-clause-fresh : goal.returns-clause-fresh
returns-clause-fresh c =
    let size : 0 < c.of-line.result.size =
    subst (λ (n : ℕ). 0 < n) (sym c.of-line.ensures.size) (some-size c.args.code) in
    let goes : ends c.of-line.result.kind ≡ false = sym c.ends.ensures ∙ c.if-ends.false in
    fresh-pushed c.args.lines.now.items c.push_reserved.new.self.items (c.len-last.result - 1)
    c.of-line.result c.end.result (search rules) (search rules) size c.end.ensures.size goes
