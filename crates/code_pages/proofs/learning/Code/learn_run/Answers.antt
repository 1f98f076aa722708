use Rattle.std.proofs.Common.{◌≡◌, ◌-◌, ◌+◌, ◌/◌, ◌∙◌, sym, subst, rules, arith, length, refl, ◌++◌}
use Rattle.std.proofs.Common.{◌∷◌, []}
use Rattle.code_pages.specs.Lines.{AreRunsCountedFrom, AreFreshFrom}
use Rattle.code_pages.proofs.LineLaws.{known-kept, keeps-below, more-below, more-marked}
use Rattle.code_pages.proofs.LineLaws.{known-counted, runs-more, counted-more, last-same}
use Rattle.code_pages.proofs.LineLaws.{fresh-first, starts-all, live-learnt, starts-then}
use Rattle.code_pages.proofs.learning.Code.learn_run.Goals as goal

pub loop-next-init : goal.loop-next-init
loop-next-init c =
    let old = c.args.lines.now.items in
    let new = c.push_reserved.new.self.items in
    let is : new ≡ old ++ c.end.result ∷ [] = search rules in
    let count : length old ≡ c.args.lines.now.len = search rules in
    let offset : c.end.result.offset ≡ c.args.offset / 2 + c.args.offset / 2 =
    omega (arith, c.end.ensures.offset, c.requires.even) in
    record {
      half = search rules;
      known = known-kept old new c.args.self.now
          (keeps-below (length old) old new (omega arith) (more-below old new c.end.result is))
          c.requires.known;
      bytes = refl;
      starts = starts-all c.args.lines.now.len c.args.self.now.starts;
      marked = more-marked old new c.end.result (c.args.offset / 2 / 128) (c.args.offset / 2) is
          c.requires.runs c.requires.counted c.end.ensures.kind c.end.ensures.run offset;
      fresh = fresh-first old new c.end.result c.args.lines.now.len is (sym count)
          c.end.ensures.size;
      below = λ at h. more-below old new c.end.result is at (omega (arith, count, h));
      more = search rules;
      few = search rules;
      room = search rules;
      capacity = search rules;
    }

pub returns-clause-known : goal.returns-clause-known
returns-clause-known c =
    let before = c.learn_one.new.lines.items in
    let first : c.args.lines.now.len ≡ c.len-first.result = search rules in
    known-counted c.len-first.result before c.count_runs.new.lines.items c.learn_one.new.self
    (search rules) c.count_runs.ensures.codes c.count_runs.ensures.below
    (subst (λ n. AreFreshFrom n before) first
    (c.learn_one.ensures.fresh c.args.lines.now.len c.loop-next.invariant.fresh))
    c.count_runs.ensures.counted c.learn_one.ensures.known

pub returns-clause-runs : goal.returns-clause-runs
returns-clause-runs c =
    let old = c.args.lines.now.items in
    let new = c.count_runs.new.lines.items in
    let first : c.len-first.result ≡ length old = search rules in
    let count : length old ≡ c.args.lines.now.len = search rules in
    let more = c.loop-next.invariant.more in
    runs-more old new
    (λ at h. c.count_runs.ensures.below at (omega (arith, h, first))
    ∙ c.learn_one.ensures.below at (omega (arith, h, count, more))
    ∙ c.loop-next.invariant.below at (omega (arith, h, count)))
    (subst (λ n. AreRunsCountedFrom n new) first c.count_runs.ensures.counted) c.requires.runs
    (last-same c.learn_one.new.lines.items new (search rules) c.count_runs.ensures.codes
    c.in_default.ensures.goes)

pub returns-clause-counted : goal.returns-clause-counted
returns-clause-counted c =
    let old = c.args.lines.now.items in
    let new = c.count_runs.new.lines.items in
    let first : c.len-first.result ≡ length old = search rules in
    let count : length old ≡ c.args.lines.now.len = search rules in
    let more = c.loop-next.invariant.more in
    counted-more old new
    (λ at h. c.count_runs.ensures.below at (omega (arith, h, first))
    ∙ c.learn_one.ensures.below at (omega (arith, h, count, more))
    ∙ c.loop-next.invariant.below at (omega (arith, h, count)))
    (subst (λ n. AreRunsCountedFrom n new) first c.count_runs.ensures.counted) c.requires.counted

pub returns-clause-starts : goal.returns-clause-starts
returns-clause-starts c =
    starts-then c.args.lines.now.len (c.loop-next.lines.len - 1) c.args.self.now.starts
    c.loop-next.self.starts c.learn_one.new.self.starts
    (let more = c.loop-next.invariant.more in omega (arith, more)) c.loop-next.invariant.starts
    c.learn_one.ensures.starts

pub returns-clause-live : goal.returns-clause-live
returns-clause-live c =
    live-learnt c.args.lines.now.len c.learn_one.new.lines.items c.count_runs.new.lines.items
    c.learn_one.new.self c.args.self.now.starts (c.args.offset / 2) c.start_at.result
    c.count_runs.ensures.codes
    (c.learn_one.ensures.fresh c.args.lines.now.len c.loop-next.invariant.fresh)
    c.learn_one.ensures.known (returns-clause-starts c) c.requires.unknown
    (sym c.start_at.ensures)

pub loop-next-preserved : goal.loop-next-preserved
loop-next-preserved c =
    let before = c.loop-next.invariant in
    let n = c.in-Some.ensures.next in
    let more = before.more in
    let few = before.few in
    record {
      half = n.2;
      known = c.learn_one.ensures.known;
      bytes = c.learn_one.ensures.bytes ∙ before.bytes;
      starts = starts-then c.args.lines.now.len (c.loop-next.lines.len - 1) c.args.self.now.starts
          c.loop-next.self.starts c.learn_one.new.self.starts (omega (arith, more)) before.starts
          c.learn_one.ensures.starts;
      marked = c.in-Some.ensures.goes;
      fresh = c.learn_one.ensures.fresh c.args.lines.now.len before.fresh;
      below = λ at h. c.learn_one.ensures.below at (omega (arith, h, more)) ∙ before.below at h;
      more = omega (arith, n.0, more);
      few = omega (arith, n.0, n.1, few);
      room = omega (arith, n.0, n.3, few);
      capacity = c.learn_one.ensures.capacity ∙ before.capacity;
    }
