use Rattle.std.proofs.Common.{◌∙◌, sym, arith}
use Rattle.proc_table.specs.declared.record.Links.{Links}
use Rattle.proc_table.specs.declared.record.Record.{Record}
use Rattle.proc_table.specs.declared.record.Kept.TheVariants.{Live}
use Rattle.proc_table.proofs.Walked.{child_next, child_within, reached_first, reached_it}
use Rattle.proc_table.proofs.Walked.{reached_next, reached_none}
use Rattle.proc_table.proofs.records.first_linked.Goals as goal

-- what a read names where nothing stands
abbrev no_links : Links
no_links = record { first = 0; last = 0; previous = 0; next = 0 }

abbrev no_record : Record
no_record = record { parent = 0; kept = Live 0 }

pub loop-child-init : goal.loop-child-init
loop-child-init c = reached_first c.requires c.args.ended no_links

pub bounds-records-place : goal.bounds-records-place
bounds-records-place c =
    let at = child_within c.requires c.loop-child.child
    (c.loop-child.invariant.is c.loop-child-test.true) in
    omega (arith, at.0, at.1)

pub returns-then-has_come : goal.returns-then-has_come
returns-then-has_come c = reached_it c.requires c.args.ended c.loop-child.child
    c.loop-child-test.true c.loop-child.invariant no_record
    (sym c.has_come.ensures ∙ c.if-has_come.true)

pub bounds-links-place : goal.bounds-links-place
bounds-links-place c =
    let at = child_within c.requires c.loop-child.child
    (c.loop-child.invariant.is c.loop-child-test.true) in
    omega (arith, at.0, at.1, c.requires.count)

pub loop-child-smaller : goal.loop-child-smaller
loop-child-smaller c =
    let h = child_next c.requires c.loop-child.child
    (c.loop-child.invariant.is c.loop-child-test.true) no_links in
    omega (arith, h.above, h.low, c.loop-child-test.true)

pub loop-child-preserved : goal.loop-child-preserved
loop-child-preserved c = reached_next c.requires c.args.ended c.loop-child.child
    c.loop-child-test.true c.loop-child.invariant no_record
    (sym c.has_come.ensures ∙ c.if-has_come.false) no_links

pub returns : goal.returns
returns c = reached_none c.requires c.args.ended c.loop-child.child c.loop-child-test.false
    c.loop-child.invariant
