use Rattle.std.proofs.Common.{rules, vec_len, ◌≡◌, ◌∙◌, List, length, refl, ap, get_or, set, ◌-◌}
use Rattle.std.proofs.Common.{arith}
use Rattle.proc_table.specs.declared.record.Links.{Links}
use Rattle.proc_table.specs.declared.record.Record.{Record}
use Rattle.proc_table.proofs.Walked.{child_next, child_within, first_next, orphaned_all}
use Rattle.proc_table.proofs.Walked.{orphaned_first, orphaned_length, orphaned_next}
use Rattle.proc_table.proofs.records.orphan_all.Goals as goal

-- what a read names where nothing stands
abbrev no_links : Links
no_links = record { first = 0; last = 0; previous = 0; next = 0 }

abbrev orphan : Record → Record
orphan r = record r { parent = 0 }

pub loop-child-init : goal.loop-child-init
loop-child-init c =
    let h = first_next c.requires no_links in
    record {
      items = orphaned_first c.args.parent c.args.records.now.items c.requires.few _ h;
      capacity = refl;
      low = h.low;
      is = h.is;
    }

pub index_mut-requires : goal.index_mut-requires
index_mut-requires c =
    let count : vec_len c.loop-child.records ≡ length c.loop-child.records.items = search rules in
    let at = child_within c.requires c.loop-child.child
    (c.loop-child.invariant.is c.loop-child-test.true) in
    omega (
      arith,
      at.0,
      at.1,
      ap (λ (rs : List Record). length rs) c.loop-child.invariant.items,
      orphaned_length c.args.parent c.args.records.now.items c.loop-child.child,
    )

pub bounds-links-place : goal.bounds-links-place
bounds-links-place c =
    let at = child_within c.requires c.loop-child.child
    (c.loop-child.invariant.is c.loop-child-test.true) in
    omega (arith, at.0, at.1, c.requires.count)

pub loop-child-smaller : goal.loop-child-smaller
loop-child-smaller c =
    let h = child_next c.requires c.loop-child.child
    (c.loop-child.invariant.is c.loop-child-test.true) no_links in
    omega (arith, h.above, h.low, c.loop-child-test.true)

pub loop-child-preserved : goal.loop-child-preserved
loop-child-preserved c =
    let t = c.loop-child.invariant.is c.loop-child-test.true in
    let h = child_next c.requires c.loop-child.child t no_links in
    record {
      items = ap (λ (rs : List Record). set rs (c.loop-child.child - 1)
          (orphan c.index_mut.result.now)) c.loop-child.invariant.items
          ∙ orphaned_next c.args.parent c.args.records.now.items c.requires.few
          c.loop-child.child _ t h c.index_mut.result.now
          (c.index_mut.ensures.value
          ∙ ap (λ (rs : List Record). get_or rs (c.loop-child.child - 1) c.index_mut.result.now)
          c.loop-child.invariant.items);
      capacity = c.loop-child.invariant.capacity;
      low = h.low;
      is = h.is;
    }

pub returns-clause-items : goal.returns-clause-items
returns-clause-items c = c.loop-child.invariant.items
    ∙ orphaned_all c.args.parent c.args.records.now.items c.requires.few c.loop-child.child
    c.loop-child-test.false
