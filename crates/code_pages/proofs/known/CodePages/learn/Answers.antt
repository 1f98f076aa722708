use Rattle.std.proofs.Common.{◌≡◌, ◌<◌, ◌∙◌, ap, sym, subst, rules, Some, length, set, arith, ℕ}
use Rattle.std.specs.Prelude.{slice_get}
use Rattle.std.proofs.lemmas.Option.{slice_get-get_or}
use Rattle.code_pages.specs.Lines.{bytes_of_page, bytes_of_pages, AreStartsFrom, AreSameBelow}
use Rattle.code_pages.specs.Lines.{starts_of_slot}
use Rattle.code_pages.proofs.Lists.{map-set-same, got-set-same}
use Rattle.code_pages.proofs.KnownLaws.{known-learnt, slot-start, some-lines}
use Rattle.code_pages.proofs.known.CodePages.learn.Goals as goal

pub invariant_of-self : goal.invariant_of-self
invariant_of-self c =
    let are = c.self-2.invariant.0 in
    let pages = c.self-2.inside.pages.items in
    let lines = c.self-2.inside.lines.items in
    let slot = c.index_mut.result.now in
    let there : c.args.place < length pages = search rules in
    let is : slice_get pages c.args.place ≡ Some slot =
    slice_get-get_or pages c.args.place slot there ∙ ap Some (sym c.index_mut.ensures.value) in
    let count : c.self-2.inside.lines.len ≡ length lines = search rules in
    let more = c.learn_in.ensures.more in
    let some : 0 < length lines =
    some-lines (record { lines = lines; pages = pages }) c.args.place are there in
    let room = c.self-2.invariant.1 (omega (arith, there)) in (
      known-learnt (record { lines = lines; pages = pages }) c.args.place slot c.learn_in.new.slot
          c.learn_in.new.lines.items are is
          (subst (λ (n : ℕ). AreStartsFrom n (starts_of_slot slot)
          (starts_of_slot c.learn_in.new.slot)) count c.learn_in.ensures.starts)
          (subst (λ (n : ℕ). AreSameBelow n lines c.learn_in.new.lines.items) count
          c.learn_in.ensures.below) c.learn_in.ensures.runs c.learn_in.ensures.counted some
          (search rules) (search rules) c.learn_in.ensures.known,
      λ h. search rules,
    )

pub returns-clause-pages : goal.returns-clause-pages
returns-clause-pages c =
    let pages = c.self-2.inside.pages.items in
    let slot = c.index_mut.result.now in
    let is : slice_get pages c.args.place ≡ Some slot =
    slice_get-get_or pages c.args.place slot (search rules)
    ∙ ap Some (sym c.index_mut.ensures.value) in
    map-set-same bytes_of_page pages c.args.place slot c.learn_in.new.slot is
    c.learn_in.ensures.bytes
    ∙ ap bytes_of_pages c.self-2.view_is ∙ c.make_room.ensures.bytes

pub returns-clause-line : goal.returns-clause-line
returns-clause-line c =
    let pages = c.self-2.inside.pages.items in
    let there : c.args.place < length pages = search rules in
    slot-start (record {
      lines = c.learn_in.new.lines.items;
      pages = set pages c.args.place c.learn_in.new.slot;
    }) c.args.place c.args.offset c.learn_in.result c.learn_in.new.slot
    (got-set-same pages c.args.place c.learn_in.new.slot there) c.learn_in.ensures.start
