use Rattle.std.proofs.Common.{◌≡◌, ◌<◌, ◌∙◌, ap, sym, rules, Some, length, set, arith, Option}
use Rattle.std.specs.Prelude.{slice_get}
use Rattle.std.proofs.lemmas.Option.{slice_get-get_or}
use Rattle.code_pages.specs.Lines.{CodePage, Known, bytes_of_page, bytes_of_pages, start_in}
use Rattle.code_pages.specs.Lines.{slot_at}
use Rattle.code_pages.proofs.Lists.{map-set-same, got-set-same}
use Rattle.code_pages.proofs.KnownLaws.{known-relearnt, slot-known, slot-got, start-there}
use Rattle.code_pages.proofs.KnownLaws.{start-place}
use Rattle.code_pages.proofs.known.CodePages.renew.Goals as goal

pub relearn_in-requires-clause-known : goal.relearn_in-requires-clause-known
relearn_in-requires-clause-known c =
    let pages = c.self.inside.pages.items in
    let there : c.args.place < length pages =
    start-place pages c.args.place c.args.offset c.args.at
    (ap (λ (k : Known). start_in (slot_at k c.args.place) c.args.offset) c.self.view_is
    ∙ c.requires.begins) c.requires.later in
    let slot = c.index_mut.result.now in
    let is : slice_get pages c.args.place ≡ Some slot =
    slice_get-get_or pages c.args.place slot there
    ∙ ap Some (sym c.index_mut.ensures.value) in
    slot-known (record { lines = c.self.inside.lines.items; pages = pages }) c.args.place slot
    c.self.invariant.0 is

pub invariant_of-self : goal.invariant_of-self
invariant_of-self c =
    let pages = c.self.inside.pages.items in
    let there : c.args.place < length pages =
    start-place pages c.args.place c.args.offset c.args.at
    (ap (λ (k : Known). start_in (slot_at k c.args.place) c.args.offset) c.self.view_is
    ∙ c.requires.begins) c.requires.later in
    let slot = c.index_mut.result.now in
    let is : slice_get pages c.args.place ≡ Some slot =
    slice_get-get_or pages c.args.place slot there
    ∙ ap Some (sym c.index_mut.ensures.value) in
    let room = c.self.invariant.1 (omega (arith, there)) in (
      known-relearnt (record { lines = c.self.inside.lines.items; pages = pages }) c.args.place
          c.args.offset c.args.at slot c.relearn_in.new.slot c.relearn_in.new.lines.items
          c.self.invariant.0 is
          (ap (λ (o : Option CodePage). start_in o c.args.offset)
          (sym (slot-got pages c.args.place slot is))
          ∙ ap (λ (k : Known). start_in (slot_at k c.args.place) c.args.offset) c.self.view_is
          ∙ c.requires.begins)
          c.requires.later c.relearn_in.ensures.starts c.relearn_in.ensures.counts
          c.relearn_in.ensures.others c.relearn_in.ensures.runs c.relearn_in.ensures.known,
      λ h. search rules,
    )

pub returns-clause-pages : goal.returns-clause-pages
returns-clause-pages c =
    let pages = c.self.inside.pages.items in
    let there : c.args.place < length pages =
    start-place pages c.args.place c.args.offset c.args.at
    (ap (λ (k : Known). start_in (slot_at k c.args.place) c.args.offset) c.self.view_is
    ∙ c.requires.begins) c.requires.later in
    let slot = c.index_mut.result.now in
    let is : slice_get pages c.args.place ≡ Some slot =
    slice_get-get_or pages c.args.place slot there
    ∙ ap Some (sym c.index_mut.ensures.value) in
    map-set-same bytes_of_page pages c.args.place slot c.relearn_in.new.slot is
    c.relearn_in.ensures.bytes ∙ ap bytes_of_pages c.self.view_is

pub returns-clause-line : goal.returns-clause-line
returns-clause-line c = λ yes.
    let pages = c.self.inside.pages.items in
    let there : c.args.place < length pages =
    start-place pages c.args.place c.args.offset c.args.at
    (ap (λ (k : Known). start_in (slot_at k c.args.place) c.args.offset) c.self.view_is
    ∙ c.requires.begins) c.requires.later in
    start-there (record {
      lines = c.relearn_in.new.lines.items;
      pages = set pages c.args.place c.relearn_in.new.slot;
    }) c.args.place c.args.offset c.args.at c.relearn_in.new.slot
    (got-set-same pages c.args.place c.relearn_in.new.slot there) (c.relearn_in.ensures.start yes)
    c.requires.later
