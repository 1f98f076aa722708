use Rattle.std.proofs.Common.{◌≡◌, ◌<◌, ◌∙◌, ap, sym, rules, Some, length, arith}
use Rattle.std.specs.Prelude.{slice_get, slice_set, if◌then◌else◌}
use Rattle.std.proofs.lemmas.Option.{slice_get-get_or}
use Rattle.code_pages.specs.Lines.{Known, bytes_of_pages, with_block, page_bytes_at}
use Rattle.code_pages.proofs.KnownLaws.{known-checked, checked-bytes}
use Rattle.code_pages.proofs.known.CodePages.check_block.Goals as goal

pub invariant_of-self : goal.invariant_of-self
invariant_of-self c =
    let are = c.self.invariant.0 in
    let pages = c.self.inside.pages.items in
    let slot = c.index_mut.result.now in
    let is : slice_get pages c.args.place ≡ Some slot =
    slice_get-get_or pages c.args.place slot (search rules)
    ∙ ap Some (sym c.index_mut.ensures.value) in
    let there : c.args.place < length pages = search rules in
    let room = c.self.invariant.1 (omega (arith, there)) in (
      known-checked (record { lines = c.self.inside.lines.items; pages = pages }) c.args.place slot
          c.check_in.new.slot c.check_in.new.lines.items are is c.check_in.ensures.starts
          c.check_in.ensures.lines c.check_in.ensures.known,
      λ h. search rules,
    )

pub returns-clause-pages : goal.returns-clause-pages
returns-clause-pages c =
    let pages = c.self.inside.pages.items in
    let slot = c.index_mut.result.now in
    let is : slice_get pages c.args.place ≡ Some slot =
    slice_get-get_or pages c.args.place slot (search rules)
    ∙ ap Some (sym c.index_mut.ensures.value) in
    checked-bytes pages c.args.place slot c.check_in.new.slot c.args.block c.args.bytes.now
    c.check_in.result is c.check_in.ensures.bytes (λ no. let p = c.check_in.ensures.same no in p.0)
    ∙ ap (λ (k : Known). if c.check_in.result then slice_set (bytes_of_pages k) c.args.place
    (Some (with_block (page_bytes_at k c.args.place) c.args.block c.args.bytes.now))
    else bytes_of_pages k) c.self.view_is
