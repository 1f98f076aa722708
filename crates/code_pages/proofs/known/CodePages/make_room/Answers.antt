use Rattle.std.proofs.Common.{◌≡◌, ◌∙◌, ap, rules, length, arith}
use Rattle.code_pages.specs.Lines.{Known, bytes_of_pages}
use Rattle.code_pages.proofs.KnownLaws.{known-forgotten, forgotten-bytes, unknown-forgotten}
use Rattle.code_pages.proofs.known.CodePages.make_room.Goals as goal

pub invariant_of-self : goal.invariant_of-self
invariant_of-self c =
    let pages = c.self.inside.pages.items in
    let lines = c.self.inside.lines.items in
    let count : length c.forget_all.new.pages.items ≡ length pages = search rules in (
      known-forgotten (record { lines = lines; pages = pages }) c.forget_all.new.pages.items
          c.forget_all.ensures.each c.truncate.new.self.items c.self.invariant.0
          c.truncate.ensures.items (search rules) count,
      λ h. let room = c.self.invariant.1 (omega (arith, h, count)) in search rules,
    )

pub returns-clause-bytes : goal.returns-clause-bytes
returns-clause-bytes c =
    forgotten-bytes (record {
      lines = c.self.inside.lines.items;
      pages = c.self.inside.pages.items;
    }) c.forget_all.new.pages.items c.forget_all.ensures.each
    ∙ ap bytes_of_pages c.self.view_is

pub returns-clause-places : goal.returns-clause-places
returns-clause-places c =
    let count : length c.forget_all.new.pages.items ≡ length c.self.inside.pages.items =
    search rules in
    count ∙ ap (λ (k : Known). length k.pages) c.self.view_is

pub returns-clause-unknown : goal.returns-clause-unknown
returns-clause-unknown c = λ place offset none.
    unknown-forgotten (record {
      lines = c.self.inside.lines.items;
      pages = c.self.inside.pages.items;
    }) c.forget_all.new.pages.items c.forget_all.ensures.each place offset
