use Rattle.std.proofs.Common.{◌≡◌, ◌<◌, ℕ, get_or, length, Some, sym, ap, ◌∙◌, arith}
use Rattle.std.proofs.lemmas.List.{get_or_read}
use Rattle.dos_world.specs.declared.Entry.{Entry}
use Rattle.dos_world.specs.World.{look}
use Rattle.space_map.specs.Mapping.{Mapping, IsAt, no_entry}
use Rattle.space_map.proofs.Places.{look-at}
use Rattle.space_map.proofs.space.Space.look_near.Goals as goal

pub returns-then-number-page-clause-entry : goal.returns-then-number-page-clause-entry
returns-then-number-page-clause-entry c =
    let entries = c.self.inside.entries.items in
    let within : c.args.hint.now < length entries = omega arith in
    let read : c.index.result.now ≡ get_or entries c.args.hint.now (0, no_entry) =
    get_or_read _ _ _ within c.index.ensures _ in
    let at : IsAt entries c.args.page c.args.hint.now = record {
      within = within;
      is = ap (λ (e : ℕ × Entry). e.0) (sym read) ∙ c.if-number-page.true;
    } in
    ap (λ (e : ℕ × Entry). Some e.1) read
    ∙ sym (look-at entries c.args.page c.args.hint.now c.self.invariant.rising at)
    ∙ ap (λ (m : Mapping). look m.entries c.args.page) c.self.view_is
