use Rattle.std.proofs.Common.{rules, vec_len, ◌≡◌, ◌<◌, ◌≤◌, ◌∙◌, ℕ, get_or, length, sym, ap, subst}
use Rattle.std.proofs.Common.{arith}
use Rattle.std.specs.List.{list_any}
use Rattle.std.proofs.lemmas.List.{get_or_read}
use Rattle.dos_world.specs.declared.Entry.{Entry}
use Rattle.space_map.specs.Mapping.{Mapping, IsFirstFrom, in_run, no_entry}
use Rattle.space_map.proofs.Runs.{any-first, any-none_from}
use Rattle.space_map.proofs.space.Space.has_any.Goals as goal

pub returns-then-first-len : goal.returns-then-first-len
returns-then-first-len c =
    let from = subst (λ (m : Mapping). IsFirstFrom m.entries c.args.page c.first_from-first.result)
    (sym c.self.view_is) c.first_from-first.ensures in
    let count : vec_len c.self.inside.entries ≡ length c.self.inside.entries.items = search rules in
    let within : c.first_from-first.result < length c.self.inside.entries.items =
    omega (arith, c.if-first-len.true, c.len.ensures, count) in
    let read : c.index.result.now
    ≡ get_or c.self.inside.entries.items c.first_from-first.result (0, no_entry) =
    get_or_read _ _ _ within c.index.ensures _ in
    c.is_in_run.ensures ∙ ap (λ (e : ℕ × Entry). in_run c.args.page c.args.count e) read
    ∙ any-first c.self.inside.entries.items c.args.page c.args.count c.first_from-first.result
    c.self.invariant.rising from within
    ∙ ap (λ (m : Mapping). list_any (in_run c.args.page c.args.count) m.entries) c.self.view_is

pub returns : goal.returns
returns c =
    let from = subst (λ (m : Mapping). IsFirstFrom m.entries c.args.page c.first_from-first.result)
    (sym c.self.view_is) c.first_from-first.ensures in
    let count : vec_len c.self.inside.entries ≡ length c.self.inside.entries.items = search rules in
    let past : length c.self.inside.entries.items ≤ c.first_from-first.result =
    omega (arith, c.if-first-len.false, c.len.ensures, count) in
    any-none_from c.self.inside.entries.items c.args.page c.args.count c.first_from-first.result
    from past
    ∙ ap (λ (m : Mapping). list_any (in_run c.args.page c.args.count) m.entries) c.self.view_is
