use Rattle.std.proofs.Common.{◌≡◌, ◌&&◌, ◌∙◌, ◌+◌, sym, ap, drop, not, ℕ, Bool, true, false, refl}
use Rattle.std.proofs.Common.{◌<◌, subst}
use Rattle.std.specs.Prelude.{◌==◌, slice_set, slice_index_or}
use Rattle.std.proofs.lemmas.List.{at_drop_more, length-set, get_or_default}
use Rattle.dos_world.specs.declared.Entry.{Entry}
use Rattle.lawful_groups.specs.Apart.{marked_space, are_apart}
use Rattle.lawful_groups.proofs.apart.mark_space.Goals as goal

and_assoc : (a b c : Bool) → ((a && b) && c) ≡ (a && (b && c))
and_assoc true b c = refl
and_assoc false b c = refl

abbrev no_page : ℕ × Entry
no_page = (0, record { frame = 0; write = false; exec = false; shared = false })

pub loop-i-preserved : goal.loop-i-preserved
loop-i-preserved c =
    let e : ℕ × Entry = slice_index_or c.args.pages.now c.loop-i.i no_page in
    let set = slice_set c.loop-i.last.items e.1.frame c.args.pid in
    let rest : Bool = are_apart set c.args.pid (drop (c.loop-i.i + 1) c.args.pages.now) in (
      sym (at_drop_more (λ xs. marked_space c.loop-i.last.items c.args.pid xs) c.args.pages.now
          c.loop-i.i no_page c.loop-i-test.true) ∙ c.loop-i.invariant.0,
      ap (λ b. b && rest) c.both-apart.ensures
          ∙ and_assoc c.loop-i.apart _ rest
          ∙ ap (λ n. c.loop-i.apart && (not (n == c.args.pid) && rest))
          (c.index.ensures ∙ get_or_default c.loop-i.last.items e.1.frame _ 0
          (subst (λ n. e.1.frame < n) (sym c.loop-i.invariant.2)
          (c.requires c.loop-i.i no_page c.loop-i-test.true)))
          ∙ sym (ap (λ b. c.loop-i.apart && b) (at_drop_more
          (λ xs. are_apart c.loop-i.last.items c.args.pid xs) c.args.pages.now
          c.loop-i.i no_page c.loop-i-test.true)) ∙ c.loop-i.invariant.1,
      length-set c.loop-i.last.items e.1.frame c.args.pid ∙ c.loop-i.invariant.2,
    )
