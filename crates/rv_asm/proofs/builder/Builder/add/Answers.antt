use Rattle.std.proofs.Common.{◌≡◌, ◌+◌, ◌<◌, ◌^◌, length, ap, sym, ◌∙◌, arith, rules, length-append}
use Rattle.rv_asm.specs.Source.{halfwords_of}
use Rattle.rv_asm.proofs.WordLaws.{count-append, count-below}
use Rattle.rv_asm.proofs.builder.Builder.add.Goals as goal

pub overflow_add-self : goal.overflow_add-self
overflow_add-self c =
    let few = count-below c.self.inside.items.items in
    let more : length c.push.new.self.items ≡ length c.self.inside.items.items + 1 =
    ap length c.in_ok-push.ensures.items ∙ length-append c.self.inside.items.items _ in
    let small : length c.push.new.self.items < 2 ^ 63 = search rules in
    omega (arith, few, more, small, c.self.invariant.count_is, c.halves_in.ensures.range)

pub invariant_of-self-2 : goal.invariant_of-self-2
invariant_of-self-2 c =
    let count = ap halfwords_of c.in_ok-push.ensures.items
    ∙ count-append c.self.inside.items.items _ in
    record {
      aligned = c.self.invariant.aligned;
      registers = search rules;
      count_is = omega (arith, count, c.self.invariant.count_is, c.halves_in.ensures.value);
    }
