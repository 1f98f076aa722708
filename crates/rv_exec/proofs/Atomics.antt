-- The nine AMOs are one exchange by their new word.
use Rattle.std.proofs.Common.{ℕ, ◌≡◌, ◌≢◌, refl}
use Rattle.dos_world.specs.World.{Registers}
use Rattle.rv_isa.specs.declared.AmoOp.{AmoOp}
use Rattle.rv_isa.specs.declared.AmoOp.TheVariants.{LrW, ScW, AmoswapW, AmoaddW, AmoxorW, AmoandW}
use Rattle.rv_isa.specs.declared.AmoOp.TheVariants.{AmoorW, AmominW, AmomaxW, AmominuW, AmomaxuW}
use Rattle.flat_machine.specs.Effect.{atomic, combined, exchange}

pub by_new_word : (op : AmoOp) → op ≢ LrW → op ≢ ScW → (n a b : ℕ) (r : Registers)
    → atomic op n a b r ≡ exchange n a (λ old. combined op old b) r
by_new_word LrW l s n a b r = absurd (l refl)
by_new_word ScW l s n a b r = absurd (s refl)
by_new_word AmoswapW l s n a b r = refl
by_new_word AmoaddW l s n a b r = refl
by_new_word AmoxorW l s n a b r = refl
by_new_word AmoandW l s n a b r = refl
by_new_word AmoorW l s n a b r = refl
by_new_word AmominW l s n a b r = refl
by_new_word AmomaxW l s n a b r = refl
by_new_word AmominuW l s n a b r = refl
by_new_word AmomaxuW l s n a b r = refl
