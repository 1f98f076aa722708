-- Of two lists of exchanges and of both together, whether the end is told.
use Rattle.std.proofs.Common.{◌≡◌, List, [], ◌∷◌, ◌++◌, Result, Ok, Err, IfOk, IfErr, sym, subst}
use Rattle.dos_world.specs.declared.Question.{Question}
use Rattle.dos_io.specs.declared.exchange.Exchange.{Exchange}
use Rattle.dos_io.specs.declared.exchange.Exchange.TheVariants.{Signals, Input, Clock, End}
use Rattle.dos_io.specs.declared.shim.ShimStop.{ShimStop}
use Rattle.dos_io.specs.Shims.{ShimState, shim_answered, Stopped, HasNoEnd}

both : (es fs : List Exchange) → HasNoEnd es → HasNoEnd fs → HasNoEnd (es ++ fs)
both [] fs p q = q
both (Signals round list ∷ es) fs p q = both es fs p q
both (Input round tid max bytes ∷ es) fs p q = both es fs p q
both (Clock round tid n ∷ es) fs p q = both es fs p q
both (End ending rounds ∷ es) fs p q = absurd p

pub second : (es fs : List Exchange) → HasNoEnd (es ++ fs) → HasNoEnd fs
second [] fs p = p
second (Signals round list ∷ es) fs p = second es fs p
second (Input round tid max bytes ∷ es) fs p = second es fs p
second (Clock round tid n ∷ es) fs p = second es fs p
second (End ending rounds ∷ es) fs p = absurd p

-- a question that isn't the end, answered or not, doesn't tell it
pub asked : {T : Type 0} (r : Result T ShimStop) (old new : ShimState) (q : Question)
    (e : T → Exchange) → HasNoEnd old.told → ((x : T) → HasNoEnd (e x ∷ []))
    → IfOk r (λ x. new ≡ shim_answered old (e x)) → IfErr r (λ stop. Stopped old q stop new)
    → HasNoEnd new.told
asked (Ok x) old new q e h p ok err =
    subst (λ (s : ShimState). HasNoEnd s.told) (sym ok) (both old.told (e x ∷ []) h (p x))
asked (Err stop) old new q e h p ok err = subst HasNoEnd (sym err.told) h
