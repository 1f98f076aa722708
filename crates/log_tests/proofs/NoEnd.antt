-- A question that is answered, or stops a shim, doesn't tell the end.
use Rattle.std.proofs.Common.{◌≡◌, ℕ, List, [], ◌∷◌, ◌++◌, Result, Ok, Err, OnOk, IfOk, IfErr, sym}
use Rattle.std.proofs.Common.{subst}
use Rattle.dos_world.specs.declared.Ending.{Ending}
use Rattle.dos_world.specs.declared.Question.{Question}
use Rattle.dos_io.specs.declared.exchange.Exchange.{Exchange}
use Rattle.dos_io.specs.declared.exchange.Exchange.TheVariants.{Signals, Input, Clock, End}
use Rattle.dos_io.specs.declared.shim.ShimStop.{ShimStop}
use Rattle.dos_io.specs.Shims.{ShimState, shim_answered, Stopped, HasNoEnd}

push : (es : List Exchange) (e : Exchange) → HasNoEnd es → HasNoEnd (e ∷ [])
    → HasNoEnd (es ++ e ∷ [])
push [] e h p = p
push (Signals round list ∷ es) e h p = push es e h p
push (Input round tid max bytes ∷ es) e h p = push es e h p
push (Clock round tid n ∷ es) e h p = push es e h p
push (End ending rounds ∷ es) e h p = absurd h

-- after an answer that has no value of its own
pub after_answer : {T : Type 0} (r : Result T ShimStop) (old new : ShimState) (q : Question)
    (e : Exchange) → HasNoEnd old.told → HasNoEnd (e ∷ []) → OnOk r (new ≡ shim_answered old e)
    → IfErr r (λ stop. Stopped old q stop new) → HasNoEnd new.told
after_answer (Ok x) old new q e h p ok err =
    subst (λ (s : ShimState). HasNoEnd s.told) (sym ok) (push old.told e h p)
after_answer (Err stop) old new q e h p ok err = subst HasNoEnd (sym err.told) h

-- after an answer that has one
pub after_value : {T : Type 0} (r : Result T ShimStop) (old new : ShimState) (q : Question)
    (e : T → Exchange) → HasNoEnd old.told → ((x : T) → HasNoEnd (e x ∷ []))
    → IfOk r (λ x. new ≡ shim_answered old (e x)) → IfErr r (λ stop. Stopped old q stop new)
    → HasNoEnd new.told
after_value (Ok x) old new q e h p ok err =
    subst (λ (s : ShimState). HasNoEnd s.told) (sym ok) (push old.told (e x) h (p x))
after_value (Err stop) old new q e h p ok err = subst HasNoEnd (sym err.told) h

has_end : (es : List Exchange) (ending : Ending) (rounds : ℕ)
    → HasNoEnd (es ++ End ending rounds ∷ []) → ⊥
has_end [] ending rounds h = h
has_end (Signals round list ∷ es) ending rounds h = has_end es ending rounds h
has_end (Input round tid max bytes ∷ es) ending rounds h = has_end es ending rounds h
has_end (Clock round tid n ∷ es) ending rounds h = has_end es ending rounds h
has_end (End e r ∷ es) ending rounds h = h

-- after the end was told
pub after_end : (old new : ShimState) (ending : Ending) (rounds : ℕ)
    → new ≡ shim_answered old (End ending rounds) → HasNoEnd new.told → ⊥
after_end old new ending rounds is none =
    has_end old.told ending rounds (subst (λ (s : ShimState). HasNoEnd s.told) is none)
