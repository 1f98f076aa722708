-- Where a run has stopped, and at which question.
use Rattle.std.proofs.Common.{◌≡◌, ap, subst, Option, Some, Result, Ok, Err, IsErrOf}
use Rattle.std.specs.Prelude.{IfSome}
use Rattle.dos_world.specs.declared.Question.{Question}
use Rattle.dos_io.specs.declared.shim.ShimStop.{ShimStop}
use Rattle.kernel_calls.specs.declared.state.RunStop.{RunStop}

-- what ended hasn't stopped
pub not_stopped : {T E : Type 0} (x : T) (e : E) → Ok x ≡ Err e → ⊥
not_stopped x e is = cc

-- what stopped by a reason has this one
pub this_stop : (T : Type 0) (stop other : RunStop) → IsErrOf {T = T} (Err stop) other
    → stop ≡ other
this_stop T stop other is = cc

pub stop_is : (T : Type 0) (stop other : RunStop) → stop ≡ other
    → ◌≡◌ {A = Result T RunStop} (Err stop) (Err other)
stop_is T stop other is = ap (λ (s : RunStop). (let result : Result T RunStop = Err s in result)) is

-- what isn't that stop isn't it in a result of another type
pub other_stop : (T U : Type 0) (stop other : RunStop)
    → (◌≡◌ {A = Result T RunStop} (Err stop) (Err other) → ⊥)
    → ◌≡◌ {A = Result U RunStop} (Err stop) (Err other) → ⊥
other_stop T U stop other differs is =
    let same : stop ≡ other = cc in
    differs (ap (λ (s : RunStop). (let result : Result T RunStop = Err s in result)) same)

-- what is said of a question and a stop, where they are known
pub stops_so : (asked : Option Question) (last : Option ShimStop) (question : Question)
    (stop : ShimStop) (P : Question → ShimStop → Type 0) → asked ≡ Some question → last ≡ Some stop
    → IfSome asked (λ q. IfSome last (P q)) → P question stop
stops_so asked last question stop P at so h =
    subst (λ (o : Option ShimStop). IfSome o (P question)) so
    (subst (λ (o : Option Question). IfSome o (λ q. IfSome last (P q))) at h)
