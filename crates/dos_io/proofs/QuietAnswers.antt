-- Quiet answers bring no signal.
use Rattle.std.proofs.Common.{◌≡◌, map, true, false, cond, nat_eq, List, [], ◌∷◌, ◌++◌, Some, None}
use Rattle.std.proofs.Common.{IfSome, refl, sym, ap, subst, ◌∙◌}
use Rattle.std.proofs.lemmas.List.{append_cancel_left, map-append}
use Rattle.dos_io.specs.declared.exchange.Exchange.{Exchange}
use Rattle.dos_io.specs.declared.exchange.Exchange.TheVariants.{Signals}
use Rattle.dos_io.specs.Exchanges.{HaveNoPosts}
use Rattle.dos_io.specs.Shims.{ShimState}
use Rattle.dos_io.specs.Quiet.{quiet_exchange, IsQuiet, AreQuiet, Quietness, shown_by}
use Rattle.dos_io.specs.Quiet.{FollowsQuietly}
use Rattle.dos_world.specs.declared.Question.{Question}
use Rattle.dos_world.specs.declared.Question.TheVariants.{Signals as signals_question}
use Rattle.dos_world.specs.declared.Question.TheVariants.{Input as input_question}
use Rattle.dos_world.specs.declared.Question.TheVariants.{Clock as clock_question}
use Rattle.dos_world.specs.declared.Question.TheVariants.{End as end_question}
use Rattle.dos_io.specs.declared.shim.ShimStop.TheVariants.{Memory}

pub quiet_no_posts : (es : List Exchange) → AreQuiet es → HaveNoPosts es
quiet_no_posts [] p = tt
quiet_no_posts (Signals round list ∷ es) p = (p.0, quiet_no_posts es p.1)
quiet_no_posts (e ∷ es) p = quiet_no_posts es p.1

-- What was told more is determined, so whoever says what it is learns that it is quiet.
pub quiet_more : (old new : ShimState) (es : List Exchange) → FollowsQuietly old new
    → new.told ≡ old.told ++ es → AreQuiet es
quiet_more old new es f told = subst AreQuiet
    (append_cancel_left old.told f.more es (sym f.told ∙ told)) f.quiet

pub no_posts_more : (old new : ShimState) (es : List Exchange) → FollowsQuietly old new
    → new.told ≡ old.told ++ es → HaveNoPosts es
no_posts_more old new es f told = quiet_no_posts es (quiet_more old new es f told)

-- its last stop, where it has one
pub last_is_memory : (shim : Quietness) → IfSome (shown_by shim).last (λ stop. stop ≡ Memory)
last_is_memory shim = elim (nat_eq shim.stops 0) as
    (λ b. IfSome (cond b None (Some Memory)) (λ stop. stop ≡ Memory)) [ true ↦ tt | false ↦ refl ]

is_quiet : (question : Question) → IsQuiet (quiet_exchange question)
is_quiet (signals_question round) = refl
is_quiet (input_question round tid max) = refl
is_quiet (clock_question round tid) = refl
is_quiet (end_question ending rounds) = tt

-- an answer more
pub follows_answer : (old new : Quietness) (question : Question)
    → new ≡ record old { questions = old.questions ++ question ∷ []; asked = None }
    → FollowsQuietly (shown_by old) (shown_by new)
follows_answer old new question e = record {
  more = quiet_exchange question ∷ [];
  told = ap (λ (q : Quietness). map quiet_exchange q.questions) e
      ∙ map-append quiet_exchange old.questions (question ∷ []);
  quiet = (is_quiet question, tt);
}
