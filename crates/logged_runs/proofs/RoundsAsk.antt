-- No round asks the question of the run's end, so it is told once, as a run's last.
use Rattle.std.proofs.Common.{ℕ, zero, suc, ◌+◌, ◌≡◌, refl, sym, ap, ◌∙◌, subst, false, List, []}
use Rattle.std.proofs.Common.{◌∷◌, ◌++◌, map, Option, Some, None, Result, Ok, Err, cond}
use Rattle.std.specs.Prelude.{is_some, ⊤}
use Rattle.std.proofs.lemmas.Bool.{cond_both}
use Rattle.dos_world.specs.World.{World, Thread, thread_at, live_threads, ready_threads}
use Rattle.dos_world.specs.Play.{Play, done, ask, ◌>>=◌, posts_of, questions}
use Rattle.dos_world.specs.Services.{service, service_for}
use Rattle.dos_world.specs.Signals.{signalled, ripen}
use Rattle.dos_world.specs.declared.Question.{Question}
use Rattle.dos_world.specs.declared.Question.TheVariants.{Signals}
use Rattle.dos_world.specs.declared.Reason.{Reason}
use Rattle.dos_world.specs.declared.Scheme.{Scheme}
use Rattle.dos_world.specs.declared.Reason.TheVariants.{Page, Fault, Service as service_reason}
use Rattle.dos_io.specs.declared.exchange.Exchange.{Exchange}
use Rattle.dos_io.specs.declared.exchange.Exchange.TheVariants.{Signals as signals, Input, Clock}
use Rattle.dos_io.specs.declared.exchange.Exchange.TheVariants.{End}
use Rattle.dos_io.specs.Exchanges.{answer_of, question_of}
use Rattle.dos_io.specs.Shims.{HasNoEnd}
use Rattle.flat_machine.specs.Alone.{budget_of, emptied}
use Rattle.round_core.specs.Protocol.{Allows}
use Rattle.flat_machine.specs.Rest.{Turn, on, over_with, service_done, after_step, settled, turn}
use Rattle.flat_machine.specs.Rest.{turns, rest_of, rest_if_live, serial_of}
use Rattle.flat_machine.specs.Round.{RoundEnd, finished, stalled, phase_of, with_budgets}
use Rattle.flat_machine.specs.Round.{is_none_of}
use Rattle.flat_machine.specs.Round.{phases, begun, round_of, counted, budgets}
use Rattle.flat_machine.specs.Round.{went as went_on}
use Rattle.round_core.proofs.Allowed.{then_allows, allows_less}
use Rattle.group_rounds.specs.Outside.{is_end_question}
use Rattle.group_rounds.proofs.Pays.{asking, service_pays, HasPaid}
use Rattle.flat_machine.specs.Machine.{Finish, rounds_of, told_end}
use Rattle.dpg_run.proofs.RunKeeps.{goes_on}
use Rattle.std.proofs.Common.{length, ◌-◌}

-- whatever it gives, it never asks for the end
abbrev pub NeverEnds : {A : Type 0} → Play A → Type 0
NeverEnds play = Allows asking (λ given. ⊤) play

then_never : {A B : Type 0} (play : Play A) (next : A → Play B) → NeverEnds play
    → ((a : A) → NeverEnds (next a)) → NeverEnds (play >>= next)
then_never play next first then =
    then_allows asking (λ given. ⊤) (λ given. ⊤) play next first (λ a is. then a)

-- ---- a round

service_never : (w : World) (t : ℕ) → NeverEnds (service w t)
service_never w t = by_thread (thread_at w t) refl
  where
    by_thread : (o : Option Thread) → thread_at w t ≡ o → NeverEnds (service w t)
    by_thread None is = subst (λ (o : Option Thread). NeverEnds (service_for w t o)) (sym is) tt
    by_thread (Some thread) is =
        allows_less asking (HasPaid t (thread.budget - 1) (length w.owners)) (λ given. ⊤)
        (service w t) (λ served paid. tt) (service_pays w t thread is)

step_never : (t : ℕ) (w : World) (r : Result World Reason) → NeverEnds (after_step t w r)
step_never t w (Ok next) = tt
step_never t w (Err (Page address access)) = tt
step_never t w (Err (Fault number)) = tt
step_never t w (Err service_reason) =
    then_never (service w t) service_done (service_never w t) (λ served. tt)

turns_never : (count : ℕ) (w : World) (t : ℕ) → NeverEnds (turns count w t)
turns_never zero w t = tt
turns_never (suc count) w t =
    then_never (turn w t) (λ taken. elim taken as (λ _. Play World) [
      | on next ↦ turns count next t
      | over_with last ↦ done last
    ]) (step_never t (settled 3 w t).0 (settled 3 w t).1) (by_turn (λ u. turns_never count u t))
  where
    by_turn : ((u : World) → NeverEnds (turns count u t)) → (taken : Turn)
        → NeverEnds (elim taken as (λ _. Play World) [
          | on next ↦ turns count next t
          | over_with last ↦ done last
        ])
    by_turn rest (on next) = rest next
    by_turn rest (over_with last) = tt

serial_never : (w : World) (ts : List ℕ) → NeverEnds (serial_of w ts)
serial_never w [] = tt
serial_never w (t ∷ ts) =
    then_never (rest_if_live w t) (λ next. serial_of next ts)
    (cond_both (is_some (thread_at w t)) (rest_of w t) (done w) NeverEnds
    (λ lives. turns_never (budget_of w t) (emptied w t) t) (λ gone. tt))
    (λ next. serial_never next ts)

phases_never : (scheme : Scheme) (w : World) (starters : List ℕ)
    → NeverEnds (phases scheme w starters)
phases_never scheme w starters =
    let opening : World = with_budgets w starters in
    let halfway : World = phase_of scheme opening in
    then_never (serial_of halfway starters)
    (λ last. done (went_on (counted last) (budgets opening starters - budgets halfway starters)))
    (serial_never halfway starters) (λ last. tt)

begun_never : (scheme : Scheme) (w : World) → NeverEnds (begun scheme w)
begun_never scheme w =
    cond_both (is_none_of (live_threads w)) (done (finished w))
    (cond (is_none_of (ready_threads w)) (done (stalled w)) (phases scheme w (ready_threads w)))
    NeverEnds (λ none. tt)
    (λ some. cond_both (is_none_of (ready_threads w)) (done (stalled w))
    (phases scheme w (ready_threads w)) NeverEnds (λ none. tt)
    (λ ready. phases_never scheme w (ready_threads w)))

round_never : (scheme : Scheme) (w : World) → NeverEnds (round_of scheme w)
round_never scheme w =
    cond_both (is_none_of (live_threads w)) (done (finished w))
    (ask (Signals (w.rounds + 1)) w.output w.error
    (λ answer. begun scheme (ripen (signalled w (posts_of answer)))))
    NeverEnds (λ none. tt)
    (λ some. (refl, λ answer is. begun_never scheme (ripen (signalled w (posts_of answer)))))

-- ---- a run

pub rounds_never : (scheme : Scheme) (count : ℕ) (w : World) (work : ℕ)
    → NeverEnds (rounds_of scheme count w work)
rounds_never scheme zero w work = tt
rounds_never scheme (suc count) w work =
    then_never (round_of scheme w) (goes_on scheme count work) (round_never scheme w)
    (by_end (λ next more. rounds_never scheme count next (work + more)))
  where
    by_end : ((next : World) (more : ℕ) → NeverEnds (rounds_of scheme count next (work + more)))
        → (e : RoundEnd) → NeverEnds (goes_on scheme count work e)
    by_end rest (went_on next more) = rest next more
    by_end rest (finished last) = tt
    by_end rest (stalled last) = tt

heads : (q r : Question) (qs rs : List Question) → q ∷ qs ≡ r ∷ rs → (q ≡ r) × (qs ≡ rs)
heads q r qs rs is = (cc, cc)

-- Of a play whose end is told, each exchange before its last question is no end.
pub no_end_before : (es : List Exchange) (asked : Question) (play : Play Finish) → NeverEnds play
    → questions (map answer_of es) (play >>= told_end) ≡ map question_of es ++ asked ∷ []
    → HasNoEnd es
no_end_before [] asked play never is = tt
no_end_before (e ∷ []) asked (done finish) never is = absurd cc
no_end_before (e ∷ f ∷ es) asked (done finish) never is = absurd cc
no_end_before (e ∷ es) asked (ask question output error next) never is =
    let h = heads question (question_of e)
    (questions (map answer_of es) (next (answer_of e) >>= told_end))
    (map question_of es ++ asked ∷ []) is in
    by_exchange e (ap (λ q. is_end_question (Some q)) (sym h.0) ∙ never.0)
    (no_end_before es asked (next (answer_of e)) (never.1 (answer_of e) tt) h.1)
  where
    by_exchange : (e : Exchange) → is_end_question (Some (question_of e)) ≡ false → HasNoEnd es
        → HasNoEnd (e ∷ es)
    by_exchange (signals round list) other rest = rest
    by_exchange (Input round tid max bytes) other rest = rest
    by_exchange (Clock round tid n) other rest = rest
    by_exchange (End ending rounds) other rest = cc
