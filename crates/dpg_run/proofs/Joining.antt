-- So many rounds, and then the rest, are one run.
use Rattle.std.proofs.Common.{ℕ, zero, suc, ◌+◌, ◌-◌, ◌≡◌, ◌≤◌, refl, sym, ap, ap₂, ◌∙◌, subst}
use Rattle.std.proofs.Common.{arith}
use Rattle.std.proofs.Common.{List, [], ◌∷◌, ◌++◌, map, length, append_assoc, append-nil}
use Rattle.std.proofs.lemmas.List.{map-append}
use Rattle.dos_world.specs.World.{World}
use Rattle.dos_world.specs.Play.{Answer, Outcome, Play, done, ask, asks, gives, over, questions}
use Rattle.dos_world.specs.Play.{◌>>=◌}
use Rattle.dos_world.specs.declared.Config.{Config}
use Rattle.dos_world.specs.declared.Question.{Question}
use Rattle.dos_world.specs.declared.Scheme.{Scheme}
use Rattle.dos_io.specs.Exchanges.{answer_of, question_of}
use Rattle.dos_io.specs.declared.exchange.Exchange.{Exchange}
use Rattle.flat_machine.specs.Machine.{Finish, Ran, Seen, at_limit, ends, machine_from, needs}
use Rattle.flat_machine.specs.Machine.{result_of, rounds_from, rounds_of, run_from, seen, told_end}
use Rattle.flat_machine.specs.Round.{RoundEnd, went, finished, stalled, round_of}
use Rattle.dos_world.specs.declared.Ending.TheVariants.{Done, Stalled}
use Rattle.kernel_calls.specs.StateWorld.{sent}
use Rattle.group_rounds.specs.Plays.{GoesOn}
use Rattle.group_rounds.proofs.PlayLaws.{goes-over_more, goes-then}
use Rattle.dpg_run.specs.Fits.{misfit_from}
use Rattle.dpg_run.specs.Laws.{RunsJoin, seen_joined}
use Rattle.dpg_run.specs.Reaching.{RunsTo, RunsToItsEnd, RunsToQuestion, seen_behind}
use Rattle.dpg_run.proofs.MisfitLaws.{misfit_behind, misfit_by_questions}

-- what is asked over more answers
goes-questions_more : {A : Type 0} (es : List Exchange) (more : List Answer) (p q : Play A)
    → GoesOn es p q
    → questions (map answer_of es ++ more) p ≡ map question_of es ++ questions more q
goes-questions_more [] more p q h = ap (questions more) h
goes-questions_more (e ∷ es) more (done a) q h = absurd h
goes-questions_more (e ∷ es) more (ask question output error next) q h =
    ap (λ asked. asked ∷ questions (map answer_of es ++ more) (next (answer_of e))) h.0
    ∙ ap (λ rest. question_of e ∷ rest) (goes-questions_more es more (next (answer_of e)) q h.1)

-- ---- work that was done before

abbrev worked_more : ℕ → Finish → Finish
worked_more k f = record f { work = k + f.work }

-- what is come to after it
abbrev behind_work : ℕ → Outcome Finish → Outcome Finish
behind_work k (gives f rest) = gives (worked_more k f) rest
behind_work k (asks question output error) = asks question output error

-- Two plays that go on alike but for it, and so do they with their end told.
record AreAlike (k : ℕ) (p q : Play Finish) : Type 0 where
  over_is : (answers : List Answer) → over answers p ≡ behind_work k (over answers q)
  over_told : (answers : List Answer)
      → over answers (p >>= told_end) ≡ behind_work k (over answers (q >>= told_end))
  asked : (answers : List Answer)
      → questions answers (p >>= told_end) ≡ questions answers (q >>= told_end)

done_alike : (k : ℕ) (f : Finish) → AreAlike k (done (worked_more k f)) (done f)
done_alike k f = record { over_is = λ answers. refl; over_told = over_told; asked = told }
  where
    over_told : (answers : List Answer)
        → over answers (told_end (worked_more k f)) ≡ behind_work k (over answers (told_end f))
    over_told [] = refl
    over_told (answer ∷ answers) = refl

    told : (answers : List Answer)
        → questions answers (told_end (worked_more k f)) ≡ questions answers (told_end f)
    told [] = refl
    told (answer ∷ answers) = refl

then_alike : {A : Type 0} (k : ℕ) (p : Play A) (f g : A → Play Finish)
    → ((a : A) → AreAlike k (f a) (g a)) → AreAlike k (p >>= f) (p >>= g)
then_alike k (done a) f g h = h a
then_alike k (ask question output error next) f g h =
    go (λ answer. then_alike k (next answer) f g h)
  where
    go : ((answer : Answer) → AreAlike k (next answer >>= f) (next answer >>= g))
        → AreAlike k (ask question output error next >>= f) (ask question output error next >>= g)
    go each = record { over_is = all; over_told = over_told; asked = asked }
      where
        over_told : (answers : List Answer)
            → over answers ((ask question output error next >>= f) >>= told_end)
            ≡ behind_work k (over answers ((ask question output error next >>= g) >>= told_end))
        over_told [] = refl
        over_told (answer ∷ answers) = (each answer).over_told answers

        all : (answers : List Answer)
            → over answers (ask question output error next >>= f)
            ≡ behind_work k (over answers (ask question output error next >>= g))
        all [] = refl
        all (answer ∷ answers) = (each answer).over_is answers

        asked : (answers : List Answer)
            → questions answers ((ask question output error next >>= f) >>= told_end)
            ≡ questions answers ((ask question output error next >>= g) >>= told_end)
        asked [] = refl
        asked (answer ∷ answers) = ap (λ qs. question ∷ qs) ((each answer).asked answers)

-- what follows a round, with so many left and after so much work
abbrev behind : Scheme → ℕ → ℕ → RoundEnd → Play Finish
behind scheme left work (went next more) = rounds_of scheme left next (work + more)
behind scheme left work (finished last) =
    done (record { ending = Done; world = last; work = work })
behind scheme left work (stalled last) =
    done (record { ending = Stalled; world = last; work = work })

behind_alike : (scheme : Scheme) (k left j : ℕ)
    → ((w : World) (i : ℕ)
    → AreAlike k (rounds_of scheme left w (k + i)) (rounds_of scheme left w i))
    → (end : RoundEnd) → AreAlike k (behind scheme left (k + j) end) (behind scheme left j end)
behind_alike scheme k left j later (went next more) =
    subst (λ n. AreAlike k (rounds_of scheme left next n)
    (rounds_of scheme left next (j + more)))
    (let n : k + (j + more) ≡ k + j + more = omega arith in n) (later next (j + more))
behind_alike scheme k left j later (finished last) =
    done_alike k (record { ending = Done; world = last; work = j })
behind_alike scheme k left j later (stalled last) =
    done_alike k (record { ending = Stalled; world = last; work = j })

rounds_alike : (scheme : Scheme) (k n : ℕ) (w : World) (j : ℕ)
    → AreAlike k (rounds_of scheme n w (k + j)) (rounds_of scheme n w j)
rounds_alike scheme k zero w j = done_alike k (at_limit w j)
rounds_alike scheme k (suc n) w j =
    then_alike k (round_of scheme w) (behind scheme n (k + j)) (behind scheme n j)
    (behind_alike scheme k n j (rounds_alike scheme k n))

-- ---- what is seen

-- what a whole run comes to
record HasEnded (x : Outcome Finish) (asked : List Question) (s : Seen) : Type 0 where
  finish : Finish
  rest : List Answer
  is : x ≡ gives finish rest
  seen_is : seen asked finish ≡ s

ended_by : (asked : List Question) (x : Outcome Finish) (s : Seen) → result_of asked x ≡ ends s
    → HasEnded x asked s
ended_by asked (gives finish rest) s is =
    record { finish = finish; rest = rest; is = refl; seen_is = cc }
ended_by asked (asks question output error) s is = absurd cc

-- ---- both

-- the run from the first world, behind any bytes, over the first exchanges
module _ (w last : World) (config : Config) (rounds : ℕ) (first : List Exchange)
    (output error : List ℕ) (ran : RunsTo config.scheme rounds w first output error last)
    (counted : last.rounds ≡ w.rounds + rounds) (few : last.rounds ≤ config.rounds)
    (o e : List ℕ) where
  abbrev left : ℕ
  left = config.rounds - last.rounds

  abbrev there : World
  there = sent (o ++ output) (e ++ error) last

  goes : GoesOn first (rounds_from (sent o e w) config)
      (rounds_of config.scheme left there (ran.work + 0))
  goes = subst (λ n. GoesOn first (rounds_of config.scheme n (sent o e w) 0)
      (rounds_of config.scheme left there (ran.work + 0)))
      (let n : rounds + left ≡ config.rounds - w.rounds = omega (arith, counted, few) in n)
      (subst (λ n. GoesOn first (rounds_of config.scheme (rounds + left) (sent o e w) 0)
      (rounds_of config.scheme left there n))
      (let n : 0 + ran.work ≡ ran.work + 0 = omega arith in n) (ran.goes o e left 0))

  goes_told : GoesOn first (run_from (sent o e w) config)
      (rounds_of config.scheme left there (ran.work + 0) >>= told_end)
  goes_told = goes-then first (rounds_from (sent o e w) config)
      (rounds_of config.scheme left there (ran.work + 0)) told_end goes

  alike : AreAlike ran.work (rounds_of config.scheme left there (ran.work + 0))
      (rounds_of config.scheme left there 0)
  alike = rounds_alike config.scheme ran.work left there 0

  -- what is asked behind them
  asked_then : (second : List Exchange) (asked : List Question)
      → questions (map answer_of second) (run_from there config) ≡ map question_of second ++ asked
      → questions (map answer_of (first ++ second)) (run_from (sent o e w) config)
      ≡ map question_of (first ++ second) ++ asked
  asked_then second asked is =
      ap (λ answers. questions answers (run_from (sent o e w) config))
      (map-append answer_of first second)
      ∙ goes-questions_more first (map answer_of second) (run_from (sent o e w) config)
      (rounds_of config.scheme left there (ran.work + 0) >>= told_end) goes_told
      ∙ ap (λ qs. map question_of first ++ qs) (alike.asked (map answer_of second) ∙ is)
      ∙ sym (append_assoc (map question_of first) (map question_of second) asked)
      ∙ ap (λ qs. qs ++ asked) (sym (map-append question_of first second))

  -- as far as a question
  told_then : (second : List Exchange) (question : Question) (output_then error_then : List ℕ)
      → over (map answer_of second) (run_from there config)
      ≡ asks question ((o ++ output) ++ output_then) ((e ++ error) ++ error_then)
      → over (map answer_of (first ++ second)) (run_from (sent o e w) config)
      ≡ asks question (o ++ (output ++ output_then)) (e ++ (error ++ error_then))
  told_then second question output_then error_then is =
      ap (λ answers. over answers (run_from (sent o e w) config))
      (map-append answer_of first second)
      ∙ goes-over_more first (map answer_of second) (run_from (sent o e w) config)
      (rounds_of config.scheme left there (ran.work + 0) >>= told_end) goes_told
      ∙ alike.over_told (map answer_of second) ∙ ap (behind_work ran.work) is
      ∙ ap₂ (λ x y. asks question x y) (append_assoc o output output_then)
      (append_assoc e error error_then)

  -- where the others don't fit
  pub misfit_joins : (n : ℕ) (rest : List Exchange)
      → misfit_from n (first ++ rest) (run_from (sent o e w) config)
      ≡ misfit_from (n + length first) rest (run_from there config)
  misfit_joins n rest =
      misfit_behind n (n + length first) first rest (run_from (sent o e w) config)
      (rounds_of config.scheme left there (ran.work + 0) >>= told_end) refl goes_told
      ∙ misfit_by_questions (n + length first) rest
      (rounds_of config.scheme left there (ran.work + 0) >>= told_end) (run_from there config)
      alike.asked

-- to a question
module _ (w last : World) (config : Config) (rounds : ℕ) (first second : List Exchange)
    (question : Question) (output error output_then error_then : List ℕ)
    (ran : RunsTo config.scheme rounds w first output error last)
    (counted : last.rounds ≡ w.rounds + rounds) (few : last.rounds ≤ config.rounds)
    (stops : RunsToQuestion last config second question output_then error_then) where
  pub questions_join : RunsToQuestion w config (first ++ second) question (output ++ output_then)
      (error ++ error_then)
  questions_join = record {
    asks = λ o e. told_then w last config rounds first output error ran counted few o e second
        question output_then error_then (stops.asks (o ++ output) (e ++ error));
    asked = λ o e. asked_then w last config rounds first output error ran counted few o e second
        (question ∷ []) (stops.asked (o ++ output) (e ++ error));
  }

-- to the end
module _ (w last : World) (config : Config) (rounds : ℕ) (first second : List Exchange)
    (output error : List ℕ) (s : Seen) (ran : RunsTo config.scheme rounds w first output error last)
    (counted : last.rounds ≡ w.rounds + rounds) (few : last.rounds ≤ config.rounds)
    (ended : RunsToItsEnd last config second s) where
  abbrev all : List Answer
  all = map answer_of (first ++ second)

  module _ (o e : List ℕ) where
    abbrev from : World
    from = sent (o ++ output) (e ++ error) last

    fits : questions all (run_from (sent o e w) config) ≡ map question_of (first ++ second)
    fits =
        asked_then w last config rounds first output error ran counted few o e second []
        (ended.fits (o ++ output) (e ++ error) ∙ sym (append-nil (map question_of second)))
        ∙ append-nil (map question_of (first ++ second))

    abbrev rest_of : ℕ → Play Finish
    rest_of work = rounds_of config.scheme (config.rounds - last.rounds) from work

    one : HasEnded (over (map answer_of second) (rest_of 0))
        (questions (map answer_of second) (run_from from config))
        (seen_behind (o ++ output) (e ++ error) s)
    one = ended_by (questions (map answer_of second) (run_from from config))
        (over (map answer_of second) (rest_of 0))
        (seen_behind (o ++ output) (e ++ error) s) (ended.is (o ++ output) (e ++ error))

    over_is : over all (rounds_from (sent o e w) config)
        ≡ gives (worked_more ran.work one.finish) one.rest
    over_is =
        ap (λ answers. over answers (rounds_from (sent o e w) config))
        (map-append answer_of first second)
        ∙ goes-over_more first (map answer_of second) (rounds_from (sent o e w) config)
        (rest_of (ran.work + 0))
        (goes w last config rounds first output error ran counted few o e)
        ∙ (alike w last config rounds first output error ran counted few o e).over_is
        (map answer_of second) ∙ ap (behind_work ran.work) one.is

    seen_so : seen (map question_of (first ++ second)) (worked_more ran.work one.finish)
        ≡ seen_behind o e (seen_joined first second output error ran.work s)
    seen_so =
        ap (λ (x : Seen). record x {
          questions = map question_of (first ++ second);
          work = ran.work + x.work;
        }) one.seen_is
        ∙ ap₂ (λ x y. record s {
          questions = map question_of (first ++ second);
          output = x;
          error = y;
          work = ran.work + s.work;
        }) (append_assoc o output s.output) (append_assoc e error s.error)

    is : machine_from (sent o e w) config all
        ≡ ends (seen_behind o e (seen_joined first second output error ran.work s))
    is = ap₂ result_of fits over_is ∙ ap ends seen_so

  pub both_join : RunsToItsEnd w config (first ++ second)
      (seen_joined first second output error ran.work s)
  both_join = record { fits = fits; is = is }

-- ---- the law

pub runs_join : RunsJoin
runs_join = record {
  ended = λ w last config rounds first second output error s ran counted few ended.
      both_join w last config rounds first second output error s ran counted few ended;
  asked = λ w last config rounds first second question output error output_then error_then ran
      counted few stops. questions_join w last config rounds first second question output error
      output_then error_then ran counted few stops;
  misfits = λ w last config rounds first rest output error n o e ran counted few.
      misfit_joins w last config rounds first output error ran counted few o e n rest;
}
