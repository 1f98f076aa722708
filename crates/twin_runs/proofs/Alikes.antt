-- Where no put failed, a leader's run and its follower's are alike.
use Rattle.std.proofs.Common.{◌≡◌, ℕ, refl, sym, ap, ◌∙◌, subst, List, [], ◌∷◌, ◌++◌, Option}
use Rattle.std.proofs.Common.{Ok, Err, append-nil}
use Rattle.std.specs.Prelude.{IfErr, Result}
use Rattle.dos_world.specs.declared.Config.{Config}
use Rattle.dos_world.specs.declared.Ending.{Ending}
use Rattle.dos_world.specs.declared.Misfit.{Misfit as misfit_type}
use Rattle.dos_world.specs.declared.Question.{Question}
use Rattle.dos_io.specs.Exchanges.{question_of}
use Rattle.dos_io.specs.declared.exchange.Exchange.{Exchange}
use Rattle.elf_image.specs.Image.{Image}
use Rattle.group_rounds.specs.Kernels.{Held}
use Rattle.kernel_calls.specs.declared.state.RunStop.{RunStop}
use Rattle.kernel_calls.specs.declared.state.RunStop.TheVariants.{HostFault, LogFull, Misfit}
use Rattle.kernel_calls.specs.declared.state.RunStop.TheVariants.{OutFault, ErrFault, Memory}
use Rattle.flat_machine.specs.Machine.{Seen}
use Rattle.logged_runs.specs.Runs.{Put, RanUntil, RanWhole}
use Rattle.twin_runs.specs.Alike.{RanAlike, IsUncut, SeenOf, heard}
use Rattle.twin_runs.specs.Laws.{NextOrSame, same, next}
use Rattle.twin_runs.specs.Twins.{LeaderCame, FollowerCame, StopsBefore, StoppedAt}
use Rattle.twin_runs.specs.Twins.{EndedAt}
use Rattle.twin_runs.proofs.Asking.{whole_runs, no_end_before, next_of_whole, questions_next}

firsts : (x y : Exchange) (xs ys : List Exchange) → x ∷ xs ≡ y ∷ ys → x ≡ y
firsts x y xs ys is = cc

none_is_some : (x : Exchange) (xs : List Exchange) → [] ≡ x ∷ xs → ⊥
none_is_some x xs is = cc

module _ (images : List Image) (config : Config) (told followed rest : List Exchange)
    (k1 k2 : Held) (o e o1 e1 p q p1 q1 : Option (List ℕ)) (t t1 u u1 : ℕ)
    (front : told ≡ followed ++ rest) where
  abbrev Alike : Result Ending RunStop → Result Ending RunStop → Type 0
  Alike leader follower = RanAlike leader follower images config told followed k1 o e o1 e1 p q p1
      q1 t t1

  whole_front : (seen : Seen) → RanWhole images config told seen
      → RanWhole images config (followed ++ rest) seen
  whole_front seen ran = subst (λ (es : List Exchange). RanWhole images config es seen) front ran

  until_front : (question : Question) (output error : List ℕ)
      → RanUntil images config told question output error
      → RanUntil images config (followed ++ rest) question output error
  until_front question output error ran =
      subst (λ (es : List Exchange). RanUntil images config es question output error) front ran

  all_followed : rest ≡ [] → followed ≡ told
  all_followed none =
      sym (front ∙ ap (λ (es : List Exchange). followed ++ es) none ∙ append-nil followed)

  -- a misfit's next exchange isn't of the question that was asked
  not_next : (m : misfit_type) (x : Exchange) (behind : List Exchange) → rest ≡ x ∷ behind
      → question_of x ≡ m.asked → StopsBefore (Misfit m) rest → ⊥
  not_next m x behind is asks stops =
      stops.3 (ap question_of (firsts stops.0 x stops.1 behind (sym stops.2 ∙ is)) ∙ asks)

  abbrev Led : Type 0
  Led = (question : Question) × StoppedAt images config told question o e o1 e1

  -- the leader stopped at a question, and so did the follower
  both_stopped : (leader : Result Ending RunStop) → heard leader ≡ Err HostFault
      → ((question : Question) (output error : List ℕ)
      → RanUntil images config told question output error
      → SeenOf leader images config told k1 output error t t1) → Led
      → ((question : Question) × StoppedAt images config followed question p q p1 q1)
      → rest ≡ [] → Alike leader (Err HostFault)
  both_stopped leader hears sees led came stops =
      by_case (questions_next images config followed rest led.0 came.0 led.1.output led.1.error
      came.1.output came.1.error (until_front led.0 led.1.output led.1.error led.1.ran)
      came.1.ran)
    where
      by_case : NextOrSame led.0 came.0 led.1.output led.1.error came.1.output came.1.error rest
          → Alike leader (Err HostFault)
      by_case (next x behind is asks) = absurd (none_is_some x behind (sym stops ∙ is))
      by_case (same none question output error) = record {
        result_same = sym hears;
        told_same = all_followed none;
        output = led.1.output;
        error = led.1.error;
        saw = sees led.0 led.1.output led.1.error led.1.ran;
        put = led.1.put;
        second_put = subst (λ (x : List ℕ). Put p q p1 q1 x led.1.error) (sym output)
            (subst (λ (x : List ℕ). Put p q p1 q1 came.1.output x) (sym error) came.1.put);
      }

  -- the leader stopped at a question, so the follower has no misfit
  no_misfit : Led → (m : misfit_type) → StoppedAt images config followed m.asked p q p1 q1
      → StopsBefore (Misfit m) rest → ⊥
  no_misfit led m came stops =
      by_case (questions_next images config followed rest led.0 m.asked led.1.output led.1.error
      came.output came.error (until_front led.0 led.1.output led.1.error led.1.ran) came.ran)
    where
      by_case : NextOrSame led.0 m.asked led.1.output led.1.error came.output came.error rest → ⊥
      by_case (next x behind is asks) = not_next m x behind is asks stops
      by_case (same none question output error) =
          none_is_some stops.0 stops.1 (sym none ∙ stops.2)

  -- nor has it come to its end
  no_whole : Led → (b : Ending)
      → EndedAt images config followed k2 b p q p1 q1 u u1 → ⊥
  no_whole led b came =
      no_end_before images config followed rest led.0 led.1.output led.1.error came.seen
      (until_front led.0 led.1.output led.1.error led.1.ran) came.ran

  pub alike : (leader follower : Result Ending RunStop)
      → LeaderCame leader images config told k1 o e o1 e1 t t1
      → FollowerCame follower images config followed rest k2 p q p1 q1 u u1
      → IfErr follower (λ stop. StopsBefore stop rest)
      → IsUncut leader → IsUncut follower → Alike leader follower
  alike (Ok a) (Ok b) led came stops un ux =
      let one = whole_runs images config followed rest led.seen came.seen
      (whole_front led.seen led.ran) came.ran in
      record {
        result_same = ap (λ (x : Ending). Ok x) (sym came.ended.shows.ending_is
            ∙ ap (λ (s : Seen). s.ending) (sym one.1) ∙ led.ended.shows.ending_is);
        told_same = all_followed one.0;
        output = led.seen.output;
        error = led.seen.error;
        saw = record {
          seen = led.seen;
          ran = led.ran;
          shows = led.ended.shows;
          counted = led.ended.counted;
          output_is = refl;
          error_is = refl;
        };
        put = led.ended.put;
        second_put = subst (λ (s : Seen). Put p q p1 q1 s.output s.error) (sym one.1)
            came.ended.put;
      }
  alike (Ok a) (Err HostFault) led came stops un ux =
      let asks = next_of_whole images config followed rest led.seen came.0 came.1.output
      came.1.error (whole_front led.seen led.ran) came.1.ran in
      absurd (none_is_some asks.0 asks.1 (sym stops ∙ asks.2))
  alike (Ok a) (Err (Misfit m)) led came stops un ux =
      let asks = next_of_whole images config followed rest led.seen m.asked came.output
      came.error (whole_front led.seen led.ran) came.ran in
      absurd (not_next m asks.0 asks.1 asks.2 asks.3 stops)
  alike (Ok a) (Err OutFault) led came stops un ux = absurd ux
  alike (Ok a) (Err ErrFault) led came stops un ux = absurd ux
  alike (Ok a) (Err Memory) led came stops un ux = absurd came
  alike (Ok a) (Err LogFull) led came stops un ux = absurd came
  alike (Err HostFault) (Ok b) led came stops un ux = absurd (no_whole led b came)
  alike (Err HostFault) (Err HostFault) led came stops un ux =
      both_stopped (Err HostFault) refl (λ question output error ran. (question, ran)) led came
      stops
  alike (Err HostFault) (Err (Misfit m)) led came stops un ux =
      absurd (no_misfit led m came stops)
  alike (Err HostFault) (Err OutFault) led came stops un ux = absurd ux
  alike (Err HostFault) (Err ErrFault) led came stops un ux = absurd ux
  alike (Err HostFault) (Err Memory) led came stops un ux = absurd came
  alike (Err HostFault) (Err LogFull) led came stops un ux = absurd came
  alike (Err Memory) (Ok b) led came stops un ux = absurd (no_whole led b came)
  alike (Err Memory) (Err HostFault) led came stops un ux =
      both_stopped (Err Memory) refl (λ question output error ran. (question, ran)) led came
      stops
  alike (Err Memory) (Err (Misfit m)) led came stops un ux = absurd (no_misfit led m came stops)
  alike (Err Memory) (Err OutFault) led came stops un ux = absurd ux
  alike (Err Memory) (Err ErrFault) led came stops un ux = absurd ux
  alike (Err Memory) (Err Memory) led came stops un ux = absurd came
  alike (Err Memory) (Err LogFull) led came stops un ux = absurd came
  alike (Err OutFault) follower led came stops un ux = absurd un
  alike (Err ErrFault) follower led came stops un ux = absurd un
  alike (Err LogFull) follower led came stops un ux = absurd led
  alike (Err (Misfit m)) follower led came stops un ux = absurd led
