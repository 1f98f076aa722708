-- The begin of a round, over a state's calls.
use Rattle.std.proofs.Common.{ℕ, ◌+◌, ◌-◌, ◌≡◌, refl, sym, ap, ap₂, ◌∙◌, subst, Bool, cond}
use Rattle.std.proofs.Common.{false, List, [], ◌∷◌, ◌++◌, length, append-nil, eq-eqb, arith, Some}
use Rattle.std.proofs.lemmas.Bool.{ne_eqb}
use Rattle.dos_world.specs.World.{World, live_threads, ready_threads}
use Rattle.dos_world.specs.Play.{Play, Answer, done, ask}
use Rattle.dos_world.specs.Signals.{ripen, signalled}
use Rattle.dos_world.specs.declared.Ending.TheVariants.{Done, Stalled}
use Rattle.dos_world.specs.declared.Post.{Post}
use Rattle.dos_world.specs.declared.Question.TheVariants.{Signals as signals_question}
use Rattle.dos_io.specs.Borders.{BorderState, Crosses, StopsAt, exchanged, told_of}
use Rattle.dos_io.specs.declared.exchange.Exchange.TheVariants.{Signals}
use Rattle.dos_io.specs.declared.shim.ShimStop.{ShimStop}
use Rattle.dos_io.proofs.OutsideLaws.{grown-nothing}
use Rattle.flat_machine.specs.Round.{is_none_of, with_budgets}
use Rattle.group_moves.specs.Moments.{settled_scene}
use Rattle.group_moves.specs.Moves.{answered_scene, begun_scene}
use Rattle.group_moves.specs.Places.{Place, Scene, at_end, before_parts, between_rounds, to_parts}
use Rattle.kernel_calls.specs.Plays.{GoesOver, PlaysOn, StopsIn, stopper}
use Rattle.kernel_calls.specs.StateWorld.{IsSound, sent, shim_stop, world_of}
use Rattle.kernel_calls.specs.declared.state.RunStop.{RunStop}
use Rattle.kernel_calls.specs.declared.state.State.{State}
use Rattle.kernel_calls.proofs.ServicePlays.{stopped_by}
use Rattle.group_walk.specs.Plays.{settled_move, world_of_scene}
use Rattle.group_walk.specs.Walks.{ComesTo}

-- ---- what follows the signal point

module _ (w : World) where
  abbrev by_live : Bool → Bool → Scene
  by_live dead idle = cond dead (w, at_end Done) (cond idle (w, at_end Stalled)
      (with_budgets w (ready_threads w), before_parts (ready_threads w) (ready_threads w)))

  pub scene_done : length (live_threads w) ≡ 0
      → settled_scene (begun_scene w) ≡ (w, at_end Done)
  scene_done none =
      ap (λ b. settled_scene (by_live b (is_none_of (ready_threads w))))
      (eq-eqb (length (live_threads w)) 0 none)

  pub scene_stalled : (length (live_threads w) ≡ 0 → ⊥) → length (ready_threads w) ≡ 0
      → settled_scene (begun_scene w) ≡ (w, at_end Stalled)
  scene_stalled live none =
      ap (λ b. settled_scene (by_live b (is_none_of (ready_threads w))))
      (ne_eqb (length (live_threads w)) 0 live)
      ∙ ap (λ b. settled_scene (by_live false b)) (eq-eqb (length (ready_threads w)) 0 none)

  pub scene_phases : (length (live_threads w) ≡ 0 → ⊥) → (starters : List ℕ)
      → starters ≡ ready_threads w → (length starters ≡ 0 → ⊥) → (v : World)
      → with_budgets w starters ≡ v
      → settled_scene (begun_scene w) ≡ to_parts v starters starters
  scene_phases live starters ready some v budgets =
      ap (λ b. settled_scene (by_live b (is_none_of (ready_threads w))))
      (ne_eqb (length (live_threads w)) 0 live)
      ∙ ap (λ ts. settled_scene (cond (is_none_of ts) (w, at_end Stalled)
      (with_budgets w ts, before_parts ts ts))) (sym ready)
      ∙ ap (λ b. settled_scene (cond b (w, at_end Stalled)
      (with_budgets w starters, before_parts starters starters)))
      (ne_eqb (length starters) 0 some)
      ∙ ap (λ u. to_parts u starters starters) budgets

pub comes_ended : (s : State) (place : Place) (ending : _) → place ≡ at_end ending → IsSound s
    → ComesTo s s (at_end ending)
comes_ended s place ending is sound = record {
  sound = sound;
  count = refl;
  round = refl;
  there = tt;
}

-- ---- the question

module _ (quantum : ℕ) (s : State) (sound : IsSound s) where
  round_is : s.round - 1 + 1 ≡ s.round
  round_is = let first = sound.counted.round in omega (arith, first)

  abbrev answered : List ℕ → List ℕ → Answer → Play Scene
  answered o e answer =
      done (settled_scene (answered_scene (sent o e (world_of quantum s)) answer))

  asks_here : (o e : List ℕ) → settled_move between_rounds (sent o e (world_of quantum s))
      ≡ ask (signals_question s.round) o e (answered o e)
  asks_here o e = ap (λ n. ask (signals_question n) o e (answered o e)) round_is

  pub begin_stops : (stop : RunStop) (why : ShimStop) (before after : BorderState)
      → shim_stop stop ≡ Some why → StopsAt before (signals_question s.round) why after
      → StopsIn quantum world_of_scene (settled_move between_rounds) (stopper stop) s before after
  begin_stops stop why before after is h =
      subst (λ by. StopsIn quantum world_of_scene (settled_move between_rounds) by s before after)
      (sym (stopped_by stop why is)) (record {
        crossings = [];
        tells = record {
          exchanges = h.shim.told ∙ sym (append-nil before.shim.told);
          bytes = λ stream. h.told stream ∙ grown-nothing (told_of stream before);
        };
        fails = record { stops = h.shim.stops; last = h.shim.last; faults = h.faults };
        question = signals_question s.round;
        running = tt;
        asked = h.shim.asked;
        goes = λ o e. (
          answered o e,
          asks_here o e
              ∙ ap₂ (λ x y. ask (signals_question s.round) x y (answered o e))
              (sym (append-nil o)) (sym (append-nil e)),
        );
      })

  pub begin_goes : (list : List Post) (s' : State)
      → ((q : ℕ) (o e : List ℕ)
      → ripen (signalled (sent o e (world_of q s)) list) ≡ sent o e (world_of q s'))
      → (before after : BorderState) → Crosses before (exchanged (Signals s.round list)) after
      → (last : State) (place : Place)
      → ((o e : List ℕ) → settled_scene (begun_scene (sent o e (world_of quantum s')))
      ≡ (sent o e (world_of quantum last), place))
      → PlaysOn quantum (settled_move between_rounds) s before (λ w. done (w, place)) last after
  begin_goes list s' begins before after crosses last place scene = record {
    crossings = exchanged (Signals s.round list) ∷ [];
    tells = crosses.tells;
    stands = crosses.stands;
    running = tt;
    goes = λ o e.
        subst (λ play. GoesOver o e (exchanged (Signals s.round list) ∷ []) play
        (done (sent (o ++ []) (e ++ []) (world_of quantum last), place))) (sym (asks_here o e)) (
          refl,
          refl,
          refl,
          ap (λ w. done (settled_scene (begun_scene w))) (begins quantum o e)
              ∙ ap done (scene o e)
              ∙ ap₂ (λ x y. done (sent x y (world_of quantum last), place))
              (sym (append-nil o)) (sym (append-nil e)),
        );
  }
