-- The machine sends its bytes behind those that it has sent. So what is a front of them stays one,
-- over any answers.
use Rattle.std.proofs.Common.{ℕ, sym, subst, List, [], ◌∷◌}
use Rattle.std.specs.Prelude.{⊤}
use Rattle.dos_world.specs.World.{World}
use Rattle.dos_world.specs.Play.{Play, Answer, done, ask, ◌>>=◌, Outcome, gives, asks, over}
use Rattle.dos_world.specs.Services.{Served as FlatServed, went, waits, yields, gone}
use Rattle.dos_world.specs.declared.Scheme.{Scheme}
use Rattle.dos_io.specs.Outside.{IsFront}
use Rattle.dos_io.proofs.OutsideLaws.{front-more}
use Rattle.dos_laws.specs.Plays.{world_served, world_ended}
use Rattle.flat_machine.specs.Buffered.{buffered}
use Rattle.flat_machine.specs.Rest.{turns, after_service, serial_of}
use Rattle.flat_machine.specs.Round.{RoundEnd as FlatEnd, round_of}
use Rattle.flat_machine.specs.Round.{went as went_on, finished, stalled}
use Rattle.round_core.specs.Invariants.{Keeps, LeavesEnd, PhaseKeeps}
use Rattle.round_core.specs.Protocol.{Protocol, Allows}
use Rattle.round_core.proofs.Allowed.{Comes, allows_less, over_comes}
use Rattle.round_core.proofs.Buffers.{buffered-form}
use Rattle.round_core.proofs.Keeps.{turns_keep, serial_keeps, round_keeps}
use Rattle.round_core.proofs.SameRun.{sent_kept}
use Rattle.round_core.proofs.Turning.{goes_on}
use Rattle.kernel_calls.specs.Plays.{AreFrontsOf}

-- ---- the machine

module _ (o e : List ℕ) where
  -- By any question these bytes were sent, and maybe more behind them.
  abbrev pub sending : Protocol
  sending = record {
    may = λ question output error. IsFront o output × IsFront e error;
    answers = λ answer. ⊤;
    posts = λ post. ⊤;
    brings = λ answer is k d lt. tt;
  }

  abbrev pub HasSent : List ℕ → World → Type 0
  HasSent ts w = IsFront o w.output × IsFront e w.error

  pub fronts_kept : Keeps sending HasSent
  fronts_kept =
      sent_kept (λ q n output error. IsFront o output × IsFront e error)
      (record {
        more_output = λ q n output error bytes h. (front-more o output bytes h.0, h.1);
        more_error = λ q n output error bytes h. (h.0, front-more e error bytes h.1);
      })
      sending (λ w h question. h)

  -- a parallel phase sends nothing
  pub fronts_buffered : PhaseKeeps HasSent buffered
  fronts_buffered ts w h = subst (HasSent ts) (sym (buffered-form w)) h

  -- what a play comes to that sends them
  pub fronts_over : {A : Type 0} (world : A → World) (given : List Answer) (play : Play A)
      → Allows sending (λ a. HasSent [] (world a)) play → AreFrontsOf world o e (over given play)
  fronts_over {A} world given play h =
      by_outcome (over given play)
      (over_comes sending (λ a. HasSent [] (world a)) given play h (λ k d lt. tt))
    where
      by_outcome : (x : Outcome A) → Comes sending (λ a. HasSent [] (world a)) x
          → AreFrontsOf world o e x
      by_outcome (gives a rest) h = h
      by_outcome (asks question output error) h = h

  -- one play and then another
  pub fronts_then : {A B : Type 0} (world : A → World) (next_world : B → World)
      (given : List Answer) (play : Play A) (next : A → Play B)
      → AreFrontsOf world o e (over given play)
      → ((a : A) (more : List Answer) → HasSent [] (world a)
      → AreFrontsOf next_world o e (over more (next a)))
      → AreFrontsOf next_world o e (over given (play >>= next))
  fronts_then world next_world given (done a) next h each = each a given h
  fronts_then world next_world [] (ask question output error after) next h each = h
  fronts_then world next_world (answer ∷ given) (ask question output error after) next h each =
      fronts_then world next_world given (after answer) next h each

  -- what follows a service
  pub fronts_after_service : (n t : ℕ) (served : FlatServed) (more : List Answer)
      → HasSent [] (world_served served)
      → AreFrontsOf (λ w. w) o e (over more (goes_on n t (after_service served)))
  fronts_after_service n t (went w) more h =
      fronts_over (λ w. w) more (turns n w t) (turns_keep sending HasSent fronts_kept n [] w t h)
  fronts_after_service n t (waits w) more h = h
  fronts_after_service n t (yields w) more h = h
  fronts_after_service n t (gone w) more h = h

  -- the serial parts of these threads
  pub fronts_serial : (ts : List ℕ) (w : World) (more : List Answer) → HasSent [] w
      → AreFrontsOf (λ w. w) o e (over more (serial_of w ts))
  fronts_serial ts w more h =
      fronts_over (λ w. w) more (serial_of w ts) (serial_keeps sending HasSent fronts_kept w ts h)

  -- a round
  pub fronts_round : (scheme : Scheme) (w : World) (more : List Answer) → HasSent [] w
      → AreFrontsOf world_ended o e (over more (round_of scheme w))
  fronts_round scheme w more h =
      fronts_over world_ended more (round_of scheme w)
      (allows_less sending (LeavesEnd (HasSent [])) (λ end. HasSent [] (world_ended end))
      (round_of scheme w) by_end
      (round_keeps sending HasSent fronts_kept fronts_buffered scheme w h h))
    where
      by_end : (end : FlatEnd) → LeavesEnd (HasSent []) end → HasSent [] (world_ended end)
      by_end (went_on w work) h = subst (HasSent []) (sym h.1) h.2
      by_end (finished w) h = h
      by_end (stalled w) h = h
