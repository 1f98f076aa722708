use Rattle.std.proofs.Common.{ℕ, ◌+◌, ◌≤◌, ◌∙◌, refl, ap, sym, subst, length}
use Rattle.kernel_calls.specs.Plays.{stopper}
use Rattle.kernel_calls.specs.declared.state.State.{State}
use Rattle.group_rounds.proofs.RoundLaws.{serial_ends, serial_halts}
use Rattle.group_rounds.proofs.round.finish_round.Goals as goal

pub count_round-requires : goal.count_round-requires
count_round-requires g c = record {
  sound = c.in-Ok.ensures.serves.sound;
  limit = subst (λ (n : ℕ). n ≤ 1000000) (sym c.in-Ok.ensures.serves.round.round) c.requires.limit;
}

pub returns-in-Ok : goal.returns-in-Ok
returns-in-Ok g c =
    let served = c.in-Ok.ensures.serves in
    let counted = c.count_round.ensures.counted in
    record {
      plays = λ q work. record {
        goes = serial_ends c.args.starters.now c.args.state.now c.run_serial.new.state
            c.count_round.new.state _ _ (λ q. (served.plays q).goes) served.sound.counted.round
            counted q work;
        stops = tt;
      };
      end = refl;
      keeps = record {
        sound = c.count_round.ensures.sound;
        count = ap (λ (s : State). length s.frames.owners) counted ∙ served.count;
        round = ap (λ (s : State). s.round) counted ∙ ap (λ n. n + 1) served.round.round;
        uncounted = tt;
        marked = ap (λ (s : State). s.frames.marked) counted ∙ served.round.marked;
      };
      follows = c.run_serial.ensures.follows;
    }

pub returns-in-Err : goal.returns-in-Err
returns-in-Err g c =
    let served = c.in-Err.ensures.serves in
    record {
      plays = λ q work. record {
        goes = tt;
        stops = serial_halts c.args.starters.now c.args.state.now _ _ (stopper c.in-Err.stop) q work
            (served.plays q).stops;
      };
      end = tt;
      keeps = record {
        sound = tt;
        count = tt;
        round = tt;
        uncounted = served.round.round;
        marked = served.round.marked;
      };
      follows = c.run_serial.ensures.follows;
    }
