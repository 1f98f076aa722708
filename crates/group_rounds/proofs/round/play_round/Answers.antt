use Rattle.std.proofs.Common.{ℕ, ◌≢◌, is_some, ◌≤◌, refl, sym, ap, ◌∙◌, subst, length}
use Rattle.std.specs.Prelude.{Result, Ok, Err, IfOk, OnOk}
use Rattle.dos_world.specs.Numbered.{numbers_of}
use Rattle.dos_world.specs.Play.{done}
use Rattle.dos_io.specs.Shims.{HasNoEnd}
use Rattle.dos_laws.specs.Plays.{world_ended}
use Rattle.flat_machine.specs.Round.{begun, round_of}
use Rattle.worker_pool.proofs.Growing.{grew-nothing}
use Rattle.kernel_calls.proofs.Playing.{no_end_then, plays_after}
use Rattle.kernel_calls.specs.StateWorld.{sent, world_of}
use Rattle.group_rounds.specs.Rounds.{begun_work, end_in}
use Rattle.group_rounds.specs.declared.round.RoundEnd.TheVariants.{Done}
use Rattle.group_rounds.proofs.RoundLaws.{nobody_starts, round_began, round_begins, round_done}
use Rattle.group_rounds.proofs.RoundLaws.{round_stops}
use Rattle.group_rounds.proofs.ServesLaws.{keeps_still, keeps_then}
use Rattle.group_rounds.proofs.WorkLaws.{round_until, since_nothing}
use Rattle.group_rounds.proofs.round.play_round.Goals as goal

pub returns-then-live_threads-eq0 : goal.returns-then-live_threads-eq0
returns-then-live_threads-eq0 g c = record {
  plays = record {
    work = 0;
    plays = record {
      goes = round_done c.args.packs.now.scheme c.args.quantum c.args.state.now
          (g.B.Border.state c.args.border.now)
          (sym c.live_threads.ensures ∙ c.if-live_threads-eq0.true);
      stops = tt;
    };
    until = tt;
    grew = grew-nothing (g.W.Workers.tally c.args.workers.now);
  };
  starters = nobody_starts c.args.state.now (g.B.Border.state c.args.border.now).shim.told
      c.args.starters.now.items;
  room = c.requires.room;
  packs = refl;
  keeps = keeps_still Done c.args.state.now refl c.requires.sound;
  follows = g.met.B.Border.reflexive c.args.border.now;
  fixed = refl;
}

-- the shim stops at the first question
pub returns-in-Err : goal.returns-in-Err
returns-in-Err g c =
    let scheme = c.args.packs.now.scheme in
    let s = c.args.state.now in
    let live : length (numbers_of is_some s.table.threads) ≢ 0 =
    λ none. c.if-live_threads-eq0.false (c.live_threads.ensures ∙ none) in
    let stopped = c.in-Err.ensures.stopped in
    record {
      plays = record {
        work = 0;
        plays = record {
          goes = tt;
          stops = round_stops scheme c.args.quantum s c.requires.sound live c.in-Err.stop
              stopped.reason _ _ stopped.is stopped.stopped;
        };
        until = λ o e. ap (begun_work scheme (sent o e (world_of c.args.quantum s)))
            (since_nothing _ _ stopped.stopped.shim.told);
        grew = grew-nothing (g.W.Workers.tally c.args.workers.now);
      };
      starters = tt;
      room = c.open_round.ensures.room;
      packs = refl;
      keeps = record {
        sound = tt;
        count = tt;
        round = tt;
        uncounted = c.open_round.ensures.round.round;
        marked = c.open_round.ensures.round.marked;
      };
      follows = c.open_round.ensures.follows;
      fixed = refl;
    }

-- ---- and goes on after the signal point

pub open_round-requires-clause-sound : goal.open_round-requires-clause-sound
open_round-requires-clause-sound g c = c.requires.sound

pub open_round-requires-clause-room : goal.open_round-requires-clause-room
open_round-requires-clause-room g c = c.requires.room

pub open_round-requires-clause-told : goal.open_round-requires-clause-told
open_round-requires-clause-told g c = c.requires.told

pub play_begun-requires-clause-sound : goal.play_begun-requires-clause-sound
play_begun-requires-clause-sound g c = λ κs outlive. c.in-Ok.ensures.sound

pub play_begun-requires-clause-level : goal.play_begun-requires-clause-level
play_begun-requires-clause-level g c = λ κs outlive.
    c.requires.level ∙ sym c.open_round.ensures.count

pub play_begun-requires-clause-few : goal.play_begun-requires-clause-few
play_begun-requires-clause-few g c = λ κs outlive.
    subst (λ starters. length starters ≤ 64) (sym c.as_slice.ensures.value)
    c.in-Ok.ensures.few

pub play_begun-requires-clause-ready : goal.play_begun-requires-clause-ready
play_begun-requires-clause-ready g c = λ κs outlive.
    c.as_slice.ensures.value ∙ c.in-Ok.ensures.starters

pub play_begun-requires-clause-limit : goal.play_begun-requires-clause-limit
play_begun-requires-clause-limit g c = λ κs outlive.
    subst (λ (n : ℕ). n ≤ 1000000) (sym c.open_round.ensures.round.round) c.requires.limit

pub play_begun-requires-clause-told : goal.play_begun-requires-clause-told
play_begun-requires-clause-told g c = λ κs outlive.
    let opened = c.in-Ok.ensures.opened in
    subst HasNoEnd (sym opened.crosses.tells.exchanges)
    (no_end_then (g.B.Border.state c.args.border.now).shim.told _ c.requires.told tt)

pub returns-in-Ok : goal.returns-in-Ok
returns-in-Ok g c =
    let scheme = c.args.packs.now.scheme in
    let q = c.args.quantum in
    let s = c.args.state.now in
    let sound = c.requires.sound in
    let live : length (numbers_of is_some s.table.threads) ≢ 0 =
    λ none. c.if-live_threads-eq0.false (c.live_threads.ensures ∙ none) in
    let opened = c.in-Ok.ensures.opened in
    let s' = c.open_round.new.state in
    let result = c.play_begun.result in
    let last = c.play_begun.new.state in
    let e = c.play_begun.ensures in
    let k = e.plays in
    record {
      plays = record {
        work = k.work;
        plays = plays_after q world_ended (λ w. round_of scheme w) (λ w. begun scheme w)
            (λ end w. done (end_in end k.work w)) result s s' last _ _ _
            (round_begins scheme q s sound live opened.list s' opened.begins _ _ opened.crosses)
            k.plays;
        until = round_until scheme q s s' last opened.list opened.begins
            (λ w. begun scheme w) _ _ _ opened.crosses result k.work k.plays.stops k.until;
        grew = k.grew;
      };
      starters = on_ok result _ _
          (λ end goes. round_began scheme q s sound live opened.list s' opened.begins _ _
          opened.crosses c.args.starters.now.items c.open_round.new.starters.items _ last _
          c.in-Ok.ensures.starters goes) k.plays.goes;
      room = c.open_round.ensures.room;
      packs = e.packs;
      keeps = keeps_then result s s' last c.open_round.ensures.round c.open_round.ensures.count
          e.keeps;
      follows = g.met.B.Border.transitive _ _ _ c.open_round.ensures.follows e.follows;
      fixed = e.fixed;
    }
  where
    on_ok : {T E : Type 0} (r : Result T E) (P : T → Type 0) (R : Type 0) → ((x : T) → P x → R)
        → IfOk r P → OnOk r R
    on_ok (Ok x) P R f h = f x h
    on_ok (Err e) P R f h = tt
