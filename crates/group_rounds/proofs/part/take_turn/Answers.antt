use Rattle.std.proofs.Common.{◌<◌, ℕ, [], ◌∷◌, sym, ap, subst, ◌∙◌, Option, None}
use Rattle.std.proofs.Common.{Some}
use Rattle.std.specs.Prelude.{Err, IfSome}
use Rattle.dos_world.specs.World.{Thread}
use Rattle.round_core.proofs.Faults.{step-small}
use Rattle.proc_table.specs.Tables.{IsLiveThread, Tables, thread_in}
use Rattle.kernel_calls.specs.StateWorld.{world_of}
use Rattle.group_rounds.proofs.TurnLaws.{grant_goes, grant_measure, fault_goes, service_goes}
use Rattle.group_rounds.proofs.TurnLaws.{on_measure, on_lives, served_count, parts_left, turn_plays}
use Rattle.group_rounds.proofs.part.take_turn.Goals as goal

-- ---- a fault

pub end_by_fault-requires : goal.end_by_fault-requires
end_by_fault-requires g c = record {
  sound = c.requires.sound;
  live = c.requires.live;
  small = step-small (world_of 0 c.args.state.now) c.args.tid c.in-Fault.number
      (c.requires.stops 0 [] [] ∙ ap Err c.in-Fault.is);
}

pub returns-in-Fault : goal.returns-in-Fault
returns-in-Fault g c =
    let ended = c.end_by_fault.ensures in
    record {
      plays = λ q. record {
        goes = fault_goes c.args.state.now c.end_by_fault.new.state c.args.tid c.in-Fault.number
            c.requires.budget (λ q o e. c.requires.stops q o e ∙ ap Err c.in-Fault.is) ended.ends q
            (g.B.Border.state c.args.border.now);
        stops = tt;
      };
      less = λ on. cc;
      live = λ on. cc;
      sound = ended.sound;
      parts = λ ts. ended.parts ts;
      round = ended.round;
      count = ended.count;
      follows = g.met.B.Border.reflexive c.args.border.now;
    }

-- ---- a page

pub grant-requires : goal.grant-requires
grant-requires g c = record { sound = c.requires.sound; live = c.requires.live }

pub returns-in-Page : goal.returns-in-Page
returns-in-Page g c =
    let granted = c.grant.ensures in
    record {
      plays = λ q. record {
        goes = grant_goes c.args.state.now c.grant.new.state c.args.tid c.in-Page.address
            c.in-Page.access c.requires.sound c.requires.budget
            (λ q o e. c.requires.stops q o e ∙ ap Err c.in-Page.is) granted.grants granted.table q
            (g.B.Border.state c.args.border.now);
        stops = tt;
      };
      less = λ on.
          grant_measure c.args.state.now c.grant.new.state c.args.tid c.in-Page.address
          c.in-Page.access c.requires.sound c.requires.budget
          (λ q o e. c.requires.stops q o e ∙ ap Err c.in-Page.is) granted.grants granted.table;
      live = λ on.
          subst (λ (t : Tables). IsLiveThread t.threads c.args.tid) (sym granted.table)
          c.requires.live;
      sound = granted.sound;
      parts = λ ts. granted.parts (c.args.tid ∷ ts);
      round = granted.round;
      count = granted.count;
      follows = g.met.B.Border.reflexive c.args.border.now;
    }

-- ---- a service

pub serve-requires : goal.serve-requires
serve-requires g c = record {
  sound = c.requires.sound;
  live = c.requires.live;
  ready = c.requires.ready;
  budget = go (thread_in c.args.state.now.table.threads c.args.tid) c.requires.budget;
  told = c.requires.told;
}
  where
    go : (o : Option Thread) → 0 < (elim o as (λ _. ℕ) [ None ↦ 0 | Some thread ↦ thread.budget ])
        → IfSome o (λ thread. 0 < thread.budget)
    go None h = tt
    go (Some thread) h = h

pub returns-in-Ok : goal.returns-in-Ok
returns-in-Ok g c =
    let s = c.args.state.now in
    let s' = c.serve.new.state in
    let t = c.args.tid in
    let live = c.requires.live in
    let way = c.in-Ok.way in
    let answers = c.in-Ok.ensures.plays.ends in
    let goes_on = c.goes_on_after.ensures in
    record {
      plays = λ q. record {
        goes = rw c.goes_on_after.ensures
            (service_goes s s' t live _ _ way answers c.requires.budget
            (λ q o e. c.requires.stops q o e ∙ ap Err c.in-Service.is) q);
        stops = tt;
      };
      less = λ on. on_measure s s' t live _ _ way answers c.requires.budget (sym goes_on ∙ on);
      live = λ on. on_lives s s' t live _ _ way answers (sym goes_on ∙ on);
      sound = c.serve.ensures.sound;
      parts = λ ts parts. rw c.goes_on_after.ensures
          (parts_left way t ts s' (c.in-Ok.ensures.parts ts parts));
      round = c.serve.ensures.round;
      count = served_count s s' t live _ _ way answers;
      follows = c.serve.ensures.follows;
    }

pub returns-in-Err : goal.returns-in-Err
returns-in-Err g c = record {
  plays = λ q. record {
    goes = tt;
    stops = (turn_plays c.args.state.now c.serve.new.state c.args.tid c.requires.budget
        (λ q o e. c.requires.stops q o e ∙ ap Err c.in-Service.is) (Err c.in-Err.stop) _ _
        c.in-Err.ensures.plays q).stops;
  };
  less = tt;
  live = tt;
  sound = tt;
  parts = tt;
  round = c.serve.ensures.round;
  count = tt;
  follows = c.serve.ensures.follows;
}
