use Rattle.std.proofs.Common.{◌≢◌, is_some, refl, sym, ap, ◌∙◌, length, eqb-true, eq-eqb, subst}
use Rattle.std.proofs.lemmas.Bool.{true≢false}
use Rattle.dos_world.specs.Numbered.{numbers_of}
use Rattle.dos_world.specs.Play.{done}
use Rattle.dos_laws.specs.Plays.{world_ended}
use Rattle.flat_machine.specs.Round.{begun, phases}
use Rattle.worker_pool.proofs.Growing.{grew-nothing}
use Rattle.kernel_calls.proofs.Playing.{plays_from}
use Rattle.kernel_calls.specs.StateWorld.{HaveParts}
use Rattle.kernel_calls.proofs.Staying.{stays-then}
use Rattle.group_rounds.specs.Parts.{work_between}
use Rattle.group_rounds.specs.Phases.{AreLive}
use Rattle.group_rounds.specs.Rounds.{end_in}
use Rattle.group_rounds.specs.declared.round.RoundEnd.TheVariants.{Done, Stalled}
use Rattle.group_rounds.proofs.RoundLaws.{begun_done, begun_stalls, grew_so, phase_ran, ready_still}
use Rattle.group_rounds.proofs.RoundLaws.{phases_begin, phases_play}
use Rattle.group_rounds.proofs.ServesLaws.{keeps_still, keeps_then}
use Rattle.group_rounds.proofs.Sound.{parts_begin, parts_behind}
use Rattle.group_rounds.proofs.Starters.{ready_live}
use Rattle.group_rounds.proofs.WorkLaws.{for_err}
use Rattle.group_rounds.proofs.round.play_begun.Goals as goal

-- nobody lives
pub returns-then-live_threads-eq0 : goal.returns-then-live_threads-eq0
returns-then-live_threads-eq0 g c = record {
  plays = record {
    work = 0;
    plays = record {
      goes = begun_done c.args.packs.now.scheme c.args.quantum c.args.state.now
          (g.B.Border.state c.args.border.now)
          (sym c.live_threads.ensures ∙ c.if-live_threads-eq0.true);
      stops = tt;
    };
    until = tt;
    grew = grew-nothing (g.W.Workers.tally c.args.workers.now);
  };
  packs = refl;
  keeps = keeps_still Done c.args.state.now refl c.requires.sound;
  follows = g.met.B.Border.reflexive c.args.border.now;
  fixed = refl;
}

-- nobody is ready
pub returns-then-is_empty : goal.returns-then-is_empty
returns-then-is_empty g c = record {
  plays = record {
    work = 0;
    plays = record {
      goes = begun_stalls c.args.packs.now.scheme c.args.quantum c.args.state.now
          (λ none. c.if-live_threads-eq0.false (c.live_threads.ensures ∙ none))
          (g.B.Border.state c.args.border.now)
          (ap length (sym c.requires.ready)
          ∙ eqb-true _ 0 (sym c.is_empty.ensures ∙ c.if-is_empty.true));
      stops = tt;
    };
    until = tt;
    grew = grew-nothing (g.W.Workers.tally c.args.workers.now);
  };
  packs = refl;
  keeps = keeps_still Stalled c.args.state.now refl c.requires.sound;
  follows = g.met.B.Border.reflexive c.args.border.now;
  fixed = refl;
}

-- ---- the phases

pub set_budgets-requires-clause-live : goal.set_budgets-requires-clause-live
set_budgets-requires-clause-live g c =
    subst (AreLive c.args.state.now.table.threads) (sym c.requires.ready)
    (ready_live c.args.state.now.table.threads)

pub run-requires-clause-ready : goal.run-requires-clause-ready
run-requires-clause-ready g c =
    λ κs outlive. ready_still c.args.quantum c.args.state.now c.set_budgets.new.state
    c.args.starters.now c.requires.ready c.set_budgets.ensures.sets

-- who is ready has a part, and has it after the parallel phase
pub finish_round-requires-clause-parts : goal.finish_round-requires-clause-parts
finish_round-requires-clause-parts g c =
    parts_behind c.args.packs.now.scheme c.set_budgets.new.state c.run.new.state
    c.set_budgets.ensures.sound c.run.ensures.phase.runs c.args.starters.now
    (c.set_budgets.ensures.parts c.args.starters.now
    (subst (λ ts. HaveParts ts c.args.state.now) (sym c.requires.ready)
    (parts_begin c.args.state.now c.requires.sound)))

pub returns-clause-plays : goal.returns-clause-plays
returns-clause-plays g c =
    let scheme = c.args.packs.now.scheme in
    let q = c.args.quantum in
    let s = c.args.state.now in
    let starters = c.args.starters.now in
    let opening = c.set_budgets.new.state in
    let halfway = c.run.new.state in
    let live : length (numbers_of is_some s.table.threads) ≢ 0 =
    λ none. c.if-live_threads-eq0.false (c.live_threads.ensures ∙ none) in
    let some : length starters ≢ 0 =
    λ none. true≢false (sym (eq-eqb _ 0 none) ∙ sym c.is_empty.ensures ∙ c.if-is_empty.false) in
    let work = work_between opening halfway starters in
    record {
      work = work;
      plays = plays_from q world_ended (λ w. begun scheme w) (λ w. phases scheme w starters)
          (λ end w. done (end_in end work w)) c.finish_round.result s c.finish_round.new.state _ _
          (phases_begin scheme q s live starters c.requires.ready some)
          (phases_play scheme q s opening halfway starters c.requires.ready
          c.set_budgets.ensures.sets c.run.ensures.phase.runs c.finish_round.result
          c.finish_round.new.state _ _ (c.finish_round.ensures.plays q work));
      until = for_err c.finish_round.result (phase_ran scheme q s opening halfway starters
          c.requires.ready c.set_budgets.ensures.sets c.run.ensures.phase.runs);
      grew = grew_so c.finish_round.result _ _ _ c.finish_round.ensures.end c.run.ensures.tally;
    }

pub returns-clause-keeps : goal.returns-clause-keeps
returns-clause-keeps g c =
    keeps_then c.finish_round.result c.args.state.now c.run.new.state c.finish_round.new.state
    (stays-then c.run.ensures.phase.round c.set_budgets.ensures.round)
    (c.run.ensures.phase.count ∙ c.set_budgets.ensures.count) c.finish_round.ensures.keeps
