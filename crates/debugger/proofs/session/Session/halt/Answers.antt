use Rattle.std.proofs.Common.{◌≡◌, ◌++◌, ℕ, List, Some, None, true, refl, ap, sym}
use Rattle.std.proofs.Common.{subst, ◌∙◌}
use Rattle.std.specs.Prelude.{IfSome, [], if◌then◌else◌, option_to_list}
use Rattle.kernel_calls.specs.StateWorld.{sent, world_of}
use Rattle.debug_client.specs.Births.{BirthTables, has_process, has_processes}
use Rattle.debug_client.specs.Clients.{session_of}
use Rattle.debug_connection.specs.Keeping.{texts_of}
use Rattle.debug_session.specs.Halts.{Halt, halted_session}
use Rattle.debug_session.specs.Positions.{position_after}
use Rattle.debug_session.specs.Sessions.{Pair, Session}
use Rattle.debug_session.specs.Stops.{stop_text}
use Rattle.debugger.specs.Halting.{halt_meant, whose_stop}
use Rattle.debugger.specs.Standing.{IsSameRun, SessionView, recording_of}
use Rattle.debugger.proofs.Clients.{ready_with}
use Rattle.debugger.proofs.Halted.{halted_there, told_more}
use Rattle.debugger.proofs.Seen.{somewhere}
use Rattle.debugger.proofs.Staying.{asked_stays, run_on, same_on, start_stays}
use Rattle.debugger.proofs.session.Session.halt.Goals as goal

pub invariant_of-self-in_err-put_stop : goal.invariant_of-self-in_err-put_stop
invariant_of-self-in_err-put_stop c running =
    let kept = c.args.halt in
    let at = somewhere (sent [] [] (world_of 0 c.self.inside.playback.walk.state)) in
    let meant : Halt = record {
      position = at;
      stop = record { signal = kept.signal; whose = c.in_ok-whose.whose; cause = kept.cause };
      born = option_to_list kept.born;
      owed = c.owed_by-owed.result;
    } in
    let told = ap (λ (u : Session). u.told)
    (c.in_ok-halt.ensures.ok (recording_of c.args.self.now) at meant refl refl refl) in
    let births = ap (λ (a : SessionView). a.births) c.self.view_is ∙ c.in_ok-whose.ensures.births
    ∙ c.in_ok-go_to.ensures.births in
    ready_with _ c.halt.new.self (c.self.invariant running)
    (ap (has_processes c.self.inside.births) told
    ∙ told_more c.self.inside.births c.self.inside.client.told kept.born
    (c.self.invariant running).told
    (subst (λ (b : BirthTables). IfSome kept.born (λ p. has_process b p ≡ true)) (sym births)
    c.requires.born))

pub invariant_of-self-2 : goal.invariant_of-self-2
invariant_of-self-2 c running =
    let kept = c.args.halt in
    let at = somewhere (sent [] [] (world_of 0 c.self.inside.playback.walk.state)) in
    let meant : Halt = record {
      position = at;
      stop = record { signal = kept.signal; whose = c.in_ok-whose.whose; cause = kept.cause };
      born = option_to_list kept.born;
      owed = c.owed_by-owed.result;
    } in
    let told = ap (λ (u : Session). u.told)
    (c.in_ok-halt.ensures.ok (recording_of c.args.self.now) at meant refl refl refl) in
    let births = ap (λ (a : SessionView). a.births) c.self.view_is ∙ c.in_ok-whose.ensures.births
    ∙ c.in_ok-go_to.ensures.births in
    ready_with _ c.halt.new.self (c.self.invariant running)
    (ap (has_processes c.self.inside.births) told
    ∙ told_more c.self.inside.births c.self.inside.client.told kept.born
    (c.self.invariant running).told
    (subst (λ (b : BirthTables). IfSome kept.born (λ p. has_process b p ≡ true)) (sym births)
    c.requires.born))

pub returns-clause-halted : goal.returns-clause-halted
returns-clause-halted c start s is_start asked =
    let old = c.args.self.now in
    let went = c.go_to.new.self in
    let there = c.whose_here.new.self in
    let rs = c.args.resumptions.now in
    let kept = c.args.halt in
    let first = c.in_ok-go_to.ensures.same in
    let same = same_on old went there first c.in_ok-whose.ensures.same in
    let is_start_went = start_stays old went first.run start is_start in
    let asked_went = asked_stays old went first start s asked in
    let asked_there = asked_stays old there same start s asked in
    let whose : c.in_ok-whose.whose ≡ whose_stop s rs (position_after kept.moves start) kept.whose =
    c.in_ok-whose.ensures.whose start s is_start_went asked_went
    ∙ ap (λ (n : ℕ). whose_stop s rs (position_after n start) kept.whose)
    c.in_ok-go_to.ensures.moves in
    let meant : Halt = halt_meant s rs start kept in
    let owed : meant.owed ≡ c.owed_by-owed.result =
    ap (λ (p : Pair). if kept.is_owed then Some p.1 else None) (sym whose)
    ∙ sym c.owed_by-owed.ensures in
    let halted = c.in_ok-halt.ensures.ok (recording_of there) s.position meant (sym whose) refl owed
    ∙ ap (λ (a : SessionView).
    halted_session (session_of a.client (recording_of there) s.position) meant) c.self.view_is in
    let new : SessionView = record {
      playback = c.self.inside.playback;
      births = c.self.inside.births;
      furthest = c.self.inside.furthest;
      client = c.halt.new.self;
      watched = c.self.inside.watched;
      names = texts_of c.self.inside.names.items;
      files = texts_of c.self.inside.files.items;
      failed = c.self.inside.failed;
    } in
    let run : IsSameRun c.whose_here.new.self new = record {
      images = ap (λ (a : SessionView). a.playback.images) c.self.view_is;
      config = ap (λ (a : SessionView). a.playback.config) c.self.view_is;
      entries = ap (λ (a : SessionView). a.playback.entries) c.self.view_is;
      names = ap (λ (a : SessionView). a.names) c.self.view_is;
      files = ap (λ (a : SessionView). a.files) c.self.view_is;
    } in
    let moves = ap (λ (a : SessionView). a.playback.moves) c.self.view_is
    ∙ c.in_ok-whose.ensures.moves ∙ c.in_ok-go_to.ensures.moves in (
      halted_there there new run start s asked_there meant kept.moves moves refl halted,
      c.in_ok-put_stop.ensures
          ∙ ap (λ (l : List ℕ). l ++ stop_text (record {
            signal = kept.signal;
            whose = c.in_ok-whose.whose;
            cause = kept.cause;
          })) c.new-text.ensures.items
          ∙ ap (λ (p : Pair). stop_text (record {
            signal = kept.signal;
            whose = p;
            cause = kept.cause;
          })) whose,
    )

pub returns-clause-run : goal.returns-clause-run
returns-clause-run c =
    let new : SessionView = record {
      playback = c.self.inside.playback;
      births = c.self.inside.births;
      furthest = c.self.inside.furthest;
      client = c.halt.new.self;
      watched = c.self.inside.watched;
      names = texts_of c.self.inside.names.items;
      files = texts_of c.self.inside.files.items;
      failed = c.self.inside.failed;
    } in
    let run : IsSameRun c.whose_here.new.self new = record {
      images = ap (λ (a : SessionView). a.playback.images) c.self.view_is;
      config = ap (λ (a : SessionView). a.playback.config) c.self.view_is;
      entries = ap (λ (a : SessionView). a.playback.entries) c.self.view_is;
      names = ap (λ (a : SessionView). a.names) c.self.view_is;
      files = ap (λ (a : SessionView). a.files) c.self.view_is;
    } in
    run_on c.args.self.now c.whose_here.new.self new
    (run_on c.args.self.now c.go_to.new.self c.whose_here.new.self
    c.in_ok-go_to.ensures.same.run c.in_ok-whose.ensures.same.run) run
