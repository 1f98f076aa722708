use Rattle.std.proofs.Common.{sym, ◌∙◌}
use Rattle.logged_runs.proofs.Stops.{not_stopped, other_stop, stop_is, this_stop}
use Rattle.logged_runs.proofs.FromOpening.{is_told}
use Rattle.logged_runs.specs.Recording.{HostSeen, host_seen}
use Rattle.logged_runs.proofs.Recordings.{asked_followed, followed, host_never, host_rose}
use Rattle.logged_runs.proofs.Recordings.{host_stands, no_end_told, recorded}
use Rattle.logged_runs.proofs.Recordings.{recorded_ahead, stopped}
use Rattle.logged_runs.proofs.recording.record_group.Goals as goal

pub run_group-requires-clause-running : goal.run_group-requires-clause-running
run_group-requires-clause-running g c = λ κs alive. c.requires.running

pub run_group-requires-clause-told : goal.run_group-requires-clause-told
run_group-requires-clause-told g c = λ κs alive.
    no_end_told c.of-shim.result.ledger c.args.ledger c.of-shim.ensures.ledger c.requires.begins

pub into_parts-host-requires : goal.into_parts-host-requires
into_parts-host-requires g c =
    let run = c.in-Ok.ensures in
    record { ended = is_told _ _ _ run.told_end }

pub returns-in-Ok : goal.returns-in-Ok
returns-in-Ok g c =
    let run = c.in-Ok.ensures in
    let parts = c.into_parts-host.ensures in
    let left = c.host-1.given.1 (sym (parts.same ∙ run.follows.0 ∙ c.of-shim.ensures.host))
    ∙ c.hand_back.ensures ∙ parts.value in
    let follows = followed g.H.Host.told g.H.Host.faults _ _ _ _ _ _ c.of-shim.ensures.value left
    run.follows.1 in
    let asks = asked_followed g.H.Host.asked g.H.Host.faults _ _ _ _ _ _
    c.of-shim.ensures.value left run.follows.2 in
    let before : HostSeen = host_seen (g.H.Host.told c.args.host.now)
    (g.H.Host.asked c.args.host.now) in
    let after : HostSeen = host_seen (g.H.Host.told c.host-1.given.0)
    (g.H.Host.asked c.host-1.given.0) in
    record {
      ran = recorded c.args.kernel.now c.args.ledger c.of-shim.result.ledger
          c.run_group.new.shim.ledger before after _ _ _ _ _ _ c.of-shim.ensures.ledger
          c.requires.begins follows asks c.into_parts-host.result.1 c.run_group.new.kernel
          c.in-Ok.ending _ _ run.runs.0 run.runs.1 run.runs.2 run.causes.stands.last c.look.ensures
          parts.log parts.version parts.header c.len-exchanges.ensures.fits parts.small;
      stopped = tt;
      cut = tt;
      host_cause = λ is. absurd (not_stopped _ _ is);
      host_steady = λ _. host_never c.args.kernel.now c.args.ledger c.of-shim.result.ledger
          c.run_group.new.shim.ledger before after _ _ (g.O.Sink.told c.args.out.now)
          (g.E.Sink.told c.args.err.now) (g.O.Sink.told c.args.out.now)
          (g.E.Sink.told c.args.err.now) c.of-shim.ensures.ledger c.requires.begins follows asks
          run.causes.stands.last;
      sinks = tt;
      host_later = follows.grows;
      out_later = run.causes.out_later;
      out_steady = λ _. run.out_steady (not_stopped _ _);
      err_steady = λ _. run.err_steady (not_stopped _ _);
      err_later = run.causes.err_later;
      fixed = run.fixed;
    }

pub returns-in-Err : goal.returns-in-Err
returns-in-Err g c =
    let run = c.in-Err.ensures in
    let host = c.into_host.ensures in
    let left = c.host-in-Err-1.given.1 (sym (host.same ∙ run.follows.0 ∙ c.of-shim.ensures.host))
    ∙ c.hand_back-in-Err.ensures ∙ host.value in
    let follows = followed g.H.Host.told g.H.Host.faults _ _ _ _ _ _ c.of-shim.ensures.value left
    run.follows.1 in
    let asks = asked_followed g.H.Host.asked g.H.Host.faults _ _ _ _ _ _
    c.of-shim.ensures.value left run.follows.2 in
    let before : HostSeen = host_seen (g.H.Host.told c.args.host.now)
    (g.H.Host.asked c.args.host.now) in
    let after : HostSeen = host_seen (g.H.Host.told c.host-in-Err-1.given.0)
    (g.H.Host.asked c.host-in-Err-1.given.0) in
    record {
      ran = tt;
      stopped = stopped c.args.kernel.now c.args.ledger c.of-shim.result.ledger
          c.run_group.new.shim.ledger before after _ _ _ _ _ _ c.of-shim.ensures.ledger
          c.requires.begins follows asks c.in-Err.stop run.asks run.causes.shim
          c.look-in-Err.ensures _ _ run.grew;
      cut = recorded_ahead c.args.kernel.now c.args.ledger c.of-shim.result.ledger
          c.run_group.new.shim.ledger before after _ _ _ _ _ _ c.of-shim.ensures.ledger
          c.requires.begins follows asks c.in-Err.stop run.causes.shim run.cut _ _ run.grew;
      host_cause = λ is. host_rose c.args.kernel.now c.args.ledger c.of-shim.result.ledger
          c.run_group.new.shim.ledger before after _ _ (g.O.Sink.told c.args.out.now)
          (g.E.Sink.told c.args.err.now) (g.O.Sink.told c.args.out.now)
          (g.E.Sink.told c.args.err.now) c.of-shim.ensures.ledger c.requires.begins follows asks
          c.in-Err.stop run.causes.shim (this_stop _ _ _ is);
      host_steady = λ other. host_stands c.args.kernel.now c.args.ledger c.of-shim.result.ledger
          c.run_group.new.shim.ledger before after _ _ _ _ _ _ c.of-shim.ensures.ledger
          c.requires.begins follows asks c.in-Err.stop run.asks run.causes.shim
          (λ is. other (stop_is _ _ _ is));
      sinks = run.causes.sinks;
      host_later = follows.grows;
      out_later = run.causes.out_later;
      out_steady = λ other. run.out_steady (other_stop _ _ _ _ other);
      err_steady = λ other. run.err_steady (other_stop _ _ _ _ other);
      err_later = run.causes.err_later;
      fixed = run.fixed;
    }
