use Rattle.std.proofs.Common.{◌≡◌, ◌≤◌, ℕ, subst, sym}
use Rattle.debug_connection.specs.Keeping.{texts_of}
use Rattle.dos_world.specs.declared.Config.{Config}
use Rattle.dos_world.specs.declared.Scheme.TheVariants.{Ownership}
use Rattle.log_text.specs.LogText.{Log}
use Rattle.logged_runs.specs.Replaying.{config_of}
use Rattle.logged_runs.specs.Recording.{host_seen}
use Rattle.debugger.specs.Debugging.{HasStopped}
use Rattle.debugger.specs.declared.stops.DebugStop.{DebugStop}
use Rattle.debugger.proofs.Debugged.{stopped_so, was_debugged}
use Rattle.debugger.proofs.serving.debug_group.Goals as goal

-- what was given has as many frames as the log says
room_by : (log : Log) (config : Config) (n : ℕ) → config ≡ config_of Ownership log.header
    → n ≤ config.frames → n ≤ log.header.frames
room_by log config n is room = subst (λ (k : Config). n ≤ k.frames) is room

pub returns-in-Ok-served-clause-done : goal.returns-in-Ok-served-clause-done
returns-in-Ok-served-clause-done g c =
    was_debugged c.histories_start.ensures c.in-Ok.session c.args.images.items
    (texts_of c.args.names.items) (texts_of c.args.files.items) c.args.log c.config_of-config.result
    _ _ _ _ c.config_of-config.ensures.config c.in-Ok.ensures.shows c.in-Ok-served.ensures.served

pub returns-in-Err-clause-stopped : goal.returns-in-Err-clause-stopped
returns-in-Err-clause-stopped g c =
    subst (λ (d : DebugStop). HasStopped c.args.images.items (texts_of c.args.names.items)
    (texts_of c.args.files.items) c.args.log d
    (host_seen (g.H.Host.told c.args.host.now) (g.H.Host.asked c.args.host.now))
    (host_seen (g.H.Host.told c.serve-served.new.host) (g.H.Host.asked c.serve-served.new.host))
    (g.O.Sink.told c.args.out.now) (g.O.Sink.told c.serve-served.new.out))
    (sym c.debug_stop.ensures)
    (stopped_so c.args.images.items (texts_of c.args.names.items) (texts_of c.args.files.items)
    c.args.log c.in-Err.stop _ _ _ _ (record {
      room = room_by c.args.log c.config_of-config.result _ c.config_of-config.ensures.config
          c.in-Ok.ensures.room;
      debugged = was_debugged c.histories_start.ensures c.in-Ok.session c.args.images.items
          (texts_of c.args.names.items) (texts_of c.args.files.items) c.args.log
          c.config_of-config.result _ _ _ _ c.config_of-config.ensures.config
          c.in-Ok.ensures.shows c.in-Err.ensures.served;
    }))
