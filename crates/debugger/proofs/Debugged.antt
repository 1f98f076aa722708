-- How a run was shown, from the start of its history on.
use Rattle.std.proofs.Common.{◌≡◌, ℕ, inr, List, Result, Option, sym, subst}
use Rattle.std.specs.Prelude.{⊤}
use Rattle.dos_io.specs.Hosts.{Told}
use Rattle.dos_world.specs.declared.Config.{Config}
use Rattle.dos_world.specs.declared.Scheme.TheVariants.{Ownership}
use Rattle.elf_image.specs.Image.{Image}
use Rattle.log_text.specs.LogText.{Log}
use Rattle.logged_runs.specs.Recording.{HostSeen}
use Rattle.logged_runs.specs.Replaying.{config_of}
use Rattle.debug_connection.specs.Serving.{HasServed}
use Rattle.debug_connection.specs.declared.stops.ServeStop.{ServeStop}
use Rattle.debug_connection.specs.declared.stops.ServeStop.TheVariants.{HostFault, SinkFault}
use Rattle.debug_connection.specs.declared.stops.ServeStop.TheVariants.{Memory}
use Rattle.debug_session.specs.Positions.{Position}
use Rattle.debug_session.specs.Sessions.{Session, opening_session}
use Rattle.recorded_walk.specs.Following.{log_entries}
use Rattle.recorded_walk.specs.Laws.{HistoriesStart}
use Rattle.recorded_walk.specs.Playbacks.{IsStart}
use Rattle.debugger.specs.Debugging.{HasDebugged, HasFailed, HasStopped, debug_stop}
use Rattle.debugger.specs.Debugging.{recording_of}
use Rattle.debugger.specs.Standing.{SessionView, IsSessionOf}

pub was_debugged : HistoriesStart → (k : SessionView) (images : List Image)
    (names files : List (List ℕ)) (log : Log) (config : Config) (result : Result ⊤ ServeStop)
    (told : Option Told) (out out_after : Option (List ℕ)) → config ≡ config_of Ownership log.header
    → ((start : Position) → IsStart images config (log_entries log) start
    → IsSessionOf k (opening_session (recording_of names files log) start))
    → ((s : Session) → IsSessionOf k s → HasServed s result told out out_after)
    → HasDebugged images names files log result told out out_after
was_debugged starts k images names files log config result told out out_after is shown served =
    let found = starts images (config_of Ownership log.header) (log_entries log) in
    record {
      start = found.0;
      is_start = found.1;
      served = served (opening_session (recording_of names files log) found.0)
          (shown found.0 (subst (λ (c : Config). IsStart images c (log_entries log) found.0)
          (sym is) found.1));
    }

-- The whole call is stopped by what stops the session.
pub stopped_so : (images : List Image) (names files : List (List ℕ)) (log : Log)
    (stop : ServeStop) (host host_after : HostSeen) (out out_after : Option (List ℕ))
    → HasFailed images names files log stop host.told out out_after
    → HasStopped images names files log (debug_stop stop) host host_after out out_after
stopped_so images names files log HostFault host host_after out out_after failed = failed
stopped_so images names files log SinkFault host host_after out out_after failed = failed
stopped_so images names files log Memory host host_after out out_after failed = inr failed
