-- How a run that was recorded is shown to a debugger. This project's own rule.
use Rattle.std.specs.Prelude.{◌≡◌, ◌≤◌, ◌<◌, ◌⊎◌, ⊤, ℕ, List, Option, Result, Err}
use Rattle.debug_connection.specs.Serving.{HasServed}
use Rattle.debug_connection.specs.declared.stops.ServeStop.{ServeStop}
use Rattle.debug_connection.specs.declared.stops.ServeStop.TheVariants as serve
use Rattle.debug_session.specs.Positions.{Position}
use Rattle.debug_session.specs.Recordings.{Recording}
use Rattle.debug_session.specs.Sessions.{opening_session}
use Rattle.dos_io.specs.Hosts.{Told}
use Rattle.dos_world.specs.declared.Scheme.TheVariants.{Ownership}
use Rattle.elf_image.specs.Image.{Image}
use Rattle.flat_machine.specs.Opening.{needed}
use Rattle.log_text.specs.LogText.{Log}
use Rattle.logged_runs.specs.Recording.{HostSeen}
use Rattle.logged_runs.specs.Replaying.{config_of}
use Rattle.recorded_walk.specs.Following.{log_entries}
use Rattle.recorded_walk.specs.Playbacks.{IsStart}
use Rattle.debugger.specs.declared.stops.DebugStop.{DebugStop}
use Rattle.debugger.specs.declared.stops.DebugStop.TheVariants as debugs

-- what a session is about: the names and the bytes of the files, and what the log holds
abbrev pub recording_of : (names files : List (List ℕ)) → Log → Recording
recording_of names files log = record {
  names = names;
  files = files;
  limit = log.header.rounds;
  entries = log_entries log;
}

-- The run of these images by this log in the ownership scheme was shown from its start on, as one
-- of files with these names and bytes: to the end of the input, or until the session stopped so.
pub record HasDebugged (images : List Image) (names files : List (List ℕ)) (log : Log)
    (result : Result ⊤ ServeStop) (told : Option Told) (out out_after : Option (List ℕ)) : Type 0
  where
    pub start : Position
    pub is_start : IsStart images (config_of Ownership log.header) (log_entries log) start
    pub served : HasServed (opening_session (recording_of names files log) start) result told out
        out_after

-- The host was asked nothing, and nothing was put.
pub record IsUntouched (host host_after : HostSeen) (out out_after : Option (List ℕ)) : Type 0
  where
    pub host_stays : host_after ≡ host
    pub out_stays : out_after ≡ out

-- There was room, and the session stopped so.
pub record HasFailed (images : List Image) (names files : List (List ℕ)) (log : Log)
    (why : ServeStop) (told : Option Told) (out out_after : Option (List ℕ)) : Type 0 where
  pub room : needed images ≤ log.header.frames
  pub debugged : HasDebugged images names files log (Err why) told out out_after

-- why a session was stopped, of the whole call
abbrev pub debug_stop : ServeStop → DebugStop
debug_stop serve.HostFault = debugs.HostFault
debug_stop serve.SinkFault = debugs.SinkFault
debug_stop serve.Memory = debugs.Memory

-- Why the input wasn't read to its end, and what stands then. Without room there is no session;
-- want of memory comes before it or in it.
abbrev pub HasStopped : List Image → (names files : List (List ℕ)) → Log → DebugStop
    → (host host_after : HostSeen) → (out out_after : Option (List ℕ)) → Type 0
HasStopped images names files log (debugs.NoRoom n frames) host host' out out' =
    (n ≡ needed images) × (frames ≡ log.header.frames) × (log.header.frames < needed images)
    × IsUntouched host host' out out'
HasStopped images names files log debugs.HostFault host host' out out' =
    HasFailed images names files log serve.HostFault host.told out out'
HasStopped images names files log debugs.SinkFault host host' out out' =
    HasFailed images names files log serve.SinkFault host.told out out'
HasStopped images names files log debugs.Memory host host' out out' =
    IsUntouched host host' out out'
    ⊎ HasFailed images names files log serve.Memory host.told out out'
