use Rattle.logged_runs.proofs.OneRecording.{recording_replays}
use Rattle.logged_runs.proofs.laws.recordings_replay.Goals as goal

pub returns : goal.returns
returns c = recording_replays
