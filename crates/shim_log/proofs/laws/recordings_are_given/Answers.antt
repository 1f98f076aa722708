use Rattle.shim_log.proofs.RecorderLaws.{recording_given}
use Rattle.shim_log.proofs.laws.recordings_are_given.Goals as goal

pub returns-clause-given : goal.returns-clause-given
returns-clause-given c = recording_given

pub returns-clause-header : goal.returns-clause-header
returns-clause-header c = λ posts clock header room after a b m n follows. follows.header_same
