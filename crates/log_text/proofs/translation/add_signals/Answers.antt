use Rattle.log_text.proofs.GrowingLaws.{fits_grown}
use Rattle.log_text.proofs.translation.add_signals.Goals as goal

pub push_signals-requires-clause-room : goal.push_signals-requires-clause-room
push_signals-requires-clause-room c =
    rw c.reserve.ensures.list
    (fits_grown _ _ _ _ c.signals_bytes-bytes.ensures.value c.in_ok-reserve.ensures.room)
