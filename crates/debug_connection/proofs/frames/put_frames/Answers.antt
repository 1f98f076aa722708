use Rattle.std.proofs.Common.{ap, ◌∙◌}
use Rattle.dos_io.specs.Outside.{grown}
use Rattle.dos_io.proofs.OutsideLaws.{grown-nothing}
use Rattle.debug_connection.proofs.Fronts.{on_err_to, front_acknowledged}
use Rattle.debug_connection.specs.Keeping.{texts_of}
use Rattle.debug_connection.proofs.frames.put_frames.Goals as goal
use Rattle.debug_connection.proofs.frames.put_frames.Goals.{then-acknowledges+in_ok-put}
use Rattle.debug_connection.proofs.frames.put_frames.Goals.{else-acknowledges}

pub returns-clause-err : goal.returns-clause-err
returns-clause-err g c =
    on_err_to c.put_all.result
    (front_acknowledged c.args.acknowledges _ (g.O.Sink.told c.if-acknowledges.out) _
    (texts_of c.args.frames.now)
    (elim c.if-acknowledges.branch [
      | then-acknowledges+in_ok-put w ↦ rw (w.out-is, w.if-acknowledges.true)
          (w.in_ok-put.ensures.ok ∙ ap (grown _) w.as_bytes.ensures.value)
      | else-acknowledges w ↦ rw (w.out-is, w.if-acknowledges.false) (grown-nothing _)
    ]))
    c.put_all.ensures.err
