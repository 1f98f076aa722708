use Rattle.std.proofs.Common.{Ok, Err, false, true}
use Rattle.std.specs.Prelude.{IfSome, ◌≡◌}
use Rattle.group_text.specs.GroupText.{group_row}
use Rattle.group_text.specs.Records.{group_of_record}
use Rattle.dos_cmd.specs.Judging.{resume_judgement, taken_group}
use Rattle.dos_cmd.specs.ResumeLeaves.{OfTakingGroup}
use Rattle.dos_cmd.proofs.ResumeEnds.{held_so, log_read, not_held}
use Rattle.dos_cmd.proofs.resume.take_saved.Goals as goal

pub returns-in-Ok-clause-taken : goal.returns-in-Ok-clause-taken
returns-in-Ok-clause-taken g c =
    let before = g.F.Files.content c.args.files.now in
    let read = g.F.Files.content c.read_saved.new.files in
    held_so c.hold.result (c.in_ok-group.group, c.in-Ok.log) _
    (λ x. IfSome (resume_judgement (before c.args.from.now) (before c.args.log.now))
    (λ j. j ≡ Ok (taken_group (group_of_record x.0) x.1))) c.hold.ensures.same
    c.hold.ensures.of_log
    (λ is. log_read before read c.args.from.now c.args.log.now (group_of_record c.in_ok-group.group)
    c.in_ok-group.ensures.stays c.in_ok-group.ensures.accepted c.in-Ok.log true is
    c.in-Ok.ensures.accepted c.in-Ok.ensures.found)

pub returns-in-Ok-clause-fits : goal.returns-in-Ok-clause-fits
returns-in-Ok-clause-fits g c =
    held_so c.hold.result (c.in_ok-group.group, c.in-Ok.log) _
    (λ x. group_row.Fits (group_of_record x.0)) c.hold.ensures.same c.hold.ensures.of_log
    (λ is. c.in_ok-group.ensures.fits)

pub returns-in-Ok-clause-refused : goal.returns-in-Ok-clause-refused
returns-in-Ok-clause-refused g c =
    let before = g.F.Files.content c.args.files.now in
    let read = g.F.Files.content c.read_saved.new.files in
    not_held c.hold.result _
    (λ why. OfTakingGroup why (λ w. IfSome
    (resume_judgement (before c.args.from.now) (before c.args.log.now)) (λ j. j ≡ Err w)))
    c.hold.ensures.refused tt
    (λ is. log_read before read c.args.from.now c.args.log.now (group_of_record c.in_ok-group.group)
    c.in_ok-group.ensures.stays c.in_ok-group.ensures.accepted c.in-Ok.log false is
    c.in-Ok.ensures.accepted c.in-Ok.ensures.found)
