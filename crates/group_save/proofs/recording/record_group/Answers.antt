use Rattle.std.proofs.Common.{◌∙◌, ap, sym, subst}
use Rattle.std.specs.Prelude.{All, IsSome}
use Rattle.group_parts.specs.FrameLists.{framed}
use Rattle.group_save.proofs.Recorded.{few_given, recorded_fits, recorded_is, recorded_lawful}
use Rattle.group_save.proofs.Recorded.{recorded_world, words_slept_on}
use Rattle.group_save.proofs.recording.record_group.Goals as goal

pub record_kernel-requires-clause-sleepers : goal.record_kernel-requires-clause-sleepers
record_kernel-requires-clause-sleepers c = words_slept_on c.args.state c.requires.sound

pub record_kernel-requires-clause-given : goal.record_kernel-requires-clause-given
record_kernel-requires-clause-given c = few_given c.args.state c.requires.sound

pub record_frames-requires-clause-home : goal.record_frames-requires-clause-home
record_frames-requires-clause-home c = subst (λ f. All IsSome f.pages) (sym c.frames_of.ensures)
    c.requires.sound.counted.home.home

pub returns-in_ok-frames-in-Ok-clause-is : goal.returns-in_ok-frames-in-Ok-clause-is
returns-in_ok-frames-in-Ok-clause-is c =
    recorded_is c.args.digest c.args.used c.args.config c.args.state c.in-Ok.group c.in-Ok.ensures
    c.requires.sound c.requires.config c.requires.scheme c.requires.frames c.requires.rounds
    (c.in_ok-frames-in-Ok.ensures ∙ ap (λ f. framed f.pages f.owners) c.frames_of.ensures)
    c.with_frames.ensures

pub returns-in_ok-frames-in-Ok-clause-fits : goal.returns-in_ok-frames-in-Ok-clause-fits
returns-in_ok-frames-in-Ok-clause-fits c =
    recorded_fits c.args.digest c.args.used c.args.config c.args.state c.in-Ok.group
    c.in-Ok.ensures c.requires.sound c.requires.config c.requires.scheme c.requires.frames
    c.requires.rounds
    c.with_frames.result
    (recorded_is c.args.digest c.args.used c.args.config c.args.state c.in-Ok.group c.in-Ok.ensures
    c.requires.sound c.requires.config c.requires.scheme c.requires.frames c.requires.rounds
    (c.in_ok-frames-in-Ok.ensures ∙ ap (λ f. framed f.pages f.owners) c.frames_of.ensures)
    c.with_frames.ensures)

pub returns-in_ok-frames-in-Ok-clause-world : goal.returns-in_ok-frames-in-Ok-clause-world
returns-in_ok-frames-in-Ok-clause-world c =
    recorded_world c.args.digest c.args.used c.args.config c.args.state c.in-Ok.group
    c.in-Ok.ensures c.requires.sound c.requires.config c.requires.scheme c.requires.frames
    c.requires.rounds
    c.with_frames.result
    (recorded_is c.args.digest c.args.used c.args.config c.args.state c.in-Ok.group c.in-Ok.ensures
    c.requires.sound c.requires.config c.requires.scheme c.requires.frames c.requires.rounds
    (c.in_ok-frames-in-Ok.ensures ∙ ap (λ f. framed f.pages f.owners) c.frames_of.ensures)
    c.with_frames.ensures)

pub returns-in_ok-frames-in-Ok-clause-lawful : goal.returns-in_ok-frames-in-Ok-clause-lawful
returns-in_ok-frames-in-Ok-clause-lawful c =
    recorded_lawful c.args.digest c.args.used c.args.config c.args.state c.in-Ok.group
    c.in-Ok.ensures c.requires.sound c.requires.config c.requires.scheme c.requires.frames
    c.requires.rounds
    c.with_frames.result
    (recorded_is c.args.digest c.args.used c.args.config c.args.state c.in-Ok.group c.in-Ok.ensures
    c.requires.sound c.requires.config c.requires.scheme c.requires.frames c.requires.rounds
    (c.in_ok-frames-in-Ok.ensures ∙ ap (λ f. framed f.pages f.owners) c.frames_of.ensures)
    c.with_frames.ensures)
