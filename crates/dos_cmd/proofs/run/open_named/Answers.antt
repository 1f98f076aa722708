use Rattle.std.proofs.Common.{refl, []}
use Rattle.std.proofs.lemmas.Result.{err_from_is_err_and}
use Rattle.dos_cmd.specs.Outside.{outside, faults}
use Rattle.dos_cmd.specs.Requests.{request_asked}
use Rattle.dos_cmd.proofs.Asked.{later_opening, stopped_later}
use Rattle.dos_cmd.proofs.NotBegun.{says_nothing}
use Rattle.dos_cmd.proofs.RunEnds.{is_err_of}
use Rattle.dos_cmd.proofs.RunCalls.{images_refused, not_opened, same_images, taken_with}
use Rattle.dos_cmd.proofs.run.open_named.Goals as goal

pub returns-in_err-images-clause-leaves : goal.returns-in_err-images-clause-leaves
returns-in_err-images-clause-leaves g c =
    let p = err_from_is_err_and c.from_residual.result c.from_residual.ensures.1 in
    let load = c.in_err-images.ensures in
    rw (p.1, p.2) (λ n h out err t k l m. images_refused (request_asked c.args.request.now) n
    (outside (g.F.Files.tells c.args.files.now) (g.F.Files.content c.args.files.now)
    (g.F.Files.content c.load_all.new.files) h h out out err err t t)
    (faults (g.F.Files.faults c.args.files.now) (g.F.Files.faults c.load_all.new.files) k k l l m m)
    _ load.refused (λ e. load.fault (is_err_of _ _ e))
    (says_nothing _ refl refl load.stays refl refl))

pub returns-in_err-opened-clause-leaves : goal.returns-in_err-opened-clause-leaves
returns-in_err-opened-clause-leaves g c =
    let p = err_from_is_err_and c.from_residual-in_err-opened.result
    c.from_residual-in_err-opened.ensures.1 in
    let load = c.in_ok-images.ensures in
    rw (p.1, p.2) (λ n h out err t k l m. not_opened (request_asked c.args.request.now) n
    (outside (g.F.Files.tells c.args.files.now) (g.F.Files.content c.args.files.now)
    (g.F.Files.content c.load_all.new.files) h h out out err err t t)
    (faults (g.F.Files.faults c.args.files.now) (g.F.Files.faults c.load_all.new.files) k k l l m m)
    c.deref.result.now _ (same_images _ _ _ c.deref.ensures.value load.accepted)
    c.in_err-opened.ensures.refused (says_nothing _ refl refl load.stays refl refl))

pub returns-clause-opened : goal.returns-clause-opened
returns-clause-opened g c =
    let load = c.in_ok-images.ensures in
    let opening = c.in_ok-opened.ensures in record {
      images = c.deref.result.now;
      taken = λ n. taken_with (request_asked c.args.request.now) n
          (g.F.Files.content c.args.files.now) c.deref.result.now opening.room
          (same_images _ _ _ c.deref.ensures.value load.accepted);
      opened = opening.opened;
    }

pub returns-in_err-images-clause-asked : goal.returns-in_err-images-clause-asked
returns-in_err-images-clause-asked g c =
    let p = err_from_is_err_and c.from_residual.result c.from_residual.ensures.1 in
    rw (p.1, p.2) c.in_err-images.ensures.asked

pub returns-in_err-opened-clause-asked : goal.returns-in_err-opened-clause-asked
returns-in_err-opened-clause-asked g c =
    let p = err_from_is_err_and c.from_residual-in_err-opened.result
    c.from_residual-in_err-opened.ensures.1 in
    rw (p.1, p.2) (stopped_later [] c.args.request.now.names.now _ _ _
    (later_opening c.deref.result.now c.args.request.now.config _
    c.in_err-opened.ensures.refused) c.in_ok-images.ensures.asked)

pub returns-clause-asked : goal.returns-clause-asked
returns-clause-asked g c = c.in_ok-images.ensures.asked
