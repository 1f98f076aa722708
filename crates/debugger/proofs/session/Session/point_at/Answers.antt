use Rattle.std.proofs.Common.{◌<◌, List, length, arith, ap, sym, subst, ◌∙◌}
use Rattle.std.specs.Prelude.{slice_get}
use Rattle.std.proofs.lemmas.Option.{slice_get-get_or}
use Rattle.debug_session.specs.declared.points.Watchpoint.{Watchpoint}
use Rattle.debugger.specs.Standing.{SessionView}
use Rattle.debugger.proofs.session.Session.point_at.Goals as goal

pub returns : goal.returns
returns c =
    let points = c.watchpoints.result.now in
    let there = c.watchpoints.ensures
    ∙ ap (λ (a : SessionView). a.client.watchpoints) c.self.view_is in
    let within : c.args.index < length points =
    subst (λ (l : List Watchpoint). c.args.index < length l) (sym there) c.requires in
    ap (λ (l : List Watchpoint). slice_get l c.args.index) (sym there)
    ∙ slice_get-get_or points c.args.index _ within
