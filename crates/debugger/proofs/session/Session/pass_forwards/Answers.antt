use Rattle.std.proofs.Common.{◌≡◌, ◌∙◌, ap, subst, sym}
use Rattle.debugger.specs.declared.forwards.Way.{Way}
use Rattle.debugger.specs.Halting.{HasKept, forwards_from}
use Rattle.debugger.specs.Quiet.{AreWatchedIn}
use Rattle.debugger.specs.Standing.{SessionView, here}
use Rattle.debugger.proofs.Passing.{passed_nobody, passed_there, was_not, was_so}
use Rattle.debugger.proofs.SilentPuts.{kept_silent}
use Rattle.debugger.proofs.session.Session.pass_forwards.Goals as goal
use Rattle.debugger.proofs.session.Session.pass_forwards.Goals.{else-is_there, then-is_there}

pub returns-clause-passes : goal.returns-clause-passes
returns-clause-passes c start s is_start asked quiet nobody =
    let rs = c.args.resumptions.now in
    let k0 = c.args.self.now in
    let k1 = c.run_on-silent.new.self in
    let way = c.with_here-way.result in
    let e = c.run_on-silent.ensures in
    let count = c.run_on-silent.result in
    let stops = c.args.stops.now in
    let frames = c.deref.result.now in
    let watched = subst (λ frames. AreWatchedIn (here k0 start).moment.world frames s.watchpoints)
    (sym c.deref.ensures.value) (c.in_ok-kept.ensures start s is_start asked) in
    let same = c.if-is_there-way.false in
    let noted = c.with_here-way.ensures.noted start s is_start asked in
    let there = c.is_anybody_there-is_there.ensures start s is_start asked in
    let silent = e.silent start is_start in
    let first = c.with_here-way.ensures.first ∙ c.requires.later in
    c.with_here-way.ensures.same start s is_start asked
    ∙ elim c.if-is_there.branch [
      | then-is_there w ↦ passed_there s rs stops frames quiet nobody start way k0.playback.moves
          count
          k1.playback.moves e.moves silent watched first
          (was_so way.was_there _ (sym there ∙ w.if-is_there.true) noted.there) noted
          (sym there ∙ w.if-is_there.true)
          ∙ ap (λ (x : Way). forwards_from s rs start x (here k1 start))
          (sym (w.way'-is ∙ ap (λ n. record way { last = n })
          (w.moves.ensures.moves ∙ ap (λ (k : SessionView). k.playback.moves) c.self.view_is)))
      | else-is_there w ↦ passed_nobody s rs stops frames quiet nobody start way k0.playback.moves
          count
          k1.playback.moves e.moves silent watched first
          (was_not way.was_there c.is_anybody_there-is_there.result w.if-is_there.false same)
          (sym there ∙ w.if-is_there.false)
          ∙ ap (λ (x : Way). forwards_from s rs start x (here k1 start)) (sym w.way'-is)
    ]

pub returns-clause-puts : goal.returns-clause-puts
returns-clause-puts c start first puts is_start from kept =
    let e = c.run_on-silent.ensures in
    let silent = e.silent start is_start in
    subst (λ n. HasKept start first n puts) (sym e.moves)
    (kept_silent start first c.args.self.now.playback.moves c.run_on-silent.result puts
    c.args.stops.now _ silent.thread from silent.silent kept)
