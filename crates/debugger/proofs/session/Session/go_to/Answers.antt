use Rattle.std.proofs.Common.{ap, arith, subst, ◌≡◌, ◌∙◌}
use Rattle.kernel_calls.specs.declared.state.State.{State}
use Rattle.debugger.specs.Standing.{SessionView}
use Rattle.debugger.proofs.Ready.{NotesNow, none_born, ready_noted}
use Rattle.debugger.proofs.session.Session.go_to.Goals as goal

pub invariant_of-self-2 : goal.invariant_of-self-2
invariant_of-self-2 c = λ _.
    let ready = c.self.invariant (ap (λ (k : SessionView). k.failed) c.self.view_is
    ∙ c.requires.running) in
    let furthest = ap (λ (k : SessionView). k.furthest) c.self.view_is in
    let reach = ready.reach in
    let notes : NotesNow c.self.inside.births c.note.new.self c.go_to.new.self.walk.state =
    subst (λ (s : State). NotesNow c.self.inside.births c.note.new.self s) c.state.ensures.state
    (record {
      known = c.in_ok-note.ensures.known;
      there = c.in_ok-note.ensures.there;
      grows = c.in_ok-note.ensures.grows;
      same = c.in_ok-note.ensures.same;
      images = c.in_ok-note.ensures.images;
      whole = c.in_ok-note.ensures.whole;
    }) in
    ready_noted c.histories_start.ensures _ ready c.go_to.new.self c.go_to.ensures.same
    c.in_ok-go_to.ensures.failed c.in_ok-go_to.ensures.stands
    (omega (arith, furthest, c.requires.furthest, c.in_ok-go_to.ensures.moves))
    (omega (arith, reach, c.in_ok-go_to.ensures.reached)) c.note.new.self notes

pub returns-clause-births : goal.returns-clause-births
returns-clause-births c =
    let ready = c.self.invariant (ap (λ (k : SessionView). k.failed) c.self.view_is
    ∙ c.requires.running) in
    let furthest = ap (λ (k : SessionView). k.furthest) c.self.view_is in
    let reach = ready.reach in
    let notes : NotesNow c.self.inside.births c.note.new.self c.go_to.new.self.walk.state =
    subst (λ (s : State). NotesNow c.self.inside.births c.note.new.self s) c.state.ensures.state
    (record {
      known = c.in_ok-note.ensures.known;
      there = c.in_ok-note.ensures.there;
      grows = c.in_ok-note.ensures.grows;
      same = c.in_ok-note.ensures.same;
      images = c.in_ok-note.ensures.images;
      whole = c.in_ok-note.ensures.whole;
    }) in
    none_born c.histories_start.ensures _ ready c.go_to.new.self c.go_to.ensures.same
    c.in_ok-go_to.ensures.failed c.in_ok-go_to.ensures.stands
    (omega (arith, furthest, c.requires.furthest, c.in_ok-go_to.ensures.moves))
    (omega (arith, reach, c.in_ok-go_to.ensures.reached)) c.note.new.self notes
    ∙ ap (λ (k : SessionView). k.births) c.self.view_is
