use Rattle.std.proofs.Common.{ap, arith, false, subst, sym, true, ◌≡◌, ◌∙◌}
use Rattle.std.specs.Prelude.{max}
use Rattle.kernel_calls.specs.declared.state.State.{State}
use Rattle.debug_client.specs.Births.{BirthTables, knows_named}
use Rattle.debugger.specs.Standing.{SessionView}
use Rattle.debugger.proofs.Ready.{NotesNow, all_stay, ready_again, ready_on}
use Rattle.debugger.proofs.session.Session.advance.Goals as goal

pub invariant_of-self-2 : goal.invariant_of-self-2
invariant_of-self-2 c = λ _.
    let ready = c.self.invariant (ap (λ (k : SessionView). k.failed) c.self.view_is ∙ c.requires) in
    let reach = ready.reach in
    let notes : NotesNow c.self.inside.births c.note.new.self c.advance.new.self.walk.state =
    subst (λ (s : State). NotesNow c.self.inside.births c.note.new.self s) c.state.ensures.state
    (record {
      known = c.in_ok-note.ensures.known;
      there = c.in_ok-note.ensures.there;
      grows = c.in_ok-note.ensures.grows;
      same = c.in_ok-note.ensures.same;
      images = c.in_ok-note.ensures.images;
      whole = c.in_ok-note.ensures.whole;
    }) in
    ready_again _ false (ready_on c.histories_start.ensures _ ready c.advance.new.self
    c.advance.ensures.same c.in_ok-made.ensures.failed c.in_ok-made.ensures.stands c.note.new.self
    c.max-self-inside.result notes c.in_ok-made.made
    (c.max-self-inside.ensures ∙ ap (max c.self.inside.furthest) c.moves.ensures.moves)
    c.in_ok-made.ensures.moves c.in_ok-made.ensures.kind
    (omega (arith, reach, c.in_ok-made.ensures.reached))
    (omega (
      arith,
      c.moves.ensures.moves,
      c.moves.ensures.reached c.in_ok-made.ensures.failed,
    )))

pub returns-clause-known : goal.returns-clause-known
returns-clause-known c rs known =
    all_stay c.self.inside.births c.note.new.self c.in_ok-note.ensures.grows rs
    (subst (λ (b : BirthTables). knows_named b rs ≡ true)
    (sym (ap (λ (k : SessionView). k.births) c.self.view_is)) known)
