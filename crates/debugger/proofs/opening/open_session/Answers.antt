use Rattle.std.proofs.Common.{ap, arith, length, refl, subst, sym, ℕ, ◌∙◌}
use Rattle.std.proofs.lemmas.List.{length-map}
use Rattle.std.specs.Global.{Vec}
use Rattle.kernel_calls.specs.declared.state.State.{State}
use Rattle.debug_client.specs.Births.{no_births}
use Rattle.debug_client.specs.Clients.{opening_client}
use Rattle.debugger.proofs.Opened.{first_ready}
use Rattle.debugger.proofs.Ready.{NotesNow}
use Rattle.debugger.proofs.opening.open_session.Goals as goal

pub invariant_of-result : goal.invariant_of-result
invariant_of-result c = λ _.
    let count = length-map c.args.names.items (λ (v : Vec ℕ). v.items) in
    let notes : NotesNow c.new-births.result c.note.new.self c.in-Ok.playback.walk.state =
    subst (λ (s : State). NotesNow c.new-births.result c.note.new.self s) c.state.ensures.state
    (record {
      known = c.in-Ok-note.ensures.known;
      there = c.in-Ok-note.ensures.there;
      grows = c.in-Ok-note.ensures.grows;
      same = c.in-Ok-note.ensures.same;
      images = c.in-Ok-note.ensures.images;
      whole = c.in-Ok-note.ensures.whole;
    }) in
    first_ready c.histories_start.ensures _ c.in-Ok.ensures.running c.in-Ok.ensures.stands
    c.in-Ok.ensures.start refl c.new-births.result notes
    (c.new-births.ensures.none
    ∙ ap no_births (omega (arith, count, c.len-count.ensures, c.requires.names, c.requires.few)))
    c.new-births.ensures.known
    (c.in-Ok-new.ensures.is
    ∙ ap opening_client
    (omega (arith, count, c.len-count.ensures, c.requires.names, c.requires.few)))
    (count ∙ c.requires.names ∙ sym (ap length c.in-Ok.ensures.images))
    (omega (arith, count, c.requires.names, c.requires.few))
