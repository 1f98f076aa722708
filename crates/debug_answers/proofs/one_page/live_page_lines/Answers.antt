use Rattle.std.proofs.Common.{ℕ, List, ◌∙◌, sym, ap}
use Rattle.std.proofs.lemmas.Result.{IfOk-weaker}
use Rattle.dos_world.specs.World.{look}
use Rattle.dos_world.specs.declared.Entry.{Entry}
use Rattle.kernel_calls.specs.StateWorld.{world_of}
use Rattle.debug_session.specs.Pages.{page_lines_of}
use Rattle.debug_answers.proofs.Finding.{found}
use Rattle.debug_answers.proofs.Frames.{space_is}
use Rattle.debug_answers.proofs.one_page.live_page_lines.Goals as goal

pub returns-in-None : goal.returns-in-None
returns-in-None c =
    let s = c.args.state.now in
    let is = space_is s c.args.process c.space.result.now.entries c.requires.sound c.requires.live
    c.space.ensures.entries in
    IfOk-weaker c.unmapped_lines.result _ _
    (λ lines told q. told ∙ sym (ap (page_lines_of (world_of q s) c.args.process c.args.page)
    (ap (λ (es : List (ℕ × Entry)). look es c.args.page) (sym is) ∙ sym c.look.ensures
    ∙ c.in-None.is)))
    c.unmapped_lines.ensures

pub mapped_lines-requires-clause-frame : goal.mapped_lines-requires-clause-frame
mapped_lines-requires-clause-frame c =
    (found c.args.state.now c.args.process c.args.page c.in-Some.entry
    c.space.result.now.entries c.requires.sound c.requires.live c.space.ensures.entries
    (sym c.look.ensures ∙ c.in-Some.is)).within

pub returns-in-Some : goal.returns-in-Some
returns-in-Some c =
    let s = c.args.state.now in
    let is = space_is s c.args.process c.space.result.now.entries c.requires.sound c.requires.live
    c.space.ensures.entries in
    IfOk-weaker c.mapped_lines.result _ _
    (λ lines told q. told q ∙ sym (ap (page_lines_of (world_of q s) c.args.process c.args.page)
    (ap (λ (es : List (ℕ × Entry)). look es c.args.page) (sym is) ∙ sym c.look.ensures
    ∙ c.in-Some.is)))
    c.mapped_lines.ensures
