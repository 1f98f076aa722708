use Rattle.std.proofs.Common.{rules, ◌<◌, sym, ap, ◌∙◌, length, Some}
use Rattle.std.specs.Prelude.{slice_get}
use Rattle.quantum_run.proofs.Overlay.{within-own, within-lent, overlay-own, overlay-lent, get-of}
use Rattle.quantum_run.proofs.Overlay.{lent-page, some-at}
use Rattle.quantum_run.proofs.lent.Lent.page_of.Goals as goal

pub index-requires : goal.index-requires
index-requires c =
    let inside : c.args.frame < length c.args.self.now.own.items =
    within-own c.args.self.now.own.items c.args.self.now.frames.now.pages c.args.frame
    c.args.self.now.level c.requires in
    search (rules, inside)

pub bounds-self-frame : goal.bounds-self-frame
bounds-self-frame c = within-lent c.args.self.now.own.items c.args.self.now.frames.now.pages
    c.args.self.now.lent.now c.args.frame c.args.self.now.level c.args.self.now.same c.requires

pub lent_page-requires : goal.lent_page-requires
lent_page-requires c =
    let own = c.args.self.now.own.items in
    let lent = c.args.self.now.frames.now.pages in
    let inside : c.args.frame < length own =
    within-own own lent c.args.frame c.args.self.now.level c.requires in
    let found = lent-page own lent c.args.frame c.args.self.now.level c.requires
    (get-of own c.args.frame c.index.result.now inside c.index.ensures
    ∙ ap Some c.in-None.is) in
    some-at c.args.self.now.lent.now c.args.frame found.0 c.index-self-frame.result
    (ap (λ ps. slice_get ps c.args.frame) c.args.self.now.same ∙ found.1)

pub returns-in-Some : goal.returns-in-Some
returns-in-Some c =
    let own = c.args.self.now.own.items in
    let lent = c.args.self.now.frames.now.pages in
    let inside : c.args.frame < length own =
    within-own own lent c.args.frame c.args.self.now.level c.requires in
    overlay-own own lent c.args.frame c.in-Some.page c.args.self.now.level
    (get-of own c.args.frame c.index.result.now inside c.index.ensures
    ∙ ap Some c.in-Some.is)

pub returns-in-None : goal.returns-in-None
returns-in-None c =
    let own = c.args.self.now.own.items in
    let lent = c.args.self.now.frames.now.pages in
    let inside : c.args.frame < length own =
    within-own own lent c.args.frame c.args.self.now.level c.requires in
    let within = within-lent own lent c.args.self.now.lent.now c.args.frame c.args.self.now.level
    c.args.self.now.same c.requires in
    overlay-lent own lent c.args.frame c.args.self.now.level
    (get-of own c.args.frame c.index.result.now inside c.index.ensures
    ∙ ap Some c.in-None.is)
    ∙ ap (λ ps. slice_get ps c.args.frame) (sym c.args.self.now.same)
    ∙ get-of c.args.self.now.lent.now c.args.frame c.index-self-frame.result within
    c.index-self-frame.is
    ∙ ap Some (c.index-self-frame.is ∙ c.lent_page.ensures)
