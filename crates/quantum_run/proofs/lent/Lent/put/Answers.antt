use Rattle.std.proofs.Common.{◌≡◌, ◌<◌, sym, ap, ◌∙◌, subst, true, length, map, is_some, slice_set}
use Rattle.std.proofs.Common.{Some}
use Rattle.quantum_run.specs.Pages.{overlay, is_here}
use Rattle.quantum_run.proofs.Overlay.{here-page, here-within, here-set, some-set, overlay-own}
use Rattle.quantum_run.proofs.Overlay.{overlay-set, get-of, Some-one}
use Rattle.quantum_run.proofs.lent.Lent.put.Goals as goal

pub returns-clause-pages : goal.returns-clause-pages
returns-clause-pages c =
    let own = c.args.self.now.own.items in
    let lent = c.args.self.now.frames.now.pages in
    let inside : c.args.frame < length own = here-within own c.args.frame c.requires.own in
    let page = here-page own c.args.frame c.requires.own in
    let slot : c.index_mut.result.now ≡ Some page.0 =
    Some-one (sym (get-of own c.args.frame c.index_mut.result.now inside
    c.index_mut.ensures.value) ∙ page.1) in
    let new = c.write_in.ensures page.0 slot in
    record {
      before = page.0;
      after = new.0;
      was = overlay-own own lent c.args.frame page.0 c.args.self.now.level page.1;
      is = new.2;
      pages = ap (λ x. overlay (slice_set own c.args.frame x) lent) new.1
          ∙ overlay-set own lent c.args.frame new.0 c.args.self.now.level inside;
    }

pub returns-clause-own : goal.returns-clause-own
returns-clause-own c = λ f here.
    let own = c.args.self.now.own.items in
    let inside : c.args.frame < length own = here-within own c.args.frame c.requires.own in
    let page = here-page own c.args.frame c.requires.own in
    let slot : c.index_mut.result.now ≡ Some page.0 =
    Some-one (sym (get-of own c.args.frame c.index_mut.result.now inside
    c.index_mut.ensures.value) ∙ page.1) in
    let new = c.write_in.ensures page.0 slot in
    subst (λ x. is_here (slice_set own c.args.frame x) f ≡ true) (sym new.1)
    (here-set own c.args.frame new.0 f here)

pub returns-clause-fixed : goal.returns-clause-fixed
returns-clause-fixed c =
    let own = c.args.self.now.own.items in
    let inside : c.args.frame < length own = here-within own c.args.frame c.requires.own in
    let page = here-page own c.args.frame c.requires.own in
    let slot : c.index_mut.result.now ≡ Some page.0 =
    Some-one (sym (get-of own c.args.frame c.index_mut.result.now inside
    c.index_mut.ensures.value) ∙ page.1) in
    let new = c.write_in.ensures page.0 slot in
    ap (λ bs. (c.args.self.now.frames.now, bs))
    (ap (λ x. map is_some (slice_set own c.args.frame x)) new.1
    ∙ some-set own c.args.frame new.0 c.requires.own)
