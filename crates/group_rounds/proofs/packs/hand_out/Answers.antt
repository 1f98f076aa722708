use Rattle.std.proofs.Common.{◌∙◌, List, refl, ap, sym, subst, length, slice_get}
use Rattle.std.proofs.lemmas.List.{length-map}
use Rattle.quantum_run.specs.Packs.{empty_pack}
use Rattle.quantum_run.specs.Shows.{Pack}
use Rattle.group_rounds.specs.Handing.{Handing, pack_of}
use Rattle.group_rounds.proofs.PacksShow.{pack_of-begun}
use Rattle.group_rounds.proofs.packs.hand_out.Goals as goal

pub fill_each-requires-clause-empty : goal.fill_each-requires-clause-empty
fill_each-requires-clause-empty c =
    λ p here. ap (λ (q : Pack). q.pages) (c.requires.spare p here)

pub hand_pages-requires-clause-begun : goal.hand_pages-requires-clause-begun
hand_pages-requires-clause-begun c = λ i p at.
    pack_of-begun c.args.state.now.table (length c.args.state.now.frames.pages)
    c.args.starters.now i p
    (ap (λ ps. slice_get ps i) (sym
    (c.fill_each.ensures.fills (empty_pack (length c.args.state.now.frames.pages))
    c.requires.spare)) ∙ at)

pub hand_pages-requires-clause-level : goal.hand_pages-requires-clause-level
hand_pages-requires-clause-level c =
    ap length (c.fill_each.ensures.fills (empty_pack (length c.args.state.now.frames.pages))
    c.requires.spare) ∙ length-map c.args.starters.now
    (pack_of c.args.state.now.table (empty_pack (length c.args.state.now.frames.pages)))

pub hand_pages-requires-clause-apart : goal.hand_pages-requires-clause-apart
hand_pages-requires-clause-apart c = c.requires.apart

pub returns-clause-hands : goal.returns-clause-hands
returns-clause-hands c =
    subst (λ (begun : List Pack). Handing c.args.starters.now begun c.args.state.now.frames
    c.hand_pages.new.frames c.hand_pages.new.packs.items
    (length c.args.state.now.frames.pages))
    (c.fill_each.ensures.fills (empty_pack (length c.args.state.now.frames.pages))
    c.requires.spare) c.hand_pages.ensures.hands

pub returns-clause-spare : goal.returns-clause-spare
returns-clause-spare c =
    c.fill_each.ensures.spare (empty_pack (length c.args.state.now.frames.pages)) c.requires.spare

pub returns-clause-spare_room : goal.returns-clause-spare_room
returns-clause-spare_room c = c.fill_each.ensures.spare_room

pub returns-clause-table : goal.returns-clause-table
returns-clause-table c = refl

pub returns-clause-round : goal.returns-clause-round
returns-clause-round c = refl

pub returns-clause-pipes : goal.returns-clause-pipes
returns-clause-pipes c = refl

pub returns-clause-futexes : goal.returns-clause-futexes
returns-clause-futexes c = refl
