use Rattle.std.proofs.Common.{rules, refl, ◌≡◌, ◌∙◌, ◌<◌, ◌≤◌, ◌+◌, ◌++◌, ◌∷◌, [], sym, ap, subst}
use Rattle.std.proofs.Common.{length}
use Rattle.std.proofs.Common.{length-set, ℕ, List, Option, Some, false, slice_set, vec_capacity}
use Rattle.page_store.specs.Store.{whole}
use Rattle.quantum_run.specs.Shows.{Pack}
use Rattle.quantum_run.specs.Pages.{is_here}
use Rattle.quantum_run.specs.Packs.{HoldsNo, IsPacked, paired, with_own_page}
use Rattle.quantum_run.proofs.Keeping.{not-here, room-left, packed-more, paired-with, packed-view}
use Rattle.quantum_run.proofs.pack.Pack.add_page.Goals as goal

-- The pack doesn't have the frame's page, and has room for it.
record IsNew (own : List (Option (List ℕ))) (frame : ℕ) : Type 0 where
  away : is_here own frame ≡ false
  within : frame < length own

is-new : (held : List ℕ) (own : List (Option (List ℕ))) (capacity frame : ℕ) (viewed now : Pack)
    → viewed ≡ now → paired held own ≡ viewed.pages → length own ≡ viewed.room
    → IsPacked held own capacity → frame < now.room → HoldsNo now frame → IsNew own frame
is-new held own capacity frame viewed now same pages room packed low other = record {
  away = not-here held own capacity now.pages frame packed
      (pages ∙ ap (λ (p : Pack). p.pages) same) other;
  within = subst (λ (n : ℕ). frame < n) (sym (room ∙ ap (λ (p : Pack). p.room) same)) low;
}

pub unreachable-requires : goal.unreachable-requires
unreachable-requires c =
    let k = c.self.inside in
    let new = is-new k.held.items k.own (vec_capacity k.held) c.args.frame _ c.args.self.now
    c.self.view_is refl refl c.self.invariant c.requires.room c.requires.other in
    let room : length k.held.items + 1 ≤ vec_capacity k.held =
    room-left k.held.items k.own
    (vec_capacity k.held) c.self.invariant c.args.frame new.within new.away in
    search (rules, room)

pub invariant_of-self : goal.invariant_of-self
invariant_of-self c =
    let k = c.self.inside in
    let new = is-new k.held.items k.own (vec_capacity k.held) c.args.frame _ c.args.self.now
    c.self.view_is refl refl c.self.invariant c.requires.room c.requires.other in
    let grows : vec_capacity k.held ≤ vec_capacity c.push.new.self = search rules in
    let more = packed-more k.held.items k.own
    (vec_capacity k.held) c.self.invariant c.args.frame c.args.page
    (vec_capacity c.push.new.self) new.within new.away grows in
    subst (λ (own : List (Option (List ℕ))). IsPacked c.push.new.self.items own
    (vec_capacity c.push.new.self)) (sym c.put.ensures)
    (subst (λ (xs : List ℕ). IsPacked xs (slice_set k.own c.args.frame (Some c.args.page))
    (vec_capacity c.push.new.self)) (sym c.in-Ok.ensures.items) more)

pub returns : goal.returns
returns c =
    let k = c.self.inside in
    let new = is-new k.held.items k.own (vec_capacity k.held) c.args.frame _ c.args.self.now
    c.self.view_is refl refl c.self.invariant c.requires.room c.requires.other in
    let pages = paired-with k.held.items k.own
    (vec_capacity k.held) c.self.invariant c.args.frame c.args.page new.within new.away in
    packed-view k.tid k.pid k.regs.value k.left k.words
    (paired k.held.items k.own ++ (c.args.frame, whole c.args.page) ∷ [])
    (paired c.push.new.self.items c.put.new.self)
    (length k.own) (length c.put.new.self)
    (ap (λ xs. paired xs c.put.new.self) c.in-Ok.ensures.items
    ∙ ap (λ own. paired (k.held.items ++ c.args.frame ∷ []) own) c.put.ensures ∙ pages)
    (ap (λ (own : List (Option (List ℕ))). length own) c.put.ensures
    ∙ length-set k.own c.args.frame (Some c.args.page))
    ∙ ap (λ (p : Pack). with_own_page p c.args.frame c.args.page) c.self.view_is
