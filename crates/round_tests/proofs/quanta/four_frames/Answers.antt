use Rattle.std.proofs.Common.{◌≡◌, ℕ, ◌∙◌, ap, subst, refl, sym, length}
use Rattle.std.proofs.Common.{Some, IfSome}
use Rattle.std.specs.List.{position}
use Rattle.dos_world.specs.declared.Access.{Access}
use Rattle.dos_world.specs.World.{is_free}
use Rattle.page_store.specs.Store.{Store, unused_frames, with_owned, with_grant, AreHome}
use Rattle.round_tests.proofs.quanta.four_frames.Goals as goal

-- what a call of `take` leaves of frames that are known, where the lowest that is free is this one
taken : (known : Store) (frame t : ℕ) (s new : Store) → s ≡ known
    → IfSome (position is_free s.owners) (λ f. new ≡ with_owned s f t)
    → position is_free known.owners ≡ Some frame → new ≡ with_owned known frame t
taken known frame t s new is owned lowest =
    subst (λ o. IfSome o (λ f. new ≡ with_owned known f t)) lowest
    (subst (λ x. IfSome (position is_free x.owners) (λ f. new ≡ with_owned x f t)) is owned)

pub returns : goal.returns
returns c =
    let e1 = taken (unused_frames 4) 0 1 _ _ c.in_ok-frames.ensures c.take.ensures.owned refl in
    let e2 = taken _ 1 1 _ _ e1 c.take-2.ensures.owned refl in
    let e3 = taken _ 2 2 _ _ e2 c.take-3.ensures.owned refl in
    let e4 = taken _ 3 1 _ _ e3 c.take-4.ensures.owned refl in
    let e = c.grant.ensures ∙ ap (λ s. with_grant s 3 1 Access.Load) e4 in
    record {
      home = subst AreHome (sym c.grant.ensures) c.take-4.ensures.home;
      count = ap (λ s. length s.pages) e;
      owners = ap (λ s. s.owners) e;
    }
