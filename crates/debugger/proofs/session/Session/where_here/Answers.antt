use Rattle.std.proofs.Common.{◌≡◌, ℕ, ap, sym, subst, ◌∙◌}
use Rattle.std.proofs.lemmas.Result.{IfOk-weaker}
use Rattle.debug_session.specs.Positions.{Position, first_kind, position_after}
use Rattle.debug_session.specs.Recordings.{Recording}
use Rattle.debug_where.specs.Places.{IsHere, IsNextHere}
use Rattle.debugger.specs.Standing.{here}
use Rattle.debugger.proofs.Placing.{entries_of}
use Rattle.debugger.proofs.Telling.{asked_on, same_on, start_on}
use Rattle.debugger.proofs.session.Session.where_here.Goals as goal

pub returns-clause-lines : goal.returns-clause-lines
returns-clause-lines c =
    let k = c.args.self.now in
    let m = c.last_kind.new.self in
    let n = c.next_here.new.self in
    let first = c.in_ok-last.ensures.same in
    let both = same_on k m n first c.in_ok-next.ensures.same in
    IfOk-weaker c.where_lines.result _ _
    (λ lines h start s is_start asked.
    let r : Recording = s.recording in
    let back : here m start ≡ here k start =
    ap (λ (i : ℕ). position_after i start) c.in_ok-last.ensures.moves in
    let more : here n start ≡ here m start =
    ap (λ (i : ℕ). position_after i start) c.in_ok-next.ensures.moves in
    let next : IsNextHere c.in_ok-next.next r (here n start) =
    subst (λ (at : Position). IsNextHere c.in_ok-next.next r at) (sym more)
    (c.in_ok-next.ensures.next start s (start_on k m first.run start is_start)
    (asked_on k m first start s asked)) in
    let there : IsHere c.place-place.result r (here k start) =
    subst (λ (at : Position). IsHere c.place-place.result r at) (more ∙ back)
    (c.place-place.ensures start r (start_on k n both.run start is_start)
    (entries_of n start s (asked_on k n both start s asked))
    (ap (λ (at : Position). first_kind at.past) (more ∙ back)
    ∙ c.in_ok-last.ensures.kind start is_start)
    next) in
    h r (here k start) there)
    c.where_lines.ensures

pub returns-clause-same : goal.returns-clause-same
returns-clause-same c =
    same_on c.args.self.now c.last_kind.new.self c.next_here.new.self c.in_ok-last.ensures.same
    c.in_ok-next.ensures.same
