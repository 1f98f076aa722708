use Rattle.std.proofs.Common.{◌≡◌, ap, subst, ◌∙◌, Some}
use Rattle.debug_session.specs.Positions.{Position, first_kind, position_after}
use Rattle.group_moves.specs.Moments.{kind_at}
use Rattle.group_moves.specs.Moves.{MoveKind}
use Rattle.group_walk.specs.Walks.{kinds_named}
use Rattle.recorded_walk.specs.Playbacks.{IsStartOf, Played}
use Rattle.recorded_walk.proofs.Kept.{ahead_is, next_here}
use Rattle.recorded_walk.proofs.playback.Playback.kind.Goals as goal

pub returns-clause-kind : goal.returns-clause-kind
returns-clause-kind c =
    let kept = c.self.invariant.6 (ap (λ (p : Played). p.failed) c.self.view_is ∙ c.requires) in
    subst (λ (p : Played). (start : Position) → IsStartOf p start
    → kind_at p.config.rounds (position_after p.moves start).moment ≡ kinds_named c.next.result)
    c.self.view_is
    (next_here c.self.inside.images.items c.self.inside.config c.self.inside.track
    c.self.inside.reached c.self.inside.failed kept.1 kept.2 c.next.result c.next.ensures)

pub returns-clause-ahead : goal.returns-clause-ahead
returns-clause-ahead c =
    let kept = c.self.invariant.6 (ap (λ (p : Played). p.failed) c.self.view_is ∙ c.requires) in
    subst (λ (p : Played). (start : Position) (made : MoveKind) → IsStartOf p start
    → first_kind (position_after p.moves start).future ≡ Some made
    → kinds_named c.next.result ≡ Some made) c.self.view_is
    (ahead_is c.self.inside.images.items c.self.inside.config c.self.inside.track
    c.self.inside.reached c.self.inside.failed kept.1 kept.2 c.next.result c.next.ensures)
