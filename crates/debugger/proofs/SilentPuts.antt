-- Instructions put nothing, so what was kept of the puts is what is kept behind them.
use Rattle.std.proofs.Common.{ℕ, zero, suc, ◌≡◌, ◌+◌, ◌≤◌, List, [], ◌++◌, sym, ap, subst, ◌∙◌}
use Rattle.std.proofs.Common.{append-nil, arith, drop}
use Rattle.std.specs.Prelude.{length}
use Rattle.std.proofs.lemmas.List.{drop_all}
use Rattle.dos_world.specs.World.{World}
use Rattle.group_walk.specs.Stretches.{IsSameGroup}
use Rattle.recorded_walk.specs.Playbacks.{AreSilentMoves}
use Rattle.debug_session.specs.Halts.{puts_between, puts_from, some_bytes}
use Rattle.debug_session.specs.Positions.{Position, position_after}
use Rattle.debugger.specs.declared.forwards.Put.{Put}
use Rattle.debugger.specs.Halting.{HasKept, puts_kept}
use Rattle.debugger.proofs.Kept.{kept_more}
use Rattle.debugger.proofs.Pathway.{after_more, puts_grow}
use Rattle.debugger.proofs.SilentTowards.{same_group}

-- nothing was sent more
none_sent : (bytes later : List ℕ) → later ≡ bytes → some_bytes (drop (length bytes) later) ≡ []
none_sent bytes later same =
    ap (λ (sent : List ℕ). some_bytes (drop (length bytes) sent)) same
    ∙ ap some_bytes (drop_all (length bytes) bytes (omega arith))

puts_nothing : (before behind : World) → IsSameGroup before behind
    → puts_between before behind ≡ []
puts_nothing before behind same =
    ap (λ (bytes : List (List ℕ)).
    bytes ++ some_bytes (drop (length before.error) behind.error))
    (none_sent before.output behind.output same.output)
    ∙ none_sent before.error behind.error same.error

pub kept_silent : (start : Position) (first now count : ℕ) (puts : List Put) (stops frames : List ℕ)
    (t : ℕ) → first ≤ now → AreSilentMoves stops frames count t (position_after now start)
    → HasKept start first now puts → HasKept start first (now + count) puts
kept_silent start first now zero puts stops frames t from silent kept =
    let same : now ≡ now + zero = omega arith in
    subst (λ (n : ℕ). HasKept start first n puts) same kept
kept_silent start first now (suc count) puts stops frames t from silent kept =
    let next : (now + 1) + count ≡ now + suc count = omega arith in
    subst (λ (n : ℕ). HasKept start first n puts) next
    (kept_silent start first (now + 1) count puts stops frames t (omega (arith, from))
    (subst (AreSilentMoves stops frames count t) (sym (after_more now start)) silent.1)
    (kept_more start first now puts puts [] from (sym (append-nil (puts_kept puts))) grow kept))
  where
    at : Position
    at = position_after now start

    nothing : puts_between at.moment.world (position_after (now + 1) start).moment.world ≡ []
    nothing =
        puts_nothing at.moment.world (position_after (now + 1) start).moment.world
        (subst (λ (p : Position). IsSameGroup at.moment.world p.moment.world)
        (sym (after_more now start)) (same_group stops frames t at silent.0))

    grow : puts_from (position_after first start) (position_after (now + 1) start)
        ≡ puts_from (position_after first start) (position_after now start) ++ []
    grow =
        puts_grow start first now _ silent.0.later from silent.0.ahead
        ∙ ap (λ (bytes : List (List ℕ)). puts_from (position_after first start) at ++ bytes)
        nothing
