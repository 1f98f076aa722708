-- The positions of a history, one move after another, and what the moves put.
use Rattle.std.proofs.Common.{ℕ, zero, suc, ◌≡◌, ◌+◌, ◌<◌, ◌≤◌, List, [], ◌∷◌, ◌++◌, length, take}
use Rattle.std.proofs.Common.{drop, Option, Some, None, refl, sym, ap, ◌∙◌, subst, arith, map}
use Rattle.std.proofs.Common.{append_assoc, append-nil, reverse}
use Rattle.std.specs.Prelude.{◌-◌}
use Rattle.std.proofs.lemmas.List.{length-drop, reverse-append}
use Rattle.group_moves.specs.Moves.{MoveKind}
use Rattle.group_moves.specs.Moments.{Moment}
use Rattle.debug_session.specs.Goals.{rewound}
use Rattle.debug_session.specs.Halts.{puts_along, puts_between, puts_from}
use Rattle.debug_session.specs.Positions.{Position, all_moments, first_kind, moved_on}
use Rattle.debug_session.specs.Positions.{position_after, position_at}

-- a move, with the moment that it leads to
abbrev pub Step : Type 0
Step = MoveKind × Moment

-- ---- one move on

pub on_step : (at : Position) (step : Step) (steps : List Step) → at.future ≡ step ∷ steps
    → moved_on at ≡ position_at ((step.0, at.moment) ∷ at.past) step.1 steps
on_step at step steps is =
    ap (λ (f : List Step). moved_on (position_at at.past at.moment f)) is

pub on_none : (at : Position) → at.future ≡ [] → moved_on at ≡ at
on_none at is =
    ap (λ (f : List Step). moved_on (position_at at.past at.moment f)) is
    ∙ ap (λ (f : List Step). position_at at.past at.moment f) (sym is)

-- what is ahead, where the first kind is known
pub none_ahead : (future : List Step) → first_kind future ≡ None → future ≡ []
none_ahead [] is = refl
none_ahead (step ∷ steps) is = cc

-- the first move that is ahead, and the others
pub record IsAhead (future : List Step) (kind : MoveKind) : Type 0 where
  pub step : Step
  pub steps : List Step
  pub is : future ≡ step ∷ steps
  pub kind_is : step.0 ≡ kind

pub some_ahead : (future : List Step) (kind : MoveKind) → first_kind future ≡ Some kind
    → IsAhead future kind
some_ahead [] kind is = cc
some_ahead (step ∷ steps) kind is =
    record { step = step; steps = steps; is = refl; kind_is = cc }

-- ---- so many moves on

pub after_more : (n : ℕ) (start : Position)
    → position_after (n + 1) start ≡ moved_on (position_after n start)
after_more n start =
    let next : n + 1 ≡ suc n = omega arith in
    ap (λ (k : ℕ). position_after k start) next

pub after_first : (d : ℕ) (at : Position)
    → position_after (suc d) at ≡ position_after d (moved_on at)
after_first zero at = refl
after_first (suc d) at = ap moved_on (after_first d at)

pub after_sum : (d first : ℕ) (start : Position)
    → position_after (d + first) start ≡ position_after d (position_after first start)
after_sum zero first start =
    let same : zero + first ≡ first = omega arith in
    ap (λ (k : ℕ). position_after k start) same
after_sum (suc d) first start =
    let same : suc d + first ≡ suc (d + first) = omega arith in
    ap (λ (k : ℕ). position_after k start) same ∙ ap moved_on (after_sum d first start)

drop_none : (d : ℕ) → drop d (let none : List Step = [] in none) ≡ []
drop_none zero = refl
drop_none (suc d) = refl

pub future_after : (d : ℕ) (past : List Step) (m : Moment) (future : List Step)
    → (position_after d (position_at past m future)).future ≡ drop d future
future_after zero past m future = refl
future_after (suc d) past m [] =
    ap (λ (at : Position). at.future) (after_first d (position_at past m []))
    ∙ future_after d past m [] ∙ drop_none d
future_after (suc d) past m (step ∷ steps) =
    ap (λ (at : Position). at.future) (after_first d (position_at past m (step ∷ steps)))
    ∙ future_after d ((step.0, m) ∷ past) step.1 steps

pub past_after : (d : ℕ) (past : List Step) (m : Moment) (future : List Step)
    → d ≤ length future
    → length (position_after d (position_at past m future)).past ≡ d + length past
past_after zero past m future few =
    let same : zero + length past ≡ length past = omega arith in
    sym same
past_after (suc d) past m [] few = absurd (omega (arith, few))
past_after (suc d) past m (step ∷ steps) few =
    let rest : length (position_after d (position_at ((step.0, m) ∷ past) step.1 steps)).past
    ≡ d + length ((step.0, m) ∷ past) =
    past_after d ((step.0, m) ∷ past) step.1 steps (omega (arith, few)) in
    let sum : d + length ((step.0, m) ∷ past) ≡ suc d + length past = omega arith in
    ap (λ (at : Position). length at.past) (after_first d (position_at past m (step ∷ steps)))
    ∙ rest ∙ sum

-- ---- what moves put

pub puts_more : (d : ℕ) (past : List Step) (m : Moment) (future : List Step)
    → d < length future
    → puts_along m.world (take (suc d) future)
    ≡ puts_along m.world (take d future)
    ++ puts_between (position_after d (position_at past m future)).moment.world
    (position_after (suc d) (position_at past m future)).moment.world
puts_more d past m [] few = absurd (omega (arith, few))
puts_more zero past m (step ∷ steps) few = append-nil (puts_between m.world step.1.world)
puts_more (suc d) past m (step ∷ steps) few =
    ap (λ (ps : List (List ℕ)). puts_between m.world step.1.world ++ ps)
    (puts_more d ((step.0, m) ∷ past) step.1 steps (omega (arith, few)))
    ∙ sym (append_assoc (puts_between m.world step.1.world)
    (puts_along step.1.world (take d steps))
    (puts_between (position_after d next).moment.world
    (position_after (suc d) next).moment.world))
    ∙ ap (λ (p : Position). (puts_between m.world step.1.world
    ++ puts_along step.1.world (take d steps))
    ++ puts_between p.moment.world (position_after (suc d) next).moment.world)
    (sym (after_first d at))
    ∙ ap (λ (p : Position). (puts_between m.world step.1.world
    ++ puts_along step.1.world (take d steps))
    ++ puts_between (position_after (suc d) at).moment.world p.moment.world)
    (sym (after_first (suc d) at))
  where
    at : Position
    at = position_at past m (step ∷ steps)

    next : Position
    next = position_at ((step.0, m) ∷ past) step.1 steps

-- from a position to itself
pub puts_none : (at : Position) → puts_from at at ≡ []
puts_none at =
    let none : length at.past - length at.past ≡ 0 = omega arith in
    ap (λ (n : ℕ). puts_along at.moment.world (take n at.future)) none

-- from a position on, by so many moves
pub puts_by : (d : ℕ) (at : Position) → d ≤ length at.future
    → puts_from at (position_after d at) ≡ puts_along at.moment.world (take d at.future)
puts_by d at few =
    let long : length (position_after d at).past ≡ d + length at.past =
    past_after d at.past at.moment at.future few in
    let count : length (position_after d at).past - length at.past ≡ d = omega (arith, long) in
    ap (λ (n : ℕ). puts_along at.moment.world (take n at.future)) count

-- One more move is made.
pub puts_on : (d : ℕ) (at : Position) → d < length at.future
    → puts_from at (position_after (suc d) at)
    ≡ puts_from at (position_after d at)
    ++ puts_between (position_after d at).moment.world (position_after (suc d) at).moment.world
puts_on d at few =
    puts_by (suc d) at (omega (arith, few))
    ∙ puts_more d at.past at.moment at.future few
    ∙ ap (λ (ps : List (List ℕ)). ps ++ puts_between (position_after d at).moment.world
    (position_after (suc d) at).moment.world) (sym (puts_by d at (omega (arith, few))))

-- how much is ahead
ahead_of : (d : ℕ) (future : List Step) (step : Step) (steps : List Step)
    → drop d future ≡ step ∷ steps → d < length future
ahead_of d future step steps is =
    let rest : length (drop d future) ≡ suc (length steps) = ap length is in
    omega (arith, rest, length-drop d future)

-- The same from the start of a history.
pub puts_grow : (start : Position) (first now : ℕ) (step : Step) (steps : List Step)
    → first ≤ now → (position_after now start).future ≡ step ∷ steps
    → puts_from (position_after first start) (position_after (now + 1) start)
    ≡ puts_from (position_after first start) (position_after now start)
    ++ puts_between (position_after now start).moment.world
    (position_after (now + 1) start).moment.world
puts_grow start first now step steps behind is =
    subst (λ (p : Position). puts_from at p
    ≡ puts_from at (position_after now start)
    ++ puts_between (position_after now start).moment.world p.moment.world) (sym on)
    (subst (λ (p : Position). puts_from at (position_after (suc d) at)
    ≡ puts_from at p
    ++ puts_between p.moment.world (position_after (suc d) at).moment.world) (sym here)
    (puts_on d at (ahead_of d at.future step steps
    (sym (future_after d at.past at.moment at.future)
    ∙ ap (λ (p : Position). p.future) (sym here) ∙ is))))
  where
    at : Position
    at = position_after first start

    d : ℕ
    d = now - first

    here : position_after now start ≡ position_after d at
    here =
        let sum : now ≡ (now - first) + first = omega (arith, behind) in
        ap (λ (k : ℕ). position_after k start) sum ∙ after_sum d first start

    on : position_after (now + 1) start ≡ position_after (suc d) at
    on = after_more now start ∙ ap moved_on here

-- ---- back at the start

rewound_step : (past : List Step) (m : Moment) (future : List Step)
    → rewound (moved_on (position_at past m future)) ≡ rewound (position_at past m future)
rewound_step past m [] = refl
rewound_step past m (step ∷ steps) = refl

pub rewound_after : (n : ℕ) (at : Position) → rewound (position_after n at) ≡ rewound at
rewound_after zero at = refl
rewound_after (suc n) at =
    let here : Position = position_after n at in
    rewound_step here.past here.moment here.future ∙ rewound_after n at

-- ---- all moments

all_step : (past : List Step) (m : Moment) (future : List Step)
    → all_moments (moved_on (position_at past m future)) ≡ all_moments (position_at past m future)
all_step past m [] = refl
all_step past m (step ∷ steps) =
    let behind : List Moment = map (λ (x : Step). x.1) past in
    let ahead : List Moment = map (λ (x : Step). x.1) steps in
    ap (λ (ms : List Moment). ms ++ step.1 ∷ ahead) (reverse-append (m ∷ []) behind)
    ∙ append_assoc (reverse behind) (m ∷ []) (step.1 ∷ ahead)

pub all_after : (n : ℕ) (at : Position) → all_moments (position_after n at) ≡ all_moments at
all_after zero at = refl
all_after (suc n) at =
    let here : Position = position_after n at in
    all_step here.past here.moment here.future ∙ all_after n at

-- ---- back to an earlier moment

past_step : (past : List Step) (m : Moment) (future : List Step)
    → length past ≤ length (moved_on (position_at past m future)).past
past_step past m [] = let same : length past ≤ length past = omega arith in same
past_step past m (step ∷ steps) =
    let more : length past ≤ length ((step.0, m) ∷ past) = omega arith in
    more

past_longer : (d n : ℕ) (start : Position)
    → length (position_after n start).past ≤ length (position_after (d + n) start).past
past_longer zero n start =
    let same : zero + n ≡ n = omega arith in
    subst (λ (k : ℕ). length (position_after n start).past ≤ length (position_after k start).past)
    (sym same) (omega arith)
past_longer (suc d) n start =
    let same : suc (d + n) ≡ suc d + n = omega arith in
    let here : Position = position_after (d + n) start in
    let one = past_step here.past here.moment here.future in
    let rest = past_longer d n start in
    subst (λ (k : ℕ). length (position_after n start).past ≤ length (position_after k start).past)
    same (omega (arith, one, rest))

-- Nothing was put from a position on up to an earlier one.
pub puts_back : (n later : ℕ) (start : Position) → n ≤ later
    → puts_from (position_after later start) (position_after n start) ≡ []
puts_back n later start behind =
    let sum : (later - n) + n ≡ later = omega (arith, behind) in
    let longer : length (position_after n start).past ≤ length (position_after later start).past =
    subst (λ (k : ℕ). length (position_after n start).past ≤ length (position_after k start).past)
    sum (past_longer (later - n) n start) in
    let none : length (position_after n start).past - length (position_after later start).past ≡ 0 =
    omega (arith, longer) in
    ap (λ (k : ℕ). puts_along (position_after later start).moment.world
    (take k (position_after later start).future)) none
