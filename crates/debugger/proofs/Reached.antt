-- How a moment to go to is reached, one move after another.
use Rattle.std.proofs.Common.{ℕ, ◌≡◌, ◌+◌, List, [], ◌∷◌, Bool, true, false, refl, sym, ap, ◌∙◌}
use Rattle.std.proofs.Common.{subst, ◌<◌, ◌≤◌, Some}
use Rattle.std.specs.Prelude.{◌==◌, ◌&&◌, ◌||◌, nat_le, nat_lt, if◌then◌else◌}
use Rattle.std.proofs.lemmas.Bool.{eq-eqb, le-ltb, lt-ltb, ne_eqb}
use Rattle.group_moves.specs.Moves.{MoveKind}
use Rattle.group_moves.specs.Moments.{Moment}
use Rattle.debug_session.specs.Goals.{goal_position, is_moment_reached, is_somebody_shown}
use Rattle.debug_session.specs.Goals.{peopled_over, reached_from, rewound}
use Rattle.debug_session.specs.Positions.{Position, first_kind, moved_on, position_at}
use Rattle.debug_session.specs.Sessions.{Session}
use Rattle.debugger.specs.Halting.{peopled_at}
use Rattle.debugger.proofs.Pathway.{IsAhead, Step, on_step, some_ahead}

module _ (round made : ℕ) where
  abbrev tested : (begun done : ℕ) → Bool
  tested begun done = nat_lt round begun || (round == begun && nat_le made done)

  pub is_later : (begun done : ℕ) → round < begun → true ≡ tested begun done
  is_later begun done less =
      ap (λ (b : Bool). b || (round == begun && nat_le made done)) (sym (lt-ltb round begun less))

  pub is_earlier : (begun done : ℕ) → begun ≤ round → (round ≡ begun → ⊥)
      → false ≡ tested begun done
  is_earlier begun done few other =
      ap (λ (b : Bool). b && nat_le made done) (sym (ne_eqb round begun other))
      ∙ ap (λ (b : Bool). b || (round == begun && nat_le made done))
      (sym (le-ltb round begun few))

  pub is_within : (begun done : ℕ) → begun ≤ round → round ≡ begun
      → nat_le made done ≡ tested begun done
  is_within begun done few same =
      ap (λ (b : Bool). b && nat_le made done) (sym (eq-eqb round begun same))
      ∙ ap (λ (b : Bool). b || (round == begun && nat_le made done))
      (sym (le-ltb round begun few))

  pub reached_is : (m : Moment) (begun done : ℕ) → m.begun_rounds ≡ begun → m.made ≡ done
      → tested begun done ≡ is_moment_reached round made m
  reached_is m begun done begun_is done_is =
      ap (λ n. tested n done) (sym begun_is) ∙ ap (λ n. tested m.begun_rounds n) (sym done_is)

  abbrev pub reached_of : Position → Position
  reached_of at = reached_from round made at.past at.moment at.future

  here_by : (past : List Step) (m : Moment) (future : List Step)
      → is_moment_reached round made m ≡ true
      → reached_from round made past m future ≡ position_at past m future
  here_by past m [] is = refl
  here_by past m (step ∷ steps) is =
      ap (λ (b : Bool). if b then position_at past m (step ∷ steps)
      else reached_from round made ((step.0, m) ∷ past) step.1 steps) is

  pub reached_here : (at : Position) → is_moment_reached round made at.moment ≡ true
      → reached_of at ≡ at
  reached_here at is = here_by at.past at.moment at.future is

  pub reached_end : (at : Position) → at.future ≡ [] → reached_of at ≡ at
  reached_end at none =
      ap (λ (f : List Step). reached_from round made at.past at.moment f) none
      ∙ ap (λ (f : List Step). position_at at.past at.moment f) (sym none)

  pub reached_on : (at : Position) (step : Step) (steps : List Step) → at.future ≡ step ∷ steps
      → is_moment_reached round made at.moment ≡ false
      → reached_of at ≡ reached_of (moved_on at)
  reached_on at step steps ahead is =
      ap (λ (f : List Step). reached_from round made at.past at.moment f) ahead
      ∙ ap (λ (b : Bool). if b then position_at at.past at.moment (step ∷ steps)
      else reached_from round made ((step.0, at.moment) ∷ at.past) step.1 steps) is
      ∙ ap reached_of (sym (on_step at step steps ahead))

module _ (s : Session) where
  shown_by : (past : List Step) (m : Moment) (future : List Step)
      → is_somebody_shown s m.world ≡ true
      → peopled_over s past m future ≡ position_at past m future
  shown_by [] m future is = refl
  shown_by (step ∷ past) m future is =
      ap (λ (b : Bool). if b then position_at (step ∷ past) m future
      else peopled_over s past step.1 ((step.0, m) ∷ future)) is

  pub peopled_here : (at : Position) → is_somebody_shown s at.moment.world ≡ true
      → peopled_at s at ≡ at
  peopled_here at is = shown_by at.past at.moment at.future is

  pub peopled_start : (at : Position) → at.past ≡ [] → peopled_at s at ≡ at
  peopled_start at none =
      ap (λ (p : List Step). peopled_over s p at.moment at.future) none
      ∙ ap (λ (p : List Step). position_at p at.moment at.future) (sym none)

  pub peopled_on : (at : Position) (step : Step) (steps : List Step) → at.future ≡ step ∷ steps
      → is_somebody_shown s (moved_on at).moment.world ≡ false
      → peopled_at s (moved_on at) ≡ peopled_at s at
  peopled_on at step steps ahead none =
      ap (peopled_at s) on
      ∙ ap (λ (b : Bool). if b then position_at ((step.0, at.moment) ∷ at.past) step.1 steps
      else peopled_over s at.past at.moment (step ∷ steps))
      (ap (λ (p : Position). is_somebody_shown s p.moment.world) (sym on) ∙ none)
      ∙ ap (λ (f : List Step). peopled_over s at.past at.moment f) (sym ahead)
    where
      on : moved_on at ≡ position_at ((step.0, at.moment) ∷ at.past) step.1 steps
      on = on_step at step steps ahead

  pub goal_is : (round made : ℕ) (start : Position) → rewound s.position ≡ start
      → goal_position s round made ≡ peopled_at s (reached_of round made start)
  goal_is round made start is =
      ap (λ (p : Position). peopled_at s (reached_of round made p)) is

-- ---- a move was made

module _ (at after : Position) (kind : MoveKind) (on : after ≡ moved_on at)
    (first : first_kind at.future ≡ Some kind) where
  ahead : IsAhead at.future kind
  ahead = some_ahead at.future kind first

  pub reached_moved : (round made : ℕ) → is_moment_reached round made at.moment ≡ false
      → reached_of round made at ≡ reached_of round made after
  reached_moved round made is =
      reached_on round made at ahead.step ahead.steps ahead.is is
      ∙ ap (reached_of round made) (sym on)

  pub peopled_moved : (s : Session) → is_somebody_shown s after.moment.world ≡ false
      → peopled_at s at ≡ peopled_at s after
  peopled_moved s none =
      sym (peopled_on s at ahead.step ahead.steps ahead.is
      (ap (λ (p : Position). is_somebody_shown s p.moment.world) (sym on) ∙ none))
      ∙ ap (peopled_at s) (sym on)
