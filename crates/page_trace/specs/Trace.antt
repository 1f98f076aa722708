-- The changes of owners in a run, round by round. This project's own rule.
use Rattle.std.specs.Prelude.{ℕ, zero, suc, ◌+◌, ◌-◌, Bool, true, false, List, [], ◌∷◌, ◌++◌, ◌==◌}
use Rattle.std.specs.Prelude.{◌≡◌, ◌≤◌, drop, take, if◌then◌else◌}
use Rattle.dos_world.specs.World.{World}
use Rattle.dos_world.specs.Play.{Answer, gives, asks}
use Rattle.dos_world.specs.declared.Config.{Config}
use Rattle.dos_world.specs.declared.Owner.{Owner}
use Rattle.dos_world.specs.declared.Owner.TheVariants.{Free, Shared, Of}
use Rattle.dos_world.specs.declared.Scheme.{Scheme}
use Rattle.dos_laws.specs.Plays.{world_ended}
use Rattle.flat_machine.specs.Round.{RoundEnd, went, finished, stalled, round}

-- In this round the frame's owner changed so.
pub record Change : Type 0 where
  pub round : ℕ
  pub frame : ℕ
  pub before : Owner
  pub after : Owner

-- whether two owners are one
abbrev pub same_owner : Owner → Owner → Bool
same_owner Free Free = true
same_owner Shared Shared = true
same_owner (Of t) (Of u) = t == u
same_owner _ _ = false

-- the change of one frame, if it changed
abbrev pub change_at : (number frame : ℕ) → Owner → Owner → List Change
change_at number frame before after =
    if same_owner before after then []
    else record { round = number; frame = frame; before = before; after = after } ∷ []

-- the changes from this frame on, in rising order
abbrev pub changes_from : (number frame : ℕ) → List Owner → List Owner → List Change
changes_from number frame (a ∷ before) (b ∷ after) =
    change_at number frame a b ++ changes_from number (suc frame) before after
changes_from number frame _ _ = []

-- the changes of a round of this number
abbrev pub changes : (number : ℕ) → List Owner → List Owner → List Change
changes number before after = changes_from number 0 before after

-- of two lists, some first owners of the one, no more than so many, and then the rest of the other
pub record IsMixed (most : ℕ) (first other mixed : List Owner) : Type 0 where
  pub count : ℕ
  pub few : count ≤ most
  pub is : mixed ≡ take count first ++ drop count other

-- whether another round may follow
abbrev pub is_followed : RoundEnd → Bool
is_followed (went w work) = true
is_followed (finished w) = false
is_followed (stalled w) = false

-- At most so many rounds of a scheme from a world, over these answers of the shim: the changes of
-- each that came to its end, under the number that it asked with. In the buffered scheme owners
-- change in the serial phase alone.
abbrev pub trace_rounds : Scheme → ℕ → World → List Answer → List Change
trace_rounds scheme zero w answers = []
trace_rounds scheme (suc n) w answers =
    elim (round scheme w answers) [
      | asks question output error ↦ []
      | gives end rest ↦
          changes (w.rounds + 1) w.owners (world_ended end).owners
          ++ (if is_followed end then trace_rounds scheme n (world_ended end) rest else [])
    ]

-- the rounds that the configuration leaves
abbrev pub trace : World → Config → List Answer → List Change
trace w config answers = trace_rounds config.scheme (config.rounds - w.rounds) w answers
