-- Where a log has room still. The header of one image has 52 bytes, the end 6.
use Rattle.std.specs.Prelude.{ℕ, ◌+◌, ◌<◌, ◌≤◌, ◌⊎◌, List, [], ◌∷◌, ◌++◌, codes, ◌≡◌, refl}
use Rattle.dos_world.specs.declared.Post.{Post}
use Rattle.dos_world.specs.declared.Ending.TheVariants.{Done}
use Rattle.dos_world.specs.declared.Question.TheVariants.{Signals as signals_question}
use Rattle.dos_world.specs.declared.Question.TheVariants.{Input as input_question}
use Rattle.dos_world.specs.declared.Question.TheVariants.{Clock as clock_question}
use Rattle.dos_world.specs.declared.Question.TheVariants.{End as end_question}
use Rattle.dos_io.specs.declared.exchange.Exchange.{Exchange}
use Rattle.dos_io.specs.declared.exchange.Exchange.TheVariants.{Signals, Input}
use Rattle.log_text.specs.Ranges.{most_exchanges}
use Rattle.log_text.specs.Ranges.{most_bytes}
use Rattle.shim_log.specs.Room.{IsOver, NoRoom}
use Rattle.log_text.proofs.Texts.{smallest}

abbrev posts : List (ℕ × Post)
posts = (2, record { pid = 1; signal = 15 }) ∷ (2, record { pid = 2; signal = 9 }) ∷ []

abbrev before : List Exchange
before = Signals 1 [] ∷ Input 1 1 64 (codes "ab") ∷ []

-- behind the header and two entries, of 9 and 15 bytes
abbrev IsFull : ℕ → Type 0
IsFull bytes = (most_bytes < 52 + (24 + bytes) + 6) ⊎ (most_exchanges ≤ 2)

-- signals of a round count with the round's posts
signals_room : NoRoom smallest.header posts before (signals_question 2) ≡ IsFull 16
unfolding IsOver
signals_room = refl

-- a round without a signal that begins a stretch
quiet_room : NoRoom smallest.header posts before (signals_question 3) ≡ IsFull 9
unfolding IsOver
quiet_room = refl

-- and one that goes on with it
on_room : NoRoom smallest.header posts (before ++ Signals 3 [] ∷ []) (signals_question 4)
    ≡ ((most_bytes < 52 + 33 + 6) ⊎ (most_exchanges ≤ 3))
unfolding IsOver
on_room = refl

-- an input counts with all that was asked for
input_room : NoRoom smallest.header posts before (input_question 1 1 64) ≡ IsFull 77
unfolding IsOver
input_room = refl

clock_room : NoRoom smallest.header posts before (clock_question 1 1) ≡ IsFull 17
unfolding IsOver
clock_room = refl

-- for the end there is always room
end_room : NoRoom smallest.header posts (Signals 1 [] ∷ []) (end_question Done 1) → ⊥
end_room full = full
