-- What a packet `vCont` resumes. GDB remote protocol, gdb's manual, appendix E, section "Packets",
-- `vCont`.
use Rattle.std.specs.Prelude.{ℕ, ◌==◌, List, [], ◌∷◌, ◌++◌, length, Option, Some, None, codes}
use Rattle.std.specs.Prelude.{option_map, flat_map, if◌then◌else◌}
use Rattle.gdb_packets.specs.Hexadecimal.{◌>>=◌, nibbles_behind, number_from, number_digits}
use Rattle.gdb_packets.specs.Hexadecimal.{byte_digits}
use Rattle.gdb_packets.specs.Around.{around, between_marks}
use Rattle.gdb_packets.specs.Ids.{id_from, id_text}
use Rattle.gdb_packets.specs.declared.ids.ThreadId.TheVariants.{ThreadAlone}
use Rattle.gdb_packets.specs.declared.ids.Which.TheVariants.{All}
use Rattle.gdb_packets.specs.declared.resumptions.Action.{Action}
use Rattle.gdb_packets.specs.declared.resumptions.Action.TheVariants.{Continue, ContinueSignal}
use Rattle.gdb_packets.specs.declared.resumptions.Action.TheVariants.{Step, StepSignal, Range}
use Rattle.gdb_packets.specs.declared.resumptions.Resumption.{Resumption}

-- ---- an action

-- where nothing is left
abbrev pub if_at_end : {A : Type 0} → A → List ℕ → Option A
if_at_end value [] = Some value
if_at_end value (c ∷ cs) = None

-- two digits
abbrev pub signal_from : List ℕ → Option ℕ
signal_from text = if length text == 2 then nibbles_behind 0 text else None

-- of what stands before the comma and behind it
abbrev pub range_in : List ℕ × List ℕ → Option Action
range_in parts = do
  low ← number_from parts.0
  high ← number_from parts.1
  Some (Range low high)

abbrev pub range_from : List ℕ → Option Action
range_from text = around 44 text >>= range_in

-- `c`, `Chh`, `s`, `Shh` or `rA,B`
abbrev pub action_from : List ℕ → Option Action
action_from [] = None
action_from (c ∷ cs) =
    if c == 99 then if_at_end Continue cs
    else if c == 67 then option_map ContinueSignal (signal_from cs)
    else if c == 115 then if_at_end Step cs
    else if c == 83 then option_map StepSignal (signal_from cs)
    else if c == 114 then range_from cs
    else None

-- as it is sent
abbrev pub action_text : Action → List ℕ
action_text Continue = codes "c"
action_text (ContinueSignal signal) = 67 ∷ byte_digits signal
action_text Step = codes "s"
action_text (StepSignal signal) = 83 ∷ byte_digits signal
action_text (Range low high) = 114 ∷ number_digits low ++ 44 ∷ number_digits high

-- ---- an action and its threads, which are all where none are named

-- of what stands before the colon and behind it
abbrev pub resumption_of_threads : List ℕ × List ℕ → Option Resumption
resumption_of_threads parts = do
  what ← action_from parts.0
  whom ← id_from parts.1
  Some (record { action = what; threads = whom })

abbrev pub resumption_of_all : Action → Resumption
resumption_of_all what = record { action = what; threads = ThreadAlone All }

abbrev pub resumption_in : Option (List ℕ × List ℕ) → List ℕ → Option Resumption
resumption_in (Some parts) text = resumption_of_threads parts
resumption_in None text = option_map resumption_of_all (action_from text)

abbrev pub resumption_from : List ℕ → Option Resumption
resumption_from text = resumption_in (around 58 text) text

-- as it is sent
abbrev pub resumption_text : Resumption → List ℕ
resumption_text r = action_text r.action ++ 58 ∷ id_text r.threads

-- ---- all of them

-- of the parts between semicolons
abbrev pub resumptions_in : List (List ℕ) → Option (List Resumption)
resumptions_in [] = Some []
resumptions_in (part ∷ parts) = do
  one ← resumption_from part
  others ← resumptions_in parts
  Some (one ∷ others)

-- behind `vCont`: one or more, each behind a semicolon
abbrev pub resumptions_from : List ℕ → Option (List Resumption)
resumptions_from [] = None
resumptions_from (c ∷ cs) =
    if c == 59 then resumptions_in (between_marks 59 cs) else None

-- as they are sent
abbrev pub resumptions_text : List Resumption → List ℕ
resumptions_text rs = flat_map (λ r. 59 ∷ resumption_text r) rs
