-- Ids of threads. GDB remote protocol, gdb's manual, appendix E, section "Packets", "thread-id".
use Rattle.std.specs.Prelude.{ℕ, ◌==◌, List, [], ◌∷◌, ◌++◌, Option, Some, None, codes, bytes_eq}
use Rattle.std.specs.Prelude.{option_map, if◌then◌else◌}
use Rattle.gdb_packets.specs.Hexadecimal.{◌>>=◌, number_from, number_digits}
use Rattle.gdb_packets.specs.Around.{around}
use Rattle.gdb_packets.specs.declared.ids.Which.{Which}
use Rattle.gdb_packets.specs.declared.ids.Which.TheVariants.{All, Any, Only}
use Rattle.gdb_packets.specs.declared.ids.ThreadId.{ThreadId}
use Rattle.gdb_packets.specs.declared.ids.ThreadId.TheVariants.{Both, ProcessAlone, ThreadAlone}

-- ---- one part

-- 0 is any
abbrev pub which_number : ℕ → Which
which_number n = if n == 0 then Any else Only n

-- `-1` is all
abbrev pub which_from : List ℕ → Option Which
which_from text =
    if bytes_eq text (codes "-1") then Some All else option_map which_number (number_from text)

-- as it is sent
abbrev pub which_text : Which → List ℕ
which_text All = codes "-1"
which_text Any = codes "0"
which_text (Only n) = number_digits n

-- ---- an id: `pP.T`, `pP` or `T`

-- of what stands before the dot and behind it
abbrev pub both_from : List ℕ × List ℕ → Option ThreadId
both_from parts = do
  process ← which_from parts.0
  thread ← which_from parts.1
  Some (Both process thread)

-- behind the `p`
abbrev pub process_from : Option (List ℕ × List ℕ) → List ℕ → Option ThreadId
process_from (Some parts) text = both_from parts
process_from None text = option_map ProcessAlone (which_from text)

-- an id
abbrev pub id_from : List ℕ → Option ThreadId
id_from [] = None
id_from (c ∷ cs) =
    if c == 112 then process_from (around 46 cs) cs
    else option_map ThreadAlone (which_from (c ∷ cs))

-- as it is sent
abbrev pub id_text : ThreadId → List ℕ
id_text (Both process thread) = 112 ∷ which_text process ++ 46 ∷ which_text thread
id_text (ProcessAlone process) = 112 ∷ which_text process
id_text (ThreadAlone thread) = which_text thread
