-- The list of threads, as numbers and as a text. GDB remote protocol, gdb's manual, appendix E,
-- sections "General Query Packets" and "Thread List Format".
use Rattle.std.specs.Prelude.{ℕ, List, [], ◌∷◌, ◌++◌, flat_map, map, codes, take, drop, length}
use Rattle.std.specs.Prelude.{nat_le, min, if◌then◌else◌}
use Rattle.dos_world.specs.World.{World}
use Rattle.gdb_packets.specs.Escapes.{escaped}
use Rattle.gdb_packets.specs.declared.packets.Stretch.{Stretch}
use Rattle.debug_session.specs.Stops.{pair_text}
use Rattle.debug_session.specs.Sessions.{Session, Pair, listed, home_pair}
use Rattle.debug_session.specs.Waits.{what_text}

-- the listed threads with their processes, by rising thread
abbrev pub listed_pairs : Session → List Pair
listed_pairs s = map (home_pair s) (listed s)

-- ---- `m` and their ids, joined by commas; `l` where there are none

abbrev pub commas : List Pair → List ℕ
commas [] = []
commas (pair ∷ pairs) = 44 ∷ pair_text pair ++ commas pairs

abbrev pub pairs_told : List Pair → List ℕ
pairs_told [] = codes "l"
pairs_told (pair ∷ pairs) = codes "m" ++ pair_text pair ++ commas pairs

abbrev pub threads_told : Session → List ℕ
threads_told s = pairs_told (listed_pairs s)

-- ---- one element each, with what it is about

abbrev pub thread_element : World → Pair → List ℕ
thread_element w pair =
    codes "<thread id=\"" ++ pair_text pair ++ codes "\">" ++ what_text w pair.0 pair.1
    ++ codes "</thread>"

abbrev pub threads_text : World → List Pair → List ℕ
threads_text w pairs =
    codes "<threads>" ++ flat_map (thread_element w) pairs ++ codes "</threads>"

-- ---- a part of a text

-- At most 4096 bytes, escaped where they must be: behind `l` the last of them, behind `m` others.
abbrev pub part_told : (text : List ℕ) → Stretch → List ℕ
part_told text part =
    let rest : List ℕ = drop part.from text in
    let most : ℕ = min part.length 4096 in
    if nat_le (length rest) most then codes "l" ++ escaped rest
    else codes "m" ++ escaped (take most rest)
