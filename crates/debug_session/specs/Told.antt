-- Registers and memory as they are told. GDB remote protocol, gdb's manual, appendix E, section
-- "Packets", `g`, `p`, `m`; who is told as unknown is this project's own rule.
use Rattle.std.specs.Prelude.{ℕ, zero, suc, ◌+◌, ◌*◌, ◌/◌, ◌%◌, ◌==◌, Bool, List, [], ◌∷◌, ◌++◌}
use Rattle.std.specs.Prelude.{Option, Some, None, min, replicate, codes, flat_map, slice_get}
use Rattle.std.specs.Prelude.{option_map, option_and_then, if◌then◌else◌}
use Rattle.dos_world.specs.World.{World, Thread, Registers, look, space_of}
use Rattle.dos_world.specs.World.{page_size}
use Rattle.dos_world.specs.declared.Entry.{Entry}
use Rattle.gdb_packets.specs.Hexadecimal.{register_digits, bytes_digits}

-- ---- registers

-- by gdb's number: x0 to x31 are 0 to 31, and pc is 32
abbrev pub register_of : Registers → ℕ → Option ℕ
register_of r n = if n == 32 then Some r.pc else slice_get r.numbers n

-- all of them, in that order
abbrev pub registers_text : Registers → List ℕ
registers_text r = flat_map register_digits (r.numbers ++ r.pc ∷ [])

-- A digit is `x` where nothing is known: of a thread that is listed and doesn't live.
abbrev pub unknown_digits : (registers : ℕ) → List ℕ
unknown_digits registers = replicate (8 * registers) 120

abbrev pub known_or_not : (is_listed : Bool) → (registers : ℕ) → List ℕ
known_or_not is_listed registers =
    if is_listed then unknown_digits registers else codes "E01"

abbrev pub registers_told : (is_listed : Bool) → Option Thread → List ℕ
registers_told is_listed (Some thread) = registers_text thread.registers
registers_told is_listed None = known_or_not is_listed 33

abbrev pub digits_or_error : Option ℕ → List ℕ
digits_or_error (Some value) = register_digits value
digits_or_error None = codes "E01"

abbrev pub register_told : (is_listed : Bool) → Option Thread → (n : ℕ) → List ℕ
register_told is_listed (Some thread) n = digits_or_error (register_of thread.registers n)
register_told is_listed None n = known_or_not is_listed 1

-- ---- memory

-- Where in the world's bytes an address of a process lies: on each page that it maps, whatever its
-- rights are and whosever its frame is.
abbrev pub place_of_address : World → (p address : ℕ) → Option ℕ
place_of_address w p address =
    option_map (λ (e : Entry). page_size * e.frame + address % page_size)
    (look (space_of w p) (address / page_size))

-- the byte there
abbrev pub byte_told : World → (p address : ℕ) → Option ℕ
byte_told w p address =
    option_and_then (λ place. slice_get w.bytes place) (place_of_address w p address)

-- at most so many bytes from an address, to the first that isn't mapped
abbrev pub bytes_told : World → (p count address : ℕ) → List ℕ
bytes_told w p zero address = []
bytes_told w p (suc count) address =
    elim (byte_told w p address) [
      | None ↦ []
      | Some byte ↦ byte ∷ bytes_told w p count (address + 1)
    ]

-- some are asked for, and there is none
abbrev pub bytes_or_error : (count : ℕ) → List ℕ → List ℕ
bytes_or_error zero bytes = []
bytes_or_error (suc count) [] = codes "E0e"
bytes_or_error (suc count) (b ∷ bytes) = bytes_digits (b ∷ bytes)

-- At most 4096 bytes are told at once.
abbrev pub memory_told : World → (p count address : ℕ) → List ℕ
memory_told w p count address = bytes_or_error count (bytes_told w p (min count 4096) address)
