-- A group of the image that is made from a number needs few frames.
use Rattle.std.proofs.Common.{◌≡◌, ℕ, ◌+◌, ◌-◌, ◌*◌, ◌/◌, ◌≤◌, Bool, true, false, List, [], ◌∷◌}
use Rattle.std.proofs.Common.{◌++◌, length, length-append, arith}
use Rattle.std.specs.Prelude.{nat_lt, ◌==◌, if◌then◌else◌}
use Rattle.flat_machine.specs.Opening.{needed, pages_touched, rising, with_number}
use Rattle.group_open.proofs.Runs.{length_run}
use Rattle.generated_group.specs.Generated.{generated, pages_part, program_part}

-- ---- a list in rising order is no longer than the list

longer_by_one : (is_less is_same : Bool) (n x : ℕ) (xs more : List ℕ)
    → length more ≤ length xs + 1
    → length (if is_less then n ∷ x ∷ xs else (if is_same then x ∷ xs else x ∷ more))
    ≤ length (x ∷ xs) + 1
longer_by_one true is_same n x xs more h = omega arith
longer_by_one false true n x xs more h = omega arith
longer_by_one false false n x xs more h = omega arith

length-with_number : (n : ℕ) (xs : List ℕ) → length (with_number n xs) ≤ length xs + 1
length-with_number n [] = omega arith
length-with_number n (x ∷ xs) =
    longer_by_one (nat_lt n x) (n == x) n x xs (with_number n xs) (length-with_number n xs)

length-rising : (ns : List ℕ) → length (rising ns) ≤ length ns
length-rising [] = omega arith
length-rising (n ∷ ns) =
    let one = length-with_number n (rising ns) in let rest = length-rising ns in omega arith

length-rising_two : (ns ms : List ℕ)
    → length (rising (ns ++ (ms ++ []))) ≤ length ns + length ms
length-rising_two ns ms =
    omega (
      arith,
      length-rising (ns ++ (ms ++ [])),
      length-append ns (ms ++ []),
      length-append ms [],
    )

-- ---- the pages of the two parts

program_pages : (number threads : ℕ) → length (pages_touched (program_part number threads)) ≡ 1
program_pages number threads = length_run 16 1

own_pages : (threads : ℕ) → length (pages_touched (pages_part threads)) ≤ threads + 1
own_pages threads =
    let counted = length_run 32
    ((0x20000 + (0 + 4096 * (threads + 1)) - 1) / 4096 + 1 - 32) in
    omega arith

-- ---- all of them

pub needed-generated : (number threads : ℕ) → threads ≤ 32
    → needed (generated number threads ∷ []) ≤ 4096
unfolding generated
needed-generated number threads few =
    omega (
      arith,
      program_pages number threads,
      own_pages threads,
      length-rising_two (pages_touched (program_part number threads))
          (pages_touched (pages_part threads)),
    )
