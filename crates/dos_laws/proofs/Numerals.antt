-- The number that bytes stand for is below 256 to as many as they are.
use Rattle.std.proofs.Common.{ℕ, zero, suc, ◌^◌, ◌<◌, ◌≤◌, List, [], ◌∷◌, length, take, drop, arith}
use Rattle.std.specs.Prelude.{All}
use Rattle.std.proofs.Math.Nat.{pow-succ'}
use Rattle.std.proofs.lemmas.List.{length-take}
use Rattle.std.proofs.lemmas.List.Elements.{All-head, All-tail, All-take, All-drop}
use Rattle.dos_world.specs.World.{World}
use Rattle.dos_world.specs.Bytes.{number_of, loaded}
use Rattle.dos_world.specs.Reach.{width}
use Rattle.dos_world.specs.Lawful.{Lawful, IsByte}
use Rattle.dos_world.specs.declared.Size.{Size}
use Rattle.dos_world.specs.declared.Size.TheVariants.{Byte, Half, Word}

power_positive : (k : ℕ) → 0 < 256 ^ k
power_positive zero = omega arith
power_positive (suc k) = omega (arith, pow-succ' 256 k, power_positive k)

number_below : (k : ℕ) (bytes : List ℕ) → All IsByte bytes → length bytes ≤ k
    → number_of bytes < 256 ^ k
number_below k [] all short = power_positive k
number_below zero (b ∷ bytes) all short = absurd (omega arith)
number_below (suc k) (b ∷ bytes) all short =
    let first : b < 256 = All-head IsByte b bytes all in
    let rest : number_of bytes < 256 ^ k =
    number_below k bytes (All-tail IsByte b bytes all) (omega arith) in
    omega (arith, pow-succ' 256 k, first, rest)

pub loaded_below : (w : World) (place count : ℕ) → Lawful w → loaded w place count < 256 ^ count
loaded_below w place count l =
    number_below count (take count (drop place w.bytes))
    (All-take IsByte count (drop place w.bytes) (All-drop IsByte place w.bytes l.frames.bytes.1))
    (omega (arith, length-take count (drop place w.bytes)))

-- what an access of a size loads is a word
pub loaded_word : (w : World) (place : ℕ) (size : Size) → Lawful w
    → loaded w place (width size) < 2 ^ 32
loaded_word w place Byte l = omega (arith, loaded_below w place 1 l)
loaded_word w place Half l = omega (arith, loaded_below w place 2 l)
loaded_word w place Word l = loaded_below w place 4 l
