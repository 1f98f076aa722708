-- No piece of a host in memory is empty.
use Rattle.std.proofs.Common.{ℕ, zero, suc, ◌-◌, List, [], ◌∷◌, length, drop}
use Rattle.dos_io.specs.Hosts.{AreFilled}
use Rattle.dos_io.specs.HostMemory.{cut, pieces_of}

cut_filled : (n first size : ℕ) (bytes : List ℕ) → AreFilled (cut n first size bytes)
cut_filled zero first size bytes = tt
cut_filled (suc n) first size [] = tt
cut_filled (suc n) first size (b ∷ bytes) = cut_filled n size size (drop (first - 1) bytes)

pub pieces_filled : (first size : ℕ) (bytes : List ℕ) → AreFilled (pieces_of first size bytes)
pieces_filled first size bytes = cut_filled (length bytes) first size bytes
