-- A register that is set, and pc that is set, in either order.
use Rattle.std.proofs.Common.{ℕ, zero, suc, ◌≡◌, refl}
use Rattle.dos_world.specs.World.{Registers, set, with_pc}

pub set_beside : (r : Registers) (i v p : ℕ) → with_pc (set r i v) p ≡ set (with_pc r p) i v
set_beside r zero v p = refl
set_beside r (suc i) v p = refl
