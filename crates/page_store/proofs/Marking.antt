-- What the lowest bit says of the owners.
use Rattle.std.proofs.Common.{◌≡◌, ℕ, Bool, true, false, cond, inl, inr, List, length, get_or, sym}
use Rattle.std.proofs.Common.{ap, arith}
use Rattle.std.specs.Prelude.{position, Option, Some, None, nat_lt, IfSome}
use Rattle.std.specs.List.{position_or_len}
use Rattle.std.proofs.lemmas.List.Sums.{fails_before_first}
use Rattle.std.proofs.lemmas.Bool.Decides.{nat_tests}
use Rattle.std.proofs.lemmas.List.Quantifiers.{position-Some}
use Rattle.std.proofs.lemmas.List.{get_or_past, ext_get_or}
use Rattle.std.proofs.lemmas.Bool.{cases_lt}
use Rattle.dos_world.specs.declared.Owner.{Owner}
use Rattle.dos_world.specs.declared.Owner.TheVariants.{Free}
use Rattle.page_store.specs.Marks.{AreNoted}
use Rattle.page_store.specs.Store.{IsFirstChanged}
use Rattle.hierarchical_bitmap.specs.Levels.{itself}

no_bits : (bits : List Bool) → position itself bits ≡ None → (k : ℕ) → get_or bits k false ≡ false
no_bits bits none k = elim (cases_lt (position_or_len itself bits) (length bits)) [
  | inl low ↦ absurd (
      let yes : nat_lt (position_or_len itself bits) (length bits) ≡ true =
      grind (arith, nat_tests, low) in
      let some : position itself bits ≡ Some (position_or_len itself bits) =
      ap (λ b. cond b (Some (position_or_len itself bits)) None) yes in
      cc
      )
  | inr past ↦ elim (cases_lt k (length bits)) [
    | inl within ↦ fails_before_first itself bits k false (omega arith)
    | inr beyond ↦ get_or_past bits k false beyond
  ]
]

pub settled-all : (owners marked : List Owner) (noted : List Bool)
    → AreNoted owners marked noted → position itself noted ≡ None → marked ≡ owners
settled-all owners marked noted k none =
    ext_get_or Free marked owners k.each (λ i h. k.unset i (no_bits noted none i))

pub changed-first : (owners marked : List Owner) (noted : List Bool) (i : ℕ)
    → AreNoted owners marked noted → position itself noted ≡ Some i
    → IsFirstChanged marked owners i
changed-first owners marked noted i k is =
    let found = position-Some itself noted i false is in
    record {
      within = omega (arith, found.0, k.bits);
      differs = k.set i found.1;
      below = λ j h. k.unset j (found.2 j h);
    }

pub changed-some : (owners marked : List Owner) (noted : List Bool) (o : Option ℕ)
    → o ≡ position itself noted → AreNoted owners marked noted
    → IfSome o (λ i. IsFirstChanged marked owners i)
changed-some owners marked noted None is k = tt
changed-some owners marked noted (Some i) is k = changed-first owners marked noted i k (sym is)
