-- Where memory for them ran out, the bytes of the last read are taken too.
use Rattle.std.proofs.Common.{◌≡◌, ◌<◌, ℕ, List, Option, Some, None, IfSome, [], ◌++◌}
use Rattle.std.proofs.Common.{take, length, arith, ap, subst, length-append, append-nil, rules}
use Rattle.std.proofs.lemmas.Grind.{common_steps}
use Rattle.std.specs.Io.KnownBytes.{Consumes}
use Rattle.std.proofs.KnownBytes.{Consumes-trans, Consumes-kept}
use Rattle.dos_io.proofs.system.read_whole.Goals as goal

-- who gave more bytes than a limit had more
had_more : (limit : ℕ) (a b : Option (List ℕ)) (bs : List ℕ) → Consumes a b bs → limit < length bs
    → IfSome a (λ had. limit < length had)
had_more limit None b bs given more = tt
had_more limit (Some x) None bs given more = absurd given
had_more limit (Some x) (Some y) bs given more =
    omega (arith, length-append bs y, ap length given)

-- a read of nothing behind others
no_more : (a b c : Option (List ℕ)) (bs piece : List ℕ) (k : ℕ) → Consumes a b bs
    → Consumes b c (take k piece) → k ≡ 0 → Consumes a c bs
no_more a b c bs piece k first second none =
    subst (Consumes a c) (append-nil bs)
    (Consumes-trans a b c bs [] first (subst (λ n. Consumes b c (take n piece)) none second))

pub returns-in_err-count-clause-taken : goal.returns-in_err-count-clause-taken
returns-in_err-count-clause-taken g c = (
  c.loop-piece.bytes.items,
  Consumes-kept _ _ _ _ c.loop-piece.invariant.taken c.in_err-count.ensures.kept,
  search rules,
)

pub returns-then-count-eq0-clause-bytes : goal.returns-then-count-eq0-clause-bytes
returns-then-count-eq0-clause-bytes g c =
    no_more _ _ _ _ _ _ c.loop-piece.invariant.taken c.in_ok-count.ensures.gave c.if-count-eq0.true

pub returns-then-count-eq0-clause-taken : goal.returns-then-count-eq0-clause-taken
returns-then-count-eq0-clause-taken g c = (
  c.loop-piece.bytes.items,
  no_more _ _ _ _ _ _ c.loop-piece.invariant.taken c.in_ok-count.ensures.gave c.if-count-eq0.true,
  search rules,
)

pub loop-piece-preserved : goal.loop-piece-preserved
loop-piece-preserved g c = record {
  within = grind (arith, common_steps);
  room = c.read_piece.ensures.room;
  taken = rw c.in_ok-extend_from_slice.ensures.items
      (Consumes-trans _ _ _ _ _ c.loop-piece.invariant.taken c.in_ok-count.ensures.gave);
}

pub returns-in_err-extend_from_slice-clause-taken :
    goal.returns-in_err-extend_from_slice-clause-taken
returns-in_err-extend_from_slice-clause-taken g c = (
  c.loop-piece.bytes.items ++ take c.in_ok-count.count c.read_piece.new.piece,
  Consumes-trans _ _ _ _ _ c.loop-piece.invariant.taken c.in_ok-count.ensures.gave,
  simp length-append (grind (arith, common_steps)),
)

pub returns-clause-too_long : goal.returns-clause-too_long
returns-clause-too_long g c = λ _. had_more _ _ _ _ c.loop-piece.invariant.taken (search rules)

pub returns-clause-taken : goal.returns-clause-taken
returns-clause-taken g c = (
  c.loop-piece.bytes.items,
  c.loop-piece.invariant.taken,
  search rules,
)
