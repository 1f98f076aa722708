use Rattle.std.proofs.Common.{ℕ, zero, suc, ◌+◌, ◌<◌, ◌≤◌, ◌≡◌, ◌∙◌, List, ◌++◌, ◌∷◌, [], refl}
use Rattle.std.proofs.Common.{ap, sym, length, map, take, get_or, arith}
use Rattle.quantum_run.specs.Shows.{Pack}
use Rattle.group_rounds.specs.Handing.{pack_of}
use Rattle.group_rounds.proofs.PacksShow.{take-more, map-more}
use Rattle.group_rounds.proofs.packs.fill_each.Goals as goal

-- ---- the starters so far

none-of : (f : ℕ → Pack) (ts : List ℕ) → map f (take 0 ts) ≡ []
none-of f [] = refl
none-of f (t ∷ ts) = refl

all-of : (f : ℕ → Pack) (ts : List ℕ) (i : ℕ) → length ts ≤ i → map f (take i ts) ≡ map f ts
all-of f [] zero h = refl
all-of f [] (suc i) h = refl
all-of f (t ∷ ts) zero h = absurd (omega arith)
all-of f (t ∷ ts) (suc i) h = ap (λ ps. f t ∷ ps) (all-of f ts i (omega arith))

some-left : (left i all count : ℕ) → left + i ≡ all → count ≤ all → i < count → 0 < left
some-left left i all count less enough within = omega arith

room-left : (n i first now count : ℕ) → n ≡ i → i < count → count ≤ first → first ≤ now
    → n + 1 ≤ now
room-left n i first now count same within room more = omega arith

pub loop-tid-init : goal.loop-tid-init
loop-tid-init c = record {
  packs = λ first spare.
      c.requires.none ∙ sym (none-of (pack_of c.args.table.now first) c.args.starters.now);
  count = ap length c.requires.none;
  spare = λ first spare. spare;
  empty = c.requires.empty;
  less = omega arith;
  spare_room = refl;
  room = omega arith;
}

pub fill_next-requires-clause-some : goal.fill_next-requires-clause-some
fill_next-requires-clause-some c =
    some-left _ _ _ _ c.loop-tid.invariant.less c.requires.enough c.loop-tid-test.true

pub fill_next-requires-clause-room : goal.fill_next-requires-clause-room
fill_next-requires-clause-room c =
    room-left _ _ _ _ _ c.loop-tid.invariant.count c.loop-tid-test.true c.requires.room
    c.loop-tid.invariant.room

pub fill_next-requires-clause-empty : goal.fill_next-requires-clause-empty
fill_next-requires-clause-empty c = c.loop-tid.invariant.empty

pub loop-tid-preserved : goal.loop-tid-preserved
loop-tid-preserved c =
    let inv = c.loop-tid.invariant in
    let e = c.fill_next.ensures in
    let i = c.loop-tid.tid-index in
    let ts = c.args.starters.now in
    record {
      packs = λ first spare.
          let f = pack_of c.args.table.now first in
          e.fills first (inv.spare first spare)
          ∙ ap (λ ps. ps ++ f (get_or ts i 0) ∷ []) (inv.packs first spare)
          ∙ sym (map-more f (take i ts) (get_or ts i 0))
          ∙ ap (map f) (sym (take-more ts i c.loop-tid-test.true));
      count = e.count ∙ ap (λ n. n + 1) inv.count;
      spare = λ first spare. e.spare first (inv.spare first spare);
      empty = e.empty;
      less = omega (arith, inv.less, e.less);
      spare_room = e.same_room ∙ inv.spare_room;
      room = omega (arith, inv.room, e.room);
    }

-- ---- after the last

pub returns-clause-fills : goal.returns-clause-fills
returns-clause-fills c = λ first spare.
    c.loop-tid.invariant.packs first spare
    ∙ all-of (pack_of c.args.table.now first) c.args.starters.now c.loop-tid.tid-index
    c.loop-tid-test.false

pub returns-clause-spare : goal.returns-clause-spare
returns-clause-spare c = c.loop-tid.invariant.spare

pub returns-clause-spare_room : goal.returns-clause-spare_room
returns-clause-spare_room c = c.loop-tid.invariant.spare_room
