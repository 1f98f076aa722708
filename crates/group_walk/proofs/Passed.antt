-- What happens without a move, one thread after another.
use Rattle.std.proofs.Common.{ℕ, suc, ◌+◌, ◌-◌, ◌<◌, ◌≤◌, ◌≡◌, refl, sym, ap, ◌∙◌, subst, Bool}
use Rattle.std.proofs.Common.{cond}
use Rattle.std.proofs.Common.{true, false, not, List, [], ◌∷◌, length, drop, Option, Some, None}
use Rattle.std.proofs.Common.{get_or, arith}
use Rattle.std.specs.Prelude.{is_none, is_some}
use Rattle.std.proofs.lemmas.Bool.{true≢false}
use Rattle.dos_world.specs.World.{World, Thread, registers_by, released, thread_at}
use Rattle.flat_machine.specs.Alone.{emptied}
use Rattle.flat_machine.specs.Round.{counted}
use Rattle.group_moves.specs.Places.{Place, between_rounds, within_part, within_rest}
use Rattle.group_moves.specs.Places.{is_part_over, is_rest_over, to_parts, to_rests}
use Rattle.kernel_calls.specs.StateWorld.{IsSound, sent, world_of}
use Rattle.kernel_calls.specs.declared.state.State.{State}
use Rattle.proc_table.specs.Tables.{IsLiveThread}
use Rattle.group_rounds.specs.Phases.{AreLive}
use Rattle.group_rounds.proofs.PhaseLaws.{drop_at, drop_out}
use Rattle.group_rounds.proofs.Sound.{lives_by}
use Rattle.group_walk.specs.Places.{at_part, at_rest, part_scene, place_at, rest_scene}
use Rattle.group_walk.specs.Walks.{AreThere, ComesTo, round_at}
use Rattle.group_walk.specs.declared.walker.Phase.TheVariants.{Parallel, Serial}

-- ---- a thread at the front

module _ (w : World) (t : ℕ) (starters ts : List ℕ) where
  pub rests_gone : false ≡ is_some (thread_at w t)
      → to_rests w starters (t ∷ ts) ≡ rest_scene false starters t ts w
  rests_gone gone = ap (λ b. cond b (to_rests w starters ts)
      (cond (is_rest_over (emptied w t) t) (to_rests (emptied w t) starters ts)
      (emptied w t, within_rest starters t ts))) (none (thread_at w t) gone)
    where
      none : (o : Option Thread) → false ≡ is_some o → is_none o ≡ true
      none None h = refl
      none (Some x) h = cc

  pub rests_begin : (v : World) (over : Bool) → true ≡ is_some (thread_at w t) → emptied w t ≡ v
      → is_rest_over v t ≡ over
      → to_rests w starters (t ∷ ts) ≡ rest_scene (not over) starters t ts v
  rests_begin v over live empties is =
      ap (λ b. cond b (to_rests w starters ts)
      (cond (is_rest_over (emptied w t) t) (to_rests (emptied w t) starters ts)
      (emptied w t, within_rest starters t ts))) (some (thread_at w t) live)
      ∙ ap (λ u. cond (is_rest_over u t) (to_rests u starters ts) (u, within_rest starters t ts))
      empties
      ∙ ap (λ b. cond b (to_rests v starters ts) (v, within_rest starters t ts)) is ∙ go over
    where
      some : (o : Option Thread) → true ≡ is_some o → is_none o ≡ false
      some None h = cc
      some (Some x) h = refl

      go : (b : Bool) → cond b (to_rests v starters ts) (v, within_rest starters t ts)
          ≡ rest_scene (not b) starters t ts v
      go true = refl
      go false = refl

  pub parts_begun : (v : World) (over : Bool) → emptied w t ≡ v → is_part_over v t ≡ over
      → to_parts w starters (t ∷ ts) ≡ part_scene (not over) starters t ts v
  parts_begun v over empties is =
      ap (λ u. cond (is_part_over u t) (to_parts u starters ts) (u, within_part starters t ts))
      empties
      ∙ ap (λ b. cond b (to_parts v starters ts) (v, within_part starters t ts)) is ∙ go over
    where
      go : (b : Bool) → cond b (to_parts v starters ts) (v, within_part starters t ts)
          ≡ part_scene (not b) starters t ts v
      go true = refl
      go false = refl

pub not_true : (b : Bool) → not b ≡ true → b ≡ false
not_true true h = absurd (true≢false (sym h))
not_true false h = refl

-- who lives as a part begins, lives on
pub begun-lives : (s s' : State) (t : ℕ)
    → emptied (world_of 0 s) t ≡ world_of 0 s' → (u : ℕ)
    → IsLiveThread s.table.threads u → IsLiveThread s'.table.threads u
begun-lives s s' t empties u live =
    subst (λ (w : World). IsLiveThread w.threads u) empties
    (lives_by (registers_by released) s.table.threads t u live)

pub all_live : (s s' : State) (xs : List ℕ)
    → ((u : ℕ) → IsLiveThread s.table.threads u → IsLiveThread s'.table.threads u)
    → AreLive s.table.threads xs → AreLive s'.table.threads xs
all_live s s' xs each live k d lt = each (get_or xs k d) (live k d lt)

-- ---- the list of starters, from an index on

module _ (w : World) (starters : List ℕ) (index t : ℕ) (lt : index < length starters)
    (is : t ≡ get_or starters index 0) where
  pub front : drop index starters ≡ t ∷ drop (index + 1) starters
  front = drop_at starters index lt ∙ ap (λ u. u ∷ drop (index + 1) starters) (sym is)

  pub rests_on : (v : World) (goes_on : Bool)
      → to_rests w starters (t ∷ drop (index + 1) starters)
      ≡ rest_scene goes_on starters t (drop (index + 1) starters) v → goes_on ≡ false
      → to_rests w starters (drop index starters) ≡ to_rests v starters (drop (index + 1) starters)
  rests_on v goes_on comes off =
      ap (to_rests w starters) front ∙ comes
      ∙ ap (λ b. rest_scene b starters t (drop (index + 1) starters) v) off

  pub rests_stay : (v : World) (goes_on : Bool)
      → to_rests w starters (t ∷ drop (index + 1) starters)
      ≡ rest_scene goes_on starters t (drop (index + 1) starters) v → goes_on ≡ true
      → to_rests w starters (drop index starters) ≡ (v, place_at Serial starters index)
  rests_stay v goes_on comes so =
      ap (to_rests w starters) front ∙ comes
      ∙ ap (λ b. rest_scene b starters t (drop (index + 1) starters) v) so
      ∙ ap (λ xs. (v, at_rest starters xs)) (sym front)

  pub parts_on : (v : World) (goes_on : Bool)
      → to_parts w starters (t ∷ drop (index + 1) starters)
      ≡ part_scene goes_on starters t (drop (index + 1) starters) v → goes_on ≡ false
      → to_parts w starters (drop index starters) ≡ to_parts v starters (drop (index + 1) starters)
  parts_on v goes_on comes off =
      ap (to_parts w starters) front ∙ comes
      ∙ ap (λ b. part_scene b starters t (drop (index + 1) starters) v) off

  pub parts_stay : (v : World) (goes_on : Bool)
      → to_parts w starters (t ∷ drop (index + 1) starters)
      ≡ part_scene goes_on starters t (drop (index + 1) starters) v → goes_on ≡ true
      → to_parts w starters (drop index starters) ≡ (v, place_at Parallel starters index)
  parts_stay v goes_on comes so =
      ap (to_parts w starters) front ∙ comes
      ∙ ap (λ b. part_scene b starters t (drop (index + 1) starters) v) so
      ∙ ap (λ xs. (v, at_part starters xs)) (sym front)

-- ---- behind the last

pub counted-is : (s s' : State) → IsSound s → s' ≡ record s { round = s.round + 1 }
    → (q : ℕ) (o e : List ℕ) → counted (sent o e (world_of q s)) ≡ sent o e (world_of q s')
counted-is s s' sound count q o e =
    let first = sound.counted.round in
    let rounds : s.round - 1 + 1 ≡ s.round + 1 - 1 = omega (arith, first) in
    ap (λ n. record (sent o e (world_of q s)) { rounds = n }) rounds
    ∙ ap (λ u. sent o e (world_of q u)) (sym count)

pub rests_end : (s s' : State) (starters : List ℕ) (index : ℕ) → length starters ≤ index → IsSound s
    → s' ≡ record s { round = s.round + 1 } → (q : ℕ) (o e : List ℕ)
    → to_rests (sent o e (world_of q s)) starters (drop index starters)
    ≡ (sent o e (world_of q s'), between_rounds)
rests_end s s' starters index out sound count q o e =
    ap (to_rests (sent o e (world_of q s)) starters) (drop_out starters index out)
    ∙ ap (λ w. (w, between_rounds)) (counted-is s s' sound count q o e)

pub parts_end : (w : World) (starters : List ℕ) (index : ℕ) → length starters ≤ index
    → to_parts w starters (drop index starters) ≡ to_rests w starters starters
parts_end w starters index out = ap (to_parts w starters) (drop_out starters index out)

-- ---- where a walk comes to

round-at-rest : (r : ℕ) (starters xs : List ℕ) → round_at r (at_rest starters xs) ≡ r
round-at-rest r starters [] = refl
round-at-rest r starters (x ∷ xs) = refl

round-at-part : (r : ℕ) (starters xs : List ℕ) → round_at r (at_part starters xs) ≡ r
round-at-part r starters [] = refl
round-at-part r starters (x ∷ xs) = refl

module _ (old new : State) (starters : List ℕ) (index t : ℕ) (sound : IsSound new)
    (count : length new.frames.owners ≡ length old.frames.owners) (round : new.round ≡ old.round)
    (lt : index < length starters) (is : t ≡ get_or starters index 0) where
  pub comes_serial : AreThere new (within_rest starters t (drop (index + 1) starters))
      → ComesTo old new (place_at Serial starters index)
  comes_serial there = record {
    sound = sound;
    count = count;
    round = round ∙ sym (round-at-rest old.round starters (drop index starters));
    there = subst (λ xs. AreThere new (at_rest starters xs))
        (sym (front (world_of 0 new) starters index t lt is)) there;
  }

  pub comes_parallel : AreThere new (within_part starters t (drop (index + 1) starters))
      → ComesTo old new (place_at Parallel starters index)
  comes_parallel there = record {
    sound = sound;
    count = count;
    round = round ∙ sym (round-at-part old.round starters (drop index starters));
    there = subst (λ xs. AreThere new (at_part starters xs))
        (sym (front (world_of 0 new) starters index t lt is)) there;
  }

pub comes_after : (old halfway new : State) (place : Place)
    → length halfway.frames.owners ≡ length old.frames.owners → halfway.round ≡ old.round
    → ComesTo halfway new place → ComesTo old new place
comes_after old halfway new place count round comes = record {
  sound = comes.sound;
  count = comes.count ∙ count;
  round = comes.round ∙ ap (λ n. round_at n place) round;
  there = comes.there;
}

-- ---- who lives of the starters from an index on

module _ (threads : List (Option Thread)) (starters : List ℕ) (index : ℕ)
    (lt : index < length starters) (live : AreLive threads (drop index starters)) where
  all-front : AreLive threads (get_or starters index 0 ∷ drop (index + 1) starters)
  all-front = subst (AreLive threads) (drop_at starters index lt) live

  pub front_lives : IsLiveThread threads (get_or starters index 0)
  front_lives = all-front 0 0 (omega arith)

  pub all_front : (t : ℕ) → t ≡ get_or starters index 0
      → AreLive threads (t ∷ drop (index + 1) starters)
  all_front t is = subst (λ u. AreLive threads (u ∷ drop (index + 1) starters)) (sym is) all-front

  pub others_live : AreLive threads (drop (index + 1) starters)
  others_live k d h = all-front (suc k) d (omega (arith, h))
