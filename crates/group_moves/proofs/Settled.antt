-- Nothing is left to happen without a move where all of it has happened.
use Rattle.std.proofs.Common.{ℕ, ◌≡◌, refl, ap, List, [], ◌∷◌, Bool, true, false, is_none}
use Rattle.std.proofs.Common.{if◌then◌else◌}
use Rattle.dos_world.specs.World.{World, thread_at}
use Rattle.flat_machine.specs.Alone.{emptied}
use Rattle.group_moves.specs.Places.{Place, between_rounds, before_parts, before_rests, within_part}
use Rattle.group_moves.specs.Places.{within_rest, at_end, Scene, is_rest_over, is_part_over}
use Rattle.group_moves.specs.Places.{to_parts, to_rests, passed_on}
use Rattle.group_moves.specs.Moments.{settled_scene}

abbrev IsSettled : Scene → Type 0
IsSettled scene = settled_scene scene ≡ scene

-- one of two scenes
either : (b : Bool) (s r : Scene) → (b ≡ true → IsSettled s) → (b ≡ false → IsSettled r)
    → IsSettled (if b then s else r)
either true s r here there = here refl
either false s r here there = there refl

rest_stays : (w : World) (starters : List ℕ) (t : ℕ) (ts : List ℕ) → is_rest_over w t ≡ false
    → IsSettled (w, within_rest starters t ts)
rest_stays w starters t ts h =
    ap (λ b. if b then to_rests w starters ts else (w, within_rest starters t ts)) h

part_stays : (w : World) (starters : List ℕ) (t : ℕ) (ts : List ℕ) → is_part_over w t ≡ false
    → IsSettled (w, within_part starters t ts)
part_stays w starters t ts h =
    ap (λ b. if b then to_parts w starters ts else (w, within_part starters t ts)) h

rests_settled : (w : World) (starters ts : List ℕ) → IsSettled (to_rests w starters ts)
rests_settled w starters [] = refl
rests_settled w starters (t ∷ ts) =
    either (is_none (thread_at w t)) (to_rests w starters ts)
    (if is_rest_over (emptied w t) t then to_rests (emptied w t) starters ts
    else (emptied w t, within_rest starters t ts))
    (λ gone. rests_settled w starters ts)
    (λ lives. either (is_rest_over (emptied w t) t) (to_rests (emptied w t) starters ts)
    (emptied w t, within_rest starters t ts)
    (λ h. rests_settled (emptied w t) starters ts)
    (rest_stays (emptied w t) starters t ts))

parts_settled : (w : World) (starters ts : List ℕ) → IsSettled (to_parts w starters ts)
parts_settled w starters [] = rests_settled w starters starters
parts_settled w starters (t ∷ ts) =
    either (is_part_over (emptied w t) t) (to_parts (emptied w t) starters ts)
    (emptied w t, within_part starters t ts)
    (λ h. parts_settled (emptied w t) starters ts)
    (part_stays (emptied w t) starters t ts)

pub passed_settled : (w : World) (place : Place) → IsSettled (passed_on w place)
passed_settled w between_rounds = refl
passed_settled w (before_parts starters ts) = parts_settled w starters ts
passed_settled w (before_rests starters ts) = rests_settled w starters ts
passed_settled w (within_part starters t ts) =
    either (is_part_over w t) (to_parts w starters ts) (w, within_part starters t ts)
    (λ h. parts_settled w starters ts) (part_stays w starters t ts)
passed_settled w (within_rest starters t ts) =
    either (is_rest_over w t) (to_rests w starters ts) (w, within_rest starters t ts)
    (λ h. rests_settled w starters ts) (rest_stays w starters t ts)
passed_settled w (at_end ending) = refl
