-- One move, and moves behind others.
use Rattle.std.proofs.Common.{ℕ, zero, suc, ◌+◌, ◌≡◌, refl, sym, ap, ◌∙◌, List}
use Rattle.std.proofs.Common.{Option, Some, None, arith}
use Rattle.dos_world.specs.Play.{Play, Answer, Outcome, gives, asks, done, ◌>>=◌, over}
use Rattle.dos_world.specs.Laws.{over_then}
use Rattle.dos_world.proofs.PlayLaws.{over-then}
use Rattle.group_moves.specs.Places.{Scene}
use Rattle.group_moves.specs.Moves.{MoveKind, move_of}
use Rattle.group_moves.specs.Moments.{Moment, moment_at, moment_behind, settled_scene, kind_at}
use Rattle.group_moves.specs.Moments.{walk}
use Rattle.group_moves.specs.Laws.{walk_from, Leads}

-- ---- so many, and then more

abbrev pub then_more : ℕ → ℕ → ℕ
then_more zero c = c
then_more (suc j) c = suc (then_more j c)

pub then_more-assoc : (i j c : ℕ) → then_more (then_more i j) c ≡ then_more i (then_more j c)
then_more-assoc zero j c = refl
then_more-assoc (suc i) j c = ap suc (then_more-assoc i j c)

pub then_more_sum : (j c : ℕ) → j + c ≡ then_more j c
then_more_sum zero c = omega arith
then_more_sum (suc j) c = let h = then_more_sum j c in omega (arith, h)

-- as `Leads`, over numbers that compute
pub record Led (limit : ℕ) (answers : List Answer) (from : Moment) (begun : ℕ)
    (play : Play Scene) : Type 0 where
  pub moves : ℕ
  pub made : ℕ
  pub is : (c : ℕ)
      → walk (then_more moves c) limit answers from
      ≡ walk_from c limit begun made (over answers play)

pub leads : (limit : ℕ) (answers : List Answer) (from : Moment) (begun : ℕ) (play : Play Scene)
    → Led limit answers from begun play → Leads limit answers from begun play
leads limit answers from begun play l =
    record {
      moves = l.moves;
      made = l.made;
      is = λ c. ap (λ n. walk n limit answers from) (then_more_sum l.moves c) ∙ l.is c;
    }

-- no move
pub nowhere : (limit : ℕ) (answers : List Answer) (begun made : ℕ) (scene : Scene)
    → Led limit answers (moment_at begun made scene) begun (done scene)
nowhere limit answers begun made scene = record { moves = zero; made = made; is = λ c. refl }

-- ---- one move

pub move_led : (limit : ℕ) (answers : List Answer) (m : Moment) (kind : MoveKind) (begun made : ℕ)
    → kind_at limit m ≡ Some kind
    → ((scene : Scene) → moment_behind kind m scene ≡ moment_at begun made scene)
    → Led limit answers m begun (move_of m.world m.place >>= λ s. done (settled_scene s))
move_led limit answers m kind begun made next behind =
    record {
      moves = suc zero;
      made = made;
      is = λ c.
          ap (by_kind c) next
          ∙ by_outcome c (over answers (move_of m.world m.place))
          ∙ sym (ap (walk_from c limit begun made)
          (over-then answers (move_of m.world m.place) (λ s. done (settled_scene s))));
    }
  where
    by_kind : ℕ → Option MoveKind → Outcome Moment
    by_kind c k =
        elim k [
          | None ↦ gives m answers
          | Some kind ↦ elim (over answers (move_of m.world m.place)) [
            | asks question output error ↦ asks question output error
            | gives scene rest ↦ walk c limit rest (moment_behind kind m (settled_scene scene))
          ]
        ]

    by_outcome : (c : ℕ) (o : Outcome Scene)
        → elim o as (λ _. Outcome Moment) [
          | asks question output error ↦ asks question output error
          | gives scene rest ↦ walk c limit rest (moment_behind kind m (settled_scene scene))
        ]
        ≡ walk_from c limit begun made (over_then o (λ s. done (settled_scene s)))
    by_outcome c (gives scene rest) = ap (walk c limit rest) (behind (settled_scene scene))
    by_outcome c (asks question output error) = refl

-- ---- moves behind others

pub then_led : {A : Type 0} (limit : ℕ) (answers : List Answer) (m : Moment) (begun : ℕ)
    (p : Play A) (front : A → Scene) (g : A → Play Scene)
    → Led limit answers m begun (p >>= λ a. done (front a))
    → ((a : A) (rest : List Answer) (made : ℕ) → over answers p ≡ gives a rest
    → Led limit rest (moment_at begun made (front a)) begun (g a))
    → Led limit answers m begun (p >>= g)
then_led {A} limit answers m begun p front g first next =
    let second = by_outcome (over answers p) refl in
    record {
      moves = then_more first.moves second.0;
      made = second.1;
      is = λ c.
          ap (λ n. walk n limit answers m) (then_more-assoc first.moves second.0 c)
          ∙ first.is (then_more second.0 c)
          ∙ ap (walk_from (then_more second.0 c) limit begun first.made)
          (over-then answers p (λ a. done (front a)))
          ∙ second.2 c
          ∙ sym (ap (walk_from c limit begun second.1) (over-then answers p g));
    }
  where
    by_outcome : (o : Outcome A) → over answers p ≡ o
        → (moves : ℕ) × (made : ℕ) × ((c : ℕ)
        → walk_from (then_more moves c) limit begun first.made (over_then o (λ a. done (front a)))
        ≡ walk_from c limit begun made (over_then o g))
    by_outcome (gives a rest) is =
        let l = next a rest first.made is in (l.moves, l.made, l.is)
    by_outcome (asks question output error) is = (zero, zero, λ c. refl)
