-- Workers that are hired, and what their seats have of the share.
use Rattle.std.proofs.Common.{◌≡◌, ℕ, suc, ◌+◌, ◌/◌, ◌^◌, ◌<◌, ◌≤◌, List, [], ◌∷◌, ◌++◌}
use Rattle.std.proofs.Common.{Option, Some, None, length, take, drop, refl, sym, ap, ◌∙◌, arith}
use Rattle.std.specs.Prelude.{All, IfSome, slice_index_or}
use Rattle.std.specs.Option.{option_to_list}
use Rattle.std.proofs.lemmas.List.Elements.{All-same, All-head, All-tail}
use Rattle.std.proofs.lemmas.List.Sums.{sum_by-cons, sum_by_push}
use Rattle.std.proofs.lemmas.Nat.{pow_pos}
use Rattle.std.proofs.Math.Nat.{pow-suc}
use Rattle.std.proofs.Math.Seq.{take-append_seam}
use Rattle.worker_pool.specs.declared.crew.Worker.{Worker}
use Rattle.worker_pool.specs.Crews.{shares}

-- a share for so many workers can be halved, and either half is one for one worker fewer
pub halved : {n : ℕ} (m share : ℕ) → n ≡ suc m → 2 ^ n ≤ share
    → (2 ≤ share) × (2 ^ m ≤ share / 2)
halved m share next enough =
    let twice = ap (λ k. 2 ^ k) next ∙ pow-suc 2 m in (
      omega (arith, twice, pow_pos m, enough),
      omega (arith, twice, enough),
    )

-- of a list whose items all meet P, the first does, where there is one, and the rest do
pub All-next : {X : Type 0} (P : X → Type 0) (xs ys : List X) (r : Option X)
    → xs ≡ option_to_list r ++ ys → All P xs → IfSome r P × All P ys
All-next P xs ys None is all = (tt, All-same P ys xs (sym is) all)
All-next P xs ys (Some x) is all =
    let here = All-same P (x ∷ ys) xs (sym is) all in
    (All-head P x ys here, All-tail P x ys here)

-- what a vector has after a write through a slice of all of it
pub written-back : {X : Type 0} (n : ℕ) (now old : List X) → n ≡ length now
    → take n (now ++ drop (length now) old) ≡ now
written-back n now old all =
    let rest = drop (length now) old in
    ap (λ k. take k (now ++ rest)) all ∙ take-append_seam now rest

-- one worker more
pub shares-more : {B T : Type 0} {now : List (Worker B T)} (crew : List (Worker B T))
    (worker : Worker B T) → now ≡ crew ++ worker ∷ []
    → shares now ≡ shares crew + worker.seat.share
shares-more crew worker is = ap shares is ∙ sum_by_push (λ w. w.seat.share) crew worker

-- each worker's seat has the share that it had
pub shares-kept : {B T : Type 0} (old now : List (Worker B T)) → length now ≡ length old
    → ((i : ℕ) (d : Worker B T) → i < length old
    → (slice_index_or now i d).seat.share ≡ (slice_index_or old i d).seat.share)
    → shares now ≡ shares old
shares-kept [] [] level each = refl
shares-kept [] (y ∷ ys) level each = absurd (omega (arith, level))
shares-kept (x ∷ xs) [] level each = absurd (omega (arith, level))
shares-kept (x ∷ xs) (y ∷ ys) level each =
    let first = each 0 x (omega arith) in
    let rest = shares-kept xs ys (omega (arith, level))
    (λ i d low. each (suc i) d (omega (arith, low))) in
    omega (
      arith,
      sum_by-cons (λ (w : Worker _ _). w.seat.share) x xs,
      sum_by-cons (λ (w : Worker _ _). w.seat.share) y ys,
      first,
      rest,
    )
