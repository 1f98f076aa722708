use Rattle.std.proofs.Common.{◌≡◌, ℕ, List, length, ◌∙◌, sym, ap, arith}
use Rattle.std.specs.Prelude.{slice_get}
use Rattle.std.specs.List.{insert}
use Rattle.debug_session.specs.Homes.{is_some_number}
use Rattle.debug_client.specs.Numbers.{place_for}
use Rattle.debug_client.proofs.Placed.{place_within, put_same, put_new}
use Rattle.debug_client.proofs.numbers.put_number.Goals as goal

pub returns-then-stands_at : goal.returns-then-stands_at
returns-then-stands_at c =
    let n = c.args.number in
    let xs : List ℕ = c.args.numbers.now.items in
    let place : c.place_for-place.result ≡ place_for n xs =
    c.place_for-place.ensures ∙ ap (place_for n) c.deref.ensures.value in
    sym (put_same n xs (
    ap (λ i. is_some_number n (slice_get xs i)) (sym place)
    ∙ ap (λ (l : List ℕ). is_some_number n (slice_get l c.place_for-place.result))
    (sym c.deref-2.ensures.value)
    ∙ sym c.stands_at.ensures ∙ c.if-stands_at.true
    ))

pub insert-requires : goal.insert-requires
insert-requires c =
    let n = c.args.number in
    let xs : List ℕ = c.args.numbers.now.items in
    let place : c.place_for-place.result ≡ place_for n xs =
    c.place_for-place.ensures ∙ ap (place_for n) c.deref.ensures.value in
    let many : length xs ≡ length c.deref-2.result.now = ap length (sym c.deref-2.ensures.value) in
    omega (arith, place_within n xs, place, many, c.deref-2.ensures.len)

pub returns : goal.returns
returns c =
    let n = c.args.number in
    let xs : List ℕ = c.args.numbers.now.items in
    let place : c.place_for-place.result ≡ place_for n xs =
    c.place_for-place.ensures ∙ ap (place_for n) c.deref.ensures.value in
    c.in_ok-insert.ensures.items ∙ ap (λ i. insert xs i n) place
    ∙ sym (put_new n xs (
    ap (λ i. is_some_number n (slice_get xs i)) (sym place)
    ∙ ap (λ (l : List ℕ). is_some_number n (slice_get l c.place_for-place.result))
    (sym c.deref-2.ensures.value)
    ∙ sym c.stands_at.ensures ∙ c.if-stands_at.false
    ))
