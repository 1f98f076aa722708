use Rattle.std.proofs.Common.{◌≡◌, ◌<◌, ◌≤◌, ◌-◌, ◌+◌, ◌∷◌, [], ℕ, List, suc, length, sym, ap}
use Rattle.std.proofs.Common.{subst, arith}
use Rattle.std.proofs.lemmas.Result.{err_from_is_err_and}
use Rattle.std.proofs.lemmas.List.{length-append}
use Rattle.text_fields.specs.Reading.{first_bytes}
use Rattle.text_fields.proofs.ListLoops.{HasRead, all_read, none_read, one_more, refused_there}
use Rattle.log_text.proofs.WholeLaws.{bytes_len}
use Rattle.log_text.proofs.log_reading.read_digests.Goals as goal

-- how many are left, as one of them more or as none
left_more : (count i : ℕ) → i < count → count - i ≡ suc (count - (i + 1))
left_more count i lt = omega (arith, lt)

left_none : (count i : ℕ) → count ≤ i → count - i ≡ 0
left_none count i le = omega (arith, le)

-- what was read is in front of so many that are left
abbrev Reads : (end count : ℕ) (bytes : List ℕ) (front : List (List ℕ)) (rest : List ℕ) (left : ℕ)
    → Type 0
Reads end count bytes front rest left =
    HasRead (λ (s : ℕ). first_bytes 32) (λ s x. s) end count 0 bytes front left 0 rest

pub loop-init : goal.loop-init
loop-init c =
    let whole : c.args.count ≡ c.args.count - 0 = omega arith in (
      subst (λ (front : List (List ℕ)). Reads c.args.end c.args.count c.args.bytes.now front
          c.args.bytes.now (c.args.count - 0)) (sym c.new-digests.ensures)
          (subst (Reads c.args.end c.args.count c.args.bytes.now [] c.args.bytes.now) whole
          (none_read (λ (s : ℕ). first_bytes 32) (λ s x. s) c.args.end c.args.count 0
          c.args.bytes.now)),
      ap (λ (digests : List (List ℕ)). length digests) c.new-digests.ensures,
    )

pub returns-in_err-digest : goal.returns-in_err-digest
returns-in_err-digest c =
    let p = err_from_is_err_and c.from_residual.result c.from_residual.ensures.1 in
    rw (p.1, p.2) (refused_there (λ (s : ℕ). first_bytes 32) (λ s x. s) c.args.end c.args.count 0
    c.args.bytes.now c.loop.digests (c.args.count - (c.loop.counter + 1)) 0 c.loop.rest.now
    c.in_err-digest.field-0.0
    (subst (Reads c.args.end c.args.count c.args.bytes.now c.loop.digests c.loop.rest.now)
    (left_more c.args.count c.loop.counter c.loop-test.true) c.loop.invariant.0)
    c.in_err-digest.ensures)

pub digest_of-requires : goal.digest_of-requires
digest_of-requires c = bytes_len 32 c.args.end c.loop.rest.now c.in_ok-digest.digest.now
    c.in_ok-digest.after.now c.in_ok-digest.ensures

pub loop-preserved : goal.loop-preserved
loop-preserved c = (
  rw (c.push.ensures, c.digest_of.ensures)
      (one_more (λ (s : ℕ). first_bytes 32) (λ s x. s) c.args.end c.args.count 0
      c.args.bytes.now c.loop.digests (c.args.count - (c.loop.counter + 1)) 0 c.loop.rest.now
      (c.in_ok-digest.digest.now, c.in_ok-digest.after.now)
      (subst (Reads c.args.end c.args.count c.args.bytes.now c.loop.digests c.loop.rest.now)
      (left_more c.args.count c.loop.counter c.loop-test.true) c.loop.invariant.0)
      c.in_ok-digest.ensures),
  rw c.push.ensures
      (omega (arith, length-append c.loop.digests (c.digest_of.result ∷ []), c.loop.invariant.1)),
)

pub returns : goal.returns
returns c = all_read (λ (s : ℕ). first_bytes 32) (λ s x. s) c.args.end c.args.count 0
    c.args.bytes.now c.loop.digests 0 c.loop.rest.now
    (subst (Reads c.args.end c.args.count c.args.bytes.now c.loop.digests c.loop.rest.now)
    (left_none c.args.count c.loop.counter c.loop-test.false) c.loop.invariant.0)
