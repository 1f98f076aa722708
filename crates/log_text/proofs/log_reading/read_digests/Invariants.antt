use Rattle.std.proofs.Common.{◌≡◌, ◌-◌, ℕ, length}
use Rattle.text_fields.specs.Reading.{first_bytes}
use Rattle.text_fields.proofs.ListLoops.{HasRead}
use Rattle.log_text.proofs.log_reading.read_digests.Given as goal

abbrev pub invariant-loop : goal.invariant-loop
invariant-loop l =
    HasRead (λ (s : ℕ). first_bytes 32) (λ s x. s) l.end l.count 0 l.bytes l.digests
    (l.count - l.counter) 0 l.rest × (length l.digests ≡ l.counter)
