use Rattle.std.proofs.Common.{◌∙◌, ◌+◌, ◌*◌, ℕ, sym, ap, refl}
use Rattle.log_text.specs.declared.version.LogVersion.TheVariants.{Two}
use Rattle.log_text.proofs.LengthLaws.{header_length}
use Rattle.shim_log.proofs.LedgerLaws.{new_ledger}
use Rattle.shim_log.proofs.ledger.Ledger.new.Goals as goal

pub invariant_of-result : goal.invariant_of-result
invariant_of-result c = (
  new_ledger _ _ _ _ _ c.new.ensures (rw c.in_ok-from_slice.ensures.items c.requires.planned)
      (rw c.in_ok-from_slice.ensures.items c.requires.few) c.requires.header,
  ap (λ (n : ℕ). 20 + 32 * n) c.len.ensures.value
      ∙ sym (header_length Two c.args.header c.requires.header.digests),
  rw c.new.ensures refl,
)
