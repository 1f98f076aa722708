-- Resumptions are read back.
use Rattle.std.proofs.Common.{◌≡◌, ◌+◌, ◌*◌, ◌/◌, ◌%◌, ◌<◌, ℕ, List, [], ◌∷◌, ◌++◌}
use Rattle.std.proofs.Common.{Some, None, arith, refl, ap, ◌∙◌, append-nil, option_map}
use Rattle.std.specs.List.{AllByRecursion}
use Rattle.gdb_packets.specs.Hexadecimal.{◌>>=◌, nibble_of, nibble_text, nibbles_behind}
use Rattle.gdb_packets.specs.Hexadecimal.{byte_digits, number_digits}
use Rattle.gdb_packets.specs.Around.{between_marks}
use Rattle.gdb_packets.specs.Ids.{which_text, id_text}
use Rattle.gdb_packets.specs.Resumptions.{range_in, action_from, action_text}
use Rattle.gdb_packets.specs.Resumptions.{resumption_in, resumption_from, resumption_text}
use Rattle.gdb_packets.specs.Resumptions.{resumptions_in, resumptions_from, resumptions_text}
use Rattle.gdb_packets.specs.ReadBack.{AreReadBack, IsResumedAction, IsResumption, AreResumptions}
use Rattle.gdb_packets.specs.declared.ids.ThreadId.{ThreadId}
use Rattle.gdb_packets.specs.declared.ids.ThreadId.TheVariants.{Both, ProcessAlone, ThreadAlone}
use Rattle.gdb_packets.specs.declared.resumptions.Action.{Action}
use Rattle.gdb_packets.specs.declared.resumptions.Action.TheVariants.{Continue, ContinueSignal}
use Rattle.gdb_packets.specs.declared.resumptions.Action.TheVariants.{Step, StepSignal, Range}
use Rattle.gdb_packets.specs.declared.resumptions.Resumption.{Resumption}
use Rattle.gdb_packets.proofs.Parts.{one_part, first_of_parts}
use Rattle.gdb_packets.proofs.ReadBackLaws.{nibble_again, number_again, number_apart, id_again}
use Rattle.gdb_packets.proofs.ReadBackLaws.{IsApart, apart_both, digit_apart, which_apart}
use Rattle.gdb_packets.proofs.ReadBackLaws.{around_apart, around_again}

-- ---- actions

value_again : (b : ℕ) → b < 256 → nibbles_behind 0 (byte_digits b) ≡ Some b
value_again b h =
    let high : nibble_of (nibble_text (b / 16)) ≡ Some (b / 16) =
    nibble_again (b / 16) (omega arith) in
    let low : nibble_of (nibble_text (b % 16)) ≡ Some (b % 16) =
    nibble_again (b % 16) (omega arith) in
    let same : (0 * 16 + b / 16) * 16 + b % 16 ≡ b = omega arith in
    rw (high, low) (ap Some same)

range_again : (low high : ℕ) → IsResumedAction (Range low high)
    → action_from (action_text (Range low high)) ≡ Some (Range low high)
range_again low high h =
    ap (λ o. o >>= range_in)
    (around_again 44 (number_digits low) (number_digits high) (number_apart 44 low refl))
    ∙ rw (number_again low h.0, number_again high h.1) refl

action_again : (a : Action) → IsResumedAction a → action_from (action_text a) ≡ Some a
action_again Continue h = refl
action_again (ContinueSignal signal) h =
    ap (λ o. option_map ContinueSignal o) (value_again signal h)
action_again Step h = refl
action_again (StepSignal signal) h = ap (λ o. option_map StepSignal o) (value_again signal h)
action_again (Range low high) h = range_again low high h

-- ---- texts without a mark

byte_apart : (mark b : ℕ) → nibble_of mark ≡ None → b < 256 → IsApart mark (byte_digits b)
byte_apart mark b none h = (
  digit_apart mark (b / 16) none (omega arith),
  (digit_apart mark (b % 16) none (omega arith), tt),
)

-- the mark is no letter of an action, and no comma
abbrev NoActionByte : ℕ → Type 0
NoActionByte mark = IsApart mark (99 ∷ 67 ∷ 115 ∷ 83 ∷ 114 ∷ 44 ∷ [])

action_apart : (mark : ℕ) (a : Action) → nibble_of mark ≡ None → NoActionByte mark
    → IsResumedAction a → IsApart mark (action_text a)
action_apart mark Continue none no_byte h = (no_byte.0, tt)
action_apart mark (ContinueSignal signal) none no_byte h =
    (no_byte.1.0, byte_apart mark signal none h)
action_apart mark Step none no_byte h = (no_byte.1.1.0, tt)
action_apart mark (StepSignal signal) none no_byte h =
    (no_byte.1.1.1.0, byte_apart mark signal none h)
action_apart mark (Range low high) none no_byte h = (
  no_byte.1.1.1.1.0,
  apart_both mark (number_digits low) (44 ∷ number_digits high)
      (number_apart mark low none) (no_byte.1.1.1.1.1.0, number_apart mark high none),
)

id_apart : (mark : ℕ) (id : ThreadId) → nibble_of mark ≡ None
    → IsApart mark (45 ∷ 112 ∷ 46 ∷ []) → IsApart mark (id_text id)
id_apart mark (Both process thread) none no_byte = (
  no_byte.1.0,
  apart_both mark (which_text process) (46 ∷ which_text thread)
      (which_apart mark process none no_byte.0)
      (no_byte.1.1.0, which_apart mark thread none no_byte.0),
)
id_apart mark (ProcessAlone process) none no_byte =
    (no_byte.1.0, which_apart mark process none no_byte.0)
id_apart mark (ThreadAlone thread) none no_byte = which_apart mark thread none no_byte.0

-- ---- resumptions

resumption_again : (r : Resumption) → IsResumption r → resumption_from (resumption_text r) ≡ Some r
resumption_again r h =
    ap (λ o. resumption_in o (resumption_text r))
    (around_again 58 (action_text r.action) (id_text r.threads) (action_apart 58 r.action refl
    (refl, (refl, (refl, (refl, (refl, (refl, tt)))))) h.0))
    ∙ rw (action_again r.action h.0, id_again r.threads h.1) refl

resumption_apart : (r : Resumption) → IsResumption r → IsApart 59 (resumption_text r)
resumption_apart r h =
    apart_both 59 (action_text r.action) (58 ∷ id_text r.threads)
    (action_apart 59 r.action refl (refl, (refl, (refl, (refl, (refl, (refl, tt)))))) h.0)
    (refl, id_apart 59 r.threads refl (refl, (refl, (refl, tt))))

parts_again : (r : Resumption) (rs : List Resumption) → IsResumption r
    → AllByRecursion IsResumption rs
    → resumptions_in (between_marks 59 (resumption_text r ++ resumptions_text rs))
    ≡ Some (r ∷ rs)
parts_again r [] h k =
    ap (λ v. resumptions_in (between_marks 59 v)) (append-nil (resumption_text r))
    ∙ ap resumptions_in (one_part 59 (resumption_text r)
    (around_apart 59 (resumption_text r) (resumption_apart r h)))
    ∙ rw (resumption_again r h) refl
parts_again r (q ∷ qs) h k =
    ap resumptions_in (first_of_parts 59 (resumption_text r ++ resumptions_text (q ∷ qs))
    (resumption_text r) (resumption_text q ++ resumptions_text qs)
    (around_again 59 (resumption_text r) (resumption_text q ++ resumptions_text qs)
    (resumption_apart r h)))
    ∙ rw (resumption_again r h, parts_again q qs k.0 k.1) refl

pub resumptions_again : AreReadBack AreResumptions resumptions_text resumptions_from
resumptions_again [] h = absurd (omega (arith, h.0))
resumptions_again (r ∷ rs) h = parts_again r rs h.1.0 h.1.1
