use Rattle.std.proofs.Common.{◌≡◌, ◌≤◌, ◌+◌, ◌*◌, ◌^◌, drop, fold}
use Rattle.dos_words.specs.Numbers.{decimal_value}
use Rattle.dos_words.proofs.Decimals.{with_digit}
use Rattle.dos_words.proofs.number.decimal_value.Given as goal

-- what is left gives the whole, and the value fits
abbrev pub invariant-loop-digit : goal.invariant-loop-digit
invariant-loop-digit l = record {
  rest : fold with_digit l.value (drop l.digit-index l.text) ≡ decimal_value l.text;
  bound : l.value + 23 ≤ 23 * 10 ^ l.digit-index;
}
