use Rattle.std.proofs.Common.{◌≡◌, ◌+◌, ◌*◌, ◌++◌, take}
use Rattle.arrayvec.specs.ArrayString.{array_string_len}
use Rattle.dos_texts.specs.Lines.{digest_text}
use Rattle.dos_texts.proofs.line.push_digest.Given as goal

-- the digits of the bytes so far
abbrev pub invariant-loop-byte : goal.invariant-loop-byte
invariant-loop-byte l = record {
  bytes : l.line.bytes ≡ l.fn.line.bytes ++ digest_text (take l.byte-index l.fn.digest);
  len : array_string_len l.line ≡ array_string_len l.fn.line + 2 * l.byte-index;
}
