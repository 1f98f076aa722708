use Rattle.std.proofs.Common.{◌≡◌, map, take, true}
use Rattle.std.specs.Prelude.{string_bytes}
use Rattle.std.specs.List.{list_all}
use Rattle.dos_words.specs.Canonical.{is_plain}
use Rattle.dos_words.proofs.names.are_names.Given as goal

-- those so far may be names
abbrev pub invariant-loop-word : goal.invariant-loop-word
invariant-loop-word l = list_all is_plain (map string_bytes (take l.word-index l.words)) ≡ true
