use Rattle.std.proofs.Common.{◌≡◌, map, take}
use Rattle.std.specs.Prelude.{string_bytes}
use Rattle.dos_words.proofs.request.Names.copy_of.Given as goal

-- those so far are copied
abbrev pub invariant-loop-text : goal.invariant-loop-text
invariant-loop-text l = map string_bytes l.names.items
    ≡ map (λ s. s.now) (take l.text-index l.texts)
