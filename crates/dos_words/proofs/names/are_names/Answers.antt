use Rattle.std.proofs.Common.{sym, ap, ◌∙◌, string_bytes}
use Rattle.std.proofs.lemmas.List.Folds.{list_all-map, list_all_at}
use Rattle.dos_words.specs.Canonical.{is_plain}
use Rattle.dos_words.proofs.names.are_names.Goals as goal

pub returns-then-not-is_name : goal.returns-then-not-is_name
returns-then-not-is_name c =
    let fails = ap is_plain (ap string_bytes (sym c.word-item.is) ∙ sym c.as_str.ensures.value)
    ∙ sym c.is_name.ensures ∙ c.if-not-is_name.true in
    sym (list_all-map is_plain string_bytes c.args.words.now
    ∙ list_all_at (λ word. is_plain (string_bytes word)) c.args.words.now
    c.loop-word.word-index c.word-item.result c.loop-word-test.true fails)
