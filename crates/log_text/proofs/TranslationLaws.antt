-- The exchanges of a log, one behind the other, as a loop passes them.
use Rattle.std.proofs.Common.{◌≡◌, ◌∙◌, ◌+◌, ℕ, List, [], ◌∷◌, ◌++◌, take, Some}
use Rattle.std.proofs.Common.{refl, sym, ap}
use Rattle.std.specs.List.{slice_get, flat_map}
use Rattle.std.proofs.lemmas.List.{flat_map_more}
use Rattle.std.proofs.lemmas.List.Concat.{flat_map-cons}
use Rattle.dos_io.specs.declared.exchange.Exchange.{Exchange}
use Rattle.log_text.specs.declared.version.LogVersion.TheVariants.{One}
use Rattle.log_text.specs.Items.{kept, each_kept}
use Rattle.log_text.specs.LogText.{item_text, entry_text, entries_text}
use Rattle.log_text.proofs.PlaceLaws.{passed_more}

-- In version 1 each has its own text.
pub each_text : (es : List Exchange) → entries_text One es ≡ flat_map entry_text es
each_text [] = refl
each_text (e ∷ es) =
    flat_map-cons item_text (kept e) (each_kept es)
    ∙ ap (λ (t : List ℕ). entry_text e ++ t) (each_text es)
    ∙ sym (flat_map-cons entry_text e es)

-- a text with that of the next one
pub text_more : (out : List ℕ) (es : List Exchange) (n : ℕ) (e : Exchange)
    → slice_get es n ≡ Some e
    → (out ++ flat_map entry_text (take n es)) ++ entry_text e
    ≡ out ++ flat_map entry_text (take (n + 1) es)
text_more out es n e at =
    flat_map_more entry_text out (take n es) e
    ∙ ap (λ (xs : List Exchange). out ++ flat_map entry_text xs) (sym (passed_more es n e at))
