-- Entries that are kept as their text.
use Rattle.std.proofs.Common.{◌≡◌, ℕ, zero, suc, ◌<◌, ◌≤◌, List, [], ◌∷◌, ◌++◌, length, refl}
use Rattle.std.proofs.Common.{sym, ap, subst, ◌∙◌, arith}
use Rattle.std.specs.List.{AllByRecursion}
use Rattle.std.proofs.lemmas.List.{length-append}
use Rattle.std.proofs.lemmas.List.Concat.{flat_map-cons}
use Rattle.dos_io.specs.declared.exchange.Exchange.TheVariants.{Signals, Input, Clock, End}
use Rattle.log_text.specs.declared.version.LogVersion.{LogVersion}
use Rattle.log_text.specs.declared.progress.Progress.{Progress}
use Rattle.log_text.specs.Items.{Item, quiet, kept, exchanges_of_items}
use Rattle.log_text.specs.LogText.{item_text, items_text, entries_text}
use Rattle.log_text.specs.Ranges.{AreEntries, most_exchanges}
use Rattle.log_text.specs.Reading.{item_at, after_item, nothing_read}
use Rattle.log_text.specs.Spelling.{AreSpelled}
use Rattle.log_text.specs.EntriesText.{items_within, items_in_text, entries_in_text, IsEntriesText}
use Rattle.log_text.proofs.ItemReading.{item_again, fits_comes}
use Rattle.log_text.proofs.SpellingLaws.{spelled_again, spelled_few, spelled_fits}

-- an entry has a byte at least
pub one_byte : (item : Item) → 0 < length (item_text item)
one_byte (quiet round count) = omega arith
one_byte (kept (Signals round list)) = omega arith
one_byte (kept (Input round tid max bytes)) = omega arith
one_byte (kept (Clock round tid n)) = omega arith
one_byte (kept (End ending rounds)) = omega arith

pub items_short : (items : List Item) → length items ≤ length (items_text items)
items_short [] = omega arith
items_short (item ∷ items) =
    rw (flat_map-cons item_text item items, length-append (item_text item) (items_text items))
    (omega (arith, one_byte item, items_short items))

within_again : (v : LogVersion) (n : ℕ) (p : Progress) (items : List Item) → length items ≤ n
    → AreSpelled v p items → items_within v n p (items_text items) ≡ items
unfolding items_within item_at
within_again v zero p [] le spelled = refl
within_again v zero p (item ∷ items) le spelled = absurd (omega arith)
within_again v (suc n) p [] le spelled = refl
within_again v (suc n) p (item ∷ items) le spelled =
    ap (items_within v (suc n) p) (flat_map-cons item_text item items)
    ∙ rw (item_again v p 0 item (items_text items) (fits_comes v p item spelled.0))
    (ap (λ (xs : List Item). item ∷ xs)
    (within_again v n (after_item p item) items (omega arith) spelled.1))

-- the entries of a text are those that it spells
pub text_again : (v : LogVersion) (items : List Item) → AreSpelled v nothing_read items
    → items_in_text v (items_text items) ≡ items
unfolding items_in_text
text_again v items spelled =
    within_again v (length (items_text items)) nothing_read items (items_short items) spelled

pub text_spells : (v : LogVersion) (text : List ℕ) (items : List Item)
    → text ≡ items_text items → AreSpelled v nothing_read items → items_in_text v text ≡ items
text_spells v text items is spelled = ap (items_in_text v) is ∙ text_again v items spelled

-- such a text, with what it shows
pub text_kept : (v : LogVersion) (text : List ℕ) (items : List Item) (count : ℕ)
    → text ≡ items_text items → AreSpelled v nothing_read items
    → count ≡ length (exchanges_of_items items) → IsEntriesText v text count
text_kept v text items count is spelled count_is =
    let shows : items_in_text v text ≡ items = text_spells v text items is spelled in
    record {
      text_is = is ∙ ap items_text (sym shows);
      spelled = subst (AreSpelled v nothing_read) (sym shows) spelled;
      count_is = count_is ∙ ap (λ (xs : List Item). length (exchanges_of_items xs)) (sym shows);
    }

-- the text of what entries stand for is theirs
pub spelled_text : (v : LogVersion) (items : List Item) → AreSpelled v nothing_read items
    → entries_text v (exchanges_of_items items) ≡ items_text items
spelled_text v items spelled = ap items_text (spelled_again v nothing_read items spelled)

pub kept_text : (v : LogVersion) (text : List ℕ) (count : ℕ) → IsEntriesText v text count
    → text ≡ entries_text v (entries_in_text v text)
kept_text v text count is =
    is.text_is ∙ sym (spelled_text v (items_in_text v text) is.spelled)

pub kept_fits : (v : LogVersion) (text : List ℕ) (count : ℕ) → IsEntriesText v text count
    → AreEntries (entries_in_text v text)
kept_fits v text count is = spelled_fits v nothing_read (items_in_text v text) is.spelled

pub kept_few : (v : LogVersion) (text : List ℕ) (count : ℕ) → IsEntriesText v text count
    → count ≤ most_exchanges
kept_few v text count is =
    omega (
      arith,
      is.count_is,
      spelled_few v nothing_read (items_in_text v text) is.spelled (omega arith),
    )

pub all_push : {X : Type 0} (P : X → Type 0) (xs : List X) (x : X) → AllByRecursion P xs → P x
    → AllByRecursion P (xs ++ x ∷ [])
all_push P [] x h p = (p, tt)
all_push P (y ∷ ys) x h p = (h.0, all_push P ys x h.1 p)
